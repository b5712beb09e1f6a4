-- Each lexeme of the canonical tokens can be spelled, where those of the tokens that were read can.
use Rattle.std.proofs.Common.{◌≢◌, ℕ, suc, append-nil, ◌≤◌, ◌^◌, Bool, true, false, List, [], ◌∷◌, ◌++◌, Option, Some, None, sym, subst, IsTrue, if◌then◌else◌}
use Rattle.std.specs.Prelude.{nat_le, map}
use Rattle.std.specs.List.{list_all}
use Rattle.zir_tree.specs.declared.place.Place.{Place}
use Rattle.zir_tree.specs.declared.ident.Ident.{Ident}
use Rattle.zir_tree.specs.declared.types.Base.TheVariants as base
use Rattle.zir_tree.specs.declared.types.TypeExpr.{TypeExpr}
use Rattle.zir_tree.specs.declared.types.Field.{Field}
use Rattle.zir_tree.specs.declared.expr.Operator.{Operator}
use Rattle.zir_tree.specs.declared.expr.Callee.TheVariants as callee
use Rattle.zir_tree.specs.declared.expr.Expr.{Expr}
use Rattle.zir_tree.specs.declared.expr.Expr as expr
use Rattle.zir_tree.specs.declared.stmt.Var.{Var}
use Rattle.zir_tree.specs.declared.stmt.Access.{Access}
use Rattle.zir_tree.specs.declared.stmt.Access.TheVariants as access
use Rattle.zir_tree.specs.declared.stmt.Stmt.{Stmt}
use Rattle.zir_tree.specs.declared.stmt.Body.{Body}
use Rattle.zir_tree.specs.declared.comp.Turning.TheVariants as turning
use Rattle.zir_tree.specs.declared.comp.Link.{Link}
use Rattle.zir_tree.specs.declared.comp.Comp.{Comp}
use Rattle.zir_tree.specs.declared.comp.Comp as comp
use Rattle.zir_tree.specs.declared.comp.Member.{Member}
use Rattle.zir_tree.specs.declared.comp.Member as member
use Rattle.zir_tree.specs.declared.program.Decl.{Decl}
use Rattle.zir_tree.specs.declared.program.Prog.{Prog}
use Rattle.zir_lex.specs.Classes.{is_string_byte}
use Rattle.zir_lex.specs.Tables.{keyword_bytes}
use Rattle.zir_lex.specs.Spelling.{IsWord}
use Rattle.zir_lex.specs.declared.token.Token.{Token}
use Rattle.zir_lex.specs.declared.token.Lexeme.{Lexeme}
use Rattle.zir_lex.specs.declared.token.Lexeme.TheVariants as lexeme
use Rattle.zir_lex.specs.declared.token.Keyword.{Keyword}
use Rattle.zir_lex.specs.declared.token.Keyword.TheVariants as keyword
use Rattle.zir_lex.specs.declared.token.Symbol.{Symbol}
use Rattle.zir_lex.specs.declared.token.Symbol.TheVariants as symbol
use Rattle.zir_grammar.specs.Grammar.{word, sign, name, ident, symbol_of, rank, link_symbol, link_rank, IsType, type_word, type_name, type_array, IsField, typed_name, IsMoreFields, last_field, more_fields, IsParams, no_params, params, IsBinary, unary, operands, IsOperands, no_operand, operand, IsUnary, prefixed, primary, IsPosts, no_post, index, slice, part, IsPrimary, number, bit_value, true_value, false_value, unit_value, variable, call, enclosed as enclosed_expr, array, convert, complex, IsArgs, no_args, args, IsMoreExprs, last_expr, more_exprs, IsVar, var_alone, var_set, IsBounds, bounds, IsTarget, target, target_index, target_slice, target_part, IsStmt, declares, assigns, calls, errors, tests, chooses, turns, counts, IsStmts, stmts, IsMoreStmts, no_stmt, last_stmt, more_stmts, plain_body, result_body, IsMoreBody, no_more, ends, goes_on, returns, returns_stopped, IsBody, body, IsAtom, take_atom, takes_atom, emit_atom, emits_atom, return_atom, do_atom, repeat_atom, hinted_atom, while_atom, until_atom, times_atom, for_atom, if_atom, map_atom, filter_atom, call_atom, block_atom, enclosed_atom, IsChain, atom, links, IsLinks, no_link, join, IsBlock, block, IsMembers, binds, member_var, member_runs, last_member, last_stopped, IsResult, no_result, result, IsDecl, declares_var, declares_struct, declares_function, declares_comp, IsDecls, no_decl, more_decls, IsProg, program}
use Rattle.zir_print.specs.Marks.{nowhere, mark, link_word, parted, behind_each, enclosed, braced, held}
use Rattle.zir_print.specs.Types.{keyword_of, word_if, inner_words, dimension_words, type_words, field_words}
use Rattle.zir_print.specs.Expressions.{kind, bracket_end, bracket_words, called_words, expr_words}
use Rattle.zir_print.specs.Statements.{var_words, access_words, path_words, bounds_words, list_words, stmt_words, body_words}
use Rattle.zir_print.specs.Components.{comp_kind, comp_words, member_words}
use Rattle.zir_print.specs.Canonical.{params_words, gives_words, decl_words, stream_words, main_words}
use Rattle.zir_print.proofs.ExprLaw.{words_unary, words_binary, words_index, words_slice, words_part, words_convert, words_complex, words_call, words_array}
use Rattle.zir_print.proofs.StmtLaw.{words_if, words_if_else, words_while, words_for}
use Rattle.zir_print.proofs.CompLaw as comp_law

-- some text spells the lexeme
abbrev pub Spellable : Lexeme → Type 0
Spellable (lexeme.Name x) = IsWord x × ((w : Keyword) → keyword_bytes w ≢ x)
Spellable (lexeme.Keyword w) = Unit {0}
Spellable (lexeme.Int n) = n ≤ 2 ^ 63
Spellable (lexeme.Bit b) = Unit {0}
Spellable (lexeme.Text s) = IsTrue (list_all is_string_byte s)
Spellable (lexeme.Symbol s) = Unit {0}

-- some text spells each of these tokens
abbrev pub AllSpellable : List Token → Type 0
AllSpellable [] = Unit {0}
AllSpellable (t ∷ ts) = Spellable t.lexeme × AllSpellable ts

-- the canonical tokens of a form, and the tokens behind it
pub record Both (ws rest : List Token) : Type 0 where
  pub words : AllSpellable ws
  pub left : AllSpellable rest

-- the canonical tokens of each of a list
abbrev pub AllOf : {A : Type 0} → (A → List Token) → List A → Type 0
AllOf f [] = Unit {0}
AllOf f (x ∷ xs) = AllSpellable (f x) × AllOf f xs

-- the canonical tokens of each of a list, and the tokens behind it
pub record EachOf {A : Type 0} (f : A → List Token) (xs : List A) (rest : List Token) : Type 0 where
  pub words : AllOf f xs
  pub left : AllSpellable rest

pub all_append : (ts us : List Token) → AllSpellable ts → AllSpellable us → AllSpellable (ts ++ us)
all_append [] us all more = more
all_append (t ∷ ts) us all more = (all.0, all_append ts us all.1 more)

snoc : {A : Type 0} (f : A → List Token) (xs : List A) (x : A) → AllOf f xs → AllSpellable (f x) → AllOf f (xs ++ x ∷ [])
snoc f [] x all one = (one, tt)
snoc f (y ∷ xs) x all one = (all.0, snoc f xs x all.1 one)

-- each of some lists of tokens
abbrev AllParts : List (List Token) → Type 0
AllParts [] = Unit {0}
AllParts (ws ∷ parts) = AllSpellable ws × AllParts parts

parts_of : {A : Type 0} (f : A → List Token) (xs : List A) (more : List (List Token)) → AllOf f xs → AllParts more → AllParts (map f xs ++ more)
parts_of f [] more all rest = rest
parts_of f (x ∷ xs) more all rest = (all.0, parts_of f xs more all.1 rest)

behind_all : (s : Symbol) (parts : List (List Token)) → AllParts parts → AllSpellable (behind_each (mark s) parts)
behind_all s [] all = tt
behind_all s (ws ∷ parts) all = (tt, all_append ws (behind_each (mark s) parts) all.0 (behind_all s parts all.1))

parted_parts : (s : Symbol) (parts : List (List Token)) → AllParts parts → AllSpellable (parted (mark s) parts)
parted_parts s [] all = tt
parted_parts s (ws ∷ parts) all = all_append ws (behind_each (mark s) parts) all.0 (behind_all s parts all.1)

parted_all : {A : Type 0} (f : A → List Token) (s : Symbol) (xs : List A) → AllOf f xs → AllSpellable (parted (mark s) (map f xs))
parted_all f s xs all = subst (λ parts. AllSpellable (parted (mark s) parts)) (append-nil (map f xs)) (parted_parts s (map f xs ++ []) (parts_of f xs [] all tt))

enclosed_all : (ws : List Token) → AllSpellable ws → AllSpellable (enclosed ws)
enclosed_all ws all = (tt, all_append ws (mark symbol.RightParenthesis ∷ []) all (tt, tt))

braced_all : (p : Place) (ws : List Token) → AllSpellable ws → AllSpellable (braced p ws)
braced_all p ws all = (tt, all_append ws (mark symbol.RightBrace ∷ []) all (tt, tt))

either : (b : Bool) (ws : List Token) → AllSpellable ws → AllSpellable (if b then ws else enclosed ws)
either true ws all = all
either false ws all = enclosed_all ws all

held_all : (limit n : ℕ) (ws : List Token) → AllSpellable ws → AllSpellable (held limit n ws)
held_all limit n ws all = either (nat_le n limit) ws all

list_all_words : {A : Type 0} (f : A → List Token) (xs : List A) → AllOf f xs → AllSpellable (list_words (map f xs))
list_all_words f xs all = braced_all nowhere (parted (mark symbol.Semicolon) (map f xs)) (parted_all f symbol.Semicolon xs all)

-- ---- types and fields

word_if_all : (k : Option Keyword) (p : Place) → AllSpellable (word_if k p)
word_if_all None p = tt
word_if_all (Some w) p = (tt, tt)

-- the canonical tokens of a type, wherever its first stands, and the tokens behind it
record TypeBoth (t : TypeExpr) (rest : List Token) : Type 0 where
  words : (p : Place) → AllSpellable (dimension_words t.dimensions ++ inner_words t.name t.base p)
  left : AllSpellable rest

type_all : {t : TypeExpr} {ts rest : List Token} → IsType t ts rest → AllSpellable ts → TypeBoth t rest
type_all (type_word {b = b} is) all = record { words = λ p. word_if_all (keyword_of b) p; left = all.1 }
type_all type_name all = record { words = λ p. (all.0, tt); left = all.1 }
type_all (type_array x) all = let y = type_all x all.1.1.1.1 in record { words = λ p. (tt, (tt, (all.1.1.0, (tt, y.words p)))); left = y.left }

field_all : {f : Field} {ts rest : List Token} → IsField f ts rest → AllSpellable ts → Both (field_words f) rest
field_all (typed_name {t = t} x) all = let y = type_all x all.1.1 in record { words = (all.0, (tt, y.words t.at)); left = y.left }

fields_all : {between closing : Symbol} {done fs : List Field} {ts rest : List Token} → IsMoreFields between closing done fs ts rest → AllOf field_words done → AllSpellable ts → EachOf field_words fs rest
fields_all last_field done all = record { words = done; left = all.1 }
fields_all (more_fields {done = before} {f = f} x more) done all = let y = field_all x all.1 in fields_all more (snoc field_words before f done y.words) y.left

params_each : {fs : List Field} {ts rest : List Token} → IsParams fs ts rest → AllSpellable ts → EachOf field_words fs rest
params_each no_params all = record { words = tt; left = all.1 }
params_each (params x more) all = let y = field_all x all in fields_all more (y.words, tt) y.left

params_all : (fs : List Field) → AllOf field_words fs → AllSpellable (params_words fs)
params_all fs all = enclosed_all (parted (mark symbol.Comma) (map field_words fs)) (parted_all field_words symbol.Comma fs all)

-- ---- expressions

bracket_all : (p : Place) (i : Expr) (k : Option ℕ) → AllSpellable (expr_words i) → AllSpellable (bracket_end k) → AllSpellable (bracket_words p (expr_words i) k)
bracket_all p i k all end = (tt, all_append (expr_words i) (bracket_end k) all end)

calls_all : (x : List ℕ) (p : Place) (es : List Expr) → Spellable (lexeme.Name x) → AllOf expr_words es → AllSpellable (called_words (ident x p) es)
calls_all x p es called all = (called, enclosed_all (parted (mark symbol.Comma) (map expr_words es)) (parted_all expr_words symbol.Comma es all))

binary_words : (op : Operator) (a b : Expr) (p : Place) → AllSpellable (expr_words a) → AllSpellable (expr_words b) → AllSpellable (expr_words (expr.Binary op base.Unit a b p))
binary_words op a b p left right =
    subst AllSpellable (sym (words_binary op base.Unit a b p))
    (all_append (held (suc (suc (rank op))) (kind a) (expr_words a)) (sign (symbol_of op) p ∷ held (suc (rank op)) (kind b) (expr_words b)) (held_all (suc (suc (rank op))) (kind a) (expr_words a) left) (tt, held_all (suc (rank op)) (kind b) (expr_words b) right))

post_words : (a : Expr) (ws : List Token) → AllSpellable (expr_words a) → AllSpellable ws → AllSpellable (held 0 (kind a) (expr_words a) ++ ws)
post_words a ws all more = all_append (held 0 (kind a) (expr_words a)) ws (held_all 0 (kind a) (expr_words a) all) more

mutual
  binary : {n : ℕ} {e : Expr} {h : ℕ} {ts rest : List Token} → IsBinary n e h ts rest → AllSpellable ts → Both (expr_words e) rest
  binary (unary x) all = unaries x all
  binary (operands x more) all = let y = binary x all in joined more y.words y.left

  joined : {n low h : ℕ} {left e : Expr} {ts rest : List Token} → IsOperands n left low e h ts rest → AllSpellable (expr_words left) → AllSpellable ts → Both (expr_words e) rest
  joined no_operand first all = record { words = first; left = all }
  joined (operand {left = a} {right = b} {at = p} op is x more) first all = let y = binary x all.1 in joined more (binary_words op a b p first y.words) y.left

  unaries : {e : Expr} {h : ℕ} {ts rest : List Token} → IsUnary e h ts rest → AllSpellable ts → Both (expr_words e) rest
  unaries (prefixed {e = a} {at = p} op x) all =
      let y = unaries x all.1 in
      record { words = subst AllSpellable (sym (words_unary op base.Unit a p)) (all.0, held_all 1 (kind a) (expr_words a) y.words); left = y.left }
  unaries (primary x more) all = let y = primaries x all in posts more y.words y.left

  posts : {of e : Expr} {low h : ℕ} {ts rest : List Token} → IsPosts of low e h ts rest → AllSpellable (expr_words of) → AllSpellable ts → Both (expr_words e) rest
  posts no_post first all = record { words = first; left = all }
  posts (index {of = a} {i = i} {at = p} x more) first all =
      let y = binary x all.1 in
      posts more (subst AllSpellable (sym (words_index a i p)) (post_words a (bracket_words p (expr_words i) None) first (bracket_all p i None y.words (tt, tt)))) y.left.1
  posts (slice {n = k} {of = a} {i = i} {at = p} x more) first all =
      let y = binary x all.1 in
      posts more (subst AllSpellable (sym (words_slice a i k p)) (post_words a (bracket_words p (expr_words i) (Some k)) first (bracket_all p i (Some k) y.words (tt, (y.left.1.0, (tt, tt)))))) y.left.1.1.1
  posts (part {of = a} {x = x} {at = p} more) first all =
      posts more (subst AllSpellable (sym (words_part a x 0 p)) (post_words a (sign symbol.Dot p ∷ name x nowhere ∷ []) first (tt, (all.1.0, tt)))) all.1.1

  primaries : {e : Expr} {h : ℕ} {ts rest : List Token} → IsPrimary e h ts rest → AllSpellable ts → Both (expr_words e) rest
  primaries number all = record { words = (all.0, tt); left = all.1 }
  primaries bit_value all = record { words = (tt, tt); left = all.1 }
  primaries true_value all = record { words = (tt, tt); left = all.1 }
  primaries false_value all = record { words = (tt, tt); left = all.1 }
  primaries unit_value all = record { words = (tt, (tt, tt)); left = all.1.1 }
  primaries variable all = record { words = (all.0, tt); left = all.1 }
  primaries (call {x = x} {es = es} {at = p} more) all =
      let y = arguments more all.1.1 in
      record { words = subst AllSpellable (sym (words_call (ident x p) (callee.Function 0) es)) (calls_all x p es all.0 y.words); left = y.left }
  primaries (enclosed_expr x) all = let y = binary x all.1 in record { words = y.words; left = y.left.1 }
  primaries (array {es = es} {at = p} x more) all =
      let y = binary x all.1 in
      let z = more_arguments more (y.words, tt) y.left in
      record { words = subst AllSpellable (sym (words_array es p)) (braced_all p (parted (mark symbol.Comma) (map expr_words es)) (parted_all expr_words symbol.Comma es z.words)); left = z.left }
  primaries (convert {b = b} {e = a} {at = p} is x) all =
      let y = binary x all.1.1 in
      record {
        words = subst AllSpellable (sym (words_convert b a p)) (all_append (word_if (keyword_of b) p) (enclosed (expr_words a)) (word_if_all (keyword_of b) p) (enclosed_all (expr_words a) y.words));
        left = y.left.1;
      }
  primaries (complex {b = b} {re = re} {im = im} {at = p} is x more) all =
      let y = binary x all.1.1 in
      let z = binary more y.left.1 in
      let both : AllSpellable (expr_words re ++ mark symbol.Comma ∷ expr_words im) = all_append (expr_words re) (mark symbol.Comma ∷ expr_words im) y.words (tt, z.words) in
      record {
        words =
            subst AllSpellable (sym (words_complex b re im p))
            (all_append (word_if (keyword_of b) p) (enclosed (expr_words re ++ mark symbol.Comma ∷ expr_words im)) (word_if_all (keyword_of b) p) (enclosed_all (expr_words re ++ mark symbol.Comma ∷ expr_words im) both));
        left = z.left.1;
      }

  arguments : {es : List Expr} {h : ℕ} {ts rest : List Token} → IsArgs es h ts rest → AllSpellable ts → EachOf expr_words es rest
  arguments no_args all = record { words = tt; left = all.1 }
  arguments (args x more) all = let y = binary x all in more_arguments more (y.words, tt) y.left

  more_arguments : {closing : Symbol} {done es : List Expr} {low h : ℕ} {ts rest : List Token} → IsMoreExprs closing done low es h ts rest → AllOf expr_words done → AllSpellable ts → EachOf expr_words es rest
  more_arguments last_expr done all = record { words = done; left = all.1 }
  more_arguments (more_exprs {done = before} {e = e} x more) done all = let y = binary x all.1 in more_arguments more (snoc expr_words before e done y.words) y.left

-- ---- variables, paths and bounds

var_all : {v : Var} {h : ℕ} {ts rest : List Token} → IsVar v h ts rest → AllSpellable ts → Both (var_words v) rest
var_all (var_alone {f = f} x) all =
    let y = field_all x all.1 in
    record { words = (tt, (y.words.0, (tt, all_append (type_words f.ty) [] y.words.1.1 tt))); left = y.left }
var_all (var_set {f = f} {e = e} x b) all =
    let y = field_all x all.1 in
    let z = binary b y.left.1 in
    record { words = (tt, (y.words.0, (tt, all_append (type_words f.ty) (mark symbol.Assign ∷ expr_words e) y.words.1.1 (tt, z.words)))); left = z.left }

path_all : {done path : List Access} {low h : ℕ} {ts rest : List Token} → IsTarget done low path h ts rest → AllOf access_words done → AllSpellable ts → EachOf access_words path rest
path_all target done all = record { words = done; left = all.1 }
path_all (target_index {done = before} {i = i} {at = p} x more) done all =
    let y = binary x all.1 in path_all more (snoc access_words before (access.Index i p) done (bracket_all p i None y.words (tt, tt))) y.left.1
path_all (target_slice {done = before} {i = i} {n = k} {at = p} x more) done all =
    let y = binary x all.1 in path_all more (snoc access_words before (access.Slice i k p) done (bracket_all p i (Some k) y.words (tt, (y.left.1.0, (tt, tt))))) y.left.1.1.1
path_all (target_part {done = before} {x = x} {at = p} more) done all = path_all more (snoc access_words before (access.Part x 0 p) done (tt, (all.1.0, tt))) all.1.1

path_words_all : (path : List Access) → AllOf access_words path → AllSpellable (path_words path)
path_words_all [] all = tt
path_words_all (a ∷ path) all = all_append (access_words a) (path_words path) all.0 (path_words_all path all.1)

bounds_all : {x : Ident} {from count : Expr} {h : ℕ} {ts rest : List Token} → IsBounds x from count h ts rest → AllSpellable ts → Both (bounds_words x from count) rest
bounds_all (bounds {from = from} {count = count} x b) all =
    let y = binary x all.1.1.1 in
    let z = binary b y.left.1 in
    record {
      words = (all.0, (tt, (tt, all_append (expr_words from) (mark symbol.Comma ∷ (expr_words count ++ mark symbol.RightBracket ∷ [])) y.words (tt, all_append (expr_words count) (mark symbol.RightBracket ∷ []) z.words (tt, tt)))));
      left = z.left.1;
    }

-- ---- statements

mutual
  stmt_all : {s : Stmt} {h : ℕ} {ts rest : List Token} → IsStmt s h ts rest → AllSpellable ts → Both (stmt_words s) rest
  stmt_all (declares x) all = var_all x all
  stmt_all (assigns {path = path} {e = e} x b) all =
      let y = path_all x tt all.1 in
      let z = binary b y.left in
      record { words = (all.0, all_append (path_words path) (mark symbol.Assign ∷ expr_words e) (path_words_all path y.words) (tt, z.words)); left = z.left }
  stmt_all (calls {x = x} {es = es} {at = p} more) all = let y = arguments more all.1.1 in record { words = calls_all x p es all.0 y.words; left = y.left }
  stmt_all errors all = record { words = (tt, (all.1.0, tt)); left = all.1.1 }
  stmt_all (tests {e = e} {ss = ss} {at = p} b x) all =
      let y = binary b all.1 in
      let z = stmts_all x y.left.1 in
      record {
        words = subst AllSpellable (sym (words_if e ss p)) (tt, all_append (expr_words e) (link_word keyword.Then ∷ list_words (map stmt_words ss)) y.words (tt, list_all_words stmt_words ss z.words));
        left = z.left;
      }
  stmt_all (chooses {e = e} {ss = ss} {os = os} {at = p} b x d) all =
      let y = binary b all.1 in
      let z = stmts_all x y.left.1 in
      let o = stmts_all d z.left.1 in
      let inner : List Token = list_words (map stmt_words ss) ++ link_word keyword.Else ∷ list_words (map stmt_words os) in
      record {
        words =
            subst AllSpellable (sym (words_if_else e ss os p)) (
              tt,
              all_append (expr_words e) (link_word keyword.Then ∷ inner) y.words
                  (tt, all_append (list_words (map stmt_words ss)) (link_word keyword.Else ∷ list_words (map stmt_words os)) (list_all_words stmt_words ss z.words) (tt, list_all_words stmt_words os o.words)),
            );
        left = o.left;
      }
  stmt_all (turns {e = e} {ss = ss} {at = p} b x) all =
      let y = binary b all.1.1 in
      let z = stmts_all x y.left.1 in
      record {
        words = subst AllSpellable (sym (words_while e ss p)) (tt, all_append (enclosed (expr_words e)) (list_words (map stmt_words ss)) (enclosed_all (expr_words e) y.words) (list_all_words stmt_words ss z.words));
        left = z.left;
      }
  stmt_all (counts {x = i} {from = from} {count = count} {ss = ss} {at = p} b x) all =
      let y = bounds_all b all.1 in
      let z = stmts_all x y.left in
      record {
        words = subst AllSpellable (sym (words_for i from count ss p)) (tt, all_append (bounds_words i from count) (list_words (map stmt_words ss)) y.words (list_all_words stmt_words ss z.words));
        left = z.left;
      }

  stmts_all : {ss : List Stmt} {h : ℕ} {ts rest : List Token} → IsStmts ss h ts rest → AllSpellable ts → EachOf stmt_words ss rest
  stmts_all (stmts x) all = more_stmts_all x tt all.1

  more_stmts_all : {done ss : List Stmt} {low h : ℕ} {ts rest : List Token} → IsMoreStmts done low ss h ts rest → AllOf stmt_words done → AllSpellable ts → EachOf stmt_words ss rest
  more_stmts_all no_stmt done all = record { words = done; left = all.1 }
  more_stmts_all (last_stmt {done = before} {s = s} x) done all = let y = stmt_all x all in record { words = snoc stmt_words before s done y.words; left = y.left.1 }
  more_stmts_all (more_stmts {done = before} {s = s} x more) done all = let y = stmt_all x all in more_stmts_all more (snoc stmt_words before s done y.words) y.left.1

-- ---- bodies

parts_in_braces : (parts : List (List Token)) → AllParts parts → AllSpellable (list_words parts)
parts_in_braces parts all = braced_all nowhere (parted (mark symbol.Semicolon) parts) (parted_parts symbol.Semicolon parts all)

plain_all : (ss : List Stmt) → AllOf stmt_words ss → AllSpellable (body_words (plain_body ss))
plain_all ss all = parts_in_braces (map stmt_words ss ++ []) (parts_of stmt_words ss [] all tt)

result_all : (ss : List Stmt) (e : Expr) (p : Place) → AllOf stmt_words ss → AllSpellable (expr_words e) → AllSpellable (body_words (result_body ss e p))
result_all ss e p all value =
    parts_in_braces (map stmt_words ss ++ (word keyword.Return p ∷ expr_words e) ∷ []) (parts_of stmt_words ss ((word keyword.Return p ∷ expr_words e) ∷ []) all ((tt, value), tt))

more_body_all : {done : List Stmt} {b : Body} {low h : ℕ} {ts rest : List Token} → IsMoreBody done low b h ts rest → AllOf stmt_words done → AllSpellable ts → Both (body_words b) rest
more_body_all (no_more {done = ss}) done all = record { words = plain_all ss done; left = all.1 }
more_body_all (ends {done = before} {s = s} x) done all = let y = stmt_all x all in record { words = plain_all (before ++ s ∷ []) (snoc stmt_words before s done y.words); left = y.left.1 }
more_body_all (goes_on {done = before} {s = s} x more) done all = let y = stmt_all x all in more_body_all more (snoc stmt_words before s done y.words) y.left.1
more_body_all (returns {done = ss} {e = e} {at = p} x) done all = let y = binary x all.1 in record { words = result_all ss e p done y.words; left = y.left.1 }
more_body_all (returns_stopped {done = ss} {e = e} {at = p} x) done all = let y = binary x all.1 in record { words = result_all ss e p done y.words; left = y.left.1.1 }

body_all : {b : Body} {h : ℕ} {ts rest : List Token} → IsBody b h ts rest → AllSpellable ts → Both (body_words b) rest
body_all (body x) all = more_body_all x tt all.1

-- ---- components

loop_words : (w : Keyword) (p : Place) (e : Expr) (c : Comp) → AllSpellable (expr_words e) → AllSpellable (comp_words c) → AllSpellable (word w p ∷ (enclosed (expr_words e) ++ held 0 (comp_kind c) (comp_words c)))
loop_words w p e c test inner = (tt, all_append (enclosed (expr_words e)) (held 0 (comp_kind c) (comp_words c)) (enclosed_all (expr_words e) test) (held_all 0 (comp_kind c) (comp_words c) inner))

pipe_words : (l : Link) (a b : Comp) (p : Place) → AllSpellable (comp_words a) → AllSpellable (comp_words b) → AllSpellable (comp_words (comp.Pipe l a b p))
pipe_words l a b p left right =
    subst AllSpellable (sym (comp_law.words_pipe l a b p))
    (all_append (held (suc (link_rank l)) (comp_kind a) (comp_words a)) (sign (link_symbol l) p ∷ held (link_rank l) (comp_kind b) (comp_words b))
    (held_all (suc (link_rank l)) (comp_kind a) (comp_words a) left) (tt, held_all (link_rank l) (comp_kind b) (comp_words b) right))

mutual
  atom_all : {c : Comp} {h : ℕ} {ts rest : List Token} → IsAtom c h ts rest → AllSpellable ts → Both (comp_words c) rest
  atom_all take_atom all = record { words = (tt, tt); left = all.1 }
  atom_all takes_atom all = record { words = (tt, (all.1.0, tt)); left = all.1.1 }
  atom_all (emit_atom x) all = let y = binary x all.1 in record { words = (tt, y.words); left = y.left }
  atom_all (emits_atom x) all = let y = binary x all.1 in record { words = (tt, y.words); left = y.left }
  atom_all (return_atom x) all = let y = binary x all.1 in record { words = (tt, y.words); left = y.left }
  atom_all (do_atom x) all = let y = body_all x all.1 in record { words = (tt, y.words); left = y.left }
  atom_all (repeat_atom {c = c} {at = p} x) all =
      let y = atom_all x all.1 in record { words = subst AllSpellable (sym (comp_law.words_repeat c p)) (tt, held_all 0 (comp_kind c) (comp_words c) y.words); left = y.left }
  atom_all (hinted_atom {c = c} {at = p} x) all =
      let y = atom_all x all.1.1.1.1.1.1 in record { words = subst AllSpellable (sym (comp_law.words_repeat c p)) (tt, held_all 0 (comp_kind c) (comp_words c) y.words); left = y.left }
  atom_all (while_atom {e = e} {c = c} {at = p} b x) all =
      let y = binary b all.1.1 in
      let z = atom_all x y.left.1 in
      record { words = subst AllSpellable (sym (comp_law.words_while turning.While e c p)) (loop_words keyword.While p e c y.words z.words); left = z.left }
  atom_all (until_atom {e = e} {c = c} {at = p} b x) all =
      let y = binary b all.1.1 in
      let z = atom_all x y.left.1 in
      record { words = subst AllSpellable (sym (comp_law.words_while turning.Until e c p)) (loop_words keyword.Until p e c y.words z.words); left = z.left }
  atom_all (times_atom {e = e} {c = c} {at = p} b x) all =
      let y = binary b all.1.1 in
      let z = atom_all x y.left.1 in
      record { words = subst AllSpellable (sym (comp_law.words_times e c p)) (loop_words keyword.Times p e c y.words z.words); left = z.left }
  atom_all (for_atom {x = i} {from = from} {count = count} {c = c} {at = p} b x) all =
      let y = bounds_all b all.1 in
      let z = atom_all x y.left in
      record {
        words = subst AllSpellable (sym (comp_law.words_for i from count c p)) (tt, all_append (bounds_words i from count) (held 0 (comp_kind c) (comp_words c)) y.words (held_all 0 (comp_kind c) (comp_words c) z.words));
        left = z.left;
      }
  atom_all (if_atom {e = e} {c = c} {d = d} {at = p} b x f) all =
      let y = binary b all.1 in
      let z = atom_all x y.left.1 in
      let o = atom_all f z.left.1 in
      let other : List Token = link_word keyword.Else ∷ held 0 (comp_kind d) (comp_words d) in
      record {
        words =
            subst AllSpellable (sym (comp_law.words_if e c d p)) (
              tt,
              all_append (expr_words e) (link_word keyword.Then ∷ (held 0 (comp_kind c) (comp_words c) ++ other)) y.words
                  (tt, all_append (held 0 (comp_kind c) (comp_words c)) other (held_all 0 (comp_kind c) (comp_words c) z.words) (tt, held_all 0 (comp_kind d) (comp_words d) o.words)),
            );
        left = o.left;
      }
  atom_all map_atom all = record { words = (tt, (all.1.0, tt)); left = all.1.1 }
  atom_all filter_atom all = record { words = (tt, (all.1.0, tt)); left = all.1.1 }
  atom_all (call_atom {x = x} {es = es} {at = p} more) all = let y = arguments more all.1.1 in record { words = calls_all x p es all.0 y.words; left = y.left }
  atom_all (block_atom x) all = block_all x all
  atom_all (enclosed_atom x) all = let y = chain_all x all.1 in record { words = y.words; left = y.left.1 }

  chain_all : {n : ℕ} {c : Comp} {h : ℕ} {ts rest : List Token} → IsChain n c h ts rest → AllSpellable ts → Both (comp_words c) rest
  chain_all (atom x) all = atom_all x all
  chain_all (links x more) all = let y = chain_all x all in linked more y.words y.left

  linked : {n low h : ℕ} {left c : Comp} {ts rest : List Token} → IsLinks n left low c h ts rest → AllSpellable (comp_words left) → AllSpellable ts → Both (comp_words c) rest
  linked no_link first all = record { words = first; left = all }
  linked (join {left = a} {right = b} {at = p} l is x more) first all = let y = chain_all x all.1 in linked more (pipe_words l a b p first y.words) y.left

  block_all : {c : Comp} {h : ℕ} {ts rest : List Token} → IsBlock c h ts rest → AllSpellable ts → Both (comp_words c) rest
  block_all (block {ms = ms} {at = p} x) all =
      let y = members_all x tt all.1 in
      record {
        words = subst AllSpellable (sym (comp_law.words_block ms p)) (braced_all p (parted (mark symbol.Semicolon) (map member_words ms)) (parted_all member_words symbol.Semicolon ms y.words));
        left = y.left;
      }

  members_all : {done ms : List Member} {low h : ℕ} {ts rest : List Token} → IsMembers done low ms h ts rest → AllOf member_words done → AllSpellable ts → EachOf member_words ms rest
  members_all (binds {done = before} {x = x} {c = c} {at = p} a more) done all =
      let y = chain_all a all.1.1 in members_all more (snoc member_words before (member.Bind (ident x p) c) done (all.0, (tt, y.words))) y.left.1
  members_all (member_var {done = before} {v = v} a more) done all = let y = var_all a all in members_all more (snoc member_words before (member.Var v) done y.words) y.left.1
  members_all (member_runs {done = before} {c = c} a more) done all = let y = chain_all a all in members_all more (snoc member_words before (member.Run c) done y.words) y.left.1
  members_all (last_member {done = before} {c = c} a) done all = let y = chain_all a all in record { words = snoc member_words before (member.Run c) done y.words; left = y.left.1 }
  members_all (last_stopped {done = before} {c = c} a) done all = let y = chain_all a all in record { words = snoc member_words before (member.Run c) done y.words; left = y.left.1.1 }

-- ---- declarations and programs

given_all : {t : Option TypeExpr} {ts rest : List Token} → IsResult t ts rest → AllSpellable ts → Both (gives_words t) rest
given_all no_result all = record { words = tt; left = all }
given_all (result {t = t} x) all = let y = type_all x all.1 in record { words = (tt, y.words t.at); left = y.left }

decl_all : {d : Decl} {h : ℕ} {ts rest : List Token} → IsDecl d h ts rest → AllSpellable ts → Both (decl_words d) rest
decl_all (declares_var {v = v} x) all = let y = var_all x all in record { words = all_append (var_words v) (mark symbol.Semicolon ∷ []) y.words (tt, tt); left = y.left.1 }
decl_all (declares_struct {fs = fs} x more) all =
    let y = field_all x all.1.1.1.1 in
    let z = fields_all more (y.words, tt) y.left in
    record { words = (tt, (all.1.0, (tt, list_all_words field_words fs z.words))); left = z.left }
decl_all (declares_function {fs = fs} {t = t} {b = b} x y z) all =
    let f = params_each x all.1.1.1 in
    let g = given_all y f.left in
    let k = body_all z g.left in
    record { words = (tt, (all.1.0, all_append (params_words fs) (gives_words t ++ body_words b) (params_all fs f.words) (all_append (gives_words t) (body_words b) g.words k.words))); left = k.left }
decl_all (declares_comp {fs = fs} {c = c} x y) all =
    let f = params_each x all.1.1.1.1 in
    let k = block_all y f.left in
    record { words = (tt, (tt, (all.1.1.0, all_append (params_words fs) (comp_words c) (params_all fs f.words) k.words))); left = k.left }

decls_all : {done ds : List Decl} {low h : ℕ} {ts rest : List Token} → IsDecls done low ds h ts rest → AllOf decl_words done → AllSpellable ts → EachOf decl_words ds rest
decls_all no_decl done all = record { words = done; left = all }
decls_all (more_decls {done = before} {d = d} x more) done all = let y = decl_all x all in decls_all more (snoc decl_words before d done y.words) y.left

stream_all : (w : Keyword) (t : TypeExpr) → AllSpellable (type_words t) → AllSpellable (stream_words w t)
stream_all w t all = (tt, (tt, all_append (type_words t) (mark symbol.RightBracket ∷ []) all (tt, tt)))

-- the canonical tokens of a program's parts
pub record ProgSpelled (p : Prog) : Type 0 where
  pub declarations : AllOf decl_words p.declarations
  pub main : AllSpellable (main_words p)

pub prog_all : {tokens : List Token} {p : Prog} {h : ℕ} → IsProg tokens p h → AllSpellable tokens → ProgSpelled p
prog_all (program {from = from} {to = to} {c = c} ds x b y) all =
    let d = decls_all ds tt all in
    let read = type_all x d.left.1.1.1.1.1.1 in
    let main = chain_all b read.left.1.1 in
    let wrote = type_all y main.left.1.1.1 in
    let last : List Token = mark symbol.Pipe ∷ stream_words keyword.Write to in
    record {
      declarations = d.words;
      main = (
        tt,
        (
          tt,
          (
            d.left.1.1.0,
            (
              tt,
              all_append (stream_words keyword.Read from) (mark symbol.Pipe ∷ (comp_words c ++ last)) (stream_all keyword.Read from (read.words from.at))
                  (tt, all_append (comp_words c) last main.words (tt, stream_all keyword.Write to (wrote.words to.at))),
            ),
          ),
        ),
      );
    }
