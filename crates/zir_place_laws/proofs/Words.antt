-- The canonical tokens of a tree have the lexemes of those of the tree without its places.
use Rattle.std.proofs.Common.{◌≡◌, ℕ, suc, ℤ, pos, negsuc, Bool, true, false, List, [], ◌∷◌, ◌++◌, Option, Some, None, refl, sym, ap, ap₂, ◌∙◌}
use Rattle.std.specs.Prelude.{map}
use Rattle.std.proofs.lemmas.List.{map-append}
use Rattle.zir_tree.specs.declared.place.Place.{Place}
use Rattle.zir_tree.specs.declared.ident.Ident.{Ident}
use Rattle.zir_tree.specs.declared.types.Base.{Base}
use Rattle.zir_tree.specs.declared.types.Dimension.{Dimension}
use Rattle.zir_tree.specs.declared.types.TypeExpr.{TypeExpr}
use Rattle.zir_tree.specs.declared.types.Field.{Field}
use Rattle.zir_tree.specs.declared.expr.Prefix.{Prefix}
use Rattle.zir_tree.specs.declared.expr.Prefix.TheVariants as prefix
use Rattle.zir_tree.specs.declared.expr.Expr.{Expr, Unit, Bit, Bool as Truth, Int, Variable, Unary', Binary', Index', Slice', Part', Call', Array', Convert', Complex', Row_of-Expr, end_of-Expr, more_of-Expr}
use Rattle.zir_tree.specs.declared.stmt.Var.{Var}
use Rattle.zir_tree.specs.declared.stmt.Access.{Access}
use Rattle.zir_tree.specs.declared.stmt.Access.TheVariants as access
use Rattle.zir_tree.specs.declared.stmt.Stmt.{Stmt, Var as Declares, Assign, Call as Calls, Error, If' as Tests, IfElse', While' as Turns, For' as Counts, Row_of-Stmt, end_of-Stmt, more_of-Stmt}
use Rattle.zir_tree.specs.declared.stmt.Return.{Return}
use Rattle.zir_tree.specs.declared.stmt.Body.{Body}
use Rattle.zir_tree.specs.declared.comp.Comp.{Comp, Take, Takes, Emit, Emits, Return as Gives, Do, Repeat', While', Times', For', If', Map, Filter, Call, Block', Pipe', end_of-Comp, more_of-Comp, Row_of-Member, end_of-Member, more_of-Member}
use Rattle.zir_tree.specs.declared.comp.Member.{Bind, Var as Keeps, Run}
use Rattle.zir_tree.specs.declared.program.Decl.{Decl}
use Rattle.zir_tree.specs.declared.program.Decl.TheVariants as decl
use Rattle.zir_tree.specs.declared.program.Prog.{Prog}
use Rattle.zir_lex.specs.declared.token.Token.{Token}
use Rattle.zir_lex.specs.declared.token.Lexeme.TheVariants as lexeme
use Rattle.zir_lex.specs.declared.token.Keyword.{Keyword}
use Rattle.zir_lex.specs.declared.token.Keyword.TheVariants as keyword
use Rattle.zir_lex.specs.declared.token.Symbol.TheVariants as symbol
use Rattle.zir_grammar.specs.Grammar.{sign, name, main_bytes, symbol_of, rank, prefix_token, link_symbol, link_rank}
use Rattle.zir_print.specs.Marks.{nowhere, mark, link_word, parted, enclosed, held}
use Rattle.zir_print.specs.Types.{keyword_of, word_if, inner_words, dimension_words, type_words, field_words}
use Rattle.zir_print.specs.Expressions.{kind, number_words, truth_word, bracket_end, bracket_words, call_words, expr_words, each_expr}
use Rattle.zir_print.specs.Statements.{initial_words, var_words, access_words, path_words, bounds_words, list_words, stmt_words, each_stmt, result_words, body_words}
use Rattle.zir_print.specs.Components.{comp_kind, turning_word, comp_words, each_member, member_words}
use Rattle.zir_print.specs.Canonical.{params_words, gives_words, decl_words, stream_words, main_words}
use Rattle.zir_print.specs.Text.{decl_lines, canonical_text}
use Rattle.zir_print.proofs.ExprLaw as expr_law
use Rattle.zir_print.proofs.StmtLaw as stmt_law
use Rattle.zir_print.proofs.CompLaw as comp_law
use Rattle.zir_text_laws.specs.Laws.{lexemes}
use Rattle.zir_place_laws.specs.Bare.{if_some, bare_ident, bare_dimension, bare_type, bare_field, bare_expr, bare_exprs, bare_var, bare_access, bare_stmt, bare_stmts, bare_return, bare_body, bare_comp, bare_members, bare_decl, bare}
use Rattle.zir_place_laws.proofs.Lexemes.{Alike, joined, enclosed_alike, braced_alike, held_alike, parted_alike, list_alike, each_alike, same_line}

-- ---- types

dimensions_alike : (ds : List Dimension) → Alike (dimension_words (map bare_dimension ds)) (dimension_words ds)
dimensions_alike [] = refl
dimensions_alike (d ∷ ds) = ap (λ l. lexeme.Keyword keyword.Arr ∷ lexeme.Symbol symbol.LeftBracket ∷ lexeme.Int d.length ∷ lexeme.Symbol symbol.RightBracket ∷ l) (dimensions_alike ds)

word_alike : (w : Option Keyword) (p q : Place) → Alike (word_if w p) (word_if w q)
word_alike None p q = refl
word_alike (Some w) p q = refl

inner_alike : (x : Option Ident) (b : Base) (p q : Place) → Alike (inner_words (if_some bare_ident x) b p) (inner_words x b q)
inner_alike None b p q = word_alike (keyword_of b) p q
inner_alike (Some x) b p q = refl

type_alike : (t : TypeExpr) → Alike (type_words (bare_type t)) (type_words t)
type_alike t =
    joined (dimension_words (map bare_dimension t.dimensions)) (dimension_words t.dimensions) (inner_words (if_some bare_ident t.name) t.base nowhere) (inner_words t.name t.base t.at) (dimensions_alike t.dimensions)
    (inner_alike t.name t.base nowhere t.at)

field_alike : (f : Field) → Alike (field_words (bare_field f)) (field_words f)
field_alike f = ap (λ l. lexeme.Name f.name.name ∷ lexeme.Symbol symbol.Colon ∷ l) (type_alike f.ty)

-- ---- expressions

kind_alike : (e : Expr) → kind (bare_expr e) ≡ kind e
kind_alike (Unit p) = refl
kind_alike (Bit b p) = refl
kind_alike (Truth b p) = refl
kind_alike (Int (pos n) b p) = refl
kind_alike (Int (negsuc n) b p) = refl
kind_alike (Variable x) = refl
kind_alike (Unary' op t _ (more_of-Expr a end_of-Expr) p) = expr_law.kind_unary op t (bare_expr a) nowhere
kind_alike (Binary' op t _ (more_of-Expr a end_of-Expr) _ (more_of-Expr b end_of-Expr) p) = expr_law.kind_binary op t (bare_expr a) (bare_expr b) nowhere
kind_alike (Index' _ (more_of-Expr a end_of-Expr) _ (more_of-Expr i end_of-Expr) p) = expr_law.kind_index (bare_expr a) (bare_expr i) nowhere
kind_alike (Slice' _ (more_of-Expr a end_of-Expr) _ (more_of-Expr i end_of-Expr) k p) = expr_law.kind_slice (bare_expr a) (bare_expr i) k nowhere
kind_alike (Part' _ (more_of-Expr a end_of-Expr) x k p) = expr_law.kind_part (bare_expr a) x k nowhere
kind_alike (Call' x callee _ es) = expr_law.kind_call (bare_ident x) callee (bare_exprs es)
kind_alike (Array' _ es p) = expr_law.kind_array (bare_exprs es) nowhere
kind_alike (Convert' b _ (more_of-Expr a end_of-Expr) p) = expr_law.kind_convert b (bare_expr a) nowhere
kind_alike (Complex' b _ (more_of-Expr re end_of-Expr) _ (more_of-Expr im end_of-Expr) p) = expr_law.kind_complex b (bare_expr re) (bare_expr im) nowhere

number_alike : (n : ℤ) (p q : Place) → Alike (number_words n p) (number_words n q)
number_alike (pos n) p q = refl
number_alike (negsuc n) p q = refl

truth_alike : (b : Bool) (p q : Place) → Alike (truth_word b p ∷ []) (truth_word b q ∷ [])
truth_alike true p q = refl
truth_alike false p q = refl

prefix_alike : (op : Prefix) (p q : Place) → (prefix_token op p).lexeme ≡ (prefix_token op q).lexeme
prefix_alike prefix.Minus p q = refl
prefix_alike prefix.Complement p q = refl
prefix_alike prefix.Not p q = refl

end_alike : (k : Option ℕ) → Alike (bracket_end k) (bracket_end k)
end_alike k = refl

bracket_alike : (i j : List Token) (k : Option ℕ) (p q : Place) → Alike i j → Alike (bracket_words p i k) (bracket_words q j k)
bracket_alike i j k p q e = ap (λ l. lexeme.Symbol symbol.LeftBracket ∷ l) (joined i j (bracket_end k) (bracket_end k) e refl)

call_alike : (x : Ident) (ps qs : List (List Token)) → map lexemes ps ≡ map lexemes qs → Alike (call_words (bare_ident x) ps) (call_words x qs)
call_alike x ps qs e = ap (λ l. lexeme.Name x.name ∷ l) (enclosed_alike (parted (mark symbol.Comma) ps) (parted (mark symbol.Comma) qs) (parted_alike symbol.Comma ps qs e))

-- an expression that is held at a limit, without its places
held_expr : (limit : ℕ) (e : Expr) → Alike (expr_words (bare_expr e)) (expr_words e) → Alike (held limit (kind (bare_expr e)) (expr_words (bare_expr e))) (held limit (kind e) (expr_words e))
held_expr limit e same = held_alike limit (kind (bare_expr e)) (kind e) (expr_words (bare_expr e)) (expr_words e) (kind_alike e) same

-- what stands behind a base, without places
post_alike : (a : Expr) (ws vs : List Token) → Alike (expr_words (bare_expr a)) (expr_words a) → Alike ws vs → Alike (held 0 (kind (bare_expr a)) (expr_words (bare_expr a)) ++ ws) (held 0 (kind a) (expr_words a) ++ vs)
post_alike a ws vs same more = joined (held 0 (kind (bare_expr a)) (expr_words (bare_expr a))) (held 0 (kind a) (expr_words a)) ws vs (held_expr 0 a same) more

mutual
  expr_alike : (e : Expr) → Alike (expr_words (bare_expr e)) (expr_words e)
  expr_alike (Unit p) = refl
  expr_alike (Bit b p) = refl
  expr_alike (Truth b p) = truth_alike b nowhere p
  expr_alike (Int n b p) = number_alike n nowhere p
  expr_alike (Variable x) = refl
  expr_alike (Unary' op t _ (more_of-Expr a end_of-Expr) p) =
      ap lexemes (expr_law.words_unary op t (bare_expr a) nowhere) ∙ ap₂ (λ w l. w ∷ l) (prefix_alike op nowhere p) (held_expr 1 a (expr_alike a))
  expr_alike (Binary' op t _ (more_of-Expr a end_of-Expr) _ (more_of-Expr b end_of-Expr) p) =
      let left : List Token = held (suc (suc (rank op))) (kind (bare_expr a)) (expr_words (bare_expr a)) in
      let right : List Token = held (suc (rank op)) (kind (bare_expr b)) (expr_words (bare_expr b)) in
      ap lexemes (expr_law.words_binary op t (bare_expr a) (bare_expr b) nowhere)
      ∙ joined left (held (suc (suc (rank op))) (kind a) (expr_words a)) (sign (symbol_of op) nowhere ∷ right) (sign (symbol_of op) p ∷ held (suc (rank op)) (kind b) (expr_words b)) (held_expr (suc (suc (rank op))) a (expr_alike a))
      (ap (λ l. lexeme.Symbol (symbol_of op) ∷ l) (held_expr (suc (rank op)) b (expr_alike b)))
  expr_alike (Index' _ (more_of-Expr a end_of-Expr) _ (more_of-Expr i end_of-Expr) p) =
      ap lexemes (expr_law.words_index (bare_expr a) (bare_expr i) nowhere)
      ∙ post_alike a (bracket_words nowhere (expr_words (bare_expr i)) None) (bracket_words p (expr_words i) None) (expr_alike a) (bracket_alike (expr_words (bare_expr i)) (expr_words i) None nowhere p (expr_alike i))
  expr_alike (Slice' _ (more_of-Expr a end_of-Expr) _ (more_of-Expr i end_of-Expr) k p) =
      ap lexemes (expr_law.words_slice (bare_expr a) (bare_expr i) k nowhere)
      ∙ post_alike a (bracket_words nowhere (expr_words (bare_expr i)) (Some k)) (bracket_words p (expr_words i) (Some k)) (expr_alike a)
      (bracket_alike (expr_words (bare_expr i)) (expr_words i) (Some k) nowhere p (expr_alike i))
  expr_alike (Part' _ (more_of-Expr a end_of-Expr) x k p) =
      ap lexemes (expr_law.words_part (bare_expr a) x k nowhere) ∙ post_alike a (sign symbol.Dot nowhere ∷ name x nowhere ∷ []) (sign symbol.Dot p ∷ name x nowhere ∷ []) (expr_alike a) refl
  expr_alike (Call' x callee _ es) = ap lexemes (expr_law.words_call (bare_ident x) callee (bare_exprs es)) ∙ call_alike x (map expr_words (bare_exprs es)) (each_expr es) (exprs_alike es)
  expr_alike (Array' _ es p) =
      ap lexemes (expr_law.words_array (bare_exprs es) nowhere)
      ∙ braced_alike nowhere p (parted (mark symbol.Comma) (map expr_words (bare_exprs es))) (parted (mark symbol.Comma) (each_expr es)) (parted_alike symbol.Comma (map expr_words (bare_exprs es)) (each_expr es) (exprs_alike es))
  expr_alike (Convert' b _ (more_of-Expr a end_of-Expr) p) =
      ap lexemes (expr_law.words_convert b (bare_expr a) nowhere)
      ∙ joined (word_if (keyword_of b) nowhere) (word_if (keyword_of b) p) (enclosed (expr_words (bare_expr a))) (enclosed (expr_words a)) (word_alike (keyword_of b) nowhere p) (enclosed_alike (expr_words (bare_expr a)) (expr_words a) (expr_alike a))
  expr_alike (Complex' b _ (more_of-Expr re end_of-Expr) _ (more_of-Expr im end_of-Expr) p) =
      let here : List Token = expr_words (bare_expr re) ++ mark symbol.Comma ∷ expr_words (bare_expr im) in
      let there : List Token = expr_words re ++ mark symbol.Comma ∷ expr_words im in
      let both : Alike here there =
      joined (expr_words (bare_expr re)) (expr_words re) (mark symbol.Comma ∷ expr_words (bare_expr im)) (mark symbol.Comma ∷ expr_words im) (expr_alike re) (ap (λ l. lexeme.Symbol symbol.Comma ∷ l) (expr_alike im)) in
      ap lexemes (expr_law.words_complex b (bare_expr re) (bare_expr im) nowhere)
      ∙ joined (word_if (keyword_of b) nowhere) (word_if (keyword_of b) p) (enclosed here) (enclosed there) (word_alike (keyword_of b) nowhere p) (enclosed_alike here there both)

  exprs_alike : {m : _} (es : Row_of-Expr m) → map lexemes (map expr_words (bare_exprs es)) ≡ map lexemes (each_expr es)
  exprs_alike end_of-Expr = refl
  exprs_alike (more_of-Expr e es) = ap₂ (λ l ls. l ∷ ls) (expr_alike e) (exprs_alike es)

list_exprs : (es : List Expr) → map lexemes (map expr_words (map bare_expr es)) ≡ map lexemes (map expr_words es)
list_exprs es = each_alike expr_words bare_expr expr_alike es

-- ---- variables, paths and bounds

initial_alike : (e : Option Expr) → Alike (initial_words (if_some bare_expr e)) (initial_words e)
initial_alike None = refl
initial_alike (Some e) = ap (λ l. lexeme.Symbol symbol.Assign ∷ l) (expr_alike e)

var_alike : (v : Var) → Alike (var_words (bare_var v)) (var_words v)
var_alike v =
    ap (λ l. lexeme.Keyword keyword.Var ∷ lexeme.Name v.name.name ∷ lexeme.Symbol symbol.Colon ∷ l)
    (joined (type_words (bare_type v.ty)) (type_words v.ty) (initial_words (if_some bare_expr v.initial)) (initial_words v.initial) (type_alike v.ty) (initial_alike v.initial))

access_alike : (a : Access) → Alike (access_words (bare_access a)) (access_words a)
access_alike (access.Index i p) = bracket_alike (expr_words (bare_expr i)) (expr_words i) None nowhere p (expr_alike i)
access_alike (access.Slice i k p) = bracket_alike (expr_words (bare_expr i)) (expr_words i) (Some k) nowhere p (expr_alike i)
access_alike (access.Part x k p) = refl

path_alike : (path : List Access) → Alike (path_words (map bare_access path)) (path_words path)
path_alike [] = refl
path_alike (a ∷ path) = joined (access_words (bare_access a)) (access_words a) (path_words (map bare_access path)) (path_words path) (access_alike a) (path_alike path)

bounds_alike : (x : Ident) (from count : Expr) → Alike (bounds_words (bare_ident x) (bare_expr from) (bare_expr count)) (bounds_words x from count)
bounds_alike x from count =
    let close : List Token = mark symbol.RightBracket ∷ [] in
    ap (λ l. lexeme.Name x.name ∷ lexeme.Keyword keyword.In ∷ lexeme.Symbol symbol.LeftBracket ∷ l)
    (joined (expr_words (bare_expr from)) (expr_words from) (mark symbol.Comma ∷ (expr_words (bare_expr count) ++ close)) (mark symbol.Comma ∷ (expr_words count ++ close)) (expr_alike from)
    (ap (λ l. lexeme.Symbol symbol.Comma ∷ l) (joined (expr_words (bare_expr count)) (expr_words count) close close (expr_alike count) refl)))

-- ---- statements

-- statements in braces, without places
braces_alike : {m : _} (ss : Row_of-Stmt m) → map lexemes (map stmt_words (bare_stmts ss)) ≡ map lexemes (each_stmt ss) → Alike (list_words (map stmt_words (bare_stmts ss))) (list_words (each_stmt ss))
braces_alike ss e = list_alike (map stmt_words (bare_stmts ss)) (each_stmt ss) e

mutual
  stmt_alike : (s : Stmt) → Alike (stmt_words (bare_stmt s)) (stmt_words s)
  stmt_alike (Declares v) = var_alike v
  stmt_alike (Assign x path e) =
      ap (λ l. lexeme.Name x.name ∷ l)
      (joined (path_words (map bare_access path)) (path_words path) (mark symbol.Assign ∷ expr_words (bare_expr e)) (mark symbol.Assign ∷ expr_words e) (path_alike path) (ap (λ l. lexeme.Symbol symbol.Assign ∷ l) (expr_alike e)))
  stmt_alike (Calls x k es) = call_alike x (map expr_words (map bare_expr es)) (map expr_words es) (list_exprs es)
  stmt_alike (Error s p) = refl
  stmt_alike (Tests e _ a p) =
      let here : List Token = list_words (map stmt_words (bare_stmts a)) in
      ap lexemes (stmt_law.words_if (bare_expr e) (bare_stmts a) nowhere)
      ∙ ap (λ l. lexeme.Keyword keyword.If ∷ l)
      (joined (expr_words (bare_expr e)) (expr_words e) (link_word keyword.Then ∷ here) (link_word keyword.Then ∷ list_words (each_stmt a)) (expr_alike e) (ap (λ l. lexeme.Keyword keyword.Then ∷ l) (braces_alike a (stmts_alike a))))
  stmt_alike (IfElse' e _ a _ b p) =
      let first : List Token = list_words (map stmt_words (bare_stmts a)) in
      let second : List Token = link_word keyword.Else ∷ list_words (map stmt_words (bare_stmts b)) in
      let other : List Token = link_word keyword.Else ∷ list_words (each_stmt b) in
      ap lexemes (stmt_law.words_if_else (bare_expr e) (bare_stmts a) (bare_stmts b) nowhere)
      ∙ ap (λ l. lexeme.Keyword keyword.If ∷ l)
      (joined (expr_words (bare_expr e)) (expr_words e) (link_word keyword.Then ∷ (first ++ second)) (link_word keyword.Then ∷ (list_words (each_stmt a) ++ other)) (expr_alike e)
      (ap (λ l. lexeme.Keyword keyword.Then ∷ l) (joined first (list_words (each_stmt a)) second other (braces_alike a (stmts_alike a)) (ap (λ l. lexeme.Keyword keyword.Else ∷ l) (braces_alike b (stmts_alike b))))))
  stmt_alike (Turns e _ a p) =
      ap lexemes (stmt_law.words_while (bare_expr e) (bare_stmts a) nowhere)
      ∙ ap (λ l. lexeme.Keyword keyword.While ∷ l)
      (joined (enclosed (expr_words (bare_expr e))) (enclosed (expr_words e)) (list_words (map stmt_words (bare_stmts a))) (list_words (each_stmt a)) (enclosed_alike (expr_words (bare_expr e)) (expr_words e) (expr_alike e)) (braces_alike a (stmts_alike a)))
  stmt_alike (Counts x from count _ a p) =
      ap lexemes (stmt_law.words_for (bare_ident x) (bare_expr from) (bare_expr count) (bare_stmts a) nowhere)
      ∙ ap (λ l. lexeme.Keyword keyword.For ∷ l)
      (joined (bounds_words (bare_ident x) (bare_expr from) (bare_expr count)) (bounds_words x from count) (list_words (map stmt_words (bare_stmts a))) (list_words (each_stmt a)) (bounds_alike x from count) (braces_alike a (stmts_alike a)))

  stmts_alike : {m : _} (ss : Row_of-Stmt m) → map lexemes (map stmt_words (bare_stmts ss)) ≡ map lexemes (each_stmt ss)
  stmts_alike end_of-Stmt = refl
  stmts_alike (more_of-Stmt s ss) = ap₂ (λ l ls. l ∷ ls) (stmt_alike s) (stmts_alike ss)

-- ---- bodies

result_alike : (r : Option Return) → map lexemes (result_words (if_some bare_return r)) ≡ map lexemes (result_words r)
result_alike None = refl
result_alike (Some r) = ap (λ l. (lexeme.Keyword keyword.Return ∷ l) ∷ []) (expr_alike r.value)

body_alike : (b : Body) → Alike (body_words (bare_body b)) (body_words b)
body_alike b =
    let here : List (List Token) = map stmt_words (map bare_stmt b.statements) in
    let there : List (List Token) = map stmt_words b.statements in
    let end : List (List Token) = result_words (if_some bare_return b.result) in
    list_alike (here ++ end) (there ++ result_words b.result)
    (map-append lexemes here end ∙ ap₂ (λ l m. l ++ m) (each_alike stmt_words bare_stmt stmt_alike b.statements) (result_alike b.result) ∙ sym (map-append lexemes there (result_words b.result)))

-- ---- components

atom_kind : (c : Comp) → comp_kind (bare_comp c) ≡ comp_kind c
atom_kind (Take p) = refl
atom_kind (Takes n p) = refl
atom_kind (Emit e p) = refl
atom_kind (Emits e p) = refl
atom_kind (Gives e p) = refl
atom_kind (Do b p) = refl
atom_kind (Repeat' _ (more_of-Comp c end_of-Comp) p) = comp_law.kind_repeat (bare_comp c) nowhere
atom_kind (While' t e _ (more_of-Comp c end_of-Comp) p) = comp_law.kind_while t (bare_expr e) (bare_comp c) nowhere
atom_kind (Times' e _ (more_of-Comp c end_of-Comp) p) = comp_law.kind_times (bare_expr e) (bare_comp c) nowhere
atom_kind (For' x from count _ (more_of-Comp c end_of-Comp) p) = comp_law.kind_for (bare_ident x) (bare_expr from) (bare_expr count) (bare_comp c) nowhere
atom_kind (If' e _ (more_of-Comp c end_of-Comp) _ (more_of-Comp d end_of-Comp) p) = comp_law.kind_if (bare_expr e) (bare_comp c) (bare_comp d) nowhere
atom_kind (Map x k p) = refl
atom_kind (Filter x k p) = refl
atom_kind (Call x k es) = refl
atom_kind (Block' _ ms p) = comp_law.kind_block (bare_members ms) nowhere
atom_kind (Pipe' l _ (more_of-Comp a end_of-Comp) _ (more_of-Comp b end_of-Comp) p) = comp_law.kind_pipe l (bare_comp a) (bare_comp b) nowhere

-- a component that is held at a limit, without its places
abbrev Held : ℕ → Comp → List Token
Held limit c = held limit (comp_kind c) (comp_words c)

held_comp : (limit : ℕ) (c : Comp) → Alike (comp_words (bare_comp c)) (comp_words c) → Alike (Held limit (bare_comp c)) (Held limit c)
held_comp limit c same = held_alike limit (comp_kind (bare_comp c)) (comp_kind c) (comp_words (bare_comp c)) (comp_words c) (atom_kind c) same

-- the condition of a loop and its body, without places
loop_alike : (e : Expr) (c : Comp) → Alike (comp_words (bare_comp c)) (comp_words c) → Alike (enclosed (expr_words (bare_expr e)) ++ Held 0 (bare_comp c)) (enclosed (expr_words e) ++ Held 0 c)
loop_alike e c same =
    joined (enclosed (expr_words (bare_expr e))) (enclosed (expr_words e)) (Held 0 (bare_comp c)) (Held 0 c) (enclosed_alike (expr_words (bare_expr e)) (expr_words e) (expr_alike e)) (held_comp 0 c same)

mutual
  comp_alike : (c : Comp) → Alike (comp_words (bare_comp c)) (comp_words c)
  comp_alike (Take p) = refl
  comp_alike (Takes n p) = refl
  comp_alike (Emit e p) = ap (λ l. lexeme.Keyword keyword.Emit ∷ l) (expr_alike e)
  comp_alike (Emits e p) = ap (λ l. lexeme.Keyword keyword.Emits ∷ l) (expr_alike e)
  comp_alike (Gives e p) = ap (λ l. lexeme.Keyword keyword.Return ∷ l) (expr_alike e)
  comp_alike (Do b p) = ap (λ l. lexeme.Keyword keyword.Do ∷ l) (body_alike b)
  comp_alike (Repeat' _ (more_of-Comp c end_of-Comp) p) =
      ap lexemes (comp_law.words_repeat (bare_comp c) nowhere) ∙ ap (λ l. lexeme.Keyword keyword.Repeat ∷ l) (held_comp 0 c (comp_alike c))
  comp_alike (While' t e _ (more_of-Comp c end_of-Comp) p) =
      ap lexemes (comp_law.words_while t (bare_expr e) (bare_comp c) nowhere) ∙ ap (λ l. lexeme.Keyword (turning_word t) ∷ l) (loop_alike e c (comp_alike c))
  comp_alike (Times' e _ (more_of-Comp c end_of-Comp) p) =
      ap lexemes (comp_law.words_times (bare_expr e) (bare_comp c) nowhere) ∙ ap (λ l. lexeme.Keyword keyword.Times ∷ l) (loop_alike e c (comp_alike c))
  comp_alike (For' x from count _ (more_of-Comp c end_of-Comp) p) =
      ap lexemes (comp_law.words_for (bare_ident x) (bare_expr from) (bare_expr count) (bare_comp c) nowhere)
      ∙ ap (λ l. lexeme.Keyword keyword.For ∷ l)
      (joined (bounds_words (bare_ident x) (bare_expr from) (bare_expr count)) (bounds_words x from count) (Held 0 (bare_comp c)) (Held 0 c) (bounds_alike x from count) (held_comp 0 c (comp_alike c)))
  comp_alike (If' e _ (more_of-Comp c end_of-Comp) _ (more_of-Comp d end_of-Comp) p) =
      let second : List Token = link_word keyword.Else ∷ Held 0 (bare_comp d) in
      let other : List Token = link_word keyword.Else ∷ Held 0 d in
      ap lexemes (comp_law.words_if (bare_expr e) (bare_comp c) (bare_comp d) nowhere)
      ∙ ap (λ l. lexeme.Keyword keyword.If ∷ l)
      (joined (expr_words (bare_expr e)) (expr_words e) (link_word keyword.Then ∷ (Held 0 (bare_comp c) ++ second)) (link_word keyword.Then ∷ (Held 0 c ++ other)) (expr_alike e)
      (ap (λ l. lexeme.Keyword keyword.Then ∷ l) (joined (Held 0 (bare_comp c)) (Held 0 c) second other (held_comp 0 c (comp_alike c)) (ap (λ l. lexeme.Keyword keyword.Else ∷ l) (held_comp 0 d (comp_alike d))))))
  comp_alike (Map x k p) = refl
  comp_alike (Filter x k p) = refl
  comp_alike (Call x k es) = call_alike x (map expr_words (map bare_expr es)) (map expr_words es) (list_exprs es)
  comp_alike (Block' _ ms p) =
      ap lexemes (comp_law.words_block (bare_members ms) nowhere)
      ∙ braced_alike nowhere p (parted (mark symbol.Semicolon) (map member_words (bare_members ms))) (parted (mark symbol.Semicolon) (each_member ms))
      (parted_alike symbol.Semicolon (map member_words (bare_members ms)) (each_member ms) (members_alike ms))
  comp_alike (Pipe' l _ (more_of-Comp a end_of-Comp) _ (more_of-Comp b end_of-Comp) p) =
      let high : ℕ = suc (link_rank l) in
      let second : List Token = sign (link_symbol l) nowhere ∷ Held (link_rank l) (bare_comp b) in
      let other : List Token = sign (link_symbol l) p ∷ Held (link_rank l) b in
      ap lexemes (comp_law.words_pipe l (bare_comp a) (bare_comp b) nowhere)
      ∙ joined (Held high (bare_comp a)) (Held high a) second other (held_comp high a (comp_alike a)) (ap (λ w. lexeme.Symbol (link_symbol l) ∷ w) (held_comp (link_rank l) b (comp_alike b)))

  members_alike : {m : _} (ms : Row_of-Member m) → map lexemes (map member_words (bare_members ms)) ≡ map lexemes (each_member ms)
  members_alike end_of-Member = refl
  members_alike (more_of-Member (Bind x c) ms) = ap₂ (λ l ls. (lexeme.Name x.name ∷ lexeme.Symbol symbol.LeftArrow ∷ l) ∷ ls) (comp_alike c) (members_alike ms)
  members_alike (more_of-Member (Keeps v) ms) = ap₂ (λ l ls. l ∷ ls) (var_alike v) (members_alike ms)
  members_alike (more_of-Member (Run c) ms) = ap₂ (λ l ls. l ∷ ls) (comp_alike c) (members_alike ms)

-- ---- declarations and programs

params_alike : (fs : List Field) → Alike (params_words (map bare_field fs)) (params_words fs)
params_alike fs =
    let here : List (List Token) = map field_words (map bare_field fs) in
    let there : List (List Token) = map field_words fs in
    enclosed_alike (parted (mark symbol.Comma) here) (parted (mark symbol.Comma) there) (parted_alike symbol.Comma here there (each_alike field_words bare_field field_alike fs))

gives_alike : (t : Option TypeExpr) → Alike (gives_words (if_some bare_type t)) (gives_words t)
gives_alike None = refl
gives_alike (Some t) = ap (λ l. lexeme.Symbol symbol.Colon ∷ l) (type_alike t)

decl_alike : (d : Decl) → Alike (decl_words (bare_decl d)) (decl_words d)
decl_alike (decl.Var v) = joined (var_words (bare_var v)) (var_words v) (mark symbol.Semicolon ∷ []) (mark symbol.Semicolon ∷ []) (var_alike v) refl
decl_alike (decl.Struct s) =
    ap (λ l. lexeme.Keyword keyword.Struct ∷ lexeme.Name s.name.name ∷ lexeme.Symbol symbol.Equal ∷ l)
    (list_alike (map field_words (map bare_field s.fields)) (map field_words s.fields) (each_alike field_words bare_field field_alike s.fields))
decl_alike (decl.Function f) =
    ap (λ l. lexeme.Keyword keyword.Fun ∷ lexeme.Name f.name.name ∷ l)
    (joined (params_words (map bare_field f.params)) (params_words f.params) (gives_words (if_some bare_type f.result) ++ body_words (bare_body f.body)) (gives_words f.result ++ body_words f.body) (params_alike f.params)
    (joined (gives_words (if_some bare_type f.result)) (gives_words f.result) (body_words (bare_body f.body)) (body_words f.body) (gives_alike f.result) (body_alike f.body)))
decl_alike (decl.Comp f) =
    ap (λ l. lexeme.Keyword keyword.Fun ∷ lexeme.Keyword keyword.Comp ∷ lexeme.Name f.name.name ∷ l)
    (joined (params_words (map bare_field f.params)) (params_words f.params) (comp_words (bare_comp f.body)) (comp_words f.body) (params_alike f.params) (comp_alike f.body))

lines_same : (ds : List Decl) → decl_lines (map bare_decl ds) ≡ decl_lines ds
lines_same [] = refl
lines_same (d ∷ ds) = ap₂ (λ l m. l ++ m) (same_line (decl_words (bare_decl d)) (decl_words d) (decl_alike d)) (lines_same ds)

stream_alike : (w : Keyword) (t : TypeExpr) → Alike (stream_words w (bare_type t)) (stream_words w t)
stream_alike w t =
    ap (λ l. lexeme.Keyword w ∷ lexeme.Symbol symbol.LeftBracket ∷ l) (joined (type_words (bare_type t)) (type_words t) (mark symbol.RightBracket ∷ []) (mark symbol.RightBracket ∷ []) (type_alike t) refl)

main_alike : (p : Prog) → Alike (main_words (bare p)) (main_words p)
main_alike p =
    let write : List Token = mark symbol.Pipe ∷ stream_words keyword.Write (bare_type p.output) in
    let wrote : List Token = mark symbol.Pipe ∷ stream_words keyword.Write p.output in
    ap (λ l. lexeme.Keyword keyword.Let ∷ lexeme.Keyword keyword.Comp ∷ lexeme.Name main_bytes ∷ lexeme.Symbol symbol.Equal ∷ l)
    (joined (stream_words keyword.Read (bare_type p.input)) (stream_words keyword.Read p.input) (mark symbol.Pipe ∷ (comp_words (bare_comp p.main) ++ write)) (mark symbol.Pipe ∷ (comp_words p.main ++ wrote)) (stream_alike keyword.Read p.input)
    (ap (λ l. lexeme.Symbol symbol.Pipe ∷ l)
    (joined (comp_words (bare_comp p.main)) (comp_words p.main) write wrote (comp_alike p.main) (ap (λ l. lexeme.Symbol symbol.Pipe ∷ l) (stream_alike keyword.Write p.output)))))

pub text_bare : (p : Prog) → canonical_text (bare p) ≡ canonical_text p
text_bare p = ap₂ (λ l m. l ++ m) (lines_same p.declarations) (same_line (main_words (bare p)) (main_words p) (main_alike p))

pub text_same : (p q : Prog) → bare q ≡ bare p → canonical_text q ≡ canonical_text p
text_same p q e = sym (text_bare q) ∙ ap canonical_text e ∙ text_bare p
