-- The canonical tokens of a program read as it again, no higher than any tokens of it.
use Rattle.std.proofs.Common.{◌≡◌, ℕ, max, ◌≤◌, List, [], ◌∷◌, ◌++◌, Option, refl, sym, ap, ◌∙◌, subst, arith, append_assoc, append-nil}
use Rattle.std.specs.Prelude.{map}
use Rattle.zir_tree.specs.declared.place.Place.{Place}
use Rattle.zir_tree.specs.declared.types.TypeExpr.{TypeExpr}
use Rattle.zir_tree.specs.declared.types.Field.{Field}
use Rattle.zir_tree.specs.declared.stmt.Var.{Var}
use Rattle.zir_tree.specs.declared.stmt.Body.{Body}
use Rattle.zir_tree.specs.declared.comp.Comp.{Comp}
use Rattle.zir_tree.specs.declared.program.Decl.{Decl}
use Rattle.zir_tree.specs.declared.program.Decl.TheVariants as decl
use Rattle.zir_tree.specs.declared.program.Prog.{Prog}
use Rattle.zir_lex.specs.declared.token.Token.{Token}
use Rattle.zir_lex.specs.declared.token.Keyword.{Keyword}
use Rattle.zir_lex.specs.declared.token.Keyword.TheVariants as keyword
use Rattle.zir_lex.specs.declared.token.Symbol.{Symbol}
use Rattle.zir_lex.specs.declared.token.Symbol.TheVariants as symbol
use Rattle.zir_grammar.specs.Grammar.{word, name, ident, main_bytes, IsMoreFields, last_field, more_fields, IsParams, no_params, params, IsResult, no_result, result, IsDecl, declares_var, declares_struct, declares_function, declares_comp, IsDecls, no_decl, more_decls, IsProg, program}
use Rattle.zir_grammar.specs.Claim.{IsLowProg}
use Rattle.zir_print.specs.Marks.{nowhere, mark, link_word, parted, enclosed}
use Rattle.zir_print.specs.Types.{type_words, field_words}
use Rattle.zir_print.specs.Statements.{var_words, body_words}
use Rattle.zir_print.specs.Components.{comp_words}
use Rattle.zir_print.specs.Canonical.{gives_words, decl_words, stream_words, main_words, decls_words, canonical}
use Rattle.zir_print.proofs.Lists.{Low, AllLow, all_more, tallest, tallest_low, enclosed_rest, braced_rest}
use Rattle.zir_print.proofs.TypeLaw.{type_own, AllFields, field_own, fields_all, some_fields}
use Rattle.zir_print.proofs.StmtLaw.{OwnVar, var_low, OwnBody, body_low}
use Rattle.zir_print.proofs.CompLaw.{OwnBlock, block_low, comp_low}

-- ---- parts of declarations

params_read : (fs : List Field) → AllFields fs → (rest : List Token) → IsParams fs (parted (mark symbol.Comma) (map field_words fs) ++ mark symbol.RightParenthesis ∷ rest) rest
params_read [] all rest = no_params
params_read (f ∷ fs) all rest = let x = some_fields symbol.Comma symbol.RightParenthesis f fs rest all in params x.is x.more

params_all : {fs : List Field} {ts rest : List Token} → IsParams fs ts rest → AllFields fs
params_all no_params = tt
params_all (params x more) = fields_all more (field_own x, tt)

result_read : {t : Option TypeExpr} {ts mid : List Token} → IsResult t ts mid → (rest : List Token) → IsResult t (gives_words t ++ rest) rest
result_read no_result rest = no_result
result_read (result x) rest = result (type_own x rest)

-- ---- declarations

abbrev OwnDecl : Decl → ℕ → Type 0
OwnDecl d g = (rest : List Token) → IsDecl d g (decl_words d ++ rest) rest

var_decl : {v : Var} {h : ℕ} → Low OwnVar h v → Low OwnDecl h (decl.Var v)
var_decl {v = v} z = record {
  height = z.height;
  own = λ rest. subst (λ w. IsDecl (decl.Var v) z.height w rest) (sym (append_assoc (var_words v) (mark symbol.Semicolon ∷ []) rest)) (declares_var (z.own (mark symbol.Semicolon ∷ rest)));
  low = z.low;
}

struct_at : (x : List ℕ) (p q : Place) (f : Field) (fs : List Field) → AllFields (f ∷ fs) → Low OwnDecl 0 (decl.Struct (record { name = ident x q; fields = f ∷ fs; at = p }))
struct_at x p q f fs all = record {
  height = 0;
  own = λ rest.
      let y = some_fields symbol.Semicolon symbol.RightBrace f fs rest all in
      subst (λ w. IsDecl (decl.Struct (record { name = ident x q; fields = f ∷ fs; at = p })) 0 (word keyword.Struct p ∷ name x q ∷ mark symbol.Equal ∷ w) rest)
      (sym (braced_rest nowhere (parted (mark symbol.Semicolon) (map field_words (f ∷ fs))) rest)) (declares_struct y.is y.more);
  low = omega arith;
}

struct_from : (x : List ℕ) (p q : Place) (fs : List Field) (f : Field) (ds : List Field) → fs ≡ f ∷ ds → AllFields fs → Low OwnDecl 0 (decl.Struct (record { name = ident x q; fields = fs; at = p }))
struct_from x p q fs f ds is all = subst (λ l. Low OwnDecl 0 (decl.Struct (record { name = ident x q; fields = l; at = p }))) (sym is) (struct_at x p q f ds (subst (λ l. AllFields l) is all))

function_low : {h : ℕ} {b : Body} {t : Option TypeExpr} {us vs : List Token} (x : List ℕ) (p q : Place) (fs : List Field) → AllFields fs → IsResult t us vs → Low OwnBody h b
    → Low OwnDecl h (decl.Function (record { name = ident x q; params = fs; result = t; body = b; at = p }))
function_low {b = b} {t = t} x p q fs all r z = record {
  height = z.height;
  own = λ rest.
      let ps : List Token = parted (mark symbol.Comma) (map field_words fs) in
      let more : List Token = gives_words t ++ body_words b in
      subst (λ w. IsDecl (decl.Function (record { name = ident x q; params = fs; result = t; body = b; at = p })) z.height (word keyword.Fun p ∷ name x q ∷ w) rest)
      (sym (append_assoc (enclosed ps) more rest ∙ enclosed_rest ps (more ++ rest)))
      (declares_function (params_read fs all (more ++ rest))
      (subst (λ w. IsResult t w (body_words b ++ rest)) (sym (append_assoc (gives_words t) (body_words b) rest)) (result_read r (body_words b ++ rest))) (z.own rest));
  low = z.low;
}

comp_decl_low : {h : ℕ} {c : Comp} (x : List ℕ) (p q : Place) (fs : List Field) → AllFields fs → Low OwnBlock h c → Low OwnDecl h (decl.Comp (record { name = ident x q; params = fs; body = c; at = p }))
comp_decl_low {c = c} x p q fs all z = record {
  height = z.height;
  own = λ rest.
      let ps : List Token = parted (mark symbol.Comma) (map field_words fs) in
      subst (λ w. IsDecl (decl.Comp (record { name = ident x q; params = fs; body = c; at = p })) z.height (word keyword.Fun p ∷ link_word keyword.Comp ∷ name x q ∷ w) rest)
      (sym (append_assoc (enclosed ps) (comp_words c) rest ∙ enclosed_rest ps (comp_words c ++ rest)))
      (declares_comp (params_read fs all (comp_words c ++ rest)) (z.own rest));
  low = z.low;
}

-- a list that begins so still does
begins_with : {between closing : Symbol} {done fs : List Field} {ts rest : List Token} (d : Field) (ds : List Field) → IsMoreFields between closing done fs ts rest → done ≡ d ∷ ds
    → (es : List Field) × (fs ≡ d ∷ es)
begins_with d ds last_field is = (ds, is)
begins_with d ds (more_fields {f = f} x more) is = begins_with d (ds ++ f ∷ []) more (ap (λ l. l ++ f ∷ []) is)

decl_low : {d : Decl} {h : ℕ} {ts rest : List Token} → IsDecl d h ts rest → Low OwnDecl h d
decl_low (declares_var v) = var_decl (var_low v)
decl_low (declares_struct {x = x} {f = f} {fs = fs} {at = p} {here = q} y more) = let s = begins_with f [] more refl in struct_from x p q fs f s.0 s.1 (fields_all more (field_own y, tt))
decl_low (declares_function {x = x} {fs = fs} {at = p} {here = q} ps r b) = function_low x p q fs (params_all ps) r (body_low b)
decl_low (declares_comp {x = x} {fs = fs} {at = p} {here = q} ps c) = comp_decl_low x p q fs (params_all ps) (block_low c)

-- ---- programs

decls_low : {done ds : List Decl} {low h : ℕ} {ts rest : List Token} → IsDecls done low ds h ts rest → AllLow OwnDecl low done → AllLow OwnDecl h ds
decls_low no_decl all = all
decls_low (more_decls {done = done} {d = d} {low = low} {h = h} x more) all = decls_low more (all_more OwnDecl low h done d all (decl_low x))

decls_read : (h : ℕ) (done ds : List Decl) (low : ℕ) (rest : List Token) (all : AllLow OwnDecl h ds) → IsDecls done low (done ++ ds) (tallest OwnDecl h low ds all) (decls_words ds ++ rest) rest
decls_read h done [] low rest all = subst (λ l. IsDecls done low l low rest rest) (sym (append-nil done)) no_decl
decls_read h done (d ∷ ds) low rest (x, all) =
    let g : ℕ = tallest OwnDecl h (max low x.height) ds all in
    subst (λ w. IsDecls done low (done ++ d ∷ ds) g w rest) (sym (append_assoc (decl_words d) (decls_words ds) rest))
    (more_decls (x.own (decls_words ds ++ rest))
    (subst (λ l. IsDecls (done ++ d ∷ []) (max low x.height) l g (decls_words ds ++ rest) rest) (append_assoc done (d ∷ []) ds) (decls_read h (done ++ d ∷ []) ds (max low x.height) rest all)))

-- the tokens behind `read` or `write`, before a rest
stream_rest : (w : Keyword) (t : TypeExpr) (rest : List Token) → stream_words w t ++ rest ≡ link_word w ∷ mark symbol.LeftBracket ∷ (type_words t ++ mark symbol.RightBracket ∷ rest)
stream_rest w t rest = ap (λ l. link_word w ∷ mark symbol.LeftBracket ∷ l) (append_assoc (type_words t) (mark symbol.RightBracket ∷ []) rest)

program_low : {most h : ℕ} {tokens : List Token} {p : Prog} → h ≤ most → IsProg tokens p h → IsLowProg most (canonical p) p
program_low {most = most} le (program {ds = ds} {from = from} {to = to} {c = c} {low = low} {h = h} {at = p} decls input main output) =
    let all : AllLow OwnDecl low ds = decls_low decls tt in
    let z = comp_low main in
    let a = z.low in
    let b = tallest_low OwnDecl low 0 ds all (omega arith) in
    let writes : List Token = stream_words keyword.Write to in
    let behind : List Token = mark symbol.Pipe ∷ writes in
    let body : List Token = comp_words c ++ behind in
    let regrouped : stream_words keyword.Read from ++ mark symbol.Pipe ∷ body ≡ link_word keyword.Read ∷ mark symbol.LeftBracket ∷ (type_words from ++ mark symbol.RightBracket ∷ mark symbol.Pipe ∷ body) =
    stream_rest keyword.Read from (mark symbol.Pipe ∷ body) in
    let q : Prog = record { declarations = ds; input = from; main = c; output = to; at = p } in
    record {
      height = max (tallest OwnDecl low 0 ds all) z.height;
      low = omega (arith, a, b, le);
      is = program
          (subst (λ w. IsDecls [] 0 ds (tallest OwnDecl low 0 ds all) (canonical q) (word keyword.Let p ∷ link_word keyword.Comp ∷ name main_bytes nowhere ∷ mark symbol.Equal ∷ w)) regrouped
          (decls_read low [] ds 0 (main_words q) all))
          (type_own input (mark symbol.RightBracket ∷ mark symbol.Pipe ∷ body))
          (z.own behind)
          (type_own output (mark symbol.RightBracket ∷ []));
    }

-- the tokens of the canonical form of a program are that program, and its height with them is no greater than with any others
pub canonical_low : {most : ℕ} {tokens : List Token} {p : Prog} → IsLowProg most tokens p → IsLowProg most (canonical p) p
canonical_low x = program_low x.low x.is
