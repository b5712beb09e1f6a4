-- Declarations and programs as they are read.
use Rattle.std.proofs.Common.{◌≡◌, ◌≤◌, ℕ, max, nat_le, Bool, true, false, List, [], ◌∷◌, ◌++◌, Option, Some, None, refl, ap, ◌∙◌, arith, if◌then◌else◌}
use Rattle.zir_tree.specs.declared.place.Place.{Place}
use Rattle.zir_tree.specs.declared.types.TypeExpr.{TypeExpr}
use Rattle.zir_tree.specs.declared.comp.Comp.{Comp}
use Rattle.zir_tree.specs.declared.program.Decl.{Decl}
use Rattle.zir_tree.specs.declared.program.Prog.{Prog}
use Rattle.zir_lex.specs.declared.token.Token.{Token}
use Rattle.std.specs.Str.{bytes_eq}
use Rattle.zir_lex.specs.declared.token.Lexeme.{Lexeme}
use Rattle.zir_lex.specs.declared.token.Lexeme.TheVariants as lexeme
use Rattle.zir_lex.specs.declared.token.Keyword.TheVariants as keyword
use Rattle.zir_lex.specs.declared.token.Symbol.TheVariants as symbol
use Rattle.zir_grammar.specs.Grammar.{name, main_bytes}
use Rattle.zir_grammar.specs.Wants.{a_sign, a_word, a_name, the_main, told, if_found}
use Rattle.zir_grammar.specs.Parts.{Rest, gives, wants, reads, follow, wants_sign, wants_word, a_type_part, a_chain, a_result, behind_main, function_rest, comp_rest, entries}
use Rattle.zir_grammar.specs.Machine.{least, run}
use Rattle.zir_grammar.specs.Reading.{at_front, HasRoom}
use Rattle.zir_grammar.proofs.Descent.{taken, left_out, wanted, by_token, fits, same_test, front_is, front_none}
use Rattle.zir_grammar.proofs.Tables.{not_first}
use Rattle.zir_parse.specs.declared.heads.Declares.TheVariants as declares
use Rattle.zir_parse.specs.Heads.{a_decl_behind, a_function_behind, a_comp_behind}
use Rattle.zir_parse.proofs.Steps.{only_first, only_second, other_kind}
use Rattle.zir_parse.proofs.HeadSteps.{next_decl}

-- ---- declarations

pub decl_room : (most room : ℕ) (done : List Decl) (low : ℕ) (k : List Decl → ℕ → Rest Prog) → HasRoom most k 0 room → low ≤ room
    → HasRoom most (next_decl done low k) 0 room
decl_room most room done low k has small d h above =
    has (done ++ d ∷ []) (max low h) (omega arith) ∙ same_test (max low h) room h room (λ x. omega arith) (λ x. omega arith)

-- what is as high as its one part
pub part_room : {A B : Type 0} (most low own room : ℕ) (k : B → ℕ → Rest Prog) (g : A → B) → HasRoom most k low room → low ≤ own
    → HasRoom most (λ a h. k (g a) h) own room
part_room most low own room k g has within a h above = has (g a) h (omega (arith, within, above))

pub comp_begins : (most room : ℕ) (at : Place) (k : Decl → ℕ → Rest Prog) (ts : List Token) (here : Place) (rest : List Token)
    → at_front (a_word keyword.Comp) ts ≡ Some (here, rest) → HasRoom most k 0 room → 2 ≤ room
    → run most (a_decl_behind declares.Function at k) ts ≡ run most (a_comp_behind at k) rest
comp_begins most room at k ts here rest e has two =
    only_second most a_name (λ x. follow (function_rest at x) k) (a_word keyword.Comp) (λ p. follow (comp_rest at) k) ts
    (other_kind (a_word keyword.Comp) a_name ts here rest e refl)
    ∙ wanted most (a_word keyword.Comp) (λ p. follow (comp_rest at) k) ts here rest e (fits most k 0 room _ 2 has (omega arith) two)

pub function_begins : (most : ℕ) (at : Place) (k : Decl → ℕ → Rest Prog) (ts : List Token) → at_front (a_word keyword.Comp) ts ≡ None
    → run most (a_decl_behind declares.Function at k) ts ≡ run most (a_function_behind at k) ts
function_begins most at k ts none =
    only_first most a_name (λ x. follow (function_rest at x) k) (a_word keyword.Comp) (λ p. follow (comp_rest at) k) ts none

pub no_result : (most : ℕ) (k : Option TypeExpr → ℕ → Rest Prog) (ts : List Token) → at_front (a_sign symbol.Colon) ts ≡ None
    → run most (reads a_result k) ts ≡ run most (k None 0) ts
no_result most k ts none = left_out most a_result k ts refl (none, tt)

pub result_begins : (most : ℕ) (k : Option TypeExpr → ℕ → Rest Prog) (ts : List Token) (at : Place) (rest : List Token)
    → at_front (a_sign symbol.Colon) ts ≡ Some (at, rest) → ((t : Option TypeExpr) → nat_le (least (k t 0)) most ≡ true)
    → run most (reads a_result k) ts ≡ run most (reads a_type_part (λ t h. k (Some t) 0)) rest
result_begins most k ts at rest e low =
    taken most a_result k (a_sign symbol.Colon) ts at rest (reads a_type_part (λ t h. gives (Some t) 0)) e
    (by_token (entries a_result) (a_sign symbol.Colon) at _ refl) (low _)

-- ---- the program

-- a program of these parts
abbrev pub ended : List Decl → ℕ → Place → TypeExpr → Comp × TypeExpr → ℕ → Rest Prog
ended ds low at from whole h = gives (record { declarations = ds; input = from; main = whole.0; output = whole.1; at = at }) (max low h)

-- behind the input type
abbrev pub main_part : List Decl → ℕ → Place → TypeExpr → Rest Prog
main_part ds low at from = reads (a_chain 0) (λ c g. reads (behind_main None c g) (ended ds low at from))

abbrev pub input_then : List Decl → ℕ → Place → TypeExpr → Rest Prog
input_then ds low at from = wants_sign symbol.Pipe (main_part ds low at from)

-- behind the word `read`, behind `main`, and behind `let`
abbrev pub behind_read : List Decl → ℕ → Place → Rest Prog
behind_read ds low at = wants_sign symbol.LeftBracket (reads a_type_part (λ from f. wants_sign symbol.RightBracket (input_then ds low at from)))

abbrev pub behind_name : List Decl → ℕ → Place → Rest Prog
behind_name ds low at = wants_sign symbol.Equal (wants_word keyword.Read (behind_read ds low at))

abbrev pub behind_let : List Decl → ℕ → Place → Rest Prog
behind_let ds low at = wants_word keyword.Comp (wants the_main (λ here. behind_name ds low at))

pub let_room : (most : ℕ) → 1 ≤ most → HasRoom most (λ ds low. wants (a_word keyword.Let) (λ at. behind_let ds low at)) 0 most
let_room most some ds low above = same_test (max low 1) most low most (λ x. omega arith) (λ x. omega arith)

pub main_room : (most : ℕ) (ds : List Decl) (low : ℕ) (at : Place) (from : TypeExpr) → low ≤ most → HasRoom most (ended ds low at from) 1 most
main_room most ds low at from small whole h above = same_test (max low h) most h most (λ x. omega arith) (λ x. omega arith)

pub main_fits : (most low : ℕ) → low ≤ most → 1 ≤ most → nat_le (max low 1) most ≡ true
main_fits most low small some = grind (arith, small, some)

pub whole_fits : (most low h : ℕ) → low ≤ most → h ≤ most → nat_le (max low h) most ≡ true
whole_fits most low h small high = grind (arith, small, high)

-- ---- the name `main`

main_told : (x : List ℕ) (at : Place) (ts : List Token) (b : Bool) → bytes_eq x main_bytes ≡ b
    → at_front the_main (name x at ∷ ts) ≡ (if b then Some (at, ts) else None)
unfolding at_front
main_told x at ts true e = ap (λ c. if_found (if c then Some at else None) (λ (q : Place). Some (q, ts)) None) e
main_told x at ts false e = ap (λ c. if_found (if c then Some at else None) (λ (q : Place). Some (q, ts)) None) e

named_main : (ts : List Token) (x : List ℕ) (at : Place) (rest : List Token) (b : Bool) → at_front a_name ts ≡ Some ((x, at), rest)
    → bytes_eq x main_bytes ≡ b
    → at_front the_main ts ≡ (if b then Some (at, rest) else None)
named_main ts x at rest b e is =
    let f = front_is a_name ts (x, at) rest e in
    ap (at_front the_main) (f.is ∙ ap (λ t. t ∷ rest) f.stands) ∙ main_told x at rest b is

pub main_stands : (ts : List Token) (x : List ℕ) (at : Place) (rest : List Token) → at_front a_name ts ≡ Some ((x, at), rest)
    → bytes_eq x main_bytes ≡ true → at_front the_main ts ≡ Some (at, rest)
main_stands ts x at rest e is = named_main ts x at rest true e is

pub main_differs : (ts : List Token) (x : List ℕ) (at : Place) (rest : List Token) → at_front a_name ts ≡ Some ((x, at), rest)
    → bytes_eq x main_bytes ≡ false → at_front the_main ts ≡ None
main_differs ts x at rest e is = named_main ts x at rest false e is

not_main : (l : Lexeme) (at : Place) → told a_name (record { lexeme = l; at = at }) ≡ None → told the_main (record { lexeme = l; at = at }) ≡ None
not_main (lexeme.Name x) at e = absurd (cc e)
not_main l at e = refl

pub no_main : (ts : List Token) → at_front a_name ts ≡ None → at_front the_main ts ≡ None
unfolding at_front
no_main [] e = refl
no_main (t ∷ ts) e = not_first (told the_main t) (λ (q : Place). Some (q, ts)) None None (not_main t.lexeme t.at (front_none a_name t ts e)) refl
