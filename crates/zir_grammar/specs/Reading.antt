-- What a function that reads a part of a program says: it makes the same steps, whatever is expected behind the part.
use Rattle.std.specs.Prelude.{◌≡◌, ◌≤◌, ℕ, nat_le, List, [], ◌∷◌, ◌++◌, Option, Some, None, Result, Ok, Err}
use Rattle.zir_lex.specs.declared.token.Token.{Token}
use Rattle.zir_tree.specs.declared.program.Prog.{Prog}
use Rattle.zir_grammar.specs.declared.error.ParseError.{ParseError}
use Rattle.zir_grammar.specs.declared.error.ParseError.TheVariants as errors
use Rattle.zir_tree.specs.declared.place.Place.{Place}
use Rattle.zir_tree.specs.declared.types.Base.{Base}
use Rattle.zir_tree.specs.declared.types.Dimension.{Dimension}
use Rattle.zir_tree.specs.declared.types.TypeExpr.{TypeExpr}
use Rattle.zir_grammar.specs.Grammar.{base_of, conversion_of}
use Rattle.zir_grammar.specs.Wants.{Want, a_type, a_conversion, Payload, told, if_found}
use Rattle.zir_grammar.specs.Parts.{Rest, known}
use Rattle.zir_grammar.specs.Machine.{least}
use Rattle.zir_grammar.specs.declared.stop.Stop.{Stop}
use Rattle.zir_grammar.specs.declared.stop.Stop.TheVariants.{Syntax, TooDeep, Memory}

-- what a function found is what is there
abbrev pub Finds : {X Y : Type 0} → (X → Y) → Option X → Option Y → Type 0
Finds view (Some x) there = there ≡ Some (view x)
Finds view None there = there ≡ None

-- what the first token tells, if it is of that kind, and what follows it
unfoldable pub at_front : (w : Want) → List Token → Option (Payload w × List Token)
at_front w [] = None
at_front w (t ∷ ts) = if_found (told w t) (λ p. Some (p, ts)) None

-- the answer has this cause, unless memory ran out
abbrev pub IsStop : Stop → Result Prog ParseError → Type 0
IsStop (Syntax left) answer = answer ≡ Err (errors.Syntax left)
IsStop (TooDeep left) answer = answer ≡ Err (errors.TooDeep left)
IsStop Memory answer = Unit {0}

-- what a function returned for a part leads to this answer
abbrev pub Leads : {X : Type 0} → (X → Result Prog ParseError) → Result X Stop → Result Prog ParseError → Type 0
Leads onward (Ok x) answer = answer ≡ onward x
Leads onward (Err stop) answer = IsStop stop answer

-- a part that is at least so high may be so high and no higher before what is expected behind it
abbrev pub HasRoom : {A : Type 0} → ℕ → (A → ℕ → Rest Prog) → ℕ → ℕ → Type 0
HasRoom {A = A} most k low room = (a : A) (h : ℕ) → low ≤ h → nat_le (least (k a h)) most ≡ nat_le h room

-- the type that a word at the front names or converts to, its place, and what follows it
unfoldable pub base_front : List Token → Option (Base × Place × List Token)
base_front ts = if_found (at_front a_type ts) (λ f. Some (known (base_of f.0.0), f.0.1, f.1)) None

unfoldable pub conversion_front : List Token → Option (Base × Place × List Token)
conversion_front ts = if_found (at_front a_conversion ts) (λ f. Some (known (conversion_of f.0.0), f.0.1, f.1)) None

-- the first place, if there is one before
abbrev pub place_or : Option Place → Place → Place
place_or None at = at
place_or (Some first) at = first

-- a type in arrays of these dimensions, at the place of the first of them
abbrev pub nested : List Dimension → Option Place → TypeExpr → TypeExpr
nested dimensions first t = record { dimensions = dimensions ++ t.dimensions; base = t.base; name = t.name; at = place_or first t.at }
