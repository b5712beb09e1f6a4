-- Tokens at other places, and lists of trees that are the same up to places.
use Rattle.std.proofs.Common.{◌≡◌, List, [], ◌∷◌, ◌++◌, sym, ap₂, ◌∙◌}
use Rattle.std.specs.Prelude.{map}
use Rattle.std.proofs.lemmas.List.{map-append}
use Rattle.zir_tree.specs.declared.place.Place.{Place}
use Rattle.zir_lex.specs.declared.token.Token.{Token}

-- a place for each of some tokens
abbrev pub Places : List Token → Type 0
Places [] = Unit {0}
Places (t ∷ ts) = Place × Places ts

-- the same lexemes at these places
abbrev pub placed : (ts : List Token) → Places ts → List Token
placed [] ps = []
placed (t ∷ ts) ps = record { lexeme = t.lexeme; at = ps.0 } ∷ placed ts ps.1

-- a form that other tokens spell up to those at these places, and that is the same without its places
pub record Again {A : Type 0} (bare_of : A → A) (Is : A → List Token → List Token → Type 0) (x : A) (us rest : List Token) : Type 0 where
  pub tree : A
  pub left : Places rest
  pub is : Is tree us (placed rest left)
  pub same : bare_of tree ≡ bare_of x

pub same_more : {A : Type 0} (f : A → A) (xs ys : List A) (x y : A) → map f xs ≡ map f ys → f x ≡ f y → map f (xs ++ x ∷ []) ≡ map f (ys ++ y ∷ [])
same_more f xs ys x y all one = map-append f xs (x ∷ []) ∙ ap₂ (λ l z. l ++ z ∷ []) all one ∙ sym (map-append f ys (y ∷ []))
