-- Searches along a list, one step at a time.
use Rattle.std.specs.Prelude.{◌≡◌, ℕ, suc, ◌+◌, ◌<◌, List, ◌∷◌, length, drop, get_or, true, false, Some, if◌then◌else◌}
use Rattle.std.specs.Str.{bytes_eq}
use Rattle.std.proofs.Common.{ap, ◌∙◌, sym, add-one, drop-cons}
use Rattle.zir_tree.specs.declared.types.FieldDef.{FieldDef}
use Rattle.zir_types.specs.declared.typed.Selected.{Selected}
use Rattle.zir_types.specs.Scope.{field_from}

-- What stands behind a place begins with what stands there.
pub at_place : {A : Type 0} (xs : List A) (n : ℕ) (x : A) → n < length xs → x ≡ get_or xs n x → drop n xs ≡ x ∷ drop (n + 1) xs
at_place xs n x h e = drop-cons xs n x h ∙ rw (add-one) (ap (λ y. y ∷ drop (suc n) xs) (sym e))

pub field_here : (fs : List FieldDef) (n : ℕ) (name : List ℕ) (f : FieldDef) → n < length fs → f ≡ get_or fs n f → bytes_eq f.name name ≡ true →
    field_from n (drop n fs) name ≡ Some (record { place = n; ty = f.ty })
field_here fs n name f h e b = ap (λ l. field_from n l name) (at_place fs n f h e) ∙ ap (λ t. if t then Some (let p : Selected = record {
  place = n;
  ty = f.ty;
} in p) else field_from (suc n) (drop (n + 1) fs) name) b

pub field_past : (fs : List FieldDef) (n : ℕ) (name : List ℕ) (f : FieldDef) → n < length fs → f ≡ get_or fs n f → bytes_eq f.name name ≡ false →
    field_from n (drop n fs) name ≡ field_from (n + 1) (drop (n + 1) fs) name
field_past fs n name f h e b =
    ap (λ l. field_from n l name) (at_place fs n f h e)
    ∙ ap (λ t. if t then Some (let p : Selected = record { place = n; ty = f.ty } in p) else field_from (suc n) (drop (n + 1) fs) name) b
    ∙ ap (λ m. field_from m (drop (n + 1) fs) name) (sym (add-one n))
