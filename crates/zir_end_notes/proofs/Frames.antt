-- The texts of values, by their parts in a list.
use Rattle.std.proofs.Common.{◌≡◌, ℕ, zero, suc, ◌+◌, add-one, List, [], ◌∷◌, ◌++◌, Option, Some, None, Bor, drop, refl, sym, ap, ◌∙◌, append_assoc}
use Rattle.std.specs.Prelude.{codes, slice_get}
use Rattle.std.specs.Option.{option_map}
use denote.Hole.Carrier.{hidden}
use Rattle.zir_tree.specs.declared.types.Base.{Base}
use Rattle.zir_tree.specs.declared.types.FieldDef.{FieldDef}
use Rattle.zir_tree.specs.declared.types.StructDef.{StructDef}
use Rattle.zir_tree.specs.declared.value.Val.{Val, List as ListVal}
use Rattle.zir_tree.specs.declared.value.Val.TheBlock.{shape-the_row-Val-0, hidden-the_row-Val-0}
use Rattle.zir_meaning.specs.Notes.{value_text, part_texts, field_texts, struct_of, with_commas}
use Rattle.zir_end_notes.specs.declared.values.Kind.{Kind}
use Rattle.zir_end_notes.specs.declared.values.PartKinds.TheVariants.{Elements, Fields}
use Rattle.zir_end_notes.specs.Parts.{field_at, text_before, texts_from}

-- the elements of an array
elements_are : (structs : List StructDef) (kind : Kind) (i : ℕ) (vs : List Val) → texts_from structs (Elements kind) i vs ≡ part_texts structs kind.lengths.now kind.base (hidden-the_row-Val-0 vs)
unfolding shape-the_row-Val-0 hidden-the_row-Val-0 hidden
elements_are structs kind i [] = refl
elements_are structs kind i (v ∷ vs) = ap (λ l. value_text structs kind.lengths.now kind.base v ∷ l) (elements_are structs kind (i + 1) vs)

pub array_frames : (structs : List StructDef) (kind : Kind) (n : ℕ) (vs : List Val) →
    codes "{" ++ (with_commas (texts_from structs (Elements kind) 0 vs) ++ codes "}") ≡ value_text structs (n ∷ kind.lengths.now) kind.base (ListVal vs)
unfolding shape-the_row-Val-0 hidden-the_row-Val-0 hidden
array_frames structs kind n vs = ap (λ l. codes "{" ++ (with_commas l ++ codes "}")) (elements_are structs kind 0 vs)

-- the first of some fields
abbrev first_of : List FieldDef → Option FieldDef
first_of [] = None
first_of (field ∷ fields) = Some field

-- those behind the first
abbrev behind_first : List FieldDef → List FieldDef
behind_first [] = []
behind_first (field ∷ fields) = fields

get_first : (fields : List FieldDef) (i : ℕ) → slice_get fields i ≡ first_of (drop i fields)
get_first [] zero = refl
get_first [] (suc i) = refl
get_first (field ∷ fields) zero = refl
get_first (field ∷ fields) (suc i) = get_first fields i

drop_behind : (fields : List FieldDef) (i : ℕ) → behind_first (drop i fields) ≡ drop (suc i) fields
drop_behind [] zero = refl
drop_behind [] (suc i) = refl
drop_behind (field ∷ fields) zero = refl
drop_behind (field ∷ fields) (suc i) = drop_behind fields i

-- one field more
field_more : (structs : List StructDef) (fields rest : List FieldDef) (i : ℕ) (v : Val) (vs : List Val) (texts : List (List ℕ)) → slice_get fields i ≡ first_of rest
    → texts ≡ field_texts structs (behind_first rest) (hidden-the_row-Val-0 vs) → text_before structs (field_at fields i) v texts ≡ field_texts structs rest (hidden-the_row-Val-0 (v ∷ vs))
unfolding shape-the_row-Val-0 hidden-the_row-Val-0 hidden
field_more structs fields [] i v vs texts is more = ap (λ o. text_before structs (option_map (λ f. (f.ty.lengths, f.ty.base)) o) v texts) is
field_more structs fields (field ∷ rest) i v vs texts is more =
    ap (λ o. text_before structs (option_map (λ f. (f.ty.lengths, f.ty.base)) o) v texts) is ∙ ap (λ l. value_text structs field.ty.lengths field.ty.base v ∷ l) more

-- the fields of a struct, from one on
fields_are : (structs : List StructDef) (fields : Bor (List FieldDef)) (i : ℕ) (vs : List Val) → texts_from structs (Fields fields) i vs ≡ field_texts structs (drop i fields.now) (hidden-the_row-Val-0 vs)
unfolding shape-the_row-Val-0 hidden-the_row-Val-0 hidden
fields_are structs fields i [] = refl
fields_are structs fields i (v ∷ vs) =
    field_more structs fields.now (drop i fields.now) i v vs (texts_from structs (Fields fields) (i + 1) vs) (get_first fields.now i)
    (fields_are structs fields (i + 1) vs ∙ ap (λ fs. field_texts structs fs (hidden-the_row-Val-0 vs)) (ap (λ j. drop j fields.now) (add-one i) ∙ sym (drop_behind fields.now i)))

round : (name before texts close : List ℕ) → name ++ (before ++ (texts ++ close)) ≡ ((name ++ before) ++ texts) ++ close
round name before texts close = sym (append_assoc name before (texts ++ close)) ∙ sym (append_assoc (name ++ before) texts close)

pub struct_frames : (structs : List StructDef) (base : Base) (name : List ℕ) (fields : Bor (List FieldDef)) (vs : List Val) → name ≡ (struct_of structs base).name → fields.now ≡ (struct_of structs base).fields →
    name ++ (codes "(" ++ (with_commas (texts_from structs (Fields fields) 0 vs) ++ codes ")")) ≡ value_text structs [] base (ListVal vs)
unfolding shape-the_row-Val-0 hidden-the_row-Val-0 hidden
struct_frames structs base name fields vs named has =
    ap (λ l. name ++ (codes "(" ++ (with_commas l ++ codes ")"))) (fields_are structs fields 0 vs ∙ ap (λ fs. field_texts structs fs (hidden-the_row-Val-0 vs)) has)
    ∙ ap (λ l. l ++ (codes "(" ++ (with_commas (field_texts structs (struct_of structs base).fields (hidden-the_row-Val-0 vs)) ++ codes ")"))) named
    ∙ round (struct_of structs base).name (codes "(") (with_commas (field_texts structs (struct_of structs base).fields (hidden-the_row-Val-0 vs))) (codes ")")
