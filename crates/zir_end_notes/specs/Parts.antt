-- The parts of values: of complex numbers, of arrays and of structs.
use Rattle.std.specs.Prelude.{ℤ, ◌≡◌, ℕ, zero, suc, ◌+◌, Option, Some, None, List, [], ◌∷◌, ◌++◌, codes, slice_get}
use Rattle.std.specs.Fmt.{signed_decimal}
use Rattle.std.specs.Option.{option_map}
use Rattle.zir_tree.specs.declared.types.Base.{Base}
use Rattle.zir_tree.specs.declared.types.FieldDef.{FieldDef}
use Rattle.zir_tree.specs.declared.types.StructDef.{StructDef}
use Rattle.zir_tree.specs.declared.value.Val.{Val, List as ListVal}
use Rattle.zir_meaning.specs.Notes.{value_text, with_commas}
use Rattle.zir_end_notes.specs.declared.values.Frame.{Frame}
use Rattle.zir_end_notes.specs.declared.values.PartKinds.{PartKinds}
use Rattle.zir_end_notes.specs.declared.values.PartKinds.TheVariants.{Elements, Fields}

-- a complex number by its parts
abbrev pub pair_words : ℤ → ℤ → List ℕ
pair_words re im = codes "(" ++ with_commas (signed_decimal re ∷ signed_decimal im ∷ []) ++ codes ")"

-- the type of the field at a place
abbrev pub field_at : List FieldDef → ℕ → Option (List ℕ × Base)
field_at fields i = option_map (λ field. (field.ty.lengths, field.ty.base)) (slice_get fields i)

-- the type of the part at a place, by its lengths and what the innermost holds
abbrev pub kind_at : PartKinds → ℕ → Option (List ℕ × Base)
kind_at (Elements kind) i = Some (kind.lengths.now, kind.base)
kind_at (Fields fields) i = field_at fields.now i

-- the text of a part before others, and none where it has no type
abbrev pub text_before : List StructDef → Option (List ℕ × Base) → Val → List (List ℕ) → List (List ℕ)
text_before structs None v texts = []
text_before structs (Some kind) v texts = value_text structs kind.0 kind.1 v ∷ texts

-- the texts of parts, the first of which has this place
abbrev pub texts_from : List StructDef → PartKinds → ℕ → List Val → List (List ℕ)
texts_from structs kinds i [] = []
texts_from structs kinds i (v ∷ vs) = text_before structs (kind_at kinds i) v (texts_from structs kinds (i + 1) vs)

-- the comma before a part with this place
abbrev pub comma_before : ℕ → List ℕ
comma_before zero = []
comma_before (suc i) = codes ","

-- the texts of parts with commas between them, and what stands round them
abbrev pub framed : List StructDef → Frame → List Val → List ℕ
framed structs frame vs = frame.name.now ++ (frame.before.now ++ (with_commas (texts_from structs frame.kinds 0 vs) ++ frame.behind.now))

-- what stands round the texts of parts makes them the text of a value of this type
abbrev pub Frames : List StructDef → List ℕ → Base → Frame → Type 0
Frames structs lengths base frame = (vs : List Val) → framed structs frame vs ≡ value_text structs lengths base (ListVal vs)
