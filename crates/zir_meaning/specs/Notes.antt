-- What the notes say of how a run ended, byte for byte.
use Rattle.std.specs.Prelude.{ℕ, Bool, true, false, List, [], ◌∷◌, ◌++◌, codes, decimal, slice_index_or}
use Rattle.std.specs.Fmt.{signed_decimal}
use Rattle.std.specs.List.{join_with_byte}
use Rattle.zir_tree.specs.declared.ends.Trap.{Trap}
use Rattle.zir_tree.specs.declared.place.Place.{Place}
use Rattle.zir_tree.specs.declared.types.Base.{Base}
use Rattle.zir_tree.specs.declared.types.Base.TheVariants.{Struct}
use Rattle.zir_tree.specs.declared.types.FieldDef.{FieldDef}
use Rattle.zir_tree.specs.declared.types.StructDef.{StructDef}
use Rattle.zir_tree.specs.declared.types.Ty.{Ty}
use Rattle.zir_tree.specs.declared.value.Val.{Val, Unit as UnitVal, Bit as BitVal, Bool as BoolVal, Num, Pair, List' as ListVal', Row_of-Val, end_of-Val, more_of-Val}

-- texts with a comma between each two
abbrev pub with_commas : List (List ℕ) → List ℕ
with_commas texts = join_with_byte 44 texts

-- a bit as a program spells it
abbrev pub bit_text : Bool → List ℕ
bit_text false = codes "'0"
bit_text true = codes "'1"

-- a truth value as a program spells it
abbrev pub truth_text : Bool → List ℕ
truth_text false = codes "false"
truth_text true = codes "true"

-- a struct without a name and without fields, for types that are none
abbrev pub no_struct : StructDef
no_struct = record { name = []; fields = [] }

-- the struct of a type, among all structs
abbrev pub struct_of : List StructDef → Base → StructDef
struct_of structs (Struct k) = slice_index_or structs k no_struct
struct_of structs base = no_struct

-- a value by its type, which is arrays of some lengths, the outermost first, of what is no array
abbrev mutual
  pub value_text : List StructDef → List ℕ → Base → Val → List ℕ
  value_text structs lengths base UnitVal = codes "()"
  value_text structs lengths base (BitVal b) = bit_text b
  value_text structs lengths base (BoolVal b) = truth_text b
  value_text structs lengths base (Num z) = signed_decimal z
  value_text structs lengths base (Pair re im) = codes "(" ++ with_commas (signed_decimal re ∷ signed_decimal im ∷ []) ++ codes ")"
  value_text structs (n ∷ lengths) base (ListVal' _ parts) = codes "{" ++ with_commas (part_texts structs lengths base parts) ++ codes "}"
  value_text structs [] base (ListVal' _ parts) =
      let def = struct_of structs base in
      def.name ++ codes "(" ++ with_commas (field_texts structs def.fields parts) ++ codes ")"

  -- the elements of an array
  pub part_texts : {n : _} → List StructDef → List ℕ → Base → Row_of-Val n → List (List ℕ)
  part_texts structs lengths base end_of-Val = []
  part_texts structs lengths base (more_of-Val v parts) = value_text structs lengths base v ∷ part_texts structs lengths base parts

  -- the fields of a struct, each by its own type
  pub field_texts : {n : _} → List StructDef → List FieldDef → Row_of-Val n → List (List ℕ)
  field_texts structs fields end_of-Val = []
  field_texts structs [] (more_of-Val v parts) = []
  field_texts structs (field ∷ fields) (more_of-Val v parts) = value_text structs field.ty.lengths field.ty.base v ∷ field_texts structs fields parts

-- a text as a line of its own
abbrev pub line_of : List ℕ → List ℕ
line_of text = text ++ codes "\n"

-- a line of words and a number, which stands in decimal without spare zeros
abbrev pub number_line : List ℕ → ℕ → List ℕ
number_line words n = line_of (words ++ decimal n)

-- the lines on how many elements were taken and written
abbrev pub counts_of : ℕ → ℕ → List ℕ
counts_of taken written = number_line (codes "taken ") taken ++ number_line (codes "written ") written

-- a place in a text, its line before its column
abbrev pub place_text : Place → List ℕ
place_text at = decimal at.line ++ codes ":" ++ decimal at.col

-- the note of a run that ended with this control value of a type
abbrev pub ended_note : List StructDef → Ty → Val → ℕ → ℕ → List ℕ
ended_note structs ty v taken written = line_of (codes "ended " ++ value_text structs ty.lengths ty.base v) ++ counts_of taken written

-- the note of a run that ended with its input
abbrev pub input_note : ℕ → ℕ → List ℕ
input_note taken written = line_of (codes "input ended") ++ counts_of taken written

-- the note of a run that ended with a trap in the program of this name
abbrev pub trap_note : List ℕ → Trap → ℕ → ℕ → List ℕ
trap_note name trap taken written =
    line_of (codes "trap " ++ decimal trap.code ++ codes " in " ++ name ++ codes " at " ++ place_text trap.at) ++ counts_of taken written

-- the note of a run whose budget of so many ticks was spent
abbrev pub spent_note : ℕ → ℕ → List ℕ
spent_note ticks written = number_line (codes "out of ticks ") ticks ++ number_line (codes "written ") written

-- the note of a run that needed an element where malformed input stands, behind the byte at this place
abbrev pub malformed_note : ℕ → ℕ → ℕ → List ℕ
malformed_note at taken written = number_line (codes "malformed input at ") at ++ counts_of taken written

-- the note of a run that needed an element where a read had failed
abbrev pub fault_note : List ℕ
fault_note = line_of (codes "read fault")

-- the note where a read failed while the unread input was put away
abbrev pub rest_fault_note : List ℕ
rest_fault_note = line_of (codes "read fault in rest")

-- the note where a write failed
abbrev pub write_fault_note : List ℕ
write_fault_note = line_of (codes "write fault")

-- the note where memory was refused
abbrev pub memory_note : List ℕ
memory_note = line_of (codes "out of memory")

-- the note where the unread input has more bytes than are put away
abbrev pub long_rest_note : List ℕ
long_rest_note = line_of (codes "rest too long")
