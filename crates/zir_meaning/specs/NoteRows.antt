-- Worked rows of the notes: how values are spelled and what is said of the ends of runs, computed from the definitions.
use Rattle.std.specs.Prelude.{ℕ, ◌≡◌, refl, pos, negsuc, true, false, List, [], ◌∷◌, codes}
use Rattle.std.specs.Fmt.{digits}
use denote.Hole.Carrier.{hidden}
use Rattle.zir_tree.specs.declared.types.Base.{Base}
use Rattle.zir_tree.specs.declared.types.Base.TheVariants.{Unit, Bit, Bool, Int8, Int32, Complex16, Struct}
use Rattle.zir_tree.specs.declared.types.FieldDef.{FieldDef}
use Rattle.zir_tree.specs.declared.types.StructDef.{StructDef}
use Rattle.zir_tree.specs.declared.types.Ty.{Ty}
use Rattle.zir_tree.specs.declared.value.Val.{Val, Unit as UnitVal, Bit as BitVal, Bool as BoolVal, Num, Pair, List as ListVal}
use Rattle.zir_tree.specs.declared.value.Val.TheBlock.{shape-the_row-Val-0, hidden-the_row-Val-0}
use Rattle.zir_meaning.specs.Notes.{value_text, ended_note, input_note, trap_note, spent_note, malformed_note, fault_note, rest_fault_note, write_fault_note, memory_note, long_rest_note}

-- arrays of lengths
abbrev arrays : List ℕ → Base → Ty
arrays lengths base = record { lengths = lengths; base = base }

-- a field
abbrev field : List ℕ → List ℕ → Base → FieldDef
field name lengths base = record { name = name; ty = arrays lengths base }

-- struct Pulse = { at : int32; bits : arr[2] bit }, and struct Both = { left : Pulse; on : bool }
abbrev structs : List StructDef
structs =
    record { name = codes "Pulse"; fields = field (codes "at") [] Int32 ∷ field (codes "bits") (2 ∷ []) Bit ∷ [] }
    ∷ record { name = codes "Both"; fields = field (codes "left") [] (Struct 0) ∷ field (codes "on") [] Bool ∷ [] }
    ∷ []

-- a pulse
abbrev pulse : Val
pulse = ListVal (Num (negsuc 4) ∷ ListVal (BitVal true ∷ BitVal false ∷ []) ∷ [])

-- unit
pub unit_text : value_text structs [] Unit UnitVal ≡ codes "()"
unit_text = refl

-- a bit 0
pub zero_text : value_text structs [] Bit (BitVal false) ≡ codes "'0"
zero_text = refl

-- a bit 1
pub one_text : value_text structs [] Bit (BitVal true) ≡ codes "'1"
one_text = refl

-- true
pub true_text : value_text structs [] Bool (BoolVal true) ≡ codes "true"
true_text = refl

-- false
pub false_text : value_text structs [] Bool (BoolVal false) ≡ codes "false"
false_text = refl

-- a whole number
pub number_text : value_text structs [] Int8 (Num (negsuc 127)) ≡ codes "-128"
unfolding digits
number_text = refl

-- a complex number
pub complex_text : value_text structs [] Complex16 (Pair (pos 3) (negsuc 3)) ≡ codes "(3,-4)"
unfolding digits
complex_text = refl

-- an array of arrays
pub array_text : value_text structs (2 ∷ 1 ∷ []) Int8 (ListVal (ListVal (Num (pos 1) ∷ []) ∷ ListVal (Num (pos 2) ∷ []) ∷ [])) ≡ codes "{{1},{2}}"
unfolding digits shape-the_row-Val-0 hidden-the_row-Val-0 hidden
array_text = refl

-- a struct with an array in it
pub struct_text : value_text structs [] (Struct 0) pulse ≡ codes "Pulse(-5,{'1,'0})"
unfolding digits shape-the_row-Val-0 hidden-the_row-Val-0 hidden
struct_text = refl

-- an array of structs with structs in them
pub structs_text : value_text structs (1 ∷ []) (Struct 1) (ListVal (ListVal (pulse ∷ BoolVal true ∷ []) ∷ [])) ≡ codes "{Both(Pulse(-5,{'1,'0}),true)}"
unfolding digits shape-the_row-Val-0 hidden-the_row-Val-0 hidden
structs_text = refl

-- a run that ended with a value
pub ended_row : ended_note structs (arrays [] Int32) (Num (pos 7)) 1 2 ≡ codes "ended 7\ntaken 1\nwritten 2\n"
unfolding digits
ended_row = refl

-- a run that ended with an array
pub ended_array : ended_note structs (arrays (1 ∷ []) Bit) (ListVal (BitVal true ∷ [])) 0 0 ≡ codes "ended {'1}\ntaken 0\nwritten 0\n"
unfolding digits shape-the_row-Val-0 hidden-the_row-Val-0 hidden
ended_array = refl

-- a run that ended with its input
pub input_row : input_note 16 13 ≡ codes "input ended\ntaken 16\nwritten 13\n"
unfolding digits
input_row = refl

-- a run that ended with a trap
pub trap_row : trap_note (codes "p") (record { code = 1; at = record { line = 2; col = 38 } }) 3 2 ≡ codes "trap 1 in p at 2:38\ntaken 3\nwritten 2\n"
unfolding digits
trap_row = refl

-- a run whose budget was spent
pub spent_row : spent_note 5 2 ≡ codes "out of ticks 5\nwritten 2\n"
unfolding digits
spent_row = refl

-- a run that met malformed input
pub malformed_row : malformed_note 2 1 4 ≡ codes "malformed input at 2\ntaken 1\nwritten 4\n"
unfolding digits
malformed_row = refl

-- the notes that are always the same
pub fixed_notes : fault_note ∷ rest_fault_note ∷ write_fault_note ∷ memory_note ∷ long_rest_note ∷ []
    ≡ codes "read fault\n" ∷ codes "read fault in rest\n" ∷ codes "write fault\n" ∷ codes "out of memory\n" ∷ codes "rest too long\n" ∷ []
fixed_notes = refl
