-- The law of types: what bytes spell has the shape of its type.
use Rattle.std.specs.Prelude.{ℕ, Bool, List}
use Rattle.zir_tree.specs.declared.format.Format.{Format}
use Rattle.zir_tree.specs.declared.types.Ty.{Ty}
use Rattle.zir_tree.specs.declared.types.StructDef.{StructDef}
use Rattle.zir_meaning.specs.Elements.{element_values, elements}
use Rattle.zir_meaning.specs.Values.{Each}
use Rattle.zir_samples.specs.Finding.{IsStreamType}
use Rattle.zir_shapes.specs.Shapes.{Shaped}

-- the elements that bytes spell have the shape of their stream type, whatever the structs
abbrev pub ElementsHaveTheirType : Type 0
ElementsHaveTheirType = (ds : List StructDef) (format : Format) (ty : Ty) (bytes : List ℕ) (closed : Bool) → IsStreamType ty → Each (Shaped ds ty) (element_values (elements format ty bytes closed).found)
