-- Types whose lengths stand the other way round.
use Rattle.std.specs.Prelude.{reverse}
use Rattle.zir_tree.specs.declared.types.Ty.{Ty}
use Rattle.zir_compile.specs.declared.extent.Extent.{Extent}

-- the type itself
abbrev pub type_at : Extent → Ty
type_at extent = record { lengths = reverse extent.inside_out.lengths; base = extent.inside_out.base }
