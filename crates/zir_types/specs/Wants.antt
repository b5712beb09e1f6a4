-- What is asked of a literal, as code hands it on.
use Rattle.zir_tree.specs.declared.types.Ty.{Ty}
use Rattle.zir_types.specs.declared.wants.Want.{Want}

-- The type that is asked.
abbrev pub asked_ty : Want → Ty
asked_ty w = record { lengths = w.lengths.now; base = w.base }
