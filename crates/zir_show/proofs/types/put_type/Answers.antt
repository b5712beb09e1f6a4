use Rattle.zir_print.specs.Marks.{nowhere}
use Rattle.zir_print.specs.Types.{dimension_words, inner_words}
use Rattle.zir_show.proofs.Adding.{last}
use Rattle.zir_show.proofs.Places.{behind, inner_spaced}
use Rattle.zir_show.proofs.types.put_type.Goals as goal

pub returns : goal.returns
returns c =
    let ty = c.args.ty.now in
    last _ _ _ _ (rw c.as_slice.ensures at c.in_ok-put_dimensions.ensures) c.put_inner.ensures
    (behind (dimension_words ty.dimensions) (inner_words ty.name ty.base nowhere) (inner_words ty.name ty.base ty.at) (inner_spaced ty.name ty.base nowhere ty.at))
