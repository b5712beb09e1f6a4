use Rattle.std.proofs.Common.{◌<◌, ℕ, ◌+◌, List, [], ◌∷◌, length, get_or, drop, ap, arith, refl}
use Rattle.zir_print.specs.Types.{dimension_words}
use Rattle.zir_show.proofs.Adding.{Left, left_all, left_more, parts_end}
use Rattle.zir_tree.specs.declared.types.Dimension.{Dimension}
use Rattle.zir_print.specs.Text.{spaced}
use Rattle.std.proofs.lemmas.List.{at_drop_more}
use Rattle.zir_show.specs.Growth.{Adds}
use Rattle.zir_show.proofs.types.put_dimensions.Goals as goal

-- one dimension more
dimension_more : (ds : List Dimension) (i : ℕ) (d : Dimension) {a b c : List ℕ} → i < length ds → Left a b (dimension_words ds) (dimension_words (drop i ds)) → Adds b c (dimension_words (get_or ds i d ∷ []))
    → Left a c (dimension_words ds) (dimension_words (drop (i + 1) ds))
dimension_more ds i d within left more = left_more (dimension_words (drop (i + 1) ds)) left more (ap spaced (at_drop_more dimension_words ds i d within))

pub loop-dimension-init : goal.loop-dimension-init
loop-dimension-init c = left_all _ _

pub loop-dimension-preserved : goal.loop-dimension-preserved
loop-dimension-preserved c =
    dimension_more c.args.dimensions.now c.loop-dimension.dimension-index _ (omega arith) c.loop-dimension.invariant c.in_ok-put_dimension.ensures

pub returns : goal.returns
returns c = parts_end dimension_words c.args.dimensions.now c.loop-dimension.dimension-index (omega arith) refl c.loop-dimension.invariant
