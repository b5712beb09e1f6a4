use Rattle.std.proofs.Common.{◌∙◌, ap}
use Rattle.zir_names.specs.Touched.{both, in_comp}
use Rattle.zir_sharing.proofs.Ascents.{both_none, ascends-comp}
use Rattle.zir_sharing.proofs.component.touched_by.Goals as goal

pub returns : goal.returns
returns c =
    c.in_ok-touch_comp.ensures ∙ ap (both (in_comp c.args.functions.now c.args.c.now)) c.new-touched.ensures ∙ both_none (in_comp c.args.functions.now c.args.c.now) (ascends-comp c.args.functions.now c.requires c.args.c.now)
