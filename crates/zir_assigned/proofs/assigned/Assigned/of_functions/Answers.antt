use Rattle.std.proofs.Common.{arith, refl, ap, nat_eq}
use Rattle.std.specs.List.{list_any}
use Rattle.zir_meaning.specs.Assigned.{body_assigns}
use Rattle.zir_assigned.proofs.Making.{functions_none, functions_all, function_more, filled, agrees_alone, alone}
use Rattle.zir_assigned.proofs.assigned.Assigned.of_functions.Goals as goal

pub loop-f-init : goal.loop-f-init
loop-f-init c = functions_none _ c.args.functions.now c.new.ensures.items c.new-2.ensures.items

pub loop-f-preserved : goal.loop-f-preserved
loop-f-preserved c =
    let so = c.loop-f.invariant in
    function_more c.loop-f.made _ c.args.functions.now c.loop-f.f-index c.f-item.result c.body.new.ids (omega arith) c.f-item.is so c.in_ok-push.ensures.items refl
    (filled (body_assigns (alone so.before) c.f-item.result.body) c.new-ids.result c.body.new.ids (λ id. ap (list_any (nat_eq id)) c.new-ids.ensures.empty)
    (c.in_ok-body.ensures (alone so.before) (agrees_alone c.loop-f.made so.before so.agrees)))

pub returns : goal.returns
returns c = functions_all c.loop-f.made c.args.functions.now c.loop-f.f-index (omega arith) c.loop-f.invariant
