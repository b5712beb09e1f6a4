use Rattle.std.proofs.Common.{arith, refl, ap, nat_eq}
use Rattle.std.specs.List.{list_any}
use Rattle.zir_meaning.specs.Assigned.{assigns, fun_assigns}
use Rattle.zir_assigned.proofs.Making.{instances_none, instances_all, instance_more, filled}
use Rattle.zir_assigned.proofs.assigned.Assigned.of.Goals as goal

pub loop-i-init : goal.loop-i-init
loop-i-init c = instances_none c.in_ok-made.made (fun_assigns c.args.functions.now) c.args.instances.now c.in_ok-made.ensures

pub loop-i-preserved : goal.loop-i-preserved
loop-i-preserved c =
    let so = c.loop-i.invariant in
    instance_more c.loop-i.made _ (fun_assigns c.args.functions.now) c.args.instances.now c.loop-i.i-index c.i-item.result c.join_component.new.ids (omega arith) c.i-item.is so refl c.in_ok-push.ensures.items
    (filled (assigns (record { by_fun = fun_assigns c.args.functions.now; by_instance = so.before }) c.i-item.result.body) c.new-ids.result c.join_component.new.ids (λ id. ap (list_any (nat_eq id)) c.new-ids.ensures.empty)
    (c.in_ok-join_component.ensures (record { by_fun = fun_assigns c.args.functions.now; by_instance = so.before }) so.agrees))

pub returns : goal.returns
returns c = instances_all c.loop-i.made c.args.functions.now c.args.instances.now c.loop-i.i-index (omega arith) c.loop-i.invariant
