use Rattle.std.proofs.Common.{refl}
use Rattle.zir_flatten.proofs.Bringing.{bring_next, bring_end}
use Rattle.zir_flatten.proofs.backs.bring_all.Goals as goal

pub loop-holder-init : goal.loop-holder-init
loop-holder-init c = λ ids h. refl

pub loop-holder-preserved : goal.loop-holder-preserved
loop-holder-preserved c =
    λ ids h. bring_next ids c.args.holders.now c.loop-holder.holder-index c.holder-item.result c.loop-holder.back.items c.bring.new.back.items _ c.loop-holder-test.true c.holder-item.is
    (c.in_ok-bring.ensures ids h) (c.loop-holder.invariant ids h)

pub returns : goal.returns
returns c = λ ids h. bring_end ids c.args.holders.now c.loop-holder.holder-index c.loop-holder.back.items _ c.loop-holder-test.false (c.loop-holder.invariant ids h)
