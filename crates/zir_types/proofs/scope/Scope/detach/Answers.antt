use Rattle.zir_types.proofs.Numbered.{numbered-take}
use Rattle.zir_types.proofs.scope.Scope.detach.Goals as goal

pub invariant_of-self-2 : goal.invariant_of-self-2
invariant_of-self-2 c = numbered-take _ _ _ _ _ _ _ _ c.args.depth c.self.invariant c.in_ok-variables.ensures.items c.truncate.ensures
