use Rattle.zir_types.proofs.Numbered.{numbered-take}
use Rattle.zir_types.proofs.scope.Scope.leave.Goals as goal

pub invariant_of-self : goal.invariant_of-self
invariant_of-self c = numbered-take _ _ _ _ _ _ _ _ c.args.depth c.self.invariant c.truncate.ensures.items c.truncate-2.ensures
