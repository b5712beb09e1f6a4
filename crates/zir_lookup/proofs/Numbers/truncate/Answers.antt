use Rattle.std.proofs.Common.{sym, subst, nat_eq, take, drop}
use Rattle.std.proofs.lemmas.List.{take-append-drop}
use Rattle.std.specs.HashMap.{get}
use Rattle.zir_lookup.specs.Numbers.{AreNoted}
use Rattle.zir_lookup.proofs.Notes.{cut}
use Rattle.zir_lookup.proofs.Numbers.truncate.Goals as goal

pub invariant_of-self : goal.invariant_of-self
invariant_of-self c =
    subst (λ xs. AreNoted xs (get nat_eq c.self.inside.notes)) (sym c.truncate.ensures.items)
    (cut (take c.args.count c.self.inside.list.items) (drop c.args.count c.self.inside.list.items) (get nat_eq c.self.inside.notes)
    (subst (λ xs. AreNoted xs (get nat_eq c.self.inside.notes)) (sym (take-append-drop c.args.count c.self.inside.list.items)) c.self.invariant))
