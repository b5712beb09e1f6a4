use Rattle.std.proofs.Common.{◌≡◌, ap, arith, length}
use Rattle.zir_names.specs.Scope.{Seen}
use Rattle.zir_names.specs.Buckets.{entries}
use Rattle.zir_names.proofs.Chains.{length-entries}
use Rattle.zir_names.proofs.scope.Scope.len.Goals as goal

pub returns : goal.returns
returns c =
    let seen : length (entries c.self.inside.links.items) ≡ length c.args.self.now.open_ = ap (λ (s : Seen). length s.open_) c.self.view_is in
    omega (arith, length-entries c.self.inside.links.items, c.self.inside.links.ok.0, c.len.ensures, seen)
