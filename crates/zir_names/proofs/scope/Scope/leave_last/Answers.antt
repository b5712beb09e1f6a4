use Rattle.std.proofs.Common.{◌≡◌, ◌∙◌, ◌++◌, ◌∷◌, [], ap, sym, subst, arith}
use Rattle.std.specs.Prelude.{slice_set}
use Rattle.zir_names.specs.Buckets.{bucket, IsChained}
use Rattle.zir_names.proofs.Chains.{has_room, chained-pop, seen_of, without_last, seen-pop}
use Rattle.zir_names.proofs.scope.Scope.leave_last.Goals as goal

pub index_mut-requires : goal.index_mut-requires
index_mut-requires c =
    let chained = subst (λ ls. IsChained ls c.self.inside.heads.items) c.in-Some.ensures.items c.self.invariant in
    let room = has_room c.pop.new.self.items c.self.inside.heads.items c.in-Some.link chained in
    let same : c.bucket_of-bucket.result ≡ bucket c.in-Some.link.entry.name = c.bucket_of-bucket.ensures.value ∙ ap bucket c.as_slice.ensures in
    omega (arith, room, same, c.self.inside.heads.ok.0)

pub invariant_of-self : goal.invariant_of-self
invariant_of-self c =
    let chained = subst (λ ls. IsChained ls c.self.inside.heads.items) c.in-Some.ensures.items c.self.invariant in
    subst (λ b. IsChained c.pop.new.self.items (slice_set c.self.inside.heads.items b c.in-Some.link.older))
    (sym (c.bucket_of-bucket.ensures.value ∙ ap bucket c.as_slice.ensures))
    (chained-pop c.pop.new.self.items c.self.inside.heads.items c.in-Some.link chained)

pub returns-in-Some : goal.returns-in-Some
returns-in-Some c =
    seen-pop c.pop.new.self.items c.in-Some.link c.self.inside.next
    ∙ ap (λ ls. without_last (seen_of ls c.self.inside.next)) (sym c.in-Some.ensures.items)
    ∙ ap without_last c.self.view_is
