use Rattle.std.proofs.Common.{◌<◌, ◌≤◌, take, ap, subst, refl, ◌∙◌}
use Rattle.zir_reader.specs.Memory.{tail_of}
use Rattle.zir_reader.proofs.Listing.{has_only, takes_first, rest_is, rest_length}
use Rattle.zir_reader.proofs.memory.MemElementsElementSource.next.Goals as goal

pub returns-in-None-clause-gets : goal.returns-in-None-clause-gets
returns-in-None-clause-gets c =
    let new = c.next_fails.new.self in
    let few = subst (λ n. n < new.size) (rest_length new.given c.deref.result.now new.cells.items c.deref.ensures.value) c.if-rest-self.true in
    has_only c.args.self.now new _ c.next_fails.ensures.left few (ap tail_of c.in-None.is)

pub returns-in-Some-clause-gets : goal.returns-in-Some-clause-gets
returns-in-Some-clause-gets c =
    let new = c.next_fails.new.self in
    let few = subst (λ n. n < new.size) (rest_length new.given c.deref.result.now new.cells.items c.deref.ensures.value) c.if-rest-self.true in
    has_only c.args.self.now new _ c.next_fails.ensures.left few (ap tail_of c.in-Some.is)

pub returns-clause-gets : goal.returns-clause-gets
returns-clause-gets c =
    let new = c.next_fails.new.self in
    let enough = subst (λ n. new.size ≤ n) (rest_length new.given c.deref.result.now new.cells.items c.deref.ensures.value) c.if-rest-self.false in
    let copied = c.copy_from_slice.ensures.after ∙ ap (take new.size) (rest_is new.given c.deref.result.now new.cells.items c.deref.ensures.value) in
    takes_first c.args.self.now new _ _ _ c.next_fails.ensures.left new.some enough copied refl refl
