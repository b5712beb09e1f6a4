use Rattle.std.proofs.Common.{◌≡◌, ◌∙◌, ap, sym, subst, nat_eq, length, arith}
use Rattle.std.specs.Prelude.{cond, Some}
use Rattle.std.specs.HashMap.{get}
use Rattle.zir_lookup.specs.Numbers.{place_from, AreNoted}
use Rattle.zir_lookup.proofs.Notes.{push_known, push_noted, note_next}
use Rattle.zir_lookup.proofs.Numbers.push.Goals as goal

pub invariant_of-self-in-Some : goal.invariant_of-self-in-Some
invariant_of-self-in-Some c =
    subst (λ xs. AreNoted xs (get nat_eq c.self.inside.notes)) (sym c.in_ok-push-in-Some.ensures.items)
    (push_known c.self.inside.list.items (get nat_eq c.self.inside.notes) c.args.id c.in-Some.field-0 c.self.invariant
    (ap (λ xs. place_from 0 xs c.args.id) c.self.view_is ∙ sym c.in-Some.ensures))

pub invariant_of-self-in_err-push-in-None : goal.invariant_of-self-in_err-push-in-None
invariant_of-self-in_err-push-in-None c =
    subst (λ xs. AreNoted xs (get nat_eq c.insert.new.self)) (sym c.in_err-push-in-None.ensures.items)
    (note_next c.self.inside.list.items (get nat_eq c.self.inside.notes) (get nat_eq c.insert.new.self) c.args.id c.self.invariant
    (ap (λ xs. place_from 0 xs c.args.id) c.self.view_is ∙ sym c.in-None.ensures)
    (λ id. c.in_ok-insert-in-None.ensures.updates.0 id ∙ ap (λ n. cond (nat_eq c.args.id id) (Some n) (get nat_eq c.self.inside.notes id)) (let e : c.len-place.result ≡ length c.self.inside.list.items = omega (arith, c.len-place.ensures, c.self.inside.list.ok.0) in e)))

pub invariant_of-self-in-None : goal.invariant_of-self-in-None
invariant_of-self-in-None c =
    let next : AreNoted c.self.inside.list.items (get nat_eq c.insert.new.self) =
    note_next c.self.inside.list.items (get nat_eq c.self.inside.notes) (get nat_eq c.insert.new.self) c.args.id c.self.invariant
    (ap (λ xs. place_from 0 xs c.args.id) c.self.view_is ∙ sym c.in-None.ensures)
    (λ id. c.in_ok-insert-in-None.ensures.updates.0 id ∙ ap (λ n. cond (nat_eq c.args.id id) (Some n) (get nat_eq c.self.inside.notes id)) (let e : c.len-place.result ≡ length c.self.inside.list.items = omega (arith, c.len-place.ensures, c.self.inside.list.ok.0) in e)) in
    subst (λ xs. AreNoted xs (get nat_eq c.insert.new.self)) (sym c.in_ok-push-in-None.ensures.items)
    (push_noted c.self.inside.list.items (get nat_eq c.insert.new.self) c.args.id next
    (c.in_ok-insert-in-None.ensures.updates.1 ∙ ap Some (let e : c.len-place.result ≡ length c.self.inside.list.items = omega (arith, c.len-place.ensures, c.self.inside.list.ok.0) in e)))
