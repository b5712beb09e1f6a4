use Rattle.std.proofs.Common.{Option, true, subst, ◌∙◌, w64, FitsSigned, rules}
use Rattle.std.proofs.lemmas.Int.{to_z-of_z}
use Rattle.zir_reader.specs.declared.elements.Next.TheVariants.{Element}
use Rattle.zir_reader.specs.Gathering.{Pushes}
use Rattle.zir_reader.specs.Inputs.{Gets, Input}
use Rattle.zir_reader.specs.Reading.{left_with}
use Rattle.zir_reader.proofs.Gathering.{gives-element, reader_of}
use Rattle.zir_reader.proofs.reader.Reader.next.Goals as goal

pub returns-then-push-clause-gets : goal.returns-then-push-clause-gets
returns-then-push-clause-gets g c =
    let r = c.loop-number.self in
    let z = c.in-Number.number in
    let known : FitsSigned w64 z = search rules in
    let pushes = subst (λ number. Pushes r.gatherer c.push.new.self number c.in-Number.size true) (to_z-of_z w64 z known) c.if-push.ensures.pushes in
    let left = g.S.Source.left c.loop-number.source in
    let rest = g.S.Source.left c.next.new.source in
    let into = c.copy_from_slice.new.self in
    subst (λ (old : Option Input). Gets old (left_with (reader_of c.next.new.self c.push.new.self) rest) into Element) c.loop-number.invariant.0
    (gives-element r.numbers c.next.new.self r.gatherer c.push.new.self left rest z c.in-Number.size into c.in-Number.ensures.gives pushes (c.copy_from_slice.ensures.after ∙ c.deref.ensures.value))
