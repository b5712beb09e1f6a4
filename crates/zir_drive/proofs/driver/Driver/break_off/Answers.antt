use Rattle.std.proofs.Common.{◌≡◌, false, rules, subst}
use Rattle.zir_bit_meaning.specs.Samples.{spell_bits}
use Rattle.zir_drive.specs.declared.DriveError.TheVariants.{Write}
use Rattle.zir_drive.specs.Driving.{Broke}
use Rattle.zir_drive.proofs.Giving.{part_whole}
use Rattle.zir_drive.proofs.Closing.{broke_write, broke_part}
use Rattle.zir_drive.proofs.driver.Driver.break_off.Goals as goal

pub returns-then-eq-clause-part : goal.returns-then-eq-clause-part
returns-then-eq-clause-part g c before told comp n bytes e h =
    let is : c.args.why ≡ Write = search rules in
    broke_write g.K.Sink.stands_for before c.args.out.now told c.args.self.now.writer comp n bytes e
    (subst (λ why. Broke g.K.Sink.stands_for before c.args.out.now told c.args.self.now.writer comp n why) is h)

pub returns-in-Ok-clause-part : goal.returns-in-Ok-clause-part
returns-in-Ok-clause-part g c before told comp n bytes e h =
    let not : c.args.why ≡ Write → ⊥ = search rules in
    broke_part g.K.Sink.stands_for before c.args.out.now c.flush_whole.new.sink told c.args.self.now.writer comp n bytes c.args.why not e h
    (part_whole (spell_bits false c.args.self.now.writer) (g.K.Sink.stands_for c.args.out.now) (g.K.Sink.stands_for c.flush_whole.new.sink) c.in-Ok.ensures.ok)

pub returns-in-Err-clause-part : goal.returns-in-Err-clause-part
returns-in-Err-clause-part g c before told comp n bytes e h =
    let not : c.args.why ≡ Write → ⊥ = search rules in
    broke_part g.K.Sink.stands_for before c.args.out.now c.flush_whole.new.sink told c.args.self.now.writer comp n bytes c.args.why not e h c.in-Err.ensures.failed
