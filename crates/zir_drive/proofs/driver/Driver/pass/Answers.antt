use Rattle.std.proofs.Common.{◌+◌, ◌≡◌, ◌∷◌, ◌++◌, [], ap, ◌∙◌}
use Rattle.zir_chunk.specs.Contents.{Contents, blank}
use Rattle.zir_steps.specs.Elements.{IsAt}
use Rattle.zir_drive.specs.Driving.{element_in}
use Rattle.zir_drive.proofs.Handing.{bit_is_at}
use Rattle.zir_drive.proofs.driver.Driver.pass.Goals as goal

pub returns-clause-worked : goal.returns-clause-worked
returns-clause-worked g c h s =
    let k = c.args.self.now.handed + 1 in
    let clear : c.clear.new.self ≡ blank 1 = c.clear.ensures in
    let one : Contents → Contents = λ old. record old { elements = old.elements ++ record { cells = c.cells_of.result; stamp = record { taken = k; ticks = 0 } } ∷ [] } in
    let at : IsAt c.push.new.self 0 (element_in k c.args.bit) = bit_is_at c.push.new.self k c.args.bit c.cells_of.result c.cells_of.ensures (c.push.ensures.pushed ∙ ap one clear) in
    (c.in_ok-process.ensures.stands h (element_in k c.args.bit) at s, c.in_ok-process.ensures.says h (element_in k c.args.bit) at s)
