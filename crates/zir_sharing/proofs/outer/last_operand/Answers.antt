use Rattle.std.proofs.Common.{◌∙◌, ap, sym}
use Rattle.zir_tree.specs.declared.comp.Comp.{Pipe}
use Rattle.zir_names.specs.Sharing.{last_operand as operand_of}
use Rattle.zir_sharing.proofs.Conflicts.{operand-Parallel}
use Rattle.zir_sharing.proofs.outer.last_operand.Goals as goal

pub returns-in-Parallel : goal.returns-in-Parallel
returns-in-Parallel c =
    c.get.ensures ∙ sym (ap operand_of c.in-Pipe.is ∙ ap (λ l. operand_of (Pipe l c.in-Pipe.field-1 c.in-Pipe.right c.in-Pipe.field-3)) c.in-Parallel.is
    ∙ operand-Parallel c.in-Pipe.field-1 c.in-Pipe.right c.in-Pipe.field-3)
