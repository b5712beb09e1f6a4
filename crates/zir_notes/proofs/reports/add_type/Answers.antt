use Rattle.std.proofs.Common.{◌++◌, ap, ◌∙◌, arith}
use Rattle.zir_notes.specs.Reports.{type_words}
use Rattle.zir_notes.proofs.Types.{added_more, added_all}
use Rattle.zir_notes.proofs.reports.add_type.Goals as goal

pub loop-length-preserved : goal.loop-length-preserved
loop-length-preserved c =
    added_more c.args.structs.now c.args.ty.now.base c.as_slice-length-items.result.now c.loop-length.text.items c.add_array.new.text.items (c.args.text.now.items ++ type_words c.args.structs.now c.as_slice-length-items.result.now c.args.ty.now.base)
    c.loop-length.length-index (omega arith) c.in_ok-add_array.ensures c.loop-length.invariant

pub returns : goal.returns
returns c =
    added_all c.add.result c.args.structs.now c.args.ty.now.base c.as_slice-length-items.result.now c.loop-length.text.items c.add.new.text.items c.base_name.result.now (c.args.text.now.items ++ type_words c.args.structs.now c.args.ty.now.lengths c.args.ty.now.base)
    c.loop-length.length-index (omega arith) c.base_name.ensures (c.loop-length.invariant ∙ ap (λ l. c.args.text.now.items ++ type_words c.args.structs.now l c.args.ty.now.base) c.as_slice-length-items.ensures) c.add.ensures
