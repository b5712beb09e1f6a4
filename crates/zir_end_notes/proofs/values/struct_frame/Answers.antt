use Rattle.zir_end_notes.proofs.Frames.{struct_frames}
use Rattle.zir_end_notes.proofs.values.struct_frame.Goals as goal

pub returns : goal.returns
returns c = λ vs. struct_frames c.args.structs.now c.args.base c.name_and_fields.result.0.now c.name_and_fields.result.1 vs c.name_and_fields.ensures.name c.name_and_fields.ensures.fields
