use Rattle.zir_end_notes.proofs.Frames.{array_frames}
use Rattle.zir_end_notes.proofs.values.array_frame.Goals as goal

pub returns : goal.returns
returns c = λ structs n vs. array_frames structs (record { lengths = c.args.lengths; base = c.args.base }) n vs
