use Rattle.std.proofs.Common.{◌≡◌, [], take}
use Rattle.zir_names.specs.Sharing.{splits_from}
use Rattle.zir_sharing.specs.Marks.{marks_of}
use Rattle.zir_sharing.proofs.splits.marks_of.Given as goal

-- the marks of the declarations before this one
abbrev pub invariant-loop-d : goal.invariant-loop-d
invariant-loop-d l = l.marks ≡ marks_of (splits_from [] (take l.d-index l.ds))
