-- What the parts of the passes answer.
use Rattle.std.specs.Prelude.{◌≡◌, List, [], ◌∷◌, Option, Some, None, Result, Ok, Err}
use Rattle.zir_tree.specs.declared.stmt.Var.{Var as Variable}
use Rattle.zir_tree.specs.declared.comp.Member.{Member, Bind, Var, Run}
use Rattle.zir_tree.specs.declared.program.Prog.{Prog}
use Rattle.zir_tree.specs.declared.refusal.Refusal.{Refusal}
use Rattle.zir_tree.specs.declared.refusal.Refusal.TheVariants as refused
use Rattle.zir_names.specs.Sharing as conflict
use Rattle.zir_sharing.specs.declared.error.ShareError.{ShareError}
use Rattle.zir_sharing.specs.declared.error.ShareError.TheVariants as share_errors
use Rattle.zir_limits_walks.specs.declared.error.LimitError.{LimitError}
use Rattle.zir_limits_walks.specs.declared.error.LimitError.TheVariants as limit_errors
use Rattle.zir_accept.specs.Variables.{in_blocks}
use Rattle.zir_accept.specs.Accepting.{share_refusal, limit_refusal}

-- The variable that a member is, or those that the blocks in it declare.
abbrev pub of_member : Member → List Variable
of_member (Bind x c) = in_blocks c
of_member (Var v) = v ∷ []
of_member (Run c) = in_blocks c

-- A refusal is this one; want of memory may be answered in its place.
abbrev pub IsReason : Refusal → Refusal → Type 0
IsReason why refused.Memory = Unit {0}
IsReason why other = other ≡ why

-- The refusal of an error of sharing.
abbrev pub conflict_refusal : Prog → ShareError → Refusal
conflict_refusal p (share_errors.Shared x at) = share_refusal p (conflict.Shared x at)
conflict_refusal p (share_errors.SplitPlace at) = share_refusal p (conflict.SplitPlace at)
conflict_refusal p (share_errors.OuterAssign x at) = share_refusal p (conflict.OuterAssign x at)
conflict_refusal p share_errors.Memory = refused.Memory

-- The refusal of an error of limits.
abbrev pub passed_refusal : LimitError → Refusal
passed_refusal (limit_errors.Passed kind at) = limit_refusal (record { kind = kind; at = at })
passed_refusal limit_errors.Memory = refused.Memory

-- Ok says that no rule is broken, and an error that this is the first refusal; want of memory may be answered at any time.
abbrev pub Keeps : {A : Type 0} → Option Refusal → Result A Refusal → Type 0
Keeps broken (Ok x) = broken ≡ None
Keeps broken (Err refused.Memory) = Unit {0}
Keeps broken (Err other) = broken ≡ Some other
