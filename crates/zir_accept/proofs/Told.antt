-- Answers along the passes.
use Rattle.std.proofs.Common.{◌≡◌, Option, Some, None, Result, Err, ap, sym, subst}
use Rattle.zir_tree.specs.declared.program.Core.{Core}
use Rattle.zir_tree.specs.declared.program.Prog.{Prog}
use Rattle.zir_tree.specs.declared.refusal.Refusal.{Refusal}
use Rattle.zir_tree.specs.declared.refusal.Refusal.TheVariants as refused
use Rattle.zir_names.specs.declared.program.Named.{Named}
use Rattle.zir_names.specs.declared.error.NameError.{NameError}
use Rattle.zir_names.specs.declared.error.NameError.TheVariants as name_errors
use Rattle.zir_names.specs.Walk as names_walk
use Rattle.zir_names.specs.Sharing as conflict
use Rattle.zir_sharing.specs.declared.error.ShareError.{ShareError}
use Rattle.zir_sharing.specs.declared.error.ShareError.TheVariants as share_errors
use Rattle.zir_sharing.specs.Answers as sharing_answers
use Rattle.zir_types.specs.declared.error.TypeError.{TypeError}
use Rattle.zir_types.specs.declared.error.TypeError.TheVariants as type_errors
use Rattle.zir_types.specs.Walk as types_walk
use Rattle.zir_types.specs.Limits.{Passed, limits}
use Rattle.zir_limits_walks.specs.declared.error.LimitError.{LimitError}
use Rattle.zir_limits_walks.specs.declared.error.LimitError.TheVariants as limit_errors
use Rattle.zir_limits_walks.specs.Answers as limits_answers
use Rattle.zir_accept.specs.declared.passes.Accepted.{Accepted}
use Rattle.zir_accept.specs.Accepting.{name_refusal, type_refusal, share_refusal, broken_limit, after_sharing, unless_broken, after_types, after_names, Tells}
use Rattle.zir_accept.specs.Finding.{IsReason, Keeps, conflict_refusal, passed_refusal}

-- the names are refused
pub names_told : (w : names_walk.Walk Named) (e : NameError) (answer : Refusal) →
    answer ≡ name_refusal e → names_walk.Refuses w e → Tells (after_names w) (Err answer)
names_told w (name_errors.Unknown at) answer a h = subst (λ r. Tells (after_names w) (Err r)) (sym a) (ap after_names h)
names_told w (name_errors.Twice at) answer a h = subst (λ r. Tells (after_names w) (Err r)) (sym a) (ap after_names h)
names_told w (name_errors.Recursive at) answer a h = subst (λ r. Tells (after_names w) (Err r)) (sym a) (ap after_names h)
names_told w name_errors.Memory answer a h = subst (λ r. Tells (after_names w) (Err r)) (sym a) tt

-- the types are refused
pub types_told : (w : types_walk.Walk Core) (n : Named) (e : TypeError) (answer : Refusal) →
    answer ≡ type_refusal e → types_walk.Refuses w e → Tells (after_types w n) (Err answer)
types_told w n (type_errors.Mismatch at) answer a h = subst (λ r. Tells (after_types w n) (Err r)) (sym a) (ap (λ v. after_types v n) h)
types_told w n (type_errors.TwoComputers at) answer a h = subst (λ r. Tells (after_types w n) (Err r)) (sym a) (ap (λ v. after_types v n) h)
types_told w n (type_errors.NotUnit at) answer a h = subst (λ r. Tells (after_types w n) (Err r)) (sym a) (ap (λ v. after_types v n) h)
types_told w n (type_errors.NotComputer at) answer a h = subst (λ r. Tells (after_types w n) (Err r)) (sym a) (ap (λ v. after_types v n) h)
types_told w n (type_errors.NotStreamType at) answer a h = subst (λ r. Tells (after_types w n) (Err r)) (sym a) (ap (λ v. after_types v n) h)
types_told w n (type_errors.Instances at) answer a h = subst (λ r. Tells (after_types w n) (Err r)) (sym a) (ap (λ v. after_types v n) h)
types_told w n type_errors.Memory answer a h = subst (λ r. Tells (after_types w n) (Err r)) (sym a) tt

-- a refusal, or want of memory in its place
reason_kept : (A : Type 0) (why answer : Refusal) → IsReason why answer → Keeps {A = A} (Some why) (Err answer)
reason_kept A why refused.Memory h = tt
reason_kept A why other h = ap Some (sym h)

-- want of memory tells nothing
no_reason_kept : (A : Type 0) (broken : Option Refusal) (answer : Refusal) → IsReason refused.Memory answer → Keeps {A = A} broken (Err answer)
no_reason_kept A broken refused.Memory h = tt
no_reason_kept A broken other h = subst (λ r. Keeps {A = A} broken (Err r)) (sym h) tt

-- what is shared is refused
pub sharing_kept : (A : Type 0) (c : Option conflict.Conflict) (p : Prog) (core : Core) (e : ShareError) (answer : Refusal) →
    IsReason (conflict_refusal p e) answer → sharing_answers.Refuses c e → Keeps {A = A} (after_sharing c p core) (Err answer)
sharing_kept A c p core (share_errors.Shared x at) answer a h =
    subst (λ o. Keeps {A = A} (after_sharing o p core) (Err answer)) (sym h) (reason_kept A (share_refusal p (conflict.Shared x at)) answer a)
sharing_kept A c p core (share_errors.SplitPlace at) answer a h =
    subst (λ o. Keeps {A = A} (after_sharing o p core) (Err answer)) (sym h) (reason_kept A (share_refusal p (conflict.SplitPlace at)) answer a)
sharing_kept A c p core (share_errors.OuterAssign x at) answer a h =
    subst (λ o. Keeps {A = A} (after_sharing o p core) (Err answer)) (sym h) (reason_kept A (share_refusal p (conflict.OuterAssign x at)) answer a)
sharing_kept A c p core share_errors.Memory answer a h = no_reason_kept A (after_sharing c p core) answer a

-- what is shared is allowed
pub sharing_allowed : {A : Type 0} (c : Option conflict.Conflict) (p : Prog) (core : Core) (r : Result A Refusal) →
    c ≡ None → Keeps (broken_limit (limits p core)) r → Keeps (after_sharing c p core) r
sharing_allowed c p core r h kept = subst (λ o. Keeps (after_sharing o p core) r) (sym h) kept

-- a limit is passed
pub limits_kept : (A : Type 0) (passed : Option Passed) (e : LimitError) (answer : Refusal) →
    answer ≡ passed_refusal e → limits_answers.Refuses passed e → Keeps {A = A} (broken_limit passed) (Err answer)
limits_kept A passed (limit_errors.Passed kind at) answer a h = subst (λ r. Keeps {A = A} (broken_limit passed) (Err r)) (sym a) (ap broken_limit h)
limits_kept A passed limit_errors.Memory answer a h = subst (λ r. Keeps {A = A} (broken_limit passed) (Err r)) (sym a) tt

-- a rule is broken
pub rules_told : (A : Type 0) (broken : Option Refusal) (accepted : Accepted) (why : Refusal) →
    Keeps {A = A} broken (Err why) → Tells (unless_broken broken accepted) (Err why)
rules_told A broken accepted refused.Memory h = tt
rules_told A broken accepted other h = ap (λ o. unless_broken o accepted) h
