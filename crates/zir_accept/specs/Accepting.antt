-- What is accepted, and the first reason why the rest is refused.
use Rattle.std.specs.Prelude.{◌≡◌, ℕ, List, Option, Some, None, Result, Ok, Err}
use Rattle.zir_tree.specs.declared.program.Prog.{Prog}
use Rattle.zir_tree.specs.declared.program.Core.{Core}
use Rattle.zir_tree.specs.declared.refusal.LimitKind.TheVariants.{Instances}
use Rattle.zir_tree.specs.declared.refusal.Refusal.{Refusal}
use Rattle.zir_tree.specs.declared.refusal.Refusal.TheVariants as refused
use Rattle.zir_read.specs.Reading.{IsReadAs}
use Rattle.zir_names.specs.declared.program.Named.{Named}
use Rattle.zir_names.specs.declared.error.NameError.{NameError}
use Rattle.zir_names.specs.declared.error.NameError.TheVariants as name_errors
use Rattle.zir_names.specs.Walk as names_walk
use Rattle.zir_names.specs.Programs.{names}
use Rattle.zir_names.specs.Sharing.{Conflict, Shared, SplitPlace, OuterAssign, refusal_of}
use Rattle.zir_types.specs.declared.error.TypeError.{TypeError}
use Rattle.zir_types.specs.declared.error.TypeError.TheVariants as type_errors
use Rattle.zir_types.specs.Walk as types_walk
use Rattle.zir_types.specs.Programs.{program}
use Rattle.zir_types.specs.Limits.{Passed, limits}
use Rattle.zir_accept.specs.declared.passes.Accepted.{Accepted}
use Rattle.zir_accept.specs.Variables.{variable_name}

-- The refusal of names.
abbrev pub name_refusal : NameError → Refusal
name_refusal (name_errors.Unknown at) = refused.Unknown at
name_refusal (name_errors.Twice at) = refused.Twice at
name_refusal (name_errors.Recursive at) = refused.Recursive at
name_refusal name_errors.Memory = refused.Memory

-- The refusal of types; a call that would make one instance too many passes a limit.
abbrev pub type_refusal : TypeError → Refusal
type_refusal (type_errors.Mismatch at) = refused.Mismatch at
type_refusal (type_errors.TwoComputers at) = refused.TwoComputers at
type_refusal (type_errors.NotUnit at) = refused.NotUnit at
type_refusal (type_errors.NotComputer at) = refused.NotComputer at
type_refusal (type_errors.NotStreamType at) = refused.NotStreamType at
type_refusal (type_errors.Instances at) = refused.Limit Instances at
type_refusal type_errors.Memory = refused.Memory

-- The refusal of what the sides of a composition share, with the variable's name.
abbrev pub share_refusal : Prog → Conflict → Refusal
share_refusal p (Shared x at) = refused.Shared (variable_name p x) at
share_refusal p (SplitPlace at) = refused.SplitPlace at
share_refusal p (OuterAssign x at) = refused.OuterAssign (variable_name p x) at

-- The refusal of a limit that is passed.
abbrev pub limit_refusal : Passed → Refusal
limit_refusal passed = refused.Limit passed.kind passed.at

-- The refusal of a limit, where one is passed.
abbrev pub broken_limit : Option Passed → Option Refusal
broken_limit None = None
broken_limit (Some passed) = Some (limit_refusal passed)

-- The refusal of a conflict, and where there is none that of the first limit that is passed.
abbrev pub after_sharing : Option Conflict → Prog → Core → Option Refusal
after_sharing None p core = broken_limit (limits p core)
after_sharing (Some conflict) p core = Some (share_refusal p conflict)

-- The refusal of the first rule that a typed program breaks: those of sharing come before the limits.
abbrev pub broken_rule : Named → Core → Option Refusal
broken_rule n core = after_sharing (refusal_of n) n.program core

-- What is accepted, where no rule is broken.
abbrev pub unless_broken : Option Refusal → Accepted → Result Accepted Refusal
unless_broken None accepted = Ok accepted
unless_broken (Some why) accepted = Err why

-- What comes of a typed program.
abbrev pub typed : Named → Core → Result Accepted Refusal
typed n core = unless_broken (broken_rule n core) (record { program = n; core = core })

-- What comes of what the types say of a program: it is typed, or refused for them.
abbrev pub after_types : types_walk.Walk Core → Named → Result Accepted Refusal
after_types (types_walk.Fine core) n = typed n core
after_types (types_walk.Broken error) n = Err (type_refusal error)

-- What comes of a program whose names are resolved.
abbrev pub named : Named → Result Accepted Refusal
named n = after_types (program n.program) n

-- What comes of what the names say of a program: they are resolved, or it is refused for them.
abbrev pub after_names : names_walk.Walk Named → Result Accepted Refusal
after_names (names_walk.Fine n) = named n
after_names (names_walk.Broken error) = Err (name_refusal error)

-- What comes of a program: names, types, sharing and limits in this order, and the first refusal.
abbrev pub judged : Prog → Result Accepted Refusal
judged p = after_names (names p)

-- An answer is this verdict; want of memory may be answered at any time.
abbrev pub Tells : Result Accepted Refusal → Result Accepted Refusal → Type 0
Tells verdict (Ok accepted) = verdict ≡ Ok accepted
Tells verdict (Err refused.Memory) = Unit {0}
Tells verdict (Err other) = verdict ≡ Err other

-- The text is a program, and this comes of it.
pub record IsJudged (text : List ℕ) (verdict : Result Accepted Refusal) : Type 0 where
  pub program : Prog
  pub reads : IsReadAs text (Ok program)
  pub tells : Tells (judged program) verdict

-- The text is no program, and this is why.
pub record IsUnread (text : List ℕ) (verdict : Result Accepted Refusal) : Type 0 where
  pub why : Refusal
  pub refuses : IsReadAs text (Err why)
  pub is : verdict ≡ Err why

-- What is answered to a text.
pub data IsAcceptedAs (text : List ℕ) (verdict : Result Accepted Refusal) : Type 0 where
  read : IsJudged text verdict → IsAcceptedAs text verdict
  unread : IsUnread text verdict → IsAcceptedAs text verdict

-- Memory did not run out.
abbrev pub IsTold : Result Accepted Refusal → Type 0
IsTold (Ok accepted) = Unit {0}
IsTold (Err refused.Memory) = ⊥
IsTold (Err other) = Unit {0}

-- A text has one verdict, want of memory apart.
abbrev pub HasOneVerdict : Type 0
HasOneVerdict = (text : List ℕ) (a b : Result Accepted Refusal) → IsTold a → IsTold b → IsAcceptedAs text a → IsAcceptedAs text b → a ≡ b
