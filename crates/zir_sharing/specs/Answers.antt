-- What an answer says of the first conflict.
use Rattle.std.specs.Prelude.{◌≡◌, Option, Some, None, Result, Ok, Err}
use Rattle.zir_names.specs.Sharing.{Conflict, Shared as shared, SplitPlace as split, OuterAssign as outer}
use Rattle.zir_sharing.specs.declared.error.ShareError.{ShareError}
use Rattle.zir_sharing.specs.declared.error.ShareError.TheVariants.{Shared, SplitPlace, OuterAssign, Memory}

-- An error is this conflict; want of memory is any or none.
abbrev pub Refuses : Option Conflict → ShareError → Type 0
Refuses conflict (Shared x at) = conflict ≡ Some (shared x at)
Refuses conflict (SplitPlace at) = conflict ≡ Some (split at)
Refuses conflict (OuterAssign x at) = conflict ≡ Some (outer x at)
Refuses conflict Memory = Unit {0}

-- Ok says that there is no conflict.
abbrev pub Answers : {A : Type 0} → Option Conflict → Result A ShareError → Type 0
Answers conflict (Ok x) = conflict ≡ None
Answers conflict (Err error) = Refuses conflict error
