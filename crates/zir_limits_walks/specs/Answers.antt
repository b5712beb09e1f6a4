-- What an answer says of the first limit that is passed.
use Rattle.std.specs.Prelude.{◌≡◌, ℕ, Option, Some, None, Result, Ok, Err, nat_lt}
use Rattle.zir_tree.specs.declared.place.Place.{Place}
use Rattle.zir_tree.specs.declared.refusal.LimitKind.TheVariants.{Length, Cells, Element, Depth, Need, Stages}
use Rattle.zir_types.specs.Limits.{Passed as Limit, passed_at}
use Rattle.zir_limits.specs.declared.notes.Notes.{Notes}
use Rattle.zir_limits.specs.Notes.{marks}
use Rattle.zir_limits_walks.specs.declared.program.FirstLimit.{FirstLimit}
use Rattle.zir_limits_walks.specs.declared.error.LimitError.{LimitError}
use Rattle.zir_limits_walks.specs.declared.error.LimitError.TheVariants.{Passed, Memory}

-- An error is this limit; want of memory is any or none.
abbrev pub Refuses : Option Limit → LimitError → Type 0
Refuses passed (Passed kind at) = passed ≡ Some (record { kind = kind; at = at })
Refuses passed Memory = Unit {0}

-- Ok says that no limit is passed.
abbrev pub Answers : {A : Type 0} → Option Limit → Result A LimitError → Type 0
Answers passed (Ok x) = passed ≡ None
Answers passed (Err error) = Refuses passed error

-- A first limit as the definition has it.
abbrev pub passed_of : Option FirstLimit → Option Limit
passed_of None = None
passed_of (Some first) = Some (record { kind = first.kind; at = first.at })

-- The first limit that is passed, in the order of the limits, where these places are the first of each and a program at this place needs so many cells.
abbrev pub in_order : Notes → Option Place → ℕ → Place → Option Limit
in_order n deep need at =
    passed_at Length n.first_length (passed_at Cells n.first_cells (passed_at Element n.first_element
    (passed_at Depth deep (passed_at Need (marks (nat_lt 1048576 need) at None) (passed_at Stages n.first_stages None)))))
