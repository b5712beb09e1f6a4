-- What is noted of measures: of each limit the first place where it is passed, and the calls.
use Rattle.std.specs.Prelude.{List, [], ◌∷◌, ◌++◌, Bool, true, false, Option, Some, None}
use Rattle.zir_tree.specs.declared.place.Place.{Place}
use Rattle.zir_types.specs.Measures.{Target, ToFunction, ToInstance, Measure, Spans, Holds, Sends, Calls, Splits}
use Rattle.zir_types.specs.Limits.{sooner, bad_length, too_large, too_wide, too_long, places}
use Rattle.zir_limits.specs.declared.notes.Call.{Call}
use Rattle.zir_limits.specs.declared.notes.Notes.{Notes}
use Rattle.zir_limits.specs.declared.notes.Target.{Target as CallTarget}
use Rattle.zir_limits.specs.declared.notes.Target.TheVariants.{Function, Instance}

-- Nothing is noted.
abbrev pub unnoted : Notes
unnoted = record { first_length = None; first_cells = None; first_element = None; first_stages = None; calls = [] }

-- The first place so far, with one more where something is wrong there.
abbrev pub marks : Bool → Place → Option Place → Option Place
marks true p first = Some (sooner p first)
marks false p first = first

-- The first place so far, with these.
abbrev pub first_of : Option Place → List Place → Option Place
first_of first [] = first
first_of first (p ∷ ps) = first_of (Some (sooner p first)) ps

-- What a call leads to, as the code has it.
abbrev pub target_of : Target → CallTarget
target_of (ToFunction k) = Function k
target_of (ToInstance k) = Instance k

-- What a call leads to, as the measures have it.
abbrev pub measure_target : CallTarget → Target
measure_target (Function k) = ToFunction k
measure_target (Instance k) = ToInstance k

-- The calls among measures.
abbrev pub calls_in : List Measure → List Call
calls_in [] = []
calls_in (Spans n p ∷ ms) = calls_in ms
calls_in (Holds n p ∷ ms) = calls_in ms
calls_in (Sends n p ∷ ms) = calls_in ms
calls_in (Calls t p ∷ ms) = record { target = target_of t; at = p } ∷ calls_in ms
calls_in (Splits n p ∷ ms) = calls_in ms

-- What is noted with these measures too.
abbrev pub noted : List Measure → Notes → Notes
noted ms n = record {
  first_length = first_of n.first_length (places bad_length ms);
  first_cells = first_of n.first_cells (places too_large ms);
  first_element = first_of n.first_element (places too_wide ms);
  first_stages = first_of n.first_stages (places too_long ms);
  calls = n.calls ++ calls_in ms;
}
