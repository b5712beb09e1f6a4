-- How deep calls are, in the numbers that the code has.
use Rattle.std.specs.Prelude.{ℕ, suc, min, max, List, [], ◌∷◌, Option, None, length, nat_lt, slice_index, slice_set, replicate}
use Rattle.zir_tree.specs.declared.place.Place.{Place}
use Rattle.zir_limits_walks.specs.declared.depth.Levels.{Levels}
use Rattle.zir_limits_walks.specs.declared.found.Measured.{Measured}
use Rattle.zir_limits.specs.declared.notes.Call.{Call}
use Rattle.zir_limits.specs.declared.notes.Target.{Target}
use Rattle.zir_limits.specs.declared.notes.Target.TheVariants.{Function, Instance}
use Rattle.zir_limits.specs.Notes.{marks}

-- A number at a place that is at least this.
abbrev pub raised_at : ℕ → ℕ → List ℕ → List ℕ
raised_at n place levels = slice_set levels place (max n (slice_index levels place))

-- A call of this that ends a chain of so many.
abbrev pub raised_by : ℕ → Target → Place → Levels → Levels
raised_by n (Function k) at l = record { functions = raised_at n k l.functions; instances = l.instances; deep = marks (nat_lt 16 n) at l.deep }
raised_by n (Instance k) at l = record { functions = l.functions; instances = raised_at n k l.instances; deep = marks (nat_lt 16 n) at l.deep }

-- A call that ends a chain of so many.
abbrev pub raised : ℕ → Call → Levels → Levels
raised n c l = raised_by n c.target c.at l

-- The calls of a body, each of which ends a chain of so many.
abbrev pub entered : ℕ → List Call → Levels → Levels
entered n [] l = l
entered n (c ∷ cs) l = entered n cs (raised n c l)

-- The calls of functions from some place on, the last function first; each ends a chain of one more than its function.
abbrev pub functions_entered : ℕ → List (List Call) → Levels → Levels
functions_entered n [] l = l
functions_entered n (cs ∷ css) l =
    let later = functions_entered (suc n) css l in entered (min (suc (slice_index later.functions n)) 17) cs later

-- The calls of instances from some place on, the last instance first.
abbrev pub instances_entered : ℕ → List (List Call) → Levels → Levels
instances_entered n [] l = l
instances_entered n (cs ∷ css) l =
    let later = instances_entered (suc n) css l in entered (min (suc (slice_index later.instances n)) 17) cs later

-- Before all calls: of so many functions and instances none is called.
abbrev pub uncalled : ℕ → ℕ → Levels
uncalled functions instances = record { functions = replicate functions 0; instances = replicate instances 0; deep = None }

-- The first call that makes the 17th of a chain.
abbrev pub deep_in : Measured → Option Place
deep_in m =
    let called_by_none = entered 1 m.variables (entered 1 m.main (uncalled (length m.functions) (length m.instances))) in
    (functions_entered 0 m.functions (instances_entered 0 m.instances called_by_none)).deep
