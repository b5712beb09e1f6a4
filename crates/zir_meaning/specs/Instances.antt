-- What the instances of a program do, each over those before it, and what a component does in a program.
use Rattle.std.specs.Prelude.{ℕ, suc, List, [], ◌∷◌, map, nat_eq}
use Rattle.zir_tree.specs.declared.value.Val.{Val}
use Rattle.zir_tree.specs.declared.value.Slot.{Slot}
use Rattle.zir_tree.specs.declared.types.Field.{Field}
use Rattle.zir_tree.specs.declared.ends.End.{End}
use Rattle.zir_tree.specs.declared.ends.End.TheVariants.{Value, Starved, Trap as Trapped, Spent}
use Rattle.zir_tree.specs.declared.comp.Comp.{Comp}
use Rattle.zir_tree.specs.declared.program.Instance.{Instance}
use Rattle.zir_tree.specs.declared.program.Core.{Core}
use Rattle.zir_meaning.specs.Trace.{State, Out, Trace, spent}
use Rattle.zir_meaning.specs.Functions.{entered, back, pick, library_of}
use Rattle.zir_meaning.specs.Assigned.{assigning}
use Rattle.zir_meaning.specs.Component.{Does, Comps, Around, tr}

-- an output of a called body, at whose point the names of the caller are in scope
abbrev pub out_seen : List Slot → Out → Out
out_seen locals o = record o { at = record o.at { store = record o.at.store { locals = locals } } }

-- where a called body ended, with the names of the caller in scope; a spent end has no place
abbrev pub last_seen : List Slot → End → State → State
last_seen locals (Value v) s = back locals s
last_seen locals Starved s = back locals s
last_seen locals (Trapped t) s = back locals s
last_seen locals Spent s = s

-- the trace of a called body as its caller sees it
abbrev pub seen_from : List Slot → Trace → Trace
seen_from locals t = record t { outs = map (out_seen locals) t.outs; last = last_seen locals t.end t.last }

-- a call of a body with these arguments
abbrev pub called : List Field → Does → List Val → Does
called ps body vs s xs = seen_from s.store.locals (body (entered ps vs s) xs)

-- no instance is declared yet
abbrev pub no_comps : Comps
no_comps k vs s xs = spent

-- one more instance, at this place
abbrev pub one_more : Around → Comps → ℕ → Instance → Comps
one_more r comps n i k = pick (nat_eq k n) (called i.params (tr r comps i.body)) (comps k)

-- these instances behind n others
abbrev pub more_comps : Around → Comps → ℕ → List Instance → Comps
more_comps r comps n [] = comps
more_comps r comps n (i ∷ is) = more_comps r (one_more r comps n i) (suc n) is

-- all instances, from front to back
abbrev pub comps_of : Around → List Instance → Comps
comps_of r is = more_comps r no_comps 0 is

-- what the components of a program rest on
abbrev pub around : Core → Around
around core = record { library = library_of core.structs core.functions; assigned = assigning core.functions core.instances }

-- what a component does in a program
abbrev pub means : Core → Comp → Does
means core c = tr (around core) (comps_of (around core) core.instances) c
