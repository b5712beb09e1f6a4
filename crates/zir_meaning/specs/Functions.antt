-- What the functions of a program do, each over those declared before it.
use Rattle.std.specs.Prelude.{ℕ, suc, List, [], ◌∷◌, Bool, true, false, nat_eq}
use Rattle.zir_tree.specs.declared.value.Val.{Val}
use Rattle.zir_tree.specs.declared.value.Slot.{Slot}
use Rattle.zir_tree.specs.declared.types.Field.{Field}
use Rattle.zir_tree.specs.declared.types.StructDef.{StructDef}
use Rattle.zir_tree.specs.declared.program.Function.{Function}
use Rattle.zir_meaning.specs.Values.{blanks_of}
use Rattle.zir_meaning.specs.Trace.{State}
use Rattle.zir_meaning.specs.Evaluation.{Eval, Got, Traps, RunsOut, Funs, Library}
use Rattle.zir_meaning.specs.Statements.{run_body}

-- parameters with the values of the arguments
abbrev pub arguments : List Field → List Val → List Slot
arguments [] vs = []
arguments (p ∷ ps) [] = []
arguments (p ∷ ps) (v ∷ vs) = record { id = p.name.id; value = v } ∷ arguments ps vs

-- a body sees the top variables and its parameters
abbrev pub entered : List Field → List Val → State → State
entered ps vs s = record s { store = record s.store { locals = arguments ps vs } }

-- the names of the caller are in scope again
abbrev pub back : List Slot → State → State
back locals s = record s { store = record s.store { locals = locals } }

-- an evaluation in another body, after which the names of the caller are in scope again
abbrev pub returned : List Slot → Eval → Eval
returned locals (Got v s) = Got v (back locals s)
returned locals (Traps t s) = Traps t (back locals s)
returned locals RunsOut = RunsOut

-- a call of a function with these arguments
abbrev pub called_fun : List Field → (State → Eval) → List Val → State → Eval
called_fun ps body vs s = returned s.store.locals (body (entered ps vs s))

-- one of two
abbrev pub pick : {A : Type 0} → Bool → A → A → A
pick true a b = a
pick false a b = b

-- no function is declared yet
abbrev pub no_funs : Funs
no_funs k vs s = RunsOut

-- one more function, at this place
abbrev pub one_more_fun : List Val → Funs → ℕ → Function → Funs
one_more_fun blanks funs n f k = pick (nat_eq k n) (called_fun f.params (run_body (record { blanks = blanks; funs = funs }) f.body)) (funs k)

-- these functions behind n others
abbrev pub more_funs : List Val → Funs → ℕ → List Function → Funs
more_funs blanks funs n [] = funs
more_funs blanks funs n (f ∷ fs) = more_funs blanks (one_more_fun blanks funs n f) (suc n) fs

-- all functions, from front to back
abbrev pub funs_of : List Val → List Function → Funs
funs_of blanks fs = more_funs blanks no_funs 0 fs

-- what the expressions of a program with these structs and functions rest on
abbrev pub library_of : List StructDef → List Function → Library
library_of ds fs = record { blanks = blanks_of ds; funs = funs_of (blanks_of ds) fs }
