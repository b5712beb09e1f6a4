-- Each function of a program evaluates.
use Rattle.std.specs.Prelude.{ℕ, suc, List, [], ◌∷◌, Bool, true, false, nat_eq}
use Rattle.zir_tree.specs.declared.value.Val.{Val}
use Rattle.zir_tree.specs.declared.types.Field.{Field}
use Rattle.zir_tree.specs.declared.types.StructDef.{StructDef}
use Rattle.zir_tree.specs.declared.program.Function.{Function}
use Rattle.zir_meaning.specs.Values.{blanks_of}
use Rattle.zir_meaning.specs.Trace.{State}
use Rattle.zir_meaning.specs.Evaluation.{Eval, Funs, Library}
use Rattle.zir_meaning.specs.Statements.{run_body}
use Rattle.zir_meaning.specs.Functions.{arguments, called_fun, pick, no_funs, one_more_fun, more_funs, library_of}
use Rattle.zir_laws.proofs.Evaluating.{Evaluates, FunsEvaluate, evaluates-none, evaluates-returned}
use Rattle.zir_laws.proofs.Statements.{evaluates-body}

-- one of two functions
evaluates-pick : (b : Bool) (f g : List Val → State → Eval) (vs : List Val) → Evaluates (f vs) → Evaluates (g vs) → Evaluates (pick b f g vs)
evaluates-pick true f g vs h k = h
evaluates-pick false f g vs h k = k

-- a call of a body
evaluates-function : (ps : List Field) (body : State → Eval) (vs : List Val) → Evaluates body → Evaluates (λ s. called_fun ps body vs s)
evaluates-function ps body vs h =
    evaluates-returned (λ store. record store { locals = arguments ps vs }) (λ store. store.locals) body h

-- functions behind others
evaluates-more : (blanks : List Val) (funs : Funs) (n : ℕ) (fs : List Function) → FunsEvaluate funs → FunsEvaluate (more_funs blanks funs n fs)
evaluates-more blanks funs n [] h = h
evaluates-more blanks funs n (f ∷ fs) h =
    let l : Library = record { blanks = blanks; funs = funs } in
    evaluates-more blanks (one_more_fun blanks funs n f) (suc n) fs
    (λ k vs. evaluates-pick (nat_eq k n) (called_fun f.params (run_body l f.body)) (funs k) vs
    (evaluates-function f.params (run_body l f.body) vs (evaluates-body l h f.body)) (h k vs))

-- all functions of a program
pub evaluates-library : (ds : List StructDef) (fs : List Function) → FunsEvaluate (library_of ds fs).funs
evaluates-library ds fs = evaluates-more (blanks_of ds) no_funs 0 fs (λ k vs. evaluates-none)
