-- The code of all functions of a program does what they mean.
use Rattle.std.specs.Prelude.{ℕ, suc, ℤ, ◌+◌, List, [], ◌∷◌, Bool, true, false, Option, Some, None, ◌≡◌, refl, nat_eq, map}
use Rattle.std.proofs.Common.{sym, subst, arith}
use Rattle.zir_tree.specs.declared.value.Val.{Val}
use Rattle.zir_tree.specs.declared.types.Ty.{Ty}
use Rattle.zir_tree.specs.declared.types.StructDef.{StructDef}
use Rattle.zir_tree.specs.declared.types.Field.{Field}
use Rattle.zir_tree.specs.declared.program.Function.{Function}
use Rattle.zir_meaning.specs.Values.{type_of, blanks_of}
use Rattle.zir_meaning.specs.Trace.{State}
use Rattle.zir_meaning.specs.Evaluation.{Eval, Funs, Library}
use Rattle.zir_meaning.specs.Statements.{run_body}
use Rattle.zir_meaning.specs.Functions.{called_fun, pick, no_funs, one_more_fun, more_funs}
use Rattle.zir_cells.specs.Layout.{layout_of}
use Rattle.zir_expr.specs.declared.frame.Spot.TheVariants.{Local}
use Rattle.zir_expr.specs.Memory.{Ran, from_base}
use Rattle.zir_expr.specs.Memory.Frames.{Memory}
use Rattle.zir_expr.specs.Running.{go_all}
use Rattle.zir_code.specs.declared.scope.Holder.{Holder}
use Rattle.zir_code.specs.declared.scope.Signature.{Signature}
use Rattle.zir_code.specs.Scopes.{Scope}
use Rattle.zir_code.specs.Holding.{StandsAt, Kept, Agrees}
use Rattle.zir_code.specs.Bodies.{ArgumentsAt}
use Rattle.zir_code.specs.Calls.{CellsAre, bare, CallBegins, Calls}
use Rattle.zir_code.specs.Program.{at_top, HasSignature, one_more_signature, FitsSignature, HaveSignatures, more_signatures}
use Rattle.zir_code.specs.Laws.{ExpressionsAgree, FunctionsAgree}
use Rattle.zir_code.proofs.Agreeing.{ends_less}
use Rattle.zir_code.proofs.Bodies.{body_agrees}

-- of what is in scope the top variables alone count here
bare_agrees : (top base : ℕ) (structs : List StructDef) (tops : List Holder) (funs : ℕ → Option Signature) (t : Ty) (m : Memory) (s : State)
    (r : Eval) (q : Ran) → Agrees top base 0 (at_top structs tops funs) t (Local 0) m s r q →
    Agrees top base 0 (bare structs tops) t (Local 0) m s r q
bare_agrees top base structs tops funs t m s r q a =
    let g : Scope = at_top structs tops funs in
    let g' : Scope = bare structs tops in
    ends_less (λ v s' m'. StandsAt structs t v m' (from_base base 0) × Kept top base 0 g m m' s s') (λ s' m'. Kept top base 0 g m m' s s')
    (λ v s' m'. StandsAt structs t v m' (from_base base 0) × Kept top base 0 g' m m' s s') (λ s' m'. Kept top base 0 g' m m' s s') r q
    (λ v s' m' x. (x.0, kept s' m' x.1)) (λ s' m' x. kept s' m' x) a where
      kept : (s' : State) (m' : Memory) → Kept top base 0 (at_top structs tops funs) m m' s s' → Kept top base 0 (bare structs tops) m m' s s'
      kept s' m' k = record { tops = k.tops; tops_in = k.tops_in; locals = k.locals; same = k.same; size = k.size; used = k.used; limit = k.limit }

-- values of the parameters' types are arguments
pub are_arguments : (structs : List StructDef) (cells : List ℤ) (i : ℕ) (ps : List Field) (vs : List Val) →
    CellsAre structs cells i (map (λ p. type_of p.ty) ps) vs → ArgumentsAt structs cells i ps vs
are_arguments structs cells i [] [] a = tt
are_arguments structs cells i [] (v ∷ vs) a = absurd a
are_arguments structs cells i (p ∷ ps) [] a = absurd a
are_arguments structs cells i (p ∷ ps) (v ∷ vs) a = (a.0, a.1, are_arguments structs cells (i + layout_of structs (type_of p.ty)) ps vs a.2)

-- what it is for a call of code to agree with a function
abbrev CallAgrees : ℕ → List StructDef → List Holder → Signature → (List Val → State → Eval) → Type 0
CallAgrees top structs tops sig meant =
    (base : ℕ) (vs : List Val) (m : Memory) (s : State) → CallBegins top base structs sig tops vs m s →
    Agrees top base 0 (bare structs tops) sig.result (Local 0) m s (meant vs s) (go_all sig.code.steps base m)

-- a function with a signature
one_agrees : (top : ℕ) (l : Library) (structs : List StructDef) (tops : List Holder) (sigs : ℕ → Option Signature) (f : Function) (sig : Signature) →
    ExpressionsAgree → Calls top l structs tops sigs → HasSignature structs tops sigs f sig →
    CallAgrees top structs tops sig (called_fun f.params (run_body l f.body))
one_agrees top l structs tops sigs f sig agree c h base vs m s b =
    let g : Scope = at_top structs tops sigs in
    let fit = h.fine.1 in
    let room = b.room in
    bare_agrees top base structs tops sigs sig.result m s _ _
    (subst (λ steps. Agrees top base 0 g sig.result (Local 0) m s (called_fun f.params (run_body l f.body) vs s) (go_all steps base m)) (sym h.code)
    (body_agrees top base sig.needs l g f.params f.body.statements f.body.result sig.result vs m s agree c h.fine (record {
      tops = b.tops_held;
      tops_in = b.tops_in;
      arguments = are_arguments structs m.cells base f.params vs (subst (λ ts. CellsAre structs m.cells base ts vs) h.parameters b.arguments);
      fit = fit;
      used = b.used;
      limit = b.limit;
      apart = b.apart;
      room = omega arith;
      small = b.small;
    })))

-- a choice between one more function and those before it
picked : (b : Bool) (top : ℕ) (structs : List StructDef) (tops : List Holder) (new old : List Val → State → Eval) (sig other : Option Signature)
    (f : Signature) → pick b sig other ≡ Some f →
    (sig ≡ Some f → CallAgrees top structs tops f new) → (other ≡ Some f → CallAgrees top structs tops f old) →
    CallAgrees top structs tops f (pick b new old)
picked true top structs tops new old sig other f e a c = a e
picked false top structs tops new old sig other f e a c = c e

with_signature : (top : ℕ) (l : Library) (structs : List StructDef) (tops : List Holder) (sigs : ℕ → Option Signature) (f : Function)
    (o : Option Signature) (sig : Signature) → ExpressionsAgree → Calls top l structs tops sigs →
    FitsSignature structs tops sigs f o → o ≡ Some sig → CallAgrees top structs tops sig (called_fun f.params (run_body l f.body))
with_signature top l structs tops sigs f None sig agree c h e = absurd (cc)
with_signature top l structs tops sigs f (Some sig') sig agree c h e =
    let same : sig' ≡ sig = cc in
    one_agrees top l structs tops sigs f sig agree c (subst (HasSignature structs tops sigs f) same h)

-- one more function
one_more_agrees : (top n : ℕ) (blanks : List Val) (funs : Funs) (structs : List StructDef) (tops : List Holder) (sigs : ℕ → Option Signature)
    (f : Function) (sig : Option Signature) → ExpressionsAgree → FitsSignature structs tops sigs f sig →
    Calls top (record { blanks = blanks; funs = funs }) structs tops sigs →
    Calls top (record { blanks = blanks; funs = one_more_fun blanks funs n f }) structs tops (one_more_signature sigs n sig)
one_more_agrees top n blanks funs structs tops sigs f sig agree h c =
    let l : Library = record { blanks = blanks; funs = funs } in
    record {
      all_top = c.all_top;
      ordered = c.ordered;
      blanks = c.blanks;
      agree = λ k g e. picked (nat_eq k n) top structs tops (called_fun f.params (run_body l f.body)) (funs k) sig (sigs k) g e
          (λ z. with_signature top l structs tops sigs f sig g agree c h z) (λ z. c.agree k g z);
    }

more_agree : (top n : ℕ) (blanks : List Val) (funs : Funs) (structs : List StructDef) (tops : List Holder) (sigs : ℕ → Option Signature)
    (fs : List Function) (more : List (Option Signature)) → ExpressionsAgree → HaveSignatures structs tops sigs n fs more →
    Calls top (record { blanks = blanks; funs = funs }) structs tops sigs →
    Calls top (record { blanks = blanks; funs = more_funs blanks funs n fs }) structs tops (more_signatures sigs n more)
more_agree top n blanks funs structs tops sigs [] [] agree h c = c
more_agree top n blanks funs structs tops sigs [] (sig ∷ more) agree h c = absurd h
more_agree top n blanks funs structs tops sigs (f ∷ fs) [] agree h c = absurd h
more_agree top n blanks funs structs tops sigs (f ∷ fs) (sig ∷ more) agree h c =
    more_agree top (suc n) blanks (one_more_fun blanks funs n f) structs tops (one_more_signature sigs n sig) fs more agree h.1
    (one_more_agrees top n blanks funs structs tops sigs f sig agree h.0 c)

-- the code of all functions of a program does what they mean
pub programs_agree : ExpressionsAgree → FunctionsAgree
programs_agree agree top structs tops fs sigs ordered all_top h =
    more_agree top 0 (blanks_of structs) no_funs structs tops (λ k. None) fs sigs agree h
    (record { all_top = all_top; ordered = ordered; blanks = refl; agree = λ k f e. absurd (cc) })
