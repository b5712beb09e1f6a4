-- Typed functions are what code asks for, and are found by their places.
use Rattle.std.specs.Prelude.{◌≡◌, refl, ◌≤◌, ◌<◌, ◌⊎◌, max, ℕ, zero, suc, List, [], ◌∷◌, ◌++◌, map, Bool, true, false, nat_eq, Option, Some, None, slice_get, length}
use Rattle.std.proofs.Common.{ap, ◌∙◌, sym, subst, arith, inl, inr}
use Rattle.std.proofs.lemmas.Bool.{eq-eqb, ne_eqb}
use Rattle.std.proofs.lemmas.List.{append-nil, append_assoc}
use Rattle.zir_tree.specs.declared.types.Ty.{Ty}
use Rattle.zir_tree.specs.declared.types.TypeExpr.{TypeExpr}
use Rattle.zir_tree.specs.declared.types.StructDef.{StructDef}
use Rattle.zir_tree.specs.declared.stmt.Stmt.{Stmt, Var as VarStmt, Assign, Call, Error, If', IfElse', While', For'}
use Rattle.zir_tree.specs.declared.stmt.Return.{Return}
use Rattle.zir_tree.specs.declared.program.Function.{Function}
use Rattle.zir_tree.specs.declared.program.Core.{Core}
use Rattle.zir_types.specs.declared.scope.Signature.{Signature}
use Rattle.zir_types.specs.Scope.{Visible, declare}
use Rattle.zir_types.specs.Programs.{defs_of}
use Rattle.zir_meaning.specs.Functions.{pick}
use Rattle.zir_shapes.specs.Shapes.{StructsBefore}
use Rattle.zir_code.specs.declared.scope.Holder.{Holder}
use Rattle.zir_code.specs.declared.scope.Signature as code
use Rattle.zir_code.specs.Scopes.{Scope}
use Rattle.zir_code.specs.Types.{cells_for, size_in}
use Rattle.zir_code.specs.Statements.{scope_after, free_after}
use Rattle.zir_code.specs.Needs.{all_peak, result_peak}
use Rattle.zir_code.specs.Bodies.{inside, cells_of_all, scope_after_all, free_after_all, ResultFits, FineBody}
use Rattle.zir_code.specs.Program.{at_top, one_more_signature, more_signatures}
use Rattle.zir_code.proofs.TypesFound.{types_found}
use Rattle.zir_compile.specs.Signing.{type_given, cells_of, is_signed, signature_in, signature_if, signature_of, signatures_after, signatures_of, no_signature}
use Rattle.zir_compile.specs.Signing.{FineIn, FineAfter}
use Rattle.zir_eval.specs.Opening.{program_scope}
use Rattle.zir_sound.specs.Statements.{AreStmtsOf, IsBody, Returns, param_of}
use Rattle.zir_sound.specs.Statements as sound
use Rattle.zir_sound.specs.Cores.{Begins, IsTop, IsFunction, AreFunctions, IsSound, result_type}
use Rattle.zir_sound.specs.Cores as cores
use Rattle.zir_sound.proofs.Fronts.{begins_self}
use Rattle.zir_typed_code.specs.Forming.{KnownIfAny, FilledReturn, FormedFunction, FormedFunctions, WellFormed, with_params, top_numbers, numbers_behind}
use Rattle.zir_typed_code.specs.Scopes.{MayCall, SameScope}
use Rattle.zir_typed_code.specs.Programs.{AllSigned, IsSigned, SignedAt, tops_of}
use Rattle.zir_typed_code.proofs.Expressions.{expression_fits}
use Rattle.zir_typed_code.proofs.Coming.{parameters_come, params_known}
use Rattle.zir_typed_code.proofs.Statements.{statements_fit, scopes_go_on}
use Rattle.zir_typed_code.proofs.Tops.{MayCallAll, top_same, less_seen}

-- Statements use no fewer cells than are taken before them.
free_within : (g : Scope) (d : ℕ) (s : Stmt) → d ≤ free_after g d s
free_within g d (VarStmt v) = omega arith
free_within g d (Assign x steps e) = omega arith
free_within g d (Call x k es) = omega arith
free_within g d (Error text p) = omega arith
free_within g d (If' e _ ss p) = omega arith
free_within g d (IfElse' e _ ss _ us p) = omega arith
free_within g d (While' e _ ss p) = omega arith
free_within g d (For' x a n _ ss p) = omega arith

all_within : (g : Scope) (d : ℕ) (ss : List Stmt) → d ≤ all_peak g d ss
all_within g d [] = omega arith
all_within g d (s ∷ ss) =
    let one = free_within g d s in
    let more = all_within (scope_after g d s) (free_after g d s) ss in
    omega arith

result_fits : (xs : List ℕ) (v : Visible) (g : Scope) (n d : ℕ) → SameScope xs v g n → (t : Ty) (r : Option Return) → FilledReturn r → Returns v t r →
    result_peak g d r ≤ n → ResultFits g d n t r
result_fits xs v g n d w t None f h le = h
result_fits xs v g n d w t (Some r) f h le =
    let own = expression_fits xs v g n w t r.value f h in
    let size : size_in g r.value ≡ cells_for g t = ap (cells_for g) (types_found g n t r.value own) in
    ((own, omega arith), omega (arith, size))

given_same : (o : Option TypeExpr) → result_type o ≡ type_given o
given_same None = refl
given_same (Some t) = refl

result_known : (m : ℕ) (o : Option TypeExpr) → KnownIfAny m o → StructsBefore m (result_type o).base
result_known m None h = tt
result_known m (Some t) h = h

-- A function is well typed in the cells that its body needs.
body_fine : (xs : List ℕ) (v : Visible) (g : Scope) (n : ℕ) → SameScope xs v g n → g.locals ≡ [] → (f : Function) → FormedFunction (length g.structs) xs f →
    IsBody (declare (map param_of f.params) v) (result_type f.result) f.body → cells_of g f ≤ n →
    FineBody g n f.params f.body.statements f.body.result (type_given f.result)
body_fine xs v g n w e f formed body le =
    let ps = f.params in
    let ss = f.body.statements in
    let d = cells_of_all g ps in
    let u = declare (map param_of ps) v in
    let all : max (all_peak (inside g ps) d ss) (result_peak (scope_after_all (inside g ps) d ss) (free_after_all (inside g ps) d ss) f.body.result) ≤ n = le in
    let first = all_within (inside g ps) d ss in
    let room : d ≤ n = omega arith in
    let inner = parameters_come xs v g n w e ps formed.params room in (
      params_known g xs ps formed.params,
      room,
      statements_fit (with_params xs ps) u (inside g ps) n inner d ss formed.body.0 body.statements (omega arith),
      subst (λ t. ResultFits (scope_after_all (inside g ps) d ss) (free_after_all (inside g ps) d ss) n t f.body.result) (given_same f.result)
          (result_fits (numbers_behind (with_params xs ps) ss) (sound.behind u ss) (scope_after_all (inside g ps) d ss) n (free_after_all (inside g ps) d ss)
          (scopes_go_on (with_params xs ps) u (inside g ps) n inner d ss formed.body.0 body.statements (omega arith)) (result_type f.result) f.body.result
          formed.body.1 body.result (omega arith)),
    )

-- What is at a place of a list with one more.
got_after : {A : Type 0} (xs : List A) (x y : A) (k : ℕ) → slice_get (xs ++ x ∷ []) k ≡ Some y →
    ((slice_get xs k ≡ Some y) × (k < length xs)) ⊎ ((k ≡ length xs) × (x ≡ y))
got_after {A} [] x y zero h = inr (refl, cc)
got_after {A} [] x y (suc k) h = absurd cc
got_after {A} (z ∷ xs) x y zero h = inl (h, omega arith)
got_after {A} (z ∷ xs) x y (suc k) h = one_on (got_after xs x y k h)
  where
    one_on : ((slice_get xs k ≡ Some y) × (k < length xs)) ⊎ ((k ≡ length xs) × (x ≡ y)) →
        ((slice_get xs k ≡ Some y) × (suc k < length (z ∷ xs))) ⊎ ((suc k ≡ length (z ∷ xs)) × (x ≡ y))
    one_on (inl r) = let lt : k < length xs = r.1 in inl (r.0, omega arith)
    one_on (inr r) = let e : k ≡ length xs = r.0 in inr (omega arith, r.1)

-- One more function may be called.
calls_more : (structs : List StructDef) (tops : List Holder) (funs : ℕ → Option code.Signature) (before : List Signature) (n : ℕ) (f : Function) (made : code.Signature) →
    n ≡ length before → made.params ≡ sound.param_types f.params → made.result ≡ result_type f.result → StructsBefore (length structs) (result_type f.result).base →
    MayCallAll (at_top structs tops funs) before →
    MayCallAll (at_top structs tops (one_more_signature funs n (Some made))) (before ++ cores.signature_of f ∷ [])
calls_more structs tops funs before n f made e params result known calls k s h = by_place (got_after before (cores.signature_of f) s k h)
  where
    by_place : ((slice_get before k ≡ Some s) × (k < length before)) ⊎ ((k ≡ length before) × (cores.signature_of f ≡ s)) →
        MayCall (at_top structs tops (one_more_signature funs n (Some made))) k s
    by_place (inl r) =
        let m : MayCall (at_top structs tops funs) k s = calls k s r.0 in
        let lt : k < length before = r.1 in
        let other : nat_eq k n ≡ false = ne_eqb k n (λ q. absurd (omega arith)) in
        record {
          made = m.made;
          found = ap (λ b. pick b (Some made) (funs k)) other ∙ m.found;
          params = m.params;
          result = m.result;
          known = m.known;
        }
    by_place (inr r) =
        let q : k ≡ length before = r.0 in
        let same : nat_eq k n ≡ true = eq-eqb k n (omega arith) in
        record {
          made = made;
          found = ap (λ b. pick b (Some made) (funs k)) same;
          params = params ∙ ap (λ (s : Signature). s.params) r.1;
          result = result ∙ ap (λ (s : Signature). s.result) r.1;
          known = subst (λ (s : Signature). StructsBefore (length structs) s.result.base) r.1 known;
        }

-- A function that has a signature has this one.
signed_first : (b : Bool) (g : Scope) (f : Function) (more : List (Option code.Signature)) → AllSigned (signature_if b g f ∷ more) →
    (signature_if b g f ≡ Some (signature_in g f)) × AllSigned more
signed_first true g f more h = (refl, h)
signed_first false g f more h = absurd h

one_longer : (before : List Signature) (s : Signature) → suc (length before) ≡ length (before ++ s ∷ [])
one_longer [] s = refl
one_longer (x ∷ before) s = ap suc (one_longer before s)

longer : (before : List Signature) (s : Signature) (n : ℕ) → n ≡ length before → suc n ≡ length (before ++ s ∷ [])
longer before s n e = ap suc e ∙ one_longer before s

-- The functions behind some may be called too.
pub all_calls : (structs : List StructDef) (tops : List Holder) (xs : List ℕ) (fs : List Function) (funs : ℕ → Option code.Signature) (before : List Signature) (n : ℕ) →
    n ≡ length before → FormedFunctions (length structs) xs fs → AllSigned (signatures_after structs tops funs n fs) → MayCallAll (at_top structs tops funs) before →
    MayCallAll (at_top structs tops (more_signatures funs n (signatures_after structs tops funs n fs))) (before ++ map cores.signature_of fs)
all_calls structs tops xs [] funs before n e formed signed calls =
    subst (MayCallAll (at_top structs tops funs)) (sym (append-nil before)) calls
all_calls structs tops xs (f ∷ fs) funs before n e formed signed calls =
    let g = at_top structs tops funs in
    let made = signature_of g f in
    let s = signed_first (is_signed g f) g f (signatures_after structs tops (one_more_signature funs n made) (suc n) fs) signed in
    let one = calls_more structs tops funs before n f (signature_in g f) e refl (sym (given_same f.result))
    (result_known (length structs) f.result formed.0.result) calls in
    let here : MayCallAll (at_top structs tops (one_more_signature funs n made)) (before ++ cores.signature_of f ∷ []) =
    subst (λ o. MayCallAll (at_top structs tops (one_more_signature funs n o)) (before ++ cores.signature_of f ∷ [])) (sym s.0) one in
    subst (MayCallAll (at_top structs tops (more_signatures funs n (signatures_after structs tops funs n (f ∷ fs)))))
    (append_assoc before (cores.signature_of f ∷ []) (map cores.signature_of fs))
    (all_calls structs tops xs fs (one_more_signature funs n made) (before ++ cores.signature_of f ∷ []) (suc n) (longer before (cores.signature_of f) n e)
    formed.1 s.1 here)

-- What a function sees, code has in scope.
pub part_same : (core : Core) (top : Visible) (before : List Signature) (funs : ℕ → Option code.Signature) (n : ℕ) (seen : Visible) → WellFormed core →
    core.structs ≡ defs_of top.shapes → MayCallAll (at_top core.structs (tops_of core) funs) before → Begins seen.shapes top.shapes →
    Begins seen.functions before → Begins seen.variables (map sound.seen_of core.variables) →
    SameScope (top_numbers core) seen (at_top core.structs (tops_of core) funs) n
part_same core top before funs n seen formed structs calls shapes functions variables =
    let v : Visible = record { shapes = top.shapes; functions = before; variables = map sound.seen_of core.variables } in
    less_seen (top_numbers core) v seen (at_top core.structs (tops_of core) funs) n
    (top_same core.structs top.shapes core.variables before funs n ([], structs ∙ sym (append-nil (defs_of top.shapes))) formed.structs formed.variables calls)
    shapes functions variables

same_begins : {A : Type 0} (xs ys : List A) → xs ≡ ys → Begins xs ys
same_begins {A} xs ys e = subst (λ zs. Begins zs ys) (sym e) (begins_self ys)

fine_in : (b : Bool) (structs : List StructDef) (tops : List Holder) (funs : ℕ → Option code.Signature) (f : Function) →
    FineBody (at_top structs tops funs) (cells_of (at_top structs tops funs) f) f.params f.body.statements f.body.result (type_given f.result) →
    FineIn structs tops funs f (signature_if b (at_top structs tops funs) f)
fine_in true structs tops funs f h = h
fine_in false structs tops funs f h = tt

functions_after : (core : Core) (top : Visible) → WellFormed core → core.structs ≡ defs_of top.shapes → top.variables ≡ map sound.seen_of core.variables →
    (fs : List Function) (funs : ℕ → Option code.Signature) (before : List Signature) (n : ℕ) → n ≡ length before →
    FormedFunctions (length core.structs) (top_numbers core) fs → AllSigned (signatures_after core.structs (tops_of core) funs n fs) →
    MayCallAll (at_top core.structs (tops_of core) funs) before → AreFunctions top before fs → FineAfter core.structs (tops_of core) funs n fs
functions_after core top formed structs variables [] funs before n e each signed calls h = tt
functions_after core top formed structs variables (f ∷ fs) funs before n e each signed calls h =
    let g = at_top core.structs (tops_of core) funs in
    let made = signature_of g f in
    let s = signed_first (is_signed g f) g f (signatures_after core.structs (tops_of core) (one_more_signature funs n made) (suc n) fs) signed in
    let one = calls_more core.structs (tops_of core) funs before n f (signature_in g f) e refl (sym (given_same f.result))
    (result_known (length core.structs) f.result each.0.result) calls in
    let here : MayCallAll (at_top core.structs (tops_of core) (one_more_signature funs n made)) (before ++ cores.signature_of f ∷ []) =
    subst (λ o. MayCallAll (at_top core.structs (tops_of core) (one_more_signature funs n o)) (before ++ cores.signature_of f ∷ [])) (sym s.0) one in
    let is : IsFunction top before f = h.0 in
    let w = part_same core top before funs (cells_of g f) is.seen formed structs calls is.is_top.shapes (same_begins is.seen.functions before is.is_top.functions_are)
    (subst (λ us. Begins us (map sound.seen_of core.variables)) (sym is.is_top.variables_are) (subst (Begins is.variables) variables is.first)) in (
      fine_in (is_signed g f) core.structs (tops_of core) funs f (body_fine (top_numbers core) is.seen g (cells_of g f) w refl f each.0 is.body (omega arith)),
      functions_after core top formed structs variables fs (one_more_signature funs n made) (before ++ cores.signature_of f ∷ []) (suc n)
          (longer before (cores.signature_of f) n e) each.1 s.1 here h.1,
    )

none_called : (g : Scope) → MayCallAll g []
none_called g k s h = absurd cc

pub functions_fit : (core : Core) → IsSound core → WellFormed core → IsSigned core → FineAfter core.structs (tops_of core) no_signature 0 core.functions
functions_fit core s formed signed =
    functions_after core s.top formed s.structs s.variables core.functions no_signature [] 0 refl formed.functions signed
    (none_called (at_top core.structs (tops_of core) no_signature)) s.are_functions

-- All functions of a program may be called at its top.
pub program_calls : (core : Core) → WellFormed core → IsSigned core → MayCallAll (program_scope core) (map cores.signature_of core.functions)
program_calls core formed signed =
    all_calls core.structs (tops_of core) (top_numbers core) core.functions no_signature [] 0 refl formed.functions signed
    (none_called (at_top core.structs (tops_of core) no_signature))

pub program_part : (core : Core) (n : ℕ) (s : IsSound core) (seen : Visible) → WellFormed core → IsSigned core → Begins seen.shapes s.top.shapes →
    Begins seen.functions s.top.functions → Begins seen.variables s.top.variables → SameScope (top_numbers core) seen (program_scope core) n
program_part core n s seen formed signed shapes functions variables =
    part_same core s.top (map cores.signature_of core.functions)
    (more_signatures no_signature 0 (signatures_of core.structs (tops_of core) core.functions)) n seen formed s.structs (program_calls core formed signed) shapes
    (subst (Begins seen.functions) s.functions functions) (subst (Begins seen.variables) s.variables variables)

pub top_is_same : (core : Core) (s : IsSound core) → WellFormed core → IsSigned core → (n : ℕ) → SameScope (top_numbers core) s.top (program_scope core) n
top_is_same core s formed signed n =
    program_part core n s s.top formed signed (begins_self s.top.shapes) (begins_self s.top.functions) (begins_self s.top.variables)

mapped_at : (fs : List Function) (k : ℕ) (f : Function) → slice_get fs k ≡ Some f → slice_get (map cores.signature_of fs) k ≡ Some (cores.signature_of f)
mapped_at [] k f h = absurd cc
mapped_at (x ∷ fs) zero f h = let e : x ≡ f = cc in ap (λ y. Some (cores.signature_of y)) e
mapped_at (x ∷ fs) (suc k) f h = mapped_at fs k f h

pub signatures_are_found : (core : Core) → IsSound core → WellFormed core → IsSigned core → (k : ℕ) (f : Function) → slice_get core.functions k ≡ Some f →
    SignedAt core k f
signatures_are_found core s formed signed k f h =
    let m : MayCall (program_scope core) k (cores.signature_of f) = program_calls core formed signed k (cores.signature_of f) (mapped_at core.functions k f h) in
    record { made = m.made; found = m.found; params = m.params; result = m.result }
