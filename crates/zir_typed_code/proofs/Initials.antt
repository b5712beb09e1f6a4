-- Initial values of top variables are what code asks for, and the types of a well formed core are known.
use Rattle.std.specs.Prelude.{◌≡◌, refl, ◌≤◌, max, ℕ, List, [], ◌∷◌, ◌++◌, map, false, if◌then◌else◌, nat_eq, Option, Some, None, length}
use Rattle.std.proofs.Common.{ap, ◌∙◌, sym, subst, arith}
use Rattle.std.proofs.lemmas.Bool.{eq-eqb}
use Rattle.std.proofs.lemmas.List.{append_assoc}
use Rattle.zir_tree.specs.declared.types.Ty.{Ty}
use Rattle.zir_tree.specs.declared.expr.Expr.{Expr}
use Rattle.zir_tree.specs.declared.ident.Ident.{Ident}
use Rattle.zir_tree.specs.declared.stmt.Stmt.{Stmt, Assign}
use Rattle.zir_tree.specs.declared.stmt.Var.{Var}
use Rattle.zir_tree.specs.declared.program.Core.{Core}
use Rattle.zir_types.specs.declared.scope.Seen.{Seen}
use Rattle.zir_types.specs.Scope.{Visible, type_in}
use Rattle.zir_types.specs.Typing as types
use Rattle.zir_meaning.specs.Values.{type_of}
use Rattle.zir_code.specs.Scopes.{Scope, variable}
use Rattle.zir_code.specs.Types.{cells_for, size_in}
use Rattle.zir_code.specs.Peaks.{peak_of}
use Rattle.zir_code.specs.Statements.{storing_peak}
use Rattle.zir_code.specs.Fine.{Fine}
use Rattle.zir_code.specs.Needs.{stmt_peak, all_peak}
use Rattle.zir_code.specs.Bodies.{FineAll}
use Rattle.zir_code.proofs.TypesFound.{types_found}
use Rattle.zir_eval.specs.Opening.{program_scope, initially, initial_assignments, VarsKnown, KnowsTypes}
use Rattle.zir_sound.specs.Statements.{HasIfAny, seen_of}
use Rattle.zir_sound.specs.Cores.{Begins, IsTopVar, AreTopVars, IsSound}
use Rattle.zir_sound.specs.Laws.{is_in}
use Rattle.zir_typed_code.specs.Forming.{IsFilled, FilledIfAny, FormedVars, WellFormed, top_numbers}
use Rattle.zir_typed_code.specs.Scopes.{Finds, SameScope}
use Rattle.zir_typed_code.specs.Programs.{IsSigned}
use Rattle.zir_typed_code.proofs.Expressions.{expression_fits}
use Rattle.zir_typed_code.proofs.Coming.{neither}
use Rattle.zir_typed_code.proofs.Functions.{program_part, top_is_same}

-- A whole variable is assigned a typed value.
whole_fits : (xs : List ℕ) (v : Visible) (g : Scope) (n d : ℕ) → SameScope xs v g n → (x : Ident) (t : Ty) (e : Expr) → Finds g n x.id t → IsFilled e →
    types.Has v t e → stmt_peak g d (Assign x [] e) ≤ n → Fine g d n (Assign x [] e)
whole_fits xs v g n d w x t e r f has le =
    let own = expression_fits xs v g n w t e f has in
    let size : size_in g e ≡ cells_for g t = ap (cells_for g) (types_found g n t e own) in
    let room : max (peak_of g e d) (storing_peak g (variable g x.id) [] d (size_in g e)) ≤ n = le in
    let at_last : storing_peak g (variable g x.id) [] d (size_in g e) ≤ n = omega arith in (
      t,
      r.holder,
      r.found,
      r.sole,
      r.fits,
      (own, omega arith),
      r.type_is,
      subst (λ k. storing_peak g (Some r.holder) [] d k ≤ n) size (subst (λ o. storing_peak g o [] d (size_in g e) ≤ n) r.found at_last),
    )

-- Of assignments to their variables, the first may be left out.
initial_first : (xs : List ℕ) (v : Visible) (g : Scope) (n d : ℕ) → SameScope xs v g n → (x : Ident) (t : Ty) (o : Option Expr) (more : List Stmt) → Finds g n x.id t →
    FilledIfAny o → HasIfAny v t o → (all_peak g d more ≤ n → FineAll g d n more) → all_peak g d (initially x o ++ more) ≤ n →
    FineAll g d n (initially x o ++ more)
initial_first xs v g n d w x t None more r f has k le = k le
initial_first xs v g n d w x t (Some e) more r f has k le =
    let room : max (stmt_peak g d (Assign x [] e)) (all_peak g d more) ≤ n = le in
    (whole_fits xs v g n d w x t e r f has (omega arith), k (omega arith))

-- The variables from some place on are found by their numbers.
abbrev Found : Scope → ℕ → List ℕ → List Var → Type 0
Found g n xs vs = (id : ℕ) (t : Ty) → is_in xs id ≡ false → type_in (map seen_of vs) id ≡ Some t → Finds g n id t

initials_after : (core : Core) (s : IsSound core) (d n : ℕ) → WellFormed core → IsSigned core → (vs : List Var) (xs : List ℕ) (before : List Seen) →
    FormedVars (length core.structs) xs vs → s.top.variables ≡ before ++ map seen_of vs → AreTopVars s.top before vs → Found (program_scope core) n xs vs →
    all_peak (program_scope core) d (initial_assignments vs) ≤ n → FineAll (program_scope core) d n (initial_assignments vs)
initials_after core s d n formed signed [] xs before each e h found le = tt
initials_after core s d n formed signed (v ∷ vs) xs before each e h found le =
    let g = program_scope core in
    let t = type_of v.ty in
    let is : IsTopVar s.top before v = h.0 in
    let front : Begins before s.top.variables = (map seen_of (v ∷ vs), e) in
    let w = program_part core n s is.seen formed signed is.is_top.shapes
    (subst (λ us. Begins us s.top.functions) (sym is.is_top.functions_are) is.first)
    (subst (λ us. Begins us s.top.variables) (sym is.is_top.variables_are) front) in
    let here : type_in (map seen_of (v ∷ vs)) v.name.id ≡ Some t =
    ap (λ b. if b then Some t else type_in (map seen_of vs) v.name.id) (eq-eqb v.name.id v.name.id refl) in
    let later : Found g n (v.name.id ∷ xs) vs = λ id u new k. (let c = neither (nat_eq v.name.id id) (is_in xs id) new in
    found id u c.1 (ap (λ b. if b then Some t else type_in (map seen_of vs) id) c.0 ∙ k)) in
    initial_first (top_numbers core) is.seen g n d w v.name t v.initial (initial_assignments vs) (found v.name.id t each.0.0 here) each.0.2 is.initial
    (initials_after core s d n formed signed vs (v.name.id ∷ xs) (before ++ seen_of v ∷ []) each.1
    (e ∙ sym (append_assoc before (seen_of v ∷ []) (map seen_of vs))) h.1 later) le

pub initials_fit : (core : Core) → IsSound core → WellFormed core → IsSigned core → (d n : ℕ) →
    all_peak (program_scope core) d (initial_assignments core.variables) ≤ n → FineAll (program_scope core) d n (initial_assignments core.variables)
initials_fit core s formed signed d n le =
    let w : SameScope (top_numbers core) s.top (program_scope core) n = top_is_same core s formed signed n in
    initials_after core s d n formed signed core.variables [] [] formed.variables s.variables s.are_variables
    (λ id t new h. w.variables id t (ap (λ vs. type_in vs id) s.variables ∙ h)) le

vars_known : (m : ℕ) (xs : List ℕ) (vs : List Var) → FormedVars m xs vs → VarsKnown m vs
vars_known m xs [] h = tt
vars_known m xs (v ∷ vs) h = (h.0.1, vars_known m (v.name.id ∷ xs) vs h.1)

pub types_are_known : (core : Core) → WellFormed core → KnowsTypes core
types_are_known core formed = record { structs = formed.structs; variables = vars_known (length core.structs) [] core.variables formed.variables }
