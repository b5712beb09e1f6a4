-- What types see, and what code has in scope.
use Rattle.std.specs.Prelude.{ℕ, ◌+◌, ◌≤◌, List, [], ◌∷◌, Option, Some, None, false, ◌≡◌, length}
use Rattle.std.proofs.Common.{ap, ◌∙◌, sym, subst, refl, arith}
use Rattle.zir_tree.specs.declared.types.Ty.{Ty}
use Rattle.zir_tree.specs.declared.stmt.Stmt.{Stmt, Var as VarStmt, Assign, Call as CallStmt, Error, If', IfElse', While', For'}
use Rattle.zir_tree.specs.declared.stmt.Return.{Return}
use Rattle.zir_tree.specs.declared.stmt.Body.{Body}
use Rattle.zir_types.specs.declared.scope.Signature.{Signature}
use Rattle.zir_types.specs.Scope.{Visible, declare, variable}
use Rattle.zir_shapes.specs.Shapes.{StructsBefore}
use Rattle.zir_expr.specs.declared.frame.Spot.{Spot}
use Rattle.zir_expr.specs.declared.frame.Spot.TheVariants.{Top, Local}
use Rattle.zir_code.specs.Scopes.{Scope}
use Rattle.zir_code.specs.Types.{cells_for}
use Rattle.zir_code.specs.Typing.{SpotFits}
use Rattle.zir_code.specs.Needs.{all_peak}
use Rattle.zir_code.specs.Statements.{with_local, scope_after, free_after}
use Rattle.zir_code.specs.Bodies.{scope_after_all, free_after_all}
use Rattle.zir_code.proofs.TypesFound.{types_found}
use Rattle.zir_sound.specs.Statements.{IsBody, Returns, behind}
use Rattle.zir_sound.specs.Laws.{is_in}
use Rattle.zir_flow.specs.Kinds.{returned_type, body_type}
use Rattle.zir_flow.specs.Fitting.{ReturnFits, DoFits}
use Rattle.zir_flat.specs.Needs.{returned_peak, do_peak}
use Rattle.zir_typed_code.specs.Forming.{FilledReturn, FormedBody, numbers_behind}
use Rattle.zir_typed_code.specs.Scopes.{Finds, MayCall, SameScope}
use Rattle.zir_typed_code.specs.Laws.{ExpressionsFit, ValuesAreKnown, LocalsComeIn, ScopesGoOn, BodiesFit, return_peak, ValueFits}
use Rattle.zir_typed_parts.proofs.Grounds.{Known, FunctionFound, Relates}

-- what typed code below components is for code
pub record CodeFits : Type 0 where
  pub expressions : ExpressionsFit
  pub values : ValuesAreKnown
  pub locals : LocalsComeIn
  pub scopes : ScopesGoOn
  pub bodies : BodiesFit

-- code has in scope what is seen, where its cells from d on are free and the program has n structs
pub record Related (n : ℕ) (ids : List ℕ) (g : Visible) (sc : Scope) (d : ℕ) : Type 0 where
  pub same : SameScope ids g sc d
  pub count : n ≡ length sc.structs

-- MORE CELLS IN USE

spot_later : (s : Spot) (k d d' : ℕ) → d ≤ d' → SpotFits d s k → SpotFits d' s k
spot_later (Top o) k d d' le h = tt
spot_later (Local o) k d d' le h = omega arith

finds_later : (sc : Scope) (d d' id : ℕ) (t : Ty) → d ≤ d' → Finds sc d id t → Finds sc d' id t
finds_later sc d d' id t le x = record {
  holder = x.holder;
  found = x.found;
  sole = x.sole;
  type_is = x.type_is;
  fits = record { cells = x.fits.cells; known = x.fits.known; spot = spot_later x.holder.spot x.holder.cells d d' le x.fits.spot };
}

same_later : (ids : List ℕ) (g : Visible) (sc : Scope) (d d' : ℕ) → d ≤ d' → SameScope ids g sc d → SameScope ids g sc d'
same_later ids g sc d d' le s = record {
  structs = s.structs;
  ordered = s.ordered;
  variables = λ id t h. finds_later sc d d' id t le (s.variables id t h);
  functions = s.functions;
  own = s.own;
  numbers = s.numbers;
}

related_later : (n : ℕ) (ids : List ℕ) (g : Visible) (sc : Scope) (d d' : ℕ) → d ≤ d' → Related n ids g sc d → Related n ids g sc d'
related_later n ids g sc d d' le r =
    record { same = same_later ids g sc d d' le r.same; count = r.count }

-- ONE MORE NAME

related_local : (n : ℕ) → CodeFits → (ids : List ℕ) (g : Visible) (sc : Scope) (d id : ℕ) (t : Ty) → Related n ids g sc d → Known n t →
    is_in ids id ≡ false → Related n (id ∷ ids) (declare (variable id t ∷ []) g) (with_local sc d id t) (d + cells_for sc t)
related_local n fits ids g sc d id t r known fresh =
    let d' : ℕ = d + cells_for sc t in
    record {
      same = fits.locals ids g sc d' (same_later ids g sc d d' (omega arith) r.same) d id t fresh (subst (λ n. StructsBefore n t.base) r.count known)
          (omega arith);
      count = r.count;
    }

-- FUNCTIONS

function_found : (n : ℕ) (ids : List ℕ) (g : Visible) (sc : Scope) (d k : ℕ) (s : Signature) → Related n ids g sc d → MayCall sc k s →
    FunctionFound n sc k s
function_found n ids g sc d k s r x = record {
  is = x.made;
  found = x.found;
  params = x.params;
  result = x.result;
  known = subst (λ n. StructsBefore n s.result.base) (sym r.count) x.known;
}

-- BODIES

same_structs : (sc : Scope) (d : ℕ) (s : Stmt) → (scope_after sc d s).structs ≡ sc.structs
same_structs sc d (VarStmt v) = refl
same_structs sc d (Assign x steps e) = refl
same_structs sc d (CallStmt f k es) = refl
same_structs sc d (Error text p) = refl
same_structs sc d (If' e _ ss p) = refl
same_structs sc d (IfElse' e _ ss _ us p) = refl
same_structs sc d (While' e _ ss p) = refl
same_structs sc d (For' x a k _ ss p) = refl

same_structs_all : (sc : Scope) (d : ℕ) (ss : List Stmt) → (scope_after_all sc d ss).structs ≡ sc.structs
same_structs_all sc d [] = refl
same_structs_all sc d (s ∷ ss) = same_structs_all (scope_after sc d s) (free_after sc d s) ss ∙ same_structs sc d s

same_peak : (sc : Scope) (d : ℕ) (r : Option Return) → returned_peak sc d r ≡ return_peak sc d r
same_peak sc d None = refl
same_peak sc d (Some r) = refl

value_type : (sc : Scope) (d k : ℕ) (t : Ty) (r : Option Return) → ValueFits sc d k t r → returned_type sc r ≡ t
value_type sc d k t None h = sym h
value_type sc d k t (Some r) h = types_found sc k t r.value h.0

value_fits : (sc : Scope) (d k : ℕ) (t : Ty) (r : Option Return) → ValueFits sc d k t r → ReturnFits sc d k t r
value_fits sc d k t None h = h
value_fits sc d k t (Some r) h = h

value_known : (n : ℕ) → ValuesAreKnown → (ids : List ℕ) (g : Visible) (sc : Scope) (k : ℕ) (t : Ty) (r : Option Return) → SameScope ids g sc k →
    n ≡ length sc.structs → FilledReturn r → Returns g t r → Known n t
value_known n values ids g sc k t None s count filled h = subst (Known n) (sym h) tt
value_known n values ids g sc k t (Some r) s count filled h =
    subst (λ n. StructsBefore n t.base) (sym count) (values ids g sc k s t r.value filled h).1

body_found : (n : ℕ) → CodeFits → (ids : List ℕ) (g : Visible) (sc : Scope) (d : ℕ) (t : Ty) (b : Body) → Related n ids g sc d → FormedBody n ids b →
    IsBody g t b → (body_type sc d b ≡ t) × Known n t
body_found n fits ids g sc d t b r formed is =
    let sc' : Scope = scope_after_all sc d b.statements in
    let free : ℕ = free_after_all sc d b.statements in
    let k : ℕ = d + (all_peak sc d b.statements + return_peak sc' free b.result) in
    let same : SameScope ids g sc k = same_later ids g sc d k (omega arith) r.same in
    let formed' : FormedBody (length sc.structs) ids b = subst (λ n. FormedBody n ids b) r.count formed in
    let fine = fits.bodies ids g sc k same d t b formed' is (omega arith) (omega arith) in
    let after : SameScope (numbers_behind ids b.statements) (behind g b.statements) sc' k =
    fits.scopes ids g sc k same d b.statements formed'.0 is.statements (omega arith) in (
      value_type sc' free k t b.result fine.1,
      value_known n fits.values (numbers_behind ids b.statements) (behind g b.statements) sc' k t b.result after
          (r.count ∙ ap length (sym (same_structs_all sc d b.statements))) formed.1 is.result,
    )

body_fits : (n : ℕ) → CodeFits → (ids : List ℕ) (g : Visible) (sc : Scope) (d k : ℕ) (t : Ty) (b : Body) → Related n ids g sc d → FormedBody n ids b →
    IsBody g t b → d ≤ k → do_peak sc d b ≤ k → DoFits sc d k b
body_fits n fits ids g sc d k t b r formed is le peak =
    let sc' : Scope = scope_after_all sc d b.statements in
    let free : ℕ = free_after_all sc d b.statements in
    let same : SameScope ids g sc k = same_later ids g sc d k le r.same in
    let equal : returned_peak sc' free b.result ≡ return_peak sc' free b.result = same_peak sc' free b.result in
    let found : body_type sc d b ≡ t = (body_found n fits ids g sc d t b r formed is).0 in
    let size : cells_for sc (body_type sc d b) ≡ cells_for sc t = ap (cells_for sc) found in
    let fine = fits.bodies ids g sc k same d t b (subst (λ n. FormedBody n ids b) r.count formed) is (omega arith) (omega arith) in
    (t, fine.0, omega arith, value_fits sc' free k t b.result fine.1)

-- where the code below components fits, the relation keeps and gives what components stand on
pub related_relates : (n : ℕ) → CodeFits → Relates n (Related n)
related_relates n fits = record {
  later = λ ids g sc d d' le r. related_later n ids g sc d d' le r;
  local = λ ids g sc d id t r known fresh. related_local n fits ids g sc d id t r known fresh;
  structs = λ ids g sc d r. r.count;
  distinct = λ ids g sc d r. (r.same.own.tops, r.same.own.locals, r.same.own.between);
  expression = λ ids g sc d t e r filled h. (
    fits.expressions ids g sc d r.same t e filled h,
    subst (λ n. StructsBefore n t.base) (sym r.count) (fits.values ids g sc d r.same t e filled h).1,
  );
  function = λ ids g sc d k s r e. function_found n ids g sc d k s r (r.same.functions k s e);
  body = λ ids g sc d t b r formed is. body_found n fits ids g sc d t b r formed is;
  body_fits = λ ids g sc d k t b r formed is le peak. body_fits n fits ids g sc d k t b r formed is le peak;
}
