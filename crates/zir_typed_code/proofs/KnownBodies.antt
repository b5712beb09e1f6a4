-- The values of typed bodies are of known types.
use Rattle.std.specs.Prelude.{◌≡◌, ◌⊎◌, ℕ, List, [], ◌∷◌, true, nat_eq, Option, Some, None}
use Rattle.std.proofs.Common.{ap, ◌∙◌, sym, inl, inr}
use Rattle.std.proofs.lemmas.List.{append-nil}
use Rattle.zir_tree.specs.declared.types.Base.TheVariants.{Unit as UnitTy}
use Rattle.zir_tree.specs.declared.types.Ty.{Ty}
use Rattle.zir_tree.specs.declared.stmt.Stmt.{Stmt, Var as VarStmt, Assign, Call, Error, If', IfElse', While', For'}
use Rattle.zir_tree.specs.declared.stmt.Return.{Return}
use Rattle.zir_tree.specs.declared.stmt.Body.{Body}
use Rattle.zir_types.specs.declared.scope.Seen.{Seen}
use Rattle.zir_types.specs.Kinds.{scalar}
use Rattle.zir_types.specs.Scope.{Visible, declare, type_in}
use Rattle.zir_shapes.specs.Shapes.{StructsBefore}
use Rattle.zir_sound.specs.Statements.{IsBody, Returns, behind, brought, seen_of}
use Rattle.zir_typed_code.specs.Forming.{FilledReturn, FormedStmt, FormedAll, FormedBody, numbers_after}
use Rattle.zir_typed_code.proofs.Coming.{type_after}
use Rattle.zir_typed_code.proofs.Known.{Knows, has_known, type_known}

-- One more variable of a known type.
pub knows_one : (m : ℕ) (v : Visible) (s : Seen) → Knows m v → StructsBefore m s.ty.base → Knows m (declare (s ∷ []) v)
knows_one m v s w known = record {
  structs = w.structs;
  begin = w.begin;
  ordered = w.ordered;
  fit = w.fit;
  variables = λ id t h. by_place id t (type_after v.variables s id t h);
  functions = w.functions;
}
  where
    by_place : (id : ℕ) (t : Ty) → (type_in v.variables id ≡ Some t) ⊎ ((nat_eq s.id id ≡ true) × (s.ty ≡ t)) → StructsBefore m t.base
    by_place id t (inl h) = w.variables id t h
    by_place id t (inr h) = type_known m t s.ty (sym h.1) known

knows_same : (m : ℕ) (v : Visible) → Knows m v → Knows m (declare [] v)
knows_same m v w = record {
  structs = w.structs;
  begin = w.begin;
  ordered = w.ordered;
  fit = w.fit;
  variables = λ id t h. w.variables id t (ap (λ vs. type_in vs id) (sym (append-nil v.variables)) ∙ h);
  functions = w.functions;
}

knows_after : (m : ℕ) (xs : List ℕ) (v : Visible) (s : Stmt) → Knows m v → FormedStmt m xs s → Knows m (declare (brought s) v)
knows_after m xs v (VarStmt d) w h = knows_one m v (seen_of d) w h.1
knows_after m xs v (Assign x steps e) w h = knows_same m v w
knows_after m xs v (Call f k es) w h = knows_same m v w
knows_after m xs v (Error text p) w h = knows_same m v w
knows_after m xs v (If' e _ us p) w h = knows_same m v w
knows_after m xs v (IfElse' e _ us _ vs p) w h = knows_same m v w
knows_after m xs v (While' e _ us p) w h = knows_same m v w
knows_after m xs v (For' x a n _ us p) w h = knows_same m v w

knows_behind : (m : ℕ) (xs : List ℕ) (v : Visible) (ss : List Stmt) → Knows m v → FormedAll m xs ss → Knows m (behind v ss)
knows_behind m xs v [] w h = w
knows_behind m xs v (s ∷ ss) w h = knows_behind m (numbers_after xs s) (declare (brought s) v) ss (knows_after m xs v s w h.0) h.1

returns_known : (m : ℕ) (v : Visible) (t : Ty) (r : Option Return) → Knows m v → FilledReturn r → Returns v t r → StructsBefore m t.base
returns_known m v t None w f h = type_known m t (scalar UnitTy) h tt
returns_known m v t (Some r) w f h = has_known m v w t r.value f h

-- The type of a body's value.
pub body_known : (m : ℕ) (xs : List ℕ) (v : Visible) (t : Ty) (b : Body) → Knows m v → FormedBody m xs b → IsBody v t b → StructsBefore m t.base
body_known m xs v t b w f h = returns_known m (behind v b.statements) t b.result (knows_behind m xs v b.statements w f.0) f.1 h.result
