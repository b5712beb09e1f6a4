-- Cells that belong to no variable in scope, and names whose cells stand one behind the other.
use Rattle.std.specs.Prelude.{ℕ, pos, ◌+◌, ◌<◌, ◌≤◌, ◌^◌, List, [], ◌∷◌, ◌++◌, ◌≡◌, ◌⊎◌, refl, slice_index_or, length}
use Rattle.std.proofs.Common.{ap, ◌∙◌, sym, subst, arith, inl, inr, append_assoc, append-nil}
use Rattle.zir_tree.specs.declared.types.Ty.{Ty}
use Rattle.zir_tree.specs.declared.stmt.Stmt.{Stmt, Var as VarStmt, Assign, Call, Error, If', IfElse', While', For', Row_of-Stmt, end_of-Stmt, more_of-Stmt}
use Rattle.zir_meaning.specs.Values.{type_of}
use Rattle.zir_meaning.specs.Trace.{State}
use Rattle.zir_meaning.specs.Evaluation.{Eval}
use Rattle.zir_expr.specs.Memory.{Ran, place_of}
use Rattle.zir_expr.specs.Memory.Frames.{Memory}
use Rattle.zir_code.specs.declared.scope.Holder.{Holder}
use Rattle.zir_code.specs.Scopes.{Scope}
use Rattle.zir_code.specs.Holding.{Holds, Outside, Spares, Ends}
use Rattle.zir_code.specs.Types.{cells_for}
use Rattle.zir_code.specs.Statements.{with_local, scope_after, free_after, scope_after_row, free_after_row}
use Rattle.zir_code.specs.Fine.{Sole, Fine, FineRow, Stopped}
use Rattle.zir_code.proofs.Kept.{low_place}

-- what statements leave, and that the cells of no variable in scope are the same
pub record WentSparing (top base d n : ℕ) (g : Scope) (m m' : Memory) (s' : State) : Type 0 where
  pub holds : Holds top base d n g m' s'
  pub same : (i : ℕ) → top ≤ i → i < base → slice_index_or m'.cells i (pos 0) ≡ slice_index_or m.cells i (pos 0)
  pub spare : Spares top base d g m m'
  pub size : length m'.cells ≡ length m.cells

-- code of statements ends as they mean, and the cells of no variable in scope after them are the same
abbrev pub AgreesSparing : ℕ → ℕ → ℕ → ℕ → Scope → Memory → Eval → Ran → Type 0
AgreesSparing top base d n g m r q =
    Ends (λ v s' m'. WentSparing top base d n g m m' s') (λ s' m'. Stopped top base g.structs g.tops m m' s') r q

-- a cell before base + d' of no variable of one scope is before base + d, and of no variable of another
abbrev pub Narrows : ℕ → ℕ → ℕ → Scope → Scope → Type 0
Narrows base d d' g g' = (i : ℕ) → i < base + d' → Outside base g'.locals i → (i < base + d) × Outside base g.locals i

-- with less cells in use
pub fewer : (base d d' : ℕ) (g : Scope) → d' ≤ d → Narrows base d d' g g
fewer base d d' g le i a o = (omega arith, o)

-- the cells of no variable stay the same along code, and then along more of it
pub spares_both : (top base d : ℕ) (g : Scope) (m m1 m2 : Memory) → Spares top base d g m m1 → Spares top base d g m1 m2 → Spares top base d g m m2
spares_both top base d g m m1 m2 k l i a b o = l i a b o ∙ k i a b o

-- an index of none of more variables is of none of the first of them
pub outside_front : (base : ℕ) (ds es : List Holder) (i : ℕ) → Outside base (ds ++ es) i → Outside base ds i
outside_front base [] es i o = tt
outside_front base (d ∷ ds) es i o = (o.0, outside_front base ds es i o.1)

-- nor of the others
pub outside_back : (base : ℕ) (ds es : List Holder) (i : ℕ) → Outside base (ds ++ es) i → Outside base es i
outside_back base [] es i o = o
outside_back base (d ∷ ds) es i o = outside_back base ds es i o.1

-- and of none of the first and none of the others it is of none
pub outside_both : (base : ℕ) (ds es : List Holder) (i : ℕ) → Outside base ds i → Outside base es i → Outside base (ds ++ es) i
outside_both base [] es i o p = p
outside_both base (d ∷ ds) es i o p = (o.0, outside_both base ds es i o.1 p)

-- a cell of none of these variables is not one of this variable
pub outside_sole : (base : ℕ) (ds : List Holder) (id : ℕ) (v : Holder) (i : ℕ) → Sole ds id v → Outside base ds i →
    (i < place_of base v.spot) ⊎ (place_of base v.spot + v.cells ≤ i)
outside_sole base [] id v i s o = absurd s
outside_sole base (d ∷ ds) id v i s o = elim s [
  | inl a ↦ subst (λ (u : Holder). (i < place_of base u.spot) ⊎ (place_of base u.spot + u.cells ≤ i)) a.1 o.0
  | inr a ↦ outside_sole base ds id v i a.1 o.1
]

-- the cells of these variables are those from an index on and before another
abbrev Tiles : ℕ → ℕ → ℕ → List Holder → Type 0
Tiles base low high [] = low ≡ high
Tiles base low high (d ∷ ds) = (place_of base d.spot ≡ low) × Tiles base (low + d.cells) high ds

-- those of more variables, behind the last of these
tiles_both : (base low mid high : ℕ) (ds es : List Holder) → Tiles base low mid ds → Tiles base mid high es → Tiles base low high (ds ++ es)
tiles_both base low mid high [] es t u = subst (λ k. Tiles base k high es) (sym t) u
tiles_both base low mid high (d ∷ ds) es t u = (t.0, tiles_both base (low + d.cells) mid high ds es t.1 u)

-- they end where they begin or behind it
tiles_end : (base low high : ℕ) (ds : List Holder) → Tiles base low high ds → low ≤ high
tiles_end base low high [] t = omega (arith, t)
tiles_end base low high (d ∷ ds) t = let e = tiles_end base (low + d.cells) high ds t.1 in omega arith

-- a cell before all of them is of none
outside_tiles : (base low high : ℕ) (ds : List Holder) (i : ℕ) → Tiles base low high ds → i < low → Outside base ds i
outside_tiles base low high [] i t lt = tt
outside_tiles base low high (d ∷ ds) i t lt =
    let e = t.0 in (inl (omega arith), outside_tiles base (low + d.cells) high ds i t.1 (omega arith))

-- a cell of none of them that is before their end is before all
before_tiles : (base low high : ℕ) (ds : List Holder) (i : ℕ) → Tiles base low high ds → i < high → Outside base ds i → i < low
before_tiles base low high [] i t lt o = omega (arith, t)
before_tiles base low high (d ∷ ds) i t lt o =
    let e = t.0 in
    let b = before_tiles base (low + d.cells) high ds i t.1 lt o.1 in
    elim o.0 [ inl a ↦ omega arith | inr a ↦ omega arith ]

-- a scope has those of another and names behind them, whose cells are those from base + d on and before base + d'
pub record Grows (base d d' : ℕ) (g g' : Scope) : Type 0 where
  pub names : List Holder
  pub locals : g'.locals ≡ g.locals ++ names
  pub tiles : Tiles base (base + d) (base + d') names

-- with no more names
pub grows_none : (base d : ℕ) (g : Scope) → Grows base d d g g
grows_none base d g = record { names = []; locals = sym (append-nil g.locals); tiles = refl }

-- with one name
pub grows_local : (base d n : ℕ) (g : Scope) (id : ℕ) (ty : Ty) → d + cells_for g ty ≤ n → base + n < 2 ^ 63 →
    Grows base d (d + cells_for g ty) g (with_local g d id ty)
grows_local base d n g id ty le small = record { names = _; locals = refl; tiles = (low_place base d (omega arith), omega arith) }

-- with names, and then with more of them
pub grows_both : (base d d1 d2 : ℕ) (g g1 g2 : Scope) → Grows base d d1 g g1 → Grows base d1 d2 g1 g2 → Grows base d d2 g g2
grows_both base d d1 d2 g g1 g2 a b = record {
  names = a.names ++ b.names;
  locals = b.locals ∙ ap (λ ds. ds ++ b.names) a.locals ∙ append_assoc g.locals a.names b.names;
  tiles = tiles_both base (base + d) (base + d1) (base + d2) a.names b.names a.tiles b.tiles;
}

-- it leaves no other cells than those before them
pub narrows : (base d d' : ℕ) (g g' : Scope) → Grows base d d' g g' → Narrows base d d' g g'
narrows base d d' g g' w i a o =
    let o' : Outside base (g.locals ++ w.names) i = subst (λ ds. Outside base ds i) w.locals o in (
      before_tiles base (base + d) (base + d') w.names i w.tiles a (outside_back base g.locals w.names i o'),
      outside_front base g.locals w.names i o',
    )

-- and all of those
pub widens : (base d d' : ℕ) (g g' : Scope) → Grows base d d' g g' → Narrows base d' d g' g
widens base d d' g g' w i a o =
    let end = tiles_end base (base + d) (base + d') w.names w.tiles in (
      omega arith,
      subst (λ ds. Outside base ds i) (sym w.locals)
          (outside_both base g.locals w.names i o (outside_tiles base (base + d) (base + d') w.names i w.tiles a)),
    )

-- what a statement adds
pub grows_statement : (base d n : ℕ) (g : Scope) (a : Stmt) → base + n < 2 ^ 63 → Fine g d n a → Grows base d (free_after g d a) g (scope_after g d a)
grows_statement base d n g (VarStmt v) small f =
    grows_local base d n g v.name.id (type_of v.ty) (subst (λ t. d + cells_for g t ≤ n) (sym f.1) f.3) small
grows_statement base d n g (Assign name path e) small f = grows_none base d g
grows_statement base d n g (Call name k es) small f = grows_none base d g
grows_statement base d n g (Error text p) small f = grows_none base d g
grows_statement base d n g (If' e _ a p) small f = grows_none base d g
grows_statement base d n g (IfElse' e _ a _ b p) small f = grows_none base d g
grows_statement base d n g (While' e _ a p) small f = grows_none base d g
grows_statement base d n g (For' name a k _ b p) small f = grows_none base d g

-- what statements add
pub grows_row : {k : _} (base d n : ℕ) (g : Scope) (row : Row_of-Stmt k) → base + n < 2 ^ 63 → FineRow g d n row →
    Grows base d (free_after_row g d row) g (scope_after_row g d row)
grows_row base d n g end_of-Stmt small f = grows_none base d g
grows_row base d n g (more_of-Stmt a row) small f =
    let g1 : Scope = scope_after g d a in
    let d1 : ℕ = free_after g d a in
    grows_both base d d1 (free_after_row g1 d1 row) g g1 (scope_after_row g1 d1 row) (grows_statement base d n g a small f.0)
    (grows_row base d1 n g1 row small f.1)

-- the cells of no variable of one scope are the same, and so are those of another
pub spares_other : (top base d d' : ℕ) (g g' : Scope) (m m' : Memory) → Narrows base d d' g g' → Spares top base d g m m' → Spares top base d' g' m m'
spares_other top base d d' g g' m m' z k i a b o = let r = z i b o in k i a r.0 r.1
