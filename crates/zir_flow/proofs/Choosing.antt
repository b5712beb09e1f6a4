-- A choice between two components arrives.
use Rattle.std.specs.Prelude.{ℕ, suc, ◌+◌, ◌<◌, ◌≤◌, ◌^◌, List, ◌∷◌, ◌++◌, Bool, true, false, Option, Some, ◌≡◌, refl, length, slice_get}
use Rattle.std.proofs.Common.{ap, ◌∙◌, sym, subst, arith, length-append, inl, inr}
use Rattle.zir_tree.specs.declared.place.Place.{Place}
use Rattle.zir_tree.specs.declared.value.Val.{Val}
use Rattle.zir_tree.specs.declared.types.Base.TheVariants.{Bool as BoolTy}
use Rattle.zir_tree.specs.declared.types.Ty.{Ty}
use Rattle.zir_tree.specs.declared.expr.Expr.{Expr}
use Rattle.zir_tree.specs.declared.comp.Comp.{Comp, If', end_of-Comp, more_of-Comp}
use Rattle.zir_meaning.specs.Values.{is_one}
use Rattle.zir_meaning.specs.Trace.{State}
use Rattle.zir_meaning.specs.Instances.{around}
use Rattle.zir_cells.specs.Cells.{cells_of}
use Rattle.zir_laws.specs.Process.{Proc, choose_proc, proc}
use Rattle.zir_shapes.specs.Offsets.{plain_type as plain}
use Rattle.zir_expr.specs.declared.frame.Spot.{Spot}
use Rattle.zir_expr.specs.Answers.{is_set}
use Rattle.zir_expr.specs.Memory.{cell_at, after, from_base, place_of}
use Rattle.zir_expr.specs.Memory.Frames.{Memory}
use Rattle.zir_code.specs.Scopes.{Scope}
use Rattle.zir_code.specs.Coding.{stands}
use Rattle.zir_code.specs.Holding.{At, Spares, StandsAt}
use Rattle.zir_code.proofs.Operating.{IsCell, is_set_cell, cell_from}
use Rattle.zir_flow.specs.declared.instruction.Instruction.{Instruction}
use Rattle.zir_flow.specs.declared.instruction.Instruction.TheVariants.{Ahead, Branch}
use Rattle.zir_flow.specs.Threads.{Thread, Goes, either_move, goes_if, moved_by, onward, next_with}
use Rattle.zir_flow.specs.Stages.{Stage, Alone, Room, seen}
use Rattle.zir_flow.specs.Kinds.{value_in}
use Rattle.zir_flow.specs.Flowing.{flow_code}
use Rattle.zir_flow.specs.Playing.{Watch}
use Rattle.zir_flow.specs.Program.{CodeAt}
use Rattle.zir_flow.proofs.Reaching.{Reaches, stays}
use Rattle.zir_flow.proofs.Playing.{Arriving, Arrives, arrives_on}
use Rattle.zir_flow.proofs.Standing.{Ground, Stands, Arrived, watched, ComponentArrives}
use Rattle.zir_flow.proofs.Straight.{code_here, code_front, code_back, code_next, code_ends, onward_place, next_place, goes_to, spares_then, spares_kept, stands_moved, expression_arrives, covers_left, covers_right}
use Rattle.zir_flow.proofs.Further.{GoesOn, watched_since}

-- a truth value in its cell
truth_at : (g : Scope) (m : Memory) (i : ℕ) (v : Val) → StandsAt g.structs (plain BoolTy) v m i → is_set (cell_at i m) ≡ is_one v
truth_at g m i v st =
    let c : IsCell BoolTy v (cell_at i m) = cell_from g.structs m.cells i BoolTy v (inr (inl refl)) st.shape st.cells in
    ap is_set c.2 ∙ is_set_cell c.0 ∙ sym (ap is_one c.1)

-- what a branch over code does, by the cell that it tests
branch_goes : (b : Bool) (x : Spot) (k : ℕ) (th : Thread) → is_set (cell_at (place_of th.base x) th.memory) ≡ b →
    moved_by (Branch x false k) th ≡ either_move (goes_if b false) (Goes (onward k th)) (Goes (onward 0 th))
branch_goes b x k th e = ap (λ c. either_move (goes_if c false) (Goes (onward k th)) (Goes (onward 0 th))) e

-- one that has arrived since a later memory has arrived
stays_since : (a : Ground) (g : Scope) (d place place' : ℕ) (ty : Option Ty) (m m1 : Memory) (v : Val) (s : State) (st : Stage) → place ≡ place' →
    Spares a.top a.base d g m m1 → Arrived a g d ty place m1 v s st → GoesOn (Arrived a g d ty place' m) a.code v s st
stays_since a g d place place' ty m m1 v s st e q h = (
  st,
  stays a.code st,
  record {
    th = h.th;
    room = h.room;
    alone = h.alone;
    stands = subst (λ p. Stands a g d p h.th h.room s) e h.stands;
    value = h.value;
    spared = spares_then a.top a.base d g m m1 h.th.memory q h.spared;
  },
)

-- one that has arrived since a later memory goes on over other code
ahead_since : (a : Ground) (g : Scope) (d place place' k : ℕ) (ty : Option Ty) (m m1 : Memory) (rest : List Instruction) (v : Val) (s : State) (st : Stage) →
    CodeAt a.code place (Ahead k ∷ rest) → place + 1 + k ≡ place' → place' < 2 ^ 64 → Spares a.top a.base d g m m1 → Arrived a g d ty place m1 v s st →
    GoesOn (Arrived a g d ty place' m) a.code v s st
ahead_since a g d place place' k ty m m1 rest v s st c e lt q h =
    let th' : Thread = onward k h.th in
    let p : from_base (after h.th.place) k ≡ place' = ap (λ p. from_base (after p) k) h.stands.place_is ∙ onward_place place k (omega arith) ∙ e in (
      Alone th' h.room,
      subst (λ z. Reaches a.code z (Alone th' h.room)) (sym h.alone)
          (goes_to a.code (Ahead k) h.th th' h.room (ap (slice_get a.code) h.stands.place_is ∙ code_here a.code place (Ahead k) rest c) refl),
      record {
        th = th';
        room = h.room;
        alone = refl;
        stands = stands_moved a g d place place' (from_base (after h.th.place) k) h.th h.room s h.stands p;
        value = record { is = h.value.is; has = h.value.has; shape = h.value.shape; cells = subst (λ z. At (seen z).cells (from_base a.base d) (cells_of v)) h.alone h.value.cells };
        spared = spares_then a.top a.base d g m m1 h.th.memory q h.spared;
      },
    )

-- the one of two that is chosen
chosen_arrives : (b : Bool) (A : Arriving) (w : Watch) (code : List Instruction) (p q : State → Proc) (s : State) (x : Spot) (k : ℕ) (th : Thread)
    (room : Room) → slice_get code th.place ≡ Some (Branch x false k) → is_set (cell_at (place_of th.base x) th.memory) ≡ b →
    Arrives A w code (p s) (Alone (onward 0 th) room) → Arrives A w code (q s) (Alone (onward k th) room) →
    Arrives A w code (choose_proc b p q s) (Alone th room)
chosen_arrives true A w code p q s x k th room e t f h =
    arrives_on A w code (p s) (Alone th room) (Alone (onward 0 th) room) (goes_to code (Branch x false k) th (onward 0 th) room e (branch_goes true x k th t)) f
chosen_arrives false A w code p q s x k th room e t f h =
    arrives_on A w code (q s) (Alone th room) (Alone (onward k th) room) (goes_to code (Branch x false k) th (onward k th) room e (branch_goes false x k th t)) h

-- a choice
pub if_arrives : (a : Ground) (e : Expr) (x y : Comp) (p : Place) → ComponentArrives a x → ComponentArrives a y →
    ComponentArrives a (If' e _ (more_of-Comp x end_of-Comp) _ (more_of-Comp y end_of-Comp) p)
if_arrives a e x y p hx hy g input out d place th room s solid f c deep cover h =
    let first : List Instruction = flow_code a.st g input d x in
    let second : List Instruction = flow_code a.st g input d y in
    let ty : Option Ty = value_in a.st g input d x in
    let spot : Spot = stands g e d in
    let branch : Instruction = Branch spot false (length first + 1) in
    let rest : List Instruction = branch ∷ (first ++ (Ahead (length second) ∷ second)) in
    let end : ℕ = place + suc (suc (length (first ++ (Ahead (length second) ∷ second)))) in
    let total : length (first ++ (Ahead (length second) ∷ second)) ≡ length first + suc (length second) = length-append first (Ahead (length second) ∷ second) in
    let whole : end ≤ length a.code = code_ends a.code place _ c in
    let lt : length a.code < 2 ^ 32 = solid.small in
    let c1 : CodeAt a.code (place + 1) rest = code_next a.code place _ rest c in
    let c2 : CodeAt a.code (place + 1 + 1) (first ++ (Ahead (length second) ∷ second)) = code_next a.code (place + 1) branch _ c1 in
    let c3 : CodeAt a.code (place + 1 + 1 + length first) (Ahead (length second) ∷ second) = code_back a.code (place + 1 + 1) first _ c2 in
    let c4 : CodeAt a.code (place + 1 + 1 + length first + 1) second = code_next a.code _ (Ahead (length second)) second c3 in
    expression_arrives (Arrived a g d ty end th.memory) (watched a g d input out th.memory) a g d place (plain BoolTy) e rest th room s _ solid f.0 c h
    (λ v s1 m st k h1.
    let th1 : Thread = next_with th m in
    let q : Spares a.top a.base d g th.memory m = spares_kept a.top a.base d g th.memory m s s1 k in
    let p0 : from_base (after th1.place) 0 ≡ place + 1 + 1 = ap (λ p. from_base (after p) 0) h1.place_is ∙ next_place (place + 1) (omega arith) in
    let p1 : from_base (after th1.place) (length first + 1) ≡ place + 1 + 1 + length first + 1 =
    ap (λ p. from_base (after p) (length first + 1)) h1.place_is ∙ onward_place (place + 1) (length first + 1) (omega arith)
    ∙ (let z : place + 1 + 1 + (length first + 1) ≡ place + 1 + 1 + length first + 1 = omega arith in z) in
    chosen_arrives (is_one v) (Arrived a g d ty end th.memory) (watched a g d input out th.memory) a.code (proc (around a.core) a.procs x)
    (proc (around a.core) a.procs y) s1 spot (length first + 1) th1 room (ap (slice_get a.code) h1.place_is ∙ code_here a.code (place + 1) branch _ c1)
    (ap (λ b. is_set (cell_at (place_of b spot) m)) h1.base_is ∙ truth_at g m (place_of a.base spot) v st)
    (watched_since a g d input out th.memory m (Arrived a g d ty (place + 1 + 1 + length first) m) (Arrived a g d ty end th.memory) _ _ q
    (λ v' s' st' z. ahead_since a g d (place + 1 + 1 + length first) end (length second) ty th.memory m second v' s' st' c3 (omega arith) (omega arith) q z)
    (hx g input out d (place + 1 + 1) (onward 0 th1) room s1 solid f.2 (code_front a.code _ first _ c2) (omega arith) (covers_left a.shape _ _ cover)
    (stands_moved a g d (place + 1) (place + 1 + 1) _ th1 room s1 h1 p0)))
    (watched_since a g d input out th.memory m (Arrived a g d (value_in a.st g input d y) (place + 1 + 1 + length first + 1 + length second) m)
    (Arrived a g d ty end th.memory) _ _ q
    (λ v' s' st' z. stays_since a g d (place + 1 + 1 + length first + 1 + length second) end ty th.memory m v' s' st' (omega arith) q
    (subst (λ t. Arrived a g d t (place + 1 + 1 + length first + 1 + length second) m v' s' st') (sym f.1) z))
    (hy g input out d (place + 1 + 1 + length first + 1) (onward (length first + 1) th1) room s1 solid f.3 c4 (omega arith) (covers_right a.shape _ _ cover)
    (stands_moved a g d (place + 1) (place + 1 + 1 + length first + 1) _ th1 room s1 h1 p1))))
