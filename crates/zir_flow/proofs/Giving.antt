-- Components that give outputs, and one that ends with the value of an expression.
use Rattle.std.proofs.Common.{◌≡◌, ℕ, suc, ◌+◌, ◌^◌, ◌<◌, ℤ, List, [], ◌∷◌, ◌++◌, Some, length, slice_get, ap, sym, subst, refl, ◌∙◌, arith}
use Rattle.zir_tree.specs.declared.value.Val.{Val, Unit as UnitVal}
use Rattle.zir_tree.specs.declared.place.Place.{Place}
use Rattle.zir_tree.specs.declared.types.Base.TheVariants.{Unit as UnitTy}
use Rattle.zir_tree.specs.declared.types.Ty.{Ty}
use Rattle.zir_tree.specs.declared.ends.End.TheVariants.{Value}
use Rattle.zir_tree.specs.declared.expr.Expr.{Expr}
use Rattle.zir_tree.specs.declared.comp.Comp.{Emit, Return}
use Rattle.zir_meaning.specs.Trace.{State, point}
use Rattle.zir_cells.specs.Cells.{cells_of}
use Rattle.zir_laws.specs.Process.{Proc, Gives, Ends, tick_proc, outputs_proc, returns_proc}
use Rattle.zir_shapes.specs.Offsets.{plain_type as plain}
use Rattle.zir_shapes.proofs.Fitting.{sizes-fit}
use Rattle.zir_expr.specs.declared.frame.Spot.{Spot}
use Rattle.zir_expr.specs.Memory.{after, from_base, place_of}
use Rattle.zir_expr.specs.Memory.Frames.{Memory}
use Rattle.zir_code.specs.Scopes.{Scope}
use Rattle.zir_code.specs.Types.{type_in, cells_for, size_in}
use Rattle.zir_code.specs.Coding.{stands, code_of, settling}
use Rattle.zir_code.specs.Fine.{Fits}
use Rattle.zir_code.specs.Holding.{At, Spares, StandsAt}
use Rattle.zir_code.proofs.TypesFound.{types_are_found}
use Rattle.zir_flow.specs.declared.instruction.Instruction.{Instruction}
use Rattle.zir_flow.specs.declared.instruction.Instruction.TheVariants.{Run, Tick, Give}
use Rattle.zir_flow.specs.Threads.{Thread, cells_from, onward, next_with}
use Rattle.zir_flow.specs.Stages.{Alone, Room, Giving}
use Rattle.zir_flow.specs.Playing.{Watch, Comes}
use Rattle.zir_flow.specs.Program.{CodeAt}
use Rattle.zir_flow.proofs.Reaching.{comes_next}
use Rattle.zir_flow.proofs.Playing.{Arriving, Arrives}
use Rattle.zir_flow.proofs.Standing.{Ground, Stands, watched, Arrived, ComponentArrives}
use Rattle.zir_flow.proofs.Straight.{code_here, code_next, next_place, turn_at, spares_kept, place_fits, stands_moved, held_since, arrived, ends_at, ticked_state, ticked_thread, tick_arrives, size_found, expression_arrives, settled_arrives}

-- the cells of a value that stands somewhere
pub cells_found : (i : ℕ) (m : Memory) (xs : List ℤ) → length m.cells < 2 ^ 63 → At m.cells i xs → cells_from (length xs) i m ≡ xs
cells_found i m [] small h = refl
cells_found i m (x ∷ xs) small h =
    let lt : i < length m.cells = h.0 in
    let e : after i ≡ i + 1 = omega arith in
    ap (λ y. y ∷ cells_from (length xs) (after i) m) h.1
    ∙ ap (λ ys. x ∷ ys) (ap (λ j. cells_from (length xs) j m) e ∙ cells_found (i + 1) m xs small h.2)

-- an output of a component, and what follows
pub give_arrives : (A : Arriving) (w : Watch) (a : Ground) (g : Scope) (d place n : ℕ) (x : Spot) (rest : List Instruction) (th : Thread) (room : Room)
    (s : State) (v : Val) (p : Proc) → length a.code < 2 ^ 32 → CodeAt a.code place (Give x n ∷ rest) → Stands a g d place th room s →
    At th.memory.cells (place_of a.base x) (cells_of v) → length (cells_of v) ≡ n → w.output v → w.holds (Alone (onward 0 th) room) s.store →
    (Stands a g d (place + 1) (onward 0 th) room s → Arrives A w a.code p (Alone (onward 0 th) room)) →
    Arrives A w a.code (Gives (record { value = v; at = point s }) p) (Alone th room)
give_arrives A w a g d place n x rest th room s v p lt c h at size fits held f =
    let i : slice_get a.code th.place ≡ Some (Give x n) = ap (slice_get a.code) h.place_is ∙ code_here a.code place (Give x n) rest c in
    let cells : cells_from n (place_of th.base x) th.memory ≡ cells_of v =
    ap (λ b. cells_from n (place_of b x) th.memory) h.base_is ∙ ap (λ k. cells_from k (place_of a.base x) th.memory) (sym size)
    ∙ cells_found (place_of a.base x) th.memory (cells_of v) h.held.small at in (
      Alone (onward 0 th) room,
      record {
        taken = th.taken;
        ticks = th.memory.used;
        comes = subst (λ xs. Comes a.code (Alone th room) (Giving xs th.taken th.memory.used (Alone (onward 0 th) room))) cells
            (comes_next a.code (Alone th room) _ (turn_at a.code (Give x n) th room i) refl);
        at = record { elements = sym h.taken; used = sym h.held.used };
        holds = held;
        output = fits;
      },
      f (stands_moved a g d place (place + 1) _ th room s h
          (ap (λ q. from_base (after q) 0) h.place_is ∙ next_place place (place_fits a.code place (Give x n) rest lt c))),
    )

-- one output of a component after a tick, and what follows: a value that stands in cells since a memory
pub output_arrives : (A : Arriving) (a : Ground) (g : Scope) (input out : Ty) (d d' place : ℕ) (x : Spot) (rest : List Instruction) (m : Memory) (th : Thread)
    (room : Room) (s : State) (v : Val) (next : State → Proc) → length a.code < 2 ^ 32 → CodeAt a.code place (Tick ∷ Give x (cells_for g out) ∷ rest) →
    Stands a g d' place th room s → StandsAt g.structs out v th.memory (place_of a.base x) → Spares a.top a.base d g m th.memory →
    ((l : ℕ) → s.left ≡ suc l → Stands a g d' (place + 2) (onward 0 (ticked_thread th)) room (ticked_state s l) →
    Arrives A (watched a g d input out m) a.code (next (ticked_state s l)) (Alone (onward 0 (ticked_thread th)) room)) →
    Arrives A (watched a g d input out m) a.code
    (tick_proc s (λ s'. Gives (record { value = v; at = point s' }) (next s'))) (Alone th room)
output_arrives A a g input out d d' place x rest m th room s v next lt c h at p f =
    let two : place + 1 + 1 ≡ place + 2 = omega arith in
    let w : Watch = watched a g d input out m in
    tick_arrives A w a g d' place (Give x (cells_for g out) ∷ rest) th room s (λ s'. Gives (record { value = v; at = point s' }) (next s')) lt c h
    (λ l e k.
    let moved : (q : ℕ) → q ≡ place + 1 + 1 → Stands a g d' (place + 1 + 1) (record (ticked_thread th) { place = q }) room (ticked_state s l) =
    λ q e. stands_moved a g d' (place + 1) (place + 1 + 1) q (ticked_thread th) room (ticked_state s l) k e in
    let c1 : CodeAt a.code (place + 1) (Give x (cells_for g out) ∷ rest) = code_next a.code place Tick (Give x (cells_for g out) ∷ rest) c in
    let q : from_base (after (ticked_thread th).place) 0 ≡ place + 1 + 1 =
    ap (λ q. from_base (after q) 0) k.place_is ∙ next_place (place + 1) (place_fits a.code (place + 1) (Give x (cells_for g out)) rest lt c1) in
    give_arrives A w a g d' (place + 1) (cells_for g out) x rest (ticked_thread th) room (ticked_state s l) v (next (ticked_state s l)) lt c1 k at.cells
    (sizes-fit g.structs out v at.shape) at.shape
    (held_since a g d d' (place + 1 + 1) m (onward 0 (ticked_thread th)) room (ticked_state s l) (moved _ q) p)
    (λ k'. f l e (subst (λ q. Stands a g d' q (onward 0 (ticked_thread th)) room (ticked_state s l)) two k')))

-- `emit`
pub emit_arrives : (a : Ground) (e : Expr) (p : Place) → ComponentArrives a (Emit e p)
emit_arrives a e p g input out d place th room s solid f c deep covers h =
    let size : size_in g e ≡ cells_for g out = size_found g a.n out e f.0 in
    let x : Spot = stands g e d in
    let A : Arriving = Arrived a g d (Some (plain UnitTy)) (place + 3) th.memory in
    let w : Watch = watched a g d input out th.memory in
    let c' : CodeAt a.code place (Run (code_of g e d) ∷ Tick ∷ Give x (cells_for g out) ∷ []) =
    subst (λ k. CodeAt a.code place (Run (code_of g e d) ∷ Tick ∷ Give x k ∷ [])) size c in
    let three : place + 1 + 2 ≡ place + 3 = omega arith in
    expression_arrives A w a g d place out e (Tick ∷ Give x (cells_for g out) ∷ []) th room s (λ v s'. outputs_proc (v ∷ []) s') solid f c' h
    (λ v s1 m1 at k h1.
    let kept : Spares a.top a.base d g th.memory m1 = spares_kept a.top a.base d g th.memory m1 s s1 k in
    output_arrives A a g input out d d (place + 1) x [] th.memory (next_with th m1) room s1 v (λ s'. Ends (Value UnitVal) s') solid.small
    (code_next a.code place (Run (code_of g e d)) (Tick ∷ Give x (cells_for g out) ∷ []) c') h1 at kept
    (λ l q h2. ends_at a g d (place + 3) (Some (plain UnitTy)) th.memory w UnitVal (ticked_state s1 l) _
    (arrived a g d (place + 3) (Some (plain UnitTy)) (plain UnitTy) UnitVal th.memory _ room (ticked_state s1 l) refl
    (subst (λ q'. Stands a g d q' (onward 0 (ticked_thread (next_with th m1))) room (ticked_state s1 l)) three h2) refl tt kept)))

-- `return`
pub return_arrives : (a : Ground) (e : Expr) (p : Place) → ComponentArrives a (Return e p)
return_arrives a e p g input out d place th room s solid f c deep covers h =
    let t : Ty = f.0 in
    let fits : Fits g d a.n t e = f.1 in
    let size : size_in g e ≡ cells_for g t = size_found g a.n t e fits.0 in
    let type : Some (type_in g e) ≡ Some t = ap (λ t. Some t) (types_are_found g a.n t e fits.0) in
    let A : Arriving = Arrived a g d (Some (type_in g e)) (place + 2) th.memory in
    let w : Watch = watched a g d input out th.memory in
    let c' : CodeAt a.code place (Run (code_of g e d ++ settling (stands g e d) d (cells_for g t)) ∷ Tick ∷ []) =
    subst (λ k. CodeAt a.code place (Run (code_of g e d ++ settling (stands g e d) d k) ∷ Tick ∷ [])) size c in
    let two : place + 1 + 1 ≡ place + 2 = omega arith in
    settled_arrives A w a g d place t e (Tick ∷ []) th room s (λ v s'. returns_proc v s') solid fits c' h
    (λ v s1 m1 at k h1.
    tick_arrives A w a g d (place + 1) [] (next_with th m1) room s1 (λ s'. Ends (Value v) s') solid.small
    (code_next a.code place (Run (code_of g e d ++ settling (stands g e d) d (cells_for g t))) (Tick ∷ []) c') h1
    (λ l q h2. ends_at a g d (place + 2) (Some (type_in g e)) th.memory w v (ticked_state s1 l) _
    (arrived a g d (place + 2) (Some (type_in g e)) t v th.memory _ room (ticked_state s1 l) type
    (subst (λ q'. Stands a g d q' (ticked_thread (next_with th m1)) room (ticked_state s1 l)) two h2) at.shape at.cells
    (spares_kept a.top a.base d g th.memory m1 s s1 k))))
