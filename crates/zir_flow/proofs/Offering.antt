-- A component that gives the elements of an array.
use Rattle.std.proofs.Common.{◌≡◌, ℕ, suc, ◌+◌, ◌*◌, ◌%◌, ◌^◌, ◌<◌, ◌≤◌, pos, List, [], ◌∷◌, ◌++◌, true, Some, length, nat_lt, slice_get, ap, sym, subst, refl, ◌∙◌, arith, inl, inr}
use Rattle.zir_tree.specs.declared.value.Val.{Val, Unit as UnitVal, List as Vals}
use Rattle.zir_tree.specs.declared.place.Place.{Place}
use Rattle.zir_tree.specs.declared.types.Base.TheVariants.{Unit as UnitTy}
use Rattle.zir_tree.specs.declared.types.Ty.{Ty}
use Rattle.zir_tree.specs.declared.expr.Expr.{Expr}
use Rattle.zir_tree.specs.declared.comp.Comp.{Emits}
use Rattle.zir_meaning.specs.Values.{Each, parts}
use Rattle.zir_meaning.specs.Trace.{State, point}
use Rattle.zir_meaning.specs.Evaluation.{Eval, Got, ev}
use Rattle.zir_meaning.specs.Instances.{around}
use Rattle.zir_cells.specs.Cells.{cells_of}
use Rattle.zir_cells.specs.Layout.{layout_of}
use Rattle.zir_laws.specs.Process.{Proc, Gives, tick_proc_of, outputs_proc}
use Rattle.zir_shapes.specs.Shapes.{Shaped}
use Rattle.zir_shapes.specs.Offsets.{plain_type as plain, array_type as array_of, list_cells}
use Rattle.zir_shapes.proofs.Fitting.{sizes-fit, each-size}
use Rattle.zir_shapes.proofs.PartCells.{cells-list, parts-list}
use Rattle.zir_expr.specs.declared.frame.Spot.{Spot}
use Rattle.zir_expr.specs.declared.frame.Spot.TheVariants.{Local}
use Rattle.zir_expr.specs.declared.steps.Step.{Step, Number}
use Rattle.zir_expr.specs.Memory.{Done, put_cell, ticked, after, from_base, place_of}
use Rattle.zir_expr.specs.Memory.Frames.{Memory}
use Rattle.zir_expr.specs.Running.{go_all}
use Rattle.zir_code.specs.Scopes.{Scope}
use Rattle.zir_code.specs.Types.{type_in, element_type, first_length, cells_for}
use Rattle.zir_code.specs.Coding.{stands, code_of}
use Rattle.zir_code.specs.Fine.{Fits}
use Rattle.zir_code.specs.Holding.{At, Holds, Spares, Kept, StandsAt, Ends as EndsAs}
use Rattle.zir_code.proofs.Agreeing.{go_all-append, ends_more}
use Rattle.zir_code.proofs.Cells.{cell, at_front, at_back, at_same}
use Rattle.zir_code.proofs.Kept.{low_place, Changed, changed_cell, cell_written, kept_changed}
use Rattle.zir_code.proofs.Moves.{Placed}
use Rattle.zir_code.proofs.Places.{placed}
use Rattle.zir_code.proofs.Room.{array_size}
use Rattle.zir_code.proofs.TypesFound.{types_are_found}
use Rattle.zir_flow.specs.declared.instruction.Series.{Series}
use Rattle.zir_flow.specs.declared.instruction.Instruction.{Instruction}
use Rattle.zir_flow.specs.declared.instruction.Instruction.TheVariants.{Run, Gives as GivesAll}
use Rattle.zir_flow.specs.Threads.{Thread, Move, Goes, Offers, cells_from, onward, next_with, come, next_of, counted_on, either_move, after_steps}
use Rattle.zir_flow.specs.Stages.{Alone, Room, Gone, Giving, turn, turned_by}
use Rattle.zir_flow.specs.Playing.{Watch}
use Rattle.zir_flow.specs.Program.{CodeAt}
use Rattle.zir_flow.proofs.Reaching.{comes_next}
use Rattle.zir_flow.proofs.Playing.{Arriving, Arrives, arrives_on}
use Rattle.zir_flow.proofs.Standing.{Ground, Stands, watched, Arrived, Solid, ComponentArrives}
use Rattle.zir_flow.proofs.Straight.{code_here, code_next, next_place, turn_at, goes_to, spares_then, spares_kept, place_fits, stands_moved, held_since, arrived, ends_at, ticked_state, ticked_memory, tick_cases, straight_arrives, ev_keeps, expressions_agree}
use Rattle.zir_flow.proofs.Giving.{cells_found}
use Rattle.zir_flow.proofs.Taking.{changed_held, come_is, is_less, is_all, in_parts}

-- where so many elements of an array from an index on have been given, since a memory
record Gave (a : Ground) (g : Scope) (d place counter at k : ℕ) (out : Ty) (m : Memory) (vs : List Val) (th : Thread) (room : Room) (s : State) : Type 0
  where
    pub stands : Stands a g d place th room s
    pub count : cell th.memory.cells (a.base + counter) ≡ pos k
    pub each : Each (Shaped g.structs out) vs
    pub cells : At th.memory.cells (at + k * layout_of g.structs out) (list_cells vs)
    pub spared : Spares a.top a.base d g m th.memory

-- the elements that are still to be given
gives_on : (vs : List Val) (k : ℕ) (a : Ground) (g : Scope) (input out : Ty) (d place counter at count : ℕ) (x : Spot) (rest : List Instruction)
    (m : Memory) (th : Thread) (room : Room) (s : State) → k + length vs ≡ count → length a.code < 2 ^ 32 →
    CodeAt a.code place (GivesAll (record { counter = counter; from = x; size = cells_for g out; count = count }) ∷ rest) → d ≤ counter → counter + 1 ≤ a.n →
    place_of a.base x ≡ at → at + count * layout_of g.structs out ≤ a.base + counter → Gave a g d place counter at k out m vs th room s →
    Arrives (Arrived a g d (Some (plain UnitTy)) (place + 1) m) (watched a g d input out m) a.code (outputs_proc vs s) (Alone th room)
gives_on [] k a g input out d place counter at count x rest m th room s q lt c low fit from end h =
    let all : Series = record { counter = counter; from = x; size = cells_for g out; count = count } in
    let wide : a.base + a.n ≤ length th.memory.cells = h.stands.held.room in
    let small : length th.memory.cells < 2 ^ 63 = h.stands.held.small in
    let i : from_base a.base counter ≡ a.base + counter = low_place a.base counter (omega arith) in
    let kk : k ≡ count = omega arith in
    let came : come all th ≡ k = come_is all th a.base (a.base + counter) k h.stands.base_is i h.count in
    let here : slice_get a.code th.place ≡ Some (GivesAll all) = ap (slice_get a.code) h.stands.place_is ∙ code_here a.code place (GivesAll all) rest c in
    let next : Stands a g d (place + 1) (onward 0 th) room s =
    stands_moved a g d place (place + 1) _ th room s h.stands
    (ap (λ p. from_base (after p) 0) h.stands.place_is ∙ next_place place (place_fits a.code place (GivesAll all) rest lt c)) in
    arrives_on (Arrived a g d (Some (plain UnitTy)) (place + 1) m) (watched a g d input out m) a.code (outputs_proc [] s) (Alone th room)
    (Alone (onward 0 th) room)
    (goes_to a.code (GivesAll all) th (onward 0 th) room here
    (ap (λ b. either_move b (after_steps (ticked th.memory)
    (λ m. Offers (cells_from (cells_for g out) (next_of all th) (counted_on all th m)) (record th { memory = counted_on all th m })) th) (Goes (onward 0 th)))
    (ap (λ j. nat_lt j count) came ∙ is_all k count kk)))
    (ends_at a g d (place + 1) (Some (plain UnitTy)) m (watched a g d input out m) UnitVal s (Alone (onward 0 th) room)
    (arrived a g d (place + 1) (Some (plain UnitTy)) (plain UnitTy) UnitVal m (onward 0 th) room s refl next refl tt h.spared))
gives_on (v ∷ vs) k a g input out d place counter at count x rest m th room s q lt c low fit from end h =
    let size : ℕ = layout_of g.structs out in
    let all : Series = record { counter = counter; from = x; size = size; count = count } in
    let w : Watch = watched a g d input out m in
    let A : Arriving = Arrived a g d (Some (plain UnitTy)) (place + 1) m in
    let wide : a.base + a.n ≤ length th.memory.cells = h.stands.held.room in
    let small : length th.memory.cells < 2 ^ 63 = h.stands.held.small in
    let i : from_base a.base counter ≡ a.base + counter = low_place a.base counter (omega arith) in
    let came : come all th ≡ k = come_is all th a.base (a.base + counter) k h.stands.base_is i h.count in
    let less : nat_lt (come all th) count ≡ true = ap (λ j. nat_lt j count) came ∙ is_less k (length vs) count q in
    let here : slice_get a.code th.place ≡ Some (GivesAll all) = ap (slice_get a.code) h.stands.place_is ∙ code_here a.code place (GivesAll all) rest c in
    let whole : count * size ≡ k * size + size + length vs * size = ap (λ c. c * size) (sym q) ∙ in_parts k (length vs) size in
    let size_v : length (cells_of v) ≡ size = sizes-fit g.structs out v h.each.0 in
    let size_vs : length (list_cells vs) ≡ length vs * size = each-size (Shaped g.structs out) size (sizes-fit g.structs out) vs h.each.1 in
    let first : (at + k * size) % 2 ^ 64 ≡ at + k * size = omega arith in
    let from_k : next_of all th ≡ at + k * size =
    ap (λ b. (place_of b x + come all th * size) % 2 ^ 64) h.stands.base_is ∙ ap (λ p. (p + come all th * size) % 2 ^ 64) from
    ∙ ap (λ j. (at + j * size) % 2 ^ 64) came ∙ first in
    let more : k + 1 ≡ suc k = omega arith in
    let m1 : Memory = ticked_memory th.memory in
    let m2 : Memory = put_cell (a.base + counter) (pos (suc k)) m1 in
    let put : Changed (a.base + counter) (a.base + counter + 1) m1 m2 = changed_cell (a.base + counter) (pos (suc k)) m1 in
    let counted : counted_on all th m1 ≡ m2 =
    ap (λ b. put_cell (from_base b counter) (pos (come all th + 1)) m1) h.stands.base_is ∙ ap (λ i. put_cell i (pos (come all th + 1)) m1) i
    ∙ ap (λ j. put_cell (a.base + counter) (pos (j + 1)) m1) came ∙ ap (λ j. put_cell (a.base + counter) (pos j) m1) more in
    let th2 : Thread = record th { memory = m2 } in
    let front : At th.memory.cells (at + k * size) (cells_of v) = at_front th.memory.cells (at + k * size) (cells_of v) (list_cells vs) h.cells in
    let front2 : At m2.cells (at + k * size) (cells_of v) =
    at_same m1.cells m2.cells (at + k * size) (a.base + counter) (at + k * size) (cells_of v) put.size (λ j b e. put.others j (inl e)) (omega arith)
    (omega arith) front in
    let back : At th.memory.cells (at + k * size + length (cells_of v)) (list_cells vs) =
    at_back th.memory.cells (at + k * size) (cells_of v) (list_cells vs) h.cells in
    let back2 : At m2.cells (at + k * size + length (cells_of v)) (list_cells vs) =
    at_same m1.cells m2.cells (at + k * size) (a.base + counter) (at + k * size + length (cells_of v)) (list_cells vs) put.size (λ j b e. put.others j (inl e))
    (omega arith) (omega arith) back in
    let onto : at + k * size + length (cells_of v) ≡ at + suc k * size = omega arith in
    let cells : cells_from size (next_of all th) (counted_on all th m1) ≡ cells_of v =
    ap (λ i. cells_from size i (counted_on all th m1)) from_k ∙ ap (cells_from size (at + k * size)) counted
    ∙ ap (λ n. cells_from n (at + k * size) m2) (sym size_v) ∙ cells_found (at + k * size) m2 (cells_of v) (omega arith) front2 in
    let offers : Memory → Move = λ m. Offers (cells_from size (next_of all th) (counted_on all th m)) (record th { memory = counted_on all th m }) in
    let goes : turn a.code (Alone th room) ≡ turned_by (after_steps (ticked th.memory) offers th) room =
    turn_at a.code (GivesAll all) th room here ∙ ap (λ b. turned_by (either_move b (after_steps (ticked th.memory) offers th) (Goes (onward 0 th))) room) less in
    let next : State → Proc = λ s'. Gives (record { value = v; at = point s' }) (outputs_proc vs s') in
    elim (tick_cases th.memory s h.stands.held.used h.stands.held.limit) [
      | inl z ↦ subst (λ l. Arrives A w a.code (tick_proc_of l s next) (Alone th room)) (sym z.0)
          (comes_next a.code (Alone th room) Gone (goes ∙ ap (λ q. turned_by (after_steps q offers th) room) z.1) refl)
      | inr z ↦ (let s1 : State = ticked_state s z.0 in
          let left : s.left ≡ suc z.0 = z.1 in
          let used : th.memory.used ≡ s.ticks = h.stands.held.used in
          let limit : th.memory.limit ≡ s.ticks + s.left = h.stands.held.limit in
          let held : Holds a.top a.base d a.n g m2 s1 = changed_held a g d (a.base + counter) (a.base + counter + 1) m1 m2 s1 (omega arith) put (record {
            tops = h.stands.held.tops;
            locals = h.stands.held.locals;
            tops_in = h.stands.held.tops_in;
            locals_in = h.stands.held.locals_in;
            used = omega arith;
            limit = omega arith;
            apart = h.stands.held.apart;
            room = wide;
            small = small;
          }) in
          let stands2 : Stands a g d place th2 room s1 = record {
            held = held;
            place_is = h.stands.place_is;
            base_is = h.stands.base_is;
            calls_are = h.stands.calls_are;
            deep_is = h.stands.deep_is;
            taken = h.stands.taken;
            size_is = put.size ∙ h.stands.size_is;
            room_fits = h.stands.room_fits;
          } in
          let spared2 : Spares a.top a.base d g m m2 =
          spares_then a.top a.base d g m th.memory m2 h.spared
          (λ j b e o. put.others j (inl (omega arith))) in
          subst (λ l. Arrives A w a.code (tick_proc_of l s next) (Alone th room)) (sym left) (
            Alone th2 room,
            record {
              taken = th.taken;
              ticks = m2.used;
              comes = comes_next a.code (Alone th room) (Giving (cells_of v) th.taken m2.used (Alone th2 room))
                  (goes ∙ ap (λ q. turned_by (after_steps q offers th) room) z.2
                  ∙ ap (λ xs. turned_by (Offers xs (record th { memory = counted_on all th m1 })) room) cells
                  ∙ ap (λ m. turned_by (Offers (cells_of v) (record th { memory = m })) room) counted) refl;
              at = record { elements = sym h.stands.taken; used = sym held.used };
              holds = held_since a g d d place m th2 room s1 stands2 spared2;
              output = h.each.0;
            },
            gives_on vs (suc k) a g input out d place counter at count x rest m th2 room s1 (omega arith) lt c low fit from end (record {
              stands = stands2;
              count = cell_written (a.base + counter) (pos (suc k)) m1 (omega arith);
              each = h.each.1;
              cells = subst (λ i. At m2.cells i (list_cells vs)) onto back2;
              spared = spared2;
            }),
          ))
    ]

-- where an array stands in cells, and a counter is 0
record Ready (a : Ground) (g : Scope) (t : Ty) (x : Spot) (counter : ℕ) (v : Val) (m : Memory) : Type 0 where
  pub stands : StandsAt g.structs t v m (place_of a.base x)
  pub count : cell m.cells (a.base + counter) ≡ pos 0

-- the code of an array and of a counter that begins at 0
ready_agrees : (a : Ground) (g : Scope) (d n : ℕ) (t : Ty) (e : Expr) (m : Memory) (s : State) → Solid a g →
    Fits g d n t e → d + cells_for g t + 1 ≤ n → Holds a.top a.base d n g m s →
    EndsAs (λ v s' m'. Ready a g t (stands g e d) (d + cells_for g t) v m' × Kept a.top a.base d g m m' s s') (λ s' m'. Kept a.top a.base d g m m' s s')
    (ev (around a.core).library e s) (go_all (code_of g e d ++ Number (Local (d + cells_for g t)) (pos 0) ∷ []) a.base m)
ready_agrees a g d n t e m s solid f fit h =
    let x : Spot = stands g e d in
    let size : ℕ = cells_for g t in
    let counter : ℕ = d + size in
    let set : List Step = Number (Local counter) (pos 0) ∷ [] in
    let r : Eval = ev (around a.core).library e s in
    let room : a.base + n ≤ length m.cells = h.room in
    let small : length m.cells < 2 ^ 63 = h.small in
    let apart : a.top ≤ a.base = h.apart in
    let i : from_base a.base counter ≡ a.base + counter = low_place a.base counter (omega arith) in
    let placed' : Placed a.top a.base d d size x =
    placed a.top a.base d n d (around a.core).library g t e m s (omega arith) (omega arith) (omega arith) f.0 h in
    subst (EndsAs (λ v s' m'. Ready a g t x counter v m' × Kept a.top a.base d g m m' s s') (λ s' m'. Kept a.top a.base d g m m' s s') r)
    (sym (go_all-append (code_of g e d) set a.base m))
    (ends_more (λ v s' m'. StandsAt g.structs t v m' (place_of a.base x) × Kept a.top a.base d g m m' s s') (λ s' m'. Kept a.top a.base d g m m' s s')
    (λ v s' m'. Ready a g t x counter v m' × Kept a.top a.base d g m m' s s') (λ s' m'. Kept a.top a.base d g m m' s s') r (go_all (code_of g e d) a.base m)
    (go_all set a.base) (λ s' m' k. k) (expressions_agree a.top a.base d n (around a.core).library g solid.functions t e m s f.0 f.1 h)
    (λ v s1 m1 z.
    let m2 : Memory = put_cell (a.base + counter) (pos 0) m1 in
    let put : Changed (a.base + counter) (a.base + counter + 1) m1 m2 = changed_cell (a.base + counter) (pos 0) m1 in
    let long : length m1.cells ≡ length m.cells = z.1.size in
    let size_v : length (cells_of v) ≡ size = sizes-fit g.structs t v z.0.shape in
    let before : place_of a.base x + length (cells_of v) ≤ a.base + counter = elim placed'.before [ inl l ↦ omega arith | inr l ↦ omega arith ] in
    let at : At m2.cells (place_of a.base x) (cells_of v) =
    at_same m1.cells m2.cells (place_of a.base x) (a.base + counter) (place_of a.base x) (cells_of v) put.size (λ j b e. put.others j (inl e)) (omega arith)
    before z.0.cells in
    subst (λ i. EndsAs (λ v s' m'. Ready a g t x counter v m' × Kept a.top a.base d g m m' s s') (λ s' m'. Kept a.top a.base d g m m' s s') (Got v s1)
    (Done (put_cell i (pos 0) m1))) (sym i) (
      record {
        stands = record { shape = z.0.shape; cells = at };
        count = cell_written (a.base + counter) (pos 0) m1 (omega arith);
      },
      kept_changed a.top a.base d (a.base + counter) (a.base + counter + 1) g m m1 m2 s s1 apart (omega arith) z.1 put,
    )))

-- `emits`
pub emits_arrives : (a : Ground) (e : Expr) (p : Place) → ComponentArrives a (Emits e p)
emits_arrives a e p g input out d place th room s solid f c deep covers h =
    let count : ℕ = f.0 in
    let t : Ty = array_of count out in
    let fits : Fits g d a.n t e = f.1 in
    let type : type_in g e ≡ t = types_are_found g a.n t e fits.0 in
    let x : Spot = stands g e d in
    let counter : ℕ = d + cells_for g t in
    let all : Series = record { counter = counter; from = x; size = cells_for g out; count = count } in
    let steps : List Step = code_of g e d ++ Number (Local counter) (pos 0) ∷ [] in
    let w : Watch = watched a g d input out th.memory in
    let wide : a.base + a.n ≤ length th.memory.cells = h.held.room in
    let small : length th.memory.cells < 2 ^ 63 = h.held.small in
    let fit : counter + 1 ≤ a.n = f.2 in
    let two : place + 1 + 1 ≡ place + 2 = omega arith in
    let c' : CodeAt a.code place (Run steps ∷ GivesAll all ∷ []) =
    subst (λ ty. CodeAt a.code place (Run (code_of g e d ++ Number (Local (d + cells_for g ty)) (pos 0) ∷ [])
    ∷ GivesAll (record { counter = d + cells_for g ty; from = x; size = cells_for g (element_type ty); count = first_length ty.lengths }) ∷ [])) type c in
    let whole : cells_for g t ≡ count * cells_for g out = array_size g.structs count out in
    let placed' : Placed a.top a.base d d (cells_for g t) x =
    placed a.top a.base d a.n d (around a.core).library g t e th.memory s (omega arith) (omega arith) (omega arith) fits.0 h.held in
    let end : place_of a.base x + count * cells_for g out ≤ a.base + counter = elim placed'.before [ inl l ↦ omega arith | inr l ↦ omega arith ] in
    straight_arrives (λ v s' m. Ready a g t x counter v m) (Arrived a g d (Some (plain UnitTy)) (place + 2) th.memory) w a g d place steps
    (GivesAll all ∷ []) th room s (ev (around a.core).library e s) (λ v s'. outputs_proc (parts v) s') solid.small c' h (ev_keeps a.core e s)
    (ready_agrees a g d a.n t e th.memory s solid fits fit h.held)
    (λ v s1 m1 r k h1.
    let vs : List Val = r.stands.shape.0 in
    let is : v ≡ Vals vs = r.stands.shape.1 in
    let zero_at : place_of a.base x ≡ place_of a.base x + 0 * cells_for g out = omega arith in
    let cells : At m1.cells (place_of a.base x + 0 * cells_for g out) (list_cells vs) =
    subst (λ i. At m1.cells i (list_cells vs)) zero_at
    (subst (At m1.cells (place_of a.base x)) (ap cells_of is ∙ cells-list vs) r.stands.cells) in
    subst (λ vs. Arrives (Arrived a g d (Some (plain UnitTy)) (place + 2) th.memory) w a.code (outputs_proc vs s1) (Alone (next_with th m1) room))
    (sym (ap parts is ∙ parts-list vs))
    (subst (λ q. Arrives (Arrived a g d (Some (plain UnitTy)) q th.memory) w a.code (outputs_proc vs s1) (Alone (next_with th m1) room)) two
    (gives_on vs 0 a g input out d (place + 1) counter (place_of a.base x) count x [] th.memory (next_with th m1) room s1
    (let e : 0 + length vs ≡ length vs = omega arith in e ∙ r.stands.shape.2) solid.small
    (code_next a.code place (Run steps) (GivesAll all ∷ []) c') (omega arith) fit refl end (record {
      stands = h1;
      count = r.count;
      each = r.stands.shape.3;
      cells = cells;
      spared = spares_kept a.top a.base d g th.memory m1 s s1 k;
    }))))
