-- Loops that turn on and on, and loops with a test.
use Rattle.std.proofs.Common.{◌≡◌, ℕ, ◌+◌, ◌<◌, ◌≤◌, ◌^◌, List, [], ◌∷◌, ◌++◌, Bool, true, false, not, Some, length, slice_get, ap, sym, subst, refl, ◌∙◌, arith, inl, inr, length-append}
use Rattle.zir_tree.specs.declared.place.Place.{Place}
use Rattle.zir_tree.specs.declared.types.Base.TheVariants.{Unit as UnitTy, Bool as BoolTy}
use Rattle.zir_tree.specs.declared.types.Ty.{Ty}
use Rattle.zir_tree.specs.declared.value.Val.{Val, Unit as UnitVal}
use Rattle.zir_tree.specs.declared.ends.End.TheVariants.{Value}
use Rattle.zir_tree.specs.declared.expr.Expr.{Expr}
use Rattle.zir_tree.specs.declared.comp.Turning.{Turning}
use Rattle.zir_tree.specs.declared.comp.Turning.TheVariants.{While as WhileTurns, Until as UntilTurns}
use Rattle.zir_tree.specs.declared.comp.Comp.{Comp, Repeat', While', more_of-Comp, end_of-Comp}
use Rattle.zir_meaning.specs.Values.{is_one}
use Rattle.zir_meaning.specs.Trace.{State}
use Rattle.zir_meaning.specs.Evaluation.{Eval, Got, Traps, RunsOut, ev}
use Rattle.zir_meaning.specs.Composition.{limit}
use Rattle.zir_meaning.specs.Instances.{around}
use Rattle.zir_meaning.specs.Component.{always, inverted, test_of}
use Rattle.zir_laws.specs.Process.{Proc, Ends, NextProc, with_proc, choose_proc, turn_if_proc, proc}
use Rattle.zir_laws.proofs.Evaluating.{EvalKeeps}
use Rattle.zir_shapes.specs.Offsets.{plain_type as plain}
use Rattle.zir_expr.specs.declared.frame.Spot.{Spot}
use Rattle.zir_expr.specs.Answers.{is_set}
use Rattle.zir_expr.specs.Memory.{cell_at, after, from_base, place_of}
use Rattle.zir_expr.specs.Memory.Frames.{Memory}
use Rattle.zir_expr.specs.Running.{go_all}
use Rattle.zir_code.specs.Scopes.{Scope}
use Rattle.zir_code.specs.Coding.{stands, code_of}
use Rattle.zir_code.specs.Fine.{Fits}
use Rattle.zir_code.specs.Holding.{Spares, Kept, StandsAt}
use Rattle.zir_code.proofs.Agreeing.{OnGot, ends_with, ends_less}
use Rattle.zir_code.proofs.Operating.{IsCell, is_set_cell, cell_from}
use Rattle.zir_flow.specs.declared.instruction.Instruction.{Instruction}
use Rattle.zir_flow.specs.declared.instruction.Instruction.TheVariants.{Run, Tick, Again, Branch}
use Rattle.zir_flow.specs.Threads.{Thread, Goes, either_move, goes_if, onward, next_with}
use Rattle.zir_flow.specs.Stages.{Stage, Alone, Room}
use Rattle.zir_flow.specs.Kinds.{value_in}
use Rattle.zir_flow.specs.Flowing.{ends_where_set, flow_code}
use Rattle.zir_flow.specs.Playing.{Watch}
use Rattle.zir_flow.specs.Program.{CodeAt}
use Rattle.zir_flow.proofs.Reaching.{Reaches}
use Rattle.zir_flow.proofs.Playing.{Arriving, Arrives, arrives_on}
use Rattle.zir_flow.proofs.Standing.{Ground, Stands, Arrived, Solid, watched, ComponentArrives}
use Rattle.zir_flow.proofs.Straight.{code_here, code_front, code_back, code_next, code_ends, onward_place, next_place, goes_to, spares_none, spares_then, spares_kept, stands_moved, straight_arrives, ev_keeps, expressions_agree}
use Rattle.zir_flow.proofs.Rounds.{component_shrinks, rounds_arrive, Since, tick_since, body_since, back_since, unit_since}

-- a loop without a test
pub repeat_arrives : (a : Ground) (c : Comp) (p : Place) → ComponentArrives a c → ComponentArrives a (Repeat' _ (more_of-Comp c end_of-Comp) p)
repeat_arrives a c p arrives g input out d place th room s solid flows at deep covers h =
    let body : List Instruction = flow_code a.st g input d c in
    let m : Memory = th.memory in
    let last : List Instruction = Again (length body + 1) ∷ [] in
    let behind = code_next a.code place Tick (body ++ last) at in
    let inside = code_front a.code (place + 1) body last behind in
    let back = code_back a.code (place + 1) body last behind in
    let to : place + (length body + 1) ≡ place + 1 + length body = omega arith in
    rounds_arrive s.left (Arrived a g d (value_in a.st g input d (Repeat' _ (more_of-Comp c end_of-Comp) p)) (place + length (Tick ∷ (body ++ last))) m)
    (λ v s' st'. Since a g d (place + 1 + length body) m s' st') (watched a g d input out m) a.code (Since a g d place m) (Since a g d place m)
    (Since a g d (place + 1) m) always (proc (around a.core) a.procs c) s _
    (record {
      tests = λ s' st' turn i f. f s' st' (omega arith) i;
      ticks = λ s' st' next j f. tick_since _ (watched a g d input out m) a g d place m (body ++ last) s' st' next solid.small at j f;
      turns = λ s' st' k. body_since a g input out d (place + 1) m c s' st' arrives solid flows inside deep covers k;
      shrinks = λ s'. component_shrinks a g c s' solid;
      again = λ v s' st' b. back_since a g d (place + 1 + length body) place (length body + 1) m [] s' st' solid.small back to b;
    })
    (omega arith)
    (record { th = th; room = room; alone = refl; stands = h; spared = spares_none a.top a.base d g m })

-- whether a loop turns once more
abbrev goes_round : Turning → Bool → Bool
goes_round WhileTurns b = b
goes_round UntilTurns b = not b

-- a test, and one of two ways by it
tested : (turning : Turning) (f : State → Eval) (s : State) (turn : State → Proc) →
    turn_if_proc (test_of turning f s) turn ≡
    with_proc (f s) (λ v s'. choose_proc (goes_round turning (is_one v)) turn (λ s2. Ends (Value UnitVal) s2) s')
tested WhileTurns f s turn = refl
tested UntilTurns f s turn = by (f s) where
  by : (e : Eval) → turn_if_proc (inverted e) turn ≡ with_proc e (λ v s'. choose_proc (not (is_one v)) turn (λ s2. Ends (Value UnitVal) s2) s')
  by (Got v s') = refl
  by (Traps t s') = refl
  by RunsOut = refl

-- an evaluation ends with no more ticks left
left_after : (r : Eval) (s : State) → EvalKeeps s r → OnGot (λ v s'. s'.left ≤ s.left) r
left_after (Got v s') s k = let lim : limit s' ≡ limit s = k.2 in let t : s.ticks ≤ s'.ticks = k.1 in omega arith
left_after (Traps t s') s k = tt
left_after RunsOut s k = tt

-- an expression, and what follows with no more ticks left
test_arrives : (A : Arriving) (w : Watch) (a : Ground) (g : Scope) (d place : ℕ) (t : Ty) (e : Expr) (rest : List Instruction) (th : Thread)
    (room : Room) (s : State) (next : NextProc) → Solid a g → Fits g d a.n t e → CodeAt a.code place (Run (code_of g e d) ∷ rest) →
    Stands a g d place th room s →
    ((v : Val) (s' : State) (m : Memory) → s'.left ≤ s.left → StandsAt g.structs t v m (place_of a.base (stands g e d)) →
    Kept a.top a.base d g th.memory m s s' → Stands a g d (place + 1) (next_with th m) room s' → Arrives A w a.code (next v s') (Alone (next_with th m) room)) →
    Arrives A w a.code (with_proc (ev (around a.core).library e s) next) (Alone th room)
test_arrives A w a g d place t e rest th room s next solid f c h k =
    let m : Memory = th.memory in
    let r : Eval = ev (around a.core).library e s in
    let P = (λ (v : Val) (s' : State) (m' : Memory). StandsAt g.structs t v m' (place_of a.base (stands g e d))) in
    let Q = (λ (s' : State) (m' : Memory). Kept a.top a.base d g m m' s s') in
    let R = (λ (v : Val) (s' : State). s'.left ≤ s.left) in
    straight_arrives (λ v s' m'. (s'.left ≤ s.left) × P v s' m') A w a g d place (code_of g e d) rest th room s r next solid.small c h
    (ev_keeps a.core e s)
    (ends_less (λ v s' m'. R v s' × (P v s' m' × Q s' m')) Q (λ v s' m'. ((s'.left ≤ s.left) × P v s' m') × Q s' m') Q r
    (go_all (code_of g e d) a.base m) (λ v s' m' z. ((z.0, z.1.0), z.1.1)) (λ s' m' z. z)
    (ends_with (λ v s' m'. P v s' m' × Q s' m') Q R r (go_all (code_of g e d) a.base m) (left_after r s (ev_keeps a.core e s))
    (expressions_agree a.top a.base d a.n (around a.core).library g solid.functions t e m s f.0 f.1 h.held)))
    (λ v s' m' z q st. k v s' m' z.0 z.1 q st)

-- where a branch leads
abbrev pub branch_place : Bool → ℕ → ℕ → ℕ
branch_place true place k = place + 1 + k
branch_place false place k = place + 1

-- how far it leads
abbrev branch_by : Bool → ℕ → ℕ
branch_by true k = k
branch_by false k = 0

branch_move : (b c : Bool) (k : ℕ) (th : Thread) → c ≡ b → either_move c (Goes (onward k th)) (Goes (onward 0 th)) ≡ Goes (onward (branch_by b k) th)
branch_move true true k th e = refl
branch_move true false k th e = cc
branch_move false true k th e = cc
branch_move false false k th e = refl

branch_there : (b : Bool) (place k : ℕ) → place + 1 + k < 2 ^ 64 → from_base (after place) (branch_by b k) ≡ branch_place b place k
branch_there true place k h = onward_place place k h
branch_there false place k h = next_place place (omega arith)

-- a branch
pub branch_since : (b : Bool) (a : Ground) (g : Scope) (d place k : ℕ) (x : Spot) (on : Bool) (m : Memory) (rest : List Instruction) (s : State) (th : Thread)
    (room : Room) → place + 1 + k < 2 ^ 64 → CodeAt a.code place (Branch x on k ∷ rest) →
    goes_if (is_set (cell_at (place_of a.base x) th.memory)) on ≡ b → Stands a g d place th room s → Spares a.top a.base d g m th.memory →
    (st' : Stage) × Reaches a.code (Alone th room) st' × Since a g d (branch_place b place k) m s st'
branch_since b a g d place k x on m rest s th room lt c e h p =
    let th' : Thread = onward (branch_by b k) th in
    let q : goes_if (is_set (cell_at (place_of th.base x) th.memory)) on ≡ b =
    ap (λ base. goes_if (is_set (cell_at (place_of base x) th.memory)) on) h.base_is ∙ e in (
      Alone th' room,
      goes_to a.code (Branch x on k) th th' room (ap (slice_get a.code) h.place_is ∙ code_here a.code place (Branch x on k) rest c)
          (branch_move b (goes_if (is_set (cell_at (place_of th.base x) th.memory)) on) k th q),
      record {
        th = th';
        room = room;
        alone = refl;
        stands = stands_moved a g d place (branch_place b place k) th'.place th room s h
            (ap (λ p. from_base (after p) (branch_by b k)) h.place_is ∙ branch_there b place k lt);
        spared = p;
      },
    )

-- a loop ends where its branch leads on
ends_round : (turning : Turning) (b : Bool) → goes_if b (ends_where_set turning) ≡ not (goes_round turning b)
ends_round WhileTurns true = refl
ends_round WhileTurns false = refl
ends_round UntilTurns true = refl
ends_round UntilTurns false = refl

-- a truth value in its cell
truth_from : (g : Scope) (m : Memory) (i : ℕ) (v : Val) → StandsAt g.structs (plain BoolTy) v m i → IsCell BoolTy v (cell_at i m)
truth_from g m i v st = cell_from g.structs m.cells i BoolTy v (inr (inl refl)) st.shape st.cells

-- one of two ways, by a branch
choosing : (r : Bool) (a : Ground) (g : Scope) (d place k : ℕ) (x : Spot) (on : Bool) (m : Memory) (rest : List Instruction) (w : Watch) (s : State)
    (th : Thread) (room : Room) (turn : State → Proc) → place + 1 + k < 2 ^ 64 → CodeAt a.code place (Branch x on k ∷ rest) →
    goes_if (is_set (cell_at (place_of a.base x) th.memory)) on ≡ not r → Stands a g d place th room s → Spares a.top a.base d g m th.memory →
    ((st' : Stage) → Since a g d (place + 1) m s st' → Arrives (Arrived a g d (Some (plain UnitTy)) (place + 1 + k) m) w a.code (turn s) st') →
    Arrives (Arrived a g d (Some (plain UnitTy)) (place + 1 + k) m) w a.code (choose_proc r turn (λ s2. Ends (Value UnitVal) s2) s) (Alone th room)
choosing true a g d place k x on m rest w s th room turn lt c e h p f =
    let z = branch_since false a g d place k x on m rest s th room lt c e h p in
    arrives_on (Arrived a g d (Some (plain UnitTy)) (place + 1 + k) m) w a.code (turn s) (Alone th room) z.0 z.1 (f z.0 z.2)
choosing false a g d place k x on m rest w s th room turn lt c e h p f =
    let z = branch_since true a g d place k x on m rest s th room lt c e h p in
    (z.0, z.1, unit_since a g d (place + 1 + k) m s z.0 z.2)

-- a loop with a test
pub while_arrives : (a : Ground) (turning : Turning) (e : Expr) (c : Comp) (p : Place) → ComponentArrives a c →
    ComponentArrives a (While' turning e _ (more_of-Comp c end_of-Comp) p)
while_arrives a turning e c p arrives g input out d place th room s solid flows at deep covers h =
    let body : List Instruction = flow_code a.st g input d c in
    let m : Memory = th.memory in
    let x : Spot = stands g e d in
    let on : Bool = ends_where_set turning in
    let n : ℕ = length body in
    let last : List Instruction = Again (n + 3) ∷ [] in
    let branch : Instruction = Branch x on (n + 2) in
    let whole : List Instruction = Run (code_of g e d) ∷ branch ∷ Tick ∷ (body ++ last) in
    let w : Watch = watched a g d input out m in
    let size : length (body ++ last) ≡ n + 1 = length-append body last in
    let ends : place + length whole ≤ length a.code = code_ends a.code place whole at in
    let small : length a.code < 2 ^ 32 = solid.small in
    let at1 = code_next a.code place (Run (code_of g e d)) (branch ∷ Tick ∷ (body ++ last)) at in
    let at2 = code_next a.code (place + 1) branch (Tick ∷ (body ++ last)) at1 in
    let at3 = code_next a.code (place + 1 + 1) Tick (body ++ last) at2 in
    let inside = code_front a.code (place + 1 + 1 + 1) body last at3 in
    let back = code_back a.code (place + 1 + 1 + 1) body last at3 in
    let to : place + (n + 3) ≡ place + 1 + 1 + 1 + n = omega arith in
    let end : place + 1 + 1 + (n + 2) ≡ place + length whole = omega arith in
    let A : Arriving = Arrived a g d (Some (plain UnitTy)) (place + 1 + 1 + (n + 2)) m in
    subst (λ q. Arrives (Arrived a g d (Some (plain UnitTy)) q m) w a.code
    (proc (around a.core) a.procs (While' turning e _ (more_of-Comp c end_of-Comp) p) s) (Alone th room)) end
    (rounds_arrive s.left A (λ v s' st'. Since a g d (place + 1 + 1 + 1 + n) m s' st') w a.code (Since a g d place m) (Since a g d (place + 1 + 1) m)
    (Since a g d (place + 1 + 1 + 1) m) (test_of turning (ev (around a.core).library e)) (proc (around a.core) a.procs c) s (Alone th room)
    (record {
      tests = λ s' st' turn i k.
          subst (λ q. Arrives A w a.code q st') (sym (tested turning (ev (around a.core).library e) s' turn))
          (subst (Arrives A w a.code (with_proc (ev (around a.core).library e s')
          (λ v s2. choose_proc (goes_round turning (is_one v)) turn (λ s3. Ends (Value UnitVal) s3) s2))) (sym i.alone)
          (test_arrives A w a g d place (plain BoolTy) e (branch ∷ Tick ∷ (body ++ last)) i.th i.room s'
          (λ v s2. choose_proc (goes_round turning (is_one v)) turn (λ s3. Ends (Value UnitVal) s3) s2) solid flows.0 at i.stands
          (λ v s2 m2 less st kept stand.
          let b = truth_from g m2 (place_of a.base x) v st in
          let set : is_set (cell_at (place_of a.base x) m2) ≡ is_one v = ap is_set b.2 ∙ is_set_cell b.0 ∙ sym (ap is_one b.1) in
          choosing (goes_round turning (is_one v)) a g d (place + 1) (n + 2) x on m (Tick ∷ (body ++ last)) w s2 (next_with i.th m2) i.room turn
          (omega arith) at1 (ap (λ q. goes_if q on) set ∙ ends_round turning (is_one v)) stand
          (spares_then a.top a.base d g m i.th.memory m2 i.spared (spares_kept a.top a.base d g i.th.memory m2 s' s2 kept))
          (λ st2 z. k s2 st2 less z))));
      ticks = λ s' st' next j k. tick_since A w a g d (place + 1 + 1) m (body ++ last) s' st' next small at2 j k;
      turns = λ s' st' k. body_since a g input out d (place + 1 + 1 + 1) m c s' st' arrives solid flows.1 inside deep covers k;
      shrinks = λ s'. component_shrinks a g c s' solid;
      again = λ v s' st' b. back_since a g d (place + 1 + 1 + 1 + n) place (n + 3) m [] s' st' small back to b;
    })
    (omega arith)
    (record { th = th; room = room; alone = refl; stands = h; spared = spares_none a.top a.base d g m }))
