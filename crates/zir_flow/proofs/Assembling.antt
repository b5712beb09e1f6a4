-- Every component arrives, by its form, and so its code plays what it does.
use Rattle.std.specs.Prelude.{ℕ, ◌+◌, List, [], ◌∷◌, ◌≡◌, refl, length, slice_get}
use Rattle.std.proofs.Common.{ap, ◌∙◌, sym, subst}
use Rattle.zir_tree.specs.declared.place.Place.{Place}
use Rattle.zir_tree.specs.declared.value.Val.{Val}
use Rattle.zir_tree.specs.declared.types.Ty.{Ty}
use Rattle.zir_tree.specs.declared.stmt.Body.{Body}
use Rattle.zir_tree.specs.declared.comp.Comp.{Comp, Take as TakeComp, Takes as TakesComp, Emit, Emits, Return as ReturnComp, Do, Repeat', While', Times', For', If', Map, Filter, Call, Block', Pipe', end_of-Comp, more_of-Comp, Row_of-Member, end_of-Member, more_of-Member}
use Rattle.zir_tree.specs.declared.comp.Member.{Bind, Var, Run as RunMember}
use Rattle.zir_meaning.specs.Trace.{State, point}
use Rattle.zir_laws.specs.Acts.{calls_of, acts}
use Rattle.zir_expr.specs.Memory.{from_base}
use Rattle.zir_expr.specs.Memory.Frames.{Memory}
use Rattle.zir_code.specs.Scopes.{Scope}
use Rattle.zir_flow.specs.declared.instruction.Instruction.{Instruction}
use Rattle.zir_flow.specs.declared.instruction.Instruction.TheVariants.{Stop}
use Rattle.zir_flow.specs.Stages.{Stage, Alone, Ended}
use Rattle.zir_flow.specs.Kinds.{value_in}
use Rattle.zir_flow.specs.Flowing.{flow_code}
use Rattle.zir_flow.specs.Fitting.{shape_of}
use Rattle.zir_flow.specs.Playing.{Watch, Comes, EndsAt}
use Rattle.zir_flow.specs.Program.{CodeAt}
use Rattle.zir_flow.specs.Laws.{HoldsStore, ValueStands, watching, ComponentsPlay}
use Rattle.zir_flow.proofs.Reaching.{comes_next}
use Rattle.zir_flow.proofs.Playing.{Arriving, arrives_holds, arrives_plays}
use Rattle.zir_flow.proofs.Standing.{Ground, Stands, watched, Arrived, Solid, ComponentArrives}
use Rattle.zir_flow.proofs.Straight.{code_here, code_front, code_back, turn_at, holds_store, covers_self}
use Rattle.zir_flow.proofs.Giving.{emit_arrives, return_arrives}
use Rattle.zir_flow.proofs.Taking.{take_arrives, takes_arrives}
use Rattle.zir_flow.proofs.Offering.{emits_arrives}
use Rattle.zir_flow.proofs.Mapping.{map_arrives, filter_arrives}
use Rattle.zir_flow.proofs.Repeating.{repeat_arrives, while_arrives}
use Rattle.zir_flow.proofs.Counting.{times_arrives}
use Rattle.zir_flow.proofs.Indexing.{for_arrives}
use Rattle.zir_flow.proofs.Choosing.{if_arrives}
use Rattle.zir_flow.proofs.Calling.{call_arrives}
use Rattle.zir_flow.proofs.Members.{MembersArrive, ends_block, binds_member, declares_member, runs_member, block_arrives}
use Rattle.zir_flow.proofs.Instances.{instances_play}
use Rattle.zir_flow.proofs.Composing.{pipe_arrives}

-- bodies of statements arrive
abbrev pub DoArrives : Type 0
DoArrives = (a : Ground) (body : Body) (p : Place) → ComponentArrives a (Do body p)

mutual
  -- each component arrives on every ground
  pub component_arrives : DoArrives → (c : Comp) (a : Ground) → ComponentArrives a c
  component_arrives doing (TakeComp p) a = take_arrives a p
  component_arrives doing (TakesComp n p) a = takes_arrives a n p
  component_arrives doing (Emit e p) a = emit_arrives a e p
  component_arrives doing (Emits e p) a = emits_arrives a e p
  component_arrives doing (ReturnComp e p) a = return_arrives a e p
  component_arrives doing (Do body p) a = doing a body p
  component_arrives doing (Repeat' _ (more_of-Comp c end_of-Comp) p) a = repeat_arrives a c p (component_arrives doing c a)
  component_arrives doing (While' turning e _ (more_of-Comp c end_of-Comp) p) a = while_arrives a turning e c p (component_arrives doing c a)
  component_arrives doing (Times' e _ (more_of-Comp c end_of-Comp) p) a = times_arrives a e c p (component_arrives doing c a)
  component_arrives doing (For' name x y _ (more_of-Comp c end_of-Comp) p) a = for_arrives a name x y c p (component_arrives doing c a)
  component_arrives doing (If' e _ (more_of-Comp x end_of-Comp) _ (more_of-Comp y end_of-Comp) p) a =
      if_arrives a e x y p (component_arrives doing x a) (component_arrives doing y a)
  component_arrives doing (Map f k p) a = map_arrives a f k p
  component_arrives doing (Filter f k p) a = filter_arrives a f k p
  component_arrives doing (Call name k es) a = call_arrives a name k es
  component_arrives doing (Block' _ ms p) a = block_arrives a ms (members_arrive doing ms a)
  component_arrives doing (Pipe' link _ (more_of-Comp x end_of-Comp) _ (more_of-Comp y end_of-Comp) p) a =
      pipe_arrives a link x y p (λ b. component_arrives doing x b) (λ b. component_arrives doing y b)

  -- the members of a block
  members_arrive : {k : _} → DoArrives → (ms : Row_of-Member k) (a : Ground) → MembersArrive a ms
  members_arrive doing end_of-Member a = ends_block a
  members_arrive doing (more_of-Member (Bind name c) ms) a = binds_member a name c ms (component_arrives doing c a) (members_arrive doing ms a)
  members_arrive doing (more_of-Member (Var var) ms) a = declares_member a var ms (members_arrive doing ms a)
  members_arrive doing (more_of-Member (RunMember c) ms) a = runs_member a c ms (component_arrives doing c a) (members_arrive doing ms a)

-- a component that has arrived at a stop has ended
ends_there : (a : Ground) (g : Scope) (input out : Ty) (d place : ℕ) (c : Comp) (m : Memory) (v : Val) (s : State) (st : Stage) →
    a.shape ≡ shape_of a.st c → CodeAt a.code place (Stop ∷ []) → Arrived a g d (value_in a.st g input d c) place m v s st →
    EndsAt (watching a.top a.base d a.size a.st g input out c) a.code st v (point s)
ends_there a g input out d place c m v s st shape code r = record {
  taken = r.th.taken;
  ticks = r.th.memory.used;
  last = Alone r.th r.room;
  comes = subst (λ z. Comes a.code z (Ended r.th.taken r.th.memory.used (Alone r.th r.room))) (sym r.alone) (comes_next a.code (Alone r.th r.room) _
      (turn_at a.code Stop r.th r.room (ap (slice_get a.code) r.stands.place_is ∙ code_here a.code place Stop [] code)) refl);
  at = record { elements = sym r.stands.taken; used = sym r.stands.held.used };
  holds = subst (λ shape. HoldsStore a.top a.base a.size g shape (Alone r.th r.room) s.store) shape (holds_store a g d place r.th r.room s r.stands);
  value = subst (ValueStands g (value_in a.st g input d c) (from_base a.base d) v) r.alone r.value;
}

-- the law of flat code
pub components_play : DoArrives → ComponentsPlay
components_play doing core code st top base d n size place g input out c th room s calls places small flows at place_is h =
    let a : Ground = record {
      core = core;
      code = code;
      st = st;
      procs = calls_of core;
      top = top;
      base = base;
      n = n;
      size = size;
      shape = shape_of st c;
      calls = th.calls;
      deep = th.deep;
    } in
    let flow : List Instruction = flow_code st g input d c in
    let solid : Solid a g = instances_play (λ b x. component_arrives doing x b) a g calls places small in
    let A : Arriving = Arrived a g d (value_in st g input d c) (place + length flow) th.memory in
    let stands : Stands a g d place th room s = record {
      held = h.held;
      place_is = place_is;
      base_is = h.base_is;
      calls_are = refl;
      deep_is = refl;
      taken = h.taken;
      size_is = h.size_is;
      room_fits = h.room_fits;
    } in
    let w : Watch = watching top base d size st g input out c in
    arrives_plays A w code (acts core c s) (Alone th room)
    (arrives_holds A A (watched a g d input out th.memory) w code (acts core c s) (Alone th room) (λ v s' st' z. z) (λ st' store z. z.held) (λ x z. z) (λ x z. z)
    (component_arrives doing c a g input out d place th room s solid flows (code_front code place flow (Stop ∷ []) at) h.depth (covers_self (shape_of st c))
    stands))
    (λ v s' st' r. ends_there a g input out d (place + length flow) c th.memory v s' st' refl (code_back code place flow (Stop ∷ []) at) r)
