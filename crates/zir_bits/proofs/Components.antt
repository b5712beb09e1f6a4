-- What components over bits mean, in the whole language.
use Rattle.std.specs.Prelude.{ℕ, zero, suc, ◌+◌, List, [], ◌∷◌, ◌≡◌, refl, Some, None, map, length}
use Rattle.std.proofs.Common.{ap, ◌∙◌, sym}
use denote.Hole.Carrier.{hidden}
use Rattle.zir_tree.specs.declared.place.Place.{Place}
use Rattle.zir_tree.specs.declared.value.Val as wide_val
use Rattle.zir_tree.specs.declared.comp.Link.TheVariants.{Serial}
use Rattle.zir_tree.specs.declared.comp.Comp as wide_tree_comp
use Rattle.zir_tree.specs.declared.comp.Comp.TheBlock.{shape-the_row-Comp-0, hidden-the_row-Comp-0, shape-the_row-Member-1, hidden-the_row-Member-1}
use Rattle.zir_meaning.specs.Trace as wide_traces
use Rattle.zir_meaning.specs.Evaluation as wide_evals
use Rattle.zir_meaning.specs.Statements as wide_statements
use Rattle.zir_meaning.specs.Assigned as wide_assigned
use Rattle.zir_meaning.specs.Composition as wide_joins
use Rattle.zir_meaning.specs.Component as wide
use Rattle.zir_bit_tree.specs.declared.value.Val.{Val}
use Rattle.zir_bit_tree.specs.declared.value.Val.TheVariants.{Unit as UnitVal}
use Rattle.zir_tree.specs.declared.ends.End.TheVariants.{Value as WideValue}
use Rattle.zir_bit_tree.specs.declared.ends.End.TheVariants.{Value}
use Rattle.zir_bit_tree.specs.declared.tree.Comp.{Comp, Take, Emit, Return, Block', Repeat', Pipe', end_of-Comp, more_of-Comp, Row_of-Member, end_of-Member, more_of-Member}
use Rattle.zir_bit_meaning.specs.Trace.{State, point, Trace, ends, gives, then_do, tick}
use Rattle.zir_bit_meaning.specs.Evaluation.{ev}
use Rattle.zir_bit_meaning.specs.Composition.{compose, fresh, values}
use Rattle.zir_bit_meaning.specs.Component.{take_of, turns, bind, assigns, tr, members}
use Rattle.zir_bits.specs.Wide.{wide_value, wide_comp, wide_members}
use Rattle.zir_bits.specs.Traces.{wide_slot, wide_state, wide_trace}
use Rattle.zir_bits.proofs.Lists.{map-length, bound-wide, narrowed-wide}
use Rattle.zir_bits.proofs.Evaluations.{ev-wide, with-wide}
use Rattle.zir_bits.proofs.Compositions.{then-wide, tick-wide, compose-wide, values-wide}
use Rattle.zir_bits.proofs.Assigned.{wide-none, bits-none}

-- what a component does, in both meanings
abbrev Agree : wide.Does → (State → List Val → Trace) → Type 0
Agree wide_does does = (s : State) (xs : List Val) → wide_does (wide_state s) (map wide_value xs) ≡ wide_trace (does s xs)

-- one element
take-wide : Agree wide.take_of take_of
take-wide s [] = refl
take-wide s (x ∷ xs) =
    tick-wide s xs (λ s' ys. ends (Value x) (record s' { taken = s'.taken + 1 }) ys)
    (λ s' ys. wide_traces.ends (WideValue (wide_value x)) (record s' { taken = s'.taken + 1 }) ys) (λ s' ys. refl)

-- turns of a body
turns-wide : (n : ℕ) (wide_body : wide.Does) (body : State → List Val → Trace) → Agree wide_body body →
    Agree (wide.turns n wide.always wide_body) (turns n body)
turns-wide zero wide_body body same s xs = refl
turns-wide (suc more) wide_body body same s xs =
    tick-wide s xs (λ s' ys. then_do (body s' ys) (λ v s'' zs. turns more body s'' zs))
    (λ s' ys. wide_traces.then_do (wide_body s' ys) (λ v s'' zs. wide.turns more wide.always wide_body s'' zs))
    (λ s' ys. ap (λ t. wide_traces.then_do t (λ v s'' zs. wide.turns more wide.always wide_body s'' zs)) (same s' ys)
    ∙ then-wide (body s' ys) (λ v s'' zs. turns more body s'' zs) (λ v s'' zs. wide.turns more wide.always wide_body s'' zs)
    (λ v s'' zs. turns-wide more wide_body body same s'' zs))

-- a loop is turns of its body, at most as many as ticks are left
repeat-turns : (r : wide.Around) (comps : wide.Comps) (c : wide_tree_comp.Comp) (p : Place) (s : wide_traces.State) (xs : List wide_val.Val) →
    wide.tr r comps (wide_tree_comp.Repeat c p) s xs ≡ wide.turns s.left wide.always (wide.tr r comps c) s xs
unfolding shape-the_row-Comp-0 hidden-the_row-Comp-0 hidden
repeat-turns r comps c p s xs = refl

-- a composition is that of the traces of its sides
pipe-joins : (r : wide.Around) (comps : wide.Comps) (a b : wide_tree_comp.Comp) (p : Place) (s : wide_traces.State) (xs : List wide_val.Val) →
    wide.tr r comps (wide_tree_comp.Pipe Serial a b p) s xs ≡ wide_joins.compose (wide_assigned.assigns r.assigned a) s xs (wide.tr r comps a s xs)
    (wide.tr r comps b (wide_joins.fresh s) (wide_joins.values (wide.tr r comps a s xs).outs))
unfolding shape-the_row-Comp-0 hidden-the_row-Comp-0 hidden
pipe-joins r comps a b p s xs = refl

-- a composition of two sides whose meanings agree
joins-wide : (r : wide.Around) (comps : wide.Comps) (a b : Comp) → Agree (wide.tr r comps (wide_comp a)) (tr a) →
    Agree (wide.tr r comps (wide_comp b)) (tr b) →
    (s : State) (xs : List Val) →
    wide_joins.compose (wide_assigned.assigns r.assigned (wide_comp a)) (wide_state s) (map wide_value xs) (wide.tr r comps (wide_comp a)
    (wide_state s) (map wide_value xs))
    (wide.tr r comps (wide_comp b) (wide_joins.fresh (wide_state s)) (wide_joins.values (wide.tr r comps (wide_comp a) (wide_state s)
    (map wide_value xs)).outs))
    ≡ wide_trace (compose (assigns a) s xs (tr a s xs) (tr b (fresh s) (values (tr a s xs).outs)))
joins-wide r comps a b left right s xs =
    let ids : List ℕ = wide_assigned.assigns r.assigned (wide_comp a) in
    let t : Trace = tr a s xs in
    let u : Trace = tr b (fresh s) (values t.outs) in
    ap (λ l. wide_joins.compose ids (wide_state s) (map wide_value xs) l (wide.tr r comps (wide_comp b) (wide_state (fresh s))
    (wide_joins.values l.outs))) (left s xs)
    ∙ ap (λ vs. wide_joins.compose ids (wide_state s) (map wide_value xs) (wide_trace t) (wide.tr r comps (wide_comp b) (wide_state (fresh s)) vs))
    (values-wide t.outs)
    ∙ ap (wide_joins.compose ids (wide_state s) (map wide_value xs) (wide_trace t)) (right (fresh s) (values t.outs))
    ∙ ap (λ ids. wide_joins.compose ids (wide_state s) (map wide_value xs) (wide_trace t) (wide_trace u)) (wide-none r.assigned a)
    ∙ compose-wide s xs t u
    ∙ ap (λ ids. wide_trace (compose ids s xs t u)) (sym (bits-none a))

mutual
  unfolding shape-the_row-Member-1 hidden-the_row-Member-1 hidden

  -- a component
  pub tr-wide : (r : wide.Around) (comps : wide.Comps) (c : Comp) → Agree (wide.tr r comps (wide_comp c)) (tr c)
  tr-wide r comps (Take p) s xs = take-wide s xs
  tr-wide r comps (Emit e p) s xs =
      ap (λ e. wide_evals.with_value e (map wide_value xs) (λ v s' ys. wide.outputs (v ∷ []) s' ys)) (ev-wide r.library e s)
      ∙ with-wide (ev e s) xs (λ v s' ys. tick s' ys (λ s'' zs. gives (record { value = v; at = point s'' }) (ends (Value UnitVal) s'' zs)))
      (λ v s' ys. wide.outputs (v ∷ []) s' ys)
      (λ v s' ys. tick-wide s' ys (λ s'' zs. gives (record { value = v; at = point s'' }) (ends (Value UnitVal) s'' zs))
      (λ s'' zs. wide_traces.gives (record { value = wide_value v; at = wide_traces.point s'' }) (wide.outputs [] s'' zs)) (λ s'' zs. refl))
  tr-wide r comps (Return e p) s xs =
      ap (λ e. wide_evals.with_value e (map wide_value xs) (λ v s' ys. wide.returns v s' ys)) (ev-wide r.library e s)
      ∙ with-wide (ev e s) xs (λ v s' ys. tick s' ys (λ s'' zs. ends (Value v) s'' zs)) (λ v s' ys. wide.returns v s' ys)
      (λ v s' ys. tick-wide s' ys (λ s'' zs. ends (Value v) s'' zs) (λ s'' zs. wide_traces.ends (WideValue (wide_value v)) s'' zs) (λ s'' zs. refl))
  tr-wide r comps (Block' _ ms p) s xs =
      ap (λ n. wide.members r comps (hidden-the_row-Member-1 (wide_members ms)) n wide_val.Unit (wide_state s) (map wide_value xs))
      (map-length wide_slot s.store)
      ∙ members-wide r comps ms (length s.store) UnitVal s xs
  tr-wide r comps (Repeat' _ (more_of-Comp c end_of-Comp) p) s xs =
      repeat-turns r comps (wide_comp c) p (wide_state s) (map wide_value xs)
      ∙ turns-wide s.left (wide.tr r comps (wide_comp c)) (tr c) (tr-wide r comps c) s xs
  tr-wide r comps (Pipe' _ (more_of-Comp a end_of-Comp) _ (more_of-Comp b end_of-Comp) p) s xs =
      pipe-joins r comps (wide_comp a) (wide_comp b) p (wide_state s) (map wide_value xs)
      ∙ joins-wide r comps a b (tr-wide r comps a) (tr-wide r comps b) s xs

  -- the members of a block
  members-wide : {m : _} (r : wide.Around) (comps : wide.Comps) (ms : Row_of-Member m) (n : ℕ) (v : Val) →
      Agree (wide.members r comps (hidden-the_row-Member-1 (wide_members ms)) n (wide_value v)) (members ms n v)
  members-wide r comps end_of-Member n v s xs =
      ap (λ store. wide_traces.ends (WideValue (wide_value v)) (record (wide_state s) { store = store }) (map wide_value xs)) (narrowed-wide n s.store)
  members-wide r comps (more_of-Member None c ms) n v s xs =
      let next = λ (w : Val) (s' : State) (ys : List Val). members ms n w s' ys in
      let wide_next = λ (w : wide_val.Val) (s' : wide_traces.State) (ys : List wide_val.Val). wide.members r comps (hidden-the_row-Member-1
      (wide_members ms)) n w s' ys in
      ap (λ t. wide_traces.then_do t wide_next) (tr-wide r comps c s xs)
      ∙ then-wide (tr c s xs) next wide_next (λ w s' ys. members-wide r comps ms n w s' ys)
  members-wide r comps (more_of-Member (Some name) c ms) n v s xs =
      let next = λ (w : Val) (s' : State) (ys : List Val). members ms n w (bind (Some name) w s') ys in
      let wide_next = λ (w : wide_val.Val) (s' : wide_traces.State) (ys : List wide_val.Val).
      wide.members r comps (hidden-the_row-Member-1 (wide_members ms)) n w (wide_statements.bind name.id w s') ys in
      ap (λ t. wide_traces.then_do t wide_next) (tr-wide r comps c s xs)
      ∙ then-wide (tr c s xs) next wide_next
      (λ w s' ys. ap (λ store. wide.members r comps (hidden-the_row-Member-1 (wide_members ms)) n (wide_value w) (record
      (wide_state s') { store = store }) (map wide_value ys))
      (bound-wide name.id w s'.store)
      ∙ members-wide r comps ms n w (bind (Some name) w s') ys)
