-- Members one behind the other.
use Rattle.std.specs.Prelude.{ℕ, ◌+◌, ◌<◌, ◌≤◌, max, List, [], ◌∷◌, ◌++◌, length, drop, Option, Some, None, Result, Ok, Err, IfOk, ◌≡◌, refl}
use Rattle.std.proofs.Common.{ap, sym, ◌∙◌, subst, append_assoc, arith, get_or}
use Rattle.std.proofs.lemmas.List.{drop_all}
use Rattle.zir_compile.proofs.Finding.{at_place}
use Rattle.zir_tree.specs.declared.ident.Ident.{Ident}
use Rattle.zir_tree.specs.declared.types.Ty.{Ty}
use denote.Hole.Carrier.{hidden}
use Rattle.zir_tree.specs.declared.place.Place.{Place}
use Rattle.zir_tree.specs.declared.comp.Comp.{Comp, Block, Row_of-Member, end_of-Member}
use Rattle.zir_tree.specs.declared.comp.Comp.TheBlock.{shape-the_row-Member-1, hidden-the_row-Member-1}
use Rattle.zir_tree.specs.declared.comp.Member.{Member, Bind, Run as RunMember}
use Rattle.zir_code.specs.Scopes.{Scope}
use Rattle.zir_code.specs.Types.{type_or_unit, cells_for}
use Rattle.zir_code.specs.Statements.{with_local}
use Rattle.zir_flow.specs.declared.instruction.Instruction.{Instruction}
use Rattle.zir_flow.specs.Kinds.{Setting, Shape, Flat, Split, first_of, value_in, output_in, members_value, members_output}
use Rattle.zir_flow.specs.Flowing.{flow_code, members_code}
use Rattle.zir_flow.specs.Fitting.{widest, depth_of, shape_of, members_depth, members_shape}
use Rattle.zir_flat.specs.Needs.{flow_peak, members_peak}
use Rattle.zir_stage.specs.Layouts.{shape_by}
use Rattle.zir_flatten.specs.declared.flow.Flow.{Flow}
use Rattle.zir_flatten.specs.declared.members.Row.{Row}
use Rattle.zir_flatten.specs.Making.{Flowed}
use Rattle.zir_flatten.specs.Members.{Whole, whole_of, all_of, FollowsIn, Joins, IsWhole}

-- what three ask for
widest_assoc : (a b c : Shape) → widest (widest a b) c ≡ widest a (widest b c)
widest_assoc Flat b c = refl
widest_assoc (Split a1 a2) Flat c = refl
widest_assoc (Split a1 a2) (Split b1 b2) Flat = refl
widest_assoc (Split a1 a2) (Split b1 b2) (Split c1 c2) =
    ap (λ x. Split x (widest (widest a2 b2) c2)) (widest_assoc a1 b1 c1) ∙ ap (Split (widest a1 (widest b1 c1))) (widest_assoc a2 b2 c2)

first_assoc : {A : Type 0} (a b c : Option A) → first_of (first_of a b) c ≡ first_of a (first_of b c)
first_assoc None b c = refl
first_assoc (Some x) b c = refl

-- the whole by what is made so far
abbrev whole_by : {k : _} → Setting → Ty → ℕ → Row_of-Member k → Scope → List Instruction → ℕ → ℕ → Option Ty → Option Ty → ℕ → ℕ → Shape → Whole
whole_by st input begin rest g code free at value output peak depth shape =
    record {
      code = code ++ members_code st g input begin free at (type_or_unit value) rest;
      value = members_value st g input free value rest;
      output = first_of output (members_output st g input free rest);
      peak = max peak (members_peak st g input free rest);
      depth = max depth (members_depth st rest);
      shape = widest shape (members_shape st rest);
    }

-- a component with a name
pub follows-Bind : (st : Setting) (g behind : Scope) (input : Ty) (x : Ident) (c : Comp) (before made : Row) (flow : Flow) (u : Ty) (free begin : ℕ) → Flowed st g input before.free c flow →
    Joins before flow free (Some u) 0 made → u ≡ type_or_unit flow.value → free ≡ before.free + cells_for g u → behind ≡ with_local g before.free x.id u →
    FollowsIn begin st g input (Bind x c) before behind made
follows-Bind st g behind input x c before made flow u free begin f j e n s k rest =
    let d : ℕ = before.free in
    let w : Ty = type_or_unit (value_in st g input d c) in
    let same : u ≡ w = e ∙ ap type_or_unit f.value in
    let scope : behind ≡ with_local g d x.id w = s ∙ ap (with_local g d x.id) same in
    let code : made.code.items ≡ before.code.items ++ flow_code st g input d c = j.code ∙ ap (λ (xs : List Instruction). before.code.items ++ xs) f.code in
    let end : made.free ≡ d + cells_for g w = j.free_is ∙ n ∙ ap (λ t. d + cells_for g t) same in
    let value : made.value ≡ Some w = j.value_is ∙ ap Some same in
    let output : made.output ≡ first_of before.output (output_in st g input d c) = j.output ∙ ap (first_of before.output) f.output in
    let peak : made.peak ≡ max before.peak (max (flow_peak st g input d c) 0) = j.peak ∙ ap (λ m. max before.peak (max m 0)) f.peak in
    let depth : made.depth ≡ max before.depth (depth_of st c) = j.depth ∙ ap (max before.depth) f.depth in
    let shape : shape_by made.layout ≡ widest (shape_by before.layout) (shape_of st c) = j.shape ∙ ap (widest (shape_by before.layout)) f.shape in
    let step : whole_of st behind input begin made rest
    ≡ whole_by st input begin rest (with_local g d x.id w) (before.code.items ++ flow_code st g input d c) (d + cells_for g w) d (Some w) (first_of before.output (output_in st g input d c))
    (max before.peak (max (flow_peak st g input d c) 0)) (max before.depth (depth_of st c)) (widest (shape_by before.layout) (shape_of st c)) =
    λ i. whole_by st input begin rest (scope i) (code i) (end i) (j.at i) (value i) (output i) (peak i) (depth i) (shape i) in
    let last : max (max before.peak (max (flow_peak st g input d c) 0)) (members_peak st (with_local g d x.id w) input (d + cells_for g w) rest)
    ≡ max before.peak (max (flow_peak st g input d c) (members_peak st (with_local g d x.id w) input (d + cells_for g w) rest)) = omega arith in
    let deep : max (max before.depth (depth_of st c)) (members_depth st rest) ≡ max before.depth (max (depth_of st c) (members_depth st rest)) = omega arith in
    step ∙ (λ i. record {
      code = append_assoc before.code.items (flow_code st g input d c) (members_code st (with_local g d x.id w) input begin (d + cells_for g w) d w rest) i;
      value = members_value st (with_local g d x.id w) input (d + cells_for g w) (Some w) rest;
      output = first_assoc before.output (output_in st g input d c) (members_output st (with_local g d x.id w) input (d + cells_for g w) rest) i;
      peak = last i;
      depth = deep i;
      shape = widest_assoc (shape_by before.layout) (shape_of st c) (members_shape st rest) i;
    })

-- a component alone
pub follows-Run : (st : Setting) (g : Scope) (input : Ty) (c : Comp) (before made : Row) (flow : Flow) (end begin : ℕ) → Flowed st g input before.free c flow →
    Joins before flow before.free flow.value end made → end ≡ before.free + cells_for g (type_or_unit flow.value) → FollowsIn begin st g input (RunMember c) before g made
follows-Run st g input c before made flow end begin f j n k rest =
    let d : ℕ = before.free in
    let v : Option Ty = value_in st g input d c in
    let code : made.code.items ≡ before.code.items ++ flow_code st g input d c = j.code ∙ ap (λ (xs : List Instruction). before.code.items ++ xs) f.code in
    let value : made.value ≡ v = j.value_is ∙ f.value in
    let output : made.output ≡ first_of before.output (output_in st g input d c) = j.output ∙ ap (first_of before.output) f.output in
    let most : end ≡ d + cells_for g (type_or_unit v) = n ∙ ap (λ t. d + cells_for g (type_or_unit t)) f.value in
    let peak : made.peak ≡ max before.peak (max (flow_peak st g input d c) (d + cells_for g (type_or_unit v))) =
    j.peak ∙ (λ i. max before.peak (max (f.peak i) (most i))) in
    let depth : made.depth ≡ max before.depth (depth_of st c) = j.depth ∙ ap (max before.depth) f.depth in
    let shape : shape_by made.layout ≡ widest (shape_by before.layout) (shape_of st c) = j.shape ∙ ap (widest (shape_by before.layout)) f.shape in
    let step : whole_of st g input begin made rest
    ≡ whole_by st input begin rest g (before.code.items ++ flow_code st g input d c) d d v (first_of before.output (output_in st g input d c))
    (max before.peak (max (flow_peak st g input d c) (d + cells_for g (type_or_unit v)))) (max before.depth (depth_of st c)) (widest (shape_by before.layout) (shape_of st c)) =
    λ i. whole_by st input begin rest g (code i) (j.free_is i) (j.at i) (value i) (output i) (peak i) (depth i) (shape i) in
    let last : max (max before.peak (max (flow_peak st g input d c) (d + cells_for g (type_or_unit v)))) (members_peak st g input d rest)
    ≡ max before.peak (max (flow_peak st g input d c) (max (d + cells_for g (type_or_unit v)) (members_peak st g input d rest))) = omega arith in
    let deep : max (max before.depth (depth_of st c)) (members_depth st rest) ≡ max before.depth (max (depth_of st c) (members_depth st rest)) = omega arith in
    step ∙ (λ i. record {
      code = append_assoc before.code.items (flow_code st g input d c) (members_code st g input begin d d (type_or_unit v) rest) i;
      value = members_value st g input d v rest;
      output = first_assoc before.output (output_in st g input d c) (members_output st g input d rest) i;
      peak = last i;
      depth = deep i;
      shape = widest_assoc (shape_by before.layout) (shape_of st c) (members_shape st rest) i;
    })

-- members as a row, of which one more is made
pub row_next : (st : Setting) (behind g : Scope) (input : Ty) (begin : ℕ) (m : Member) (ms : List Member) (before made : Row) → FollowsIn begin st g input m before behind made →
    whole_of st behind input begin made (hidden-the_row-Member-1 ms) ≡ whole_of st g input begin before (hidden-the_row-Member-1 (m ∷ ms))
unfolding shape-the_row-Member-1 hidden-the_row-Member-1 hidden
row_next st behind g input begin m ms before made f = f _ (hidden-the_row-Member-1 ms)

pub row_end : (st : Setting) (g : Scope) (input : Ty) (begin : ℕ) (made : Row) → whole_of st g input begin made end_of-Member ≡ whole_of st g input begin made (hidden-the_row-Member-1 [])
unfolding shape-the_row-Member-1 hidden-the_row-Member-1 hidden
row_end st g input begin made = refl

-- a block
pub block_whole : (st : Setting) (g : Scope) (input : Ty) (d : ℕ) (ms : List Member) (p : Place) (made : Flow) → IsWhole (all_of st g input d (hidden-the_row-Member-1 ms)) made → Flowed st g input d (Block ms p) made
unfolding shape-the_row-Member-1 hidden-the_row-Member-1 hidden
block_whole st g input d ms p made w = record {
  code = w.code;
  value = w.value;
  output = w.output;
  peak = w.peak;
  depth = w.depth;
  shape = w.shape;
}

-- what is so in each case where there is something
pub if_ok_as : {A E : Type 0} (P Q : A → Type 0) (r : Result A E) → ((x : A) → P x → Q x) → IfOk r P → IfOk r Q
if_ok_as P Q (Ok x) f h = f x h
if_ok_as P Q (Err e) f h = tt

-- one member more of the list
pub row_on : (st : Setting) (behind g : Scope) (input : Ty) (begin : ℕ) (ms : List Member) (i : ℕ) (m : Member) (before made : Row) (whole : Whole) → i < length ms → m ≡ get_or ms i m →
    FollowsIn begin st g input m before behind made → whole_of st g input begin before (hidden-the_row-Member-1 (drop i ms)) ≡ whole →
    whole_of st behind input begin made (hidden-the_row-Member-1 (drop (i + 1) ms)) ≡ whole
row_on st behind g input begin ms i m before made whole lt is f h =
    row_next st behind g input begin m (drop (i + 1) ms) before made f ∙ ap (λ xs. whole_of st g input begin before (hidden-the_row-Member-1 xs)) (sym (at_place ms i m lt is)) ∙ h

-- all members of the list
pub row_done : (st : Setting) (g g0 : Scope) (input : Ty) (d : ℕ) (ms : List Member) (i : ℕ) (row : Row) (p : Place) (made : Flow) → length ms ≤ i →
    whole_of st g input d row (hidden-the_row-Member-1 (drop i ms)) ≡ all_of st g0 input d (hidden-the_row-Member-1 ms) → IsWhole (whole_of st g input d row end_of-Member) made →
    Flowed st g0 input d (Block ms p) made
row_done st g g0 input d ms i row p made le h w =
    block_whole st g0 input d ms p made
    (subst (λ x. IsWhole x made) (row_end st g input d row ∙ ap (λ xs. whole_of st g input d row (hidden-the_row-Member-1 xs)) (sym (drop_all i ms le)) ∙ h) w)
