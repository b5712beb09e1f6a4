-- What the definitions say of loops, choices and compositions around the code of what is inside.
use Rattle.std.specs.Prelude.{ℕ, ◌+◌, max, List, [], ◌∷◌, ◌++◌, false, Some, None, ◌≡◌, length}
use Rattle.std.proofs.Common.{ap, ◌∙◌, subst, arith}
use denote.Hole.Carrier.{hidden}
use Rattle.zir_tree.specs.declared.ident.Ident.{Ident}
use Rattle.zir_tree.specs.declared.place.Place.{Place}
use Rattle.zir_tree.specs.declared.types.Base.TheVariants.{Unit as UnitTy}
use Rattle.zir_tree.specs.declared.types.Ty.{Ty}
use Rattle.zir_tree.specs.declared.expr.Expr.{Expr}
use Rattle.zir_tree.specs.declared.comp.Turning.{Turning}
use Rattle.zir_tree.specs.declared.comp.Link.{Link}
use Rattle.zir_tree.specs.declared.comp.Comp.{Comp, Repeat, While, Times, For, If, Pipe}
use Rattle.zir_tree.specs.declared.comp.Comp.TheBlock.{shape-the_row-Comp-0, hidden-the_row-Comp-0}
use Rattle.zir_expr.specs.declared.steps.Step.{Step}
use Rattle.zir_shapes.specs.Offsets.{plain_type as plain}
use Rattle.zir_code.specs.Scopes.{Scope}
use Rattle.zir_code.specs.Types.{type_or_unit, cells_for}
use Rattle.zir_code.specs.Coding.{stands, code_of, settling}
use Rattle.zir_code.specs.Peaks.{peak_of}
use Rattle.zir_code.specs.Statements.{with_index}
use Rattle.zir_compile.specs.declared.made.Placed.{Placed}
use Rattle.zir_compile.specs.Coded.{Coded}
use Rattle.zir_meaning.specs.Assigned.{assigns}
use Rattle.zir_flow.specs.declared.instruction.Back.{Back}
use Rattle.zir_flow.specs.declared.instruction.Instruction.{Instruction}
use Rattle.zir_flow.specs.declared.instruction.Instruction.TheVariants.{Run, Tick, Ahead, Again, Branch, Turn}
use Rattle.zir_flow.specs.Kinds.{Setting, Shape, Split, first_of, type_between, value_in, output_in}
use Rattle.zir_flow.specs.Flowing.{flow_code, ends_where_set, index_code, pipe_code, back_of}
use Rattle.zir_flow.specs.Fitting.{widest, depth_of, shape_of}
use Rattle.zir_flat.specs.Needs.{flow_peak}
use Rattle.zir_stage.specs.Layouts.{shape_by}
use Rattle.zir_flatten.specs.declared.flow.Flow.{Flow}
use Rattle.zir_flatten.specs.declared.loops.Range.{Range}
use Rattle.zir_flatten.specs.Counted.{Numbered, Ranged}
use Rattle.zir_flatten.specs.Making.{Flowed}

-- a loop with no end
pub flowed-Repeat : (st : Setting) (g : Scope) (input : Ty) (d : ℕ) (c : Comp) (p : Place) (body made : Flow) → Flowed st g input d c body →
    made.code.items ≡ Tick ∷ (body.code.items ++ Again (length body.code.items + 1) ∷ []) → made.value ≡ None → made.output ≡ body.output → made.peak ≡ body.peak →
    made.depth ≡ body.depth → shape_by made.layout ≡ shape_by body.layout → Flowed st g input d (Repeat c p) made
unfolding shape-the_row-Comp-0 hidden-the_row-Comp-0 hidden
flowed-Repeat st g input d c p body made f code value output peak depth shape = record {
  code = code ∙ ap (λ (xs : List Instruction). Tick ∷ (xs ++ Again (length xs + 1) ∷ [])) f.code;
  value = value;
  output = output ∙ f.output;
  peak = peak ∙ f.peak;
  depth = depth ∙ f.depth;
  shape = shape ∙ f.shape;
}

-- a loop with a test
pub flowed-While : (st : Setting) (g : Scope) (input : Ty) (d : ℕ) (turning : Turning) (e : Expr) (c : Comp) (p : Place) (steps : List Step) (test : Placed) (body made : Flow) →
    Coded g e d [] steps test → Flowed st g input d c body →
    made.code.items ≡ Run steps ∷ Branch test.at (ends_where_set turning) (length body.code.items + 2) ∷ Tick ∷ (body.code.items ++ Again (length body.code.items + 3) ∷ []) →
    made.value ≡ Some (plain UnitTy) → made.output ≡ body.output → made.peak ≡ max test.peak body.peak → made.depth ≡ body.depth → shape_by made.layout ≡ shape_by body.layout →
    Flowed st g input d (While turning e c p) made
unfolding shape-the_row-Comp-0 hidden-the_row-Comp-0 hidden
flowed-While st g input d turning e c p steps test body made t f code value output peak depth shape = record {
  code =
      code ∙ ap (λ (ss : List Step). Run ss ∷ Branch test.at (ends_where_set turning) (length body.code.items + 2) ∷ Tick ∷ (body.code.items ++ Again (length body.code.items + 3) ∷ [])) t.code
      ∙ ap (λ x. Run (code_of g e d) ∷ Branch x (ends_where_set turning) (length body.code.items + 2) ∷ Tick ∷ (body.code.items ++ Again (length body.code.items + 3) ∷ [])) t.at
      ∙ ap (λ (xs : List Instruction). Run (code_of g e d) ∷ Branch (stands g e d) (ends_where_set turning) (length xs + 2) ∷ Tick ∷ (xs ++ Again (length xs + 3) ∷ [])) f.code;
  value = value;
  output = output ∙ f.output;
  peak = peak ∙ ap (λ n. max n body.peak) t.peak ∙ ap (max (peak_of g e d)) f.peak;
  depth = depth ∙ f.depth;
  shape = shape ∙ f.shape;
}

-- a loop of so many turns
pub flowed-Times : (st : Setting) (g : Scope) (input : Ty) (d : ℕ) (e : Expr) (c : Comp) (p : Place) (steps : List Step) (most : ℕ) (body made : Flow) → Numbered g e d [] steps most →
    Flowed st g input (d + 1) c body →
    made.code.items ≡ Run steps ∷ Turn d (length body.code.items + 2) ∷ Tick ∷ (body.code.items ++ Again (length body.code.items + 2) ∷ []) → made.value ≡ Some (plain UnitTy) →
    made.output ≡ body.output → made.peak ≡ max most body.peak → made.depth ≡ body.depth → shape_by made.layout ≡ shape_by body.layout → Flowed st g input d (Times e c p) made
unfolding shape-the_row-Comp-0 hidden-the_row-Comp-0 hidden
flowed-Times st g input d e c p steps most body made t f code value output peak depth shape =
    let e1 = t.end in
    let e2 = f.peak in
    let q : made.peak ≡ max (peak_of g e d) (max (d + 1) (flow_peak st g input (d + 1) c)) = omega arith in
    record {
      code =
          code ∙ ap (λ (ss : List Step). Run ss ∷ Turn d (length body.code.items + 2) ∷ Tick ∷ (body.code.items ++ Again (length body.code.items + 2) ∷ [])) t.code
          ∙ ap (λ (xs : List Instruction). Run (code_of g e d ++ settling (stands g e d) d 1) ∷ Turn d (length xs + 2) ∷ Tick ∷ (xs ++ Again (length xs + 2) ∷ [])) f.code;
      value = value;
      output = output ∙ f.output;
      peak = q;
      depth = depth ∙ f.depth;
      shape = shape ∙ f.shape;
    }

-- a loop with an index
pub flowed-For : (st : Setting) (g : Scope) (input : Ty) (d : ℕ) (x : Ident) (a n : Expr) (c : Comp) (p : Place) (range : Range) (body made : Flow) → Ranged g a n d range →
    Flowed st (with_index g (d + 2) x.id) input (d + 3) c body →
    made.code.items ≡ Run range.steps.items ∷ Turn (d + 1) (length body.code.items + 3) ∷ Tick ∷ Run (index_code d p) ∷ (body.code.items ++ Again (length body.code.items + 3) ∷ []) →
    made.value ≡ Some (plain UnitTy) → made.output ≡ body.output → made.peak ≡ max range.peak body.peak → made.depth ≡ body.depth → shape_by made.layout ≡ shape_by body.layout →
    Flowed st g input d (For x a n c p) made
unfolding shape-the_row-Comp-0 hidden-the_row-Comp-0 hidden
flowed-For st g input d x a n c p range body made r f code value output peak depth shape =
    let e1 = r.peak in
    let e2 = f.peak in
    let q : made.peak ≡ max (peak_of g a d) (max (peak_of g n (d + 1)) (max (d + 4) (flow_peak st (with_index g (d + 2) x.id) input (d + 3) c))) = omega arith in
    record {
      code =
          code
          ∙ ap (λ (ss : List Step). Run ss ∷ Turn (d + 1) (length body.code.items + 3) ∷ Tick ∷ Run (index_code d p) ∷ (body.code.items ++ Again (length body.code.items + 3) ∷ [])) r.code
          ∙ ap (λ (xs : List Instruction). Run (code_of g a d ++ (settling (stands g a d) d 1 ++ (code_of g n (d + 1) ++ settling (stands g n (d + 1)) (d + 1) 1))) ∷ Turn (d + 1) (length xs + 3) ∷ Tick ∷ Run (index_code d p) ∷ (xs ++ Again (length xs + 3) ∷ [])) f.code;
      value = value;
      output = output ∙ f.output;
      peak = q;
      depth = depth ∙ f.depth;
      shape = shape ∙ f.shape;
    }

-- a choice
pub flowed-If : (st : Setting) (g : Scope) (input : Ty) (d : ℕ) (e : Expr) (a b : Comp) (p : Place) (steps : List Step) (test : Placed) (first second made : Flow) →
    Coded g e d [] steps test → Flowed st g input d a first → Flowed st g input d b second →
    made.code.items
    ≡ Run steps ∷ Branch test.at false (length first.code.items + 1) ∷ (first.code.items ++ (Ahead (length second.code.items) ∷ second.code.items)) →
    made.value ≡ first.value → made.output ≡ first_of first.output second.output → made.peak ≡ max test.peak (max first.peak second.peak) → made.depth ≡ max first.depth second.depth →
    shape_by made.layout ≡ widest (shape_by first.layout) (shape_by second.layout) → Flowed st g input d (If e a b p) made
unfolding shape-the_row-Comp-0 hidden-the_row-Comp-0 hidden
flowed-If st g input d e a b p steps test first second made t f s code value output peak depth shape =
    let e1 = t.peak in
    let e2 = f.peak in
    let e3 = s.peak in
    let q : made.peak ≡ max (peak_of g e d) (max (flow_peak st g input d a) (flow_peak st g input d b)) = omega arith in
    record {
      code =
          code
          ∙ ap (λ (ss : List Step). Run ss ∷ Branch test.at false (length first.code.items + 1) ∷ (first.code.items ++ (Ahead (length second.code.items) ∷ second.code.items))) t.code
          ∙ ap (λ y. Run (code_of g e d) ∷ Branch y false (length first.code.items + 1) ∷ (first.code.items ++ (Ahead (length second.code.items) ∷ second.code.items))) t.at
          ∙ ap (λ (xs : List Instruction). Run (code_of g e d) ∷ Branch (stands g e d) false (length xs + 1) ∷ (xs ++ (Ahead (length second.code.items) ∷ second.code.items))) f.code
          ∙ ap (λ (ys : List Instruction). Run (code_of g e d) ∷ Branch (stands g e d) false (length (flow_code st g input d a) + 1) ∷ (flow_code st g input d a ++ (Ahead (length ys) ∷ ys))) s.code;
      value = value ∙ f.value;
      output = output ∙ ap (λ o. first_of o second.output) f.output ∙ ap (first_of (output_in st g input d a)) s.output;
      peak = q;
      depth = depth ∙ ap (λ n. max n second.depth) f.depth ∙ ap (max (depth_of st a)) s.depth;
      shape = shape ∙ ap (λ x. widest x (shape_by second.layout)) f.shape ∙ ap (widest (shape_of st a)) s.shape;
    }

-- a composition
pub flowed-Pipe : (st : Setting) (g : Scope) (input : Ty) (d : ℕ) (link : Link) (a b : Comp) (p : Place) (back : List Back) (value other : ℕ) (left right made : Flow) →
    back ≡ back_of (assigns st.assigned a) g → Flowed st g input d a left → Flowed st g (type_between left.output) d b right → value ≡ cells_for g (type_or_unit left.value) →
    other ≡ cells_for g (type_or_unit right.value) → made.code.items ≡ pipe_code d value back left.code.items right.code.items → made.value ≡ first_of left.value right.value →
    made.output ≡ right.output → made.peak ≡ max (d + max value other) (max left.peak right.peak) → made.depth ≡ max left.depth right.depth →
    shape_by made.layout ≡ Split (shape_by left.layout) (shape_by right.layout) → Flowed st g input d (Pipe link a b p) made
unfolding shape-the_row-Comp-0 hidden-the_row-Comp-0 hidden
flowed-Pipe st g input d link a b p back value other left right made bk f s0 v0 o0 code val output peak depth shape =
    let between : Ty = type_between (output_in st g input d a) in
    let s : Flowed st g between d b right = subst (λ o. Flowed st g (type_between o) d b right) f.output s0 in
    let v : value ≡ cells_for g (type_or_unit (value_in st g input d a)) = v0 ∙ ap (λ t. cells_for g (type_or_unit t)) f.value in
    let o : other ≡ cells_for g (type_or_unit (value_in st g between d b)) = o0 ∙ ap (λ t. cells_for g (type_or_unit t)) s.value in
    let e2 = f.peak in
    let e3 = s.peak in
    let q : made.peak
    ≡ max (d + max (cells_for g (type_or_unit (value_in st g input d a))) (cells_for g (type_or_unit (value_in st g between d b))))
    (max (flow_peak st g input d a) (flow_peak st g between d b)) = omega arith in
    record {
      code =
          code ∙ ap (λ n. pipe_code d n back left.code.items right.code.items) v
          ∙ ap (λ k. pipe_code d (cells_for g (type_or_unit (value_in st g input d a))) k left.code.items right.code.items) bk
          ∙ ap (λ xs. pipe_code d (cells_for g (type_or_unit (value_in st g input d a))) (back_of (assigns st.assigned a) g) xs right.code.items) f.code
          ∙ ap (λ ys. pipe_code d (cells_for g (type_or_unit (value_in st g input d a))) (back_of (assigns st.assigned a) g) (flow_code st g input d a) ys) s.code;
      value = val ∙ ap (λ x. first_of x right.value) f.value ∙ ap (first_of (value_in st g input d a)) s.value;
      output = output ∙ s.output;
      peak = q;
      depth = depth ∙ ap (λ n. max n right.depth) f.depth ∙ ap (max (depth_of st a)) s.depth;
      shape = shape ∙ ap (λ x. Split x (shape_by right.layout)) f.shape ∙ ap (Split (shape_of st a)) s.shape;
    }
