use Rattle.std.proofs.Common.{◌≡◌, ◌∙◌, ap, refl, arith, rules, to_z, of_z}
use Rattle.std.proofs.lemmas.Int.{ints}
use mir.Syntax.{w64, w128}
use Rattle.zir_meaning.specs.Values.{wrap}
use Rattle.zir_cells.specs.Layout.{capped}
use Rattle.zir_code.specs.Types.{cells_for}
use Rattle.zir_compile.specs.Names.{scope_of}
use Rattle.zir_compile.proofs.Expressed.{ok-Int, err-Unary, ok-Unary, err-Convert, ok-Convert, fits-Binary, sides_back, ok-Binary, err-Complex, next-Complex, end-Complex, right-Complex, ok-Complex}
use Rattle.zir_compile.proofs.Leading.{path_err-Index, path_err-Slice, path_err-Part, path_ok-Index, path_ok-Slice, path_ok-Part}
use Rattle.zir_compile.proofs.Listed.{onward_init, onward_on, onward_end, here_fits, here_free}
use Rattle.zir_compile.proofs.Making.{makes_err}
use Rattle.zir_compile.proofs.Parts.{err-Index, err-Slice, ok-Index, ok-Slice, beyond-Part, err-Part, far-Part, ok-Part, ok-Fixed, err-Call, ok-Call, err-Array, ok-Array}
use Rattle.zir_compile.proofs.scope.Names.+coding.Goals as goal

pub path-returns-in_err-base-in-Index : goal.path-returns-in_err-base-in-Index
path-returns-in_err-base-in-Index t c =
    let h = rw c.get-in-Index.ensures at c.in_err-base-in-Index.ensures in
    rw c.in-Index.is (path_err-Index c.args.still _ (scope_of c.args.self.now) c.in-Index.a c.in-Index.i c.in-Index.at c.args.d _ _ _ c.from_residual.ensures.1 (rw c.get.ensures at c.stays.ensures) h)

pub path-returns-in_err-base-in-Part : goal.path-returns-in_err-base-in-Part
path-returns-in_err-base-in-Part t c =
    let h = rw c.get-in-Part.ensures at c.in_err-base-in-Part.ensures in
    rw c.in-Part.is (path_err-Part c.args.still (scope_of c.args.self.now) c.in-Part.a c.in-Part.field-1 c.in-Part.k c.in-Part.field-3 c.args.d _ _ _ c.from_residual-in_err-base-in-Part.ensures.1 h)

pub path-returns-in_err-base-in-Slice : goal.path-returns-in_err-base-in-Slice
path-returns-in_err-base-in-Slice t c =
    let h = rw c.get-in-Slice-2.ensures at c.in_err-base-in-Slice.ensures in
    rw c.in-Slice.is (path_err-Slice c.args.still _ (scope_of c.args.self.now) c.in-Slice.a c.in-Slice.i c.in-Slice.k c.in-Slice.at c.args.d _ _ _ c.from_residual-in_err-base-in-Slice.ensures.1 (rw c.get-in-Slice.ensures at c.stays-in-Slice.ensures) h)

pub path-returns-in_ok-base-in-Index : goal.path-returns-in_ok-base-in-Index
path-returns-in_ok-base-in-Index t c =
    let h = rw c.get-in-Index.ensures at c.in_ok-base-in-Index.ensures in
    let l = rw c.get-in-Index-2.ensures at c.located.ensures in
    rw c.in-Index.is (path_ok-Index c.args.still _ (scope_of c.args.self.now) c.in-Index.a c.in-Index.i c.in-Index.at c.args.d c.args.steps.now.items c.path.new.steps.items c.located.new.steps.items c.in_ok-base-in-Index.base
    c.located.result (rw c.get.ensures at c.stays.ensures) h l)

pub path-returns-in_ok-base-in-Part : goal.path-returns-in_ok-base-in-Part
path-returns-in_ok-base-in-Part t c =
    let h = rw c.get-in-Part.ensures at c.in_ok-base-in-Part.ensures in
    rw c.in-Part.is (path_ok-Part c.args.still (scope_of c.args.self.now) c.in-Part.a c.in-Part.field-1 c.in-Part.k c.in-Part.field-3 c.args.d c.args.steps.now.items c.path-in-Part.new.steps.items c.in_ok-base-in-Part.base
    c.parted.result h c.parted.ensures)

pub path-returns-in_ok-base-in-Slice : goal.path-returns-in_ok-base-in-Slice
path-returns-in_ok-base-in-Slice t c =
    let h = rw c.get-in-Slice-2.ensures at c.in_ok-base-in-Slice.ensures in
    let l = rw c.get-in-Slice-3.ensures at c.located-in-Slice.ensures in
    rw c.in-Slice.is (path_ok-Slice c.args.still _ (scope_of c.args.self.now) c.in-Slice.a c.in-Slice.i c.in-Slice.k c.in-Slice.at c.args.d c.args.steps.now.items c.path-in-Slice.new.steps.items
    c.located-in-Slice.new.steps.items c.in_ok-base-in-Slice.base c.located-in-Slice.result (rw c.get-in-Slice.ensures at c.stays-in-Slice.ensures) h l)

pub arguments-loop-e-init : goal.arguments-loop-e-init
arguments-loop-e-init t c = onward_init (scope_of c.args.self.now) c.args.es.now c.args.d c.args.steps.now.items (omega arith)

pub arguments-loop-e-preserved : goal.arguments-loop-e-preserved
arguments-loop-e-preserved t c =
    onward_on (scope_of c.args.self.now) c.args.es.now c.args.d c.args.steps.now.items c.loop-e.e-index c.e-item.result c.loop-e.at c.loop-e.peak c.loop-e.known c.first_of-known.result c.loop-e.steps.items
    c.expression.new.steps.items c.settling.new.steps.items c.in_ok-x.x c.in_ok-free.free c.max-peak.result _ c.loop-e-test.true c.e-item.is c.loop-e.invariant c.in_ok-x.ensures.0 c.in_ok-x.ensures.1
    c.in_ok-free.ensures.0 c.in_ok-free.ensures.1 refl c.in_ok-settling.ensures (c.first_of-known.ensures (scope_of c.args.self.now) c.e-item.result _ c.in_ok-x.ensures.1.ty) c.max-peak.ensures

pub arguments-returns : goal.arguments-returns
arguments-returns t c =
    onward_end (scope_of c.args.self.now) c.args.es.now c.args.d c.args.steps.now.items c.loop-e.e-index c.loop-e.at c.loop-e.peak c.max.result c.loop-e.known c.loop-e.steps.items c.known_or_unit.result c.loop-e-test.false
    (omega arith) c.loop-e.invariant (c.known_or_unit.ensures (scope_of c.args.self.now)) c.max.ensures

pub arguments-returns-in_err-free : goal.arguments-returns-in_err-free
arguments-returns-in_err-free t c =
    makes_err _ _ _ _ _ c.from_residual-in_err-free.ensures.1 c.in_err-free.ensures
    (here_free (scope_of c.args.self.now) c.args.es.now c.args.d c.args.steps.now.items c.loop-e.e-index c.e-item.result c.loop-e.at c.loop-e.peak c.loop-e.known c.loop-e.steps.items c.in_ok-x.x.cells c.loop-e-test.true c.e-item.is
    c.loop-e.invariant c.in_ok-x.ensures.1.cells)

pub arguments-returns-in_err-x : goal.arguments-returns-in_err-x
arguments-returns-in_err-x t c =
    makes_err _ _ _ _ _ c.from_residual.ensures.1 c.in_err-x.ensures
    (λ whole. (here_fits (scope_of c.args.self.now) c.args.es.now c.args.d c.args.steps.now.items c.loop-e.e-index c.e-item.result c.loop-e.at c.loop-e.peak c.loop-e.known c.loop-e.steps.items c.loop-e-test.true c.e-item.is
    c.loop-e.invariant whole).0)

pub unary-returns : goal.unary-returns
unary-returns t c =
    let code = rw c.prefixed.ensures at c.in_ok-push.ensures.items in
    λ at. ok-Unary (scope_of c.args.self.now) c.args.prefix c.args.t c.args.a.now at c.args.d c.args.steps.now.items c.expression.new.steps.items c.push.new.self.items c.in_ok-x.x c.answer.result c.in_ok-x.ensures.0 c.in_ok-x.ensures.1 code c.answer.ensures

pub unary-returns-in_err-x : goal.unary-returns-in_err-x
unary-returns-in_err-x t c = λ at. err-Unary (scope_of c.args.self.now) c.args.prefix c.args.t c.args.a.now at c.args.d _ _ _ c.from_residual.ensures.1 c.in_err-x.ensures

pub convert-returns : goal.convert-returns
convert-returns t c =
    let code = rw c.converted.ensures at c.in_ok-push.ensures.items in
    λ at. ok-Convert (scope_of c.args.self.now) c.args.t c.args.a.now at c.args.d c.args.steps.now.items c.expression.new.steps.items c.push.new.self.items c.in_ok-x.x c.answer.result c.in_ok-x.ensures.0 c.in_ok-x.ensures.1 code c.answer.ensures

pub convert-returns-in_err-x : goal.convert-returns-in_err-x
convert-returns-in_err-x t c = λ at. err-Convert (scope_of c.args.self.now) c.args.t c.args.a.now at c.args.d _ _ _ c.from_residual.ensures.1 c.in_err-x.ensures

pub binary-returns : goal.binary-returns
binary-returns t c =
    λ a before f left. ok-Binary (scope_of c.args.self.now) c.args.operator.0 c.args.operator.1 a c.args.b.now c.args.operator.2 c.args.d c.in_ok-free.free c.in_ok-end.end c.in_ok-right.right c.max-2.result before
    c.args.steps.now.items c.right.new.steps.items c.args.left c.operator_answer.result f left c.in_ok-free.ensures.0 c.in_ok-free.ensures.1 c.in_ok-end.ensures.0 c.in_ok-end.ensures.1 c.in_ok-right.ensures.0
    c.in_ok-right.ensures.1.0 c.in_ok-right.ensures.1.1 (omega arith) c.operator_answer.ensures

pub binary-returns-in_err-end : goal.binary-returns-in_err-end
binary-returns-in_err-end t c =
    λ a before f left. makes_err _ _ _ _ _ c.from_residual-in_err-end.ensures.1 c.in_err-end.ensures
    (λ whole. let k = (fits-Binary (scope_of c.args.self.now) c.args.operator.0 c.args.operator.1 a c.args.b.now c.args.operator.2 c.args.d whole).1 in let n = left.cells in omega arith)

pub binary-returns-in_err-free : goal.binary-returns-in_err-free
binary-returns-in_err-free t c =
    λ a before f left. makes_err _ _ _ _ _ c.from_residual.ensures.1 c.in_err-free.ensures
    (λ whole. let k = (fits-Binary (scope_of c.args.self.now) c.args.operator.0 c.args.operator.1 a c.args.b.now c.args.operator.2 c.args.d whole).1 in let n = left.cells in omega arith)

pub binary-returns-in_err-right : goal.binary-returns-in_err-right
binary-returns-in_err-right t c =
    λ a before f left. makes_err _ _ _ _ _ c.from_residual-in_err-right.ensures.1 c.in_err-right.ensures
    (λ whole. sides_back (scope_of c.args.self.now) a c.args.b.now c.args.d c.in_ok-free.free c.args.left.cells c.args.left.at left.cells c.in_ok-free.ensures.0 c.in_ok-free.ensures.1 left.at
    (fits-Binary (scope_of c.args.self.now) c.args.operator.0 c.args.operator.1 a c.args.b.now c.args.operator.2 c.args.d whole).2)

pub imaginary-returns : goal.imaginary-returns
imaginary-returns t c =
    λ a at before f real. ok-Complex (scope_of c.args.self.now) c.args.t a c.args.b.now at c.args.d c.in_ok-next.next c.in_ok-end.end before c.args.steps.now.items c.settling.new.steps.items c.expression.new.steps.items
    c.settling-2.new.steps.items c.args.real c.in_ok-imaginary.imaginary _ c.in_ok-next.ensures.1 c.in_ok-end.ensures.0 c.in_ok-end.ensures.1 f real c.in_ok-settling.ensures c.in_ok-imaginary.ensures.0
    c.in_ok-imaginary.ensures.1 c.in_ok-settling-2.ensures refl c.plain-ty.ensures
    (c.cells_at-cells.ensures ∙ ap (λ ty. capped (cells_for (scope_of c.args.self.now) ty)) c.plain-ty.ensures) (omega arith)

pub imaginary-returns-in_err-end : goal.imaginary-returns-in_err-end
imaginary-returns-in_err-end t c = λ a at before f real. end-Complex (scope_of c.args.self.now) c.args.t a c.args.b.now at c.args.d _ _ _ c.from_residual-in_err-end.ensures.1 c.in_err-end.ensures

pub imaginary-returns-in_err-imaginary : goal.imaginary-returns-in_err-imaginary
imaginary-returns-in_err-imaginary t c =
    λ a at before f real. right-Complex (scope_of c.args.self.now) c.args.t a c.args.b.now at c.args.d c.in_ok-next.next _ _ _ c.from_residual-in_err-imaginary.ensures.1 c.in_ok-next.ensures.1 c.in_err-imaginary.ensures

pub imaginary-returns-in_err-next : goal.imaginary-returns-in_err-next
imaginary-returns-in_err-next t c = λ a at before f real. next-Complex (scope_of c.args.self.now) c.args.t a c.args.b.now at c.args.d _ _ _ c.from_residual.ensures.1 c.in_err-next.ensures

pub part-returns-in-Some : goal.part-returns-in-Some
part-returns-in-Some t c =
    λ name at. ok-Fixed (scope_of c.args.self.now) c.args.a.now name c.args.k at c.args.d c.args.steps.now.items c.read.new.steps.items c.in-Some.value c.read.result (rw c.in-Some.is at c.in_ok-value.ensures name at) c.read.ensures

pub part-returns-in_err-base-in-None : goal.part-returns-in_err-base-in-None
part-returns-in_err-base-in-None t c =
    λ name at. err-Part (scope_of c.args.self.now) c.args.a.now name c.args.k at c.args.d _ _ _ c.from_residual-in_err-base-in-None.ensures.1 (rw c.in-None.is at c.in_ok-value.ensures name at) c.in_err-base-in-None.ensures

pub part-returns-in_err-part-in-None : goal.part-returns-in_err-part-in-None
part-returns-in_err-part-in-None t c =
    λ name at. far-Part (scope_of c.args.self.now) c.args.a.now name c.args.k at c.args.d c.args.steps.now.items c.base.new.steps.items c.in_ok-base-in-None.base _ _ _ c.from_residual-in_err-part-in-None.ensures.1
    (rw c.in-None.is at c.in_ok-value.ensures name at) c.in_ok-base-in-None.ensures.1 c.in_err-part-in-None.ensures

pub part-returns-in_err-value : goal.part-returns-in_err-value
part-returns-in_err-value t c =
    λ name at. beyond-Part (scope_of c.args.self.now) c.args.a.now name c.args.k at c.args.d _ _ _ c.from_residual.ensures.1 (c.in_err-value.ensures name at)

pub part-returns-in_ok-part-in-None : goal.part-returns-in_ok-part-in-None
part-returns-in_ok-part-in-None t c =
    λ name at. ok-Part (scope_of c.args.self.now) c.args.a.now name c.args.k at c.args.d c.args.steps.now.items c.base.new.steps.items c.loaded.new.steps.items c.in_ok-base-in-None.base c.in_ok-part-in-None.part c.loaded.result
    (rw c.in-None.is at c.in_ok-value.ensures name at) c.in_ok-base-in-None.ensures.0 c.in_ok-base-in-None.ensures.1 c.in_ok-part-in-None.ensures.0 c.in_ok-part-in-None.ensures.1 c.loaded.ensures

pub expression-returns-in-Convert : goal.expression-returns-in-Convert
expression-returns-in-Convert t c = rw c.in-Convert.is (rw c.get-in-Convert.ensures at c.convert.ensures c.in-Convert.field-2)

pub expression-returns-in-Int : goal.expression-returns-in-Int
expression-returns-in-Int t c =
    let a : to_z w64 (of_z w64 c.literal.result) ≡ c.literal.result = omega (arith, ints) in
    let b : to_z w128 (of_z w128 c.in-Int.n) ≡ c.in-Int.n = search rules in
    rw c.in-Int.is (ok-Int (scope_of c.args.self.now) c.in-Int.n c.in-Int.t c.in-Int.field-2 c.args.d _ c.args.steps.now.items c.whole_number.new.steps.items c.whole_number.result (λ h. a ∙ c.literal.ensures h ∙ ap (wrap c.in-Int.t) b) c.whole_number.ensures)

pub expression-returns-in-Part : goal.expression-returns-in-Part
expression-returns-in-Part t c = rw c.in-Part.is (rw c.get-in-Part.ensures at c.part.ensures c.in-Part.field-1 c.in-Part.field-3)

pub expression-returns-in-Unary : goal.expression-returns-in-Unary
expression-returns-in-Unary t c = rw c.in-Unary.is (rw c.get.ensures at c.unary.ensures c.in-Unary.field-3)

pub expression-returns-in_err-base-in-Index : goal.expression-returns-in_err-base-in-Index
expression-returns-in_err-base-in-Index t c =
    let h = rw c.get-in-Index-2.ensures at c.in_err-base-in-Index.ensures in
    rw c.in-Index.is (err-Index (scope_of c.args.self.now) c.in-Index.a c.in-Index.i c.in-Index.at c.args.d _ _ _ _ c.from_residual-in_err-base-in-Index.ensures.1 (rw c.get-in-Index.ensures at c.is_calm.ensures) h)

pub expression-returns-in_err-base-in-Slice : goal.expression-returns-in_err-base-in-Slice
expression-returns-in_err-base-in-Slice t c =
    let h = rw c.get-in-Slice-2.ensures at c.in_err-base-in-Slice.ensures in
    rw c.in-Slice.is (err-Slice (scope_of c.args.self.now) c.in-Slice.a c.in-Slice.i c.in-Slice.k c.in-Slice.at c.args.d _ _ _ _ c.from_residual-in_err-base-in-Slice.ensures.1 (rw c.get-in-Slice.ensures at c.is_calm-in-Slice.ensures) h)

pub expression-returns-in_err-left-in-Binary : goal.expression-returns-in_err-left-in-Binary
expression-returns-in_err-left-in-Binary t c =
    let h = rw c.get-in-Binary.ensures at c.in_err-left-in-Binary.ensures in
    rw c.in-Binary.is (makes_err _ _ _ _ _ c.from_residual.ensures.1 h (λ whole. (fits-Binary (scope_of c.args.self.now) c.in-Binary.o c.in-Binary.t c.in-Binary.a c.in-Binary.b c.in-Binary.at c.args.d whole).0))

pub expression-returns-in_err-real-in-Complex : goal.expression-returns-in_err-real-in-Complex
expression-returns-in_err-real-in-Complex t c =
    let h = rw c.get-in-Complex.ensures at c.in_err-real-in-Complex.ensures in
    rw c.in-Complex.is (err-Complex (scope_of c.args.self.now) c.in-Complex.t c.in-Complex.a c.in-Complex.b c.in-Complex.field-3 c.args.d _ _ _ c.from_residual-in_err-real-in-Complex.ensures.1 h)

pub expression-returns-in_err-row-in-Array : goal.expression-returns-in_err-row-in-Array
expression-returns-in_err-row-in-Array t c =
    let h = rw c.as_slice-in-Array.ensures at c.in_err-row-in-Array.ensures in
    rw c.in-Array.is (err-Array (scope_of c.args.self.now) c.in-Array.es c.in-Array.field-1 c.args.d _ _ _ c.from_residual-in_err-row-in-Array.ensures.1 h)

pub expression-returns-in_err-row-in-Call : goal.expression-returns-in_err-row-in-Call
expression-returns-in_err-row-in-Call t c =
    let h = rw c.as_slice.ensures at c.in_err-row-in-Call.ensures in
    rw c.in-Call.is (err-Call (scope_of c.args.self.now) c.in-Call.field-0 c.in-Call.callee c.in-Call.es c.args.d _ _ _ c.from_residual-in_err-row-in-Call.ensures.1 h)

pub expression-returns-in_ok-base-in-Index : goal.expression-returns-in_ok-base-in-Index
expression-returns-in_ok-base-in-Index t c =
    let h = rw c.get-in-Index-2.ensures at c.in_ok-base-in-Index.ensures in
    let l = rw c.get-in-Index-3.ensures at c.element.ensures in
    rw c.in-Index.is (ok-Index (scope_of c.args.self.now) c.in-Index.a c.in-Index.i c.in-Index.at c.args.d _ c.args.steps.now.items c.base.new.steps.items c.element.new.steps.items c.in_ok-base-in-Index.base c.element.result
    (rw c.get-in-Index.ensures at c.is_calm.ensures) h.0 h.1 l)

pub expression-returns-in_ok-base-in-Slice : goal.expression-returns-in_ok-base-in-Slice
expression-returns-in_ok-base-in-Slice t c =
    let h = rw c.get-in-Slice-2.ensures at c.in_ok-base-in-Slice.ensures in
    let l = rw c.get-in-Slice-3.ensures at c.element-in-Slice.ensures in
    rw c.in-Slice.is (ok-Slice (scope_of c.args.self.now) c.in-Slice.a c.in-Slice.i c.in-Slice.k c.in-Slice.at c.args.d _ c.args.steps.now.items c.base-in-Slice.new.steps.items c.element-in-Slice.new.steps.items
    c.in_ok-base-in-Slice.base c.element-in-Slice.result (rw c.get-in-Slice.ensures at c.is_calm-in-Slice.ensures) h.0 h.1 l)

pub expression-returns-in_ok-placed-in-Array : goal.expression-returns-in_ok-placed-in-Array
expression-returns-in_ok-placed-in-Array t c =
    let h = rw c.as_slice-in-Array.ensures at c.in_ok-row-in-Array.ensures in
    rw c.in-Array.is (ok-Array (scope_of c.args.self.now) c.in-Array.es c.in-Array.field-1 c.args.d c.len.result c.args.steps.now.items c.arguments-in-Array.new.steps.items c.in_ok-row-in-Array.row c.in_ok-placed-in-Array.placed
    c.len.ensures h.0 h.1 c.in_ok-placed-in-Array.ensures)

pub expression-returns-in_ok-real-in-Complex : goal.expression-returns-in_ok-real-in-Complex
expression-returns-in_ok-real-in-Complex t c =
    let h = rw c.get-in-Complex.ensures at c.in_ok-real-in-Complex.ensures in
    let l = rw c.get-in-Complex-2.ensures at c.imaginary.ensures in
    rw c.in-Complex.is (l c.in-Complex.a c.in-Complex.field-3 c.args.steps.now.items h.0 h.1)

pub expression-returns-in_ok-row-in-Call : goal.expression-returns-in_ok-row-in-Call
expression-returns-in_ok-row-in-Call t c =
    let h = rw c.as_slice.ensures at c.in_ok-row-in-Call.ensures in
    rw c.in-Call.is (ok-Call (scope_of c.args.self.now) c.in-Call.field-0 c.in-Call.callee c.in-Call.es c.args.d c.args.steps.now.items c.arguments.new.steps.items c.called.new.steps.items c.in_ok-row-in-Call.row c.called.result h.0 h.1
    c.called.ensures)
