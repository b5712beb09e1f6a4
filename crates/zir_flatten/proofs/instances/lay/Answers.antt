use Rattle.std.proofs.Common.{◌∙◌, ap, sym, subst, refl, length}
use Rattle.zir_compile.specs.Names.{scope_of}
use Rattle.zir_flow.specs.Program.{top_scope}
use Rattle.zir_flatten.specs.Programs.{IsBuilt}
use Rattle.zir_flatten.proofs.Laying.{Laying, laying_none, laying_more, top_same, below_same, below_twice}
use Rattle.zir_flatten.proofs.instances.lay.Goals as goal

pub loop-i-init : goal.loop-i-init
loop-i-init c = (
  below_same c.args.names.now,
  λ r a. subst (λ xs. Laying r (top_scope (scope_of c.args.names.now)) c.args.instances.now 0 xs (record { callees = c.new.result; assigned = c.args.assigned })) (sym c.new-code.ensures.items)
      (laying_none r (top_scope (scope_of c.args.names.now)) c.args.instances.now (record { callees = c.new.result; assigned = c.args.assigned }) c.new.ensures.items a),
)

pub loop-i-preserved : goal.loop-i-preserved
loop-i-preserved c = (
  below_twice c.args.names.now c.loop-i.names c.instance.new.names c.loop-i.invariant.0 c.in_ok-more.ensures.below,
  λ r a.
      let g = top_scope (scope_of c.args.names.now) in
      laying_more r g c.args.instances.now c.loop-i.i-index c.i-item.result c.loop-i.code.items c.append.new.self.items c.loop-i.places _ c.in_ok-more.field-0 c.in_ok-place.place c.loop-i-test.true c.i-item.is
      (c.in_ok-place.ensures ∙ ap length c.as_slice.ensures.value)
      (λ st h. subst (λ x. IsBuilt st x c.in_ok-place.place c.i-item.result c.in_ok-more.field-0) (top_same c.args.names.now c.loop-i.names c.loop-i.invariant.0) (c.in_ok-more.ensures.code st h))
      c.in_ok-append.ensures.items c.in_ok-push.ensures.items refl (c.loop-i.invariant.1 r a),
)
