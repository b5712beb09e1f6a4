use Rattle.std.proofs.Common.{◌+◌, [], ◌∷◌, ◌++◌, ◌∙◌, length, ap}
use Rattle.std.proofs.lemmas.List.{length_push}
use Rattle.zir_compile.specs.Signing.{signatures_of}
use Rattle.zir_compile.proofs.Signed.{signatures_on, signatures_end, scope_end}
use Rattle.zir_compile.proofs.scope.Names.of_functions.Goals as goal

pub loop-f-preserved : goal.loop-f-preserved
loop-f-preserved c =
    let i = c.loop-f.invariant in
    let below = c.in_ok-made.ensures.below in
    let items = c.in_ok-push.ensures.items ∙ ap (λ xs. xs ++ c.in_ok-made.made ∷ []) below.functions in
    let made = rw (i.0, i.1) at c.in_ok-made.ensures.made in (
      below.structs ∙ i.0,
      below.tops ∙ i.1,
      ap length items ∙ length_push c.loop-f.names.functions.items c.in_ok-made.made ∙ ap (λ n. n + 1) i.2,
      signatures_on c.args.structs.now c.args.tops c.args.functions.now c.loop-f.f-index c.f-item.result c.loop-f.names.functions.items c.push.new.self.items c.in_ok-made.made _ c.loop-f-test.true c.f-item.is i.2
          made items i.3,
    )

pub returns : goal.returns
returns c =
    let i = c.loop-f.invariant in
    scope_end c.loop-f.names.structs c.args.structs.now c.loop-f.names.tops c.args.tops c.truncate.new.self.items c.loop-f.names.functions.items (signatures_of c.args.structs.now c.args.tops c.args.functions.now)
    i.0 i.1 c.truncate.ensures.items (signatures_end c.args.structs.now c.args.tops c.args.functions.now c.loop-f.f-index c.loop-f.names.functions.items _ c.loop-f-test.false i.3)
