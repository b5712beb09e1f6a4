use Rattle.std.proofs.Common.{◌≡◌, ◌∙◌, [], ap, sym, arith}
use Rattle.std.proofs.lemmas.List.{at_drop_all}
use Rattle.zir_names.specs.Touched.{Touched, both, all_of, in_decl, in_comp, untouched}
use Rattle.zir_sharing.proofs.Touching.{rest_step}
use Rattle.zir_sharing.proofs.Ascents.{declared-all}
use Rattle.zir_sharing.proofs.declarations.variables_of.Goals as goal

pub loop-d-preserved : goal.loop-d-preserved
loop-d-preserved c =
    rest_step in_decl c.as_slice-ds.result.now c.loop-d.d-index c.d-item.result (both (all_of in_decl c.as_slice-ds.result.now) untouched) c.loop-d.touched c.touch_decl.new.touched
    (omega arith) c.d-item.is c.loop-d.invariant c.in_ok-touch_decl.ensures

pub returns : goal.returns
returns c =
    let main = c.args.program.now.program.main in
    let ds = c.args.program.now.program.declarations in
    let done : both (all_of in_decl ds) untouched ≡ c.loop-d.touched =
    ap (λ xs. both (all_of in_decl xs) untouched) (sym c.as_slice-ds.ensures) ∙ c.loop-d.invariant
    ∙ at_drop_all (λ xs. both (all_of in_decl xs) c.loop-d.touched) c.as_slice-ds.result.now c.loop-d.d-index (omega arith) in
    let all : c.touch_comp.new.touched ≡ both (in_comp [] main) (both (all_of in_decl ds) untouched) =
    c.in_ok-touch_comp.ensures ∙ ap (λ fs. both (in_comp fs main) c.loop-d.touched) c.new-none.ensures ∙ ap (both (in_comp [] main)) (sym done) in
    c.into_declared.ensures ∙ ap (λ (t : Touched). t.declared) all ∙ declared-all ds main
