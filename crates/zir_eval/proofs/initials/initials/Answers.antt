use Rattle.std.proofs.Common.{◌+◌, ◌∷◌, List, [], subst, sym, drop}
use Rattle.std.proofs.lemmas.List.{drop_all}
use Rattle.zir_tree.specs.declared.stmt.Var.{Var}
use Rattle.zir_compile.specs.Names.{scope_of}
use Rattle.zir_compile.proofs.Making.{makes_err}
use Rattle.zir_compile.proofs.Finding.{at_place}
use Rattle.zir_eval.proofs.Beginning.{Goes, goes_on, fits_first, gone_fits, gone}
use Rattle.zir_eval.proofs.initials.initials.Goals as goal

pub returns-in_err-end : goal.returns-in_err-end
returns-in_err-end c =
    let g = scope_of c.args.names.now in
    let here : Goes g c.args.variables.now (c.v-item.result ∷ drop (c.loop-v.v-index + 1) c.args.variables.now) c.args.steps.now.items c.loop-v.steps.items c.loop-v.peak =
    subst (λ (vs : List Var). Goes g c.args.variables.now vs c.args.steps.now.items c.loop-v.steps.items c.loop-v.peak)
    (at_place c.args.variables.now c.loop-v.v-index c.v-item.result c.loop-v-test.true c.v-item.is) c.loop-v.invariant.0 in
    makes_err _ _ _ _ _ c.from_residual.ensures.1 c.in_err-end.ensures
    (fits_first g c.args.variables.now (drop (c.loop-v.v-index + 1) c.args.variables.now) c.v-item.result c.args.steps.now.items c.loop-v.steps.items
    c.loop-v.peak here)

pub loop-v-preserved : goal.loop-v-preserved
loop-v-preserved c =
    let g = scope_of c.args.names.now in
    let here : Goes g c.args.variables.now (c.v-item.result ∷ drop (c.loop-v.v-index + 1) c.args.variables.now) c.args.steps.now.items c.loop-v.steps.items c.loop-v.peak =
    subst (λ (vs : List Var). Goes g c.args.variables.now vs c.args.steps.now.items c.loop-v.steps.items c.loop-v.peak)
    (at_place c.args.variables.now c.loop-v.v-index c.v-item.result c.loop-v-test.true c.v-item.is) c.loop-v.invariant.0 in (
      subst (Goes g c.args.variables.now (drop (c.loop-v.v-index + 1) c.args.variables.now) c.args.steps.now.items c.initial.new.steps.items)
          (sym c.max-peak.ensures) (goes_on g c.args.variables.now (drop (c.loop-v.v-index + 1) c.args.variables.now) c.v-item.result
          c.args.steps.now.items c.loop-v.steps.items c.initial.new.steps.items c.loop-v.peak c.in_ok-end.end here c.in_ok-end.ensures.0 c.in_ok-end.ensures.1),
      c.max-peak.type_inv,
    )

pub returns : goal.returns
returns c =
    let g = scope_of c.args.names.now in
    let done : Goes g c.args.variables.now [] c.args.steps.now.items c.loop-v.steps.items c.loop-v.peak =
    subst (λ (vs : List Var). Goes g c.args.variables.now vs c.args.steps.now.items c.loop-v.steps.items c.loop-v.peak)
    (drop_all c.loop-v.v-index c.args.variables.now c.loop-v-test.false) c.loop-v.invariant.0 in
    (gone_fits g c.args.variables.now c.args.steps.now.items c.loop-v.steps.items c.loop-v.peak done c.loop-v.invariant.1, gone g c.args.variables.now c.args.steps.now.items c.loop-v.steps.items c.loop-v.peak done)
