use Rattle.std.proofs.Common.{◌∙◌, ◌+◌, ◌∷◌, [], ap, sym, subst, arith, drop}
use Rattle.zir_names.specs.Touched.{functions_from}
use Rattle.zir_sharing.specs.Ascending.{AllAscend}
use Rattle.zir_sharing.proofs.Touching.{drop_item}
use Rattle.zir_sharing.proofs.Ascents.{functions-step, ascends-functions}
use Rattle.zir_sharing.proofs.declarations.functions_among.Goals as goal

pub loop-d-preserved : goal.loop-d-preserved
loop-d-preserved c =
    record {
      rest = ap (λ fs. functions_from c.args.top.now fs (drop (c.loop-d.d-index + 1) c.args.ds.now)) c.in_ok-more.ensures
          ∙ sym (functions-step c.args.top.now c.loop-d.functions c.d-item.result (drop (c.loop-d.d-index + 1) c.args.ds.now))
          ∙ ap (functions_from c.args.top.now c.loop-d.functions) (sym (drop_item c.args.ds.now c.loop-d.d-index c.d-item.result (omega arith) c.d-item.is))
          ∙ c.loop-d.invariant.rest;
      ascending = subst AllAscend (sym c.in_ok-more.ensures) (ascends-functions c.args.top.now c.loop-d.functions (c.d-item.result ∷ []) c.loop-d.invariant.ascending);
    }
