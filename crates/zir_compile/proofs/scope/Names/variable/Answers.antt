use Rattle.std.proofs.Common.{◌≡◌, Some, None, ap, sym, ◌∙◌}
use Rattle.zir_code.specs.Scopes.{found_among}
use Rattle.zir_compile.proofs.Finding.{found_here, found_else}
use Rattle.zir_compile.proofs.scope.Names.variable.Goals as goal

pub returns-in-Some : goal.returns-in-Some
returns-in-Some c =
    let e : Some c.in-Some.holder.now ≡ found_among None c.args.self.now.locals.items c.args.id = c.in-Some.ensures ∙ ap (λ ds. found_among None ds c.args.id) c.as_slice.ensures.value in
    sym (found_here (found_among None c.args.self.now.tops c.args.id) c.args.self.now.locals.items c.args.id c.in-Some.holder.now (sym e))

pub returns-in-None : goal.returns-in-None
returns-in-None c =
    let e : None ≡ found_among None c.args.self.now.locals.items c.args.id = c.in-None.ensures ∙ ap (λ ds. found_among None ds c.args.id) c.as_slice.ensures.value in
    c.find-in-None.ensures ∙ ap (λ ds. found_among None ds c.args.id) c.as_slice-in-None.ensures
    ∙ sym (found_else (found_among None c.args.self.now.tops c.args.id) c.args.self.now.locals.items c.args.id (sym e))
