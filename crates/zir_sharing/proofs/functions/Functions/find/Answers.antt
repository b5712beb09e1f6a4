use Rattle.std.proofs.Common.{◌<◌, ◌≤◌, ◌∙◌, ap, sym, arith, length}
use Rattle.std.proofs.lemmas.List.{get_or_read, get_or_past}
use Rattle.zir_names.specs.Touched.{call_of, untouched}
use Rattle.zir_sharing.specs.Places.{touched_at}
use Rattle.zir_sharing.proofs.Tables.{call_at}
use Rattle.zir_sharing.proofs.functions.Functions.find.Goals as goal

pub returns-in-None : goal.returns-in-None
returns-in-None c =
    ap (λ fs. call_of fs c.args.id) (sym c.self.view_is) ∙ call_at c.self.inside.index c.self.inside.touched.items c.args.id
    ∙ ap (touched_at c.self.inside.touched.items) (sym c.in-None.ensures)

pub returns-then-at-len : goal.returns-then-at-len
returns-then-at-len c =
    let inside : c.in-Some.at < length c.self.inside.touched.items = omega (arith, c.if-at-len.true, c.len.ensures, c.self.inside.touched.ok.0) in
    ap (λ fs. call_of fs c.args.id) (sym c.self.view_is) ∙ call_at c.self.inside.index c.self.inside.touched.items c.args.id
    ∙ ap (touched_at c.self.inside.touched.items) (sym c.in-Some.ensures)
    ∙ sym (get_or_read c.self.inside.touched.items c.in-Some.at c.index.result.now inside c.index.ensures untouched)

pub returns-else-at-len : goal.returns-else-at-len
returns-else-at-len c =
    let past : length c.self.inside.touched.items ≤ c.in-Some.at = omega (arith, c.if-at-len.false, c.len.ensures, c.self.inside.touched.ok.0) in
    ap (λ fs. call_of fs c.args.id) (sym c.self.view_is) ∙ call_at c.self.inside.index c.self.inside.touched.items c.args.id
    ∙ ap (touched_at c.self.inside.touched.items) (sym c.in-Some.ensures)
    ∙ get_or_past c.self.inside.touched.items c.in-Some.at untouched past
