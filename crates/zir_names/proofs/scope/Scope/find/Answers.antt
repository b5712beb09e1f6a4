use Rattle.std.proofs.Common.{◌≡◌, ◌∙◌, ◌<◌, ap, sym, subst, true, false}
use Rattle.std.specs.Str.{bytes_eq}
use Rattle.zir_names.specs.Scope.{Seen, find as finding}
use Rattle.zir_names.specs.Buckets.{bucket, buckets, last_of, entries}
use Rattle.zir_names.proofs.Chains.{Reaches, reaches-last, reaches-older, found-here}
use Rattle.zir_names.proofs.scope.Scope.find.Goals as goal

pub loop-at-init : goal.loop-at-init
loop-at-init c =
    let ls = c.self.inside.links.items in
    let name = c.args.name.now in
    let head : c.head_at-at.result ≡ last_of (buckets (entries ls)) (bucket name) =
    (let newest = c.self.invariant.newest (bucket name) in cc (newest, c.head_at-at.ensures, c.bucket_of.ensures.value, c.as_slice.ensures, c.deref.ensures.value)) in
    subst (Reaches ls name) (sym head) (reaches-last ls name)

pub returns-then-eq : goal.returns-then-eq
returns-then-eq c =
    let link = c.index-link.result.now in
    let same : bytes_eq link.entry.name c.args.name.now ≡ true = cc (c.as_slice-in-loop-at.ensures, c.as_slice-in-loop-at-2.ensures, c.eq.ensures, c.if-eq.true) in
    found-here c.self.inside.links.items c.args.name.now c.loop-at.at link c.loop-at.invariant c.loop-at-test.true c.index-link.ensures same
    ∙ ap (λ (s : Seen). finding s.open_ c.args.name.now) c.self.view_is

pub loop-at-smaller : goal.loop-at-smaller
loop-at-smaller c =
    let link = c.index-link.result.now in
    let other : bytes_eq link.entry.name c.args.name.now ≡ false = cc (c.as_slice-in-loop-at.ensures, c.as_slice-in-loop-at-2.ensures, c.eq.ensures, c.if-eq.false) in
    (reaches-older c.self.inside.links.items c.args.name.now c.loop-at.at link c.self.invariant.pointed c.loop-at.invariant c.loop-at-test.true c.index-link.ensures other).1

pub loop-at-preserved : goal.loop-at-preserved
loop-at-preserved c =
    let link = c.index-link.result.now in
    let other : bytes_eq link.entry.name c.args.name.now ≡ false = cc (c.as_slice-in-loop-at.ensures, c.as_slice-in-loop-at-2.ensures, c.eq.ensures, c.if-eq.false) in
    (reaches-older c.self.inside.links.items c.args.name.now c.loop-at.at link c.self.invariant.pointed c.loop-at.invariant c.loop-at-test.true c.index-link.ensures other).0
