use Rattle.std.proofs.Common.{◌≡◌, ◌∙◌, ◌<◌, ◌++◌, ◌∷◌, [], suc, ap, sym, subst, arith, length}
use Rattle.std.specs.Prelude.{slice_set}
use Rattle.std.proofs.lemmas.List.{get_or_read}
use Rattle.zir_names.specs.Scope.{Seen, opened}
use Rattle.zir_names.specs.Buckets.{bucket, IsChained}
use Rattle.zir_names.proofs.Chains.{chained-push, seen_of, seen-push}
use Rattle.zir_names.proofs.scope.Scope.open.Goals as goal

pub invariant_of-self-2 : goal.invariant_of-self-2
invariant_of-self-2 c =
    let ls = c.self.inside.links.items in
    let wide = c.widen.new.heads.items in
    let same : c.bucket_of-bucket.result ≡ bucket c.in_ok-name.name = c.bucket_of-bucket.ensures.value ∙ ap bucket c.as_slice-2.ensures in
    let room : c.bucket_of-bucket.result < length wide = omega (arith, c.in_ok-widen.ensures.wide, c.bucket_of-bucket.ensures.within) in
    let older = get_or_read wide c.bucket_of-bucket.result c.index-older.result.now room c.index-older.ensures 0 in
    let count : c.len.result ≡ suc (length ls) = omega (arith, c.len.ensures, c.in_ok-push.ensures.len, c.self.inside.links.ok.0) in
    rw (c.in_ok-push.ensures.items, same)
    (chained-push ls c.self.inside.heads.items wide _ c.len.result c.self.invariant c.widen.ensures.same (rw same at room) (rw same at older) count)

pub returns : goal.returns
returns c =
    ap (λ ls. seen_of ls c.self.inside.next) c.in_ok-push.ensures.items
    ∙ seen-push c.self.inside.links.items c.in_ok-name.name c.args.kind c.index-older.result.now c.self.inside.next c.args.x.now (c.in_ok-name.ensures ∙ c.as_slice.ensures)
    ∙ ap (λ (s : Seen). opened c.args.kind c.args.x.now s) c.self.view_is
