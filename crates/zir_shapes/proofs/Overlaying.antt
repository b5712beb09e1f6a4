-- Cells over others.
use Rattle.std.specs.Prelude.{ℕ, ◌+◌, ◌≤◌, ℤ, List, ◌++◌, ◌≡◌, take, drop, length}
use Rattle.std.proofs.Common.{sym, ap, ◌∙◌, arith, append_assoc}
use Rattle.std.proofs.lemmas.List.{length-append, length-take, length-drop, take-append-le, drop-append-le, drop_at}
use Rattle.std.proofs.Math.Seq.{take-append_seam, take-append-add, drop-append-add}
use Rattle.zir_shapes.specs.Offsets.{overlaid}
use Rattle.zir_shapes.specs.Laws.{OverlaidBetween, OverlaidInside}

-- cells over all of those between others
pub overlaid-between : OverlaidBetween
overlaid-between before mid after ys e =
    ap (λ zs. zs ++ (ys ++ drop (length before + length ys) (before ++ (mid ++ after)))) (take-append_seam before (mid ++ after))
    ∙ ap (λ zs. before ++ (ys ++ zs))
    (drop-append-add before (mid ++ after) (length ys) ∙ drop_at mid after (length ys) (sym e))

-- there are as many as before
length-overlaid : (mid : List ℤ) (o : ℕ) (ys : List ℤ) → o + length ys ≤ length mid → length (overlaid mid o ys) ≡ length mid
length-overlaid mid o ys h =
    let a = length-append (take o mid) (ys ++ drop (o + length ys) mid) in
    let b = length-append ys (drop (o + length ys) mid) in
    omega (arith, a, b, length-take o mid, length-drop (o + length ys) mid)

-- cells over a part of those between others
pub overlaid-inside : OverlaidInside
overlaid-inside before mid after o ys h =
    let back : List ℤ = drop (o + length ys) mid in
    let n : length before + o + length ys ≡ length before + (o + length ys) = omega arith in
    overlaid-between before mid after (overlaid mid o ys) (length-overlaid mid o ys h)
    ∙ ap (λ zs. before ++ zs) (append_assoc (take o mid) (ys ++ back) after)
    ∙ ap (λ zs. before ++ (take o mid ++ zs)) (append_assoc ys back after)
    ∙ sym (append_assoc before (take o mid) (ys ++ (back ++ after)))
    ∙ ap (λ zs. (before ++ zs) ++ (ys ++ (back ++ after))) (sym (take-append-le o mid after (omega arith)))
    ∙ ap (λ zs. zs ++ (ys ++ (back ++ after))) (sym (take-append-add before (mid ++ after) o))
    ∙ ap (λ zs. take (length before + o) (before ++ (mid ++ after)) ++ (ys ++ zs))
    (sym (drop-append-le (o + length ys) mid after h)
    ∙ sym (drop-append-add before (mid ++ after) (o + length ys))
    ∙ ap (λ k. drop k (before ++ (mid ++ after))) (sym n))

-- the same where the cells are given by their parts
pub overlaid-at : (xs before mid after ys : List ℤ) (o : ℕ) → xs ≡ before ++ (mid ++ after) → length before ≡ o → length ys ≡ length mid →
    before ++ (ys ++ after) ≡ overlaid xs o ys
overlaid-at xs before mid after ys o split place size =
    sym (overlaid-between before mid after ys size)
    ∙ ap (λ k. overlaid (before ++ (mid ++ after)) k ys) place
    ∙ ap (λ zs. overlaid zs o ys) (sym split)
