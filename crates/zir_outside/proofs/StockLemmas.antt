-- What an append makes of a shelf in memory.
use Rattle.std.proofs.Common.{◌≡◌, ℕ, ◌<◌, ◌≤◌, inl, Bool, true, false, List, [], ◌∷◌, ◌++◌, length, map, get_or, set, Option, Some, None, Result, Ok, Err, OnOk, OnErr, is_ok, if◌then◌else◌, refl, sym, ap, ◌∙◌, subst, arith}
use Rattle.std.specs.Prelude.{nat_le}
use Rattle.std.specs.Str.{bytes_eq}
use Rattle.std.specs.Option.{unwrap_or}
use Rattle.std.proofs.lemmas.Bool.{le-leb, lt-leb}
use Rattle.std.proofs.lemmas.List.{set-get_or}
use Rattle.zir_outside.specs.declared.kept.Kept.{Kept}
use Rattle.zir_outside.specs.Lengthens.{Lengthens, LongerBy, LongerByPart}
use Rattle.zir_outside.specs.Memory.{entry, IsFirst, IsUnnamed}
use Rattle.zir_outside.specs.Texts.{Entry, Stock, text_in, longer, empty_entry, with_piece, fresh_behind, stock_with, IsTooSmall}
use Rattle.zir_outside.proofs.TextLemmas.{piece_first, fresh_first, piece_none, fresh_none, longer_by}

-- the texts by their names
abbrev texts_by_name : Stock → List ℕ → Option (List ℕ)
texts_by_name stock name = text_in stock.entries name

-- an append, by its answer
pub lengthens : {T E : Type 0} (r : Result T E) (old new : Stock) (name piece : List ℕ) → new ≡ (if is_ok r then stock_with old name piece else old) → Lengthens (Some (texts_by_name old)) (Some (texts_by_name new)) name piece r
lengthens (Ok u) old new name piece is = subst (λ s. LongerBy (texts_by_name old) (texts_by_name s) name piece) (sym is) (longer_by (unwrap_or old.fresh 0) name piece old.entries)
lengthens (Err e) old new name piece is = inl (ap texts_by_name is)

-- a piece behind a text that is there
pub stock_put : {T E : Type 0} (r : Result T E) (xs : List Kept) (fresh : Option ℕ) (k : ℕ) (x y : Kept) (name piece : List ℕ) → x ≡ get_or xs k x → IsFirst xs name k → OnOk r (entry y ≡ longer (entry x) piece) → OnErr r (y ≡ x)
    → record { entries = map entry (set xs k y); fresh = fresh } ≡ (if is_ok r then stock_with (record { entries = map entry xs; fresh = fresh }) name piece else record { entries = map entry xs; fresh = fresh })
stock_put (Ok u) xs fresh k x y name piece here first ok err =
    let passes : bytes_eq (entry x).name name ≡ true = ap (λ z. bytes_eq (entry z).name name) here ∙ first.named x in
    let before : (j : ℕ) → j < k → bytes_eq (entry (get_or xs j x)).name name ≡ false = λ j below. first.before j x below in
    ap (λ (es : List Entry). record { entries = es; fresh = fresh }) (piece_first entry name (unwrap_or fresh 0) piece xs k x y x first.within here passes before ok)
    ∙ ap (λ (f : Option ℕ). record { entries = with_piece (unwrap_or fresh 0) (map entry xs) name piece; fresh = f }) (sym (fresh_first entry name fresh xs k x x first.within here passes before))
stock_put (Err e) xs fresh k x y name piece here first ok err =
    ap (λ (zs : List Kept). record { entries = map entry zs; fresh = fresh }) (ap (λ z. set xs k z) (err ∙ here) ∙ set-get_or xs k x)

-- a text that is made
pub stock_made : (xs ys : List Kept) (fresh left : Option ℕ) (room : ℕ) (y : Kept) (name piece : List ℕ) → IsUnnamed xs name → ys ≡ xs ++ y ∷ [] → fresh ≡ Some room → left ≡ None → entry y ≡ longer (empty_entry name room) piece
    → record { entries = map entry ys; fresh = left } ≡ stock_with (record { entries = map entry xs; fresh = fresh }) name piece
stock_made xs ys fresh left room y name piece unnamed grew has none is =
    ap (λ (zs : List Kept). record { entries = map entry zs; fresh = left }) grew
    ∙ ap (λ (es : List Entry). record { entries = es; fresh = left }) (piece_none entry name room piece xs y unnamed is ∙ ap (λ o. with_piece (unwrap_or o 0) (map entry xs) name piece) (sym has))
    ∙ ap (λ (f : Option ℕ). record { entries = with_piece (unwrap_or fresh 0) (map entry xs) name piece; fresh = f }) (none ∙ sym (fresh_none entry name fresh xs unnamed))

-- ---- whether a text can be made

pub too_long : (fresh : Option ℕ) (n m : ℕ) → 255 < n → IsTooSmall (if nat_le n 255 then fresh else None) m
too_long fresh n m long = rw (lt-leb n 255 long) tt

pub too_small : (b : Bool) (fresh : Option ℕ) (m : ℕ) → unwrap_or fresh 0 < m → IsTooSmall (if b then fresh else None) m
too_small true (Some room) m small = small
too_small true None m small = tt
too_small false fresh m small = tt

pub all_made : (b : Bool) (fresh : Option ℕ) (m : ℕ) → fresh ≡ None → IsTooSmall (if b then fresh else None) m
all_made true fresh m none = rw none tt
all_made false fresh m none = tt

pub fits : (fresh : Option ℕ) (room n m : ℕ) → fresh ≡ Some room → n ≤ 255 → m ≤ room → IsTooSmall (if nat_le n 255 then fresh else None) m → ⊥
fits fresh room n m has short within small =
    let is_short : nat_le n 255 ≡ true = le-leb n 255 short in
    let less : room < m = rw is_short at (rw has at small) in
    omega arith
