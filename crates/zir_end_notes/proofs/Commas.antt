-- The texts of parts with commas between them, one part after the other.
use Rattle.std.proofs.Common.{◌≡◌, ℕ, zero, suc, ◌+◌, add-one, ◌<◌, List, [], ◌∷◌, ◌++◌, length, get_or, drop, drop-cons, Some, refl, sym, ap, ◌∙◌, append_assoc, append-nil}
use Rattle.zir_tree.specs.declared.types.Base.{Base}
use Rattle.zir_tree.specs.declared.types.StructDef.{StructDef}
use Rattle.zir_tree.specs.declared.value.Val.{Val}
use Rattle.zir_meaning.specs.Notes.{value_text, with_commas}
use Rattle.zir_end_notes.specs.declared.values.PartKinds.{PartKinds}
use Rattle.zir_end_notes.specs.Parts.{comma_before, kind_at, text_before, texts_from}

-- texts with a comma before each
abbrev behind_commas : List (List ℕ) → List ℕ
behind_commas [] = []
behind_commas (text ∷ texts) = 44 ∷ (text ++ behind_commas texts)

-- the texts of the parts from one with this place on, with a comma before each but the first of all
abbrev pub commas_from : ℕ → List (List ℕ) → List ℕ
commas_from zero texts = with_commas texts
commas_from (suc i) texts = behind_commas texts

commas_behind : (text : List ℕ) (texts : List (List ℕ)) → with_commas (text ∷ texts) ≡ text ++ behind_commas texts
commas_behind text [] = sym (append-nil text)
commas_behind text (next ∷ texts) = ap (λ l. text ++ 44 ∷ l) (commas_behind next texts)

commas_step : (i : ℕ) (text : List ℕ) (texts : List (List ℕ)) → commas_from i (text ∷ texts) ≡ (comma_before i ++ text) ++ behind_commas texts
commas_step zero text texts = commas_behind text texts
commas_step (suc i) text texts = refl

-- the texts of all parts are what was added so far and those from this place on
abbrev pub Left : List StructDef → PartKinds → List Val → ℕ → List ℕ → Type 0
Left structs kinds vs i so_far = with_commas (texts_from structs kinds 0 vs) ≡ so_far ++ commas_from i (texts_from structs kinds i (drop i vs))

-- one part more
pub left_more : (structs : List StructDef) (kinds : PartKinds) (vs : List Val) (i : ℕ) (v : Val) (lengths : List ℕ) (base : Base) (so_far : List ℕ) → i < length vs → v ≡ get_or vs i v → kind_at kinds i ≡ Some (lengths, base)
    → Left structs kinds vs i so_far → Left structs kinds vs (i + 1) (so_far ++ (comma_before i ++ value_text structs lengths base v))
left_more structs kinds vs i v lengths base so_far within item kind left =
    let rest : List (List ℕ) = texts_from structs kinds (i + 1) (drop (i + 1) vs) in
    let text : List ℕ = value_text structs lengths base v in
    let first : texts_from structs kinds i (drop i vs) ≡ text ∷ rest =
    ap (λ l. texts_from structs kinds i l) (drop-cons vs i v within)
    ∙ ap (λ x. text_before structs (kind_at kinds i) x (texts_from structs kinds (i + 1) (drop (suc i) vs))) (sym item)
    ∙ ap (λ o. text_before structs o v (texts_from structs kinds (i + 1) (drop (suc i) vs))) kind
    ∙ ap (λ j. text ∷ texts_from structs kinds (i + 1) (drop j vs)) (sym (add-one i)) in
    left ∙ ap (λ l. so_far ++ commas_from i l) first ∙ ap (λ l. so_far ++ l) (commas_step i text rest)
    ∙ sym (append_assoc so_far (comma_before i ++ text) (behind_commas rest))
    ∙ ap (λ j. (so_far ++ (comma_before i ++ text)) ++ commas_from j rest) (sym (add-one i))
