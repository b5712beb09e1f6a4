-- The words of a type, one array after the other.
use Rattle.std.proofs.Common.{◌≡◌, ◌+◌, ◌<◌, ◌≤◌, ℕ, List, ◌++◌, length, get_or, drop, drop-cons, drop_of_length-le, add-one, Result, Ok, Err, OnOk, sym, ap, ◌∙◌, append_assoc}
use Rattle.std.specs.Prelude.{codes, decimal}
use Rattle.zir_tree.specs.declared.types.Base.{Base}
use Rattle.zir_tree.specs.declared.types.StructDef.{StructDef}
use Rattle.zir_notes.specs.Reports.{base_words, type_words}

-- an array of this length
abbrev pub array_words : ℕ → List ℕ
array_words n = codes "arr[" ++ (decimal n ++ codes "] ")

-- one more is added
pub added_more : (structs : List StructDef) (base : Base) (lengths before now whole : List ℕ) (k : ℕ) → k < length lengths → now ≡ before ++ array_words (get_or lengths k 0) →
    before ++ type_words structs (drop k lengths) base ≡ whole → now ++ type_words structs (drop (k + 1) lengths) base ≡ whole
added_more structs base lengths before now whole k below now_is so_far =
    let n : ℕ = get_or lengths k 0 in
    let rest : List ℕ = type_words structs (drop (k + 1) lengths) base in
    let first : type_words structs (drop k lengths) base ≡ codes "arr[" ++ (decimal n ++ (codes "] " ++ rest)) =
    ap (λ l. type_words structs l base) (drop-cons lengths k 0 below) ∙ ap (λ j. codes "arr[" ++ (decimal n ++ (codes "] " ++ type_words structs (drop j lengths) base))) (sym (add-one k)) in
    ap (λ l. l ++ rest) now_is ∙ append_assoc before (array_words n) rest
    ∙ ap (λ l. before ++ (codes "arr[" ++ l)) (append_assoc (decimal n) (codes "] ") rest)
    ∙ ap (λ l. before ++ l) (sym first) ∙ so_far

-- all are added, and what the innermost holds
pub added_all : {T E : Type 0} (r : Result T E) (structs : List StructDef) (base : Base) (lengths before now word whole : List ℕ) (k : ℕ) → length lengths ≤ k → word ≡ base_words structs base →
    before ++ type_words structs (drop k lengths) base ≡ whole → OnOk r (now ≡ before ++ word) → OnOk r (now ≡ whole)
added_all (Ok x) structs base lengths before now word whole k above word_is so_far h =
    h ∙ ap (λ w. before ++ w) (word_is ∙ sym (ap (λ l. type_words structs l base) (drop_of_length-le lengths above))) ∙ so_far
added_all (Err e) structs base lengths before now word whole k above word_is so_far h = tt
