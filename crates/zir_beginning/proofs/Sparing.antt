-- Two changes of top variables, which spare all others: more of them, and another value of one.
use Rattle.std.specs.Prelude.{ℕ, List, [], ◌∷◌, ◌++◌, Bool, true, false, ◌≡◌, refl, nat_eq, if◌then◌else◌}
use Rattle.std.proofs.Common.{ap, sym, subst, ◌∙◌}
use Rattle.std.proofs.lemmas.Bool.{eqb-true}
use Rattle.zir_tree.specs.declared.value.Val.{Val, Unit as UnitVal}
use Rattle.zir_tree.specs.declared.value.Slot.{Slot}
use Rattle.zir_meaning.specs.Store.{found_or, put}
use Rattle.zir_beginning.proofs.Changing.{SparesAll}

-- none of these top variables has this number
abbrev pub AreOther : List Slot → ℕ → Type 0
AreOther [] id = Unit {0}
AreOther (slot ∷ slots) id = (nat_eq slot.id id ≡ false) × AreOther slots id

-- the value of a variable that is none of these
found-none : (v : Val) (slots : List Slot) (id : ℕ) → AreOther slots id → found_or v slots id ≡ v
found-none v [] id h = refl
found-none v (slot ∷ slots) id h = ap (λ b. if b then slot.value else found_or v slots id) h.0 ∙ found-none v slots id h.1

-- a variable that is none of these gets another value
pub put-none : (id : ℕ) (v : Val) (slots : List Slot) → AreOther slots id → put id v slots ≡ slots
put-none id v [] h = refl
put-none id v (slot ∷ slots) h =
    ap (λ b. (if b then record slot { value = v } else slot) ∷ put id v slots) h.0 ∙ ap (λ xs. slot ∷ xs) (put-none id v slots h.1)

-- one variable behind others gets another value
pub put-append : (id : ℕ) (v : Val) (tops slots : List Slot) → put id v (tops ++ slots) ≡ put id v tops ++ put id v slots
put-append id v [] slots = refl
put-append id v (slot ∷ tops) slots = ap (λ xs. (if nat_eq slot.id id then record slot { value = v } else slot) ∷ xs) (put-append id v tops slots)

found-append : (tops slots : List Slot) (id : ℕ) → AreOther slots id → found_or UnitVal (tops ++ slots) id ≡ found_or UnitVal tops id
found-append [] slots id h = found-none UnitVal slots id h
found-append (slot ∷ tops) slots id h = ap (λ v. if nat_eq slot.id id then slot.value else v) (found-append tops slots id h)

-- more top variables spare all others
pub spares-more : (slots : List Slot) → SparesAll (λ tops. tops ++ slots) (AreOther slots)
spares-more slots = record {
  found = λ tops id h. found-append tops slots id h;
  puts = λ tops id v h. put-append id v tops slots ∙ ap (λ xs. put id v tops ++ xs) (put-none id v slots h);
}

-- its number stays
same-id : (b : Bool) (v : Val) (slot : Slot) → (if b then record slot { value = v } else slot).id ≡ slot.id
same-id true v slot = refl
same-id false v slot = refl

-- no variable has two numbers
not-both : (a id other : ℕ) → nat_eq other id ≡ false → nat_eq a other ≡ true → nat_eq a id ≡ false
not-both a id other h e = subst (λ n. nat_eq n id ≡ false) (sym (eqb-true a other e)) h

-- the value of another variable
found-head : (slot : Slot) (rest : Val) (id other : ℕ) (w : Val) → nat_eq other id ≡ false → (b : Bool) → nat_eq slot.id other ≡ b →
    (if nat_eq (if b then record slot { value = w } else slot).id id then (if b then record slot { value = w } else slot).value else rest)
    ≡ (if nat_eq slot.id id then slot.value else rest)
found-head slot rest id other w h true e =
    let n : nat_eq slot.id id ≡ false = not-both slot.id id other h e in
    ap (λ b. if b then w else rest) n ∙ ap (λ b. if b then slot.value else rest) (sym n)
found-head slot rest id other w h false e = refl

found-other : (tops : List Slot) (id other : ℕ) (w : Val) → nat_eq other id ≡ false →
    found_or UnitVal (put other w tops) id ≡ found_or UnitVal tops id
found-other [] id other w h = refl
found-other (slot ∷ tops) id other w h =
    found-head slot (found_or UnitVal (put other w tops) id) id other w h (nat_eq slot.id other) refl
    ∙ ap (λ v. if nat_eq slot.id id then slot.value else v) (found-other tops id other w h)

-- two variables get other values
puts-head : (slot : Slot) (id other : ℕ) (v w : Val) → nat_eq other id ≡ false → (a b : Bool) → nat_eq slot.id id ≡ a → nat_eq slot.id other ≡ b →
    (let x : Slot = if b then record slot { value = w } else slot in if nat_eq x.id id then record x { value = v } else x)
    ≡ (let y : Slot = if a then record slot { value = v } else slot in if nat_eq y.id other then record y { value = w } else y)
puts-head slot id other v w h a true e f =
    let n : nat_eq slot.id id ≡ false = not-both slot.id id other h f in
    let m : a ≡ false = sym e ∙ n in
    ap (λ b. if b then record slot { value = v } else record slot { value = w }) n
    ∙ ap (λ b. if b then record slot { value = w } else slot) (sym f)
    ∙ ap (λ b. let y : Slot = if b then record slot { value = v } else slot in if nat_eq y.id other then record y { value = w } else y) (sym m)
puts-head slot id other v w h true false e f =
    ap (λ b. if b then record slot { value = v } else slot) e
    ∙ ap (λ b. if b then record slot { value = w } else record slot { value = v }) (sym f)
puts-head slot id other v w h false false e f =
    ap (λ b. if b then record slot { value = v } else slot) e
    ∙ ap (λ b. if b then record slot { value = w } else slot) (sym f)

puts-other : (tops : List Slot) (id other : ℕ) (v w : Val) → nat_eq other id ≡ false → put id v (put other w tops) ≡ put other w (put id v tops)
puts-other [] id other v w h = refl
puts-other (slot ∷ tops) id other v w h =
    ap (λ x. x ∷ put id v (put other w tops)) (puts-head slot id other v w h (nat_eq slot.id id) (nat_eq slot.id other) refl refl)
    ∙ ap (λ xs. (let y : Slot = if nat_eq slot.id id then record slot { value = v } else slot in if nat_eq y.id other then record y { value = w } else y) ∷ xs)
    (puts-other tops id other v w h)

-- another value of one variable spares all others
pub spares-put : (other : ℕ) (w : Val) → SparesAll (put other w) (λ id. nat_eq other id ≡ false)
spares-put other w = record {
  found = λ tops id h. found-other tops id other w h;
  puts = λ tops id v h. puts-other tops id other v w h;
}
