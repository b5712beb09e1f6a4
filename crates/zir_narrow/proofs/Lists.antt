-- Members of a list, as a loop makes them: what is made so far, and what the rest makes.
use Rattle.std.specs.Prelude.{ℕ, ◌≡◌, ◌<◌, ◌≤◌, ◌+◌, List, [], ◌∷◌, ◌++◌, Bool, true, false, nat_eq, refl}
use Rattle.std.proofs.Common.{suc, ap, ◌∙◌, sym, subst, append_assoc, append-nil, drop, length, get_or, add-one, drop-cons, length-drop, arith, eq-eqb}
use Rattle.std.proofs.lemmas.Bool.{ne_eqb}
use Rattle.std.proofs.lemmas.List.{drop_all}
use denote.Hole.Carrier.{hidden}
use Rattle.zir_tree.specs.declared.comp.Comp.TheBlock.{shape-the_row-Member-1, hidden-the_row-Member-1}
use Rattle.zir_tree.specs.declared.comp.Member.{Member}
use Rattle.zir_bit_tree.specs.declared.tree.Member as bit_member
use Rattle.zir_narrow.specs.declared.narrow.NarrowError.{NarrowError}
use Rattle.zir_narrow.proofs.Told.{stops_first}
use Rattle.zir_narrow.specs.Narrow.{Narrow, Fine, Stuck, Stops, and_then, member, members, behind, is_end}

-- whether no member follows
abbrev pub no_more : List Member → Bool
no_more [] = true
no_more (m ∷ ms) = false

-- one member over bits in front of others
abbrev pub in_front : Narrow bit_member.Member → Narrow (List bit_member.Member) → Narrow (List bit_member.Member)
in_front first rest = and_then first (λ m. and_then rest (λ ms. Fine (m ∷ ms)))

-- the members of a list over bits
abbrev pub each : List ℕ → List Member → Narrow (List bit_member.Member)
each bound [] = Fine []
each bound (m ∷ ms) = in_front (member bound (no_more ms) m) (each (behind bound m) ms)

-- these, and then what a walk makes
abbrev pub gathered : List bit_member.Member → Narrow (List bit_member.Member) → Narrow (List bit_member.Member)
gathered made walk = and_then walk (λ more. Fine (made ++ more))

-- one more is made
gathered-more : (made : List bit_member.Member) (y : bit_member.Member) (walk : Narrow (List bit_member.Member)) →
    gathered made (and_then walk (λ ys. Fine (y ∷ ys))) ≡ gathered (made ++ y ∷ []) walk
gathered-more made y (Fine ys) = ap Fine (sym (append_assoc made (y ∷ []) ys))
gathered-more made y (Stuck at) = refl

-- a row of a list ends where the list does
is_end-list : (ms : List Member) → is_end (hidden-the_row-Member-1 ms) ≡ no_more ms
unfolding shape-the_row-Member-1 hidden-the_row-Member-1 hidden
is_end-list [] = refl
is_end-list (m ∷ ms) = refl

-- the members of the row of a list
pub members-list : (bound : List ℕ) (ms : List Member) → members bound (hidden-the_row-Member-1 ms) ≡ each bound ms
unfolding shape-the_row-Member-1 hidden-the_row-Member-1 hidden
members-list bound [] = refl
members-list bound (m ∷ ms) = λ i. in_front (member bound (is_end-list ms i) m) (members-list (behind bound m) ms i)

-- at a member of a list: it, and those behind it
at_member : (ms : List Member) (i : ℕ) (m : Member) → i < length ms → m ≡ get_or ms i m → drop i ms ≡ m ∷ drop (i + 1) ms
at_member ms i m h e = rw add-one (drop-cons ms i m h ∙ ap (λ x. x ∷ drop (suc i) ms) (sym e))

-- what follows a member tells whether its place is the last
last_before : (ms : List Member) (i : ℕ) (rest : List Member) → i < length ms → drop (i + 1) ms ≡ rest → nat_eq (i + 1) (length ms) ≡ no_more rest
last_before ms i [] h e = eq-eqb (i + 1) (length ms) (omega (arith, length-drop (i + 1) ms, ap length e))
last_before ms i (m ∷ rest) h e = ne_eqb (i + 1) (length ms) (λ same. omega (arith, same, length-drop (i + 1) ms, ap length e))

-- in a block, at a member that is not reached yet: what is made so far, and what it and the rest make
pub at_block : (bound : List ℕ) (ms : List Member) (made : List bit_member.Member) (i : ℕ) (m : Member) (walk : Narrow (List bit_member.Member)) →
    i < length ms → m ≡ get_or ms i m → walk ≡ gathered made (each bound (drop i ms)) →
    walk ≡ gathered made (in_front (member bound (nat_eq (i + 1) (length ms)) m) (each (behind bound m) (drop (i + 1) ms)))
at_block bound ms made i m walk h e w =
    w
    ∙ ap (λ xs. gathered made (each bound xs)) (at_member ms i m h e)
    ∙ ap (λ last. gathered made (in_front (member bound last m) (each (behind bound m) (drop (i + 1) ms)))) (sym (last_before ms i (drop (i + 1) ms) h refl))

-- a member over bits, behind those that are made
pub block_more : (bound : List ℕ) (ms : List Member) (made : List bit_member.Member) (i : ℕ) (m : Member) (y : bit_member.Member)
    (walk : Narrow (List bit_member.Member)) →
    i < length ms → m ≡ get_or ms i m → walk ≡ gathered made (each bound (drop i ms)) → member bound (nat_eq (i + 1) (length ms)) m ≡ Fine y →
    walk ≡ gathered (made ++ y ∷ []) (each (behind bound m) (drop (i + 1) ms))
block_more bound ms made i m y walk h e w f =
    at_block bound ms made i m walk h e w
    ∙ ap (λ x. gathered made (in_front x (each (behind bound m) (drop (i + 1) ms)))) f
    ∙ gathered-more made y (each (behind bound m) (drop (i + 1) ms))

-- a member that is none over bits stops the block
pub block_stops : (bound : List ℕ) (ms : List Member) (made : List bit_member.Member) (i : ℕ) (m : Member) (error : NarrowError)
    (walk : Narrow (List bit_member.Member)) →
    i < length ms → m ≡ get_or ms i m → walk ≡ gathered made (each bound (drop i ms)) →
    Stops (member bound (nat_eq (i + 1) (length ms)) m) error → Stops walk error
block_stops bound ms made i m error walk h e w f =
    subst (λ x. Stops x error) (sym (at_block bound ms made i m walk h e w))
    (stops_first (in_front (member bound (nat_eq (i + 1) (length ms)) m) (each (behind bound m) (drop (i + 1) ms))) (λ more. Fine (made ++ more)) error
    (stops_first (member bound (nat_eq (i + 1) (length ms)) m) (λ x. and_then (each (behind bound m) (drop (i + 1) ms)) (λ xs. Fine (x ∷ xs))) error f))

-- behind the last member
pub block_end : (bound : List ℕ) (ms : List Member) (made : List bit_member.Member) (i : ℕ) (walk : Narrow (List bit_member.Member)) →
    length ms ≤ i → walk ≡ gathered made (each bound (drop i ms)) → walk ≡ Fine made
block_end bound ms made i walk h w = w ∙ ap (λ xs. gathered made (each bound xs)) (drop_all i ms h) ∙ ap Fine (append-nil made)
