-- The nodes of a component.
use Rattle.std.specs.Prelude.{ℕ, zero, suc, ◌+◌, ◌<◌, ◌≡◌, refl, List, [], ◌∷◌, ◌++◌, map, take, get_or, length}
use Rattle.std.proofs.Common.{ap, sym, ◌∙◌, arith}
use Rattle.std.specs.declared.vec.Vec.{Vec}
use Rattle.std.specs.declared.alloc.Global.{Global}
use Rattle.zir_bit_tree.specs.declared.tree.Comp.{Comp, Block as BlockComp}
use Rattle.zir_bit_tree.specs.declared.tree.Member.{Member}
use Rattle.zir_machine.specs.declared.node.Node.{Block}
use Rattle.zir_machine.specs.declared.node.Part.{Part}
use Rattle.zir_machine.specs.declared.progress.Span.{Span}
use Rattle.zir_machine.specs.Understood.{members_of}
use Rattle.zir_machine.specs.Nodes.{held, comp_of}
use Rattle.zir_machine.proofs.Levels.{meant-Block}

-- one more part is one more member
members_append : (ps : List Part) (p : Part) → members_of (map held (ps ++ p ∷ [])) ≡ members_of (map held ps) ++ record { bound = (held p).bound; what = (held p).meant.what } ∷ []
members_append [] p = refl
members_append (q ∷ ps) p = ap (λ ms. record { bound = (held q).bound; what = (held q).meant.what } ∷ ms) (members_append ps p)

-- one more member from the front
take_one : (ms : List Member) (i : ℕ) (d : Member) → i < length ms → take (suc i) ms ≡ take i ms ++ get_or ms i d ∷ []
take_one [] i d h = absurd (omega arith)
take_one (m ∷ []) zero d h = refl
take_one (m ∷ n ∷ ms) zero d h = refl
take_one (m ∷ ms) (suc i) d h = ap (λ ms. m ∷ ms) (take_one ms i d (omega arith))

-- one more part
pub built_one : (ps : List Part) (ms : List Member) (i : ℕ) (p : Part) (m d : Member) → i < length ms → m ≡ get_or ms i d → members_of (map held ps) ≡ take i ms →
    (held p).bound ≡ m.bound → (held p).meant.what ≡ m.what → members_of (map held (ps ++ p ∷ [])) ≡ take (i + 1) ms
built_one ps ms i p m d h e k b w =
    let one : suc i ≡ i + 1 = omega arith in
    members_append ps p
    ∙ ap (λ ms. ms ++ record { bound = (held p).bound; what = (held p).meant.what } ∷ []) k
    ∙ ap (λ b. take i ms ++ record { bound = b; what = (held p).meant.what } ∷ []) b
    ∙ ap (λ w. take i ms ++ record { bound = m.bound; what = w } ∷ []) w
    ∙ ap (λ m. take i ms ++ m ∷ []) e
    ∙ sym (take_one ms i d h)
    ∙ ap (λ n. take n ms) one

-- a block of these parts
pub built_block : (v : Vec Part Global) (span : Span) (ms : List Member) (c : Comp) → c ≡ BlockComp ms span.place → members_of (map held v.items) ≡ ms → comp_of (Block v span) ≡ c
built_block v span ms c e h = ap (λ r. r.what) (meant-Block v span) ∙ ap (λ ms. BlockComp ms span.place) h ∙ sym e
