-- What the tests of types say of types.
use Rattle.std.specs.Prelude.{◌≡◌, refl, ℕ, List, [], ◌∷◌, true, nat_eq}
use Rattle.std.proofs.Common.{ap, ◌∙◌, sym}
use Rattle.std.proofs.lemmas.Bool.{eqb-true}
use Rattle.zir_tree.specs.declared.types.Base.{Base}
use Rattle.zir_tree.specs.declared.types.Base.TheVariants.{Unit as UnitTy, Bit as BitTy, Bool as BoolTy, Int8, Int16, Int32, Int64, Complex16}
use Rattle.zir_tree.specs.declared.types.Base.TheVariants.{Complex32, Struct as StructTy}
use Rattle.zir_tree.specs.declared.types.Ty.{Ty}
use Rattle.zir_types.specs.Kinds.{scalar, scalar_if, scalar_of, is_whole, same_base, same_lengths, same_ty}
use Rattle.zir_types.specs.Expressions.{agree}
use Rattle.zir_types.proofs.Fine.{both}

-- A type whose base counts as one that is not unit is no array.
pub scalar_is : (ls : List ℕ) (b c : Base) → scalar_if ls b ≡ c → (c ≡ UnitTy → ⊥) → let t : Ty = record { lengths = ls; base = b } in t ≡ scalar c
scalar_is [] b c h u = ap scalar h
scalar_is (n ∷ ls) b c h u = absurd (u (sym h))

pub whole_unit : (c : Base) → is_whole c ≡ true → c ≡ UnitTy → ⊥
whole_unit c h e = let f : is_whole UnitTy ≡ true = ap is_whole (sym e) ∙ h in absurd cc

pub whole_is : (t : Ty) → is_whole (scalar_of t) ≡ true → t ≡ scalar (scalar_of t)
whole_is t h = scalar_is t.lengths t.base (scalar_of t) refl (whole_unit (scalar_of t) h)

pub same_base_is : (a b : Base) → same_base a b ≡ true → a ≡ b
same_base_is UnitTy UnitTy h = refl
same_base_is BitTy BitTy h = refl
same_base_is BoolTy BoolTy h = refl
same_base_is Int8 Int8 h = refl
same_base_is Int16 Int16 h = refl
same_base_is Int32 Int32 h = refl
same_base_is Int64 Int64 h = refl
same_base_is Complex16 Complex16 h = refl
same_base_is Complex32 Complex32 h = refl
same_base_is (StructTy k) (StructTy l) h = ap StructTy (eqb-true k l h)
same_base_is _ _ h = absurd cc

same_lengths_is : (a b : List ℕ) → same_lengths a b ≡ true → a ≡ b
same_lengths_is [] [] h = refl
same_lengths_is [] (n ∷ b) h = absurd cc
same_lengths_is (m ∷ a) [] h = absurd cc
same_lengths_is (m ∷ a) (n ∷ b) h =
    let c = both (nat_eq m n) (same_lengths a b) h in
    ap (λ k. k ∷ a) (eqb-true m n c.0) ∙ ap (λ l. n ∷ l) (same_lengths_is a b c.1)

pub same_ty_is : (a b : Ty) → same_ty a b ≡ true → a ≡ b
same_ty_is a b h =
    let c = both (same_lengths a.lengths b.lengths) (same_base a.base b.base) h in
    ap (λ l. let v : Ty = record { lengths = l; base = a.base } in v) (same_lengths_is a.lengths b.lengths c.0)
    ∙ ap (λ k. let v : Ty = record { lengths = b.lengths; base = k } in v) (same_base_is a.base b.base c.1)

pub agree_is : (ps ts : List Ty) → agree ps ts ≡ true → ps ≡ ts
agree_is [] [] h = refl
agree_is [] (t ∷ ts) h = absurd cc
agree_is (p ∷ ps) [] h = absurd cc
agree_is (p ∷ ps) (t ∷ ts) h =
    let c = both (same_ty p t) (agree ps ts) h in
    ap (λ k. k ∷ ps) (same_ty_is p t c.0) ∙ ap (λ l. t ∷ l) (agree_is ps ts c.1)
