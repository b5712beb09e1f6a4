-- Prefixes and conversions at the cells of their operands.
use Rattle.std.specs.Prelude.{ℕ, ℤ, ◌+◌, ◌≤◌, List, [], ◌∷◌, ◌++◌, ◌≡◌, ◌⊎◌, refl}
use Rattle.std.proofs.Common.{sym, subst, arith, inl, inr}
use Rattle.zir_tree.specs.declared.value.Val.{Val, Pair}
use Rattle.zir_tree.specs.declared.types.Base.{Base}
use Rattle.zir_tree.specs.declared.types.Base.TheVariants.{Unit as UnitTy, Bit as BitTy, Bool as BoolTy, Int8, Int16, Int32, Int64, Complex16, Complex32, Struct as StructTy}
use Rattle.zir_tree.specs.declared.expr.Prefix.{Prefix}
use Rattle.zir_tree.specs.declared.expr.Prefix.TheVariants.{Minus, Complement, Not}
use Rattle.zir_meaning.specs.Operators.{negated, prefixed, converted}
use Rattle.zir_meaning.specs.Trace.{State}
use Rattle.zir_meaning.specs.Evaluation.{Eval, Got, then_eval}
use Rattle.zir_cells.specs.Layout.{layout_of}
use Rattle.zir_shapes.specs.Offsets.{plain_type as plain}
use Rattle.zir_expr.specs.declared.complex.ComplexOperation.{ComplexOperation}
use Rattle.zir_expr.specs.declared.complex.ComplexOperation.TheVariants.{Negate as NegateBoth, Convert as ConvertPair}
use Rattle.zir_expr.specs.declared.frame.Spot.{Spot}
use Rattle.zir_expr.specs.declared.scalar.Change.{Change}
use Rattle.zir_expr.specs.declared.frame.Spot.TheVariants.{Local}
use Rattle.zir_expr.specs.declared.steps.Step.{Step, Change as ChangeStep, Complex}
use Rattle.zir_expr.specs.declared.whole.Whole.TheVariants.{Sixteen, ThirtyTwo}
use Rattle.zir_expr.specs.Memory.{cell_at, from_base, place_of}
use Rattle.zir_expr.specs.Memory.Frames.{Memory}
use Rattle.zir_expr.specs.Scalars.{changed, pair_of, complex_operated}
use Rattle.zir_expr.specs.Running.{go_all}
use Rattle.zir_code.specs.Scopes.{Scope}
use Rattle.zir_code.specs.Coding.{change_of, conversion_of, prefix_code, conversion_code}
use Rattle.zir_code.specs.Typing.{IsWholeType, IsComplexType, IsScalar, PrefixFits, ConversionFits}
use Rattle.zir_code.specs.Holding.{StandsAt, Holds, Kept, Agrees}
use Rattle.zir_code.proofs.Agreeing.{go_all-append, ends_then}
use Rattle.zir_code.proofs.Operating.{IsCell, cell_from, changes, converts, scalar_not_complex}
use Rattle.zir_code.proofs.Values.{complex_size, complex_pair, complex_cases, put_value}
use Rattle.zir_code.proofs.Complexes.{complex_goes}

-- what is known of the operand of a prefix or a conversion
pub record Side (top base d n : ℕ) (g : Scope) (u : Base) (x : Spot) (code : List Step) (r : Eval) (m : Memory) (s : State) : Type 0 where
  pub holds : Holds top base d n g m s
  pub one_free : d + 1 ≤ n
  pub first : Agrees top base d g (plain u) x m s r (go_all code base m)

-- what its code leaves goes on to a step that makes something of it
made_of : (top base d n : ℕ) (g : Scope) (u t : Base) (x : Spot) (code last : List Step) (r : Eval) (make : Val → Val) (m : Memory) (s : State) →
    Side top base d n g u x code r m s →
    ((v : Val) (s1 : State) (m1 : Memory) → StandsAt g.structs (plain u) v m1 (place_of base x) → Kept top base d g m m1 s s1 →
    Agrees top base d g (plain t) (Local d) m s (Got (make v) s1) (go_all last base m1)) →
    Agrees top base d g (plain t) (Local d) m s (then_eval r (λ v s'. Got (make v) s')) (go_all (code ++ last) base m)
made_of top base d n g u t x code last r make m s z f =
    subst (λ q. Agrees top base d g (plain t) (Local d) m s (then_eval r (λ v s'. Got (make v) s')) q) (sym (go_all-append code last base m))
    (ends_then (λ v s1 m1. StandsAt g.structs (plain u) v m1 (place_of base x) × Kept top base d g m m1 s s1) (λ s1 m1. Kept top base d g m m1 s s1)
    (λ v s1 m1. StandsAt g.structs (plain t) v m1 (from_base base d) × Kept top base d g m m1 s s1) (λ s1 m1. Kept top base d g m m1 s s1)
    r (go_all code base m) (λ v s1. Got (make v) s1) (go_all last base) (λ s1 m1 k. k) z.first (λ v s1 m1 a. f v s1 m1 a.0 a.1))

-- one cell becomes another
cell_made : (top base d n : ℕ) (g : Scope) (u t : Base) (x : Spot) (code : List Step) (r : Eval) (make : Val → Val) (c : Change) (m : Memory)
    (s : State) → IsScalar u → ((v : Val) (z : ℤ) → IsCell u v z → IsCell t (make v) (changed c z)) → Side top base d n g u x code r m s →
    Agrees top base d g (plain t) (Local d) m s (then_eval r (λ v s'. Got (make v) s')) (go_all (code ++ ChangeStep c (Local d) x ∷ []) base m)
cell_made top base d n g u t x code r make c m s sc f z =
    let h = z.holds in
    made_of top base d n g u t x code (ChangeStep c (Local d) x ∷ []) r make m s z
    (λ v s1 m1 a k. put_value top base d n g t m m1 s s1 (make v) (changed c (cell_at (place_of base x) m1)) h.apart z.one_free h.room h.small
    (f v (cell_at (place_of base x) m1) (cell_from g.structs m1.cells (place_of base x) u v sc a.shape a.cells)) k)

-- a complex number becomes another
pair_made : (top base d n : ℕ) (g : Scope) (u t : Base) (x : Spot) (code : List Step) (r : Eval) (make : Val → Val) (o : ComplexOperation) (m : Memory)
    (s : State) → IsComplexType u → IsComplexType t → d + 2 ≤ n →
    ((a b c e : ℤ) → make (Pair a b) ≡ pair_of (complex_operated o (record { real = a; imaginary = b }) (record { real = c; imaginary = e }))) →
    Side top base d n g u x code r m s →
    Agrees top base d g (plain t) (Local d) m s (then_eval r (λ v s'. Got (make v) s')) (go_all (code ++ Complex o (Local d) x x ∷ []) base m)
pair_made top base d n g u t x code r make o m s c e le f z =
    let h = z.holds in
    made_of top base d n g u t x code (Complex o (Local d) x x ∷ []) r make m s z
    (λ v s1 m1 a k. complex_goes top base d n g t x x o (λ v w. make v) m m1 s s1 v v h.apart le h.room h.small e f
    (complex_pair g.structs v u c a.shape) (complex_pair g.structs v u c a.shape) a.cells a.cells k)

scalar_prefix : (o : Prefix) (u : Base) (x : Spot) (d : ℕ) → IsScalar u → prefix_code o u x d ≡ ChangeStep (change_of o u) (Local d) x
scalar_prefix o UnitTy x d s = refl
scalar_prefix o BitTy x d s = refl
scalar_prefix o BoolTy x d s = refl
scalar_prefix o Int8 x d s = refl
scalar_prefix o Int16 x d s = refl
scalar_prefix o Int32 x d s = refl
scalar_prefix o Int64 x d s = refl
scalar_prefix o Complex16 x d s = absurd (scalar_not_complex Complex16 s tt)
scalar_prefix o Complex32 x d s = absurd (scalar_not_complex Complex32 s tt)
scalar_prefix o (StructTy k) x d s = refl

scalar_conversion : (u : Base) (x : Spot) (d : ℕ) → IsScalar u → conversion_code u x d ≡ ChangeStep (conversion_of u) (Local d) x
scalar_conversion UnitTy x d s = refl
scalar_conversion BitTy x d s = refl
scalar_conversion BoolTy x d s = refl
scalar_conversion Int8 x d s = refl
scalar_conversion Int16 x d s = refl
scalar_conversion Int32 x d s = refl
scalar_conversion Int64 x d s = refl
scalar_conversion Complex16 x d s = absurd (scalar_not_complex Complex16 s tt)
scalar_conversion Complex32 x d s = absurd (scalar_not_complex Complex32 s tt)
scalar_conversion (StructTy k) x d s = refl

scalar_prefixed : (o : Prefix) (top base d n : ℕ) (g : Scope) (u : Base) (x : Spot) (code : List Step) (r : Eval) (m : Memory) (s : State) →
    IsScalar u → PrefixFits o u → Side top base d n g u x code r m s →
    Agrees top base d g (plain u) (Local d) m s (then_eval r (λ v s'. Got (prefixed o u v) s')) (go_all (code ++ prefix_code o u x d ∷ []) base m)
scalar_prefixed o top base d n g u x code r m s sc f z =
    subst (λ step'. Agrees top base d g (plain u) (Local d) m s (then_eval r (λ v s'. Got (prefixed o u v) s')) (go_all (code ++ step' ∷ []) base m))
    (sym (scalar_prefix o u x d sc))
    (cell_made top base d n g u u x code r (prefixed o u) (change_of o u) m s sc (λ v z i. changes o u v z sc f i) z)

complex_prefixed : (top base d n : ℕ) (g : Scope) (x : Spot) (code : List Step) (r : Eval) (m : Memory) (s : State) → d + 2 ≤ n →
    (u : Base) → IsComplexType u → Side top base d n g u x code r m s →
    Agrees top base d g (plain u) (Local d) m s (then_eval r (λ v s'. Got (negated u v) s')) (go_all (code ++ prefix_code Minus u x d ∷ []) base m)
complex_prefixed top base d n g x code r m s le = complex_cases (λ u. Side top base d n g u x code r m s →
    Agrees top base d g (plain u) (Local d) m s (then_eval r (λ v s'. Got (negated u v) s')) (go_all (code ++ prefix_code Minus u x d ∷ []) base m))
    (λ z. pair_made top base d n g Complex16 Complex16 x code r (negated Complex16) (NegateBoth Sixteen) m s tt tt le (λ a b c e. refl) z)
    (λ z. pair_made top base d n g Complex32 Complex32 x code r (negated Complex32) (NegateBoth ThirtyTwo) m s tt tt le (λ a b c e. refl) z)

-- the code of a prefix
pub prefix_agrees : (o : Prefix) (top base d n : ℕ) (g : Scope) (u : Base) (x : Spot) (code : List Step) (r : Eval) (m : Memory) (s : State) →
    d + layout_of g.structs (plain u) ≤ n → PrefixFits o u → Side top base d n g u x code r m s →
    Agrees top base d g (plain u) (Local d) m s (then_eval r (λ v s'. Got (prefixed o u v) s')) (go_all (code ++ prefix_code o u x d ∷ []) base m)
prefix_agrees Minus top base d n g u x code r m s le f z = elim f [
  | inl w ↦ scalar_prefixed Minus top base d n g u x code r m s (inr (inr w)) (inl w) z
  | inr c ↦ (let two : layout_of g.structs (plain u) ≡ 2 = complex_size g.structs u c in
      complex_prefixed top base d n g x code r m s (omega arith) u c z)
]
prefix_agrees Complement top base d n g u x code r m s le f z =
    scalar_prefixed Complement top base d n g u x code r m s (elim f [ inl e ↦ inl e | inr w ↦ inr (inr w) ]) f z
prefix_agrees Not top base d n g u x code r m s le f z = scalar_prefixed Not top base d n g u x code r m s (inr (inl f)) f z

complex_converted : (top base d n : ℕ) (g : Scope) (w : Base) (x : Spot) (code : List Step) (r : Eval) (m : Memory) (s : State) → d + 2 ≤ n →
    IsComplexType w → Side top base d n g w x code r m s → (u : Base) → IsComplexType u →
    Agrees top base d g (plain u) (Local d) m s (then_eval r (λ v s'. Got (converted u v) s')) (go_all (code ++ conversion_code u x d ∷ []) base m)
complex_converted top base d n g w x code r m s le c z = complex_cases
    (λ u. Agrees top base d g (plain u) (Local d) m s (then_eval r (λ v s'. Got (converted u v) s')) (go_all (code ++ conversion_code u x d ∷ []) base m))
    (pair_made top base d n g w Complex16 x code r (converted Complex16) (ConvertPair Sixteen) m s c tt le (λ a b c e. refl) z)
    (pair_made top base d n g w Complex32 x code r (converted Complex32) (ConvertPair ThirtyTwo) m s c tt le (λ a b c e. refl) z)

bits_scalar : (u : Base) → (u ≡ BitTy) ⊎ IsWholeType u → IsScalar u
bits_scalar u (inl e) = inl e
bits_scalar u (inr w) = inr (inr w)

-- the code of a conversion
pub conversion_agrees : (top base d n : ℕ) (g : Scope) (u w : Base) (x : Spot) (code : List Step) (r : Eval) (m : Memory) (s : State) →
    d + layout_of g.structs (plain u) ≤ n → ConversionFits u w → Side top base d n g w x code r m s →
    Agrees top base d g (plain u) (Local d) m s (then_eval r (λ v s'. Got (converted u v) s')) (go_all (code ++ conversion_code u x d ∷ []) base m)
conversion_agrees top base d n g u w x code r m s le f z = elim f [
  | inl h ↦
      subst (λ step'. Agrees top base d g (plain u) (Local d) m s (then_eval r (λ v s'. Got (converted u v) s')) (go_all (code ++ step' ∷ []) base m))
      (sym (scalar_conversion u x d (bits_scalar u h.0)))
      (cell_made top base d n g w u x code r (converted u) (conversion_of u) m s (bits_scalar w h.1) (λ v z i. converts u w v z h i) z)
  | inr h ↦ (let two : layout_of g.structs (plain u) ≡ 2 = complex_size g.structs u h.0 in
      complex_converted top base d n g w x code r m s (omega arith) h.1 z u h.0)
]
