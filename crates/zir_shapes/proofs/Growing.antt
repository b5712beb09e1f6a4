-- The shapes of the first structs are among those of more of them.
use Rattle.std.specs.Prelude.{ℕ, zero, suc, ◌+◌, ◌<◌, ◌≤◌, List, [], ◌∷◌, ◌≡◌, refl, take, length, Some, slice_get}
use Rattle.std.proofs.Common.{sym, ap, ◌∙◌, arith, subst}
use Rattle.std.proofs.lemmas.Bool.{eq-eqb, ne_eqb}
use Rattle.zir_tree.specs.declared.value.Val.{Val}
use Rattle.zir_tree.specs.declared.types.Base.{Base}
use Rattle.zir_tree.specs.declared.types.Base.TheVariants.{Unit as UnitTy, Bit as BitTy, Bool as BoolTy, Int8, Int16, Int32, Int64, Complex16, Complex32, Struct as StructTy}
use Rattle.zir_tree.specs.declared.types.FieldDef.{FieldDef}
use Rattle.zir_tree.specs.declared.types.StructDef.{StructDef}
use Rattle.zir_meaning.specs.Values.{Kinds, Each, no_kinds, either_holds}
use Rattle.zir_shapes.specs.Shapes.{BaseShape, LengthsShape, FieldsShape, StructShape, one_more_shape, more_shapes, shapes_of, StructsBefore, FieldsBefore, OrderedFrom}
use Rattle.zir_shapes.proofs.Fitting.{structs-fit, none-fit}

-- the shapes of a struct before these
shape-before : (ds : List StructDef) (kinds : Kinds) (n k : ℕ) (v : Val) → k < n → more_shapes kinds n ds k v ≡ kinds k v
shape-before [] kinds n k v lt = refl
shape-before (d ∷ ds) kinds n k v lt =
    shape-before ds (one_more_shape kinds n d) (suc n) k v (omega arith)
    ∙ ap (λ b. either_holds b (StructShape kinds d.fields v) (kinds k v)) (ne_eqb k n (λ e. absurd (omega arith)))

-- the shape of one of these is over those before it
shape-at : (ds : List StructDef) (kinds : Kinds) (n k : ℕ) (d : StructDef) (v : Val) → slice_get ds k ≡ Some d →
    more_shapes kinds n ds (n + k) v ≡ StructShape (more_shapes kinds n (take k ds)) d.fields v
shape-at [] kinds n k d v e = absurd (cc)
shape-at (c ∷ ds) kinds n zero d v e =
    let z : n + 0 ≡ n = omega arith in
    let q : c ≡ d = cc in
    ap (λ m. more_shapes kinds n (c ∷ ds) m v) z
    ∙ shape-before ds (one_more_shape kinds n c) (suc n) n v (omega arith)
    ∙ ap (λ b. either_holds b (StructShape kinds c.fields v) (kinds n v)) (eq-eqb n n refl)
    ∙ ap (λ c. StructShape kinds c.fields v) q
shape-at (c ∷ ds) kinds n (suc k) d v e =
    let z : n + suc k ≡ suc n + k = omega arith in
    ap (λ m. more_shapes kinds n (c ∷ ds) m v) z ∙ shape-at ds (one_more_shape kinds n c) (suc n) k d v e

-- below a place the structs from there on do not matter
shape-take : (ds : List StructDef) (kinds : Kinds) (n j k : ℕ) (v : Val) → k < n + j → more_shapes kinds n (take j ds) k v ≡ more_shapes kinds n ds k v
shape-take [] kinds n zero k v lt = refl
shape-take [] kinds n (suc j) k v lt = refl
shape-take (d ∷ ds) kinds n zero k v lt = sym (shape-before (d ∷ ds) kinds n k v (omega arith))
shape-take (d ∷ ds) kinds n (suc j) k v lt = shape-take ds (one_more_shape kinds n d) (suc n) j k v (omega arith)

-- the shapes of the structs before a place
abbrev pub earlier : List StructDef → ℕ → Kinds
earlier ds j = shapes_of (take j ds)

-- there are as many at the most
length-earlier : (ds : List StructDef) (j : ℕ) → length (take j ds) ≤ j
length-earlier ds zero = omega arith
length-earlier [] (suc j) = omega arith
length-earlier (d ∷ ds) (suc j) = omega (arith, length-earlier ds j)

-- and of no other struct is there a value
earlier-below : (ds : List StructDef) (j k : ℕ) (v : Val) → earlier ds j k v → k < j
earlier-below ds j k v h = omega (arith, (structs-fit (take j ds) no_kinds 0 [] none-fit).within k v h, length-earlier ds j)

-- from one statement to an equal one
by-path : (P Q : Type 0) → P ≡ Q → P → Q
by-path P Q e h = subst (λ (X : Type 0). X) e h

-- a struct has its shape over those before it
pub struct-at : (ds : List StructDef) (j : ℕ) (d : StructDef) (v : Val) → slice_get ds j ≡ Some d → shapes_of ds j v →
    StructShape (earlier ds j) d.fields v
struct-at ds j d v e h =
    let z : j ≡ 0 + j = omega arith in
    by-path (shapes_of ds j v) (StructShape (earlier ds j) d.fields v) (ap (λ m. shapes_of ds m v) z ∙ shape-at ds no_kinds 0 j d v e) h

-- and the other way
pub struct-from : (ds : List StructDef) (j : ℕ) (d : StructDef) (v : Val) → slice_get ds j ≡ Some d →
    StructShape (earlier ds j) d.fields v → shapes_of ds j v
struct-from ds j d v e h =
    let z : j ≡ 0 + j = omega arith in
    by-path (StructShape (earlier ds j) d.fields v) (shapes_of ds j v) (sym (ap (λ m. shapes_of ds m v) z ∙ shape-at ds no_kinds 0 j d v e)) h

-- a struct before a place has its shape
pub earlier-grows : (ds : List StructDef) (j k : ℕ) (v : Val) → earlier ds j k v → shapes_of ds k v
earlier-grows ds j k v h =
    by-path (earlier ds j k v) (shapes_of ds k v) (shape-take ds no_kinds 0 j k v (omega (arith, earlier-below ds j k v h))) h

-- and the other way
earlier-from : (ds : List StructDef) (j k : ℕ) (v : Val) → k < j → shapes_of ds k v → earlier ds j k v
earlier-from ds j k v lt h = by-path (shapes_of ds k v) (earlier ds j k v) (sym (shape-take ds no_kinds 0 j k v (omega arith))) h

-- where there is another value of the struct before the place
pub earlier-likewise : (ds : List StructDef) (j k : ℕ) (w v : Val) → earlier ds j k w → shapes_of ds k v → earlier ds j k v
earlier-likewise ds j k w v h g = earlier-from ds j k v (earlier-below ds j k w h) g

-- where each value is so, each is what follows of it
each-map : (P Q : Val → Type 0) → ((v : Val) → P v → Q v) → (vs : List Val) → Each P vs → Each Q vs
each-map P Q f [] h = tt
each-map P Q f (v ∷ vs) h = (f v h.0, each-map P Q f vs h.1)

base-grows : (kinds more : Kinds) → ((k : ℕ) (v : Val) → kinds k v → more k v) → (b : Base) (v : Val) → BaseShape kinds b v → BaseShape more b v
base-grows kinds more f UnitTy v h = h
base-grows kinds more f BitTy v h = h
base-grows kinds more f BoolTy v h = h
base-grows kinds more f Int8 v h = h
base-grows kinds more f Int16 v h = h
base-grows kinds more f Int32 v h = h
base-grows kinds more f Int64 v h = h
base-grows kinds more f Complex16 v h = h
base-grows kinds more f Complex32 v h = h
base-grows kinds more f (StructTy k) v h = f k v h

-- shapes over some structs are shapes over more of them
pub lengths-grow : (kinds more : Kinds) → ((k : ℕ) (v : Val) → kinds k v → more k v) → (ns : List ℕ) (b : Base) (v : Val) →
    LengthsShape kinds ns b v → LengthsShape more ns b v
lengths-grow kinds more f [] b v h = base-grows kinds more f b v h
lengths-grow kinds more f (n ∷ ns) b v h =
    (h.0, h.1, h.2, each-map (LengthsShape kinds ns b) (LengthsShape more ns b) (lengths-grow kinds more f ns b) h.0 h.3)

pub fields-grow : (kinds more : Kinds) → ((k : ℕ) (v : Val) → kinds k v → more k v) → (fs : List FieldDef) (vs : List Val) →
    FieldsShape kinds fs vs → FieldsShape more fs vs
fields-grow kinds more f [] [] h = tt
fields-grow kinds more f [] (v ∷ vs) h = absurd h
fields-grow kinds more f (d ∷ fs) [] h = absurd h
fields-grow kinds more f (d ∷ fs) (v ∷ vs) h =
    (lengths-grow kinds more f d.ty.lengths d.ty.base v h.0, fields-grow kinds more f fs vs h.1)

base-likewise : (kinds more : Kinds) → ((k : ℕ) (w v : Val) → kinds k w → more k v → kinds k v) → (b : Base) (w v : Val) →
    BaseShape kinds b w → BaseShape more b v → BaseShape kinds b v
base-likewise kinds more f UnitTy w v h g = g
base-likewise kinds more f BitTy w v h g = g
base-likewise kinds more f BoolTy w v h g = g
base-likewise kinds more f Int8 w v h g = g
base-likewise kinds more f Int16 w v h g = g
base-likewise kinds more f Int32 w v h g = g
base-likewise kinds more f Int64 w v h g = g
base-likewise kinds more f Complex16 w v h g = g
base-likewise kinds more f Complex32 w v h g = g
base-likewise kinds more f (StructTy k) w v h g = f k w v h g

-- of as many values each is so, where one that is so makes it of any
each-likewise : (P Q : Val → Type 0) → ((w v : Val) → P w → Q v → P v) → (ws vs : List Val) → length ws ≡ length vs →
    Each P ws → Each Q vs → Each P vs
each-likewise P Q f ws [] e h g = tt
each-likewise P Q f [] (v ∷ vs) e h g = absurd (omega (arith, e))
each-likewise P Q f (w ∷ ws) (v ∷ vs) e h g = (f w v h.0 g.0, each-likewise P Q f ws vs (omega (arith, e)) h.1 g.1)

-- where one value has a shape over some structs, another of that shape over more has it over these
pub lengths-likewise : (kinds more : Kinds) → ((k : ℕ) (w v : Val) → kinds k w → more k v → kinds k v) → (ns : List ℕ) (b : Base) (w v : Val) →
    LengthsShape kinds ns b w → LengthsShape more ns b v → LengthsShape kinds ns b v
lengths-likewise kinds more f [] b w v h g = base-likewise kinds more f b w v h g
lengths-likewise kinds more f (n ∷ ns) b w v h g = (
  g.0,
  g.1,
  g.2,
  each-likewise (LengthsShape kinds ns b) (LengthsShape more ns b) (lengths-likewise kinds more f ns b) h.0 g.0 (h.2 ∙ sym g.2) h.3 g.3,
)

base-earlier : (ds : List StructDef) (j : ℕ) (b : Base) (v : Val) → StructsBefore j b → BaseShape (shapes_of ds) b v → BaseShape (earlier ds j) b v
base-earlier ds j UnitTy v lt h = h
base-earlier ds j BitTy v lt h = h
base-earlier ds j BoolTy v lt h = h
base-earlier ds j Int8 v lt h = h
base-earlier ds j Int16 v lt h = h
base-earlier ds j Int32 v lt h = h
base-earlier ds j Int64 v lt h = h
base-earlier ds j Complex16 v lt h = h
base-earlier ds j Complex32 v lt h = h
base-earlier ds j (StructTy k) v lt h = earlier-from ds j k v lt h

lengths-earlier : (ds : List StructDef) (j : ℕ) (ns : List ℕ) (b : Base) (v : Val) → StructsBefore j b → LengthsShape (shapes_of ds) ns b v →
    LengthsShape (earlier ds j) ns b v
lengths-earlier ds j [] b v lt h = base-earlier ds j b v lt h
lengths-earlier ds j (n ∷ ns) b v lt h = (
  h.0,
  h.1,
  h.2,
  each-map (LengthsShape (shapes_of ds) ns b) (LengthsShape (earlier ds j) ns b) (λ w g. lengths-earlier ds j ns b w lt g) h.0 h.3,
)

-- fields that name structs before a place alone have their shapes over these
pub fields-earlier : (ds : List StructDef) (j : ℕ) (fs : List FieldDef) (vs : List Val) → FieldsBefore j fs → FieldsShape (shapes_of ds) fs vs →
    FieldsShape (earlier ds j) fs vs
fields-earlier ds j [] [] lt h = tt
fields-earlier ds j [] (v ∷ vs) lt h = absurd h
fields-earlier ds j (f ∷ fs) [] lt h = absurd h
fields-earlier ds j (f ∷ fs) (v ∷ vs) lt h =
    (lengths-earlier ds j f.ty.lengths f.ty.base v lt.0 h.0, fields-earlier ds j fs vs lt.1 h.1)

-- the fields of one of these structs
pub ordered-at : (n : ℕ) (ds : List StructDef) → OrderedFrom n ds → (k : ℕ) (d : StructDef) → slice_get ds k ≡ Some d → FieldsBefore (n + k) d.fields
ordered-at n [] h k d e = absurd (cc)
ordered-at n (c ∷ ds) h zero d e =
    let z : n ≡ n + 0 = omega arith in
    let q : c ≡ d = cc in
    subst (λ d. FieldsBefore (n + 0) d.fields) q (subst (λ m. FieldsBefore m c.fields) z h.0)
ordered-at n (c ∷ ds) h (suc k) d e =
    let z : suc n + k ≡ n + suc k = omega arith in
    subst (λ m. FieldsBefore m d.fields) z (ordered-at (suc n) ds h.1 k d e)
