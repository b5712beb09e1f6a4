-- What the walk of an expression accepts has its type by the rules.
use Rattle.std.specs.Prelude.{◌≡◌, refl, ℕ, suc, ◌+◌, ℤ, List, [], ◌∷◌, ◌++◌, length, Bool, true, false, not, ◌&&◌, nat_eq, Option, Some, None}
use Rattle.std.specs.Prelude.{slice_get, if◌then◌else◌}
use Rattle.std.proofs.Common.{ap, ◌∙◌, sym, subst, arith}
use denote.Hole.Carrier.{hidden}
use Rattle.zir_tree.specs.declared.place.Place.{Place}
use Rattle.zir_tree.specs.declared.ident.Ident.{Ident}
use Rattle.zir_tree.specs.declared.types.Base.{Base}
use Rattle.zir_tree.specs.declared.types.Base.TheVariants.{Unit as UnitTy, Bit as BitTy, Bool as BoolTy}
use Rattle.zir_tree.specs.declared.types.Ty.{Ty}
use Rattle.zir_tree.specs.declared.expr.Prefix.{Prefix}
use Rattle.zir_tree.specs.declared.expr.Operator.{Operator}
use Rattle.zir_tree.specs.declared.expr.Expr.{Expr, Unit as UnitLiteral, Bit, Bool as BoolLiteral, Int, Variable, Unary, Unary', Binary, Binary'}
use Rattle.zir_tree.specs.declared.expr.Expr.{Index, Index', Slice, Slice', Part, Part', Call, Call', Array, Array', Convert, Convert', Complex}
use Rattle.zir_tree.specs.declared.expr.Expr.{Complex', Row_of-Expr, end_of-Expr, more_of-Expr}
use Rattle.zir_tree.specs.declared.expr.Expr.TheBlock.{shape-the_row-Expr-0, hidden-the_row-Expr-0, shape-the_row-Expr-1, hidden-the_row-Expr-1}
use Rattle.zir_types.specs.declared.scope.Shape.{Shape}
use Rattle.zir_types.specs.declared.scope.Signature.{Signature}
use Rattle.zir_types.specs.declared.typed.Typed.{Typed}
use Rattle.zir_types.specs.declared.typed.Args.{Args}
use Rattle.zir_types.specs.declared.typed.Called.{Called}
use Rattle.zir_types.specs.declared.typed.Selected.{Selected}
use Rattle.zir_types.specs.declared.error.TypeError.TheVariants.{Mismatch}
use Rattle.zir_types.specs.Walk.{Walk, Fine, and_then}
use Rattle.zir_types.specs.Kinds.{scalar, arr, scalar_of, is_whole, half_of, ruled, prefixes, converts, within, same_ty}
use Rattle.zir_types.specs.Scope.{Visible, Placed, type_in, function_from, shape_from, function_called, struct_called, function_or_struct, called_in, part_in}
use Rattle.zir_types.specs.Expressions.{expr, args, unasked, wanted, kept, lent, asked, signs, joins, is_literal, number_of, int_at, literal_type}
use Rattle.zir_types.specs.Expressions.{variable_at, prefixed, negates, unary, joined_if, joined, sided, index_if, indexed, slice_if, sliced, part_at}
use Rattle.zir_types.specs.Expressions.{selected, converted, is_half, paired, Asks, Alike as AlikeAsked, InTurn, next_asks, asks_after, element_asked}
use Rattle.zir_types.specs.Expressions.{no_args, one_more, agree, called, call, all_same, array_if, gathered}
use Rattle.zir_types.specs.Typing.{Has, Have, Alike, row_length, function_at, struct_at, called_at, ExpressionsAreSound}
use Rattle.zir_types.proofs.Fine.{first_fine, same_fine, held, both}
use Rattle.zir_types.proofs.Agreement.{scalar_is, whole_is, same_ty_is, agree_is}
use Rattle.zir_types.proofs.Operands.{left_unit, right_unit, prefix_unit, convert_unit, half_is}

-- What a walk makes has its type.
abbrev Sound : Visible → Walk Typed → Type 0
Sound g w = (x : Typed) → w ≡ Fine x → Has g x.ty x.what

-- One thing that is made, and has its type.
made : (g : Visible) (t x : Typed) → t ≡ x → Has g t.ty t.what → Has g x.ty x.what
made g t x e h = subst (λ y. Has g y.ty y.what) e h

fine_sound : (g : Visible) (t : Typed) → Has g t.ty t.what → Sound g (Fine t)
fine_sound g t h x e = made g t x (same_fine t x e) h

and_sound : {A : Type 0} (g : Visible) (w : Walk A) (next : A → Walk Typed) → ((y : A) → w ≡ Fine y → Sound g (next y)) → Sound g (and_then w next)
and_sound g w next k x h = let f = first_fine w next x h in k f.0 f.1 x f.2

int_sound : (g : Visible) (b : Base) (n : ℤ) (p : Place) → Sound g (int_at b n p)
int_sound g b n p x h =
    let r = held (within b n) (Mismatch p) (record { what = Int n b p; ty = scalar b }) x h in
    made g _ x r.1 (refl, r.0)

variable_sound : (g : Visible) (o : Option Ty) (n : Ident) → type_in g.variables n.id ≡ o → Sound g (variable_at o n)
variable_sound g None n e x h = absurd cc
variable_sound g (Some t) n e x h = made g (record { what = Variable n; ty = t }) x (same_fine (record { what = Variable n; ty = t }) x h) e

has-Unary : (g : Visible) (t : Ty) (o : Prefix) (b : Base) (e : Expr) (p : Place) → (t ≡ scalar b) × (prefixes o b ≡ true) × Has g (scalar b) e →
    Has g t (Unary o b e p)
unfolding shape-the_row-Expr-0 hidden-the_row-Expr-0 hidden
has-Unary g t o b e p h = h

has-Binary : (g : Visible) (t : Ty) (o : Operator) (k : Base) (a b : Expr) (p : Place) → (r : Base) × (m : Base) × (t ≡ scalar r) × (ruled o k m
    ≡ Some r) × Has g (scalar k) a × Has g (scalar m) b → Has g t (Binary o k a b p)
unfolding shape-the_row-Expr-0 hidden-the_row-Expr-0 hidden
has-Binary g t o k a b p h = h

has-Index : (g : Visible) (t : Ty) (a i : Expr) (p : Place) → (n : ℕ) × (w : Base) × (is_whole w ≡ true) × Has g (arr n t) a × Has g (scalar w) i →
    Has g t (Index a i p)
unfolding shape-the_row-Expr-0 hidden-the_row-Expr-0 hidden
has-Index g t a i p h = h

has-Slice : (g : Visible) (t : Ty) (a i : Expr) (k : ℕ) (p : Place) → (u : Ty) × (n : ℕ) × (w : Base) × (t ≡ arr k u) × (is_whole w
    ≡ true) × Has g (arr n u) a × Has g (scalar w) i → Has g t (Slice a i k p)
unfolding shape-the_row-Expr-0 hidden-the_row-Expr-0 hidden
has-Slice g t a i k p h = h

has-Part : (g : Visible) (t : Ty) (a : Expr) (x : List ℕ) (k : ℕ) (p : Place) → (u : Ty) × (part_in g.shapes u x ≡ Some (record {
  place = k;
  ty = t;
})) × Has g u a → Has g t (Part a x k p)
unfolding shape-the_row-Expr-0 hidden-the_row-Expr-0 hidden
has-Part g t a x k p h = h

has-Convert : (g : Visible) (t : Ty) (b : Base) (e : Expr) (p : Place) → (w : Base) × (t ≡ scalar b) × (converts b w ≡ true) × Has g (scalar w) e →
    Has g t (Convert b e p)
unfolding shape-the_row-Expr-0 hidden-the_row-Expr-0 hidden
has-Convert g t b e p h = h

has-Complex : (g : Visible) (t : Ty) (b : Base) (x y : Expr) (p : Place) → (h : Base) × (t ≡ scalar b) × (half_of b
    ≡ Some h) × Has g (scalar h) x × Has g (scalar h) y → Has g t (Complex b x y p)
unfolding shape-the_row-Expr-0 hidden-the_row-Expr-0 hidden
has-Complex g t b x y p h = h

-- A part whose base is not unit has a type that is no array.
has_scalar : (g : Visible) (t : Typed) → (scalar_of t.ty ≡ UnitTy → ⊥) → Has g t.ty t.what → Has g (scalar (scalar_of t.ty)) t.what
has_scalar g t u h = subst (λ v. Has g v t.what) (scalar_is t.ty.lengths t.ty.base (scalar_of t.ty) refl u) h

prefixed_sound : (g : Visible) (o : Prefix) (p : Place) (t : Typed) → Has g t.ty t.what → Sound g (prefixed o p t)
prefixed_sound g o p t s x h =
    let k = scalar_of t.ty in
    let r = held (prefixes o k) (Mismatch p) (record { what = Unary o k t.what p; ty = scalar k }) x h in
    made g _ x r.1 (has-Unary g (scalar k) o k t.what p (refl, r.0, has_scalar g t (prefix_unit o k r.0) s))

unary_sound : (g : Visible) (n : Option ℤ) (o : Prefix) (w : Ty) (p : Place) (inner : Walk Typed) → Sound g inner → Sound g (unary n o w p inner)
unary_sound g None o w p inner h = and_sound g inner (prefixed o p) (λ t e. prefixed_sound g o p t (h t e))
unary_sound g (Some n) o w p inner h = int_sound g (literal_type w) _ p

joined_if_sound : (g : Visible) (q : Option Base) (o : Operator) (p : Place) (s t : Typed) → ruled o (scalar_of s.ty) (scalar_of t.ty) ≡ q →
    Has g s.ty s.what → Has g t.ty t.what → Sound g (joined_if q o p s t)
joined_if_sound g None o p s t e hs ht x h = absurd cc
joined_if_sound g (Some r) o p s t e hs ht x h =
    let a = scalar_of s.ty in
    let b = scalar_of t.ty in
    let y : Typed = record { what = Binary o a s.what t.what p; ty = scalar r } in
    made g y x (same_fine y x h)
    (has-Binary g (scalar r) o a s.what t.what p (r, b, refl, e, has_scalar g s (left_unit o a b r e) hs, has_scalar g t (right_unit o a b r e) ht))

joined_sound : (g : Visible) (o : Operator) (p : Place) (s t : Typed) → Has g s.ty s.what → Has g t.ty t.what → Sound g (joined o p s t)
joined_sound g o p s t hs ht = joined_if_sound g (ruled o (scalar_of s.ty) (scalar_of t.ty)) o p s t refl hs ht

sided_sound : (g : Visible) (f l m : Bool) (o : Operator) (p : Place) (w : Ty) (a b : Ty → Walk Typed) → ((v : Ty) → Sound g (a v)) → ((v : Ty) →
    Sound g (b v)) → Sound g (sided f l m o p w a b)
sided_sound g true l m o p w a b ha hb =
    and_sound g (b unasked) (λ t. and_then (a (lent t)) (λ s. joined o p s t))
    (λ t et. and_sound g (a (lent t)) (λ s. joined o p s t) (λ s es. joined_sound g o p s t (ha (lent t) s es) (hb unasked t et)))
sided_sound g false l m o p w a b ha hb =
    let v = kept (l && joins o) w in
    and_sound g (a v) (λ s. and_then (b (asked l m o w s)) (joined o p s))
    (λ s es. and_sound g (b (asked l m o w s)) (joined o p s) (λ t et. joined_sound g o p s t (ha v s es) (hb (asked l m o w s) t et)))

array_eq : (s : Ty) (n : ℕ) (ls : List ℕ) (b : Base) → s.lengths ≡ n ∷ ls → s.base ≡ b → s ≡ arr n (record { lengths = ls; base = b })
array_eq s n ls b e f = ap (λ l. let v : Ty = record { lengths = l; base = s.base } in v) e ∙ ap (λ c. let v : Ty = record {
  lengths = n ∷ ls;
  base = c;
} in v) f

index_sound : (g : Visible) (ls : List ℕ) (b : Base) (p : Place) (s t : Typed) → s.ty.lengths ≡ ls → s.ty.base ≡ b → Has g s.ty s.what →
    Has g t.ty t.what → Sound g (index_if ls b (is_whole (scalar_of t.ty)) p s t)
index_sound g [] b p s t e f hs ht x h = absurd cc
index_sound g (n ∷ ls) b p s t e f hs ht x h =
    let k = scalar_of t.ty in
    let u : Ty = record { lengths = ls; base = b } in
    let r = held (is_whole k) (Mismatch p) (record { what = Index s.what t.what p; ty = u }) x h in
    made g _ x r.1
    (has-Index g u s.what t.what p (n, k, r.0, subst (λ v. Has g v s.what) (array_eq s.ty n ls b e f) hs, subst (λ v. Has g v t.what) (whole_is t.ty r.0) ht))

slice_sound : (g : Visible) (ls : List ℕ) (b : Base) (c : ℕ) (p : Place) (s t : Typed) → s.ty.lengths ≡ ls → s.ty.base ≡ b → Has g s.ty s.what →
    Has g t.ty t.what → Sound g (slice_if ls b (is_whole (scalar_of t.ty)) c p s t)
slice_sound g [] b c p s t e f hs ht x h = absurd cc
slice_sound g (n ∷ ls) b c p s t e f hs ht x h =
    let k = scalar_of t.ty in
    let u : Ty = record { lengths = ls; base = b } in
    let r = held (is_whole k) (Mismatch p) (record { what = Slice s.what t.what c p; ty = arr c u }) x h in
    made g _ x r.1
    (has-Slice g (arr c u) s.what t.what c p (u, n, k, refl, r.0, subst (λ v. Has g v s.what) (array_eq s.ty n ls b e f) hs, subst (λ v. Has g v t.what) (whole_is t.ty r.0) ht))

part_sound : (g : Visible) (o : Option Selected) (n : List ℕ) (p : Place) (s : Typed) → part_in g.shapes s.ty n ≡ o → Has g s.ty s.what →
    Sound g (part_at o n p s)
part_sound g None n p s e hs x h = absurd cc
part_sound g (Some f) n p s e hs x h =
    let y : Typed = record { what = Part s.what n f.place p; ty = f.ty } in
    made g y x (same_fine y x h) (has-Part g f.ty s.what n f.place p (s.ty, e, hs))

converted_sound : (g : Visible) (b : Base) (p : Place) (t : Typed) → Has g t.ty t.what → Sound g (converted b p t)
converted_sound g b p t s x h =
    let k = scalar_of t.ty in
    let r = held (converts b k) (Mismatch p) (record { what = Convert b t.what p; ty = scalar b }) x h in
    made g _ x r.1 (has-Convert g (scalar b) b t.what p (k, refl, r.0, has_scalar g t (convert_unit b k r.0) s))

paired_sound : (g : Visible) (b : Base) (p : Place) (s t : Typed) → Has g s.ty s.what → Has g t.ty t.what → Sound g (paired b p s t)
paired_sound g b p s t hs ht x h =
    let k = scalar_of s.ty in
    let m = scalar_of t.ty in
    let r = held (is_half (half_of b) k && is_half (half_of b) m) (Mismatch p) (record { what = Complex b s.what t.what p; ty = scalar b }) x h in
    let c = both (is_half (half_of b) k) (is_half (half_of b) m) r.0 in
    let u = half_is b k c.0 in
    let v = half_is b m c.1 in
    let same : m ≡ k = let e : Some m ≡ Some k = sym v.0 ∙ u.0 in cc in
    made g _ x r.1
    (has-Complex g (scalar b) b s.what t.what p (k, refl, u.0, has_scalar g s u.1 hs, subst (λ z. Has g (scalar z) t.what) same (has_scalar g t v.1 ht)))

-- Expressions so far have their types.
abbrev Each : Visible → List Ty → List Expr → Type 0
Each g [] [] = Unit {0}
Each g [] (e ∷ es) = ⊥
Each g (t ∷ ts) [] = ⊥
Each g (t ∷ ts) (e ∷ es) = Has g t e × Each g ts es

each_more : (g : Visible) (ts : List Ty) (es : List Expr) (t : Ty) (e : Expr) → Each g ts es → Has g t e → Each g (ts ++ t ∷ []) (es ++ e ∷ [])
each_more g [] [] t e h k = (k, tt)
each_more g [] (f ∷ es) t e h k = absurd h
each_more g (u ∷ ts) [] t e h k = absurd h
each_more g (u ∷ ts) (f ∷ es) t e h k = (h.0, each_more g ts es t e h.1 k)

have-list : (g : Visible) (ts : List Ty) (es : List Expr) → Each g ts es → Have g ts (hidden-the_row-Expr-1 es)
unfolding shape-the_row-Expr-1 hidden-the_row-Expr-1 hidden
have-list g [] [] h = tt
have-list g [] (e ∷ es) h = h
have-list g (t ∷ ts) [] h = h
have-list g (t ∷ ts) (e ∷ es) h = (h.0, have-list g ts es h.1)

length-list : (es : List Expr) → row_length (hidden-the_row-Expr-1 es) ≡ length es
unfolding shape-the_row-Expr-1 hidden-the_row-Expr-1 hidden
length-list [] = refl
length-list (e ∷ es) = ap suc (length-list es)

alike-list : (g : Visible) (u : Ty) (ts : List Ty) (es : List Expr) → all_same u ts ≡ true → Each g ts es → Alike g u (hidden-the_row-Expr-1 es)
unfolding shape-the_row-Expr-1 hidden-the_row-Expr-1 hidden
alike-list g u [] [] a h = tt
alike-list g u [] (e ∷ es) a h = absurd h
alike-list g u (t ∷ ts) [] a h = absurd h
alike-list g u (t ∷ ts) (e ∷ es) a h =
    let c = both (same_ty u t) (all_same u ts) a in
    (subst (λ v. Has g v e) (sym (same_ty_is u t c.0)) h.0, alike-list g u ts es c.1 h.1)

array-list : (g : Visible) (t : Ty) (ts : List Ty) (es : List Expr) → all_same t ts ≡ true → Each g (t ∷ ts) es → Alike g t (hidden-the_row-Expr-1 es)
unfolding shape-the_row-Expr-1 hidden-the_row-Expr-1 hidden
array-list g t ts [] a h = absurd h
array-list g t ts (e ∷ es) a h = (h.0, alike-list g t ts es a h.1)

-- A function by its number stands at its place.
function_place : (n : ℕ) (ss : List Signature) (id : ℕ) (f : Placed Signature) → function_from n ss id ≡ Some f → (k : ℕ) × (f.place
    ≡ n + k) × (slice_get ss k ≡ Some f.item)
function_place n [] id f h = absurd cc
function_place n (s ∷ ss) id f h = function_here n s ss id f (nat_eq s.id id) h (function_place (suc n) ss id f)
  where
    function_here : (n : ℕ) (s : Signature) (ss : List Signature) (id : ℕ) (f : Placed Signature) (b : Bool) →
        (if b then Some (record { place = n; item = s }) else function_from (suc n) ss id) ≡ Some f →
        (function_from (suc n) ss id ≡ Some f → (k : ℕ) × (f.place ≡ suc n + k) × (slice_get ss k ≡ Some f.item)) →
        (k : ℕ) × (f.place ≡ n + k) × (slice_get (s ∷ ss) k ≡ Some f.item)
    function_here n s ss id f true h next = let e : record { place = n; item = s } ≡ f = cc in (
      0,
      ap (λ z. z.place) (sym e)
          ∙ omega arith,
      ap (λ z. Some z.item) e,
    )
    function_here n s ss id f false h next = let r = next h in (suc r.0, r.1 ∙ omega arith, r.2)

-- A struct by its number stands at its place.
shape_place : (n : ℕ) (ss : List Shape) (id : ℕ) (f : Placed Shape) → shape_from n ss id ≡ Some f → (k : ℕ) × (f.place ≡ n + k) × (slice_get ss k ≡ Some f.item)
shape_place n [] id f h = absurd cc
shape_place n (s ∷ ss) id f h = shape_here n s ss id f (nat_eq s.id id) h (shape_place (suc n) ss id f)
  where
    shape_here : (n : ℕ) (s : Shape) (ss : List Shape) (id : ℕ) (f : Placed Shape) (b : Bool) →
        (if b then Some (record { place = n; item = s }) else shape_from (suc n) ss id) ≡ Some f →
        (shape_from (suc n) ss id ≡ Some f → (k : ℕ) × (f.place ≡ suc n + k) × (slice_get ss k ≡ Some f.item)) →
        (k : ℕ) × (f.place ≡ n + k) × (slice_get (s ∷ ss) k ≡ Some f.item)
    shape_here n s ss id f true h next = let e : record { place = n; item = s } ≡ f = cc in (
      0,
      ap (λ z. z.place) (sym e)
          ∙ omega arith,
      ap (λ z. Some z.item) e,
    )
    shape_here n s ss id f false h next = let r = next h in (suc r.0, r.1 ∙ omega arith, r.2)

-- What a name means stands at its place.
called_is : (g : Visible) (f : Option (Placed Signature)) (s : Option (Placed Shape)) (id : ℕ) (c : Called) →
    function_from 0 g.functions id ≡ f → shape_from 0 g.shapes id ≡ s → function_or_struct f s ≡ Some c → called_at g c.callee ≡ Some c
called_is g (Some f) s id c hf hs h =
    let r = function_place 0 g.functions id f hf in
    let k : f.place ≡ r.0 = r.1 ∙ omega arith in
    let e : function_called f ≡ c = cc in
    subst (λ z. called_at g z.callee ≡ Some z) e (ap (function_at f.place) (ap (slice_get g.functions) k ∙ r.2))
called_is g None (Some s) id c hf hs h =
    let r = shape_place 0 g.shapes id s hs in
    let k : s.place ≡ r.0 = r.1 ∙ omega arith in
    let e : struct_called s ≡ c = cc in
    subst (λ z. called_at g z.callee ≡ Some z) e (ap (struct_at s.place) (ap (slice_get g.shapes) k ∙ r.2))
called_is g None None id c hf hs h = absurd cc

called_sound : (g : Visible) (f : Ident) (c : Called) (as_ : Args) → called_at g c.callee ≡ Some c → Each g as_.types as_.whats → Sound g (called f c as_)
called_sound g f c as_ e k x h =
    let r = held (agree c.params as_.types) (Mismatch f.at) (record { what = Call f c.callee as_.whats; ty = c.result }) x h in
    made g _ x r.1 (c, e, refl, have-list g c.params as_.whats (subst (λ ts. Each g ts as_.whats) (sym (agree_is c.params as_.types r.0)) k))

call_sound : (g : Visible) (o : Option Called) (f : Ident) (walk : Asks → Walk Args) → called_in g f.id ≡ o → ((a : Asks) (z : Args) → walk a
    ≡ Fine z → Each g z.types z.whats) → Sound g (call o f walk)
call_sound g None f walk e k x h = absurd cc
call_sound g (Some c) f walk e k x h =
    and_sound g (walk (InTurn c.params)) (called f c)
    (λ z q. called_sound g f c z (called_is g (function_from 0 g.functions f.id) (shape_from 0 g.shapes f.id) f.id c refl refl e) (k (InTurn c.params) z q)) x h

has-Array : (g : Visible) (u : Ty) (es : List Expr) (p : Place) → Alike g u (hidden-the_row-Expr-1 es) → Has g (arr (length es) u) (Array es p)
has-Array g u es p h = (u, ap (λ n. arr n u) (sym (length-list es)), h)

array_sound : (g : Visible) (ts : List Ty) (p : Place) (as_ : Args) → as_.types ≡ ts → Each g as_.types as_.whats → Sound g (array_if ts p as_)
array_sound g [] p as_ e k x h = absurd cc
array_sound g (t ∷ ts) p as_ e k x h =
    let r = held (all_same t ts) (Mismatch p) (record { what = Array as_.whats p; ty = arr (length as_.whats) t }) x h in
    made g _ x r.1 (has-Array g t as_.whats p (array-list g t ts as_.whats r.0 (subst (λ us. Each g us as_.whats) e k)))

mutual
  pub sound : ExpressionsAreSound
  sound g w (UnitLiteral p) x h = fine_sound g (record { what = UnitLiteral p; ty = scalar UnitTy }) refl x h
  sound g w (Bit b p) x h = fine_sound g (record { what = Bit b p; ty = scalar BitTy }) refl x h
  sound g w (BoolLiteral b p) x h = fine_sound g (record { what = BoolLiteral b p; ty = scalar BoolTy }) refl x h
  sound g w (Int n b p) x h = int_sound g (literal_type w) n p x h
  sound g w (Variable n) x h = variable_sound g (type_in g.variables n.id) n refl x h
  sound g w (Unary' o b _ (more_of-Expr e end_of-Expr) p) x h =
      let v = kept (signs o && is_literal e) w in
      unary_sound g (negates o (number_of e)) o w p (expr g v e) (sound g v e) x h
  sound g w (Binary' o k _ (more_of-Expr a end_of-Expr) _ (more_of-Expr b end_of-Expr) p) x h =
      sided_sound g (is_literal a && not (is_literal b)) (is_literal a) (is_literal b) o p w (λ v. expr g v a) (λ v. expr g v b) (λ v. sound g v a) (λ v. sound g v b) x h
  sound g w (Index' _ (more_of-Expr a end_of-Expr) _ (more_of-Expr i end_of-Expr) p) x h =
      and_sound g (expr g unasked a) (λ s. and_then (expr g unasked i) (indexed p s)) (λ s es. and_sound g (expr g unasked i) (indexed p s)
      (λ t et. index_sound g s.ty.lengths s.ty.base p s t refl refl (sound g unasked a s es) (sound g unasked i t et))) x h
  sound g w (Slice' _ (more_of-Expr a end_of-Expr) _ (more_of-Expr i end_of-Expr) k p) x h =
      and_sound g (expr g unasked a) (λ s. and_then (expr g unasked i) (sliced k p s)) (λ s es. and_sound g (expr g unasked i) (sliced k p s)
      (λ t et. slice_sound g s.ty.lengths s.ty.base k p s t refl refl (sound g unasked a s es) (sound g unasked i t et))) x h
  sound g w (Part' _ (more_of-Expr a end_of-Expr) n k p) x h =
      and_sound g (expr g unasked a) (selected g n p) (λ s es. part_sound g (part_in g.shapes s.ty n) n p s refl (sound g unasked a s es)) x h
  sound g w (Call' f c _ es) x h = call_sound g (called_in g f.id) f (λ asks. args g asks no_args es) refl (λ asks z q. args_sound g asks no_args es z tt q) x h
  sound g w (Array' _ es p) x h =
      and_sound g (args g (AlikeAsked (element_asked w)) no_args es) (gathered p)
      (λ z q. array_sound g z.types p z refl (args_sound g (AlikeAsked (element_asked w)) no_args es z tt q)) x h
  sound g w (Convert' b _ (more_of-Expr e end_of-Expr) p) x h =
      and_sound g (expr g (wanted (scalar b)) e) (converted b p) (λ t et. converted_sound g b p t (sound g (wanted (scalar b)) e t et)) x h
  sound g w (Complex' b _ (more_of-Expr m end_of-Expr) _ (more_of-Expr n end_of-Expr) p) x h =
      and_sound g (expr g unasked m) (λ s. and_then (expr g unasked n) (paired b p s)) (λ s es. and_sound g (expr g unasked n) (paired b p s)
      (λ t et. paired_sound g b p s t (sound g unasked m s es) (sound g unasked n t et))) x h

  args_sound : (g : Visible) (asks : Asks) (done : Args) {m : _} (es : Row_of-Expr m) (z : Args) → Each g done.types done.whats →
      args g asks done es ≡ Fine z → Each g z.types z.whats
  args_sound g asks done end_of-Expr z k h = subst (λ y. Each g y.types y.whats) (same_fine done z h) k
  args_sound g asks done (more_of-Expr e es) z k h =
      let f = first_fine (expr g (next_asks asks) e) (λ t. args g (asks_after asks) (one_more done t) es) z h in
      args_sound g (asks_after asks) (one_more done f.0) es z (each_more g done.types done.whats f.0.ty f.0.what k (sound g (next_asks asks) e f.0 f.1)) f.2
