-- The array literals that the walk of expressions makes have elements.
use Rattle.std.specs.Prelude.{◌≡◌, refl, ◌≤◌, ℕ, suc, ℤ, List, [], ◌∷◌, ◌++◌, length, Bool, true, false, not, ◌&&◌, Option, Some, None}
use Rattle.std.proofs.Common.{ap, ◌∙◌, sym, subst, arith}
use denote.Hole.Carrier.{hidden}
use Rattle.zir_tree.specs.declared.place.Place.{Place}
use Rattle.zir_tree.specs.declared.ident.Ident.{Ident}
use Rattle.zir_tree.specs.declared.types.Base.{Base}
use Rattle.zir_tree.specs.declared.types.Base.TheVariants.{Unit as UnitTy, Bit as BitTy, Bool as BoolTy}
use Rattle.zir_tree.specs.declared.types.Ty.{Ty}
use Rattle.zir_tree.specs.declared.expr.Prefix.{Prefix}
use Rattle.zir_tree.specs.declared.expr.Operator.{Operator}
use Rattle.zir_tree.specs.declared.expr.Callee.{Callee}
use Rattle.zir_tree.specs.declared.expr.Expr.{Expr, Unit as UnitLiteral, Bit, Bool as BoolLiteral, Int, Variable, Unary, Unary', Binary, Binary'}
use Rattle.zir_tree.specs.declared.expr.Expr.{Index, Index', Slice, Slice', Part, Part', Call, Call', Array, Array', Convert, Convert', Complex}
use Rattle.zir_tree.specs.declared.expr.Expr.{Complex', Row_of-Expr, end_of-Expr, more_of-Expr}
use Rattle.zir_tree.specs.declared.expr.Expr.TheBlock.{shape-the_row-Expr-0, hidden-the_row-Expr-0, shape-the_row-Expr-1, hidden-the_row-Expr-1}
use Rattle.zir_types.specs.declared.typed.Typed.{Typed}
use Rattle.zir_types.specs.declared.typed.Args.{Args}
use Rattle.zir_types.specs.declared.typed.Called.{Called}
use Rattle.zir_types.specs.declared.typed.Selected.{Selected}
use Rattle.zir_types.specs.declared.error.TypeError.TheVariants.{Mismatch}
use Rattle.zir_types.specs.Walk.{Walk, Fine, and_then}
use Rattle.zir_types.specs.Kinds.{scalar, arr, scalar_of, is_whole, half_of, ruled, prefixes, converts, within}
use Rattle.zir_types.specs.Scope.{Visible, type_in, called_in, part_in}
use Rattle.zir_types.specs.Expressions.{expr, args, args_of, unasked, wanted, kept, lent, asked, signs, joins, is_literal, number_of, int_at, literal_type}
use Rattle.zir_types.specs.Expressions.{variable_at, prefixed, negates, unary, joined_if, joined, sided, index_if, indexed, slice_if, sliced, part_at}
use Rattle.zir_types.specs.Expressions.{selected, converted, is_half, paired, Asks, Alike, InTurn, next_asks, asks_after, element_asked}
use Rattle.zir_types.specs.Expressions.{no_args, one_more, agree, called, call, all_same, array_if, gathered}
use Rattle.zir_types.specs.Typing.{row_length}
use Rattle.zir_types.proofs.Fine.{first_fine, same_fine, held}
use Rattle.zir_typed_code.specs.Forming.{IsFilled, AreFilled, AllFilled}

-- What a walk makes is filled.
abbrev Fills : Walk Typed → Type 0
Fills w = (x : Typed) → w ≡ Fine x → IsFilled x.what

made : (t x : Typed) → t ≡ x → IsFilled t.what → IsFilled x.what
made t x e h = subst (λ (y : Typed). IsFilled y.what) e h

and_fills : {A : Type 0} (w : Walk A) (next : A → Walk Typed) → ((y : A) → w ≡ Fine y → Fills (next y)) → Fills (and_then w next)
and_fills {A} w next k x h = let f = first_fine w next x h in k f.0 f.1 x f.2

fine_fills : (t : Typed) → IsFilled t.what → Fills (Fine t)
fine_fills t h x e = made t x (same_fine t x e) h

int_fills : (b : Base) (n : ℤ) (p : Place) → Fills (int_at b n p)
int_fills b n p x h = let r = held (within b n) (Mismatch p) (record { what = Int n b p; ty = scalar b }) x h in made _ x r.1 tt

variable_fills : (o : Option Ty) (n : Ident) → Fills (variable_at o n)
variable_fills None n x h = absurd cc
variable_fills (Some t) n x h = made _ x (same_fine (record { what = Variable n; ty = t }) x h) tt

filled-Unary : (o : Prefix) (b : Base) (e : Expr) (p : Place) → IsFilled e → IsFilled (Unary o b e p)
unfolding shape-the_row-Expr-0 hidden-the_row-Expr-0 hidden
filled-Unary o b e p h = h

filled-Binary : (o : Operator) (k : Base) (a b : Expr) (p : Place) → IsFilled a → IsFilled b → IsFilled (Binary o k a b p)
unfolding shape-the_row-Expr-0 hidden-the_row-Expr-0 hidden
filled-Binary o k a b p h l = (h, l)

filled-Index : (a i : Expr) (p : Place) → IsFilled a → IsFilled i → IsFilled (Index a i p)
unfolding shape-the_row-Expr-0 hidden-the_row-Expr-0 hidden
filled-Index a i p h l = (h, l)

filled-Slice : (a i : Expr) (k : ℕ) (p : Place) → IsFilled a → IsFilled i → IsFilled (Slice a i k p)
unfolding shape-the_row-Expr-0 hidden-the_row-Expr-0 hidden
filled-Slice a i k p h l = (h, l)

filled-Part : (a : Expr) (x : List ℕ) (k : ℕ) (p : Place) → IsFilled a → IsFilled (Part a x k p)
unfolding shape-the_row-Expr-0 hidden-the_row-Expr-0 hidden
filled-Part a x k p h = h

filled-Convert : (b : Base) (e : Expr) (p : Place) → IsFilled e → IsFilled (Convert b e p)
unfolding shape-the_row-Expr-0 hidden-the_row-Expr-0 hidden
filled-Convert b e p h = h

filled-Complex : (b : Base) (x y : Expr) (p : Place) → IsFilled x → IsFilled y → IsFilled (Complex b x y p)
unfolding shape-the_row-Expr-0 hidden-the_row-Expr-0 hidden
filled-Complex b x y p h l = (h, l)

filled-list : (es : List Expr) → AllFilled es → AreFilled (hidden-the_row-Expr-1 es)
unfolding shape-the_row-Expr-1 hidden-the_row-Expr-1 hidden
filled-list [] h = tt
filled-list (e ∷ es) h = (h.0, filled-list es h.1)

length-list : (es : List Expr) → row_length (hidden-the_row-Expr-1 es) ≡ length es
unfolding shape-the_row-Expr-1 hidden-the_row-Expr-1 hidden
length-list [] = refl
length-list (e ∷ es) = ap suc (length-list es)

filled-Call : (f : Ident) (c : Callee) (es : List Expr) → AllFilled es → IsFilled (Call f c es)
filled-Call f c es h = filled-list es h

filled-Array : (es : List Expr) (p : Place) → 1 ≤ length es → AllFilled es → IsFilled (Array es p)
filled-Array es p le h = (subst (λ k. 1 ≤ k) (sym (length-list es)) le, filled-list es h)

prefixed_fills : (o : Prefix) (p : Place) (t : Typed) → IsFilled t.what → Fills (prefixed o p t)
prefixed_fills o p t s x h =
    let k = scalar_of t.ty in
    let r = held (prefixes o k) (Mismatch p) (record { what = Unary o k t.what p; ty = scalar k }) x h in
    made _ x r.1 (filled-Unary o k t.what p s)

unary_fills : (n : Option ℤ) (o : Prefix) (w : Ty) (p : Place) (inner : Walk Typed) → Fills inner → Fills (unary n o w p inner)
unary_fills None o w p inner h = and_fills inner (prefixed o p) (λ t e. prefixed_fills o p t (h t e))
unary_fills (Some n) o w p inner h = int_fills (literal_type w) _ p

joined_if_fills : (q : Option Base) (o : Operator) (p : Place) (s t : Typed) → IsFilled s.what → IsFilled t.what → Fills (joined_if q o p s t)
joined_if_fills None o p s t hs ht x h = absurd cc
joined_if_fills (Some r) o p s t hs ht x h =
    let y : Typed = record { what = Binary o (scalar_of s.ty) s.what t.what p; ty = scalar r } in
    made y x (same_fine y x h) (filled-Binary o (scalar_of s.ty) s.what t.what p hs ht)

joined_fills : (o : Operator) (p : Place) (s t : Typed) → IsFilled s.what → IsFilled t.what → Fills (joined o p s t)
joined_fills o p s t hs ht = joined_if_fills (ruled o (scalar_of s.ty) (scalar_of t.ty)) o p s t hs ht

sided_fills : (f l m : Bool) (o : Operator) (p : Place) (w : Ty) (a b : Ty → Walk Typed) → ((v : Ty) → Fills (a v)) → ((v : Ty) → Fills (b v)) →
    Fills (sided f l m o p w a b)
sided_fills true l m o p w a b ha hb =
    and_fills (b unasked) (λ t. and_then (a (lent t)) (λ s. joined o p s t))
    (λ t et. and_fills (a (lent t)) (λ s. joined o p s t) (λ s es. joined_fills o p s t (ha (lent t) s es) (hb unasked t et)))
sided_fills false l m o p w a b ha hb =
    let v = kept (l && joins o) w in
    and_fills (a v) (λ s. and_then (b (asked l m o w s)) (joined o p s))
    (λ s es. and_fills (b (asked l m o w s)) (joined o p s) (λ t et. joined_fills o p s t (ha v s es) (hb (asked l m o w s) t et)))

index_fills : (ls : List ℕ) (b : Base) (whole : Bool) (p : Place) (s t : Typed) → IsFilled s.what → IsFilled t.what → Fills (index_if ls b whole p s t)
index_fills [] b whole p s t hs ht x h = absurd cc
index_fills (n ∷ ls) b whole p s t hs ht x h =
    let r = held whole (Mismatch p) (record { what = Index s.what t.what p; ty = record { lengths = ls; base = b } }) x h in
    made _ x r.1 (filled-Index s.what t.what p hs ht)

slice_fills : (ls : List ℕ) (b : Base) (whole : Bool) (c : ℕ) (p : Place) (s t : Typed) → IsFilled s.what → IsFilled t.what → Fills (slice_if ls b whole c p s t)
slice_fills [] b whole c p s t hs ht x h = absurd cc
slice_fills (n ∷ ls) b whole c p s t hs ht x h =
    let r = held whole (Mismatch p) (record { what = Slice s.what t.what c p; ty = record { lengths = c ∷ ls; base = b } }) x h in
    made _ x r.1 (filled-Slice s.what t.what c p hs ht)

part_fills : (o : Option Selected) (n : List ℕ) (p : Place) (s : Typed) → IsFilled s.what → Fills (part_at o n p s)
part_fills None n p s hs x h = absurd cc
part_fills (Some f) n p s hs x h =
    let y : Typed = record { what = Part s.what n f.place p; ty = f.ty } in made y x (same_fine y x h) (filled-Part s.what n f.place p hs)

converted_fills : (b : Base) (p : Place) (t : Typed) → IsFilled t.what → Fills (converted b p t)
converted_fills b p t s x h =
    let r = held (converts b (scalar_of t.ty)) (Mismatch p) (record { what = Convert b t.what p; ty = scalar b }) x h in
    made _ x r.1 (filled-Convert b t.what p s)

paired_fills : (b : Base) (p : Place) (s t : Typed) → IsFilled s.what → IsFilled t.what → Fills (paired b p s t)
paired_fills b p s t hs ht x h =
    let r = held (is_half (half_of b) (scalar_of s.ty) && is_half (half_of b) (scalar_of t.ty)) (Mismatch p)
    (record { what = Complex b s.what t.what p; ty = scalar b }) x h in
    made _ x r.1 (filled-Complex b s.what t.what p hs ht)

-- Expressions so far, as many as their types.
pub record Gathers (z : Args) : Type 0 where
  pub filled : AllFilled z.whats
  pub many : length z.types ≡ length z.whats

none_gathered : Gathers no_args
none_gathered = record { filled = tt; many = refl }

pub filled_more : (es : List Expr) (e : Expr) → AllFilled es → IsFilled e → AllFilled (es ++ e ∷ [])
filled_more [] e h k = (k, tt)
filled_more (f ∷ es) e h k = (h.0, filled_more es e h.1 k)

longer : {A : Type 0} (xs : List A) (x : A) → length (xs ++ x ∷ []) ≡ suc (length xs)
longer {A} [] x = refl
longer {A} (y ∷ xs) x = ap suc (longer xs x)

gathers_more : (z : Args) (t : Typed) → Gathers z → IsFilled t.what → Gathers (one_more z t)
gathers_more z t h k = record {
  filled = filled_more z.whats t.what h.filled k;
  many = longer z.types t.ty ∙ (ap suc h.many ∙ sym (longer z.whats t.what));
}

called_fills : (f : Ident) (c : Called) (z : Args) → Gathers z → Fills (called f c z)
called_fills f c z k x h =
    let r = held (agree c.params z.types) (Mismatch f.at) (record { what = Call f c.callee z.whats; ty = c.result }) x h in
    made _ x r.1 (filled-Call f c.callee z.whats k.filled)

call_fills : (o : Option Called) (f : Ident) (walk : Asks → Walk Args) → ((a : Asks) (z : Args) → walk a ≡ Fine z → Gathers z) → Fills (call o f walk)
call_fills None f walk k x h = absurd cc
call_fills (Some c) f walk k x h = and_fills (walk (InTurn c.params)) (called f c) (λ z q. called_fills f c z (k (InTurn c.params) z q)) x h

array_fills : (ts : List Ty) (p : Place) (z : Args) → z.types ≡ ts → Gathers z → Fills (array_if ts p z)
array_fills [] p z e k x h = absurd cc
array_fills (t ∷ ts) p z e k x h =
    let r = held (all_same t ts) (Mismatch p) (record { what = Array z.whats p; ty = arr (length z.whats) t }) x h in
    let many : length (t ∷ ts) ≡ length z.whats = ap length (sym e) ∙ k.many in
    made _ x r.1 (filled-Array z.whats p (subst (λ n. 1 ≤ n) many (some (length ts))) k.filled)
  where
    some : (n : ℕ) → 1 ≤ suc n
    some n = omega arith

mutual
  pub expr_fills : (g : Visible) (w : Ty) (e : Expr) → Fills (expr g w e)
  expr_fills g w (UnitLiteral p) x h = fine_fills (record { what = UnitLiteral p; ty = scalar UnitTy }) tt x h
  expr_fills g w (Bit b p) x h = fine_fills (record { what = Bit b p; ty = scalar BitTy }) tt x h
  expr_fills g w (BoolLiteral b p) x h = fine_fills (record { what = BoolLiteral b p; ty = scalar BoolTy }) tt x h
  expr_fills g w (Int n b p) x h = int_fills (literal_type w) n p x h
  expr_fills g w (Variable n) x h = variable_fills (type_in g.variables n.id) n x h
  expr_fills g w (Unary' o b _ (more_of-Expr e end_of-Expr) p) x h =
      let v = kept (signs o && is_literal e) w in unary_fills (negates o (number_of e)) o w p (expr g v e) (expr_fills g v e) x h
  expr_fills g w (Binary' o k _ (more_of-Expr a end_of-Expr) _ (more_of-Expr b end_of-Expr) p) x h =
      sided_fills (is_literal a && not (is_literal b)) (is_literal a) (is_literal b) o p w (λ v. expr g v a) (λ v. expr g v b) (λ v. expr_fills g v a)
      (λ v. expr_fills g v b) x h
  expr_fills g w (Index' _ (more_of-Expr a end_of-Expr) _ (more_of-Expr i end_of-Expr) p) x h =
      and_fills (expr g unasked a) (λ s. and_then (expr g unasked i) (indexed p s)) (λ s es. and_fills (expr g unasked i) (indexed p s)
      (λ t et. index_fills s.ty.lengths s.ty.base (is_whole (scalar_of t.ty)) p s t (expr_fills g unasked a s es) (expr_fills g unasked i t et))) x h
  expr_fills g w (Slice' _ (more_of-Expr a end_of-Expr) _ (more_of-Expr i end_of-Expr) k p) x h =
      and_fills (expr g unasked a) (λ s. and_then (expr g unasked i) (sliced k p s)) (λ s es. and_fills (expr g unasked i) (sliced k p s)
      (λ t et. slice_fills s.ty.lengths s.ty.base (is_whole (scalar_of t.ty)) k p s t (expr_fills g unasked a s es) (expr_fills g unasked i t et))) x h
  expr_fills g w (Part' _ (more_of-Expr a end_of-Expr) n k p) x h =
      and_fills (expr g unasked a) (selected g n p) (λ s es. part_fills (part_in g.shapes s.ty n) n p s (expr_fills g unasked a s es)) x h
  expr_fills g w (Call' f c _ es) x h =
      call_fills (called_in g f.id) f (λ asks. args g asks no_args es) (λ asks z q. args_fill g asks no_args es z none_gathered q) x h
  expr_fills g w (Array' _ es p) x h =
      and_fills (args g (Alike (element_asked w)) no_args es) (gathered p)
      (λ z q. array_fills z.types p z refl (args_fill g (Alike (element_asked w)) no_args es z none_gathered q)) x h
  expr_fills g w (Convert' b _ (more_of-Expr e end_of-Expr) p) x h =
      and_fills (expr g (wanted (scalar b)) e) (converted b p) (λ t et. converted_fills b p t (expr_fills g (wanted (scalar b)) e t et)) x h
  expr_fills g w (Complex' b _ (more_of-Expr m end_of-Expr) _ (more_of-Expr n end_of-Expr) p) x h =
      and_fills (expr g unasked m) (λ s. and_then (expr g unasked n) (paired b p s)) (λ s es. and_fills (expr g unasked n) (paired b p s)
      (λ t et. paired_fills b p s t (expr_fills g unasked m s es) (expr_fills g unasked n t et))) x h

  args_fill : (g : Visible) (asks : Asks) (done : Args) {m : _} (es : Row_of-Expr m) (z : Args) → Gathers done → args g asks done es ≡ Fine z → Gathers z
  args_fill g asks done end_of-Expr z k h = subst Gathers (same_fine done z h) k
  args_fill g asks done (more_of-Expr e es) z k h =
      let f = first_fine (expr g (next_asks asks) e) (λ t. args g (asks_after asks) (one_more done t) es) z h in
      args_fill g (asks_after asks) (one_more done f.0) es z (gathers_more done f.0 k (expr_fills g (next_asks asks) e f.0 f.1)) f.2

-- The same of a plain list.
pub list_fills : (g : Visible) (asks : Asks) (done : Args) (es : List Expr) (z : Args) → AllFilled done.whats → args_of g asks done es ≡ Fine z →
    AllFilled z.whats
list_fills g asks done [] z k h = subst (λ (y : Args). AllFilled y.whats) (same_fine done z h) k
list_fills g asks done (e ∷ es) z k h =
    let f = first_fine (expr g (next_asks asks) e) (λ t. args_of g (asks_after asks) (one_more done t) es) z h in
    list_fills g (asks_after asks) (one_more done f.0) es z (filled_more done.whats f.0.what k (expr_fills g (next_asks asks) e f.0 f.1)) f.2
