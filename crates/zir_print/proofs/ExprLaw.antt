-- The canonical tokens of an expression read as it again, no higher than any tokens of it.
use Rattle.std.proofs.Common.{◌≡◌, ℕ, zero, suc, max, ◌≤◌, Bool, true, false, negsuc, List, [], ◌∷◌, ◌++◌, Some, None, refl, sym, ap, ◌∙◌, subst, arith, append_assoc, append-nil, if◌then◌else◌}
use Rattle.std.specs.Prelude.{nat_le, map}
use denote.Hole.Carrier.{hidden}
use Rattle.std.proofs.lemmas.Bool.{leb-true, leb-false, le-leb}
use Rattle.zir_tree.specs.declared.place.Place.{Place}
use Rattle.zir_tree.specs.declared.ident.Ident.{Ident}
use Rattle.zir_tree.specs.declared.types.Base.{Base}
use Rattle.zir_tree.specs.declared.types.Base.TheVariants as base
use Rattle.zir_tree.specs.declared.expr.Prefix.{Prefix}
use Rattle.zir_tree.specs.declared.expr.Operator.{Operator}
use Rattle.zir_tree.specs.declared.expr.Operator.TheVariants as operator
use Rattle.zir_tree.specs.declared.expr.Callee.{Callee}
use Rattle.zir_tree.specs.declared.expr.Callee.TheVariants as callee
use Rattle.zir_tree.specs.declared.expr.Expr.{Expr, Unary', Binary', Index', Slice', Part', Call', Array', Convert', Complex'}
use Rattle.zir_tree.specs.declared.expr.Expr as expr
use Rattle.zir_tree.specs.declared.expr.Expr.TheBlock.{shape-the_row-Expr-0, hidden-the_row-Expr-0, shape-the_row-Expr-1, hidden-the_row-Expr-1}
use Rattle.zir_lex.specs.declared.token.Token.{Token}
use Rattle.zir_lex.specs.declared.token.Symbol.{Symbol}
use Rattle.zir_lex.specs.declared.token.Symbol.TheVariants as symbol
use Rattle.zir_grammar.specs.Grammar.{word, sign, name, ident, conversion_of, symbol_of, rank, ranks, prefix_token, IsExpr, IsBinary, unary, operands, IsOperands, no_operand, operand, IsUnary, prefixed, primary, IsPosts, no_post, index, slice, part, IsPrimary, number, bit_value, true_value, false_value, unit_value, variable, call, enclosed as enclosed_expr, array, convert, complex, IsArgs, no_args, args, IsMoreExprs, last_expr, more_exprs}
use Rattle.zir_print.specs.Marks.{nowhere, mark, parted, behind_each, enclosed, braced, held}
use Rattle.zir_print.specs.Types.{keyword_of, word_if}
use Rattle.zir_print.specs.Expressions.{kind, bracket_end, bracket_words, call_words, called_words, expr_words, each_expr}
use Rattle.zir_print.proofs.Lists.{Low, AllLow, all_more, tallest, tallest_low, enclosed_rest, braced_rest}
use Rattle.zir_print.proofs.TypeLaw.{Named, converts}

-- ---- the equations of the definitions

pub kind_unary : (op : Prefix) (b : Base) (a : Expr) (p : Place) → kind (expr.Unary op b a p) ≡ 1
unfolding shape-the_row-Expr-0 hidden-the_row-Expr-0 hidden
kind_unary op b a p = refl

pub kind_binary : (op : Operator) (t : Base) (a b : Expr) (p : Place) → kind (expr.Binary op t a b p) ≡ suc (suc (rank op))
unfolding shape-the_row-Expr-0 hidden-the_row-Expr-0 hidden
kind_binary op t a b p = refl

pub kind_index : (a i : Expr) (p : Place) → kind (expr.Index a i p) ≡ 0
unfolding shape-the_row-Expr-0 hidden-the_row-Expr-0 hidden
kind_index a i p = refl

pub kind_slice : (a i : Expr) (k : ℕ) (p : Place) → kind (expr.Slice a i k p) ≡ 0
unfolding shape-the_row-Expr-0 hidden-the_row-Expr-0 hidden
kind_slice a i k p = refl

pub kind_part : (a : Expr) (x : List ℕ) (k : ℕ) (p : Place) → kind (expr.Part a x k p) ≡ 0
unfolding shape-the_row-Expr-0 hidden-the_row-Expr-0 hidden
kind_part a x k p = refl

pub kind_convert : (b : Base) (a : Expr) (p : Place) → kind (expr.Convert b a p) ≡ 0
unfolding shape-the_row-Expr-0 hidden-the_row-Expr-0 hidden
kind_convert b a p = refl

pub kind_complex : (t : Base) (a b : Expr) (p : Place) → kind (expr.Complex t a b p) ≡ 0
unfolding shape-the_row-Expr-0 hidden-the_row-Expr-0 hidden
kind_complex t a b p = refl

pub kind_call : (x : Ident) (c : Callee) (es : List Expr) → kind (expr.Call x c es) ≡ 0
unfolding shape-the_row-Expr-1 hidden-the_row-Expr-1 hidden
kind_call x c es = refl

pub kind_array : (es : List Expr) (p : Place) → kind (expr.Array es p) ≡ 0
unfolding shape-the_row-Expr-1 hidden-the_row-Expr-1 hidden
kind_array es p = refl

pub words_unary : (op : Prefix) (b : Base) (a : Expr) (p : Place) → expr_words (expr.Unary op b a p) ≡ prefix_token op p ∷ held 1 (kind a) (expr_words a)
unfolding shape-the_row-Expr-0 hidden-the_row-Expr-0 hidden
words_unary op b a p = refl

pub words_binary : (op : Operator) (t : Base) (a b : Expr) (p : Place)
    → expr_words (expr.Binary op t a b p) ≡ held (suc (suc (rank op))) (kind a) (expr_words a) ++ sign (symbol_of op) p ∷ held (suc (rank op)) (kind b) (expr_words b)
unfolding shape-the_row-Expr-0 hidden-the_row-Expr-0 hidden
words_binary op t a b p = refl

pub words_index : (a i : Expr) (p : Place) → expr_words (expr.Index a i p) ≡ held 0 (kind a) (expr_words a) ++ bracket_words p (expr_words i) None
unfolding shape-the_row-Expr-0 hidden-the_row-Expr-0 hidden
words_index a i p = refl

pub words_slice : (a i : Expr) (k : ℕ) (p : Place) → expr_words (expr.Slice a i k p) ≡ held 0 (kind a) (expr_words a) ++ bracket_words p (expr_words i) (Some k)
unfolding shape-the_row-Expr-0 hidden-the_row-Expr-0 hidden
words_slice a i k p = refl

pub words_part : (a : Expr) (x : List ℕ) (k : ℕ) (p : Place) → expr_words (expr.Part a x k p) ≡ held 0 (kind a) (expr_words a) ++ sign symbol.Dot p ∷ name x nowhere ∷ []
unfolding shape-the_row-Expr-0 hidden-the_row-Expr-0 hidden
words_part a x k p = refl

pub words_convert : (b : Base) (a : Expr) (p : Place) → expr_words (expr.Convert b a p) ≡ word_if (keyword_of b) p ++ enclosed (expr_words a)
unfolding shape-the_row-Expr-0 hidden-the_row-Expr-0 hidden
words_convert b a p = refl

pub words_complex : (t : Base) (a b : Expr) (p : Place) → expr_words (expr.Complex t a b p) ≡ word_if (keyword_of t) p ++ enclosed (expr_words a ++ mark symbol.Comma ∷ expr_words b)
unfolding shape-the_row-Expr-0 hidden-the_row-Expr-0 hidden
words_complex t a b p = refl

pub row_words : (es : List Expr) → each_expr (hidden-the_row-Expr-1 es) ≡ map expr_words es
unfolding shape-the_row-Expr-1 hidden-the_row-Expr-1 hidden
row_words [] = refl
row_words (e ∷ es) = ap (λ w. expr_words e ∷ w) (row_words es)

pub words_call : (x : Ident) (c : Callee) (es : List Expr) → expr_words (expr.Call x c es) ≡ called_words x es
words_call x c es = ap (λ w. call_words x w) (row_words es)

pub words_array : (es : List Expr) (p : Place) → expr_words (expr.Array es p) ≡ braced p (parted (mark symbol.Comma) (map expr_words es))
words_array es p = ap (λ w. braced p (parted (mark symbol.Comma) w)) (row_words es)

-- ---- where an expression of a kind may stand

abbrev pub AtKind : ℕ → Expr → ℕ → List Token → List Token → Type 0
AtKind zero e g ts rest = (first : Expr) × (low : ℕ) × (mid : List Token) × IsPrimary first low ts mid × IsPosts first low e g mid rest
AtKind (suc n) e g ts rest = IsBinary n e g ts rest

up : (n : ℕ) (e : Expr) (g : ℕ) (ts rest : List Token) → AtKind n e g ts rest → AtKind (suc n) e g ts rest
up zero e g ts rest (first, low, mid, a, more) = unary (primary a more)
up (suc n) e g ts rest x = operands x no_operand

lift_from : (j n : ℕ) (e : Expr) (g : ℕ) (ts rest : List Token) (b : Bool) → nat_le n j ≡ b → n ≤ suc j → (n ≤ j → AtKind j e g ts rest) → AtKind n e g ts rest → AtKind (suc j) e g ts rest
lift_from j n e g ts rest true fits le f x = up j e g ts rest (f (leb-true n j fits))
lift_from j n e g ts rest false fits le f x =
    let lt = leb-false n j fits in
    let is : n ≡ suc j = omega (arith, lt, le) in subst (λ m. AtKind m e g ts rest) is x

lift : (j n : ℕ) (e : Expr) (g : ℕ) (ts rest : List Token) → n ≤ j → AtKind n e g ts rest → AtKind j e g ts rest
lift zero n e g ts rest le x = let is : n ≡ zero = omega arith in subst (λ m. AtKind m e g ts rest) is x
lift (suc j) n e g ts rest le x = lift_from j n e g ts rest (nat_le n j) refl le (λ less. lift j n e g ts rest less x) x

-- its own tokens, before whatever follows
abbrev pub Own : Expr → ℕ → Type 0
Own e g = (rest : List Token) → AtKind (kind e) e g (expr_words e ++ rest) rest

abbrev pub held_height : ℕ → ℕ → ℕ → ℕ
held_height limit binds g = if nat_le binds limit then g else suc g

-- the canonical tokens at a limit are no higher than that
pub record Held (limit : ℕ) (e : Expr) (h : ℕ) : Type 0 where
  pub height : ℕ
  pub own : Own e height
  pub low : held_height limit (kind e) height ≤ h

rank_small : (op : Operator) → suc (suc (rank op)) ≤ 11
rank_small operator.Multiply = omega arith
rank_small operator.Divide = omega arith
rank_small operator.Remainder = omega arith
rank_small operator.Add = omega arith
rank_small operator.Subtract = omega arith
rank_small operator.ShiftLeft = omega arith
rank_small operator.ShiftRight = omega arith
rank_small operator.Less = omega arith
rank_small operator.LessEqual = omega arith
rank_small operator.Greater = omega arith
rank_small operator.GreaterEqual = omega arith
rank_small operator.Equal = omega arith
rank_small operator.NotEqual = omega arith
rank_small operator.BitAnd = omega arith
rank_small operator.BitXor = omega arith
rank_small operator.BitOr = omega arith
rank_small operator.And = omega arith
rank_small operator.Or = omega arith

pub kind_small : (e : Expr) → kind e ≤ 11
kind_small (Unary' op b _ a p) = omega arith
kind_small (expr.Int (negsuc n) b p) = omega arith
kind_small (Binary' op t _ a _ b p) = rank_small op
kind_small other = omega arith

-- what is held stands where that kind is wanted
stands_at : (limit : ℕ) (e : Expr) (g : ℕ) (rest : List Token) (b : Bool) → nat_le (kind e) limit ≡ b → Own e g
    → AtKind limit e (if b then g else suc g) ((if b then expr_words e else enclosed (expr_words e)) ++ rest) rest
stands_at limit e g rest true fits own = lift limit (kind e) e g (expr_words e ++ rest) rest (leb-true (kind e) limit fits) (own rest)
stands_at limit e g rest false fits own =
    let close : List Token = mark symbol.RightParenthesis ∷ rest in
    let inner : IsBinary ranks e g (expr_words e ++ close) close = lift 11 (kind e) e g (expr_words e ++ close) close (kind_small e) (own close) in
    lift limit zero e (suc g) _ rest (omega arith)
    (e, suc g, rest, subst (λ w. IsPrimary e (suc g) w rest) (sym (enclosed_rest (expr_words e) rest)) (enclosed_expr inner), no_post)

stands : (limit : ℕ) (e : Expr) (g : ℕ) (rest : List Token) → Own e g → AtKind limit e (held_height limit (kind e) g) (held limit (kind e) (expr_words e) ++ rest) rest
stands limit e g rest own = stands_at limit e g rest (nat_le (kind e) limit) refl own

-- a higher limit asks for no more
raise_from : (limit k g h : ℕ) (a b : Bool) → nat_le k limit ≡ a → nat_le k (suc limit) ≡ b → (if a then g else suc g) ≤ h → (if b then g else suc g) ≤ h
raise_from limit k g h true true x y le = le
raise_from limit k g h true false x y le = let p = leb-true k limit x in let q = leb-false k (suc limit) y in absurd (omega (arith, p, q))
raise_from limit k g h false true x y le = omega (arith, le)
raise_from limit k g h false false x y le = le

raise : {limit h : ℕ} {e : Expr} → Held limit e h → Held (suc limit) e h
raise {limit = limit} {h = h} {e = e} x = record {
  height = x.height;
  own = x.own;
  low = raise_from limit (kind e) x.height h (nat_le (kind e) limit) (nat_le (kind e) (suc limit)) refl refl x.low;
}

fits_limit : (limit k g : ℕ) → k ≤ limit → held_height limit k g ≡ g
fits_limit limit k g le = rw (le-leb k limit le) refl

-- ---- forms of one kind

-- a form of a kind, by the tokens that it has before any rest
whole_form : {limit g h : ℕ} {e : Expr} (ws : List Token) → kind e ≡ limit → expr_words e ≡ ws → g ≤ h → ((rest : List Token) → AtKind limit e g (ws ++ rest) rest) → Held limit e h
whole_form {limit = limit} {g = g} {h = h} {e = e} ws is same le reads =
    let f = fits_limit limit (kind e) g (omega (arith, is)) in
    record {
      height = g;
      own = λ rest. subst (λ m. AtKind m e g (expr_words e ++ rest) rest) (sym is) (subst (λ w. AtKind limit e g (w ++ rest) rest) (sym same) (reads rest));
      low = omega (arith, f, le);
    }

-- a primary by itself
one_primary : {g : ℕ} {e : Expr} {ts rest : List Token} → IsPrimary e g ts rest → AtKind 0 e g ts rest
one_primary a = (_, _, _, a, no_post)

operands_join : {n low mid high : ℕ} {first l e : Expr} {ts end rest : List Token} → IsOperands n first low l mid ts end → IsOperands n l mid e high end rest → IsOperands n first low e high ts rest
operands_join no_operand x = x
operands_join (operand op is b more) x = operand op is b (operands_join more x)

posts_join : {low mid high : ℕ} {first l e : Expr} {ts end rest : List Token} → IsPosts first low l mid ts end → IsPosts l mid e high end rest → IsPosts first low e high ts rest
posts_join no_post x = x
posts_join (index b more) x = index b (posts_join more x)
posts_join (slice b more) x = slice b (posts_join more x)
posts_join (part more) x = part (posts_join more x)

binary_snoc : {n g1 g2 : ℕ} {l r : Expr} {p : Place} {ts mid rest : List Token} (op : Operator) → rank op ≡ n → IsBinary (suc n) l g1 ts (sign (symbol_of op) p ∷ mid) → IsBinary n r g2 mid rest
    → IsBinary (suc n) (expr.Binary op base.Unit l r p) (suc (max g1 g2)) ts rest
binary_snoc op is (operands first more) b = operands first (operands_join more (operand op is b no_operand))

post_snoc : {g high : ℕ} {l e : Expr} {ts mid rest : List Token} → AtKind 0 l g ts mid → IsPosts l g e high mid rest → AtKind 0 e high ts rest
post_snoc (first, low, mid, a, more) x = (first, low, mid, a, posts_join more x)

whole_height : {limit h : ℕ} {e : Expr} → 11 ≤ limit → (x : Held limit e h) → x.height ≤ h
whole_height {limit = limit} {h = h} {e = e} le x =
    let small = kind_small e in
    let f = fits_limit limit (kind e) x.height (omega (arith, small, le)) in
    let a = x.low in omega (arith, f, a)

-- a whole expression stands before any rest
abbrev pub OwnExpr : Expr → ℕ → Type 0
OwnExpr e g = (rest : List Token) → IsExpr e g (expr_words e ++ rest) rest

pub whole : {h : ℕ} {e : Expr} → Held 11 e h → Low OwnExpr h e
whole {e = e} x = record {
  height = x.height;
  own = λ rest. lift 11 (kind e) e x.height (expr_words e ++ rest) rest (kind_small e) (x.own rest);
  low = whole_height (omega arith) x;
}

-- ---- operators

joined_held : {n low h : ℕ} {l r : Expr} {p : Place} (op : Operator) → rank op ≡ n → Held (suc (suc n)) l low → Held (suc n) r h → Held (suc (suc n)) (expr.Binary op base.Unit l r p) (suc (max low h))
joined_held {n = n} {low = low} {h = h} {l = l} {r = r} {p = p} op is x y =
    let g1 : ℕ = held_height (suc (suc n)) (kind l) x.height in
    let g2 : ℕ = held_height (suc n) (kind r) y.height in
    let left : List Token = held (suc (suc n)) (kind l) (expr_words l) in
    let right : List Token = held (suc n) (kind r) (expr_words r) in
    let a = x.low in
    let b = y.low in
    let same : expr_words (expr.Binary op base.Unit l r p) ≡ left ++ sign (symbol_of op) p ∷ right =
    words_binary op base.Unit l r p ∙ ap (λ m. held (suc (suc m)) (kind l) (expr_words l) ++ sign (symbol_of op) p ∷ held (suc m) (kind r) (expr_words r)) is in
    whole_form (left ++ sign (symbol_of op) p ∷ right) (kind_binary op base.Unit l r p ∙ ap (λ m. suc (suc m)) is) same (omega (arith, a, b))
    (λ rest. subst (λ w. IsBinary (suc n) (expr.Binary op base.Unit l r p) (suc (max g1 g2)) w rest) (sym (append_assoc left (sign (symbol_of op) p ∷ right) rest))
    (binary_snoc op is (stands (suc (suc n)) l x.height (sign (symbol_of op) p ∷ (right ++ rest)) x.own) (stands (suc n) r y.height rest y.own)))

prefix_it : {e : Expr} {g : ℕ} {p : Place} {ts rest : List Token} (op : Prefix) → IsBinary 0 e g ts rest → IsBinary 0 (expr.Unary op base.Unit e p) (suc g) (prefix_token op p ∷ ts) rest
prefix_it op (unary u) = unary (prefixed op u)

prefix_held : {h : ℕ} {e : Expr} {p : Place} (op : Prefix) → Held 1 e h → Held 1 (expr.Unary op base.Unit e p) (suc h)
prefix_held {h = h} {e = e} {p = p} op x =
    let a = x.low in
    whole_form (prefix_token op p ∷ held 1 (kind e) (expr_words e)) (kind_unary op base.Unit e p) (words_unary op base.Unit e p) (omega (arith, a)) (λ rest. prefix_it op (stands 1 e x.height rest x.own))

held_most : (b : Bool) (g : ℕ) → (if b then g else suc g) ≤ suc g
held_most true g = omega arith
held_most false g = omega arith

parens_held : {h : ℕ} {e : Expr} → Held 11 e h → Held 0 e (suc h)
parens_held {e = e} x =
    let a = whole_height (omega arith) x in
    let m = held_most (nat_le (kind e) 0) x.height in
    record { height = x.height; own = x.own; low = omega (arith, a, m) }

-- ---- what follows a primary

post_held : {low high h : ℕ} {l e : Expr} (ws : List Token) (x : Held 0 l low) → kind e ≡ 0 → expr_words e ≡ held 0 (kind l) (expr_words l) ++ ws → high ≤ h
    → ((rest : List Token) → IsPosts l (held_height 0 (kind l) x.height) e high (ws ++ rest) rest) → Held 0 e h
post_held {high = high} {l = l} {e = e} ws x is same le reads =
    let base : List Token = held 0 (kind l) (expr_words l) in
    whole_form (base ++ ws) is same le
    (λ rest. subst (λ w. AtKind 0 e high w rest) (sym (append_assoc base ws rest)) (post_snoc (stands 0 l x.height (ws ++ rest) x.own) (reads rest)))

index_held : {low h : ℕ} {l i : Expr} {p : Place} → Held 0 l low → Held 11 i h → Held 0 (expr.Index l i p) (suc (max low h))
index_held {low = low} {h = h} {l = l} {i = i} {p = p} x y =
    let z = whole y in
    let a = x.low in
    let b = z.low in
    post_held (bracket_words p (expr_words i) None) x (kind_index l i p) (words_index l i p) (omega (arith, a, b))
    (λ rest. subst (λ w. IsPosts l (held_height 0 (kind l) x.height) (expr.Index l i p) (suc (max (held_height 0 (kind l) x.height) z.height)) (sign symbol.LeftBracket p ∷ w) rest)
    (sym (append_assoc (expr_words i) (mark symbol.RightBracket ∷ []) rest)) (index (z.own (mark symbol.RightBracket ∷ rest)) no_post))

slice_held : {low h k : ℕ} {l i : Expr} {p : Place} → Held 0 l low → Held 11 i h → Held 0 (expr.Slice l i k p) (suc (max low h))
slice_held {low = low} {h = h} {k = k} {l = l} {i = i} {p = p} x y =
    let z = whole y in
    let a = x.low in
    let b = z.low in
    post_held (bracket_words p (expr_words i) (Some k)) x (kind_slice l i k p) (words_slice l i k p) (omega (arith, a, b))
    (λ rest. subst (λ w. IsPosts l (held_height 0 (kind l) x.height) (expr.Slice l i k p) (suc (max (held_height 0 (kind l) x.height) z.height)) (sign symbol.LeftBracket p ∷ w) rest)
    (sym (append_assoc (expr_words i) (bracket_end (Some k)) rest)) (slice (z.own (bracket_end (Some k) ++ rest)) no_post))

part_held : {low : ℕ} {l : Expr} {x : List ℕ} {p : Place} → Held 0 l low → Held 0 (expr.Part l x 0 p) (suc low)
part_held {low = low} {l = l} {x = x} {p = p} y =
    let a = y.low in
    post_held (sign symbol.Dot p ∷ name x nowhere ∷ []) y (kind_part l x 0 p) (words_part l x 0 p) (omega (arith, a)) (λ rest. part no_post)

-- ---- conversions

convert_at : {h : ℕ} {e : Expr} (b : Base) (p : Place) → Named conversion_of b → Low OwnExpr h e → Held 0 (expr.Convert b e p) (suc h)
convert_at {h = h} {e = e} b p (w, is, reads) z =
    let a = z.low in
    whole_form (word w p ∷ enclosed (expr_words e)) (kind_convert b e p) (words_convert b e p ∙ ap (λ o. word_if o p ++ enclosed (expr_words e)) is) (omega (arith, a))
    (λ rest. one_primary (subst (λ ts. IsPrimary (expr.Convert b e p) (suc z.height) (word w p ∷ ts) rest) (sym (enclosed_rest (expr_words e) rest))
    (convert reads (z.own (mark symbol.RightParenthesis ∷ rest)))))

complex_at : {low h : ℕ} {re im : Expr} (b : Base) (p : Place) → Named conversion_of b → Low OwnExpr low re → Low OwnExpr h im → Held 0 (expr.Complex b re im p) (suc (max low h))
complex_at {low = low} {h = h} {re = re} {im = im} b p (w, is, reads) y z =
    let a = y.low in
    let c = z.low in
    let inner : List Token = expr_words re ++ mark symbol.Comma ∷ expr_words im in
    whole_form (word w p ∷ enclosed inner) (kind_complex b re im p) (words_complex b re im p ∙ ap (λ o. word_if o p ++ enclosed inner) is) (omega (arith, a, c))
    (λ rest.
    let close : List Token = mark symbol.RightParenthesis ∷ rest in
    one_primary (subst (λ ts. IsPrimary (expr.Complex b re im p) (suc (max y.height z.height)) (word w p ∷ ts) rest)
    (sym (enclosed_rest inner rest ∙ ap (λ l. mark symbol.LeftParenthesis ∷ l) (append_assoc (expr_words re) (mark symbol.Comma ∷ expr_words im) close)))
    (complex reads (y.own (mark symbol.Comma ∷ (expr_words im ++ close))) (z.own close))))

-- ---- lists of expressions

-- the expressions of a list behind others, up to a closing sign
exprs_read : (h : ℕ) (closing : Symbol) (done es : List Expr) (low : ℕ) (rest : List Token) (all : AllLow OwnExpr h es)
    → IsMoreExprs closing done low (done ++ es) (tallest OwnExpr h low es all) (behind_each (mark symbol.Comma) (map expr_words es) ++ mark closing ∷ rest) rest
exprs_read h closing done [] low rest all = subst (λ l. IsMoreExprs closing done low l low (mark closing ∷ rest) rest) (sym (append-nil done)) last_expr
exprs_read h closing done (e ∷ es) low rest (x, all) =
    let tail : List Token = behind_each (mark symbol.Comma) (map expr_words es) in
    let g : ℕ = tallest OwnExpr h (max low x.height) es all in
    subst (λ w. IsMoreExprs closing done low (done ++ e ∷ es) g (mark symbol.Comma ∷ w) rest) (sym (append_assoc (expr_words e) tail (mark closing ∷ rest)))
    (more_exprs (x.own (tail ++ mark closing ∷ rest))
    (subst (λ l. IsMoreExprs closing (done ++ e ∷ []) (max low x.height) l g (tail ++ mark closing ∷ rest) rest) (append_assoc done (e ∷ []) es)
    (exprs_read h closing (done ++ e ∷ []) es (max low x.height) rest all)))

-- the height of arguments
abbrev pub args_height : (h : ℕ) (es : List Expr) → AllLow OwnExpr h es → ℕ
args_height h [] all = 0
args_height h (e ∷ es) (x, all) = tallest OwnExpr h x.height es all

pub args_low : (h : ℕ) (es : List Expr) (all : AllLow OwnExpr h es) → args_height h es all ≤ h
args_low h [] all = omega arith
args_low h (e ∷ es) (x, all) = tallest_low OwnExpr h x.height es all x.low

pub args_read : (h : ℕ) (es : List Expr) (rest : List Token) (all : AllLow OwnExpr h es)
    → IsArgs es (args_height h es all) (parted (mark symbol.Comma) (map expr_words es) ++ mark symbol.RightParenthesis ∷ rest) rest
args_read h [] rest all = no_args
args_read h (e ∷ es) rest (x, all) =
    let tail : List Token = behind_each (mark symbol.Comma) (map expr_words es) in
    let close : List Token = mark symbol.RightParenthesis ∷ rest in
    subst (λ w. IsArgs (e ∷ es) (tallest OwnExpr h x.height es all) w rest) (sym (append_assoc (expr_words e) tail close))
    (args (x.own (tail ++ close)) (exprs_read h symbol.RightParenthesis (e ∷ []) es x.height rest all))

call_held : (h : ℕ) (es : List Expr) (x : List ℕ) (p : Place) → AllLow OwnExpr h es → Held 0 (expr.Call (ident x p) (callee.Function 0) es) (suc h)
call_held h es x p all =
    let low = args_low h es all in
    let words : List Token = parted (mark symbol.Comma) (map expr_words es) in
    whole_form (call_words (ident x p) (map expr_words es)) (kind_call (ident x p) (callee.Function 0) es) (words_call (ident x p) (callee.Function 0) es) (omega (arith, low))
    (λ rest. one_primary (subst (λ w. IsPrimary (expr.Call (ident x p) (callee.Function 0) es) (suc (args_height h es all)) (name x p ∷ w) rest) (sym (enclosed_rest words rest))
    (call (args_read h es rest all))))

array_held : (h : ℕ) (e : Expr) (es : List Expr) (p : Place) → AllLow OwnExpr h (e ∷ es) → Held 0 (expr.Array (e ∷ es) p) (suc h)
array_held h e es p (x, all) =
    let low = tallest_low OwnExpr h x.height es all x.low in
    let tail : List Token = behind_each (mark symbol.Comma) (map expr_words es) in
    whole_form (braced p (parted (mark symbol.Comma) (map expr_words (e ∷ es)))) (kind_array (e ∷ es) p) (words_array (e ∷ es) p) (omega (arith, low))
    (λ rest.
    let close : List Token = mark symbol.RightBrace ∷ rest in
    one_primary (subst (λ w. IsPrimary (expr.Array (e ∷ es) p) (suc (tallest OwnExpr h x.height es all)) w rest)
    (sym (braced_rest p (expr_words e ++ tail) rest ∙ ap (λ l. sign symbol.LeftBrace p ∷ l) (append_assoc (expr_words e) tail close)))
    (array (x.own (tail ++ close)) (exprs_read h symbol.RightBrace (e ∷ []) es x.height rest all))))

-- ---- from tokens that spell an expression

-- a list that begins so is no empty one
array_from : {h : ℕ} {es : List Expr} (p : Place) (e : Expr) (ds : List Expr) → es ≡ e ∷ ds → AllLow OwnExpr h es → Held 0 (expr.Array es p) (suc h)
array_from {h = h} p e ds is all = subst (λ l. Held 0 (expr.Array l p) (suc h)) (sym is) (array_held h e ds p (subst (λ l. AllLow OwnExpr h l) is all))

mutual
  pub binary_held : {n h : ℕ} {e : Expr} {ts rest : List Token} → IsBinary n e h ts rest → Held (suc n) e h
  binary_held (unary u) = unary_held u
  binary_held (operands b more) = operands_held more (raise (binary_held b))

  operands_held : {n low h : ℕ} {left e : Expr} {ts rest : List Token} → IsOperands n left low e h ts rest → Held (suc (suc n)) left low → Held (suc (suc n)) e h
  operands_held no_operand x = x
  operands_held (operand op is b more) x = operands_held more (joined_held op is x (binary_held b))

  unary_held : {h : ℕ} {e : Expr} {ts rest : List Token} → IsUnary e h ts rest → Held 1 e h
  unary_held (prefixed op u) = prefix_held op (unary_held u)
  unary_held (primary a more) = raise (posts_held more (primary_held a))

  posts_held : {low h : ℕ} {of e : Expr} {ts rest : List Token} → IsPosts of low e h ts rest → Held 0 of low → Held 0 e h
  posts_held no_post x = x
  posts_held (index b more) x = posts_held more (index_held x (binary_held b))
  posts_held (slice b more) x = posts_held more (slice_held x (binary_held b))
  posts_held (part more) x = posts_held more (part_held x)

  primary_held : {h : ℕ} {e : Expr} {ts rest : List Token} → IsPrimary e h ts rest → Held 0 e h
  primary_held number = record { height = 1; own = λ rest. one_primary number; low = omega arith }
  primary_held bit_value = record { height = 1; own = λ rest. one_primary bit_value; low = omega arith }
  primary_held true_value = record { height = 1; own = λ rest. one_primary true_value; low = omega arith }
  primary_held false_value = record { height = 1; own = λ rest. one_primary false_value; low = omega arith }
  primary_held unit_value = record { height = 1; own = λ rest. one_primary unit_value; low = omega arith }
  primary_held variable = record { height = 1; own = λ rest. one_primary variable; low = omega arith }
  primary_held (call {x = x} {h = h} {es = es} {at = p} a) = call_held h es x p (args_held a)
  primary_held (enclosed_expr b) = parens_held (binary_held b)
  primary_held (array {e = e} {h = h} {at = p} b more) = array_of p e [] more refl (whole (binary_held b), tt)
  primary_held (convert {w = w} {b = t} {at = p} is b) = convert_at t p (converts w is) (whole (binary_held b))
  primary_held (complex {w = w} {b = t} {at = p} is b c) = complex_at t p (converts w is) (whole (binary_held b)) (whole (binary_held c))

  pub args_held : {h : ℕ} {es : List Expr} {ts rest : List Token} → IsArgs es h ts rest → AllLow OwnExpr h es
  args_held no_args = tt
  args_held (args b more) = more_held more (whole (binary_held b), tt)

  more_held : {closing : Symbol} {low h : ℕ} {done es : List Expr} {ts rest : List Token} → IsMoreExprs closing done low es h ts rest → AllLow OwnExpr low done → AllLow OwnExpr h es
  more_held last_expr all = all
  more_held (more_exprs {done = done} {e = e} {low = low} {h = h} b more) all = more_held more (all_more OwnExpr low h done e all (whole (binary_held b)))

  -- an array literal, whose first element is there
  array_of : {closing : Symbol} {low h : ℕ} {done es : List Expr} {ts rest : List Token} (p : Place) (d : Expr) (ds : List Expr) → IsMoreExprs closing done low es h ts rest → done ≡ d ∷ ds
      → AllLow OwnExpr low done → Held 0 (expr.Array es p) (suc h)
  array_of p d ds last_expr is all = array_from p d ds is all
  array_of p d ds (more_exprs {done = done} {e = e} {low = low} {h = h} b more) is all =
      array_of p d (ds ++ e ∷ []) more (ap (λ l. l ++ e ∷ []) is) (all_more OwnExpr low h done e all (whole (binary_held b)))

-- what some tokens spell stands before any rest, no higher
pub expr_low : {h : ℕ} {e : Expr} {ts rest : List Token} → IsExpr e h ts rest → Low OwnExpr h e
expr_low x = whole (binary_held x)
