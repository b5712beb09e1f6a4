-- The canonical tokens of components read as them again, no higher than any tokens of them.
use Rattle.std.proofs.Common.{◌≡◌, ℕ, zero, suc, max, ◌≤◌, Bool, true, false, List, [], ◌∷◌, ◌++◌, refl, sym, ap, ◌∙◌, subst, arith, append_assoc, append-nil, if◌then◌else◌}
use Rattle.std.specs.Prelude.{nat_le, map}
use denote.Hole.Carrier.{hidden}
use Rattle.std.proofs.lemmas.Bool.{leb-true, leb-false, le-leb}
use Rattle.zir_tree.specs.declared.place.Place.{Place}
use Rattle.zir_tree.specs.declared.ident.Ident.{Ident}
use Rattle.zir_tree.specs.declared.expr.Expr.{Expr}
use Rattle.zir_tree.specs.declared.stmt.Var.{Var}
use Rattle.zir_tree.specs.declared.comp.Turning.{Turning}
use Rattle.zir_tree.specs.declared.comp.Turning.TheVariants as turning
use Rattle.zir_tree.specs.declared.comp.Link.{Link}
use Rattle.zir_tree.specs.declared.comp.Link.TheVariants as link
use Rattle.zir_tree.specs.declared.comp.Comp.{Comp, Pipe'}
use Rattle.zir_tree.specs.declared.comp.Comp as comp
use Rattle.zir_tree.specs.declared.comp.Comp.TheBlock.{shape-the_row-Comp-0, hidden-the_row-Comp-0, shape-the_row-Member-1, hidden-the_row-Member-1}
use Rattle.zir_tree.specs.declared.comp.Member.{Member}
use Rattle.zir_tree.specs.declared.comp.Member as member
use Rattle.zir_lex.specs.declared.token.Token.{Token}
use Rattle.zir_lex.specs.declared.token.Keyword.TheVariants as keyword
use Rattle.zir_lex.specs.declared.token.Symbol.TheVariants as symbol
use Rattle.zir_grammar.specs.Grammar.{word, sign, name, ident, link_symbol, link_rank, IsVar, IsAtom, take_atom, takes_atom, emit_atom, emits_atom, return_atom, do_atom, repeat_atom, hinted_atom, while_atom, until_atom, times_atom, for_atom, if_atom, map_atom, filter_atom, call_atom, block_atom, enclosed_atom, IsChain, atom, links, IsLinks, no_link, join, IsBlock, block, IsMembers, binds, member_var, member_runs, last_member, last_stopped}
use Rattle.zir_print.specs.Marks.{mark, link_word, parted, enclosed, braced, held}
use Rattle.zir_print.specs.Expressions.{expr_words, called_words}
use Rattle.zir_print.specs.Statements.{bounds_words, body_words}
use Rattle.zir_print.specs.Components.{comp_kind, turning_word, comp_words, each_member, member_words}
use Rattle.zir_print.proofs.Lists.{Low, AllLow, all_more, tallest, tallest_low, enclosed_rest, braced_rest}
use Rattle.zir_print.proofs.ExprLaw.{OwnExpr, expr_low, args_held, args_height, args_low, args_read}
use Rattle.zir_print.proofs.StmtLaw.{OwnVar, var_low, OwnBounds, bounds_low, OwnBody, body_low}

-- ---- the equations of the definitions

pub kind_pipe : (l : Link) (a b : Comp) (p : Place) → comp_kind (comp.Pipe l a b p) ≡ suc (link_rank l)
unfolding shape-the_row-Comp-0 hidden-the_row-Comp-0 hidden
kind_pipe l a b p = refl

pub kind_repeat : (c : Comp) (p : Place) → comp_kind (comp.Repeat c p) ≡ 0
unfolding shape-the_row-Comp-0 hidden-the_row-Comp-0 hidden
kind_repeat c p = refl

pub kind_while : (t : Turning) (e : Expr) (c : Comp) (p : Place) → comp_kind (comp.While t e c p) ≡ 0
unfolding shape-the_row-Comp-0 hidden-the_row-Comp-0 hidden
kind_while t e c p = refl

pub kind_times : (e : Expr) (c : Comp) (p : Place) → comp_kind (comp.Times e c p) ≡ 0
unfolding shape-the_row-Comp-0 hidden-the_row-Comp-0 hidden
kind_times e c p = refl

pub kind_for : (x : Ident) (from count : Expr) (c : Comp) (p : Place) → comp_kind (comp.For x from count c p) ≡ 0
unfolding shape-the_row-Comp-0 hidden-the_row-Comp-0 hidden
kind_for x from count c p = refl

pub kind_if : (e : Expr) (c d : Comp) (p : Place) → comp_kind (comp.If e c d p) ≡ 0
unfolding shape-the_row-Comp-0 hidden-the_row-Comp-0 hidden
kind_if e c d p = refl

pub kind_block : (ms : List Member) (p : Place) → comp_kind (comp.Block ms p) ≡ 0
unfolding shape-the_row-Member-1 hidden-the_row-Member-1 hidden
kind_block ms p = refl

pub words_pipe : (l : Link) (a b : Comp) (p : Place)
    → comp_words (comp.Pipe l a b p) ≡ held (suc (link_rank l)) (comp_kind a) (comp_words a) ++ sign (link_symbol l) p ∷ held (link_rank l) (comp_kind b) (comp_words b)
unfolding shape-the_row-Comp-0 hidden-the_row-Comp-0 hidden
words_pipe l a b p = refl

pub words_repeat : (c : Comp) (p : Place) → comp_words (comp.Repeat c p) ≡ word keyword.Repeat p ∷ held 0 (comp_kind c) (comp_words c)
unfolding shape-the_row-Comp-0 hidden-the_row-Comp-0 hidden
words_repeat c p = refl

pub words_while : (t : Turning) (e : Expr) (c : Comp) (p : Place) → comp_words (comp.While t e c p) ≡ word (turning_word t) p ∷ (enclosed (expr_words e) ++ held 0 (comp_kind c) (comp_words c))
unfolding shape-the_row-Comp-0 hidden-the_row-Comp-0 hidden
words_while t e c p = refl

pub words_times : (e : Expr) (c : Comp) (p : Place) → comp_words (comp.Times e c p) ≡ word keyword.Times p ∷ (enclosed (expr_words e) ++ held 0 (comp_kind c) (comp_words c))
unfolding shape-the_row-Comp-0 hidden-the_row-Comp-0 hidden
words_times e c p = refl

pub words_for : (x : Ident) (from count : Expr) (c : Comp) (p : Place)
    → comp_words (comp.For x from count c p) ≡ word keyword.For p ∷ (bounds_words x from count ++ held 0 (comp_kind c) (comp_words c))
unfolding shape-the_row-Comp-0 hidden-the_row-Comp-0 hidden
words_for x from count c p = refl

pub words_if : (e : Expr) (c d : Comp) (p : Place)
    → comp_words (comp.If e c d p) ≡ word keyword.If p ∷ (expr_words e ++ link_word keyword.Then ∷ (held 0 (comp_kind c) (comp_words c) ++ link_word keyword.Else ∷ held 0 (comp_kind d) (comp_words d)))
unfolding shape-the_row-Comp-0 hidden-the_row-Comp-0 hidden
words_if e c d p = refl

pub row_members : (ms : List Member) → each_member (hidden-the_row-Member-1 ms) ≡ map member_words ms
unfolding shape-the_row-Member-1 hidden-the_row-Member-1 hidden
row_members [] = refl
row_members (member.Bind x c ∷ ms) = ap (λ w. member_words (member.Bind x c) ∷ w) (row_members ms)
row_members (member.Var v ∷ ms) = ap (λ w. member_words (member.Var v) ∷ w) (row_members ms)
row_members (member.Run c ∷ ms) = ap (λ w. member_words (member.Run c) ∷ w) (row_members ms)

pub words_block : (ms : List Member) (p : Place) → comp_words (comp.Block ms p) ≡ braced p (parted (mark symbol.Semicolon) (map member_words ms))
words_block ms p = ap (λ w. braced p (parted (mark symbol.Semicolon) w)) (row_members ms)

-- ---- where a component of a kind may stand

up : (n : ℕ) (c : Comp) (g : ℕ) (ts rest : List Token) → IsChain n c g ts rest → IsChain (suc n) c g ts rest
up n c g ts rest x = links x no_link

lift_from : (j n : ℕ) (c : Comp) (g : ℕ) (ts rest : List Token) (b : Bool) → nat_le n j ≡ b → n ≤ suc j → (n ≤ j → IsChain j c g ts rest) → IsChain n c g ts rest → IsChain (suc j) c g ts rest
lift_from j n c g ts rest true fits le f x = up j c g ts rest (f (leb-true n j fits))
lift_from j n c g ts rest false fits le f x =
    let lt = leb-false n j fits in
    let is : n ≡ suc j = omega (arith, lt, le) in subst (λ m. IsChain m c g ts rest) is x

lift : (j n : ℕ) (c : Comp) (g : ℕ) (ts rest : List Token) → n ≤ j → IsChain n c g ts rest → IsChain j c g ts rest
lift zero n c g ts rest le x = let is : n ≡ zero = omega arith in subst (λ m. IsChain m c g ts rest) is x
lift (suc j) n c g ts rest le x = lift_from j n c g ts rest (nat_le n j) refl le (λ less. lift j n c g ts rest less x) x

-- its own tokens, before whatever follows
abbrev pub Own : Comp → ℕ → Type 0
Own c g = (rest : List Token) → IsChain (comp_kind c) c g (comp_words c ++ rest) rest

abbrev held_height : ℕ → ℕ → ℕ → ℕ
held_height limit k g = if nat_le k limit then g else suc g

-- the canonical tokens at a limit are no higher than that
pub record Held (limit : ℕ) (c : Comp) (h : ℕ) : Type 0 where
  pub height : ℕ
  pub own : Own c height
  pub low : held_height limit (comp_kind c) height ≤ h

rank_small : (l : Link) → suc (link_rank l) ≤ 2
rank_small link.Serial = omega arith
rank_small link.Parallel = omega arith

pub kind_small : (c : Comp) → comp_kind c ≤ 2
kind_small (Pipe' l _ a _ b p) = rank_small l
kind_small other = omega arith

-- what is held stands where that kind is wanted
stands_at : (limit : ℕ) (c : Comp) (g : ℕ) (rest : List Token) (b : Bool) → nat_le (comp_kind c) limit ≡ b → Own c g
    → IsChain limit c (if b then g else suc g) ((if b then comp_words c else enclosed (comp_words c)) ++ rest) rest
stands_at limit c g rest true fits own = lift limit (comp_kind c) c g (comp_words c ++ rest) rest (leb-true (comp_kind c) limit fits) (own rest)
stands_at limit c g rest false fits own =
    let close : List Token = mark symbol.RightParenthesis ∷ rest in
    let inner : IsChain 2 c g (comp_words c ++ close) close = lift 2 (comp_kind c) c g (comp_words c ++ close) close (kind_small c) (own close) in
    lift limit zero c (suc g) _ rest (omega arith) (atom (subst (λ w. IsAtom c (suc g) w rest) (sym (enclosed_rest (comp_words c) rest)) (enclosed_atom inner)))

stands : (limit : ℕ) (c : Comp) (g : ℕ) (rest : List Token) → Own c g → IsChain limit c (held_height limit (comp_kind c) g) (held limit (comp_kind c) (comp_words c) ++ rest) rest
stands limit c g rest own = stands_at limit c g rest (nat_le (comp_kind c) limit) refl own

bare : {c : Comp} {g : ℕ} {ts rest : List Token} → IsChain 0 c g ts rest → IsAtom c g ts rest
bare (atom x) = x

-- where an atom is needed
stands_atom : {c : Comp} {h : ℕ} (x : Held 0 c h) (rest : List Token) → IsAtom c (held_height 0 (comp_kind c) x.height) (held 0 (comp_kind c) (comp_words c) ++ rest) rest
stands_atom {c = c} x rest = bare (stands 0 c x.height rest x.own)

-- a higher limit asks for no more
raise_from : (limit k g h : ℕ) (a b : Bool) → nat_le k limit ≡ a → nat_le k (suc limit) ≡ b → (if a then g else suc g) ≤ h → (if b then g else suc g) ≤ h
raise_from limit k g h true true x y le = le
raise_from limit k g h true false x y le = let p = leb-true k limit x in let q = leb-false k (suc limit) y in absurd (omega (arith, p, q))
raise_from limit k g h false true x y le = omega (arith, le)
raise_from limit k g h false false x y le = le

raise : {limit h : ℕ} {c : Comp} → Held limit c h → Held (suc limit) c h
raise {limit = limit} {h = h} {c = c} x = record {
  height = x.height;
  own = x.own;
  low = raise_from limit (comp_kind c) x.height h (nat_le (comp_kind c) limit) (nat_le (comp_kind c) (suc limit)) refl refl x.low;
}

fits_limit : (limit k g : ℕ) → k ≤ limit → held_height limit k g ≡ g
fits_limit limit k g le = rw (le-leb k limit le) refl

whole_height : {limit h : ℕ} {c : Comp} → 2 ≤ limit → (x : Held limit c h) → x.height ≤ h
whole_height {limit = limit} {h = h} {c = c} le x =
    let small = kind_small c in
    let f = fits_limit limit (comp_kind c) x.height (omega (arith, small, le)) in
    let a = x.low in omega (arith, f, a)

-- a whole component stands before any rest
abbrev pub OwnComp : Comp → ℕ → Type 0
OwnComp c g = (rest : List Token) → IsChain 2 c g (comp_words c ++ rest) rest

pub whole : {h : ℕ} {c : Comp} → Held 2 c h → Low OwnComp h c
whole {c = c} x = record {
  height = x.height;
  own = λ rest. lift 2 (comp_kind c) c x.height (comp_words c ++ rest) rest (kind_small c) (x.own rest);
  low = whole_height (omega arith) x;
}

held_most : (b : Bool) (g : ℕ) → (if b then g else suc g) ≤ suc g
held_most true g = omega arith
held_most false g = omega arith

parens_held : {h : ℕ} {c : Comp} → Held 2 c h → Held 0 c (suc h)
parens_held {c = c} x =
    let a = whole_height (omega arith) x in
    let m = held_most (nat_le (comp_kind c) 0) x.height in
    record { height = x.height; own = x.own; low = omega (arith, a, m) }

-- ---- forms of one kind

-- a form of a kind, by the tokens that it has before any rest
whole_form : {limit g h : ℕ} {c : Comp} (ws : List Token) → comp_kind c ≡ limit → comp_words c ≡ ws → g ≤ h → ((rest : List Token) → IsChain limit c g (ws ++ rest) rest) → Held limit c h
whole_form {limit = limit} {g = g} {h = h} {c = c} ws is same le reads =
    let f = fits_limit limit (comp_kind c) g (omega (arith, is)) in
    record {
      height = g;
      own = λ rest. subst (λ m. IsChain m c g (comp_words c ++ rest) rest) (sym is) (subst (λ w. IsChain limit c g (w ++ rest) rest) (sym same) (reads rest));
      low = omega (arith, f, le);
    }

atom_form : {g h : ℕ} {c : Comp} (ws : List Token) → comp_kind c ≡ 0 → comp_words c ≡ ws → g ≤ h → ((rest : List Token) → IsAtom c g (ws ++ rest) rest) → Held 0 c h
atom_form ws is same le reads = whole_form ws is same le (λ rest. atom (reads rest))

links_join : {n low mid high : ℕ} {first l c : Comp} {ts end rest : List Token} → IsLinks n first low l mid ts end → IsLinks n l mid c high end rest → IsLinks n first low c high ts rest
links_join no_link x = x
links_join (join l is b more) x = join l is b (links_join more x)

chain_snoc : {n g1 g2 : ℕ} {a b : Comp} {p : Place} {ts mid rest : List Token} (l : Link) → link_rank l ≡ n → IsChain (suc n) a g1 ts (sign (link_symbol l) p ∷ mid) → IsChain n b g2 mid rest
    → IsChain (suc n) (comp.Pipe l a b p) (suc (max g1 g2)) ts rest
chain_snoc l is (links first more) b = links first (links_join more (join l is b no_link))

joined_held : {n low h : ℕ} {a b : Comp} {p : Place} (l : Link) → link_rank l ≡ n → Held (suc n) a low → Held n b h → Held (suc n) (comp.Pipe l a b p) (suc (max low h))
joined_held {n = n} {low = low} {h = h} {a = a} {b = b} {p = p} l is x y =
    let g1 : ℕ = held_height (suc n) (comp_kind a) x.height in
    let g2 : ℕ = held_height n (comp_kind b) y.height in
    let left : List Token = held (suc n) (comp_kind a) (comp_words a) in
    let right : List Token = held n (comp_kind b) (comp_words b) in
    let c = x.low in
    let d = y.low in
    let same : comp_words (comp.Pipe l a b p) ≡ left ++ sign (link_symbol l) p ∷ right =
    words_pipe l a b p ∙ ap (λ m. held (suc m) (comp_kind a) (comp_words a) ++ sign (link_symbol l) p ∷ held m (comp_kind b) (comp_words b)) is in
    whole_form (left ++ sign (link_symbol l) p ∷ right) (kind_pipe l a b p ∙ ap (λ m. suc m) is) same (omega (arith, c, d))
    (λ rest. subst (λ w. IsChain (suc n) (comp.Pipe l a b p) (suc (max g1 g2)) w rest) (sym (append_assoc left (sign (link_symbol l) p ∷ right) rest))
    (chain_snoc l is (stands (suc n) a x.height (sign (link_symbol l) p ∷ (right ++ rest)) x.own) (stands n b y.height rest y.own)))

-- ---- atoms

emit_held : {h : ℕ} {e : Expr} (p : Place) → Low OwnExpr h e → Held 0 (comp.Emit e p) (suc h)
emit_held {e = e} p z = let a = z.low in atom_form (word keyword.Emit p ∷ expr_words e) refl refl (omega (arith, a)) (λ rest. emit_atom (z.own rest))

emits_held : {h : ℕ} {e : Expr} (p : Place) → Low OwnExpr h e → Held 0 (comp.Emits e p) (suc h)
emits_held {e = e} p z = let a = z.low in atom_form (word keyword.Emits p ∷ expr_words e) refl refl (omega (arith, a)) (λ rest. emits_atom (z.own rest))

return_held : {h : ℕ} {e : Expr} (p : Place) → Low OwnExpr h e → Held 0 (comp.Return e p) (suc h)
return_held {e = e} p z = let a = z.low in atom_form (word keyword.Return p ∷ expr_words e) refl refl (omega (arith, a)) (λ rest. return_atom (z.own rest))

do_held : {h : ℕ} {b : _} (p : Place) → Low OwnBody h b → Held 0 (comp.Do b p) (suc h)
do_held {b = b} p z = let a = z.low in atom_form (word keyword.Do p ∷ body_words b) refl refl (omega (arith, a)) (λ rest. do_atom (z.own rest))

repeat_held : {h : ℕ} {c : Comp} (p : Place) → Held 0 c h → Held 0 (comp.Repeat c p) (suc h)
repeat_held {c = c} p x = let a = x.low in atom_form (word keyword.Repeat p ∷ held 0 (comp_kind c) (comp_words c)) (kind_repeat c p) (words_repeat c p) (omega (arith, a)) (λ rest. repeat_atom (stands_atom x rest))

-- the tokens of a condition in parentheses, before a body and a rest
condition_rest : (e : Expr) (ws rest : List Token) → (enclosed (expr_words e) ++ ws) ++ rest ≡ mark symbol.LeftParenthesis ∷ (expr_words e ++ mark symbol.RightParenthesis ∷ (ws ++ rest))
condition_rest e ws rest = append_assoc (enclosed (expr_words e)) ws rest ∙ enclosed_rest (expr_words e) (ws ++ rest)

while_held : {low h : ℕ} {e : Expr} {c : Comp} (p : Place) → Low OwnExpr low e → Held 0 c h → Held 0 (comp.While turning.While e c p) (suc (max low h))
while_held {e = e} {c = c} p z x =
    let a = z.low in
    let b = x.low in
    let ws : List Token = held 0 (comp_kind c) (comp_words c) in
    atom_form (word keyword.While p ∷ (enclosed (expr_words e) ++ ws)) (kind_while turning.While e c p) (words_while turning.While e c p) (omega (arith, a, b))
    (λ rest. subst (λ w. IsAtom (comp.While turning.While e c p) (suc (max z.height (held_height 0 (comp_kind c) x.height))) (word keyword.While p ∷ w) rest) (sym (condition_rest e ws rest))
    (while_atom (z.own (mark symbol.RightParenthesis ∷ (ws ++ rest))) (stands_atom x rest)))

until_held : {low h : ℕ} {e : Expr} {c : Comp} (p : Place) → Low OwnExpr low e → Held 0 c h → Held 0 (comp.While turning.Until e c p) (suc (max low h))
until_held {e = e} {c = c} p z x =
    let a = z.low in
    let b = x.low in
    let ws : List Token = held 0 (comp_kind c) (comp_words c) in
    atom_form (word keyword.Until p ∷ (enclosed (expr_words e) ++ ws)) (kind_while turning.Until e c p) (words_while turning.Until e c p) (omega (arith, a, b))
    (λ rest. subst (λ w. IsAtom (comp.While turning.Until e c p) (suc (max z.height (held_height 0 (comp_kind c) x.height))) (word keyword.Until p ∷ w) rest) (sym (condition_rest e ws rest))
    (until_atom (z.own (mark symbol.RightParenthesis ∷ (ws ++ rest))) (stands_atom x rest)))

times_held : {low h : ℕ} {e : Expr} {c : Comp} (p : Place) → Low OwnExpr low e → Held 0 c h → Held 0 (comp.Times e c p) (suc (max low h))
times_held {e = e} {c = c} p z x =
    let a = z.low in
    let b = x.low in
    let ws : List Token = held 0 (comp_kind c) (comp_words c) in
    atom_form (word keyword.Times p ∷ (enclosed (expr_words e) ++ ws)) (kind_times e c p) (words_times e c p) (omega (arith, a, b))
    (λ rest. subst (λ w. IsAtom (comp.Times e c p) (suc (max z.height (held_height 0 (comp_kind c) x.height))) (word keyword.Times p ∷ w) rest) (sym (condition_rest e ws rest))
    (times_atom (z.own (mark symbol.RightParenthesis ∷ (ws ++ rest))) (stands_atom x rest)))

for_held : {low h : ℕ} {x : Ident} {from count : Expr} {c : Comp} (p : Place) → Low (OwnBounds x from) low count → Held 0 c h → Held 0 (comp.For x from count c p) (suc (max low h))
for_held {x = i} {from = from} {count = count} {c = c} p z x =
    let a = z.low in
    let b = x.low in
    let ws : List Token = held 0 (comp_kind c) (comp_words c) in
    atom_form (word keyword.For p ∷ (bounds_words i from count ++ ws)) (kind_for i from count c p) (words_for i from count c p) (omega (arith, a, b))
    (λ rest. subst (λ w. IsAtom (comp.For i from count c p) (suc (max z.height (held_height 0 (comp_kind c) x.height))) (word keyword.For p ∷ w) rest) (sym (append_assoc (bounds_words i from count) ws rest))
    (for_atom (z.own (ws ++ rest)) (stands_atom x rest)))

if_held : {low h high : ℕ} {e : Expr} {c d : Comp} (p : Place) → Low OwnExpr low e → Held 0 c h → Held 0 d high → Held 0 (comp.If e c d p) (suc (max (max low h) high))
if_held {e = e} {c = c} {d = d} p z x y =
    let k = z.low in
    let l = x.low in
    let m = y.low in
    let ws : List Token = held 0 (comp_kind c) (comp_words c) in
    let us : List Token = held 0 (comp_kind d) (comp_words d) in
    let g : ℕ = suc (max (max z.height (held_height 0 (comp_kind c) x.height)) (held_height 0 (comp_kind d) y.height)) in
    atom_form (word keyword.If p ∷ (expr_words e ++ link_word keyword.Then ∷ (ws ++ link_word keyword.Else ∷ us))) (kind_if e c d p) (words_if e c d p) (omega (arith, k, l, m))
    (λ rest. subst (λ w. IsAtom (comp.If e c d p) g (word keyword.If p ∷ w) rest)
    (sym (append_assoc (expr_words e) (link_word keyword.Then ∷ (ws ++ link_word keyword.Else ∷ us)) rest ∙ ap (λ q. expr_words e ++ link_word keyword.Then ∷ q) (append_assoc ws (link_word keyword.Else ∷ us) rest)))
    (if_atom (z.own (link_word keyword.Then ∷ (ws ++ link_word keyword.Else ∷ (us ++ rest)))) (stands_atom x (link_word keyword.Else ∷ (us ++ rest))) (stands_atom y rest)))

call_held : (h : ℕ) (es : List Expr) (x : List ℕ) (p : Place) → AllLow OwnExpr h es → Held 0 (comp.Call (ident x p) 0 es) (suc h)
call_held h es x p all =
    let le = args_low h es all in
    let ws : List Token = parted (mark symbol.Comma) (map expr_words es) in
    atom_form (called_words (ident x p) es) refl refl (omega (arith, le))
    (λ rest. subst (λ w. IsAtom (comp.Call (ident x p) 0 es) (suc (args_height h es all)) (name x p ∷ w) rest) (sym (enclosed_rest ws rest)) (call_atom (args_read h es rest all)))

-- ---- blocks

-- the tokens are a member
data IsMember : Member → ℕ → List Token → List Token → Type 0 where
  a_bind : {x : List ℕ} {c : Comp} {h : ℕ} {at arrow : Place} {ts rest : List Token} → IsChain 2 c h ts rest → IsMember (member.Bind (ident x at) c) (suc h) (name x at ∷ sign symbol.LeftArrow arrow ∷ ts) rest
  a_var : {v : Var} {h : ℕ} {ts rest : List Token} → IsVar v h ts rest → IsMember (member.Var v) h ts rest
  a_run : {c : Comp} {h : ℕ} {ts rest : List Token} → IsChain 2 c h ts rest → IsMember (member.Run c) h ts rest

abbrev OwnMember : Member → ℕ → Type 0
OwnMember m g = (rest : List Token) → IsMember m g (member_words m ++ rest) rest

member_then : {done ms : List Member} {m : Member} {low h high : ℕ} {stop : Place} {ts mid rest end : List Token} → IsMember m h ts end → end ≡ sign symbol.Semicolon stop ∷ mid
    → IsMembers (done ++ m ∷ []) (max low h) ms high mid rest → IsMembers done low ms high ts rest
member_then {stop = stop} {mid = mid} (a_bind {c = c} {h = h} {ts = ts} x) is more = binds (subst (λ w. IsChain 2 c h ts w) is x) more
member_then {stop = stop} {mid = mid} (a_var {v = v} {h = h} {ts = ts} x) is more = member_var (subst (λ w. IsVar v h ts w) is x) more
member_then {stop = stop} {mid = mid} (a_run {c = c} {h = h} {ts = ts} x) is more = member_runs (subst (λ w. IsChain 2 c h ts w) is x) more

run_read : {c : Comp} {h : ℕ} {ts rest : List Token} → IsMember (member.Run c) h ts rest → IsChain 2 c h ts rest
run_read (a_run x) = x

-- the last member of a block is a component
abbrev EndsRun : List Member → Type 0
EndsRun [] = ⊥
EndsRun (member.Run c ∷ []) = Unit {0}
EndsRun (m ∷ []) = ⊥
EndsRun (m ∷ k ∷ ms) = EndsRun (k ∷ ms)

ends_run : (done : List Member) (c : Comp) → EndsRun (done ++ member.Run c ∷ [])
ends_run [] c = tt
ends_run (m ∷ []) c = tt
ends_run (m ∷ k ∷ done) c = ends_run (k ∷ done) c

-- the members of a block behind others
members_read : (h : ℕ) (done : List Member) (m : Member) (ms : List Member) (low : ℕ) (rest : List Token) (all : AllLow OwnMember h (m ∷ ms)) → EndsRun (m ∷ ms)
    → IsMembers done low (done ++ m ∷ ms) (tallest OwnMember h low (m ∷ ms) all) (parted (mark symbol.Semicolon) (map member_words (m ∷ ms)) ++ mark symbol.RightBrace ∷ rest) rest
members_read h done m (k ∷ ms) low rest (l, all) last =
    let more : List Token = parted (mark symbol.Semicolon) (map member_words (k ∷ ms)) in
    let close : List Token = mark symbol.RightBrace ∷ rest in
    let g : ℕ = tallest OwnMember h (max low l.height) (k ∷ ms) all in
    subst (λ w. IsMembers done low (done ++ m ∷ k ∷ ms) g w rest) (sym (append_assoc (member_words m) (mark symbol.Semicolon ∷ more) close))
    (member_then (l.own (mark symbol.Semicolon ∷ (more ++ close))) refl
    (subst (λ q. IsMembers (done ++ m ∷ []) (max low l.height) q g (more ++ close) rest) (append_assoc done (m ∷ []) (k ∷ ms))
    (members_read h (done ++ m ∷ []) k ms (max low l.height) rest all last)))
members_read h done (member.Run c) [] low rest (l, all) last =
    subst (λ w. IsMembers done low (done ++ member.Run c ∷ []) (max low l.height) (w ++ mark symbol.RightBrace ∷ rest) rest) (sym (append-nil (comp_words c)))
    (last_member (run_read (l.own (mark symbol.RightBrace ∷ rest))))
members_read h done (member.Bind x c) [] low rest (l, all) last = absurd last
members_read h done (member.Var v) [] low rest (l, all) last = absurd last

abbrev pub OwnBlock : Comp → ℕ → Type 0
OwnBlock c g = (rest : List Token) → IsBlock c g (comp_words c ++ rest) rest

block_at : (h : ℕ) (m : Member) (ms : List Member) (p : Place) → AllLow OwnMember h (m ∷ ms) → EndsRun (m ∷ ms) → Low OwnBlock (suc h) (comp.Block (m ∷ ms) p)
block_at h m ms p all last =
    let le = tallest_low OwnMember h 0 (m ∷ ms) all (omega arith) in
    let g : ℕ = tallest OwnMember h 0 (m ∷ ms) all in
    let ws : List Token = parted (mark symbol.Semicolon) (map member_words (m ∷ ms)) in
    record {
      height = suc g;
      own = λ rest. subst (λ w. IsBlock (comp.Block (m ∷ ms) p) (suc g) (w ++ rest) rest) (sym (words_block (m ∷ ms) p))
          (subst (λ w. IsBlock (comp.Block (m ∷ ms) p) (suc g) w rest) (sym (braced_rest p ws rest)) (block (members_read h [] m ms 0 rest all last)));
      low = omega (arith, le);
    }

block_from : (h : ℕ) (ms : List Member) (p : Place) → AllLow OwnMember h ms → EndsRun ms → Low OwnBlock (suc h) (comp.Block ms p)
block_from h [] p all last = absurd last
block_from h (m ∷ ms) p all last = block_at h m ms p all last

-- a component that is a block
abbrev IsBraced : Comp → Type 0
IsBraced c = (ms : List Member) × (p : Place) × (c ≡ comp.Block ms p)

block_held_at : {h : ℕ} {c : Comp} → IsBraced c → Low OwnBlock h c → Held 0 c h
block_held_at {c = c} (ms, p, is) z = atom_form (comp_words c) (ap comp_kind is ∙ kind_block ms p) refl z.low (λ rest. block_atom (z.own rest))

is_braced : {c : Comp} {h : ℕ} {ts rest : List Token} → IsBlock c h ts rest → IsBraced c
is_braced (block {ms = ms} {at = p} more) = (ms, p, refl)

-- the members of a block, the last of which is a component
record LowMembers (h : ℕ) (ms : List Member) : Type 0 where
  each : AllLow OwnMember h ms
  last : EndsRun ms

bind_low : {h : ℕ} {c : Comp} (x : List ℕ) (p : Place) → Low OwnComp h c → Low OwnMember (suc h) (member.Bind (ident x p) c)
bind_low x p z = let a = z.low in record { height = suc z.height; own = λ rest. a_bind (z.own rest); low = omega (arith, a) }

var_member : {h : ℕ} {v : Var} → Low OwnVar h v → Low OwnMember h (member.Var v)
var_member z = record { height = z.height; own = λ rest. a_var (z.own rest); low = z.low }

run_low : {h : ℕ} {c : Comp} → Low OwnComp h c → Low OwnMember h (member.Run c)
run_low z = record { height = z.height; own = λ rest. a_run (z.own rest); low = z.low }

last_low : (low h : ℕ) (done : List Member) (c : Comp) → AllLow OwnMember low done → Low OwnComp h c → LowMembers (max low h) (done ++ member.Run c ∷ [])
last_low low h done c all z = record { each = all_more OwnMember low h done (member.Run c) all (run_low z); last = ends_run done c }

-- ---- from tokens that spell a component

mutual
  pub atom_held : {c : Comp} {h : ℕ} {ts rest : List Token} → IsAtom c h ts rest → Held 0 c h
  atom_held take_atom = record { height = 1; own = λ rest. atom take_atom; low = omega arith }
  atom_held takes_atom = record { height = 1; own = λ rest. atom takes_atom; low = omega arith }
  atom_held (emit_atom {at = p} b) = emit_held p (expr_low b)
  atom_held (emits_atom {at = p} b) = emits_held p (expr_low b)
  atom_held (return_atom {at = p} b) = return_held p (expr_low b)
  atom_held (do_atom {at = p} b) = do_held p (body_low b)
  atom_held (repeat_atom {at = p} x) = repeat_held p (atom_held x)
  atom_held (hinted_atom {at = p} x) = repeat_held p (atom_held x)
  atom_held (while_atom {at = p} b x) = while_held p (expr_low b) (atom_held x)
  atom_held (until_atom {at = p} b x) = until_held p (expr_low b) (atom_held x)
  atom_held (times_atom {at = p} b x) = times_held p (expr_low b) (atom_held x)
  atom_held (for_atom {at = p} b x) = for_held p (bounds_low b) (atom_held x)
  atom_held (if_atom {at = p} b x y) = if_held p (expr_low b) (atom_held x) (atom_held y)
  atom_held map_atom = record { height = 1; own = λ rest. atom map_atom; low = omega arith }
  atom_held filter_atom = record { height = 1; own = λ rest. atom filter_atom; low = omega arith }
  atom_held (call_atom {x = x} {es = es} {h = h} {at = p} a) = call_held h es x p (args_held a)
  atom_held (block_atom x) = block_held_at (is_braced x) (block_low x)
  atom_held (enclosed_atom x) = parens_held (chain_held x)

  pub chain_held : {n h : ℕ} {c : Comp} {ts rest : List Token} → IsChain n c h ts rest → Held n c h
  chain_held (atom x) = atom_held x
  chain_held (links x more) = links_held more (raise (chain_held x))

  links_held : {n low h : ℕ} {left c : Comp} {ts rest : List Token} → IsLinks n left low c h ts rest → Held (suc n) left low → Held (suc n) c h
  links_held no_link x = x
  links_held (join l is y more) x = links_held more (joined_held l is x (chain_held y))

  pub block_low : {c : Comp} {h : ℕ} {ts rest : List Token} → IsBlock c h ts rest → Low OwnBlock h c
  block_low (block {ms = ms} {h = h} {at = p} more) = let x = members_low more tt in block_from h ms p x.each x.last

  members_low : {done ms : List Member} {low h : ℕ} {ts rest : List Token} → IsMembers done low ms h ts rest → AllLow OwnMember low done → LowMembers h ms
  members_low (binds {done = done} {x = x} {c = c} {low = low} {h = h} {at = p} y more) all =
      members_low more (all_more OwnMember low (suc h) done (member.Bind (ident x p) c) all (bind_low x p (whole (chain_held y))))
  members_low (member_var {done = done} {v = v} {low = low} {h = h} y more) all = members_low more (all_more OwnMember low h done (member.Var v) all (var_member (var_low y)))
  members_low (member_runs {done = done} {c = c} {low = low} {h = h} y more) all = members_low more (all_more OwnMember low h done (member.Run c) all (run_low (whole (chain_held y))))
  members_low (last_member {done = done} {c = c} {low = low} {h = h} y) all = last_low low h done c all (whole (chain_held y))
  members_low (last_stopped {done = done} {c = c} {low = low} {h = h} y) all = last_low low h done c all (whole (chain_held y))

-- what some tokens spell stands before any rest, no higher
pub comp_low : {c : Comp} {h : ℕ} {ts rest : List Token} → IsChain 2 c h ts rest → Low OwnComp h c
comp_low x = whole (chain_held x)
