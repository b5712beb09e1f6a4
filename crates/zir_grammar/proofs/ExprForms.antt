-- Expressions, part by part.
use Rattle.std.proofs.Common.{
  ◌≡◌,
  ℕ,
  zero,
  suc,
  max,
  nat_lt,
  Bool,
  true,
  false,
  List,
  [],
  ◌∷◌,
  ◌++◌,
  Option,
  Some,
  None,
  inl,
  inr,
  refl,
  sym,
  ap,
  ◌∙◌,
  subst,
  arith,
}
use Rattle.zir_tree.specs.declared.place.Place.{Place}
use Rattle.zir_tree.specs.declared.types.Base.{Base}
use Rattle.zir_tree.specs.declared.types.Base.TheVariants as base
use Rattle.zir_tree.specs.declared.expr.Prefix.{Prefix}
use Rattle.zir_tree.specs.declared.expr.Prefix.TheVariants as prefix
use Rattle.zir_tree.specs.declared.expr.Operator.{Operator}
use Rattle.zir_tree.specs.declared.expr.Callee.TheVariants as callee
use Rattle.zir_tree.specs.declared.expr.Expr.{Expr}
use Rattle.zir_tree.specs.declared.expr.Expr as expr
use Rattle.zir_lex.specs.declared.token.Token.{Token}
use Rattle.zir_lex.specs.declared.token.Lexeme.{Lexeme}
use Rattle.zir_lex.specs.declared.token.Lexeme.TheVariants as lexeme
use Rattle.zir_lex.specs.declared.token.Keyword.{Keyword}
use Rattle.zir_lex.specs.declared.token.Keyword.TheVariants as keyword
use Rattle.zir_lex.specs.declared.token.Symbol.TheVariants as symbol
use Rattle.zir_grammar.specs.Grammar.{
  IsBinary,
  unary,
  operands,
  IsOperands,
  no_operand,
  operand,
  IsUnary,
  prefixed,
  primary,
  IsPosts,
  no_post,
  index,
  slice,
  part,
  IsPrimary,
  number,
  bit_value,
  true_value,
  false_value,
  unit_value,
  variable,
  call,
  enclosed,
  array,
  convert,
  complex,
  IsArgs,
  no_args,
  args,
  IsMoreExprs,
  last_expr,
  more_exprs as further_exprs,
}
use Rattle.zir_grammar.specs.Grammar.{word, sign, name, int, bit, ident, conversion_of, ranks, rank, symbol_of, prefix_token}
use Rattle.zir_grammar.specs.Wants.{Want, a_sign, an_operator, Payload, Fits, token_of, told, if_found, operator_of}
use Rattle.zir_grammar.specs.declared.enclosure.Enclosure.{Enclosure}
use Rattle.zir_grammar.specs.declared.enclosure.Enclosure.TheVariants.{Parentheses as parentheses, Braces as braces}
use Rattle.zir_grammar.specs.Enclosures.{closing_of}
use Rattle.zir_grammar.specs.Parts.{
  a_binary,
  operands_of,
  posts_of,
  behind_name,
  more_exprs,
  Rest,
  gives,
  reads,
  lead,
  done_with,
  wants_sign,
  known,
  conversion_end,
  conversion_rest,
  primary_entries,
  prefix_entry,
  binary_entries,
  operand_entries,
  post_end,
  post_entries,
  parenthesis_entries,
  call_entries,
  args_entries,
  entries,
}
use Rattle.zir_grammar.specs.Machine.{found}
use Rattle.zir_grammar.proofs.Meaning.{Reads, AllEntries}
use Rattle.zir_grammar.proofs.Tokens.{told_back, operator_read}
use Rattle.zir_grammar.proofs.Sound.{Tokens, nothing, behind_binary, below_rank, joins_on, is_post, is_call, Within, Avoids, Sound}
use Rattle.zir_grammar.proofs.Follow.{avoids_nothing}
use Rattle.zir_grammar.proofs.Tables.{
  Form,
  Reading,
  lead_read,
  all_append,
  Steady,
  lead_sound,
  NoLower,
  lead_low,
  OpensBy,
  opens_by,
  opens_lead,
  opens_front,
  Differs,
  NoneOf,
  none_lead,
  opens_behind,
  same,
}
use Rattle.zir_grammar.proofs.Entries.{Opens, opened, passed}

-- ---- tokens behind expressions

rank_up : (a n : ℕ) → nat_lt a n ≡ true → nat_lt a (suc n) ≡ true
rank_up a n e = grind arith

rank_not : (a n : ℕ) → a ≡ n → nat_lt a n ≡ false
rank_not a n e = grind arith

rank_next : (a n : ℕ) → a ≡ n → nat_lt a (suc n) ≡ true
rank_next a n e = grind arith

operator_up : (o : Option Operator) (b : Bool) (n : ℕ) → if_found o (λ op. nat_lt (rank op) n) b ≡ true → if_found o (λ op. nat_lt (rank op) (suc n)) b ≡ true
operator_up (Some op) b n e = rank_up (rank op) n e
operator_up None b n e = e

below_up : (n : ℕ) (l : Lexeme) → below_rank n l ≡ true → below_rank (suc n) l ≡ true
below_up n (lexeme.Symbol s) e = operator_up (operator_of s) (joins_on s) n e
below_up n l e = absurd (cc e)

pub binary_up : (n : ℕ) → Within (behind_binary n) (behind_binary (suc n))
binary_up n t e = below_up n t.lexeme e

post_below : (n : ℕ) (l : Lexeme) → is_post l ≡ true → below_rank n l ≡ true
post_below n (lexeme.Symbol symbol.LeftBracket) e = refl
post_below n (lexeme.Symbol symbol.Dot) e = refl
post_below n l e = absurd (cc e)

call_below : (n : ℕ) (l : Lexeme) → is_call l ≡ true → below_rank n l ≡ true
call_below n (lexeme.Symbol symbol.LeftParenthesis) e = refl
call_below n l e = absurd (cc e)

abbrev pub posts_token : Tokens
posts_token t = is_post t.lexeme

abbrev pub call_token : Tokens
call_token t = is_call t.lexeme

operand_avoided : (n : ℕ) (p : Operator × Place) → rank p.0 ≡ n → behind_binary n (sign (symbol_of p.0) p.1) ≡ false
operand_avoided n p e = rw (operator_read p.0) (rank_not (rank p.0) n e)

pub operand_follows : (n : ℕ) (p : Operator × Place) → rank p.0 ≡ n → behind_binary (suc n) (sign (symbol_of p.0) p.1) ≡ true
operand_follows n p e = rw (operator_read p.0) (rank_next (rank p.0) n e)

closing_avoided : (kind : Enclosure) (at : Place) → behind_binary 10 (sign (closing_of kind) at) ≡ false
closing_avoided parentheses at = refl
closing_avoided braces at = refl

-- a list of expressions stands behind an expression
pub more_exprs_avoid : {A : Type 0} (after : Tokens) (kind : Enclosure) (done : List Expr) (low : ℕ) (f : List Expr → ℕ → Rest A)
    → Avoids after (behind_binary 10) (reads (more_exprs kind done low) f)
more_exprs_avoid after kind done low f = ((λ p fits. closing_avoided kind p, (λ p fits. refl, tt)), λ e. absurd (cc e))

-- ---- primaries

abbrev pub PrimaryForm : Form Expr
PrimaryForm e h ts rest = IsPrimary e h ts rest

conversion_read : (w : Keyword) (at : Place) (b : Base) → conversion_of w ≡ Some b → (opens : Place) (e : Expr) (g : ℕ) (us mid : List Token)
    → IsBinary ranks e g us mid
    → (a : Expr) (h : ℕ) (rest : List Token) → Reads (conversion_end w at e g) a h mid rest
    → IsPrimary a h (word w at ∷ sign symbol.LeftParenthesis opens ∷ us) rest
conversion_read w at b is opens e g us mid x a h rest (inl (closes, m, fits, there, (same_tree, same_height, end))) =
    rw (same_tree, same_height, is) (convert is (subst (λ l. IsBinary ranks e g us l) (there ∙ ap (λ l. sign symbol.RightParenthesis closes ∷ l) end) x))
conversion_read w at b is opens e g us mid x a h rest (inr (comma, m, fits, there, (f, k, m2, y, (closes, m3, fits2, there2, (same_tree, same_height, end))))) =
    rw (same_tree, same_height, is)
    (complex is (subst (λ l. IsBinary ranks e g us l) there x) (subst (λ l. IsBinary ranks f k m l) (there2 ∙ ap
    (λ l. sign symbol.RightParenthesis closes ∷ l) end) y))

pub primary_read : AllEntries (Reading PrimaryForm) primary_entries
primary_read = (
  λ p fits a h ts rest x. rw (x.0, x.1, x.2) number,
  (
    λ p fits a h ts rest x. rw (x.0, x.1, x.2) bit_value,
    (
      λ p fits a h ts rest x.
          let y = x.4 in
          rw (x.3) (conversion_read p.0 p.1 fits.0 fits.1 x.0 y.0 y.1 x.1 y.2 y.3 a h rest y.4),
      (
        λ p fits a h ts rest x. rw (x.0, x.1, x.2) true_value,
        (
          λ p fits a h ts rest x. rw (x.0, x.1, x.2) false_value,
          (
            λ p fits a h ts rest x. let end = x.4 in rw (end.0, end.1, sym end.2) x.3,
            (
              λ p fits a h ts rest x. let end = x.4 in rw (end.0, end.1, sym end.2) x.3,
              (
                λ p fits a h ts rest x.
                    let y = x.4 in
                    let end = y.4 in
                    rw (end.0, end.1, sym end.2) (array x.3 y.3),
                tt,
              ),
            ),
          ),
        ),
      ),
    ),
  ),
)

pub primary_opens : (e : Expr) (h : ℕ) (ts rest : List Token) → IsPrimary e h ts rest → OpensBy primary_entries e h ts rest
primary_opens e h ts rest (number {n = n} {at = at}) = opens_by (int n at) _ refl (refl, refl, refl)
primary_opens e h ts rest (bit_value {b = b} {at = at}) = opens_by (bit b at) _ refl (refl, refl, refl)
primary_opens e h ts rest (true_value {at = at}) = opens_by (word keyword.True at) _ refl (refl, refl, refl)
primary_opens e h ts rest (false_value {at = at}) = opens_by (word keyword.False at) _ refl (refl, refl, refl)
primary_opens e h ts rest (unit_value {at = at} {closes = closes}) = opens_by (sign symbol.LeftParenthesis at) _ refl (_, _, _, unit_value, (refl, refl, refl))
primary_opens e h ts rest (variable {x = x} {at = at}) = opens_by (name x at) _ refl (_, _, _, variable, (refl, refl, refl))
primary_opens e h ts rest (call {x = x} {at = at} a) = opens_by (name x at) _ refl (_, _, _, call a, (refl, refl, refl))
primary_opens e h ts rest (enclosed {at = at} b) = opens_by (sign symbol.LeftParenthesis at) _ refl (_, _, _, enclosed b, (refl, refl, refl))
primary_opens e h ts rest (array {at = at} b more) = opens_by (sign symbol.LeftBrace at) _ refl (_, _, _, b, (_, _, _, more, (refl, refl, refl)))
primary_opens e h ts rest (convert {w = w} {b = b} {e = of} {h = g} {at = at} {opens = opens} {closes = closes} {ts = us} is x) =
    opens_by (word w at) (conversion_rest w at) (rw is refl) (
      opens,
      us,
      tt,
      refl,
      (
        of,
        g,
        sign symbol.RightParenthesis closes ∷ rest,
        x,
        inl (
          closes,
          rest,
          tt,
          refl,
          (
            ap
                (λ o. expr.Convert (known o) of at) (sym is),
            refl,
            refl,
          ),
        ),
      ),
    )
primary_opens e h ts rest
    (complex {w = w} {b = b} {re = re} {im = im} {low = low} {h = g} {at = at} {opens = opens} {comma = comma} {closes = closes} {ts = us} {mid = mid} is x y) =
    opens_by (word w at) (conversion_rest w at) (rw is refl) (
      opens,
      us,
      tt,
      refl,
      (
        re,
        low,
        sign symbol.Comma comma ∷ mid,
        x,
        inr (
          comma,
          mid,
          tt,
          refl,
          (im, g, sign symbol.RightParenthesis closes ∷ rest, y, (closes, rest, tt, refl, (ap (λ o. expr.Complex (known o) re im at) (sym is), refl, refl))),
        ),
      ),
    )

conversion_sound : (w : Keyword) (at : Place) → Sound call_token (conversion_rest w at)
conversion_sound w at = (
  tt,
  λ p. (
    λ e h. (
      tt,
      λ q. tt,
      λ q. same (suc h),
      λ q.
          (λ f g. (tt, λ c. tt, λ c. same (suc (max h g))), λ a b g k le. omega arith, λ f g. λ c fits. refl),
      λ q. omega arith,
      λ q fits. refl,
    ),
    λ a b h g le. omega arith,
    λ e h. (λ q fits. refl, λ q fits. refl),
  ),
  λ p. same 2,
)

pub primary_sound : AllEntries (Steady call_token) primary_entries
primary_sound = (
  λ p. tt,
  (
    λ p. tt,
    (
      λ p. conversion_sound p.0 p.1,
      (
        λ p. tt,
        (
          λ p. tt,
          (
            λ p. (λ e h. tt, λ a b h g le. le, λ e h. avoids_nothing call_token (gives e h)),
            (
              λ p. (λ e h. tt, λ a b h g le. le, λ e h t b. b),
              (
                λ p. (
                  λ e h. (λ es g. tt, λ a b g k le. omega arith, λ es g. avoids_nothing call_token (gives (expr.Array es p) (suc g))),
                  λ a b h g le. omega arith,
                  λ e h. more_exprs_avoid call_token braces (e ∷ []) h (λ es g. gives (expr.Array es p) (suc g)),
                ),
                tt,
              ),
            ),
          ),
        ),
      ),
    ),
  ),
)

pub primary_low : AllEntries (NoLower 1) primary_entries
primary_low = (
  λ p. omega arith,
  (
    λ p. omega arith,
    (
      λ p. omega arith,
      (
        λ p. omega arith,
        (
          λ p. omega arith,
          (
            λ p. omega arith,
            (
              λ p. omega arith,
              (λ p. omega arith, tt),
            ),
          ),
        ),
      ),
    ),
  ),
)

-- ---- expressions of a rank

abbrev pub BinaryForm : ℕ → Form Expr
BinaryForm n e h ts rest = IsBinary n e h ts rest

unary_of : {e : Expr} {h : ℕ} {ts rest : List Token} → IsBinary zero e h ts rest → IsUnary e h ts rest
unary_of (unary u) = u

abbrev pub posts_behind : Expr → ℕ → Rest Expr
posts_behind e h = reads (posts_of e h) done_with

abbrev pub operands_behind : ℕ → Expr → ℕ → Rest Expr
operands_behind n e h = reads (operands_of n e h) done_with

pub binary_read : (n : ℕ) → AllEntries (Reading (BinaryForm n)) (binary_entries n)
binary_read zero =
    all_append (Reading (BinaryForm 0)) (lead primary_entries posts_behind) (prefix_entry ∷ [])
    (lead_read PrimaryForm (BinaryForm 0) primary_entries posts_behind primary_read
    (λ a h ts mid b g rest x y. let end = y.4 in rw (end.0, end.1, sym end.2) (unary (primary x y.3))))
    (λ p fits a h ts rest x. let end = x.4 in rw (end.0, end.1, sym end.2) (unary (prefixed p.0 (unary_of x.3))), tt)
binary_read (suc n) =
    lead_read (BinaryForm n) (BinaryForm (suc n)) (binary_entries n) (operands_behind n) (binary_read n)
    (λ a h ts mid b g rest x y. let end = y.4 in rw (end.0, end.1, sym end.2) (operands x y.3))

prefix_found : (op : Prefix) (at : Place)
    → found (binary_entries 0) (prefix_token op at) ≡ Some (reads (a_binary 0) (λ e h. gives (expr.Unary op base.Unit e at) (suc h)))
prefix_found prefix.Minus at = refl
prefix_found prefix.Complement at = refl
prefix_found prefix.Not at = refl

unary_opens : (e : Expr) (h : ℕ) (ts rest : List Token) → IsUnary e h ts rest → OpensBy (binary_entries 0) e h ts rest
unary_opens e h ts rest (prefixed {at = at} op u) = opens_by (prefix_token op at) _ (prefix_found op at) (_, _, _, unary u, (refl, refl, refl))
unary_opens e h ts rest (primary {low = low} {first = first} {mid = mid} p more) =
    opens_front (lead primary_entries posts_behind) (prefix_entry ∷ []) e h ts rest
    (opens_lead primary_entries posts_behind first low e h ts mid rest (primary_opens first low ts mid p) (e, h, rest, more, (refl, refl, refl)))

pub binary_opens : (n : ℕ) (e : Expr) (h : ℕ) (ts rest : List Token) → IsBinary n e h ts rest → OpensBy (binary_entries n) e h ts rest
binary_opens zero e h ts rest (unary u) = unary_opens e h ts rest u
binary_opens (suc n) e h ts rest (operands {low = low} {first = first} {mid = mid} b more) =
    opens_lead (binary_entries n) (operands_behind n) first low e h ts mid rest (binary_opens n first low ts mid b) (e, h, rest, more, (refl, refl, refl))

pub binary_sound : (n : ℕ) → AllEntries (Steady (behind_binary n)) (binary_entries n)
binary_sound zero =
    all_append (Steady (behind_binary 0)) (lead primary_entries posts_behind) (prefix_entry ∷ [])
    (lead_sound (behind_binary 0) call_token primary_entries posts_behind primary_sound
    (λ e h. (λ a g. tt, λ a b g k le. le, λ a g. λ t b. post_below 0 t.lexeme b)) (λ a b h g le. le)
    (λ e h. ((λ p fits. refl, (λ p fits. refl, tt)), λ is. λ t b. call_below 0 t.lexeme b)))
    (λ p. (λ e h. tt, λ a b h g le. omega arith, λ e h. λ t b. b), tt)
binary_sound (suc n) =
    lead_sound (behind_binary (suc n)) (behind_binary n) (binary_entries n) (operands_behind n) (binary_sound n)
    (λ e h. (λ a g. tt, λ a b g k le. le, λ a g. λ t b. b)) (λ a b h g le. le)
    (λ e h. ((λ p fits. operand_avoided n p fits, tt), λ is. binary_up n))

pub binary_low : (n : ℕ) → AllEntries (NoLower 1) (binary_entries n)
binary_low zero =
    all_append (NoLower 1) (lead primary_entries posts_behind) (prefix_entry ∷ []) (lead_low 1 1 primary_entries posts_behind primary_low
    (λ a h le. le)) (λ p. omega arith, tt)
binary_low (suc n) = lead_low 1 1 (binary_entries n) (operands_behind n) (binary_low n) (λ a h le. le)

-- no expression begins with a token of that kind
pub binary_none : (w : Want) (n : ℕ) → NoneOf w primary_entries → ((p : Prefix × Place) → told w (prefix_token p.0 p.1) ≡ None) → NoneOf w (binary_entries n)
binary_none w zero x y = all_append (Differs w) (lead primary_entries posts_behind) (prefix_entry ∷ []) (none_lead w primary_entries posts_behind x)
    (λ p fits. y p, tt)
binary_none w (suc n) x y = none_lead w (binary_entries n) (operands_behind n) (binary_none w n x y)

-- ---- what joins on to an expression

abbrev pub OperandsForm : ℕ → Expr → ℕ → Form Expr
OperandsForm n left low e h ts rest = IsOperands n left low e h ts rest

pub operands_read : (n : ℕ) (left : Expr) (low : ℕ) → AllEntries (Reading (OperandsForm n left low)) (operand_entries n left low)
operands_read n left low = (
  λ p fits a h ts rest x.
      let y = x.4 in
      let end = y.4 in
      rw (end.0, end.1, sym end.2) (operand p.0 fits x.3 y.3),
  tt,
)

pub operands_sound : (n : ℕ) (left : Expr) (low : ℕ) → AllEntries (Steady (behind_binary (suc n))) (operand_entries n left low)
operands_sound n left low = (
  λ p. (
    λ e h. (λ a g. tt, λ a b g k le. le, λ a g. λ t b. b),
    λ a b h g le. omega arith,
    λ e h.
        ((λ q fits. operand_avoided n q fits, tt), λ is. binary_up n),
  ),
  tt,
)

pub operands_low : (n : ℕ) (left : Expr) (low : ℕ) → AllEntries (NoLower low) (operand_entries n left low)
operands_low n left low = (λ p. omega arith, tt)

pub operands_opens : (n : ℕ) (left : Expr) (low : ℕ) (e : Expr) (h : ℕ) (ts rest : List Token) → IsOperands n left low e h ts rest
    → Opens (operands_of n left low) e h ts rest
operands_opens n left low e h ts rest no_operand = passed refl
operands_opens n left low e h ts rest (operand {at = at} op is b more) =
    opened (sign (symbol_of op) at)
    (reads (a_binary n) (λ right g. reads (operands_of n (expr.Binary op base.Unit left right at) (suc (max low g))) done_with)) (rw (told_back
    (an_operator n) (op, at) is) refl) (_, _, _, b, (_, _, _, more, (refl, refl, refl)))

abbrev pub PostsForm : Expr → ℕ → Form Expr
PostsForm of low e h ts rest = IsPosts of low e h ts rest

post_read : (of : Expr) (low : ℕ) (at : Place) (i : Expr) (g : ℕ) (us mid : List Token) → IsBinary ranks i g us mid → (a : Expr) (h : ℕ) (rest : List Token)
    → Reads (post_end of low at i g) a h mid rest → IsPosts of low a h (sign symbol.LeftBracket at ∷ us) rest
post_read of low at i g us mid x a h rest (inl (closes, m, fits, there, (b, k, m2, more, (same_tree, same_height, end)))) =
    rw (same_tree, same_height, sym end) (index (subst (λ l. IsBinary ranks i g us l) there x) more)
post_read of low at i g us mid x a h rest (inr (
  comma,
  m,
  fits,
  there,
  (
    n,
    m2,
    fits2,
    there2,
    (
      closes,
      m3,
      fits3,
      there3,
      (
        b,
        k,
        m4,
        more,
        (same_tree, same_height, end),
      ),
    ),
  ),
)) =
    rw (same_tree, same_height, sym end)
    (slice (subst (λ l. IsBinary ranks i g us l) (there ∙ ap (λ l. sign symbol.Comma comma ∷ l) (there2 ∙ ap (λ l. int n.0 n.1 ∷ l) there3)) x) more)

pub posts_read : (of : Expr) (low : ℕ) → AllEntries (Reading (PostsForm of low)) (post_entries of low)
posts_read of low = (
  λ at fits a h ts rest x. post_read of low at x.0 x.1 ts x.2 x.3 a h rest x.4,
  (
    λ at fits a h ts rest x.
        let y = x.4 in
        let end = y.4 in
        rw (x.3, end.0, end.1, sym end.2) (part y.3),
    tt,
  ),
)

pub posts_opens : (of : Expr) (low : ℕ) (e : Expr) (h : ℕ) (ts rest : List Token) → IsPosts of low e h ts rest → Opens (posts_of of low) e h ts rest
posts_opens of low e h ts rest no_post = passed refl
posts_opens of low e h ts rest (index {at = at} b more) = opened (sign symbol.LeftBracket at) _ refl (
  _,
  _,
  _,
  b,
  inl (
    _,
    _,
    tt,
    refl,
    (
      _,
      _,
      _,
      more,
      (refl, refl, refl),
    ),
  ),
)
posts_opens of low e h ts rest (slice {n = n} {at = at} {within = two} b more) =
    opened (sign symbol.LeftBracket at) _ refl (
      _,
      _,
      _,
      b,
      inr (
        _,
        _,
        tt,
        refl,
        (
          (n, two),
          _,
          tt,
          refl,
          (
            _,
            _,
            tt,
            refl,
            (
              _,
              _,
              _,
              more,
              (refl, refl, refl),
            ),
          ),
        ),
      ),
    )
posts_opens of low e h ts rest (part {x = x} {at = at} {here = here} more) =
    opened (sign symbol.Dot at) _ refl ((x, here), _, tt, refl, (_, _, _, more, (refl, refl, refl)))

posts_end_sound : (of : Expr) (low : ℕ) → Sound posts_token (reads (posts_of of low) done_with)
posts_end_sound of low = (λ a g. tt, λ a b g k le. le, λ a g. λ t b. b)

pub posts_sound : (of : Expr) (low : ℕ) → AllEntries (Steady posts_token) (post_entries of low)
posts_sound of low = (
  λ at. (
    λ i h. (
      tt,
      λ p. posts_end_sound (expr.Index of i at) (suc (max low h)),
      λ p. same (suc (max low h)),
      λ p. (tt, λ n. (tt, λ q. posts_end_sound (expr.Slice of i n.0 at) (suc (max low h)), λ q. same (suc (max low h))), λ n. same (suc (max low h))),
      λ p. same (suc (max low h)),
      λ p fits. refl,
    ),
    λ a b h g le. omega arith,
    λ i h. (λ p fits. refl, λ p fits. refl),
  ),
  (λ at. (tt, λ x. posts_end_sound (expr.Part of x.0 0 at) (suc low), λ x. same (suc low)), tt),
)

pub posts_low : (of : Expr) (low : ℕ) → AllEntries (NoLower low) (post_entries of low)
posts_low of low = (λ p. omega arith, (λ p. omega arith, tt))

pub posts_follow : (of : Expr) (low : ℕ) → AllEntries (λ e. (p : Payload e.want) → Fits e.want p → posts_token (token_of e.want p) ≡ true) (post_entries of low)
posts_follow of low = (λ p fits. refl, (λ p fits. refl, tt))

-- ---- behind `(` and behind a name

abbrev pub ParenthesisForm : Place → Form Expr
ParenthesisForm at e h ts rest = IsPrimary e h (sign symbol.LeftParenthesis at ∷ ts) rest

abbrev pub encloses : Expr → ℕ → Rest Expr
encloses e h = wants_sign symbol.RightParenthesis (gives e (suc h))

pub parenthesis_read : (at : Place) → AllEntries (Reading (ParenthesisForm at)) (parenthesis_entries at)
parenthesis_read at = (
  λ p fits a h ts rest x. rw (x.0, x.1, x.2) unit_value,
  lead_read (BinaryForm ranks) (ParenthesisForm at) (binary_entries ranks) encloses (binary_read ranks)
      (λ a h ts mid b g rest x y.
      let end = y.4 in
      rw (end.0, end.1) (enclosed (subst (λ l. IsBinary ranks a h ts l) (y.3 ∙ ap (λ l. sign symbol.RightParenthesis y.0 ∷ l) end.2) x))),
)

closing_told : NoneOf (a_sign symbol.RightParenthesis) (binary_entries ranks)
closing_told = binary_none (a_sign symbol.RightParenthesis) ranks (
  λ p fits. refl,
  (
    λ p fits. refl,
    (
      λ p fits. refl,
      (
        λ p fits. refl,
        (
          λ p fits. refl,
          (
            λ p fits. refl,
            (
              λ p fits. refl,
              (λ p fits. refl, tt),
            ),
          ),
        ),
      ),
    ),
  ),
) not_prefix
  where
    not_prefix : (p : Prefix × Place) → told (a_sign symbol.RightParenthesis) (prefix_token p.0 p.1) ≡ None
    not_prefix (prefix.Minus, at) = refl
    not_prefix (prefix.Complement, at) = refl
    not_prefix (prefix.Not, at) = refl

pub parenthesis_opens : (at : Place) (e : Expr) (h : ℕ) (ts rest : List Token) → ParenthesisForm at e h ts rest → OpensBy (parenthesis_entries at) e h ts rest
parenthesis_opens at e h ts rest (unit_value {closes = closes}) = opens_by (sign symbol.RightParenthesis closes) _ refl (refl, refl, refl)
parenthesis_opens at e h ts rest (enclosed {h = g} {closes = closes} b) =
    opens_behind (a_sign symbol.RightParenthesis) (λ p. gives (expr.Unit at) 1) (lead (binary_entries ranks) encloses) e (suc g) ts rest
    (none_lead (a_sign symbol.RightParenthesis) (binary_entries ranks) encloses closing_told)
    (opens_lead (binary_entries ranks) encloses e g e (suc g) ts (sign symbol.RightParenthesis closes
    ∷ rest) rest (binary_opens ranks e g ts (sign symbol.RightParenthesis closes ∷ rest) b)
    (closes, rest, tt, refl, (refl, refl, refl)))

pub parenthesis_sound : (at : Place) → AllEntries (Steady nothing) (parenthesis_entries at)
parenthesis_sound at = (
  λ p. tt,
  lead_sound nothing (behind_binary ranks) (binary_entries ranks) encloses (binary_sound ranks) (λ e h. (tt, λ p. tt, λ p. same (suc h)))
      (λ a b h g le. omega arith) (λ e h. λ p fits. refl),
)

pub parenthesis_low : (at : Place) → AllEntries (NoLower 1) (parenthesis_entries at)
parenthesis_low at = (λ p. omega arith, lead_low 1 1 (binary_entries ranks) encloses (binary_low ranks) (λ a h le. omega arith))

abbrev pub NameForm : List ℕ → Place → Form Expr
NameForm x at e h ts rest = IsPrimary e h (name x at ∷ ts) rest

pub name_read : (x : List ℕ) (at : Place) → AllEntries (Reading (NameForm x at)) (call_entries x at)
name_read x at = (λ p fits a h ts rest y. let end = y.4 in rw (end.0, end.1, sym end.2) (call y.3), tt)

pub name_opens : (x : List ℕ) (at : Place) (e : Expr) (h : ℕ) (ts rest : List Token) → NameForm x at e h ts rest → Opens (behind_name x at) e h ts rest
name_opens x at e h ts rest variable = passed refl
name_opens x at e h ts rest (call {opens = opens} a) = opened (sign symbol.LeftParenthesis opens) _ refl (_, _, _, a, (refl, refl, refl))

pub name_sound : (x : List ℕ) (at : Place) → AllEntries (Steady call_token) (call_entries x at)
name_sound x at = (
  λ p.
      (λ es h. tt, λ a b h g le. omega arith, λ es h. avoids_nothing call_token (gives (expr.Call (ident x at) (callee.Function 0) es) (suc h))),
  tt,
)

-- ---- lists of expressions

abbrev pub MoreExprsForm : Enclosure → List Expr → ℕ → Form (List Expr)
MoreExprsForm kind done low es h ts rest = IsMoreExprs (closing_of kind) done low es h ts rest

pub more_exprs_read : (kind : Enclosure) (done : List Expr) (low : ℕ) → AllEntries (Reading (MoreExprsForm kind done low)) (entries (more_exprs kind done low))
more_exprs_read kind done low = (
  λ p fits a h ts rest x. rw (x.0, x.1, x.2) last_expr,
  (
    λ p fits a h ts rest x.
        let y = x.4 in
        let end = y.4 in
        rw (end.0, end.1, sym end.2) (further_exprs x.3 y.3),
    tt,
  ),
)

pub more_exprs_opens : (kind : Enclosure) (done : List Expr) (low : ℕ) (es : List Expr) (h : ℕ) (ts rest : List Token)
    → MoreExprsForm kind done low es h ts rest
    → OpensBy (entries (more_exprs kind done low)) es h ts rest
more_exprs_opens kind done low es h ts rest (last_expr {at = at}) =
    opens_by (sign (closing_of kind) at) (gives done low) (rw (told_back (a_sign (closing_of kind)) at tt) refl) (refl, refl, refl)
more_exprs_opens parentheses done low es h ts rest (further_exprs {at = at} b more) = opens_by (sign symbol.Comma at) _ refl (
  _,
  _,
  _,
  b,
  (_, _, _, more, (refl, refl, refl)),
)
more_exprs_opens braces done low es h ts rest (further_exprs {at = at} b more) = opens_by (sign symbol.Comma at) _ refl (
  _,
  _,
  _,
  b,
  (
    _,
    _,
    _,
    more,
    (refl, refl, refl),
  ),
)

pub more_exprs_sound : (kind : Enclosure) (done : List Expr) (low : ℕ) → AllEntries (Steady nothing) (entries (more_exprs kind done low))
more_exprs_sound kind done low = (
  λ p. tt,
  (
    λ p. (
      λ e h. (λ es g. tt, λ a b g k le. le, λ es g. avoids_nothing nothing (gives es g)),
      λ a b h g le. omega arith,
      λ e h. more_exprs_avoid nothing kind (done ++ e ∷ []) (max low h) done_with,
    ),
    tt,
  ),
)

pub more_exprs_low : (kind : Enclosure) (done : List Expr) (low : ℕ) → AllEntries (NoLower low) (entries (more_exprs kind done low))
more_exprs_low kind done low = (λ p. omega arith, (λ p. omega arith, tt))

abbrev pub ArgsForm : Form (List Expr)
ArgsForm es h ts rest = IsArgs es h ts rest

abbrev pub args_behind : Expr → ℕ → Rest (List Expr)
args_behind e h = reads (more_exprs parentheses (e ∷ []) h) done_with

pub args_read : AllEntries (Reading ArgsForm) args_entries
args_read = (
  λ p fits a h ts rest x. rw (x.0, x.1, x.2) no_args,
  lead_read (BinaryForm ranks) ArgsForm (binary_entries ranks) args_behind (binary_read ranks)
      (λ a h ts mid b g rest x y. let end = y.4 in rw (end.0, end.1, sym end.2) (args x y.3)),
)

pub args_opens : (es : List Expr) (h : ℕ) (ts rest : List Token) → IsArgs es h ts rest → OpensBy args_entries es h ts rest
args_opens es h ts rest (no_args {at = at}) = opens_by (sign symbol.RightParenthesis at) _ refl (refl, refl, refl)
args_opens es h ts rest (args {e = e} {h = g} {mid = mid} b more) =
    opens_behind (a_sign symbol.RightParenthesis) (λ p. gives [] 0) (lead (binary_entries ranks) args_behind) es h ts rest
    (none_lead (a_sign symbol.RightParenthesis) (binary_entries ranks) args_behind closing_told)
    (opens_lead (binary_entries ranks) args_behind e g es h ts mid rest (binary_opens ranks e g ts mid b) (_, _, _, more, (refl, refl, refl)))

pub args_sound : AllEntries (Steady nothing) args_entries
args_sound = (
  λ p. tt,
  lead_sound nothing (behind_binary ranks) (binary_entries ranks) args_behind (binary_sound ranks)
      (λ e h. (λ es g. tt, λ a b g k le. le, λ es g. avoids_nothing nothing (gives es g))) (λ a b h g le. le)
      (λ e h. more_exprs_avoid nothing parentheses (e ∷ []) h done_with),
)

pub args_low : AllEntries (NoLower 0) args_entries
args_low = (λ p. omega arith, lead_low 0 1 (binary_entries ranks) args_behind (binary_low ranks) (λ a h le. omega arith))
