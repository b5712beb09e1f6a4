-- Variables, loops' bounds and statements, part by part.
use Rattle.std.proofs.Common.{◌≡◌, ℕ, suc, max, true, List, [], ◌∷◌, ◌++◌, inl, inr, refl, sym, ap, ◌∙◌, subst, arith}
use Rattle.zir_tree.specs.declared.place.Place.{Place}
use Rattle.zir_tree.specs.declared.ident.Ident.{Ident}
use Rattle.zir_tree.specs.declared.types.Field.{Field}
use Rattle.zir_tree.specs.declared.expr.Expr.{Expr}
use Rattle.zir_tree.specs.declared.stmt.Var.{Var}
use Rattle.zir_tree.specs.declared.stmt.Access.{Access}
use Rattle.zir_tree.specs.declared.stmt.Access.TheVariants as access
use Rattle.zir_tree.specs.declared.stmt.Stmt.{Stmt}
use Rattle.zir_tree.specs.declared.stmt.Stmt as stmt
use Rattle.zir_tree.specs.declared.stmt.Body.{Body}
use Rattle.zir_lex.specs.declared.token.Token.{Token}
use Rattle.zir_lex.specs.declared.token.Lexeme.{Lexeme}
use Rattle.zir_lex.specs.declared.token.Lexeme.TheVariants as lexeme
use Rattle.zir_lex.specs.declared.token.Keyword.TheVariants as keyword
use Rattle.zir_lex.specs.declared.token.Symbol.TheVariants as symbol
use Rattle.zir_grammar.specs.Grammar.{
  IsField,
  IsBinary,
  IsVar,
  var_alone,
  var_set,
  IsBounds,
  bounds,
  IsTarget,
  target,
  target_index,
  target_slice,
  target_part,
  IsStmt,
  declares,
  assigns,
  calls,
  errors,
  tests,
  chooses,
  turns,
  counts,
  IsStmts,
  stmts,
  IsMoreStmts,
  no_stmt,
  last_stmt,
  more_stmts as further_stmts,
  IsMoreBody,
  no_more,
  ends,
  goes_on,
  returns,
  returns_stopped,
  IsBody,
  body,
}
use Rattle.zir_grammar.specs.Grammar.{word, sign, name, int, ident, ranks}
use Rattle.zir_grammar.specs.Wants.{a_word, a_sign, a_name}
use Rattle.zir_grammar.specs.Parts.{
  a_binary,
  initial_of,
  target_of,
  else_of,
  some_stmts,
  a_body,
  Rest,
  gives,
  reads,
  lead,
  done_with,
  wants_sign,
  wants_word,
  var_entries,
  initial_entries,
  bounds_entries,
  stmt_entries,
  target_end,
  target_entries,
  named_entries,
  else_entries,
  stmt_end,
  stmts_entries,
  body_end,
  return_end,
  body_entries,
  entries,
}
use Rattle.zir_grammar.proofs.Meaning.{IsInitial, no_initial, initial, IsElse, no_else, other, Reads, AllEntries}
use Rattle.zir_grammar.proofs.Sound.{Tokens, nothing, behind_binary, below_rank, joins_var, joins_stmt, Within, Sound}
use Rattle.zir_grammar.proofs.Follow.{avoids_nothing}
use Rattle.zir_grammar.proofs.Tables.{Form, Reading, lead_read, Steady, lead_sound, NoLower, lead_low, OpensBy, opens_by, opens_lead, NoneOf, opens_behind, same}
use Rattle.zir_grammar.proofs.Entries.{Opens, opened, passed}

-- ---- tokens behind variables and statements

abbrev pub var_token : Tokens
var_token t = joins_var t.lexeme

abbrev pub stmt_token : Tokens
stmt_token t = joins_stmt t.lexeme

binary_var : (l : Lexeme) → below_rank 10 l ≡ true → joins_var l ≡ true
binary_var (lexeme.Symbol symbol.Assign) e = refl
binary_var l e = e

var_stmt : (l : Lexeme) → joins_var l ≡ true → joins_stmt l ≡ true
var_stmt (lexeme.Keyword keyword.Else) e = refl
var_stmt l e = e

pub within_var : Within (behind_binary 10) var_token
within_var t e = binary_var t.lexeme e

pub within_stmt : Within var_token stmt_token
within_stmt t e = var_stmt t.lexeme e

binary_stmt : Within (behind_binary 10) stmt_token
binary_stmt t e = within_stmt t (within_var t e)

-- ---- variables

abbrev pub VarForm : Form Var
VarForm v h ts rest = IsVar v h ts rest

var_of : {at : Place} {f : Field} {v : Var} {h : ℕ} {ts mid rest : List Token} → IsField f ts mid → IsInitial f at v h mid rest
    → IsVar v h (word keyword.Var at ∷ ts) rest
var_of x no_initial = var_alone x
var_of x (initial b) = var_set x b

pub var_read : AllEntries (Reading VarForm) var_entries
var_read = (
  λ at fits a h ts rest x.
      let y = x.4 in
      let end = y.4 in
      rw (end.0, end.1, sym end.2) (var_of x.3.1 y.3),
  tt,
)

pub var_opens : (v : Var) (h : ℕ) (ts rest : List Token) → IsVar v h ts rest → OpensBy var_entries v h ts rest
var_opens v h ts rest (var_alone {at = at} x) = opens_by (word keyword.Var at) _ refl (_, 0, _, (refl, x), (_, _, _, no_initial, (refl, refl, refl)))
var_opens v h ts rest (var_set {at = at} x b) = opens_by (word keyword.Var at) _ refl (_, 0, _, (refl, x), (_, _, _, initial b, (refl, refl, refl)))

pub var_sound : AllEntries (Steady var_token) var_entries
var_sound = (
  λ at. (
    λ f h. (λ v g. tt, λ a b g k le. le, λ v g. λ t b. b),
    λ a b h g le. same 1,
    λ f h. avoids_nothing var_token
        (reads (initial_of f at) done_with),
  ),
  tt,
)

pub var_low : AllEntries (NoLower 1) var_entries
var_low = (λ p. omega arith, tt)

abbrev pub InitialForm : Field → Place → Form Var
InitialForm f at v h ts rest = IsInitial f at v h ts rest

pub initial_read : (f : Field) (at : Place) → AllEntries (Reading (InitialForm f at)) (initial_entries f at)
initial_read f at = (λ p fits a h ts rest x. let end = x.4 in rw (end.0, end.1, sym end.2) (initial x.3), tt)

pub initial_opens : (f : Field) (at : Place) (v : Var) (h : ℕ) (ts rest : List Token) → IsInitial f at v h ts rest → Opens (initial_of f at) v h ts rest
initial_opens f at v h ts rest no_initial = passed refl
initial_opens f at v h ts rest (initial {here = here} b) = opened (sign symbol.Assign here) _ refl (_, _, _, b, (refl, refl, refl))

pub initial_sound : (f : Field) (at : Place) → AllEntries (Steady var_token) (initial_entries f at)
initial_sound f at = (λ p. (λ e h. tt, λ a b h g le. omega arith, λ e h. within_var), tt)

-- ---- bounds

abbrev pub BoundsForm : Form (Ident × Expr × Expr)
BoundsForm b h ts rest = IsBounds (b.0) (b.1) (b.2) h ts rest

bounds_of : (p : List ℕ × Place) (a : Ident × Expr × Expr) (h : ℕ) (ts rest : List Token)
    → Reads (wants_word keyword.In (wants_sign symbol.LeftBracket (reads (a_binary ranks) (λ from h.
    wants_sign symbol.Comma (reads (a_binary ranks) (λ count g. wants_sign symbol.RightBracket (gives (ident p.0 p.1, from, count) (max h g)))))))) a h ts rest
    → BoundsForm a h (name p.0 p.1 ∷ ts) rest
bounds_of p a h ts rest (
  p1,
  m1,
  f1,
  is1,
  (
    p2,
    m2,
    f2,
    is2,
    (
      from,
      low,
      m3,
      b1,
      (
        p3,
        m4,
        f3,
        is3,
        (
          count,
          g,
          m5,
          b2,
          (
            p4,
            m6,
            f4,
            is4,
            (same_tree, same_height, end),
          ),
        ),
      ),
    ),
  ),
) =
    rw (same_tree, same_height, is1, is2)
    (bounds (subst (λ l. IsBinary ranks from low m2 l) is3 b1) (subst (λ l. IsBinary ranks count g m4 l) (is4 ∙ ap
    (λ l. sign symbol.RightBracket p4 ∷ l) end) b2))

pub bounds_read : AllEntries (Reading BoundsForm) bounds_entries
bounds_read = (λ p fits a h ts rest x. bounds_of p a h ts rest x, tt)

bounds_open : {x : Ident} {from count : Expr} {h : ℕ} {ts rest : List Token} → IsBounds x from count h ts rest
    → OpensBy bounds_entries (x, from, count) h ts rest
bounds_open (bounds {x = x} {at = at} b c) =
    opens_by (name x at) _ refl (_, _, tt, refl, (_, _, tt, refl, (_, _, _, b, (_, _, tt, refl, (_, _, _, c, (_, _, tt, refl, (refl, refl, refl)))))))

pub bounds_opens : (b : Ident × Expr × Expr) (h : ℕ) (ts rest : List Token) → BoundsForm b h ts rest → OpensBy bounds_entries b h ts rest
bounds_opens b h ts rest x = bounds_open x

pub bounds_sound : AllEntries (Steady nothing) bounds_entries
bounds_sound = (
  λ p. (
    tt,
    λ q. (
      tt,
      λ r. (
        λ from h. (tt, λ q. (λ count g. (tt, λ q. tt, λ q. same (max h g)), λ a b g k le. omega arith, λ count g. λ q fits. refl), λ q. same (max h 1)),
        λ a b h g le. omega arith,
        λ from h. λ q fits. refl,
      ),
      λ q. same 1,
    ),
    λ q. same 1,
  ),
  tt,
)

pub bounds_low : AllEntries (NoLower 1) bounds_entries
bounds_low = (λ p. omega arith, tt)

-- ---- statements

abbrev pub StmtForm : Form Stmt
StmtForm s h ts rest = IsStmt s h ts rest

if_of : {at then : Place} {e : Expr} {ss : List Stmt} {s : Stmt} {low h k : ℕ} {ts mid more rest : List Token}
    → IsBinary ranks e low ts (word keyword.Then then ∷ mid) → IsStmts ss h mid more
    → IsElse e ss (max low h) at s k more rest → IsStmt s k (word keyword.If at ∷ ts) rest
if_of b x no_else = tests b x
if_of b x (other y) = chooses b x y

abbrev pub var_stmt_behind : Var → ℕ → Rest Stmt
var_stmt_behind v h = gives (stmt.Var v) h

pub stmt_read : AllEntries (Reading StmtForm) stmt_entries
stmt_read = (
  λ p fits a h ts rest x. let end = x.4 in rw (end.0, end.1, sym end.2) x.3,
  (
    λ at fits a h ts rest x. let end = x.4 in rw (x.3, end.0, end.1, end.2) errors,
    (
      λ at fits a h ts rest x.
          let y = x.4 in
          let z = y.4 in
          let w = z.4 in
          let end = w.4 in
          rw (end.0, end.1, sym end.2) (if_of (subst (λ l. IsBinary ranks x.0 x.1 ts l) y.3 x.3) z.3 w.3),
      (
        λ at fits a h ts rest x.
            let y = x.4 in
            let z = y.4 in
            let w = z.4 in
            let end = w.4 in
            rw (x.3, end.0, end.1, sym end.2) (turns (subst (λ l. IsBinary ranks y.0 y.1 x.1 l) z.3 y.3) w.3),
        (
          λ at fits a h ts rest x.
              let y = x.4 in
              let end = y.4 in
              rw (end.0, end.1, sym end.2) (counts x.3 y.3),
          lead_read VarForm StmtForm var_entries var_stmt_behind var_read (λ v h ts mid s g rest x y. rw (y.0, y.1, sym y.2) (declares x)),
        ),
      ),
    ),
  ),
)

pub stmt_opens : (s : Stmt) (h : ℕ) (ts rest : List Token) → IsStmt s h ts rest → OpensBy stmt_entries s h ts rest
stmt_opens s h ts rest (declares {v = v} x) = var_statement (opens_lead var_entries var_stmt_behind v h s h ts rest rest (var_opens v h ts rest x)
    (refl, refl, refl))
  where
    var_statement : {s : Stmt} {h : ℕ} {ts rest : List Token} → OpensBy (lead var_entries var_stmt_behind) s h ts rest → OpensBy stmt_entries s h ts rest
    var_statement {s = s} {h = h} {ts = ts} {rest = rest} x =
        opens_behind a_name _ _ s h ts rest (λ p fits. refl, (λ p fits. refl, (λ p fits. refl, (λ p fits. refl, (λ p fits. refl, tt)))))
        (opens_behind (a_word keyword.Error) _ _ s h ts rest (λ p fits. refl, (λ p fits. refl, (λ p fits. refl, (λ p fits. refl, tt))))
        (opens_behind (a_word keyword.If) _ _ s h ts rest (λ p fits. refl, (λ p fits. refl, (λ p fits. refl, tt)))
        (opens_behind (a_word keyword.While) _ _ s h ts rest (λ p fits. refl, (λ p fits. refl, tt))
        (opens_behind (a_word keyword.For) _ _ s h ts rest (λ p fits. refl, tt) x))))
stmt_opens s h ts rest (assigns {x = x} {at = at} t b) = opens_by (name x at) _ refl (_, _, _, assigns t b, (refl, refl, refl))
stmt_opens s h ts rest (calls {x = x} {at = at} a) = opens_by (name x at) _ refl (_, _, _, calls a, (refl, refl, refl))
stmt_opens s h ts rest (errors {s = bytes} {at = at} {here = here}) = opens_by (word keyword.Error at) _ refl ((bytes, here), _, tt, refl, (refl, refl, refl))
stmt_opens s h ts rest (tests {at = at} b x) = opens_by (word keyword.If at) _ refl (
  _,
  _,
  _,
  b,
  (
    _,
    _,
    tt,
    refl,
    (
      _,
      _,
      _,
      x,
      (
        _,
        _,
        _,
        no_else,
        (refl, refl, refl),
      ),
    ),
  ),
)
stmt_opens s h ts rest (chooses {at = at} b x y) = opens_by (word keyword.If at) _ refl (
  _,
  _,
  _,
  b,
  (
    _,
    _,
    tt,
    refl,
    (
      _,
      _,
      _,
      x,
      (
        _,
        _,
        _,
        other y,
        (refl, refl, refl),
      ),
    ),
  ),
)
stmt_opens s h ts rest (turns {at = at} b x) = opens_by (word keyword.While at) _ refl (
  _,
  _,
  tt,
  refl,
  (
    _,
    _,
    _,
    b,
    (
      _,
      _,
      tt,
      refl,
      (
        _,
        _,
        _,
        x,
        (refl, refl, refl),
      ),
    ),
  ),
)
stmt_opens s h ts rest (counts {x = x} {from = from} {count = count} {at = at} b y) = opens_by (word keyword.For at) _ refl
    ((x, from, count), _, _, b, (_, _, _, y, (refl, refl, refl)))

pub stmt_sound : AllEntries (Steady stmt_token) stmt_entries
stmt_sound = (
  λ p. (λ s h. tt, λ a b h g le. le, λ s h. λ t b. b),
  (
    λ at. (tt, λ s. tt, λ s. same 1),
    (
      λ at. (
        λ e h. (
          tt,
          λ p. (
            λ ss g. (λ s k. tt, λ a b k l le. le, λ s k. λ t b. b),
            λ a b g k le. omega arith,
            λ ss g. avoids_nothing stmt_token
                (reads (else_of e ss (max h g) at) done_with),
          ),
          λ p. same (suc (max h 1)),
        ),
        λ a b h g le. omega arith,
        λ e h. λ p fits. refl,
      ),
      (
        λ at. (
          tt,
          λ p. (
            λ e h. (
              tt,
              λ p. (λ ss g. tt, λ a b g k le. omega arith, λ ss g. avoids_nothing stmt_token (gives (stmt.While e ss at) (suc (max h g)))),
              λ p. same (suc (max h 1)),
            ),
            λ a b h g le. omega arith,
            λ e h. λ p fits. refl,
          ),
          λ p. same 2,
        ),
        (
          λ at. (
            λ b h. (λ ss g. tt, λ a c g k le. omega arith, λ ss g. avoids_nothing stmt_token (gives (stmt.For b.0 b.1 b.2 ss at) (suc (max h g)))),
            λ a b h g le. omega arith,
            λ b h. avoids_nothing stmt_token (reads some_stmts (λ ss g. gives (stmt.For b.0 b.1 b.2 ss at) (suc (max h g)))),
          ),
          lead_sound stmt_token var_token var_entries var_stmt_behind var_sound (λ v h. tt) (λ a b h g le. le) (λ v h. within_stmt),
        ),
      ),
    ),
  ),
)

pub stmt_low : AllEntries (NoLower 1) stmt_entries
stmt_low = (
  λ p. omega arith,
  (
    λ p. omega arith,
    (
      λ p. omega arith,
      (
        λ p. omega arith,
        (
          λ p. omega arith,
          lead_low 1 1 var_entries var_stmt_behind var_low
              (λ a h le. le),
        ),
      ),
    ),
  ),
)

-- ---- assignments

abbrev pub TargetForm : List Access → ℕ → Form (List Access)
TargetForm done low path h ts rest = IsTarget done low path h ts rest

target_read_end : (done : List Access) (low : ℕ) (at : Place) (i : Expr) (g : ℕ) (us mid : List Token) → IsBinary ranks i g us mid
    → (a : List Access) (h : ℕ) (rest : List Token)
    → Reads (target_end done low at i g) a h mid rest → IsTarget done low a h (sign symbol.LeftBracket at ∷ us) rest
target_read_end done low at i g us mid x a h rest (inl (closes, m, fits, there, (b, k, m2, more, (same_tree, same_height, end)))) =
    rw (same_tree, same_height, sym end) (target_index (subst (λ l. IsBinary ranks i g us l) there x) more)
target_read_end done low at i g us mid x a h rest (inr (
  comma,
  m,
  fits,
  there,
  (
    n,
    m2,
    fits2,
    there2,
    (
      closes,
      m3,
      fits3,
      there3,
      (
        b,
        k,
        m4,
        more,
        (same_tree, same_height, end),
      ),
    ),
  ),
)) =
    rw (same_tree, same_height, sym end)
    (target_slice (subst (λ l. IsBinary ranks i g us l) (there ∙ ap (λ l. sign symbol.Comma comma ∷ l) (there2 ∙ ap (λ l. int n.0 n.1 ∷ l) there3)) x) more)

pub target_read : (done : List Access) (low : ℕ) → AllEntries (Reading (TargetForm done low)) (target_entries done low)
target_read done low = (
  λ p fits a h ts rest x. rw (x.0, x.1, x.2) target,
  (
    λ at fits a h ts rest x. target_read_end done low at x.0 x.1 ts x.2 x.3 a h rest x.4,
    (
      λ at fits a h ts rest x.
          let y = x.4 in
          let end = y.4 in
          rw (x.3, end.0, end.1, sym end.2) (target_part y.3),
      tt,
    ),
  ),
)

pub target_opens : (done : List Access) (low : ℕ) (path : List Access) (h : ℕ) (ts rest : List Token) → IsTarget done low path h ts rest
    → OpensBy (target_entries done low) path h ts rest
target_opens done low path h ts rest (target {at = at}) = opens_by (sign symbol.Assign at) _ refl (refl, refl, refl)
target_opens done low path h ts rest (target_index {at = at} b more) =
    opens_by (sign symbol.LeftBracket at) _ refl (_, _, _, b, inl (_, _, tt, refl, (_, _, _, more, (refl, refl, refl))))
target_opens done low path h ts rest (target_slice {n = n} {at = at} {within = two} b more) =
    opens_by (sign symbol.LeftBracket at) _ refl (
      _,
      _,
      _,
      b,
      inr (
        _,
        _,
        tt,
        refl,
        (
          (n, two),
          _,
          tt,
          refl,
          (
            _,
            _,
            tt,
            refl,
            (
              _,
              _,
              _,
              more,
              (refl, refl, refl),
            ),
          ),
        ),
      ),
    )
target_opens done low path h ts rest (target_part {x = x} {at = at} {here = here} more) =
    opens_by (sign symbol.Dot at) _ refl ((x, here), _, tt, refl, (_, _, _, more, (refl, refl, refl)))

target_end_sound : (done : List Access) (low : ℕ) → Sound nothing (reads (target_of done low) done_with)
target_end_sound done low = (λ a g. tt, λ a b g k le. le, λ a g. avoids_nothing nothing (gives a g))

pub target_sound : (done : List Access) (low : ℕ) → AllEntries (Steady nothing) (target_entries done low)
target_sound done low = (
  λ p. tt,
  (
    λ at. (
      λ i h. (
        tt,
        λ p. target_end_sound (done ++ access.Index i at ∷ []) (suc (max low h)),
        λ p. same (suc (max low h)),
        λ p. (
          tt,
          λ n. (
            tt,
            λ q. target_end_sound (done ++ access.Slice i n.0 at
                ∷ []) (suc (max low h)),
            λ q. same (suc (max low h)),
          ),
          λ n. same (suc (max low h)),
        ),
        λ p. same (suc (max low h)),
        λ p fits. refl,
      ),
      λ a b h g le. omega arith,
      λ i h. (λ p fits. refl, λ p fits. refl),
    ),
    (λ at. (tt, λ x. target_end_sound (done ++ access.Part x.0 0 at ∷ []) (suc low), λ x. same (suc low)), tt),
  ),
)

pub target_low : (done : List Access) (low : ℕ) → AllEntries (NoLower low) (target_entries done low)
target_low done low = (λ p. omega arith, (λ p. omega arith, (λ p. omega arith, tt)))

abbrev pub NamedForm : List ℕ → Place → Form Stmt
NamedForm x at s h ts rest = IsStmt s h (name x at ∷ ts) rest

abbrev pub value_behind : List ℕ → Place → List Access → ℕ → Rest Stmt
value_behind x at path low = reads (a_binary ranks) (λ e h. gives (stmt.Assign (ident x at) path e) (suc (max low h)))

pub named_read : (x : List ℕ) (at : Place) → AllEntries (Reading (NamedForm x at)) (named_entries x at)
named_read x at = (
  λ p fits a h ts rest y. let end = y.4 in rw (end.0, end.1, sym end.2) (calls y.3),
  lead_read (TargetForm [] 1) (NamedForm x at) (target_entries [] 1) (value_behind x at) (target_read [] 1)
      (λ path h ts mid s g rest y z. let end = z.4 in rw (end.0, end.1, sym end.2) (assigns y z.3)),
)

no_var : {v : Var} {h : ℕ} {x : List ℕ} {at : Place} {ts rest : List Token} → IsVar v h (name x at ∷ ts) rest → ⊥
no_var x = elim x [ ]

pub named_opens : (x : List ℕ) (at : Place) (s : Stmt) (h : ℕ) (ts rest : List Token) → NamedForm x at s h ts rest → OpensBy (named_entries x at) s h ts rest
named_opens x at s h ts rest (declares v) = absurd (no_var v)
named_opens x at s h ts rest (calls {opens = opens} a) = opens_by (sign symbol.LeftParenthesis opens) _ refl (_, _, _, a, (refl, refl, refl))
named_opens x at s h ts rest (assigns {path = path} {low = low} {mid = mid} t b) =
    opens_behind (a_sign symbol.LeftParenthesis) _ (lead (target_entries [] 1) (value_behind x at)) s h ts rest (
      λ p fits. refl,
      (
        λ p fits. refl,
        (λ p fits. refl, tt),
      ),
    )
    (opens_lead (target_entries [] 1) (value_behind x at) path low s h ts mid rest (target_opens [] 1 path low ts mid t) (_, _, _, b, (refl, refl, refl)))

pub named_sound : (x : List ℕ) (at : Place) → AllEntries (Steady stmt_token) (named_entries x at)
named_sound x at = (
  λ p. (λ es h. tt, λ a b h g le. omega arith, λ es h. avoids_nothing stmt_token (gives (stmt.Call (ident x at) 0 es) (suc h))),
  lead_sound stmt_token nothing (target_entries [] 1) (value_behind x at) (target_sound [] 1) (λ path low.
      (λ e h. tt, λ a b h g le. omega arith, λ e h. binary_stmt)) (λ a b h g le. omega arith)
      (λ path low. avoids_nothing stmt_token (value_behind x at path low)),
)

pub named_low : (x : List ℕ) (at : Place) → AllEntries (NoLower 1) (named_entries x at)
named_low x at = (λ p. omega arith, lead_low 1 1 (target_entries [] 1) (value_behind x at) (target_low [] 1) (λ a h le. omega arith))

abbrev pub ElseForm : Expr → List Stmt → ℕ → Place → Form Stmt
ElseForm e ss low at s h ts rest = IsElse e ss low at s h ts rest

pub else_read : (e : Expr) (ss : List Stmt) (low : ℕ) (at : Place) → AllEntries (Reading (ElseForm e ss low at)) (else_entries e ss low at)
else_read e ss low at = (λ p fits a h ts rest x. let end = x.4 in rw (end.0, end.1, sym end.2) (other x.3), tt)

pub else_opens : (e : Expr) (ss : List Stmt) (low : ℕ) (at : Place) (s : Stmt) (h : ℕ) (ts rest : List Token) → ElseForm e ss low at s h ts rest
    → Opens (else_of e ss low at) s h ts rest
else_opens e ss low at s h ts rest no_else = passed refl
else_opens e ss low at s h ts rest (other {here = here} x) = opened (word keyword.Else here) _ refl (_, _, _, x, (refl, refl, refl))

pub else_sound : (e : Expr) (ss : List Stmt) (low : ℕ) (at : Place) → AllEntries (Steady stmt_token) (else_entries e ss low at)
else_sound e ss low at = (
  λ p.
      (λ os h. tt, λ a b h g le. omega arith, λ os h. avoids_nothing stmt_token (gives (stmt.IfElse e ss os at) (suc (max low h)))),
  tt,
)

-- ---- lists of statements

pub stmts_read : AllEntries (Reading (λ ss h ts rest. IsStmts ss h ts rest)) (entries some_stmts)
stmts_read = (λ p fits a h ts rest x. let end = x.4 in rw (end.0, end.1, sym end.2) (stmts x.3), tt)

pub stmts_opens : (ss : List Stmt) (h : ℕ) (ts rest : List Token) → IsStmts ss h ts rest → OpensBy (entries some_stmts) ss h ts rest
stmts_opens ss h ts rest (stmts {at = at} x) = opens_by (sign symbol.LeftBrace at) _ refl (_, _, _, x, (refl, refl, refl))

pub stmts_sound : AllEntries (Steady nothing) (entries some_stmts)
stmts_sound = (λ p. (λ ss h. tt, λ a b h g le. omega arith, λ ss h. avoids_nothing nothing (gives ss (suc h))), tt)

abbrev pub MoreStmtsForm : List Stmt → ℕ → Form (List Stmt)
MoreStmtsForm done low ss h ts rest = IsMoreStmts done low ss h ts rest

stmt_read_end : (done : List Stmt) (low : ℕ) (s : Stmt) (h : ℕ) (ts mid : List Token) (ss : List Stmt) (g : ℕ) (rest : List Token) → IsStmt s h ts mid
    → Reads (stmt_end done low s h) ss g mid rest → IsMoreStmts done low ss g ts rest
stmt_read_end done low s h ts mid ss g rest x (inl (closes, m, fits, there, (same_tree, same_height, end))) =
    rw (same_tree, same_height) (last_stmt (subst (λ l. IsStmt s h ts l) (there ∙ ap (λ l. sign symbol.RightBrace closes ∷ l) end) x))
stmt_read_end done low s h ts mid ss g rest x (inr (stop, m, fits, there, (b, k, m2, more, (same_tree, same_height, end)))) =
    rw (same_tree, same_height, sym end) (further_stmts (subst (λ l. IsStmt s h ts l) there x) more)

pub more_stmts_read : (done : List Stmt) (low : ℕ) → AllEntries (Reading (MoreStmtsForm done low)) (stmts_entries done low)
more_stmts_read done low = (
  λ p fits a h ts rest x. rw (x.0, x.1, x.2) no_stmt,
  lead_read StmtForm (MoreStmtsForm done low) stmt_entries (stmt_end done low) stmt_read
      (stmt_read_end done low),
)

-- no statement begins with a token of that kind
stmt_brace : {A : Type 0} (k : Stmt → ℕ → Rest A) → NoneOf (a_sign symbol.RightBrace) (lead stmt_entries k)
stmt_brace k = (λ p fits. refl, (λ p fits. refl, (λ p fits. refl, (λ p fits. refl, (λ p fits. refl, (λ p fits. refl, tt))))))

stmt_return : {A : Type 0} (k : Stmt → ℕ → Rest A) → NoneOf (a_word keyword.Return) (lead stmt_entries k)
stmt_return k = (λ p fits. refl, (λ p fits. refl, (λ p fits. refl, (λ p fits. refl, (λ p fits. refl, (λ p fits. refl, tt))))))

pub more_stmts_opens : (done : List Stmt) (low : ℕ) (ss : List Stmt) (h : ℕ) (ts rest : List Token) → IsMoreStmts done low ss h ts rest
    → OpensBy (stmts_entries done low) ss h ts rest
more_stmts_opens done low ss h ts rest (no_stmt {at = at}) = opens_by (sign symbol.RightBrace at) _ refl (refl, refl, refl)
more_stmts_opens done low ss h ts rest (last_stmt {s = s} {h = g} {at = at} x) =
    opens_behind (a_sign symbol.RightBrace) _ (lead stmt_entries (stmt_end done low)) ss h ts rest (stmt_brace (stmt_end done low))
    (opens_lead stmt_entries (stmt_end done low) s g ss h ts (sign symbol.RightBrace at ∷ rest) rest (stmt_opens s g ts (sign symbol.RightBrace at ∷ rest) x)
    (inl (at, rest, tt, refl, (refl, refl, refl))))
more_stmts_opens done low ss h ts rest (further_stmts {s = s} {h = g} {at = at} {mid = mid} x more) =
    opens_behind (a_sign symbol.RightBrace) _ (lead stmt_entries (stmt_end done low)) ss h ts rest (stmt_brace (stmt_end done low))
    (opens_lead stmt_entries (stmt_end done low) s g ss h ts (sign symbol.Semicolon at ∷ mid) rest (stmt_opens s g ts (sign symbol.Semicolon at ∷ mid) x)
    (inr (at, mid, tt, refl, (_, _, _, more, (refl, refl, refl)))))

pub more_stmts_sound : (done : List Stmt) (low : ℕ) → AllEntries (Steady nothing) (stmts_entries done low)
more_stmts_sound done low = (
  λ p. tt,
  lead_sound nothing stmt_token stmt_entries (stmt_end done low) stmt_sound
      (λ s h. (
        tt,
        λ p. tt,
        λ p. same (max low h),
        λ p.
            (λ ss g. tt, λ a b g k le. le, λ ss g. avoids_nothing nothing (gives ss g)),
        λ p. same (max low h),
        λ p fits. refl,
      ))
      (λ a b h g le. omega arith) (λ s h. (λ p fits. refl, λ p fits. refl)),
)

pub more_stmts_low : (done : List Stmt) (low : ℕ) → AllEntries (NoLower low) (stmts_entries done low)
more_stmts_low done low = (λ p. omega arith, lead_low low 1 stmt_entries (stmt_end done low) stmt_low (λ a h le. omega arith))

-- ---- bodies

pub body_read : AllEntries (Reading (λ b h ts rest. IsBody b h ts rest)) (entries a_body)
body_read = (λ p fits a h ts rest x. let end = x.4 in rw (end.0, end.1, sym end.2) (body x.3), tt)

pub body_opens : (b : Body) (h : ℕ) (ts rest : List Token) → IsBody b h ts rest → OpensBy (entries a_body) b h ts rest
body_opens b h ts rest (body {at = at} x) = opens_by (sign symbol.LeftBrace at) _ refl (_, _, _, x, (refl, refl, refl))

pub body_sound : AllEntries (Steady nothing) (entries a_body)
body_sound = (λ p. (λ b h. tt, λ a b h g le. omega arith, λ b h. avoids_nothing nothing (gives b (suc h))), tt)

abbrev pub MoreBodyForm : List Stmt → ℕ → Form Body
MoreBodyForm done low b h ts rest = IsMoreBody done low b h ts rest

body_read_end : (done : List Stmt) (low : ℕ) (s : Stmt) (h : ℕ) (ts mid : List Token) (b : Body) (g : ℕ) (rest : List Token) → IsStmt s h ts mid
    → Reads (body_end done low s h) b g mid rest → IsMoreBody done low b g ts rest
body_read_end done low s h ts mid b g rest x (inl (closes, m, fits, there, (same_tree, same_height, end))) =
    rw (same_tree, same_height) (ends (subst (λ l. IsStmt s h ts l) (there ∙ ap (λ l. sign symbol.RightBrace closes ∷ l) end) x))
body_read_end done low s h ts mid b g rest x (inr (stop, m, fits, there, (c, k, m2, more, (same_tree, same_height, end)))) =
    rw (same_tree, same_height, sym end) (goes_on (subst (λ l. IsStmt s h ts l) there x) more)

return_read_end : (done : List Stmt) (low : ℕ) (at : Place) (e : Expr) (h : ℕ) (ts mid : List Token) (b : Body) (g : ℕ) (rest : List Token)
    → IsBinary ranks e h ts mid
    → Reads (return_end done low at e h) b g mid rest → IsMoreBody done low b g (word keyword.Return at ∷ ts) rest
return_read_end done low at e h ts mid b g rest x (inl (closes, m, fits, there, (same_tree, same_height, end))) =
    rw (same_tree, same_height) (returns (subst (λ l. IsBinary ranks e h ts l) (there ∙ ap (λ l. sign symbol.RightBrace closes ∷ l) end) x))
return_read_end done low at e h ts mid b g rest x (inr (stop, m, fits, there, (closes, m2, fits2, there2, (same_tree, same_height, end)))) =
    rw (same_tree, same_height)
    (returns_stopped (subst (λ l. IsBinary ranks e h ts l) (there ∙ ap (λ l. sign symbol.Semicolon stop ∷ l) (there2 ∙ ap
    (λ l. sign symbol.RightBrace closes ∷ l) end)) x))

pub more_body_read : (done : List Stmt) (low : ℕ) → AllEntries (Reading (MoreBodyForm done low)) (body_entries done low)
more_body_read done low = (
  λ p fits a h ts rest x. rw (x.0, x.1, x.2) no_more,
  (
    λ at fits a h ts rest x. return_read_end done low at x.0 x.1 ts x.2 a h rest x.3 x.4,
    lead_read StmtForm (MoreBodyForm done low) stmt_entries (body_end done low) stmt_read (body_read_end done low),
  ),
)

behind_words : (done : List Stmt) (low : ℕ) (b : Body) (h : ℕ) (ts rest : List Token) → OpensBy (lead stmt_entries (body_end done low)) b h ts rest
    → OpensBy (body_entries done low) b h ts rest
behind_words done low b h ts rest x =
    opens_behind (a_sign symbol.RightBrace) _ _ b h ts rest (λ p fits. refl, stmt_brace (body_end done low))
    (opens_behind (a_word keyword.Return) _ (lead stmt_entries (body_end done low)) b h ts rest (stmt_return (body_end done low)) x)

pub more_body_opens : (done : List Stmt) (low : ℕ) (b : Body) (h : ℕ) (ts rest : List Token) → IsMoreBody done low b h ts rest
    → OpensBy (body_entries done low) b h ts rest
more_body_opens done low b h ts rest (no_more {at = at}) = opens_by (sign symbol.RightBrace at) _ refl (refl, refl, refl)
more_body_opens done low b h ts rest (ends {s = s} {h = g} {at = at} x) =
    behind_words done low b h ts rest
    (opens_lead stmt_entries (body_end done low) s g b h ts (sign symbol.RightBrace at ∷ rest) rest (stmt_opens s g ts (sign symbol.RightBrace at ∷ rest) x)
    (inl (at, rest, tt, refl, (refl, refl, refl))))
more_body_opens done low b h ts rest (goes_on {s = s} {h = g} {at = at} {mid = mid} x more) =
    behind_words done low b h ts rest
    (opens_lead stmt_entries (body_end done low) s g b h ts (sign symbol.Semicolon at ∷ mid) rest (stmt_opens s g ts (sign symbol.Semicolon at ∷ mid) x)
    (inr (at, mid, tt, refl, (_, _, _, more, (refl, refl, refl)))))
more_body_opens done low b h ts rest (returns {at = at} x) = opens_by (word keyword.Return at) _ refl (_, _, _, x, inl (_, _, tt, refl, (refl, refl, refl)))
more_body_opens done low b h ts rest (returns_stopped {at = at} x) =
    opens_by (word keyword.Return at) _ refl (_, _, _, x, inr (_, _, tt, refl, (_, _, tt, refl, (refl, refl, refl))))

pub more_body_sound : (done : List Stmt) (low : ℕ) → AllEntries (Steady nothing) (body_entries done low)
more_body_sound done low = (
  λ p. tt,
  (
    λ at. (
      λ e h. (tt, λ p. tt, λ p. same (max low (suc h)), λ p. (tt, λ q. tt, λ q. same (max low (suc h))), λ p. same (max low (suc h)), λ p fits. refl),
      λ a b h g le. omega arith,
      λ e h. (λ p fits. refl, λ p fits. refl),
    ),
    lead_sound nothing stmt_token stmt_entries (body_end done low) stmt_sound
        (λ s h. (
          tt,
          λ p. tt,
          λ p. same (max low h),
          λ p.
              (λ b g. tt, λ a b g k le. le, λ b g. avoids_nothing nothing (gives b g)),
          λ p. same (max low h),
          λ p fits. refl,
        ))
        (λ a b h g le. omega arith) (λ s h. (λ p fits. refl, λ p fits. refl)),
  ),
)

pub more_body_low : (done : List Stmt) (low : ℕ) → AllEntries (NoLower low) (body_entries done low)
more_body_low done low = (λ p. omega arith, (λ p. omega arith, lead_low low 1 stmt_entries (body_end done low) stmt_low (λ a h le. omega arith)))
