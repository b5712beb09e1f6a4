-- Expressions as they are read.
use Rattle.std.proofs.Common.{◌≡◌, ◌≤◌, ◌<◌, ℕ, suc, max, List, [], ◌∷◌, ◌++◌, length, Option, Some, None, Err, refl, sym, ap, ◌∙◌, arith}
use Rattle.zir_tree.specs.declared.place.Place.{Place}
use Rattle.zir_tree.specs.declared.types.Base.{Base}
use Rattle.zir_tree.specs.declared.types.Base.TheVariants as base
use Rattle.zir_tree.specs.declared.expr.Prefix.{Prefix}
use Rattle.zir_tree.specs.declared.expr.Prefix.TheVariants as prefix
use Rattle.zir_tree.specs.declared.expr.Callee.TheVariants as callee
use Rattle.zir_tree.specs.declared.expr.Expr.{Expr}
use Rattle.zir_tree.specs.declared.expr.Expr as expr
use Rattle.zir_tree.specs.declared.program.Prog.{Prog}
use Rattle.zir_lex.specs.declared.token.Token.{Token}
use Rattle.zir_lex.specs.declared.token.Keyword.{Keyword}
use Rattle.zir_lex.specs.declared.token.Keyword.TheVariants as keyword
use Rattle.zir_lex.specs.declared.token.Symbol.TheVariants as symbol
use Rattle.zir_grammar.specs.declared.error.ParseError.TheVariants as errors
use Rattle.zir_grammar.specs.declared.enclosure.Enclosure.{Enclosure}
use Rattle.zir_grammar.specs.declared.enclosure.Enclosure.TheVariants.{Parentheses as parentheses, Braces as braces}
use Rattle.zir_grammar.specs.Enclosures.{closing_of}
use Rattle.zir_grammar.specs.Grammar.{word, ident, ranks, conversion_of, prefix_token}
use Rattle.zir_grammar.specs.Wants.{a_word, a_sign, a_name, a_number, a_bit, a_conversion, a_prefix, told, if_found}
use Rattle.zir_grammar.specs.Parts.{Rest, gives, wants, either, reads, follow, entries, done_with, known, wants_sign, a_binary, posts_of, behind_parenthesis, behind_name, some_args, more_exprs, conversion_rest}
use Rattle.zir_grammar.specs.Machine.{found, run}
use Rattle.zir_grammar.specs.Reading.{at_front, conversion_front, HasRoom}
use Rattle.zir_grammar.proofs.Tokens.{told_is}
use Rattle.zir_grammar.proofs.Descent.{taken, deep, refused, left_out, led, told_found, fits, too_high}
use Rattle.zir_parse_statements.specs.Parsers.{an_expr, expr_before, some_exprs, an_index, indexed_by, a_conversion_to, IsLiteral, a_number_first, a_bit_first, true_first, false_first, NoLiteral}
use Rattle.zir_parse_statements.proofs.Steps.{raised, begins, begins_deep, either_first, either_second, only, passed}

-- ---- an operator before its operand

prefix_found : (op : Prefix) (at : Place)
    → found (entries (a_binary 0)) (prefix_token op at) ≡ Some (reads (a_binary 0) (λ e h. gives (expr.Unary op base.Unit e at) (suc h)))
prefix_found prefix.Minus at = refl
prefix_found prefix.Complement at = refl
prefix_found prefix.Not at = refl

-- what is expected behind the operator
abbrev pub operand_of : {A : Type 0} → Prefix → Place → (Expr → ℕ → Rest A) → Expr → ℕ → Rest A
operand_of op at k e h = k (expr.Unary op base.Unit e at) (suc h)

pub prefix_fits : (most room : ℕ) (k : Expr → ℕ → Rest Prog) (ts : List Token) (op : Prefix) (at : Place) (rest : List Token)
    → at_front a_prefix ts ≡ Some ((op, at), rest) → HasRoom most k 1 room → 2 ≤ room
    → run most (reads (a_binary 0) k) ts ≡ run most (reads (a_binary 0) (operand_of op at k)) rest
prefix_fits most room k ts op at rest e has some =
    begins most (a_binary 0) k a_prefix ts (op, at) rest _ e (prefix_found op at) (fits most k 1 room _ (suc 1) has (omega arith) (omega arith))

pub prefix_deep : (most room : ℕ) (k : Expr → ℕ → Rest Prog) (ts : List Token) (op : Prefix) (at : Place) (rest : List Token)
    → at_front a_prefix ts ≡ Some ((op, at), rest) → HasRoom most k 1 room → room < 2
    → run most (reads (a_binary 0) k) ts ≡ Err (errors.TooDeep (length ts))
prefix_deep most room k ts op at rest e has small =
    begins_deep most (a_binary 0) k a_prefix ts (op, at) rest _ e (prefix_found op at) (too_high most k 1 room _ (suc 1) has (omega arith) (omega arith))

-- ---- primaries

pub literal_fits : (most room : ℕ) (k : Expr → ℕ → Rest Prog) {e : Expr} {ts rest : List Token} → IsLiteral e ts rest → HasRoom most k 1 room → 1 ≤ room
    → run most (reads (a_binary 0) k) ts ≡ run most (reads (posts_of e 1) k) rest
literal_fits most room k (a_number_first is) has some = begins most (a_binary 0) k a_number _ _ _ _ is refl (fits most k 1 room _ 1 has (omega arith) some)
literal_fits most room k (a_bit_first is) has some = begins most (a_binary 0) k a_bit _ _ _ _ is refl (fits most k 1 room _ 1 has (omega arith) some)
literal_fits most room k (true_first is) has some = begins most (a_binary 0) k (a_word keyword.True) _ _ _ _ is refl (fits most k 1 room _ 1 has (omega arith) some)
literal_fits most room k (false_first is) has some = begins most (a_binary 0) k (a_word keyword.False) _ _ _ _ is refl (fits most k 1 room _ 1 has (omega arith) some)

pub literal_deep : (most room : ℕ) (k : Expr → ℕ → Rest Prog) {e : Expr} {ts rest : List Token} → IsLiteral e ts rest → HasRoom most k 1 room → room < 1
    → run most (reads (a_binary 0) k) ts ≡ Err (errors.TooDeep (length ts))
literal_deep most room k (a_number_first is) has none =
    begins_deep most (a_binary 0) k a_number _ _ _ _ is refl (too_high most k 1 room _ 1 has (omega arith) none)
literal_deep most room k (a_bit_first is) has none = begins_deep most (a_binary 0) k a_bit _ _ _ _ is refl (too_high most k 1 room _ 1 has (omega arith) none)
literal_deep most room k (true_first is) has none = begins_deep most (a_binary 0) k (a_word keyword.True) _ _ _ _ is refl (too_high most k 1 room _ 1 has (omega arith) none)
literal_deep most room k (false_first is) has none = begins_deep most (a_binary 0) k (a_word keyword.False) _ _ _ _ is refl (too_high most k 1 room _ 1 has (omega arith) none)

-- what joins on to a primary
abbrev pub posts_behind : {A : Type 0} → (Expr → ℕ → Rest A) → Expr → ℕ → Rest A
posts_behind k e h = reads (posts_of e h) k

pub name_fits : (most room : ℕ) (k : Expr → ℕ → Rest Prog) (ts : List Token) (x : List ℕ) (at : Place) (rest : List Token)
    → at_front a_name ts ≡ Some ((x, at), rest) → HasRoom most k 1 room → 1 ≤ room
    → run most (reads (a_binary 0) k) ts ≡ run most (reads (behind_name x at) (posts_behind k)) rest
name_fits most room k ts x at rest e has some =
    begins most (a_binary 0) k a_name ts (x, at) rest _ e refl (fits most k 1 room _ 1 has (omega arith) some)

pub name_deep : (most room : ℕ) (k : Expr → ℕ → Rest Prog) (ts : List Token) (x : List ℕ) (at : Place) (rest : List Token)
    → at_front a_name ts ≡ Some ((x, at), rest) → HasRoom most k 1 room → room < 1
    → run most (reads (a_binary 0) k) ts ≡ Err (errors.TooDeep (length ts))
name_deep most room k ts x at rest e has none =
    begins_deep most (a_binary 0) k a_name ts (x, at) rest _ e refl (too_high most k 1 room _ 1 has (omega arith) none)

pub parenthesis_fits : (most room : ℕ) (k : Expr → ℕ → Rest Prog) (ts : List Token) (at : Place) (rest : List Token)
    → at_front (a_sign symbol.LeftParenthesis) ts ≡ Some (at, rest) → HasRoom most k 1 room → 1 ≤ room
    → run most (reads (a_binary 0) k) ts ≡ run most (reads (behind_parenthesis at) (posts_behind k)) rest
parenthesis_fits most room k ts at rest e has some =
    begins most (a_binary 0) k (a_sign symbol.LeftParenthesis) ts at rest _ e refl (fits most k 1 room _ 1 has (omega arith) some)

pub parenthesis_deep : (most room : ℕ) (k : Expr → ℕ → Rest Prog) (ts : List Token) (at : Place) (rest : List Token)
    → at_front (a_sign symbol.LeftParenthesis) ts ≡ Some (at, rest) → HasRoom most k 1 room → room < 1
    → run most (reads (a_binary 0) k) ts ≡ Err (errors.TooDeep (length ts))
parenthesis_deep most room k ts at rest e has none =
    begins_deep most (a_binary 0) k (a_sign symbol.LeftParenthesis) ts at rest _ e refl (too_high most k 1 room _ 1 has (omega arith) none)

-- what is expected behind the elements of an array
abbrev pub array_of : {A : Type 0} → Place → (Expr → ℕ → Rest A) → List Expr → ℕ → Rest A
array_of at k es h = reads (posts_of (expr.Array es at) (suc h)) k

pub array_fits : (most room : ℕ) (k : Expr → ℕ → Rest Prog) (ts : List Token) (at : Place) (rest : List Token)
    → at_front (a_sign symbol.LeftBrace) ts ≡ Some (at, rest) → HasRoom most k 1 room → 2 ≤ room
    → run most (reads (a_binary 0) k) ts ≡ run most (some_exprs braces (array_of at k)) rest
array_fits most room k ts at rest e has some =
    begins most (a_binary 0) k (a_sign symbol.LeftBrace) ts at rest _ e refl (fits most k 1 room _ (suc 1) has (omega arith) (omega arith))

pub array_deep : (most room : ℕ) (k : Expr → ℕ → Rest Prog) (ts : List Token) (at : Place) (rest : List Token)
    → at_front (a_sign symbol.LeftBrace) ts ≡ Some (at, rest) → HasRoom most k 1 room → room < 2
    → run most (reads (a_binary 0) k) ts ≡ Err (errors.TooDeep (length ts))
array_deep most room k ts at rest e has small =
    begins_deep most (a_binary 0) k (a_sign symbol.LeftBrace) ts at rest _ e refl (too_high most k 1 room _ (suc 1) has (omega arith) (omega arith))

conversion_is : (o : Option ((Keyword × Place) × List Token)) (b : Base) (at : Place) (rest : List Token)
    → ◌≡◌ {A = Option (Base × Place × List Token)} (if_found o (λ f. Some (known (conversion_of f.0.0), f.0.1, f.1)) None) (Some (b, at, rest))
    → (w : Keyword) × (o ≡ Some ((w, at), rest)) × (known (conversion_of w) ≡ b)
conversion_is (Some ((w, here), ts)) b at rest e =
    let all : (known (conversion_of w), here, ts) ≡ (b, at, rest) = cc e in
    (w, ap (λ (x : Base × Place × List Token). Some ((w, x.1), x.2)) all, ap (λ (x : Base × Place × List Token). x.0) all)
conversion_is None b at rest e = absurd (cc e)

no_conversion_is : (o : Option ((Keyword × Place) × List Token))
    → ◌≡◌ {A = Option (Base × Place × List Token)} (if_found o (λ f. Some (known (conversion_of f.0.0), f.0.1, f.1)) None) None → o ≡ None
no_conversion_is (Some f) e = absurd (cc e)
no_conversion_is None e = refl

conversion_missing : (ts : List Token) → conversion_front ts ≡ None → at_front a_conversion ts ≡ None
unfolding conversion_front
conversion_missing ts e = no_conversion_is (at_front a_conversion ts) e

conversion_stands : (ts : List Token) (b : Base) (at : Place) (rest : List Token) → conversion_front ts ≡ Some (b, at, rest)
    → (w : Keyword) × (at_front a_conversion ts ≡ Some ((w, at), rest)) × (known (conversion_of w) ≡ b)
unfolding conversion_front
conversion_stands ts b at rest e = conversion_is (at_front a_conversion ts) b at rest e

conversion_found : (w : Keyword) (at : Place) (t : Token) → told a_conversion t ≡ Some (w, at)
    → found (entries (a_binary 0)) t ≡ Some (follow (conversion_rest w at) (λ e h. reads (posts_of e h) done_with))
conversion_found w at t e =
    let is : t ≡ word w at = (told_is a_conversion t (w, at) e).1 in
    ap (found (entries (a_binary 0))) is
    ∙ told_found (told a_conversion (word w at)) (λ p. Some (follow (conversion_rest p.0 p.1) (λ e h. reads (posts_of e h) done_with))) _ (w, at)
    (ap (told a_conversion) (sym is) ∙ e)

pub conversion_fits : (most room : ℕ) (k : Expr → ℕ → Rest Prog) (ts : List Token) (b : Base) (at : Place) (rest : List Token)
    → conversion_front ts ≡ Some (b, at, rest) → HasRoom most k 1 room → 2 ≤ room
    → run most (reads (a_binary 0) k) ts ≡ run most (a_conversion_to b at (posts_behind k)) rest
conversion_fits most room k ts b at rest e has some =
    let x = conversion_stands ts b at rest e in
    taken most (a_binary 0) k a_conversion ts (x.0, at) rest _ x.1 (conversion_found x.0 at) (fits most k 1 room _ (suc 1) has (omega arith) (omega arith))
    ∙ ap (λ c. run most (a_conversion_to c at (posts_behind k)) rest) x.2

pub conversion_deep : (most room : ℕ) (k : Expr → ℕ → Rest Prog) (ts : List Token) (b : Base) (at : Place) (rest : List Token)
    → conversion_front ts ≡ Some (b, at, rest) → HasRoom most k 1 room → room < 2
    → run most (reads (a_binary 0) k) ts ≡ Err (errors.TooDeep (length ts))
conversion_deep most room k ts b at rest e has small =
    let x = conversion_stands ts b at rest e in
    deep most (a_binary 0) k a_conversion ts (x.0, at) rest _ x.1 (conversion_found x.0 at) (too_high most k 1 room _ (suc 1) has (omega arith) (omega arith))

pub no_primary : (most : ℕ) (k : Expr → ℕ → Rest Prog) (ts : List Token) → at_front a_prefix ts ≡ None → NoLiteral ts → at_front a_name ts ≡ None
    → at_front (a_sign symbol.LeftParenthesis) ts ≡ None → at_front (a_sign symbol.LeftBrace) ts ≡ None → conversion_front ts ≡ None
    → run most (reads (a_binary 0) k) ts ≡ Err (errors.Syntax (length ts))
no_primary most k ts a b c d e f =
    refused most (a_binary 0) k ts refl (b.no_number, (b.no_bit, (conversion_missing ts f, (b.no_true, (b.no_false, (d, (c, (e, (a, tt)))))))))

-- ---- behind a name, and behind a parenthesis

-- what is expected behind the arguments of a call
abbrev pub call_of : {A : Type 0} → List ℕ → Place → (Expr → ℕ → Rest A) → List Expr → ℕ → Rest A
call_of x at k es h = k (expr.Call (ident x at) (callee.Function 0) es) (suc h)

pub call_fits : (most room : ℕ) (x : List ℕ) (at : Place) (k : Expr → ℕ → Rest Prog) (ts : List Token) (opens : Place) (rest : List Token)
    → at_front (a_sign symbol.LeftParenthesis) ts ≡ Some (opens, rest) → HasRoom most k 1 room → 1 ≤ room
    → run most (reads (behind_name x at) k) ts ≡ run most (reads some_args (call_of x at k)) rest
call_fits most room x at k ts opens rest e has some =
    begins most (behind_name x at) k (a_sign symbol.LeftParenthesis) ts opens rest _ e refl (fits most k 1 room _ (suc 0) has (omega arith) (omega arith))

pub variable_read : (most : ℕ) (x : List ℕ) (at : Place) (k : Expr → ℕ → Rest Prog) (ts : List Token)
    → at_front (a_sign symbol.LeftParenthesis) ts ≡ None
    → run most (reads (behind_name x at) k) ts ≡ run most (k (expr.Variable (ident x at)) 1) ts
variable_read most x at k ts none = left_out most (behind_name x at) k ts refl (none, tt)

pub unit_read : (most room : ℕ) (at : Place) (k : Expr → ℕ → Rest Prog) (ts : List Token) (closes : Place) (rest : List Token)
    → at_front (a_sign symbol.RightParenthesis) ts ≡ Some (closes, rest) → HasRoom most k 1 room → 1 ≤ room
    → run most (reads (behind_parenthesis at) k) ts ≡ run most (k (expr.Unit at) 1) rest
unit_read most room at k ts closes rest e has some =
    begins most (behind_parenthesis at) k (a_sign symbol.RightParenthesis) ts closes rest _ e refl (fits most k 1 room _ 1 has (omega arith) some)

pub enclosed_begins : (most : ℕ) (at : Place) (k : Expr → ℕ → Rest Prog) (ts : List Token) → at_front (a_sign symbol.RightParenthesis) ts ≡ None
    → run most (reads (behind_parenthesis at) k) ts ≡ run most (expr_before symbol.RightParenthesis (raised k)) ts
enclosed_begins most at k ts none =
    led most (behind_parenthesis at) (a_binary ranks) (λ e h. wants_sign symbol.RightParenthesis (gives e (suc h))) k ts refl refl
    (λ t us is. passed (a_sign symbol.RightParenthesis) (λ closes. gives (expr.Unit at) 1) ts _ _ t us none is refl)

-- ---- lists

pub no_args : (most room : ℕ) (k : List Expr → ℕ → Rest Prog) (ts : List Token) (at : Place) (rest : List Token)
    → at_front (a_sign symbol.RightParenthesis) ts ≡ Some (at, rest) → HasRoom most k 0 room
    → run most (reads some_args k) ts ≡ run most (k [] 0) rest
no_args most room k ts at rest e has =
    begins most some_args k (a_sign symbol.RightParenthesis) ts at rest _ e refl (fits most k 0 room _ 0 has (omega arith) (omega arith))

pub args_begin : (most : ℕ) (k : List Expr → ℕ → Rest Prog) (ts : List Token) → at_front (a_sign symbol.RightParenthesis) ts ≡ None
    → run most (reads some_args k) ts ≡ run most (some_exprs parentheses k) ts
args_begin most k ts none =
    led most some_args (a_binary ranks) (λ e h. reads (more_exprs parentheses (e ∷ []) h) done_with) k ts refl refl
    (λ t us is. passed (a_sign symbol.RightParenthesis) (λ at. gives [] 0) ts _ _ t us none is refl)

pub exprs_end : (most room : ℕ) (kind : Enclosure) (done : List Expr) (low : ℕ) (k : List Expr → ℕ → Rest Prog) (ts : List Token) (at : Place) (rest : List Token)
    → at_front (a_sign (closing_of kind)) ts ≡ Some (at, rest) → HasRoom most k 1 room → 1 ≤ low → low ≤ room
    → run most (reads (more_exprs kind done low) k) ts ≡ run most (k done low) rest
exprs_end most room kind done low k ts at rest e has some below =
    taken most (more_exprs kind done low) k (a_sign (closing_of kind)) ts at rest (gives done low) e
    (λ t is. told_found (told (a_sign (closing_of kind)) t) (λ p. Some (gives done low)) _ at is) (fits most k 1 room done low has some below)

-- what is expected behind a further expression
abbrev pub one_more : {A : Type 0} → Enclosure → List Expr → ℕ → (List Expr → ℕ → Rest A) → Expr → ℕ → Rest A
one_more kind done low k e h = reads (more_exprs kind (done ++ e ∷ []) (max low h)) k

pub exprs_go_on : (most : ℕ) (kind : Enclosure) (done : List Expr) (low : ℕ) (k : List Expr → ℕ → Rest Prog) (ts : List Token)
    → at_front (a_sign (closing_of kind)) ts ≡ None
    → run most (reads (more_exprs kind done low) k) ts ≡ run most (wants_sign symbol.Comma (an_expr (one_more kind done low k))) ts
exprs_go_on most kind done low k ts none =
    only most (more_exprs kind done low) k (a_sign symbol.Comma) (λ at. reads (a_binary ranks) (one_more kind done low done_with)) ts refl
    (λ t us is. passed (a_sign (closing_of kind)) (λ at. gives done low) ts _ _ t us none is refl)

-- ---- posts

-- what is expected behind an index or a slice
abbrev pub post_of : {A : Type 0} → Expr → ℕ → Place → (Expr → ℕ → Rest A) → Expr × Option ℕ → ℕ → Rest A
post_of of low at k p h = reads (posts_of (indexed_by of p.0 p.1 at) (suc (max low h))) k

pub bracket_fits : (most room : ℕ) (of : Expr) (low : ℕ) (k : Expr → ℕ → Rest Prog) (ts : List Token) (at : Place) (rest : List Token)
    → at_front (a_sign symbol.LeftBracket) ts ≡ Some (at, rest) → HasRoom most k low room → 1 ≤ low → low < room
    → run most (reads (posts_of of low) k) ts ≡ run most (an_index (post_of of low at k)) rest
bracket_fits most room of low k ts at rest e has some below =
    begins most (posts_of of low) k (a_sign symbol.LeftBracket) ts at rest _ e refl (fits most k low room _ (suc (max low 1)) has (omega arith) (omega arith))

pub bracket_deep : (most room : ℕ) (of : Expr) (low : ℕ) (k : Expr → ℕ → Rest Prog) (ts : List Token) (at : Place) (rest : List Token)
    → at_front (a_sign symbol.LeftBracket) ts ≡ Some (at, rest) → HasRoom most k low room → room ≤ low
    → run most (reads (posts_of of low) k) ts ≡ Err (errors.TooDeep (length ts))
bracket_deep most room of low k ts at rest e has above =
    begins_deep most (posts_of of low) k (a_sign symbol.LeftBracket) ts at rest _ e refl
    (too_high most k low room _ (suc (max low 1)) has (omega arith) (omega arith))

-- what is expected behind a dot
abbrev pub part_of : {A : Type 0} → Expr → ℕ → Place → (Expr → ℕ → Rest A) → List ℕ × Place → Rest A
part_of of low at k x = reads (posts_of (expr.Part of x.0 0 at) (suc low)) k

pub dot_fits : (most room : ℕ) (of : Expr) (low : ℕ) (k : Expr → ℕ → Rest Prog) (ts : List Token) (at : Place) (rest : List Token)
    → at_front (a_sign symbol.Dot) ts ≡ Some (at, rest) → HasRoom most k low room → low < room
    → run most (reads (posts_of of low) k) ts ≡ run most (wants a_name (part_of of low at k)) rest
dot_fits most room of low k ts at rest e has below =
    begins most (posts_of of low) k (a_sign symbol.Dot) ts at rest _ e refl (fits most k low room _ (suc low) has (omega arith) (omega arith))

pub dot_deep : (most room : ℕ) (of : Expr) (low : ℕ) (k : Expr → ℕ → Rest Prog) (ts : List Token) (at : Place) (rest : List Token)
    → at_front (a_sign symbol.Dot) ts ≡ Some (at, rest) → HasRoom most k low room → room ≤ low
    → run most (reads (posts_of of low) k) ts ≡ Err (errors.TooDeep (length ts))
dot_deep most room of low k ts at rest e has above =
    begins_deep most (posts_of of low) k (a_sign symbol.Dot) ts at rest _ e refl (too_high most k low room _ (suc low) has (omega arith) (omega arith))

pub no_post : (most : ℕ) (of : Expr) (low : ℕ) (k : Expr → ℕ → Rest Prog) (ts : List Token) → at_front (a_sign symbol.LeftBracket) ts ≡ None
    → at_front (a_sign symbol.Dot) ts ≡ None → run most (reads (posts_of of low) k) ts ≡ run most (k of low) ts
no_post most of low k ts a b = left_out most (posts_of of low) k ts refl (a, (b, tt))

-- the same place behind a base, by equal bases and heights
pub same_post : (most : ℕ) (k : Expr → ℕ → Rest Prog) (ts : List Token) (a b : Expr) (n m : ℕ) → a ≡ b → n ≡ m
    → run most (reads (posts_of a n) k) ts ≡ run most (reads (posts_of b m) k) ts
same_post most k ts a b n m e f = ap (λ x. run most (reads (posts_of x n) k) ts) e ∙ ap (λ x. run most (reads (posts_of b x) k) ts) f

-- ---- conversions

-- what is expected behind the second part, and behind the first
abbrev pub converts_second : {A : Type 0} → Base → Place → (Expr → ℕ → Rest A) → Expr → ℕ → Expr → ℕ → Rest A
converts_second b at k e h f g = k (expr.Complex b e f at) (suc (max h g))

abbrev pub converts_first : {A : Type 0} → Base → Place → (Expr → ℕ → Rest A) → Expr → ℕ → Rest A
converts_first b at k e h =
    either (a_sign symbol.RightParenthesis) (λ closes. k (expr.Convert b e at) (suc h)) (a_sign symbol.Comma)
    (λ comma. expr_before symbol.RightParenthesis (converts_second b at k e h))

pub conversion_closes : (most room : ℕ) (b : Base) (at : Place) (k : Expr → ℕ → Rest Prog) (e : Expr) (h : ℕ) (ts : List Token) (closes : Place) (rest : List Token)
    → at_front (a_sign symbol.RightParenthesis) ts ≡ Some (closes, rest) → HasRoom most k 1 room → h < room
    → run most (converts_first b at k e h) ts ≡ run most (k (expr.Convert b e at) (suc h)) rest
conversion_closes most room b at k e h ts closes rest is has below =
    either_first most (a_sign symbol.RightParenthesis) (λ closes. k (expr.Convert b e at) (suc h)) (a_sign symbol.Comma)
    (λ comma. expr_before symbol.RightParenthesis (converts_second b at k e h)) ts closes rest is (fits most k 1 room _ (suc h) has (omega arith) (omega arith))

pub conversion_goes_on : (most : ℕ) (b : Base) (at : Place) (k : Expr → ℕ → Rest Prog) (e : Expr) (h : ℕ) (ts : List Token)
    → at_front (a_sign symbol.RightParenthesis) ts ≡ None
    → run most (converts_first b at k e h) ts
    ≡ run most (wants_sign symbol.Comma (expr_before symbol.RightParenthesis (converts_second b at k e h))) ts
conversion_goes_on most b at k e h ts none =
    either_second most (a_sign symbol.RightParenthesis) (λ closes. k (expr.Convert b e at) (suc h)) (a_sign symbol.Comma)
    (λ comma. expr_before symbol.RightParenthesis (converts_second b at k e h)) ts none

-- ---- indexes and slices

-- what is expected behind the length of a slice, and behind an index
abbrev pub slice_end : {A : Type 0} → (Expr × Option ℕ → ℕ → Rest A) → Expr → ℕ → ℕ → Rest A
slice_end k i h n = wants_sign symbol.RightBracket (k (i, Some n) h)

abbrev pub index_end : {A : Type 0} → (Expr × Option ℕ → ℕ → Rest A) → Expr → ℕ → Rest A
index_end k i h =
    either (a_sign symbol.RightBracket) (λ closes. k (i, None) h) (a_sign symbol.Comma) (λ comma. wants a_number (λ n. slice_end k i h n.0))

pub index_closes : (most room : ℕ) (k : Expr × Option ℕ → ℕ → Rest Prog) (i : Expr) (h : ℕ) (ts : List Token) (closes : Place) (rest : List Token)
    → at_front (a_sign symbol.RightBracket) ts ≡ Some (closes, rest) → HasRoom most k 1 room → 1 ≤ h → h ≤ room
    → run most (index_end k i h) ts ≡ run most (k (i, None) h) rest
index_closes most room k i h ts closes rest is has some below =
    either_first most (a_sign symbol.RightBracket) (λ closes. k (i, None) h) (a_sign symbol.Comma) (λ comma. wants a_number (λ n. slice_end k i h n.0))
    ts closes rest is (fits most k 1 room (i, None) h has some below)

pub index_goes_on : (most : ℕ) (k : Expr × Option ℕ → ℕ → Rest Prog) (i : Expr) (h : ℕ) (ts : List Token)
    → at_front (a_sign symbol.RightBracket) ts ≡ None
    → run most (index_end k i h) ts ≡ run most (wants_sign symbol.Comma (wants a_number (λ n. slice_end k i h n.0))) ts
index_goes_on most k i h ts none =
    either_second most (a_sign symbol.RightBracket) (λ closes. k (i, None) h) (a_sign symbol.Comma) (λ comma. wants a_number (λ n. slice_end k i h n.0)) ts none
