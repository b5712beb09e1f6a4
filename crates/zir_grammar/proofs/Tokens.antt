-- What a token tells, and the token that tells it.
use Rattle.std.proofs.Common.{◌≡◌, ℕ, nat_eq, Bool, true, false, List, Option, Some, None, refl, ap, ◌∙◌, subst, arith, rules, if◌then◌else◌}
use Rattle.std.specs.Str.{bytes_eq}
use Rattle.std.proofs.lemmas.Slice.Eq.{bytes_eq-Decides}
use Rattle.std.proofs.lemmas.Bool.{eqb-true}
use denote.Enum.Bare.{sameb, same_true, true_same}
use Rattle.zir_lex.specs.contracts.token.Keyword.{the_type as the_keyword}
use Rattle.zir_lex.specs.contracts.token.Symbol.{the_type as the_symbol}
use Rattle.zir_tree.specs.declared.place.Place.{Place}
use Rattle.zir_tree.specs.declared.expr.Prefix.{Prefix}
use Rattle.zir_tree.specs.declared.expr.Prefix.TheVariants as prefix
use Rattle.zir_tree.specs.declared.expr.Operator.{Operator}
use Rattle.zir_tree.specs.declared.expr.Operator.TheVariants as operator
use Rattle.zir_tree.specs.declared.comp.Link.{Link}
use Rattle.zir_tree.specs.declared.comp.Link.TheVariants as link
use Rattle.zir_lex.specs.declared.token.Token.{Token}
use Rattle.zir_lex.specs.declared.token.Lexeme.{Lexeme}
use Rattle.zir_lex.specs.declared.token.Lexeme.TheVariants as lexeme
use Rattle.zir_lex.specs.declared.token.Keyword.{Keyword}
use Rattle.zir_lex.specs.declared.token.Keyword.TheVariants as keyword
use Rattle.zir_lex.specs.declared.token.Symbol.{Symbol}
use Rattle.zir_lex.specs.declared.token.Symbol.TheVariants as symbol
use Rattle.zir_grammar.specs.Grammar.{word, sign, name, int, bit, text, main_bytes, base_of, conversion_of, symbol_of, rank, prefix_token, link_symbol, link_rank}
use Rattle.zir_grammar.specs.Wants.{
  Want,
  a_word,
  a_sign,
  the_main,
  a_name,
  a_number,
  a_bit,
  a_text,
  a_type,
  a_conversion,
  a_prefix,
  an_operator,
  a_link,
  Payload,
  token_of,
  Fits,
  if_found,
  operator_of,
  link_of,
  prefix_of,
  told_by,
  told,
}

-- a test decides what is there
tested : {A : Type 0} (b : Bool) (x y : A) → ◌≡◌ {A = Option A} (if b then Some x else None) (Some y) → (b ≡ true) × (x ≡ y)
tested true x y e = (refl, cc e)
tested false x y e = absurd (cc e)

-- what is found there
found_is : {A B : Type 0} (o : Option A) (f : A → Option B) (y : B) → if_found o f None ≡ Some y → (x : A) × (o ≡ Some x) × (f x ≡ Some y)
found_is (Some x) f y e = (x, refl, e)
found_is None f y e = absurd (cc e)

operator_stands : (s : Symbol) (op : Operator) → operator_of s ≡ Some op → s ≡ symbol_of op
operator_stands symbol.OrOr op e = let h : operator.Or ≡ op = cc e in ap symbol_of h
operator_stands symbol.AndAnd op e = let h : operator.And ≡ op = cc e in ap symbol_of h
operator_stands symbol.Bar op e = let h : operator.BitOr ≡ op = cc e in ap symbol_of h
operator_stands symbol.Caret op e = let h : operator.BitXor ≡ op = cc e in ap symbol_of h
operator_stands symbol.Ampersand op e = let h : operator.BitAnd ≡ op = cc e in ap symbol_of h
operator_stands symbol.EqualEqual op e = let h : operator.Equal ≡ op = cc e in ap symbol_of h
operator_stands symbol.NotEqual op e = let h : operator.NotEqual ≡ op = cc e in ap symbol_of h
operator_stands symbol.Less op e = let h : operator.Less ≡ op = cc e in ap symbol_of h
operator_stands symbol.LessEqual op e = let h : operator.LessEqual ≡ op = cc e in ap symbol_of h
operator_stands symbol.Greater op e = let h : operator.Greater ≡ op = cc e in ap symbol_of h
operator_stands symbol.GreaterEqual op e = let h : operator.GreaterEqual ≡ op = cc e in ap symbol_of h
operator_stands symbol.ShiftLeft op e = let h : operator.ShiftLeft ≡ op = cc e in ap symbol_of h
operator_stands symbol.ShiftRight op e = let h : operator.ShiftRight ≡ op = cc e in ap symbol_of h
operator_stands symbol.Plus op e = let h : operator.Add ≡ op = cc e in ap symbol_of h
operator_stands symbol.Minus op e = let h : operator.Subtract ≡ op = cc e in ap symbol_of h
operator_stands symbol.Star op e = let h : operator.Multiply ≡ op = cc e in ap symbol_of h
operator_stands symbol.Slash op e = let h : operator.Divide ≡ op = cc e in ap symbol_of h
operator_stands symbol.Percent op e = let h : operator.Remainder ≡ op = cc e in ap symbol_of h
operator_stands s op e = absurd (cc e)

pub operator_read : (op : Operator) → operator_of (symbol_of op) ≡ Some op
operator_read operator.Or = refl
operator_read operator.And = refl
operator_read operator.BitOr = refl
operator_read operator.BitXor = refl
operator_read operator.BitAnd = refl
operator_read operator.Equal = refl
operator_read operator.NotEqual = refl
operator_read operator.Less = refl
operator_read operator.LessEqual = refl
operator_read operator.Greater = refl
operator_read operator.GreaterEqual = refl
operator_read operator.ShiftLeft = refl
operator_read operator.ShiftRight = refl
operator_read operator.Add = refl
operator_read operator.Subtract = refl
operator_read operator.Multiply = refl
operator_read operator.Divide = refl
operator_read operator.Remainder = refl

link_stands : (s : Symbol) (l : Link) → link_of s ≡ Some l → s ≡ link_symbol l
link_stands symbol.Pipe l e = let h : link.Serial ≡ l = cc e in ap link_symbol h
link_stands symbol.ParallelPipe l e = let h : link.Parallel ≡ l = cc e in ap link_symbol h
link_stands s l e = absurd (cc e)

pub link_read : (l : Link) → link_of (link_symbol l) ≡ Some l
link_read link.Serial = refl
link_read link.Parallel = refl

prefix_stands : (l : Lexeme) (at : Place) (op : Prefix) → prefix_of l ≡ Some op → record { lexeme = l; at = at } ≡ prefix_token op at
prefix_stands (lexeme.Symbol symbol.Minus) at op e = let h : prefix.Minus ≡ op = cc e in ap (λ o. prefix_token o at) h
prefix_stands (lexeme.Symbol symbol.Tilde) at op e = let h : prefix.Complement ≡ op = cc e in ap (λ o. prefix_token o at) h
prefix_stands (lexeme.Keyword keyword.Not) at op e = let h : prefix.Not ≡ op = cc e in ap (λ o. prefix_token o at) h
prefix_stands l at op e = absurd (cc e)

-- a token that tells something is the token that tells it
told_by_is : (w : Want) (l : Lexeme) (at : Place) (p : Payload w) → told_by w l at ≡ Some p → Fits w p × (record { lexeme = l; at = at } ≡ token_of w p)
told_by_is (a_word w) (lexeme.Keyword found) at p e =
    let t = tested (sameb the_keyword found w) at p e in
    let s = same_true the_keyword (search rules) found w t.0 in
    (tt, ap (λ k. word k at) s ∙ ap (word w) t.1)
told_by_is (a_sign s) (lexeme.Symbol found) at p e =
    let t = tested (sameb the_symbol found s) at p e in
    let h = same_true the_symbol (search rules) found s t.0 in
    (tt, ap (λ k. sign k at) h ∙ ap (sign s) t.1)
told_by_is the_main (lexeme.Name x) at p e =
    let t = tested (bytes_eq x main_bytes) at p e in
    (tt, ap (λ k. name k at) ((bytes_eq-Decides x main_bytes).0 t.0) ∙ ap (name main_bytes) t.1)
told_by_is a_name (lexeme.Name x) at p e = let h : (x, at) ≡ p = cc e in (tt, ap (λ (w : List ℕ × Place). name w.0 w.1) h)
told_by_is a_number (lexeme.Int n) at p e = let h : (n, at) ≡ p = cc e in (tt, ap (λ (w : ℕ × Place). int w.0 w.1) h)
told_by_is a_bit (lexeme.Bit b) at p e = let h : (b, at) ≡ p = cc e in (tt, ap (λ (w : Bool × Place). bit w.0 w.1) h)
told_by_is a_text (lexeme.Text s) at p e = let h : (s, at) ≡ p = cc e in (tt, ap (λ (w : List ℕ × Place). text w.0 w.1) h)
told_by_is a_type (lexeme.Keyword w) at p e =
    let f = found_is (base_of w) (λ b. Some (w, at)) p e in
    let h : (w, at) ≡ p = cc (f.2) in
    ((f.0, subst (λ (q : Keyword × Place). base_of q.0 ≡ Some f.0) h f.1), ap (λ (q : Keyword × Place). word q.0 q.1) h)
told_by_is a_conversion (lexeme.Keyword w) at p e =
    let f = found_is (conversion_of w) (λ b. Some (w, at)) p e in
    let h : (w, at) ≡ p = cc (f.2) in
    ((f.0, subst (λ (q : Keyword × Place). conversion_of q.0 ≡ Some f.0) h f.1), ap (λ (q : Keyword × Place). word q.0 q.1) h)
told_by_is a_prefix l at p e =
    let f = found_is (prefix_of l) (λ op. Some (op, at)) p e in
    let h : (f.0, at) ≡ p = cc (f.2) in
    (tt, prefix_stands l at f.0 f.1 ∙ ap (λ (q : Prefix × Place). prefix_token q.0 q.1) h)
told_by_is (an_operator n) (lexeme.Symbol s) at p e =
    let f = found_is (operator_of s) (λ op. if nat_eq (rank op) n then Some (op, at) else None) p e in
    let t = tested (nat_eq (rank f.0) n) (f.0, at) p f.2 in (
      subst (λ (q : Operator × Place). rank q.0 ≡ n) t.1 (eqb-true (rank f.0) n t.0),
      ap (λ k. sign k at) (operator_stands s f.0 f.1) ∙ ap (λ (q : Operator × Place). sign (symbol_of q.0) q.1) t.1,
    )
told_by_is (a_link n) (lexeme.Symbol s) at p e =
    let f = found_is (link_of s) (λ l. if nat_eq (link_rank l) n then Some (l, at) else None) p e in
    let t = tested (nat_eq (link_rank f.0) n) (f.0, at) p f.2 in (
      subst (λ (q : Link × Place). link_rank q.0 ≡ n) t.1 (eqb-true (link_rank f.0) n t.0),
      ap (λ k. sign k at) (link_stands s f.0 f.1) ∙ ap (λ (q : Link × Place). sign (link_symbol q.0) q.1) t.1,
    )
told_by_is w l at p e = absurd (cc e)

pub told_is : (w : Want) (t : Token) (p : Payload w) → told w t ≡ Some p → Fits w p × (t ≡ token_of w p)
told_is w t p e = told_by_is w t.lexeme t.at p e

same_numbers : (n m : ℕ) → n ≡ m → nat_eq n m ≡ true
same_numbers n m e = grind arith

-- the token that tells something tells it
pub told_back : (w : Want) (p : Payload w) → Fits w p → told w (token_of w p) ≡ Some p
told_back (a_word w) p fits = rw (true_same the_keyword w w refl) refl
told_back (a_sign s) p fits = rw (true_same the_symbol s s refl) refl
told_back the_main p fits = refl
told_back a_name p fits = refl
told_back a_number p fits = refl
told_back a_bit p fits = refl
told_back a_text p fits = refl
told_back a_type p fits = rw (fits.1) refl
told_back a_conversion p fits = rw (fits.1) refl
told_back a_prefix (prefix.Minus, at) fits = refl
told_back a_prefix (prefix.Complement, at) fits = refl
told_back a_prefix (prefix.Not, at) fits = refl
told_back (an_operator n) (op, at) fits = rw (operator_read op, same_numbers (rank op) n fits) refl
told_back (a_link n) (l, at) fits = rw (link_read l, same_numbers (link_rank l) n fits) refl
