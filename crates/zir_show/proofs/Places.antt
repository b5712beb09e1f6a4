-- Tokens have the same bytes wherever they stand.
use Rattle.std.proofs.Common.{◌≡◌, List, [], ◌∷◌, ◌++◌, Option, Some, None, refl, sym, ap, ◌∙◌, append_assoc}
use Rattle.zir_tree.specs.declared.place.Place.{Place}
use Rattle.zir_tree.specs.declared.ident.Ident.{Ident}
use Rattle.zir_tree.specs.declared.types.Base.{Base}
use Rattle.zir_tree.specs.declared.expr.Prefix.{Prefix}
use Rattle.zir_tree.specs.declared.expr.Prefix.TheVariants as prefix
use Rattle.zir_lex.specs.declared.token.Token.{Token}
use Rattle.zir_lex.specs.declared.token.Keyword.{Keyword}
use Rattle.zir_lex.specs.declared.token.Symbol.{Symbol}
use Rattle.zir_lex.specs.declared.token.Symbol.TheVariants as symbol
use Rattle.zir_grammar.specs.Grammar.{word, sign, prefix_token}
use Rattle.zir_print.specs.Marks.{nowhere, mark, enclosed}
use Rattle.zir_print.specs.Types.{keyword_of, word_if, inner_words}
use Rattle.zir_print.specs.Text.{spaced}
use Rattle.zir_show.proofs.Adding.{spaced_append}

-- tokens with the same bytes, behind others
pub behind : (ts us vs : List Token) → spaced us ≡ spaced vs → spaced (ts ++ us) ≡ spaced (ts ++ vs)
behind ts us vs is = spaced_append ts us ∙ ap (λ w. spaced ts ++ w) is ∙ sym (spaced_append ts vs)

-- a sign between others
pub infix_spaced : (xs ys : List Token) (s : Symbol) (p : Place) → spaced ((xs ++ mark s ∷ []) ++ ys) ≡ spaced (xs ++ sign s p ∷ ys)
infix_spaced xs ys s p = ap spaced (append_assoc xs (mark s ∷ []) ys) ∙ behind xs (mark s ∷ ys) (sign s p ∷ ys) refl

pub prefix_spaced : (op : Prefix) (p q : Place) (ws : List Token) → spaced (prefix_token op p ∷ ws) ≡ spaced (prefix_token op q ∷ ws)
prefix_spaced prefix.Minus p q ws = refl
prefix_spaced prefix.Complement p q ws = refl
prefix_spaced prefix.Not p q ws = refl

pub word_if_spaced : (k : Option Keyword) (p q : Place) (ws : List Token) → spaced (word_if k p ++ ws) ≡ spaced (word_if k q ++ ws)
word_if_spaced None p q ws = refl
word_if_spaced (Some w) p q ws = refl

word_if_alone : (k : Option Keyword) (p q : Place) → spaced (word_if k p) ≡ spaced (word_if k q)
word_if_alone None p q = refl
word_if_alone (Some w) p q = refl

pub inner_spaced : (x : Option Ident) (b : Base) (p q : Place) → spaced (inner_words x b p) ≡ spaced (inner_words x b q)
inner_spaced None b p q = word_if_alone (keyword_of b) p q
inner_spaced (Some x) b p q = refl

-- a conversion of two parts
pub complex_spaced : (k : Option Keyword) (p : Place) (re im : List Token)
    → spaced (((((word_if k nowhere ++ mark symbol.LeftParenthesis ∷ []) ++ re) ++ mark symbol.Comma ∷ []) ++ im) ++ mark symbol.RightParenthesis ∷ [])
    ≡ spaced (word_if k p ++ enclosed (re ++ mark symbol.Comma ∷ im))
complex_spaced None p re im = ap (λ l. spaced (mark symbol.LeftParenthesis ∷ (l ++ mark symbol.RightParenthesis ∷ []))) (append_assoc re (mark symbol.Comma ∷ []) im)
complex_spaced (Some w) p re im = ap (λ l. spaced (word w p ∷ mark symbol.LeftParenthesis ∷ (l ++ mark symbol.RightParenthesis ∷ []))) (append_assoc re (mark symbol.Comma ∷ []) im)

-- parts behind one another, with a token behind the first
pub three : (a b c : List Token) (t : Token) → ((a ++ t ∷ []) ++ b) ++ c ≡ a ++ t ∷ (b ++ c)
three a b c t = append_assoc (a ++ t ∷ []) b c ∙ append_assoc a (t ∷ []) (b ++ c)

-- three parts with a token between each two
pub five : (a b c : List Token) (t u : Token) → (((a ++ t ∷ []) ++ b) ++ u ∷ []) ++ c ≡ a ++ t ∷ (b ++ u ∷ c)
five a b c t u = append_assoc ((a ++ t ∷ []) ++ b) (u ∷ []) c ∙ three a b (u ∷ c) t
