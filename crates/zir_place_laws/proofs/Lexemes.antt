-- Tokens with the same lexemes, in the ways that canonical tokens are put together.
use Rattle.std.proofs.Common.{◌≡◌, ℕ, Bool, true, false, List, [], ◌∷◌, ◌++◌, refl, sym, ap, ap₂, ◌∙◌, subst, if◌then◌else◌}
use Rattle.std.specs.Prelude.{nat_le, map}
use Rattle.std.proofs.lemmas.List.{map-append}
use Rattle.zir_tree.specs.declared.place.Place.{Place}
use Rattle.zir_lex.specs.declared.token.Token.{Token}
use Rattle.zir_lex.specs.declared.token.Lexeme.{Lexeme}
use Rattle.zir_lex.specs.declared.token.Lexeme.TheVariants as lexeme
use Rattle.zir_lex.specs.declared.token.Symbol.{Symbol}
use Rattle.zir_lex.specs.declared.token.Symbol.TheVariants as symbol
use Rattle.zir_print.specs.Marks.{nowhere, mark, parted, behind_each, enclosed, braced, held}
use Rattle.zir_print.specs.Statements.{list_words}
use Rattle.zir_print.specs.Text.{spelling, spaced, line}
use Rattle.zir_text_laws.specs.Laws.{lexemes}

-- tokens with the same lexemes
abbrev pub Alike : List Token → List Token → Type 0
Alike ws vs = lexemes ws ≡ lexemes vs

pub lexemes_joined : (ws vs : List Token) → lexemes (ws ++ vs) ≡ lexemes ws ++ lexemes vs
lexemes_joined ws vs = map-append (λ t. t.lexeme) ws vs

pub joined : (a b c d : List Token) → Alike a b → Alike c d → Alike (a ++ c) (b ++ d)
joined a b c d e f = lexemes_joined a c ∙ ap₂ (λ l m. l ++ m) e f ∙ sym (lexemes_joined b d)

pub enclosed_alike : (ws vs : List Token) → Alike ws vs → Alike (enclosed ws) (enclosed vs)
enclosed_alike ws vs e = ap (λ l. lexeme.Symbol symbol.LeftParenthesis ∷ l) (joined ws vs (mark symbol.RightParenthesis ∷ []) (mark symbol.RightParenthesis ∷ []) e refl)

pub braced_alike : (p q : Place) (ws vs : List Token) → Alike ws vs → Alike (braced p ws) (braced q vs)
braced_alike p q ws vs e = ap (λ l. lexeme.Symbol symbol.LeftBrace ∷ l) (joined ws vs (mark symbol.RightBrace ∷ []) (mark symbol.RightBrace ∷ []) e refl)

either : (b : Bool) (ws vs : List Token) → Alike ws vs → Alike (if b then ws else enclosed ws) (if b then vs else enclosed vs)
either true ws vs e = e
either false ws vs e = enclosed_alike ws vs e

pub held_alike : (limit n m : ℕ) (ws vs : List Token) → n ≡ m → Alike ws vs → Alike (held limit n ws) (held limit m vs)
held_alike limit n m ws vs same e = subst (λ k. Alike (held limit n ws) (held limit k vs)) same (either (nat_le n limit) ws vs e)

-- ---- lists with a sign between

-- lists of lexemes, each behind a lexeme
abbrev behind_lexemes : Lexeme → List (List Lexeme) → List Lexeme
behind_lexemes w [] = []
behind_lexemes w (l ∷ ls) = w ∷ (l ++ behind_lexemes w ls)

-- lists of lexemes with a lexeme between each two
abbrev parted_lexemes : Lexeme → List (List Lexeme) → List Lexeme
parted_lexemes w [] = []
parted_lexemes w (l ∷ ls) = l ++ behind_lexemes w ls

lexemes_behind : (s : Symbol) (parts : List (List Token)) → lexemes (behind_each (mark s) parts) ≡ behind_lexemes (lexeme.Symbol s) (map lexemes parts)
lexemes_behind s [] = refl
lexemes_behind s (ws ∷ parts) = ap (λ l. lexeme.Symbol s ∷ l) (lexemes_joined ws (behind_each (mark s) parts) ∙ ap (λ l. lexemes ws ++ l) (lexemes_behind s parts))

lexemes_parted : (s : Symbol) (parts : List (List Token)) → lexemes (parted (mark s) parts) ≡ parted_lexemes (lexeme.Symbol s) (map lexemes parts)
lexemes_parted s [] = refl
lexemes_parted s (ws ∷ parts) = lexemes_joined ws (behind_each (mark s) parts) ∙ ap (λ l. lexemes ws ++ l) (lexemes_behind s parts)

pub parted_alike : (s : Symbol) (ps qs : List (List Token)) → map lexemes ps ≡ map lexemes qs → Alike (parted (mark s) ps) (parted (mark s) qs)
parted_alike s ps qs e = lexemes_parted s ps ∙ ap (λ l. parted_lexemes (lexeme.Symbol s) l) e ∙ sym (lexemes_parted s qs)

pub list_alike : (ps qs : List (List Token)) → map lexemes ps ≡ map lexemes qs → Alike (list_words ps) (list_words qs)
list_alike ps qs e = braced_alike nowhere nowhere (parted (mark symbol.Semicolon) ps) (parted (mark symbol.Semicolon) qs) (parted_alike symbol.Semicolon ps qs e)

pub each_alike : {A : Type 0} (f : A → List Token) (g : A → A) → ((x : A) → Alike (f (g x)) (f x)) → (xs : List A) → map lexemes (map f (map g xs)) ≡ map lexemes (map f xs)
each_alike f g one [] = refl
each_alike f g one (x ∷ xs) = ap₂ (λ l ls. l ∷ ls) (one x) (each_alike f g one xs)

-- ---- lines of text

-- lexemes with a space before each
abbrev spaced_lexemes : List Lexeme → List ℕ
spaced_lexemes [] = []
spaced_lexemes (w ∷ ws) = 32 ∷ (spelling w ++ spaced_lexemes ws)

-- a line of lexemes, and its newline
abbrev line_lexemes : List Lexeme → List ℕ
line_lexemes [] = 10 ∷ []
line_lexemes (w ∷ ws) = spelling w ++ (spaced_lexemes ws ++ 10 ∷ [])

spaced_by : (ts : List Token) → spaced ts ≡ spaced_lexemes (lexemes ts)
spaced_by [] = refl
spaced_by (t ∷ ts) = ap (λ w. 32 ∷ (spelling t.lexeme ++ w)) (spaced_by ts)

line_by : (ts : List Token) → line ts ≡ line_lexemes (lexemes ts)
line_by [] = refl
line_by (t ∷ ts) = ap (λ w. spelling t.lexeme ++ (w ++ 10 ∷ [])) (spaced_by ts)

pub same_line : (ts us : List Token) → Alike ts us → line ts ≡ line us
same_line ts us e = line_by ts ∙ ap line_lexemes e ∙ sym (line_by us)
