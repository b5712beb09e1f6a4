-- The canonical tokens of expressions: parentheses stand only where they are needed.
use Rattle.std.specs.Prelude.{ℕ, suc, ℤ, pos, negsuc, Bool, true, false, List, [], ◌∷◌, ◌++◌, map, Option, Some, None}
use Rattle.zir_tree.specs.declared.place.Place.{Place}
use Rattle.zir_tree.specs.declared.ident.Ident.{Ident}
use Rattle.zir_tree.specs.declared.expr.Expr.{Expr, Unit, Bit, Bool as Truth, Int, Variable, Unary', Binary', Index', Slice', Part', Call', Array', Convert', Complex', Row_of-Expr, end_of-Expr, more_of-Expr}
use Rattle.zir_lex.specs.declared.token.Token.{Token}
use Rattle.zir_lex.specs.declared.token.Keyword.TheVariants as keyword
use Rattle.zir_lex.specs.declared.token.Symbol.TheVariants as symbol
use Rattle.zir_grammar.specs.Grammar.{word, sign, name, int, bit, symbol_of, rank, prefix_token}
use Rattle.zir_print.specs.Marks.{nowhere, mark, parted, enclosed, braced, held}
use Rattle.zir_print.specs.Types.{keyword_of, word_if, ident_word}

-- how loosely an expression binds: a primary 0, a prefix form 1, then the binary forms by the ranks of their operators
abbrev pub kind : Expr → ℕ
kind (Unary' op b _ a p) = 1
kind (Int (negsuc n) b p) = 1
kind (Binary' op b _ l _ r p) = suc (suc (rank op))
kind primary = 0

-- a whole number, with `-` before it where it is below 0
abbrev pub number_words : ℤ → Place → List Token
number_words (pos n) p = int n p ∷ []
number_words (negsuc n) p = sign symbol.Minus p ∷ int (suc n) nowhere ∷ []

-- `true` or `false`
abbrev pub truth_word : Bool → Place → Token
truth_word true p = word keyword.True p
truth_word false p = word keyword.False p

-- the end of an index, or of an index and a length, in brackets
abbrev pub bracket_end : Option ℕ → List Token
bracket_end None = mark symbol.RightBracket ∷ []
bracket_end (Some k) = mark symbol.Comma ∷ int k nowhere ∷ mark symbol.RightBracket ∷ []

-- an index, or an index and a length, in brackets
abbrev pub bracket_words : Place → List Token → Option ℕ → List Token
bracket_words p i k = sign symbol.LeftBracket p ∷ (i ++ bracket_end k)

-- arguments in parentheses behind a name
abbrev pub call_words : Ident → List (List Token) → List Token
call_words x args = ident_word x ∷ enclosed (parted (mark symbol.Comma) args)

abbrev mutual
  -- an expression
  pub expr_words : Expr → List Token
  expr_words (Unit p) = sign symbol.LeftParenthesis p ∷ mark symbol.RightParenthesis ∷ []
  expr_words (Bit b p) = bit b p ∷ []
  expr_words (Truth b p) = truth_word b p ∷ []
  expr_words (Int n b p) = number_words n p
  expr_words (Variable x) = ident_word x ∷ []
  expr_words (Unary' op b _ (more_of-Expr a end_of-Expr) p) = prefix_token op p ∷ held 1 (kind a) (expr_words a)
  expr_words (Binary' op b _ (more_of-Expr l end_of-Expr) _ (more_of-Expr r end_of-Expr) p) =
      held (suc (suc (rank op))) (kind l) (expr_words l) ++ sign (symbol_of op) p ∷ held (suc (rank op)) (kind r) (expr_words r)
  expr_words (Index' _ (more_of-Expr a end_of-Expr) _ (more_of-Expr i end_of-Expr) p) =
      held 0 (kind a) (expr_words a) ++ bracket_words p (expr_words i) None
  expr_words (Slice' _ (more_of-Expr a end_of-Expr) _ (more_of-Expr i end_of-Expr) k p) =
      held 0 (kind a) (expr_words a) ++ bracket_words p (expr_words i) (Some k)
  expr_words (Part' _ (more_of-Expr a end_of-Expr) x k p) = held 0 (kind a) (expr_words a) ++ sign symbol.Dot p ∷ name x nowhere ∷ []
  expr_words (Call' x callee _ es) = call_words x (each_expr es)
  expr_words (Array' _ es p) = braced p (parted (mark symbol.Comma) (each_expr es))
  expr_words (Convert' b _ (more_of-Expr a end_of-Expr) p) = word_if (keyword_of b) p ++ enclosed (expr_words a)
  expr_words (Complex' b _ (more_of-Expr re end_of-Expr) _ (more_of-Expr im end_of-Expr) p) =
      word_if (keyword_of b) p ++ enclosed (expr_words re ++ mark symbol.Comma ∷ expr_words im)

  -- each of some expressions
  pub each_expr : {m : _} → Row_of-Expr m → List (List Token)
  each_expr end_of-Expr = []
  each_expr (more_of-Expr e es) = expr_words e ∷ each_expr es

-- a call with these arguments
abbrev pub called_words : Ident → List Expr → List Token
called_words x es = call_words x (map expr_words es)
