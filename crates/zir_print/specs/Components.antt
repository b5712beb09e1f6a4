-- The canonical tokens of components.
use Rattle.std.specs.Prelude.{ℕ, suc, List, [], ◌∷◌, ◌++◌}
use Rattle.zir_tree.specs.declared.comp.Turning.{Turning}
use Rattle.zir_tree.specs.declared.comp.Turning.TheVariants as turning
use Rattle.zir_tree.specs.declared.comp.Comp.{Comp, Take, Takes, Emit, Emits, Return, Do, Repeat', While', Times', For', If', Map, Filter, Call, Block', Pipe', end_of-Comp, more_of-Comp, Row_of-Member, end_of-Member, more_of-Member}
use Rattle.zir_tree.specs.declared.comp.Member.{Member, Bind, Var, Run}
use Rattle.zir_lex.specs.declared.token.Token.{Token}
use Rattle.zir_lex.specs.declared.token.Keyword.{Keyword}
use Rattle.zir_lex.specs.declared.token.Keyword.TheVariants as keyword
use Rattle.zir_lex.specs.declared.token.Symbol.TheVariants as symbol
use Rattle.zir_grammar.specs.Grammar.{word, sign, int, link_symbol, link_rank}
use Rattle.zir_print.specs.Marks.{nowhere, mark, link_word, parted, enclosed, braced, held}
use Rattle.zir_print.specs.Types.{ident_word}
use Rattle.zir_print.specs.Expressions.{expr_words, called_words}
use Rattle.zir_print.specs.Statements.{var_words, bounds_words, body_words}

-- how loosely a component binds: an atom 0, then the joined ones by the ranks of their signs
abbrev pub comp_kind : Comp → ℕ
comp_kind (Pipe' l _ a _ b p) = suc (link_rank l)
comp_kind atom = 0

-- the word of a loop with a condition
abbrev pub turning_word : Turning → Keyword
turning_word turning.While = keyword.While
turning_word turning.Until = keyword.Until

abbrev mutual
  -- a component
  pub comp_words : Comp → List Token
  comp_words (Take p) = word keyword.Take p ∷ []
  comp_words (Takes n p) = word keyword.Takes p ∷ int n nowhere ∷ []
  comp_words (Emit e p) = word keyword.Emit p ∷ expr_words e
  comp_words (Emits e p) = word keyword.Emits p ∷ expr_words e
  comp_words (Return e p) = word keyword.Return p ∷ expr_words e
  comp_words (Do b p) = word keyword.Do p ∷ body_words b
  comp_words (Repeat' _ (more_of-Comp c end_of-Comp) p) = word keyword.Repeat p ∷ held 0 (comp_kind c) (comp_words c)
  comp_words (While' t e _ (more_of-Comp c end_of-Comp) p) = word (turning_word t) p ∷ (enclosed (expr_words e) ++ held 0 (comp_kind c) (comp_words c))
  comp_words (Times' e _ (more_of-Comp c end_of-Comp) p) = word keyword.Times p ∷ (enclosed (expr_words e) ++ held 0 (comp_kind c) (comp_words c))
  comp_words (For' x from count _ (more_of-Comp c end_of-Comp) p) = word keyword.For p ∷ (bounds_words x from count ++ held 0 (comp_kind c) (comp_words c))
  comp_words (If' e _ (more_of-Comp c end_of-Comp) _ (more_of-Comp d end_of-Comp) p) =
      word keyword.If p ∷ (expr_words e ++ link_word keyword.Then ∷
      (held 0 (comp_kind c) (comp_words c) ++ link_word keyword.Else ∷ held 0 (comp_kind d) (comp_words d)))
  comp_words (Map x k p) = word keyword.Map p ∷ ident_word x ∷ []
  comp_words (Filter x k p) = word keyword.Filter p ∷ ident_word x ∷ []
  comp_words (Call x k es) = called_words x es
  comp_words (Block' _ ms p) = braced p (parted (mark symbol.Semicolon) (each_member ms))
  comp_words (Pipe' l _ (more_of-Comp a end_of-Comp) _ (more_of-Comp b end_of-Comp) p) =
      held (suc (link_rank l)) (comp_kind a) (comp_words a) ++ sign (link_symbol l) p ∷ held (link_rank l) (comp_kind b) (comp_words b)

  -- each of some members of a block
  pub each_member : {m : _} → Row_of-Member m → List (List Token)
  each_member end_of-Member = []
  each_member (more_of-Member (Bind x c) ms) = (ident_word x ∷ mark symbol.LeftArrow ∷ comp_words c) ∷ each_member ms
  each_member (more_of-Member (Var v) ms) = var_words v ∷ each_member ms
  each_member (more_of-Member (Run c) ms) = comp_words c ∷ each_member ms

-- a member of a block
abbrev pub member_words : Member → List Token
member_words (Bind x c) = ident_word x ∷ mark symbol.LeftArrow ∷ comp_words c
member_words (Var v) = var_words v
member_words (Run c) = comp_words c
