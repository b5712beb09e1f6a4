-- What one more token makes of what is still expected, and what all of the tokens make of it.
use Rattle.std.specs.Prelude.{ℕ, suc, max, nat_le, List, [], ◌∷◌, ◌++◌, length, Option, Some, None, Result, Ok, Err, if◌then◌else◌}
use Rattle.zir_lex.specs.declared.token.Token.{Token}
use Rattle.zir_tree.specs.declared.program.Prog.{Prog}
use Rattle.zir_tree.specs.declared.types.Base.TheVariants as base
use Rattle.zir_tree.specs.declared.expr.Expr as expr
use Rattle.zir_tree.specs.declared.expr.Expr.{Expr}
use Rattle.zir_tree.specs.declared.stmt.Stmt as stmt
use Rattle.zir_tree.specs.declared.comp.Comp as comp
use Rattle.zir_tree.specs.declared.comp.Comp.{Comp}
use Rattle.zir_tree.specs.declared.comp.Member as member
use Rattle.zir_tree.specs.declared.program.Decl.TheVariants as decl
use Rattle.zir_grammar.specs.declared.error.ParseError.{ParseError}
use Rattle.zir_grammar.specs.declared.error.ParseError.TheVariants.{Syntax, TooDeep}
use Rattle.zir_grammar.specs.Grammar.{ident, plain_type, field, plain_var, plain_body, main_bytes}
use Rattle.zir_grammar.specs.Wants.{told, some_payload, somewhere, if_found}
use Rattle.zir_grammar.specs.Parts.{
  Part,
  a_type_part,
  a_field,
  more_fields,
  some_params,
  a_binary,
  operands_of,
  posts_of,
  behind_parenthesis,
  behind_name,
  some_args,
  more_exprs,
  a_var,
  initial_of,
  some_bounds,
  a_stmt,
  stmt_named,
  target_of,
  else_of,
  some_stmts,
  more_stmts,
  a_body,
  more_body,
  a_chain,
  links_of,
  behind_repeat,
  a_block,
  more_members,
  behind_semicolon,
  a_decl,
  a_result,
  more_decls,
  behind_main,
  behind_pipe,
  Tree,
  Rest,
  gives,
  wants,
  either,
  reads,
  follow,
  Entry,
  entries,
  may_be_empty,
  joined,
  joined_height,
}

-- the tree of a part that is as low as it may be: that of the empty part, or a unit, `take` and their like
abbrev pub lowest_tree : (part : Part) → Tree part
lowest_tree a_type_part = plain_type base.Bit somewhere
lowest_tree a_field = field main_bytes somewhere (plain_type base.Bit somewhere)
lowest_tree (more_fields kind done) = done
lowest_tree some_params = []
lowest_tree (a_binary n) = expr.Unit somewhere
lowest_tree (operands_of n left low) = left
lowest_tree (posts_of of low) = of
lowest_tree (behind_parenthesis at) = expr.Unit at
lowest_tree (behind_name x at) = expr.Variable (ident x at)
lowest_tree some_args = []
lowest_tree (more_exprs kind done low) = done
lowest_tree a_var = plain_var (field main_bytes somewhere (plain_type base.Bit somewhere)) somewhere
lowest_tree (initial_of f at) = plain_var f at
lowest_tree some_bounds = (ident main_bytes somewhere, expr.Unit somewhere, expr.Unit somewhere)
lowest_tree a_stmt = stmt.Error [] somewhere
lowest_tree (stmt_named x at) = stmt.Call (ident x at) 0 []
lowest_tree (target_of done low) = done
lowest_tree (else_of e ss low at) = stmt.If e ss at
lowest_tree some_stmts = []
lowest_tree (more_stmts done low) = done
lowest_tree a_body = plain_body []
lowest_tree (more_body done low) = plain_body done
lowest_tree (a_chain n) = comp.Take somewhere
lowest_tree (links_of n left low) = left
lowest_tree (behind_repeat at) = comp.Repeat (comp.Take somewhere) at
lowest_tree a_block = comp.Block (member.Run (comp.Take somewhere) ∷ []) somewhere
lowest_tree (more_members done low) = done ++ member.Run (comp.Take somewhere) ∷ []
lowest_tree (behind_semicolon done low) = done
lowest_tree a_decl = decl.Struct (record {
  name = ident main_bytes somewhere;
  fields = field main_bytes somewhere (plain_type base.Bit somewhere)
      ∷ [];
  at = somewhere;
})
lowest_tree a_result = None
lowest_tree (more_decls done low) = done
lowest_tree (behind_main left c h) = (joined left c, plain_type base.Bit somewhere)
lowest_tree (behind_pipe left c h at) = (joined left c, plain_type base.Bit somewhere)

-- the least height of a part
abbrev pub lowest : Part → ℕ
lowest a_type_part = 0
lowest a_field = 0
lowest (more_fields kind done) = 0
lowest some_params = 0
lowest (a_binary n) = 1
lowest (operands_of n left low) = low
lowest (posts_of of low) = low
lowest (behind_parenthesis at) = 1
lowest (behind_name x at) = 1
lowest some_args = 0
lowest (more_exprs kind done low) = low
lowest a_var = 1
lowest (initial_of f at) = 1
lowest some_bounds = 1
lowest a_stmt = 1
lowest (stmt_named x at) = 1
lowest (target_of done low) = low
lowest (else_of e ss low at) = suc low
lowest some_stmts = 1
lowest (more_stmts done low) = low
lowest a_body = 1
lowest (more_body done low) = low
lowest (a_chain n) = 1
lowest (links_of n left low) = low
lowest (behind_repeat at) = 2
lowest a_block = 2
lowest (more_members done low) = max low 1
lowest (behind_semicolon done low) = low
lowest a_decl = 0
lowest a_result = 0
lowest (more_decls done low) = low
lowest (behind_main left c h) = joined_height left h
lowest (behind_pipe left c h at) = joined_height left h

-- the least height of what is still expected
abbrev pub least : {A : Type 0} → Rest A → ℕ
least (gives a h) = h
least (wants w f) = least (f (some_payload w))
least (either w f v g) = least (f (some_payload w))
least (reads part f) = least (f (lowest_tree part) (lowest part))

-- the entry that a token takes
abbrev pub found : {A : Type 0} → List (Entry A) → Token → Option (Rest A)
found [] t = None
found (e ∷ es) t = if_found (told e.want t) (λ p. Some (e.next p)) (found es t)

-- what one more token makes of what is still expected
unfoldable pub step : {A : Type 0} → Rest A → Token → Option (Rest A)
step (gives a h) t = None
step (wants w f) t = if_found (told w t) (λ p. Some (f p)) None
step (either w f v g) t = if_found (told w t) (λ p. Some (f p)) (if_found (told v t) (λ p. Some (g p)) None)
step (reads part f) t = if_found (found (entries part) t)
    (λ r. Some (follow r f)) (if may_be_empty part then step (f (lowest_tree part) (lowest part)) t else None)

-- the end of the tokens
unfoldable pub finish : Rest Prog → Result Prog ParseError
finish (gives p h) = Ok p
finish (wants w f) = Err (Syntax 0)
finish (either w f v g) = Err (Syntax 0)
finish (reads part f) = if may_be_empty part then finish (f (lowest_tree part) (lowest part)) else Err (Syntax 0)

-- what the tokens make of what is expected; an error counts the tokens from its place on
unfoldable pub run : ℕ → Rest Prog → List Token → Result Prog ParseError
run most r [] = finish r
run most r (t ∷ ts) = if_found (step r t)
    (λ next. if nat_le (least next) most then run most next ts else Err (TooDeep (suc (length ts)))) (Err (Syntax (suc (length ts))))
