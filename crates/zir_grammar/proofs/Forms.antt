-- What is proved of the table, put together from the layers.
use Rattle.std.proofs.Common.{◌≡◌, ◌≤◌, ℕ, zero, suc, true, List, [], ◌∷◌, refl, arith}
use Rattle.zir_tree.specs.declared.place.Place.{Place}
use Rattle.zir_tree.specs.declared.types.Base.TheVariants as base
use Rattle.zir_tree.specs.declared.expr.Expr.{Expr}
use Rattle.zir_tree.specs.declared.expr.Expr as expr
use Rattle.zir_tree.specs.declared.comp.Comp.{Comp}
use Rattle.zir_tree.specs.declared.comp.Comp as comp
use Rattle.zir_lex.specs.declared.token.Token.{Token}
use Rattle.zir_lex.specs.declared.token.Keyword.TheVariants as keyword
use Rattle.zir_lex.specs.declared.token.Symbol.TheVariants as symbol
use Rattle.zir_grammar.specs.Grammar.{
  type_word,
  typed_name,
  last_field,
  no_params,
  IsBinary,
  unary,
  operands,
  no_operand,
  no_post,
  primary,
  unit_value,
  variable,
  no_args,
  last_expr,
  var_alone,
  bounds,
  target,
  errors,
  calls,
  stmts,
  no_stmt,
  body,
  no_more,
  take_atom,
  repeat_atom,
  IsChain,
  atom,
  links,
  no_link,
  block,
  last_member,
  declares_struct,
  no_result,
  no_decl,
}
use Rattle.zir_grammar.specs.Grammar.{word, sign, text, plain_type, ranks}
use Rattle.zir_grammar.specs.Wants.{somewhere}
use Rattle.zir_grammar.specs.Enclosures.{closing_of}
use Rattle.zir_grammar.specs.Parts.{
  Left,
  Part,
  a_type_part,
  a_field,
  more_fields,
  some_params,
  a_binary,
  operands_of,
  posts_of,
  behind_parenthesis,
  behind_name,
  some_args,
  more_exprs,
  a_var,
  initial_of,
  some_bounds,
  a_stmt,
  stmt_named,
  target_of,
  else_of,
  some_stmts,
  more_stmts,
  a_body,
  more_body,
  a_chain,
  links_of,
  behind_repeat,
  a_block,
  more_members,
  behind_semicolon,
  a_decl,
  a_result,
  more_decls,
  behind_main,
  behind_pipe,
  Tree,
  joined,
  joined_height,
  entries,
  may_be_empty,
  start,
}
use Rattle.zir_grammar.specs.Machine.{lowest_tree, lowest, least}
use Rattle.zir_grammar.proofs.Meaning.{no_initial, no_else, stopped, IsBehindMain, IsPart, AllEntries}
use Rattle.zir_grammar.proofs.Sound.{nothing, follows}
use Rattle.zir_grammar.proofs.Tables.{OpensBy}
use Rattle.zir_grammar.proofs.Entries.{EntryReads, EntrySound, EntryFollows, EntryLow, Opens}
use Rattle.zir_grammar.proofs.TypeForms as types
use Rattle.zir_grammar.proofs.ExprForms as exprs
use Rattle.zir_grammar.proofs.StmtForms as stmts_of
use Rattle.zir_grammar.proofs.CompForms as comps
use Rattle.zir_grammar.proofs.DeclForms as decls
pub use Rattle.zir_grammar.proofs.DeclForms.{start_forth, start_back, start_sound}

pub entries_read : (part : Part) → AllEntries (EntryReads part) (entries part)
entries_read a_type_part = types.type_read
entries_read a_field = types.field_read
entries_read (more_fields kind done) = types.more_fields_read kind done
entries_read some_params = types.params_read
entries_read (a_binary n) = exprs.binary_read n
entries_read (operands_of n left low) = exprs.operands_read n left low
entries_read (posts_of of low) = exprs.posts_read of low
entries_read (behind_parenthesis at) = exprs.parenthesis_read at
entries_read (behind_name x at) = exprs.name_read x at
entries_read some_args = exprs.args_read
entries_read (more_exprs kind done low) = exprs.more_exprs_read kind done low
entries_read a_var = stmts_of.var_read
entries_read (initial_of f at) = stmts_of.initial_read f at
entries_read some_bounds = stmts_of.bounds_read
entries_read a_stmt = stmts_of.stmt_read
entries_read (stmt_named x at) = stmts_of.named_read x at
entries_read (target_of done low) = stmts_of.target_read done low
entries_read (else_of e ss low at) = stmts_of.else_read e ss low at
entries_read some_stmts = stmts_of.stmts_read
entries_read (more_stmts done low) = stmts_of.more_stmts_read done low
entries_read a_body = stmts_of.body_read
entries_read (more_body done low) = stmts_of.more_body_read done low
entries_read (a_chain n) = comps.chain_read n
entries_read (links_of n left low) = comps.links_read n left low
entries_read (behind_repeat at) = comps.repeat_read at
entries_read a_block = comps.block_read
entries_read (more_members done low) = comps.member_read done low
entries_read (behind_semicolon done low) = comps.stopped_read done low
entries_read a_decl = decls.decl_read
entries_read a_result = decls.result_read
entries_read (more_decls done low) = decls.decls_read done low
entries_read (behind_main left c h) = decls.main_read left c h
entries_read (behind_pipe left c h at) = decls.pipe_read left c h at

pub entries_sound : (part : Part) → AllEntries (EntrySound part) (entries part)
entries_sound a_type_part = types.type_sound nothing
entries_sound a_field = types.field_sound nothing
entries_sound (more_fields kind done) = types.more_fields_sound nothing kind done
entries_sound some_params = types.params_sound nothing
entries_sound (a_binary n) = exprs.binary_sound n
entries_sound (operands_of n left low) = exprs.operands_sound n left low
entries_sound (posts_of of low) = exprs.posts_sound of low
entries_sound (behind_parenthesis at) = exprs.parenthesis_sound at
entries_sound (behind_name x at) = exprs.name_sound x at
entries_sound some_args = exprs.args_sound
entries_sound (more_exprs kind done low) = exprs.more_exprs_sound kind done low
entries_sound a_var = stmts_of.var_sound
entries_sound (initial_of f at) = stmts_of.initial_sound f at
entries_sound some_bounds = stmts_of.bounds_sound
entries_sound a_stmt = stmts_of.stmt_sound
entries_sound (stmt_named x at) = stmts_of.named_sound x at
entries_sound (target_of done low) = stmts_of.target_sound done low
entries_sound (else_of e ss low at) = stmts_of.else_sound e ss low at
entries_sound some_stmts = stmts_of.stmts_sound
entries_sound (more_stmts done low) = stmts_of.more_stmts_sound done low
entries_sound a_body = stmts_of.body_sound
entries_sound (more_body done low) = stmts_of.more_body_sound done low
entries_sound (a_chain n) = comps.chain_sound n
entries_sound (links_of n left low) = comps.links_sound n left low
entries_sound (behind_repeat at) = comps.repeat_sound at
entries_sound a_block = comps.block_sound nothing
entries_sound (more_members done low) = comps.member_sound done low
entries_sound (behind_semicolon done low) = (λ p. tt, comps.member_sound done low)
entries_sound a_decl = decls.decl_sound
entries_sound a_result = decls.result_sound (follows a_result)
entries_sound (more_decls done low) = decls.decls_sound done low
entries_sound (behind_main left c h) = decls.main_sound left c h
entries_sound (behind_pipe left c h at) = decls.pipe_sound left c h at

pub entries_follow : (part : Part) → may_be_empty part ≡ true → AllEntries (EntryFollows part) (entries part)
entries_follow a_type_part is = absurd (cc is)
entries_follow a_field is = absurd (cc is)
entries_follow (more_fields kind done) is = absurd (cc is)
entries_follow some_params is = absurd (cc is)
entries_follow (a_binary n) is = absurd (cc is)
entries_follow (operands_of n left low) is = (λ p fits. exprs.operand_follows n p fits, tt)
entries_follow (posts_of of low) is = exprs.posts_follow of low
entries_follow (behind_parenthesis at) is = absurd (cc is)
entries_follow (behind_name x at) is = (λ p fits. refl, tt)
entries_follow some_args is = absurd (cc is)
entries_follow (more_exprs kind done low) is = absurd (cc is)
entries_follow a_var is = absurd (cc is)
entries_follow (initial_of f at) is = (λ p fits. refl, tt)
entries_follow some_bounds is = absurd (cc is)
entries_follow a_stmt is = absurd (cc is)
entries_follow (stmt_named x at) is = absurd (cc is)
entries_follow (target_of done low) is = absurd (cc is)
entries_follow (else_of e ss low at) is = (λ p fits. refl, tt)
entries_follow some_stmts is = absurd (cc is)
entries_follow (more_stmts done low) is = absurd (cc is)
entries_follow a_body is = absurd (cc is)
entries_follow (more_body done low) is = absurd (cc is)
entries_follow (a_chain n) is = absurd (cc is)
entries_follow (links_of n left low) is = (λ p fits. comps.link_follows n p fits, tt)
entries_follow (behind_repeat at) is = absurd (cc is)
entries_follow a_block is = absurd (cc is)
entries_follow (more_members done low) is = absurd (cc is)
entries_follow (behind_semicolon done low) is = absurd (cc is)
entries_follow a_decl is = absurd (cc is)
entries_follow a_result is = (λ p fits. refl, tt)
entries_follow (more_decls done low) is = (λ p fits. refl, (λ p fits. refl, (λ p fits. refl, tt)))
entries_follow (behind_main left c h) is = absurd (cc is)
entries_follow (behind_pipe left c h at) is = absurd (cc is)

pub entries_low : (part : Part) → AllEntries (EntryLow part) (entries part)
entries_low a_type_part = (λ p. omega arith, (λ p. omega arith, (λ p. omega arith, tt)))
entries_low a_field = (λ p. omega arith, tt)
entries_low (more_fields kind done) = (λ p. omega arith, (λ p. omega arith, tt))
entries_low some_params = (λ p. omega arith, (λ p. omega arith, tt))
entries_low (a_binary n) = exprs.binary_low n
entries_low (operands_of n left low) = exprs.operands_low n left low
entries_low (posts_of of low) = exprs.posts_low of low
entries_low (behind_parenthesis at) = exprs.parenthesis_low at
entries_low (behind_name x at) = (λ p. omega arith, tt)
entries_low some_args = exprs.args_low
entries_low (more_exprs kind done low) = exprs.more_exprs_low kind done low
entries_low a_var = stmts_of.var_low
entries_low (initial_of f at) = (λ p. omega arith, tt)
entries_low some_bounds = stmts_of.bounds_low
entries_low a_stmt = stmts_of.stmt_low
entries_low (stmt_named x at) = stmts_of.named_low x at
entries_low (target_of done low) = stmts_of.target_low done low
entries_low (else_of e ss low at) = (λ p. omega arith, tt)
entries_low some_stmts = (λ p. omega arith, tt)
entries_low (more_stmts done low) = stmts_of.more_stmts_low done low
entries_low a_body = (λ p. omega arith, tt)
entries_low (more_body done low) = stmts_of.more_body_low done low
entries_low (a_chain n) = comps.chain_low n
entries_low (links_of n left low) = comps.links_low n left low
entries_low (behind_repeat at) = comps.repeat_low at
entries_low a_block = comps.block_low
entries_low (more_members done low) = comps.member_low done low
entries_low (behind_semicolon done low) = comps.stopped_low done low
entries_low a_decl = decls.decl_low
entries_low a_result = (λ p. omega arith, tt)
entries_low (more_decls done low) = decls.decls_low done low
entries_low (behind_main left c h) = decls.main_low left c h
entries_low (behind_pipe left c h at) = decls.pipe_low left c h at

pub empty_read : (part : Part) (ts : List Token) → may_be_empty part ≡ true → IsPart part (lowest_tree part) (lowest part) ts ts
empty_read a_type_part ts is = absurd (cc is)
empty_read a_field ts is = absurd (cc is)
empty_read (more_fields kind done) ts is = absurd (cc is)
empty_read some_params ts is = absurd (cc is)
empty_read (a_binary n) ts is = absurd (cc is)
empty_read (operands_of n left low) ts is = no_operand
empty_read (posts_of of low) ts is = no_post
empty_read (behind_parenthesis at) ts is = absurd (cc is)
empty_read (behind_name x at) ts is = variable
empty_read some_args ts is = absurd (cc is)
empty_read (more_exprs kind done low) ts is = absurd (cc is)
empty_read a_var ts is = absurd (cc is)
empty_read (initial_of f at) ts is = no_initial
empty_read some_bounds ts is = absurd (cc is)
empty_read a_stmt ts is = absurd (cc is)
empty_read (stmt_named x at) ts is = absurd (cc is)
empty_read (target_of done low) ts is = absurd (cc is)
empty_read (else_of e ss low at) ts is = no_else
empty_read some_stmts ts is = absurd (cc is)
empty_read (more_stmts done low) ts is = absurd (cc is)
empty_read a_body ts is = absurd (cc is)
empty_read (more_body done low) ts is = absurd (cc is)
empty_read (a_chain n) ts is = absurd (cc is)
empty_read (links_of n left low) ts is = no_link
empty_read (behind_repeat at) ts is = absurd (cc is)
empty_read a_block ts is = absurd (cc is)
empty_read (more_members done low) ts is = absurd (cc is)
empty_read (behind_semicolon done low) ts is = absurd (cc is)
empty_read a_decl ts is = absurd (cc is)
empty_read a_result ts is = (refl, no_result)
empty_read (more_decls done low) ts is = no_decl
empty_read (behind_main left c h) ts is = absurd (cc is)
empty_read (behind_pipe left c h at) ts is = absurd (cc is)

opens : {part : Part} {a : Tree part} {h : ℕ} {ts rest : List Token} → OpensBy (entries part) a h ts rest → Opens part a h ts rest
opens x = decls.opens_of x

pub opens_part : (part : Part) (a : Tree part) (h : ℕ) (ts rest : List Token) → IsPart part a h ts rest → Opens part a h ts rest
opens_part a_type_part a h ts rest y = opens (types.type_opens a h ts rest y)
opens_part a_field a h ts rest y = opens (types.field_opens a h ts rest y)
opens_part (more_fields kind done) a h ts rest y = opens (types.more_fields_opens kind done a h ts rest y)
opens_part some_params a h ts rest y = opens (types.params_opens a h ts rest y)
opens_part (a_binary n) a h ts rest y = opens (exprs.binary_opens n a h ts rest y)
opens_part (operands_of n left low) a h ts rest y = exprs.operands_opens n left low a h ts rest y
opens_part (posts_of of low) a h ts rest y = exprs.posts_opens of low a h ts rest y
opens_part (behind_parenthesis at) a h ts rest y = opens (exprs.parenthesis_opens at a h ts rest y)
opens_part (behind_name x at) a h ts rest y = exprs.name_opens x at a h ts rest y
opens_part some_args a h ts rest y = opens (exprs.args_opens a h ts rest y)
opens_part (more_exprs kind done low) a h ts rest y = opens (exprs.more_exprs_opens kind done low a h ts rest y)
opens_part a_var a h ts rest y = opens (stmts_of.var_opens a h ts rest y)
opens_part (initial_of f at) a h ts rest y = stmts_of.initial_opens f at a h ts rest y
opens_part some_bounds a h ts rest y = opens (stmts_of.bounds_opens a h ts rest y)
opens_part a_stmt a h ts rest y = opens (stmts_of.stmt_opens a h ts rest y)
opens_part (stmt_named x at) a h ts rest y = opens (stmts_of.named_opens x at a h ts rest y)
opens_part (target_of done low) a h ts rest y = opens (stmts_of.target_opens done low a h ts rest y)
opens_part (else_of e ss low at) a h ts rest y = stmts_of.else_opens e ss low at a h ts rest y
opens_part some_stmts a h ts rest y = opens (stmts_of.stmts_opens a h ts rest y)
opens_part (more_stmts done low) a h ts rest y = opens (stmts_of.more_stmts_opens done low a h ts rest y)
opens_part a_body a h ts rest y = opens (stmts_of.body_opens a h ts rest y)
opens_part (more_body done low) a h ts rest y = opens (stmts_of.more_body_opens done low a h ts rest y)
opens_part (a_chain n) a h ts rest y = opens (comps.chain_opens n a h ts rest y)
opens_part (links_of n left low) a h ts rest y = comps.links_opens n left low a h ts rest y
opens_part (behind_repeat at) a h ts rest y = opens (comps.repeat_opens at a h ts rest y)
opens_part a_block a h ts rest y = opens (comps.block_opens a h ts rest y)
opens_part (more_members done low) a h ts rest y = opens (comps.member_opens done low a h ts rest y)
opens_part (behind_semicolon done low) a h ts rest y = opens (comps.stopped_opens done low a h ts rest y)
opens_part a_decl a h ts rest y = opens (decls.decl_opens a h ts rest y)
opens_part a_result a h ts rest y = decls.result_opens a h ts rest y.0 y.1
opens_part (more_decls done low) a h ts rest y = decls.decls_opens done low a h ts rest y
opens_part (behind_main left c k) a h ts rest y = opens (decls.main_opens left c k a h ts rest y)
opens_part (behind_pipe left c k at) a h ts rest y = opens (decls.pipe_opens left c k at a h ts rest y)

-- `(` and `)`
unit_read : (n : ℕ) (rest : List Token)
    → IsBinary n (expr.Unit somewhere) 1 (sign symbol.LeftParenthesis somewhere ∷ sign symbol.RightParenthesis somewhere ∷ rest) rest
unit_read zero rest = unary (primary unit_value no_post)
unit_read (suc n) rest = operands (unit_read n rest) no_operand

take_read : (n : ℕ) (rest : List Token) → IsChain n (comp.Take somewhere) 1 (word keyword.Take somewhere ∷ rest) rest
take_read zero rest = atom take_atom
take_read (suc n) rest = links (take_read n rest) no_link

main_lowest_at : (left : Left) (c : Comp) (h : ℕ) (at : Place) (rest : List Token)
    → IsBehindMain left c h (joined left c, plain_type base.Bit somewhere) (joined_height left h)
    (sign symbol.Pipe at ∷ word keyword.Write somewhere ∷ sign symbol.LeftBracket somewhere ∷ word keyword.Bit somewhere
    ∷ sign symbol.RightBracket somewhere ∷ rest) rest
main_lowest_at left c h at rest = record {
  right = c;
  low = h;
  mid = sign symbol.Pipe at ∷ word keyword.Write somewhere ∷ sign symbol.LeftBracket somewhere ∷ word keyword.Bit somewhere
      ∷ sign symbol.RightBracket somewhere ∷ rest;
  ws = word keyword.Bit somewhere ∷ sign symbol.RightBracket somewhere ∷ rest;
  last = at;
  here = somewhere;
  opens = somewhere;
  closes = somewhere;
  serial = no_link;
  parallel = no_link;
  type = type_word {w = keyword.Bit} refl;
}

pub lowest_read : (part : Part) (rest : List Token) → (ts : List Token) × IsPart part (lowest_tree part) (lowest part) ts rest
lowest_read a_type_part rest = (_, (refl, type_word {w = keyword.Bit} refl))
lowest_read a_field rest = (_, (refl, typed_name {colon = somewhere} (type_word {w = keyword.Bit} refl)))
lowest_read (more_fields kind done) rest = (sign (closing_of kind) somewhere ∷ rest, (refl, last_field))
lowest_read some_params rest = (sign symbol.RightParenthesis somewhere ∷ rest, (refl, no_params))
lowest_read (a_binary n) rest = (_, unit_read n rest)
lowest_read (operands_of n left low) rest = (rest, no_operand)
lowest_read (posts_of of low) rest = (rest, no_post)
lowest_read (behind_parenthesis at) rest = (sign symbol.RightParenthesis somewhere ∷ rest, unit_value)
lowest_read (behind_name x at) rest = (rest, variable)
lowest_read some_args rest = (sign symbol.RightParenthesis somewhere ∷ rest, no_args)
lowest_read (more_exprs kind done low) rest = (sign (closing_of kind) somewhere ∷ rest, last_expr)
lowest_read a_var rest = (_, var_alone (typed_name {colon = somewhere} (type_word {w = keyword.Bit} refl)))
lowest_read (initial_of f at) rest = (rest, no_initial)
lowest_read some_bounds rest = (
  _,
  bounds {within = somewhere} {opens = somewhere} {comma = somewhere} {closes = somewhere} (unit_read ranks _)
      (unit_read ranks _),
)
lowest_read a_stmt rest = (word keyword.Error somewhere ∷ text [] somewhere ∷ rest, errors)
lowest_read (stmt_named x at) rest = (sign symbol.LeftParenthesis somewhere ∷ sign symbol.RightParenthesis somewhere ∷ rest, calls no_args)
lowest_read (target_of done low) rest = (sign symbol.Assign somewhere ∷ rest, target)
lowest_read (else_of e ss low at) rest = (rest, no_else)
lowest_read some_stmts rest = (sign symbol.LeftBrace somewhere ∷ sign symbol.RightBrace somewhere ∷ rest, stmts no_stmt)
lowest_read (more_stmts done low) rest = (sign symbol.RightBrace somewhere ∷ rest, no_stmt)
lowest_read a_body rest = (sign symbol.LeftBrace somewhere ∷ sign symbol.RightBrace somewhere ∷ rest, body no_more)
lowest_read (more_body done low) rest = (sign symbol.RightBrace somewhere ∷ rest, no_more)
lowest_read (a_chain n) rest = (_, take_read n rest)
lowest_read (links_of n left low) rest = (rest, no_link)
lowest_read (behind_repeat at) rest = (word keyword.Take somewhere ∷ rest, repeat_atom take_atom)
lowest_read a_block rest = (_, block (last_member {closes = somewhere} (take_read 2 _)))
lowest_read (more_members done low) rest = (_, last_member {closes = somewhere} (take_read 2 _))
lowest_read (behind_semicolon done low) rest = (sign symbol.RightBrace somewhere ∷ rest, stopped)
lowest_read a_decl rest = (
  _,
  declares_struct {equal = somewhere} {opens = somewhere} (typed_name {colon = somewhere}
      (type_word {w = keyword.Bit} refl)) (last_field {at = somewhere}),
)
lowest_read a_result rest = (rest, (refl, no_result))
lowest_read (more_decls done low) rest = (rest, no_decl)
lowest_read (behind_main left c h) rest = (_, main_lowest_at left c h somewhere rest)
lowest_read (behind_pipe left c h at) rest = (_, main_lowest_at left c h at rest)

pub start_low : least start ≤ 1
start_low = omega arith
