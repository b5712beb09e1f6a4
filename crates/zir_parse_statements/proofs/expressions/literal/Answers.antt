use Rattle.std.proofs.Common.{◌≡◌, ◌<◌, ◌^◌, ℕ, List, Some, sym, subst, arith}
use Rattle.std.proofs.lemmas.Int.{to_z_pos}
use mir.Syntax.{w128}
use mir.Val.{to_z}
use Rattle.zir_tree.specs.declared.place.Place.{Place}
use Rattle.zir_tree.specs.declared.types.Base.TheVariants as base
use Rattle.zir_tree.specs.declared.expr.Expr as expr
use Rattle.zir_lex.specs.declared.token.Token.{Token}
use Rattle.zir_grammar.specs.Wants.{a_number}
use Rattle.zir_grammar.specs.Reading.{at_front}
use Rattle.zir_parse_statements.specs.Parsers.{IsLiteral, a_number_first, a_bit_first, true_first, false_first}
use Rattle.zir_parse_statements.proofs.expressions.literal.Goals as goal

-- a number of 64 bits fits the wider type
number_first : (n : ℕ) (at : Place) (ts rest : List Token) → n < 2 ^ 64 → at_front a_number ts ≡ Some ((n, at), rest)
    → IsLiteral (expr.Int (to_z w128 n) base.Unit at) ts rest
number_first n at ts rest below is = subst (λ z. IsLiteral (expr.Int z base.Unit at) ts rest) (sym (to_z_pos w128 n (omega (arith, below)))) (a_number_first is)

pub returns-in-Some-clause-found : goal.returns-in-Some-clause-found
returns-in-Some-clause-found c =
    number_first c.in-Some.value c.in-Some.at c.args.tokens.now c.in-Some.rest.now (omega arith) c.in-Some.ensures.found

pub returns-in-Some-bit-clause-found : goal.returns-in-Some-bit-clause-found
returns-in-Some-bit-clause-found c = a_bit_first c.in-Some-bit.ensures.found

pub returns-in-Some-keyword-clause-found : goal.returns-in-Some-keyword-clause-found
returns-in-Some-keyword-clause-found c = true_first c.in-Some-keyword.ensures.found

pub returns-in-Some-keyword-2-clause-found : goal.returns-in-Some-keyword-2-clause-found
returns-in-Some-keyword-2-clause-found c = false_first c.in-Some-keyword-2.ensures.found
