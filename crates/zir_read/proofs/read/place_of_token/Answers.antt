use Rattle.std.proofs.Common.{sym, ap, ◌∙◌, arith}
use Rattle.zir_lex.specs.declared.token.Token.{Token}
use Rattle.zir_read.proofs.Places.{place_of_token, place_behind}
use Rattle.zir_read.proofs.read.place_of_token.Goals as goal

pub returns-then-number-tokens : goal.returns-then-number-tokens
returns-then-number-tokens c =
    sym (place_of_token c.args.tokens.now c.args.end c.args.number c.index-tokens-number.result (omega arith) c.index-tokens-number.is
    ∙ ap (λ (t : Token). t.at) c.index-tokens-number.is)

pub returns-else-number-tokens : goal.returns-else-number-tokens
returns-else-number-tokens c = sym (place_behind c.args.tokens.now c.args.end c.args.number (omega arith))
