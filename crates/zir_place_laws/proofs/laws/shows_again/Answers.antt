use Rattle.std.proofs.Common.{ℕ, List, subst}
use Rattle.zir_tree.specs.declared.program.Prog.{Prog}
use Rattle.zir_lex.specs.Tokens.{Lexes}
use Rattle.zir_lex.specs.declared.token.Token.{Token}
use Rattle.zir_lex.proofs.Unique.{one_list}
use Rattle.zir_grammar.specs.Grammar.{IsProg}
use Rattle.zir_grammar.specs.Claim.{IsLowProg}
use Rattle.zir_grammar.proofs.Law.{one_program}
use Rattle.zir_print.specs.Canonical.{canonical}
use Rattle.zir_print.specs.Text.{canonical_text}
use Rattle.zir_print.proofs.ProgLaw.{canonical_low}
use Rattle.zir_text_laws.proofs.Texts.{text_read}
use Rattle.zir_place_laws.specs.Laws.{ReadsAgain}
use Rattle.zir_place_laws.proofs.Rebuilt.{prog_moved}
use Rattle.zir_place_laws.proofs.Words.{text_same}
use Rattle.zir_place_laws.proofs.laws.shows_again.Goals as goal

reads_again : (most : ℕ) (text : List ℕ) (tokens : List Token) (p : Prog) → Lexes text tokens → IsLowProg most tokens p → ReadsAgain most p
reads_again most text tokens p lexed low =
    let found = text_read most text tokens p lexed low in
    let back = canonical_low low in
    let q = prog_moved (canonical p) found.0 p back.height found.2 back.is in
    record {
      again = found.0;
      program = q.0;
      lexed = found.1;
      is = record { height = back.height; low = back.low; is = q.1 };
      same = q.2;
      text = text_same p q.0 q.2;
      only = λ others other h read is.
          one_program found.0 other q.0 h back.height (subst (λ l. IsProg l other h) (one_list (canonical_text p) others found.0 read found.1) is) q.1;
    }

pub returns : goal.returns
returns c = λ most text tokens p lexed low. reads_again most text tokens p lexed low
