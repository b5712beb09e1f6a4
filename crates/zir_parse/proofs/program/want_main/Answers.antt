use Rattle.std.proofs.Common.{◌≡◌, ◌∙◌, true, false, ap, sym, rules}
use Rattle.std.specs.Str.{bytes_eq}
use Rattle.zir_grammar.specs.Grammar.{main_bytes}
use Rattle.zir_grammar.specs.Wants.{the_main}
use Rattle.zir_grammar.proofs.Descent.{wanted, unwanted}
use Rattle.zir_parse.proofs.ProgramSteps.{main_stands, main_differs, no_main}
use Rattle.zir_parse.proofs.program.want_main.Goals as goal

pub returns-in_default : goal.returns-in_default
returns-in_default c most r low = unwanted most the_main (λ at. r) c.args.tokens.now (no_main c.args.tokens.now c.in_default.ensures.found)

pub returns-then-eq : goal.returns-then-eq
returns-then-eq c most r low =
    let word : c.as_slice-2.result.now ≡ main_bytes = search rules in
    let same : bytes_eq c.in-Some.found.now main_bytes ≡ true =
    ap (λ l. bytes_eq l main_bytes) (sym c.as_slice.ensures) ∙ ap (bytes_eq c.as_slice.result.now) (sym word) ∙ sym c.eq.ensures
    ∙ c.if-eq.true in
    wanted most the_main (λ at. r) c.args.tokens.now _ c.in-Some.rest.now (main_stands c.args.tokens.now _ _ c.in-Some.rest.now c.in-Some.ensures.found same) low

pub returns-else-eq : goal.returns-else-eq
returns-else-eq c most r low =
    let word : c.as_slice-2.result.now ≡ main_bytes = search rules in
    let other : bytes_eq c.in-Some.found.now main_bytes ≡ false =
    ap (λ l. bytes_eq l main_bytes) (sym c.as_slice.ensures) ∙ ap (bytes_eq c.as_slice.result.now) (sym word) ∙ sym c.eq.ensures
    ∙ c.if-eq.false in
    unwanted most the_main (λ at. r) c.args.tokens.now (main_differs c.args.tokens.now _ _ c.in-Some.rest.now c.in-Some.ensures.found other)
