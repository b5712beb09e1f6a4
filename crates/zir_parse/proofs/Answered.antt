-- What is answered to the whole of the tokens.
use Rattle.std.proofs.Common.{◌≡◌, ◌≤◌, ◌+◌, ◌-◌, ℕ, List, length, Ok, Err, ap, ◌∙◌, subst, arith, length-append}
use Rattle.zir_lex.specs.declared.token.Token.{Token}
use Rattle.zir_tree.specs.declared.program.Prog.{Prog}
use Rattle.zir_grammar.specs.declared.error.ParseError.TheVariants.{Syntax, TooDeep}
use Rattle.zir_grammar.specs.Claim.{IsLowProg, NoneGoesOn, OnlyHighGoOn, FirstAt}
use Rattle.zir_grammar.specs.Parts.{start}
use Rattle.zir_grammar.specs.Machine.{run}
use Rattle.zir_grammar.proofs.Law.{FirstLeft, AnswersLeft, start_answers}

few_left : (most : ℕ) (Wrong : List Token → List Token → Type 0) (tokens : List Token) (left : ℕ) → FirstLeft most Wrong tokens left → left ≤ length tokens
few_left most Wrong tokens left x =
    let whole : length tokens ≡ length x.front + length x.back = ap length x.split ∙ length-append x.front x.back in omega (arith, whole, x.count)

counted : (most : ℕ) (Wrong : List Token → List Token → Type 0) (tokens : List Token) (left : ℕ) → FirstLeft most Wrong tokens left
    → FirstAt most Wrong tokens (length tokens - left)
counted most Wrong tokens left x =
    let whole : length tokens ≡ length x.front + length x.back = ap length x.split ∙ length-append x.front x.back in
    record { front = x.front; back = x.back; split = x.split; count = omega (arith, whole, x.count); begins = x.begins; wrong = x.wrong }

pub program_answer : (tokens : List Token) (p : Prog) → run 64 start tokens ≡ Ok p → IsLowProg 64 tokens p
program_answer tokens p is = subst (AnswersLeft 64 tokens) is (start_answers 64 tokens (omega arith))

syntax_left : (tokens : List Token) (left : ℕ) → run 64 start tokens ≡ Err (Syntax left) → FirstLeft 64 NoneGoesOn tokens left
syntax_left tokens left is = subst (AnswersLeft 64 tokens) is (start_answers 64 tokens (omega arith))

deep_left : (tokens : List Token) (left : ℕ) → run 64 start tokens ≡ Err (TooDeep left) → FirstLeft 64 (OnlyHighGoOn 64) tokens left
deep_left tokens left is = subst (AnswersLeft 64 tokens) is (start_answers 64 tokens (omega arith))

pub syntax_few : (tokens : List Token) (left : ℕ) → run 64 start tokens ≡ Err (Syntax left) → left ≤ length tokens
syntax_few tokens left is = few_left 64 NoneGoesOn tokens left (syntax_left tokens left is)

pub deep_few : (tokens : List Token) (left : ℕ) → run 64 start tokens ≡ Err (TooDeep left) → left ≤ length tokens
deep_few tokens left is = few_left 64 (OnlyHighGoOn 64) tokens left (deep_left tokens left is)

pub syntax_answer : (tokens : List Token) (left : ℕ) → run 64 start tokens ≡ Err (Syntax left) → FirstAt 64 NoneGoesOn tokens (length tokens - left)
syntax_answer tokens left is = counted 64 NoneGoesOn tokens left (syntax_left tokens left is)

pub deep_answer : (tokens : List Token) (left : ℕ) → run 64 start tokens ≡ Err (TooDeep left) → FirstAt 64 (OnlyHighGoOn 64) tokens (length tokens - left)
deep_answer tokens left is = counted 64 (OnlyHighGoOn 64) tokens left (deep_left tokens left is)
