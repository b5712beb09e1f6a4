-- A text has one verdict.
use Rattle.std.proofs.Common.{◌≡◌, ◌≤◌, ◌<◌, ℕ, List, Result, Ok, Err, length, ap, sym, ◌∙◌, subst, refl, arith}
use Rattle.zir_tree.specs.declared.place.Place.{Place}
use Rattle.zir_tree.specs.declared.program.Prog.{Prog}
use Rattle.zir_tree.specs.declared.refusal.Refusal.{Refusal}
use Rattle.zir_lex.specs.declared.token.Token.{Token}
use Rattle.zir_lex.specs.declared.lexer.LexError.{LexError}
use Rattle.zir_lex.specs.declared.lexer.LexError.TheVariants as lex
use Rattle.zir_lex.specs.Tokens.{Lexes, EndsAt, IsRefusal, BadByteAt, BadNumberAt}
use Rattle.zir_lex.specs.Laws.{HasOneList, HasOneEnd, HasNoFault, HasOneFault}
use Rattle.zir_grammar.specs.declared.error.ParseError.{ParseError}
use Rattle.zir_grammar.specs.declared.error.ParseError.TheVariants as parse
use Rattle.zir_grammar.specs.Claim.{Answers, HasOneAnswer, IsTold as IsAnswered}
use Rattle.zir_read.specs.Reading.{lex_refusal, verdict_of, IsParsed, IsUnlexed, IsReadAs, parsed, unlexed, IsTold, HasOneVerdict}

-- where memory did not run out for the verdict, it did not for the parser
answered : (ts : List Token) (end : Place) (answer : Result Prog ParseError) → IsTold (verdict_of ts end answer) → IsAnswered answer
answered ts end (Ok p) told = tt
answered ts end (Err (parse.Syntax k)) told = tt
answered ts end (Err (parse.TooDeep k)) told = tt
answered ts end (Err parse.Memory) told = absurd told

-- two verdicts on a text with tokens
both_parsed : HasOneList → HasOneEnd → HasOneAnswer → (text : List ℕ) (a b : Result Prog Refusal) → IsTold a → IsTold b → IsParsed text a → IsParsed text b → a ≡ b
both_parsed lists ends answers text a b told_a told_b p q =
    let ts : p.tokens ≡ q.tokens = lists text p.tokens q.tokens p.lexes q.lexes in
    let end : p.end ≡ q.end = ends text p.end q.end p.ends q.ends in
    let here : Answers 64 q.tokens p.answer = subst (λ l. Answers 64 l p.answer) ts p.answers in
    let same : p.answer ≡ q.answer = answers 64 q.tokens p.answer q.answer (answered p.tokens p.end p.answer (subst IsTold p.is told_a)) (answered q.tokens q.end q.answer (subst IsTold q.is told_b)) here q.answers in
    p.is ∙ (λ i. verdict_of (ts i) (end i) (same i)) ∙ sym q.is

-- a text with tokens has no fault
never : HasNoFault → (text : List ℕ) (ts : List Token) (error : LexError) → length text ≤ 65536 → Lexes text ts → IsTold (Err (lex_refusal text error)) → IsRefusal error text → ⊥
never faults text ts lex.TooLong short lexes told why = omega arith
never faults text ts (lex.BadByte at) short lexes told why = (faults text ts at lexes).0 why.1
never faults text ts (lex.BadNumber at) short lexes told why = (faults text ts at lexes).1 why.1
never faults text ts lex.Memory short lexes told why = told

-- two faults of a text are one
one_fault : HasOneFault → (text : List ℕ) (e f : LexError) → IsTold (Err (lex_refusal text e)) → IsTold (Err (lex_refusal text f)) → IsRefusal e text → IsRefusal f text → e ≡ f
one_fault faults text lex.Memory f told_e told_f why other = absurd told_e
one_fault faults text e lex.Memory told_e told_f why other = absurd told_f
one_fault faults text lex.TooLong lex.TooLong told_e told_f why other = refl
one_fault faults text lex.TooLong (lex.BadByte n) told_e told_f why other = absurd (omega (arith, other.0))
one_fault faults text lex.TooLong (lex.BadNumber n) told_e told_f why other = absurd (omega (arith, other.0))
one_fault faults text (lex.BadByte m) lex.TooLong told_e told_f why other = absurd (omega (arith, why.0))
one_fault faults text (lex.BadByte m) (lex.BadByte n) told_e told_f why other = ap lex.BadByte ((faults text m n).0 why.1 other.1)
one_fault faults text (lex.BadByte m) (lex.BadNumber n) told_e told_f why other = absurd ((faults text m n).2 why.1 other.1)
one_fault faults text (lex.BadNumber m) lex.TooLong told_e told_f why other = absurd (omega (arith, why.0))
one_fault faults text (lex.BadNumber m) (lex.BadByte n) told_e told_f why other = absurd ((faults text n m).2 other.1 why.1)
one_fault faults text (lex.BadNumber m) (lex.BadNumber n) told_e told_f why other = ap lex.BadNumber ((faults text m n).1 why.1 other.1)

pub one : HasOneList → HasOneEnd → HasNoFault → HasOneFault → HasOneAnswer → HasOneVerdict
one lists ends none faults answers text a b told_a told_b (parsed p) (parsed q) = both_parsed lists ends answers text a b told_a told_b p q
one lists ends none faults answers text a b told_a told_b (parsed p) (unlexed q) = absurd (never none text p.tokens q.error p.short p.lexes (subst IsTold q.is told_b) q.refuses)
one lists ends none faults answers text a b told_a told_b (unlexed p) (parsed q) = absurd (never none text q.tokens p.error q.short q.lexes (subst IsTold p.is told_a) p.refuses)
one lists ends none faults answers text a b told_a told_b (unlexed p) (unlexed q) =
    p.is ∙ ap (λ e. Err (lex_refusal text e)) (one_fault faults text p.error q.error (subst IsTold p.is told_a) (subst IsTold q.is told_b) p.refuses q.refuses) ∙ sym q.is
