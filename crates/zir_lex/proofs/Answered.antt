-- What the one reading of a text says of an answer.
use Rattle.std.proofs.Common.{◌≡◌, ◌≢◌, ℕ, ◌⊎◌, inl, inr, List, Result, Ok, Err, IfOk, IfErr, MatchResult, ap, refl}
use Rattle.zir_lex.specs.Tokens.{Lexes, BadByteAt, BadNumberAt, IsRefusal}
use Rattle.zir_lex.specs.declared.lexer.LexError.{LexError}
use Rattle.zir_lex.specs.declared.lexer.LexError.TheVariants as errors
use Rattle.zir_lex.specs.declared.token.Token.{Token}
use Rattle.zir_lex.proofs.Unique.{one_list, no_bad_byte, no_bad_number, one_bad_byte, one_bad_number, one_fault}

-- an answer whose tokens lex the text and whose refusal has its cause, in a text that is short enough
pub record IsAnswer {V : Type 0} (items : V → List Token) (result : Result V LexError) (text : List ℕ) : Type 0 where
  pub ok : IfOk result (λ found. Lexes text (items found))
  pub refused : IfErr result (λ error. IsRefusal error text × (error ≢ errors.TooLong))

pub only : {V : Type 0} (items : V → List Token) (result : Result V LexError) (text : List ℕ) → IsAnswer items result text → (tokens : List Token) → Lexes text tokens → MatchResult result (λ found. items found ≡ tokens) (λ error. error ≡ errors.Memory)
only items (Ok found) text answer tokens lexes = one_list text (items found) tokens answer.ok lexes
only items (Err errors.TooLong) text answer tokens lexes = absurd (answer.refused.1 refl)
only items (Err (errors.BadByte at)) text answer tokens lexes = absurd (no_bad_byte text tokens at lexes answer.refused.0.1)
only items (Err (errors.BadNumber at)) text answer tokens lexes = absurd (no_bad_number text tokens at lexes answer.refused.0.1)
only items (Err errors.Memory) text answer tokens lexes = refl

pub only_bad_byte : {V : Type 0} (items : V → List Token) (result : Result V LexError) (text : List ℕ) → IsAnswer items result text → (at : ℕ) → BadByteAt text at → MatchResult result (λ _. ⊥) (λ error. (error ≡ errors.BadByte at) ⊎ (error ≡ errors.Memory))
only_bad_byte items (Ok found) text answer at bad = no_bad_byte text (items found) at answer.ok bad
only_bad_byte items (Err errors.TooLong) text answer at bad = absurd (answer.refused.1 refl)
only_bad_byte items (Err (errors.BadByte there)) text answer at bad = inl (ap errors.BadByte (one_bad_byte text there at answer.refused.0.1 bad))
only_bad_byte items (Err (errors.BadNumber there)) text answer at bad = absurd (one_fault text at there bad answer.refused.0.1)
only_bad_byte items (Err errors.Memory) text answer at bad = inr refl

pub only_bad_number : {V : Type 0} (items : V → List Token) (result : Result V LexError) (text : List ℕ) → IsAnswer items result text → (at : ℕ) → BadNumberAt text at → MatchResult result (λ _. ⊥) (λ error. (error ≡ errors.BadNumber at) ⊎ (error ≡ errors.Memory))
only_bad_number items (Ok found) text answer at bad = no_bad_number text (items found) at answer.ok bad
only_bad_number items (Err errors.TooLong) text answer at bad = absurd (answer.refused.1 refl)
only_bad_number items (Err (errors.BadByte there)) text answer at bad = absurd (one_fault text there at answer.refused.0.1 bad)
only_bad_number items (Err (errors.BadNumber there)) text answer at bad = inl (ap errors.BadNumber (one_bad_number text there at answer.refused.0.1 bad))
only_bad_number items (Err errors.Memory) text answer at bad = inr refl
