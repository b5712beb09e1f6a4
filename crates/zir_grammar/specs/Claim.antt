-- What a parser answers, by the grammar alone.
use Rattle.std.specs.Prelude.{◌≡◌, ℕ, ◌≤◌, List, [], ◌∷◌, ◌++◌, length, Result, Ok, Err}
use Rattle.zir_lex.specs.declared.token.Token.{Token}
use Rattle.zir_tree.specs.declared.program.Prog.{Prog}
use Rattle.zir_grammar.specs.declared.error.ParseError.{ParseError}
use Rattle.zir_grammar.specs.declared.error.ParseError.TheVariants.{Syntax, TooDeep, Memory}
use Rattle.zir_grammar.specs.Grammar.{IsProg}

-- the tokens are this program, and its height is not above the limit
pub record IsLowProg (most : ℕ) (tokens : List Token) (p : Prog) : Type 0 where
  pub height : ℕ
  pub low : height ≤ most
  pub is : IsProg tokens p height

-- the tokens of some program begin with these
pub record Begins (front : List Token) : Type 0 where
  pub more : List Token
  pub program : Prog
  pub height : ℕ
  pub is : IsProg (front ++ more) program height

-- the tokens of some program that is not too high begin with these
pub record BeginsLow (most : ℕ) (front : List Token) : Type 0 where
  pub more : List Token
  pub program : Prog
  pub is : IsLowProg most (front ++ more) program

-- no program goes on so: none begins so up to the next token, or none is all of the tokens
abbrev pub NoneGoesOn : List Token → List Token → Type 0
NoneGoesOn front [] = (p : Prog) (h : ℕ) → IsProg front p h → ⊥
NoneGoesOn front (bad ∷ back) = Begins (front ++ bad ∷ []) → ⊥

-- programs go on so up to the next token, but each of them is too high
abbrev pub OnlyHighGoOn : ℕ → List Token → List Token → Type 0
OnlyHighGoOn most front [] = ⊥
OnlyHighGoOn most front (deep ∷ back) = Begins (front ++ deep ∷ []) × (BeginsLow most (front ++ deep ∷ []) → ⊥)

-- the first tokens, of this number, begin a program that is not too high, and what comes then is wrong so
pub record FirstAt (most : ℕ) (Wrong : List Token → List Token → Type 0) (tokens : List Token) (place : ℕ) : Type 0 where
  pub front : List Token
  pub back : List Token
  pub split : tokens ≡ front ++ back
  pub count : length front ≡ place
  pub begins : BeginsLow most front
  pub wrong : Wrong front back

-- what is answered to tokens; want of memory may come at any time
abbrev pub Answers : ℕ → List Token → Result Prog ParseError → Type 0
Answers most tokens (Ok p) = IsLowProg most tokens p
Answers most tokens (Err (Syntax place)) = FirstAt most NoneGoesOn tokens place
Answers most tokens (Err (TooDeep place)) = FirstAt most (OnlyHighGoOn most) tokens place
Answers most tokens (Err Memory) = Unit {0}

-- memory did not run out
abbrev pub IsTold : Result Prog ParseError → Type 0
IsTold (Err Memory) = ⊥
IsTold other = Unit {0}

-- tokens are one program at most, whatever its height
abbrev pub HasOneProgram : Type 0
HasOneProgram = (tokens : List Token) (p q : Prog) (a b : ℕ) → IsProg tokens p a → IsProg tokens q b → p ≡ q

-- there is one answer to tokens, want of memory apart, whatever the limit of heights
abbrev pub HasOneAnswer : Type 0
HasOneAnswer = (most : ℕ) (tokens : List Token) (a b : Result Prog ParseError) → IsTold a → IsTold b → Answers most tokens a → Answers most tokens b → a ≡ b
