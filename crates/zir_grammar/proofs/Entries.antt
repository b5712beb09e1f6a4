-- What is proved of the table, part by part.
use Rattle.std.proofs.Common.{◌≡◌, ◌≤◌, ℕ, true, List, ◌∷◌, Some}
use Rattle.zir_lex.specs.declared.token.Token.{Token}
use Rattle.zir_grammar.specs.Wants.{Payload, Fits, token_of}
use Rattle.zir_grammar.specs.Parts.{Part, Tree, Rest, Entry, entries, may_be_empty}
use Rattle.zir_grammar.specs.Machine.{lowest_tree, lowest, least, found}
use Rattle.zir_grammar.proofs.Meaning.{IsPart, Reads}
use Rattle.zir_grammar.proofs.Sound.{follows, Sound}

-- what is expected behind the first token makes the part
abbrev pub EntryReads : (part : Part) → Entry (Tree part) → Type 0
EntryReads part e =
    (p : Payload e.want) → Fits e.want p → (a : Tree part) (h : ℕ) (ts rest : List Token) → Reads (e.next p) a h ts rest
    → IsPart part a h (token_of e.want p ∷ ts) rest

-- what is expected behind the first token is in step with the grammar
abbrev pub EntrySound : (part : Part) → Entry (Tree part) → Type 0
EntrySound part e = (p : Payload e.want) → Sound (follows part) (e.next p)

-- the first token is one that is never taken behind the part
abbrev pub EntryFollows : (part : Part) → Entry (Tree part) → Type 0
EntryFollows part e = (p : Payload e.want) → Fits e.want p → follows part (token_of e.want p) ≡ true

-- what is expected behind the first token is no lower than the part may be
abbrev pub EntryLow : (part : Part) → Entry (Tree part) → Type 0
EntryLow part e = (p : Payload e.want) → lowest part ≤ least (e.next p)

-- how a part stands there: it takes a first token, or it is empty
pub data Opens (part : Part) : Tree part → ℕ → List Token → List Token → Type 0 where
  opened : {a : Tree part} {h : ℕ} {ts rest : List Token} (t : Token) (r : Rest (Tree part)) → found (entries part) t ≡ Some r → Reads r a h ts rest
      → Opens part a h (t ∷ ts) rest
  passed : {ts : List Token} → may_be_empty part ≡ true → Opens part (lowest_tree part) (lowest part) ts ts
