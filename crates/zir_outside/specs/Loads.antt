-- What the load of a text answers.
use Rattle.std.specs.Prelude.{ℕ, ◌≡◌, ◌<◌, ◌≤◌, ⊤, List, length, Option, Some, None, Result, Ok, Err}
use Rattle.zir_outside.specs.declared.LoadError.{LoadError}
use Rattle.zir_outside.specs.declared.LoadError.TheVariants.{Failed, TooLong, Memory}

-- the texts by their names, where a shelf tells them
abbrev pub Texts : Type 0
Texts = Option (List ℕ → Option (List ℕ))

-- what the load of a name answers, by the text that the name has
abbrev pub LoadsText : {T : Type 0} → Option (List ℕ) → List ℕ → Result T LoadError → Type 0
LoadsText None into result = result ≡ Err Failed
LoadsText (Some text) into (Ok u) = (into ≡ text) × (length text ≤ 65536)
LoadsText (Some text) into (Err Failed) = ⊤
LoadsText (Some text) into (Err TooLong) = 65536 < length text
LoadsText (Some text) into (Err Memory) = length text ≤ 65536

-- what the load of a name answers, where the texts are told
abbrev pub Loads : {T : Type 0} → Texts → List ℕ → List ℕ → Result T LoadError → Type 0
Loads None name into result = ⊤
Loads (Some texts) name into result = LoadsText (texts name) into result

-- the texts are told, and none has this name
abbrev pub IsAbsent : Texts → List ℕ → Type 0
IsAbsent None name = ⊥
IsAbsent (Some texts) name = texts name ≡ None
