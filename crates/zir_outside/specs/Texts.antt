-- The texts of a shelf in memory.
use Rattle.std.specs.Prelude.{ℕ, ◌-◌, ◌<◌, ◌≢◌, ⊤, nat_le, List, [], ◌∷◌, ◌++◌, length, map, AllPairs, Option, Some, None, String, Vec, string_bytes, if◌then◌else◌}
use Rattle.std.specs.Option.{unwrap_or}
use Rattle.std.specs.Str.{bytes_eq}
use Rattle.std.specs.declared.alloc.Global.{Global}

-- a text with its name, and how many bytes it may still get
pub record Entry : Type 0 where
  pub name : List ℕ
  pub bytes : List ℕ
  pub spare : ℕ

-- all texts, and how many bytes one more may get, unless it was made
pub record Stock : Type 0 where
  pub entries : List Entry
  pub fresh : Option ℕ

-- a name and a text with so many bytes to spare
abbrev pub entry_with : ℕ → String Global × Vec ℕ Global → Entry
entry_with spare t = record { name = string_bytes t.0; bytes = t.1.items; spare = spare }

-- no two texts have the same name
abbrev pub NamesDiffer : List (String Global × Vec ℕ Global) → Type 0
NamesDiffer texts = AllPairs (λ s t. string_bytes s.0 ≢ string_bytes t.0) texts

-- the bytes of the first text with this name
abbrev pub text_in : List Entry → List ℕ → Option (List ℕ)
text_in [] name = None
text_in (e ∷ es) name = if bytes_eq e.name name then Some e.bytes else text_in es name

-- a text with a piece behind it
abbrev pub longer : Entry → List ℕ → Entry
longer e piece = record { name = e.name; bytes = e.bytes ++ piece; spare = e.spare - length piece }

-- an empty text with so many bytes to spare
abbrev pub empty_entry : List ℕ → ℕ → Entry
empty_entry name spare = record { name = name; bytes = []; spare = spare }

-- texts with a piece behind the one of this name; where there is none it is made, with so many bytes to spare
abbrev pub with_piece : ℕ → List Entry → List ℕ → List ℕ → List Entry
with_piece room [] name piece = longer (empty_entry name room) piece ∷ []
with_piece room (e ∷ es) name piece = if bytes_eq e.name name then longer e piece ∷ es else e ∷ with_piece room es name piece

-- what is left for one more text, after an append to this name
abbrev pub fresh_behind : Option ℕ → List Entry → List ℕ → Option ℕ
fresh_behind fresh [] name = None
fresh_behind fresh (e ∷ es) name = if bytes_eq e.name name then fresh else fresh_behind fresh es name

-- a stock after an append
abbrev pub stock_with : Stock → List ℕ → List ℕ → Stock
stock_with stock name piece = record {
  entries = with_piece (unwrap_or stock.fresh 0) stock.entries name piece;
  fresh = fresh_behind stock.fresh stock.entries name;
}

-- how many bytes the text of this name may get, where there is one or one can be made; its name then has at most 255 bytes
abbrev pub room_in : Option ℕ → List Entry → List ℕ → Option ℕ
room_in fresh [] name = if nat_le (length name) 255 then fresh else None
room_in fresh (e ∷ es) name = if bytes_eq e.name name then Some e.spare else room_in fresh es name

-- there is no room for so many bytes
abbrev pub IsTooSmall : Option ℕ → ℕ → Type 0
IsTooSmall None n = ⊤
IsTooSmall (Some room) n = room < n
