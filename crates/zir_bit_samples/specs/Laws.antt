-- What bits spell together, by what they spell apart.
use Rattle.std.specs.Prelude.{ℕ, ◌<◌, ◌≡◌, Bool, false, List, ◌++◌, All}
use Rattle.zir_bit_meaning.specs.Samples.{bits_of, spell_bits}

-- the bits of bytes spell the bytes, and what follows them spells what it spells alone
abbrev pub SpellsBytes : Type 0
SpellsBytes = (finished : Bool) (bytes : List ℕ) (bits : List Bool) → All (λ b. b < 256) bytes → spell_bits finished (bits_of bytes ++ bits) ≡ bytes ++ spell_bits finished bits

-- what the front bits spell without padding is a front part of what all bits spell
abbrev pub SpellsFront : Type 0
SpellsFront = (finished : Bool) (front bits : List Bool) → (rest : List ℕ) × (spell_bits finished (front ++ bits) ≡ spell_bits false front ++ rest)
