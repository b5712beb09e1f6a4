-- What the load of a text answers.
use Rattle.std.specs.Prelude.{ℕ, ◌≡◌, ◌≤◌, ◌<◌, ⊤, List, length, Option, Some, Result, Ok, Err}
use Rattle.zir_outside.specs.Loads.{Texts}
use Rattle.zir_run.specs.declared.load.Unloaded.{Unloaded}
use Rattle.zir_run.specs.declared.load.Unloaded.TheVariants.{NotLoaded, TooLong, Memory}

-- the shelf tells that the name has this text
abbrev pub Has : Texts → List ℕ → List ℕ → Type 0
Has told name text = (texts : List ℕ → Option (List ℕ)) × (told ≡ Some texts) × (texts name ≡ Some text)

-- why a text was not loaded
abbrev pub FailsFor : List ℕ → Unloaded → Type 0
FailsFor text TooLong = 65536 < length text
FailsFor text NotLoaded = ⊤
FailsFor text Memory = ⊤
