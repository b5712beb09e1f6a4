-- Texts that go to a sink in pieces.
use Rattle.std.specs.Prelude.{ℕ, ◌≡◌, List, ◌++◌}
use Rattle.zir_outside.specs.Sinks.{Grew, GrewPart}

-- a text came behind the bytes that were held; a front part of both went to the sink, and the rest is held
pub record Adds (old new : List ℕ → Type 0) (before held text : List ℕ) : Type 0 where
  pub front : List ℕ
  pub split : before ++ text ≡ front ++ held
  pub grew : Grew old new front

-- a front part of the bytes that were held and a text behind them went to the sink
pub record AddsPart (old new : List ℕ → Type 0) (before text : List ℕ) : Type 0 where
  pub part : GrewPart (before ++ text) old new
