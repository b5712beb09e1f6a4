use Rattle.std.proofs.Common.{◌≡◌, ℕ, ◌<◌, Bool, false, ◌&&◌, List, [], ◌∷◌, length, refl, ap, arith}
use Rattle.zir_types.specs.Kinds.{same_lengths}
use Rattle.zir_type_bodies.proofs.rules.is_scalar.Goals as goal

-- an array is no scalar
not_scalar : (ls xs : List ℕ) (b : Bool) → xs ≡ ls → 0 < length xs → false ≡ (same_lengths ls [] && b)
not_scalar [] xs b e h = let l : length xs ≡ 0 = ap length e in absurd (omega arith)
not_scalar (n ∷ ls) xs b e h = refl

pub returns-in-len1-up : goal.returns-in-len1-up
returns-in-len1-up c = not_scalar c.args.ty.now.lengths c.as_slice.result.now _ c.as_slice.ensures (omega (arith, c.in-len1-up.len_at_least))
