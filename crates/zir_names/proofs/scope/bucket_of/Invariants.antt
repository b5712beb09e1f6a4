use Rattle.std.proofs.Common.{◌≡◌, ◌<◌, drop}
use Rattle.zir_names.specs.Buckets.{hashed}
use Rattle.zir_names.proofs.scope.bucket_of.Given as goal

-- the hash of the rest comes to that of what stands before it
abbrev pub invariant-loop-byte : goal.invariant-loop-byte
invariant-loop-byte l = (hashed l.hash (drop l.byte-index l.name) ≡ hashed 0 l.name) × (l.hash < 65521)
