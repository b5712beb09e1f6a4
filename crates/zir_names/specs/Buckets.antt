-- Where names are found again: the buckets of names, and where a bucket came last.
use Rattle.std.specs.Prelude.{◌≡◌, ℕ, zero, suc, ◌+◌, ◌*◌, ◌%◌, List, [], ◌∷◌, ◌++◌, nat_eq, slice_index, if◌then◌else◌}
use Rattle.zir_names.specs.declared.scope.Entry.{Entry}
use Rattle.zir_names.specs.declared.scope.Link.{Link}

-- The hash of a name, from one of what stands before it.
abbrev pub hashed : ℕ → List ℕ → ℕ
hashed hash [] = hash
hashed hash (b ∷ bs) = hashed ((hash * 257 + b) % 65521) bs

-- The bucket of a name, of 4096.
abbrev pub bucket : List ℕ → ℕ
bucket name = hashed 0 name % 4096

-- The buckets of declarations.
abbrev pub buckets : List Entry → List ℕ
buckets [] = []
buckets (e ∷ es) = bucket e.name ∷ buckets es

-- One more than the last index of a bucket, from an index on, or else this.
abbrev pub last_from : ℕ → ℕ → List ℕ → ℕ → ℕ
last_from k found [] b = found
last_from k found (c ∷ cs) b = last_from (suc k) (if nat_eq c b then suc k else found) cs b

-- One more than the last index of a bucket, or 0.
abbrev pub last_of : List ℕ → ℕ → ℕ
last_of cs b = last_from 0 0 cs b

-- The declarations of links.
abbrev pub entries : List Link → List Entry
entries [] = []
entries (l ∷ ls) = l.entry ∷ entries ls

-- Of each link: where its bucket came last before it. The first list is of the buckets before the first of these.
abbrev pub ArePointed : List ℕ → List Link → Type 0
ArePointed before [] = Unit {0}
ArePointed before (l ∷ ls) = (l.older ≡ last_of before (bucket l.entry.name)) × ArePointed (before ++ bucket l.entry.name ∷ []) ls

-- Each bucket knows where it came last, and each link where its bucket came last before it.
pub record IsChained (links : List Link) (heads : List ℕ) : Type 0 where
  pub newest : (b : ℕ) → slice_index heads b ≡ last_of (buckets (entries links)) b
  pub pointed : ArePointed [] links
