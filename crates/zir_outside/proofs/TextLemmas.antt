-- What a name finds among texts, and what an append makes of them.
use Rattle.std.proofs.Common.{◌≡◌, ℕ, zero, suc, ◌+◌, ◌<◌, Bool, true, false, true≢false, List, [], ◌∷◌, ◌++◌, length, map, get_or, set, Option, Some, None, string_bytes, String, Vec, if◌then◌else◌, refl, sym, ap, ◌∙◌, arith}
use Rattle.std.specs.Prelude.{◌≢◌, nat_le}
use Rattle.std.specs.Str.{bytes_eq}
use Rattle.std.specs.Option.{unwrap_or}
use Rattle.std.specs.declared.alloc.Global.{Global}
use Rattle.std.proofs.lemmas.Slice.Eq.{bytes_eq-Decides}
use Rattle.zir_outside.specs.Texts.{Entry, NamesDiffer, entry_with, text_in, longer, empty_entry, with_piece, fresh_behind, room_in}
use Rattle.zir_outside.specs.Lengthens.{LongerBy}

-- a test that does not hold fails
fails : (b : Bool) → (b ≡ true → ⊥) → b ≡ false
fails true never = absurd (never refl)
fails false never = refl

-- a name is the same as itself
same_name : (name : List ℕ) → bytes_eq name name ≡ true
same_name name = (bytes_eq-Decides name name).1 refl

-- names that differ are not the same
other_name : (a b : List ℕ) → (a ≡ b → ⊥) → bytes_eq a b ≡ false
other_name a b differ = fails (bytes_eq a b) (λ same. differ ((bytes_eq-Decides a b).0 same))

-- names that are not the same differ
differs : (a b : List ℕ) → bytes_eq a b ≡ false → a ≡ b → ⊥
differs a b apart same = true≢false (sym ((bytes_eq-Decides a b).1 same) ∙ apart)

-- ---- the first of some things whose text has a name

module _ {X : Type 0} (f : X → Entry) (name : List ℕ) where
  -- its text is the one that is found
  pub text_first : (xs : List X) (k : ℕ) (x d : X) → k < length xs → x ≡ get_or xs k d → bytes_eq (f x).name name ≡ true → ((j : ℕ) → j < k → bytes_eq (f (get_or xs j d)).name name ≡ false)
      → text_in (map f xs) name ≡ Some (f x).bytes
  text_first [] k x d within here passes before = absurd (omega arith)
  text_first (y ∷ ys) zero x d within here passes before = rw (← here) (rw passes refl)
  text_first (y ∷ ys) (suc k) x d within here passes before =
      let first : bytes_eq (f y).name name ≡ false = before 0 (omega arith) in
      let rest : k < length ys = omega arith in
      rw first (text_first ys k x d rest here passes (λ j below. before (suc j) (omega arith)))

  -- so is its room
  pub room_first : (fresh : Option ℕ) (xs : List X) (k : ℕ) (x d : X) → k < length xs → x ≡ get_or xs k d → bytes_eq (f x).name name ≡ true → ((j : ℕ) → j < k → bytes_eq (f (get_or xs j d)).name name ≡ false)
      → room_in fresh (map f xs) name ≡ Some (f x).spare
  room_first fresh [] k x d within here passes before = absurd (omega arith)
  room_first fresh (y ∷ ys) zero x d within here passes before = rw (← here) (rw passes refl)
  room_first fresh (y ∷ ys) (suc k) x d within here passes before =
      let first : bytes_eq (f y).name name ≡ false = before 0 (omega arith) in
      let rest : k < length ys = omega arith in
      rw first (room_first fresh ys k x d rest here passes (λ j below. before (suc j) (omega arith)))

  -- no text is made
  pub fresh_first : (fresh : Option ℕ) (xs : List X) (k : ℕ) (x d : X) → k < length xs → x ≡ get_or xs k d → bytes_eq (f x).name name ≡ true → ((j : ℕ) → j < k → bytes_eq (f (get_or xs j d)).name name ≡ false)
      → fresh_behind fresh (map f xs) name ≡ fresh
  fresh_first fresh [] k x d within here passes before = absurd (omega arith)
  fresh_first fresh (y ∷ ys) zero x d within here passes before = rw (← here) (rw passes refl)
  fresh_first fresh (y ∷ ys) (suc k) x d within here passes before =
      let first : bytes_eq (f y).name name ≡ false = before 0 (omega arith) in
      let rest : k < length ys = omega arith in
      rw first (fresh_first fresh ys k x d rest here passes (λ j below. before (suc j) (omega arith)))

  -- with a piece behind its text it stands in its place
  pub piece_first : (room : ℕ) (piece : List ℕ) (xs : List X) (k : ℕ) (x y d : X) → k < length xs → x ≡ get_or xs k d → bytes_eq (f x).name name ≡ true → ((j : ℕ) → j < k → bytes_eq (f (get_or xs j d)).name name ≡ false)
      → f y ≡ longer (f x) piece → map f (set xs k y) ≡ with_piece room (map f xs) name piece
  piece_first room piece [] k x y d within here passes before is = absurd (omega arith)
  piece_first room piece (z ∷ zs) zero x y d within here passes before is = rw (← here) (rw passes (ap (λ e. e ∷ map f zs) is))
  piece_first room piece (z ∷ zs) (suc k) x y d within here passes before is =
      let first : bytes_eq (f z).name name ≡ false = before 0 (omega arith) in
      let rest : k < length zs = omega arith in
      rw first (ap (λ es. f z ∷ es) (piece_first room piece zs k x y d rest here passes (λ j below. before (suc j) (omega arith)) is))

  -- ---- where none has the name

  pub text_none : (xs : List X) → ((j : ℕ) (d : X) → j < length xs → bytes_eq (f (get_or xs j d)).name name ≡ false) → text_in (map f xs) name ≡ None
  text_none [] unnamed = refl
  text_none (x ∷ xs) unnamed =
      let first : bytes_eq (f x).name name ≡ false = unnamed 0 x (omega arith) in rw first (text_none xs (λ j d below. unnamed (suc j) d (omega arith)))

  pub room_none : (fresh : Option ℕ) (xs : List X) → ((j : ℕ) (d : X) → j < length xs → bytes_eq (f (get_or xs j d)).name name ≡ false) → room_in fresh (map f xs) name ≡ (if nat_le (length name) 255 then fresh else None)
  room_none fresh [] unnamed = refl
  room_none fresh (x ∷ xs) unnamed =
      let first : bytes_eq (f x).name name ≡ false = unnamed 0 x (omega arith) in rw first (room_none fresh xs (λ j d below. unnamed (suc j) d (omega arith)))

  pub fresh_none : (fresh : Option ℕ) (xs : List X) → ((j : ℕ) (d : X) → j < length xs → bytes_eq (f (get_or xs j d)).name name ≡ false) → fresh_behind fresh (map f xs) name ≡ None
  fresh_none fresh [] unnamed = refl
  fresh_none fresh (x ∷ xs) unnamed =
      let first : bytes_eq (f x).name name ≡ false = unnamed 0 x (omega arith) in rw first (fresh_none fresh xs (λ j d below. unnamed (suc j) d (omega arith)))

  pub piece_none : (room : ℕ) (piece : List ℕ) (xs : List X) (y : X) → ((j : ℕ) (d : X) → j < length xs → bytes_eq (f (get_or xs j d)).name name ≡ false)
      → f y ≡ longer (empty_entry name room) piece → map f (xs ++ y ∷ []) ≡ with_piece room (map f xs) name piece
  piece_none room piece [] y unnamed is = ap (λ e. e ∷ []) is
  piece_none room piece (x ∷ xs) y unnamed is =
      let first : bytes_eq (f x).name name ≡ false = unnamed 0 x (omega arith) in
      rw first (ap (λ es. f x ∷ es) (piece_none room piece xs y (λ j d below. unnamed (suc j) d (omega arith)) is))

  -- ---- whether a name is there

  pub some_named : (xs : List X) (k : ℕ) (x d : X) → k < length xs → x ≡ get_or xs k d → bytes_eq (f x).name name ≡ true → ((j : ℕ) (e : Entry) → j < length (map f xs) → (get_or (map f xs) j e).name ≡ name → ⊥) → ⊥
  some_named [] k x d within here passes never = absurd (omega arith)
  some_named (y ∷ ys) zero x d within here passes never = never 0 (f y) (omega arith) (ap (λ z. (f z).name) (sym here) ∙ (bytes_eq-Decides (f x).name name).0 passes)
  some_named (y ∷ ys) (suc k) x d within here passes never =
      let rest : k < length ys = omega arith in
      some_named ys k x d rest here passes (λ j e below. never (suc j) e (omega arith))

  pub none_named : (xs : List X) → ((j : ℕ) (d : X) → j < length xs → bytes_eq (f (get_or xs j d)).name name ≡ false) → (j : ℕ) (e : Entry) → j < length (map f xs) → (get_or (map f xs) j e).name ≡ name → ⊥
  none_named [] unnamed j e below same = absurd (omega arith)
  none_named (x ∷ xs) unnamed zero e below same = differs (f x).name name (unnamed 0 x (omega arith)) same
  none_named (x ∷ xs) unnamed (suc j) e below same = none_named xs (λ i d under. unnamed (suc i) d (omega arith)) j e (omega arith) same

-- where the names differ, each name finds its own text
pub text_in-each : (room : ℕ) (texts : List (String Global × Vec ℕ Global)) → NamesDiffer texts → (k : ℕ) (d : String Global × Vec ℕ Global) → k < length texts
    → text_in (map (entry_with room) texts) (string_bytes (get_or texts k d).0) ≡ Some (get_or texts k d).1.items
text_in-each room texts differ k d within =
    text_first (entry_with room) (string_bytes (get_or texts k d).0) texts k (get_or texts k d) d within refl (same_name (string_bytes (get_or texts k d).0))
    (λ j below. other_name (string_bytes (get_or texts j d).0) (string_bytes (get_or texts k d).0) (differ j k d below within))

-- ---- an append, by the texts that names find

text_more_at : (room : ℕ) (name piece : List ℕ) (e : Entry) (es : List Entry) (b : Bool) → bytes_eq e.name name ≡ b
    → text_in (with_piece room es name piece) name ≡ Some (unwrap_or (text_in es name) [] ++ piece) → text_in (with_piece room (e ∷ es) name piece) name ≡ Some (unwrap_or (text_in (e ∷ es) name) [] ++ piece)
text_more_at room name piece e es true is more = rw is (rw is refl)
text_more_at room name piece e es false is more = rw is (rw is more)

text_more : (room : ℕ) (name piece : List ℕ) (es : List Entry) → text_in (with_piece room es name piece) name ≡ Some (unwrap_or (text_in es name) [] ++ piece)
text_more room name piece [] = rw (same_name name) refl
text_more room name piece (e ∷ es) = text_more_at room name piece e es (bytes_eq e.name name) refl (text_more room name piece es)

others_at : (room : ℕ) (name piece other : List ℕ) (e : Entry) (es : List Entry) (b : Bool) → other ≢ name → bytes_eq e.name name ≡ b
    → text_in (with_piece room es name piece) other ≡ text_in es other → text_in (with_piece room (e ∷ es) name piece) other ≡ text_in (e ∷ es) other
others_at room name piece other e es true differ is more =
    let apart : bytes_eq e.name other ≡ false = other_name e.name other (λ same. differ (sym same ∙ (bytes_eq-Decides e.name name).0 is)) in
    rw is (rw apart refl)
others_at room name piece other e es false differ is more = rw is (ap (λ r. if bytes_eq e.name other then Some e.bytes else r) more)

others : (room : ℕ) (name piece other : List ℕ) (es : List Entry) → other ≢ name → text_in (with_piece room es name piece) other ≡ text_in es other
others room name piece other [] differ = rw (other_name name other (λ same. differ (sym same))) refl
others room name piece other (e ∷ es) differ = others_at room name piece other e es (bytes_eq e.name name) differ refl (others room name piece other es differ)

pub longer_by : (room : ℕ) (name piece : List ℕ) (es : List Entry) → LongerBy (text_in es) (text_in (with_piece room es name piece)) name piece
longer_by room name piece es = record { text = text_more room name piece es; others = λ other differ. others room name piece other es differ }
