-- Items that are read one after the other, and the element that they make.
use Rattle.std.proofs.Common.{ℕ, zero, suc, ◌+◌, ◌*◌, ◌<◌, ◌≤◌, ◌≡◌, ℤ, pos, negsuc, Bool, true, false, Option, Some, None, List, [], ◌∷◌, ◌++◌, length, take, drop, refl, ap, sym, ◌∙◌, subst, arith, append_assoc, length-append}
use Rattle.std.proofs.lemmas.List.{append-nil, drop-drop, take_at, take_all, length_push, map-append, take-map, length-drop}
use Rattle.std.proofs.lemmas.Bool.{false≢true}
use Rattle.std.proofs.lemmas.Bool.Decides.{nat_tests}
use Rattle.std.specs.List.{list_any}
use Rattle.std.specs.Prelude.{fold, if◌then◌else◌, is_none, map, nat_le, nat_lt, sum_by, ◌&&◌}
use Rattle.zir_tree.specs.declared.format.Format.TheVariants.{Text}
use Rattle.zir_tree.specs.declared.types.Base.{Base}
use Rattle.zir_tree.specs.declared.types.Base.TheVariants.{Unit as UnitTy, Bit, Bool as BoolTy, Int8, Int16, Int32, Int64, Complex16, Complex32, Struct}
use Rattle.zir_tree.specs.declared.types.Ty.{Ty}
use Rattle.zir_meaning.specs.Items.{fits, Item}
use Rattle.zir_meaning.specs.Texts.{cut_at_commas, is_end, is_malformed, item_before_comma, item_before_end, item_of, last_items, may_go_on, sound_items, text_items, trimmed, written_number}
use Rattle.zir_meaning.specs.Elements.{gathered, Malformed as MalformedTail, numbers_in, sound_tail, text_elements, told_place}
use Rattle.zir_samples.specs.declared.finding.Found.{Found}
use Rattle.zir_samples.specs.declared.finding.Found.TheVariants.{Element, Malformed}
use Rattle.zir_samples.specs.Finding.{answer_at, Finds, IsStreamType, short_answer}
use Rattle.zir_samples.specs.Reading.{items_of}
use Rattle.zir_samples.proofs.Elements.{AreCells, cells-take, finds-items, finds-none, IsCell, short-tail}

-- sound items
abbrev pub somes : List Item → List (Option Item)
somes items = map (λ item. Some item) items

-- so many items were read up to a place, and their numbers stand in the first cells
pub record HasRead (base : Base) (closed : Bool) (bytes : List ℕ) (at : ℕ) (cells : List ℤ) (count : ℕ) : Type 0 where
  pub items : List Item
  pub front : items_of base closed bytes ≡ somes items ++ items_of base closed (drop at bytes)
  pub all : length items ≡ count
  pub numbers : map (λ item. item.number) items ≡ take count cells
  pub sizes : sum_by (λ item. item.size) items ≡ at
  pub within : at ≤ length bytes
  pub near : at ≤ 64 * count

-- nothing was read
pub read_none : (base : Base) (closed : Bool) (bytes : List ℕ) (cells : List ℤ) → HasRead base closed bytes 0 cells 0
read_none base closed bytes cells = record { items = []; front = refl; all = refl; numbers = refl; sizes = refl; within = omega arith; near = omega arith }

-- a sum with one more
fold-push : (items : List Item) (item : Item) (n : ℕ) → fold (λ a (i : Item). a + i.size) n (items ++ item ∷ []) ≡ fold (λ a (i : Item). a + i.size) n items + item.size
fold-push [] item n = refl
fold-push (i ∷ items) item n = fold-push items item (n + i.size)

-- one more item was read
pub read_more : (base : Base) (closed : Bool) (bytes : List ℕ) (at : ℕ) (cells new : List ℤ) (count : ℕ) (z : ℤ) (size : ℕ) → HasRead base closed bytes at cells count → size ≤ length (drop at bytes) → size ≤ 64 → items_of base closed (drop at bytes) ≡ Some (record { number = z; size = size }) ∷ items_of base closed (drop size (drop at bytes)) → take (count + 1) new ≡ take count cells ++ z ∷ [] → HasRead base closed bytes (at + size) new (count + 1)
read_more base closed bytes at cells new count z size h fit short e f =
    let item : Item = record { number = z; size = size } in
    record {
      items = h.items ++ item ∷ [];
      front =
          h.front
          ∙ ap (λ is. somes h.items ++ is) (e ∙ ap (λ bs. Some item ∷ items_of base closed bs) (drop-drop size at bytes))
          ∙ sym (append_assoc (somes h.items) (Some item ∷ []) (items_of base closed (drop (at + size) bytes)))
          ∙ ap (λ is. is ++ items_of base closed (drop (at + size) bytes)) (sym (map-append (λ (i : Item). Some i) h.items (item ∷ [])));
      all = length_push h.items item ∙ ap (λ n. n + 1) h.all;
      numbers = map-append (λ (i : Item). i.number) h.items (item ∷ []) ∙ ap (λ zs. zs ++ z ∷ []) h.numbers ∙ sym f;
      sizes = fold-push h.items item 0 ∙ ap (λ n. n + size) h.sizes;
      within = omega (arith, h.within, fit, length-drop at bytes);
      near = omega (arith, h.near, short);
    }

-- the sound items in front of others
sound-front : (items : List Item) (more : List (Option Item)) → sound_items (somes items ++ more) ≡ items ++ sound_items more
sound-front [] more = refl
sound-front (item ∷ items) more = ap (λ is. item ∷ is) (sound-front items more)

-- whether an item is malformed behind sound ones
any-front : (items : List Item) (more : List (Option Item)) → list_any is_none (somes items ++ more) ≡ list_any is_none more
any-front [] more = refl
any-front (item ∷ items) more = any-front items more

-- a sound item is a cell of the type
abbrev pub SoundCell : Base → Option Item → Type 0
SoundCell base None = Unit {0}
SoundCell base (Some item) = IsCell base item.number

-- each sound item is one
abbrev pub SoundCells : Base → List (Option Item) → Type 0
SoundCells base [] = Unit {0}
SoundCells base (item ∷ items) = SoundCell base item × SoundCells base items

-- so are the items before the first malformed one
pub sound-cells : (base : Base) (items : List (Option Item)) → SoundCells base items → AreCells base (map (λ item. item.number) (sound_items items))
sound-cells base [] h = tt
sound-cells base (None ∷ items) h = tt
sound-cells base (Some item ∷ items) h = (h.0, sound-cells base items h.1)

-- an item in range is a cell
if-cell : (base : Base) (z : ℤ) (size : ℕ) (t : Bool) → (t ≡ true → IsCell base z) → SoundCell base (let item : Option Item = Some (record { number = z; size = size }) in if t then item else None)
if-cell base z size true h = h refl
if-cell base z size false h = tt

-- a number in range and short is a cell of its type
fit-cell : (base : Base) (z : ℤ) (short : Bool) → (fits base z && short) ≡ true → IsCell base z
fit-cell Bit (pos zero) short h = refl
fit-cell Bit (pos (suc zero)) short h = refl
fit-cell Bit (pos (suc (suc n))) short h =
    let big : nat_lt (suc (suc n)) 2 ≡ false = grind (arith, nat_tests) in
    let no : false ≡ true = sym (ap (λ t. t && short) big) ∙ h in
    absurd (false≢true no)
fit-cell Bit (negsuc n) short h = cc
fit-cell UnitTy z short h = tt
fit-cell BoolTy z short h = tt
fit-cell Int8 z short h = tt
fit-cell Int16 z short h = tt
fit-cell Int32 z short h = tt
fit-cell Int64 z short h = tt
fit-cell Complex16 z short h = tt
fit-cell Complex32 z short h = tt
fit-cell (Struct k) z short h = tt

-- an item is a cell of its type
item-cell : (base : Base) (size : ℕ) (number : Option ℤ) → SoundCell base (item_of base size number)
item-cell base size None = tt
item-cell base size (Some z) = if-cell base z size (fits base z && nat_le size 64) (fit-cell base z (nat_le size 64))

-- the items behind the last comma are cells
last-cells : (base : Base) (closed : Bool) (bytes : List ℕ) → SoundCells base (last_items base closed bytes)
last-cells base true bytes = either (is_end bytes)
  where
    either : (t : Bool) → SoundCells base (if t then [] else item_before_end base bytes ∷ [])
    either true = tt
    either false = (item-cell base (length bytes) (written_number (trimmed bytes)), tt)
last-cells base false bytes = either (may_go_on base bytes)
  where
    either : (t : Bool) → SoundCells base (let none : List (Option Item) = None ∷ [] in if t then [] else none)
    either true = tt
    either false = (tt, tt)

-- the items of a text are cells
pub items-cells : (base : Base) (closed : Bool) (parts : List (List ℕ)) (behind : List ℕ) → SoundCells base (map (item_before_comma base) parts ++ last_items base closed behind)
items-cells base closed [] behind = last-cells base closed behind
items-cells base closed (part ∷ parts) behind = (item-cell base (length part + 1) (written_number (trimmed part)), items-cells base closed parts behind)

-- as many items as an element has are found
pub read_whole : (ty : Ty) (closed : Bool) (bytes : List ℕ) (at : ℕ) (cells : List ℤ) → IsStreamType ty → length cells ≡ numbers_in ty → HasRead ty.base closed bytes at cells (numbers_in ty) → Finds Text (text_elements ty bytes closed) (Element (8 * at)) cells
read_whole ty closed bytes at cells ok size h =
    let n = numbers_in ty in
    let cut = cut_at_commas bytes in
    let items = text_items ty.base closed bytes in
    let split : items ≡ h.items ++ sound_items (items_of ty.base closed (drop at bytes)) = ap sound_items h.front ∙ sound-front h.items (items_of ty.base closed (drop at bytes)) in
    let front : take n items ≡ h.items = ap (take n) split ∙ take_at h.items (sound_items (items_of ty.base closed (drop at bytes))) n h.all in
    let enough : n ≤ length items = omega (arith, ap length split, length-append h.items (sound_items (items_of ty.base closed (drop at bytes))), h.all) in
    let zs : map (λ (i : Item). i.number) (take n items) ≡ cells = ap (map (λ (i : Item). i.number)) front ∙ h.numbers ∙ take_all n cells (omega (arith, size)) in
    let kept : AreCells ty.base (map (λ (i : Item). i.number) (take n items)) = subst (AreCells ty.base) (take-map (λ (i : Item). i.number) n items) (cells-take n ty.base (map (λ (i : Item). i.number) items) (sound-cells ty.base (items_of ty.base closed bytes) (items-cells ty.base closed cut.before_commas cut.behind))) in
    finds-items Text ty items _ (Element (8 * at)) cells ok enough kept (ap (λ k. Element (8 * k)) (sym (ap (λ is. sum_by (λ (i : Item). i.size) is) front ∙ h.sizes))) (sym zs)

-- too few items are found
pub read_short : (ty : Ty) (closed : Bool) (bytes : List ℕ) (at : ℕ) (cells new : List ℤ) (count : ℕ) (found : Found) → short_answer closed ≡ found → count < numbers_in ty → HasRead ty.base closed bytes at cells count → items_of ty.base closed (drop at bytes) ≡ [] → Finds Text (text_elements ty bytes closed) found new
read_short ty closed bytes at cells new count found answer few h e =
    let all : items_of ty.base closed bytes ≡ somes h.items ++ [] = h.front ∙ ap (λ is. somes h.items ++ is) e in
    let items : text_items ty.base closed bytes ≡ h.items = ap sound_items all ∙ sound-front h.items [] ∙ append-nil h.items in
    let sound : is_malformed ty.base closed bytes ≡ false = ap (list_any is_none) all ∙ any-front h.items [] in
    let es = gathered ty (text_items ty.base closed bytes) in
    finds-none Text ty (text_items ty.base closed bytes) _ found new (omega (arith, ap length items, h.all, few))
    (sym answer ∙ short-tail closed ∙ ap (λ t. answer_at (if t then MalformedTail (told_place es) else sound_tail closed)) (sym sound))

-- malformed input is found
pub read_malformed : (ty : Ty) (closed : Bool) (bytes : List ℕ) (at : ℕ) (cells new : List ℤ) (count : ℕ) (more : List (Option Item)) → count < numbers_in ty → HasRead ty.base closed bytes at cells count → items_of ty.base closed (drop at bytes) ≡ None ∷ more → Finds Text (text_elements ty bytes closed) Malformed new
read_malformed ty closed bytes at cells new count more few h e =
    let all : items_of ty.base closed bytes ≡ somes h.items ++ None ∷ more = h.front ∙ ap (λ is. somes h.items ++ is) e in
    let items : text_items ty.base closed bytes ≡ h.items = ap sound_items all ∙ sound-front h.items (None ∷ more) ∙ append-nil h.items in
    let bad : is_malformed ty.base closed bytes ≡ true = ap (list_any is_none) all ∙ any-front h.items (None ∷ more) in
    let es = gathered ty (text_items ty.base closed bytes) in
    finds-none Text ty (text_items ty.base closed bytes) _ Malformed new (omega (arith, ap length items, h.all, few))
    (ap (λ t. answer_at (if t then MalformedTail (told_place es) else sound_tail closed)) (sym bad))
