-- A value is stored at a path into a variable.
use Rattle.std.specs.Prelude.{ℕ, ℤ, ◌+◌, ◌<◌, ◌≤◌, ◌^◌, List, [], ◌∷◌, ◌++◌, false, Some, ◌≡◌, ◌⊎◌, refl, take, drop, length}
use Rattle.std.proofs.Common.{ap, ◌∙◌, sym, subst, arith, inl, inr}
use Rattle.std.proofs.lemmas.List.{length-take-le, length-drop, take-append-drop, drop-drop}
use Rattle.zir_tree.specs.declared.value.Val.{Val, Unit as UnitVal}
use Rattle.zir_tree.specs.declared.types.Ty.{Ty}
use Rattle.zir_tree.specs.declared.stmt.Access.{Access}
use Rattle.zir_tree.specs.declared.stmt.Access.TheVariants.{Index, Slice, Part}
use Rattle.zir_meaning.specs.Operators.{part_of}
use Rattle.zir_meaning.specs.Store.{look_up}
use Rattle.zir_meaning.specs.Trace.{State}
use Rattle.zir_meaning.specs.Evaluation.{Eval, Got, Library}
use Rattle.zir_meaning.specs.Statements.{Step as Way, ToPart, replaced, along, assign}
use Rattle.zir_cells.specs.Cells.{cells_of}
use Rattle.zir_cells.specs.Layout.{layout_of}
use Rattle.zir_shapes.specs.Shapes.{Shaped}
use Rattle.zir_shapes.specs.Offsets.{overlaid}
use Rattle.zir_shapes.proofs.Fitting.{sizes-fit}
use Rattle.zir_expr.specs.declared.frame.Spot.{Spot}
use Rattle.zir_expr.specs.declared.frame.Spot.TheVariants.{Top, Local}
use Rattle.zir_expr.specs.Memory.{Done, moved, from_base, place_of}
use Rattle.zir_expr.specs.Memory.Frames.{Memory}
use Rattle.zir_code.specs.declared.scope.Holder.{Holder}
use Rattle.zir_code.specs.Scopes.{Scope, variable, shifted}
use Rattle.zir_code.specs.Types.{part_type, part_offset}
use Rattle.zir_code.specs.Typing.{SpotFits, HolderFits}
use Rattle.zir_code.specs.Holding.{At, Holds, Kept, StandsAt}
use Rattle.zir_code.specs.Statements.{has_index, along_shift}
use Rattle.zir_code.specs.Fine.{SoleIn, AlongFits}
use Rattle.zir_code.proofs.Sparing.{AgreesSparing as AgreesStmt}
use Rattle.zir_code.proofs.Cells.{at_front, at_back, at_both, at_same}
use Rattle.zir_code.proofs.Kept.{low_place, Changed, variable_found}
use Rattle.zir_code.proofs.Moves.{Moved, moves, moved_at}
use Rattle.zir_code.proofs.Stores.{assigned_holds, assigned_same, assigned_spares}
use Rattle.zir_code.proofs.Places.{part_stands}
use Rattle.zir_code.proofs.Replacing.{Writes, writes_all, writes_part}
use Rattle.zir_code.proofs.TypesFound.{part_found}
use Rattle.zir_code.proofs.Locating.{in_room}

-- cells are those before a place, so many from there on, and the others
three_parts : (i k : ℕ) (xs : List ℤ) → xs ≡ take i xs ++ (take k (drop i xs) ++ drop (i + k) xs)
three_parts i k xs =
    sym (take-append-drop i xs)
    ∙ ap (λ ys. take i xs ++ ys) (sym (take-append-drop k (drop i xs)) ∙ ap (λ ys. take k (drop i xs) ++ ys) (drop-drop k i xs))

-- cells over a part of others that stand in memory
overlaid_at : (low high p o : ℕ) (xs ys : List ℤ) (m m' : Memory) → o + length ys ≤ length xs → low ≡ p + o → high ≡ p + o + length ys →
    Changed low high m m' → At m.cells p xs → At m'.cells (p + o) ys → At m'.cells p (overlaid xs o ys)
overlaid_at low high p o xs ys m m' le e f c a b =
    let front : List ℤ = take o xs in
    let mid : List ℤ = take (length ys) (drop o xs) in
    let back : List ℤ = drop (o + length ys) xs in
    let n : length front ≡ o = length-take-le o xs (omega arith) in
    let k : length mid ≡ length ys = length-take-le (length ys) (drop o xs) (omega (arith, length-drop o xs)) in
    let all : At m.cells p (front ++ (mid ++ back)) = subst (At m.cells p) (three_parts o (length ys) xs) a in
    let later : At m.cells (p + length front + length mid) back = at_back m.cells (p + length front) mid back
    (at_back m.cells p front (mid ++ back) all) in
    at_both m'.cells p front (ys ++ back)
    (at_same m.cells m'.cells p (p + length front) p front c.size (λ i q r. c.others i (inl (omega arith))) (omega arith) (omega arith)
    (at_front m.cells p front (mid ++ back) all))
    (at_both m'.cells (p + length front) ys back (subst (λ i. At m'.cells i ys) (let z : p + o ≡ p + length front = omega arith in z) b)
    (subst (λ i. At m'.cells i back) (let z : p + length front + length mid ≡ p + length front + length ys = omega arith in z)
    (at_same m.cells m'.cells (p + length front + length mid) (p + length front + length mid + length back)
    (p + length front + length mid) back c.size
    (λ i q r. c.others i (inr (omega arith))) (omega arith) (omega arith) later)))

-- a change of fewer cells
changed_wider : (low high a b : ℕ) (m m' : Memory) → a ≤ low → high ≤ b → Changed low high m m' → Changed a b m m'
changed_wider low high a b m m' p q c = record {
  others = λ i o. c.others i (elim o [ inl l ↦ inl (omega arith) | inr l ↦ inr (omega arith) ]);
  size = c.size;
  used = c.used;
  limit = c.limit;
}

-- a value of so many cells that is ready to be stored: it stands where no variable is in its way
pub record Ready (top base d n : ℕ) (g : Scope) (t : Ty) (v : Val) (y : Spot) (m : Memory) : Type 0 where
  pub size : n ≡ layout_of g.structs t
  pub stands : StandsAt g.structs t v m (place_of base y)
  pub after : top ≤ place_of base y
  pub before : place_of base y + n ≤ base + (d + n)
  pub apart : (n ≤ 1) ⊎ (base + d ≤ place_of base y)

-- it is still ready after code that leaves it
pub ready_kept : (top base d n : ℕ) (g : Scope) (t : Ty) (v : Val) (y : Spot) (m m' : Memory) (s s' : State) → Kept top base (d + n) g m m' s s' →
    Ready top base d n g t v y m → Ready top base d n g t v y m'
ready_kept top base d n g t v y m m' s s' k r =
    let e = r.size in
    let f = sizes-fit g.structs t v r.stands.shape in
    let b = r.before in
    record {
      size = r.size;
      stands = record {
        shape = r.stands.shape;
        cells = at_same m.cells m'.cells top (base + (d + n)) (place_of base y)
            (cells_of v) k.size k.same r.after (omega arith) r.stands.cells;
      };
      after = r.after;
      before = r.before;
      apart = r.apart;
    }

-- a variable ends before the free cells
sole_before : (top base d n : ℕ) (g : Scope) (m : Memory) (s : State) (id : ℕ) (v : Holder) → variable g id ≡ Some v → HolderFits g n v →
    Holds top base d n g m s → place_of base v.spot + v.cells ≤ base + d
sole_before top base d n g m s id v q fits h =
    let f = variable_found top base d n g m s id v h q in
    let b = f.before in
    let e = sizes-fit g.structs v.ty (look_up s.store id) f.shape in
    let c = fits.cells in
    omega arith

-- a value goes so many cells behind the first of a variable
pub store_agrees : (top base d n room k : ℕ) (g : Scope) (id : ℕ) (v : Holder) (t : Ty) (w : Val) (y : Spot) (steps : List Way) (m : Memory)
    (s : State) →
    variable g id ≡ Some v → SoleIn g id v → HolderFits g room v → d + n ≤ room → Holds top base d room g m s → Ready top base d n g t w y m →
    Writes g.structs v.ty t k steps →
    AgreesStmt top base d room g m (Got UnitVal (assign id (replaced steps w (look_up s.store id)) s))
    (Done (moved n (place_of base v.spot + k) (place_of base y) m))
store_agrees top base d n room k g id v t w y steps m s q sole fits le h r writes =
    let f = variable_found top base d room g m s id v h q in
    let p : ℕ = place_of base v.spot in
    let from : ℕ = place_of base y in
    let end : p + v.cells ≤ base + d = sole_before top base d room g m s id v q fits h in
    let left : base + room ≤ length m.cells = h.room in
    let small : length m.cells < 2 ^ 63 = h.small in
    let inside : k + layout_of g.structs t ≤ layout_of g.structs v.ty = writes.room in
    let cells : v.cells ≡ layout_of g.structs v.ty = fits.cells in
    let size : n ≡ layout_of g.structs t = r.size in
    let long : length (cells_of w) ≡ layout_of g.structs t = sizes-fit g.structs t w r.stands.shape in
    let whole : length (cells_of (look_up s.store id)) ≡ layout_of g.structs v.ty = sizes-fit g.structs v.ty (look_up s.store id) f.shape in
    let before = r.before in
    let m' : Memory = moved n (p + k) from m in
    let by : Moved n (p + k) from m m' = moves n (p + k) from m (apart r.apart (in_room from (p + k)) end) (omega arith) (omega arith) small in
    let has = writes.replaces (look_up s.store id) w f.shape r.stands.shape in
    let there : At m'.cells (p + k) (cells_of w) = moved_at n (p + k) from m m' (cells_of w) (omega arith) (omega arith) by r.stands.cells in
    let c : Changed p (p + v.cells) m m' = changed_wider (p + k) (p + k + n) p (p + v.cells) m m' (omega arith) (omega arith) by.changed in
    record {
      holds = assigned_holds top base d room g m m' s id v (replaced steps w (look_up s.store id)) sole has.shape
          (subst (At m'.cells p) (sym has.cells) (overlaid_at (p + k) (p + k + n) p k (cells_of (look_up s.store id)) (cells_of w) m m'
          (omega arith) refl (omega arith) by.changed f.cells there)) c h;
      same = λ i a b. assigned_same top base d room g m m' s id v i sole c h a b;
      spare = assigned_spares top base d room g m m' s id v sole c h;
      size = c.size;
    } where
      apart : (n ≤ 1) ⊎ (base + d ≤ place_of base y) → (place_of base y < place_of base v.spot + k) ⊎ (place_of base v.spot + k ≤ place_of base y) →
          place_of base v.spot + v.cells ≤ base + d →
          (place_of base v.spot + k ≤ place_of base y) ⊎ (place_of base y + n ≤ place_of base v.spot + k)
      apart (inl few) (inl lt) end = inr (omega arith)
      apart (inl few) (inr ge) end = inl ge
      apart (inr behind) other end = inl (let a = writes.room in let b = fits.cells in omega arith)

-- the spot so many cells behind another
pub shifted_place : (base n k : ℕ) (spot : Spot) (size : ℕ) → SpotFits n spot size → k ≤ size → base + n < 2 ^ 63 →
    place_of base (shifted spot k) ≡ place_of base spot + k
shifted_place base n k (Top o) size f le small = refl
shifted_place base n k (Local o) size f le small = low_place base (o + k) (omega arith)
    ∙ (let a : from_base base o ≡ base + o = low_place base o (omega arith) in omega arith)

-- a path without an index means its parts, whatever the state
pub record Parts (l : Library) (g : Scope) (ty t : Ty) (path : List Access) (old : Val) : Type 0 where
  pub steps : List Way
  pub writes : Writes g.structs ty t (along_shift g ty path) steps
  pub is : (s : State) (next : List Way → State → Eval) → along l path old s next ≡ next steps s

pub parts_alone : (path : List Access) (l : Library) (g : Scope) (o n : ℕ) (ty t : Ty) (old : Val) → has_index path ≡ false →
    AlongFits g o n ty path t → Shaped g.structs ty old → Parts l g ty t path old
parts_alone [] l g o n ty t old b f h = record {
  steps = [];
  writes = subst (λ t. Writes g.structs ty t 0 []) f (writes_all g.structs ty);
  is =
      λ s next. refl;
}
parts_alone (Index e p ∷ path) l g o n ty t old b f h = absurd (cc)
parts_alone (Slice e k p ∷ path) l g o n ty t old b f h = absurd (cc)
parts_alone (Part name i p ∷ path) l g o n ty t old b f h =
    let r = parts_alone path l g o n f.0 t (part_of i old) b f.2 (part_stands g.structs ty i f.0 old f.1 h).shape in
    let e : f.0 ≡ part_type g.structs ty i = sym (part_found g.structs ty i f.0 f.1) in
    record {
      steps = ToPart i ∷ r.steps;
      writes = subst (λ u. Writes g.structs ty t (part_offset g.structs ty i + along_shift g u path) (ToPart i ∷ r.steps)) e
          (writes_part g.structs ty f.0 t i (along_shift g f.0 path) old r.steps h f.1 r.writes);
      is = λ s next. r.is s (λ steps. next (ToPart i ∷ steps));
    }
