-- The code of a path follows its indexes, and leaves the offset of what it leads to.
use Rattle.std.specs.Prelude.{ℕ, ◌+◌, ◌-◌, ◌*◌, ◌<◌, ◌≤◌, ◌^◌, ℤ, pos, negsuc, List, [], ◌∷◌, ◌++◌, Option, Some, None, Err, ◌≡◌, refl, length}
use Rattle.std.proofs.Common.{ap, ◌∙◌, sym, subst, arith, inl, inr}
use Rattle.zir_tree.specs.declared.place.Place.{Place}
use Rattle.zir_tree.specs.declared.value.Val.{Val}
use Rattle.zir_tree.specs.declared.types.Base.{Base}
use Rattle.zir_tree.specs.declared.types.Base.TheVariants.{Unit as UnitTy, Bit as BitTy, Bool as BoolTy, Int8, Int16, Int32, Int64, Complex16, Complex32, Struct as StructTy}
use Rattle.zir_tree.specs.declared.types.Ty.{Ty}
use Rattle.zir_tree.specs.declared.types.StructDef.{StructDef}
use Rattle.zir_tree.specs.declared.expr.Expr.{Expr}
use Rattle.zir_tree.specs.declared.stmt.Access.{Access}
use Rattle.zir_tree.specs.declared.stmt.Access.TheVariants.{Index, Slice, Part}
use Rattle.zir_meaning.specs.Values.{parts, num_of}
use Rattle.zir_meaning.specs.Operators.{part_of}
use Rattle.zir_meaning.specs.Trace.{State}
use Rattle.zir_meaning.specs.Evaluation.{Eval, Library, then_eval, element, range, found, ev}
use Rattle.zir_meaning.specs.Statements.{Step as Way, ToElement, ToRange, ToPart, position, along}
use Rattle.zir_cells.specs.Cells.{cells_of}
use Rattle.zir_cells.specs.Layout.{layout_of}
use Rattle.zir_shapes.specs.Shapes.{Shaped, IsNumber}
use Rattle.zir_shapes.specs.Offsets.{array_type, plain_type}
use Rattle.zir_shapes.proofs.Slicing.{elements-stand, elements-end, ranges-stand, ranges-end}
use Rattle.zir_expr.specs.declared.frame.Spot.{Spot}
use Rattle.zir_expr.specs.declared.frame.Spot.TheVariants.{Local}
use Rattle.zir_expr.specs.declared.steps.Step.{Step, Locate}
use Rattle.zir_expr.specs.declared.steps.Elements.{Elements}
use Rattle.zir_expr.specs.Memory.{Ran, then_run, cell_at, put_cell, from_base, place_of}
use Rattle.zir_expr.specs.Memory.Frames.{Memory}
use Rattle.zir_expr.specs.Running.{go_all, put_or_trap, offset_of, located_to}
use Rattle.zir_code.specs.Scopes.{Scope}
use Rattle.zir_code.specs.Types.{part_type, part_offset}
use Rattle.zir_code.specs.Coding.{stands, code_of}
use Rattle.zir_code.specs.Typing.{IsWholeType, PartFits}
use Rattle.zir_code.specs.Holding.{At, Holds, Kept}
use Rattle.zir_code.specs.Statements.{along_code, along_shift}
use Rattle.zir_code.specs.Fine.{Fits, AlongFits}
use Rattle.zir_code.specs.Calls.{Calls}
use Rattle.zir_code.specs.Laws.{ExpressionsAgree}
use Rattle.zir_code.proofs.Sparing.{AgreesSparing as AgreesStmt, fewer}
use Rattle.zir_code.proofs.Kept.{low_place, kept_holds, kept_kept, kept_less, holds_kept, holds_more, changed_cell, cell_written, kept_changed}
use Rattle.zir_code.proofs.Agreeing.{go_all-append, then-then}
use Rattle.zir_code.proofs.Alike.{after_expression, from_alike, alike_kept, same_tops}
use Rattle.zir_code.proofs.Places.{part_stands, inside_ends}
use Rattle.zir_code.proofs.Replacing.{Writes, writes_all, writes_element, writes_range, writes_part}
use Rattle.zir_code.proofs.TypesFound.{part_found}
use Rattle.zir_code.proofs.Locating.{in_room, offset_inside, offset_outside}

-- a value of a whole type is a number
number_is : (structs : List StructDef) (b : Base) (v : Val) → IsWholeType b → Shaped structs (plain_type b) v → IsNumber v
number_is structs UnitTy v w h = absurd w
number_is structs BitTy v w h = absurd w
number_is structs BoolTy v w h = absurd w
number_is structs Int8 v w h = h
number_is structs Int16 v w h = h
number_is structs Int32 v w h = h
number_is structs Int64 v w h = h
number_is structs Complex16 v w h = absurd w
number_is structs Complex32 v w h = absurd w
number_is structs (StructTy k) v w h = absurd w

-- a path has been walked to so many cells behind what its parts shift: its steps write there
pub record Walked (top base o : ℕ) (g : Scope) (ty t : Ty) (k shift : ℕ) (m : Memory) (s : State) (steps : List Way) (m' : Memory)
    (s' : State) : Type 0 where
  pub kept : Kept top base o g m m' s s'
  pub offset : ℕ
  pub here : cell_at (from_base base o) m' ≡ pos (k + offset)
  pub writes : Writes g.structs ty t (shift + offset) steps

-- what follows a path, from any memory and state that it leaves
abbrev pub Onward : ℕ → ℕ → ℕ → ℕ → ℕ → Scope → Ty → Ty → ℕ → ℕ → Memory → State → (List Way → State → Eval) → (Memory → Ran) → Type 0
Onward top base o d n g ty t k shift m s next next' =
    (steps : List Way) (m' : Memory) (s' : State) → Walked top base o g ty t k shift m s steps m' s' →
    AgreesStmt top base d n g m' (next steps s') (next' m')

-- an index that is tested: outside it is a trap, and inside the offset of its element is in the cell
by_test : (top base o d n code room size : ℕ) (g : Scope) (p : Place) (k : ℕ) (z : ℤ) (m : Memory) (s : State) (look : ℤ → Option Val)
    (next : Val → State → Eval) (next' : Memory → Ran) →
    Holds top base d n g m s → d ≤ o → o + 1 ≤ n →
    ((i : ℕ) → look (negsuc i) ≡ None) → ((i : ℕ) → room ≤ i → look (pos i) ≡ None) →
    ((i : ℕ) → z ≡ pos i → i < room → (v : Val) × (look (pos i) ≡ Some v) × (k + i * size < 2 ^ 63) ×
    ((m' : Memory) → Kept top base o g m m' s s → cell_at (from_base base o) m' ≡ pos (k + i * size) →
    AgreesStmt top base d n g m' (next v s) (next' m'))) →
    AgreesStmt top base d n g m (found code p (look z) s next)
    (then_run (put_or_trap (offset_of (pos k) z (record { room = room; size = size; code = code; at = p })) (from_base base o) p m) next')
by_test top base o d n code room size g p k (negsuc i) m s look next next' h le fit negative outside inside =
    subst (λ r. AgreesStmt top base d n g m (found code p r s next) (then_run (put_or_trap (Err code) (from_base base o) p m) next'))
    (sym (negative i))
    (refl, record { tops_held = h.tops; same = λ j a b. refl; size = refl; used = h.used; limit = h.limit })
by_test top base o d n code room size g p k (pos i) m s look next next' h le fit negative outside inside =
    elim (in_room i room) [
      | inl lt ↦ (let f = inside i refl lt in
          let room_left : base + n ≤ length m.cells = h.room in
          let small : length m.cells < 2 ^ 63 = h.small in
          let apart : top ≤ base = h.apart in
          let q : from_base base o ≡ base + o = low_place base o (omega arith) in
          let x : ℤ = pos (k + i * size) in
          let m' : Memory = put_cell (from_base base o) x m in
          let kept : Kept top base o g m m' s s =
          kept_changed top base o (from_base base o) (from_base base o + 1) g m m m' s s apart (omega arith) (holds_kept top base d o n g m s h)
          (changed_cell (from_base base o) x m) in
          subst (λ r. AgreesStmt top base d n g m (found code p r s next)
          (then_run (put_or_trap (offset_of (pos k) (pos i) e) (from_base base o) p m) next')) (sym f.1)
          (subst (λ r. AgreesStmt top base d n g m (next f.0 s) (then_run (put_or_trap r (from_base base o) p m) next'))
          (sym (offset_inside k i e lt f.2))
          (from_alike top base d n g m m' _ _ (alike_kept top base o d g g m m' s s (fewer base o d g le) kept)
          (f.3 m' kept (cell_written (from_base base o) x m (omega arith))))))
      | inr ge ↦ subst (λ r. AgreesStmt top base d n g m (found code p r s next)
          (then_run (put_or_trap (offset_of (pos k) (pos i) e) (from_base base o) p m) next')) (sym (outside i ge))
          (subst (λ r. AgreesStmt top base d n g m (found code p None s next) (then_run (put_or_trap r (from_base base o) p m) next'))
          (sym (offset_outside (pos k) i e ge))
          (refl, record { tops_held = h.tops; same = λ j a b. refl; size = refl; used = h.used; limit = h.limit }))
    ] where
      e : Elements
      e = record { room = room; size = size; code = code; at = p }

-- an index, and the test of it
index_agrees : (top base o d n code room size : ℕ) (l : Library) (g : Scope) (b : Base) (e : Expr) (p : Place) (k : ℕ) (m : Memory) (s : State)
    (look : ℤ → Option Val) (next : ℤ → Val → State → Eval) (rest : List Step) (next' : Memory → Ran) →
    ExpressionsAgree → Calls top l g.structs g.tops g.funs → IsWholeType b → Fits g (o + 1) n (plain_type b) e →
    Holds top base d n g m s → d ≤ o → o + 1 ≤ n → cell_at (from_base base o) m ≡ pos k →
    ((i : ℕ) → look (negsuc i) ≡ None) → ((i : ℕ) → room ≤ i → look (pos i) ≡ None) →
    ((i : ℕ) → i < room → (v : Val) × (look (pos i) ≡ Some v) × (k + i * size < 2 ^ 63) ×
    ((m' : Memory) (s' : State) → Kept top base o g m m' s s' → cell_at (from_base base o) m' ≡ pos (k + i * size) →
    AgreesStmt top base d n g m' (next (pos i) v s') (then_run (go_all rest base m') next'))) →
    AgreesStmt top base d n g m (then_eval (ev l e s) (λ w s1. found code p (look (num_of w)) s1 (next (num_of w))))
    (then_run (go_all (code_of g e (o + 1) ++ (Locate (Local o) (Local o) (stands g e (o + 1))
    (record { room = room; size = size; code = code; at = p }) ∷ rest)) base m) next')
index_agrees top base o d n code room size l g b e p k m s look next rest next' agree fa whole f h le fit here negative outside inside =
    let elements : Elements = record { room = room; size = size; code = code; at = p } in
    let x : Spot = stands g e (o + 1) in
    let last : List Step = Locate (Local o) (Local o) x elements ∷ rest in
    let room_left : base + n ≤ length m.cells = h.room in
    let small : length m.cells < 2 ^ 63 = h.small in
    let apart : top ≤ base = h.apart in
    let q : from_base base o ≡ base + o = low_place base o (omega arith) in
    let meant : Eval = then_eval (ev l e s) (λ w s1. found code p (look (num_of w)) s1 (next (num_of w))) in
    subst (λ r. AgreesStmt top base d n g m meant r)
    (sym (ap (λ r. then_run r next') (go_all-append (code_of g e (o + 1)) last base m)
    ∙ then-then (go_all (code_of g e (o + 1)) base m) (go_all last base) next'))
    (after_expression top base (o + 1) d n g g (plain_type b) x m s (ev l e s) (go_all (code_of g e (o + 1)) base m) _ _ (same_tops g)
    (fewer base (o + 1) d g (omega arith))
    (agree top base (o + 1) n l g fa (plain_type b) e m s f.0 f.1 (holds_more top base d (o + 1) n g m s (omega arith) h))
    (λ v s1 m1 st kept.
    let number = number_is g.structs b v whole st.shape in
    let z : ℤ = number.0 in
    let at : cell_at (place_of base x) m1 ≡ z = (subst (λ v. At m1.cells (place_of base x) (cells_of v)) number.1 st.cells).1 in
    let offset : cell_at (from_base base o) m1 ≡ pos k = kept.same (from_base base o) (omega arith) (omega arith) ∙ here in
    let kept_o : Kept top base o g m m1 s s1 = kept_less top base o (o + 1) g m m1 s s1 (omega arith) kept in
    let h1 : Holds top base d n g m1 s1 = kept_holds top base d d n g m m1 s s1 (omega arith) h
    (kept_less top base d (o + 1) g m m1 s s1 (omega arith) kept) in
    let on : Memory → Ran = λ m2. then_run (go_all rest base m2) next' in
    subst (λ y. AgreesStmt top base d n g m1 (found code p (look y) s1 (next y)) (then_run (go_all last base m1) next')) (sym (ap num_of number.1))
    (subst (λ r. AgreesStmt top base d n g m1 (found code p (look z) s1 (next z)) r)
    (sym (then-then (located_to (Local o) (Local o) x elements base m1) (go_all rest base) next'
    ∙ ap (λ y. then_run (put_or_trap (offset_of y (cell_at (place_of base x) m1) elements) (from_base base o) p m1) on) offset
    ∙ ap (λ y. then_run (put_or_trap (offset_of (pos k) y elements) (from_base base o) p m1) on) at))
    (by_test top base o d n code room size g p k z m1 s1 look (next z) on h1 le fit negative outside
    (λ i is lt.
    let w = inside i lt in (
      w.0,
      w.1,
      w.2,
      λ m2 k2 c2.
          subst (λ y. AgreesStmt top base d n g m2 (next y w.0 s1) (then_run (go_all rest base m2) next')) (sym is)
          (w.3 m2 s1 (kept_kept top base o g m m1 m2 s s1 s1 kept_o k2) c2),
    ))))))

-- what is known where a path goes on: the offset of the value so far is in its cell
pub record Underway (top base o d n : ℕ) (l : Library) (g : Scope) (ty : Ty) (old : Val) (k : ℕ) (m : Memory) (s : State) : Type 0 where
  pub agree : ExpressionsAgree
  pub calls : Calls top l g.structs g.tops g.funs
  pub shape : Shaped g.structs ty old
  pub small : k + layout_of g.structs ty < 2 ^ 63
  pub holds : Holds top base d n g m s
  pub after : d ≤ o
  pub fit : o + 1 ≤ n
  pub here : cell_at (from_base base o) m ≡ pos k

-- the rest of a path does what it means, from wherever what is before it leads
abbrev pub Follows : ℕ → ℕ → ℕ → ℕ → ℕ → Library → Scope → Ty → Ty → List Access → (Memory → Ran) → Type 0
Follows top base o d n l g ty t path next' =
    (old : Val) (k : ℕ) (m : Memory) (s : State) (next : List Way → State → Eval) → Underway top base o d n l g ty old k m s →
    Onward top base o d n g ty t k (along_shift g ty path) m s next next' →
    AgreesStmt top base d n g m (along l path old s next) (then_run (go_all (along_code g ty o path) base m) next')

-- one step of a path, and those behind it
on_from : (top base o d n : ℕ) (g : Scope) (ty u t : Ty) (k by shift shift' : ℕ) (m m1 : Memory) (s s1 : State) (step : Way)
    (next : List Way → State → Eval) (next' : Memory → Ran) →
    ((j : ℕ) (steps : List Way) → Writes g.structs u t (shift + j) steps → Writes g.structs ty t (shift' + (by + j)) (step ∷ steps)) →
    Kept top base o g m m1 s s1 → Onward top base o d n g ty t k shift' m s next next' →
    Onward top base o d n g u t (k + by) shift m1 s1 (λ steps. next (step ∷ steps)) next'
on_from top base o d n g ty u t k by shift shift' m m1 s s1 step next next' writes kept on steps m2 s2 w =
    on (step ∷ steps) m2 s2 (record {
      kept = kept_kept top base o g m m1 m2 s s1 s2 kept w.kept;
      offset = by + w.offset;
      here = w.here ∙ ap pos (let e : k + by + w.offset ≡ k + (by + w.offset) = omega arith in e);
      writes = writes w.offset steps w.writes;
    })

-- an element on a path
element_agrees : (top base o d n c : ℕ) (l : Library) (g : Scope) (b : Base) (u t : Ty) (e : Expr) (p : Place) (path : List Access)
    (next' : Memory → Ran) →
    IsWholeType b → Fits g (o + 1) n (plain_type b) e → Follows top base o d n l g u t path next' →
    Follows top base o d n l g (array_type c u) t (Index e p ∷ path) next'
element_agrees top base o d n c l g b u t e p path next' whole f rest old k m s next w on =
    let size : ℕ = layout_of g.structs u in
    index_agrees top base o d n 2 c size l g b e p k m s (element (parts old))
    (λ z v s1. along l path v s1 (λ steps. next (ToElement (position z) ∷ steps)))
    (along_code g u o path) next' w.agree w.calls whole f w.holds w.after w.fit w.here (λ i. refl)
    (λ i ge. elements-end g.structs c u old i w.shape ge)
    (λ i lt.
    let a = elements-stand g.structs c u old i w.shape lt in
    let r = inside_ends g.structs (array_type c u) u old a.value (i * size) w.shape a.stands in
    let small = w.small in (
      a.value,
      a.is,
      (omega arith),
      λ m1 s1 kept here.
          rest a.value (k + i * size) m1 s1 (λ steps. next (ToElement i ∷ steps)) (record {
            agree = w.agree;
            calls = w.calls;
            shape = a.stands.shape;
            small = omega arith;
            holds = kept_holds top base d d n g m m1 s s1 (omega arith) w.holds (kept_less top base d o g m m1 s s1 w.after kept);
            after = w.after;
            fit = w.fit;
            here = here;
          })
          (on_from top base o d n g (array_type c u) u t k (i * size) (along_shift g u path) (along_shift g u path) m m1 s s1 (ToElement i) next next'
          (λ j steps ws. subst (λ z. Writes g.structs (array_type c u) t z (ToElement i ∷ steps))
          (let q : i * size + (along_shift g u path + j) ≡ along_shift g u path + (i * size + j) = omega arith in q)
          (writes_element g.structs c u t old i (along_shift g u path + j) steps w.shape lt ws)) kept on),
    ))

-- a slice on a path
slice_agrees : (top base o d n c len : ℕ) (l : Library) (g : Scope) (b : Base) (u t : Ty) (e : Expr) (p : Place) (path : List Access)
    (next' : Memory → Ran) →
    IsWholeType b → Fits g (o + 1) n (plain_type b) e → Follows top base o d n l g (array_type len u) t path next' →
    Follows top base o d n l g (array_type c u) t (Slice e len p ∷ path) next'
slice_agrees top base o d n c len l g b u t e p path next' whole f rest old k m s next w on =
    let size : ℕ = layout_of g.structs u in
    let shift : ℕ = along_shift g (array_type len u) path in
    index_agrees top base o d n 3 (c + 1 - len) size l g b e p k m s (λ z. range (parts old) z len)
    (λ z v s1. along l path v s1 (λ steps. next (ToRange (position z) len ∷ steps)))
    (along_code g (array_type len u) o path) next' w.agree w.calls whole f w.holds w.after w.fit w.here (λ i. refl)
    (λ i ge. ranges-end g.structs c u old i len w.shape (omega arith))
    (λ i lt.
    let inside : i + len ≤ c = omega arith in
    let a = ranges-stand g.structs c u old i len w.shape inside in
    let r = inside_ends g.structs (array_type c u) (array_type len u) old a.value (i * size) w.shape a.stands in
    let small = w.small in (
      a.value,
      a.is,
      (omega arith),
      λ m1 s1 kept here.
          rest a.value (k + i * size) m1 s1 (λ steps. next (ToRange i len ∷ steps)) (record {
            agree = w.agree;
            calls = w.calls;
            shape = a.stands.shape;
            small = omega arith;
            holds = kept_holds top base d d n g m m1 s s1 (omega arith) w.holds (kept_less top base d o g m m1 s s1 w.after kept);
            after = w.after;
            fit = w.fit;
            here = here;
          })
          (on_from top base o d n g (array_type c u) (array_type len u) t k (i * size) shift shift m m1 s s1 (ToRange i len) next next'
          (λ j steps ws. subst (λ z. Writes g.structs (array_type c u) t z (ToRange i len ∷ steps))
          (let q : i * size + (shift + j) ≡ shift + (i * size + j) = omega arith in q)
          (writes_range g.structs c u t old i len (shift + j) steps w.shape inside ws)) kept on),
    ))

-- a part on a path
part_agrees : (top base o d n i : ℕ) (l : Library) (g : Scope) (ty u t : Ty) (name : List ℕ) (p : Place) (path : List Access) (next' : Memory → Ran) →
    PartFits g.structs ty i u → Follows top base o d n l g u t path next' → Follows top base o d n l g ty t (Part name i p ∷ path) next'
part_agrees top base o d n i l g ty u t name p path next' f rest old k m s next w on =
    let q : u ≡ part_type g.structs ty i = sym (part_found g.structs ty i u f) in
    let shift : ℕ = along_shift g u path in
    let before : ℕ = part_offset g.structs ty i in
    let part = part_stands g.structs ty i u old f w.shape in
    let room = inside_ends g.structs ty u old (part_of i old) before w.shape part in
    let small = w.small in
    let kept = holds_kept top base d o n g m s w.holds in
    subst (λ x. Onward top base o d n g ty t k (before + along_shift g x path) m s next next' →
    AgreesStmt top base d n g m (along l path (part_of i old) s (λ steps. next (ToPart i ∷ steps)))
    (then_run (go_all (along_code g x o path) base m) next')) q
    (λ on'. rest (part_of i old) k m s (λ steps. next (ToPart i ∷ steps)) (record {
      agree = w.agree;
      calls = w.calls;
      shape = part.shape;
      small = omega arith;
      holds = w.holds;
      after = w.after;
      fit = w.fit;
      here = w.here;
    })
    (λ steps m1 s1 ws. on' (ToPart i ∷ steps) m1 s1 (record {
      kept = ws.kept;
      offset = ws.offset;
      here = ws.here;
      writes = subst (λ z. Writes g.structs ty t z (ToPart i ∷ steps))
          (let e : before + (shift + ws.offset) ≡ before + shift + ws.offset = omega arith in e)
          (writes_part g.structs ty u t i (shift + ws.offset) old steps w.shape f ws.writes);
    })))
    on

-- no path
no_path : (top base o d n : ℕ) (l : Library) (g : Scope) (ty t : Ty) (next' : Memory → Ran) → ty ≡ t → Follows top base o d n l g ty t [] next'
no_path top base o d n l g ty t next' f old k m s next w on =
    on [] m s (record {
      kept = holds_kept top base d o n g m s w.holds;
      offset = 0;
      here = w.here ∙ ap pos (let e : k ≡ k + 0 = omega arith in e);
      writes = subst (λ t. Writes g.structs ty t 0 []) f (writes_all g.structs ty);
    })

-- the code of a path does what the path means
pub along_agrees : (path : List Access) (top base o d n : ℕ) (l : Library) (g : Scope) (ty t : Ty) (next' : Memory → Ran) →
    AlongFits g o n ty path t → Follows top base o d n l g ty t path next'
along_agrees [] top base o d n l g ty t next' f = no_path top base o d n l g ty t next' f
along_agrees (Index e p ∷ path) top base o d n l g ty t next' f =
    subst (λ ty. Follows top base o d n l g ty t (Index e p ∷ path) next') (sym f.3)
    (element_agrees top base o d n f.0 l g f.2 f.1 t e p path next' f.4 f.5 (along_agrees path top base o d n l g f.1 t next' f.6))
along_agrees (Slice e k p ∷ path) top base o d n l g ty t next' f =
    subst (λ ty. Follows top base o d n l g ty t (Slice e k p ∷ path) next') (sym f.3)
    (slice_agrees top base o d n f.0 k l g f.2 f.1 t e p path next' f.4 f.5 (along_agrees path top base o d n l g (array_type k f.1) t next' f.6))
along_agrees (Part name k p ∷ path) top base o d n l g ty t next' f =
    part_agrees top base o d n k l g ty f.0 t name p path next' f.1 (along_agrees path top base o d n l g f.0 t next' f.2)
