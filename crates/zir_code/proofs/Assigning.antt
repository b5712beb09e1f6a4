-- The code of assignments does what they mean.
use Rattle.std.specs.Prelude.{ℕ, zero, suc, pos, ◌+◌, ◌<◌, ◌≤◌, ◌^◌, List, [], ◌∷◌, ◌++◌, Bool, true, false, Some, ◌≡◌, refl, length}
use Rattle.std.proofs.Common.{ap, ◌∙◌, sym, subst, arith, inl, inr}
use Rattle.zir_tree.specs.declared.value.Val.{Val, Unit as UnitVal}
use Rattle.zir_tree.specs.declared.types.Ty.{Ty}
use Rattle.zir_tree.specs.declared.expr.Expr.{Expr}
use Rattle.zir_tree.specs.declared.stmt.Access.{Access}
use Rattle.zir_tree.specs.declared.stmt.Access.TheVariants.{Index, Slice, Part}
use Rattle.zir_meaning.specs.Store.{look_up}
use Rattle.zir_meaning.specs.Trace.{State}
use Rattle.zir_meaning.specs.Evaluation.{Eval, Got, Library, then_eval, ev}
use Rattle.zir_meaning.specs.Functions.{pick}
use Rattle.zir_meaning.specs.Statements.{Step as Way, replaced, along, assign}
use Rattle.zir_cells.specs.Layout.{layout_of}
use Rattle.zir_shapes.specs.Offsets.{array_type}
use Rattle.zir_shapes.proofs.Fitting.{sizes-fit}
use Rattle.zir_expr.specs.declared.frame.Spot.{Spot}
use Rattle.zir_expr.specs.declared.frame.Spot.TheVariants.{Local}
use Rattle.zir_expr.specs.declared.steps.Step.{Step, Number, Store}
use Rattle.zir_expr.specs.Memory.{Done, then_run, cell_at, put_cell, moved, from_base, place_of, address_of}
use Rattle.zir_expr.specs.Memory.Frames.{Memory}
use Rattle.zir_expr.specs.Running.{go_all}
use Rattle.zir_code.specs.declared.scope.Holder.{Holder}
use Rattle.zir_code.specs.Scopes.{Scope, variable, shifted}
use Rattle.zir_code.specs.Types.{element_type, part_type, cells_for, size_in}
use Rattle.zir_code.specs.Coding.{stands, code_of, settling, moving}
use Rattle.zir_code.specs.Typing.{HolderFits}
use Rattle.zir_code.specs.Holding.{Holds, Kept, StandsAt}
use Rattle.zir_code.specs.Peaks.{behind}
use Rattle.zir_code.specs.Statements.{has_index, along_code, along_shift, along_peak, kept_at, keeping, storing, storing_if, storing_peak, assign_code}
use Rattle.zir_code.specs.Fine.{SoleIn, Fits, AlongFits}
use Rattle.zir_code.specs.Calls.{Calls}
use Rattle.zir_code.specs.Laws.{ExpressionsAgree}
use Rattle.zir_code.proofs.Sparing.{AgreesSparing as AgreesStmt, Narrows, fewer}
use Rattle.zir_code.proofs.Kept.{low_place, variable_found, kept_holds, kept_less, holds_kept, changed_cell, cell_written, kept_changed}
use Rattle.zir_code.proofs.Agreeing.{go_all-append}
use Rattle.zir_code.proofs.Moves.{Placed, Goes, Settled, settles, moving_goes}
use Rattle.zir_code.proofs.TypesFound.{types_are_found}
use Rattle.zir_code.proofs.Places.{placed}
use Rattle.zir_code.proofs.Room.{value_room}
use Rattle.zir_code.proofs.Alike.{SameTops, same_tops, from_expression, from_alike, alike_kept}
use Rattle.zir_code.proofs.Along.{along_agrees}
use Rattle.zir_code.proofs.Storing.{Ready, ready_kept, store_agrees, shifted_place, parts_alone}
use Rattle.zir_code.proofs.Locating.{low_address}

-- code that ends goes on
pub goes_on : (P : Memory → Type 0) (first rest : List Step) (base : ℕ) (m : Memory) (w : Goes P (go_all first base m)) →
    go_all (first ++ rest) base m ≡ go_all rest base w.memory
goes_on P first rest base m w = go_all-append first rest base m ∙ ap (λ q. then_run q (go_all rest base)) w.is

-- where the value of an expression stands, where there is room for its code
pub fitting : (top base d n : ℕ) (l : Library) (g : Scope) (t : Ty) (e : Expr) (m : Memory) (s : State) → Fits g d n t e → Holds top base d n g m s →
    Placed top base d d (layout_of g.structs t) (stands g e d)
fitting top base d n l g t e m s f h =
    let room = value_room g n t e d f.0 in
    let fit = f.1 in
    placed top base d n d l g t e m s (omega arith) (omega arith) (omega arith) f.0 h

-- the value of an expression in the first free cells, and what follows
pub after_settled : (top base d d' n k : ℕ) (l : Library) (g g' : Scope) (t : Ty) (e : Expr) (m : Memory) (s : State) (next : Val → State → Eval)
    (rest : List Step) →
    SameTops g g' → Narrows base d d' g g' → ExpressionsAgree → Calls top l g.structs g.tops g.funs → Fits g d n t e → k ≡ layout_of g.structs t →
    Holds top base d n g m s →
    ((v : Val) (s' : State) (m' : Memory) → StandsAt g.structs t v m' (base + d) → Kept top base d g m m' s s' →
    AgreesStmt top base d' n g' m' (next v s') (go_all rest base m')) →
    AgreesStmt top base d' n g' m (then_eval (ev l e s) next) (go_all (code_of g e d ++ (settling (stands g e d) d k ++ rest)) base m)
after_settled top base d d' n k l g g' t e m s next rest z narrow agree calls f size h on =
    let x : Spot = stands g e d in
    let fit = f.1 in
    let room = value_room g n t e d f.0 in
    subst (λ k. AgreesStmt top base d' n g' m (then_eval (ev l e s) next) (go_all (code_of g e d ++ (settling x d k ++ rest)) base m)) (sym size)
    (subst (λ q. AgreesStmt top base d' n g' m (then_eval (ev l e s) next) q)
    (sym (go_all-append (code_of g e d) (settling x d (layout_of g.structs t) ++ rest) base m))
    (from_expression top base d d' n g g' t x m s (ev l e s) (go_all (code_of g e d) base m) next
    (go_all (settling x d (layout_of g.structs t) ++ rest) base) z
    (agree top base d n l g calls t e m s f.0 f.1 h)
    (λ v s1 m1 st kept.
    let w = settles top base d n g t v x m m1 s s1 h.apart (omega arith) h.room h.small kept st (fitting top base d n l g t e m s f h) in
    subst (λ q. AgreesStmt top base d' n g' m (next v s1) q) (sym (goes_on (Settled top base d g t v m s s1)
    (settling x d (layout_of g.structs t)) rest base m1 w))
    (from_alike top base d' n g' m w.memory _ _ (alike_kept top base d d' g g' m w.memory s s1 narrow w.so.kept)
    (on v s1 w.memory w.so.stands w.so.kept)))))

-- a value of one cell at most is ready where it stands
few_ready : (top base d k : ℕ) (g : Scope) (t : Ty) (v : Val) (x : Spot) (m : Memory) → k ≤ 1 → k ≡ layout_of g.structs t →
    StandsAt g.structs t v m (place_of base x) → Placed top base d d (layout_of g.structs t) x → Ready top base d k g t v x m
few_ready top base d k g t v x m few size st p = record {
  size = size;
  stands = st;
  after = p.after;
  before = elim p.before [ inl a ↦ omega arith | inr a ↦ omega arith ];
  apart = inl few;
}

-- the value of an assignment is ready to be stored
kept_value : (k top base d n : ℕ) (l : Library) (g : Scope) (t : Ty) (e : Expr) (m : Memory) (s : State) (next : Val → State → Eval)
    (rest : List Step) →
    ExpressionsAgree → Calls top l g.structs g.tops g.funs → Fits g d n t e → k ≡ layout_of g.structs t → Holds top base d n g m s →
    ((v : Val) (s' : State) (m' : Memory) → Ready top base d k g t v (kept_at (stands g e d) d k) m' → Kept top base d g m m' s s' →
    AgreesStmt top base d n g m' (next v s') (go_all rest base m')) →
    AgreesStmt top base d n g m (then_eval (ev l e s) next) (go_all (code_of g e d ++ (keeping (stands g e d) d k ++ rest)) base m)
kept_value zero top base d n l g t e m s next rest agree calls f size h on =
    let x : Spot = stands g e d in
    let p = fitting top base d n l g t e m s f h in
    subst (λ q. AgreesStmt top base d n g m (then_eval (ev l e s) next) q) (sym (go_all-append (code_of g e d) rest base m))
    (from_expression top base d d n g g t x m s (ev l e s) (go_all (code_of g e d) base m) next (go_all rest base) (same_tops g)
    (agree top base d n l g calls t e m s f.0 f.1 h)
    (λ v s1 m1 st kept. from_alike top base d n g m m1 _ _ (alike_kept top base d d g g m m1 s s1 (fewer base d d g (omega arith)) kept)
    (on v s1 m1 (few_ready top base d 0 g t v x m1 (omega arith) size st p) kept)))
kept_value (suc zero) top base d n l g t e m s next rest agree calls f size h on =
    let x : Spot = stands g e d in
    let p = fitting top base d n l g t e m s f h in
    subst (λ q. AgreesStmt top base d n g m (then_eval (ev l e s) next) q) (sym (go_all-append (code_of g e d) rest base m))
    (from_expression top base d d n g g t x m s (ev l e s) (go_all (code_of g e d) base m) next (go_all rest base) (same_tops g)
    (agree top base d n l g calls t e m s f.0 f.1 h)
    (λ v s1 m1 st kept. from_alike top base d n g m m1 _ _ (alike_kept top base d d g g m m1 s s1 (fewer base d d g (omega arith)) kept)
    (on v s1 m1 (few_ready top base d 1 g t v x m1 (omega arith) size st p) kept)))
kept_value (suc (suc k)) top base d n l g t e m s next rest agree calls f size h on =
    let fit = f.1 in
    let room = value_room g n t e d f.0 in
    let left : base + n ≤ length m.cells = h.room in
    let small : length m.cells < 2 ^ 63 = h.small in
    let apart : top ≤ base = h.apart in
    let q : from_base base d ≡ base + d = low_place base d (omega arith) in
    after_settled top base d d n (suc (suc k)) l g g t e m s next rest (same_tops g) (fewer base d d g (omega arith)) agree calls f size h
    (λ v s1 m1 st kept. on v s1 m1 (record {
      size = size;
      stands = subst (λ i. StandsAt g.structs t v m1 i) (sym q) st;
      after = omega arith;
      before = omega arith;
      apart = inr (omega arith);
    }) kept)

-- the offset of a path has a cell
along_end : (path : List Access) (g : Scope) (ty : Ty) (o : ℕ) → o + 1 ≤ along_peak g ty o path
along_end [] g ty o = omega arith
along_end (Index e p ∷ path) g ty o = (let h = along_end path g (element_type ty) o in omega arith)
along_end (Slice e k p ∷ path) g ty o = (let h = along_end path g (array_type k (element_type ty)) o in omega arith)
along_end (Part name k p ∷ path) g ty o = along_end path g (part_type g.structs ty k) o

-- what is known where a value is ready to go along a path into a variable
record Storable (top base d n k : ℕ) (l : Library) (g : Scope) (id : ℕ) (v : Holder) (t : Ty) (w : Val) (y : Spot) (path : List Access) (m : Memory)
    (s : State) : Type 0 where
  pub agree : ExpressionsAgree
  pub calls : Calls top l g.structs g.tops g.funs
  pub found : variable g id ≡ Some v
  pub sole : SoleIn g id v
  pub fits : HolderFits g n v
  pub leads : AlongFits g (d + k) n v.ty path t
  pub holds : Holds top base d n g m s
  pub ready : Ready top base d k g t w y m

-- a variable with another value at a path into it
abbrev stored : ℕ → Val → List Way → State → Eval
stored id w steps s = Got UnitVal (assign id (replaced steps w (look_up s.store id)) s)

-- along indexes
stores_at : (top base d n k : ℕ) (l : Library) (g : Scope) (id : ℕ) (v : Holder) (t : Ty) (w : Val) (y : Spot) (path : List Access) (m : Memory)
    (s : State) → d + k + 1 ≤ n → Storable top base d n k l g id v t w y path m s →
    AgreesStmt top base d n g m (along l path (look_up s.store id) s (stored id w))
    (go_all (Number (Local (d + k)) (pos 0) ∷ (along_code g v.ty (d + k) path ++ Store (shifted v.spot (along_shift g v.ty path))
    (Local (d + k)) y k ∷ [])) base m)
stores_at top base d n k l g id v t w y path m s fit z =
    let h = z.holds in
    let o : ℕ = d + k in
    let shift : ℕ = along_shift g v.ty path in
    let to : Spot = shifted v.spot shift in
    let last : List Step = Store to (Local o) y k ∷ [] in
    let left : base + n ≤ length m.cells = h.room in
    let small : length m.cells < 2 ^ 63 = h.small in
    let apart : top ≤ base = h.apart in
    let q : from_base base o ≡ base + o = low_place base o (omega arith) in
    let m1 : Memory = put_cell (from_base base o) (pos 0) m in
    let kept : Kept top base o g m m1 s s = kept_changed top base o (from_base base o) (from_base base o + 1) g m m m1 s s apart (omega arith)
    (holds_kept top base d o n g m s h) (changed_cell (from_base base o) (pos 0) m) in
    let h1 : Holds top base d n g m1 s = kept_holds top base d d n g m m1 s s (omega arith) h
    (kept_less top base d o g m m1 s s (omega arith) kept) in
    let f = variable_found top base d n g m s id v h z.found in
    let end = f.before in
    let size = sizes-fit g.structs v.ty (look_up s.store id) f.shape in
    from_alike top base d n g m m1 _ _ (alike_kept top base o d g g m m1 s s (fewer base o d g (omega arith)) kept)
    (subst (λ r. AgreesStmt top base d n g m1 (along l path (look_up s.store id) s (stored id w)) r)
    (sym (go_all-append (along_code g v.ty o path) last base m1))
    (along_agrees path top base o d n l g v.ty t (go_all last base) z.leads (look_up s.store id) 0 m1 s (stored id w) (record {
      agree = z.agree;
      calls = z.calls;
      shape = f.shape;
      small = omega arith;
      holds = h1;
      after = omega arith;
      fit = fit;
      here = cell_written (from_base base o) (pos 0) m (omega arith);
    })
    (λ steps m2 s2 walked.
    let j : ℕ = walked.offset in
    let room = walked.writes.room in
    let h2 : Holds top base d n g m2 s2 = kept_holds top base d d n g m1 m2 s s2 (omega arith) h1
    (kept_less top base d o g m1 m2 s s2 (omega arith) walked.kept) in
    let ready : Ready top base d k g t w y m2 = ready_kept top base d k g t w y m1 m2 s s2 walked.kept
    (ready_kept top base d k g t w y m m1 s s kept z.ready) in
    let cells = z.fits.cells in
    let f2 = variable_found top base d n g m2 s2 id v h2 z.found in
    let end2 = f2.before in
    let size2 = sizes-fit g.structs v.ty (look_up s2.store id) f2.shape in
    let place : place_of base to ≡ place_of base v.spot + shift = shifted_place base n shift v.spot v.cells z.fits.spot (omega arith) (omega arith) in
    let address : address_of base to (cell_at (from_base base o) m2) ≡ place_of base v.spot + (shift + j) =
    ap (address_of base to) walked.here ∙ low_address base (0 + j) to (omega arith)
    ∙ (let e : place_of base to + (0 + j) ≡ place_of base v.spot + (shift + j) = omega arith in e) in
    subst (λ i. AgreesStmt top base d n g m2 (stored id w steps s2) (Done (moved k i (place_of base y) m2))) (sym address)
    (store_agrees top base d k n (shift + j) g id v t w y steps m2 s2 z.found z.sole z.fits (omega arith) h2 ready walked.writes))))

-- along parts alone
stores_parts : (top base d n k : ℕ) (l : Library) (g : Scope) (id : ℕ) (v : Holder) (t : Ty) (w : Val) (y : Spot) (path : List Access) (m : Memory)
    (s : State) → has_index path ≡ false → d + k ≤ n → Storable top base d n k l g id v t w y path m s →
    AgreesStmt top base d n g m (along l path (look_up s.store id) s (stored id w))
    (go_all (moving (shifted v.spot (along_shift g v.ty path)) y k) base m)
stores_parts top base d n k l g id v t w y path m s none fit z =
    let h = z.holds in
    let shift : ℕ = along_shift g v.ty path in
    let to : Spot = shifted v.spot shift in
    let left : base + n ≤ length m.cells = h.room in
    let small : length m.cells < 2 ^ 63 = h.small in
    let f = variable_found top base d n g m s id v h z.found in
    let p = parts_alone path l g (d + k) n v.ty t (look_up s.store id) none z.leads f.shape in
    let room = p.writes.room in
    let cells = z.fits.cells in
    let place : place_of base to ≡ place_of base v.spot + shift = shifted_place base n shift v.spot v.cells z.fits.spot (omega arith) (omega arith) in
    subst (λ r. AgreesStmt top base d n g m r (go_all (moving to y k) base m)) (sym (p.is s (stored id w)))
    (subst (λ r. AgreesStmt top base d n g m (stored id w p.steps s) r)
    (sym (moving_goes to y k base m ∙ ap (λ i. Done (moved k i (place_of base y) m)) place))
    (store_agrees top base d k n shift g id v t w y p.steps m s z.found z.sole z.fits fit h z.ready p.writes))

stores_by : (b : Bool) (top base d n k : ℕ) (l : Library) (g : Scope) (id : ℕ) (v : Holder) (t : Ty) (w : Val) (y : Spot) (path : List Access)
    (m : Memory) (s : State) → has_index path ≡ b →
    pick b (along_peak g v.ty (d + k) path) (behind d k) ≤ n → Storable top base d n k l g id v t w y path m s →
    AgreesStmt top base d n g m (along l path (look_up s.store id) s (stored id w))
    (go_all (pick b (Number (Local (d + k)) (pos 0) ∷ (along_code g v.ty (d + k) path ++ Store (shifted v.spot (along_shift g v.ty path))
    (Local (d + k)) y k ∷ [])) (moving (shifted v.spot (along_shift g v.ty path)) y k)) base m)
stores_by true top base d n k l g id v t w y path m s e fit z = stores_at top base d n k l g id v t w y path m s
    (let a = along_end path g v.ty (d + k) in omega arith) z
stores_by false top base d n k l g id v t w y path m s e fit z = stores_parts top base d n k l g id v t w y path m s e (omega arith) z

-- the code of an assignment
pub assigns : (top base d n : ℕ) (l : Library) (g : Scope) (id : ℕ) (path : List Access) (e : Expr) (t : Ty) (v : Holder) (m : Memory) (s : State) →
    ExpressionsAgree → Calls top l g.structs g.tops g.funs →
    variable g id ≡ Some v → SoleIn g id v → HolderFits g n v → Fits g d n t e → AlongFits g (d + cells_for g t) n v.ty path t →
    storing_peak g (Some v) path d (cells_for g t) ≤ n → Holds top base d n g m s →
    AgreesStmt top base d n g m (then_eval (ev l e s) (λ w s1. along l path (look_up s1.store id) s1 (stored id w)))
    (go_all (assign_code g d id path e) base m)
assigns top base d n l g id path e t v m s agree calls q sole fits f leads fit h =
    let x : Spot = stands g e d in
    let k : ℕ = cells_for g t in
    let meant : Eval = then_eval (ev l e s) (λ w s1. along l path (look_up s1.store id) s1 (stored id w)) in
    let size : size_in g e ≡ k = ap (cells_for g) (types_are_found g n t e f.0) in
    subst (λ i. AgreesStmt top base d n g m meant (go_all (code_of g e d ++
    (keeping x d i ++ storing_if g (variable g id) path (kept_at x d i) (d + i) i)) base m)) (sym size)
    (subst (λ o. AgreesStmt top base d n g m meant (go_all (code_of g e d ++ (keeping x d k ++ storing_if g o path (kept_at x d k) (d + k) k)) base
    m)) (sym q)
    (kept_value k top base d n l g t e m s (λ w s1. along l path (look_up s1.store id) s1 (stored id w))
    (storing g v path (kept_at x d k) (d + k) k) agree calls f refl h
    (λ w s1 m1 ready kept. stores_by (has_index path) top base d n k l g id v t w (kept_at x d k) path m1 s1 refl fit (record {
      agree = agree;
      calls = calls;
      found = q;
      sole = sole;
      fits = fits;
      leads = leads;
      holds = kept_holds top base d d n g m m1 s s1 (omega arith) h kept;
      ready = ready;
    }))))
