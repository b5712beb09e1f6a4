-- Where a path begins: a variable, its copy, or a value in the first free cells.
use Rattle.std.specs.Prelude.{ℕ, pos, ◌+◌, ◌<◌, ◌≤◌, ◌^◌, List, [], ◌∷◌, ◌++◌, Bool, true, false, Option, Some, ◌≡◌, ◌⊎◌, refl, length}
use Rattle.std.proofs.Common.{ap, ◌∙◌, sym, subst, arith, inl, inr}
use Rattle.zir_tree.specs.declared.value.Val.{Val}
use Rattle.zir_tree.specs.declared.types.Ty.{Ty}
use Rattle.zir_meaning.specs.Functions.{pick}
use Rattle.zir_meaning.specs.Store.{look_up}
use Rattle.zir_meaning.specs.Trace.{State}
use Rattle.zir_meaning.specs.Evaluation.{Eval, Got}
use Rattle.zir_cells.specs.Cells.{cells_of}
use Rattle.zir_cells.specs.Layout.{layout_of}
use Rattle.zir_shapes.specs.Shapes.{Shaped}
use Rattle.zir_shapes.proofs.Fitting.{sizes-fit}
use Rattle.zir_expr.specs.declared.frame.Spot.{Spot}
use Rattle.zir_expr.specs.declared.frame.Spot.TheVariants.{Top, Local}
use Rattle.zir_expr.specs.declared.steps.Step.{Step, Number}
use Rattle.zir_expr.specs.Memory.{then_run, put_cell, from_base, place_of}
use Rattle.zir_expr.specs.Memory.Frames.{Memory}
use Rattle.zir_expr.specs.Running.{go_all}
use Rattle.zir_code.specs.declared.scope.Holder.{Holder}
use Rattle.zir_code.specs.Scopes.{Scope, variable}
use Rattle.zir_code.specs.Coding.{moving, is_in_place, width_if, root_if, copying}
use Rattle.zir_code.specs.Typing.{SpotFits, HolderFits}
use Rattle.zir_code.specs.Holding.{At, Holds, Kept, StandsAt, Agrees}
use Rattle.zir_code.proofs.Cells.{at_same}
use Rattle.zir_code.proofs.Kept.{low_place, variable_found, kept_holds, kept_kept, kept_on, holds_kept, Changed, changed_cell, cell_written, kept_changed}
use Rattle.zir_code.proofs.Agreeing.{go_all-append, ends_more}
use Rattle.zir_code.proofs.Moves.{Settled, Goes, moving_settles}
use Rattle.zir_code.proofs.Calm.{Still}
use Rattle.zir_code.proofs.Paths.{Located, PathEnds}

-- a first offset of 0
numbered : (top base d o n : ℕ) (g : Scope) (t : Ty) (still : Bool) (root : Spot) (v : Val) (m m1 : Memory) (s s1 : State) → Holds top base d n g m s →
    d ≤ o → o + 1 ≤ n → Shaped g.structs t v → Kept top base d g m m1 s s1 →
    ((m' : Memory) (s' : State) → Kept top base o g m1 m' s1 s' → Still still s1 s' → At m'.cells (place_of base root) (cells_of v)) →
    (place_of base root + layout_of g.structs t ≤ base + d) ⊎ (base + d ≤ place_of base root) →
    place_of base root + layout_of g.structs t ≤ length m.cells →
    PathEnds top base d o g t still root m s (Got v s1) (go_all (Number (Local o) (pos 0) ∷ []) base m1)
numbered top base d o n g t still root v m m1 s s1 h low fit shape k f side ends =
    let room : base + n ≤ length m.cells = h.room in
    let small : length m.cells < 2 ^ 63 = h.small in
    let apart : top ≤ base = h.apart in
    let size = k.size in
    let i : ℕ = from_base base o in
    let at_i : i ≡ base + o = low_place base o (omega arith) in
    let m2 : Memory = put_cell i (pos 0) m1 in
    let c : Changed i (i + 1) m1 m2 = changed_cell i (pos 0) m1 in
    let size2 = c.size in
    let here : Kept top base o g m1 m2 s1 s1 = kept_changed top base o i (i + 1) g m1 m1 m2 s1 s1 apart (omega arith)
    (holds_kept top base d o n g m1 s1 (kept_holds top base d d n g m m1 s s1 (omega arith) h k)) c in
    let zero' : place_of base root ≡ place_of base root + 0 = omega arith in (
      record {
        shape = shape;
        offset = 0;
        is = cell_written i (pos 0) m1 (omega arith);
        stays = λ m' s' l st. subst (λ p. At m'.cells p (cells_of v)) zero' (f m' s' (kept_kept top base o g m1 m2 m' s1 s1 s' here l) st);
        side = elim side [ inl a ↦ inl (omega arith) | inr a ↦ inr (omega arith) ];
        ends = omega arith;
      },
      kept_on top base d o g m m1 m2 s s1 s1 low k here,
    )

-- a value in the first free cells
free_located : (top base d o n : ℕ) (g : Scope) (t : Ty) (still : Bool) (v : Val) (m m1 : Memory) (s s1 : State) → Holds top base d n g m s →
    d + layout_of g.structs t ≤ o → o + 1 ≤ n → Kept top base d g m m1 s s1 → StandsAt g.structs t v m1 (base + d) →
    PathEnds top base d o g t still (Local d) m s (Got v s1) (go_all (Number (Local o) (pos 0) ∷ []) base m1)
free_located top base d o n g t still v m m1 s s1 h low fit k a =
    let room : base + n ≤ length m.cells = h.room in
    let small : length m.cells < 2 ^ 63 = h.small in
    let apart : top ≤ base = h.apart in
    let at_d : from_base base d ≡ base + d = low_place base d (omega arith) in
    let size = sizes-fit g.structs t v a.shape in
    numbered top base d o n g t still (Local d) v m m1 s s1 h (omega arith) fit a.shape k
    (λ m' s' l st. subst (λ p. At m'.cells p (cells_of v)) (sym at_d)
    (at_same m1.cells m'.cells top (base + o) (base + d) (cells_of v) l.size l.same (omega arith) (omega arith) a.cells))
    (inr (omega arith)) (omega arith)

-- a value that is no path, in the first free cells
pub value_path : (top base d o n : ℕ) (g : Scope) (t : Ty) (still : Bool) (left : List Step) (r : Eval) (m : Memory) (s : State) →
    Holds top base d n g m s → d + layout_of g.structs t ≤ o → o + 1 ≤ n → Agrees top base d g t (Local d) m s r (go_all left base m) →
    PathEnds top base d o g t still (Local d) m s r (go_all (left ++ Number (Local o) (pos 0) ∷ []) base m)
value_path top base d o n g t still left r m s h low fit a =
    let room : base + n ≤ length m.cells = h.room in
    let small : length m.cells < 2 ^ 63 = h.small in
    let at_d : from_base base d ≡ base + d = low_place base d (omega arith) in
    subst (λ q. PathEnds top base d o g t still (Local d) m s r q) (sym (go_all-append left (Number (Local o) (pos 0) ∷ []) base m))
    (ends_more (λ v s1 m1. StandsAt g.structs t v m1 (from_base base d) × Kept top base d g m m1 s s1) (λ s1 m1. Kept top base d g m m1 s s1)
    (λ v s1 m1. Located top base d o g t still (Local d) v m1 s1 × Kept top base d g m m1 s s1) (λ s1 m1. Kept top base d g m m1 s s1)
    r (go_all left base m) (go_all (Number (Local o) (pos 0) ∷ []) base) (λ s1 m1 k. k) a
    (λ v s1 m1 b. free_located top base d o n g t still v m m1 s s1 h low fit b.1 (subst (StandsAt g.structs t v m1) at_d b.0)))

-- a variable that is read where it stands
in_place : (spot : Spot) (still : Bool) (top base d o n : ℕ) (g : Scope) (m m' : Memory) (s s' : State) (id : ℕ) (v : Holder) → d ≤ o → o + 1 ≤ n →
    v.spot ≡ spot → is_in_place still spot ≡ true → variable g id ≡ Some v → HolderFits g n v → Holds top base d n g m s →
    Kept top base o g m m' s s' → Still still s s' → At m'.cells (place_of base v.spot) (cells_of (look_up s.store id))
in_place (Top a) true top base d o n g m m' s s' id v low fit e q f fits h k st =
    let h' : Holds top base o n g m' s' = kept_holds top base d o n g m m' s s' low h k in
    let found' = variable_found top base o n g m' s' id v h' f in
    subst (λ store. At m'.cells (place_of base v.spot) (cells_of (look_up store id))) st found'.cells
in_place (Top a) false top base d o n g m m' s s' id v low fit e q f fits h k st = cc
in_place (Local a) still top base d o n g m m' s s' id v low fit e q f fits h k st =
    let r = variable_found top base d n g m s id v h f in
    let room : base + n ≤ length m.cells = h.room in
    let small : length m.cells < 2 ^ 63 = h.small in
    let apart : top ≤ base = h.apart in
    let inside : a + v.cells ≤ n = subst (λ spot. SpotFits n spot v.cells) e fits.spot in
    let i : from_base base a ≡ base + a = low_place base a (omega arith) in
    let p : place_of base v.spot ≡ from_base base a = ap (place_of base) e in
    let before = r.before in
    at_same m.cells m'.cells top (base + o) (place_of base v.spot) (cells_of (look_up s.store id)) k.size k.same (omega arith) (omega arith) r.cells

variable_if : (b : Bool) (top base d n : ℕ) (g : Scope) (t : Ty) (still : Bool) (m : Memory) (s : State) (id : ℕ) (v : Holder) → d ≤ n →
    is_in_place still v.spot ≡ b → variable g id ≡ Some v → t ≡ v.ty → HolderFits g n v → d + pick b 0 v.cells + 1 ≤ n → Holds top base d n g m s →
    PathEnds top base d (d + pick b 0 v.cells) g t still (pick b v.spot (Local d)) m s (Got (look_up s.store id) s)
    (go_all (pick b [] (moving (Local d) v.spot v.cells) ++ Number (Local (d + pick b 0 v.cells)) (pos 0) ∷ []) base m)
variable_if true top base d n g t still m s id v le q f same fits fit h =
    let r = variable_found top base d n g m s id v h f in
    let room : base + n ≤ length m.cells = h.room in
    let shape : Shaped g.structs t (look_up s.store id) = subst (λ t. Shaped g.structs t (look_up s.store id)) (sym same) r.shape in
    let size = sizes-fit g.structs t (look_up s.store id) shape in
    let before = r.before in
    numbered top base d (d + 0) n g t still v.spot (look_up s.store id) m m s s h (omega arith) fit shape (holds_kept top base d d n g m s h)
    (λ m' s' k st. in_place v.spot still top base d (d + 0) n g m m' s s' id v (omega arith) fit refl q f fits h k st)
    (inl (omega arith)) (omega arith)
variable_if false top base d n g t still m s id v le q f same fits fit h =
    let r = variable_found top base d n g m s id v h f in
    let shape : Shaped g.structs t (look_up s.store id) = subst (λ t. Shaped g.structs t (look_up s.store id)) (sym same) r.shape in
    let size = sizes-fit g.structs t (look_up s.store id) shape in
    let width : v.cells ≡ layout_of g.structs t = fits.cells ∙ ap (layout_of g.structs) (sym same) in
    let before = r.before in
    let last : List Step = Number (Local (d + v.cells)) (pos 0) ∷ [] in
    let c : Goes (Settled top base d g t (look_up s.store id) m s s) (go_all (moving (Local d) v.spot (layout_of g.structs t)) base m) =
    moving_settles top base d n g t (look_up s.store id) v.spot m m s s h.apart (omega arith) h.room h.small (holds_kept top base d d n g m s h)
    (record { shape = shape; cells = r.cells }) (omega arith) in
    let goes : go_all (moving (Local d) v.spot v.cells ++ last) base m ≡ go_all last base c.memory =
    go_all-append (moving (Local d) v.spot v.cells) last base m
    ∙ ap (λ k. then_run (go_all (moving (Local d) v.spot k) base m) (go_all last base)) width
    ∙ ap (λ z. then_run z (go_all last base)) c.is in
    subst (λ z. PathEnds top base d (d + v.cells) g t still (Local d) m s (Got (look_up s.store id) s) z) (sym goes)
    (free_located top base d (d + v.cells) n g t still (look_up s.store id) m c.memory s s h (omega arith) fit c.so.kept c.so.stands)

-- a variable, or its copy
pub variable_path : (top base d n : ℕ) (g : Scope) (t : Ty) (still : Bool) (m : Memory) (s : State) (id : ℕ) (v : Holder) → d ≤ n →
    variable g id ≡ Some v → t ≡ v.ty → HolderFits g n v → d + width_if still (variable g id) + 1 ≤ n → Holds top base d n g m s →
    PathEnds top base d (d + width_if still (variable g id)) g t still (root_if still (variable g id) d) m s (Got (look_up s.store id) s)
    (go_all (copying still (variable g id) d ++ Number (Local (d + width_if still (variable g id))) (pos 0) ∷ []) base m)
variable_path top base d n g t still m s id v le f same fits fit h =
    let P : Option Holder → Type 0 = λ o. PathEnds top base d (d + width_if still o) g t still (root_if still o d) m s (Got (look_up s.store id) s)
    (go_all (copying still o d ++ Number (Local (d + width_if still o)) (pos 0) ∷ []) base m) in
    subst P (sym f)
    (variable_if (is_in_place still v.spot) top base d n g t still m s id v le refl f same fits
    (subst (λ o. d + width_if still o + 1 ≤ n) f fit) h)
