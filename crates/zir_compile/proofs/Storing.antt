-- Values that go into variables.
use Rattle.std.specs.Prelude.{ℕ, pos, ◌+◌, ◌<◌, ◌≤◌, ◌^◌, max, List, [], ◌∷◌, ◌++◌, Bool, true, false, Option, Some, None, ◌≡◌, refl}
use Rattle.std.proofs.Common.{ap, sym, ◌∙◌, subst, arith}
use Rattle.zir_tree.specs.declared.ident.Ident.{Ident}
use Rattle.zir_tree.specs.declared.types.Ty.{Ty}
use Rattle.zir_tree.specs.declared.expr.Expr.{Expr}
use Rattle.zir_tree.specs.declared.stmt.Access.{Access}
use Rattle.zir_tree.specs.declared.stmt.Access.TheVariants.{Index, Slice, Part}
use Rattle.zir_tree.specs.declared.stmt.Stmt.{Assign}
use Rattle.zir_meaning.specs.Functions.{pick}
use Rattle.zir_expr.specs.declared.frame.Spot.{Spot}
use Rattle.zir_expr.specs.declared.frame.Spot.TheVariants.{Top, Local}
use Rattle.zir_expr.specs.declared.steps.Step.{Step, Number, Store}
use Rattle.zir_code.specs.declared.scope.Holder.{Holder}
use Rattle.zir_code.specs.Scopes.{Scope, variable, shifted, number_of}
use Rattle.zir_code.specs.Types.{part_type, size_in}
use Rattle.zir_code.specs.Coding.{stands, code_of, moving}
use Rattle.zir_code.specs.Peaks.{peak_of, behind, is_coded}
use Rattle.zir_code.specs.Statements.{has_index, along_code, along_shift, along_peak, along_coded, kept_at, keeping, storing, storing_if, storing_peak, storing_coded}
use Rattle.zir_compile.specs.declared.made.Placed.{Placed}
use Rattle.zir_compile.specs.declared.made.Path.{Path}
use Rattle.zir_compile.specs.Coded.{Fits, Coded, Leads, Grows}
use Rattle.zir_compile.specs.Extents.{type_at}
use Rattle.zir_compile.specs.Stated.{along_type, AlongFits, StoreFits, StmtFits, Stated, store_code}
use Rattle.zir_compile.proofs.Along.{offset_least}
use Rattle.zir_compile.proofs.Making.{behind_code, small_below, below_small, and_first, and_second, both_true}

-- a path without an index has no code
no_code : (g : Scope) (ty : Ty) (o : ℕ) (path : List Access) → has_index path ≡ false → along_code g ty o path ≡ []
no_code g ty o [] h = refl
no_code g ty o (Index e p ∷ path) h = cc
no_code g ty o (Slice e k p ∷ path) h = cc
no_code g ty o (Part name k p ∷ path) h = no_code g (part_type g.structs ty k) o path h

no_numbers : (g : Scope) (ty : Ty) (o : ℕ) (path : List Access) → has_index path ≡ false → along_coded g ty o path ≡ true
no_numbers g ty o [] h = refl
no_numbers g ty o (Index e p ∷ path) h = cc
no_numbers g ty o (Slice e k p ∷ path) h = cc
no_numbers g ty o (Part name k p ∷ path) h = no_numbers g (part_type g.structs ty k) o path h

no_cells : (g : Scope) (ty : Ty) (o : ℕ) (path : List Access) → has_index path ≡ false → along_peak g ty o path ≡ o + 1
no_cells g ty o [] h = refl
no_cells g ty o (Index e p ∷ path) h = cc
no_cells g ty o (Slice e k p ∷ path) h = cc
no_cells g ty o (Part name k p ∷ path) h = no_cells g (part_type g.structs ty k) o path h

pick_false : {A : Type 0} (b : Bool) (x y : A) → b ≡ false → pick b x y ≡ y
pick_false b x y e = ap (λ c. pick c x y) e

pick_true : {A : Type 0} (b : Bool) (x y : A) → b ≡ true → pick b x y ≡ x
pick_true b x y e = ap (λ c. pick c x y) e

number_moved : (x : Spot) (k : ℕ) → number_of (shifted x k) ≡ number_of x + k
number_moved (Top o) k = refl
number_moved (Local o) k = refl

-- what a path takes of an assignment
shift_fits : (g : Scope) (v : Holder) (path : List Access) (o : ℕ) → storing_coded g (Some v) path o ≡ true → number_of v.spot + along_shift g v.ty path < 2 ^ 32
shift_fits g v path o h =
    let low = small_below _ (and_second (along_coded g v.ty o path) _ h) in let e = number_moved v.spot (along_shift g v.ty path) in omega arith

pub plain_fits : (g : Scope) (v : Holder) (path : List Access) (d n : ℕ) (ty : Ty) → has_index path ≡ false → ty ≡ v.ty → StoreFits g (Some v) path d n → AlongFits g (Local 0) ty d path
plain_fits g v path d n ty h e f =
    subst (λ t. AlongFits g (Local 0) t d path) (sym e)
    (let cells : behind d n < 2 ^ 32 = subst (λ m. m < 2 ^ 32) (pick_false (has_index path) (along_peak g v.ty (d + n) path) (behind d n) h) f.cells in
    let low = shift_fits g v path (d + n) f.numbers in
    let k = no_cells g v.ty d path h in
    record { cells = omega arith; numbers = no_numbers g v.ty d path h; shift = omega arith })

-- what is made of a path
abbrev pub AlongMade : Scope → List Access → List Step → List Step → Path → Spot → Ty → ℕ → ℕ → Type 0
AlongMade g path mid late end root ty o most =
    AlongFits g root ty o path × Leads (along_code g ty o path) (shifted root (along_shift g ty path)) o (along_type g ty path) (max most (along_peak g ty o path)) mid late end

-- where the path leads in the variable
root_at : (g : Scope) (v : Holder) (path : List Access) (end : Path) (m : ℕ) → m ≡ number_of end.root → end.root ≡ shifted (Local 0) (along_shift g v.ty path) → m ≡ along_shift g v.ty path
root_at g v path end m e r = let q : number_of end.root ≡ 0 + along_shift g v.ty path = ap number_of r in omega arith

-- a value goes to a part that no index leads to
pub replaced : (g : Scope) (v : Holder) (path : List Access) (d n : ℕ) (from to : Spot) (ty : Ty) (peak m : ℕ) (old mid new : List Step) (end : Path) → has_index path ≡ false → ty ≡ v.ty →
    behind d n < 2 ^ 32 → peak ≡ behind d n → AlongMade g path old mid end (Local 0) ty d peak → number_of v.spot + m < 2 ^ 32 → m ≡ number_of end.root → to ≡ shifted v.spot m →
    new ≡ mid ++ moving to from n → StoreFits g (Some v) path d n × Grows (storing g v path from (d + n) n) (storing_peak g (Some v) path d n) old new end.peak
replaced g v path d n from to ty peak m old mid new end h e lt p made' low k t c =
    let made : AlongMade g path old mid end (Local 0) v.ty d peak = subst (λ u. AlongMade g path old mid end (Local 0) u d peak) e made' in
    let far : m ≡ along_shift g v.ty path = root_at g v path end m k made.1.root in
    let place : to ≡ shifted v.spot (along_shift g v.ty path) = t ∙ ap (shifted v.spot) far in
    let most : storing_peak g (Some v) path d n ≡ behind d n = pick_false (has_index path) (along_peak g v.ty (d + n) path) (behind d n) h in
    let one = no_cells g v.ty d path h in
    let up = made.1.peak in
    let spot = number_moved v.spot (along_shift g v.ty path) in (
      record {
        cells = subst (λ q. q < 2 ^ 32) (sym most) lt;
        numbers = both_true _ _ (no_numbers g v.ty (d + n) path h) (below_small _ (omega arith));
      },
      record {
        code =
            behind_code old mid new [] (moving to from n) (made.1.code ∙ ap (λ (steps : List Step). old ++ steps) (no_code g v.ty d path h)) c
            ∙ ap (λ x. old ++ moving x from n) place ∙ ap (λ (steps : List Step). old ++ steps) (sym (pick_false (has_index path) _ (moving (shifted v.spot (along_shift g v.ty path)) from n) h));
        end = let q : end.peak ≡ behind d n = omega arith in q ∙ sym most;
      },
    )

-- a value goes to where indexes lead
pub stored : (g : Scope) (v : Holder) (path : List Access) (o n : ℕ) (from to : Spot) (ty : Ty) (m : ℕ) (old start mid new : List Step) (base end : Path) → ty ≡ v.ty → o + 1 < 2 ^ 32 →
    Leads (Number (Local o) (pos 0) ∷ []) (Local 0) o ty (o + 1) old start base →
    (base.peak < 2 ^ 32 → number_of base.root < 2 ^ 32 → AlongMade g path start mid end base.root (type_at base.ty) base.offset base.peak) →
    number_of v.spot + m < 2 ^ 32 → m ≡ number_of end.root → to ≡ shifted v.spot m → new ≡ mid ++ Store to (Local o) from n ∷ [] →
    AlongFits g v.spot v.ty o path × Grows (store_code g v path from o n) (along_peak g v.ty o path) old new end.peak
stored g v path o n from to ty m old start mid new base end e lt b along low k t c =
    let up = b.peak in
    let first : number_of base.root ≡ 0 = ap number_of b.root in
    let made : AlongMade g path start mid end (Local 0) v.ty o (o + 1) =
    subst (λ q. AlongMade g path start mid end (Local 0) v.ty o q) b.peak
    (subst (λ q. AlongMade g path start mid end (Local 0) v.ty q base.peak) b.offset
    (subst (λ q. AlongMade g path start mid end (Local 0) q base.offset base.peak) (b.ty ∙ e)
    (subst (λ q. AlongMade g path start mid end q (type_at base.ty) base.offset base.peak) b.root (along (omega arith) (omega arith))))) in
    let far : m ≡ along_shift g v.ty path = root_at g v path end m k made.1.root in
    let place : to ≡ shifted v.spot (along_shift g v.ty path) = t ∙ ap (shifted v.spot) far in
    let least = offset_least g v.ty o path in
    let most = made.1.peak in (
      record { cells = made.0.cells; numbers = made.0.numbers; shift = omega arith },
      record {
        code =
            behind_code old start new (Number (Local o) (pos 0) ∷ []) _ b.code (behind_code start mid new (along_code g v.ty o path) (Store to (Local o) from n ∷ []) made.1.code c)
            ∙ ap (λ x. old ++ (Number (Local o) (pos 0) ∷ (along_code g v.ty o path ++ Store x (Local o) from n ∷ []))) place;
        end = omega arith;
      },
    )

-- where an index leads there, the cell behind the value is used
pub indexed_free : (g : Scope) (v : Holder) (path : List Access) (d n : ℕ) → has_index path ≡ true → StoreFits g (Some v) path d n → d + n < 2 ^ 32
indexed_free g v path d n h f =
    let cells : along_peak g v.ty (d + n) path < 2 ^ 32 = subst (λ m. m < 2 ^ 32) (pick_true (has_index path) (along_peak g v.ty (d + n) path) (behind d n) h) f.cells in
    let least = offset_least g v.ty (d + n) path in omega arith

-- what an assignment takes
peak_least : (g : Scope) (v : Option Holder) (path : List Access) (d n : ℕ) → d + n ≤ storing_peak g v path d n
peak_least g None path d n = omega arith
peak_least g (Some v) path d n = by_cases (has_index path) where
  by_cases : (b : Bool) → d + n ≤ pick b (along_peak g v.ty (d + n) path) (behind d n)
  by_cases true = let least = offset_least g v.ty (d + n) path in omega arith
  by_cases false = omega arith

pub assign_fits : (g : Scope) (name : Ident) (path : List Access) (e : Expr) (d : ℕ) → StmtFits g (Assign name path e) d →
    Fits g e d × StoreFits g (variable g name.id) path d (size_in g e) × (d + size_in g e < 2 ^ 32)
assign_fits g name path e d f =
    let cells : max (peak_of g e d) (storing_peak g (variable g name.id) path d (size_in g e)) < 2 ^ 32 = f.cells in
    let least = peak_least g (variable g name.id) path d (size_in g e) in (
      record { cells = omega arith; numbers = and_first _ _ f.numbers },
      record { cells = omega arith; numbers = and_second (is_coded g e d) _ f.numbers },
      omega arith,
    )

-- an assignment
pub assigned : (g : Scope) (name : Ident) (path : List Access) (e : Expr) (d n peak most : ℕ) (from : Spot) (old mid late new : List Step) (x : Placed) → Fits g e d → Coded g e d old mid x →
    d + x.cells < 2 ^ 32 → n ≡ x.cells → from ≡ kept_at x.at d n → late ≡ mid ++ keeping x.at d n → StoreFits g (variable g name.id) path d n →
    Grows (storing_if g (variable g name.id) path from (d + n) n) (storing_peak g (variable g name.id) path d n) late new peak → most ≡ max x.peak peak →
    StmtFits g (Assign name path e) d × Stated g (Assign name path e) d old new g (record { free = d; peak = most })
assigned g name path e d n peak most from old mid late new x f c lt k s q fs' gs' m =
    let v = variable g name.id in
    let size = c.cells in
    let same : n ≡ size_in g e = omega arith in
    let fs : StoreFits g v path d (size_in g e) = subst (λ j. StoreFits g v path d j) same fs' in
    let gs : Grows (storing_if g v path from (d + size_in g e) (size_in g e)) (storing_peak g v path d (size_in g e)) late new peak =
    subst (λ j. Grows (storing_if g v path from (d + j) j) (storing_peak g v path d j) late new peak) same gs' in
    let at : from ≡ kept_at (stands g e d) d (size_in g e) = s ∙ ap (λ j. kept_at x.at d j) same ∙ ap (λ y. kept_at y d (size_in g e)) c.at in
    let kept : late ≡ mid ++ keeping (stands g e d) d (size_in g e) = q ∙ ap (λ j. mid ++ keeping x.at d j) same ∙ ap (λ y. mid ++ keeping y d (size_in g e)) c.at in
    let left = f.cells in
    let right = fs.cells in
    let end = gs.end in
    let up = c.peak in (
      record {
        cells = let z : max (peak_of g e d) (storing_peak g v path d (size_in g e)) < 2 ^ 32 = omega arith in z;
        numbers = both_true _ _ f.numbers fs.numbers;
      },
      record {
        code =
            behind_code old mid new (code_of g e d) _ c.code
            (behind_code mid late new (keeping (stands g e d) d (size_in g e)) _ kept (gs.code ∙ ap (λ y. late ++ storing_if g v path y (d + size_in g e) (size_in g e)) at));
        scope = refl;
        free = refl;
        peak = let z : most ≡ max (peak_of g e d) (storing_peak g v path d (size_in g e)) = omega arith in z;
      },
    )
