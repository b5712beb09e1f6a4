-- Paths of indexes and parts.
use Rattle.std.specs.Prelude.{ℕ, ◌+◌, ◌<◌, ◌^◌, max, List, [], ◌∷◌, ◌++◌, Bool, true, ◌&&◌, Option, Some, None, Result, ◌≡◌}
use Rattle.std.proofs.Common.{sym, ◌∙◌, subst, arith, IsErrAnd}
use denote.Hole.Carrier.{hidden}
use Rattle.zir_tree.specs.declared.place.Place.{Place}
use Rattle.zir_tree.specs.declared.types.Ty.{Ty}
use Rattle.zir_tree.specs.declared.expr.Expr.{Expr, Index, Slice, Part}
use Rattle.zir_tree.specs.declared.expr.Expr.TheBlock.{shape-the_row-Expr-0, hidden-the_row-Expr-0}
use Rattle.zir_expr.specs.declared.frame.Spot.{Spot}
use Rattle.zir_expr.specs.declared.steps.Step.{Step}
use Rattle.zir_code.specs.Scopes.{Scope, shifted, number_of}
use Rattle.zir_code.specs.Types.{type_in, element_type, part_type, part_offset}
use Rattle.zir_code.specs.Coding.{stands, code_of, is_rooted, is_calm, path_width, path_root}
use Rattle.zir_code.specs.Peaks.{peak_of, path_peak, is_coded, is_path_coded, counts_elements, small}
use Rattle.zir_compile.specs.declared.numbers.Unmade.{Unmade}
use Rattle.zir_compile.specs.declared.made.Path.{Path}
use Rattle.zir_compile.specs.Coded.{Leads, PathFits, Walked, IndexFits, to_part, type_of_part}
use Rattle.zir_compile.specs.Extents.{type_at}
use Rattle.zir_compile.specs.Makes.{Refuses, Makes}
use Rattle.zir_compile.proofs.Forms.{rooted-Index, rooted-Slice, rooted-Part}
use Rattle.zir_compile.proofs.Making.{makes_err, makes_as, behind_code, small_below, below_small, and_first, and_second, both_true}

-- what is made of an index behind a path
abbrev pub Located : Scope → Expr → Option ℕ → Place → List Step → List Step → Result Path Unmade → Spot → ℕ → Ty → ℕ → Type 0
Located g i range p mid new r root o ty most =
    Makes (IndexFits g i o ty)
    (Leads (code_of g i (o + 1) ++ to_part g ty range o (stands g i (o + 1)) p ∷ []) root o (type_of_part range (element_type ty)) (max most (peak_of g i (o + 1))) mid new) r

-- the same by what is known of the path
pub located_as : (g : Scope) (i : Expr) (range : Option ℕ) (p : Place) (mid new : List Step) (r : Result Path Unmade) (a b : Spot) (m n : ℕ) (s t : Ty) (x y : ℕ) →
    a ≡ b → m ≡ n → s ≡ t → x ≡ y → Located g i range p mid new r a m s x → Located g i range p mid new r b n t y
located_as g i range p mid new r a b m n s t x y e f h k l =
    subst (λ z. Located g i range p mid new r b n t z) k (subst (λ z. Located g i range p mid new r b n z x) h
    (subst (λ z. Located g i range p mid new r b z s x) f (subst (λ z. Located g i range p mid new r z m s x) e l)))

-- what an index of a path takes
path_fits-Index : (still : Bool) (g : Scope) (a i : Expr) (p : Place) (d : ℕ) → PathFits still g (Index a i p) d →
    PathFits (still && is_calm i) g a d × IndexFits g i (d + path_width (still && is_calm i) g a) (type_in g a)
unfolding shape-the_row-Expr-0 hidden-the_row-Expr-0 hidden
path_fits-Index still g a i p d h =
    let o : ℕ = d + path_width (still && is_calm i) g a in
    let cells : max (path_peak (still && is_calm i) g a d) (peak_of g i (o + 1)) < 2 ^ 32 = h.cells in
    let both : is_path_coded (still && is_calm i) g a d && (is_coded g i (o + 1) && counts_elements g (type_in g a)) ≡ true = h.numbers in
    let more = and_second (is_path_coded (still && is_calm i) g a d) _ both in (
      record { cells = omega arith; numbers = and_first _ _ both },
      record { cells = omega arith; numbers = and_first _ _ more; elements = and_second (is_coded g i (o + 1)) _ more },
    )

path_fits-Slice : (still : Bool) (g : Scope) (a i : Expr) (k : ℕ) (p : Place) (d : ℕ) → PathFits still g (Slice a i k p) d →
    PathFits (still && is_calm i) g a d × IndexFits g i (d + path_width (still && is_calm i) g a) (type_in g a)
unfolding shape-the_row-Expr-0 hidden-the_row-Expr-0 hidden
path_fits-Slice still g a i k p d h =
    let o : ℕ = d + path_width (still && is_calm i) g a in
    let cells : max (path_peak (still && is_calm i) g a d) (peak_of g i (o + 1)) < 2 ^ 32 = h.cells in
    let both : is_path_coded (still && is_calm i) g a d && (is_coded g i (o + 1) && counts_elements g (type_in g a)) ≡ true = h.numbers in
    let more = and_second (is_path_coded (still && is_calm i) g a d) _ both in (
      record { cells = omega arith; numbers = and_first _ _ both },
      record { cells = omega arith; numbers = and_first _ _ more; elements = and_second (is_coded g i (o + 1)) _ more },
    )

path_made-Index : (still : Bool) (g : Scope) (a i : Expr) (p : Place) (d : ℕ) (old mid new : List Step) (base path : Path) → PathFits (still && is_calm i) g a d →
    Walked (still && is_calm i) g a d old mid base →
    (let o : ℕ = d + path_width (still && is_calm i) g a in let ty : Ty = type_in g a in
    IndexFits g i o ty → Leads (code_of g i (o + 1) ++ to_part g ty None o (stands g i (o + 1)) p ∷ []) (path_root (still && is_calm i) g a d) o (type_of_part None (element_type ty))
    (max (path_peak (still && is_calm i) g a d) (peak_of g i (o + 1))) mid new path → PathFits still g (Index a i p) d × Walked still g (Index a i p) d old new path)
unfolding shape-the_row-Expr-0 hidden-the_row-Expr-0 hidden
path_made-Index still g a i p d old mid new base path fa wa fi w =
    let o : ℕ = d + path_width (still && is_calm i) g a in
    let left = fa.cells in
    let right = fi.cells in (
      record {
        cells = let q : max (path_peak (still && is_calm i) g a d) (peak_of g i (o + 1)) < 2 ^ 32 = omega arith in q;
        numbers = both_true _ _ fa.numbers (both_true _ _ fi.numbers fi.elements);
      },
      record { code = behind_code old mid new _ _ wa.code w.code; root = w.root; offset = w.offset; ty = w.ty; peak = w.peak },
    )

path_made-Slice : (still : Bool) (g : Scope) (a i : Expr) (k : ℕ) (p : Place) (d : ℕ) (old mid new : List Step) (base path : Path) → PathFits (still && is_calm i) g a d →
    Walked (still && is_calm i) g a d old mid base →
    (let o : ℕ = d + path_width (still && is_calm i) g a in let ty : Ty = type_in g a in
    IndexFits g i o ty → Leads (code_of g i (o + 1) ++ to_part g ty (Some k) o (stands g i (o + 1)) p ∷ []) (path_root (still && is_calm i) g a d) o (type_of_part (Some k) (element_type ty))
    (max (path_peak (still && is_calm i) g a d) (peak_of g i (o + 1))) mid new path → PathFits still g (Slice a i k p) d × Walked still g (Slice a i k p) d old new path)
unfolding shape-the_row-Expr-0 hidden-the_row-Expr-0 hidden
path_made-Slice still g a i k p d old mid new base path fa wa fi w =
    let o : ℕ = d + path_width (still && is_calm i) g a in
    let left = fa.cells in
    let right = fi.cells in (
      record {
        cells = let q : max (path_peak (still && is_calm i) g a d) (peak_of g i (o + 1)) < 2 ^ 32 = omega arith in q;
        numbers = both_true _ _ fa.numbers (both_true _ _ fi.numbers fi.elements);
      },
      record { code = behind_code old mid new _ _ wa.code w.code; root = w.root; offset = w.offset; ty = w.ty; peak = w.peak },
    )

-- an array whose path is not made
pub path_err-Index : (still s : Bool) (g : Scope) (a i : Expr) (p : Place) (d : ℕ) (Q : Path → Type 0) (why : Unmade) (r : Result Path Unmade) → IsErrAnd r (λ y. y ≡ why) →
    s ≡ (still && is_calm i) → (is_rooted a ≡ true → Refuses (PathFits s g a d) why) → is_rooted (Index a i p) ≡ true → Makes (PathFits still g (Index a i p) d) Q r
path_err-Index still s g a i p d Q why r is e h rooted =
    makes_err (PathFits s g a d) (PathFits still g (Index a i p) d) Q why r is (h (sym (rooted-Index a i p) ∙ rooted))
    (λ whole. subst (λ b. PathFits b g a d) (sym e) (path_fits-Index still g a i p d whole).0)

pub path_err-Slice : (still s : Bool) (g : Scope) (a i : Expr) (k : ℕ) (p : Place) (d : ℕ) (Q : Path → Type 0) (why : Unmade) (r : Result Path Unmade) → IsErrAnd r (λ y. y ≡ why) →
    s ≡ (still && is_calm i) → (is_rooted a ≡ true → Refuses (PathFits s g a d) why) → is_rooted (Slice a i k p) ≡ true → Makes (PathFits still g (Slice a i k p) d) Q r
path_err-Slice still s g a i k p d Q why r is e h rooted =
    makes_err (PathFits s g a d) (PathFits still g (Slice a i k p) d) Q why r is (h (sym (rooted-Slice a i k p) ∙ rooted))
    (λ whole. subst (λ b. PathFits b g a d) (sym e) (path_fits-Slice still g a i k p d whole).0)

-- a path to an array, and an index
pub path_ok-Index : (still s : Bool) (g : Scope) (a i : Expr) (p : Place) (d : ℕ) (old mid new : List Step) (base : Path) (r : Result Path Unmade) → s ≡ (still && is_calm i) →
    (is_rooted a ≡ true → PathFits s g a d × Walked s g a d old mid base) → Located g i None p mid new r base.root base.offset (type_at base.ty) base.peak →
    is_rooted (Index a i p) ≡ true → Makes (PathFits still g (Index a i p) d) (Walked still g (Index a i p) d old new) r
path_ok-Index still s g a i p d old mid new base r e h l rooted =
    let w : PathFits (still && is_calm i) g a d × Walked (still && is_calm i) g a d old mid base =
    subst (λ b. PathFits b g a d × Walked b g a d old mid base) e (h (sym (rooted-Index a i p) ∙ rooted)) in
    makes_as _ (PathFits still g (Index a i p) d) _ (Walked still g (Index a i p) d old new) r
    (located_as g i None p mid new r _ _ _ _ _ _ _ _ w.1.root w.1.offset w.1.ty w.1.peak l)
    (λ whole. (path_fits-Index still g a i p d whole).1)
    (λ path. path_made-Index still g a i p d old mid new base path w.0 w.1)

pub path_ok-Slice : (still s : Bool) (g : Scope) (a i : Expr) (k : ℕ) (p : Place) (d : ℕ) (old mid new : List Step) (base : Path) (r : Result Path Unmade) → s ≡ (still && is_calm i) →
    (is_rooted a ≡ true → PathFits s g a d × Walked s g a d old mid base) → Located g i (Some k) p mid new r base.root base.offset (type_at base.ty) base.peak →
    is_rooted (Slice a i k p) ≡ true → Makes (PathFits still g (Slice a i k p) d) (Walked still g (Slice a i k p) d old new) r
path_ok-Slice still s g a i k p d old mid new base r e h l rooted =
    let w : PathFits (still && is_calm i) g a d × Walked (still && is_calm i) g a d old mid base =
    subst (λ b. PathFits b g a d × Walked b g a d old mid base) e (h (sym (rooted-Slice a i k p) ∙ rooted)) in
    makes_as _ (PathFits still g (Slice a i k p) d) _ (Walked still g (Slice a i k p) d old new) r
    (located_as g i (Some k) p mid new r _ _ _ _ _ _ _ _ w.1.root w.1.offset w.1.ty w.1.peak l)
    (λ whole. (path_fits-Slice still g a i k p d whole).1)
    (λ path. path_made-Slice still g a i k p d old mid new base path w.0 w.1)

-- what is made of a part behind a path
abbrev pub Parted : Scope → ℕ → ℕ → ℕ → Result Path Unmade → Spot → Ty → Type 0
Parted g k o most r root ty =
    Makes (number_of root + part_offset g.structs ty k < 2 ^ 32)
    (Leads [] (shifted root (part_offset g.structs ty k)) o (part_type g.structs ty k) most [] []) r

path_fits-Part : (still : Bool) (g : Scope) (a : Expr) (name : List ℕ) (k : ℕ) (p : Place) (d : ℕ) → PathFits still g (Part a name k p) d →
    PathFits still g a d × (number_of (path_root still g a d) + part_offset g.structs (type_in g a) k < 2 ^ 32)
unfolding shape-the_row-Expr-0 hidden-the_row-Expr-0 hidden
path_fits-Part still g a name k p d h =
    let both : is_path_coded still g a d && small (number_of (path_root still g a d) + part_offset g.structs (type_in g a) k) ≡ true = h.numbers in
    (record { cells = h.cells; numbers = and_first _ _ both }, small_below _ (and_second (is_path_coded still g a d) _ both))

path_made-Part : (still : Bool) (g : Scope) (a : Expr) (name : List ℕ) (k : ℕ) (p : Place) (d : ℕ) (old new : List Step) (base path : Path) → PathFits still g a d → Walked still g a d old new base →
    number_of (path_root still g a d) + part_offset g.structs (type_in g a) k < 2 ^ 32 →
    Leads [] (shifted (path_root still g a d) (part_offset g.structs (type_in g a) k)) base.offset (part_type g.structs (type_in g a) k) base.peak [] [] path →
    PathFits still g (Part a name k p) d × Walked still g (Part a name k p) d old new path
unfolding shape-the_row-Expr-0 hidden-the_row-Expr-0 hidden
path_made-Part still g a name k p d old new base path fa wa lt w = (
  record { cells = fa.cells; numbers = both_true _ _ fa.numbers (below_small _ lt) },
  record { code = wa.code; root = w.root; offset = w.offset ∙ wa.offset; ty = w.ty; peak = w.peak ∙ wa.peak },
)

pub path_err-Part : (still : Bool) (g : Scope) (a : Expr) (name : List ℕ) (k : ℕ) (p : Place) (d : ℕ) (Q : Path → Type 0) (why : Unmade) (r : Result Path Unmade) → IsErrAnd r (λ y. y ≡ why) →
    (is_rooted a ≡ true → Refuses (PathFits still g a d) why) → is_rooted (Part a name k p) ≡ true → Makes (PathFits still g (Part a name k p) d) Q r
path_err-Part still g a name k p d Q why r is h rooted =
    makes_err (PathFits still g a d) (PathFits still g (Part a name k p) d) Q why r is (h (sym (rooted-Part a name k p) ∙ rooted))
    (λ whole. (path_fits-Part still g a name k p d whole).0)

pub path_ok-Part : (still : Bool) (g : Scope) (a : Expr) (name : List ℕ) (k : ℕ) (p : Place) (d : ℕ) (old new : List Step) (base : Path) (r : Result Path Unmade) →
    (is_rooted a ≡ true → PathFits still g a d × Walked still g a d old new base) → Parted g k base.offset base.peak r base.root (type_at base.ty) →
    is_rooted (Part a name k p) ≡ true → Makes (PathFits still g (Part a name k p) d) (Walked still g (Part a name k p) d old new) r
path_ok-Part still g a name k p d old new base r h l rooted =
    let w = h (sym (rooted-Part a name k p) ∙ rooted) in
    makes_as _ (PathFits still g (Part a name k p) d) _ (Walked still g (Part a name k p) d old new) r
    (subst (λ z. Parted g k base.offset base.peak r z (type_in g a)) w.1.root (subst (λ z. Parted g k base.offset base.peak r base.root z) w.1.ty l))
    (λ whole. (path_fits-Part still g a name k p d whole).1)
    (λ path. path_made-Part still g a name k p d old new base path w.0 w.1)
