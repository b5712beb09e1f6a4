-- Elements, slices, parts, calls and arrays.
use Rattle.std.specs.Prelude.{ℕ, ◌+◌, ◌<◌, ◌^◌, max, List, [], ◌∷◌, ◌++◌, length, Bool, true, ◌&&◌, Option, Some, None, Result, ◌≡◌, refl}
use Rattle.std.proofs.Common.{ap, sym, ◌∙◌, subst, arith, IsErrAnd}
use denote.Hole.Carrier.{hidden}
use Rattle.zir_tree.specs.declared.ident.Ident.{Ident}
use Rattle.zir_tree.specs.declared.place.Place.{Place}
use Rattle.zir_tree.specs.declared.types.Ty.{Ty}
use Rattle.zir_tree.specs.declared.expr.Callee.{Callee}
use Rattle.zir_tree.specs.declared.expr.Expr.{Expr, Index, Slice, Part, Call, Array}
use Rattle.zir_tree.specs.declared.expr.Expr.TheBlock.{shape-the_row-Expr-0, hidden-the_row-Expr-0, hidden-the_row-Expr-1}
use Rattle.zir_meaning.specs.Functions.{pick}
use Rattle.zir_cells.specs.Layout.{capped}
use Rattle.zir_shapes.specs.Offsets.{array_type as array_of}
use Rattle.zir_expr.specs.declared.frame.Spot.{Spot}
use Rattle.zir_expr.specs.declared.frame.Spot.TheVariants.{Top, Local}
use Rattle.zir_expr.specs.declared.steps.Step.{Step, Load}
use Rattle.zir_code.specs.Scopes.{Scope, shifted, number_of}
use Rattle.zir_code.specs.Types.{type_in, first_type, callee_type, element_type, part_type, part_offset, cells_for}
use Rattle.zir_code.specs.Coding.{stands, code_of, is_rooted, is_calm, fixed, shift_if, reading, read_at, based, base_width, base_root, path_code, path_root, callee_code}
use Rattle.zir_code.specs.Peaks.{peak_of, peak_of_all, behind, peak_if, callee_needs, is_coded, is_path_coded, counts_elements, counts_spot, small}
use Rattle.zir_compile.specs.declared.numbers.Unmade.{Unmade}
use Rattle.zir_compile.specs.declared.numbers.Unmade.TheVariants.{Memory, Large}
use Rattle.zir_compile.specs.declared.made.Placed.{Placed}
use Rattle.zir_compile.specs.declared.made.Path.{Path}
use Rattle.zir_compile.specs.declared.made.Standing.{Standing}
use Rattle.zir_compile.specs.declared.made.Arguments.{Arguments}
use Rattle.zir_compile.specs.Coded.{Fits, Stands, Coded, Leads, BaseFits, Based, base_peak, IndexFits, to_part, type_of_part, IsFixed, IsBeyond, AllFit, Arranged}
use Rattle.zir_compile.specs.Extents.{type_at}
use Rattle.zir_compile.specs.Makes.{Refuses, Makes}
use Rattle.zir_compile.proofs.Forms.{rooted-Part}
use Rattle.zir_compile.proofs.Found.{fixed-Part, type-Part, path_root-Part, path_coded-Part}
use Rattle.zir_compile.proofs.Listed.{code-list, peak-list, coded-list, first-list, count-list}
use Rattle.zir_compile.proofs.Making.{makes_err, makes_as, behind_code, small_below, below_small, and_first, and_second, both_true, not_both}

-- what is made of an element or a slice behind a path
abbrev pub Element : Scope → Expr → Option ℕ → Place → ℕ → List Step → List Step → Result Placed Unmade → Spot → ℕ → Ty → ℕ → Type 0
Element g i range p d mid new r root o ty most =
    let part = type_of_part range (element_type ty) in
    let n = cells_for g part in
    Makes (IndexFits g i o ty × (d + n < 2 ^ 32))
    (Stands (code_of g i (o + 1) ++ (to_part g ty range o (stands g i (o + 1)) p ∷ Load (Local d) root (Local o) n ∷ [])) (Local d) part n (max most (max (peak_of g i (o + 1)) (d + n))) mid new) r

-- the same by what is known of the path
element_as : (g : Scope) (i : Expr) (range : Option ℕ) (p : Place) (d : ℕ) (mid new : List Step) (r : Result Placed Unmade) (a b : Spot) (m n : ℕ) (s t : Ty) (x y : ℕ) →
    a ≡ b → m ≡ n → s ≡ t → x ≡ y → Element g i range p d mid new r a m s x → Element g i range p d mid new r b n t y
element_as g i range p d mid new r a b m n s t x y e f h k l =
    subst (λ z. Element g i range p d mid new r b n t z) k (subst (λ z. Element g i range p d mid new r b n z x) h
    (subst (λ z. Element g i range p d mid new r b z s x) f (subst (λ z. Element g i range p d mid new r z m s x) e l)))

fits-Index : (g : Scope) (a i : Expr) (p : Place) (d : ℕ) → Fits g (Index a i p) d →
    BaseFits (is_calm i) g a d × IndexFits g i (d + base_width (is_calm i) g a) (type_in g a) × (d + cells_for g (element_type (type_in g a)) < 2 ^ 32)
unfolding shape-the_row-Expr-0 hidden-the_row-Expr-0 hidden
fits-Index g a i p d h =
    let o : ℕ = d + base_width (is_calm i) g a in
    let n : ℕ = cells_for g (element_type (type_in g a)) in
    let cells : max (base_peak (is_calm i) g a d) (max (peak_of g i (o + 1)) (d + n)) < 2 ^ 32 = h.cells in
    let numbers : pick (is_rooted a) (is_path_coded (is_calm i) g a d) (is_coded g a d) && (is_coded g i (o + 1) && counts_elements g (type_in g a)) ≡ true = h.numbers in
    let more = and_second (pick (is_rooted a) (is_path_coded (is_calm i) g a d) (is_coded g a d)) _ numbers in (
      record { cells = omega arith; numbers = and_first _ _ numbers },
      record { cells = omega arith; numbers = and_first _ _ more; elements = and_second (is_coded g i (o + 1)) _ more },
      omega arith,
    )

fits-Slice : (g : Scope) (a i : Expr) (k : ℕ) (p : Place) (d : ℕ) → Fits g (Slice a i k p) d →
    BaseFits (is_calm i) g a d × IndexFits g i (d + base_width (is_calm i) g a) (type_in g a) × (d + cells_for g (array_of k (element_type (type_in g a))) < 2 ^ 32)
unfolding shape-the_row-Expr-0 hidden-the_row-Expr-0 hidden
fits-Slice g a i k p d h =
    let o : ℕ = d + base_width (is_calm i) g a in
    let n : ℕ = cells_for g (array_of k (element_type (type_in g a))) in
    let cells : max (base_peak (is_calm i) g a d) (max (peak_of g i (o + 1)) (d + n)) < 2 ^ 32 = h.cells in
    let numbers : pick (is_rooted a) (is_path_coded (is_calm i) g a d) (is_coded g a d) && (is_coded g i (o + 1) && counts_elements g (type_in g a)) ≡ true = h.numbers in
    let more = and_second (pick (is_rooted a) (is_path_coded (is_calm i) g a d) (is_coded g a d)) _ numbers in (
      record { cells = omega arith; numbers = and_first _ _ numbers },
      record { cells = omega arith; numbers = and_first _ _ more; elements = and_second (is_coded g i (o + 1)) _ more },
      omega arith,
    )

made-Index : (g : Scope) (a i : Expr) (p : Place) (d : ℕ) (old mid new : List Step) (base : Path) (placed : Placed) → BaseFits (is_calm i) g a d → Based (is_calm i) g a d old mid base →
    (let o : ℕ = d + base_width (is_calm i) g a in let part : Ty = element_type (type_in g a) in let n : ℕ = cells_for g part in
    IndexFits g i o (type_in g a) × (d + n < 2 ^ 32) →
    Stands (code_of g i (o + 1) ++ (to_part g (type_in g a) None o (stands g i (o + 1)) p ∷ Load (Local d) (base_root (is_calm i) g a d) (Local o) n ∷ [])) (Local d) part n
    (max (base_peak (is_calm i) g a d) (max (peak_of g i (o + 1)) (d + n))) mid new placed → Fits g (Index a i p) d × Coded g (Index a i p) d old new placed)
unfolding shape-the_row-Expr-0 hidden-the_row-Expr-0 hidden
made-Index g a i p d old mid new base placed fb b f s =
    let o : ℕ = d + base_width (is_calm i) g a in
    let n : ℕ = cells_for g (element_type (type_in g a)) in
    let left = fb.cells in
    let right = f.0.cells in
    let end = f.1 in (
      record {
        cells = let q : max (base_peak (is_calm i) g a d) (max (peak_of g i (o + 1)) (d + n)) < 2 ^ 32 = omega arith in q;
        numbers = both_true _ _ fb.numbers (both_true _ _ f.0.numbers f.0.elements);
      },
      record { code = behind_code old mid new _ _ b.code s.code; at = s.at; ty = s.ty; cells = s.cells; peak = s.peak },
    )

made-Slice : (g : Scope) (a i : Expr) (k : ℕ) (p : Place) (d : ℕ) (old mid new : List Step) (base : Path) (placed : Placed) → BaseFits (is_calm i) g a d → Based (is_calm i) g a d old mid base →
    (let o : ℕ = d + base_width (is_calm i) g a in let part : Ty = array_of k (element_type (type_in g a)) in let n : ℕ = cells_for g part in
    IndexFits g i o (type_in g a) × (d + n < 2 ^ 32) →
    Stands (code_of g i (o + 1) ++ (to_part g (type_in g a) (Some k) o (stands g i (o + 1)) p ∷ Load (Local d) (base_root (is_calm i) g a d) (Local o) n ∷ [])) (Local d) part n
    (max (base_peak (is_calm i) g a d) (max (peak_of g i (o + 1)) (d + n))) mid new placed → Fits g (Slice a i k p) d × Coded g (Slice a i k p) d old new placed)
unfolding shape-the_row-Expr-0 hidden-the_row-Expr-0 hidden
made-Slice g a i k p d old mid new base placed fb b f s =
    let o : ℕ = d + base_width (is_calm i) g a in
    let n : ℕ = cells_for g (array_of k (element_type (type_in g a))) in
    let left = fb.cells in
    let right = f.0.cells in
    let end = f.1 in (
      record {
        cells = let q : max (base_peak (is_calm i) g a d) (max (peak_of g i (o + 1)) (d + n)) < 2 ^ 32 = omega arith in q;
        numbers = both_true _ _ fb.numbers (both_true _ _ f.0.numbers f.0.elements);
      },
      record { code = behind_code old mid new _ _ b.code s.code; at = s.at; ty = s.ty; cells = s.cells; peak = s.peak },
    )

-- an array that is not made
pub err-Index : (g : Scope) (a i : Expr) (p : Place) (d : ℕ) (still : Bool) (Q : Placed → Type 0) (why : Unmade) (r : Result Placed Unmade) → IsErrAnd r (λ y. y ≡ why) → still ≡ is_calm i →
    Refuses (BaseFits still g a d) why → Makes (Fits g (Index a i p) d) Q r
err-Index g a i p d still Q why r is e h =
    makes_err (BaseFits still g a d) (Fits g (Index a i p) d) Q why r is h (λ whole. subst (λ b. BaseFits b g a d) (sym e) (fits-Index g a i p d whole).0)

pub err-Slice : (g : Scope) (a i : Expr) (k : ℕ) (p : Place) (d : ℕ) (still : Bool) (Q : Placed → Type 0) (why : Unmade) (r : Result Placed Unmade) → IsErrAnd r (λ y. y ≡ why) → still ≡ is_calm i →
    Refuses (BaseFits still g a d) why → Makes (Fits g (Slice a i k p) d) Q r
err-Slice g a i k p d still Q why r is e h =
    makes_err (BaseFits still g a d) (Fits g (Slice a i k p) d) Q why r is h (λ whole. subst (λ b. BaseFits b g a d) (sym e) (fits-Slice g a i k p d whole).0)

-- an array and an index
pub ok-Index : (g : Scope) (a i : Expr) (p : Place) (d : ℕ) (still : Bool) (old mid new : List Step) (base : Path) (r : Result Placed Unmade) → still ≡ is_calm i → BaseFits still g a d →
    Based still g a d old mid base → Element g i None p d mid new r base.root base.offset (type_at base.ty) base.peak →
    Makes (Fits g (Index a i p) d) (Coded g (Index a i p) d old new) r
ok-Index g a i p d still old mid new base r e f b l =
    let f' : BaseFits (is_calm i) g a d = subst (λ s. BaseFits s g a d) e f in
    let b' : Based (is_calm i) g a d old mid base = subst (λ s. Based s g a d old mid base) e b in
    makes_as _ (Fits g (Index a i p) d) _ (Coded g (Index a i p) d old new) r
    (element_as g i None p d mid new r _ _ _ _ _ _ _ _ b'.root b'.offset b'.ty b'.peak l)
    (λ whole. let k = fits-Index g a i p d whole in (k.1, k.2))
    (λ placed. made-Index g a i p d old mid new base placed f' b')

pub ok-Slice : (g : Scope) (a i : Expr) (k : ℕ) (p : Place) (d : ℕ) (still : Bool) (old mid new : List Step) (base : Path) (r : Result Placed Unmade) → still ≡ is_calm i → BaseFits still g a d →
    Based still g a d old mid base → Element g i (Some k) p d mid new r base.root base.offset (type_at base.ty) base.peak →
    Makes (Fits g (Slice a i k p) d) (Coded g (Slice a i k p) d old new) r
ok-Slice g a i k p d still old mid new base r e f b l =
    let f' : BaseFits (is_calm i) g a d = subst (λ s. BaseFits s g a d) e f in
    let b' : Based (is_calm i) g a d old mid base = subst (λ s. Based s g a d old mid base) e b in
    makes_as _ (Fits g (Slice a i k p) d) _ (Coded g (Slice a i k p) d old new) r
    (element_as g i (Some k) p d mid new r _ _ _ _ _ _ _ _ b'.root b'.offset b'.ty b'.peak l)
    (λ whole. let q = fits-Slice g a i k p d whole in (q.1, q.2))
    (λ placed. made-Slice g a i k p d old mid new base placed f' b')

-- what the definitions say of a part as a value
code-Part : (g : Scope) (a : Expr) (name : List ℕ) (k : ℕ) (p : Place) (d : ℕ) →
    (let o = d + base_width true g a in let offset = part_offset g.structs (type_in g a) k in let n = cells_for g (part_type g.structs (type_in g a) k) in
    code_of g (Part a name k p) d ≡ reading (fixed g (Part a name k p)) n d
    (based (is_rooted a) (path_code true g a d) (code_of g a d) o ++ Load (Local d) (shifted (base_root true g a d) offset) (Local o) n ∷ []))
unfolding shape-the_row-Expr-0 hidden-the_row-Expr-0 hidden
code-Part g a name k p d = refl

peak-Part : (g : Scope) (a : Expr) (name : List ℕ) (k : ℕ) (p : Place) (d : ℕ) →
    (let n = cells_for g (part_type g.structs (type_in g a) k) in
    peak_of g (Part a name k p) d ≡ peak_if (fixed g a) (behind d n) (max (base_peak true g a d) (d + n)))
unfolding shape-the_row-Expr-0 hidden-the_row-Expr-0 hidden
peak-Part g a name k p d = refl

coded-Part : (g : Scope) (a : Expr) (name : List ℕ) (k : ℕ) (p : Place) (d : ℕ) →
    is_coded g (Part a name k p) d ≡ (pick (is_rooted a) (is_path_coded true g a d) (is_coded g a d)
    && (counts_spot (fixed g (Part a name k p)) && small (number_of (base_root true g a d) + part_offset g.structs (type_in g a) k)))
unfolding shape-the_row-Expr-0 hidden-the_row-Expr-0 hidden
coded-Part g a name k p d = refl

-- what stands without code, and what does not
peak_fixed : (o : Option Spot) (k : ℕ) (x : Spot) (there other : ℕ) → shift_if o k ≡ Some x → peak_if o there other ≡ there
peak_fixed None k x there other e = absurd (no e) where
  no : None ≡ Some x → ⊥
  no e = cc
peak_fixed (Some y) k x there other e = refl

peak_unfixed : (o : Option Spot) (k there other : ℕ) → shift_if o k ≡ None → peak_if o there other ≡ other
peak_unfixed None k there other e = refl
peak_unfixed (Some y) k there other e = absurd (no e) where
  no : Some (shifted y k) ≡ None → ⊥
  no e = cc

reading_fixed : (x : Spot) (n d : ℕ) (other : List Step) → reading (Some x) n d other ≡ reading (Some x) n d []
reading_fixed (Top o) n d other = refl
reading_fixed (Local o) n d other = refl

pick_true : {A : Type 0} (b : Bool) (x y : A) → b ≡ true → pick b x y ≡ x
pick_true b x y e = ap (λ c. pick c x y) e

number_shifted : (x : Spot) (k : ℕ) → number_of (shifted x k) ≡ number_of x + k
number_shifted (Top o) k = refl
number_shifted (Local o) k = refl

-- what a part takes
fits-Part : (g : Scope) (a : Expr) (name : List ℕ) (k : ℕ) (p : Place) (d : ℕ) → fixed g (Part a name k p) ≡ None → Fits g (Part a name k p) d →
    BaseFits true g a d × (number_of (base_root true g a d) + part_offset g.structs (type_in g a) k < 2 ^ 32) × (d + cells_for g (part_type g.structs (type_in g a) k) < 2 ^ 32)
fits-Part g a name k p d none h =
    let n : ℕ = cells_for g (part_type g.structs (type_in g a) k) in
    let same : peak_of g (Part a name k p) d ≡ max (base_peak true g a d) (d + n) =
    peak-Part g a name k p d ∙ peak_unfixed (fixed g a) (part_offset g.structs (type_in g a) k) _ _ (sym (fixed-Part g a name k p) ∙ none) in
    let cells = h.cells in
    let numbers = sym (coded-Part g a name k p d) ∙ h.numbers in
    let more = and_second (pick (is_rooted a) (is_path_coded true g a d) (is_coded g a d)) _ numbers in (
      record { cells = omega arith; numbers = and_first _ _ numbers },
      small_below _ (and_second (counts_spot (fixed g (Part a name k p))) _ more),
      omega arith,
    )

made-Part : (g : Scope) (a : Expr) (name : List ℕ) (k : ℕ) (p : Place) (d : ℕ) (old mid new : List Step) (base path : Path) (placed : Placed) → fixed g (Part a name k p) ≡ None →
    BaseFits true g a d → Based true g a d old mid base → number_of (base_root true g a d) + part_offset g.structs (type_in g a) k < 2 ^ 32 →
    (let offset : ℕ = part_offset g.structs (type_in g a) k in let ty : Ty = part_type g.structs (type_in g a) k in let n : ℕ = cells_for g ty in let o : ℕ = d + base_width true g a in
    d + n < 2 ^ 32 → Stands (Load (Local d) (shifted (base_root true g a d) offset) (Local o) n ∷ []) (Local d) ty n (max (base_peak true g a d) (d + n)) mid new placed →
    Fits g (Part a name k p) d × Coded g (Part a name k p) d old new placed)
made-Part g a name k p d old mid new base path placed none fb b lt end s =
    let n : ℕ = cells_for g (part_type g.structs (type_in g a) k) in
    let o : ℕ = d + base_width true g a in
    let offset : ℕ = part_offset g.structs (type_in g a) k in
    let same : peak_of g (Part a name k p) d ≡ max (base_peak true g a d) (d + n) =
    peak-Part g a name k p d ∙ peak_unfixed (fixed g a) offset _ _ (sym (fixed-Part g a name k p) ∙ none) in
    let cells = fb.cells in
    let other : List Step = based (is_rooted a) (path_code true g a d) (code_of g a d) o ++ Load (Local d) (shifted (base_root true g a d) offset) (Local o) n ∷ [] in
    let code : code_of g (Part a name k p) d ≡ other = code-Part g a name k p d ∙ ap (λ x. reading x n d other) none in (
      record {
        cells = omega arith;
        numbers = coded-Part g a name k p d ∙ both_true _ _ fb.numbers (both_true _ _ (ap counts_spot none) (below_small _ lt));
      },
      record {
        code = behind_code old mid new _ _ b.code s.code ∙ ap (λ (steps : List Step). old ++ steps) (sym code);
        at = s.at ∙ sym (ap (λ x. read_at x d) none);
        ty = s.ty ∙ sym (type-Part g a name k p);
        cells = s.cells ∙ ap (λ t. capped (cells_for g t)) (sym (type-Part g a name k p));
        peak = s.peak ∙ sym same;
      },
    )

-- a part whose spot is too large
far_apart : (g : Scope) (a : Expr) (name : List ℕ) (k : ℕ) (p : Place) (d : ℕ) (why : Unmade) → IsBeyond g (Part a name k p) why → Refuses (Fits g (Part a name k p) d) why
far_apart g a name k p d (Memory error) h = tt
far_apart g a name k p d Large h = λ whole.
    let rooted : is_rooted a ≡ true = sym (rooted-Part a name k p) ∙ (h d).0 in
    let numbers = sym (coded-Part g a name k p d) ∙ whole.numbers in
    let first : is_path_coded true g a d ≡ true = sym (pick_true (is_rooted a) (is_path_coded true g a d) (is_coded g a d) rooted) ∙ and_first _ _ numbers in
    let last = and_second (counts_spot (fixed g (Part a name k p))) _ (and_second (pick (is_rooted a) (is_path_coded true g a d) (is_coded g a d)) _ numbers) in
    let root : small (number_of (path_root true g a d) + part_offset g.structs (type_in g a) k) ≡ true =
    ap (λ x. small (number_of x + part_offset g.structs (type_in g a) k)) (sym (pick_true (is_rooted a) (path_root true g a d) (Local d) rooted)) ∙ last in
    not_both _ (path_coded-Part true g a name k p d ∙ both_true _ _ first root) (h d).1

pub beyond-Part : (g : Scope) (a : Expr) (name : List ℕ) (k : ℕ) (p : Place) (d : ℕ) (Q : Placed → Type 0) (why : Unmade) (r : Result Placed Unmade) → IsErrAnd r (λ y. y ≡ why) →
    IsBeyond g (Part a name k p) why → Makes (Fits g (Part a name k p) d) Q r
beyond-Part g a name k p d Q why r is h =
    makes_err (Fits g (Part a name k p) d) (Fits g (Part a name k p) d) Q why r is (far_apart g a name k p d why h) (λ whole. whole)

-- a part of what is not made
pub err-Part : (g : Scope) (a : Expr) (name : List ℕ) (k : ℕ) (p : Place) (d : ℕ) (Q : Placed → Type 0) (why : Unmade) (r : Result Placed Unmade) → IsErrAnd r (λ y. y ≡ why) →
    fixed g (Part a name k p) ≡ None → Refuses (BaseFits true g a d) why → Makes (Fits g (Part a name k p) d) Q r
err-Part g a name k p d Q why r is none h =
    makes_err (BaseFits true g a d) (Fits g (Part a name k p) d) Q why r is h (λ whole. (fits-Part g a name k p d none whole).0)

root_as : (g : Scope) (a : Expr) (k d : ℕ) (old mid : List Step) (base : Path) → Based true g a d old mid base → number_of base.root + part_offset g.structs (type_at base.ty) k ≡
    number_of (base_root true g a d) + part_offset g.structs (type_in g a) k
root_as g a k d old mid base b =
    ap (λ x. number_of x + part_offset g.structs (type_at base.ty) k) b.root ∙ ap (λ t. number_of (base_root true g a d) + part_offset g.structs t k) b.ty

-- a part whose spot is too large behind a path
pub far-Part : (g : Scope) (a : Expr) (name : List ℕ) (k : ℕ) (p : Place) (d : ℕ) (old mid : List Step) (base : Path) (Q : Placed → Type 0) (why : Unmade) (r : Result Placed Unmade) →
    IsErrAnd r (λ y. y ≡ why) → fixed g (Part a name k p) ≡ None → Based true g a d old mid base →
    Refuses (number_of base.root + part_offset g.structs (type_at base.ty) k < 2 ^ 32) why → Makes (Fits g (Part a name k p) d) Q r
far-Part g a name k p d old mid base Q why r is none b h =
    let same = root_as g a k d old mid base b in
    makes_err (number_of base.root + part_offset g.structs (type_at base.ty) k < 2 ^ 32) (Fits g (Part a name k p) d) Q why r is h
    (λ whole. let q = (fits-Part g a name k p d none whole).1 in omega arith)

-- what is made of the value that a path leads to
abbrev pub Loaded : Scope → ℕ → List Step → List Step → Result Placed Unmade → Spot → ℕ → Ty → ℕ → Type 0
Loaded g d mid new r root o ty most =
    let n = cells_for g ty in
    Makes (d + n < 2 ^ 32) (Stands (Load (Local d) root (Local o) n ∷ []) (Local d) ty n (max most (d + n)) mid new) r

loaded_as : (g : Scope) (d : ℕ) (mid new : List Step) (r : Result Placed Unmade) (a b : Spot) (m n : ℕ) (s t : Ty) (x y : ℕ) → a ≡ b → m ≡ n → s ≡ t → x ≡ y →
    Loaded g d mid new r a m s x → Loaded g d mid new r b n t y
loaded_as g d mid new r a b m n s t x y e f h k l =
    subst (λ z. Loaded g d mid new r b n t z) k (subst (λ z. Loaded g d mid new r b n z x) h
    (subst (λ z. Loaded g d mid new r b z s x) f (subst (λ z. Loaded g d mid new r z m s x) e l)))

-- a part behind a path
pub ok-Part : (g : Scope) (a : Expr) (name : List ℕ) (k : ℕ) (p : Place) (d : ℕ) (old mid new : List Step) (base path : Path) (r : Result Placed Unmade) → fixed g (Part a name k p) ≡ None →
    BaseFits true g a d → Based true g a d old mid base → number_of base.root + part_offset g.structs (type_at base.ty) k < 2 ^ 32 →
    Leads [] (shifted base.root (part_offset g.structs (type_at base.ty) k)) base.offset (part_type g.structs (type_at base.ty) k) base.peak [] [] path →
    Loaded g d mid new r path.root path.offset (type_at path.ty) path.peak → Makes (Fits g (Part a name k p) d) (Coded g (Part a name k p) d old new) r
ok-Part g a name k p d old mid new base path r none f b lt w l =
    let same = root_as g a k d old mid base b in
    makes_as _ (Fits g (Part a name k p) d) _ (Coded g (Part a name k p) d old new) r
    (loaded_as g d mid new r path.root (shifted (base_root true g a d) (part_offset g.structs (type_in g a) k)) path.offset (d + base_width true g a) (type_at path.ty) (part_type g.structs (type_in g a) k) path.peak (base_peak true g a d)
    (w.root ∙ ap (λ x. shifted x (part_offset g.structs (type_at base.ty) k)) b.root ∙ ap (λ t. shifted (base_root true g a d) (part_offset g.structs t k)) b.ty)
    (w.offset ∙ b.offset) (w.ty ∙ ap (λ t. part_type g.structs t k) b.ty) (w.peak ∙ b.peak) l)
    (λ whole. (fits-Part g a name k p d none whole).2)
    (λ placed. made-Part g a name k p d old mid new base path placed none f b (omega arith))

-- a part that stands without code
made-Fixed : (g : Scope) (a : Expr) (name : List ℕ) (k : ℕ) (p : Place) (d : ℕ) (old new : List Step) (value : Standing) (placed : Placed) → IsFixed g (Part a name k p) (Some value) →
    (let n : ℕ = cells_for g (type_in g (Part a name k p)) in
    behind d n < 2 ^ 32 → Stands (reading (Some value.at) n d []) (read_at (Some value.at) d) (type_in g (Part a name k p)) n (behind d n) old new placed →
    Fits g (Part a name k p) d × Coded g (Part a name k p) d old new placed)
made-Fixed g a name k p d old new value placed fx lt s =
    let offset : ℕ = part_offset g.structs (type_in g a) k in
    let n : ℕ = cells_for g (part_type g.structs (type_in g a) k) in
    let rooted : is_rooted a ≡ true = sym (rooted-Part a name k p) ∙ fx.2 in
    let there : shift_if (fixed g a) offset ≡ Some value.at = sym (fixed-Part g a name k p) ∙ fx.0 in
    let types : type_in g (Part a name k p) ≡ part_type g.structs (type_in g a) k = type-Part g a name k p in
    let most : peak_of g (Part a name k p) d ≡ behind d n = peak-Part g a name k p d ∙ peak_fixed (fixed g a) offset value.at _ _ there in
    let numbers : is_path_coded true g a d && small (number_of (path_root true g a d) + offset) ≡ true = sym (path_coded-Part true g a name k p d) ∙ (fx.3 d).0 in
    let last = and_second (is_path_coded true g a d) _ numbers in
    let spot : number_of value.at ≡ number_of (path_root true g a d) + offset =
    ap number_of (sym (fx.3 d).1 ∙ path_root-Part true g a name k p d) ∙ number_shifted (path_root true g a d) offset in
    let other : List Step =
    based (is_rooted a) (path_code true g a d) (code_of g a d) (d + base_width true g a)
    ++ Load (Local d) (shifted (base_root true g a d) offset) (Local (d + base_width true g a)) n ∷ [] in
    let cells : behind d n < 2 ^ 32 = subst (λ t. behind d (cells_for g t) < 2 ^ 32) types lt in (
      record {
        cells = omega arith;
        numbers =
            coded-Part g a name k p d ∙ both_true _ _ (pick_true (is_rooted a) _ _ rooted ∙ and_first _ _ numbers)
            (both_true _ _ (ap counts_spot fx.0 ∙ ap small spot ∙ last)
            (ap (λ x. small (number_of x + offset)) (pick_true (is_rooted a) (path_root true g a d) (Local d) rooted) ∙ last));
      },
      record {
        code =
            s.code ∙ ap (λ t. old ++ reading (Some value.at) (cells_for g t) d []) types
            ∙ ap (λ (steps : List Step). old ++ steps) (sym (code-Part g a name k p d ∙ ap (λ x. reading x n d other) fx.0 ∙ reading_fixed value.at n d other));
        at = s.at ∙ ap (λ x. read_at x d) (sym fx.0);
        ty = s.ty;
        cells = s.cells;
        peak = s.peak ∙ ap (λ t. behind d (cells_for g t)) types ∙ sym most;
      },
    )

-- what is made of a value that stands without code
abbrev pub Read : Scope → ℕ → List Step → List Step → Result Placed Unmade → Spot → Ty → Type 0
Read g d old new r at ty =
    let n = cells_for g ty in
    Makes (behind d n < 2 ^ 32) (Stands (reading (Some at) n d []) (read_at (Some at) d) ty n (behind d n) old new) r

pub ok-Fixed : (g : Scope) (a : Expr) (name : List ℕ) (k : ℕ) (p : Place) (d : ℕ) (old new : List Step) (value : Standing) (r : Result Placed Unmade) → IsFixed g (Part a name k p) (Some value) →
    Read g d old new r value.at (type_at value.ty) → Makes (Fits g (Part a name k p) d) (Coded g (Part a name k p) d old new) r
ok-Fixed g a name k p d old new value r fx h =
    let there : shift_if (fixed g a) (part_offset g.structs (type_in g a) k) ≡ Some value.at = sym (fixed-Part g a name k p) ∙ fx.0 in
    let most : peak_of g (Part a name k p) d ≡ behind d (cells_for g (type_in g (Part a name k p))) =
    peak-Part g a name k p d ∙ peak_fixed (fixed g a) (part_offset g.structs (type_in g a) k) value.at _ _ there ∙ ap (λ t. behind d (cells_for g t)) (sym (type-Part g a name k p)) in
    makes_as _ (Fits g (Part a name k p) d) _ (Coded g (Part a name k p) d old new) r (subst (λ t. Read g d old new r value.at t) fx.1 h)
    (λ whole. let cells = whole.cells in omega arith)
    (λ placed. made-Fixed g a name k p d old new value placed fx)

-- a call
fits-Call : (g : Scope) (f : Ident) (callee : Callee) (es : List Expr) (d : ℕ) → Fits g (Call f callee es) d → AllFit g es d × (d + max (cells_for g (callee_type g callee)) (callee_needs g callee) < 2 ^ 32)
fits-Call g f callee es d h =
    let end : ℕ = d + max (cells_for g (callee_type g callee)) (callee_needs g callee) in
    let same : peak_of g (Call f callee es) d ≡ max (peak_of_all g es d) end = ap (λ n. max n end) (peak-list g d es) in
    let cells = h.cells in
    (record { cells = omega arith; numbers = sym (coded-list g d es) ∙ h.numbers }, omega arith)

pub err-Call : (g : Scope) (f : Ident) (callee : Callee) (es : List Expr) (d : ℕ) (Q : Placed → Type 0) (why : Unmade) (r : Result Placed Unmade) → IsErrAnd r (λ y. y ≡ why) →
    Refuses (AllFit g es d) why → Makes (Fits g (Call f callee es) d) Q r
err-Call g f callee es d Q why r is h = makes_err (AllFit g es d) (Fits g (Call f callee es) d) Q why r is h (λ whole. (fits-Call g f callee es d whole).0)

pub ok-Call : (g : Scope) (f : Ident) (callee : Callee) (es : List Expr) (d : ℕ) (old mid new : List Step) (row : Arguments) (r : Result Placed Unmade) → AllFit g es d → Arranged g es d old mid row →
    (let ty : Ty = callee_type g callee in let n : ℕ = cells_for g ty in let end : ℕ = d + max n (callee_needs g callee) in
    Makes (end < 2 ^ 32) (Stands (callee_code g callee d) (Local d) ty n (max row.peak end) mid new) r →
    Makes (Fits g (Call f callee es) d) (Coded g (Call f callee es) d old new) r)
ok-Call g f callee es d old mid new row r fa a h =
    let n : ℕ = cells_for g (callee_type g callee) in
    let end : ℕ = d + max n (callee_needs g callee) in
    let same : peak_of g (Call f callee es) d ≡ max (peak_of_all g es d) end = ap (λ m. max m end) (peak-list g d es) in
    let left = fa.cells in
    makes_as _ (Fits g (Call f callee es) d) _ (Coded g (Call f callee es) d old new) r h (λ whole. (fits-Call g f callee es d whole).1)
    (λ placed lt s. (
      record { cells = omega arith; numbers = coded-list g d es ∙ fa.numbers },
      record {
        code = behind_code old mid new _ _ a.code s.code ∙ ap (λ (steps : List Step). old ++ (steps ++ callee_code g callee d)) (sym (code-list g d es));
        at = s.at;
        ty = s.ty;
        cells = s.cells;
        peak = s.peak ∙ ap (λ m. max m end) a.peak ∙ sym same;
      },
    ))

-- an array
pub err-Array : (g : Scope) (es : List Expr) (p : Place) (d : ℕ) (Q : Placed → Type 0) (why : Unmade) (r : Result Placed Unmade) → IsErrAnd r (λ y. y ≡ why) → Refuses (AllFit g es d) why →
    Makes (Fits g (Array es p) d) Q r
err-Array g es p d Q why r is h =
    makes_err (AllFit g es d) (Fits g (Array es p) d) Q why r is h
    (λ whole. let cells : peak_of g (Array es p) d < 2 ^ 32 = whole.cells in record { cells = subst (λ n. n < 2 ^ 32) (peak-list g d es) cells; numbers = sym (coded-list g d es) ∙ whole.numbers })

pub ok-Array : (g : Scope) (es : List Expr) (p : Place) (d n : ℕ) (old mid : List Step) (row : Arguments) (placed : Placed) → n ≡ length es → AllFit g es d → Arranged g es d old mid row →
    (let ty : Ty = array_of n (type_at row.first) in Stands [] (Local d) ty (cells_for g ty) row.peak [] [] placed →
    Fits g (Array es p) d × Coded g (Array es p) d old mid placed)
ok-Array g es p d n old mid row placed k fa a s =
    let ty : type_in g (Array es p) ≡ array_of n (type_at row.first) =
    ap (λ m. array_of m (first_type g (hidden-the_row-Expr-1 es))) (count-list es ∙ sym k) ∙ ap (λ t. array_of n t) (first-list g es ∙ sym a.first) in (
      record { cells = subst (λ m. m < 2 ^ 32) (sym (peak-list g d es)) fa.cells; numbers = coded-list g d es ∙ fa.numbers },
      record {
        code = a.code ∙ ap (λ (steps : List Step). old ++ steps) (sym (code-list g d es));
        at = s.at;
        ty = s.ty ∙ sym ty;
        cells = s.cells ∙ ap (λ t. capped (cells_for g t)) (sym ty);
        peak = s.peak ∙ a.peak ∙ sym (peak-list g d es);
      },
    )
