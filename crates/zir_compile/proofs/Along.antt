-- Paths into a variable, access by access.
use Rattle.std.specs.Prelude.{ℕ, ◌+◌, ◌<◌, ◌≤◌, ◌^◌, max, List, [], ◌∷◌, ◌++◌, length, drop, true, false, ◌&&◌, ◌≡◌, refl}
use Rattle.std.proofs.Common.{ap, sym, ◌∙◌, subst, append_assoc, append-nil, arith, get_or}
use Rattle.std.proofs.lemmas.List.{drop_all}
use Rattle.zir_tree.specs.declared.types.Ty.{Ty}
use Rattle.zir_tree.specs.declared.stmt.Access.{Access}
use Rattle.zir_tree.specs.declared.stmt.Access.TheVariants.{Index, Slice, Part}
use Rattle.zir_expr.specs.declared.frame.Spot.{Spot}
use Rattle.zir_expr.specs.declared.frame.Spot.TheVariants.{Top, Local}
use Rattle.zir_expr.specs.declared.steps.Step.{Step}
use Rattle.zir_code.specs.Scopes.{Scope, shifted, number_of}
use Rattle.zir_code.specs.Types.{element_type}
use Rattle.zir_code.specs.Coding.{code_of, stands, to_element, to_slice}
use Rattle.zir_code.specs.Peaks.{is_coded, counts_elements}
use Rattle.zir_code.specs.Statements.{has_index, along_code, along_shift, along_peak, along_coded}
use Rattle.zir_compile.specs.declared.made.Path.{Path}
use Rattle.zir_compile.specs.Coded.{Leads}
use Rattle.zir_compile.specs.Extents.{type_at}
use Rattle.zir_compile.specs.Stated.{is_index, access_code, access_shift, access_type, access_peak, AccessFits, along_type, AlongFits}
use Rattle.zir_compile.proofs.Finding.{at_place}
use Rattle.zir_compile.proofs.Making.{and_first, and_second}

-- an index is the first, or among the others
pub index_here : (path : List Access) (n : ℕ) (a : Access) → n < length path → a ≡ get_or path n a → is_index a ≡ true → has_index path ≡ has_index (drop n path) → has_index path ≡ true
index_here path n a lt is h i = i ∙ ap has_index (at_place path n a lt is) ∙ first a (drop (n + 1) path) h where
  first : (a : Access) (rest : List Access) → is_index a ≡ true → has_index (a ∷ rest) ≡ true
  first (Index e p) rest h = refl
  first (Slice e k p) rest h = refl
  first (Part name k p) rest h = absurd (no h) where
    no : false ≡ true → ⊥
    no e = cc

-- what the definitions say of an access before others
code_on : (g : Scope) (ty : Ty) (o : ℕ) (a : Access) (path : List Access) → along_code g ty o (a ∷ path) ≡ access_code g ty o a ++ along_code g (access_type g ty a) o path
code_on g ty o (Index e p) path = sym (append_assoc (code_of g e (o + 1)) (to_element g ty o (stands g e (o + 1)) p ∷ []) _)
code_on g ty o (Slice e k p) path = sym (append_assoc (code_of g e (o + 1)) (to_slice g ty k o (stands g e (o + 1)) p ∷ []) _)
code_on g ty o (Part name k p) path = refl

shift_on : (g : Scope) (ty : Ty) (a : Access) (path : List Access) → along_shift g ty (a ∷ path) ≡ access_shift g ty a + along_shift g (access_type g ty a) path
shift_on g ty (Index e p) path = omega arith
shift_on g ty (Slice e k p) path = omega arith
shift_on g ty (Part name k p) path = refl

peak_on : (g : Scope) (ty : Ty) (o : ℕ) (a : Access) (path : List Access) → along_peak g ty o (a ∷ path) ≡ max (access_peak g o a) (along_peak g (access_type g ty a) o path)
peak_on g ty o (Index e p) path = refl
peak_on g ty o (Slice e k p) path = refl
peak_on g ty o (Part name k p) path = omega arith

-- the cell of the offset is used
pub offset_least : (g : Scope) (ty : Ty) (o : ℕ) (path : List Access) → o + 1 ≤ along_peak g ty o path
offset_least g ty o [] = omega arith
offset_least g ty o (a ∷ path) = let k = offset_least g (access_type g ty a) o path in let e = peak_on g ty o a path in omega arith

-- what an access takes of what all take
access_fits : (g : Scope) (root : Spot) (ty : Ty) (o : ℕ) (a : Access) (path : List Access) → along_peak g ty o (a ∷ path) < 2 ^ 32 → along_coded g ty o (a ∷ path) ≡ true →
    number_of root + along_shift g ty (a ∷ path) < 2 ^ 32 → AccessFits g root ty o a × (along_coded g (access_type g ty a) o path ≡ true)
access_fits g root ty o (Index e p) path cells numbers shift =
    let more = and_second (is_coded g e (o + 1)) _ numbers in
    (record { cells = omega arith; numbers = and_first _ _ numbers; elements = and_first _ _ more }, and_second (counts_elements g ty) _ more)
access_fits g root ty o (Slice e k p) path cells numbers shift =
    let more = and_second (is_coded g e (o + 1)) _ numbers in
    (record { cells = omega arith; numbers = and_first _ _ numbers; elements = and_first _ _ more }, and_second (counts_elements g ty) _ more)
access_fits g root ty o (Part name k p) path cells numbers shift = (omega arith, numbers)

coded_on : (g : Scope) (root : Spot) (ty : Ty) (o : ℕ) (a : Access) (path : List Access) → AccessFits g root ty o a → along_coded g ty o (a ∷ path) ≡ along_coded g (access_type g ty a) o path
coded_on g root ty o (Index e p) path f = ap (λ b. b && (counts_elements g ty && along_coded g (element_type ty) o path)) f.numbers ∙ ap (λ b. b && along_coded g (element_type ty) o path) f.elements
coded_on g root ty o (Slice e k p) path f =
    ap (λ b. b && (counts_elements g ty && along_coded g (access_type g ty (Slice e k p)) o path)) f.numbers ∙ ap (λ b. b && along_coded g (access_type g ty (Slice e k p)) o path) f.elements
coded_on g root ty o (Part name k p) path f = refl

-- an access takes few cells
access_small : (g : Scope) (root : Spot) (ty : Ty) (o : ℕ) (a : Access) → AccessFits g root ty o a → number_of root < 2 ^ 32 → (access_peak g o a < 2 ^ 32) × (number_of root + access_shift g ty a < 2 ^ 32)
access_small g root ty o (Index e p) f h = (f.cells, omega arith)
access_small g root ty o (Slice e k p) f h = (f.cells, omega arith)
access_small g root ty o (Part name k p) f h = (omega arith, f)

shifted_twice : (x : Spot) (m n : ℕ) → shifted (shifted x m) n ≡ shifted x (m + n)
shifted_twice (Top o) m n = ap (λ k. Top k) (let e : o + m + n ≡ o + (m + n) = omega arith in e)
shifted_twice (Local o) m n = ap (λ k. Local k) (let e : o + m + n ≡ o + (m + n) = omega arith in e)

pub shifted_none : (x : Spot) → shifted x 0 ≡ x
shifted_none (Top o) = ap (λ k. Top k) (let e : o + 0 ≡ o = omega arith in e)
shifted_none (Local o) = ap (λ k. Local k) (let e : o + 0 ≡ o = omega arith in e)

number_twice : (x : Spot) (m : ℕ) → number_of (shifted x m) ≡ number_of x + m
number_twice (Top o) m = refl
number_twice (Local o) m = refl

-- so far and from here on
pub record Along (g : Scope) (base : Path) (path : List Access) (old : List Step) (rest : List Access) (here : Path) (steps : List Step) : Type 0 where
  pub offset : here.offset ≡ base.offset
  pub shift : shifted base.root (along_shift g (type_at base.ty) path) ≡ shifted here.root (along_shift g (type_at here.ty) rest)
  pub numbers : along_coded g (type_at base.ty) base.offset path ≡ along_coded g (type_at here.ty) base.offset rest
  pub most : max base.peak (along_peak g (type_at base.ty) base.offset path) ≡ max here.peak (along_peak g (type_at here.ty) base.offset rest)
  pub peak : (along_peak g (type_at base.ty) base.offset path < 2 ^ 32 → along_peak g (type_at here.ty) base.offset rest < 2 ^ 32)
  pub code : old ++ along_code g (type_at base.ty) base.offset path ≡ steps ++ along_code g (type_at here.ty) base.offset rest
  pub ty : along_type g (type_at base.ty) path ≡ along_type g (type_at here.ty) rest
  pub small : (base.peak < 2 ^ 32 → number_of base.root < 2 ^ 32 → (here.peak < 2 ^ 32) × (number_of here.root < 2 ^ 32))

pub along_init : (g : Scope) (base : Path) (path : List Access) (steps : List Step) → Along g base path steps path base steps
along_init g base path steps = record { offset = refl; shift = refl; numbers = refl; most = refl; peak = λ h. h; code = refl; ty = refl; small = λ p q. (p, q) }

sums : (g : Scope) (base here : Path) (path rest : List Access) → shifted base.root (along_shift g (type_at base.ty) path) ≡ shifted here.root (along_shift g (type_at here.ty) rest) →
    number_of base.root + along_shift g (type_at base.ty) path ≡ number_of here.root + along_shift g (type_at here.ty) rest
sums g base here path rest e = sym (number_twice base.root _) ∙ ap number_of e ∙ number_twice here.root _

-- what an access takes from here on
here_takes : (g : Scope) (base : Path) (path : List Access) (old : List Step) (n : ℕ) (a : Access) (here : Path) (steps : List Step) → n < length path → a ≡ get_or path n a →
    Along g base path old (drop n path) here steps → AlongFits g base.root (type_at base.ty) base.offset path →
    AccessFits g here.root (type_at here.ty) base.offset a × (along_coded g (access_type g (type_at here.ty) a) base.offset (drop (n + 1) path) ≡ true)
here_takes g base path old n a here steps lt is i f =
    let place = at_place path n a lt is in
    let at : number_of base.root + along_shift g (type_at base.ty) path ≡ number_of here.root + along_shift g (type_at here.ty) (a ∷ drop (n + 1) path) =
    sums g base here path (drop n path) i.shift ∙ ap (λ xs. number_of here.root + along_shift g (type_at here.ty) xs) place in
    let whole = f.shift in
    access_fits g here.root (type_at here.ty) base.offset a (drop (n + 1) path) (subst (λ xs. along_peak g (type_at here.ty) base.offset xs < 2 ^ 32) place (i.peak f.cells))
    (sym (i.numbers ∙ ap (λ xs. along_coded g (type_at here.ty) base.offset xs) place) ∙ f.numbers) (omega arith)

pub here_access : (g : Scope) (base : Path) (path : List Access) (old : List Step) (n : ℕ) (a : Access) (here : Path) (steps : List Step) → n < length path → a ≡ get_or path n a →
    Along g base path old (drop n path) here steps → AlongFits g base.root (type_at base.ty) base.offset path → AccessFits g here.root (type_at here.ty) here.offset a
here_access g base path old n a here steps lt is i f =
    subst (λ o. AccessFits g here.root (type_at here.ty) o a) (sym i.offset) (here_takes g base path old n a here steps lt is i f).0

-- one access more
pub along_on : (g : Scope) (base : Path) (path : List Access) (old : List Step) (n : ℕ) (a : Access) (here next : Path) (steps mid : List Step) → n < length path → a ≡ get_or path n a →
    Along g base path old (drop n path) here steps → AccessFits g here.root (type_at here.ty) here.offset a →
    Leads (access_code g (type_at here.ty) here.offset a) (shifted here.root (access_shift g (type_at here.ty) a)) here.offset (access_type g (type_at here.ty) a) (max here.peak (access_peak g here.offset a)) steps mid next →
    Along g base path old (drop (n + 1) path) next mid
along_on g base path old n a here next steps mid lt is i f' l' =
    let place = at_place path n a lt is in
    let rest = drop (n + 1) path in
    let o : ℕ = base.offset in
    let t : Ty = type_at here.ty in
    let f : AccessFits g here.root t o a = subst (λ k. AccessFits g here.root t k a) i.offset f' in
    let l : Leads (access_code g t o a) (shifted here.root (access_shift g t a)) o (access_type g t a) (max here.peak (access_peak g o a)) steps mid next =
    subst (λ k. Leads (access_code g t k a) (shifted here.root (access_shift g t a)) k (access_type g t a) (max here.peak (access_peak g k a)) steps mid next) i.offset l' in
    let peaks : along_peak g t o (drop n path) ≡ max (access_peak g o a) (along_peak g (type_at next.ty) o rest) =
    ap (along_peak g t o) place ∙ peak_on g t o a rest ∙ ap (λ u. max (access_peak g o a) (along_peak g u o rest)) (sym l.ty) in
    let most = i.most in
    let up = l.peak in
    let k = i.peak in
    record {
      offset = l.offset;
      shift =
          i.shift ∙ ap (λ xs. shifted here.root (along_shift g t xs)) place ∙ ap (shifted here.root) (shift_on g t a rest)
          ∙ sym (shifted_twice here.root (access_shift g t a) (along_shift g (access_type g t a) rest)) ∙ ap (λ x. shifted x (along_shift g (access_type g t a) rest)) (sym l.root)
          ∙ ap (λ u. shifted next.root (along_shift g u rest)) (sym l.ty);
      numbers = i.numbers ∙ ap (λ xs. along_coded g t o xs) place ∙ coded_on g here.root t o a rest f ∙ ap (λ u. along_coded g u o rest) (sym l.ty);
      most = omega arith;
      peak = λ h. let q = i.peak h in omega arith;
      code =
          i.code ∙ ap (λ xs. steps ++ along_code g t o xs) place ∙ ap (λ (ss : List Step). steps ++ ss) (code_on g t o a rest)
          ∙ sym (append_assoc steps (access_code g t o a) (along_code g (access_type g t a) o rest)) ∙ ap (λ (ss : List Step). ss ++ along_code g (access_type g t a) o rest) (sym l.code)
          ∙ ap (λ u. mid ++ along_code g u o rest) (sym l.ty);
      ty = i.ty ∙ ap (along_type g t) place ∙ ap (λ u. along_type g u rest) (sym l.ty);
      small =
          λ p q.
          let before = i.small p q in
          let after = access_small g here.root t o a f before.1 in
          let to : number_of next.root ≡ number_of here.root + access_shift g t a = ap number_of l.root ∙ number_twice here.root (access_shift g t a) in
          let first = before.0 in
          let second = after.0 in
          let third = after.1 in
          (omega arith, omega arith);
    }

-- no access more
pub along_end : (g : Scope) (base : Path) (path : List Access) (old : List Step) (n : ℕ) (here : Path) (steps : List Step) → length path ≤ n →
    Along g base path old (drop n path) here steps → base.peak < 2 ^ 32 → number_of base.root < 2 ^ 32 → AlongFits g base.root (type_at base.ty) base.offset path ×
    Leads (along_code g (type_at base.ty) base.offset path) (shifted base.root (along_shift g (type_at base.ty) path)) base.offset (along_type g (type_at base.ty) path)
    (max base.peak (along_peak g (type_at base.ty) base.offset path)) old steps here
along_end g base path old n here steps le i p q =
    let few = i.small p q in
    let small = few.0 in
    let low = few.1 in
    let none = drop_all n path le in
    let o : ℕ = base.offset in
    let t : Ty = type_at here.ty in
    let last : max here.peak (along_peak g t o (drop n path)) ≡ max here.peak (o + 1) = ap (λ xs. max here.peak (along_peak g t o xs)) none in
    let within = here.within in
    let same = i.offset in
    let most = i.most in
    let sum : number_of base.root + along_shift g (type_at base.ty) path ≡ number_of here.root + 0 = sums g base here path (drop n path) i.shift ∙ ap (λ xs. number_of here.root + along_shift g t xs) none in (
      record { cells = omega arith; numbers = i.numbers ∙ ap (λ xs. along_coded g t o xs) none; shift = omega arith },
      record {
        code = sym (i.code ∙ ap (λ xs. steps ++ along_code g t o xs) none ∙ append-nil steps);
        root = sym (i.shift ∙ ap (λ xs. shifted here.root (along_shift g t xs)) none ∙ shifted_none here.root);
        offset = i.offset;
        ty = sym (i.ty ∙ ap (along_type g t) none);
        peak = omega arith;
      },
    )
