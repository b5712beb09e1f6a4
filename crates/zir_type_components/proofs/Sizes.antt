-- The sizes of components at the trees that code has.
use Rattle.std.specs.Prelude.{◌≡◌, ℕ, ◌+◌, ◌<◌, ◌≤◌, List, [], ◌∷◌, drop, Some, refl}
use Rattle.std.proofs.Common.{ap, ◌∙◌, sym, arith}
use denote.Hole.Carrier.{hidden}
use Rattle.zir_tree.specs.declared.ident.Ident.{Ident}
use Rattle.zir_tree.specs.declared.place.Place.{Place}
use Rattle.zir_tree.specs.declared.expr.Expr.{Expr}
use Rattle.zir_tree.specs.declared.comp.Turning.{Turning}
use Rattle.zir_tree.specs.declared.comp.Link.{Link}
use Rattle.zir_tree.specs.declared.comp.Comp.{Comp, Repeat, While, Times, For, If, Call, Block, Pipe}
use Rattle.zir_tree.specs.declared.comp.Comp.TheBlock.{shape-the_row-Comp-0, hidden-the_row-Comp-0, shape-the_row-Member-1, hidden-the_row-Member-1}
use Rattle.zir_tree.specs.declared.comp.Member.{Member, Bind, Var, Run}
use Rattle.zir_types.specs.Programs.{Prepared}
use Rattle.zir_type_components.specs.declared.comps.Found.{Found}
use Rattle.zir_type_components.specs.Numbers.{found}
use Rattle.zir_type_components.specs.Calls.{split_in}
use Rattle.zir_type_components.specs.Sizes.{size_of, size_of_row, size_of_member, size_of_members, heights}
use Rattle.zir_type_components.proofs.Found.{height_in, height-found}

pub size-Repeat : (hs : ℕ → ℕ) (c : Comp) (p : Place) → size_of hs (Repeat c p) ≡ 3 + size_of hs c
unfolding shape-the_row-Comp-0 hidden-the_row-Comp-0 hidden
size-Repeat hs c p = refl

pub size-While : (hs : ℕ → ℕ) (turning : Turning) (e : Expr) (c : Comp) (p : Place) → size_of hs (While turning e c p) ≡ 3 + size_of hs c
unfolding shape-the_row-Comp-0 hidden-the_row-Comp-0 hidden
size-While hs turning e c p = refl

pub size-Times : (hs : ℕ → ℕ) (e : Expr) (c : Comp) (p : Place) → size_of hs (Times e c p) ≡ 3 + size_of hs c
unfolding shape-the_row-Comp-0 hidden-the_row-Comp-0 hidden
size-Times hs e c p = refl

pub size-For : (hs : ℕ → ℕ) (x : Ident) (e f : Expr) (c : Comp) (p : Place) → size_of hs (For x e f c p) ≡ 3 + size_of hs c
unfolding shape-the_row-Comp-0 hidden-the_row-Comp-0 hidden
size-For hs x e f c p = refl

pub size-If : (hs : ℕ → ℕ) (e : Expr) (c d : Comp) (p : Place) → size_of hs (If e c d p) ≡ 3 + (size_of hs c + size_of hs d)
unfolding shape-the_row-Comp-0 hidden-the_row-Comp-0 hidden
size-If hs e c d p = refl

pub size-Pipe : (hs : ℕ → ℕ) (link : Link) (c d : Comp) (p : Place) → size_of hs (Pipe link c d p) ≡ 3 + (size_of hs c + size_of hs d)
unfolding shape-the_row-Comp-0 hidden-the_row-Comp-0 hidden
size-Pipe hs link c d p = refl

pub size-members : (hs : ℕ → ℕ) (ms : List Member) → size_of_row hs (hidden-the_row-Member-1 ms) ≡ size_of_members hs ms
unfolding shape-the_row-Member-1 hidden-the_row-Member-1 hidden
size-members hs [] = refl
size-members hs ((Bind x c) ∷ ms) = ap (λ n. (2 + size_of hs c) + n) (size-members hs ms)
size-members hs ((Var v) ∷ ms) = ap (λ n. 2 + n) (size-members hs ms)
size-members hs ((Run c) ∷ ms) = ap (λ n. (2 + size_of hs c) + n) (size-members hs ms)

pub size-Block : (hs : ℕ → ℕ) (ms : List Member) (p : Place) → size_of hs (Block ms p) ≡ 4 + size_of_members hs ms
size-Block hs ms p = ap (λ n. 4 + n) (size-members hs ms)

-- A part is less than what it is a part of.
pub less_self : (hs : ℕ → ℕ) (w c c1 : Comp) → size_of hs w ≡ 3 + size_of hs c → c1 ≡ c → 1 + size_of hs c1 < size_of hs w
less_self hs w c c1 h e = let s : size_of hs c1 ≡ size_of hs c = ap (size_of hs) e in omega arith

pub less_one : (hs : ℕ → ℕ) (w c c1 : Comp) → size_of hs w ≡ 3 + size_of hs c → c1 ≡ c → 2 + size_of hs c1 < size_of hs w
less_one hs w c c1 h e = let s : size_of hs c1 ≡ size_of hs c = ap (size_of hs) e in omega arith

pub less_both : (hs : ℕ → ℕ) (w c c1 d d1 : Comp) → size_of hs w ≡ 3 + (size_of hs c + size_of hs d) → c1 ≡ c → d1 ≡ d →
    2 + (size_of hs c1 + size_of hs d1) < size_of hs w
less_both hs w c c1 d d1 h e f =
    let s : size_of hs c1 ≡ size_of hs c = ap (size_of hs) e in
    let t : size_of hs d1 ≡ size_of hs d = ap (size_of hs) f in
    omega arith

pub less_left : (hs : ℕ → ℕ) (w c c1 d : Comp) → size_of hs w ≡ 3 + (size_of hs c + size_of hs d) → c1 ≡ c → 1 + size_of hs c1 < size_of hs w
less_left hs w c c1 d h e = let s : size_of hs c1 ≡ size_of hs c = ap (size_of hs) e in omega arith

pub less_right : (hs : ℕ → ℕ) (w c d d1 : Comp) → size_of hs w ≡ 3 + (size_of hs c + size_of hs d) → d1 ≡ d → 1 + size_of hs d1 < size_of hs w
less_right hs w c d d1 h e = let s : size_of hs d1 ≡ size_of hs d = ap (size_of hs) e in omega arith

pub less_members : (hs : ℕ → ℕ) (w : Comp) (ms ms1 : List Member) → size_of hs w ≡ 4 + size_of_members hs ms → ms1 ≡ ms →
    3 + size_of_members hs ms1 < size_of hs w
less_members hs w ms ms1 h e = let s : size_of_members hs ms1 ≡ size_of_members hs ms = ap (size_of_members hs) e in omega arith

pub less_call : (hs : ℕ → ℕ) (w : Comp) (f : Ident) (k : ℕ) (es : List Expr) → w ≡ Call f k es → 3 + hs f.id < size_of hs w
less_call hs w f k es e = let s : size_of hs w ≡ 4 + hs f.id = ap (size_of hs) e in omega arith

-- The body of what is found is less than a call of it.
pub less_body : (ds : List Prepared) (from id : ℕ) (d : Found) → Some (split_in ds d) ≡ found (drop from ds) id →
    2 + size_of (heights (drop d.next ds)) d.comp.now.body < 3 + heights (drop from ds) id
less_body ds from id d h =
    let s : heights (drop from ds) id ≡ size_of (heights (drop d.next ds)) d.comp.now.body = height-found (drop from ds) id ∙ ap height_in (sym h) in
    omega arith

-- A member is less than the members from it on.
pub less_member : (hs : ℕ → ℕ) (ms rest more : List Member) (m m1 : Member) → rest ≡ m ∷ more → m1 ≡ m → size_of_members hs rest ≤ size_of_members hs ms →
    1 + size_of_member hs m1 < 2 + size_of_members hs ms
less_member hs ms rest more m m1 h e le =
    let s : size_of_members hs rest ≡ size_of_member hs m + size_of_members hs more = ap (size_of_members hs) h in
    let t : size_of_member hs m1 ≡ size_of_member hs m = ap (size_of_member hs) e in
    omega arith

-- Those behind a member are no more than those from it on.
pub less_rest : (hs : ℕ → ℕ) (ms rest more : List Member) (m : Member) → rest ≡ m ∷ more → size_of_members hs rest ≤ size_of_members hs ms →
    size_of_members hs more ≤ size_of_members hs ms
less_rest hs ms rest more m h le =
    let s : size_of_members hs rest ≡ size_of_member hs m + size_of_members hs more = ap (size_of_members hs) h in omega arith
