-- What the code has shown of the members of a block, put together.
use Rattle.std.specs.Prelude.{◌≡◌, ℕ, ◌<◌, List, [], ◌∷◌, length, drop, get_or, nat_eq, Bool, Result, refl}
use Rattle.std.proofs.Common.{ap, ◌∙◌, sym, subst, IsErrAnd, arith}
use Rattle.std.proofs.lemmas.Bool.{ne_eqb}
use Rattle.zir_tree.specs.declared.ident.Ident.{Ident}
use Rattle.zir_tree.specs.declared.place.Place.{Place}
use Rattle.zir_tree.specs.declared.comp.Member.{Member}
use Rattle.zir_tree.specs.declared.types.Ty.{Ty}
use Rattle.zir_tree.specs.declared.program.Instance.{Instance}
use Rattle.zir_types.specs.declared.error.TypeError.{TypeError}
use Rattle.zir_types.specs.Walk.{Walk, Fine, and_then, Refuses}
use Rattle.zir_types.specs.Scope.{Visible}
use Rattle.zir_types.specs.Components.{Makers, Members, Reached}
use Rattle.zir_types.proofs.Places.{at_place}
use Rattle.zir_type_components.specs.declared.rules.Gathered.{Gathered}
use Rattle.zir_type_components.specs.Blocks.{Stepped, ToldStep, ToldMembers, bind_of, run_of, member, members_of, is_end}
use Rattle.zir_type_components.proofs.Reaching.{members_err}

-- There is no member just where members end.
none_is_end : (ms : List Member) → nat_eq (length ms) 0 ≡ is_end ms
none_is_end [] = refl
none_is_end (m ∷ ms) = ne_eqb (length (m ∷ ms)) 0 (λ e. omega (arith, e))

-- Whether no member is left, as code tells it.
pub end_told : (b : Bool) (ms : List Member) → b ≡ nat_eq (length ms) 0 → b ≡ is_end ms
end_told b ms h = h ∙ none_is_end ms

-- One member more.
pub one_more : (mk mk1 : Makers) (g h : Visible) (n : ℕ) (a : Ty) (last : Bool) (done : Members) (made : Members) (m : Member) (ms all : List Member) →
    mk1 ≡ mk → last ≡ is_end ms → all ≡ m ∷ ms → member mk1 g n a last done m ≡ Fine (record { members = made; scope = h }) →
    members_of mk g n a done all ≡ members_of mk h n a made ms
one_more mk mk1 g h n a last done made m ms all hm hl ha q =
    ap (members_of mk g n a done) ha
    ∙ ap (λ w. and_then w (λ s. members_of mk s.scope n a s.members ms))
    (ap (λ b. member mk g n a b done m) (sym hl) ∙ ap (λ k. member k g n a last done m) (sym hm) ∙ q)

-- A member is refused.
pub one_err : (mk mk1 : Makers) (g : Visible) (n : ℕ) (a : Ty) (last : Bool) (done : Members) (m : Member) (ms all : List Member) (e : TypeError)
    (r : Result Gathered TypeError) (js : List Instance) (b h : Visible) → mk1 ≡ mk → last ≡ is_end ms → all ≡ m ∷ ms → IsErrAnd r (λ x. x ≡ e) →
    Refuses (member mk1 g n a last done m) e → ToldMembers (members_of mk g n a done all) r js b h
one_err mk mk1 g n a last done m ms all e r js b h hm hl ha err t =
    subst (λ xs. ToldMembers (members_of mk g n a done xs) r js b h) (sym ha)
    (members_err (member mk g n a (is_end ms) done m) (λ s. members_of mk s.scope n a s.members ms) e r js b h err
    (subst (λ v. Refuses (member mk g n a v done m) e) hl (subst (λ k. Refuses (member k g n a last done m) e) hm t)))

-- The same for what all members make.
pub all_err : (all walk : Walk Members) (r : Result Gathered TypeError) (js : List Instance) (b h : Visible) → all ≡ walk → ToldMembers walk r js b h →
    ToldMembers all r js b h
all_err all walk r js b h e t = subst (λ w. ToldMembers w r js b h) (sym e) t

-- A component that was typed, and what follows it.
pub step_ok : {A : Type 0} (walk : Walk A) (next : A → Walk Stepped) (x : A) (r : Result Gathered TypeError) (js : List Instance) (b h : Visible) →
    walk ≡ Fine x → ToldStep (next x) r js b h → ToldStep (and_then walk next) r js b h
step_ok walk next x r js b h q t = subst (λ w. ToldStep (and_then w next) r js b h) (sym q) t

-- The rule of a bound name in the same scope at the same place.
pub bound_told : (g1 g : Visible) (x : Ident) (p1 p : Place) (done : Members) (y : Reached) (r : Result Gathered TypeError) (js : List Instance)
    (h : Visible) →
    g1 ≡ g → p1 ≡ p → ToldStep (bind_of g1 x p1 done y) r js g1 h → ToldStep (bind_of g x p done y) r js g h
bound_told g1 g x p1 p done y r js h hg hp t =
    subst (λ v. ToldStep (bind_of v x p done y) r js v h) hg (subst (λ v. ToldStep (bind_of g1 x v done y) r js g1 h) hp t)

-- The rule of a component in the same scope at the same place.
pub run_told : (g1 g : Visible) (last : Bool) (p1 p : Place) (done : Members) (y : Reached) (r : Result Gathered TypeError) (js : List Instance) →
    g1 ≡ g → p1 ≡ p → ToldStep (run_of g1 last p1 done y) r js g1 g1 → ToldStep (run_of g last p done y) r js g g1
run_told g1 g last p1 p done y r js hg hp t =
    subst (λ v. ToldStep (run_of v last p done y) r js v g1) hg (subst (λ v. ToldStep (run_of g1 last v done y) r js g1 g1) hp t)

-- A list begins with its first member.
pub head_tail : (xs ms : List Member) (m : Member) → 0 < length xs → m ≡ get_or xs 0 m → ms ≡ drop 1 xs → xs ≡ m ∷ ms
head_tail xs ms m h e hm = at_place xs 0 m h e ∙ ap (λ l. m ∷ l) (sym hm)

-- No member is left.
pub none_left : (xs : List Member) → length xs < 1 → xs ≡ []
none_left [] h = refl
none_left (x ∷ xs) h = absurd (omega arith)
