-- Answers along the walk of a component.
use Rattle.std.specs.Prelude.{◌≡◌, List, Bool, true, false, Result, Ok, Err, refl}
use Rattle.std.proofs.Common.{ap, ◌∙◌, sym, subst, IsErrAnd}
use Rattle.std.proofs.lemmas.Result.{err_from_is_err_and}
use Rattle.zir_tree.specs.declared.place.Place.{Place}
use Rattle.zir_tree.specs.declared.comp.Comp.{Comp}
use Rattle.zir_tree.specs.declared.program.Instance.{Instance}
use Rattle.zir_types.specs.declared.error.TypeError.{TypeError}
use Rattle.zir_types.specs.declared.error.TypeError.TheVariants.{NotUnit, Memory}
use Rattle.zir_types.specs.declared.typed.TypedComp.{TypedComp}
use Rattle.zir_types.specs.Walk.{Walk, Fine, Broken, and_then, check, Refuses}
use Rattle.zir_types.specs.Scope.{Visible}
use Rattle.zir_types.specs.Components.{Reached, Members, reached, loop_of, same_option, unit_value}
use Rattle.zir_types.proofs.Told.{refuses_first}
use Rattle.zir_type_components.specs.declared.rules.Gathered.{Gathered}
use Rattle.zir_type_components.specs.Answers.{ToldOf, ToldIn, loop_check}
use Rattle.zir_type_components.specs.Blocks.{Stepped, ToldStep, ToldMembers}

-- A refusal of the first part is that of the whole.
pub reach_err : {A : Type 0} (walk : Walk A) (next : A → Walk Reached) (error : TypeError) (r : Result TypedComp TypeError) (is : List Instance)
    (b z : Visible) →
    IsErrAnd r (λ e. e ≡ error) → Refuses walk error → ToldIn (and_then walk next) r is b z
reach_err walk next error r is b z err h =
    let p = err_from_is_err_and r err in
    subst (λ v. ToldIn (and_then walk next) v is b z) (sym p.1) (subst (λ e. Refuses (and_then walk next) e) (sym p.2) (refuses_first walk next error h))

-- The same for a member.
pub step_err : {A : Type 0} (walk : Walk A) (next : A → Walk Stepped) (error : TypeError) (r : Result Gathered TypeError) (is : List Instance)
    (b g : Visible) →
    IsErrAnd r (λ e. e ≡ error) → Refuses walk error → ToldStep (and_then walk next) r is b g
step_err walk next error r is b g err h =
    let p = err_from_is_err_and r err in
    subst (λ v. ToldStep (and_then walk next) v is b g) (sym p.1) (subst (λ e. Refuses (and_then walk next) e) (sym p.2) (refuses_first walk next error h))

-- The same for members.
pub members_err : {A : Type 0} (walk : Walk A) (next : A → Walk Members) (error : TypeError) (r : Result Gathered TypeError) (is : List Instance)
    (b g : Visible) →
    IsErrAnd r (λ e. e ≡ error) → Refuses walk error → ToldMembers (and_then walk next) r is b g
members_err walk next error r is b g err h =
    let p = err_from_is_err_and r err in
    subst (λ v. ToldMembers (and_then walk next) v is b g) (sym p.1) (subst (λ e. Refuses (and_then walk next) e) (sym p.2) (refuses_first walk next error h))

-- A walk and nothing more.
pub and_then-Fine : {A : Type 0} (w : Walk A) → and_then w (λ x. Fine x) ≡ w
and_then-Fine (Fine x) = refl
and_then-Fine (Broken r) = refl

-- A rule, and then what holds where it does.
pub check-after : {A : Type 0} (b : Bool) (e : TypeError) (x : A) → check b e x ≡ and_then (check b e (tt {0})) (λ _. Fine x)
check-after true e x = refl
check-after false e x = refl

-- The rule of a loop is its check, and then the loop.
pub loop-check : (right : Bool) (p : Place) (c : Comp) (r : Reached) →
    loop_of right p c r ≡ and_then (loop_check right p r.what.value) (λ _. Fine (reached c r.what.emits unit_value r.instances))
loop-check true p c r = check-after (same_option r.what.value unit_value) (NotUnit p) (reached c r.what.emits unit_value r.instances)
loop-check false p c r = refl

-- An answer in the scope as it was.
pub in_scope : (walk : Walk Reached) (r : Result TypedComp TypeError) (is : List Instance) (b g : Visible) → ToldOf walk r is → g ≡ b → ToldIn walk r is b g
in_scope walk (Ok x) is b g h e = (h, e)
in_scope walk (Err x) is b g h e = h

-- What a walk refuses an answer tells.
pub told_refused : (walk : Walk Reached) (error : TypeError) (r : Result TypedComp TypeError) (is : List Instance) (b z : Visible) →
    IsErrAnd r (λ e. e ≡ error) → Refuses walk error → ToldIn walk r is b z
told_refused walk error r is b z err h =
    let p = err_from_is_err_and r err in
    subst (λ v. ToldIn walk v is b z) (sym p.1) (subst (λ e. Refuses walk e) (sym p.2) h)

-- The same where nothing is said of the scope.
pub leaf_err : {A : Type 0} (walk : Walk A) (next : A → Walk Reached) (error : TypeError) (r : Result TypedComp TypeError) (is : List Instance) →
    IsErrAnd r (λ e. e ≡ error) → Refuses walk error → ToldOf (and_then walk next) r is
leaf_err walk next error r is err h =
    let p = err_from_is_err_and r err in
    subst (λ v. ToldOf (and_then walk next) v is) (sym p.1) (subst (λ e. Refuses (and_then walk next) e) (sym p.2) (refuses_first walk next error h))

-- A loop whose check refuses.
pub loop_err : (holds right : Bool) (p : Place) (c : Comp) (r : Reached) (error : TypeError) (res : Result TypedComp TypeError) (is : List Instance) →
    holds ≡ right →
    IsErrAnd res (λ e. e ≡ error) → Refuses (loop_check holds p r.what.value) error → ToldOf (loop_of right p c r) res is
loop_err holds right p c r error res is h err t =
    subst (λ w. ToldOf w res is) (sym (loop-check right p c r))
    (leaf_err (loop_check right p r.what.value) (λ _. Fine (reached c r.what.emits unit_value r.instances)) error res is err
    (subst (λ b. Refuses (loop_check b p r.what.value) error) h t))

-- A loop whose check holds.
pub loop_ok : (holds right : Bool) (p : Place) (c : Comp) (r : Reached) (u : Unit {0}) → holds ≡ right → loop_check holds p r.what.value ≡ Fine u →
    loop_of right p c r ≡ Fine (reached c r.what.emits unit_value r.instances)
loop_ok holds right p c r u h q =
    loop-check right p c r ∙ ap (λ w. and_then w (λ _. Fine (reached c r.what.emits unit_value r.instances)))
    (ap (λ b. loop_check b p r.what.value) (sym h) ∙ q)

-- Want of memory tells nothing of a walk.
pub leaf_memory : (walk : Walk Reached) (error : TypeError) (r : Result TypedComp TypeError) (is : List Instance) →
    IsErrAnd r (λ e. e ≡ error) → error ≡ Memory → ToldOf walk r is
leaf_memory walk error r is err m =
    let p = err_from_is_err_and r err in
    subst (λ v. ToldOf walk v is) (sym p.1) (subst (λ e. Refuses walk e) (sym (p.2 ∙ m)) tt)
