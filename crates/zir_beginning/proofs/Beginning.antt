-- Assigning initial values to blank variables ends as declaring one variable after the other.
use Rattle.std.specs.Prelude.{ℕ, ◌<◌, List, [], ◌∷◌, ◌++◌, Option, Some, None, Bool, true, false, ◌≡◌, refl, nat_eq, if◌then◌else◌}
use Rattle.std.proofs.Common.{ap, sym, subst, ◌∙◌}
use Rattle.std.proofs.Common.{append_assoc, append-nil}
use Rattle.std.proofs.lemmas.Bool.{eqb-true, eq-eqb}
use Rattle.zir_tree.specs.declared.value.Val.{Val, Unit as UnitVal}
use Rattle.zir_tree.specs.declared.value.Slot.{Slot}
use Rattle.zir_tree.specs.declared.expr.Expr.{Expr}
use Rattle.zir_tree.specs.declared.stmt.Var.{Var}
use Rattle.zir_tree.specs.declared.types.StructDef.{StructDef}
use Rattle.zir_tree.specs.declared.program.Function.{Function}
use Rattle.zir_meaning.specs.Values.{type_of, blank, blanks_of}
use Rattle.zir_meaning.specs.Store.{Store, put}
use Rattle.zir_meaning.specs.Trace.{State}
use Rattle.zir_meaning.specs.Evaluation.{Eval, Got, Traps, RunsOut, then_eval, ev}
use Rattle.zir_meaning.specs.Statements.{assign, initial_of, does_all}
use Rattle.zir_meaning.specs.Functions.{library_of}
use Rattle.zir_meaning.specs.Run.{declare, top_values}
use Rattle.zir_eval.specs.Opening.{blank_slots, initially, initial_assignments}
use Rattle.zir_beginning.specs.Order.{Apart, HaveOwnNumbers, Precedes, ArePreceding}
use Rattle.zir_beginning.specs.Laws.{with_more, EndsAs, InitialsBegin}
use Rattle.zir_beginning.proofs.Changing.{OtherTops, changed, changed_end, SparesAll, Spared, commutes-ev}
use Rattle.zir_beginning.proofs.Sparing.{AreOther, put-none, put-append, spares-more, spares-put}
use Rattle.zir_beginning.proofs.Calling.{spared-first}
use Rattle.zir_beginning.proofs.Leaving.{Within, leaves-ev, leaves-library}

-- a change that spares some variables spares fewer
spares-fewer : (c : OtherTops) (P R : ℕ → Type 0) → SparesAll c P → ((id : ℕ) → R id → P id) → SparesAll c R
spares-fewer c P R h less = record {
  found = λ tops id r. h.found tops id (less id r);
  puts = λ tops id v r. h.puts tops id v (less id r);
}

-- none of these variables is there yet
abbrev Free : List Var → List Slot → Type 0
Free vs tops = (x : ℕ) → ((id : ℕ) → Apart vs id → nat_eq x id ≡ false) → (w : Val) → put x w tops ≡ tops

-- the same where an evaluation comes to a value
abbrev FreeAt : List Var → Eval → Type 0
FreeAt vs (Got v s) = Free vs s.store.tops
FreeAt vs (Traps t s) = Unit {0}
FreeAt vs RunsOut = Unit {0}

-- the top variables at an end
abbrev tops_at : Eval → List Slot
tops_at (Got v s) = s.store.tops
tops_at (Traps t s) = []
tops_at RunsOut = []

-- an evaluation that uses none of these variables declares none
free-end : (vs : List Var) (r : Eval) → ((x : ℕ) → ((id : ℕ) → Apart vs id → nat_eq x id ≡ false) → (w : Val) → r ≡ changed_end (put x w) r) →
    FreeAt vs r
free-end vs (Got v s) h = λ x one w. sym (ap tops_at (h x one w))
free-end vs (Traps t s) h = tt
free-end vs RunsOut h = tt

free-ev : (ds : List StructDef) (fs : List Function) (vs : List Var) (e : Expr) → Precedes fs vs (Some e) → (s : State) → Free vs s.store.tops →
    FreeAt vs (ev (library_of ds fs) e s)
free-ev ds fs vs e p s free =
    let l = library_of ds fs in
    free-end vs (ev l e s) (λ x one w.
    let spares : SparesAll (put x w) (Apart vs) = spares-fewer (put x w) (λ id. nat_eq x id ≡ false) (Apart vs) (spares-put x w) one in
    let spared : Spared (put x w) l (Apart vs) (λ k. k < p.count) = spared-first (put x w) vs ds fs p.count spares p.first in
    let moves : ev l e (changed (put x w) s) ≡ changed_end (put x w) (ev l e s) =
    commutes-ev (put x w) l (Apart vs) (λ k. k < p.count) spared e p.value s in
    ap (λ tops. ev l e (record s { store = record s.store { tops = tops } })) (sym (free x one w)) ∙ moves)

-- blank variables apart from a number
other-slots : (blanks : List Val) (vs : List Var) (id : ℕ) → Apart vs id → AreOther (blank_slots blanks vs) id
other-slots blanks [] id h = tt
other-slots blanks (v ∷ vs) id h = (h.0, other-slots blanks vs id h.1)

-- which of two numbers comes first does not matter
false-back : (a b : ℕ) (t : Bool) → nat_eq a b ≡ t → nat_eq b a ≡ false → nat_eq a b ≡ false
false-back a b false e h = e
false-back a b true e h = absurd (let q : a ≡ b = eqb-true a b e in let r : nat_eq b a ≡ true = eq-eqb b a (sym q) in cc)

-- a variable is declared behind others
declared-free : (v : Var) (vs : List Var) (w : Val) (tops : List Slot) → Apart vs v.name.id → Free (v ∷ vs) tops →
    Free vs (tops ++ record { id = v.name.id; value = w } ∷ [])
declared-free v vs w tops own free = λ x one u.
    let slots : List Slot = record { id = v.name.id; value = w } ∷ [] in
    let other : nat_eq v.name.id x ≡ false = false-back v.name.id x (nat_eq v.name.id x) refl (one v.name.id own) in
    put-append x u tops slots ∙ ap (λ xs. xs ++ put x u slots) (free x (λ id a. one id a.1) u) ∙ ap (λ xs. tops ++ xs) (put-none x u slots (other, tt))

-- the first of some blank variables gets a value
first-put : (v : Var) (vs : List Var) (blanks : List Val) (w : Val) (tops : List Slot) → Apart vs v.name.id → Free (v ∷ vs) tops →
    put v.name.id w (tops ++ blank_slots blanks (v ∷ vs)) ≡ (tops ++ record { id = v.name.id; value = w } ∷ []) ++ blank_slots blanks vs
first-put v vs blanks w tops own free =
    let id = v.name.id in
    let rest : List Slot = blank_slots blanks vs in
    let here : Slot = record { id = id; value = blank blanks (type_of v.ty) } in
    let given : Slot = record { id = id; value = w } in
    put-append id w tops (here ∷ rest)
    ∙ ap (λ xs. xs ++ put id w (here ∷ rest)) (free id (λ j a. a.0) w)
    ∙ ap (λ b. tops ++ (if b then given else here) ∷ put id w rest) (eq-eqb id id refl)
    ∙ ap (λ xs. tops ++ given ∷ xs) (put-none id w rest (other-slots blanks vs id own))
    ∙ sym (append_assoc tops (given ∷ []) rest)

-- nothing is in scope inside a body
put-nothing : (id : ℕ) (w : Val) (locals : List Slot) → locals ≡ [] → put id w locals ≡ locals
put-nothing id w locals e = ap (put id w) e ∙ sym e

-- what follows behind the first of some variables
abbrev Next : List StructDef → List Function → List Var → Type 0
Next ds fs vs =
    (s : State) → s.store.locals ≡ [] → Free vs s.store.tops →
    EndsAs (top_values (library_of ds fs) vs s) (does_all (library_of ds fs) (initial_assignments vs) (with_more (blank_slots (blanks_of ds) vs) s))

-- behind the initial value of a variable
begin-end : (ds : List StructDef) (fs : List Function) (v : Var) (vs : List Var) → Apart vs v.name.id → Next ds fs vs → (r : Eval) →
    Within [] r → FreeAt (v ∷ vs) r →
    EndsAs (then_eval r (λ w s'. top_values (library_of ds fs) vs (declare v.name.id w s')))
    (then_eval (then_eval (changed_end (λ tops. tops ++ blank_slots (blanks_of ds) (v ∷ vs)) r) (λ w s'. Got UnitVal (assign v.name.id w s')))
    (λ u s'. does_all (library_of ds fs) (initial_assignments vs) s'))
begin-end ds fs v vs own next (Got w s) bare free =
    let l = library_of ds fs in
    let slots : List Slot = blank_slots (blanks_of ds) (v ∷ vs) in
    subst (λ store. EndsAs (top_values l vs (declare v.name.id w s)) (does_all l (initial_assignments vs) (record s { store = store })))
    (ap (λ tops. let store : Store = record { tops = tops; locals = s.store.locals } in store)
    (sym (first-put v vs (blanks_of ds) w s.store.tops own free))
    ∙ ap (λ locals. let store : Store = record { tops = put v.name.id w (s.store.tops ++ slots); locals = locals } in store)
    (sym (put-nothing v.name.id w s.store.locals bare)))
    (next (declare v.name.id w s) bare (declared-free v vs w s.store.tops own free))
begin-end ds fs v vs own next (Traps t s) bare free = (blank_slots (blanks_of ds) (v ∷ vs), refl)
begin-end ds fs v vs own next RunsOut bare free = refl

-- a variable, and those behind it
begin-one : (ds : List StructDef) (fs : List Function) (v : Var) (e : Option Expr) (vs : List Var) → Apart vs v.name.id → Precedes fs (v ∷ vs) e →
    Next ds fs vs → (s : State) → s.store.locals ≡ [] → Free (v ∷ vs) s.store.tops →
    EndsAs (then_eval (initial_of (library_of ds fs) v.ty e s) (λ w s'. top_values (library_of ds fs) vs (declare v.name.id w s')))
    (does_all (library_of ds fs) (initially v.name e ++ initial_assignments vs) (with_more (blank_slots (blanks_of ds) (v ∷ vs)) s))
begin-one ds fs v None vs own p next s bare free =
    let w : Val = blank (blanks_of ds) (type_of v.ty) in
    let l = library_of ds fs in
    subst (λ tops. EndsAs (top_values l vs (declare v.name.id w s))
    (does_all l (initial_assignments vs) (record s { store = record s.store { tops = tops } })))
    (append_assoc s.store.tops (record { id = v.name.id; value = w } ∷ []) (blank_slots (blanks_of ds) vs))
    (next (declare v.name.id w s) bare (declared-free v vs w s.store.tops own free))
begin-one ds fs v (Some e) vs own p next s bare free =
    let l = library_of ds fs in
    let slots : List Slot = blank_slots (blanks_of ds) (v ∷ vs) in
    let c : OtherTops = λ tops. tops ++ slots in
    let spares : SparesAll c (Apart (v ∷ vs)) =
    spares-fewer c (AreOther slots) (Apart (v ∷ vs)) (spares-more slots) (other-slots (blanks_of ds) (v ∷ vs)) in
    let moves : ev l e (changed c s) ≡ changed_end c (ev l e s) =
    commutes-ev c l (Apart (v ∷ vs)) (λ k. k < p.count) (spared-first c (v ∷ vs) ds fs p.count spares p.first) e p.value s in
    subst (λ r. EndsAs (then_eval (ev l e s) (λ w s'. top_values l vs (declare v.name.id w s')))
    (then_eval (then_eval r (λ w s'. Got UnitVal (assign v.name.id w s'))) (λ u s'. does_all l (initial_assignments vs) s')))
    (sym moves)
    (begin-end ds fs v vs own next (ev l e s) (leaves-ev l (leaves-library ds fs) e [] s bare) (free-ev ds fs (v ∷ vs) e p s free))

-- variables one after the other
begin-all : (ds : List StructDef) (fs : List Function) (vs : List Var) → HaveOwnNumbers vs → ArePreceding fs vs → Next ds fs vs
begin-all ds fs [] own p = λ s bare free.
    ap (λ tops. Got UnitVal (record s { store = record s.store { tops = tops } })) (append-nil s.store.tops)
begin-all ds fs (v ∷ vs) own p = λ s bare free. begin-one ds fs v v.initial vs own.0 p.0 (begin-all ds fs vs own.1 p.1) s bare free

-- all variables of a program
pub initials_begin : InitialsBegin
initials_begin core n h = begin-all core.structs core.functions core.variables h.own h.values _ refl (λ x one w. refl)
