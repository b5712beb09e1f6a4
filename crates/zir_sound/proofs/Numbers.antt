-- Numbers go on: behind each part of a program the next number is no less than before it.
use Rattle.std.specs.Prelude.{◌≡◌, ◌≤◌, ◌<◌, refl, ℕ, List, [], ◌∷◌, length, false, ◌||◌, Option}
use Rattle.std.proofs.Common.{ap, ◌∙◌, sym, subst, arith}
use Rattle.std.proofs.lemmas.Bool.{ne_eqb}
use Rattle.zir_tree.specs.declared.ident.Ident.{Ident}
use Rattle.zir_tree.specs.declared.types.Field.{Field}
use Rattle.zir_tree.specs.declared.stmt.Var.{Var as Variable}
use Rattle.zir_tree.specs.declared.stmt.Body.{Body}
use Rattle.zir_tree.specs.declared.stmt.Stmt.{Stmt, Row_of-Stmt, end_of-Stmt, more_of-Stmt}
use Rattle.zir_tree.specs.declared.stmt.Stmt as stmt
use Rattle.zir_tree.specs.declared.comp.Comp.{Comp, end_of-Comp, more_of-Comp, Row_of-Member, end_of-Member, more_of-Member}
use Rattle.zir_tree.specs.declared.comp.Comp as comp
use Rattle.zir_tree.specs.declared.comp.Member.{Member, Bind, Var, Run}
use Rattle.zir_tree.specs.declared.program.Struct.{Struct}
use Rattle.zir_tree.specs.declared.program.Function.{Function}
use Rattle.zir_tree.specs.declared.program.CompFunction.{CompFunction}
use Rattle.zir_tree.specs.declared.program.Decl.{Decl}
use Rattle.zir_tree.specs.declared.program.Decl.TheVariants as decl
use Rattle.zir_names.specs.declared.scope.Kind.TheVariants as kind
use Rattle.zir_names.specs.declared.scope.Need.TheVariants as need
use Rattle.zir_names.specs.declared.scope.Entry.{Entry}
use Rattle.zir_names.specs.declared.program.Named.{Named}
use Rattle.zir_names.specs.Walk.{Walk, Fine, Broken, and_then}
use Rattle.zir_names.specs.Scope.{Seen, nothing_seen, numbered, counted, opened, left, Done, done, closed, resolved}
use Rattle.zir_names.specs.Expressions.{each, maybe, type_of, expr}
use Rattle.zir_names.specs.Statements as statements
use Rattle.zir_names.specs.Components as components
use Rattle.zir_names.specs.Programs as programs
use Rattle.zir_sound.specs.Laws.{HaveOwnNumbers, NamesAreOwn, is_in}

-- Of a walk that went on, the first part is fine, and a walk makes one thing.
first : {A B : Type 0} (w : Walk A) (next : A → Walk B) (y : B) → and_then w next ≡ Fine y → (x : A) × (w ≡ Fine x) × (next x ≡ Fine y)
first {A} {B} (Fine x) next y h = (x, refl, h)
first {A} {B} (Broken r) next y h = absurd cc

same : {A : Type 0} (x y : A) → let u : Walk A = Fine x in let v : Walk A = Fine y in u ≡ v → x ≡ y
same {A} x y h = ap (λ w. elim w [ Fine z ↦ z | Broken r ↦ x ]) h

-- The next number is no less.
abbrev Later : Seen → Seen → Type 0
Later a b = a.next ≤ b.next

later_self : (a : Seen) → Later a a
later_self a = omega arith

later_trans : (a b c : Seen) → Later a b → Later b c → Later a c
later_trans a b c h k = omega arith

later_one : (a b : Seen) → Later (counted a) b → Later a b
later_one a b h = omega arith

-- A walk that ends with what is seen later.
ends : {A : Type 0} (a s : Seen) (made : A) (x : Done A) → done made s ≡ Fine x → Later a s → Later a x.seen
ends {A} a s made x h k = subst (λ (y : Done A). Later a y.seen) (same (record { made = made; seen = s }) x h) k

closed_later : {A : Type 0} (before : Seen) (a : Seen) (w : Walk (Done A)) (x : Done A) → ((y : Done A) → w ≡ Fine y → Later a y.seen) →
    closed before w ≡ Fine x → Later a x.seen
closed_later {A} before a w x k h =
    let y = first w (λ part. done part.made (left before part.seen)) x h in ends a (left before y.0.seen) y.0.made x y.2 (k y.0 y.1)

turn_later : {A B : Type 0} (walk : Seen → A → Walk (Done B)) (a : Seen) (xs : List A) (z : Done (List B)) → ((s : Seen) (x : A) (y : Done B) →
    walk s x ≡ Fine y → Later s y.seen) →
    statements.in_turn walk a xs ≡ Fine z → Later a z.seen
turn_later {A} {B} walk a [] z k h = ends a a [] z h (later_self a)
turn_later {A} {B} walk a (x ∷ xs) z k h =
    let y = first (walk a x) (λ y. and_then (statements.in_turn walk y.seen xs) (λ ys. done (y.made ∷ ys.made) ys.seen)) z h in
    let ys = first (statements.in_turn walk y.0.seen xs) (λ ys. done (y.0.made ∷ ys.made) ys.seen) z y.2 in
    ends a ys.0.seen (y.0.made ∷ ys.0.made) z ys.2 (later_trans a y.0.seen ys.0.seen (k a x y.0 y.1) (turn_later walk y.0.seen xs ys.0 k ys.1))

variable_later : (a : Seen) (v : Variable) (x : Done Variable) → statements.variable a v ≡ Fine x → Later a x.seen
variable_later a v x h =
    let last : Seen = opened kind.Variable (numbered a v.name) (counted a) in
    let t = first (type_of a v.ty) (λ ty. and_then (maybe (expr a) v.initial) (λ initial. done (record {
      name = numbered a v.name;
      ty = ty;
      initial =
          initial;
      at = v.at;
    }) last)) x h in
    let i = first (maybe (expr a) v.initial) (λ initial. done (record { name = numbered a v.name; ty = t.0; initial = initial; at = v.at }) last) x t.2 in
    ends a last _ x i.2 (later_one a last (later_self last))

-- A walk behind one that declares nothing.
past : {A B : Type 0} (a : Seen) (w : Walk A) (next : A → Walk (Done B)) (x : Done B) → ((y : A) → next y ≡ Fine x → Later a x.seen) →
    and_then w next ≡ Fine x → Later a x.seen
past {A} {B} a w next x k h = let y = first w next x h in k y.0 y.2

-- A walk behind one that may declare.
behind : {A B : Type 0} (a : Seen) (w : Walk (Done A)) (next : Done A → Walk (Done B)) (x : Done B) → ((y : Done A) → w ≡ Fine y → Later a y.seen) →
    ((y : Done A) → next y ≡ Fine x → Later y.seen x.seen) → and_then w next ≡ Fine x → Later a x.seen
behind {A} {B} a w next x k l h = let y = first w next x h in later_trans a y.0.seen x.seen (k y.0 y.1) (l y.0 y.2)

-- The last step of a walk.
last : {A B : Type 0} (f : A → B) (x : Done B) (y : Done A) → done (f y.made) y.seen ≡ Fine x → Later y.seen x.seen
last {A} {B} f x y h = ends y.seen y.seen (f y.made) x h (later_self y.seen)

mutual
  stmt_later : (a : Seen) (s : Stmt) (x : Done Stmt) → statements.stmt a s ≡ Fine x → Later a x.seen
  stmt_later a (stmt.Var v) x h = behind a (statements.variable a v) (λ v'. done (stmt.Var v'.made) v'.seen) x (variable_later a v) (last stmt.Var x) h
  stmt_later a (stmt.Assign y path e) x h =
      past a (resolved need.Target a y) _ x (λ y'. past a (each (statements.access_of a) path) _ x (λ path'. past a (expr a e) _ x (λ e' k. ends a a
      (stmt.Assign y' path' e') x k (later_self a)))) h
  stmt_later a (stmt.Call f n es) x h =
      past a (resolved need.Statement a f) _ x (λ f'. past a (each (expr a) es) _ x (λ es' k. ends a a (stmt.Call f' n es') x k (later_self a))) h
  stmt_later a (stmt.Error text at) x h = ends a a (stmt.Error text at) x h (later_self a)
  stmt_later a (stmt.If' e _ ss at) x h =
      past a (expr a e) _ x (λ e'. behind a (closed a (statements.stmts a ss)) (λ ss'. done (stmt.If e' ss'.made at) ss'.seen) x
      (λ y. closed_later a a (statements.stmts a ss) y (stmts_later a ss)) (last (λ ss'. stmt.If e' ss' at) x)) h
  stmt_later a (stmt.IfElse' e _ ss _ ts at) x h =
      past a (expr a e) _ x (λ e'. behind a (closed a (statements.stmts a ss)) (λ ss'. and_then (closed ss'.seen (statements.stmts ss'.seen ts))
      (λ ts'. done (stmt.IfElse e' ss'.made ts'.made at) ts'.seen)) x
      (λ y. closed_later a a (statements.stmts a ss) y (stmts_later a ss))
      (λ ss'. behind ss'.seen (closed ss'.seen (statements.stmts ss'.seen ts)) (λ ts'. done (stmt.IfElse e' ss'.made ts'.made at) ts'.seen) x
      (λ y. closed_later ss'.seen ss'.seen (statements.stmts ss'.seen ts) y (stmts_later ss'.seen ts)) (last (λ ts'. stmt.IfElse e' ss'.made ts' at) x))) h
  stmt_later a (stmt.While' e _ ss at) x h =
      past a (expr a e) _ x (λ e'. behind a (closed a (statements.stmts a ss)) (λ ss'. done (stmt.While e' ss'.made at) ss'.seen) x
      (λ y. closed_later a a (statements.stmts a ss) y (stmts_later a ss)) (last (λ ss'. stmt.While e' ss' at) x)) h
  stmt_later a (stmt.For' i b n _ ss at) x h =
      past a (expr a b) _ x (λ b'. past a (expr a n) _ x (λ n'. behind a (closed a (statements.stmts (statements.indexed a i) ss)) (λ ss'. done (stmt.For
      (numbered a i) b' n' ss'.made at) ss'.seen) x
      (λ y. closed_later a a (statements.stmts (statements.indexed a i) ss) y (λ z k. later_one a z.seen (stmts_later (statements.indexed a i) ss z k)))
      (last (λ ss'. stmt.For (numbered a i) b' n' ss' at) x))) h

  stmts_later : (a : Seen) {m : _} (ss : Row_of-Stmt m) (z : Done (List Stmt)) → statements.stmts a ss ≡ Fine z → Later a z.seen
  stmts_later a end_of-Stmt z h = ends a a [] z h (later_self a)
  stmts_later a (more_of-Stmt s ss) z h =
      behind a (statements.stmt a s) (λ s'. and_then (statements.stmts s'.seen ss) (λ ss'. done (s'.made ∷ ss'.made) ss'.seen)) z (stmt_later a s)
      (λ s'. behind s'.seen (statements.stmts s'.seen ss) (λ ss'. done (s'.made ∷ ss'.made) ss'.seen) z (stmts_later s'.seen ss) (last
      (λ ss'. s'.made ∷ ss') z)) h

body_later : (a : Seen) (b : Body) (x : Done Body) → statements.body_of a b ≡ Fine x → Later a x.seen
body_later a b x h =
    closed_later a a (and_then (statements.in_turn statements.stmt a b.statements) (λ ss. and_then (maybe (statements.returned ss.seen) b.result)
    (λ result. done (record { statements = ss.made; result = result }) ss.seen))) x
    (λ y. behind a (statements.in_turn statements.stmt a b.statements) _ y (λ z. turn_later statements.stmt a b.statements z stmt_later)
    (λ ss. past ss.seen (maybe (statements.returned ss.seen) b.result) _ y (λ result k. ends ss.seen ss.seen (record {
      statements = ss.made;
      result =
          result;
    }) y k (later_self ss.seen)))) h

mutual
  comp_later : (a : Seen) (c : Comp) (x : Done Comp) → components.comp a c ≡ Fine x → Later a x.seen
  comp_later a (comp.Take at) x h = ends a a (comp.Take at) x h (later_self a)
  comp_later a (comp.Takes n at) x h = ends a a (comp.Takes n at) x h (later_self a)
  comp_later a (comp.Emit e at) x h = past a (expr a e) _ x (λ e' k. ends a a (comp.Emit e' at) x k (later_self a)) h
  comp_later a (comp.Emits e at) x h = past a (expr a e) _ x (λ e' k. ends a a (comp.Emits e' at) x k (later_self a)) h
  comp_later a (comp.Return e at) x h = past a (expr a e) _ x (λ e' k. ends a a (comp.Return e' at) x k (later_self a)) h
  comp_later a (comp.Do b at) x h = behind a (statements.body_of a b) (λ b'. done (comp.Do b'.made at) b'.seen) x (body_later a b) (last
      (λ b'. comp.Do b' at) x) h
  comp_later a (comp.Repeat' _ (more_of-Comp c end_of-Comp) at) x h = behind a (components.comp a c) (λ c'. done (comp.Repeat c'.made at) c'.seen) x
      (comp_later a c) (last (λ c'. comp.Repeat c' at) x) h
  comp_later a (comp.While' turning e _ (more_of-Comp c end_of-Comp) at) x h =
      past a (expr a e) _ x (λ e'. behind a (components.comp a c) (λ c'. done (comp.While turning e' c'.made at) c'.seen) x (comp_later a c) (last
      (λ c'. comp.While turning e' c' at) x)) h
  comp_later a (comp.Times' e _ (more_of-Comp c end_of-Comp) at) x h =
      past a (expr a e) _ x (λ e'. behind a (components.comp a c) (λ c'. done (comp.Times e' c'.made at) c'.seen) x (comp_later a c) (last
      (λ c'. comp.Times e' c' at) x)) h
  comp_later a (comp.For' i b n _ (more_of-Comp c end_of-Comp) at) x h =
      past a (expr a b) _ x (λ b'. past a (expr a n) _ x (λ n'. behind a (closed a (components.comp (statements.indexed a i) c)) (λ c'. done (comp.For
      (numbered a i) b' n' c'.made at) c'.seen) x
      (λ y. closed_later a a (components.comp (statements.indexed a i) c) y (λ z k. later_one a z.seen (comp_later (statements.indexed a i) c z k))) (last
      (λ c'. comp.For (numbered a i) b' n' c' at) x))) h
  comp_later a (comp.If' e _ (more_of-Comp c end_of-Comp) _ (more_of-Comp d end_of-Comp) at) x h =
      past a (expr a e) _ x (λ e'. behind a (components.comp a c) (λ c'. and_then (components.comp c'.seen d) (λ d'. done
      (comp.If e' c'.made d'.made at) d'.seen)) x (comp_later a c)
      (λ c'. behind c'.seen (components.comp c'.seen d) (λ d'. done (comp.If e' c'.made d'.made at) d'.seen) x (comp_later c'.seen d) (last
      (λ d'. comp.If e' c'.made d' at) x))) h
  comp_later a (comp.Map f n at) x h = past a (resolved need.Mapped a f) _ x (λ f' k. ends a a (comp.Map f' n at) x k (later_self a)) h
  comp_later a (comp.Filter f n at) x h = past a (resolved need.Mapped a f) _ x (λ f' k. ends a a (comp.Filter f' n at) x k (later_self a)) h
  comp_later a (comp.Call f n es) x h =
      past a (resolved need.Component a f) _ x (λ f'. past a (each (expr a) es) _ x (λ es' k. ends a a (comp.Call f' n es') x k (later_self a))) h
  comp_later a (comp.Block' _ ms at) x h =
      behind a (closed a (components.members a ms)) (λ ms'. done (comp.Block ms'.made at) ms'.seen) x (λ y. closed_later a a (components.members a ms) y
      (members_later a ms)) (last (λ ms'. comp.Block ms' at) x) h
  comp_later a (comp.Pipe' link _ (more_of-Comp c end_of-Comp) _ (more_of-Comp d end_of-Comp) at) x h =
      behind a (components.comp a c) (λ c'. and_then (components.comp c'.seen d) (λ d'. done (comp.Pipe link c'.made d'.made at) d'.seen)) x (comp_later a c)
      (λ c'. behind c'.seen (components.comp c'.seen d) (λ d'. done (comp.Pipe link c'.made d'.made at) d'.seen) x (comp_later c'.seen d) (last
      (λ d'. comp.Pipe link c'.made d' at) x)) h

  member_later : (a : Seen) (m : Member) (x : Done Member) → components.member a m ≡ Fine x → Later a x.seen
  member_later a (Bind i c) x h =
      behind a (components.comp (counted a) c) (λ c'. done (Bind (numbered a i) c'.made) (opened kind.Fixed (numbered a i) c'.seen)) x
      (λ y k. later_one a y.seen (comp_later (counted a) c y k))
      (λ c' k. ends c'.seen (opened kind.Fixed (numbered a i) c'.seen) (Bind (numbered a i) c'.made) x k (later_self c'.seen)) h
  member_later a (Var v) x h = behind a (statements.variable a v) (λ v'. done (Var v'.made) v'.seen) x (variable_later a v) (last Var x) h
  member_later a (Run c) x h = behind a (components.comp a c) (λ c'. done (Run c'.made) c'.seen) x (comp_later a c) (last Run x) h

  members_later : (a : Seen) {m : _} (ms : Row_of-Member m) (z : Done (List Member)) → components.members a ms ≡ Fine z → Later a z.seen
  members_later a end_of-Member z h = ends a a [] z h (later_self a)
  members_later a (more_of-Member m ms) z h =
      behind a (components.member a m) (λ m'. and_then (components.members m'.seen ms) (λ ms'. done (m'.made ∷ ms'.made) ms'.seen)) z (member_later a m)
      (λ m'. behind m'.seen (components.members m'.seen ms) (λ ms'. done (m'.made ∷ ms'.made) ms'.seen) z (members_later m'.seen ms) (last
      (λ ms'. m'.made ∷ ms') z)) h

pub params_later : (a : Seen) (before : List Entry) (fs : List Field) (z : Done (List Field)) → programs.params a before fs ≡ Fine z → Later a z.seen
params_later a before [] z h = ends a a [] z h (later_self a)
params_later a before (f ∷ fs) z h =
    past a (programs.new_name before f.name) _ z (λ u. past a (type_of a f.ty) _ z (λ ty. behind a (programs.params (counted a)
    (programs.and_name before f.name) fs)
    (λ fs'. done (record { name = numbered a f.name; ty = ty } ∷ fs'.made) fs'.seen) z (λ y k. later_one a y.seen (params_later (counted a)
    (programs.and_name before f.name) fs y k))
    (last (λ fs'. record { name = numbered a f.name; ty = ty } ∷ fs') z))) h

pub entered_next : (fs : List Field) (a : Seen) → (programs.entered fs a).next ≡ a.next
entered_next [] a = refl
entered_next (f ∷ fs) a = entered_next fs (opened kind.Fixed f.name a)

-- Behind a body that sees parameters and its own name the numbers have gone on.
inside_later : (a : Seen) (own : Ident) (ps : Done (List Field)) (s : Seen) → Later (counted a) ps.seen →
    Later (programs.entered ps.made (programs.inside own ps.seen)) s → a.next < s.next
inside_later a own ps s l k =
    let e : (programs.entered ps.made (programs.inside own ps.seen)).next ≡ ps.seen.next = entered_next ps.made (programs.inside own ps.seen) in
    omega arith

later_less : (a s : Seen) → a.next < s.next → Later a s
later_less a s h = omega arith

-- A `fun comp` has the number before its parts, and numbers go on behind it.
abbrev HasNext : Seen → Decl → Seen → Type 0
HasNext a (decl.Var v) s = Unit {0}
HasNext a (decl.Struct t) s = Unit {0}
HasNext a (decl.Function f) s = Unit {0}
HasNext a (decl.Comp c) s = (c.name.id ≡ a.next) × (a.next < s.next)

pub record Fresh (a : Seen) (x : Done Decl) : Type 0 where
  pub later : Later a x.seen
  pub has_next : HasNext a x.made x.seen

fresh_end : (a s : Seen) (d : Decl) (x : Done Decl) → Later a s → HasNext a d s → done d s ≡ Fine x → Fresh a x
fresh_end a s d x l n h = subst (Fresh a) (same (record { made = d; seen = s }) x h) (record { later = l; has_next = n })

struct_fresh : (a : Seen) (s : Struct) (x : Done Decl) → programs.struct_of a s ≡ Fine x → Fresh a x
struct_fresh a s x h =
    let in_ : Seen = programs.inside (numbered a s.name) (counted a) in
    let next : List Field → Walk (Done Decl) = λ fs. done (decl.Struct (record { name = numbered a s.name; fields = fs; at = s.at }))
    (programs.behind kind.Structure (numbered a s.name) a in_) in
    let n = first (programs.new_name a.open_ s.name) (λ u. and_then (programs.fields in_ [] s.fields) next) x h in
    let f = first (programs.fields in_ [] s.fields) next x n.2 in
    fresh_end a (programs.behind kind.Structure (numbered a s.name) a in_) (decl.Struct (record { name = numbered a s.name; fields = f.0; at = s.at })) x
    (later_one a (counted a) (later_self (counted a))) tt f.2

function_fresh : (a : Seen) (f : Function) (x : Done Decl) → programs.function_of a f ≡ Fine x → Fresh a x
function_fresh a f x h =
    let own = numbered a f.name in
    let at_end : Done (List Field) → Option _ → Done Body → Walk (Done Decl) =
    λ ps result b. done (decl.Function (record { name = own; params = ps.made; result = result; body = b.made; at = f.at })) (programs.behind
    (kind.Function (length f.params)) own a b.seen) in
    let in_body : Done (List Field) → Seen = λ ps. programs.entered ps.made (programs.inside own ps.seen) in
    let n = first (programs.new_name a.open_ f.name) (λ u. and_then (programs.params (counted a) [] f.params) (λ ps. and_then (maybe
    (type_of ps.seen) f.result) (λ result.
    and_then (statements.body_of (in_body ps) f.body) (at_end ps result)))) x h in
    let ps = first (programs.params (counted a) [] f.params) (λ ps. and_then (maybe (type_of ps.seen) f.result) (λ result. and_then (statements.body_of
    (in_body ps) f.body) (at_end ps result))) x n.2 in
    let r = first (maybe (type_of ps.0.seen) f.result) (λ result. and_then (statements.body_of (in_body ps.0) f.body) (at_end ps.0 result)) x ps.2 in
    let b = first (statements.body_of (in_body ps.0) f.body) (at_end ps.0 r.0) x r.2 in
    let l = inside_later a own ps.0 b.0.seen (params_later (counted a) [] f.params ps.0 ps.1) (body_later (in_body ps.0) f.body b.0 b.1) in
    fresh_end a (programs.behind (kind.Function (length f.params)) own a b.0.seen) (decl.Function (record {
      name = own;
      params = ps.0.made;
      result =
          r.0;
      body = b.0.made;
      at = f.at;
    })) x (later_less a b.0.seen l) tt b.2

comp_fresh : (a : Seen) (f : CompFunction) (x : Done Decl) → programs.comp_function_of a f ≡ Fine x → Fresh a x
comp_fresh a f x h =
    let own = numbered a f.name in
    let at_end : Done (List Field) → Done Comp → Walk (Done Decl) =
    λ ps c. done (decl.Comp (record { name = own; params = ps.made; body = c.made; at = f.at })) (programs.behind kind.Component own a c.seen) in
    let in_body : Done (List Field) → Seen = λ ps. programs.entered ps.made (programs.inside own ps.seen) in
    let n = first (programs.new_name a.open_ f.name) (λ u. and_then (programs.params (counted a) [] f.params) (λ ps. and_then (components.comp
    (in_body ps) f.body) (at_end ps))) x h in
    let ps = first (programs.params (counted a) [] f.params) (λ ps. and_then (components.comp (in_body ps) f.body) (at_end ps)) x n.2 in
    let c = first (components.comp (in_body ps.0) f.body) (at_end ps.0) x ps.2 in
    let l = inside_later a own ps.0 c.0.seen (params_later (counted a) [] f.params ps.0 ps.1) (comp_later (in_body ps.0) f.body c.0 c.1) in
    fresh_end a (programs.behind kind.Component own a c.0.seen) (decl.Comp (record { name = own; params = ps.0.made; body = c.0.made; at = f.at })) x
    (later_less a c.0.seen l) (refl, l) c.2

pub decl_fresh : (a : Seen) (d : Decl) (x : Done Decl) → programs.decl_of a d ≡ Fine x → Fresh a x
decl_fresh a (decl.Var v) x h =
    let n = first (programs.new_name a.open_ v.name) (λ u. and_then (statements.variable a v) (λ v'. done (decl.Var v'.made) v'.seen)) x h in
    let y = first (statements.variable a v) (λ v'. done (decl.Var v'.made) v'.seen) x n.2 in
    fresh_end a y.0.seen (decl.Var y.0.made) x (variable_later a v y.0 y.1) tt y.2
decl_fresh a (decl.Struct s) x h = struct_fresh a s x h
decl_fresh a (decl.Function f) x h = function_fresh a f x h
decl_fresh a (decl.Comp f) x h = comp_fresh a f x h

-- All these numbers are less.
abbrev Below : List ℕ → ℕ → Type 0
Below [] n = Unit {0}
Below (x ∷ xs) n = (x < n) × Below xs n

below_more : (xs : List ℕ) (n m : ℕ) → n ≤ m → Below xs n → Below xs m
below_more [] n m l h = tt
below_more (x ∷ xs) n m l h = (let k : x < n = h.0 in omega arith, below_more xs n m l h.1)

not_in : (xs : List ℕ) (n : ℕ) → Below xs n → is_in xs n ≡ false
not_in [] n h = refl
not_in (x ∷ xs) n h =
    let k : x < n = h.0 in
    ap (λ b. b || is_in xs n) (ne_eqb x n (λ e. let f : x ≡ n = e in omega arith)) ∙ not_in xs n h.1

own_more : (a s : Seen) (d : Decl) (ds : List Decl) (xs : List ℕ) → Below xs a.next → Later a s → HasNext a d s → ((ys : List ℕ) → Below ys s.next →
    HaveOwnNumbers ys ds) → HaveOwnNumbers xs (d ∷ ds)
own_more a s (decl.Var v) ds xs b l n k = k xs (below_more xs a.next s.next l b)
own_more a s (decl.Struct t) ds xs b l n k = k xs (below_more xs a.next s.next l b)
own_more a s (decl.Function f) ds xs b l n k = k xs (below_more xs a.next s.next l b)
own_more a s (decl.Comp c) ds xs b l n k = (
  subst (λ id. is_in xs id ≡ false) (sym n.0) (not_in xs a.next b),
  k (c.name.id ∷ xs) (subst (λ id. id < s.next) (sym n.0) n.1, below_more xs a.next s.next l b),
)

decls_own : (a : Seen) (ds : List Decl) (z : Done (List Decl)) → statements.in_turn programs.decl_of a ds ≡ Fine z → (xs : List ℕ) → Below xs a.next →
    HaveOwnNumbers xs z.made
decls_own a [] z h xs b = subst (λ (y : Done (List Decl)). HaveOwnNumbers xs y.made) (same (record { made = []; seen = a }) z h) tt
decls_own a (d ∷ ds) z h xs b =
    let y = first (programs.decl_of a d) (λ y. and_then (statements.in_turn programs.decl_of y.seen ds) (λ ys. done (y.made ∷ ys.made) ys.seen)) z h in
    let ys = first (statements.in_turn programs.decl_of y.0.seen ds) (λ ys. done (y.0.made ∷ ys.made) ys.seen) z y.2 in
    let f = decl_fresh a d y.0 y.1 in
    subst (λ (w : Done (List Decl)). HaveOwnNumbers xs w.made) (same (record { made = y.0.made ∷ ys.0.made; seen = ys.0.seen }) z ys.2)
    (own_more a y.0.seen y.0.made ys.0.made xs b f.later f.has_next (decls_own y.0.seen ds ys.0 ys.1))

pub names_own : NamesAreOwn
names_own p n h =
    let ds = first (statements.in_turn programs.decl_of nothing_seen p.declarations) _ n h in
    let input = first (type_of ds.0.seen p.input) _ n ds.2 in
    let main = first (components.comp ds.0.seen p.main) _ n input.2 in
    let output = first (type_of main.0.seen p.output) _ n main.2 in
    let made : Named = record { program = record { declarations = ds.0.made; input = input.0; main = main.0.made; output = output.0; at = p.at } } in
    subst (λ (m : Named). HaveOwnNumbers [] m.program.declarations) (same made n output.2) (decls_own nothing_seen p.declarations ds.0 ds.1 [] tt)
