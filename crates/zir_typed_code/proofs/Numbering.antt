-- Once names are resolved, numbers rise.
use Rattle.std.specs.Prelude.{◌≡◌, refl, ◌≤◌, ◌<◌, ℕ, suc, List, [], ◌∷◌, length}
use Rattle.std.proofs.Common.{ap, subst, arith}
use denote.Hole.Carrier.{hidden}
use Rattle.zir_tree.specs.declared.ident.Ident.{Ident}
use Rattle.zir_tree.specs.declared.place.Place.{Place}
use Rattle.zir_tree.specs.declared.types.Field.{Field}
use Rattle.zir_tree.specs.declared.expr.Expr.{Expr}
use Rattle.zir_tree.specs.declared.stmt.Var.{Var as Variable}
use Rattle.zir_tree.specs.declared.stmt.Body.{Body}
use Rattle.zir_tree.specs.declared.stmt.Stmt.{Stmt, Row_of-Stmt, end_of-Stmt, more_of-Stmt}
use Rattle.zir_tree.specs.declared.stmt.Stmt as stmt
use Rattle.zir_tree.specs.declared.stmt.Stmt.TheBlock.{shape-the_row-Stmt-0, hidden-the_row-Stmt-0}
use Rattle.zir_tree.specs.declared.comp.Turning.{Turning}
use Rattle.zir_tree.specs.declared.comp.Link.{Link}
use Rattle.zir_tree.specs.declared.comp.Comp.{Comp, end_of-Comp, more_of-Comp, Row_of-Member, end_of-Member, more_of-Member}
use Rattle.zir_tree.specs.declared.comp.Comp as comp
use Rattle.zir_tree.specs.declared.comp.Comp.TheBlock.{shape-the_row-Comp-0, hidden-the_row-Comp-0, shape-the_row-Member-1, hidden-the_row-Member-1}
use Rattle.zir_tree.specs.declared.comp.Member.{Member, Bind, Var, Run}
use Rattle.zir_tree.specs.declared.program.Struct.{Struct}
use Rattle.zir_tree.specs.declared.program.Function.{Function}
use Rattle.zir_tree.specs.declared.program.CompFunction.{CompFunction}
use Rattle.zir_tree.specs.declared.program.Decl.{Decl}
use Rattle.zir_tree.specs.declared.program.Decl.TheVariants as decl
use Rattle.zir_tree.specs.declared.program.Prog.{Prog}
use Rattle.zir_names.specs.declared.scope.Kind.TheVariants as kind
use Rattle.zir_names.specs.declared.scope.Need.TheVariants as need
use Rattle.zir_names.specs.declared.scope.Entry.{Entry}
use Rattle.zir_names.specs.declared.program.Named.{Named}
use Rattle.zir_names.specs.Walk.{Walk, Fine, Broken, and_then}
use Rattle.zir_names.specs.Scope.{Seen, nothing_seen, numbered, counted, opened, left, Done, done, closed, resolved}
use Rattle.zir_names.specs.Expressions.{each, maybe, type_of, expr}
use Rattle.zir_names.specs.Statements as statements
use Rattle.zir_names.specs.Components as components
use Rattle.zir_names.specs.Programs as programs
use Rattle.zir_typed_code.proofs.Rising.{RisesStmt, RisesRow, RisesAll, RisesParams, RisesComp, RisesMember, RisesMembers, RisesList, RisesDecl, RisesDecls}

-- Of a walk that went on, the first part is fine, and a walk makes one thing.
first : {A B : Type 0} (w : Walk A) (next : A → Walk B) (y : B) → and_then w next ≡ Fine y → (x : A) × (w ≡ Fine x) × (next x ≡ Fine y)
first {A} {B} (Fine x) next y h = (x, refl, h)
first {A} {B} (Broken r) next y h = absurd cc

same : {A : Type 0} (x y : A) → let u : Walk A = Fine x in let v : Walk A = Fine y in u ≡ v → x ≡ y
same {A} x y h = ap (λ w. elim w [ Fine z ↦ z | Broken r ↦ x ]) h

-- What was made has numbers that rise from the next one on, as far as those that were taken.
record Goes {A : Type 0} (R : ℕ → A → ℕ → Type 0) (a : Seen) (x : Done A) : Type 0 where
  later : a.next ≤ x.seen.next
  rises : R a.next x.made x.seen.next

ends : {A : Type 0} (R : ℕ → A → ℕ → Type 0) (a s : Seen) (made : A) (x : Done A) → done made s ≡ Fine x → a.next ≤ s.next → R a.next made s.next →
    Goes R a x
ends {A} R a s made x h later rises = subst (Goes R a) (same (record { made = made; seen = s }) x h) (record { later = later; rises = rises })

closed_goes : {A : Type 0} (R : ℕ → A → ℕ → Type 0) (before a : Seen) (w : Walk (Done A)) (x : Done A) → ((y : Done A) → w ≡ Fine y → Goes R a y) →
    closed before w ≡ Fine x → Goes R a x
closed_goes {A} R before a w x k h =
    let y = first w (λ part. done part.made (left before part.seen)) x h in
    let g : Goes R a y.0 = k y.0 y.1 in
    ends R a (left before y.0.seen) y.0.made x y.2 g.later g.rises

-- The trees of statements with others inside.
rises-row : (a : ℕ) (ss : List Stmt) (b : ℕ) → RisesAll a ss b → RisesRow a (hidden-the_row-Stmt-0 ss) b
unfolding shape-the_row-Stmt-0 hidden-the_row-Stmt-0 hidden
rises-row a [] b h = tt
rises-row a (s ∷ ss) b (c, l, r, is, more) = (c, l, r, is, rises-row c ss b more)

rises-If : (a : ℕ) (e : Expr) (ss : List Stmt) (p : Place) (b : ℕ) → RisesAll a ss b → RisesStmt a (stmt.If e ss p) b
rises-If a e ss p b h = rises-row a ss b h

rises-IfElse : (a : ℕ) (e : Expr) (ss us : List Stmt) (p : Place) (c b : ℕ) → a ≤ c → c ≤ b → RisesAll a ss c → RisesAll c us b →
    RisesStmt a (stmt.IfElse e ss us p) b
rises-IfElse a e ss us p c b l r h k = (c, l, r, rises-row a ss c h, rises-row c us b k)

rises-While : (a : ℕ) (e : Expr) (ss : List Stmt) (p : Place) (b : ℕ) → RisesAll a ss b → RisesStmt a (stmt.While e ss p) b
rises-While a e ss p b h = rises-row a ss b h

rises-For : (a : ℕ) (x : Ident) (e n : Expr) (ss : List Stmt) (p : Place) (c b : ℕ) → a ≤ x.id → x.id < c → c ≤ b → RisesAll c ss b →
    RisesStmt a (stmt.For x e n ss p) b
rises-For a x e n ss p c b l m r h = (c, l, m, r, rises-row c ss b h)

-- A variable has the next number.
abbrev IsNext : ℕ → Variable → ℕ → Type 0
IsNext a v b = (a ≤ v.name.id) × (v.name.id < b)

variable_goes : (a : Seen) (v : Variable) (x : Done Variable) → statements.variable a v ≡ Fine x → Goes IsNext a x
variable_goes a v x h =
    let t = first (type_of a v.ty) _ x h in
    let i = first (maybe (expr a) v.initial) _ x t.2 in
    ends IsNext a (opened kind.Variable (numbered a v.name) (counted a)) _ x i.2 (omega arith) (omega arith, omega arith)

mutual
  stmt_goes : (a : Seen) (s : Stmt) (x : Done Stmt) → statements.stmt a s ≡ Fine x → Goes RisesStmt a x
  stmt_goes a (stmt.Var v) x h =
      let y = first (statements.variable a v) _ x h in
      let g : Goes IsNext a y.0 = variable_goes a v y.0 y.1 in
      ends RisesStmt a y.0.seen (stmt.Var y.0.made) x y.2 g.later g.rises
  stmt_goes a (stmt.Assign y path e) x h =
      let n = first (resolved need.Target a y) _ x h in
      let q = first (each (statements.access_of a) path) _ x n.2 in
      let f = first (expr a e) _ x q.2 in
      ends RisesStmt a a (stmt.Assign n.0 q.0 f.0) x f.2 (omega arith) tt
  stmt_goes a (stmt.Call f n es) x h =
      let y = first (resolved need.Statement a f) _ x h in
      let z = first (each (expr a) es) _ x y.2 in
      ends RisesStmt a a (stmt.Call y.0 n z.0) x z.2 (omega arith) tt
  stmt_goes a (stmt.Error text at) x h = ends RisesStmt a a (stmt.Error text at) x h (omega arith) tt
  stmt_goes a (stmt.If' e _ ss at) x h =
      let f = first (expr a e) _ x h in
      let y = first (closed a (statements.stmts a ss)) _ x f.2 in
      let g : Goes RisesAll a y.0 = closed_goes RisesAll a a (statements.stmts a ss) y.0 (λ z k. stmts_go a ss z k) y.1 in
      ends RisesStmt a y.0.seen (stmt.If f.0 y.0.made at) x y.2 g.later (rises-If a.next f.0 y.0.made at y.0.seen.next g.rises)
  stmt_goes a (stmt.IfElse' e _ ss _ ts at) x h =
      let f = first (expr a e) _ x h in
      let y = first (closed a (statements.stmts a ss)) _ x f.2 in
      let g : Goes RisesAll a y.0 = closed_goes RisesAll a a (statements.stmts a ss) y.0 (λ z k. stmts_go a ss z k) y.1 in
      let z = first (closed y.0.seen (statements.stmts y.0.seen ts)) _ x y.2 in
      let l : Goes RisesAll y.0.seen z.0 = closed_goes RisesAll y.0.seen y.0.seen (statements.stmts y.0.seen ts) z.0 (λ u k. stmts_go y.0.seen ts u k) z.1 in
      let low = g.later in
      let high = l.later in
      ends RisesStmt a z.0.seen (stmt.IfElse f.0 y.0.made z.0.made at) x z.2 (omega arith)
      (rises-IfElse a.next f.0 y.0.made z.0.made at y.0.seen.next z.0.seen.next low high g.rises l.rises)
  stmt_goes a (stmt.While' e _ ss at) x h =
      let f = first (expr a e) _ x h in
      let y = first (closed a (statements.stmts a ss)) _ x f.2 in
      let g : Goes RisesAll a y.0 = closed_goes RisesAll a a (statements.stmts a ss) y.0 (λ z k. stmts_go a ss z k) y.1 in
      ends RisesStmt a y.0.seen (stmt.While f.0 y.0.made at) x y.2 g.later (rises-While a.next f.0 y.0.made at y.0.seen.next g.rises)
  stmt_goes a (stmt.For' i b n _ ss at) x h =
      let f = first (expr a b) _ x h in
      let k = first (expr a n) _ x f.2 in
      let w = statements.indexed a i in
      let y = first (closed a (statements.stmts w ss)) _ x k.2 in
      let g : Goes RisesAll w y.0 = closed_goes RisesAll a w (statements.stmts w ss) y.0 (λ z k. stmts_go w ss z k) y.1 in
      let low = g.later in
      ends RisesStmt a y.0.seen (stmt.For (numbered a i) f.0 k.0 y.0.made at) x y.2 (omega arith)
      (rises-For a.next (numbered a i) f.0 k.0 y.0.made at (suc a.next) y.0.seen.next (omega arith) (omega arith) (omega arith) g.rises)

  stmts_go : (a : Seen) {m : _} (ss : Row_of-Stmt m) (z : Done (List Stmt)) → statements.stmts a ss ≡ Fine z → Goes RisesAll a z
  stmts_go a end_of-Stmt z h = ends RisesAll a a [] z h (omega arith) tt
  stmts_go a (more_of-Stmt s ss) z h =
      let x = first (statements.stmt a s) _ z h in
      let g : Goes RisesStmt a x.0 = stmt_goes a s x.0 x.1 in
      let y = first (statements.stmts x.0.seen ss) _ z x.2 in
      let l : Goes RisesAll x.0.seen y.0 = stmts_go x.0.seen ss y.0 y.1 in
      let low = g.later in
      let high = l.later in
      ends RisesAll a y.0.seen (x.0.made ∷ y.0.made) z y.2 (omega arith) (x.0.seen.next, low, high, g.rises, l.rises)

list_goes : (a : Seen) (ss : List Stmt) (z : Done (List Stmt)) → statements.in_turn statements.stmt a ss ≡ Fine z → Goes RisesAll a z
list_goes a [] z h = ends RisesAll a a [] z h (omega arith) tt
list_goes a (s ∷ ss) z h =
    let x = first (statements.stmt a s) _ z h in
    let g : Goes RisesStmt a x.0 = stmt_goes a s x.0 x.1 in
    let y = first (statements.in_turn statements.stmt x.0.seen ss) _ z x.2 in
    let l : Goes RisesAll x.0.seen y.0 = list_goes x.0.seen ss y.0 y.1 in
    let low = g.later in
    let high = l.later in
    ends RisesAll a y.0.seen (x.0.made ∷ y.0.made) z y.2 (omega arith) (x.0.seen.next, low, high, g.rises, l.rises)

abbrev RisesBody : ℕ → Body → ℕ → Type 0
RisesBody a b c = RisesAll a b.statements c

body_goes : (a : Seen) (b : Body) (x : Done Body) → statements.body_of a b ≡ Fine x → Goes RisesBody a x
body_goes a b x h =
    closed_goes RisesBody a a (and_then (statements.in_turn statements.stmt a b.statements) (λ ss. and_then (maybe (statements.returned ss.seen) b.result)
    (λ result. done (record { statements = ss.made; result = result }) ss.seen))) x
    (λ y k. (let s = first (statements.in_turn statements.stmt a b.statements) _ y k in
    let g : Goes RisesAll a s.0 = list_goes a b.statements s.0 s.1 in
    let r = first (maybe (statements.returned s.0.seen) b.result) _ y s.2 in
    ends RisesBody a s.0.seen (record { statements = s.0.made; result = r.0 }) y r.2 g.later g.rises)) h

-- The trees of components with others inside.
rises-Repeat : (a : ℕ) (c : Comp) (p : Place) (b : ℕ) → RisesComp a c b → RisesComp a (comp.Repeat c p) b
unfolding shape-the_row-Comp-0 hidden-the_row-Comp-0 hidden
rises-Repeat a c p b h = h

rises-WhileComp : (a : ℕ) (turning : Turning) (e : Expr) (c : Comp) (p : Place) (b : ℕ) → RisesComp a c b → RisesComp a (comp.While turning e c p) b
unfolding shape-the_row-Comp-0 hidden-the_row-Comp-0 hidden
rises-WhileComp a turning e c p b h = h

rises-Times : (a : ℕ) (e : Expr) (c : Comp) (p : Place) (b : ℕ) → RisesComp a c b → RisesComp a (comp.Times e c p) b
unfolding shape-the_row-Comp-0 hidden-the_row-Comp-0 hidden
rises-Times a e c p b h = h

rises-ForComp : (a : ℕ) (x : Ident) (e f : Expr) (c : Comp) (p : Place) (k b : ℕ) → a ≤ x.id → x.id < k → k ≤ b → RisesComp k c b →
    RisesComp a (comp.For x e f c p) b
unfolding shape-the_row-Comp-0 hidden-the_row-Comp-0 hidden
rises-ForComp a x e f c p k b l m r h = (k, l, m, r, h)

rises-IfComp : (a : ℕ) (e : Expr) (c d : Comp) (p : Place) (k b : ℕ) → a ≤ k → k ≤ b → RisesComp a c k → RisesComp k d b → RisesComp a (comp.If e c d p) b
unfolding shape-the_row-Comp-0 hidden-the_row-Comp-0 hidden
rises-IfComp a e c d p k b l r h i = (k, l, r, h, i)

rises-Pipe : (a : ℕ) (link : Link) (c d : Comp) (p : Place) (k b : ℕ) → a ≤ k → k ≤ b → RisesComp a c k → RisesComp k d b →
    RisesComp a (comp.Pipe link c d p) b
unfolding shape-the_row-Comp-0 hidden-the_row-Comp-0 hidden
rises-Pipe a link c d p k b l r h i = (k, l, r, h, i)

rises-members : (a : ℕ) (ms : List Member) (b : ℕ) → RisesList a ms b → RisesMembers a (hidden-the_row-Member-1 ms) b
unfolding shape-the_row-Member-1 hidden-the_row-Member-1 hidden
rises-members a [] b h = tt
rises-members a (m ∷ ms) b (c, l, r, is, more) = (c, l, r, is, rises-members c ms b more)

rises-Block : (a : ℕ) (ms : List Member) (p : Place) (b : ℕ) → RisesList a ms b → RisesComp a (comp.Block ms p) b
rises-Block a ms p b h = rises-members a ms b h

mutual
  comp_goes : (a : Seen) (c : Comp) (x : Done Comp) → components.comp a c ≡ Fine x → Goes RisesComp a x
  comp_goes a (comp.Take at) x h = ends RisesComp a a (comp.Take at) x h (omega arith) tt
  comp_goes a (comp.Takes n at) x h = ends RisesComp a a (comp.Takes n at) x h (omega arith) tt
  comp_goes a (comp.Emit e at) x h = let f = first (expr a e) _ x h in ends RisesComp a a (comp.Emit f.0 at) x f.2 (omega arith) tt
  comp_goes a (comp.Emits e at) x h = let f = first (expr a e) _ x h in ends RisesComp a a (comp.Emits f.0 at) x f.2 (omega arith) tt
  comp_goes a (comp.Return e at) x h = let f = first (expr a e) _ x h in ends RisesComp a a (comp.Return f.0 at) x f.2 (omega arith) tt
  comp_goes a (comp.Do b at) x h =
      let y = first (statements.body_of a b) _ x h in
      let g : Goes RisesBody a y.0 = body_goes a b y.0 y.1 in
      ends RisesComp a y.0.seen (comp.Do y.0.made at) x y.2 g.later g.rises
  comp_goes a (comp.Repeat' _ (more_of-Comp c end_of-Comp) at) x h =
      let y = first (components.comp a c) _ x h in
      let g : Goes RisesComp a y.0 = comp_goes a c y.0 y.1 in
      ends RisesComp a y.0.seen (comp.Repeat y.0.made at) x y.2 g.later (rises-Repeat a.next y.0.made at y.0.seen.next g.rises)
  comp_goes a (comp.While' turning e _ (more_of-Comp c end_of-Comp) at) x h =
      let f = first (expr a e) _ x h in
      let y = first (components.comp a c) _ x f.2 in
      let g : Goes RisesComp a y.0 = comp_goes a c y.0 y.1 in
      ends RisesComp a y.0.seen (comp.While turning f.0 y.0.made at) x y.2 g.later
      (rises-WhileComp a.next turning f.0 y.0.made at y.0.seen.next g.rises)
  comp_goes a (comp.Times' e _ (more_of-Comp c end_of-Comp) at) x h =
      let f = first (expr a e) _ x h in
      let y = first (components.comp a c) _ x f.2 in
      let g : Goes RisesComp a y.0 = comp_goes a c y.0 y.1 in
      ends RisesComp a y.0.seen (comp.Times f.0 y.0.made at) x y.2 g.later (rises-Times a.next f.0 y.0.made at y.0.seen.next g.rises)
  comp_goes a (comp.For' i b n _ (more_of-Comp c end_of-Comp) at) x h =
      let f = first (expr a b) _ x h in
      let k = first (expr a n) _ x f.2 in
      let w = statements.indexed a i in
      let y = first (closed a (components.comp w c)) _ x k.2 in
      let g : Goes RisesComp w y.0 = closed_goes RisesComp a w (components.comp w c) y.0 (λ z q. comp_goes w c z q) y.1 in
      let low = g.later in
      ends RisesComp a y.0.seen (comp.For (numbered a i) f.0 k.0 y.0.made at) x y.2 (omega arith)
      (rises-ForComp a.next (numbered a i) f.0 k.0 y.0.made at (suc a.next) y.0.seen.next (omega arith) (omega arith) (omega arith) g.rises)
  comp_goes a (comp.If' e _ (more_of-Comp c end_of-Comp) _ (more_of-Comp d end_of-Comp) at) x h =
      let f = first (expr a e) _ x h in
      let y = first (components.comp a c) _ x f.2 in
      let g : Goes RisesComp a y.0 = comp_goes a c y.0 y.1 in
      let z = first (components.comp y.0.seen d) _ x y.2 in
      let l : Goes RisesComp y.0.seen z.0 = comp_goes y.0.seen d z.0 z.1 in
      let low = g.later in
      let high = l.later in
      ends RisesComp a z.0.seen (comp.If f.0 y.0.made z.0.made at) x z.2 (omega arith)
      (rises-IfComp a.next f.0 y.0.made z.0.made at y.0.seen.next z.0.seen.next low high g.rises l.rises)
  comp_goes a (comp.Map f n at) x h = let y = first (resolved need.Mapped a f) _ x h in ends RisesComp a a (comp.Map y.0 n at) x y.2 (omega arith) tt
  comp_goes a (comp.Filter f n at) x h = let y = first (resolved need.Mapped a f) _ x h in ends RisesComp a a (comp.Filter y.0 n at) x y.2 (omega arith) tt
  comp_goes a (comp.Call f n es) x h =
      let y = first (resolved need.Component a f) _ x h in
      let z = first (each (expr a) es) _ x y.2 in
      ends RisesComp a a (comp.Call y.0 n z.0) x z.2 (omega arith) tt
  comp_goes a (comp.Block' _ ms at) x h =
      let y = first (closed a (components.members a ms)) _ x h in
      let g : Goes RisesList a y.0 = closed_goes RisesList a a (components.members a ms) y.0 (λ z k. members_go a ms z k) y.1 in
      ends RisesComp a y.0.seen (comp.Block y.0.made at) x y.2 g.later (rises-Block a.next y.0.made at y.0.seen.next g.rises)
  comp_goes a (comp.Pipe' link _ (more_of-Comp c end_of-Comp) _ (more_of-Comp d end_of-Comp) at) x h =
      let y = first (components.comp a c) _ x h in
      let g : Goes RisesComp a y.0 = comp_goes a c y.0 y.1 in
      let z = first (components.comp y.0.seen d) _ x y.2 in
      let l : Goes RisesComp y.0.seen z.0 = comp_goes y.0.seen d z.0 z.1 in
      let low = g.later in
      let high = l.later in
      ends RisesComp a z.0.seen (comp.Pipe link y.0.made z.0.made at) x z.2 (omega arith)
      (rises-Pipe a.next link y.0.made z.0.made at y.0.seen.next z.0.seen.next low high g.rises l.rises)

  member_goes : (a : Seen) (m : Member) (x : Done Member) → components.member a m ≡ Fine x → Goes RisesMember a x
  member_goes a (Bind i c) x h =
      let y = first (components.comp (counted a) c) _ x h in
      let g : Goes RisesComp (counted a) y.0 = comp_goes (counted a) c y.0 y.1 in
      let low = g.later in
      ends RisesMember a (opened kind.Fixed (numbered a i) y.0.seen) (Bind (numbered a i) y.0.made) x y.2 (omega arith)
      (suc a.next, omega arith, omega arith, omega arith, g.rises)
  member_goes a (Var v) x h =
      let y = first (statements.variable a v) _ x h in
      let g : Goes IsNext a y.0 = variable_goes a v y.0 y.1 in
      ends RisesMember a y.0.seen (Var y.0.made) x y.2 g.later g.rises
  member_goes a (Run c) x h =
      let y = first (components.comp a c) _ x h in
      let g : Goes RisesComp a y.0 = comp_goes a c y.0 y.1 in
      ends RisesMember a y.0.seen (Run y.0.made) x y.2 g.later g.rises

  members_go : (a : Seen) {m : _} (ms : Row_of-Member m) (z : Done (List Member)) → components.members a ms ≡ Fine z → Goes RisesList a z
  members_go a end_of-Member z h = ends RisesList a a [] z h (omega arith) tt
  members_go a (more_of-Member m ms) z h =
      let x = first (components.member a m) _ z h in
      let g : Goes RisesMember a x.0 = member_goes a m x.0 x.1 in
      let y = first (components.members x.0.seen ms) _ z x.2 in
      let l : Goes RisesList x.0.seen y.0 = members_go x.0.seen ms y.0 y.1 in
      let low = g.later in
      let high = l.later in
      ends RisesList a y.0.seen (x.0.made ∷ y.0.made) z y.2 (omega arith) (x.0.seen.next, low, high, g.rises, l.rises)

params_go : (a : Seen) (before : List Entry) (fs : List Field) (z : Done (List Field)) → programs.params a before fs ≡ Fine z → Goes RisesParams a z
params_go a before [] z h = ends RisesParams a a [] z h (omega arith) tt
params_go a before (f ∷ fs) z h =
    let n = first (programs.new_name before f.name) _ z h in
    let t = first (type_of a f.ty) _ z n.2 in
    let y = first (programs.params (counted a) (programs.and_name before f.name) fs) _ z t.2 in
    let g : Goes RisesParams (counted a) y.0 = params_go (counted a) (programs.and_name before f.name) fs y.0 y.1 in
    let low = g.later in
    ends RisesParams a y.0.seen (record { name = numbered a f.name; ty = t.0 } ∷ y.0.made) z y.2 (omega arith)
    (suc a.next, omega arith, omega arith, omega arith, g.rises)

entered_next : (fs : List Field) (a : Seen) → (programs.entered fs a).next ≡ a.next
entered_next [] a = refl
entered_next (f ∷ fs) a = entered_next fs (opened kind.Fixed f.name a)

-- Parameters that rise from one number on rise from one before it on.
params_lower : (a b : ℕ) (ps : List Field) (c : ℕ) → a ≤ b → RisesParams b ps c → RisesParams a ps c
params_lower a b [] c l h = tt
params_lower a b (p ∷ ps) c l (k, low, less, high, more) = (k, omega arith, less, high, more)

struct_goes : (a : Seen) (s : Struct) (x : Done Decl) → programs.struct_of a s ≡ Fine x → Goes RisesDecl a x
struct_goes a s x h =
    let in_ : Seen = programs.inside (numbered a s.name) (counted a) in
    let n = first (programs.new_name a.open_ s.name) _ x h in
    let f = first (programs.fields in_ [] s.fields) _ x n.2 in
    ends RisesDecl a (programs.behind kind.Structure (numbered a s.name) a in_) (decl.Struct (record { name = numbered a s.name; fields = f.0; at = s.at })) x
    f.2 (omega arith) tt

function_goes : (a : Seen) (f : Function) (x : Done Decl) → programs.function_of a f ≡ Fine x → Goes RisesDecl a x
function_goes a f x h =
    let own = numbered a f.name in
    let n = first (programs.new_name a.open_ f.name) _ x h in
    let ps = first (programs.params (counted a) [] f.params) _ x n.2 in
    let g : Goes RisesParams (counted a) ps.0 = params_go (counted a) [] f.params ps.0 ps.1 in
    let r = first (maybe (type_of ps.0.seen) f.result) _ x ps.2 in
    let w = programs.entered ps.0.made (programs.inside own ps.0.seen) in
    let b = first (statements.body_of w f.body) _ x r.2 in
    let l : Goes RisesBody w b.0 = body_goes w f.body b.0 b.1 in
    let e : w.next ≡ ps.0.seen.next = entered_next ps.0.made (programs.inside own ps.0.seen) in
    let low = g.later in
    let high = l.later in
    ends RisesDecl a (programs.behind (kind.Function (length f.params)) own a b.0.seen)
    (decl.Function (record { name = own; params = ps.0.made; result = r.0; body = b.0.made; at = f.at })) x b.2 (omega arith) (
      ps.0.seen.next,
      omega arith,
      omega arith,
      params_lower a.next (suc a.next) ps.0.made ps.0.seen.next (omega arith) g.rises,
      subst (λ k. RisesAll k b.0.made.statements b.0.seen.next) e l.rises,
    )

comp_function_goes : (a : Seen) (f : CompFunction) (x : Done Decl) → programs.comp_function_of a f ≡ Fine x → Goes RisesDecl a x
comp_function_goes a f x h =
    let own = numbered a f.name in
    let n = first (programs.new_name a.open_ f.name) _ x h in
    let ps = first (programs.params (counted a) [] f.params) _ x n.2 in
    let g : Goes RisesParams (counted a) ps.0 = params_go (counted a) [] f.params ps.0 ps.1 in
    let w = programs.entered ps.0.made (programs.inside own ps.0.seen) in
    let c = first (components.comp w f.body) _ x ps.2 in
    let l : Goes RisesComp w c.0 = comp_goes w f.body c.0 c.1 in
    let e : w.next ≡ ps.0.seen.next = entered_next ps.0.made (programs.inside own ps.0.seen) in
    let low = g.later in
    let high = l.later in
    ends RisesDecl a (programs.behind kind.Component own a c.0.seen) (decl.Comp (record { name = own; params = ps.0.made; body = c.0.made; at = f.at })) x c.2
    (omega arith) (
      ps.0.seen.next,
      omega arith,
      omega arith,
      params_lower a.next (suc a.next) ps.0.made ps.0.seen.next (omega arith) g.rises,
      subst (λ k. RisesComp k c.0.made c.0.seen.next) e l.rises,
    )

decl_goes : (a : Seen) (d : Decl) (x : Done Decl) → programs.decl_of a d ≡ Fine x → Goes RisesDecl a x
decl_goes a (decl.Var v) x h =
    let n = first (programs.new_name a.open_ v.name) _ x h in
    let y = first (statements.variable a v) _ x n.2 in
    let g : Goes IsNext a y.0 = variable_goes a v y.0 y.1 in
    ends RisesDecl a y.0.seen (decl.Var y.0.made) x y.2 g.later g.rises
decl_goes a (decl.Struct s) x h = struct_goes a s x h
decl_goes a (decl.Function f) x h = function_goes a f x h
decl_goes a (decl.Comp f) x h = comp_function_goes a f x h

decls_go : (a : Seen) (ds : List Decl) (z : Done (List Decl)) → statements.in_turn programs.decl_of a ds ≡ Fine z → Goes RisesDecls a z
decls_go a [] z h = ends RisesDecls a a [] z h (omega arith) (omega arith)
decls_go a (d ∷ ds) z h =
    let x = first (programs.decl_of a d) _ z h in
    let g : Goes RisesDecl a x.0 = decl_goes a d x.0 x.1 in
    let y = first (statements.in_turn programs.decl_of x.0.seen ds) _ z x.2 in
    let l : Goes RisesDecls x.0.seen y.0 = decls_go x.0.seen ds y.0 y.1 in
    let low = g.later in
    let high = l.later in
    ends RisesDecls a y.0.seen (x.0.made ∷ y.0.made) z y.2 (omega arith) (x.0.seen.next, low, g.rises, l.rises)

-- The numbers of a program rise.
pub record Numbered (p : Prog) : Type 0 where
  pub low : ℕ
  pub top : ℕ
  pub high : ℕ
  pub declared : RisesDecls low p.declarations top
  pub main : RisesComp top p.main high

pub names_rise : (p : Prog) (n : Named) → programs.names p ≡ Fine n → Numbered n.program
names_rise p n h =
    let ds = first (statements.in_turn programs.decl_of nothing_seen p.declarations) _ n h in
    let g : Goes RisesDecls nothing_seen ds.0 = decls_go nothing_seen p.declarations ds.0 ds.1 in
    let input = first (type_of ds.0.seen p.input) _ n ds.2 in
    let main = first (components.comp ds.0.seen p.main) _ n input.2 in
    let l : Goes RisesComp ds.0.seen main.0 = comp_goes ds.0.seen p.main main.0 main.1 in
    let output = first (type_of main.0.seen p.output) _ n main.2 in
    let made : Named = record { program = record { declarations = ds.0.made; input = input.0; main = main.0.made; output = output.0; at = p.at } } in
    subst (λ (m : Named). Numbered m.program) (same made n output.2)
    (record { low = 1; top = ds.0.seen.next; high = main.0.seen.next; declared = g.rises; main = l.rises })
