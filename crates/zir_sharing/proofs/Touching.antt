-- What parts touch together, and the equations at the trees that code has.
use Rattle.std.specs.Prelude.{◌≡◌, ℕ, ◌<◌, ◌+◌, List, [], ◌∷◌, Result, OnOk, length, drop, slice_index_or, refl}
use Rattle.std.proofs.Common.{ap, ◌∙◌, sym, subst}
use Rattle.std.proofs.lemmas.List.{drop_more}
use denote.Hole.Carrier.{hidden}
use Rattle.zir_tree.specs.declared.ident.Ident.{Ident}
use Rattle.zir_tree.specs.declared.place.Place.{Place}
use Rattle.zir_tree.specs.declared.types.Base.{Base}
use Rattle.zir_tree.specs.declared.expr.Prefix.{Prefix}
use Rattle.zir_tree.specs.declared.expr.Operator.{Operator}
use Rattle.zir_tree.specs.declared.expr.Callee.{Callee}
use Rattle.zir_tree.specs.declared.expr.Expr.{Expr}
use Rattle.zir_tree.specs.declared.expr.Expr as expr
use Rattle.zir_tree.specs.declared.expr.Expr.TheBlock.{shape-the_row-Expr-0, hidden-the_row-Expr-0, shape-the_row-Expr-1, hidden-the_row-Expr-1}
use Rattle.zir_tree.specs.declared.stmt.Stmt.{Stmt}
use Rattle.zir_tree.specs.declared.stmt.Stmt as stmt
use Rattle.zir_tree.specs.declared.stmt.Stmt.TheBlock.{shape-the_row-Stmt-0, hidden-the_row-Stmt-0}
use Rattle.zir_tree.specs.declared.comp.Comp.{Comp}
use Rattle.zir_tree.specs.declared.comp.Comp as comp
use Rattle.zir_tree.specs.declared.comp.Link.{Link}
use Rattle.zir_tree.specs.declared.comp.Turning.{Turning}
use Rattle.zir_tree.specs.declared.comp.Comp.TheBlock.{shape-the_row-Comp-0, hidden-the_row-Comp-0, shape-the_row-Member-1, hidden-the_row-Member-1}
use Rattle.zir_tree.specs.declared.comp.Member.{Member, Bind, Var, Run}
use Rattle.zir_names.specs.Touched.{Touched, Called, both, all_of, call_of, in_expr, in_exprs, in_stmt, in_stmts, in_comp, in_members}
use Rattle.zir_sharing.specs.Ascending.{in_member}
use Rattle.zir_sharing.proofs.Sets.{union_then}

-- one part and then another come to what was touched before
pub both_then : (a b before : Touched) → both b (both a before) ≡ both (both a b) before
both_then a b before = λ i. record {
  used = union_then a.used b.used before.used i;
  assigned = union_then a.assigned b.assigned before.assigned i;
  declared = union_then a.declared b.declared before.declared i;
}

pub both_then3 : (a b c before : Touched) → both c (both b (both a before)) ≡ both (both a (both b c)) before
both_then3 a b c before = both_then b c (both a before) ∙ both_then a (both b c) before

-- what is left of a list begins with the item at its index
pub drop_item : {X : Type 0} (xs : List X) (i : ℕ) (x : X) → i < length xs → x ≡ slice_index_or xs i x → drop i xs ≡ x ∷ drop (i + 1) xs
drop_item xs i x h is = drop_more xs i x h ∙ ap (λ y. y ∷ drop (i + 1) xs) (sym is)

-- a whole that is one part
pub one_part : {T E : Type 0} (r : Result T E) (a w before new : Touched) → w ≡ a → OnOk r (new ≡ both a before) → OnOk r (new ≡ both w before)
one_part r a w before new e h = subst (λ v. OnOk r (new ≡ both v before)) (sym e) h

-- a whole of two parts, one after another
pub two_parts : {T E : Type 0} (r : Result T E) (a b w before mid new : Touched) → w ≡ both a b → mid ≡ both a before →
    OnOk r (new ≡ both b mid) → OnOk r (new ≡ both w before)
two_parts r a b w before mid new e first h =
    subst (λ v. OnOk r (new ≡ v)) (ap (both b) first ∙ both_then a b before ∙ ap (λ x. both x before) (sym e)) h

-- a whole of three parts
pub three_parts : {T E : Type 0} (r : Result T E) (a b c w before mid next new : Touched) → w ≡ both a (both b c) → mid ≡ both a before → next ≡ both b mid →
    OnOk r (new ≡ both c next) → OnOk r (new ≡ both w before)
three_parts r a b c w before mid next new e first second h =
    subst (λ v. OnOk r (new ≡ v)) (ap (both c) (second ∙ ap (both b) first) ∙ both_then3 a b c before ∙ ap (λ x. both x before) (sym e)) h

-- one item of a list comes in
pub rest_step : {X : Type 0} (touch : X → Touched) (xs : List X) (i : ℕ) (x : X) (whole before mid : Touched) → i < length xs → x ≡ slice_index_or xs i x →
    whole ≡ both (all_of touch (drop i xs)) before → mid ≡ both (touch x) before → whole ≡ both (all_of touch (drop (i + 1) xs)) mid
rest_step touch xs i x whole before mid lt is h first =
    h ∙ ap (λ l. both (all_of touch l) before) (drop_item xs i x lt is)
    ∙ sym (both_then (touch x) (all_of touch (drop (i + 1) xs)) before)
    ∙ ap (both (all_of touch (drop (i + 1) xs))) (sym first)

pub exprs-list : (fs : List Called) (es : List Expr) → in_exprs fs (hidden-the_row-Expr-1 es) ≡ all_of (in_expr fs) es
unfolding shape-the_row-Expr-1 hidden-the_row-Expr-1 hidden
exprs-list fs [] = refl
exprs-list fs (e ∷ es) = ap (both (in_expr fs e)) (exprs-list fs es)

pub stmts-list : (fs : List Called) (ss : List Stmt) → in_stmts fs (hidden-the_row-Stmt-0 ss) ≡ all_of (in_stmt fs) ss
unfolding shape-the_row-Stmt-0 hidden-the_row-Stmt-0 hidden
stmts-list fs [] = refl
stmts-list fs (s ∷ ss) = ap (both (in_stmt fs s)) (stmts-list fs ss)

pub members-list : (fs : List Called) (ms : List Member) → in_members fs (hidden-the_row-Member-1 ms) ≡ all_of (in_member fs) ms
unfolding shape-the_row-Member-1 hidden-the_row-Member-1 hidden
members-list fs [] = refl
members-list fs (Bind x c ∷ ms) = ap (both (in_comp fs c)) (members-list fs ms)
members-list fs (Var v ∷ ms) = ap (both (in_member fs (Var v))) (members-list fs ms)
members-list fs (Run c ∷ ms) = ap (both (in_comp fs c)) (members-list fs ms)

pub expr-Unary : (fs : List Called) (op : Prefix) (base : Base) (e : Expr) (at : Place) → in_expr fs (expr.Unary op base e at) ≡ in_expr fs e
unfolding shape-the_row-Expr-0 hidden-the_row-Expr-0 hidden
expr-Unary fs op base e at = refl

pub expr-Binary : (fs : List Called) (op : Operator) (base : Base) (a b : Expr) (at : Place) → in_expr fs (expr.Binary op base a b at) ≡ both (in_expr fs a) (in_expr fs b)
unfolding shape-the_row-Expr-0 hidden-the_row-Expr-0 hidden
expr-Binary fs op base a b at = refl

pub expr-Index : (fs : List Called) (a i : Expr) (at : Place) → in_expr fs (expr.Index a i at) ≡ both (in_expr fs a) (in_expr fs i)
unfolding shape-the_row-Expr-0 hidden-the_row-Expr-0 hidden
expr-Index fs a i at = refl

pub expr-Slice : (fs : List Called) (a i : Expr) (n : ℕ) (at : Place) → in_expr fs (expr.Slice a i n at) ≡ both (in_expr fs a) (in_expr fs i)
unfolding shape-the_row-Expr-0 hidden-the_row-Expr-0 hidden
expr-Slice fs a i n at = refl

pub expr-Part : (fs : List Called) (e : Expr) (name : List ℕ) (n : ℕ) (at : Place) → in_expr fs (expr.Part e name n at) ≡ in_expr fs e
unfolding shape-the_row-Expr-0 hidden-the_row-Expr-0 hidden
expr-Part fs e name n at = refl

pub expr-Convert : (fs : List Called) (base : Base) (e : Expr) (at : Place) → in_expr fs (expr.Convert base e at) ≡ in_expr fs e
unfolding shape-the_row-Expr-0 hidden-the_row-Expr-0 hidden
expr-Convert fs base e at = refl

pub expr-Complex : (fs : List Called) (base : Base) (a b : Expr) (at : Place) → in_expr fs (expr.Complex base a b at) ≡ both (in_expr fs a) (in_expr fs b)
unfolding shape-the_row-Expr-0 hidden-the_row-Expr-0 hidden
expr-Complex fs base a b at = refl

pub expr-Call : (fs : List Called) (f : Ident) (callee : Callee) (es : List Expr) → in_expr fs (expr.Call f callee es) ≡ both (call_of fs f.id) (all_of (in_expr fs) es)
expr-Call fs f callee es = ap (both (call_of fs f.id)) (exprs-list fs es)

pub expr-Array : (fs : List Called) (es : List Expr) (at : Place) → in_expr fs (expr.Array es at) ≡ all_of (in_expr fs) es
expr-Array fs es at = exprs-list fs es

pub stmt-If : (fs : List Called) (e : Expr) (ss : List Stmt) (at : Place) → in_stmt fs (stmt.If e ss at) ≡ both (in_expr fs e) (all_of (in_stmt fs) ss)
stmt-If fs e ss at = ap (both (in_expr fs e)) (stmts-list fs ss)

pub stmt-IfElse : (fs : List Called) (e : Expr) (ss ts : List Stmt) (at : Place) → in_stmt fs (stmt.IfElse e ss ts at) ≡ both (in_expr fs e) (both (all_of (in_stmt fs) ss) (all_of (in_stmt fs) ts))
stmt-IfElse fs e ss ts at = ap (λ x. both (in_expr fs e) (both x (in_stmts fs (hidden-the_row-Stmt-0 ts)))) (stmts-list fs ss) ∙ ap (λ x. both (in_expr fs e) (both (all_of (in_stmt fs) ss) x)) (stmts-list fs ts)

pub stmt-While : (fs : List Called) (e : Expr) (ss : List Stmt) (at : Place) → in_stmt fs (stmt.While e ss at) ≡ both (in_expr fs e) (all_of (in_stmt fs) ss)
stmt-While fs e ss at = ap (both (in_expr fs e)) (stmts-list fs ss)

pub stmt-For : (fs : List Called) (x : Ident) (a n : Expr) (ss : List Stmt) (at : Place) → in_stmt fs (stmt.For x a n ss at) ≡ both (in_expr fs a) (both (in_expr fs n) (all_of (in_stmt fs) ss))
stmt-For fs x a n ss at = ap (λ y. both (in_expr fs a) (both (in_expr fs n) y)) (stmts-list fs ss)

pub comp-Repeat : (fs : List Called) (c : Comp) (at : Place) → in_comp fs (comp.Repeat c at) ≡ in_comp fs c
unfolding shape-the_row-Comp-0 hidden-the_row-Comp-0 hidden
comp-Repeat fs c at = refl

pub comp-While : (fs : List Called) (turning : Turning) (e : Expr) (c : Comp) (at : Place) → in_comp fs (comp.While turning e c at) ≡ both (in_expr fs e) (in_comp fs c)
unfolding shape-the_row-Comp-0 hidden-the_row-Comp-0 hidden
comp-While fs turning e c at = refl

pub comp-Times : (fs : List Called) (e : Expr) (c : Comp) (at : Place) → in_comp fs (comp.Times e c at) ≡ both (in_expr fs e) (in_comp fs c)
unfolding shape-the_row-Comp-0 hidden-the_row-Comp-0 hidden
comp-Times fs e c at = refl

pub comp-For : (fs : List Called) (x : Ident) (a n : Expr) (c : Comp) (at : Place) → in_comp fs (comp.For x a n c at) ≡ both (in_expr fs a) (both (in_expr fs n) (in_comp fs c))
unfolding shape-the_row-Comp-0 hidden-the_row-Comp-0 hidden
comp-For fs x a n c at = refl

pub comp-If : (fs : List Called) (e : Expr) (c d : Comp) (at : Place) → in_comp fs (comp.If e c d at) ≡ both (in_expr fs e) (both (in_comp fs c) (in_comp fs d))
unfolding shape-the_row-Comp-0 hidden-the_row-Comp-0 hidden
comp-If fs e c d at = refl

pub comp-Block : (fs : List Called) (ms : List Member) (at : Place) → in_comp fs (comp.Block ms at) ≡ all_of (in_member fs) ms
comp-Block fs ms at = members-list fs ms

pub comp-Pipe : (fs : List Called) (link : Link) (c d : Comp) (at : Place) → in_comp fs (comp.Pipe link c d at) ≡ both (in_comp fs c) (in_comp fs d)
unfolding shape-the_row-Comp-0 hidden-the_row-Comp-0 hidden
comp-Pipe fs link c d at = refl
