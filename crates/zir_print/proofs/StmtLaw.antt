-- The canonical tokens of variables, statements and bodies read as them again, no higher than any tokens of them.
use Rattle.std.proofs.Common.{◌≡◌, ℕ, suc, max, ◌≤◌, List, [], ◌∷◌, ◌++◌, Option, Some, None, refl, sym, ap, ◌∙◌, subst, arith, append_assoc, append-nil}
use Rattle.std.specs.Prelude.{map}
use denote.Hole.Carrier.{hidden}
use Rattle.zir_tree.specs.declared.place.Place.{Place}
use Rattle.zir_tree.specs.declared.ident.Ident.{Ident}
use Rattle.zir_tree.specs.declared.types.Field.{Field}
use Rattle.zir_tree.specs.declared.expr.Expr.{Expr}
use Rattle.zir_tree.specs.declared.stmt.Var.{Var}
use Rattle.zir_tree.specs.declared.stmt.Access.{Access}
use Rattle.zir_tree.specs.declared.stmt.Access.TheVariants as access
use Rattle.zir_tree.specs.declared.stmt.Stmt.{Stmt}
use Rattle.zir_tree.specs.declared.stmt.Stmt as stmt
use Rattle.zir_tree.specs.declared.stmt.Stmt.TheBlock.{shape-the_row-Stmt-0, hidden-the_row-Stmt-0}
use Rattle.zir_tree.specs.declared.stmt.Return.{Return}
use Rattle.zir_tree.specs.declared.stmt.Body.{Body}
use Rattle.zir_lex.specs.declared.token.Token.{Token}
use Rattle.zir_lex.specs.declared.token.Keyword.TheVariants as keyword
use Rattle.zir_lex.specs.declared.token.Symbol.TheVariants as symbol
use Rattle.zir_grammar.specs.Grammar.{word, sign, name, ident, plain_var, set_var, result_body, IsExpr, IsField, IsVar, var_alone, var_set, IsBounds, bounds, IsTarget, target, target_index, target_slice, target_part, IsStmt, declares, assigns, calls, errors, tests, chooses, turns, counts, IsStmts, stmts, IsMoreStmts, no_stmt, last_stmt, more_stmts, IsMoreBody, no_more, ends, goes_on, returns, returns_stopped, IsBody, body}
use Rattle.zir_print.specs.Marks.{nowhere, mark, link_word, parted, enclosed}
use Rattle.zir_print.specs.Types.{ident_word, type_words, field_words}
use Rattle.zir_print.specs.Expressions.{bracket_end, expr_words, called_words}
use Rattle.zir_print.specs.Statements.{var_words, access_words, path_words, bounds_words, list_words, stmt_words, each_stmt, result_words, body_words}
use Rattle.zir_print.proofs.Lists.{Low, AllLow, all_up, all_more, tallest, tallest_low, enclosed_rest, braced_rest}
use Rattle.zir_print.proofs.TypeLaw.{field_own}
use Rattle.zir_print.proofs.ExprLaw.{OwnExpr, expr_low, args_held, args_height, args_low, args_read}

-- ---- variables

abbrev pub OwnVar : Var → ℕ → Type 0
OwnVar v g = (rest : List Token) → IsVar v g (var_words v ++ rest) rest

alone_own : (f : Field) (p : Place) (rest : List Token) → IsField f (field_words f ++ rest) rest → IsVar (plain_var f p) 1 (var_words (plain_var f p) ++ rest) rest
alone_own f p rest x =
    subst (λ w. IsVar (plain_var f p) 1 (word keyword.Var p ∷ ident_word f.name ∷ mark symbol.Colon ∷ (w ++ rest)) rest) (sym (append-nil (type_words f.ty))) (var_alone x)

set_own : {h : ℕ} (f : Field) (e : Expr) (p : Place) (rest : List Token) → IsField f (field_words f ++ mark symbol.Assign ∷ (expr_words e ++ rest)) (mark symbol.Assign ∷ (expr_words e ++ rest)) → IsExpr e h (expr_words e ++ rest) rest
    → IsVar (set_var f e p) (suc h) (var_words (set_var f e p) ++ rest) rest
set_own {h = h} f e p rest x y =
    subst (λ w. IsVar (set_var f e p) (suc h) (word keyword.Var p ∷ ident_word f.name ∷ mark symbol.Colon ∷ w) rest) (sym (append_assoc (type_words f.ty) (mark symbol.Assign ∷ expr_words e) rest)) (var_set x y)

pub var_low : {v : Var} {h : ℕ} {ts rest : List Token} → IsVar v h ts rest → Low OwnVar h v
var_low (var_alone {f = f} {at = p} x) = record { height = 1; own = λ rest. alone_own f p rest (field_own x rest); low = omega arith }
var_low (var_set {f = f} {e = e} {at = p} x b) =
    let z = expr_low b in
    let a = z.low in
    record {
      height = suc z.height;
      own = λ rest. set_own f e p rest (field_own x (mark symbol.Assign ∷ (expr_words e ++ rest))) (z.own rest);
      low = omega (arith, a);
    }

-- ---- the head of a counted loop

abbrev pub OwnBounds : Ident → Expr → Expr → ℕ → Type 0
OwnBounds x from count g = (rest : List Token) → IsBounds x from count g (bounds_words x from count ++ rest) rest

pub bounds_low : {x : Ident} {from count : Expr} {h : ℕ} {ts rest : List Token} → IsBounds x from count h ts rest → Low (OwnBounds x from) h count
bounds_low (bounds {x = x} {from = from} {count = count} {at = p} b c) =
    let y = expr_low b in
    let z = expr_low c in
    let a = y.low in
    let d = z.low in
    record {
      height = max y.height z.height;
      own = λ rest.
          let close : List Token = mark symbol.RightBracket ∷ rest in
          let inner : List Token = expr_words count ++ mark symbol.RightBracket ∷ [] in
          subst (λ w. IsBounds (ident x p) from count (max y.height z.height) (name x p ∷ link_word keyword.In ∷ mark symbol.LeftBracket ∷ w) rest)
          (sym (append_assoc (expr_words from) (mark symbol.Comma ∷ inner) rest ∙ ap (λ l. expr_words from ++ mark symbol.Comma ∷ l) (append_assoc (expr_words count) (mark symbol.RightBracket ∷ []) rest)))
          (bounds (y.own (mark symbol.Comma ∷ (expr_words count ++ close))) (z.own close));
      low = omega (arith, a, d);
    }

-- ---- what is assigned

path_snoc : (done : List Access) (a : Access) (tail : List Token) → path_words (done ++ a ∷ []) ++ tail ≡ path_words done ++ (access_words a ++ tail)
path_snoc [] a tail = ap (λ w. w ++ tail) (append-nil (access_words a))
path_snoc (d ∷ done) a tail =
    append_assoc (access_words d) (path_words (done ++ a ∷ [])) tail ∙ ap (λ w. access_words d ++ w) (path_snoc done a tail) ∙ sym (append_assoc (access_words d) (path_words done) (access_words a ++ tail))

-- the path so far, before whatever carries it on
record LowPath (done : List Access) (h : ℕ) : Type 0 where
  height : ℕ
  low : height ≤ h
  own : (path : List Access) (high : ℕ) (tail rest : List Token) → IsTarget done height path high tail rest → IsTarget [] 1 path high (path_words done ++ tail) rest

path_step : {g h : ℕ} {done : List Access} (a : Access) (height : ℕ) (f : LowPath done g) → height ≤ h
    → ((path : List Access) (high : ℕ) (tail rest : List Token) → IsTarget (done ++ a ∷ []) height path high tail rest → IsTarget done f.height path high (access_words a ++ tail) rest) → LowPath (done ++ a ∷ []) h
path_step {done = done} a height f le step = record {
  height = height;
  low = le;
  own = λ path high tail rest x. subst (λ w. IsTarget [] 1 path high w rest) (sym (path_snoc done a tail)) (f.own path high (access_words a ++ tail) rest (step path high tail rest x));
}

index_path : {low h : ℕ} {done : List Access} {i : Expr} (p : Place) → LowPath done low → Low OwnExpr h i → LowPath (done ++ access.Index i p ∷ []) (suc (max low h))
index_path {low = low} {h = h} {done = done} {i = i} p f z =
    let a = f.low in
    let b = z.low in
    path_step (access.Index i p) (suc (max f.height z.height)) f (omega (arith, a, b))
    (λ path high tail rest x.
    subst (λ w. IsTarget done f.height path high (sign symbol.LeftBracket p ∷ w) rest) (sym (append_assoc (expr_words i) (mark symbol.RightBracket ∷ []) tail))
    (target_index (z.own (mark symbol.RightBracket ∷ tail)) x))

slice_path : {low h : ℕ} {done : List Access} {i : Expr} (k : ℕ) (p : Place) → LowPath done low → Low OwnExpr h i → LowPath (done ++ access.Slice i k p ∷ []) (suc (max low h))
slice_path {low = low} {h = h} {done = done} {i = i} k p f z =
    let a = f.low in
    let b = z.low in
    path_step (access.Slice i k p) (suc (max f.height z.height)) f (omega (arith, a, b))
    (λ path high tail rest x.
    subst (λ w. IsTarget done f.height path high (sign symbol.LeftBracket p ∷ w) rest) (sym (append_assoc (expr_words i) (bracket_end (Some k)) tail))
    (target_slice (z.own (bracket_end (Some k) ++ tail)) x))

part_path : {low : ℕ} {done : List Access} (x : List ℕ) (p : Place) → LowPath done low → LowPath (done ++ access.Part x 0 p ∷ []) (suc low)
part_path {low = low} x p f = let a = f.low in path_step (access.Part x 0 p) (suc f.height) f (omega (arith, a)) (λ path high tail rest y. target_part y)

target_low : {low h : ℕ} {done path : List Access} {ts rest : List Token} → IsTarget done low path h ts rest → LowPath done low → LowPath path h
target_low target f = f
target_low (target_index {at = p} b more) f = target_low more (index_path p f (expr_low b))
target_low (target_slice {n = k} {at = p} b more) f = target_low more (slice_path k p f (expr_low b))
target_low (target_part {x = x} {at = p} more) f = target_low more (part_path x p f)

no_path : LowPath [] 1
no_path = record { height = 1; low = omega arith; own = λ path high tail rest x. x }

-- ---- statements

abbrev pub OwnStmt : Stmt → ℕ → Type 0
OwnStmt s g = (rest : List Token) → IsStmt s g (stmt_words s ++ rest) rest

abbrev pub OwnStmts : List Stmt → ℕ → Type 0
OwnStmts ss g = (rest : List Token) → IsStmts ss g (list_words (map stmt_words ss) ++ rest) rest

pub row_stmts : (ss : List Stmt) → each_stmt (hidden-the_row-Stmt-0 ss) ≡ map stmt_words ss
unfolding shape-the_row-Stmt-0 hidden-the_row-Stmt-0 hidden
row_stmts [] = refl
row_stmts (s ∷ ss) = ap (λ w. stmt_words s ∷ w) (row_stmts ss)

pub words_if : (e : Expr) (ss : List Stmt) (p : Place) → stmt_words (stmt.If e ss p) ≡ word keyword.If p ∷ (expr_words e ++ link_word keyword.Then ∷ list_words (map stmt_words ss))
words_if e ss p = ap (λ w. word keyword.If p ∷ (expr_words e ++ link_word keyword.Then ∷ list_words w)) (row_stmts ss)

pub words_if_else : (e : Expr) (ss os : List Stmt) (p : Place)
    → stmt_words (stmt.IfElse e ss os p) ≡ word keyword.If p ∷ (expr_words e ++ link_word keyword.Then ∷ (list_words (map stmt_words ss) ++ link_word keyword.Else ∷ list_words (map stmt_words os)))
words_if_else e ss os p =
    ap (λ w. word keyword.If p ∷ (expr_words e ++ link_word keyword.Then ∷ (list_words w ++ link_word keyword.Else ∷ list_words (each_stmt (hidden-the_row-Stmt-0 os))))) (row_stmts ss)
    ∙ ap (λ w. word keyword.If p ∷ (expr_words e ++ link_word keyword.Then ∷ (list_words (map stmt_words ss) ++ link_word keyword.Else ∷ list_words w))) (row_stmts os)

pub words_while : (e : Expr) (ss : List Stmt) (p : Place) → stmt_words (stmt.While e ss p) ≡ word keyword.While p ∷ (enclosed (expr_words e) ++ list_words (map stmt_words ss))
words_while e ss p = ap (λ w. word keyword.While p ∷ (enclosed (expr_words e) ++ list_words w)) (row_stmts ss)

pub words_for : (x : Ident) (from count : Expr) (ss : List Stmt) (p : Place) → stmt_words (stmt.For x from count ss p) ≡ word keyword.For p ∷ (bounds_words x from count ++ list_words (map stmt_words ss))
words_for x from count ss p = ap (λ w. word keyword.For p ∷ (bounds_words x from count ++ list_words w)) (row_stmts ss)

-- a statement, by the tokens that it has before any rest
stmt_form : {g h : ℕ} {s : Stmt} (ws : List Token) → stmt_words s ≡ ws → g ≤ h → ((rest : List Token) → IsStmt s g (ws ++ rest) rest) → Low OwnStmt h s
stmt_form {g = g} {s = s} ws same le reads = record {
  height = g;
  own = λ rest. subst (λ w. IsStmt s g (w ++ rest) rest) (sym same) (reads rest);
  low = le;
}

-- the statements of a list behind others
stmts_read : (h : ℕ) (done : List Stmt) (s : Stmt) (ss : List Stmt) (low : ℕ) (rest : List Token) (all : AllLow OwnStmt h (s ∷ ss))
    → IsMoreStmts done low (done ++ s ∷ ss) (tallest OwnStmt h low (s ∷ ss) all) (parted (mark symbol.Semicolon) (map stmt_words (s ∷ ss)) ++ mark symbol.RightBrace ∷ rest) rest
stmts_read h done s [] low rest (x, all) =
    subst (λ w. IsMoreStmts done low (done ++ s ∷ []) (max low x.height) (w ++ mark symbol.RightBrace ∷ rest) rest) (sym (append-nil (stmt_words s))) (last_stmt (x.own (mark symbol.RightBrace ∷ rest)))
stmts_read h done s (t ∷ ss) low rest (x, all) =
    let more : List Token = parted (mark symbol.Semicolon) (map stmt_words (t ∷ ss)) in
    let close : List Token = mark symbol.RightBrace ∷ rest in
    let g : ℕ = tallest OwnStmt h (max low x.height) (t ∷ ss) all in
    subst (λ w. IsMoreStmts done low (done ++ s ∷ t ∷ ss) g w rest) (sym (append_assoc (stmt_words s) (mark symbol.Semicolon ∷ more) close))
    (more_stmts (x.own (mark symbol.Semicolon ∷ (more ++ close)))
    (subst (λ l. IsMoreStmts (done ++ s ∷ []) (max low x.height) l g (more ++ close) rest) (append_assoc done (s ∷ []) (t ∷ ss))
    (stmts_read h (done ++ s ∷ []) t ss (max low x.height) rest all)))

list_read : (h : ℕ) (ss : List Stmt) (rest : List Token) (all : AllLow OwnStmt h ss)
    → IsMoreStmts [] 0 ss (tallest OwnStmt h 0 ss all) (parted (mark symbol.Semicolon) (map stmt_words ss) ++ mark symbol.RightBrace ∷ rest) rest
list_read h [] rest all = no_stmt
list_read h (s ∷ ss) rest all = stmts_read h [] s ss 0 rest all

list_low : (h : ℕ) (ss : List Stmt) → AllLow OwnStmt h ss → Low OwnStmts (suc h) ss
list_low h ss all =
    let le = tallest_low OwnStmt h 0 ss all (omega arith) in
    record {
      height = suc (tallest OwnStmt h 0 ss all);
      own = λ rest. subst (λ w. IsStmts ss (suc (tallest OwnStmt h 0 ss all)) w rest) (sym (braced_rest nowhere (parted (mark symbol.Semicolon) (map stmt_words ss)) rest)) (stmts (list_read h ss rest all));
      low = omega (arith, le);
    }

assign_low : {low h : ℕ} {path : List Access} {e : Expr} (x : List ℕ) (p : Place) → LowPath path low → Low OwnExpr h e → Low OwnStmt (suc (max low h)) (stmt.Assign (ident x p) path e)
assign_low {path = path} {e = e} x p f z =
    let a = f.low in
    let b = z.low in
    stmt_form (name x p ∷ (path_words path ++ mark symbol.Assign ∷ expr_words e)) refl (omega (arith, a, b))
    (λ rest. subst (λ w. IsStmt (stmt.Assign (ident x p) path e) (suc (max f.height z.height)) (name x p ∷ w) rest) (sym (append_assoc (path_words path) (mark symbol.Assign ∷ expr_words e) rest))
    (assigns (f.own path f.height (mark symbol.Assign ∷ (expr_words e ++ rest)) (expr_words e ++ rest) target) (z.own rest)))

call_low : (h : ℕ) (es : List Expr) (x : List ℕ) (p : Place) → AllLow OwnExpr h es → Low OwnStmt (suc h) (stmt.Call (ident x p) 0 es)
call_low h es x p all =
    let le = args_low h es all in
    let ws : List Token = parted (mark symbol.Comma) (map expr_words es) in
    stmt_form (called_words (ident x p) es) refl (omega (arith, le))
    (λ rest. subst (λ w. IsStmt (stmt.Call (ident x p) 0 es) (suc (args_height h es all)) (name x p ∷ w) rest) (sym (enclosed_rest ws rest)) (calls (args_read h es rest all)))

if_low : {low h : ℕ} {e : Expr} {ss : List Stmt} (p : Place) → Low OwnExpr low e → Low OwnStmts h ss → Low OwnStmt (suc (max low h)) (stmt.If e ss p)
if_low {e = e} {ss = ss} p y z =
    let a = y.low in
    let b = z.low in
    let ws : List Token = list_words (map stmt_words ss) in
    stmt_form (word keyword.If p ∷ (expr_words e ++ link_word keyword.Then ∷ ws)) (words_if e ss p) (omega (arith, a, b))
    (λ rest. subst (λ w. IsStmt (stmt.If e ss p) (suc (max y.height z.height)) (word keyword.If p ∷ w) rest) (sym (append_assoc (expr_words e) (link_word keyword.Then ∷ ws) rest))
    (tests (y.own (link_word keyword.Then ∷ (ws ++ rest))) (z.own rest)))

if_else_low : {low h high : ℕ} {e : Expr} {ss os : List Stmt} (p : Place) → Low OwnExpr low e → Low OwnStmts h ss → Low OwnStmts high os → Low OwnStmt (suc (max (max low h) high)) (stmt.IfElse e ss os p)
if_else_low {e = e} {ss = ss} {os = os} p x y z =
    let a = x.low in
    let b = y.low in
    let c = z.low in
    let ws : List Token = list_words (map stmt_words ss) in
    let us : List Token = list_words (map stmt_words os) in
    stmt_form (word keyword.If p ∷ (expr_words e ++ link_word keyword.Then ∷ (ws ++ link_word keyword.Else ∷ us))) (words_if_else e ss os p) (omega (arith, a, b, c))
    (λ rest. subst (λ w. IsStmt (stmt.IfElse e ss os p) (suc (max (max x.height y.height) z.height)) (word keyword.If p ∷ w) rest)
    (sym (append_assoc (expr_words e) (link_word keyword.Then ∷ (ws ++ link_word keyword.Else ∷ us)) rest ∙ ap (λ l. expr_words e ++ link_word keyword.Then ∷ l) (append_assoc ws (link_word keyword.Else ∷ us) rest)))
    (chooses (x.own (link_word keyword.Then ∷ (ws ++ link_word keyword.Else ∷ (us ++ rest)))) (y.own (link_word keyword.Else ∷ (us ++ rest))) (z.own rest)))

while_low : {low h : ℕ} {e : Expr} {ss : List Stmt} (p : Place) → Low OwnExpr low e → Low OwnStmts h ss → Low OwnStmt (suc (max low h)) (stmt.While e ss p)
while_low {e = e} {ss = ss} p y z =
    let a = y.low in
    let b = z.low in
    let ws : List Token = list_words (map stmt_words ss) in
    stmt_form (word keyword.While p ∷ (enclosed (expr_words e) ++ ws)) (words_while e ss p) (omega (arith, a, b))
    (λ rest. subst (λ w. IsStmt (stmt.While e ss p) (suc (max y.height z.height)) (word keyword.While p ∷ w) rest)
    (sym (append_assoc (enclosed (expr_words e)) ws rest ∙ enclosed_rest (expr_words e) (ws ++ rest)))
    (turns (y.own (mark symbol.RightParenthesis ∷ (ws ++ rest))) (z.own rest)))

for_low : {low h : ℕ} {x : Ident} {from count : Expr} {ss : List Stmt} (p : Place) → Low (OwnBounds x from) low count → Low OwnStmts h ss → Low OwnStmt (suc (max low h)) (stmt.For x from count ss p)
for_low {x = x} {from = from} {count = count} {ss = ss} p y z =
    let a = y.low in
    let b = z.low in
    let ws : List Token = list_words (map stmt_words ss) in
    stmt_form (word keyword.For p ∷ (bounds_words x from count ++ ws)) (words_for x from count ss p) (omega (arith, a, b))
    (λ rest. subst (λ w. IsStmt (stmt.For x from count ss p) (suc (max y.height z.height)) (word keyword.For p ∷ w) rest) (sym (append_assoc (bounds_words x from count) ws rest))
    (counts (y.own (ws ++ rest)) (z.own rest)))

mutual
  pub stmt_low : {s : Stmt} {h : ℕ} {ts rest : List Token} → IsStmt s h ts rest → Low OwnStmt h s
  stmt_low (declares v) = let x = var_low v in record { height = x.height; own = λ rest. declares (x.own rest); low = x.low }
  stmt_low (assigns {x = x} {at = p} t b) = assign_low x p (target_low t no_path) (expr_low b)
  stmt_low (calls {x = x} {es = es} {h = h} {at = p} a) = call_low h es x p (args_held a)
  stmt_low errors = record { height = 1; own = λ rest. errors; low = omega arith }
  stmt_low (tests {at = p} b ss) = if_low p (expr_low b) (stmts_low ss)
  stmt_low (chooses {at = p} b ss os) = if_else_low p (expr_low b) (stmts_low ss) (stmts_low os)
  stmt_low (turns {at = p} b ss) = while_low p (expr_low b) (stmts_low ss)
  stmt_low (counts {at = p} b ss) = for_low p (bounds_low b) (stmts_low ss)

  stmts_low : {ss : List Stmt} {h : ℕ} {ts rest : List Token} → IsStmts ss h ts rest → Low OwnStmts h ss
  stmts_low (stmts {ss = ss} {h = h} more) = list_low h ss (more_low more tt)

  more_low : {done ss : List Stmt} {low h : ℕ} {ts rest : List Token} → IsMoreStmts done low ss h ts rest → AllLow OwnStmt low done → AllLow OwnStmt h ss
  more_low no_stmt all = all
  more_low (last_stmt {done = done} {s = s} {low = low} {h = h} x) all = all_more OwnStmt low h done s all (stmt_low x)
  more_low (more_stmts {done = done} {s = s} {low = low} {h = h} x more) all = more_low more (all_more OwnStmt low h done s all (stmt_low x))

-- ---- bodies

abbrev pub OwnBody : Body → ℕ → Type 0
OwnBody b g = (rest : List Token) → IsBody b g (body_words b ++ rest) rest

-- the value of a body is lower than this
abbrev LowResult : ℕ → Option Return → Type 0
LowResult h None = Unit {0}
LowResult h (Some r) = (g : ℕ) × OwnExpr r.value g × (suc g ≤ h)

-- the statements of a body and its value
record LowParts (h : ℕ) (b : Body) : Type 0 where
  stmts_all : AllLow OwnStmt h b.statements
  value : LowResult h b.result

returned_low : (low : ℕ) {h : ℕ} {done : List Stmt} {e : Expr} (p : Place) → AllLow OwnStmt low done → Low OwnExpr h e → LowParts (max low (suc h)) (result_body done e p)
returned_low low {h = h} {done = done} p all z =
    let a = z.low in
    record { stmts_all = all_up OwnStmt low (max low (suc h)) done (omega arith) all; value = (z.height, z.own, omega (arith, a)) }

parts_low : {done : List Stmt} {b : Body} {low h : ℕ} {ts rest : List Token} → IsMoreBody done low b h ts rest → AllLow OwnStmt low done → LowParts h b
parts_low no_more all = record { stmts_all = all; value = tt }
parts_low (ends {done = done} {s = s} {low = low} {h = h} x) all = record { stmts_all = all_more OwnStmt low h done s all (stmt_low x); value = tt }
parts_low (goes_on {done = done} {s = s} {low = low} {h = h} x more) all = parts_low more (all_more OwnStmt low h done s all (stmt_low x))
parts_low (returns {low = low} {at = p} b) all = returned_low low p all (expr_low b)
parts_low (returns_stopped {low = low} {at = p} b) all = returned_low low p all (expr_low b)

-- the height of the parts of a body
abbrev result_height : (h low : ℕ) (r : Option Return) → LowResult h r → ℕ
result_height h low None x = low
result_height h low (Some r) (g, own, le) = max low (suc g)

result_height_low : (h low : ℕ) (r : Option Return) (x : LowResult h r) → low ≤ h → result_height h low r x ≤ h
result_height_low h low None x le = le
result_height_low h low (Some r) (g, own, small) le = omega (arith, small, le)

abbrev parts_height : (h low : ℕ) (ss : List Stmt) (r : Option Return) → AllLow OwnStmt h ss → LowResult h r → ℕ
parts_height h low ss r all x = result_height h (tallest OwnStmt h low ss all) r x

-- a body with these parts
abbrev with_result : List Stmt → Option Return → Body
with_result ss r = record { statements = ss; result = r }

-- the value of a body, behind statements
value_read : (h low : ℕ) (done : List Stmt) (r : Option Return) (rest : List Token) (x : LowResult h r)
    → IsMoreBody done low (with_result done r) (result_height h low r x) (parted (mark symbol.Semicolon) (result_words r) ++ mark symbol.RightBrace ∷ rest) rest
value_read h low done None rest x = no_more
value_read h low done (Some r) rest (g, own, le) =
    subst (λ w. IsMoreBody done low (with_result done (Some r)) (max low (suc g)) (word keyword.Return r.at ∷ (w ++ mark symbol.RightBrace ∷ rest)) rest) (sym (append-nil (expr_words r.value)))
    (returns (own (mark symbol.RightBrace ∷ rest)))

-- the parts of a body behind others
parts_read : (h : ℕ) (done : List Stmt) (s : Stmt) (ss : List Stmt) (r : Option Return) (low : ℕ) (rest : List Token) (all : AllLow OwnStmt h (s ∷ ss)) (x : LowResult h r)
    → IsMoreBody done low (with_result (done ++ s ∷ ss) r) (parts_height h low (s ∷ ss) r all x) (parted (mark symbol.Semicolon) (map stmt_words (s ∷ ss) ++ result_words r) ++ mark symbol.RightBrace ∷ rest) rest
parts_read h done s [] None low rest (l, all) x =
    subst (λ w. IsMoreBody done low (with_result (done ++ s ∷ []) None) (max low l.height) (w ++ mark symbol.RightBrace ∷ rest) rest) (sym (append-nil (stmt_words s))) (ends (l.own (mark symbol.RightBrace ∷ rest)))
parts_read h done s [] (Some r) low rest (l, all) x =
    let more : List Token = parted (mark symbol.Semicolon) (result_words (Some r)) in
    let close : List Token = mark symbol.RightBrace ∷ rest in
    let g : ℕ = result_height h (max low l.height) (Some r) x in
    subst (λ w. IsMoreBody done low (with_result (done ++ s ∷ []) (Some r)) g w rest) (sym (append_assoc (stmt_words s) (mark symbol.Semicolon ∷ more) close))
    (goes_on (l.own (mark symbol.Semicolon ∷ (more ++ close))) (value_read h (max low l.height) (done ++ s ∷ []) (Some r) rest x))
parts_read h done s (t ∷ ss) r low rest (l, all) x =
    let more : List Token = parted (mark symbol.Semicolon) (map stmt_words (t ∷ ss) ++ result_words r) in
    let close : List Token = mark symbol.RightBrace ∷ rest in
    let g : ℕ = parts_height h (max low l.height) (t ∷ ss) r all x in
    subst (λ w. IsMoreBody done low (with_result (done ++ s ∷ t ∷ ss) r) g w rest) (sym (append_assoc (stmt_words s) (mark symbol.Semicolon ∷ more) close))
    (goes_on (l.own (mark symbol.Semicolon ∷ (more ++ close)))
    (subst (λ q. IsMoreBody (done ++ s ∷ []) (max low l.height) (with_result q r) g (more ++ close) rest) (append_assoc done (s ∷ []) (t ∷ ss))
    (parts_read h (done ++ s ∷ []) t ss r (max low l.height) rest all x)))

all_parts_read : (h : ℕ) (ss : List Stmt) (r : Option Return) (rest : List Token) (all : AllLow OwnStmt h ss) (x : LowResult h r)
    → IsMoreBody [] 0 (with_result ss r) (parts_height h 0 ss r all x) (parted (mark symbol.Semicolon) (map stmt_words ss ++ result_words r) ++ mark symbol.RightBrace ∷ rest) rest
all_parts_read h [] r rest all x = value_read h 0 [] r rest x
all_parts_read h (s ∷ ss) r rest all x = parts_read h [] s ss r 0 rest all x

body_of : (h : ℕ) (b : Body) → LowParts h b → Low OwnBody (suc h) b
body_of h b x =
    let le = result_height_low h (tallest OwnStmt h 0 b.statements x.stmts_all) b.result x.value (tallest_low OwnStmt h 0 b.statements x.stmts_all (omega arith)) in
    let g : ℕ = parts_height h 0 b.statements b.result x.stmts_all x.value in
    record {
      height = suc g;
      own = λ rest. subst (λ w. IsBody b (suc g) w rest) (sym (braced_rest nowhere (parted (mark symbol.Semicolon) (map stmt_words b.statements ++ result_words b.result)) rest))
          (body (all_parts_read h b.statements b.result rest x.stmts_all x.value));
      low = omega (arith, le);
    }

pub body_low : {b : Body} {h : ℕ} {ts rest : List Token} → IsBody b h ts rest → Low OwnBody h b
body_low (body {b = b} {h = h} more) = body_of h b (parts_low more tt)
