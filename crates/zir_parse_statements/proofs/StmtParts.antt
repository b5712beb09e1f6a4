-- Statements as they are read.
use Rattle.std.proofs.Common.{◌≡◌, ◌≤◌, ◌<◌, ◌-◌, ℕ, suc, max, List, [], ◌∷◌, ◌++◌, length, Option, Some, None, Err, refl, ap, ◌∙◌, arith}
use Rattle.zir_tree.specs.declared.place.Place.{Place}
use Rattle.zir_tree.specs.declared.ident.Ident.{Ident}
use Rattle.zir_tree.specs.declared.types.Field.{Field}
use Rattle.zir_tree.specs.declared.expr.Expr.{Expr}
use Rattle.zir_tree.specs.declared.stmt.Var.{Var}
use Rattle.zir_tree.specs.declared.stmt.Access.{Access}
use Rattle.zir_tree.specs.declared.stmt.Access.TheVariants as access
use Rattle.zir_tree.specs.declared.stmt.Stmt.{Stmt}
use Rattle.zir_tree.specs.declared.stmt.Stmt as stmt
use Rattle.zir_tree.specs.declared.stmt.Body.{Body}
use Rattle.zir_tree.specs.declared.program.Prog.{Prog}
use Rattle.zir_lex.specs.declared.token.Token.{Token}
use Rattle.zir_lex.specs.declared.token.Keyword.TheVariants as keyword
use Rattle.zir_lex.specs.declared.token.Symbol.TheVariants as symbol
use Rattle.zir_grammar.specs.declared.error.ParseError.TheVariants as errors
use Rattle.zir_grammar.specs.Grammar.{ident, plain_var, set_var, plain_body, result_body}
use Rattle.zir_grammar.specs.Wants.{a_word, a_sign, a_name}
use Rattle.zir_grammar.specs.Parts.{Rest, gives, wants, either, reads, done_with, wants_sign, wants_word, some_args, a_stmt, stmt_named, target_of, else_of, some_bounds, some_stmts, more_stmts, a_body, more_body, initial_of, stmt_end, body_end}
use Rattle.zir_grammar.specs.Machine.{run}
use Rattle.zir_grammar.specs.Reading.{at_front, HasRoom}
use Rattle.zir_grammar.proofs.Descent.{refused, left_out, led, fits, too_high}
use Rattle.zir_parse_statements.specs.Parsers.{
  an_expr,
  expr_before,
  an_index,
  step_by,
  a_var_behind,
  two_exprs,
  an_error_behind,
  a_while_behind,
  a_count_behind,
  a_test_behind,
  a_result_end,
}
use Rattle.zir_parse_statements.proofs.Steps.{raised, begins, begins_deep, either_first, either_second, only, passed, room_at}

-- ---- variables

-- what is expected behind the initial value of a variable
abbrev pub set_to : {A : Type 0} → Field → Place → (Var → ℕ → Rest A) → Expr → ℕ → Rest A
set_to f at k e h = k (set_var f e at) (suc h)

pub initial_fits : (most room : ℕ) (f : Field) (at : Place) (k : Var → ℕ → Rest Prog) (ts : List Token) (here : Place) (rest : List Token)
    → at_front (a_sign symbol.Assign) ts ≡ Some (here, rest) → HasRoom most k 1 room → 2 ≤ room
    → run most (reads (initial_of f at) k) ts ≡ run most (an_expr (set_to f at k)) rest
initial_fits most room f at k ts here rest e has some =
    begins most (initial_of f at) k (a_sign symbol.Assign) ts here rest _ e refl (fits most k 1 room _ (suc 1) has (omega arith) (omega arith))

pub initial_deep : (most room : ℕ) (f : Field) (at : Place) (k : Var → ℕ → Rest Prog) (ts : List Token) (here : Place) (rest : List Token)
    → at_front (a_sign symbol.Assign) ts ≡ Some (here, rest) → HasRoom most k 1 room → room < 2
    → run most (reads (initial_of f at) k) ts ≡ Err (errors.TooDeep (length ts))
initial_deep most room f at k ts here rest e has small =
    begins_deep most (initial_of f at) k (a_sign symbol.Assign) ts here rest _ e refl (too_high most k 1 room _ (suc 1) has (omega arith) (omega arith))

pub no_initial : (most : ℕ) (f : Field) (at : Place) (k : Var → ℕ → Rest Prog) (ts : List Token) → at_front (a_sign symbol.Assign) ts ≡ None
    → run most (reads (initial_of f at) k) ts ≡ run most (k (plain_var f at) 1) ts
no_initial most f at k ts none = left_out most (initial_of f at) k ts refl (none, tt)

-- ---- the head of a counted loop

-- what is expected behind two expressions, behind the second, and behind the first
abbrev pub pair_second : {A : Type 0} → (Expr × Expr → ℕ → Rest A) → Expr → ℕ → Expr → ℕ → Rest A
pair_second k e h f g = k (e, f) (max h g)

abbrev pub pair_first : {A : Type 0} → (Expr × Expr → ℕ → Rest A) → Expr → ℕ → Rest A
pair_first k e h = wants_sign symbol.Comma (expr_before symbol.RightBracket (pair_second k e h))

-- what is expected behind the bounds of a counted loop, and behind its name
abbrev pub bounded : {A : Type 0} → (Ident × Expr × Expr → ℕ → Rest A) → List ℕ → Place → Expr × Expr → ℕ → Rest A
bounded k x at p h = k (ident x at, p.0, p.1) h

abbrev pub bounds_behind : {A : Type 0} → (Ident × Expr × Expr → ℕ → Rest A) → List ℕ × Place → Rest A
bounds_behind k p = wants_word keyword.In (wants_sign symbol.LeftBracket (two_exprs (bounded k p.0 p.1)))

pub bounds_begin : (most : ℕ) (k : Ident × Expr × Expr → ℕ → Rest Prog) (ts : List Token)
    → run most (reads some_bounds k) ts ≡ run most (wants a_name (bounds_behind k)) ts
bounds_begin most k ts = only most some_bounds k a_name (bounds_behind done_with) ts refl (λ t us is. refl)

-- ---- statements

pub var_fits : (most room : ℕ) (k : Stmt → ℕ → Rest Prog) (ts : List Token) (at : Place) (rest : List Token)
    → at_front (a_word keyword.Var) ts ≡ Some (at, rest) → HasRoom most k 1 room → 1 ≤ room
    → run most (reads a_stmt k) ts ≡ run most (a_var_behind at (λ v h. k (stmt.Var v) h)) rest
var_fits most room k ts at rest e has some =
    begins most a_stmt k (a_word keyword.Var) ts at rest _ e refl (fits most k 1 room _ 1 has (omega arith) some)

pub var_deep : (most room : ℕ) (k : Stmt → ℕ → Rest Prog) (ts : List Token) (at : Place) (rest : List Token)
    → at_front (a_word keyword.Var) ts ≡ Some (at, rest) → HasRoom most k 1 room → room < 1
    → run most (reads a_stmt k) ts ≡ Err (errors.TooDeep (length ts))
var_deep most room k ts at rest e has none =
    begins_deep most a_stmt k (a_word keyword.Var) ts at rest _ e refl (too_high most k 1 room _ 1 has (omega arith) none)

pub name_fits : (most room : ℕ) (k : Stmt → ℕ → Rest Prog) (ts : List Token) (x : List ℕ) (at : Place) (rest : List Token)
    → at_front a_name ts ≡ Some ((x, at), rest) → HasRoom most k 1 room → 1 ≤ room
    → run most (reads a_stmt k) ts ≡ run most (reads (stmt_named x at) k) rest
name_fits most room k ts x at rest e has some =
    begins most a_stmt k a_name ts (x, at) rest _ e refl (fits most k 1 room _ 1 has (omega arith) some)

pub name_deep : (most room : ℕ) (k : Stmt → ℕ → Rest Prog) (ts : List Token) (x : List ℕ) (at : Place) (rest : List Token)
    → at_front a_name ts ≡ Some ((x, at), rest) → HasRoom most k 1 room → room < 1
    → run most (reads a_stmt k) ts ≡ Err (errors.TooDeep (length ts))
name_deep most room k ts x at rest e has none =
    begins_deep most a_stmt k a_name ts (x, at) rest _ e refl (too_high most k 1 room _ 1 has (omega arith) none)

pub error_fits : (most room : ℕ) (k : Stmt → ℕ → Rest Prog) (ts : List Token) (at : Place) (rest : List Token)
    → at_front (a_word keyword.Error) ts ≡ Some (at, rest) → HasRoom most k 1 room → 1 ≤ room
    → run most (reads a_stmt k) ts ≡ run most (an_error_behind at k) rest
error_fits most room k ts at rest e has some =
    begins most a_stmt k (a_word keyword.Error) ts at rest _ e refl (fits most k 1 room _ 1 has (omega arith) some)

pub error_deep : (most room : ℕ) (k : Stmt → ℕ → Rest Prog) (ts : List Token) (at : Place) (rest : List Token)
    → at_front (a_word keyword.Error) ts ≡ Some (at, rest) → HasRoom most k 1 room → room < 1
    → run most (reads a_stmt k) ts ≡ Err (errors.TooDeep (length ts))
error_deep most room k ts at rest e has none =
    begins_deep most a_stmt k (a_word keyword.Error) ts at rest _ e refl (too_high most k 1 room _ 1 has (omega arith) none)

pub test_fits : (most room : ℕ) (k : Stmt → ℕ → Rest Prog) (ts : List Token) (at : Place) (rest : List Token)
    → at_front (a_word keyword.If) ts ≡ Some (at, rest) → HasRoom most k 1 room → 2 ≤ room
    → run most (reads a_stmt k) ts ≡ run most (a_test_behind at k) rest
test_fits most room k ts at rest e has some =
    begins most a_stmt k (a_word keyword.If) ts at rest _ e refl (fits most k 1 room _ (suc (max 1 1)) has (omega arith) (omega arith))

pub test_deep : (most room : ℕ) (k : Stmt → ℕ → Rest Prog) (ts : List Token) (at : Place) (rest : List Token)
    → at_front (a_word keyword.If) ts ≡ Some (at, rest) → HasRoom most k 1 room → room < 2
    → run most (reads a_stmt k) ts ≡ Err (errors.TooDeep (length ts))
test_deep most room k ts at rest e has small =
    begins_deep most a_stmt k (a_word keyword.If) ts at rest _ e refl (too_high most k 1 room _ (suc (max 1 1)) has (omega arith) (omega arith))

pub while_fits : (most room : ℕ) (k : Stmt → ℕ → Rest Prog) (ts : List Token) (at : Place) (rest : List Token)
    → at_front (a_word keyword.While) ts ≡ Some (at, rest) → HasRoom most k 1 room → 2 ≤ room
    → run most (reads a_stmt k) ts ≡ run most (a_while_behind at k) rest
while_fits most room k ts at rest e has some =
    begins most a_stmt k (a_word keyword.While) ts at rest _ e refl (fits most k 1 room _ (suc (max 1 1)) has (omega arith) (omega arith))

pub while_deep : (most room : ℕ) (k : Stmt → ℕ → Rest Prog) (ts : List Token) (at : Place) (rest : List Token)
    → at_front (a_word keyword.While) ts ≡ Some (at, rest) → HasRoom most k 1 room → room < 2
    → run most (reads a_stmt k) ts ≡ Err (errors.TooDeep (length ts))
while_deep most room k ts at rest e has small =
    begins_deep most a_stmt k (a_word keyword.While) ts at rest _ e refl (too_high most k 1 room _ (suc (max 1 1)) has (omega arith) (omega arith))

pub count_fits : (most room : ℕ) (k : Stmt → ℕ → Rest Prog) (ts : List Token) (at : Place) (rest : List Token)
    → at_front (a_word keyword.For) ts ≡ Some (at, rest) → HasRoom most k 1 room → 2 ≤ room
    → run most (reads a_stmt k) ts ≡ run most (a_count_behind at k) rest
count_fits most room k ts at rest e has some =
    begins most a_stmt k (a_word keyword.For) ts at rest _ e refl (fits most k 1 room _ (suc (max 1 1)) has (omega arith) (omega arith))

pub count_deep : (most room : ℕ) (k : Stmt → ℕ → Rest Prog) (ts : List Token) (at : Place) (rest : List Token)
    → at_front (a_word keyword.For) ts ≡ Some (at, rest) → HasRoom most k 1 room → room < 2
    → run most (reads a_stmt k) ts ≡ Err (errors.TooDeep (length ts))
count_deep most room k ts at rest e has small =
    begins_deep most a_stmt k (a_word keyword.For) ts at rest _ e refl (too_high most k 1 room _ (suc (max 1 1)) has (omega arith) (omega arith))

pub no_stmt : (most : ℕ) (k : Stmt → ℕ → Rest Prog) (ts : List Token) → at_front a_name ts ≡ None → at_front (a_word keyword.Error) ts ≡ None
    → at_front (a_word keyword.Var) ts ≡ None → at_front (a_word keyword.If) ts ≡ None → at_front (a_word keyword.While) ts ≡ None
    → at_front (a_word keyword.For) ts ≡ None → run most (reads a_stmt k) ts ≡ Err (errors.Syntax (length ts))
no_stmt most k ts a b c d e f = refused most a_stmt k ts refl (a, (b, (d, (e, (f, (c, tt))))))

-- what is expected behind the second branch
abbrev pub other_of : {A : Type 0} → Expr → List Stmt → ℕ → Place → (Stmt → ℕ → Rest A) → List Stmt → ℕ → Rest A
other_of e ss low at k os h = k (stmt.IfElse e ss os at) (suc (max low h))

pub else_fits : (most room : ℕ) (e : Expr) (ss : List Stmt) (low : ℕ) (at : Place) (k : Stmt → ℕ → Rest Prog) (ts : List Token) (here : Place) (rest : List Token)
    → at_front (a_word keyword.Else) ts ≡ Some (here, rest) → HasRoom most k 1 room → 1 ≤ low → low < room
    → run most (reads (else_of e ss low at) k) ts ≡ run most (reads some_stmts (other_of e ss low at k)) rest
else_fits most room e ss low at k ts here rest is has some below =
    begins most (else_of e ss low at) k (a_word keyword.Else) ts here rest _ is refl
    (fits most k 1 room _ (suc (max low 1)) has (omega arith) (omega arith))

pub no_else : (most : ℕ) (e : Expr) (ss : List Stmt) (low : ℕ) (at : Place) (k : Stmt → ℕ → Rest Prog) (ts : List Token)
    → at_front (a_word keyword.Else) ts ≡ None
    → run most (reads (else_of e ss low at) k) ts ≡ run most (k (stmt.If e ss at) (suc low)) ts
no_else most e ss low at k ts none = left_out most (else_of e ss low at) k ts refl (none, tt)

-- ---- calls and assignments

-- what is expected behind the arguments of a call
abbrev pub call_of : {A : Type 0} → List ℕ → Place → (Stmt → ℕ → Rest A) → List Expr → ℕ → Rest A
call_of x at k es h = k (stmt.Call (ident x at) 0 es) (suc h)

pub call_fits : (most room : ℕ) (x : List ℕ) (at : Place) (k : Stmt → ℕ → Rest Prog) (ts : List Token) (opens : Place) (rest : List Token)
    → at_front (a_sign symbol.LeftParenthesis) ts ≡ Some (opens, rest) → HasRoom most k 1 room → 1 ≤ room
    → run most (reads (stmt_named x at) k) ts ≡ run most (reads some_args (call_of x at k)) rest
call_fits most room x at k ts opens rest e has some =
    begins most (stmt_named x at) k (a_sign symbol.LeftParenthesis) ts opens rest _ e refl (fits most k 1 room _ (suc 0) has (omega arith) (omega arith))

-- what is expected behind the assigned value, and behind the path
abbrev pub value_of : {A : Type 0} → List ℕ → Place → (Stmt → ℕ → Rest A) → List Access → ℕ → Expr → ℕ → Rest A
value_of x at k path low e h = k (stmt.Assign (ident x at) path e) (suc (max low h))

abbrev pub assign_of : {A : Type 0} → List ℕ → Place → (Stmt → ℕ → Rest A) → List Access → ℕ → Rest A
assign_of x at k path low = an_expr (value_of x at k path low)

pub assign_begins : (most : ℕ) (x : List ℕ) (at : Place) (k : Stmt → ℕ → Rest Prog) (ts : List Token)
    → at_front (a_sign symbol.LeftParenthesis) ts ≡ None
    → run most (reads (stmt_named x at) k) ts ≡ run most (reads (target_of [] 1) (assign_of x at k)) ts
assign_begins most x at k ts none =
    led most (stmt_named x at) (target_of [] 1) (assign_of x at done_with) k ts refl refl
    (λ t us is. passed (a_sign symbol.LeftParenthesis) (λ opens. reads some_args (call_of x at done_with)) ts _ _ t us none is refl)

-- ---- paths

pub target_ends : (most room : ℕ) (done : List Access) (low : ℕ) (k : List Access → ℕ → Rest Prog) (ts : List Token) (at : Place) (rest : List Token)
    → at_front (a_sign symbol.Assign) ts ≡ Some (at, rest) → HasRoom most k low room → low ≤ room
    → run most (reads (target_of done low) k) ts ≡ run most (k done low) rest
target_ends most room done low k ts at rest e has below =
    begins most (target_of done low) k (a_sign symbol.Assign) ts at rest _ e refl (fits most k low room done low has (omega arith) below)

pub target_deep : (most room : ℕ) (done : List Access) (low : ℕ) (k : List Access → ℕ → Rest Prog) (ts : List Token) (at : Place) (rest : List Token)
    → at_front (a_sign symbol.Assign) ts ≡ Some (at, rest) → HasRoom most k low room → room < low
    → run most (reads (target_of done low) k) ts ≡ Err (errors.TooDeep (length ts))
target_deep most room done low k ts at rest e has above =
    begins_deep most (target_of done low) k (a_sign symbol.Assign) ts at rest _ e refl (too_high most k low room done low has (omega arith) above)

-- what is expected behind an index or a slice of a path
abbrev pub step_of : {A : Type 0} → List Access → ℕ → Place → (List Access → ℕ → Rest A) → Expr × Option ℕ → ℕ → Rest A
step_of done low at k p h = reads (target_of (done ++ step_by p.0 p.1 at ∷ []) (suc (max low h))) k

pub bracket_fits : (most room : ℕ) (done : List Access) (low : ℕ) (k : List Access → ℕ → Rest Prog) (ts : List Token) (at : Place) (rest : List Token)
    → at_front (a_sign symbol.LeftBracket) ts ≡ Some (at, rest) → HasRoom most k low room → 1 ≤ low → low < room
    → run most (reads (target_of done low) k) ts ≡ run most (an_index (step_of done low at k)) rest
bracket_fits most room done low k ts at rest e has some below =
    begins most (target_of done low) k (a_sign symbol.LeftBracket) ts at rest _ e refl
    (fits most k low room _ (suc (max low 1)) has (omega arith) (omega arith))

pub bracket_deep : (most room : ℕ) (done : List Access) (low : ℕ) (k : List Access → ℕ → Rest Prog) (ts : List Token) (at : Place) (rest : List Token)
    → at_front (a_sign symbol.LeftBracket) ts ≡ Some (at, rest) → HasRoom most k low room → room ≤ low
    → run most (reads (target_of done low) k) ts ≡ Err (errors.TooDeep (length ts))
bracket_deep most room done low k ts at rest e has above =
    begins_deep most (target_of done low) k (a_sign symbol.LeftBracket) ts at rest _ e refl
    (too_high most k low room _ (suc (max low 1)) has (omega arith) (omega arith))

-- what is expected behind a dot of a path
abbrev pub part_of : {A : Type 0} → List Access → ℕ → Place → (List Access → ℕ → Rest A) → List ℕ × Place → Rest A
part_of done low at k x = reads (target_of (done ++ access.Part x.0 0 at ∷ []) (suc low)) k

pub dot_fits : (most room : ℕ) (done : List Access) (low : ℕ) (k : List Access → ℕ → Rest Prog) (ts : List Token) (at : Place) (rest : List Token)
    → at_front (a_sign symbol.Dot) ts ≡ Some (at, rest) → HasRoom most k low room → low < room
    → run most (reads (target_of done low) k) ts ≡ run most (wants a_name (part_of done low at k)) rest
dot_fits most room done low k ts at rest e has below =
    begins most (target_of done low) k (a_sign symbol.Dot) ts at rest _ e refl (fits most k low room _ (suc low) has (omega arith) (omega arith))

pub dot_deep : (most room : ℕ) (done : List Access) (low : ℕ) (k : List Access → ℕ → Rest Prog) (ts : List Token) (at : Place) (rest : List Token)
    → at_front (a_sign symbol.Dot) ts ≡ Some (at, rest) → HasRoom most k low room → room ≤ low
    → run most (reads (target_of done low) k) ts ≡ Err (errors.TooDeep (length ts))
dot_deep most room done low k ts at rest e has above =
    begins_deep most (target_of done low) k (a_sign symbol.Dot) ts at rest _ e refl (too_high most k low room _ (suc low) has (omega arith) (omega arith))

pub no_target : (most : ℕ) (done : List Access) (low : ℕ) (k : List Access → ℕ → Rest Prog) (ts : List Token) → at_front (a_sign symbol.Assign) ts ≡ None
    → at_front (a_sign symbol.LeftBracket) ts ≡ None → at_front (a_sign symbol.Dot) ts ≡ None
    → run most (reads (target_of done low) k) ts ≡ Err (errors.Syntax (length ts))
no_target most done low k ts a b c = refused most (target_of done low) k ts refl (a, (b, (c, tt)))

-- ---- statements in braces, and bodies

pub stmts_open : (most : ℕ) (k : List Stmt → ℕ → Rest Prog) (ts : List Token)
    → run most (reads some_stmts k) ts ≡ run most (wants_sign symbol.LeftBrace (reads (more_stmts [] 0) (raised k))) ts
stmts_open most k ts =
    only most some_stmts k (a_sign symbol.LeftBrace) (λ at. reads (more_stmts [] 0) (λ ss h. gives ss (suc h))) ts refl (λ t us is. refl)

pub stmts_close : (most room : ℕ) (done : List Stmt) (low : ℕ) (k : List Stmt → ℕ → Rest Prog) (ts : List Token) (at : Place) (rest : List Token)
    → at_front (a_sign symbol.RightBrace) ts ≡ Some (at, rest) → HasRoom most k 1 room → low < room
    → run most (reads (more_stmts done low) (raised k)) ts ≡ run most (k done (suc low)) rest
stmts_close most room done low k ts at rest e has below =
    begins most (more_stmts done low) (raised k) (a_sign symbol.RightBrace) ts at rest _ e refl
    (fits most k 1 room done (suc low) has (omega arith) (omega arith))

-- what is expected behind a statement in braces
abbrev pub after_stmt : {A : Type 0} → List Stmt → ℕ → (List Stmt → ℕ → Rest A) → Stmt → ℕ → Rest A
after_stmt done low k s h =
    either (a_sign symbol.RightBrace) (λ at. k (done ++ s ∷ []) (suc (max low h)))
    (a_sign symbol.Semicolon) (λ at. reads (more_stmts (done ++ s ∷ []) (max low h)) (raised k))

pub stmts_go_on : (most : ℕ) (done : List Stmt) (low : ℕ) (k : List Stmt → ℕ → Rest Prog) (ts : List Token)
    → at_front (a_sign symbol.RightBrace) ts ≡ None
    → run most (reads (more_stmts done low) (raised k)) ts ≡ run most (reads a_stmt (after_stmt done low k)) ts
stmts_go_on most done low k ts none =
    led most (more_stmts done low) a_stmt (stmt_end done low) (raised k) ts refl refl
    (λ t us is. passed (a_sign symbol.RightBrace) (λ at. gives done low) ts _ _ t us none is refl)

pub body_opens : (most : ℕ) (k : Body → ℕ → Rest Prog) (ts : List Token)
    → run most (reads a_body k) ts ≡ run most (wants_sign symbol.LeftBrace (reads (more_body [] 0) (raised k))) ts
body_opens most k ts =
    only most a_body k (a_sign symbol.LeftBrace) (λ at. reads (more_body [] 0) (λ b h. gives b (suc h))) ts refl (λ t us is. refl)

pub body_closes : (most room : ℕ) (done : List Stmt) (low : ℕ) (k : Body → ℕ → Rest Prog) (ts : List Token) (at : Place) (rest : List Token)
    → at_front (a_sign symbol.RightBrace) ts ≡ Some (at, rest) → HasRoom most k 1 room → low < room
    → run most (reads (more_body done low) (raised k)) ts ≡ run most (k (plain_body done) (suc low)) rest
body_closes most room done low k ts at rest e has below =
    begins most (more_body done low) (raised k) (a_sign symbol.RightBrace) ts at rest _ e refl
    (fits most k 1 room (plain_body done) (suc low) has (omega arith) (omega arith))

-- what is expected behind a result
abbrev pub result_of : {A : Type 0} → List Stmt → ℕ → Place → (Body → ℕ → Rest A) → Expr → ℕ → Rest A
result_of done low at k e h = k (result_body done e at) (suc (max low (suc h)))

pub return_fits : (most room : ℕ) (done : List Stmt) (low : ℕ) (k : Body → ℕ → Rest Prog) (ts : List Token) (at : Place) (rest : List Token)
    → at_front (a_word keyword.Return) ts ≡ Some (at, rest) → HasRoom most k 1 room → low < room → 3 ≤ room
    → run most (reads (more_body done low) (raised k)) ts ≡ run most (a_result_end (result_of done low at k)) rest
return_fits most room done low k ts at rest e has below some =
    begins most (more_body done low) (raised k) (a_word keyword.Return) ts at rest _ e refl
    (fits most k 1 room _ (suc (max low (suc 1))) has (omega arith) (omega arith))

pub return_deep : (most room : ℕ) (done : List Stmt) (low : ℕ) (k : Body → ℕ → Rest Prog) (ts : List Token) (at : Place) (rest : List Token)
    → at_front (a_word keyword.Return) ts ≡ Some (at, rest) → HasRoom most k 1 room → room < 3
    → run most (reads (more_body done low) (raised k)) ts ≡ Err (errors.TooDeep (length ts))
return_deep most room done low k ts at rest e has small =
    begins_deep most (more_body done low) (raised k) (a_word keyword.Return) ts at rest _ e refl
    (too_high most k 1 room _ (suc (max low (suc 1))) has (omega arith) (omega arith))

-- what is expected behind a statement of a body
abbrev pub after_step : {A : Type 0} → List Stmt → ℕ → (Body → ℕ → Rest A) → Stmt → ℕ → Rest A
after_step done low k s h =
    either (a_sign symbol.RightBrace) (λ at. k (plain_body (done ++ s ∷ [])) (suc (max low h)))
    (a_sign symbol.Semicolon) (λ at. reads (more_body (done ++ s ∷ []) (max low h)) (raised k))

pub body_goes_on : (most : ℕ) (done : List Stmt) (low : ℕ) (k : Body → ℕ → Rest Prog) (ts : List Token)
    → at_front (a_sign symbol.RightBrace) ts ≡ None → at_front (a_word keyword.Return) ts ≡ None
    → run most (reads (more_body done low) (raised k)) ts ≡ run most (reads a_stmt (after_step done low k)) ts
body_goes_on most done low k ts none no_return =
    led most (more_body done low) a_stmt (body_end done low) (raised k) ts refl refl
    (λ t us is. passed (a_sign symbol.RightBrace) (λ at. gives (plain_body done) low) ts _ _ t us none is
    (passed (a_word keyword.Return) (λ at. a_result_end (λ e h. gives (result_body done e at) (max low (suc h)))) ts _ _ t us no_return is refl))

pub stmt_closes : (most room : ℕ) (done : List Stmt) (low : ℕ) (k : List Stmt → ℕ → Rest Prog) (s : Stmt) (h : ℕ) (ts : List Token) (at : Place) (rest : List Token)
    → at_front (a_sign symbol.RightBrace) ts ≡ Some (at, rest) → HasRoom most k 1 room → low < room → h < room
    → run most (after_stmt done low k s h) ts ≡ run most (k (done ++ s ∷ []) (suc (max low h))) rest
stmt_closes most room done low k s h ts at rest e has below fit =
    either_first most (a_sign symbol.RightBrace) (λ at. k (done ++ s ∷ []) (suc (max low h))) (a_sign symbol.Semicolon)
    (λ at. reads (more_stmts (done ++ s ∷ []) (max low h)) (raised k)) ts at rest e
    (fits most k 1 room (done ++ s ∷ []) (suc (max low h)) has (omega arith) (omega arith))

pub stmt_goes_on : (most : ℕ) (done : List Stmt) (low : ℕ) (k : List Stmt → ℕ → Rest Prog) (s : Stmt) (h : ℕ) (ts : List Token)
    → at_front (a_sign symbol.RightBrace) ts ≡ None
    → run most (after_stmt done low k s h) ts ≡ run most (wants_sign symbol.Semicolon (reads (more_stmts (done ++ s ∷ []) (max low h)) (raised k))) ts
stmt_goes_on most done low k s h ts none =
    either_second most (a_sign symbol.RightBrace) (λ at. k (done ++ s ∷ []) (suc (max low h))) (a_sign symbol.Semicolon)
    (λ at. reads (more_stmts (done ++ s ∷ []) (max low h)) (raised k)) ts none

pub step_closes : (most room : ℕ) (done : List Stmt) (low : ℕ) (k : Body → ℕ → Rest Prog) (s : Stmt) (h : ℕ) (ts : List Token) (at : Place) (rest : List Token)
    → at_front (a_sign symbol.RightBrace) ts ≡ Some (at, rest) → HasRoom most k 1 room → low < room → h < room
    → run most (after_step done low k s h) ts ≡ run most (k (plain_body (done ++ s ∷ [])) (suc (max low h))) rest
step_closes most room done low k s h ts at rest e has below fit =
    either_first most (a_sign symbol.RightBrace) (λ at. k (plain_body (done ++ s ∷ [])) (suc (max low h))) (a_sign symbol.Semicolon)
    (λ at. reads (more_body (done ++ s ∷ []) (max low h)) (raised k)) ts at rest e
    (fits most k 1 room (plain_body (done ++ s ∷ [])) (suc (max low h)) has (omega arith) (omega arith))

pub step_goes_on : (most : ℕ) (done : List Stmt) (low : ℕ) (k : Body → ℕ → Rest Prog) (s : Stmt) (h : ℕ) (ts : List Token)
    → at_front (a_sign symbol.RightBrace) ts ≡ None
    → run most (after_step done low k s h) ts ≡ run most (wants_sign symbol.Semicolon (reads (more_body (done ++ s ∷ []) (max low h)) (raised k))) ts
step_goes_on most done low k s h ts none =
    either_second most (a_sign symbol.RightBrace) (λ at. k (plain_body (done ++ s ∷ [])) (suc (max low h))) (a_sign symbol.Semicolon)
    (λ at. reads (more_body (done ++ s ∷ []) (max low h)) (raised k)) ts none

-- what is expected behind the value of a result
abbrev pub value_end : {A : Type 0} → (Expr → ℕ → Rest A) → Expr → ℕ → Rest A
value_end k e h =
    either (a_sign symbol.RightBrace) (λ closes. k e h) (a_sign symbol.Semicolon) (λ stop. wants_sign symbol.RightBrace (k e h))

pub value_closes : (most room : ℕ) (k : Expr → ℕ → Rest Prog) (e : Expr) (h : ℕ) (ts : List Token) (at : Place) (rest : List Token)
    → at_front (a_sign symbol.RightBrace) ts ≡ Some (at, rest) → HasRoom most k 1 room → 1 ≤ h → h ≤ room
    → run most (value_end k e h) ts ≡ run most (k e h) rest
value_closes most room k e h ts at rest is has some below =
    either_first most (a_sign symbol.RightBrace) (λ closes. k e h) (a_sign symbol.Semicolon) (λ stop. wants_sign symbol.RightBrace (k e h)) ts at rest is
    (fits most k 1 room e h has some below)

pub value_goes_on : (most : ℕ) (k : Expr → ℕ → Rest Prog) (e : Expr) (h : ℕ) (ts : List Token) → at_front (a_sign symbol.RightBrace) ts ≡ None
    → run most (value_end k e h) ts ≡ run most (wants_sign symbol.Semicolon (wants_sign symbol.RightBrace (k e h))) ts
value_goes_on most k e h ts none =
    either_second most (a_sign symbol.RightBrace) (λ closes. k e h) (a_sign symbol.Semicolon) (λ stop. wants_sign symbol.RightBrace (k e h)) ts none

-- the room of the value of a result
pub result_room : (most room : ℕ) (done : List Stmt) (low : ℕ) (at : Place) (k : Body → ℕ → Rest Prog) → HasRoom most k 1 room → low < room → 3 ≤ room
    → HasRoom most (result_of done low at k) 1 (room - 2)
result_room most room done low at k has below some e h own =
    room_at most 1 room k (result_body done e at) (suc (max low (suc h))) h (room - 2) has (omega arith) (λ x. omega arith) (λ x. omega arith)

-- the same place behind a path, by equal paths and heights
pub same_target : (most : ℕ) (k : List Access → ℕ → Rest Prog) (ts : List Token) (a b : List Access) (n m : ℕ) → a ≡ b → n ≡ m
    → run most (reads (target_of a n) k) ts ≡ run most (reads (target_of b m) k) ts
same_target most k ts a b n m e f = ap (λ x. run most (reads (target_of x n) k) ts) e ∙ ap (λ x. run most (reads (target_of b x) k) ts) f

-- the room of an assigned path
pub assign_room : (most room : ℕ) (x : List ℕ) (at : Place) (k : Stmt → ℕ → Rest Prog) → HasRoom most k 1 room → HasRoom most (assign_of x at k) 1 (room - 1)
assign_room most room x at k has path low own =
    room_at most 1 room k _ (suc (max low 1)) low (room - 1) has (omega arith) (λ e. omega arith) (λ e. omega arith)

-- ---- the heads of loops and choices

-- what is expected behind the body of a `while`, and behind its condition
abbrev pub while_body : {A : Type 0} → Place → (Stmt → ℕ → Rest A) → Expr → ℕ → List Stmt → ℕ → Rest A
while_body at k e h ss g = k (stmt.While e ss at) (suc (max h g))

abbrev pub while_head : {A : Type 0} → Place → (Stmt → ℕ → Rest A) → Expr → ℕ → Rest A
while_head at k e h = reads some_stmts (while_body at k e h)

-- what is expected behind the body of a counted loop, and behind its bounds
abbrev pub count_body : {A : Type 0} → Place → (Stmt → ℕ → Rest A) → Ident × Expr × Expr → ℕ → List Stmt → ℕ → Rest A
count_body at k b h ss g = k (stmt.For b.0 b.1 b.2 ss at) (suc (max h g))

abbrev pub count_head : {A : Type 0} → Place → (Stmt → ℕ → Rest A) → Ident × Expr × Expr → ℕ → Rest A
count_head at k b h = reads some_stmts (count_body at k b h)

-- what is expected behind the first branch of a choice, and behind its condition
abbrev pub test_body : {A : Type 0} → Place → (Stmt → ℕ → Rest A) → Expr → ℕ → List Stmt → ℕ → Rest A
test_body at k e h ss g = reads (else_of e ss (max h g) at) k

abbrev pub test_head : {A : Type 0} → Place → (Stmt → ℕ → Rest A) → Expr → ℕ → Rest A
test_head at k e h = wants_word keyword.Then (reads some_stmts (test_body at k e h))
