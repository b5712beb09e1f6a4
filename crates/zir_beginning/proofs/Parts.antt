-- Parts of lists of variables and functions, and the numbers that these declare.
use Rattle.std.specs.Prelude.{ℕ, List, [], ◌∷◌, ◌++◌}
use Rattle.zir_tree.specs.declared.types.Field.{Field}
use Rattle.zir_tree.specs.declared.stmt.Var.{Var}
use Rattle.zir_tree.specs.declared.stmt.Stmt.{Stmt, Var as VarStmt, Assign, Call as CallStmt, Error, If', IfElse', While', For', Row_of-Stmt, end_of-Stmt, more_of-Stmt}
use Rattle.zir_tree.specs.declared.program.Function.{Function}
use Rattle.zir_beginning.specs.Order.{Apart, HaveOwnNumbers, AreApart, StmtDeclares, BlockDeclares, AllDeclare, ParametersDeclare, FunctionsDeclare}

-- each of these variables has such a number
abbrev pub VarsAre : (ℕ → Type 0) → List Var → Type 0
VarsAre P [] = Unit {0}
VarsAre P (v ∷ vs) = P v.name.id × VarsAre P vs

pub vars-front : (P : ℕ → Type 0) (xs ys : List Var) → VarsAre P (xs ++ ys) → VarsAre P xs
vars-front P [] ys h = tt
vars-front P (x ∷ xs) ys h = (h.0, vars-front P xs ys h.1)

pub vars-back : (P : ℕ → Type 0) (xs ys : List Var) → VarsAre P (xs ++ ys) → VarsAre P ys
vars-back P [] ys h = h
vars-back P (x ∷ xs) ys h = vars-back P xs ys h.1

-- parts of lists of functions
pub declare-front : (P : ℕ → Type 0) (xs ys : List Function) → FunctionsDeclare P (xs ++ ys) → FunctionsDeclare P xs
declare-front P [] ys h = tt
declare-front P (x ∷ xs) ys h = (h.0, h.1, declare-front P xs ys h.2)

pub declare-back : (P : ℕ → Type 0) (xs ys : List Function) → FunctionsDeclare P (xs ++ ys) → FunctionsDeclare P ys
declare-back P [] ys h = h
declare-back P (x ∷ xs) ys h = declare-back P xs ys h.2

pub leave-append : (later : List Var) (xs ys : List Function) → AreApart later xs → AreApart later ys → AreApart later (xs ++ ys)
leave-append later [] ys h k = k
leave-append later (x ∷ xs) ys h k = (h.0, leave-append later xs ys h.1 k)

-- apart from variables is apart from the last of them
pub apart-back : (xs ys : List Var) (id : ℕ) → Apart (xs ++ ys) id → Apart ys id
apart-back [] ys id h = h
apart-back (x ∷ xs) ys id h = apart-back xs ys id h.1

-- where no two have one number the first ones are apart from the others
pub own-front : (xs ys : List Var) → HaveOwnNumbers (xs ++ ys) → VarsAre (Apart ys) xs
own-front [] ys h = tt
own-front (x ∷ xs) ys h = (apart-back xs ys x.name.id h.0, own-front xs ys h.1)

-- what is so for fewer numbers is so for more
pub vars-wider : (P R : ℕ → Type 0) → ((id : ℕ) → P id → R id) → (vs : List Var) → VarsAre P vs → VarsAre R vs
vars-wider P R w [] h = tt
vars-wider P R w (v ∷ vs) h = (w v.name.id h.0, vars-wider P R w vs h.1)

mutual
  -- the same of what a statement declares
  pub stmt-wider : (P R : ℕ → Type 0) → ((id : ℕ) → P id → R id) → (a : Stmt) → StmtDeclares P a → StmtDeclares R a
  stmt-wider P R w (VarStmt v) d = w v.name.id d
  stmt-wider P R w (Assign name path e) d = tt
  stmt-wider P R w (CallStmt name k es) d = tt
  stmt-wider P R w (Error text p) d = tt
  stmt-wider P R w (If' e _ a p) d = block-wider P R w a d
  stmt-wider P R w (IfElse' e _ a _ b p) d = (block-wider P R w a d.0, block-wider P R w b d.1)
  stmt-wider P R w (While' e _ a p) d = block-wider P R w a d
  stmt-wider P R w (For' name a m _ b p) d = (w name.id d.0, block-wider P R w b d.1)

  pub block-wider : {m : _} (P R : ℕ → Type 0) → ((id : ℕ) → P id → R id) → (row : Row_of-Stmt m) → BlockDeclares P row → BlockDeclares R row
  block-wider P R w end_of-Stmt d = tt
  block-wider P R w (more_of-Stmt a row) d = (stmt-wider P R w a d.0, block-wider P R w row d.1)

pub all-wider : (P R : ℕ → Type 0) → ((id : ℕ) → P id → R id) → (ss : List Stmt) → AllDeclare P ss → AllDeclare R ss
all-wider P R w [] d = tt
all-wider P R w (a ∷ ss) d = (stmt-wider P R w a d.0, all-wider P R w ss d.1)

pub parameters-wider : (P R : ℕ → Type 0) → ((id : ℕ) → P id → R id) → (ps : List Field) → ParametersDeclare P ps → ParametersDeclare R ps
parameters-wider P R w [] d = tt
parameters-wider P R w (p ∷ ps) d = (w p.name.id d.0, parameters-wider P R w ps d.1)

pub functions-wider : (P R : ℕ → Type 0) → ((id : ℕ) → P id → R id) → (fs : List Function) → FunctionsDeclare P fs → FunctionsDeclare R fs
functions-wider P R w [] d = tt
functions-wider P R w (f ∷ fs) d =
    (parameters-wider P R w f.params d.0, all-wider P R w f.body.statements d.1, functions-wider P R w fs d.2)
