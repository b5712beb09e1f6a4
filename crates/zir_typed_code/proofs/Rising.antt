-- Numbers that rise: each declared name of a resolved tree has a number of its own, in the order of the text.
use Rattle.std.specs.Prelude.{◌≡◌, ◌≤◌, ◌<◌, ℕ, List, [], ◌∷◌, false, ◌||◌}
use Rattle.std.proofs.Common.{ap, ◌∙◌, arith}
use Rattle.std.proofs.lemmas.Bool.{ne_eqb}
use Rattle.zir_tree.specs.declared.types.Field.{Field}
use Rattle.zir_tree.specs.declared.stmt.Stmt.{Stmt, Var as VarStmt, Assign, Call as CallStmt, Error, If', IfElse', While', For', Row_of-Stmt}
use Rattle.zir_tree.specs.declared.stmt.Stmt.{end_of-Stmt, more_of-Stmt}
use Rattle.zir_tree.specs.declared.comp.Comp.{Comp, Take, Takes, Emit, Emits, Return as ReturnComp, Do, Repeat', While' as WhileComp', Times'}
use Rattle.zir_tree.specs.declared.comp.Comp.{For' as ForComp', If' as IfComp', Map, Filter, Call as CallComp, Block', Pipe', end_of-Comp}
use Rattle.zir_tree.specs.declared.comp.Comp.{more_of-Comp, Row_of-Member, end_of-Member, more_of-Member}
use Rattle.zir_tree.specs.declared.comp.Member.{Member, Bind, Var as VarMember, Run}
use Rattle.zir_tree.specs.declared.program.Decl.{Decl}
use Rattle.zir_tree.specs.declared.program.Decl.TheVariants as decl
use Rattle.zir_sound.specs.Laws.{is_in}

abbrev mutual
  -- The numbers that a statement declares are a at least and less than b, and rise.
  pub RisesStmt : ℕ → Stmt → ℕ → Type 0
  RisesStmt a (VarStmt v) b = (a ≤ v.name.id) × (v.name.id < b)
  RisesStmt a (Assign x steps e) b = Unit {0}
  RisesStmt a (CallStmt f k es) b = Unit {0}
  RisesStmt a (Error text p) b = Unit {0}
  RisesStmt a (If' e _ ss p) b = RisesRow a ss b
  RisesStmt a (IfElse' e _ ss _ us p) b = (c : ℕ) × (a ≤ c) × (c ≤ b) × RisesRow a ss c × RisesRow c us b
  RisesStmt a (While' e _ ss p) b = RisesRow a ss b
  RisesStmt a (For' x e n _ ss p) b = (c : ℕ) × (a ≤ x.id) × (x.id < c) × (c ≤ b) × RisesRow c ss b

  -- The same of statements in a row.
  pub RisesRow : ℕ → {m : _} → Row_of-Stmt m → ℕ → Type 0
  RisesRow a end_of-Stmt b = Unit {0}
  RisesRow a (more_of-Stmt s ss) b = (c : ℕ) × (a ≤ c) × (c ≤ b) × RisesStmt a s c × RisesRow c ss b

-- The same of a plain list of statements.
abbrev pub RisesAll : ℕ → List Stmt → ℕ → Type 0
RisesAll a [] b = Unit {0}
RisesAll a (s ∷ ss) b = (c : ℕ) × (a ≤ c) × (c ≤ b) × RisesStmt a s c × RisesAll c ss b

-- The same of parameters.
abbrev pub RisesParams : ℕ → List Field → ℕ → Type 0
RisesParams a [] b = Unit {0}
RisesParams a (p ∷ ps) b = (c : ℕ) × (a ≤ p.name.id) × (p.name.id < c) × (c ≤ b) × RisesParams c ps b

abbrev mutual
  -- The same of a component.
  pub RisesComp : ℕ → Comp → ℕ → Type 0
  RisesComp a (Take p) b = Unit {0}
  RisesComp a (Takes k p) b = Unit {0}
  RisesComp a (Emit e p) b = Unit {0}
  RisesComp a (Emits e p) b = Unit {0}
  RisesComp a (ReturnComp e p) b = Unit {0}
  RisesComp a (Do body p) b = RisesAll a body.statements b
  RisesComp a (Repeat' _ (more_of-Comp c end_of-Comp) p) b = RisesComp a c b
  RisesComp a (WhileComp' turning e _ (more_of-Comp c end_of-Comp) p) b = RisesComp a c b
  RisesComp a (Times' e _ (more_of-Comp c end_of-Comp) p) b = RisesComp a c b
  RisesComp a (ForComp' x e f _ (more_of-Comp c end_of-Comp) p) b = (k : ℕ) × (a ≤ x.id) × (x.id < k) × (k ≤ b) × RisesComp k c b
  RisesComp a (IfComp' e _ (more_of-Comp c end_of-Comp) _ (more_of-Comp d end_of-Comp) p) b =
      (k : ℕ) × (a ≤ k) × (k ≤ b) × RisesComp a c k × RisesComp k d b
  RisesComp a (Map f k p) b = Unit {0}
  RisesComp a (Filter f k p) b = Unit {0}
  RisesComp a (CallComp f k es) b = Unit {0}
  RisesComp a (Block' _ ms p) b = RisesMembers a ms b
  RisesComp a (Pipe' link _ (more_of-Comp c end_of-Comp) _ (more_of-Comp d end_of-Comp) p) b =
      (k : ℕ) × (a ≤ k) × (k ≤ b) × RisesComp a c k × RisesComp k d b

  -- The same of a member of a block; a bound name has the number before those in its component.
  pub RisesMember : ℕ → Member → ℕ → Type 0
  RisesMember a (Bind x c) b = (k : ℕ) × (a ≤ x.id) × (x.id < k) × (k ≤ b) × RisesComp k c b
  RisesMember a (VarMember v) b = (a ≤ v.name.id) × (v.name.id < b)
  RisesMember a (Run c) b = RisesComp a c b

  -- The same of members in a row.
  pub RisesMembers : ℕ → {m : _} → Row_of-Member m → ℕ → Type 0
  RisesMembers a end_of-Member b = Unit {0}
  RisesMembers a (more_of-Member m ms) b = (c : ℕ) × (a ≤ c) × (c ≤ b) × RisesMember a m c × RisesMembers c ms b

-- The same of a plain list of members.
abbrev pub RisesList : ℕ → List Member → ℕ → Type 0
RisesList a [] b = Unit {0}
RisesList a (m ∷ ms) b = (c : ℕ) × (a ≤ c) × (c ≤ b) × RisesMember a m c × RisesList c ms b

-- The same of a declaration at the top.
abbrev pub RisesDecl : ℕ → Decl → ℕ → Type 0
RisesDecl a (decl.Var v) b = (a ≤ v.name.id) × (v.name.id < b)
RisesDecl a (decl.Struct s) b = Unit {0}
RisesDecl a (decl.Function f) b = (c : ℕ) × (a ≤ c) × (c ≤ b) × RisesParams a f.params c × RisesAll c f.body.statements b
RisesDecl a (decl.Comp f) b = (c : ℕ) × (a ≤ c) × (c ≤ b) × RisesParams a f.params c × RisesComp c f.body b

-- The same of declarations.
abbrev pub RisesDecls : ℕ → List Decl → ℕ → Type 0
RisesDecls a [] b = a ≤ b
RisesDecls a (d ∷ ds) b = (c : ℕ) × (a ≤ c) × RisesDecl a d c × RisesDecls c ds b

-- None of these numbers is a at least and less than b.
abbrev pub Clear : List ℕ → ℕ → ℕ → Type 0
Clear xs a b = (id : ℕ) → a ≤ id → id < b → is_in xs id ≡ false

pub clear_part : (xs : List ℕ) (a b c d : ℕ) → a ≤ c → d ≤ b → Clear xs a b → Clear xs c d
clear_part xs a b c d l r h id low high = h id (omega arith) (omega arith)

-- A number that is passed is none of those that come.
pub clear_more : (xs : List ℕ) (x a b : ℕ) → x < a → Clear xs a b → Clear (x ∷ xs) a b
clear_more xs x a b lt h id low high =
    ap (λ c. c || is_in xs id) (ne_eqb x id (λ e. absurd (never e low))) ∙ h id low high
  where
    never : x ≡ id → a ≤ id → ⊥
    never e low = absurd (omega arith)

-- Nor is one that is still to come.
pub clear_ahead : (xs : List ℕ) (x a b : ℕ) → b ≤ x → Clear xs a b → Clear (x ∷ xs) a b
clear_ahead xs x a b le h id low high =
    ap (λ c. c || is_in xs id) (ne_eqb x id (λ e. absurd (never e high))) ∙ h id low high
  where
    never : x ≡ id → id < b → ⊥
    never e high = absurd (omega arith)
