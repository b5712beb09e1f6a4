-- What it is for the code of statements to be made.
use Rattle.std.specs.Prelude.{ℕ, pos, ◌+◌, ◌<◌, ◌^◌, max, List, [], ◌∷◌, ◌++◌, Bool, true, false, Option, Some, None, ◌≡◌}
use Rattle.zir_tree.specs.declared.types.Base.TheVariants.{Int32}
use Rattle.zir_tree.specs.declared.types.Ty.{Ty}
use Rattle.zir_tree.specs.declared.expr.Expr.{Expr}
use Rattle.zir_tree.specs.declared.stmt.Access.{Access}
use Rattle.zir_tree.specs.declared.stmt.Access.TheVariants.{Index, Slice, Part}
use Rattle.zir_tree.specs.declared.stmt.Stmt.{Stmt}
use Rattle.zir_shapes.specs.Offsets.{plain_type as plain, array_type as array_of}
use Rattle.zir_expr.specs.declared.frame.Spot.{Spot}
use Rattle.zir_expr.specs.declared.frame.Spot.TheVariants.{Local}
use Rattle.zir_expr.specs.declared.steps.Step.{Step, Number, Store}
use Rattle.zir_code.specs.declared.scope.Holder.{Holder}
use Rattle.zir_code.specs.Scopes.{Scope, shifted, number_of}
use Rattle.zir_code.specs.Types.{element_type, part_type, part_offset}
use Rattle.zir_code.specs.Coding.{stands, code_of, settling, to_element, to_slice}
use Rattle.zir_code.specs.Peaks.{peak_of}
use Rattle.zir_code.specs.Statements.{stmt_code, scope_after, free_after, along_code, along_shift, along_peak, along_coded, storing_peak, storing_coded}
use Rattle.zir_code.specs.Needs.{stmt_peak, stmt_coded, all_peak, all_stmts_coded, initial_coded}
use Rattle.zir_code.specs.Bodies.{all_code, scope_after_all, free_after_all}
use Rattle.zir_compile.specs.declared.made.Reach.{Reach}
use Rattle.zir_compile.specs.declared.made.Block.{Block}
use Rattle.zir_compile.specs.declared.made.Range.{Range}
use Rattle.zir_compile.specs.declared.scope.Names.{Names}
use Rattle.zir_compile.specs.Coded.{Fits, IndexFits}

-- names have come into scope behind the others, and nothing else
pub record Moved (old new : Names) : Type 0 where
  pub added : List Holder
  pub locals : new.locals.items ≡ old.locals.items ++ added
  pub structs : new.structs ≡ old.structs
  pub tops : new.tops ≡ old.tops
  pub functions : new.functions.items ≡ old.functions.items

-- the same is in scope, whatever room there is for more
pub record Same (old new : Names) : Type 0 where
  pub locals : new.locals.items ≡ old.locals.items
  pub structs : new.structs ≡ old.structs
  pub tops : new.tops ≡ old.tops
  pub functions : new.functions.items ≡ old.functions.items

-- 32 bits hold all numbers of the code of a statement
pub record StmtFits (g : Scope) (a : Stmt) (d : ℕ) : Type 0 where
  pub cells : stmt_peak g d a < 2 ^ 32
  pub numbers : stmt_coded g d a ≡ true

-- steps have grown by the code of a statement, behind which this is in scope
pub record Stated (g : Scope) (a : Stmt) (d : ℕ) (old new : List Step) (behind : Scope) (reach : Reach) : Type 0 where
  pub code : new ≡ old ++ stmt_code g d a
  pub scope : behind ≡ scope_after g d a
  pub free : reach.free ≡ free_after g d a
  pub peak : reach.peak ≡ stmt_peak g d a

-- the same of statements one after the other
pub record RowFits (g : Scope) (ss : List Stmt) (d : ℕ) : Type 0 where
  pub cells : all_peak g d ss < 2 ^ 32
  pub numbers : all_stmts_coded g d ss ≡ true

pub record Rowed (g : Scope) (ss : List Stmt) (d : ℕ) (old new : List Step) (behind : Scope)
    (reach : Reach) : Type 0 where
  pub code : new ≡ old ++ all_code g d ss
  pub scope : behind ≡ scope_after_all g d ss
  pub free : reach.free ≡ free_after_all g d ss
  pub peak : reach.peak ≡ all_peak g d ss

-- the code of statements in a scope of their own
pub record Blocked (g : Scope) (ss : List Stmt) (d : ℕ) (block : Block) : Type 0 where
  pub code : block.steps ≡ all_code g d ss
  pub peak : block.peak ≡ all_peak g d ss

-- the first cell behind all that an initial value uses, without those of the variable
abbrev pub initial_most : Scope → ℕ → Option Expr → ℕ
initial_most g d None = d
initial_most g d (Some e) = peak_of g e d

-- 32 bits hold all its numbers, and the first cell behind those of the variable
pub record InitialFits (g : Scope) (e : Option Expr) (d n : ℕ) : Type 0 where
  pub free : d + n < 2 ^ 32
  pub cells : initial_most g d e < 2 ^ 32
  pub numbers : initial_coded g d e ≡ true

-- what an access adds to the code of a path into a value of a type, whose offset is in the cell o
abbrev pub access_code : Scope → Ty → ℕ → Access → List Step
access_code g ty o (Index e p) = code_of g e (o + 1) ++ to_element g ty o (stands g e (o + 1)) p ∷ []
access_code g ty o (Slice e k p) = code_of g e (o + 1) ++ to_slice g ty k o (stands g e (o + 1)) p ∷ []
access_code g ty o (Part name k p) = []

-- how many cells it adds to what stands before
abbrev pub access_shift : Scope → Ty → Access → ℕ
access_shift g ty (Index e p) = 0
access_shift g ty (Slice e k p) = 0
access_shift g ty (Part name k p) = part_offset g.structs ty k

-- the type of what it leads to
abbrev pub access_type : Scope → Ty → Access → Ty
access_type g ty (Index e p) = element_type ty
access_type g ty (Slice e k p) = array_of k (element_type ty)
access_type g ty (Part name k p) = part_type g.structs ty k

-- the first cell behind all that it uses
abbrev pub access_peak : Scope → ℕ → Access → ℕ
access_peak g o (Index e p) = peak_of g e (o + 1)
access_peak g o (Slice e k p) = peak_of g e (o + 1)
access_peak g o (Part name k p) = 0

-- 32 bits hold all numbers of its code, where what stands before begins at a root
abbrev pub AccessFits : Scope → Spot → Ty → ℕ → Access → Type 0
AccessFits g root ty o (Index e p) = IndexFits g e o ty
AccessFits g root ty o (Slice e k p) = IndexFits g e o ty
AccessFits g root ty o (Part name k p) = number_of root + part_offset g.structs ty k < 2 ^ 32

-- whether it is by an index
abbrev pub is_index : Access → Bool
is_index (Index e p) = true
is_index (Slice e k p) = true
is_index (Part name k p) = false

-- the type of what a path leads to
abbrev pub along_type : Scope → Ty → List Access → Ty
along_type g ty [] = ty
along_type g ty (a ∷ path) = along_type g (access_type g ty a) path

-- 32 bits hold all numbers of the code of a path
pub record AlongFits (g : Scope) (root : Spot) (ty : Ty) (o : ℕ) (path : List Access) : Type 0 where
  pub cells : along_peak g ty o path < 2 ^ 32
  pub numbers : along_coded g ty o path ≡ true
  pub shift : number_of root + along_shift g ty path < 2 ^ 32

-- so many cells from a spot go to where indexes lead in a variable
abbrev pub store_code : Scope → Holder → List Access → Spot → ℕ → ℕ → List Step
store_code g v path x o n =
    Number (Local o) (pos 0) ∷ (along_code g v.ty o path
    ++ Store (shifted v.spot (along_shift g v.ty path)) (Local o) x n ∷ [])

-- 32 bits hold all numbers of an assignment of so many cells from d on
pub record StoreFits (g : Scope) (v : Option Holder) (path : List Access) (d n : ℕ) : Type 0 where
  pub cells : storing_peak g v path d n < 2 ^ 32
  pub numbers : storing_coded g v path (d + n) ≡ true

-- 32 bits hold all numbers of the first index of a loop and of its number of turns
pub record RangeFits (g : Scope) (a n : Expr) (d : ℕ) : Type 0 where
  pub first : Fits g a d
  pub turns : Fits g n (d + 1)
  pub cells : d + 2 < 2 ^ 32

-- the first index of a loop stands in the cell d, and its number of turns in the one behind it
pub record Ranged (g : Scope) (a n : Expr) (d : ℕ) (old new : List Step) (range : Range) : Type 0 where
  pub code :
      new ≡ old ++ (code_of g a d ++ (settling (stands g a d) d 1 ++ (code_of g n (d + 1)
      ++ settling (stands g n (d + 1)) (d + 1) 1)))
  pub next : range.next ≡ d + 1
  pub peak : range.peak ≡ max (peak_of g a d) (max (peak_of g n (d + 1)) (d + 2))

-- the index of a loop, in the cell d
abbrev pub index_of : ℕ → ℕ → Holder
index_of id d = record { id = id; spot = Local d; cells = 1; ty = plain Int32 }
