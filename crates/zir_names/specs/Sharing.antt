-- The rules of sharing: what the sides of a composition may share, and where a component may be split.
use Rattle.std.specs.Prelude.{ℕ, Bool, ◌||◌, ◌&&◌, List, [], ◌∷◌, ◌++◌, Option, Some, None, nat_eq, nat_lt, if◌then◌else◌}
use Rattle.zir_tree.specs.declared.place.Place.{Place}
use Rattle.zir_tree.specs.declared.comp.Link.{Link}
use Rattle.zir_tree.specs.declared.comp.Link.TheVariants.{Serial, Parallel}
use Rattle.zir_tree.specs.declared.comp.Comp.{Comp, Take, Takes, Emit, Emits, Return, Do, Repeat', While', Times', For', If', Map, Filter, Call, Block'}
use Rattle.zir_tree.specs.declared.comp.Comp.{Pipe', end_of-Comp, more_of-Comp, Row_of-Member, end_of-Member, more_of-Member}
use Rattle.zir_tree.specs.declared.comp.Member.{Bind, Var, Run}
use Rattle.zir_tree.specs.declared.program.Decl.{Decl}
use Rattle.zir_tree.specs.declared.program.Decl.TheVariants as decl
use Rattle.zir_names.specs.declared.program.Named.{Named}
use Rattle.zir_names.specs.Numbers.{union, kept, without, least}
use Rattle.zir_names.specs.Touched.{Touched, Called, in_comp, functions}

-- Why sharing is refused: a variable by its number, and the place of an operator.
pub data Conflict : Type 0 where
  Shared : (variable : ℕ) → (at : Place) → Conflict
  SplitPlace : (at : Place) → Conflict
  OuterAssign : (variable : ℕ) → (at : Place) → Conflict

-- The first refusal, where there is one, and else the next.
abbrev pub or_then : Option Conflict → Option Conflict → Option Conflict
or_then (Some x) next = Some x
or_then None next = next

-- A composition: its sides and the place of its operator.
pub record Joint : Type 0 where
  pub left : Comp
  pub right : Comp
  pub at : Place

abbrev mutual
  -- The compositions in a component, whichever operator joins them, in the order of their operators.
  pub joints : Comp → List Joint
  joints (Take at) = []
  joints (Takes n at) = []
  joints (Emit e at) = []
  joints (Emits e at) = []
  joints (Return e at) = []
  joints (Do b at) = []
  joints (Repeat' _ (more_of-Comp c end_of-Comp) at) = joints c
  joints (While' turning e _ (more_of-Comp c end_of-Comp) at) = joints c
  joints (Times' e _ (more_of-Comp c end_of-Comp) at) = joints c
  joints (For' x a n _ (more_of-Comp c end_of-Comp) at) = joints c
  joints (If' e _ (more_of-Comp c end_of-Comp) _ (more_of-Comp d end_of-Comp) at) = joints c ++ joints d
  joints (Map f n at) = []
  joints (Filter f n at) = []
  joints (Call f n es) = []
  joints (Block' _ ms at) = joints_of ms
  joints (Pipe' link _ (more_of-Comp c end_of-Comp) _ (more_of-Comp d end_of-Comp) at) =
      joints c ++ record { left = c; right = d; at = at } ∷ joints d

  -- The compositions in the members of a block.
  pub joints_of : {m : _} → Row_of-Member m → List Joint
  joints_of end_of-Member = []
  joints_of (more_of-Member (Bind x c) ms) = joints c ++ joints_of ms
  joints_of (more_of-Member (Var v) ms) = joints_of ms
  joints_of (more_of-Member (Run c) ms) = joints c ++ joints_of ms

-- Something of each `fun comp`, called or not, and then of main: the order of the text.
abbrev pub throughout : {A : Type 0} → (Comp → List A) → List Decl → Comp → List A
throughout look [] main = look main
throughout look (decl.Var v ∷ ds) main = throughout look ds main
throughout look (decl.Struct s ∷ ds) main = throughout look ds main
throughout look (decl.Function f ∷ ds) main = throughout look ds main
throughout look (decl.Comp f ∷ ds) main = look f.body ++ throughout look ds main

-- The variables that one side assigns and the other uses.
abbrev pub shared_by : Touched → Touched → List ℕ
shared_by a b = union (kept b.used a.assigned) (kept a.used b.assigned)

-- A composition whose sides share a variable is refused with the one that is declared first.
abbrev pub shared_at : Option ℕ → Place → Option Conflict
shared_at None at = None
shared_at (Some x) at = Some (Shared x at)

-- The first refusal in a list of compositions.
abbrev pub first_shared : List Called → List Joint → Option Conflict
first_shared fs [] = None
first_shared fs (j ∷ js) = or_then (shared_at (least (shared_by (in_comp fs j.left) (in_comp fs j.right))) j.at) (first_shared fs js)

-- Whether a place stands before another.
abbrev pub is_before : Place → Place → Bool
is_before p q = nat_lt p.line q.line || (nat_eq p.line q.line && nat_lt p.col q.col)

-- The earlier of a place and one that may be there.
abbrev pub earlier : Place → Option Place → Place
earlier p None = p
earlier p (Some q) = if is_before q p then q else p

-- The first of some places in the text.
abbrev pub first_place : List Place → Option Place
first_place [] = None
first_place (p ∷ ps) = Some (earlier p (first_place ps))

-- A `fun comp` by its number, with the places in its body, and in the bodies that it calls, where a split is refused:
-- where the call stands on the spine, and where it does not.
pub record Splits : Type 0 where
  pub id : ℕ
  pub on_spine : List Place
  pub off_spine : List Place

-- Where a component stands: on the spine, as the left side of a `|>>>|` of a chain on the spine, or elsewhere.
pub data Stand : Type 0 where
  Spine : Stand
  Chain : Stand
  Elsewhere : Stand

-- What stands inside a part, where the part is no composition.
abbrev pub within : Stand → Stand
within Spine = Spine
within Chain = Elsewhere
within Elsewhere = Elsewhere

-- The left side of an operator; a `|>>>|` on the spine makes a chain with those to its left.
abbrev pub left_of : Stand → Link → Stand
left_of Spine Parallel = Chain
left_of Chain Parallel = Chain
left_of Elsewhere Parallel = Elsewhere
left_of stand Serial = Elsewhere

-- A `|>>>|` is refused where it is not the operator of a chain on the spine.
abbrev pub split_at : Stand → Link → Place → List Place
split_at Elsewhere Parallel at = at ∷ []
split_at stand link at = []

-- The splits of a body that is called.
abbrev pub body_splits : Stand → Splits → List Place
body_splits Spine s = s.on_spine
body_splits Chain s = s.off_spine
body_splits Elsewhere s = s.off_spine

-- The splits of a call.
abbrev pub splits_of : List Splits → ℕ → Stand → List Place
splits_of [] id stand = []
splits_of (s ∷ ss) id stand = if nat_eq s.id id then body_splits stand s else splits_of ss id stand

abbrev mutual
  -- The places in a component, and in the bodies that it calls, where a split is refused.
  pub splits : List Splits → Stand → Comp → List Place
  splits ss stand (Take at) = []
  splits ss stand (Takes n at) = []
  splits ss stand (Emit e at) = []
  splits ss stand (Emits e at) = []
  splits ss stand (Return e at) = []
  splits ss stand (Do b at) = []
  splits ss stand (Repeat' _ (more_of-Comp c end_of-Comp) at) = splits ss (within stand) c
  splits ss stand (While' turning e _ (more_of-Comp c end_of-Comp) at) = splits ss (within stand) c
  splits ss stand (Times' e _ (more_of-Comp c end_of-Comp) at) = splits ss (within stand) c
  splits ss stand (For' x a n _ (more_of-Comp c end_of-Comp) at) = splits ss (within stand) c
  splits ss stand (If' e _ (more_of-Comp c end_of-Comp) _ (more_of-Comp d end_of-Comp) at) = splits ss (within stand) c ++ splits ss (within stand) d
  splits ss stand (Map f n at) = []
  splits ss stand (Filter f n at) = []
  splits ss stand (Call f n es) = splits_of ss f.id stand
  splits ss stand (Block' _ ms at) = splits_in ss (within stand) ms
  splits ss stand (Pipe' link _ (more_of-Comp c end_of-Comp) _ (more_of-Comp d end_of-Comp) at) =
      (splits ss (left_of stand link) c ++ split_at stand link at) ++ splits ss Elsewhere d

  -- The same in the members of a block.
  pub splits_in : List Splits → Stand → {m : _} → Row_of-Member m → List Place
  splits_in ss stand end_of-Member = []
  splits_in ss stand (more_of-Member (Bind x c) ms) = splits ss stand c ++ splits_in ss stand ms
  splits_in ss stand (more_of-Member (Var v) ms) = splits_in ss stand ms
  splits_in ss stand (more_of-Member (Run c) ms) = splits ss stand c ++ splits_in ss stand ms

-- The `fun comp`s of declarations with their splits, where those before them are known.
abbrev pub splits_from : List Splits → List Decl → List Splits
splits_from ss [] = ss
splits_from ss (decl.Var v ∷ ds) = splits_from ss ds
splits_from ss (decl.Struct s ∷ ds) = splits_from ss ds
splits_from ss (decl.Function f ∷ ds) = splits_from ss ds
splits_from ss (decl.Comp f ∷ ds) =
    splits_from (record { id = f.name.id; on_spine = splits ss Spine f.body; off_spine = splits ss Elsewhere f.body } ∷ ss) ds

-- The first place in the text, among those that main reaches, where a split is refused.
abbrev pub first_split : Option Place → Option Conflict
first_split None = None
first_split (Some at) = Some (SplitPlace at)

-- A variable that the operand before an operator assigns and that is declared outside the chain, with the operator's place.
abbrev pub outer_at : Option ℕ → Place → List Conflict
outer_at None at = []
outer_at (Some x) at = OuterAssign x at ∷ []

-- The same from what the operand touches and what the chain declares.
abbrev pub outer_of : List ℕ → Touched → Place → List Conflict
outer_of inside operand at = outer_at (least (without inside operand.assigned)) at

-- The last operand of a left side: what stands right of its `|>>>|`, or all of it.
abbrev pub last_operand : Comp → Comp
last_operand (Pipe' Parallel _ c _ (more_of-Comp d end_of-Comp) at) = d
last_operand c = c

-- What the chain of a `|>>>|` declares: what is known of it from an operator to its right, or all that its sides declare.
abbrev pub chain_declares : Option (List ℕ) → Touched → Touched → List ℕ
chain_declares (Some inside) left right = inside
chain_declares None left right = union left.declared right.declared

abbrev mutual
  -- The operators `|>>>|` in a component whose operand before assigns a variable declared outside their chain, in the order of the text; where
  -- the component is the left side of a `|>>>|`, with what that chain declares.
  pub outers : List Called → Option (List ℕ) → Comp → List Conflict
  outers fs chain (Take at) = []
  outers fs chain (Takes n at) = []
  outers fs chain (Emit e at) = []
  outers fs chain (Emits e at) = []
  outers fs chain (Return e at) = []
  outers fs chain (Do b at) = []
  outers fs chain (Repeat' _ (more_of-Comp c end_of-Comp) at) = outers fs None c
  outers fs chain (While' turning e _ (more_of-Comp c end_of-Comp) at) = outers fs None c
  outers fs chain (Times' e _ (more_of-Comp c end_of-Comp) at) = outers fs None c
  outers fs chain (For' x a n _ (more_of-Comp c end_of-Comp) at) = outers fs None c
  outers fs chain (If' e _ (more_of-Comp c end_of-Comp) _ (more_of-Comp d end_of-Comp) at) = outers fs None c ++ outers fs None d
  outers fs chain (Map f n at) = []
  outers fs chain (Filter f n at) = []
  outers fs chain (Call f n es) = []
  outers fs chain (Block' _ ms at) = outers_in fs ms
  outers fs chain (Pipe' Serial _ (more_of-Comp c end_of-Comp) _ (more_of-Comp d end_of-Comp) at) = outers fs None c ++ outers fs None d
  outers fs chain (Pipe' Parallel _ (more_of-Comp c end_of-Comp) _ (more_of-Comp d end_of-Comp) at) =
      (outers fs (Some (chain_declares chain (in_comp fs c) (in_comp fs d))) c
      ++ outer_of (chain_declares chain (in_comp fs c) (in_comp fs d)) (in_comp fs (last_operand c)) at) ++ outers fs None d

  -- The same in the members of a block.
  pub outers_in : List Called → {m : _} → Row_of-Member m → List Conflict
  outers_in fs end_of-Member = []
  outers_in fs (more_of-Member (Bind x c) ms) = outers fs None c ++ outers_in fs ms
  outers_in fs (more_of-Member (Var v) ms) = outers_in fs ms
  outers_in fs (more_of-Member (Run c) ms) = outers fs None c ++ outers_in fs ms

-- The first of a list, where there is one.
abbrev pub first_of : List Conflict → Option Conflict
first_of [] = None
first_of (x ∷ xs) = Some x

-- Rule 1: no side of a composition assigns a variable that the other uses.
abbrev pub shares : Named → Option Conflict
shares n = first_shared (functions n) (throughout joints n.program.declarations n.program.main)

-- Rule 2: every `|>>>|` that main reaches is the operator of a chain on the spine.
abbrev pub splits_elsewhere : Named → Option Conflict
splits_elsewhere n = first_split (first_place (splits (splits_from [] n.program.declarations) Spine n.program.main))

-- Rule 3: no operand of a chain but the last assigns a variable declared outside the chain.
abbrev pub assigns_outside : Named → Option Conflict
assigns_outside n = first_of (throughout (outers (functions n) None) n.program.declarations n.program.main)

-- The first refusal of a resolved program: all of rule 1 comes before rule 2, and rule 2 before rule 3.
abbrev pub refusal_of : Named → Option Conflict
refusal_of n = or_then (shares n) (or_then (splits_elsewhere n) (assigns_outside n))
