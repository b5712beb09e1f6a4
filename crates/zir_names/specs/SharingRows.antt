-- Worked rows of sharing: small resolved programs and their refusals.
use Rattle.std.specs.Prelude.{ℕ, true, List, [], ◌∷◌, Some, None, ◌≡◌, refl, codes}
use denote.Hole.Carrier.{hidden}
use Rattle.zir_tree.specs.declared.ident.Ident.{Ident}
use Rattle.zir_tree.specs.declared.expr.Expr.{Bit, Variable}
use Rattle.zir_tree.specs.declared.stmt.Stmt.{Stmt}
use Rattle.zir_tree.specs.declared.stmt.Stmt as stmt
use Rattle.zir_tree.specs.declared.comp.Link.TheVariants.{Serial, Parallel}
use Rattle.zir_tree.specs.declared.comp.Comp.{Comp, Take, Emit, Do, Map, Block, Pipe, Call}
use Rattle.zir_tree.specs.declared.comp.Comp.TheBlock.{shape-the_row-Comp-0, hidden-the_row-Comp-0, shape-the_row-Member-1, hidden-the_row-Member-1}
use Rattle.zir_tree.specs.declared.comp.Member.{Run}
use Rattle.zir_tree.specs.declared.program.Decl.{Decl}
use Rattle.zir_tree.specs.declared.program.Decl.TheVariants as decl
use Rattle.zir_names.specs.declared.program.Named.{Named}
use Rattle.zir_names.specs.Rows.{col, named, over_bits, bit_var, bit_function, bit_field}
use Rattle.zir_names.specs.Touched.{uses, assigns}
use Rattle.zir_names.specs.Sharing.{Shared, SplitPlace, OuterAssign, refusal_of}

-- n, the first declaration
abbrev n : ℕ → Ident
n at = named (codes "n") 1 at

-- f, the second declaration
abbrev f : ℕ → Ident
f at = named (codes "f") 2 at

-- a resolved program over bits that begins with `var n : bit;`
abbrev with_n : List Decl → Comp → Named
with_n ds c = record { program = over_bits (bit_var (n 5) ∷ ds) c }

-- n := '1
abbrev set_n : Stmt
set_n = stmt.Assign (n 20) [] (Bit true (col 25))

-- do { n := '1 }
abbrev sets_n : Comp
sets_n = Do (record { statements = set_n ∷ []; result = None }) (col 15)

-- emit n
abbrev emits_n : Comp
emits_n = Emit (Variable (n 45)) (col 40)

-- fun f(x : bit) : bit { n := '1; return x }
abbrev sets_through : Decl
sets_through = bit_function (f 5) (bit_field (named (codes "x") 3 7) ∷ []) (set_n ∷ []) (Variable (named (codes "x") 3 50))

-- do { n := '1 } >>> emit n
pub shared_row : refusal_of (with_n [] (Pipe Serial sets_n emits_n (col 36))) ≡ Some (Shared 1 (col 36))
unfolding shape-the_row-Comp-0 hidden-the_row-Comp-0 hidden
shared_row = refl

-- fun f .. { n := '1 .. } emit n >>> map f: a function that is called counts
pub shared_through_row : refusal_of (with_n (sets_through ∷ []) (Pipe Serial emits_n (Map (f 52) 0 (col 48)) (col 44))) ≡ Some (Shared 1 (col 44))
unfolding shape-the_row-Comp-0 hidden-the_row-Comp-0 hidden
shared_through_row = refl

-- emit n >>> emit n: both sides may read
pub read_row : refusal_of (with_n [] (Pipe Serial emits_n emits_n (col 36))) ≡ None
unfolding shape-the_row-Comp-0 hidden-the_row-Comp-0 hidden
read_row = refl

-- take >>> (take |>>>| take)
pub split_row : refusal_of (with_n [] (Pipe Serial (Take (col 1)) (Pipe Parallel (Take (col 10)) (Take (col 24)) (col 17)) (col 6)))
    ≡ Some (SplitPlace (col 17))
unfolding shape-the_row-Comp-0 hidden-the_row-Comp-0 hidden
split_row = refl

-- (take |>>>| take) |>>>| take is one chain
pub chain_row : refusal_of (with_n [] (Pipe Parallel (Pipe Parallel (Take (col 1)) (Take (col 15)) (col 8)) (Take (col 30)) (col 22))) ≡ None
unfolding shape-the_row-Comp-0 hidden-the_row-Comp-0 hidden
chain_row = refl

-- take |>>>| (take |>>>| take)
pub right_chain_row : refusal_of (with_n [] (Pipe Parallel (Take (col 1)) (Pipe Parallel (Take (col 15)) (Take (col 30)) (col 22)) (col 8)))
    ≡ Some (SplitPlace (col 22))
unfolding shape-the_row-Comp-0 hidden-the_row-Comp-0 hidden
right_chain_row = refl

-- fun comp f() { take |>>>| take } f() >>> take: main reaches the body off the spine
pub called_split_row : refusal_of (with_n
    (decl.Comp (record {
      name = f 5;
      params = [];
      body = Block (Run (Pipe Parallel (Take (col 20)) (Take (col 33)) (col 26)) ∷ []) (col 18);
      at = col 1;
    }) ∷ [])
    (Pipe Serial (Call (f 50) 0 []) (Take (col 58)) (col 54)))
    ≡ Some (SplitPlace (col 26))
unfolding shape-the_row-Comp-0 hidden-the_row-Comp-0 shape-the_row-Member-1 hidden-the_row-Member-1 hidden
called_split_row = refl

-- do { n := '1 } |>>>| take
pub outer_row : refusal_of (with_n [] (Pipe Parallel sets_n (Take (col 50)) (col 36))) ≡ Some (OuterAssign 1 (col 36))
unfolding shape-the_row-Comp-0 hidden-the_row-Comp-0 hidden
outer_row = refl

-- take |>>>| do { n := '1 }: the last stage may assign
pub last_row : refusal_of (with_n [] (Pipe Parallel (Take (col 1)) sets_n (col 6))) ≡ None
unfolding shape-the_row-Comp-0 hidden-the_row-Comp-0 hidden
last_row = refl

-- what emit n >>> map f uses, where f assigns n: its parameter is no variable
pub uses_row : uses (with_n (sets_through ∷ []) (Take (col 1))) (Pipe Serial emits_n (Map (f 52) 0 (col 48)) (col 44)) ≡ 1 ∷ []
unfolding shape-the_row-Comp-0 hidden-the_row-Comp-0 hidden
uses_row = refl

-- what it assigns
pub assigns_row : assigns (with_n (sets_through ∷ []) (Take (col 1))) (Pipe Serial emits_n (Map (f 52) 0 (col 48)) (col 44)) ≡ 1 ∷ []
unfolding shape-the_row-Comp-0 hidden-the_row-Comp-0 hidden
assigns_row = refl
