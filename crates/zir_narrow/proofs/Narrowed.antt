-- What an accepted program is over bits is that program, and emits bits alone.
use Rattle.std.specs.Prelude.{ℕ, List, [], ◌∷◌, ◌++◌, ◌≡◌, ◌⊎◌, Bool, true, false, ◌||◌, not, nat_eq, Some, None, refl}
use Rattle.std.proofs.Common.{ap, ◌∙◌, sym, subst, inl, inr, arith}
use denote.Hole.Carrier.{hidden}
use Rattle.zir_tree.specs.declared.ident.Ident.{Ident}
use Rattle.zir_tree.specs.declared.place.Place.{Place}
use Rattle.zir_tree.specs.declared.types.Base.{Base}
use Rattle.zir_tree.specs.declared.types.Base.TheVariants as base
use Rattle.zir_tree.specs.declared.types.Ty.{Ty}
use Rattle.zir_tree.specs.declared.stmt.Var.{Var as TopVar}
use Rattle.zir_tree.specs.declared.expr.Operator.{Operator}
use Rattle.zir_tree.specs.declared.expr.Operator.TheVariants as operator
use Rattle.zir_tree.specs.declared.expr.Expr.{Expr, Unit as UnitValue, Bit, Bool as Truth, Int, Variable, Unary', Binary', Index', Slice', Part', Call'}
use Rattle.zir_tree.specs.declared.expr.Expr.{Array', Convert', Complex', end_of-Expr, more_of-Expr}
use Rattle.zir_tree.specs.declared.expr.Expr.TheBlock.{shape-the_row-Expr-0, hidden-the_row-Expr-0}
use Rattle.zir_tree.specs.declared.comp.Link.{Link}
use Rattle.zir_tree.specs.declared.comp.Link.TheVariants.{Serial, Parallel}
use Rattle.zir_tree.specs.declared.comp.Comp.{Comp, Take, Emit, Return, Repeat', Block, Block', Pipe', end_of-Comp, more_of-Comp, Row_of-Member}
use Rattle.zir_tree.specs.declared.comp.Comp.{end_of-Member, more_of-Member}
use Rattle.zir_tree.specs.declared.comp.Comp.TheBlock.{shape-the_row-Comp-0, hidden-the_row-Comp-0, shape-the_row-Member-1, hidden-the_row-Member-1}
use Rattle.zir_tree.specs.declared.comp.Member.{Member, Bind, Var, Run}
use Rattle.zir_bit_tree.specs.declared.tree.Expr as bit_expr
use Rattle.zir_bit_tree.specs.declared.tree.Expr.TheBlock as bit_rows
use Rattle.zir_bit_tree.specs.declared.tree.Comp as bit_comp
use Rattle.zir_bit_tree.specs.declared.tree.Comp.TheBlock as comp_rows
use Rattle.zir_bit_tree.specs.declared.tree.Member as bit_member
use Rattle.zir_bit_tree.specs.declared.tree.Prog.{Prog}
use Rattle.zir_bits.specs.Wide.{wide_expr, wide_member, wide_comp, wide_members, plain as plain_type}
use Rattle.zir_bits.specs.Bits.{InScope, OfBits, IsTake, IsPlainMember, AreMembers, EmitsBits}
use Rattle.zir_narrow.specs.Narrow.{Narrow, Fine, Stuck, and_then, allowed, is_bound, is_bit_xor, expr, named, returned, plain_member, bound_member}
use Rattle.zir_narrow.specs.Narrow.{member, behind, place_of, body, is_serial, component, is_bit, of_bits, no_declarations, no_variables}
use Rattle.zir_narrow.specs.Laws.{NarrowIsOver}
use Rattle.zir_narrow.proofs.Lists.{no_more, each}
use Rattle.zir_narrow.proofs.ComponentEquations.{component-Block}

-- the second part of a walk that is done, and what the first made
record Both {A B : Type 0} (first : Narrow A) (next : A → Narrow B) (made : B) : Type 0 where
  pub part : A
  pub is : first ≡ Fine part
  pub rest : next part ≡ Fine made

both : {A B : Type 0} (first : Narrow A) (next : A → Narrow B) (made : B) → and_then first next ≡ Fine made → Both first next made
both (Fine part) next made e = record { part = part; is = refl; rest = e }
both (Stuck at) next made e = absurd cc

-- a walk that is stuck made nothing
stuck : {A : Type 0} (at : Place) (made : A) → Stuck at ≡ Fine made → ⊥
stuck at made e = absurd cc

-- what is made
made_is : {A : Type 0} (x y : A) → Fine x ≡ Fine y → x ≡ y
made_is x y e = cc

-- what is allowed, and made
allows : {A : Type 0} (may : Bool) (at : Place) (x y : A) → allowed may at x ≡ Fine y → (may ≡ true) × (x ≡ y)
allows true at x y e = (refl, cc)
allows false at x y e = absurd cc

-- the numbers of names
abbrev numbers : List Ident → List ℕ
numbers [] = []
numbers (x ∷ xs) = x.id ∷ numbers xs

numbers-more : (xs : List Ident) (x : Ident) → numbers (xs ++ x ∷ []) ≡ numbers xs ++ x.id ∷ []
numbers-more [] x = refl
numbers-more (y ∷ xs) x = ap (λ ns. y.id ∷ ns) (numbers-more xs x)

-- one of two tests holds
either : (a b : Bool) → (a || b) ≡ true → (a ≡ true) ⊎ (b ≡ true)
either true b e = inl refl
either false b e = inr e

bound-in : (xs : List Ident) (id : ℕ) → is_bound (numbers xs) id ≡ true → InScope xs id
bound-in [] id e = absurd cc
bound-in (x ∷ xs) id e = elim (either (nat_eq x.id id) (is_bound (numbers xs) id) e) [ inl h ↦ inl (grind (arith, h)) | inr h ↦ inr (bound-in xs id h) ]

-- an exclusive or of bits
xor-is : (op : Operator) (t : Base) → is_bit_xor op t ≡ true → (op ≡ operator.BitXor) × (t ≡ base.Bit)
xor-is operator.BitXor base.Bit e = (refl, refl)
xor-is op t e = absurd cc

-- an expression that is one over bits and of these names
record IsExpr (xs : List Ident) (e : Expr) (b : bit_expr.Expr) : Type 0 where
  pub is : e ≡ wide_expr b
  pub bits : OfBits xs b

-- an exclusive or of two expressions over bits
both-xor : (xs : List Ident) (op : Operator) (t : Base) (a c : Expr) (b d : bit_expr.Expr) (at : Place) → (op ≡ operator.BitXor) × (t ≡ base.Bit) →
    IsExpr xs a b → IsExpr xs c d → IsExpr xs (Binary' op t _ (more_of-Expr a end_of-Expr) _ (more_of-Expr c end_of-Expr) at) (bit_expr.Xor b d at)
unfolding shape-the_row-Expr-0 hidden-the_row-Expr-0 bit_rows.shape-the_row-Expr-0 bit_rows.hidden-the_row-Expr-0 hidden
both-xor xs op t a c b d at same h k = record {
  is = λ i. Binary' (same.0 i) (same.1 i) _ (more_of-Expr (h.is i) end_of-Expr) _ (more_of-Expr (k.is i) end_of-Expr) at;
  bits = (h.bits, k.bits);
}

expr-is : (xs : List Ident) (e : Expr) (b : bit_expr.Expr) → expr (numbers xs) e ≡ Fine b → IsExpr xs e b
expr-is xs (UnitValue at) b e = absurd (stuck at b e)
expr-is xs (Bit bit at) b e = subst (IsExpr xs (Bit bit at)) (made_is (bit_expr.Bit bit at) b e) (record { is = refl; bits = tt })
expr-is xs (Truth bit at) b e = absurd (stuck at b e)
expr-is xs (Int n t at) b e = absurd (stuck at b e)
expr-is xs (Variable x) b e =
    let h = allows (is_bound (numbers xs) x.id) x.at (bit_expr.Variable x) b e in
    subst (IsExpr xs (Variable x)) h.1 (record { is = refl; bits = bound-in xs x.id h.0 })
expr-is xs (Unary' op t _ a at) b e = absurd (stuck at b e)
expr-is xs (Binary' op t _ (more_of-Expr a end_of-Expr) _ (more_of-Expr c end_of-Expr) at) b e =
    let f = both (expr (numbers xs) a) _ b e in
    let g = both (allowed (is_bit_xor op t) at (tt {0})) _ b f.rest in
    let h = both (expr (numbers xs) c) _ b g.rest in
    let same = xor-is op t (allows (is_bit_xor op t) at (tt {0}) g.part g.is).0 in
    subst (IsExpr xs (Binary' op t _ (more_of-Expr a end_of-Expr) _ (more_of-Expr c end_of-Expr) at)) (made_is (bit_expr.Xor f.part h.part at) b h.rest)
    (both-xor xs op t a c f.part h.part at same (expr-is xs a f.part f.is) (expr-is xs c h.part h.is))
expr-is xs (Index' _ (more_of-Expr a end_of-Expr) _ i at) b e = let f = both (expr (numbers xs) a) _ b e in absurd (stuck at b f.rest)
expr-is xs (Slice' _ (more_of-Expr a end_of-Expr) _ i n at) b e = let f = both (expr (numbers xs) a) _ b e in absurd (stuck at b f.rest)
expr-is xs (Part' _ (more_of-Expr a end_of-Expr) name n at) b e = let f = both (expr (numbers xs) a) _ b e in absurd (stuck at b f.rest)
expr-is xs (Call' f callee _ es) b e = absurd (stuck f.at b e)
expr-is xs (Array' _ es at) b e = absurd (stuck at b e)
expr-is xs (Convert' t _ a at) b e = absurd (stuck at b e)
expr-is xs (Complex' t _ a _ c at) b e = absurd (stuck at b e)

-- a member over bits as one of the whole language
abbrev wide_of : bit_member.Member → Member
wide_of m = wide_member m.bound (wide_comp m.what)

-- members over bits as those of the whole language
abbrev wide_list : List bit_member.Member → List Member
wide_list [] = []
wide_list (m ∷ ms) = wide_of m ∷ wide_list ms

members-wide : (ms : List bit_member.Member) → wide_list ms ≡ wide_members (comp_rows.hidden-the_row-Member-0 ms)
unfolding comp_rows.shape-the_row-Member-0 comp_rows.hidden-the_row-Member-0 hidden
members-wide [] = refl
members-wide (m ∷ ms) = ap (λ more. wide_of m ∷ more) (members-wide ms)

-- the members of a list over bits, with these names in scope
abbrev AreListed : List Ident → List bit_member.Member → Type 0
AreListed xs ms = AreMembers xs (comp_rows.hidden-the_row-Member-0 ms)

-- a member that is one over bits, in front of others
record IsFront (xs : List Ident) (m : Member) (b : bit_member.Member) : Type 0 where
  pub is : m ≡ wide_of b
  pub scope : List Ident
  pub behind_is : numbers scope ≡ behind (numbers xs) m
  pub listed : (ms : List bit_member.Member) → AreListed scope ms → AreListed xs (b ∷ ms)

plain-listed : (xs : List Ident) (c : bit_comp.Comp) → IsPlainMember xs c → (ms : List bit_member.Member) → AreListed xs ms → AreListed xs (named None c ∷ ms)
unfolding comp_rows.shape-the_row-Member-0 comp_rows.hidden-the_row-Member-0 hidden
plain-listed xs c h ms k = (h, k)

bound-listed : (xs : List Ident) (x : Ident) (c : bit_comp.Comp) → IsTake c →
    (ms : List bit_member.Member) → AreListed (xs ++ x ∷ []) ms → AreListed xs (named (Some x) c ∷ ms)
unfolding comp_rows.shape-the_row-Member-0 comp_rows.hidden-the_row-Member-0 hidden
bound-listed xs x c h ms k = (h, k)

-- a member without a name
plain : (xs : List Ident) (c : Comp) (d : bit_comp.Comp) (b : bit_member.Member) →
    c ≡ wide_comp d → IsPlainMember xs d → named None d ≡ b → IsFront xs (Run c) b
plain xs c d b is h same = subst (IsFront xs (Run c)) same (record { is = ap Run is; scope = xs; behind_is = refl; listed = plain-listed xs d h })

-- what is returned
value-is : (xs : List Ident) (e : Expr) (at : Place) (b : bit_member.Member) →
    and_then (expr (numbers xs) e) (λ value. Fine (named None (bit_comp.Return value at))) ≡ Fine b → IsFront xs (Run (Return e at)) b
value-is xs e at b h =
    let f = both (expr (numbers xs) e) _ b h in
    plain xs (Return e at) (bit_comp.Return f.part at) b (ap (λ v. Return v at) (expr-is xs e f.part f.is).is) tt (made_is _ b f.rest)

returned-is : (xs : List Ident) (e : Expr) (at : Place) (b : bit_member.Member) → returned (numbers xs) e at ≡ Fine b → IsFront xs (Run (Return e at)) b
returned-is xs (UnitValue here) at b h = plain xs (Return (UnitValue here) at) (bit_comp.Return (bit_expr.Unit here) at) b refl tt (made_is _ b h)
returned-is xs e at b h = value-is xs e at b h

plain-is : (xs : List Ident) (last : Bool) (c : Comp) (b : bit_member.Member) → plain_member (numbers xs) last c ≡ Fine b → IsFront xs (Run c) b
plain-is xs last (Take at) b h = let f = both (allowed (not last) at (tt {0})) _ b h in plain xs (Take at) (bit_comp.Take at) b refl tt (made_is _ b f.rest)
plain-is xs last (Emit e at) b h =
    let f = both (expr (numbers xs) e) _ b h in
    let is : IsExpr xs e f.part = expr-is xs e f.part f.is in
    plain xs (Emit e at) (bit_comp.Emit f.part at) b (ap (λ v. Emit v at) is.is) is.bits (made_is _ b f.rest)
plain-is xs last (Return e at) b h = let f = both (allowed last at (tt {0})) _ b h in returned-is xs e at b f.rest
plain-is xs last c b h = absurd (stuck (place_of c) b h)

bound-is : (xs : List Ident) (x : Ident) (c : Comp) (b : bit_member.Member) → bound_member x c ≡ Fine b → IsFront xs (Bind x c) b
bound-is xs x (Take at) b h =
    subst (IsFront xs (Bind x (Take at))) (made_is (named (Some x) (bit_comp.Take at)) b h)
    (record { is = refl; scope = xs ++ x ∷ []; behind_is = numbers-more xs x; listed = bound-listed xs x (bit_comp.Take at) tt })
bound-is xs x c b h = absurd (stuck (place_of c) b h)

member-is : (xs : List Ident) (last : Bool) (m : Member) (b : bit_member.Member) → member (numbers xs) last m ≡ Fine b → IsFront xs m b
member-is xs last (Bind x c) b h = bound-is xs x c b h
member-is xs last (Var v) b h = absurd (stuck v.at b h)
member-is xs last (Run c) b h = plain-is xs last c b h

-- members that are those over bits
record AreBits (xs : List Ident) (ms : List Member) (bs : List bit_member.Member) : Type 0 where
  pub are : ms ≡ wide_list bs
  pub listed : AreListed xs bs

no_members : (xs : List Ident) → AreListed xs []
unfolding comp_rows.shape-the_row-Member-0 comp_rows.hidden-the_row-Member-0 hidden
no_members xs = tt

members-are : (xs : List Ident) (ms : List Member) (bs : List bit_member.Member) → each (numbers xs) ms ≡ Fine bs → AreBits xs ms bs
members-are xs [] bs h = subst (AreBits xs []) (made_is [] bs h) (record { are = refl; listed = no_members xs })
members-are xs (m ∷ ms) bs h =
    let f = both (member (numbers xs) (no_more ms) m) _ bs h in
    let g = both (each (behind (numbers xs) m) ms) _ bs f.rest in
    let first : IsFront xs m f.part = member-is xs (no_more ms) m f.part f.is in
    let rest : AreBits first.scope ms g.part = members-are first.scope ms g.part (ap (λ ns. each ns ms) first.behind_is ∙ g.is) in
    subst (AreBits xs (m ∷ ms)) (made_is (f.part ∷ g.part) bs g.rest)
    (record { are = λ i. first.is i ∷ rest.are i; listed = first.listed g.part rest.listed })

-- a component that is one over bits, which emits bits alone
record IsComp (c : Comp) (b : bit_comp.Comp) : Type 0 where
  pub is : c ≡ wide_comp b
  pub bits : EmitsBits b

-- members over bits in a block
listed-is : (ms : List Member) (bs : List bit_member.Member) (at : Place) → AreBits [] ms bs → IsComp (Block ms at) (bit_comp.Block bs at)
unfolding comp_rows.shape-the_row-Member-0 comp_rows.hidden-the_row-Member-0 hidden
listed-is ms bs at h = record { is = ap (λ l. Block l at) (h.are ∙ members-wide bs); bits = h.listed }

block-is : (ms : List Member) (at : Place) (b : bit_comp.Comp) → component (Block ms at) ≡ Fine b → IsComp (Block ms at) b
block-is ms at b h =
    let f = both (each [] ms) _ b (sym (component-Block ms at) ∙ h) in
    subst (IsComp (Block ms at)) (made_is (bit_comp.Block f.part at) b f.rest) (listed-is ms f.part at (members-are [] ms f.part f.is))

-- the members of a row as a list
abbrev list_of : {k : _} → Row_of-Member k → List Member
list_of end_of-Member = []
list_of (more_of-Member m ms) = m ∷ list_of ms

-- a block with one more member in front
abbrev in_front_of : Member → Comp → Comp
in_front_of m (Block' shape ms at) = Block' (tt ∷ shape) (more_of-Member m ms) at
in_front_of m c = c

-- a block of a row is that of its list
row-is : (shape : List (Unit {0})) (ms : Row_of-Member _) (at : Place) → Block (list_of ms) at ≡ Block' shape ms at
unfolding shape-the_row-Member-1 hidden-the_row-Member-1 hidden
row-is [] end_of-Member at = refl
row-is (u ∷ shape) (more_of-Member m ms) at = ap (in_front_of m) (row-is shape ms at)

row_block-is : (shape : List (Unit {0})) (ms : Row_of-Member _) (at : Place) (b : bit_comp.Comp) → component (Block' shape ms at) ≡ Fine b →
    IsComp (Block' shape ms at) b
row_block-is shape ms at b h = subst (λ c. component c ≡ Fine b → IsComp c b) (row-is shape ms at) (block-is (list_of ms) at b) h

body-is : (c : Comp) (b : bit_comp.Comp) → body c ≡ Fine b → IsComp c b
body-is (Block' shape ms at) b h = row_block-is shape ms at b h
body-is c b h = absurd (stuck (place_of c) b h)

repeat-is : (c : Comp) (b : bit_comp.Comp) (at : Place) → IsComp c b → IsComp (Repeat' _ (more_of-Comp c end_of-Comp) at) (bit_comp.Repeat b at)
unfolding shape-the_row-Comp-0 hidden-the_row-Comp-0 comp_rows.shape-the_row-Comp-1 comp_rows.hidden-the_row-Comp-1 hidden
repeat-is c b at h = record { is = λ i. Repeat' _ (more_of-Comp (h.is i) end_of-Comp) at; bits = h.bits }

serial-is : (link : Link) → is_serial link ≡ true → link ≡ Serial
serial-is Serial h = refl
serial-is Parallel h = absurd cc

pipe-is : (link : Link) (c d : Comp) (b e : bit_comp.Comp) (at : Place) → link ≡ Serial → IsComp c b → IsComp d e →
    IsComp (Pipe' link _ (more_of-Comp c end_of-Comp) _ (more_of-Comp d end_of-Comp) at) (bit_comp.Pipe b e at)
unfolding shape-the_row-Comp-0 hidden-the_row-Comp-0 comp_rows.shape-the_row-Comp-1 comp_rows.hidden-the_row-Comp-1 hidden
pipe-is link c d b e at same h k = record {
  is = λ i. Pipe' (same i) _ (more_of-Comp (h.is i) end_of-Comp) _ (more_of-Comp (k.is i) end_of-Comp) at;
  bits = (h.bits, k.bits);
}

component-is : (c : Comp) (b : bit_comp.Comp) → component c ≡ Fine b → IsComp c b
component-is (Block' shape ms at) b h = row_block-is shape ms at b h
component-is (Repeat' _ (more_of-Comp c end_of-Comp) at) b h =
    let f = both (body c) _ b h in
    subst (IsComp (Repeat' _ (more_of-Comp c end_of-Comp) at)) (made_is (bit_comp.Repeat f.part at) b f.rest) (repeat-is c f.part at (body-is c f.part f.is))
component-is (Pipe' link _ (more_of-Comp c end_of-Comp) _ (more_of-Comp d end_of-Comp) at) b h =
    let f = both (component c) _ b h in
    let g = both (allowed (is_serial link) at (tt {0})) _ b f.rest in
    let k = both (component d) _ b g.rest in
    let serial : link ≡ Serial = serial-is link (allows (is_serial link) at (tt {0}) g.part g.is).0 in
    subst (IsComp (Pipe' link _ (more_of-Comp c end_of-Comp) _ (more_of-Comp d end_of-Comp) at)) (made_is (bit_comp.Pipe f.part k.part at) b k.rest)
    (pipe-is link c d f.part k.part at serial (component-is c f.part f.is) (component-is d k.part k.is))
component-is c b h = absurd (stuck (place_of c) b h)

-- a type that is that of a bit
bit-parts : (lengths : List ℕ) (t : Base) → is_bit lengths t ≡ true → (lengths ≡ []) × (t ≡ base.Bit)
bit-parts [] base.Bit h = (refl, refl)
bit-parts lengths t h = absurd cc

bit-is : (t : Ty) (at : Place) (u : Unit {0}) → of_bits t at ≡ Fine u → t ≡ plain_type base.Bit
bit-is t at u h =
    let parts = bit-parts t.lengths t.base (allows (is_bit t.lengths t.base) at (tt {0}) u h).0 in
    λ i. record { lengths = parts.0 i; base = parts.1 i }

variables-none : (vs : List TopVar) (u : Unit {0}) → no_variables vs ≡ Fine u → vs ≡ []
variables-none [] u h = refl
variables-none (v ∷ vs) u h = absurd (stuck v.at u h)

-- what is made of an accepted program is that program
pub narrowed-is : NarrowIsOver
narrowed-is p core program h =
    let a = both (no_declarations p.declarations) _ program h in
    let v = both (no_variables core.variables) _ program a.rest in
    let i = both (of_bits core.input p.input.at) _ program v.rest in
    let c = both (component core.main) _ program i.rest in
    let o = both (of_bits core.output p.output.at) _ program c.rest in
    let is : IsComp core.main c.part = component-is core.main c.part c.is in
    let same : IsComp core.main program.main = subst (IsComp core.main) (ap (λ (q : Prog). q.main) (made_is _ program o.rest)) is in (
      record {
        variables = variables-none core.variables v.part v.is;
        main = same.is;
        input = bit-is core.input p.input.at i.part i.is;
        output = bit-is core.output p.output.at o.part o.is;
      },
      same.bits,
    )
