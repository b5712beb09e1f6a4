-- What is in scope, and what a name means there.
use Rattle.std.specs.Prelude.{◌≡◌, ℕ, suc, Bool, true, false, nat_eq, if◌then◌else◌}
use Rattle.std.specs.Prelude.{List, [], ◌∷◌, ◌++◌, take, length, Option, Some, None, Result, Ok, Err}
use Rattle.std.specs.Str.{bytes_eq}
use Rattle.zir_tree.specs.declared.ident.Ident.{Ident}
use Rattle.zir_tree.specs.declared.place.Place.{Place}
use Rattle.zir_names.specs.declared.error.NameError.{NameError}
use Rattle.zir_names.specs.declared.error.NameError.TheVariants.{Unknown, Twice, Recursive}
use Rattle.zir_names.specs.declared.scope.Kind.{Kind}
use Rattle.zir_names.specs.declared.scope.Kind.TheVariants as kind
use Rattle.zir_names.specs.declared.scope.Need.{Need}
use Rattle.zir_names.specs.declared.scope.Need.TheVariants as need
use Rattle.zir_names.specs.declared.scope.Entry.{Entry}
use Rattle.zir_names.specs.Walk.{Walk, Fine, Broken, and_then, Refuses}

-- At a point of the text: the declarations in scope, in the order of the text, and the number of the next one.
pub record Seen : Type 0 where
  pub open_ : List Entry
  pub next : ℕ

-- Before a program nothing is declared, and numbers begin with 1.
abbrev pub nothing_seen : Seen
nothing_seen = record { open_ = []; next = 1 }

-- The first of two where there is one, and else the second.
abbrev pub or_else : Option Entry → Option Entry → Option Entry
or_else (Some entry) other = Some entry
or_else None other = other

-- A name means its last declaration, of whatever kind: an inner declaration hides the outer ones.
abbrev pub find : List Entry → List ℕ → Option Entry
find [] name = None
find (entry ∷ entries) name = or_else (find entries name) (if bytes_eq entry.name name then Some entry else None)

-- Which kinds a need accepts: `map` and `filter` want a function of one parameter, and only a `var` is assigned.
abbrev pub suits : Need → Kind → Bool
suits need.Value kind.Variable = true
suits need.Value kind.Fixed = true
suits need.Target kind.Variable = true
suits need.Call (kind.Function params) = true
suits need.Call kind.Structure = true
suits need.Statement (kind.Function params) = true
suits need.Mapped (kind.Function params) = nat_eq params 1
suits need.Component kind.Component = true
suits need.Type kind.Structure = true
suits _ _ = false

-- A use of a declaration of this number: the own function or struct is recursive for any need.
abbrev pub used_as : Need → Kind → ℕ → Ident → Walk Ident
used_as n kind.Own id x = Broken (Recursive x.at)
used_as n k id x = if suits n k then Fine (record x { id = id }) else Broken (Unknown x.at)

-- A use of a name with what it means.
abbrev pub meant : Need → Option Entry → Ident → Walk Ident
meant n None x = Broken (Unknown x.at)
meant n (Some entry) x = used_as n entry.kind entry.id x

-- A use of a name gets the number of the declaration that it means.
abbrev pub resolved : Need → Seen → Ident → Walk Ident
resolved n seen x = meant n (find seen.open_ x.name) x

-- A declaration gets the next number.
abbrev pub numbered : Seen → Ident → Ident
numbered seen x = record x { id = seen.next }

-- One number is taken.
abbrev pub counted : Seen → Seen
counted seen = record { open_ = seen.open_; next = suc seen.next }

-- A numbered declaration comes into scope.
abbrev pub opened : Kind → Ident → Seen → Seen
opened k x seen = record { open_ = seen.open_ ++ record { name = x.name; id = x.id; kind = k } ∷ []; next = seen.next }

-- What came into scope since these were open leaves it; the numbers go on.
abbrev pub left : Seen → Seen → Seen
left before seen = record { open_ = take (length before.open_) seen.open_; next = seen.next }

-- What follows a name that is new among these declarations.
abbrev pub if_new : {A : Type 0} → Option Entry → Place → Walk A → Walk A
if_new None at next = next
if_new (Some entry) at next = Broken (Twice at)

-- A name that must not stand among these declarations, and what follows it.
abbrev pub once : {A : Type 0} → List Entry → Ident → Walk A → Walk A
once before x next = if_new (find before x.name) x.at next

-- What a walk makes of a part that may declare names, and what is seen after it.
pub record Done (A : Type 0) : Type 0 where
  pub made : A
  pub seen : Seen

-- What was made, and what is seen after it.
abbrev pub done : {A : Type 0} → A → Seen → Walk (Done A)
done made seen = Fine (record { made = made; seen = seen })

-- Behind a part that is closed nothing is seen that was declared in it.
abbrev pub closed : {A : Type 0} → Seen → Walk (Done A) → Walk (Done A)
closed before walk = and_then walk (λ part. done part.made (left before part.seen))

-- An answer tells what such a walk makes with what is seen after it, or its refusal.
abbrev pub ToldIn : {A : Type 0} → Walk (Done A) → Result A NameError → Seen → Type 0
ToldIn walk (Ok made) seen = walk ≡ done made seen
ToldIn walk (Err error) seen = Refuses walk error
