-- What a source of elements has left, and what it answers.
use Rattle.std.specs.Prelude.{ℤ, List, [], ◌∷◌, Option, Some, None, ◌≡◌, map}
use Rattle.zir_tree.specs.declared.value.Val.{Val}
use Rattle.zir_meaning.specs.Elements.{Tail, Ended, Malformed as MalformedTail}
use Rattle.zir_cells.specs.Cells.{cells_of}
use Rattle.zir_reader.specs.declared.elements.Next.{Next}
use Rattle.zir_reader.specs.declared.elements.Next.TheVariants.{Element, End, Malformed, Failed}

-- elements, each by its cells, and what follows them
pub record Input : Type 0 where
  pub elements : List (List ℤ)
  pub tail : Tail

-- the input of these values
abbrev pub input_of : List Val → Tail → Input
input_of xs tail = record { elements = map cells_of xs; tail = tail }

-- the first of these elements is given, and the others are left
pub record TakesFirst (old : Input) (left : Option Input) (into : List ℤ) : Type 0 where
  pub more : List (List ℤ)
  pub first : old.elements ≡ into ∷ more
  pub left_is : left ≡ Some (record { elements = more; tail = old.tail })

-- there are no elements, but only this behind them
pub record HasOnly (old : Input) (tail : Tail) (left : Option Input) : Type 0 where
  pub none : old.elements ≡ []
  pub tail_is : old.tail ≡ tail
  pub left_is : left ≡ Some old

-- what is answered of an input, and what is left of it
abbrev pub GetsOf : Input → Option Input → List ℤ → Next → Type 0
GetsOf old left into Element = TakesFirst old left into
GetsOf old left into End = HasOnly old Ended left
GetsOf old left into (Malformed at) = HasOnly old (MalformedTail at) left
GetsOf old left into Failed = left ≡ Some old

-- the same where the input is told, and where it is not
abbrev pub Gets : Option Input → Option Input → List ℤ → Next → Type 0
Gets None left into next = left ≡ None
Gets (Some old) left into next = GetsOf old left into next
