-- What the note on a refused text says, byte for byte.
use Rattle.std.specs.Prelude.{ℕ, List, ◌++◌, codes, decimal, Option, Some, None}
use Rattle.zir_tree.specs.declared.place.Place.{Place}
use Rattle.zir_tree.specs.declared.refusal.LimitKind.{LimitKind}
use Rattle.zir_tree.specs.declared.refusal.LimitKind.TheVariants.{Length, Cells, Element, Depth, Need, Stages, Instances}
use Rattle.zir_tree.specs.declared.refusal.Refusal.{Refusal}
use Rattle.zir_tree.specs.declared.refusal.Refusal.TheVariants as why

-- a limit that is passed
abbrev pub limit_words : LimitKind → List ℕ
limit_words Length = codes "limit length"
limit_words Cells = codes "limit cells"
limit_words Element = codes "limit element"
limit_words Depth = codes "limit depth"
limit_words Need = codes "limit need"
limit_words Stages = codes "limit stages"
limit_words Instances = codes "limit instances"

-- why a text is refused
abbrev pub refusal_words : Refusal → List ℕ
refusal_words why.TooLong = codes "too long"
refusal_words (why.BadByte at) = codes "bad byte"
refusal_words (why.BadNumber at) = codes "bad number"
refusal_words (why.Syntax at) = codes "syntax"
refusal_words (why.TooDeep at) = codes "too deep"
refusal_words (why.Unknown at) = codes "no such name here"
refusal_words (why.Twice at) = codes "declared twice"
refusal_words (why.Recursive at) = codes "recursive"
refusal_words (why.Mismatch at) = codes "types differ"
refusal_words (why.TwoComputers at) = codes "two computers"
refusal_words (why.NotUnit at) = codes "not a unit computer"
refusal_words (why.NotComputer at) = codes "not a computer"
refusal_words (why.NotStreamType at) = codes "not a stream type"
refusal_words (why.Shared x at) = codes "shared variable " ++ x
refusal_words (why.SplitPlace at) = codes "split not on the spine"
refusal_words (why.OuterAssign x at) = codes "outer variable " ++ x ++ codes " assigned before the last stage"
refusal_words (why.Limit kind at) = limit_words kind
refusal_words (why.Unbuilt at) = codes "not built yet"
refusal_words why.Memory = codes "out of memory"

-- where a text is refused; a long text and want of memory have no place
abbrev pub refusal_place : Refusal → Option Place
refusal_place why.TooLong = None
refusal_place (why.BadByte at) = Some at
refusal_place (why.BadNumber at) = Some at
refusal_place (why.Syntax at) = Some at
refusal_place (why.TooDeep at) = Some at
refusal_place (why.Unknown at) = Some at
refusal_place (why.Twice at) = Some at
refusal_place (why.Recursive at) = Some at
refusal_place (why.Mismatch at) = Some at
refusal_place (why.TwoComputers at) = Some at
refusal_place (why.NotUnit at) = Some at
refusal_place (why.NotComputer at) = Some at
refusal_place (why.NotStreamType at) = Some at
refusal_place (why.Shared x at) = Some at
refusal_place (why.SplitPlace at) = Some at
refusal_place (why.OuterAssign x at) = Some at
refusal_place (why.Limit kind at) = Some at
refusal_place (why.Unbuilt at) = Some at
refusal_place why.Memory = None

-- what stands between the name of a text and why it is refused: the line and the column, where there is a place
abbrev pub head_of : Option Place → List ℕ
head_of None = codes ": "
head_of (Some at) = codes ":" ++ decimal at.line ++ codes ":" ++ decimal at.col ++ codes ": "

-- the note on the text of a name: the name, the place, why it is refused there, and a newline
abbrev pub refusal_note : List ℕ → Refusal → List ℕ
refusal_note name refusal = name ++ (head_of (refusal_place refusal) ++ (refusal_words refusal ++ codes "\n"))

-- the refusal names a variable
abbrev pub NamesVariable : Refusal → Type 0
NamesVariable (why.Shared x at) = Unit {0}
NamesVariable (why.OuterAssign x at) = Unit {0}
NamesVariable _ = ⊥
