-- What the objects in memory hold.
use Rattle.std.specs.Prelude.{ℕ, Bool, true, false, ◌≡◌, ◌<◌, Option, List, drop, length, map, slice_index_or, string_bytes}
use Rattle.std.specs.Option.{option_map}
use Rattle.std.specs.Str.{bytes_eq}
use Rattle.zir_outside.specs.declared.calls.Calls.{Calls}
use Rattle.zir_outside.specs.declared.memory.SureSource.{SureSource}
use Rattle.zir_outside.specs.declared.memory.MemSource.{MemSource}
use Rattle.zir_outside.specs.declared.memory.MemSink.{MemSink}
use Rattle.zir_outside.specs.declared.stored.MemShelf.{MemShelf}
use Rattle.zir_outside.specs.declared.kept.Kept.{Kept}
use Rattle.zir_outside.specs.Texts.{Entry, Stock, text_in}

-- the bytes that a source without failures has not given yet
abbrev pub sure_left : SureSource → List ℕ
sure_left source = drop source.given source.bytes.items

-- how many bytes it has given
abbrev pub sure_given : SureSource → ℕ
sure_given source = source.given

-- the most bytes that it gives in one call
abbrev pub sure_piece : SureSource → ℕ
sure_piece source = source.piece

-- the bytes that the source has not given yet
abbrev pub unread : MemSource → List ℕ
unread source = sure_left source.source

-- how many bytes the source has given
abbrev pub given_of : MemSource → ℕ
given_of source = sure_given source.source

-- the most bytes that the source gives in one call
abbrev pub piece_of : MemSource → ℕ
piece_of source = sure_piece source.source

-- the calls that were made of the source, and those that are to fail
abbrev pub source_calls : MemSource → Calls
source_calls source = source.calls

-- the bytes that the sink holds
abbrev pub held : MemSink → List ℕ
held sink = sink.bytes.items

-- the most bytes that the sink holds
abbrev pub room_of : MemSink → ℕ
room_of sink = sink.room

-- the calls that were made of the sink, and those that are to fail
abbrev pub sink_calls : MemSink → Calls
sink_calls sink = sink.calls

-- a text with its name and its room
abbrev pub entry : Kept → Entry
entry kept = record { name = string_bytes kept.name; bytes = kept.bytes.items; spare = kept.spare }

-- the texts of the shelf, and the room for one more
abbrev pub stock_of : MemShelf → Stock
stock_of shelf = record { entries = map entry shelf.texts.items; fresh = option_map (λ blank. blank.room) shelf.blank }

-- the texts of the shelf by their names
abbrev pub texts_of : MemShelf → List ℕ → Option (List ℕ)
texts_of shelf name = text_in (stock_of shelf).entries name

-- the text at a place has this name, and none before it has
pub record IsFirst (texts : List Kept) (name : List ℕ) (place : ℕ) : Type 0 where
  pub within : place < length texts
  pub named : (d : Kept) → bytes_eq (entry (slice_index_or texts place d)).name name ≡ true
  pub before : (j : ℕ) (d : Kept) → j < place → bytes_eq (entry (slice_index_or texts j d)).name name ≡ false

-- no text has this name
abbrev pub IsUnnamed : List Kept → List ℕ → Type 0
IsUnnamed texts name = (j : ℕ) (d : Kept) → j < length texts → bytes_eq (entry (slice_index_or texts j d)).name name ≡ false

-- the calls that were made of the shelf, and those that are to fail
abbrev pub shelf_calls : MemShelf → Calls
shelf_calls shelf = shelf.calls
