-- The canonical tokens of types and of names with their types.
use Rattle.std.specs.Prelude.{List, [], ◌∷◌, ◌++◌, Option, Some, None}
use Rattle.zir_tree.specs.declared.place.Place.{Place}
use Rattle.zir_tree.specs.declared.ident.Ident.{Ident}
use Rattle.zir_tree.specs.declared.types.Base.{Base}
use Rattle.zir_tree.specs.declared.types.Base.TheVariants as base
use Rattle.zir_tree.specs.declared.types.Dimension.{Dimension}
use Rattle.zir_tree.specs.declared.types.TypeExpr.{TypeExpr}
use Rattle.zir_tree.specs.declared.types.Field.{Field}
use Rattle.zir_lex.specs.declared.token.Token.{Token}
use Rattle.zir_lex.specs.declared.token.Keyword.{Keyword}
use Rattle.zir_lex.specs.declared.token.Keyword.TheVariants as keyword
use Rattle.zir_lex.specs.declared.token.Symbol.TheVariants as symbol
use Rattle.zir_grammar.specs.Grammar.{word, name, int}
use Rattle.zir_print.specs.Marks.{nowhere, mark}

-- the keyword that names a type, if one does
abbrev pub keyword_of : Base → Option Keyword
keyword_of base.Unit = None
keyword_of base.Bit = Some keyword.Bit
keyword_of base.Bool = Some keyword.Bool
keyword_of base.Int8 = Some keyword.Int8
keyword_of base.Int16 = Some keyword.Int16
keyword_of base.Int32 = Some keyword.Int32
keyword_of base.Int64 = Some keyword.Int64
keyword_of base.Complex16 = Some keyword.Complex16
keyword_of base.Complex32 = Some keyword.Complex32
keyword_of (base.Struct k) = None

-- the word of a keyword, if there is one
abbrev pub word_if : Option Keyword → Place → List Token
word_if None p = []
word_if (Some w) p = word w p ∷ []

-- a name of the tree
abbrev pub ident_word : Ident → Token
ident_word x = name x.name x.at

-- what an array's innermost dimension holds: the name of a struct, or else a keyword
abbrev pub inner_words : Option Ident → Base → Place → List Token
inner_words (Some x) b p = ident_word x ∷ []
inner_words None b p = word_if (keyword_of b) p

-- `arr [ n ]` for each dimension
abbrev pub dimension_words : List Dimension → List Token
dimension_words [] = []
dimension_words (d ∷ ds) = word keyword.Arr d.at ∷ mark symbol.LeftBracket ∷ int d.length nowhere ∷ mark symbol.RightBracket ∷ dimension_words ds

-- a type
abbrev pub type_words : TypeExpr → List Token
type_words t = dimension_words t.dimensions ++ inner_words t.name t.base t.at

-- a name with its type
abbrev pub field_words : Field → List Token
field_words f = ident_word f.name ∷ mark symbol.Colon ∷ type_words f.ty
