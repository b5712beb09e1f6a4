-- The canonical tokens of declarations and programs.
use Rattle.std.specs.Prelude.{List, [], ◌∷◌, ◌++◌, map, Option, Some, None}
use Rattle.zir_tree.specs.declared.types.TypeExpr.{TypeExpr}
use Rattle.zir_tree.specs.declared.types.Field.{Field}
use Rattle.zir_tree.specs.declared.program.Decl.{Decl}
use Rattle.zir_tree.specs.declared.program.Decl.TheVariants as decl
use Rattle.zir_tree.specs.declared.program.Struct.{Struct}
use Rattle.zir_tree.specs.declared.program.Function.{Function}
use Rattle.zir_tree.specs.declared.program.CompFunction.{CompFunction}
use Rattle.zir_tree.specs.declared.program.Prog.{Prog}
use Rattle.zir_lex.specs.declared.token.Token.{Token}
use Rattle.zir_lex.specs.declared.token.Keyword.{Keyword}
use Rattle.zir_lex.specs.declared.token.Keyword.TheVariants as keyword
use Rattle.zir_lex.specs.declared.token.Symbol.TheVariants as symbol
use Rattle.zir_grammar.specs.Grammar.{word, name, main_bytes}
use Rattle.zir_print.specs.Marks.{nowhere, mark, link_word, parted, enclosed}
use Rattle.zir_print.specs.Types.{ident_word, field_words, type_words}
use Rattle.zir_print.specs.Statements.{list_words, var_words, body_words}
use Rattle.zir_print.specs.Components.{comp_words}

-- parameters in parentheses
abbrev pub params_words : List Field → List Token
params_words fs = enclosed (parted (mark symbol.Comma) (map field_words fs))

-- `:` and the type that a function gives, if one is written
abbrev pub gives_words : Option TypeExpr → List Token
gives_words None = []
gives_words (Some t) = mark symbol.Colon ∷ type_words t

-- a struct
abbrev pub struct_words : Struct → List Token
struct_words s = word keyword.Struct s.at ∷ ident_word s.name ∷ mark symbol.Equal ∷ list_words (map field_words s.fields)

-- a function
abbrev pub function_words : Function → List Token
function_words f = word keyword.Fun f.at ∷ ident_word f.name ∷ (params_words f.params ++ (gives_words f.result ++ body_words f.body))

-- a function that is a component
abbrev pub comp_function_words : CompFunction → List Token
comp_function_words f = word keyword.Fun f.at ∷ link_word keyword.Comp ∷ ident_word f.name ∷ (params_words f.params ++ comp_words f.body)

-- a declaration
abbrev pub decl_words : Decl → List Token
decl_words (decl.Var v) = var_words v ++ mark symbol.Semicolon ∷ []
decl_words (decl.Struct s) = struct_words s
decl_words (decl.Function f) = function_words f
decl_words (decl.Comp f) = comp_function_words f

-- `read` or `write` with its type in brackets
abbrev pub stream_words : Keyword → TypeExpr → List Token
stream_words w t = link_word w ∷ mark symbol.LeftBracket ∷ (type_words t ++ mark symbol.RightBracket ∷ [])

-- the main component between what it reads and what it writes
abbrev pub main_words : Prog → List Token
main_words p = word keyword.Let p.at ∷ link_word keyword.Comp ∷ name main_bytes nowhere ∷ mark symbol.Equal ∷
    (stream_words keyword.Read p.input ++ mark symbol.Pipe ∷ (comp_words p.main ++ mark symbol.Pipe ∷ stream_words keyword.Write p.output))

-- the tokens of some declarations
abbrev pub decls_words : List Decl → List Token
decls_words [] = []
decls_words (d ∷ ds) = decl_words d ++ decls_words ds

-- the canonical tokens of a program; a token whose place the tree keeps stands there
abbrev pub canonical : Prog → List Token
canonical p = decls_words p.declarations ++ main_words p
