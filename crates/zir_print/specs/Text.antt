-- The canonical text: the canonical tokens with one space between each two, a line for each declaration and one for main.
use Rattle.std.specs.Prelude.{ℕ, List, [], ◌∷◌, ◌++◌, decimal, if◌then◌else◌}
use Rattle.zir_tree.specs.declared.program.Decl.{Decl}
use Rattle.zir_tree.specs.declared.program.Prog.{Prog}
use Rattle.zir_lex.specs.declared.token.Token.{Token}
use Rattle.zir_lex.specs.declared.token.Lexeme.{Lexeme}
use Rattle.zir_lex.specs.declared.token.Lexeme.TheVariants as lexeme
use Rattle.zir_lex.specs.Tables.{keyword_bytes, symbol_bytes}
use Rattle.zir_print.specs.Canonical.{decl_words, main_words}

-- the spelling of a lexeme; a whole number is decimal
abbrev pub spelling : Lexeme → List ℕ
spelling (lexeme.Name x) = x
spelling (lexeme.Keyword w) = keyword_bytes w
spelling (lexeme.Int n) = decimal n
spelling (lexeme.Bit b) = 39 ∷ (if b then 49 else 48) ∷ []
spelling (lexeme.Text s) = 34 ∷ (s ++ 34 ∷ [])
spelling (lexeme.Symbol s) = symbol_bytes s

-- tokens with a space before each
abbrev pub spaced : List Token → List ℕ
spaced [] = []
spaced (t ∷ ts) = 32 ∷ (spelling t.lexeme ++ spaced ts)

-- a line of tokens, and its newline
abbrev pub line : List Token → List ℕ
line [] = 10 ∷ []
line (t ∷ ts) = spelling t.lexeme ++ (spaced ts ++ 10 ∷ [])

-- the lines of some declarations
abbrev pub decl_lines : List Decl → List ℕ
decl_lines [] = []
decl_lines (d ∷ ds) = line (decl_words d) ++ decl_lines ds

-- the canonical text of a program
abbrev pub canonical_text : Prog → List ℕ
canonical_text p = decl_lines p.declarations ++ line (main_words p)
