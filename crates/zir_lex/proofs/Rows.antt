-- The definitions at small texts, where they compute.
use Rattle.std.proofs.Common.{◌≡◌, ◌^◌, List, [], ◌∷◌, refl, inr, true, codes, ℕ, arith}
use Rattle.zir_lex.specs.Classes.{number_of}
use Rattle.zir_lex.specs.Spelling.{Piece, White, Comment, Word, IsPiece, text_of}
use Rattle.zir_lex.specs.Places.{place_of, first_place}
use Rattle.zir_lex.specs.Tokens.{tokens_from}
use Rattle.zir_lex.specs.declared.token.Symbol.TheVariants as symbols
use Rattle.zir_lex.specs.declared.token.Lexeme.TheVariants as lexeme
use Rattle.zir_lex.specs.declared.token.Token.{Token}
use Rattle.zir_tree.specs.declared.place.Place.{Place}

-- `a<-1 -- b` in pieces
abbrev arrow : List Piece
arrow = Word (lexeme.Name (codes "a")) (codes "a") ∷ Word (lexeme.Symbol symbols.LeftArrow) (codes "<-") ∷ Word (lexeme.Int 1) (codes "1") ∷ White 32 ∷ Comment (codes " b") ∷ []

arrow_text : text_of arrow ≡ codes "a<-1 -- b"
arrow_text = refl

abbrev place : ℕ → ℕ → Place
place line col = record { line = line; col = col }

abbrev arrow_tokens : List Token
arrow_tokens = record { lexeme = lexeme.Name (codes "a"); at = place 1 1 } ∷ record { lexeme = lexeme.Symbol symbols.LeftArrow; at = place 1 2 } ∷ record { lexeme = lexeme.Int 1; at = place 1 4 } ∷ []

arrow_reads : tokens_from first_place arrow ≡ arrow_tokens
arrow_reads = refl

-- numbers of both bases, and the greatest
decimal_value : number_of 10 (codes "9223372036854775808") ≡ 2 ^ 63
decimal_value = refl

hexadecimal_value : number_of 16 (codes "fFa0") ≡ 65440
hexadecimal_value = refl

hexadecimal_piece : IsPiece (Word (lexeme.Int 26) (codes "0x1A"))
hexadecimal_piece = inr (record { after = codes "1A"; prefix = refl; some = omega arith; digits = refl; value = refl })

-- a bit, a string, and a byte within a comment
bit_piece : IsPiece (Word (lexeme.Bit true) (codes "'1"))
bit_piece = refl

string_piece : IsPiece (Word (lexeme.Text (codes " ~")) (34 ∷ 32 ∷ 126 ∷ 34 ∷ []))
string_piece = (refl, refl)

comment_piece : IsPiece (Comment (0 ∷ 13 ∷ 255 ∷ 34 ∷ []))
comment_piece = refl

-- a newline ends its line
after_newline : place_of (97 ∷ 10 ∷ 98 ∷ 99 ∷ []) 3 ≡ place 2 2
after_newline = refl

at_newline : place_of (97 ∷ 10 ∷ 98 ∷ 99 ∷ []) 1 ≡ place 1 2
at_newline = refl
