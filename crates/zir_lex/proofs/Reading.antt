-- A text that is read piece by piece, from left to right.
use Rattle.std.proofs.Common.{◌≡◌, ℕ, ◌+◌, ◌≤◌, List, [], ◌∷◌, ◌++◌, length, take, drop, sym, ◌∙◌, ap, refl, subst, arith, append_assoc, append-nil, length-append, take-append-drop, drop_of_length-le, length-take-le}
use Rattle.std.proofs.lemmas.List.{drop-drop}
use Rattle.std.proofs.lemmas.List.Sums.{fold-append}
use Rattle.zir_lex.specs.Spelling.{Piece, White, Comment, Word, piece_bytes, text_of}
use Rattle.zir_lex.specs.Places.{place_past, first_place, next_place}
use Rattle.zir_lex.specs.Tokens.{Stands, AreRead, token_of, tokens_from, end_after, end_past, IsReadTo, Lexes, EndsAt, IsBadByte, IsBadNumber, BadByteAt, BadNumberAt}
use Rattle.zir_lex.specs.Fronts.{IsFront, lexeme_of, tokens_at, end_at}
use Rattle.zir_lex.specs.declared.front.Front.{Front}
use Rattle.zir_lex.specs.declared.token.Token.{Token}
use Rattle.zir_tree.specs.declared.place.Place.{Place}

-- the bytes of pieces and one piece more
text_push : (pieces : List Piece) (piece : Piece) → text_of (pieces ++ piece ∷ []) ≡ text_of pieces ++ piece_bytes piece
text_push [] piece = append-nil (piece_bytes piece)
text_push (p ∷ ps) piece = ap (λ l. piece_bytes p ++ l) (text_push ps piece) ∙ sym (append_assoc (piece_bytes p) (text_of ps) (piece_bytes piece))

-- pieces that are read before a piece, and the piece
read_push : (pieces : List Piece) (piece : Piece) (rest : List ℕ) → AreRead pieces (piece_bytes piece ++ rest) → Stands piece rest → AreRead (pieces ++ piece ∷ []) rest
read_push [] piece rest read stands = (stands, tt)
read_push (p ∷ ps) piece rest read stands =
    let follows : text_of ps ++ (piece_bytes piece ++ rest) ≡ text_of (ps ++ piece ∷ []) ++ rest = sym (append_assoc (text_of ps) (piece_bytes piece) rest) ∙ sym (ap (λ l. l ++ rest) (text_push ps piece)) in
    (subst (Stands p) follows read.0, read_push ps piece rest read.1 stands)

-- the tokens of pieces and one piece more
tokens_push : (place : Place) (pieces : List Piece) (piece : Piece) → tokens_from place (pieces ++ piece ∷ []) ≡ tokens_from place pieces ++ token_of (place_past place (text_of pieces)) piece
tokens_push place [] piece = append-nil (token_of place piece)
tokens_push place (p ∷ ps) piece =
    ap (λ l. token_of place p ++ l) (tokens_push (place_past place (piece_bytes p)) ps piece)
    ∙ ap (λ q. token_of place p ++ (tokens_from (place_past place (piece_bytes p)) ps ++ token_of q piece)) (sym (fold-append next_place place (piece_bytes p) (text_of ps)))
    ∙ sym (append_assoc (token_of place p) (tokens_from (place_past place (piece_bytes p)) ps) (token_of (place_past place (piece_bytes p ++ text_of ps)) piece))

-- the end of the last token of pieces and one piece more
end_push : (end place : Place) (pieces : List Piece) (piece : Piece) → end_past end place (pieces ++ piece ∷ []) ≡ end_after (end_past end place pieces) (place_past place (text_of pieces)) piece
end_push end place [] piece = refl
end_push end place (p ∷ ps) piece =
    end_push (end_after end place p) (place_past place (piece_bytes p)) ps piece
    ∙ ap (λ q. end_after (end_past (end_after end place p) (place_past place (piece_bytes p)) ps) q piece) (sym (fold-append next_place place (piece_bytes p) (text_of ps)))

-- the end of a piece by its lexeme
end_by_lexeme : (end place : Place) (piece : Piece) → end_at end (place_past place (piece_bytes piece)) (lexeme_of piece) ≡ end_after end place piece
end_by_lexeme end place (White b) = refl
end_by_lexeme end place (Comment line) = refl
end_by_lexeme end place (Word word bytes) = refl

-- the token of a piece by its lexeme
token_by_lexeme : (place : Place) (piece : Piece) → tokens_at place (lexeme_of piece) ≡ token_of place piece
token_by_lexeme place (White b) = refl
token_by_lexeme place (Comment line) = refl
token_by_lexeme place (Word word bytes) = refl

-- the text up to an offset was read as these tokens, the last of which ends at a place, and this place was reached
pub record ReadSoFar (text : List ℕ) (at : ℕ) (tokens : List Token) (place end : Place) : Type 0 where
  pub pieces : List Piece
  pub read : IsReadTo text pieces (drop at text)
  pub offset : at ≡ length (text_of pieces)
  pub tokens_are : tokens ≡ tokens_from first_place pieces
  pub place_is : place ≡ place_past first_place (text_of pieces)
  pub end_is : end ≡ end_past first_place first_place pieces

-- nothing was read yet
pub read_nothing : (text : List ℕ) → ReadSoFar text 0 [] first_place first_place
read_nothing text = record { pieces = []; read = record { whole = refl; read = tt }; offset = refl; tokens_are = refl; place_is = refl; end_is = refl }

-- one piece more
pub read_on : (text : List ℕ) (at : ℕ) (tokens : List Token) (place end : Place) (front : Front) → ReadSoFar text at tokens place end → IsFront front (drop at text)
    → ReadSoFar text (at + front.len) (tokens ++ tokens_at place front.lexeme) (place_past place (take front.len (drop at text))) (end_at end (place_past place (take front.len (drop at text))) front.lexeme)
read_on text at tokens place end front so_far it =
    let behind : drop front.len (drop at text) ≡ drop (at + front.len) text = drop-drop front.len at text in
    let stands : Stands it.piece (drop (at + front.len) text) = subst (Stands it.piece) behind it.stands in
    let split : drop at text ≡ piece_bytes it.piece ++ drop (at + front.len) text = sym (ap (λ l. l ++ drop (at + front.len) text) it.bytes ∙ ap (λ l. take front.len (drop at text) ++ l) (sym behind) ∙ take-append-drop front.len (drop at text)) in
    let grown : text_of (so_far.pieces ++ it.piece ∷ []) ≡ text_of so_far.pieces ++ piece_bytes it.piece = text_push so_far.pieces it.piece in
    let piece_len : length (piece_bytes it.piece) ≡ front.len = ap length it.bytes ∙ length-take-le front.len (drop at text) it.within in
    record {
      pieces = so_far.pieces ++ it.piece ∷ [];
      read = record {
        whole = so_far.read.whole ∙ ap (λ l. text_of so_far.pieces ++ l) split ∙ sym (append_assoc (text_of so_far.pieces) (piece_bytes it.piece) (drop (at + front.len) text)) ∙ sym (ap (λ l. l ++ drop (at + front.len) text) grown);
        read = read_push so_far.pieces it.piece (drop (at + front.len) text) (subst (AreRead so_far.pieces) split so_far.read.read) stands;
      };
      offset = omega (arith, so_far.offset, ap length grown, length-append (text_of so_far.pieces) (piece_bytes it.piece));
      tokens_are = (λ i. so_far.tokens_are i ++ tokens_at (so_far.place_is i) (it.lexeme i)) ∙ ap (λ l. tokens_from first_place so_far.pieces ++ l) (token_by_lexeme (place_past first_place (text_of so_far.pieces)) it.piece) ∙ sym (tokens_push first_place so_far.pieces it.piece);
      place_is = ap (λ q. place_past q (take front.len (drop at text))) so_far.place_is ∙ ap (place_past (place_past first_place (text_of so_far.pieces))) (sym it.bytes)
          ∙ sym (fold-append next_place first_place (text_of so_far.pieces) (piece_bytes it.piece)) ∙ ap (place_past first_place) (sym grown);
      end_is = (λ i. end_at (so_far.end_is i) (place_past (so_far.place_is i) (sym it.bytes i)) (it.lexeme i))
          ∙ end_by_lexeme (end_past first_place first_place so_far.pieces) (place_past first_place (text_of so_far.pieces)) it.piece
          ∙ sym (end_push first_place first_place so_far.pieces it.piece);
    }

-- the whole text was read
pub read_whole : (text : List ℕ) (at : ℕ) (tokens : List Token) (place end : Place) → ReadSoFar text at tokens place end → length text ≤ at → Lexes text tokens
read_whole text at tokens place end so_far ends = record {
  pieces = so_far.pieces;
  read = subst (IsReadTo text so_far.pieces) (drop_of_length-le text ends) so_far.read;
  are = so_far.tokens_are;
}

pub read_end : (text : List ℕ) (at : ℕ) (tokens : List Token) (place end : Place) → ReadSoFar text at tokens place end → length text ≤ at → EndsAt text end
read_end text at tokens place end so_far ends = record {
  pieces = so_far.pieces;
  read = subst (IsReadTo text so_far.pieces) (drop_of_length-le text ends) so_far.read;
  is = so_far.end_is;
}

-- a fault was met
pub met_bad_byte : (text : List ℕ) (at : ℕ) (tokens : List Token) (place end : Place) → ReadSoFar text at tokens place end → IsBadByte (drop at text) → BadByteAt text at
met_bad_byte text at tokens place end so_far bad = record { pieces = so_far.pieces; rest = drop at text; read = so_far.read; place = so_far.offset; bad = bad }

pub met_bad_number : (text : List ℕ) (at : ℕ) (tokens : List Token) (place end : Place) → ReadSoFar text at tokens place end → IsBadNumber (drop at text) → BadNumberAt text at
met_bad_number text at tokens place end so_far bad = record { pieces = so_far.pieces; rest = drop at text; read = so_far.read; place = so_far.offset; bad = bad }
