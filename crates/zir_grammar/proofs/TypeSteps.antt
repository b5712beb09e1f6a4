-- Types as they are read.
use Rattle.std.proofs.Common.{◌≡◌, ℕ, nat_le, true, List, [], ◌∷◌, ◌++◌, length, Option, Some, None, Err, refl, sym, ap, ◌∙◌, subst, append_assoc}
use Rattle.std.proofs.lemmas.List.{append-nil}
use Rattle.zir_tree.specs.declared.place.Place.{Place}
use Rattle.zir_tree.specs.declared.types.Base.{Base}
use Rattle.zir_tree.specs.declared.types.Base.TheVariants as base
use Rattle.zir_tree.specs.declared.types.Field.{Field}
use Rattle.zir_tree.specs.declared.types.Dimension.{Dimension}
use Rattle.zir_tree.specs.declared.types.TypeExpr.{TypeExpr}
use Rattle.zir_tree.specs.declared.program.Prog.{Prog}
use Rattle.zir_lex.specs.declared.token.Token.{Token}
use Rattle.zir_lex.specs.declared.token.Keyword.{Keyword}
use Rattle.zir_lex.specs.declared.token.Keyword.TheVariants as keyword
use Rattle.zir_lex.specs.declared.token.Symbol.TheVariants as symbol
use Rattle.zir_grammar.specs.declared.error.ParseError.TheVariants as errors
use Rattle.zir_grammar.specs.Grammar.{sign, field, ident, base_of, plain_type, struct_type, array_type}
use Rattle.zir_grammar.specs.Wants.{a_sign, a_word, a_name, a_number, a_type, told, if_found}
use Rattle.zir_grammar.specs.declared.enclosure.Enclosure.{Enclosure}
use Rattle.zir_grammar.specs.declared.enclosure.Enclosure.TheVariants.{Parentheses as parentheses, Braces as braces}
use Rattle.zir_grammar.specs.Enclosures.{closing_of, between_of}
use Rattle.zir_grammar.specs.Parts.{
  a_type_part,
  a_field,
  more_fields,
  some_params,
  entries,
  done_with,
  field_entries,
  Rest,
  gives,
  wants,
  reads,
  wants_sign,
  known,
  type_entries,
}
use Rattle.zir_grammar.specs.Machine.{lowest_tree, least, found, run}
use Rattle.zir_grammar.specs.Reading.{at_front, base_front, nested, place_or}
use Rattle.zir_grammar.proofs.Descent.{taken, refused, wanted, unwanted, led, front_none, told_found, by_token}
use Rattle.zir_grammar.proofs.Tables.{not_first}

base_is : (o : Option ((Keyword × Place) × List Token)) (b : Base) (at : Place) (rest : List Token)
    → ◌≡◌ {A = Option (Base × Place × List Token)} (if_found o (λ f. Some (known (base_of f.0.0), f.0.1, f.1)) None) (Some (b, at, rest))
    → (w : Keyword) × (o ≡ Some ((w, at), rest)) × (known (base_of w) ≡ b)
base_is (Some ((w, here), ts)) b at rest e =
    let all : (known (base_of w), here, ts) ≡ (b, at, rest) = cc e in
    (w, ap (λ (x : Base × Place × List Token). Some ((w, x.1), x.2)) all, ap (λ (x : Base × Place × List Token). x.0) all)
base_is None b at rest e = absurd (cc e)

no_base_is : (o : Option ((Keyword × Place) × List Token))
    → ◌≡◌ {A = Option (Base × Place × List Token)} (if_found o (λ f. Some (known (base_of f.0.0), f.0.1, f.1)) None) None → o ≡ None
no_base_is (Some f) e = absurd (cc e)
no_base_is None e = refl

pub base_missing : (ts : List Token) → base_front ts ≡ None → at_front a_type ts ≡ None
unfolding base_front
base_missing ts e = no_base_is (at_front a_type ts) e

base_stands : (ts : List Token) (b : Base) (at : Place) (rest : List Token) → base_front ts ≡ Some (b, at, rest)
    → (w : Keyword) × (at_front a_type ts ≡ Some ((w, at), rest)) × (known (base_of w) ≡ b)
unfolding base_front
base_stands ts b at rest e = base_is (at_front a_type ts) b at rest e

-- each tree of a type leaves room
abbrev pub Roomy : ℕ → (TypeExpr → ℕ → Rest Prog) → Type 0
Roomy most k = (t : TypeExpr) → nat_le (least (k t 0)) most ≡ true

pub type_word_read : (most : ℕ) (k : TypeExpr → ℕ → Rest Prog) (ts : List Token) (b : Base) (at : Place) (rest : List Token)
    → base_front ts ≡ Some (b, at, rest) → Roomy most k
    → run most (reads a_type_part k) ts ≡ run most (k (plain_type b at) 0) rest
type_word_read most k ts b at rest e low =
    let x = base_stands ts b at rest e in
    taken most a_type_part k a_type ts (x.0, at) rest (gives (plain_type (known (base_of x.0)) at) 0) x.1
    (λ t is. told_found (told a_type t) (λ p. Some (gives (plain_type (known (base_of p.0)) p.1) 0)) _ (x.0, at) is) (low (plain_type (known (base_of x.0)) at))
    ∙ ap (λ c. run most (k (plain_type c at) 0) rest) x.2

pub type_name_read : (most : ℕ) (k : TypeExpr → ℕ → Rest Prog) (ts : List Token) (x : List ℕ) (at : Place) (rest : List Token)
    → at_front a_name ts ≡ Some ((x, at), rest) → Roomy most k
    → run most (reads a_type_part k) ts ≡ run most (k (struct_type x at) 0) rest
type_name_read most k ts x at rest e low =
    taken most a_type_part k a_name ts (x, at) rest (gives (struct_type x at) 0) e (by_token type_entries a_name (x, at)
    (gives (struct_type x at) 0) refl) (low (struct_type x at))

pub no_type : (most : ℕ) (k : TypeExpr → ℕ → Rest Prog) (ts : List Token) → base_front ts ≡ None → at_front a_name ts ≡ None
    → at_front (a_word keyword.Arr) ts ≡ None
    → run most (reads a_type_part k) ts ≡ Err (errors.Syntax (length ts))
no_type most k ts a b c = refused most a_type_part k ts refl (base_missing ts a, (b, (c, tt)))

-- behind `arr`
abbrev pub array_rest : (TypeExpr → ℕ → Rest Prog) → Place → Rest Prog
array_rest k at = wants_sign symbol.LeftBracket (wants a_number (λ n. wants_sign symbol.RightBracket (reads a_type_part (λ t h. k (array_type n.0 at t) h))))

pub array_begins : (most : ℕ) (k : TypeExpr → ℕ → Rest Prog) (ts : List Token) (at : Place) (rest : List Token)
    → at_front (a_word keyword.Arr) ts ≡ Some (at, rest) → Roomy most k
    → run most (reads a_type_part k) ts ≡ run most (array_rest k at) rest
array_begins most k ts at rest e low =
    taken most a_type_part k (a_word keyword.Arr) ts at rest
    (wants_sign symbol.LeftBracket (wants a_number (λ n. wants_sign symbol.RightBracket (reads a_type_part (λ t h. gives (array_type n.0 at t) h))))) e
    (by_token type_entries (a_word keyword.Arr) at _ refl) (low (array_type 0 at (plain_type (known (base_of keyword.Bit)) (record { line = 1; col = 1 }))))

-- a type of no array stands in the dimensions before it
pub nested_plain : (ds : List Dimension) (first : Option Place) (b : Base) (at here : Place) → at ≡ place_or first here
    → nested ds first (plain_type b here) ≡ record { dimensions = ds; base = b; name = None; at = at }
nested_plain ds first b at here e =
    ap (λ l. record { dimensions = l; base = b; name = None; at = place_or first here }) (append-nil ds) ∙ ap
    (λ p. record { dimensions = ds; base = b; name = None; at = p }) (sym e)

-- one more dimension
pub nested_more : (ds : List Dimension) (first : Option Place) (n : ℕ) (at : Place) (t : TypeExpr)
    → nested ds first (array_type n at t) ≡ nested (ds ++ record { length = n; at = at } ∷ []) (Some (place_or first at)) t
nested_more ds first n at t = ap
    (λ l. record { dimensions = l; base = t.base; name = t.name; at = place_or first at }) (sym (append_assoc ds (record { length = n; at = at }
    ∷ []) t.dimensions))

pub nested_struct : (ds : List Dimension) (first : Option Place) (x : List ℕ) (at here : Place) → at ≡ place_or first here
    → nested ds first (struct_type x here) ≡ record { dimensions = ds; base = (struct_type x here).base; name = Some (ident x here); at = at }
nested_struct ds first x at here e =
    ap (λ l. record { dimensions = l; base = (struct_type x here).base; name = Some (ident x here); at = place_or first here }) (append-nil ds)
    ∙ ap (λ p. record { dimensions = ds; base = (struct_type x here).base; name = Some (ident x here); at = p }) (sym e)

pub more_dimensions : (most : ℕ) (k : TypeExpr → ℕ → Rest Prog) (ds : List Dimension) (first : Option Place) (n : ℕ) (at : Place) (ts : List Token)
    → run most (reads a_type_part (λ t h. k (nested ds first (array_type n at t)) h)) ts
    ≡ run most (reads a_type_part (λ t h. k (nested (ds ++ record { length = n; at = at } ∷ []) (Some (place_or first at)) t) h)) ts
more_dimensions most k ds first n at ts = λ i. run most (reads a_type_part (λ t h. k (nested_more ds first n at t i) h)) ts

-- ---- fields

-- a field is a name, `:` and a type
pub field_begins : (most : ℕ) (k : Field → ℕ → Rest Prog) (ts : List Token) → ((f : Field) → nat_le (least (k f 0)) most ≡ true)
    → run most (reads a_field k) ts ≡ run most (wants a_name (λ p. wants_sign symbol.Colon (reads a_type_part (λ t h. k (field p.0 p.1 t) 0)))) ts
field_begins most k ts low = by_front (at_front a_name ts) refl
  where
    by_front : (o : Option ((List ℕ × Place) × List Token)) → at_front a_name ts ≡ o
        → run most (reads a_field k) ts ≡ run most (wants a_name (λ p. wants_sign symbol.Colon (reads a_type_part (λ t h. k (field p.0 p.1 t) 0)))) ts
    by_front (Some (p, rest)) e =
        taken most a_field k a_name ts p rest (wants_sign symbol.Colon
        (reads a_type_part (λ t h. gives (field p.0 p.1 t) 0))) e (by_token field_entries a_name p _ refl)
        (low (field p.0 p.1 (plain_type base.Bit (record { line = 1; col = 1 }))))
        ∙ sym (wanted most a_name (λ q. wants_sign symbol.Colon
        (reads a_type_part (λ t h. k (field q.0 q.1 t) 0))) ts p rest e (low (field p.0 p.1 (plain_type base.Bit (record { line = 1; col = 1 })))))
    by_front None e =
        refused most a_field k ts refl (e, tt) ∙ sym (unwanted most a_name (λ p. wants_sign symbol.Colon
        (reads a_type_part (λ t h. k (field p.0 p.1 t) 0))) ts e)

-- ---- lists of fields

-- each list leaves room
abbrev pub RoomyFields : ℕ → (List Field → ℕ → Rest Prog) → Type 0
RoomyFields most k = (fs : List Field) → nat_le (least (k fs 0)) most ≡ true

pub fields_end : (most : ℕ) (kind : Enclosure) (done : List Field) (k : List Field → ℕ → Rest Prog) (ts : List Token) (at : Place) (rest : List Token)
    → at_front (a_sign (closing_of kind)) ts ≡ Some (at, rest) → RoomyFields most k → run most (reads (more_fields kind done) k) ts ≡ run most (k done 0) rest
fields_end most kind done k ts at rest e low =
    taken most (more_fields kind done) k (a_sign (closing_of kind)) ts at rest (gives done 0) e
    (λ t is. told_found (told (a_sign (closing_of kind)) t) (λ p. Some (gives done 0)) _ at is) (low done)

-- behind the sign between two fields
abbrev pub next_field : Enclosure → List Field → (List Field → ℕ → Rest Prog) → Rest Prog
next_field kind done k = reads a_field (λ f h. reads (more_fields kind (done ++ f ∷ [])) k)

pub fields_go_on : (most : ℕ) (kind : Enclosure) (done : List Field) (k : List Field → ℕ → Rest Prog) (ts : List Token)
    → at_front (a_sign (closing_of kind)) ts ≡ None → RoomyFields most k
    → run most (reads (more_fields kind done) k) ts ≡ run most (wants_sign (between_of kind) (next_field kind done k)) ts
fields_go_on most kind done k ts none low = by_front (at_front (a_sign (between_of kind)) ts) refl
  where
    low_next : nat_le (least (next_field kind done k)) most ≡ true
    low_next = low (done ++ lowest_tree a_field ∷ [])

    second : (kind : Enclosure) (done : List Field) (at : Place)
        → found (entries (more_fields kind done)) (sign (between_of kind) at) ≡ Some
        (reads a_field (λ f h. reads (more_fields kind (done ++ f ∷ [])) done_with))
    second parentheses done at = refl
    second braces done at = refl

    by_front : (o : Option (Place × List Token)) → at_front (a_sign (between_of kind)) ts ≡ o
        → run most (reads (more_fields kind done) k) ts ≡ run most (wants_sign (between_of kind) (next_field kind done k)) ts
    by_front (Some (at, rest)) e =
        taken most (more_fields kind done) k (a_sign (between_of kind)) ts at rest
        (reads a_field (λ f h. reads (more_fields kind (done ++ f ∷ [])) done_with)) e
        (by_token (entries (more_fields kind done)) (a_sign (between_of kind)) at _ (second kind done at)) low_next
        ∙ sym (wanted most (a_sign (between_of kind)) (λ p. next_field kind done k) ts at rest e low_next)
    by_front None e = refused most (more_fields kind done) k ts refl (none, (e, tt)) ∙ sym (unwanted most (a_sign (between_of kind))
        (λ p. next_field kind done k) ts e)

pub no_params : (most : ℕ) (k : List Field → ℕ → Rest Prog) (ts : List Token) (at : Place) (rest : List Token)
    → at_front (a_sign symbol.RightParenthesis) ts ≡ Some (at, rest) → RoomyFields most k
    → run most (reads some_params k) ts ≡ run most (k [] 0) rest
no_params most k ts at rest e low =
    taken most some_params k (a_sign symbol.RightParenthesis) ts at rest
    (gives [] 0) e (by_token (entries some_params) (a_sign symbol.RightParenthesis) at _ refl) (low [])

pub params_begin : (most : ℕ) (k : List Field → ℕ → Rest Prog) (ts : List Token) → at_front (a_sign symbol.RightParenthesis) ts ≡ None
    → run most (reads some_params k) ts ≡ run most (reads a_field (λ f h. reads (more_fields parentheses (f ∷ [])) k)) ts
params_begin most k ts none =
    led most some_params a_field (λ f h. reads (more_fields parentheses (f ∷ [])) done_with) k ts refl refl
    (λ t us is. not_first (told (a_sign symbol.RightParenthesis) t)
    (λ p. Some (gives [] 0)) _ _ (front_none (a_sign symbol.RightParenthesis) t us (subst
    (λ l. at_front (a_sign symbol.RightParenthesis) l ≡ None) is none)) refl)
