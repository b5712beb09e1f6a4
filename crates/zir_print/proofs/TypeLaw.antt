-- The canonical tokens of types and fields read as them again.
use Rattle.std.proofs.Common.{◌≡◌, List, [], ◌∷◌, ◌++◌, Option, Some, None, refl, sym, subst, append_assoc, append-nil}
use Rattle.std.specs.Prelude.{map}
use Rattle.zir_tree.specs.declared.place.Place.{Place}
use Rattle.zir_tree.specs.declared.types.Base.{Base}
use Rattle.zir_tree.specs.declared.ident.Ident.{Ident}
use Rattle.zir_tree.specs.declared.types.Dimension.{Dimension}
use Rattle.zir_tree.specs.declared.types.TypeExpr.{TypeExpr}
use Rattle.zir_tree.specs.declared.types.Field.{Field}
use Rattle.zir_lex.specs.declared.token.Token.{Token}
use Rattle.zir_lex.specs.declared.token.Keyword.{Keyword}
use Rattle.zir_lex.specs.declared.token.Keyword.TheVariants as keyword
use Rattle.zir_lex.specs.declared.token.Symbol.{Symbol}
use Rattle.zir_grammar.specs.Grammar.{base_of, conversion_of, plain_type, IsType, type_word, type_name, type_array, IsField, typed_name, IsMoreFields, last_field, more_fields}
use Rattle.zir_print.specs.Marks.{mark, parted, behind_each}
use Rattle.zir_print.specs.Types.{keyword_of, word_if, dimension_words, inner_words, type_words, field_words}

-- a keyword names the type, and reads as it
abbrev pub Named : (Keyword → Option Base) → Base → Type 0
Named reads b = (w : Keyword) × (keyword_of b ≡ Some w) × (reads w ≡ Some b)

abbrev IfNamed : (Keyword → Option Base) → Option Base → Type 0
IfNamed reads None = Unit {0}
IfNamed reads (Some b) = Named reads b

type_named : (w : Keyword) → IfNamed base_of (base_of w)
type_named keyword.Bit = (keyword.Bit, refl, refl)
type_named keyword.Bool = (keyword.Bool, refl, refl)
type_named keyword.Int8 = (keyword.Int8, refl, refl)
type_named keyword.Int16 = (keyword.Int16, refl, refl)
type_named keyword.Int32 = (keyword.Int32, refl, refl)
type_named keyword.Int = (keyword.Int32, refl, refl)
type_named keyword.Int64 = (keyword.Int64, refl, refl)
type_named keyword.Complex16 = (keyword.Complex16, refl, refl)
type_named keyword.Complex32 = (keyword.Complex32, refl, refl)
type_named other = tt

conversion_named : (w : Keyword) → IfNamed conversion_of (conversion_of w)
conversion_named keyword.Bit = (keyword.Bit, refl, refl)
conversion_named keyword.Int8 = (keyword.Int8, refl, refl)
conversion_named keyword.Int16 = (keyword.Int16, refl, refl)
conversion_named keyword.Int32 = (keyword.Int32, refl, refl)
conversion_named keyword.Int = (keyword.Int32, refl, refl)
conversion_named keyword.Int64 = (keyword.Int64, refl, refl)
conversion_named keyword.Complex16 = (keyword.Complex16, refl, refl)
conversion_named keyword.Complex32 = (keyword.Complex32, refl, refl)
conversion_named other = tt

pub named : (w : Keyword) {b : Base} → base_of w ≡ Some b → Named base_of b
named w e = subst (λ o. IfNamed base_of o) e (type_named w)

pub converts : (w : Keyword) {b : Base} → conversion_of w ≡ Some b → Named conversion_of b
converts w e = subst (λ o. IfNamed conversion_of o) e (conversion_named w)

-- the place of the first token of a type whose inner word stands at a place
abbrev first_place : List Dimension → Option Ident → Place → Place
first_place (d ∷ ds) x p = d.at
first_place [] (Some x) p = x.at
first_place [] None p = p

-- a type whose inner word stands at this place
abbrev moved : Place → TypeExpr → TypeExpr
moved p t = record { dimensions = t.dimensions; base = t.base; name = t.name; at = first_place t.dimensions t.name p }

word_read : (b : Base) (p : Place) (more : List Token) → Named base_of b → IsType (plain_type b p) (word_if (keyword_of b) p ++ more) more
word_read b p more (w, is, reads) = subst (λ o. IsType (plain_type b p) (word_if o p ++ more) more) (sym is) (type_word reads)

type_moved : {t : TypeExpr} {ts rest : List Token} → IsType t ts rest → (p : Place) (more : List Token) → IsType (moved p t) ((dimension_words t.dimensions ++ inner_words t.name t.base p) ++ more) more
type_moved (type_word {w = w} {b = b} is) p more = word_read b p more (named w is)
type_moved type_name p more = type_name
type_moved (type_array x) p more = type_array (type_moved x p more)

unmoved : {t : TypeExpr} {ts rest : List Token} → IsType t ts rest → moved t.at t ≡ t
unmoved (type_word is) = refl
unmoved type_name = refl
unmoved (type_array x) = refl

-- a type stands before any rest
pub type_own : {t : TypeExpr} {ts rest : List Token} → IsType t ts rest → (more : List Token) → IsType t (type_words t ++ more) more
type_own {t = t} x more = subst (λ u. IsType u (type_words t ++ more) more) (unmoved x) (type_moved x t.at more)

abbrev pub OwnField : Field → Type 0
OwnField f = (more : List Token) → IsField f (field_words f ++ more) more

pub field_own : {f : Field} {ts rest : List Token} → IsField f ts rest → OwnField f
field_own (typed_name t) more = typed_name (type_own t more)

abbrev pub AllFields : List Field → Type 0
AllFields [] = Unit {0}
AllFields (f ∷ fs) = OwnField f × AllFields fs

fields_snoc : (fs : List Field) (f : Field) → AllFields fs → OwnField f → AllFields (fs ++ f ∷ [])
fields_snoc [] f all own = (own, tt)
fields_snoc (g ∷ fs) f (x, all) own = (x, fields_snoc fs f all own)

pub fields_all : {between closing : Symbol} {done fs : List Field} {ts rest : List Token} → IsMoreFields between closing done fs ts rest → AllFields done → AllFields fs
fields_all last_field all = all
fields_all (more_fields {done = done} {f = f} x more) all = fields_all more (fields_snoc done f all (field_own x))

-- the fields of a list behind others
fields_read : (between closing : Symbol) (done fs : List Field) (rest : List Token) → AllFields fs
    → IsMoreFields between closing done (done ++ fs) (behind_each (mark between) (map field_words fs) ++ mark closing ∷ rest) rest
fields_read between closing done [] rest all = subst (λ l. IsMoreFields between closing done l (mark closing ∷ rest) rest) (sym (append-nil done)) last_field
fields_read between closing done (f ∷ fs) rest (own, all) =
    let inner = fields_read between closing (done ++ f ∷ []) fs rest all in
    let tail : List Token = behind_each (mark between) (map field_words fs) in
    subst (λ w. IsMoreFields between closing done (done ++ f ∷ fs) (mark between ∷ w) rest) (sym (append_assoc (field_words f) tail (mark closing ∷ rest)))
    (more_fields (own (tail ++ mark closing ∷ rest)) (subst (λ l. IsMoreFields between closing (done ++ f ∷ []) l (tail ++ mark closing ∷ rest) rest) (append_assoc done (f ∷ []) fs) inner))

-- the fields of a list with a first one, up to their closing sign
pub record ReadFields (between closing : Symbol) (fs : List Field) (rest : List Token) : Type 0 where
  pub first : Field
  pub behind : List Token
  pub is : IsField first (parted (mark between) (map field_words fs) ++ mark closing ∷ rest) behind
  pub more : IsMoreFields between closing (first ∷ []) fs behind rest

pub some_fields : (between closing : Symbol) (f : Field) (fs : List Field) (rest : List Token) → AllFields (f ∷ fs) → ReadFields between closing (f ∷ fs) rest
some_fields between closing f fs rest (own, all) =
    let tail : List Token = behind_each (mark between) (map field_words fs) in
    record {
      first = f;
      behind = tail ++ mark closing ∷ rest;
      is = subst (λ w. IsField f w (tail ++ mark closing ∷ rest)) (sym (append_assoc (field_words f) tail (mark closing ∷ rest))) (own (tail ++ mark closing ∷ rest));
      more = fields_read between closing (f ∷ []) fs rest all;
    }
