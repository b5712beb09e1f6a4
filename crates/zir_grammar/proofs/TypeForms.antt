-- Types and fields, part by part.
use Rattle.std.proofs.Common.{◌≡◌, ℕ, List, [], ◌∷◌, ◌++◌, Some, refl, sym, ap}
use Rattle.zir_tree.specs.declared.types.TypeExpr.{TypeExpr}
use Rattle.zir_tree.specs.declared.types.Field.{Field}
use Rattle.zir_lex.specs.declared.token.Token.{Token}
use Rattle.zir_lex.specs.declared.token.Keyword.TheVariants as keyword
use Rattle.zir_lex.specs.declared.token.Symbol.TheVariants as symbol
use Rattle.zir_grammar.specs.Grammar.{
  IsType,
  type_word,
  type_name,
  type_array,
  IsField,
  typed_name,
  IsMoreFields,
  last_field,
  more_fields as further_fields,
  IsParams,
  no_params,
  params,
}
use Rattle.zir_grammar.specs.Grammar.{word, sign, name, int, plain_type, struct_type, array_type, field}
use Rattle.zir_grammar.specs.Wants.{a_sign}
use Rattle.zir_grammar.specs.declared.enclosure.Enclosure.{Enclosure}
use Rattle.zir_grammar.specs.declared.enclosure.Enclosure.TheVariants.{Parentheses as parentheses, Braces as braces}
use Rattle.zir_grammar.specs.Enclosures.{closing_of, between_of}
use Rattle.zir_grammar.specs.Parts.{a_type_part, a_field, more_fields, some_params, gives, reads, lead, done_with, known, type_entries, field_entries, entries}
use Rattle.zir_grammar.proofs.Meaning.{IsPart, Reads, AllEntries}
use Rattle.zir_grammar.proofs.Tokens.{told_back}
use Rattle.zir_grammar.proofs.Sound.{Tokens, nothing}
use Rattle.zir_grammar.proofs.Follow.{avoids_nothing}
use Rattle.zir_grammar.proofs.Tables.{Form, Reading, lead_read, Steady, lead_sound, OpensBy, opens_by, opens_lead, opens_behind, same}

-- ---- types

abbrev pub TypeForm : Form TypeExpr
TypeForm t h ts rest = IsPart a_type_part t h ts rest

pub type_read : AllEntries (Reading TypeForm) type_entries
type_read = (
  λ p fits a h ts rest x. rw (x.0, x.1, x.2, fits.1) (refl, type_word fits.1),
  (
    λ p fits a h ts rest x. rw (x.0, x.1, x.2) (refl, type_name),
    (
      λ at fits a h ts rest x.
          let n = x.4 in
          let closes = n.4 in
          let t = closes.4 in
          let end = t.4 in
          let height = t.3.0 in
          rw (x.3, n.3, closes.3, end.0, end.1, sym end.2) (height, type_array t.3.1),
      tt,
    ),
  ),
)

pub type_sound : (after : Tokens) → AllEntries (Steady after) type_entries
type_sound after = (
  λ p. tt,
  (
    λ p. tt,
    (
      λ at. (
        tt,
        λ p. (
          tt,
          λ n. (
            tt,
            λ p.
                (λ t h. tt, λ t u h g le. le, λ t h. avoids_nothing after (gives (array_type n.0 at t) h)),
            λ p. same 0,
          ),
          λ p. same 0,
        ),
        λ p. same 0,
      ),
      tt,
    ),
  ),
)

pub type_opens : (t : TypeExpr) (h : ℕ) (ts rest : List Token) → TypeForm t h ts rest → OpensBy type_entries t h ts rest
type_opens t h ts rest x = opens t h ts rest x.0 x.1
  where
    opens : (t : TypeExpr) (h : ℕ) (ts rest : List Token) → h ≡ 0 → IsType t ts rest → OpensBy type_entries t h ts rest
    opens t h ts rest e (type_word {w = w} {b = b} {at = at} is) =
        opens_by (word w at) (gives (plain_type b at) 0) (rw is (ap (λ o. Some (gives (plain_type (known o) at) 0)) is)) (refl, e, refl)
    opens t h ts rest e (type_name {x = x} {at = at}) = opens_by (name x at) (gives (struct_type x at) 0) refl (refl, e, refl)
    opens t h ts rest e (type_array {n = n} {at = at} {opens = one} {within = two} {closes = three} {t = t2} {ts = us} is) =
        opens_by (word keyword.Arr at) _ refl (
          one,
          int n two ∷ sign symbol.RightBracket three ∷ us,
          tt,
          refl,
          (
            (n, two),
            sign symbol.RightBracket three
                ∷ us,
            tt,
            refl,
            (three, us, tt, refl, (t2, 0, rest, (refl, is), (refl, e, refl))),
          ),
        )

-- ---- fields

abbrev pub FieldForm : Form Field
FieldForm f h ts rest = IsPart a_field f h ts rest

pub field_read : AllEntries (Reading FieldForm) field_entries
field_read = (
  λ p fits a h ts rest x.
      let t = x.4 in
      let end = t.4 in
      rw (x.3, end.0, end.1, sym end.2) (refl, typed_name t.3.1),
  tt,
)

pub field_sound : (after : Tokens) → AllEntries (Steady after) field_entries
field_sound after = (λ p. (tt, λ q. (λ t h. tt, λ t u h g le. same 0, λ t h. avoids_nothing after (gives (field p.0 p.1 t) 0)), λ q. same 0), tt)

pub field_opens : (f : Field) (h : ℕ) (ts rest : List Token) → FieldForm f h ts rest → OpensBy field_entries f h ts rest
field_opens f h ts rest x = opens f h ts rest x.0 x.1
  where
    opens : (f : Field) (h : ℕ) (ts rest : List Token) → h ≡ 0 → IsField f ts rest → OpensBy field_entries f h ts rest
    opens f h ts rest e (typed_name {x = x} {at = at} {colon = one} {t = t} {ts = us} is) =
        opens_by (name x at) _ refl (one, us, tt, refl, (t, 0, rest, (refl, is), (refl, e, refl)))

-- ---- more fields

abbrev pub MoreFieldsForm : Enclosure → List Field → Form (List Field)
MoreFieldsForm kind done fs h ts rest = IsPart (more_fields kind done) fs h ts rest

pub more_fields_read : (kind : Enclosure) (done : List Field) → AllEntries (Reading (MoreFieldsForm kind done)) (entries (more_fields kind done))
more_fields_read kind done = (
  λ p fits a h ts rest x. rw (x.0, x.1, x.2) (refl, last_field),
  (
    λ p fits a h ts rest x.
        let y = x.4 in
        let end = y.4 in
        rw (end.0, end.1, sym end.2) (y.3.0, further_fields x.3.1 y.3.1),
    tt,
  ),
)

pub more_fields_sound : (after : Tokens) (kind : Enclosure) (done : List Field) → AllEntries (Steady after) (entries (more_fields kind done))
more_fields_sound after kind done = (
  λ p. tt,
  (
    λ p. (
      λ f h. (λ fs g. tt, λ a b h g le. le, λ fs g. avoids_nothing after (gives fs g)),
      λ a b h g le. same 0,
      λ f h. avoids_nothing after (reads (more_fields kind (done ++ f ∷ [])) done_with),
    ),
    tt,
  ),
)

pub more_fields_opens : (kind : Enclosure) (done fs : List Field) (h : ℕ) (ts rest : List Token) → MoreFieldsForm kind done fs h ts rest
    → OpensBy (entries (more_fields kind done)) fs h ts rest
more_fields_opens kind done fs h ts rest x = opens kind done fs h ts rest x.0 x.1
  where
    opens : (kind : Enclosure) (done fs : List Field) (h : ℕ) (ts rest : List Token) → h ≡ 0 → IsMoreFields (between_of kind) (closing_of kind) done fs ts rest
        → OpensBy (entries (more_fields kind done)) fs h ts rest
    opens kind done fs h ts rest e (last_field {at = at}) =
        opens_by (sign (closing_of kind) at) (gives done 0) (rw (told_back (a_sign (closing_of kind)) at tt) refl) (refl, e, refl)
    opens parentheses done fs h ts rest e (further_fields {f = f} {at = at} {mid = mid} is more) =
        opens_by (sign symbol.Comma at) _ refl (f, 0, mid, (refl, is), (fs, 0, rest, (refl, more), (refl, e, refl)))
    opens braces done fs h ts rest e (further_fields {f = f} {at = at} {mid = mid} is more) =
        opens_by (sign symbol.Semicolon at) _ refl (f, 0, mid, (refl, is), (fs, 0, rest, (refl, more), (refl, e, refl)))

-- ---- parameters

abbrev pub ParamsForm : Form (List Field)
ParamsForm fs h ts rest = IsPart some_params fs h ts rest

params_of : (f : Field) (h : ℕ) (ts mid : List Token) (fs : List Field) (g : ℕ) (rest : List Token) → FieldForm f h ts mid
    → Reads (reads (more_fields parentheses (f ∷ [])) done_with) fs g mid rest → ParamsForm fs g ts rest
params_of f h ts mid fs g rest x y =
    let end = y.4 in rw (end.0, end.1, sym end.2) (y.3.0, params x.1 y.3.1)

pub params_read : AllEntries (Reading ParamsForm) (entries some_params)
params_read = (
  λ p fits a h ts rest x. rw (x.0, x.1, x.2) (refl, no_params),
  lead_read FieldForm ParamsForm field_entries (λ f h. reads (more_fields parentheses (f ∷ [])) done_with) field_read params_of,
)

pub params_sound : (after : Tokens) → AllEntries (Steady after) (entries some_params)
params_sound after = (
  λ p. tt,
  lead_sound after nothing field_entries (λ f h. reads (more_fields parentheses (f ∷ [])) done_with) (field_sound nothing)
      (λ f h. (λ fs g. tt, λ a b h g le. le, λ fs g. avoids_nothing after (gives fs g))) (λ a b h g le. same 0)
      (λ f h. avoids_nothing after (reads (more_fields parentheses (f ∷ [])) done_with)),
)

pub params_opens : (fs : List Field) (h : ℕ) (ts rest : List Token) → ParamsForm fs h ts rest → OpensBy (entries some_params) fs h ts rest
params_opens fs h ts rest x = opens fs h ts rest x.0 x.1
  where
    behind : (fs : List Field) (h : ℕ) (ts rest : List Token)
        → OpensBy (lead field_entries (λ f g. reads (more_fields parentheses (f ∷ [])) done_with)) fs h ts rest → OpensBy (entries some_params) fs h ts rest
    behind fs h ts rest x =
        opens_behind (a_sign symbol.RightParenthesis) (λ at. gives [] 0) (lead field_entries
        (λ f g. reads (more_fields parentheses (f ∷ [])) done_with)) fs h ts rest (λ p fits. refl, tt) x

    opens : (fs : List Field) (h : ℕ) (ts rest : List Token) → h ≡ 0 → IsParams fs ts rest → OpensBy (entries some_params) fs h ts rest
    opens fs h ts rest e (no_params {at = at}) = opens_by (sign symbol.RightParenthesis at) (gives [] 0) refl (refl, e, refl)
    opens fs h ts rest e (params {f = f} {mid = mid} is more) =
        behind fs h ts rest
        (opens_lead field_entries
        (λ f g. reads (more_fields parentheses (f
        ∷ [])) done_with) f 0 fs h ts mid rest (field_opens f 0 ts mid (refl, is)) (fs, 0, rest, (refl, more), (refl, e, refl)))
