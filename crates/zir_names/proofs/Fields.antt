-- Fields and parameters, one after the other.
use Rattle.std.specs.Prelude.{◌≡◌, ℕ, suc, ◌+◌, ◌<◌, List, [], ◌∷◌, ◌++◌, length, drop, get_or}
use Rattle.std.proofs.Common.{ap, sym, ◌∙◌, add-one, drop-cons}
use Rattle.zir_tree.specs.declared.ident.Ident.{Ident}
use Rattle.zir_tree.specs.declared.types.Field.{Field}
use Rattle.zir_tree.specs.declared.types.TypeExpr.{TypeExpr}
use Rattle.zir_names.specs.declared.scope.Entry.{Entry}
use Rattle.zir_names.specs.Walk.{Walk, Fine, Broken, and_then}
use Rattle.zir_names.specs.Scope.{Seen, Done, done, numbered, counted}
use Rattle.zir_names.specs.Expressions.{type_of}
use Rattle.zir_names.specs.Programs.{new_name, and_name, fields, params}
use Rattle.zir_names.proofs.Lists.{gathered, gathered-more, gathered_in, gathered_in-more}

-- what stands behind a place begins with what stands there
pub at_place : {A : Type 0} (xs : List A) (n : ℕ) (x : A) → n < length xs → x ≡ get_or xs n x → drop n xs ≡ x ∷ drop (n + 1) xs
at_place xs n x h e = drop-cons xs n x h ∙ rw (add-one) (ap (λ y. y ∷ drop (suc n) xs) (sym e))

-- a field of this name and type
abbrev pub field_of : Ident → TypeExpr → Field
field_of name ty = record { name = name; ty = ty }

pub next_field : (seen : Seen) (before after : List Entry) (made new : List Field) (f : Field) (fs : List Field) (new_one : Unit {0}) (ty : TypeExpr) (name : Ident) →
    new_name before f.name ≡ Fine new_one → type_of seen f.ty ≡ Fine ty → name ≡ f.name → after ≡ and_name before f.name → new ≡ made ++ field_of name ty ∷ [] →
    gathered made (fields seen before (f ∷ fs)) ≡ gathered new (fields seen after fs)
next_field seen before after made new f fs new_one ty name h k n a e =
    let rest = fields seen (and_name before f.name) fs in
    ap (λ w. gathered made (and_then w (λ (_ : Unit {0}). and_then (type_of seen f.ty) (λ t. and_then rest (λ gs. Fine (field_of f.name t ∷ gs)))))) h
    ∙ ap (λ w. gathered made (and_then w (λ t. and_then rest (λ gs. Fine (field_of f.name t ∷ gs))))) k
    ∙ gathered-more made (field_of f.name ty) rest
    ∙ (λ i. gathered (made ++ field_of (sym n i) ty ∷ []) (fields seen (sym a i) fs))
    ∙ ap (λ ys. gathered ys (fields seen after fs)) (sym e)

-- a name and what is seen behind it
abbrev naming : Ident → Seen → Done Ident
naming name seen = record { made = name; seen = seen }

pub next_param : (seen counts : Seen) (before after : List Entry) (made new : List Field) (f : Field) (fs : List Field) (new_one : Unit {0}) (ty : TypeExpr) (name : Ident) →
    new_name before f.name ≡ Fine new_one → type_of seen f.ty ≡ Fine ty → done (numbered seen f.name) (counted seen) ≡ done name counts → after ≡ and_name before f.name →
    new ≡ made ++ field_of name ty ∷ [] → gathered_in made (params seen before (f ∷ fs)) ≡ gathered_in new (params counts after fs)
next_param seen counts before after made new f fs new_one ty name h k n a e =
    let rest = params (counted seen) (and_name before f.name) fs in
    let both : naming (numbered seen f.name) (counted seen) ≡ naming name counts = cc in
    let same : numbered seen f.name ≡ name = ap (λ (d : Done Ident). d.made) both in
    let on : counted seen ≡ counts = ap (λ (d : Done Ident). d.seen) both in
    ap (λ w. gathered_in made (and_then w (λ (_ : Unit {0}). and_then (type_of seen f.ty) (λ t. and_then rest (λ gs. done (field_of (numbered seen f.name) t ∷ gs.made) gs.seen))))) h
    ∙ ap (λ w. gathered_in made (and_then w (λ t. and_then rest (λ gs. done (field_of (numbered seen f.name) t ∷ gs.made) gs.seen)))) k
    ∙ gathered_in-more made (field_of (numbered seen f.name) ty) rest
    ∙ (λ i. gathered_in (made ++ field_of (same i) ty ∷ []) (params (on i) (sym a i) fs))
    ∙ ap (λ ys. gathered_in ys (params counts after fs)) (sym e)
