-- Two components, one after the other.
use Rattle.std.specs.Prelude.{◌≡◌, List, ◌++◌, Result, Ok, Err}
use Rattle.std.proofs.Common.{ap, ◌∙◌, sym}
use Rattle.std.specs.declared.alloc.AllocError.{AllocError}
use Rattle.zir_tree.specs.declared.place.Place.{Place}
use Rattle.zir_tree.specs.declared.types.Ty.{Ty}
use Rattle.zir_tree.specs.declared.expr.Expr.{Expr}
use Rattle.zir_tree.specs.declared.comp.Link.{Link}
use Rattle.zir_tree.specs.declared.comp.Comp.{Comp, If, Pipe}
use Rattle.zir_types.specs.declared.scope.Seen.{Seen}
use Rattle.zir_types.specs.Components.{link_type}
use Rattle.zir_types.specs.Measures.{Measure, in_expr, in_comp, in_link, links}
use Rattle.zir_limits.specs.declared.notes.Notes.{Notes}
use Rattle.zir_limits.specs.Facts.{CoreFacts, sight}
use Rattle.zir_limits.specs.Notes.{noted}
use Rattle.zir_limits.proofs.Noted.{noted_two}
use Rattle.zir_limits_walks.specs.declared.found.Walked.{Walked}
use Rattle.zir_limits_walks.specs.Components.{walked, Walks, Leads, Joins, either, piped}
use Rattle.zir_limits_walks.proofs.ComponentEquations.{walked-If, in-If, walked-Pipe, in-Pipe}

-- a component behind measures
pub led_by : (f : CoreFacts) (vs : List Seen) (a : Ty) (ms : List Measure) (c : Comp) (n m k : Notes) (s : List Seen) (r : Result Walked AllocError) →
    m ≡ noted ms n → Walks f vs a c m k s r → Leads f vs a ms c n k s r
led_by f vs a ms c n m k s (Ok w) h walks = (walks.0, noted_two ms (in_comp f.instances (sight f vs) a c) n m k h walks.1, walks.2)
led_by f vs a ms c n m k s (Err e) h walks = walks

pub if_whole : (f : CoreFacts) (vs : List Seen) (a : Ty) (e : Expr) (i o : Comp) (at : Place) (n m k : Notes) (s now : List Seen) (first : Walked) (r : Result Walked AllocError) →
    first ≡ walked f vs a i → m ≡ noted (in_expr (sight f vs) e ++ in_comp f.instances (sight f vs) a i) n → s ≡ vs →
    Joins (either f e first (walked f s a o)) f s a o m k now r → Walks f vs a (If e i o at) n k now r
if_whole f vs a e i o at n m k s now first (Ok w) hw hn hs joins = (
  joins.0 ∙ (λ j. either f e (hw j) (walked f (hs j) a o)) ∙ sym (walked-If f vs a e i o at),
  noted_two (in_expr (sight f vs) e ++ in_comp f.instances (sight f vs) a i) (in_comp f.instances (sight f vs) a o) n m k hn
      (joins.1 ∙ ap (λ xs. noted (in_comp f.instances (sight f xs) a o) m) hs)
      ∙ ap (λ ms. noted ms n) (sym (in-If f vs a e i o at)),
  joins.2 ∙ hs,
)
if_whole f vs a e i o at n m k s now first (Err error) hw hn hs joins = joins

pub pipe_whole : (f : CoreFacts) (vs : List Seen) (a : Ty) (link : Link) (l r : Comp) (at : Place) (n m k : Notes) (s now : List Seen) (first : Walked) (result : Result Walked AllocError) →
    first ≡ walked f vs a l → m ≡ noted (in_link link (links l) at ++ in_comp f.instances (sight f vs) a l) n → s ≡ vs →
    Joins (piped first (walked f s (link_type first.emits) r)) f s (link_type first.emits) r m k now result → Walks f vs a (Pipe link l r at) n k now result
pipe_whole f vs a link l r at n m k s now first (Ok w) hw hn hs joins = (
  joins.0 ∙ (λ j. piped (hw j) (walked f (hs j) (link_type (hw j).emits) r)) ∙ sym (walked-Pipe f vs a link l r at),
  noted_two (in_link link (links l) at ++ in_comp f.instances (sight f vs) a l) (in_comp f.instances (sight f vs) (link_type (walked f vs a l).emits) r) n m k hn
      (joins.1 ∙ (λ j. noted (in_comp f.instances (sight f (hs j)) (link_type (hw j).emits) r) m))
      ∙ ap (λ ms. noted ms n) (sym (in-Pipe f vs a link l r at)),
  joins.2 ∙ hs,
)
pipe_whole f vs a link l r at n m k s now first (Err error) hw hn hs joins = joins
