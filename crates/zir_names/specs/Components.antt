-- The names of components.
use Rattle.std.specs.Prelude.{List, [], ◌∷◌}
use Rattle.zir_tree.specs.declared.comp.Comp.{Comp, Take, Takes, Emit, Emits, Return, Do, Repeat, Repeat', While, While', Times, Times', For, For', If, If'}
use Rattle.zir_tree.specs.declared.comp.Comp.{Map, Filter, Call, Block, Block', Pipe, Pipe', end_of-Comp, more_of-Comp, Row_of-Member, end_of-Member}
use Rattle.zir_tree.specs.declared.comp.Comp.{more_of-Member}
use Rattle.zir_tree.specs.declared.comp.Member.{Member, Bind, Var, Run}
use Rattle.zir_names.specs.declared.scope.Kind.TheVariants as kind
use Rattle.zir_names.specs.declared.scope.Need.TheVariants as need
use Rattle.zir_names.specs.Walk.{Walk, and_then}
use Rattle.zir_names.specs.Scope.{Seen, resolved, numbered, counted, opened, Done, done, closed}
use Rattle.zir_names.specs.Expressions.{each, expr}
use Rattle.zir_names.specs.Statements.{variable, indexed, body_of}

abbrev mutual
  -- A component: names and parts in the order of the text.
  pub comp : Seen → Comp → Walk (Done Comp)
  comp seen (Take at) = done (Take at) seen
  comp seen (Takes n at) = done (Takes n at) seen
  comp seen (Emit e at) = and_then (expr seen e) (λ e'. done (Emit e' at) seen)
  comp seen (Emits e at) = and_then (expr seen e) (λ e'. done (Emits e' at) seen)
  comp seen (Return e at) = and_then (expr seen e) (λ e'. done (Return e' at) seen)
  comp seen (Do b at) = and_then (body_of seen b) (λ b'. done (Do b'.made at) b'.seen)
  comp seen (Repeat' _ (more_of-Comp c end_of-Comp) at) = and_then (comp seen c) (λ c'. done (Repeat c'.made at) c'.seen)
  comp seen (While' turning e _ (more_of-Comp c end_of-Comp) at) =
      and_then (expr seen e) (λ e'. and_then (comp seen c) (λ c'. done (While turning e' c'.made at) c'.seen))
  comp seen (Times' e _ (more_of-Comp c end_of-Comp) at) =
      and_then (expr seen e) (λ e'. and_then (comp seen c) (λ c'. done (Times e' c'.made at) c'.seen))
  comp seen (For' x a n _ (more_of-Comp c end_of-Comp) at) =
      and_then (expr seen a) (λ a'. and_then (expr seen n) (λ n'. and_then (closed seen (comp (indexed seen x) c)) (λ c'.
      done (For (numbered seen x) a' n' c'.made at) c'.seen)))
  comp seen (If' e _ (more_of-Comp c end_of-Comp) _ (more_of-Comp d end_of-Comp) at) =
      and_then (expr seen e) (λ e'. and_then (comp seen c) (λ c'. and_then (comp c'.seen d) (λ d'.
      done (If e' c'.made d'.made at) d'.seen)))
  comp seen (Map f n at) = and_then (resolved need.Mapped seen f) (λ f'. done (Map f' n at) seen)
  comp seen (Filter f n at) = and_then (resolved need.Mapped seen f) (λ f'. done (Filter f' n at) seen)
  comp seen (Call f n es) = and_then (resolved need.Component seen f) (λ f'. and_then (each (expr seen) es) (λ es'. done (Call f' n es') seen))
  comp seen (Block' _ ms at) = and_then (closed seen (members seen ms)) (λ ms'. done (Block ms'.made at) ms'.seen)
  comp seen (Pipe' link _ (more_of-Comp c end_of-Comp) _ (more_of-Comp d end_of-Comp) at) =
      and_then (comp seen c) (λ c'. and_then (comp c'.seen d) (λ d'. done (Pipe link c'.made d'.made at) d'.seen))

  -- A bound name has the number before those in its component, and is seen behind it.
  pub member : Seen → Member → Walk (Done Member)
  member seen (Bind x c) =
      and_then (comp (counted seen) c) (λ c'. done (Bind (numbered seen x) c'.made) (opened kind.Fixed (numbered seen x) c'.seen))
  member seen (Var v) = and_then (variable seen v) (λ v'. done (Var v'.made) v'.seen)
  member seen (Run c) = and_then (comp seen c) (λ c'. done (Run c'.made) c'.seen)

  -- The members of a block, each of which sees what those before it declare.
  pub members : Seen → {m : _} → Row_of-Member m → Walk (Done (List Member))
  members seen end_of-Member = done [] seen
  members seen (more_of-Member m ms) = and_then (member seen m) (λ m'. and_then (members m'.seen ms) (λ ms'. done (m'.made ∷ ms'.made) ms'.seen))
