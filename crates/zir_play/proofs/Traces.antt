-- What processes give after some elements and outputs.
use Rattle.std.proofs.Common.{◌≡◌, List, [], ◌∷◌, ◌++◌, ap, sym, refl, ◌∙◌, append_assoc}
use Rattle.std.proofs.lemmas.List.{append-nil}
use Rattle.zir_tree.specs.declared.value.Val.{Val}
use Rattle.zir_meaning.specs.Trace.{Out, Trace, after, gives}
use Rattle.zir_cells.specs.Cells.{cells_of}
use Rattle.zir_laws.specs.Process.{Proc, Gives, Needs, run}
use Rattle.zir_meaning.specs.Trace.{State}
use Rattle.zir_play.specs.Runs.{numbers_of, GoesOn, IsFront}

-- the numbers of outputs and of more
pub numbers-append : (os ps : List Out) → numbers_of (os ++ ps) ≡ numbers_of os ++ numbers_of ps
numbers-append [] ps = refl
numbers-append (o ∷ os) ps =
    ap (λ ns. cells_of o.value ++ ns) (numbers-append os ps) ∙ sym (append_assoc (cells_of o.value) (numbers_of os) (numbers_of ps))

-- the numbers of outputs and of one more
pub numbers-push : (os : List Out) (o : Out) → numbers_of (os ++ o ∷ []) ≡ numbers_of os ++ cells_of o.value
numbers-push os o = numbers-append os (o ∷ []) ∙ ap (λ ns. numbers_of os ++ ns) (append-nil (cells_of o.value))

-- one more output behind others
pub after-push : (os : List Out) (o : Out) (t : Trace) → after os (gives o t) ≡ after (os ++ o ∷ []) t
after-push os o t = ap (λ (ps : List Out). record t { outs = ps }) (sym (append_assoc os (o ∷ []) t.outs))

-- the trace over all elements, by what follows those that were taken
pub trace_is : (p q : Proc) (xs received rest : List Val) (outs : List Out) → GoesOn p q received outs → xs ≡ received ++ rest → run p xs ≡ after outs (run q rest)
trace_is p q xs received rest outs g e = ap (run p) e ∙ g.runs rest

-- what was given is the front of it
pub front_is : (p q : Proc) (xs received rest : List Val) (outs : List Out) → GoesOn p q received outs → xs ≡ received ++ rest → IsFront outs (run p xs)
front_is p q xs received rest outs g e = record { more = (run q rest).outs; outs = ap (λ t. t.outs) (trace_is p q xs received rest outs g e) }

-- nothing was taken and given yet
pub goes_on_from : (p : Proc) → GoesOn p p [] []
goes_on_from p = record { runs = λ ws. refl }

-- one more output
pub goes_on_given : (p q : Proc) (o : Out) (received : List Val) (outs : List Out) → GoesOn p (Gives o q) received outs → GoesOn p q received (outs ++ o ∷ [])
goes_on_given p q o received outs g = record { runs = λ ws. g.runs ws ∙ after-push outs o (run q ws) }

-- one more element
pub goes_on_taken : (p : Proc) (s : State) (f : Val → Proc) (x : Val) (received : List Val) (outs : List Out) → GoesOn p (Needs s f) received outs → GoesOn p (f x) (received ++ x ∷ []) outs
goes_on_taken p s f x received outs g = record { runs = λ ws. ap (run p) (append_assoc received (x ∷ []) ws) ∙ g.runs (x ∷ ws) }
