use Rattle.std.proofs.Common.{◌≡◌, ◌++◌, List, ℕ, codes, decimal, ap, ◌∙◌, subst, append_assoc}
use Rattle.zir_outside.specs.Sinks.{Grew, GrewPart}
use Rattle.zir_meaning.specs.Notes.{counts_of, place_text}
use Rattle.zir_end_notes.proofs.Growing.{from_ok, from_error}
use Rattle.zir_end_notes.proofs.write_trap.Goals as goal

-- the note in three parts
parts : (f n a p l c : List ℕ) → f ++ (n ++ (((a ++ p) ++ l) ++ c)) ≡ ((((f ++ n) ++ a) ++ p) ++ l) ++ c
parts f n a p l c = simp append_assoc

-- what the parts are
whole : (first third front n a p l c : List ℕ) → first ≡ front → third ≡ ((a ++ p) ++ l) ++ c → first ++ (n ++ third) ≡ ((((front ++ n) ++ a) ++ p) ++ l) ++ c
whole first third front n a p l c e f = ap (λ x. x ++ (n ++ third)) e ∙ ap (λ x. front ++ (n ++ x)) f ∙ parts front n a p l c

pub returns-clause-ok : goal.returns-clause-ok
returns-clause-ok g c =
    let s = g.N.Sink.stands_for in
    let e : c.as_bytes.result.now ≡ codes "trap " ++ decimal c.args.trap.code ++ codes " in " = cc in
    let f : c.as_bytes-2.result.now ≡ codes " at " ++ place_text c.args.trap.at ++ codes "\n" ++ counts_of c.args.taken c.args.written = cc in
    let same = whole c.as_bytes.result.now c.as_bytes-2.result.now (codes "trap " ++ decimal c.args.trap.code ++ codes " in ") c.args.name.now (codes " at ") (place_text c.args.trap.at) (codes "\n") (counts_of c.args.taken c.args.written) e f in
    from_ok c.put_three.result (λ grew. subst (λ t. Grew (s c.args.notes.now) (s c.put_three.new.sink) t) same grew) c.put_three.ensures.ok

pub returns-clause-failed : goal.returns-clause-failed
returns-clause-failed g c =
    let s = g.N.Sink.stands_for in
    let e : c.as_bytes.result.now ≡ codes "trap " ++ decimal c.args.trap.code ++ codes " in " = cc in
    let f : c.as_bytes-2.result.now ≡ codes " at " ++ place_text c.args.trap.at ++ codes "\n" ++ counts_of c.args.taken c.args.written = cc in
    let same = whole c.as_bytes.result.now c.as_bytes-2.result.now (codes "trap " ++ decimal c.args.trap.code ++ codes " in ") c.args.name.now (codes " at ") (place_text c.args.trap.at) (codes "\n") (counts_of c.args.taken c.args.written) e f in
    from_error c.put_three.result (λ grew. subst (λ t. GrewPart t (s c.args.notes.now) (s c.put_three.new.sink)) same grew) c.put_three.ensures.failed
