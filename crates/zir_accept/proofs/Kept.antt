-- What was accepted went through all passes.
use Rattle.std.specs.Prelude.{◌≡◌, refl, Option, Some, None, Result, Ok, Err, IfOk}
use Rattle.std.proofs.Common.{ap, ◌∙◌, sym, subst}
use Rattle.zir_tree.specs.declared.program.Prog.{Prog}
use Rattle.zir_tree.specs.declared.program.Core.{Core}
use Rattle.zir_tree.specs.declared.refusal.Refusal.{Refusal}
use Rattle.zir_names.specs.declared.program.Named.{Named}
use Rattle.zir_names.specs.Walk as names_walk
use Rattle.zir_names.specs.Programs.{names}
use Rattle.zir_names.specs.Sharing.{Conflict, refusal_of}
use Rattle.zir_types.specs.Walk as types_walk
use Rattle.zir_types.specs.Programs.{program}
use Rattle.zir_types.specs.Limits.{Passed, limits}
use Rattle.zir_sound.specs.Laws.{CoresAreSound, NamesAreOwn}
use Rattle.zir_accept.specs.declared.passes.Accepted.{Accepted}
use Rattle.zir_accept.specs.Accepting.{Tells, after_names, after_sharing, after_types, broken_limit, broken_rule, judged, unless_broken}
use Rattle.zir_accept.specs.Soundness.{AcceptedKeepRules, KeepsRules}

accepted_of : Accepted → Result Accepted Refusal → Accepted
accepted_of x (Ok a) = a
accepted_of x (Err e) = x

same_accepted : (x y : Accepted) → let u : Result Accepted Refusal = Ok x in let v : Result Accepted Refusal = Ok y in u ≡ v → x ≡ y
unfolding accepted_of
same_accepted x y h = ap (accepted_of x) h

unless_is : (b : Option Refusal) (a accepted : Accepted) → unless_broken b a ≡ Ok accepted → (b ≡ None) × (a ≡ accepted)
unless_is None a accepted h = (refl, same_accepted a accepted h)
unless_is (Some why) a accepted h = absurd cc

limit_is : (o : Option Passed) → broken_limit o ≡ None → o ≡ None
limit_is None h = refl
limit_is (Some passed) h = absurd cc

sharing_is : (o : Option Conflict) (p : Prog) (core : Core) → after_sharing o p core ≡ None → (o ≡ None) × (limits p core ≡ None)
sharing_is None p core h = (refl, limit_is (limits p core) h)
sharing_is (Some c) p core h = absurd cc

typed_is : CoresAreSound → NamesAreOwn → (p : Prog) (n : Named) (w : types_walk.Walk Core) (accepted : Accepted) → names p ≡ names_walk.Fine n → program n.program ≡ w →
    after_types w n ≡ Ok accepted → KeepsRules accepted
typed_is sound own p n (types_walk.Fine core) accepted named types h =
    let u = unless_is (broken_rule n core) (record { program = n; core = core }) accepted h in
    let s = sharing_is (refusal_of n) n.program core u.0 in
    subst KeepsRules u.1 (record { core = sound n.program core (own p n named) types; sides = s.0; sizes = s.1 })
typed_is sound own p n (types_walk.Broken e) accepted named types h = absurd cc

named_is : CoresAreSound → NamesAreOwn → (p : Prog) (w : names_walk.Walk Named) (accepted : Accepted) → names p ≡ w → after_names w ≡ Ok accepted → KeepsRules accepted
named_is sound own p (names_walk.Fine n) accepted named h = typed_is sound own p n (program n.program) accepted named refl h
named_is sound own p (names_walk.Broken e) accepted named h = absurd cc

pub accepted_kept : CoresAreSound → NamesAreOwn → AcceptedKeepRules
accepted_kept sound own p accepted h = named_is sound own p (names p) accepted refl h

-- What is answered for a program keeps all rules, where it is accepted.
pub kept_if_ok : AcceptedKeepRules → (p : Prog) (r : Result Accepted Refusal) → Tells (judged p) r → IfOk r KeepsRules
kept_if_ok keep p (Ok accepted) h = keep p accepted h
kept_if_ok keep p (Err why) h = tt
