-- Functions and instances visited one after the other.
use Rattle.std.specs.Prelude.{◌≡◌, ℕ, List, [], ◌∷◌, ◌++◌}
use Rattle.std.proofs.Common.{ap, ◌∙◌, sym, append_assoc}
use Rattle.zir_tree.specs.declared.program.Function.{Function}
use Rattle.zir_tree.specs.declared.program.Instance.{Instance}
use Rattle.zir_types.specs.declared.scope.Seen.{Seen}
use Rattle.zir_types.specs.Scope.{Visible}
use Rattle.zir_types.specs.Limits.{in_functions, in_instances}
use Rattle.zir_limits.specs.declared.notes.Call.{Call}
use Rattle.zir_limits.specs.declared.notes.Notes.{Notes}
use Rattle.zir_limits.specs.Facts.{CoreFacts, sight}
use Rattle.zir_limits.specs.Notes.{calls_in}
use Rattle.zir_limits_walks.specs.declared.found.Visited.{Visited}
use Rattle.zir_limits_walks.specs.Bodies.{firsts, function_measures, instance_measures, function_need, instance_need, functions_known, instances_known, function_calls, instance_calls}
use Rattle.zir_limits_walks.proofs.Firsts.{firsts-more}

-- calls and a need
abbrev pub visiting : List Call → ℕ → Visited
visiting calls need = record { calls = calls; need = need }

-- notes whose calls are taken away
abbrev pub hushed : Notes → Notes
hushed n = record n { calls = [] }

-- the calls of one more body
one_more : (calls later : List (List Call)) (before cs found : List Call) → before ≡ [] → found ≡ before ++ cs → calls ++ cs ∷ later ≡ (calls ++ found ∷ []) ++ later
one_more calls later before cs found h e =
    ap (λ xs. calls ++ xs ∷ later) (sym (e ∙ ap (λ xs. xs ++ cs) h)) ∙ sym (append_assoc calls (found ∷ []) later)

-- what is noted, called and known with functions so far, and those that are left
pub record FunctionsSoFar (f0 : CoreFacts) (vs0 : List Seen) (n0 : Notes) (all : List Function) (f : CoreFacts) (vs : List Seen) (n : Notes) (calls : List (List Call)) (left : List Function) : Type 0 where
  pub measured : firsts (in_functions (sight f0 vs0) all) n0 ≡ firsts (in_functions (sight f vs) left) n
  pub called : function_calls (sight f0 vs0) all ≡ calls ++ function_calls (sight f vs) left
  pub known : functions_known f0 all ≡ functions_known f left
  pub quiet : n.calls ≡ []
  pub seen : vs ≡ vs0

pub next_function : (f0 : CoreFacts) (vs0 : List Seen) (n0 : Notes) (all : List Function) (f g : CoreFacts) (vs ws : List Seen) (n m : Notes) (calls : List (List Call)) (x : Function) (rest : List Function) (v : Visited) →
    FunctionsSoFar f0 vs0 n0 all f vs n calls (x ∷ rest) →
    v ≡ visiting (n.calls ++ calls_in (function_measures (sight f vs) x)) (function_need f x) → m ≡ firsts (function_measures (sight f vs) x) n → ws ≡ vs →
    g ≡ record f { function_needs = f.function_needs ++ v.need ∷ [] } → FunctionsSoFar f0 vs0 n0 all g ws m (calls ++ v.calls ∷ []) rest
next_function f0 vs0 n0 all f g vs ws n m calls x rest v s hv hm hs hg =
    let here : Visible = sight f vs in
    let same : here ≡ sight g ws = λ i. sight (sym hg i) (sym hs i) in record {
      measured =
          s.measured ∙ firsts-more (function_measures here x) (in_functions here rest) n
          ∙ ap (firsts (in_functions here rest)) (sym hm) ∙ ap (λ (u : Visible). firsts (in_functions u rest) m) same;
      called =
          s.called ∙ one_more calls (function_calls here rest) n.calls (calls_in (function_measures here x)) v.calls s.quiet (ap (λ (w : Visited). w.calls) hv)
          ∙ ap (λ (u : Visible). (calls ++ v.calls ∷ []) ++ function_calls u rest) same;
      known =
          s.known ∙ ap (λ k. functions_known (record f { function_needs = f.function_needs ++ k ∷ [] }) rest) (sym (ap (λ (w : Visited). w.need) hv))
          ∙ ap (λ k. functions_known k rest) (sym hg);
      quiet = ap (λ (u : Notes). u.calls) hm;
      seen = hs ∙ s.seen;
    }

-- the same with instances
pub record InstancesSoFar (f0 : CoreFacts) (vs0 : List Seen) (n0 : Notes) (all : List Instance) (f : CoreFacts) (vs : List Seen) (n : Notes) (calls : List (List Call)) (left : List Instance) : Type 0 where
  pub measured : firsts (in_instances f0.instances (sight f0 vs0) all) n0 ≡ firsts (in_instances f.instances (sight f vs) left) n
  pub called : instance_calls f0.instances (sight f0 vs0) all ≡ calls ++ instance_calls f.instances (sight f vs) left
  pub known : instances_known f0 vs0 all ≡ instances_known f vs left
  pub quiet : n.calls ≡ []
  pub seen : vs ≡ vs0

pub next_instance : (f0 : CoreFacts) (vs0 : List Seen) (n0 : Notes) (all : List Instance) (f g : CoreFacts) (vs ws : List Seen) (n m : Notes) (calls : List (List Call)) (x : Instance) (rest : List Instance) (v : Visited) →
    InstancesSoFar f0 vs0 n0 all f vs n calls (x ∷ rest) →
    v ≡ visiting (n.calls ++ calls_in (instance_measures f.instances (sight f vs) x)) (instance_need f vs x) → m ≡ firsts (instance_measures f.instances (sight f vs) x) n → ws ≡ vs →
    g ≡ record f { instance_needs = f.instance_needs ++ v.need ∷ [] } → InstancesSoFar f0 vs0 n0 all g ws m (calls ++ v.calls ∷ []) rest
next_instance f0 vs0 n0 all f g vs ws n m calls x rest v s hv hm hs hg =
    let here : Visible = sight f vs in
    let is : List Instance = f.instances in record {
      measured =
          s.measured ∙ firsts-more (instance_measures is here x) (in_instances is here rest) n
          ∙ ap (firsts (in_instances is here rest)) (sym hm) ∙ (λ i. firsts (in_instances (sym hg i).instances (sight (sym hg i) (sym hs i)) rest) m);
      called =
          s.called ∙ one_more calls (instance_calls is here rest) n.calls (calls_in (instance_measures is here x)) v.calls s.quiet (ap (λ (w : Visited). w.calls) hv)
          ∙ (λ i. (calls ++ v.calls ∷ []) ++ instance_calls (sym hg i).instances (sight (sym hg i) (sym hs i)) rest);
      known =
          s.known ∙ ap (λ k. instances_known (record f { instance_needs = f.instance_needs ++ k ∷ [] }) vs rest) (sym (ap (λ (w : Visited). w.need) hv))
          ∙ (λ i. instances_known (sym hg i) (sym hs i) rest);
      quiet = ap (λ (u : Notes). u.calls) hm;
      seen = hs ∙ s.seen;
    }
