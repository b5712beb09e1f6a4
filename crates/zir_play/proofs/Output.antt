-- What was written, and then more.
use Rattle.std.proofs.Common.{◌≡◌, ℕ, suc, ℤ, Bool, false, List, [], ◌∷◌, ◌++◌, length-append, ap, sym, subst, refl, ◌∙◌, append_assoc, arith}
use Rattle.std.proofs.lemmas.List.{append-nil}
use Rattle.zir_meaning.specs.Elements.{spell_numbers}
use Rattle.zir_outside.specs.Sinks.{Grew}
use Rattle.zir_expr.specs.Memory.{after, cell_at}
use Rattle.zir_expr.specs.Memory.Frames.{Memory}
use Rattle.zir_flow.specs.Threads.{cells_from}
use Rattle.zir_samples.specs.Writing.{Kept, Holds, Wrote, PutsPart, PutsRest}
use Rattle.zir_play.specs.Turning.{PutsFront}

-- nothing stands before an empty whole
none_before : (xs ys : List ℕ) → xs ++ ys ≡ [] → xs ≡ []
none_before [] ys e = refl
none_before (x ∷ xs) ys e = absurd (cc)

-- nothing stands behind in an empty whole
none_behind : (xs ys : List ℕ) → xs ++ ys ≡ [] → ys ≡ []
none_behind [] ys e = e
none_behind (x ∷ xs) ys e = absurd (cc)

-- nothing was written
pub wrote_none : {K : Type 0} (stands_for : K → List ℕ → Type 0) (sink : K) (kept : Kept) → Wrote stands_for sink sink kept kept []
wrote_none stands_for sink kept = record {
  front = [];
  grew = λ h stands. subst (stands_for sink) (sym (append-nil h)) stands;
  pieces = refl;
  left = λ e. refl;
  holds = λ numbers given h. subst (λ ns. Holds kept ns (given ++ [])) (sym (append-nil numbers)) (subst (Holds kept numbers) (sym (append-nil given)) h);
  format = refl;
  base = refl;
}

-- a sink that grew twice grew by both
grew_then : (before mid now : List ℕ → Type 0) (xs ys : List ℕ) → Grew before mid xs → Grew mid now ys → Grew before now (xs ++ ys)
grew_then before mid now xs ys g h bytes stands = subst now (append_assoc bytes xs ys) (h (bytes ++ xs) (g bytes stands))

-- numbers were written, and then more
pub wrote_then : {K : Type 0} (stands_for : K → List ℕ → Type 0) (before mid now : K) (old kept new : Kept) (xs ys : List ℤ) → Wrote stands_for before mid old kept xs → Wrote stands_for mid now kept new ys → Wrote stands_for before now old new (xs ++ ys)
wrote_then stands_for before mid now old kept new xs ys w v = record {
  front = w.front ++ v.front;
  grew = grew_then (stands_for before) (stands_for mid) (stands_for now) w.front v.front w.grew v.grew;
  pieces = omega (arith, length-append w.front v.front, w.pieces, v.pieces);
  left = λ e. v.left (none_behind w.front v.front e) ∙ w.left (none_before w.front v.front e);
  holds = λ numbers given h.
      subst (λ ns. Holds new ns (given ++ (w.front ++ v.front))) (append_assoc numbers xs ys)
      (subst (Holds new ((numbers ++ xs) ++ ys)) (append_assoc given w.front v.front) (v.holds (numbers ++ xs) (given ++ w.front) (w.holds numbers given h)));
  format = v.format ∙ w.format;
  base = v.base ∙ w.base;
}

-- what numbers and more of them are written as, by what was put of the first and what follows
spelled_then : {K : Type 0} (stands_for : K → List ℕ → Type 0) (before mid : K) (old kept : Kept) (xs ys : List ℤ) (rest : List ℕ) (finished : Bool) → (w : Wrote stands_for before mid old kept xs) →
    ((numbers : List ℤ) (given : List ℕ) → Holds kept numbers given → spell_numbers kept.format kept.base finished (numbers ++ ys) ≡ given ++ rest) →
    (numbers : List ℤ) (given : List ℕ) → Holds old numbers given → spell_numbers old.format old.base finished (numbers ++ (xs ++ ys)) ≡ given ++ (w.front ++ rest)
spelled_then stands_for before mid old kept xs ys rest finished w spelled numbers given h =
    ap (λ f. spell_numbers f old.base finished (numbers ++ (xs ++ ys))) (sym w.format)
    ∙ ap (λ b. spell_numbers kept.format b finished (numbers ++ (xs ++ ys))) (sym w.base)
    ∙ ap (spell_numbers kept.format kept.base finished) (sym (append_assoc numbers xs ys))
    ∙ spelled (numbers ++ xs) (given ++ w.front) (w.holds numbers given h)
    ∙ append_assoc given w.front rest

-- numbers were written, and then a front part of more
pub part_after : {K : Type 0} (stands_for : K → List ℕ → Type 0) (before mid now : K) (old kept : Kept) (xs ys : List ℤ) (finished : Bool) → Wrote stands_for before mid old kept xs → PutsPart stands_for mid now kept ys finished → PutsPart stands_for before now old (xs ++ ys) finished
part_after stands_for before mid now old kept xs ys finished w p = record {
  rest = w.front ++ p.rest;
  grew = (
    w.front ++ p.grew.0,
    p.grew.1,
    ap (λ bytes. w.front ++ bytes) p.grew.2 ∙ sym (append_assoc w.front p.grew.0 p.grew.1),
    grew_then (stands_for before) (stands_for mid) (stands_for now) w.front p.grew.0 w.grew p.grew.3,
  );
  spelled = spelled_then stands_for before mid old kept xs ys p.rest finished w p.spelled;
}

-- numbers were written, and then the rest of more
pub rest_after : {K : Type 0} (stands_for : K → List ℕ → Type 0) (before mid now : K) (old kept : Kept) (xs ys : List ℤ) (finished : Bool) → Wrote stands_for before mid old kept xs → PutsRest stands_for mid now kept ys finished → PutsRest stands_for before now old (xs ++ ys) finished
rest_after stands_for before mid now old kept xs ys finished w p = record {
  rest = w.front ++ p.rest;
  grew = grew_then (stands_for before) (stands_for mid) (stands_for now) w.front p.rest w.grew p.grew;
  spelled = spelled_then stands_for before mid old kept xs ys p.rest finished w p.spelled;
}

-- of all numbers some were written, and these are still to come
pub record Putting {K : Type 0} (stands_for : K → List ℕ → Type 0) (before now : K) (old new : Kept) (all rest : List ℤ) : Type 0 where
  pub done : List ℤ
  pub split : all ≡ done ++ rest
  pub wrote : Wrote stands_for before now old new done

-- none was written
pub put_none : {K : Type 0} (stands_for : K → List ℕ → Type 0) (sink : K) (kept : Kept) (all : List ℤ) → Putting stands_for sink sink kept kept all all
put_none stands_for sink kept all = record { done = []; split = refl; wrote = wrote_none stands_for sink kept }

-- the first of those to come moves over
split_more : (all done rest more : List ℤ) (x : ℤ) → all ≡ done ++ rest → rest ≡ x ∷ more → all ≡ (done ++ x ∷ []) ++ more
split_more all done rest more x e f = e ∙ ap (λ ns. done ++ ns) f ∙ sym (append_assoc done (x ∷ []) more)

-- one more was written
pub put_more : {K : Type 0} (stands_for : K → List ℕ → Type 0) (before mid now : K) (old kept new : Kept) (all rest more : List ℤ) (x : ℤ) → Putting stands_for before mid old kept all rest → rest ≡ x ∷ more → Wrote stands_for mid now kept new (x ∷ []) → Putting stands_for before now old new all more
put_more stands_for before mid now old kept new all rest more x p e w = record {
  done = p.done ++ x ∷ [];
  split = split_more all p.done rest more x p.split e;
  wrote = wrote_then stands_for before mid now old kept new p.done (x ∷ []) p.wrote w;
}

-- all were written
pub put_all : {K : Type 0} (stands_for : K → List ℕ → Type 0) (before now : K) (old new : Kept) (all rest : List ℤ) → Putting stands_for before now old new all rest → rest ≡ [] → Wrote stands_for before now old new all
put_all stands_for before now old new all rest p e =
    subst (Wrote stands_for before now old new) (sym (p.split ∙ ap (λ ns. p.done ++ ns) e ∙ append-nil p.done)) p.wrote

-- one more was put in part
pub put_part : {K : Type 0} (stands_for : K → List ℕ → Type 0) (before mid now : K) (old kept : Kept) (all rest more : List ℤ) (x : ℤ) → Putting stands_for before mid old kept all rest → rest ≡ x ∷ more → PutsPart stands_for mid now kept (x ∷ []) false → PutsFront stands_for before now old all
put_part stands_for before mid now old kept all rest more x p e part = record {
  some = p.done ++ x ∷ [];
  more = more;
  split = split_more all p.done rest more x p.split e;
  part = part_after stands_for before mid now old kept p.done (x ∷ []) false p.wrote part;
}

-- the cells from an index on begin with that one
pub cells_first : (n k at : ℕ) (m : Memory) (x : ℤ) → n ≡ suc k → x ≡ cell_at at m → cells_from n at m ≡ x ∷ cells_from k (after at) m
cells_first n k at m x e f = rw (e, f) refl

-- no cells
pub cells_none : (n at : ℕ) (m : Memory) → n ≡ 0 → cells_from n at m ≡ []
cells_none n at m e = rw e refl
