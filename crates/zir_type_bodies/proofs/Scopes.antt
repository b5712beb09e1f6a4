-- Scopes that grow, and are left again.
use Rattle.std.specs.Prelude.{◌≡◌, ℕ, List, [], ◌++◌, length, take}
use Rattle.std.proofs.Common.{ap, ◌∙◌}
use Rattle.std.proofs.lemmas.List.{append-nil, append_assoc}
use Rattle.std.proofs.Math.Seq.{take-append_seam}
use Rattle.zir_types.specs.declared.scope.Seen.{Seen}
use Rattle.zir_types.specs.Scope.{Visible, declare}

-- A scope with these variables.
abbrev pub seeing : Visible → List Seen → Visible
seeing g vs = record { shapes = g.shapes; functions = g.functions; variables = vs }

-- A scope with its first variables alone.
abbrev pub left : ℕ → Visible → Visible
left n g = seeing g (take n g.variables)

pub declare-none : (g : Visible) → declare [] g ≡ g
declare-none g = ap (seeing g) (append-nil g.variables)

pub declare-more : (g : Visible) (vs ws : List Seen) → declare ws (declare vs g) ≡ declare (vs ++ ws) g
declare-more g vs ws = ap (seeing g) (append_assoc g.variables vs ws)

-- What was declared behind a scope is left again.
pub left-declare : (g : Visible) (vs : List Seen) → left (length g.variables) (declare vs g) ≡ g
left-declare g vs = ap (seeing g) (take-append_seam g.variables vs)

-- A scope that others stood behind is as before.
pub left_again : (g g1 g2 g3 : Visible) (vs : List Seen) (n : ℕ) → n ≡ length g.variables → g1 ≡ declare vs g → g2 ≡ g1 → g3 ≡ left n g2 → g3 ≡ g
left_again g g1 g2 g3 vs n hn h1 h2 h3 = h3 ∙ ap (λ k. left k g2) hn ∙ ap (left (length g.variables)) (h2 ∙ h1) ∙ left-declare g vs
