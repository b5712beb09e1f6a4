-- Components and declarations by what they begin with.
use Rattle.std.proofs.Common.{◌≡◌, ◌≤◌, ◌<◌, ℕ, max, List, [], ◌∷◌, ◌++◌, length, Option, Some, None, Err, refl, ap, ◌∙◌, arith, subst}
use Rattle.zir_tree.specs.declared.place.Place.{Place}
use Rattle.zir_tree.specs.declared.comp.Comp.{Comp}
use Rattle.zir_tree.specs.declared.program.Decl.{Decl}
use Rattle.zir_tree.specs.declared.program.Prog.{Prog}
use Rattle.zir_lex.specs.declared.token.Token.{Token}
use Rattle.zir_lex.specs.declared.token.Lexeme.{Lexeme}
use Rattle.zir_lex.specs.declared.token.Lexeme.TheVariants as lexeme
use Rattle.zir_lex.specs.declared.token.Keyword.TheVariants as keyword
use Rattle.zir_lex.specs.declared.token.Symbol.TheVariants as symbol
use Rattle.zir_grammar.specs.declared.error.ParseError.TheVariants as errors
use Rattle.zir_grammar.specs.Wants.{a_name, told, if_found}
use Rattle.zir_grammar.specs.Parts.{Rest, a_chain, more_decls, reads, follow, done_with, atom_entries, decl_entries}
use Rattle.zir_grammar.specs.Machine.{least, found, run}
use Rattle.zir_grammar.specs.Reading.{at_front, HasRoom}
use Rattle.zir_grammar.proofs.Descent.{front_none, follow_follow}
use Rattle.zir_grammar.proofs.Tables.{found_lead}
use Rattle.zir_parse.specs.declared.heads.Loop.TheVariants as «loop»
use Rattle.zir_parse.specs.declared.heads.Form.TheVariants as form
use Rattle.zir_parse.specs.declared.heads.Single.TheVariants as single
use Rattle.zir_parse.specs.declared.heads.Head.{Head}
use Rattle.zir_parse.specs.declared.heads.Head.TheVariants as head
use Rattle.zir_parse.specs.declared.heads.Declares.{Declares}
use Rattle.zir_parse.specs.declared.heads.Declares.TheVariants as declares
use Rattle.zir_parse.specs.Heads.{head_of, head_front, least_height, behind_head, declares_of, declares_front, behind_word}
use Rattle.zir_parse.proofs.Steps.{takes, takes_deep, stops, passes, lead_none}

-- the table finds what the head says
head_entry : (l : Lexeme) (at : Place) → told a_name (record { lexeme = l; at = at }) ≡ None
    → found atom_entries (record { lexeme = l; at = at }) ≡ if_found (head_of l) (λ h. Some (behind_head h at)) None
head_entry (lexeme.Name x) at e = absurd (cc e)
head_entry (lexeme.Keyword keyword.Take) at e = refl
head_entry (lexeme.Keyword keyword.Takes) at e = refl
head_entry (lexeme.Keyword keyword.Map) at e = refl
head_entry (lexeme.Keyword keyword.Filter) at e = refl
head_entry (lexeme.Keyword keyword.Emit) at e = refl
head_entry (lexeme.Keyword keyword.Emits) at e = refl
head_entry (lexeme.Keyword keyword.Return) at e = refl
head_entry (lexeme.Keyword keyword.Do) at e = refl
head_entry (lexeme.Keyword keyword.Repeat) at e = refl
head_entry (lexeme.Keyword keyword.While) at e = refl
head_entry (lexeme.Keyword keyword.Until) at e = refl
head_entry (lexeme.Keyword keyword.Times) at e = refl
head_entry (lexeme.Keyword keyword.For) at e = refl
head_entry (lexeme.Keyword keyword.If) at e = refl
head_entry (lexeme.Symbol symbol.LeftBrace) at e = refl
head_entry (lexeme.Symbol symbol.LeftParenthesis) at e = refl
head_entry l at e = refl

-- a component that begins so is at least so high
least_behind : (h : Head) (at : Place) → least (behind_head h at) ≡ least_height h
least_behind (head.Single single.Take) at = refl
least_behind (head.Single single.Takes) at = refl
least_behind (head.Single single.Map) at = refl
least_behind (head.Single single.Filter) at = refl
least_behind (head.Form (form.Giving g)) at = refl
least_behind (head.Form form.Do) at = refl
least_behind (head.Form (form.Loop «loop».Repeat)) at = refl
least_behind (head.Form (form.Loop («loop».Turn how))) at = refl
least_behind (head.Form (form.Loop «loop».Times)) at = refl
least_behind (head.Form (form.Loop «loop».For)) at = refl
least_behind (head.Form form.If) at = refl
least_behind (head.Form form.Block) at = refl
least_behind (head.Form form.Enclosed) at = refl

some_height : (h : Head) → 1 ≤ least_height h
some_height (head.Single s) = omega arith
some_height (head.Form f) = omega arith

-- what an option of a first token says of the tokens
looked_up : {A : Type 0} (o : Option A) (t : Token) (ts : List Token) (h : A) (at : Place) (rest : List Token)
    → ◌≡◌ {A = Option (A × Place × List Token)} (if_found o (λ x. Some (x, t.at, ts)) None) (Some (h, at, rest))
    → (o ≡ Some h) × (t.at ≡ at) × (ts ≡ rest)
looked_up {A = A} (Some x) t ts h at rest e =
    let all : (x, t.at, ts) ≡ (h, at, rest) = cc e in
    (ap (λ (y : A × Place × List Token). Some y.0) all, ap (λ (y : A × Place × List Token). y.1) all, ap (λ (y : A × Place × List Token). y.2) all)
looked_up None t ts h at rest e = absurd (cc e)

not_looked_up : {A : Type 0} (o : Option A) (t : Token) (ts : List Token)
    → ◌≡◌ {A = Option (A × Place × List Token)} (if_found o (λ x. Some (x, t.at, ts)) None) None → o ≡ None
not_looked_up (Some x) t ts e = absurd (cc e)
not_looked_up None t ts e = refl

head_found : (t : Token) (h : Head) (at : Place) → told a_name t ≡ None → head_of t.lexeme ≡ Some h → t.at ≡ at
    → found atom_entries t ≡ Some (behind_head h at)
head_found t h at none is place =
    head_entry t.lexeme t.at none ∙ ap (λ o. if_found o (λ x. Some (behind_head x t.at)) None) is ∙ ap (λ p. Some (behind_head h p)) place

-- what a component begins with, and what is expected behind that has room
pub head_taken : (most room : ℕ) (k : Comp → ℕ → Rest Prog) (ts : List Token) (h : Head) (at : Place) (rest : List Token)
    → at_front a_name ts ≡ None → head_front ts ≡ Some (h, at, rest) → HasRoom most k 1 room → least_height h ≤ room
    → run most (reads (a_chain 0) k) ts ≡ run most (follow (behind_head h at) k) rest
head_taken most room k [] h at rest none e has within = absurd (cc e)
head_taken most room k (t ∷ ts) h at rest none e has within =
    let x = looked_up (head_of t.lexeme) t ts h at rest e in
    takes most 1 room (a_chain 0) k t ts (behind_head h at) (head_found t h at (front_none a_name t ts none) x.0 x.1) has
    (omega (arith, least_behind h at, some_height h)) (omega (arith, least_behind h at, within))
    ∙ ap (run most (follow (behind_head h at) k)) x.2

pub head_deep : (most room : ℕ) (k : Comp → ℕ → Rest Prog) (ts : List Token) (h : Head) (at : Place) (rest : List Token)
    → at_front a_name ts ≡ None → head_front ts ≡ Some (h, at, rest) → HasRoom most k 1 room → room < least_height h
    → run most (reads (a_chain 0) k) ts ≡ Err (errors.TooDeep (length ts))
head_deep most room k [] h at rest none e has beyond = absurd (cc e)
head_deep most room k (t ∷ ts) h at rest none e has beyond =
    let x = looked_up (head_of t.lexeme) t ts h at rest e in
    takes_deep most 1 room (a_chain 0) k t ts (behind_head h at) (head_found t h at (front_none a_name t ts none) x.0 x.1) has
    (omega (arith, least_behind h at, some_height h)) (omega (arith, least_behind h at, beyond))

head_absent : (t : Token) (ts : List Token) → at_front a_name (t ∷ ts) ≡ None → head_front (t ∷ ts) ≡ None → found atom_entries t ≡ None
head_absent t ts none e =
    head_entry t.lexeme t.at (front_none a_name t ts none)
    ∙ ap (λ o. if_found o (λ x. Some (behind_head x t.at)) None) (not_looked_up (head_of t.lexeme) t ts e)

-- nothing that a component begins with
pub no_head : (most : ℕ) (k : Comp → ℕ → Rest Prog) (ts : List Token) → at_front a_name ts ≡ None → head_front ts ≡ None
    → run most (reads (a_chain 0) k) ts ≡ Err (errors.Syntax (length ts))
no_head most k ts none e =
    stops most (a_chain 0) k ts refl
    (λ t us is. head_absent t us (subst (λ l. at_front a_name l ≡ None) is none) (subst (λ l. head_front l ≡ None) is e))

-- ---- declarations

declares_entry : (l : Lexeme) (at : Place)
    → found decl_entries (record { lexeme = l; at = at }) ≡ if_found (declares_of l) (λ d. Some (behind_word d at)) None
declares_entry (lexeme.Keyword keyword.Struct) at = refl
declares_entry (lexeme.Keyword keyword.Fun) at = refl
declares_entry (lexeme.Keyword keyword.Var) at = refl
declares_entry l at = refl

least_word : (d : Declares) (at : Place) → least (behind_word d at) ≤ 2
least_word declares.Struct at = omega arith
least_word declares.Function at = omega arith
least_word declares.Var at = omega arith

-- behind a declaration
abbrev pub next_decl : List Decl → ℕ → (List Decl → ℕ → Rest Prog) → Decl → ℕ → Rest Prog
next_decl done low k d h = reads (more_decls (done ++ d ∷ []) (max low h)) k

word_least : (d : Declares) (at : Place) (done : List Decl) (low room : ℕ) → low ≤ room → 2 ≤ room
    → least (follow (behind_word d at) (λ e h. reads (more_decls (done ++ e ∷ []) (max low h)) done_with)) ≤ room
word_least declares.Struct at done low room small two = omega (arith, small, two)
word_least declares.Function at done low room small two = omega (arith, small, two)
word_least declares.Var at done low room small two = omega (arith, small, two)

-- what a declaration begins with
pub declared_taken : (most room : ℕ) (done : List Decl) (low : ℕ) (k : List Decl → ℕ → Rest Prog) (ts : List Token) (d : Declares) (at : Place)
    (rest : List Token) → declares_front ts ≡ Some (d, at, rest) → HasRoom most k 0 room → low ≤ room → 2 ≤ room
    → run most (reads (more_decls done low) k) ts ≡ run most (follow (behind_word d at) (next_decl done low k)) rest
declared_taken most room done low k [] d at rest e has small two = absurd (cc e)
declared_taken most room done low k (t ∷ ts) d at rest e has small two =
    let x = looked_up (declares_of t.lexeme) t ts d at rest e in
    let is : found decl_entries t ≡ Some (behind_word d at) =
    declares_entry t.lexeme t.at ∙ ap (λ o. if_found o (λ y. Some (behind_word y t.at)) None) x.0 ∙ ap (λ p. Some (behind_word d p)) x.1 in
    takes most 0 room (more_decls done low) k t ts (follow (behind_word d at) (λ e h. reads (more_decls (done ++ e ∷ []) (max low h)) done_with))
    (found_lead decl_entries (λ e h. reads (more_decls (done ++ e ∷ []) (max low h)) done_with) t (behind_word d at) is) has (omega arith)
    (word_least d at done low room small two)
    ∙ ap (λ r. run most r ts) (follow_follow (behind_word d at) (λ e h. reads (more_decls (done ++ e ∷ []) (max low h)) done_with) k)
    ∙ ap (run most (follow (behind_word d at) (next_decl done low k))) x.2

-- no declaration any more
pub declared_all : (most : ℕ) (done : List Decl) (low : ℕ) (k : List Decl → ℕ → Rest Prog) (ts : List Token) → declares_front ts ≡ None
    → run most (reads (more_decls done low) k) ts ≡ run most (k done low) ts
declared_all most done low k ts e =
    passes most (more_decls done low) k ts refl
    (λ t us is. lead_none decl_entries (λ e h. reads (more_decls (done ++ e ∷ []) (max low h)) done_with) t
    (declares_entry t.lexeme t.at ∙ ap (λ o. if_found o (λ y. Some (behind_word y t.at)) None)
    (not_looked_up (declares_of t.lexeme) t us (subst (λ l. declares_front l ≡ None) is e))))
