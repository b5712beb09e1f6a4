-- Declarations and programs, part by part.
use Rattle.std.proofs.Common.{◌≡◌, ◌≤◌, ℕ, zero, suc, max, List, [], ◌∷◌, ◌++◌, Option, Some, None, inl, inr, refl, sym, ap, ◌∙◌, subst, arith}
use Rattle.zir_tree.specs.declared.place.Place.{Place}
use Rattle.zir_tree.specs.declared.types.Base.TheVariants as base
use Rattle.zir_tree.specs.declared.types.TypeExpr.{TypeExpr}
use Rattle.zir_tree.specs.declared.types.Field.{Field}
use Rattle.zir_tree.specs.declared.stmt.Var.{Var}
use Rattle.zir_tree.specs.declared.comp.Link.TheVariants as link
use Rattle.zir_tree.specs.declared.comp.Comp.{Comp}
use Rattle.zir_tree.specs.declared.comp.Comp as comp
use Rattle.zir_tree.specs.declared.program.Decl.{Decl}
use Rattle.zir_tree.specs.declared.program.Decl.TheVariants as decl
use Rattle.zir_tree.specs.declared.program.Prog.{Prog}
use Rattle.zir_lex.specs.declared.token.Token.{Token}
use Rattle.zir_lex.specs.declared.token.Keyword.TheVariants as keyword
use Rattle.zir_lex.specs.declared.token.Symbol.TheVariants as symbol
use Rattle.zir_grammar.specs.Grammar.{
  IsType,
  IsVar,
  IsChain,
  atom,
  links,
  IsLinks,
  no_link,
  join,
  IsResult,
  no_result,
  result,
  IsDecl,
  declares_var,
  declares_struct,
  declares_function,
  declares_comp,
  IsDecls,
  no_decl,
  more_decls as further_decls,
  IsProg,
  program,
}
use Rattle.zir_grammar.specs.Grammar.{word, sign, name, ident, main_bytes, plain_type}
use Rattle.zir_grammar.specs.Wants.{a_word, a_name, somewhere}
use Rattle.zir_grammar.specs.declared.enclosure.Enclosure.TheVariants.{Braces as braces}
use Rattle.zir_grammar.specs.Parts.{
  Left,
  Part,
  a_type_part,
  more_fields,
  a_body,
  a_chain,
  a_block,
  a_result,
  more_decls,
  behind_main,
  Tree,
  Rest,
  gives,
  either,
  reads,
  lead,
  done_with,
  wants_sign,
  var_entries,
  atom_entries,
  function_rest,
  comp_rest,
  struct_rest,
  decl_entries,
  joined,
  joined_height,
  main_entries,
  pipe_entries,
  entries,
  start,
}
use Rattle.zir_grammar.proofs.Meaning.{IsBehindMain, IsPart, Reads, AllEntries}
use Rattle.zir_grammar.proofs.Sound.{Tokens, nothing, everything, behind_chain, begins_decl, Rises, Sound}
use Rattle.zir_grammar.proofs.Follow.{avoids_nothing}
use Rattle.zir_grammar.proofs.Tables.{
  Form,
  Reading,
  lead_read,
  Steady,
  lead_sound,
  NoLower,
  lead_low,
  OpensBy,
  opens_by,
  opens_lead,
  none_lead,
  opens_behind,
  same,
}
use Rattle.zir_grammar.proofs.Entries.{Opens, opened, passed}
use Rattle.zir_grammar.proofs.StmtForms.{VarForm, var_token, var_read, var_opens, var_sound, var_low}
use Rattle.zir_grammar.proofs.CompForms.{AtomForm, atom_read, atom_opens, atom_sound, atom_low, write_none}

pub opens_of : {part : Part} {a : Tree part} {h : ℕ} {ts rest : List Token} → OpensBy (entries part) a h ts rest → Opens part a h ts rest
opens_of (opens_by t r is x) = opened t r is x

-- ---- declarations

abbrev pub DeclForm : Form Decl
DeclForm d h ts rest = IsDecl d h ts rest

struct_read : (at : Place) (a : Decl) (h : ℕ) (ts rest : List Token) → Reads (struct_rest at) a h ts rest → IsDecl a h (word keyword.Struct at ∷ ts) rest
struct_read at a h ts rest (x, m1, f1, is1, (equal, m2, f2, is2, (opens, m3, f3, is3, (f, g, m4, y, (fs, k, m5, z, (same_tree, same_height, end)))))) =
    rw (is1, is2, is3, same_tree, same_height, sym end) (declares_struct y.1 z.1)

function_read : (at : Place) (x : List ℕ × Place) (a : Decl) (h : ℕ) (ts rest : List Token) → Reads (function_rest at x) a h ts rest
    → IsDecl a h (word keyword.Fun at ∷ name x.0 x.1 ∷ ts) rest
function_read at x a h ts rest (opens, m1, f1, is1, (fs, f, m2, y, (t, g, m3, z, (b, k, m4, w, (same_tree, same_height, end))))) =
    rw (is1, same_tree, same_height, sym end) (declares_function y.1 z.1 w)

comp_read : (at here : Place) (a : Decl) (h : ℕ) (ts rest : List Token) → Reads (comp_rest at) a h ts rest
    → IsDecl a h (word keyword.Fun at ∷ word keyword.Comp here ∷ ts) rest
comp_read at here a h ts rest (x, m1, f1, is1, (opens, m2, f2, is2, (fs, f, m3, y, (c, k, m4, w, (same_tree, same_height, end))))) =
    rw (is1, is2, same_tree, same_height, sym end) (declares_comp y.1 w)

abbrev pub function_either : Place → Rest Decl
function_either at = either a_name (function_rest at) (a_word keyword.Comp) (λ here. comp_rest at)

function_either_read : (at : Place) (a : Decl) (h : ℕ) (ts rest : List Token) → Reads (function_either at) a h ts rest
    → IsDecl a h (word keyword.Fun at ∷ ts) rest
function_either_read at a h ts rest (inl (x, m, fits, is, y)) = rw is (function_read at x a h m rest y)
function_either_read at a h ts rest (inr (here, m, fits, is, y)) = rw is (comp_read at here a h m rest y)

abbrev pub var_decl_behind : Var → ℕ → Rest Decl
var_decl_behind v h = wants_sign symbol.Semicolon (gives (decl.Var v) h)

pub decl_read : AllEntries (Reading DeclForm) decl_entries
decl_read = (
  λ at fits a h ts rest x. struct_read at a h ts rest x,
  (
    λ at fits a h ts rest x. function_either_read at a h ts rest x,
    lead_read VarForm DeclForm var_entries var_decl_behind var_read
        (λ v h ts mid d g rest x y.
        let end = y.4 in
        rw (end.0, end.1) (declares_var (subst (λ l. IsVar v h ts l) (y.3 ∙ ap (λ l. sign symbol.Semicolon y.0 ∷ l) end.2) x))),
  ),
)

pub decl_opens : (d : Decl) (h : ℕ) (ts rest : List Token) → IsDecl d h ts rest → OpensBy decl_entries d h ts rest
decl_opens d h ts rest (declares_var {v = v} {stop = stop} x) =
    opens_behind (a_word keyword.Struct) _ _ d h ts rest (λ p fits. refl, (λ p fits. refl, tt))
    (opens_behind (a_word keyword.Fun) _ (lead var_entries var_decl_behind) d h ts rest (λ p fits. refl, tt)
    (opens_lead var_entries var_decl_behind v h d h ts (sign symbol.Semicolon stop ∷ rest) rest (var_opens v h ts (sign symbol.Semicolon stop ∷ rest) x)
    (stop, rest, tt, refl, (refl, refl, refl))))
decl_opens d h ts rest (declares_struct {x = x} {at = at} {here = here} y z) =
    opens_by (word keyword.Struct at) _ refl
    ((x, here), _, tt, refl, (_, _, tt, refl, (_, _, tt, refl, (_, 0, _, (refl, y), (_, 0, _, (refl, z), (refl, refl, refl))))))
decl_opens d h ts rest (declares_function {x = x} {at = at} {here = here} y z w) =
    opens_by (word keyword.Fun at) _ refl
    (inl ((x, here), _, tt, refl, (_, _, tt, refl, (_, 0, _, (refl, y), (_, 0, _, (refl, z), (_, _, _, w, (refl, refl, refl)))))))
decl_opens d h ts rest (declares_comp {x = x} {at = at} {here = here} y w) =
    opens_by (word keyword.Fun at) _ refl
    (inr (_, _, tt, refl, ((x, here), _, tt, refl, (_, _, tt, refl, (_, 0, _, (refl, y), (_, _, _, w, (refl, refl, refl)))))))

struct_sound : (at : Place) → Sound nothing (struct_rest at)
struct_sound at = (
  tt,
  λ x. (
    tt,
    λ p. (
      tt,
      λ q. (
        λ f h. (
          λ fs g. tt,
          λ a b g k le. same 0,
          λ fs g. avoids_nothing nothing
              (gives (decl.Struct (record { name = ident x.0 x.1; fields = fs; at = at })) 0),
        ),
        λ a b h g le. same 0,
        λ f h. avoids_nothing nothing
            (reads (more_fields braces (f ∷ [])) (λ fs g. gives (decl.Struct (record { name = ident x.0 x.1; fields = fs; at = at })) 0)),
      ),
      λ q. same 0,
    ),
    λ p. same 0,
  ),
  λ x. same 0,
)

body_after : (at : Place) (x : List ℕ × Place) (fs : List Field) (t : Option TypeExpr)
    → Sound nothing (reads a_body (λ b h. gives (decl.Function (record { name = ident x.0 x.1; params = fs; result = t; body = b; at = at })) h))
body_after at x fs t = (
  λ b h. tt,
  λ a b h g le. le,
  λ b h. avoids_nothing nothing
      (gives (decl.Function (record { name = ident x.0 x.1; params = fs; result = t; body = b; at = at })) h),
)

function_sound : (at : Place) (x : List ℕ × Place) → Sound nothing (function_rest at x)
function_sound at x = (
  tt,
  λ p. (
    λ fs f. (λ t g. body_after at x fs t, λ a b h g le. same 1, λ t g. ((λ p fits. refl, tt), λ e. absurd (cc e))),
    λ a b h g le. same 1,
    λ fs f. avoids_nothing nothing
        (reads a_result (λ t g. reads a_body (λ b h. gives (decl.Function (record { name = ident x.0 x.1; params = fs; result = t; body = b; at = at })) h))),
  ),
  λ p. same 1,
)

comp_sound : (at : Place) → Sound nothing (comp_rest at)
comp_sound at = (
  tt,
  λ x. (
    tt,
    λ p. (
      λ fs f. (
        λ c h. tt,
        λ a b h g le. le,
        λ c h. avoids_nothing nothing
            (gives (decl.Comp (record { name = ident x.0 x.1; params = fs; body = c; at = at })) h),
      ),
      λ a b h g le. same 2,
      λ fs f. avoids_nothing nothing (reads a_block (λ c h. gives (decl.Comp (record { name = ident x.0 x.1; params = fs; body = c; at = at })) h)),
    ),
    λ p. same 2,
  ),
  λ x. same 2,
)

pub decl_sound : AllEntries (Steady nothing) decl_entries
decl_sound = (
  λ at. struct_sound at,
  (
    λ at. (tt, λ x. function_sound at x, λ x. same 1, λ p. comp_sound at, λ p. omega arith, λ p fits. refl),
    lead_sound nothing var_token var_entries var_decl_behind var_sound (λ v h. (tt, λ p. tt, λ p. same h)) (λ a b h g le. le) (λ v h. λ p fits. refl),
  ),
)

pub decl_low : AllEntries (NoLower 0) decl_entries
decl_low = (λ p. omega arith, (λ p. omega arith, lead_low 0 1 var_entries var_decl_behind var_low (λ a h le. omega arith)))

abbrev pub ResultForm : Form (Option TypeExpr)
ResultForm t h ts rest = IsPart a_result t h ts rest

pub result_read : AllEntries (Reading ResultForm) (entries a_result)
result_read = (λ p fits a h ts rest x. let end = x.4 in rw (end.0, end.1, sym end.2) (refl, result x.3.1), tt)

pub result_opens : (t : Option TypeExpr) (h : ℕ) (ts rest : List Token) → h ≡ 0 → IsResult t ts rest → Opens a_result t h ts rest
result_opens t h ts rest e no_result = subst (λ n. Opens a_result None n ts ts) (sym e) (passed refl)
result_opens t h ts rest e (result {at = at} x) = opened (sign symbol.Colon at) _ refl (_, 0, _, (refl, x), (refl, e, refl))

pub result_sound : (after : Tokens) → AllEntries (Steady after) (entries a_result)
result_sound after = (λ p. (λ t h. tt, λ a b h g le. same 0, λ t h. avoids_nothing after (gives (Some t) 0)), tt)

abbrev pub DeclsForm : List Decl → ℕ → Form (List Decl)
DeclsForm done low ds h ts rest = IsDecls done low ds h ts rest

abbrev pub decls_behind : List Decl → ℕ → Decl → ℕ → Rest (List Decl)
decls_behind done low d h = reads (more_decls (done ++ d ∷ []) (max low h)) done_with

abbrev pub decl_token : Tokens
decl_token t = begins_decl t.lexeme

pub decls_read : (done : List Decl) (low : ℕ) → AllEntries (Reading (DeclsForm done low)) (lead decl_entries (decls_behind done low))
decls_read done low =
    lead_read DeclForm (DeclsForm done low) decl_entries (decls_behind done low) decl_read
    (λ d h ts mid ds g rest x y. let end = y.4 in rw (end.0, end.1, sym end.2) (further_decls x y.3))

pub decls_opens : (done : List Decl) (low : ℕ) (ds : List Decl) (h : ℕ) (ts rest : List Token) → IsDecls done low ds h ts rest
    → Opens (more_decls done low) ds h ts rest
decls_opens done low ds h ts rest no_decl = passed refl
decls_opens done low ds h ts rest (further_decls {d = d} {h = g} {mid = mid} x more) =
    opens_of (opens_lead decl_entries (decls_behind done low) d g ds h ts mid rest (decl_opens d g ts mid x) (_, _, _, more, (refl, refl, refl)))

pub decls_sound : (done : List Decl) (low : ℕ) → AllEntries (Steady decl_token) (lead decl_entries (decls_behind done low))
decls_sound done low =
    lead_sound decl_token nothing decl_entries (decls_behind done low) decl_sound (λ d h. (λ ds g. tt, λ a b g k le. le, λ ds g. λ t b. b))
    (λ a b h g le. omega arith)
    (λ d h. avoids_nothing decl_token (decls_behind done low d h))

pub decls_low : (done : List Decl) (low : ℕ) → AllEntries (NoLower low) (lead decl_entries (decls_behind done low))
decls_low done low = lead_low low 0 decl_entries (decls_behind done low) decl_low (λ a h le. omega arith)

-- ---- the main chain

abbrev pub MainForm : Left → Comp → ℕ → Form (Comp × TypeExpr)
MainForm left c h whole g ts rest = IsBehindMain left c h whole g ts rest

main_read_parallel : (left : Left) (c : Comp) (h : ℕ) (at : Place) (d : Comp) (g : ℕ) (whole : Comp × TypeExpr) (k : ℕ) (ts mid rest : List Token)
    → IsChain 0 d g ts mid
    → IsBehindMain (Some (joined left c, joined_height left h, at)) d g whole k mid rest → IsBehindMain left c h whole k (sign symbol.ParallelPipe at ∷ ts) rest
main_read_parallel left c h at d g whole k ts mid rest x y = record {
  right = c;
  low = h;
  mid = sign symbol.ParallelPipe at ∷ ts;
  ws = y.ws;
  last = y.last;
  here = y.here;
  opens = y.opens;
  closes = y.closes;
  serial = no_link;
  parallel = join link.Parallel refl (links x y.serial) y.parallel;
  type = y.type;
}

pub main_read : (left : Left) (c : Comp) (h : ℕ) → AllEntries (Reading (MainForm left c h)) (main_entries left c h)
main_read left c h = (
  λ at fits a g ts rest x. let end = x.4 in rw (end.0, end.1, sym end.2) x.3,
  (
    λ at fits a g ts rest x.
        let y = x.4 in
        let end = y.4 in
        rw (end.0, end.1, sym end.2) (main_read_parallel left c h at x.0 x.1 y.0 y.1 ts x.2 y.2 x.3 y.3),
    tt,
  ),
)

main_parallel : (left : Left) (c : Comp) (h : ℕ) (m : Comp) (to : TypeExpr) (g : ℕ) (ts ws rest : List Token) (last here opens closes : Place)
    → IsLinks 1 (joined left c) (joined_height left h) m g ts (sign symbol.Pipe last ∷ word keyword.Write here ∷ sign symbol.LeftBracket opens ∷ ws)
    → IsType to ws (sign symbol.RightBracket closes ∷ rest) → OpensBy (main_entries left c h) (m, to) g ts rest
main_parallel left c h m to g ts ws rest last here opens closes no_link t =
    opens_by (sign symbol.Pipe last) _ refl
    (_, _, _, record { right = c; low = h; mid = ts; ws = ws; last = last; here = here; opens = opens; closes = closes; serial = no_link; parallel = no_link; type = t }, (refl, refl, refl))
main_parallel left c h m to g ts ws rest last here opens closes (join link.Serial is x more) t = absurd (omega (arith, is))
main_parallel left c h m to g ts ws rest last here opens closes (join {at = at} link.Parallel is (links {low = low} {first = first} {mid = mid} x l) more) t =
    opens_by (sign symbol.ParallelPipe at) _ refl (
      first,
      low,
      mid,
      x,
      (_, _, _, record { right = _; low = _; mid = _; ws = ws; last = last; here = here; opens = opens; closes = closes; serial = l; parallel = more; type = t }, (refl, refl, refl)),
    )

main_serial : (left : Left) (c : Comp) (h : ℕ) (m : Comp) (to : TypeExpr) (g : ℕ) (right : Comp) (low : ℕ) (ts mid ws rest : List Token)
    (last here opens closes : Place)
    → IsLinks 0 c h right low ts mid
    → IsLinks 1 (joined left right) (joined_height left low) m g mid (sign symbol.Pipe last ∷ word keyword.Write here ∷ sign symbol.LeftBracket opens ∷ ws)
    → IsType to ws (sign symbol.RightBracket closes ∷ rest) → OpensBy (main_entries left c h) (m, to) g ts rest
main_serial left c h m to g right low ts mid ws rest last here opens closes no_link y t = main_parallel left c h m to g ts ws rest last here opens closes y t
main_serial left c h m to g right low ts mid ws rest last here opens closes (join link.Parallel is x more) y t = absurd (omega (arith, is))
main_serial left c h m to g right low ts mid ws rest last here opens closes (join {at = at} link.Serial is x more) y t =
    opens_by (sign symbol.Pipe at) _ refl (
      _,
      _,
      _,
      record { right = right; low = low; mid = mid; ws = ws; last = last; here = here; opens = opens; closes = closes; serial = join link.Serial is x more; parallel = y; type = t },
      (refl, refl, refl),
    )

pub main_opens : (left : Left) (c : Comp) (h : ℕ) (whole : Comp × TypeExpr) (g : ℕ) (ts rest : List Token) → IsBehindMain left c h whole g ts rest
    → OpensBy (main_entries left c h) whole g ts rest
main_opens left c h whole g ts rest x = main_serial left c h whole.0 whole.1 g x.right x.low ts x.mid x.ws rest x.last x.here x.opens x.closes x.serial x.parallel x.type

pub main_sound : (left : Left) (c : Comp) (h : ℕ) → AllEntries (Steady nothing) (main_entries left c h)
main_sound left c h = (
  λ at. (λ w g. tt, λ a b g k le. le, λ w g. avoids_nothing nothing (gives w g)),
  (
    λ at. (
      λ d g. (λ w k. tt, λ a b k l le. le, λ w k. avoids_nothing nothing (gives w k)),
      λ a b g k le. omega arith,
      λ d g. (
        (
          λ p fits. refl,
          (λ p fits. refl, tt),
        ),
        λ e. absurd (cc e),
      ),
    ),
    tt,
  ),
)

pub main_low : (left : Left) (c : Comp) (h : ℕ) → AllEntries (NoLower (joined_height left h)) (main_entries left c h)
main_low left c h = (λ p. omega arith, (λ p. omega arith, tt))

abbrev pub PipeForm : Left → Comp → ℕ → Place → Form (Comp × TypeExpr)
PipeForm left c h at whole g ts rest = IsBehindMain left c h whole g (sign symbol.Pipe at ∷ ts) rest

abbrev pub main_behind : Left → Comp → ℕ → Place → Comp → ℕ → Rest (Comp × TypeExpr)
main_behind left c h at d g = reads (behind_main left (comp.Pipe link.Serial c d at) (suc (max h g))) done_with

write_read : (left : Left) (c : Comp) (h : ℕ) (at here : Place) (whole : Comp × TypeExpr) (g : ℕ) (ts rest : List Token)
    → Reads (wants_sign symbol.LeftBracket
    (reads a_type_part (λ t g. wants_sign symbol.RightBracket (gives (joined left c, t) (joined_height left h))))) whole g ts rest
    → IsBehindMain left c h whole g (sign symbol.Pipe at ∷ word keyword.Write here ∷ ts) rest
write_read left c h at here whole g ts rest (opens, m1, f1, is1, (t, k, m2, x, (closes, m3, f2, is2, (same_tree, same_height, end)))) =
    rw (is1, same_tree, same_height) (record {
      right = c;
      low = h;
      mid = sign symbol.Pipe at ∷ word keyword.Write here ∷ sign symbol.LeftBracket opens ∷ m1;
      ws = m1;
      last = at;
      here = here;
      opens = opens;
      closes = closes;
      serial = no_link;
      parallel = no_link;
      type = subst (λ l. IsType t m1 l) (is2 ∙ ap (λ l. sign symbol.RightBracket closes ∷ l) end) x.1;
    })

pipe_join : (left : Left) (c : Comp) (h : ℕ) (at : Place) (d : Comp) (g : ℕ) (ts mid : List Token) (whole : Comp × TypeExpr) (k : ℕ)
    (rest : List Token) → AtomForm d g ts mid
    → IsBehindMain left (comp.Pipe link.Serial c d at) (suc (max h g)) whole k mid rest → PipeForm left c h at whole k ts rest
pipe_join left c h at d g ts mid whole k rest x y = record {
  right = y.right;
  low = y.low;
  mid = y.mid;
  ws = y.ws;
  last = y.last;
  here = y.here;
  opens = y.opens;
  closes = y.closes;
  serial = join link.Serial refl (atom x) y.serial;
  parallel = y.parallel;
  type = y.type;
}

pub pipe_read : (left : Left) (c : Comp) (h : ℕ) (at : Place) → AllEntries (Reading (PipeForm left c h at)) (pipe_entries left c h at)
pipe_read left c h at = (
  λ here fits a g ts rest x. write_read left c h at here a g ts rest x,
  lead_read AtomForm (PipeForm left c h at) atom_entries (main_behind left c h at) atom_read
      (λ d g ts mid whole k rest x y. let end = y.4 in rw (end.0, end.1, sym end.2) (pipe_join left c h at d g ts mid y.0 y.1 y.2 x y.3)),
)

same_sign : {C : Type 0} (at last : Place) (ts us : List Token) → sign symbol.ParallelPipe at ∷ ts ≡ sign symbol.Pipe last ∷ us → C
same_sign at last ts us e = let heads : sign symbol.ParallelPipe at ≡ sign symbol.Pipe last = cc e in let signs = ap
    (λ (t : Token). t.lexeme) heads in absurd (cc signs)

pipe_write : (left : Left) (c : Comp) (h : ℕ) (at : Place) (m : Comp) (to : TypeExpr) (g : ℕ) (us ts ws rest : List Token)
    (last here opens closes : Place) → us ≡ sign symbol.Pipe at ∷ ts
    → IsLinks 1 (joined left c) (joined_height left h) m g us (sign symbol.Pipe last ∷ word keyword.Write here ∷ sign symbol.LeftBracket opens ∷ ws)
    → IsType to ws (sign symbol.RightBracket closes ∷ rest) → OpensBy (pipe_entries left c h at) (m, to) g ts rest
pipe_write left c h at m to g us ts ws rest last here opens closes e no_link t =
    let tails : word keyword.Write here ∷ sign symbol.LeftBracket opens ∷ ws ≡ ts = cc e in
    subst (λ l. OpensBy (pipe_entries left c h at) (m, to) g l rest) tails
    (opens_by (word keyword.Write here) _ refl (
      opens,
      ws,
      tt,
      refl,
      (
        to,
        0,
        sign symbol.RightBracket closes
            ∷ rest,
        (refl, t),
        (closes, rest, tt, refl, (refl, refl, refl)),
      ),
    ))
pipe_write left c h at m to g us ts ws rest last here opens closes e (join link.Serial is x more) t = absurd (omega (arith, is))
pipe_write left c h at m to g us ts ws rest last here opens closes e (join {at = there} {ts = vs} link.Parallel is x more) t = same_sign there at vs ts e

serial_join : (left : Left) (c : Comp) (h : ℕ) (at there : Place) (ts vs : List Token) → sign symbol.Pipe there ∷ vs ≡ sign symbol.Pipe at ∷ ts
    → (there ≡ at) × (vs ≡ ts)
serial_join left c h at there ts vs e =
    let heads : sign symbol.Pipe there ≡ sign symbol.Pipe at = cc e in
    (ap (λ (t : Token). t.at) heads, cc e)

atom_in : {c : Comp} {h : ℕ} {ts rest : List Token} → IsChain zero c h ts rest → AtomForm c h ts rest
atom_in (atom a) = a

pipe_more : (left : Left) (c : Comp) (h : ℕ) (at : Place) (d : Comp) (k : ℕ) (whole : Comp × TypeExpr) (g : ℕ) (ts mid rest : List Token) → AtomForm d k ts mid
    → IsBehindMain left (comp.Pipe link.Serial c d at) (suc (max h k)) whole g mid rest → OpensBy (pipe_entries left c h at) whole g ts rest
pipe_more left c h at d k whole g ts mid rest x y =
    opens_behind (a_word keyword.Write) _ (lead atom_entries (main_behind left c h at)) whole g ts rest (none_lead (a_word keyword.Write) atom_entries
    (main_behind left c h at) write_none)
    (opens_lead atom_entries (main_behind left c h at) d k whole g ts mid rest (atom_opens d k ts mid x) (whole, g, rest, y, (refl, refl, refl)))

pipe_serial : (left : Left) (c : Comp) (h : ℕ) (at : Place) (m : Comp) (to : TypeExpr) (g : ℕ) (right : Comp) (low : ℕ)
    (us ts mid ws rest : List Token) (last here opens closes : Place)
    → us ≡ sign symbol.Pipe at ∷ ts → IsLinks 0 c h right low us mid
    → IsLinks 1 (joined left right) (joined_height left low) m g mid (sign symbol.Pipe last ∷ word keyword.Write here ∷ sign symbol.LeftBracket opens ∷ ws)
    → IsType to ws (sign symbol.RightBracket closes ∷ rest) → OpensBy (pipe_entries left c h at) (m, to) g ts rest
pipe_serial left c h at m to g right low us ts mid ws rest last here opens closes e no_link y t = pipe_write left c h at m to g us ts ws rest last here opens closes e y t
pipe_serial left c h at m to g right low us ts mid ws rest last here opens closes e (join link.Parallel is x more) y t = absurd (omega (arith, is))
pipe_serial left c h at m to g right low us ts mid ws rest last here opens closes e
    (join {h = k} {right = d} {at = there} {ts = vs} {mid = between} link.Serial is x more) y t =
    let same_places = serial_join left c h at there ts vs e in
    pipe_more left c h at d k (m, to) g ts between rest (subst (λ l. AtomForm d k l between) same_places.1 (atom_in x))
    (record {
      right = right;
      low = low;
      mid = mid;
      ws = ws;
      last = last;
      here = here;
      opens = opens;
      closes = closes;
      serial = subst (λ p. IsLinks 0 (comp.Pipe link.Serial c d p) (suc (max h k)) right low between mid) same_places.0 more;
      parallel = y;
      type = t;
    })

pub pipe_opens : (left : Left) (c : Comp) (h : ℕ) (at : Place) (whole : Comp × TypeExpr) (g : ℕ) (ts rest : List Token) → PipeForm left c h at whole g ts rest
    → OpensBy (pipe_entries left c h at) whole g ts rest
pipe_opens left c h at whole g ts rest x =
    pipe_serial left c h at whole.0 whole.1 g x.right x.low (sign symbol.Pipe at
    ∷ ts) ts x.mid x.ws rest x.last x.here x.opens x.closes refl x.serial x.parallel x.type

pub pipe_sound : (left : Left) (c : Comp) (h : ℕ) (at : Place) → AllEntries (Steady nothing) (pipe_entries left c h at)
pipe_sound left c h at = (
  λ here. (
    tt,
    λ p. (
      λ t g. (tt, λ q. tt, λ q. same (joined_height left h)),
      λ a b g k le. same (joined_height left h),
      λ t g. avoids_nothing {A = Comp × TypeExpr} nothing (wants_sign symbol.RightBracket (gives (joined left c, t) (joined_height left h))),
    ),
    λ p. same (joined_height left h),
  ),
  lead_sound nothing (behind_chain 0) atom_entries (main_behind left c h at) atom_sound (λ d g.
      (λ w k. tt, λ a b k l le. le, λ w k. avoids_nothing nothing (gives w k)))
      (λ a b g k le. joined_rises left (suc (max h g)) (suc (max h k)) (omega arith)) (λ d g. ((λ p fits. refl, (λ p fits. refl, tt)), λ e. absurd (cc e))),
)
  where
    joined_rises : (left : Left) (a b : ℕ) → a ≤ b → joined_height left a ≤ joined_height left b
    joined_rises None a b le = le
    joined_rises (Some l) a b le = omega arith

pub pipe_low : (left : Left) (c : Comp) (h : ℕ) (at : Place) → AllEntries (NoLower (joined_height left h)) (pipe_entries left c h at)
pipe_low left c h at =
    (λ p. same (joined_height left h), lead_low (joined_height left h) 1 atom_entries (main_behind left c h at) atom_low (λ a g le. joined_more left h g))
  where
    joined_more : (left : Left) (h g : ℕ) → joined_height left h ≤ joined_height left (suc (max h g))
    joined_more None h g = omega arith
    joined_more (Some l) h g = omega arith

-- ---- programs

-- the main component and the type behind it, from its first token on
abbrev pub main_rest : (Comp × TypeExpr → ℕ → Rest Prog) → Rest Prog
main_rest k = reads (a_chain 0) (λ c g. reads (behind_main None c g) k)

abbrev pub whole_prog : List Decl → Place → TypeExpr → ℕ → Comp × TypeExpr → ℕ → Rest Prog
whole_prog ds at from low whole h = gives (record { declarations = ds; input = from; main = whole.0; output = whole.1; at = at }) (max low h)

main_parts : (ds : List Decl) (at : Place) (from : TypeExpr) (low : ℕ) (c : Comp) (h : ℕ) (to : TypeExpr) (vs ws : List Token) (last here opens closes : Place)
    → IsChain 2 c h vs (sign symbol.Pipe last ∷ word keyword.Write here ∷ sign symbol.LeftBracket opens ∷ ws)
    → IsType to ws (sign symbol.RightBracket closes ∷ [])
    → Reads (main_rest (whole_prog ds at from low)) (record { declarations = ds; input = from; main = c; output = to; at = at }) (max low h) vs []
main_parts ds at from low c h to vs ws last here opens closes (links (links {low = g} {first = d} {mid = mid} x l) more) t = (
  d,
  g,
  mid,
  x,
  (
    (c, to),
    h,
    [],
    record { right = _; low = _; mid = _; ws = ws; last = last; here = here; opens = opens; closes = closes; serial = l; parallel = more; type = t },
    (refl, refl, refl),
  ),
)

pub start_forth : (ts : List Token) (p : Prog) (h : ℕ) → IsProg ts p h → Reads start p h ts []
start_forth ts p h (program {ds = ds} {from = from} {to = to} {c = c} {low = low} {h = g} {at = at} {one = one} {two = two} {three = three} {four = four} {opens = opens} {closes = closes} {first = first}
    {last = last} {here = here} {opened = second} {close = close} {us = us} {vs = vs} {ws = ws} x t y u) = (
      ds,
      low,
      _,
      x,
      (
        at,
        _,
        tt,
        refl,
        (
          one,
          _,
          tt,
          refl,
          (
            two,
            _,
            tt,
            refl,
            (
              three,
              _,
              tt,
              refl,
              (
                four,
                _,
                tt,
                refl,
                (
                  opens,
                  us,
                  tt,
                  refl,
                  (
                    from,
                    0,
                    _,
                    (refl, t),
                    (
                      closes,
                      _,
                      tt,
                      refl,
                      (
                        first,
                        vs,
                        tt,
                        refl,
                        main_parts ds at from low c g to vs ws last here second close y u,
                      ),
                    ),
                  ),
                ),
              ),
            ),
          ),
        ),
      ),
    )

abbrev pub head_tokens : Place → Place → Place → Place → Place → Place → List Token → List Token
head_tokens at one two three four opens us =
    word keyword.Let at ∷ word keyword.Comp one ∷ name main_bytes two ∷ sign symbol.Equal three ∷ word keyword.Read four ∷ sign symbol.LeftBracket opens ∷ us

program_of : {ds : List Decl} {from : TypeExpr} {p : Prog} {low h g k : ℕ} {at one two three four opens closes first : Place} {ts us vs mid : List Token} {d : Comp} {whole : Comp × TypeExpr}
    → IsDecls [] 0 ds low ts (head_tokens at one two three four opens us)
    → IsType from us (sign symbol.RightBracket closes ∷ sign symbol.Pipe first ∷ vs) → IsChain 0 d g vs mid
    → IsBehindMain None d g whole k mid [] → p ≡ record { declarations = ds; input = from; main = whole.0; output = whole.1; at = at }
    → h ≡ max low k → IsProg ts p h
program_of x t c y same_tree same_height = rw (same_tree, same_height) (program x t (links (links c y.serial) y.parallel) y.type)

pub start_back : (ts : List Token) (p : Prog) (h : ℕ) → Reads start p h ts [] → IsProg ts p h
start_back ts p h (
  ds,
  low,
  m0,
  x,
  (
    at,
    m1,
    f1,
    is1,
    (
      one,
      m2,
      f2,
      is2,
      (
        two,
        m3,
        f3,
        is3,
        (
          three,
          m4,
          f4,
          is4,
          (
            four,
            m5,
            f5,
            is5,
            (
              opens,
              us,
              f6,
              is6,
              (
                from,
                z,
                m7,
                t,
                (closes, m8, f8, is8, (first, vs, f9, is9, (d, g, m10, c, (whole, k, m11, y, (same_tree, same_height, end))))),
              ),
            ),
          ),
        ),
      ),
    ),
  ),
) =
    program_of
    (subst (λ l. IsDecls [] 0 ds low ts l)
    (is1 ∙ ap (λ l. word keyword.Let at ∷ l) (is2 ∙ ap (λ l. word keyword.Comp one ∷ l) (is3 ∙ ap (λ l. name main_bytes two ∷ l) (is4 ∙ ap
    (λ l. sign symbol.Equal three ∷ l)
    (is5 ∙ ap (λ l. word keyword.Read four ∷ l) is6))))) x)
    (subst (λ l. IsType from us l) (is8 ∙ ap (λ l. sign symbol.RightBracket closes ∷ l) is9) t.1) c (subst
    (λ l. IsBehindMain None d g whole k m10 l) end y) same_tree same_height

main_rest_sound : (k : Comp × TypeExpr → ℕ → Rest Prog) → ((w : Comp × TypeExpr) (h : ℕ) → Sound everything (k w h)) → Rises k → Sound everything (main_rest k)
main_rest_sound k x rises = (
  λ c g. (x, rises, λ w h. avoids_nothing everything (k w h)),
  λ a b h g le. rises (a, plain_type base.Bit somewhere) (b, plain_type base.Bit somewhere) h g le,
  λ c g. ((λ p fits. refl, (λ p fits. refl, tt)), λ e. absurd (cc e)),
)

pub start_sound : Sound everything start
start_sound = (
  λ ds low. (
    tt,
    λ at. (
      tt,
      λ one. (
        tt,
        λ two. (
          tt,
          λ three. (
            tt,
            λ four. (
              tt,
              λ opens. (
                λ from f. (
                  tt,
                  λ q. (
                    tt,
                    λ r. main_rest_sound (whole_prog ds at from low) (λ w h. tt)
                        (λ a b h g le. omega arith),
                    λ r. same (max low 1),
                  ),
                  λ q. same (max low 1),
                ),
                λ a b h g le. same (max low 1),
                λ from f. avoids_nothing everything (wants_sign symbol.RightBracket (wants_sign symbol.Pipe (main_rest (whole_prog ds at from low)))),
              ),
              λ p. same (max low 1),
            ),
            λ p. same (max low 1),
          ),
          λ p. same (max low 1),
        ),
        λ p. same (max low 1),
      ),
      λ p. same (max low 1),
    ),
    λ p. same (max low 1),
  ),
  λ a b h g le. omega arith,
  λ ds low. λ p fits. refl,
)
