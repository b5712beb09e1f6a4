-- Components, part by part.
use Rattle.std.proofs.Common.{
  ◌≡◌,
  ℕ,
  zero,
  suc,
  max,
  nat_lt,
  Bool,
  true,
  false,
  List,
  [],
  ◌∷◌,
  ◌++◌,
  Option,
  Some,
  None,
  inl,
  inr,
  refl,
  sym,
  ap,
  ◌∙◌,
  subst,
  arith,
}
use Rattle.zir_tree.specs.declared.place.Place.{Place}
use Rattle.zir_tree.specs.declared.expr.Expr.{Expr}
use Rattle.zir_tree.specs.declared.stmt.Var.{Var}
use Rattle.zir_tree.specs.declared.comp.Turning.TheVariants as turning
use Rattle.zir_tree.specs.declared.comp.Link.{Link}
use Rattle.zir_tree.specs.declared.comp.Comp.{Comp}
use Rattle.zir_tree.specs.declared.comp.Comp as comp
use Rattle.zir_tree.specs.declared.comp.Member.{Member}
use Rattle.zir_tree.specs.declared.comp.Member as member
use Rattle.zir_lex.specs.declared.token.Token.{Token}
use Rattle.zir_lex.specs.declared.token.Lexeme.{Lexeme}
use Rattle.zir_lex.specs.declared.token.Lexeme.TheVariants as lexeme
use Rattle.zir_lex.specs.declared.token.Keyword.{Keyword}
use Rattle.zir_lex.specs.declared.token.Keyword.TheVariants as keyword
use Rattle.zir_lex.specs.declared.token.Symbol.TheVariants as symbol
use Rattle.zir_grammar.specs.Grammar.{
  IsBinary,
  IsVar,
  IsAtom,
  take_atom,
  takes_atom,
  emit_atom,
  emits_atom,
  return_atom,
  do_atom,
  repeat_atom,
  hinted_atom,
  while_atom,
  until_atom,
  times_atom,
  for_atom,
  if_atom,
  map_atom,
  filter_atom,
  call_atom,
  block_atom,
  enclosed_atom,
  IsChain,
  atom,
  links,
  IsLinks,
  no_link,
  join,
  IsBlock,
  block,
  IsMembers,
  binds,
  member_var,
  member_runs,
  last_member,
  last_stopped,
}
use Rattle.zir_grammar.specs.Grammar.{word, sign, name, ident, ranks, link_rank, link_symbol}
use Rattle.zir_grammar.specs.Wants.{Want, a_word, a_sign, a_name, a_number, a_link, told, if_found, link_of}
use Rattle.zir_grammar.specs.Parts.{
  a_binary,
  a_chain,
  links_of,
  more_members,
  behind_semicolon,
  Rest,
  gives,
  wants,
  reads,
  Entry,
  lead,
  on,
  done_with,
  wants_sign,
  wants_word,
  var_entries,
  loop_on,
  block_entries,
  atom_entries,
  chain_entries,
  link_entries,
  repeat_entries,
  member_end,
  member_named,
  member_entries,
  entries,
}
use Rattle.zir_grammar.specs.Machine.{found}
use Rattle.zir_grammar.proofs.Meaning.{IsStopped, stopped, further, Reads, AllEntries}
use Rattle.zir_grammar.proofs.Tokens.{told_is, told_back, link_read}
use Rattle.zir_grammar.proofs.Sound.{Tokens, nothing, behind_binary, below_rank, joins_chain, behind_chain, Within, Avoids, Rises, Sound}
use Rattle.zir_grammar.proofs.Follow.{avoids_nothing}
use Rattle.zir_grammar.proofs.Tables.{
  Form,
  Reading,
  lead_read,
  read_map,
  all_append,
  Steady,
  lead_sound,
  NoLower,
  lead_low,
  OpensBy,
  opens_by,
  opens_lead,
  opens_front,
  Differs,
  NoneOf,
  none_lead,
  skip_first,
  opens_behind,
  same,
}
use Rattle.zir_grammar.proofs.Entries.{Opens, opened, passed}
use Rattle.zir_grammar.proofs.StmtForms.{VarForm, var_token, var_read, var_opens, var_sound, var_low}

-- ---- tokens behind components

rank_up : (a n : ℕ) → nat_lt a n ≡ true → nat_lt a (suc n) ≡ true
rank_up a n e = grind arith

rank_not : (a n : ℕ) → a ≡ n → nat_lt a n ≡ false
rank_not a n e = grind arith

rank_next : (a n : ℕ) → a ≡ n → nat_lt a (suc n) ≡ true
rank_next a n e = grind arith

link_up : (o : Option Link) (b : Bool) (n : ℕ) → if_found o (λ l. nat_lt (link_rank l) n) b ≡ true → if_found o (λ l. nat_lt (link_rank l) (suc n)) b ≡ true
link_up (Some l) b n e = rank_up (link_rank l) n e
link_up None b n e = e

joins_up : (n : ℕ) (l : Lexeme) → joins_chain n l ≡ true → joins_chain (suc n) l ≡ true
joins_up n (lexeme.Symbol s) e = link_up (link_of s) (below_rank 10 (lexeme.Symbol s)) n e
joins_up n l e = absurd (cc e)

chain_up : (n : ℕ) → Within (behind_chain n) (behind_chain (suc n))
chain_up n t e = joins_up n t.lexeme e

binary_joins : (n : ℕ) (l : Lexeme) → below_rank 10 l ≡ true → joins_chain n l ≡ true
binary_joins n (lexeme.Symbol symbol.Pipe) e = absurd (cc e)
binary_joins n (lexeme.Symbol symbol.ParallelPipe) e = absurd (cc e)
binary_joins n (lexeme.Symbol s) e = e
binary_joins n l e = absurd (cc e)

binary_chain : (n : ℕ) → Within (behind_binary 10) (behind_chain n)
binary_chain n t e = binary_joins n t.lexeme e

link_avoided : (n : ℕ) (p : Link × Place) → link_rank p.0 ≡ n → behind_chain n (sign (link_symbol p.0) p.1) ≡ false
link_avoided n p e = rw (link_read p.0) (rank_not (link_rank p.0) n e)

pub link_follows : (n : ℕ) (p : Link × Place) → link_rank p.0 ≡ n → behind_chain (suc n) (sign (link_symbol p.0) p.1) ≡ true
link_follows n p e = rw (link_read p.0) (rank_next (link_rank p.0) n e)

-- ---- blocks

pub block_read : AllEntries (Reading (λ c h ts rest. IsBlock c h ts rest)) block_entries
block_read = (λ p fits a h ts rest x. let end = x.4 in rw (end.0, end.1, sym end.2) (block x.3), tt)

pub block_opens : (c : Comp) (h : ℕ) (ts rest : List Token) → IsBlock c h ts rest → OpensBy block_entries c h ts rest
block_opens c h ts rest (block {at = at} x) = opens_by (sign symbol.LeftBrace at) _ refl (_, _, _, x, (refl, refl, refl))

pub block_sound : (after : Tokens) → AllEntries (Steady after) block_entries
block_sound after = (λ p. (λ ms h. tt, λ a b h g le. omega arith, λ ms h. avoids_nothing after (gives (comp.Block ms p) (suc h))), tt)

pub block_low : AllEntries (NoLower 2) block_entries
block_low = (λ p. omega arith, tt)

-- ---- atoms

abbrev pub AtomForm : Form Comp
AtomForm c h ts rest = IsAtom c h ts rest

atom_of : {c : Comp} {h : ℕ} {ts rest : List Token} → IsChain zero c h ts rest → IsAtom c h ts rest
atom_of (atom a) = a

-- a loop with a condition
loop_read : (w : Keyword) (at : Place) (make : Expr → Comp → Comp)
    → ((e : Expr) (c : Comp) (low h : ℕ) (opens closes : Place) (ts mid rest : List Token)
    → IsBinary ranks e low ts (sign symbol.RightParenthesis closes ∷ mid) → IsAtom c h mid rest
    → IsAtom (make e c) (suc (max low h)) (word w at ∷ sign symbol.LeftParenthesis opens ∷ ts) rest)
    → (a : Comp) (h : ℕ) (ts rest : List Token) → Reads (loop_on make) a h ts rest → IsAtom a h (word w at ∷ ts) rest
loop_read w at make f a h ts rest (opens, m, fits, there, (e, low, m2, b, (closes, m3, fits2, there2, (c, g, m4, x, (same_tree, same_height, end))))) =
    rw (there, same_tree, same_height, sym end) (f e c low g opens closes m m3 m4 (subst (λ l. IsBinary ranks e low m l) there2 b) (atom_of x))

if_read : (at : Place) (a : Comp) (h : ℕ) (ts rest : List Token)
    → Reads (reads (a_binary ranks) (λ e h. wants_word keyword.Then (reads (a_chain 0) (λ c g. wants_word keyword.Else (reads (a_chain 0) (λ d f.
    gives (comp.If e c d at) (suc (max (max h g) f)))))))) a h ts rest → IsAtom a h (word keyword.If at ∷ ts) rest
if_read at a h ts rest (e, low, m, b, (then, m2, fits, there, (c, g, m3, x, (else_at, m4, fits2, there2, (d, f, m5, y, (same_tree, same_height, end)))))) =
    rw (same_tree, same_height, sym end) (if_atom (subst (λ l. IsBinary ranks e low ts l) there b) (subst
    (λ l. IsAtom c g m2 l) there2 (atom_of x)) (atom_of y))

pub atom_read : AllEntries (Reading AtomForm) atom_entries
atom_read = (
  λ p fits a h ts rest x. rw (x.0, x.1, x.2) take_atom,
  (
    λ p fits a h ts rest x. let end = x.4 in rw (x.3, end.0, end.1, end.2) takes_atom,
    (
      λ p fits a h ts rest x. let end = x.4 in rw (end.0, end.1, sym end.2) (emit_atom x.3),
      (
        λ p fits a h ts rest x. let end = x.4 in rw (end.0, end.1, sym end.2) (emits_atom x.3),
        (
          λ p fits a h ts rest x. let end = x.4 in rw (end.0, end.1, sym end.2) (return_atom x.3),
          (
            λ p fits a h ts rest x. let end = x.4 in rw (end.0, end.1, sym end.2) (do_atom x.3),
            (
              λ p fits a h ts rest x. let end = x.4 in rw (end.0, end.1, sym end.2) x.3,
              (
                λ at fits a h ts rest x. loop_read keyword.While at (λ e c. comp.While turning.While e c at)
                    (λ e c low g opens closes us mid end b y. while_atom b y) a h ts rest x,
                (
                  λ at fits a h ts rest x. loop_read keyword.Until at (λ e c. comp.While turning.Until e c at)
                      (λ e c low g opens closes us mid end b y. until_atom b y) a h ts rest x,
                  (
                    λ at fits a h ts rest x. loop_read keyword.Times at (λ e c. comp.Times e c at)
                        (λ e c low g opens closes us mid end b y. times_atom b y) a h ts rest x,
                    (
                      λ p fits a h ts rest x.
                          let y = x.4 in
                          let end = y.4 in
                          rw (end.0, end.1, sym end.2) (for_atom x.3 (atom_of y.3)),
                      (
                        λ at fits a h ts rest x. if_read at a h ts rest x,
                        (
                          λ p fits a h ts rest x. let end = x.4 in rw (x.3, end.0, end.1, end.2) map_atom,
                          (
                            λ p fits a h ts rest x. let end = x.4 in rw (x.3, end.0, end.1, end.2) filter_atom,
                            (
                              λ p fits a h ts rest x.
                                  let y = x.4 in
                                  let end = y.4 in
                                  rw (x.3, end.0, end.1, sym end.2) (call_atom y.3),
                              (
                                λ p fits a h ts rest x.
                                    let y = x.4 in
                                    let end = y.4 in
                                    rw (end.0, end.1) (enclosed_atom (subst (λ l. IsChain 2 x.0 x.1 ts l) (y.3 ∙ ap
                                    (λ l. sign symbol.RightParenthesis y.0 ∷ l) end.2) x.3)),
                                read_map (λ c h ts rest. IsBlock c h ts rest) AtomForm block_entries (λ c h ts rest x. block_atom x) block_read,
                              ),
                            ),
                          ),
                        ),
                      ),
                    ),
                  ),
                ),
              ),
            ),
          ),
        ),
      ),
    ),
  ),
)

block_first : {c : Comp} {h : ℕ} {ts rest : List Token} → OpensBy block_entries c h ts rest → OpensBy atom_entries c h ts rest
block_first (opens_by t r is x) = opens_by t r (after_atoms t r is) x
  where
    after_brace : (t : Token) (r : Rest Comp) (p : Place) → t ≡ sign symbol.LeftBrace p → found block_entries t ≡ Some r → found atom_entries t ≡ Some r
    after_brace t r p e is = subst (λ u. found block_entries u ≡ Some r → found atom_entries u ≡ Some r) (sym e) (λ y. y) is

    by_told : (t : Token) (r : Rest Comp) (o : Option Place) → told (a_sign symbol.LeftBrace) t ≡ o
        → if_found o (λ p. Some (reads (more_members [] 0) (λ ms h. gives (comp.Block ms p) (suc h)))) None ≡ Some r
        → found block_entries t ≡ Some r → found atom_entries t ≡ Some r
    by_told t r (Some p) e y is = let k = told_is (a_sign symbol.LeftBrace) t p e in after_brace t r p k.1 is
    by_told t r None e y is = absurd (cc y)

    after_atoms : (t : Token) (r : Rest Comp) → found block_entries t ≡ Some r → found atom_entries t ≡ Some r
    after_atoms t r is = by_told t r (told (a_sign symbol.LeftBrace) t) refl is is

pub atom_opens : (c : Comp) (h : ℕ) (ts rest : List Token) → IsAtom c h ts rest → OpensBy atom_entries c h ts rest
atom_opens c h ts rest (take_atom {at = at}) = opens_by (word keyword.Take at) _ refl (refl, refl, refl)
atom_opens c h ts rest (takes_atom {n = n} {at = at} {here = here}) = opens_by (word keyword.Takes at) _ refl ((n, here), _, tt, refl, (refl, refl, refl))
atom_opens c h ts rest (emit_atom {at = at} b) = opens_by (word keyword.Emit at) _ refl (_, _, _, b, (refl, refl, refl))
atom_opens c h ts rest (emits_atom {at = at} b) = opens_by (word keyword.Emits at) _ refl (_, _, _, b, (refl, refl, refl))
atom_opens c h ts rest (return_atom {at = at} b) = opens_by (word keyword.Return at) _ refl (_, _, _, b, (refl, refl, refl))
atom_opens c h ts rest (do_atom {at = at} b) = opens_by (word keyword.Do at) _ refl (_, _, _, b, (refl, refl, refl))
atom_opens c h ts rest (repeat_atom {at = at} a) = opens_by (word keyword.Repeat at) _ refl (_, _, _, repeat_atom a, (refl, refl, refl))
atom_opens c h ts rest (hinted_atom {at = at} a) = opens_by (word keyword.Repeat at) _ refl (_, _, _, hinted_atom a, (refl, refl, refl))
atom_opens c h ts rest (while_atom {at = at} b a) =
    opens_by (word keyword.While at) _ refl (_, _, tt, refl, (_, _, _, b, (_, _, tt, refl, (_, _, _, atom a, (refl, refl, refl)))))
atom_opens c h ts rest (until_atom {at = at} b a) =
    opens_by (word keyword.Until at) _ refl (_, _, tt, refl, (_, _, _, b, (_, _, tt, refl, (_, _, _, atom a, (refl, refl, refl)))))
atom_opens c h ts rest (times_atom {at = at} b a) =
    opens_by (word keyword.Times at) _ refl (_, _, tt, refl, (_, _, _, b, (_, _, tt, refl, (_, _, _, atom a, (refl, refl, refl)))))
atom_opens c h ts rest (for_atom {x = x} {from = from} {count = count} {at = at} b a) =
    opens_by (word keyword.For at) _ refl ((x, from, count), _, _, b, (_, _, _, atom a, (refl, refl, refl)))
atom_opens c h ts rest (if_atom {at = at} b x y) =
    opens_by (word keyword.If at) _ refl (_, _, _, b, (_, _, tt, refl, (_, _, _, atom x, (_, _, tt, refl, (_, _, _, atom y, (refl, refl, refl))))))
atom_opens c h ts rest (map_atom {x = x} {at = at} {here = here}) = opens_by (word keyword.Map at) _ refl ((x, here), _, tt, refl, (refl, refl, refl))
atom_opens c h ts rest (filter_atom {x = x} {at = at} {here = here}) = opens_by (word keyword.Filter at) _ refl ((x, here), _, tt, refl, (refl, refl, refl))
atom_opens c h ts rest (call_atom {x = x} {at = at} a) = opens_by (name x at) _ refl (_, _, tt, refl, (_, _, _, a, (refl, refl, refl)))
atom_opens c h ts rest (block_atom b) = block_first (block_opens c h ts rest b)
atom_opens c h ts rest (enclosed_atom {at = at} x) = opens_by (sign symbol.LeftParenthesis at) _ refl (_, _, _, x, (_, _, tt, refl, (refl, refl, refl)))

atom_token : Tokens
atom_token t = behind_chain 0 t

-- an expression and then the end
value_sound : (f : Expr → ℕ → Rest Comp) → ((e : Expr) (h : ℕ) → Sound (behind_chain 0) (f e h)) → Rises f → ((e : Expr) (h : ℕ)
    → Avoids (behind_chain 0) (behind_binary 10) (f e h))
    → Sound (behind_chain 0) (reads (a_binary ranks) f)
value_sound f x y z = (x, y, z)

loop_sound : (make : Expr → Comp → Comp) → Sound (behind_chain 0) (loop_on make)
loop_sound make = (
  tt,
  λ p. (
    λ e h. (
      tt,
      λ q.
          (λ c g. tt, λ a b g k le. omega arith, λ c g. λ t b. b),
      λ q. same (suc (max h 1)),
    ),
    λ a b h g le. omega arith,
    λ e h. λ q fits. refl,
  ),
  λ p. same 2,
)

pub atom_sound : AllEntries (Steady (behind_chain 0)) atom_entries
atom_sound = (
  λ p. tt,
  (
    λ p. (tt, λ n. tt, λ n. same 1),
    (
      λ p. (λ e h. tt, λ a b h g le. omega arith, λ e h. binary_chain 0),
      (
        λ p. (λ e h. tt, λ a b h g le. omega arith, λ e h. binary_chain 0),
        (
          λ p. (λ e h. tt, λ a b h g le. omega arith, λ e h. binary_chain 0),
          (
            λ p. (λ b h. tt, λ a b h g le. omega arith, λ b h. avoids_nothing (behind_chain 0) (gives (comp.Do b p) (suc h))),
            (
              λ p. (λ c h. tt, λ a b h g le. le, λ c h. λ t b. b),
              (
                λ at. loop_sound (λ e c. comp.While turning.While e c at),
                (
                  λ at. loop_sound (λ e c. comp.While turning.Until e c at),
                  (
                    λ at. loop_sound (λ e c. comp.Times e c at),
                    (
                      λ at. (
                        λ b h. (λ c g. tt, λ a b g k le. omega arith, λ c g. λ t b. b),
                        λ a b h g le. omega arith,
                        λ b h. avoids_nothing (behind_chain 0) (reads (a_chain 0) (λ c g. gives (comp.For b.0 b.1 b.2 c at) (suc (max h g)))),
                      ),
                      (
                        λ at. (
                          λ e h. (
                            tt,
                            λ p. (
                              λ c g. (
                                tt,
                                λ q.
                                    (λ d f. tt, λ a b f k le. omega arith, λ d f. λ t b. b),
                                λ q. same (suc (max
                                    (max h g) 1)),
                              ),
                              λ a b g k le. omega arith,
                              λ c g. λ q fits. refl,
                            ),
                            λ p. same (suc (max (max h 1) 1)),
                          ),
                          λ a b h g le. omega arith,
                          λ e h. λ p fits. refl,
                        ),
                        (
                          λ p. (tt, λ x. tt, λ x. same 1),
                          (
                            λ p. (tt, λ x. tt, λ x. same 1),
                            (
                              λ p. (
                                tt,
                                λ q. (
                                  λ es h. tt,
                                  λ a b h g le. omega arith,
                                  λ es h. avoids_nothing (behind_chain 0)
                                      (gives (comp.Call (ident p.0 p.1) 0 es) (suc h)),
                                ),
                                λ q. same 1,
                              ),
                              (
                                λ p. (λ c h. (tt, λ q. tt, λ q. same (suc h)), λ a b h g le. omega arith, λ c h. λ q fits. refl),
                                block_sound (behind_chain 0),
                              ),
                            ),
                          ),
                        ),
                      ),
                    ),
                  ),
                ),
              ),
            ),
          ),
        ),
      ),
    ),
  ),
)

pub atom_low : AllEntries (NoLower 1) atom_entries
atom_low = (
  λ p. omega arith,
  (
    λ p. omega arith,
    (
      λ p. omega arith,
      (
        λ p. omega arith,
        (
          λ p. omega arith,
          (
            λ p. omega arith,
            (
              λ p. omega arith,
              (
                λ p. omega arith,
                (
                  λ p. omega arith,
                  (
                    λ p. omega arith,
                    (
                      λ p. omega arith,
                      (
                        λ p. omega arith,
                        (
                          λ p. omega arith,
                          (
                            λ p. omega arith,
                            (
                              λ p. omega arith,
                              (λ p. omega arith, (λ p. omega arith, tt)),
                            ),
                          ),
                        ),
                      ),
                    ),
                  ),
                ),
              ),
            ),
          ),
        ),
      ),
    ),
  ),
)

-- ---- chains

abbrev pub ChainForm : ℕ → Form Comp
ChainForm n c h ts rest = IsChain n c h ts rest

abbrev pub links_behind : ℕ → Comp → ℕ → Rest Comp
links_behind n c h = reads (links_of n c h) done_with

pub chain_read : (n : ℕ) → AllEntries (Reading (ChainForm n)) (chain_entries n)
chain_read zero = read_map AtomForm (ChainForm zero) atom_entries (λ c h ts rest x. atom x) atom_read
chain_read (suc n) =
    lead_read (ChainForm n) (ChainForm (suc n)) (chain_entries n) (links_behind n) (chain_read n)
    (λ a h ts mid b g rest x y. let end = y.4 in rw (end.0, end.1, sym end.2) (links x y.3))

pub chain_opens : (n : ℕ) (c : Comp) (h : ℕ) (ts rest : List Token) → IsChain n c h ts rest → OpensBy (chain_entries n) c h ts rest
chain_opens zero c h ts rest (atom a) = atom_opens c h ts rest a
chain_opens (suc n) c h ts rest (links {low = low} {first = first} {mid = mid} x more) =
    opens_lead (chain_entries n) (links_behind n) first low c h ts mid rest (chain_opens n first low ts mid x) (c, h, rest, more, (refl, refl, refl))

pub chain_sound : (n : ℕ) → AllEntries (Steady (behind_chain n)) (chain_entries n)
chain_sound zero = atom_sound
chain_sound (suc n) =
    lead_sound (behind_chain (suc n)) (behind_chain n) (chain_entries n) (links_behind n) (chain_sound n) (λ c h.
    (λ a g. tt, λ a b g k le. le, λ a g. λ t b. b)) (λ a b h g le. le)
    (λ c h. ((λ p fits. link_avoided n p fits, tt), λ is. chain_up n))

pub chain_low : (n : ℕ) → AllEntries (NoLower 1) (chain_entries n)
chain_low zero = atom_low
chain_low (suc n) = lead_low 1 1 (chain_entries n) (links_behind n) (chain_low n) (λ a h le. le)

chain_none : (w : Want) (n : ℕ) → NoneOf w atom_entries → NoneOf w (chain_entries n)
chain_none w zero x = x
chain_none w (suc n) x = none_lead w (chain_entries n) (links_behind n) (chain_none w n x)

abbrev pub LinksForm : ℕ → Comp → ℕ → Form Comp
LinksForm n left low c h ts rest = IsLinks n left low c h ts rest

pub links_read : (n : ℕ) (left : Comp) (low : ℕ) → AllEntries (Reading (LinksForm n left low)) (link_entries n left low)
links_read n left low = (
  λ p fits a h ts rest x.
      let y = x.4 in
      let end = y.4 in
      rw (end.0, end.1, sym end.2) (join p.0 fits x.3 y.3),
  tt,
)

pub links_sound : (n : ℕ) (left : Comp) (low : ℕ) → AllEntries (Steady (behind_chain (suc n))) (link_entries n left low)
links_sound n left low = (
  λ p. (
    λ c h. (λ a g. tt, λ a b g k le. le, λ a g. λ t b. b),
    λ a b h g le. omega arith,
    λ c h.
        ((λ q fits. link_avoided n q fits, tt), λ is. chain_up n),
  ),
  tt,
)

pub links_low : (n : ℕ) (left : Comp) (low : ℕ) → AllEntries (NoLower low) (link_entries n left low)
links_low n left low = (λ p. omega arith, tt)

pub links_opens : (n : ℕ) (left : Comp) (low : ℕ) (c : Comp) (h : ℕ) (ts rest : List Token) → IsLinks n left low c h ts rest
    → Opens (links_of n left low) c h ts rest
links_opens n left low c h ts rest no_link = passed refl
links_opens n left low c h ts rest (join {at = at} l is x more) =
    opened (sign (link_symbol l) at)
    (reads (a_chain n) (λ right g. reads (links_of n (comp.Pipe l left right at) (suc (max low g))) done_with)) (rw (told_back (a_link n)
    (l, at) is) refl) (_, _, _, x, (_, _, _, more, (refl, refl, refl)))

-- ---- `repeat`

abbrev pub RepeatForm : Place → Form Comp
RepeatForm at c h ts rest = IsAtom c h (word keyword.Repeat at ∷ ts) rest

abbrev pub repeat_behind : Place → Comp → ℕ → Rest Comp
repeat_behind at c h = gives (comp.Repeat c at) (suc h)

hint_read : (at opens : Place) (a : Comp) (h : ℕ) (ts rest : List Token)
    → Reads (wants a_number (λ n. wants_sign symbol.Comma (wants a_number (λ m. wants_sign symbol.RightBracket
    (reads (a_chain 0) (repeat_behind at)))))) a h ts rest
    → IsAtom a h (word keyword.Repeat at ∷ sign symbol.LeftBracket opens ∷ ts) rest
hint_read at opens a h ts rest (n, m1, f1, is1, (p, m2, f2, is2, (m, m3, f3, is3, (q, m4, f4, is4, (c, g, m5, x, (same_tree, same_height, end)))))) =
    rw (is1, is2, is3, is4, same_tree, same_height, sym end) (hinted_atom (atom_of x))

pub repeat_read : (at : Place) → AllEntries (Reading (RepeatForm at)) (repeat_entries at)
repeat_read at = (
  λ p fits a h ts rest x. hint_read at p a h ts rest x,
  lead_read AtomForm (RepeatForm at) atom_entries (repeat_behind at) atom_read (λ c h ts mid b g rest x y. rw (y.0, y.1, sym y.2) (repeat_atom x)),
)

no_block : {c : Comp} {h : ℕ} {at : Place} {ts rest : List Token} → IsBlock c h (word keyword.Repeat at ∷ ts) rest → ⊥
no_block x = elim x [ ]

all_but : (w : Want) → NoneOf w atom_entries → {A : Type 0} (k : Comp → ℕ → Rest A) → NoneOf w (lead atom_entries k)
all_but w x k = none_lead w atom_entries k x

bracket_none : NoneOf (a_sign symbol.LeftBracket) atom_entries
bracket_none = (
  λ p fits. refl,
  (
    λ p fits. refl,
    (
      λ p fits. refl,
      (
        λ p fits. refl,
        (
          λ p fits. refl,
          (
            λ p fits. refl,
            (
              λ p fits. refl,
              (
                λ p fits. refl,
                (
                  λ p fits. refl,
                  (
                    λ p fits. refl,
                    (
                      λ p fits. refl,
                      (λ p fits. refl, (λ p fits. refl, (λ p fits. refl, (λ p fits. refl, (λ p fits. refl, (λ p fits. refl, tt)))))),
                    ),
                  ),
                ),
              ),
            ),
          ),
        ),
      ),
    ),
  ),
)

brace_none : NoneOf (a_sign symbol.RightBrace) atom_entries
brace_none = (
  λ p fits. refl,
  (
    λ p fits. refl,
    (
      λ p fits. refl,
      (
        λ p fits. refl,
        (
          λ p fits. refl,
          (
            λ p fits. refl,
            (
              λ p fits. refl,
              (
                λ p fits. refl,
                (
                  λ p fits. refl,
                  (
                    λ p fits. refl,
                    (
                      λ p fits. refl,
                      (λ p fits. refl, (λ p fits. refl, (λ p fits. refl, (λ p fits. refl, (λ p fits. refl, (λ p fits. refl, tt)))))),
                    ),
                  ),
                ),
              ),
            ),
          ),
        ),
      ),
    ),
  ),
)

var_none : NoneOf (a_word keyword.Var) atom_entries
var_none = (
  λ p fits. refl,
  (
    λ p fits. refl,
    (
      λ p fits. refl,
      (
        λ p fits. refl,
        (
          λ p fits. refl,
          (
            λ p fits. refl,
            (
              λ p fits. refl,
              (
                λ p fits. refl,
                (
                  λ p fits. refl,
                  (
                    λ p fits. refl,
                    (
                      λ p fits. refl,
                      (λ p fits. refl, (λ p fits. refl, (λ p fits. refl, (λ p fits. refl, (λ p fits. refl, (λ p fits. refl, tt)))))),
                    ),
                  ),
                ),
              ),
            ),
          ),
        ),
      ),
    ),
  ),
)

pub write_none : NoneOf (a_word keyword.Write) atom_entries
write_none = (
  λ p fits. refl,
  (
    λ p fits. refl,
    (
      λ p fits. refl,
      (
        λ p fits. refl,
        (
          λ p fits. refl,
          (
            λ p fits. refl,
            (
              λ p fits. refl,
              (
                λ p fits. refl,
                (
                  λ p fits. refl,
                  (
                    λ p fits. refl,
                    (
                      λ p fits. refl,
                      (λ p fits. refl, (λ p fits. refl, (λ p fits. refl, (λ p fits. refl, (λ p fits. refl, (λ p fits. refl, tt)))))),
                    ),
                  ),
                ),
              ),
            ),
          ),
        ),
      ),
    ),
  ),
)

pub repeat_opens : (at : Place) (c : Comp) (h : ℕ) (ts rest : List Token) → RepeatForm at c h ts rest → OpensBy (repeat_entries at) c h ts rest
repeat_opens at c h ts rest (repeat_atom {c = d} {h = g} a) =
    opens_behind (a_sign symbol.LeftBracket) _ (lead atom_entries (repeat_behind at)) c h ts rest (none_lead (a_sign symbol.LeftBracket) atom_entries
    (repeat_behind at) bracket_none)
    (opens_lead atom_entries (repeat_behind at) d g c h ts rest rest (atom_opens d g ts rest a) (refl, refl, refl))
repeat_opens at c h ts rest (hinted_atom {n = n} {m = m} {opens = opens} {first = one} {second = two} a) =
    opens_by (sign symbol.LeftBracket opens) _ refl (
      (n, one),
      _,
      tt,
      refl,
      (
        _,
        _,
        tt,
        refl,
        (
          (m, two),
          _,
          tt,
          refl,
          (
            _,
            _,
            tt,
            refl,
            (_, _, _, atom a, (refl, refl, refl)),
          ),
        ),
      ),
    )
repeat_opens at c h ts rest (block_atom b) = absurd (no_block b)

pub repeat_sound : (at : Place) → AllEntries (Steady (behind_chain 0)) (repeat_entries at)
repeat_sound at = (
  λ p. (tt, λ n. (tt, λ q. (tt, λ m. (tt, λ r. (λ c h. tt, λ a b h g le. omega arith, λ c h. λ t b. b), λ r. same 2), λ m. same 2), λ q. same 2), λ n. same 2),
  lead_sound (behind_chain 0) (behind_chain 0) atom_entries (repeat_behind at) atom_sound (λ c h. tt) (λ a b h g le. omega arith) (λ c h. λ t b. b),
)

pub repeat_low : (at : Place) → AllEntries (NoLower 2) (repeat_entries at)
repeat_low at = (λ p. omega arith, lead_low 2 1 atom_entries (repeat_behind at) atom_low (λ a h le. omega arith))

-- ---- members

abbrev pub MembersForm : List Member → ℕ → Form (List Member)
MembersForm done low ms h ts rest = IsMembers done low ms h ts rest

stop_of : {done ms : List Member} {c : Comp} {low h g : ℕ} {stop : Place} {ts mid rest : List Token} → IsChain 2 c h ts (sign symbol.Semicolon stop ∷ mid)
    → IsStopped (done ++ member.Run c ∷ []) (max low h) ms g mid rest → IsMembers done low ms g ts rest
stop_of x stopped = last_stopped x
stop_of x (further y) = member_runs x y

member_read_end : (done : List Member) (low : ℕ) (c : Comp) (h : ℕ) (ts mid : List Token) (ms : List Member) (g : ℕ) (rest : List Token) → IsChain 2 c h ts mid
    → Reads (member_end done low c h) ms g mid rest → IsMembers done low ms g ts rest
member_read_end done low c h ts mid ms g rest x (inl (closes, m, fits, there, (same_tree, same_height, end))) =
    rw (same_tree, same_height) (last_member (subst (λ l. IsChain 2 c h ts l) (there ∙ ap (λ l. sign symbol.RightBrace closes ∷ l) end) x))
member_read_end done low c h ts mid ms g rest x (inr (stop, m, fits, there, (b, k, m2, more, (same_tree, same_height, end)))) =
    rw (same_tree, same_height, sym end) (stop_of (subst (λ l. IsChain 2 c h ts l) there x) more)

named_member : (done : List Member) (low : ℕ) (x : List ℕ) (at : Place) (ms : List Member) (g : ℕ) (ts rest : List Token)
    → Reads (member_named done low x at) ms g ts rest
    → IsMembers done low ms g (name x at ∷ ts) rest
named_member done low x at ms g ts rest (inl (opens, m, fits, there, (es, h, m2, a, (c, k, m3, l, (d, f, m4, n, end))))) =
    rw there (member_read_end done low d f (name x at ∷ sign symbol.LeftParenthesis opens ∷ m) m4 ms g rest (links (links (atom (call_atom a)) l) n) end)
named_member done low x at ms g ts rest (inr (
  arrow,
  m,
  fits,
  there,
  (
    c,
    h,
    m2,
    y,
    (
      stop,
      m3,
      fits2,
      there2,
      (
        b,
        k,
        m4,
        more,
        (same_tree, same_height, end),
      ),
    ),
  ),
)) =
    rw (there, same_tree, same_height, sym end) (binds (subst (λ l. IsChain 2 c h m l) there2 y) more)

abbrev pub member_var_behind : List Member → ℕ → Var → ℕ → Rest (List Member)
member_var_behind done low v h = wants_sign symbol.Semicolon (reads (more_members (done ++ member.Var v ∷ []) (max low h)) done_with)

pub member_read : (done : List Member) (low : ℕ) → AllEntries (Reading (MembersForm done low)) (member_entries done low)
member_read done low = (
  λ p fits a h ts rest x. named_member done low p.0 p.1 a h ts rest x,
  all_append (Reading (MembersForm done low)) (lead var_entries (member_var_behind done low)) (lead (chain_entries 2) (member_end done low))
      (lead_read VarForm (MembersForm done low) var_entries (member_var_behind done low) var_read
      (λ v h ts mid ms g rest x y.
      let z = y.4 in
      let end = z.4 in
      rw (end.0, end.1, sym end.2) (member_var (subst (λ l. IsVar v h ts l) y.3 x) z.3)))
      (lead_read (ChainForm 2) (MembersForm done low) (chain_entries 2) (member_end done low) (chain_read 2) (member_read_end done low)),
)

-- what no name begins
abbrev pub others : List Member → ℕ → List (Entry (List Member))
others done low = lead var_entries (member_var_behind done low) ++ lead (chain_entries 2) (member_end done low)

some_is : {A : Type 0} (a b : A) → ◌≡◌ {A = Option A} (Some a) (Some b) → b ≡ a
some_is a b e = cc

-- a name begins a call there too
name_first : (done : List Member) (low : ℕ) (ms : List Member) (h : ℕ) (t : Token) (r : Rest (List Member)) (ts rest : List Token)
    (p : List ℕ × Place) → t ≡ name p.0 p.1
    → found (others done low) t ≡ Some r → Reads r ms h ts rest → OpensBy (member_entries done low) ms h (t ∷ ts) rest
name_first done low ms h t r ts rest p e is x =
    let at_name = subst (λ u. found (others done low) u ≡ Some r) e is in
    let same_rest = some_is _ r at_name in
    subst (λ u. OpensBy (member_entries done low) ms h (u ∷ ts) rest) (sym e)
    (opens_by (name p.0 p.1) (member_named done low p.0 p.1) refl (inl (subst (λ q. Reads q ms h ts rest) same_rest x)))

by_name : (done : List Member) (low : ℕ) (ms : List Member) (h : ℕ) (t : Token) (r : Rest (List Member)) (ts rest : List Token) (o : Option
    (List ℕ × Place)) → told a_name t ≡ o
    → found (others done low) t ≡ Some r → Reads r ms h ts rest → OpensBy (member_entries done low) ms h (t ∷ ts) rest
by_name done low ms h t r ts rest (Some p) e is x = let k = told_is a_name t p e in name_first done low ms h t r ts rest p k.1 is x
by_name done low ms h t r ts rest None e is x = opens_by t r (skip_first (on a_name (λ p. member_named done low p.0 p.1)) (others done low) t r e is) x

behind_name_entry : (done : List Member) (low : ℕ) (ms : List Member) (h : ℕ) (ts rest : List Token) → OpensBy (others done low) ms h ts rest
    → OpensBy (member_entries done low) ms h ts rest
behind_name_entry done low ms h ts rest (opens_by {ts = us} t r is x) = by_name done low ms h t r us rest (told a_name t) refl is x

chain_member : (done : List Member) (low : ℕ) (c : Comp) (h : ℕ) (ts mid : List Token) (ms : List Member) (g : ℕ) (rest : List Token) → IsChain 2 c h ts mid
    → Reads (member_end done low c h) ms g mid rest → OpensBy (member_entries done low) ms g ts rest
chain_member done low c h ts mid ms g rest x y =
    behind_name_entry done low ms g ts rest
    (opens_behind (a_word keyword.Var) _ (lead (chain_entries 2) (member_end done low)) ms g ts rest
    (none_lead (a_word keyword.Var) (chain_entries 2) (member_end done low) (chain_none (a_word keyword.Var) 2 var_none))
    (opens_lead (chain_entries 2) (member_end done low) c h ms g ts mid rest (chain_opens 2 c h ts mid x) y))

pub member_opens : (done : List Member) (low : ℕ) (ms : List Member) (h : ℕ) (ts rest : List Token) → IsMembers done low ms h ts rest
    → OpensBy (member_entries done low) ms h ts rest
member_opens done low ms h ts rest (binds {x = x} {at = at} y more) =
    opens_by (name x at) _ refl (inr (_, _, tt, refl, (_, _, _, y, (_, _, tt, refl, (_, _, _, more, (refl, refl, refl))))))
member_opens done low ms h ts rest (member_var {v = v} {h = g} {stop = stop} {mid = mid} x more) =
    behind_name_entry done low ms h ts rest
    (opens_front (lead var_entries (member_var_behind done low)) (lead (chain_entries 2) (member_end done low)) ms h ts rest
    (opens_lead var_entries (member_var_behind done low) v g ms h ts (sign symbol.Semicolon stop
    ∷ mid) rest (var_opens v g ts (sign symbol.Semicolon stop ∷ mid) x)
    (stop, mid, tt, refl, (_, _, _, more, (refl, refl, refl)))))
member_opens done low ms h ts rest (member_runs {c = c} {h = g} {stop = stop} {mid = mid} x more) =
    chain_member done low c g ts (sign symbol.Semicolon stop ∷ mid) ms h rest x (inr (stop, mid, tt, refl, (_, _, _, further more, (refl, refl, refl))))
member_opens done low ms h ts rest (last_member {c = c} {h = g} {closes = closes} x) =
    chain_member done low c g ts (sign symbol.RightBrace closes ∷ rest) ms h rest x (inl (closes, rest, tt, refl, (refl, refl, refl)))
member_opens done low ms h ts rest (last_stopped {c = c} {h = g} {stop = stop} {closes = closes} x) =
    chain_member done low c g ts (sign symbol.Semicolon stop ∷ sign symbol.RightBrace closes ∷ rest) ms h rest x
    (inr (stop, _, tt, refl, (_, _, _, stopped, (refl, refl, refl))))

members_go_on : (done : List Member) (low : ℕ) → Sound nothing (reads (more_members done low) done_with)
members_go_on done low = (λ ms k. tt, λ a b g k le. le, λ ms k. avoids_nothing nothing (gives ms k))

member_end_sound : (done : List Member) (low : ℕ) (c : Comp) (h : ℕ) → Sound nothing (member_end done low c h)
member_end_sound done low c h = (
  tt,
  λ p. tt,
  λ p. same (max low h),
  λ p.
      (λ ms g. tt, λ a b g k le. le, λ ms g. avoids_nothing nothing (gives ms g)),
  λ p. same (max low h),
  λ p fits. refl,
)

member_named_sound : (done : List Member) (low : ℕ) (x : List ℕ) (at : Place) → Sound nothing (member_named done low x at)
member_named_sound done low x at = (
  tt,
  λ q. (
    λ es h. (
      λ c g. (λ d f. member_end_sound done low d f, λ a b h g le. omega arith, λ d f. (λ p fits. refl, λ p fits. refl)),
      λ a b h g le. omega arith,
      λ c g. ((λ p fits. link_avoided 1 p fits, tt), λ is. (λ p fits. refl, λ p fits. refl)),
    ),
    λ a b h g le. omega arith,
    λ es h. avoids_nothing nothing (reads (links_of 0 (comp.Call (ident x at) 0 es) (suc h)) (λ c g. reads (links_of 1 c g) (λ d f. member_end done low d f))),
  ),
  λ q. same (max low 1),
  λ q. (
    λ c h. (
      tt,
      λ s. members_go_on (done ++ member.Bind (ident x at) c
          ∷ []) (max low (suc h)),
      λ s. same (max (max low (suc h)) 1),
    ),
    λ a b h g le. omega arith,
    λ c h. λ s fits. refl,
  ),
  λ q. omega arith,
  λ q fits. refl,
)

pub member_sound : (done : List Member) (low : ℕ) → AllEntries (Steady nothing) (member_entries done low)
member_sound done low = (
  λ p. member_named_sound done low p.0 p.1,
  all_append (Steady nothing) (lead var_entries (member_var_behind done low)) (lead (chain_entries 2) (member_end done low))
      (lead_sound nothing var_token var_entries (member_var_behind done low) var_sound
      (λ v h. (tt, λ s. members_go_on (done ++ member.Var v ∷ []) (max low h), λ s. same (max (max low h) 1))) (λ a b h g le. omega arith)
      (λ v h. λ s fits. refl))
      (lead_sound nothing (behind_chain 2) (chain_entries 2) (member_end done low) (chain_sound 2) (member_end_sound done low) (λ a b h g le. omega arith)
      (λ c h. (λ p fits. refl, λ p fits. refl))),
)

pub member_low : (done : List Member) (low : ℕ) → AllEntries (NoLower (max low 1)) (member_entries done low)
member_low done low = (
  λ p. omega arith,
  all_append (NoLower (max low 1)) (lead var_entries (member_var_behind done low)) (lead (chain_entries 2) (member_end done low))
      (lead_low (max low 1) 1 var_entries (member_var_behind done low) var_low (λ a h le. omega arith))
      (lead_low (max low 1) 1 (chain_entries 2) (member_end done low) (chain_low 2) (λ a h le. omega arith)),
)

abbrev pub StoppedForm : List Member → ℕ → Form (List Member)
StoppedForm done low ms h ts rest = IsStopped done low ms h ts rest

pub stopped_read : (done : List Member) (low : ℕ) → AllEntries (Reading (StoppedForm done low)) (entries (behind_semicolon done low))
stopped_read done low = (
  λ p fits a h ts rest x. rw (x.0, x.1, x.2) stopped,
  read_map (MembersForm done low) (StoppedForm done low) (member_entries done low)
      (λ a h ts rest x. further x) (member_read done low),
)

member_brace : (done : List Member) (low : ℕ) → NoneOf (a_sign symbol.RightBrace) (member_entries done low)
member_brace done low = (
  λ p fits. refl,
  all_append (Differs (a_sign symbol.RightBrace)) (lead var_entries (member_var_behind done low)) (lead (chain_entries 2) (member_end done low))
      (λ p fits. refl, tt)
      (none_lead (a_sign symbol.RightBrace) (chain_entries 2) (member_end done low) (chain_none (a_sign symbol.RightBrace) 2 brace_none)),
)

pub stopped_opens : (done : List Member) (low : ℕ) (ms : List Member) (h : ℕ) (ts rest : List Token) → IsStopped done low ms h ts rest
    → OpensBy (entries (behind_semicolon done low)) ms h ts rest
stopped_opens done low ms h ts rest (stopped {at = at}) = opens_by (sign symbol.RightBrace at) _ refl (refl, refl, refl)
stopped_opens done low ms h ts rest (further x) =
    opens_behind (a_sign symbol.RightBrace) _ (member_entries done low) ms h ts rest (member_brace done low) (member_opens done low ms h ts rest x)

pub stopped_low : (done : List Member) (low : ℕ) → AllEntries (NoLower low) (entries (behind_semicolon done low))
stopped_low done low = (λ p. omega arith, weaker (member_entries done low) (member_low done low))
  where
    weaker : (es : List (Entry (List Member))) → AllEntries (NoLower (max low 1)) es → AllEntries (NoLower low) es
    weaker [] x = tt
    weaker (e ∷ es) x = (λ p. let y = x.0 p in omega (arith, y), weaker es x.1)
