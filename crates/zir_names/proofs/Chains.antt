-- Declarations found along the links of their bucket.
use Rattle.std.specs.Prelude.{◌≡◌, ℕ, zero, suc, ◌<◌, ◌≤◌, ◌+◌, ◌-◌, ◌*◌, ◌%◌, Bool, true, false, List, [], ◌∷◌, ◌++◌, Option, Some, None, length, take, drop, nat_eq, slice_index, slice_index_or, slice_set, replicate, if◌then◌else◌, refl}
use Rattle.std.specs.Str.{bytes_eq}
use Rattle.std.proofs.Common.{ap, ◌∙◌, sym, subst, arith, inl, inr, get_or}
use Rattle.std.proofs.lemmas.Bool.{cases_Bool, cases_eq, cases_lt, cond-true, cond-false, eq-eqb, ne_eqb, eqb-true, eqb-false, false_from_ne_true, false≢true}
use Rattle.std.proofs.lemmas.Slice.Eq.{bytes_eq-Decides}
use Rattle.std.proofs.lemmas.List.{append_assoc, append-nil, length-append, take_more, take_all, take-append-le, take-take, get_or-take, get_or_append_left, get_or_push, get_or_default, length-take-le, get_or-set_same, get_or-set_other, get_or_past, get_or-replicate, get_or-append_right, length-replicate, take_at, length_push}
use Rattle.zir_names.specs.declared.scope.Entry.{Entry}
use Rattle.zir_names.specs.declared.scope.Link.{Link}
use Rattle.zir_tree.specs.declared.ident.Ident.{Ident}
use Rattle.zir_names.specs.declared.scope.Kind.{Kind}
use Rattle.zir_names.specs.Scope.{Seen, find, or_else, opened}
use Rattle.zir_names.specs.Buckets.{bucket, buckets, last_from, last_of, entries, ArePointed, IsChained}

last_from-push : (k found : ℕ) (cs : List ℕ) (c b : ℕ) →
    last_from k found (cs ++ c ∷ []) b ≡ (if nat_eq c b then suc (k + length cs) else last_from k found cs b)
last_from-push k found [] c b = ap (λ n. if nat_eq c b then suc n else found) (let e : k ≡ k + 0 = omega arith in e)
last_from-push k found (d ∷ ds) c b =
    last_from-push (suc k) (if nat_eq d b then suc k else found) ds c b
    ∙ ap (λ n. if nat_eq c b then suc n else last_from (suc k) (if nat_eq d b then suc k else found) ds b) (let e : suc k + length ds ≡ k + suc (length ds) = omega arith in e)

pub last_of-push : (cs : List ℕ) (c b : ℕ) → last_of (cs ++ c ∷ []) b ≡ (if nat_eq c b then suc (length cs) else last_of cs b)
last_of-push cs c b = last_from-push 0 0 cs c b ∙ ap (λ n. if nat_eq c b then suc n else last_of cs b) (let e : 0 + length cs ≡ length cs = omega arith in e)

pub entries-push : (ls : List Link) (l : Link) → entries (ls ++ l ∷ []) ≡ entries ls ++ l.entry ∷ []
entries-push [] l = refl
entries-push (m ∷ ms) l = ap (λ es. m.entry ∷ es) (entries-push ms l)

pub buckets-push : (es : List Entry) (e : Entry) → buckets (es ++ e ∷ []) ≡ buckets es ++ bucket e.name ∷ []
buckets-push [] e = refl
buckets-push (d ∷ ds) e = ap (λ bs. bucket d.name ∷ bs) (buckets-push ds e)

pub length-entries : (ls : List Link) → length (entries ls) ≡ length ls
length-entries [] = refl
length-entries (l ∷ ls) = ap suc (length-entries ls)

pub length-buckets : (es : List Entry) → length (buckets es) ≡ length es
length-buckets [] = refl
length-buckets (e ∷ es) = ap suc (length-buckets es)

pub entries-take : (n : ℕ) (ls : List Link) → entries (take n ls) ≡ take n (entries ls)
entries-take zero ls = refl
entries-take (suc n) [] = refl
entries-take (suc n) (l ∷ ls) = ap (λ es. l.entry ∷ es) (entries-take n ls)

or_else-if : (b : Bool) (e : Entry) (o p : Option Entry) → or_else (if b then Some e else o) p ≡ (if b then Some e else or_else o p)
or_else-if true e o p = refl
or_else-if false e o p = refl

pub find-push : (es : List Entry) (e : Entry) (name : List ℕ) → find (es ++ e ∷ []) name ≡ (if bytes_eq e.name name then Some e else find es name)
find-push [] e name = refl
find-push (d ∷ ds) e name =
    ap (λ o. or_else o (if bytes_eq d.name name then Some d else None)) (find-push ds e name)
    ∙ or_else-if (bytes_eq e.name name) e (find ds name) (if bytes_eq d.name name then Some d else None)

-- the links up to this one have what all of them have of a name, and this one is in the bucket of the name
pub record Reaches (ls : List Link) (name : List ℕ) (at : ℕ) : Type 0 where
  pub same : find (entries (take at ls)) name ≡ find (entries ls) name
  pub inside : at ≤ length ls
  pub there : (l : Link) → 0 < at → l ≡ slice_index_or ls (at - 1) l → bucket l.entry.name ≡ bucket name

-- a name in another bucket is another name
not_named : (l : Link) (name : List ℕ) → nat_eq (bucket l.entry.name) (bucket name) ≡ false → bytes_eq l.entry.name name ≡ false
not_named l name h = false_from_ne_true (bytes_eq l.entry.name name)
    (λ e. false≢true (sym h ∙ eq-eqb (bucket l.entry.name) (bucket name) (ap bucket ((bytes_eq-Decides l.entry.name name).0 e))))

-- one more link
reaches-more : (ps : List Link) (l : Link) (name : List ℕ) (found : ℕ) → Reaches ps name found →
    Reaches (ps ++ l ∷ []) name (if nat_eq (bucket l.entry.name) (bucket name) then suc (length ps) else found)
reaches-more ps l name found r = elim (cases_Bool (nat_eq (bucket l.entry.name) (bucket name))) [
  | inl hit ↦ rw hit (record {
    same = ap (λ xs. find (entries xs) name) (take_all (suc (length ps)) (ps ++ l ∷ []) (omega (arith, length_push ps l)));
    inside = omega (arith, length_push ps l);
    there = λ m h is. ap (λ (x : Link). bucket x.entry.name) (is ∙ get_or_push ps l m (suc (length ps) - 1) (omega arith)) ∙ eqb-true (bucket l.entry.name) (bucket name) hit;
  })
  | inr miss ↦ rw miss (record {
    same = ap (λ xs. find (entries xs) name) (take-append-le found ps (l ∷ []) r.inside) ∙ r.same
        ∙ sym (ap (λ es. find es name) (entries-push ps l) ∙ find-push (entries ps) l.entry name ∙ cond-false (bytes_eq l.entry.name name) _ _ (not_named l name miss));
    inside = omega (arith, length_push ps l, r.inside);
    there = λ m h is. r.there m h (is ∙ get_or_append_left ps (l ∷ []) m (found - 1) (omega (arith, r.inside)));
  })
]

reaches-all : (ps ls : List Link) (name : List ℕ) (found : ℕ) → Reaches ps name found →
    Reaches (ps ++ ls) name (last_from (length ps) found (buckets (entries ls)) (bucket name))
reaches-all ps [] name found r = subst (λ xs. Reaches xs name found) (sym (append-nil ps)) r
reaches-all ps (l ∷ ls) name found r =
    let next = if nat_eq (bucket l.entry.name) (bucket name) then suc (length ps) else found in
    subst (λ xs. Reaches xs name (last_from (suc (length ps)) next (buckets (entries ls)) (bucket name))) (append_assoc ps (l ∷ []) ls)
    (subst (λ k. Reaches ((ps ++ l ∷ []) ++ ls) name (last_from k next (buckets (entries ls)) (bucket name))) (let e : length (ps ++ l ∷ []) ≡ suc (length ps) = omega (arith, length_push ps l) in e)
    (reaches-all (ps ++ l ∷ []) ls name next (reaches-more ps l name found r)))

-- where a bucket came last, a name of it is found as in the whole
pub reaches-last : (ls : List Link) (name : List ℕ) → Reaches ls name (last_of (buckets (entries ls)) (bucket name))
reaches-last ls name = reaches-all [] ls name 0 (record { same = refl; inside = omega arith; there = λ l h is. absurd (omega arith) })

pointed-at : (before : List ℕ) (ls : List Link) (k : ℕ) (l : Link) → ArePointed before ls → k < length ls → l ≡ slice_index_or ls k l →
    l.older ≡ last_of (before ++ buckets (entries (take k ls))) (bucket l.entry.name)
pointed-at before [] k l p h is = absurd (omega arith)
pointed-at before (m ∷ ms) zero l p h is =
    ap (λ (x : Link). x.older) is ∙ p.0 ∙ ap (λ (x : Link). last_of before (bucket x.entry.name)) (sym is) ∙ ap (λ bs. last_of bs (bucket l.entry.name)) (sym (append-nil before))
pointed-at before (m ∷ ms) (suc k) l p h is =
    pointed-at (before ++ bucket m.entry.name ∷ []) ms k l p.1 (omega arith) is
    ∙ ap (λ bs. last_of bs (bucket l.entry.name)) (append_assoc before (bucket m.entry.name ∷ []) (buckets (entries (take k ms))))

-- from one link to the next of its bucket
pub reaches-older : (ls : List Link) (name : List ℕ) (at : ℕ) (l : Link) → ArePointed [] ls → Reaches ls name at → 0 < at →
    l ≡ slice_index_or ls (at - 1) l → bytes_eq l.entry.name name ≡ false → Reaches ls name l.older × (l.older < at)
reaches-older ls name at l p r h is other =
    let k = at - 1 in
    let e : k + 1 ≡ at = omega arith in
    let within : k < length ls = omega (arith, r.inside) in
    let shorter : length (take k ls) ≡ k = length-take-le k ls (omega arith) in
    let front : take at ls ≡ take k ls ++ l ∷ [] = ap (λ n. take n ls) (sym e) ∙ take_more ls k l within ∙ ap (λ x. take k ls ++ x ∷ []) (sym is) in
    let older : l.older ≡ last_of (buckets (entries (take k ls))) (bucket name) = pointed-at [] ls k l p within is ∙ ap (last_of (buckets (entries (take k ls)))) (r.there l h is) in
    let q : Reaches (take k ls) name l.older = subst (λ n. Reaches (take k ls) name n) (sym older) (reaches-last (take k ls) name) in
    let low : l.older ≤ k = omega (arith, q.inside) in (
      record {
        same = ap (λ xs. find (entries xs) name) (sym (take-take l.older k ls low)) ∙ q.same
            ∙ sym (cond-false (bytes_eq l.entry.name name) (Some l.entry) (find (entries (take k ls)) name) other)
            ∙ sym (find-push (entries (take k ls)) l.entry name) ∙ ap (λ es. find es name) (sym (entries-push (take k ls) l))
            ∙ ap (λ xs. find (entries xs) name) (sym front) ∙ r.same;
        inside = omega arith;
        there = λ m first mis. q.there m first (mis ∙ sym (get_or-take k ls (l.older - 1) m (omega arith)));
      },
      omega arith,
    )

-- a link with the name
pub found-here : (ls : List Link) (name : List ℕ) (at : ℕ) (l : Link) → Reaches ls name at → 0 < at →
    l ≡ slice_index_or ls (at - 1) l → bytes_eq l.entry.name name ≡ true → Some l.entry ≡ find (entries ls) name
found-here ls name at l r h is same =
    let k = at - 1 in
    let e : k + 1 ≡ at = omega arith in
    let within : k < length ls = omega (arith, r.inside) in
    let front : take at ls ≡ take k ls ++ l ∷ [] = ap (λ n. take n ls) (sym e) ∙ take_more ls k l within ∙ ap (λ x. take k ls ++ x ∷ []) (sym is) in
    sym (cond-true (bytes_eq l.entry.name name) (Some l.entry) (find (entries (take k ls)) name) same)
    ∙ sym (find-push (entries (take k ls)) l.entry name) ∙ ap (λ es. find es name) (sym (entries-push (take k ls) l))
    ∙ ap (λ xs. find (entries xs) name) (sym front) ∙ r.same

pointed-push : (before : List ℕ) (ls : List Link) (l : Link) → ArePointed before ls →
    l.older ≡ last_of (before ++ buckets (entries ls)) (bucket l.entry.name) → ArePointed before (ls ++ l ∷ [])
pointed-push before [] l p h = (h ∙ ap (λ bs. last_of bs (bucket l.entry.name)) (append-nil before), tt)
pointed-push before (m ∷ ms) l p h = (
  p.0,
  pointed-push (before ++ bucket m.entry.name ∷ []) ms l p.1
      (h ∙ ap (λ bs. last_of bs (bucket l.entry.name)) (sym (append_assoc before (bucket m.entry.name ∷ []) (buckets (entries ms))))),
)

pointed-pop : (before : List ℕ) (ls : List Link) (l : Link) → ArePointed before (ls ++ l ∷ []) →
    ArePointed before ls × (l.older ≡ last_of (before ++ buckets (entries ls)) (bucket l.entry.name))
pointed-pop before [] l p = (tt, p.0 ∙ ap (λ bs. last_of bs (bucket l.entry.name)) (sym (append-nil before)))
pointed-pop before (m ∷ ms) l p =
    let q = pointed-pop (before ++ bucket m.entry.name ∷ []) ms l p.1 in
    ((p.0, q.0), q.1 ∙ ap (λ bs. last_of bs (bucket l.entry.name)) (append_assoc before (bucket m.entry.name ∷ []) (buckets (entries ms))))

newest-push : (ls : List Link) (l : Link) (b : ℕ) →
    last_of (buckets (entries (ls ++ l ∷ []))) b ≡ (if nat_eq (bucket l.entry.name) b then suc (length ls) else last_of (buckets (entries ls)) b)
newest-push ls l b =
    ap (λ es. last_of (buckets es) b) (entries-push ls l) ∙ ap (λ bs. last_of bs b) (buckets-push (entries ls) l.entry) ∙ last_of-push (buckets (entries ls)) (bucket l.entry.name) b
    ∙ ap (λ n. if nat_eq (bucket l.entry.name) b then suc n else last_of (buckets (entries ls)) b) (length-buckets (entries ls) ∙ length-entries ls)

-- one more link, where there is room for its bucket
pub chained-push : (ls : List Link) (heads wide : List ℕ) (l : Link) (n : ℕ) → IsChained ls heads → ((b : ℕ) → slice_index wide b ≡ slice_index heads b) →
    bucket l.entry.name < length wide → l.older ≡ slice_index wide (bucket l.entry.name) → n ≡ suc (length ls) →
    IsChained (ls ++ l ∷ []) (slice_set wide (bucket l.entry.name) n)
chained-push ls heads wide l n h same room older count = record {
  newest = λ b. elim (cases_eq b (bucket l.entry.name)) [
    | inl e ↦ ap (slice_index (slice_set wide (bucket l.entry.name) n)) e ∙ get_or-set_same wide (bucket l.entry.name) n 0 room ∙ count
        ∙ sym (newest-push ls l b ∙ cond-true (nat_eq (bucket l.entry.name) b) _ _ (eq-eqb (bucket l.entry.name) b (sym e)))
    | inr ne ↦ get_or-set_other wide (bucket l.entry.name) b n 0 ne ∙ same b ∙ h.newest b
        ∙ sym (newest-push ls l b ∙ cond-false (nat_eq (bucket l.entry.name) b) _ _ (ne_eqb (bucket l.entry.name) b (λ e. ne (sym e))))
  ];
  pointed = pointed-push [] ls l h.pointed (older ∙ same (bucket l.entry.name) ∙ h.newest (bucket l.entry.name));
}

-- the bucket of the last link has its place
pub has_room : (ls : List Link) (heads : List ℕ) (l : Link) → IsChained (ls ++ l ∷ []) heads → bucket l.entry.name < length heads
has_room ls heads l h =
    let at : slice_index heads (bucket l.entry.name) ≡ suc (length ls) =
    h.newest (bucket l.entry.name) ∙ newest-push ls l (bucket l.entry.name) ∙ cond-true (nat_eq (bucket l.entry.name) (bucket l.entry.name)) _ _ (eq-eqb (bucket l.entry.name) (bucket l.entry.name) refl) in
    elim (cases_lt (bucket l.entry.name) (length heads)) [
      | inl lt ↦ lt
      | inr ge ↦ absurd (let past : slice_index heads (bucket l.entry.name) ≡ 0 = get_or_past heads (bucket l.entry.name) 0 ge in omega arith)
    ]

-- one link less
pub chained-pop : (ls : List Link) (heads : List ℕ) (l : Link) → IsChained (ls ++ l ∷ []) heads → IsChained ls (slice_set heads (bucket l.entry.name) l.older)
chained-pop ls heads l h =
    let q = pointed-pop [] ls l h.pointed in
    record {
      newest = λ b. elim (cases_eq b (bucket l.entry.name)) [
        | inl e ↦ ap (slice_index (slice_set heads (bucket l.entry.name) l.older)) e ∙ get_or-set_same heads (bucket l.entry.name) l.older 0 (has_room ls heads l h) ∙ q.1 ∙ ap (last_of (buckets (entries ls))) (sym e)
        | inr ne ↦ get_or-set_other heads (bucket l.entry.name) b l.older 0 ne ∙ h.newest b
            ∙ newest-push ls l b ∙ cond-false (nat_eq (bucket l.entry.name) b) _ _ (ne_eqb (bucket l.entry.name) b (λ e. ne (sym e)))
      ];
      pointed = q.0;
    }

-- the view of links
abbrev pub seen_of : List Link → ℕ → Seen
seen_of ls next = record { open_ = entries ls; next = next }

-- the last declaration is gone
abbrev pub without_last : Seen → Seen
without_last s = record { open_ = take (length s.open_ - 1) s.open_; next = s.next }

pub seen-pop : (ls : List Link) (l : Link) (next : ℕ) → seen_of ls next ≡ without_last (seen_of (ls ++ l ∷ []) next)
seen-pop ls l next =
    let front : entries ls ≡ take (length (entries (ls ++ l ∷ [])) - 1) (entries (ls ++ l ∷ [])) =
    sym (ap (λ es. take (length es - 1) es) (entries-push ls l) ∙ take_at (entries ls) (l.entry ∷ []) (length (entries ls ++ l.entry ∷ []) - 1) (omega (arith, length_push (entries ls) l.entry))) in
    ap (λ (es : List Entry). let s : Seen = record { open_ = es; next = next } in s) front

pub seen-push : (ls : List Link) (name : List ℕ) (kind : Kind) (older next : ℕ) (x : Ident) → name ≡ x.name →
    seen_of (ls ++ record { entry = record { name = name; id = x.id; kind = kind }; older = older } ∷ []) next ≡ opened kind x (seen_of ls next)
seen-push ls name kind older next x same =
    ap (λ (es : List Entry). let s : Seen = record { open_ = es; next = next } in s)
    (entries-push ls (record { entry = record { name = name; id = x.id; kind = kind }; older = older })
    ∙ ap (λ (n : List ℕ). entries ls ++ record { name = n; id = x.id; kind = kind } ∷ []) same)

noughts : (count k : ℕ) → let none : ℕ = 0 in get_or (replicate count none) k none ≡ none
noughts count k = elim (cases_lt k count) [
  | inl lt ↦ get_or-replicate count k 0 0 lt
  | inr ge ↦ get_or_past (replicate count 0) k 0 (let none : ℕ = 0 in omega (arith, length-replicate count none))
]

-- noughts behind a list
pub grown : (xs ys : List ℕ) (count b : ℕ) → ys ≡ xs ++ replicate count 0 → get_or ys b 0 ≡ get_or xs b 0
grown xs ys count b e = ap (λ zs. get_or zs b 0) e ∙ elim (cases_lt b (length xs)) [
  | inl lt ↦ get_or_append_left xs (replicate count 0) 0 b lt
  | inr ge ↦ get_or-append_right xs (replicate count 0) (length xs) b 0 refl ge ∙ noughts count (b - length xs) ∙ sym (get_or_past xs b 0 ge)
]
