-- What fragments make has the first copy of each octet.
use Rattle.std.proofs.Common.{◌≡◌, ◌∙◌, inl, inr, refl, sym, ap, subst, ℕ, ◌+◌, ◌-◌, ◌==◌, ◌<◌, ◌≤◌, nat_lt, true, false, List, [], ◌∷◌, ◌++◌, length, map, take, get_or, slice_index, Option, Some, None, arith}
use Rattle.std.specs.List.{list_any}
use Rattle.std.proofs.lemmas.Bool.{cases_Bool, cases_lt, cond-true, cond-false, lt-ltb, le-ltb}
use Rattle.std.proofs.lemmas.List.{get_or-append_right, get_or-take, get_or_append_left, length-append, length-take-le}
use Rattle.ip_segments.specs.Datagrams.{Datagram}
use Rattle.ip_segments.specs.FirstCopies.{AreOrdered, IsMade, IsMadeOf, Part, copy_at, gathered, kept, last_of, octet_at, or_later, piece_of}
use Rattle.ip_segments.specs.Gathering.{begun, whole, whole_by, with_fragment, with_part}
use Rattle.ip_segments.specs.Pieces.{all_octets, reach}
use Rattle.ip_segments.specs.declared.gathered.Gathered.{Gathered}
use Rattle.ip_segments.specs.declared.gathered.Last.{Last}
use Rattle.ip_segments.specs.declared.pieces.Piece.{Piece}
use Rattle.ip_segments.proofs.Copies.{inserted_copies, inserted_ordered, none_above, none_below, none_before, or_assoc, or_none, some_inside}

-- pieces that follow each other from a place on have each octet up to the first that is missing
record Reached (n : ℕ) (ps : List Piece) : Type 0 where
  from : n ≤ reach n ps
  enough : reach n ps ≤ n + length (all_octets ps)
  copies : (q : ℕ) → n ≤ q → q < reach n ps → copy_at q ps ≡ Some (slice_index (all_octets ps) (q - n))
  missing : copy_at (reach n ps) ps ≡ None

reach_on : (n : ℕ) (p : Piece) (ps : List Piece) → p.at ≡ n → reach n (p ∷ ps) ≡ reach p.until ps
reach_on n p ps h = grind (arith, h)

reach_off : (n : ℕ) (p : Piece) (ps : List Piece) → n < p.at → reach n (p ∷ ps) ≡ n
reach_off n p ps h = grind (arith, h)

on : (n : ℕ) (p : Piece) (ps : List Piece) → p.at ≡ n → p.at < p.until → p.at + length p.octets ≡ p.until → Reached p.until ps → Reached n (p ∷ ps)
on n p ps here some octets more =
    let e = reach_on n p ps here in
    let all : length (all_octets (p ∷ ps)) ≡ length p.octets + length (all_octets ps) = length-append p.octets (all_octets ps) in
    let from = more.from in
    let enough = more.enough in
    record {
      from = omega (arith, e, here, some, from);
      enough = omega (arith, e, here, octets, all, enough);
      copies = λ q low high. elim (cases_lt q p.until) [
        | inl within ↦ ap (λ m. or_later m (copy_at q ps)) (some_inside q p (omega (arith, here, low)) within)
            ∙ ap (λ k. Some (get_or p.octets (q - k) 0)) here ∙ ap Some (sym (get_or_append_left p.octets (all_octets ps) 0 (q - n) (omega (arith, here, low, within, octets))))
        | inr past ↦ ap (λ m. or_later m (copy_at q ps)) (none_above q p past) ∙ more.copies q past (omega (arith, e, high))
            ∙ ap Some (sym (get_or-append_right p.octets (all_octets ps) (length p.octets) (q - n) 0 refl (omega (arith, here, past, octets)) ∙ ap (λ k. get_or (all_octets ps) k 0) (omega (arith, here, past, octets))))
      ];
      missing = ap (λ k. copy_at k (p ∷ ps)) e ∙ ap (λ m. or_later m (copy_at (reach p.until ps) ps)) (none_above (reach p.until ps) p from) ∙ more.missing;
    }

off : (n : ℕ) (p : Piece) (ps : List Piece) → n < p.at → p.at < p.until → AreOrdered p.until ps → Reached n (p ∷ ps)
off n p ps apart some o =
    let e = reach_off n p ps apart in
    record {
      from = omega (arith, e);
      enough = omega (arith, e);
      copies = λ q low high. absurd (omega (arith, e, low, high));
      missing = ap (λ k. copy_at k (p ∷ ps)) e ∙ ap (λ m. or_later m (copy_at n ps)) (none_below n p apart) ∙ none_before p.until n ps o (omega (arith, apart, some));
    }

reached : (n : ℕ) (ps : List Piece) → AreOrdered n ps → Reached n ps
reached n [] o = record { from = omega arith; enough = omega arith; copies = λ q low high. absurd (omega (arith, low, high)); missing = refl }
reached n (p ∷ ps) o = let begins = o.0.begins in elim (cases_lt n p.at) [
  | inl apart ↦ off n p ps apart o.0.some o.1
  | inr here ↦ on n p ps (omega (arith, here, begins)) o.0.some o.0.octets (reached p.until ps o.1)
]

-- the copies may be those of other pieces
made_none : (ps others : List Piece) (l : Last) → Reached 0 ps → ((q : ℕ) → copy_at q ps ≡ copy_at q others) → reach 0 ps < l.until → IsMade others (Some l) None
made_none ps others l r same less = (reach 0 ps, less, sym (same (reach 0 ps)) ∙ r.missing)

made_some : (ps others : List Piece) (l : Last) → Reached 0 ps → ((q : ℕ) → copy_at q ps ≡ copy_at q others) → l.until ≤ reach 0 ps → IsMade others (Some l) (Some (take l.until (all_octets ps)))
made_some ps others l r same enough =
    let most = r.enough in (
      length-take-le l.until (all_octets ps) (omega (arith, most, enough)),
      λ q below. (let none : q - 0 ≡ q = omega arith in
          sym (same q) ∙ r.copies q (omega arith) (omega (arith, below, enough)) ∙ ap (λ k. Some (get_or (all_octets ps) k 0)) none
          ∙ ap Some (sym (get_or-take l.until (all_octets ps) q 0 below))),
    )

made : (ps others : List Piece) (last : Option Last) → AreOrdered 0 ps → ((q : ℕ) → copy_at q ps ≡ copy_at q others) → IsMade others last (whole_by last ps)
made ps others None o same = refl
made ps others (Some l) o same = let P : Option (List ℕ) → Type 0 = λ r. IsMade others (Some l) r in elim (cases_lt (reach 0 ps) l.until) [
  | inl less ↦ subst P (sym (cond-true (nat_lt (reach 0 ps) l.until) None (Some (take l.until (all_octets ps))) (lt-ltb (reach 0 ps) l.until less)))
      (made_none ps others l (reached 0 ps o) same less)
  | inr enough ↦ subst P (sym (cond-false (nat_lt (reach 0 ps) l.until) None (Some (take l.until (all_octets ps))) (le-ltb (reach 0 ps) l.until enough)))
      (made_some ps others l (reached 0 ps o) same enough)
]

-- fragments that are added one after the other
record Gathers (xs : List Part) (g h : Gathered) : Type 0 where
  ordered : AreOrdered 0 h.pieces
  copies : (q : ℕ) → copy_at q h.pieces ≡ or_later (copy_at q g.pieces) (copy_at q (map piece_of (kept g.places xs)))
  last : h.last ≡ last_of g.last (kept g.places xs)

left_out : (x : Part) (xs : List Part) (g : Gathered) → list_any (λ n. n == x.fragment.place) g.places ≡ true → Gathers xs g (gathered xs g) → Gathers (x ∷ xs) g (gathered (x ∷ xs) g)
left_out x xs g there r =
    let same : with_fragment x.fragment x.octets g ≡ g = cond-true (list_any (λ n. n == x.fragment.place) g.places) g (with_part x.fragment (piece_of x) g) there in
    let fewer : kept g.places (x ∷ xs) ≡ kept g.places xs =
    cond-true (list_any (λ n. n == x.fragment.place) g.places) (kept g.places xs) (x ∷ kept (g.places ++ x.fragment.place ∷ []) xs) there in
    let after : gathered (x ∷ xs) g ≡ gathered xs g = ap (gathered xs) same in
    let P : Gathered → Type 0 = λ h. AreOrdered 0 h.pieces in
    record {
      ordered = subst P (sym after) r.ordered;
      copies = λ q. ap (λ h. copy_at q h.pieces) after ∙ r.copies q ∙ ap (λ l. or_later (copy_at q g.pieces) (copy_at q (map piece_of l))) (sym fewer);
      last = ap (λ h. h.last) after ∙ r.last ∙ ap (last_of g.last) (sym fewer);
    }

taken : (x : Part) (xs : List Part) (g : Gathered) → list_any (λ n. n == x.fragment.place) g.places ≡ false → AreOrdered 0 g.pieces
    → Gathers xs (with_part x.fragment (piece_of x) g) (gathered xs (with_part x.fragment (piece_of x) g)) → Gathers (x ∷ xs) g (gathered (x ∷ xs) g)
taken x xs g new o r =
    let more : with_fragment x.fragment x.octets g ≡ with_part x.fragment (piece_of x) g =
    cond-false (list_any (λ n. n == x.fragment.place) g.places) g (with_part x.fragment (piece_of x) g) new in
    let rest = kept (g.places ++ x.fragment.place ∷ []) xs in
    let one : kept g.places (x ∷ xs) ≡ x ∷ rest = cond-false (list_any (λ n. n == x.fragment.place) g.places) (kept g.places xs) (x ∷ rest) new in
    let after : gathered (x ∷ xs) g ≡ gathered xs (with_part x.fragment (piece_of x) g) = ap (gathered xs) more in
    let P : Gathered → Type 0 = λ h. AreOrdered 0 h.pieces in
    record {
      ordered = subst P (sym after) r.ordered;
      copies = λ q. ap (λ h. copy_at q h.pieces) after ∙ r.copies q
          ∙ ap (λ m. or_later m (copy_at q (map piece_of rest))) (inserted_copies 0 q (piece_of x) g.pieces o)
          ∙ or_assoc (copy_at q g.pieces) (octet_at q (piece_of x)) (copy_at q (map piece_of rest))
          ∙ ap (λ l. or_later (copy_at q g.pieces) (copy_at q (map piece_of l))) (sym one);
      last = ap (λ h. h.last) after ∙ r.last ∙ ap (last_of g.last) (sym one);
    }

all_gathered : (xs : List Part) (g : Gathered) → AreOrdered 0 g.pieces → Gathers xs g (gathered xs g)
all_gathered [] g o = record { ordered = o; copies = λ q. sym (or_none (copy_at q g.pieces)); last = refl }
all_gathered (x ∷ xs) g o = elim (cases_Bool (list_any (λ n. n == x.fragment.place) g.places)) [
  | inl there ↦ left_out x xs g there (all_gathered xs g o)
  | inr new ↦ taken x xs g new o (all_gathered xs (with_part x.fragment (piece_of x) g) (inserted_ordered 0 (piece_of x) g.pieces (omega arith) (λ some. refl) o))
]

pub put_together : (xs : List Part) (frame n : ℕ) (d : Datagram) → IsMadeOf (kept [] xs) (whole (gathered xs (begun frame n d)))
put_together xs frame n d =
    let g = begun frame n d in
    let h = gathered xs g in
    let r = all_gathered xs g tt in
    let P : Option Last → Type 0 = λ l. IsMade (map piece_of (kept [] xs)) l (whole h) in
    subst P r.last (made h.pieces (map piece_of (kept [] xs)) h.last r.ordered r.copies)
