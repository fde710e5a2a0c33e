-- At most 64 datagrams wait.
use Rattle.std.proofs.Common.{◌≡◌, inl, inr, ℕ, suc, ◌+◌, ◌-◌, ◌≤◌, min, nat_lt, Bool, true, false, List, [], ◌∷◌, length, take, drop, slice_get, Option, Some, None, if◌then◌else◌, arith}
use Rattle.std.specs.List.{insert, remove}
use Rattle.std.proofs.lemmas.Bool.{cases_Bool, cases_lt, le-ltb, lt-ltb}
use Rattle.std.proofs.lemmas.List.{length-append, length-drop, length-take}
use Rattle.ip_segments.specs.Datagrams.{Datagram}
use Rattle.ip_segments.specs.Fragments.{added, added_by, fault_of, first_given_up, gathered_at, limited, place_of, settled_by, without}
use Rattle.ip_segments.specs.Gathering.{whole, with_fragment}
use Rattle.ip_segments.specs.declared.datagram.Fragment.{Fragment}
use Rattle.ip_segments.specs.declared.fragments.FragmentFault.{FragmentFault}
use Rattle.ip_segments.specs.declared.gathered.Gathered.{Gathered}

removed : (k : ℕ) (gs : List Gathered) → length (remove gs k) ≤ length gs
removed k gs =
    let a : length (remove gs k) ≡ length (take k gs) + length (drop (suc k) gs) = length-append (take k gs) (drop (suc k) gs) in
    let b : length (take k gs) ≡ min k (length gs) = length-take k gs in
    let c : length (drop (suc k) gs) ≡ length gs - suc k = length-drop (suc k) gs in omega (arith, a, b, c)

if_removed : (b : Bool) (k : ℕ) (gs : List Gathered) → length (if b then remove gs k else gs) ≤ length gs
if_removed true k gs = removed k gs
if_removed false k gs = omega arith

inserted_one : (k : ℕ) (g : Gathered) (gs : List Gathered) → length (insert gs k g) ≤ length gs + 1
inserted_one k g gs =
    let a : length (insert gs k g) ≡ length (take k gs) + length (g ∷ drop k gs) = length-append (take k gs) (g ∷ drop k gs) in
    let b : length (take k gs) ≡ min k (length gs) = length-take k gs in
    let c : length (drop k gs) ≡ length gs - k = length-drop k gs in omega (arith, a, b, c)

first_gone : (gs : List Gathered) → length gs ≤ 65 → length (first_given_up gs).waiting ≤ 64
first_gone [] h = omega arith
first_gone (g ∷ gs) h = omega (arith, h)

few_limited : (gs : List Gathered) → length gs ≤ 65 → length (limited gs).waiting ≤ 64
few_limited gs h = elim (cases_lt 64 (length gs)) [
  | inl many ↦ rw (lt-ltb 64 (length gs) many) (first_gone gs h)
  | inr few ↦ rw (le-ltb 64 (length gs) few) few
]

few_settled : (o : Option (List ℕ)) (k : ℕ) (g : Gathered) (gs : List Gathered) → length gs ≤ 64 → length (settled_by o k g gs).waiting ≤ 64
few_settled (Some xs) k g gs h = h
few_settled None k g gs h =
    let more = inserted_one k g gs in
    let least = few_limited (insert gs k g) (omega (arith, h, more)) in elim (cases_Bool (nat_lt 512 (length g.places))) [
      | inl many ↦ rw many h
      | inr few ↦ rw few least
    ]

pub few_wait : (frame : ℕ) (f : Fragment) (d : Datagram) (gs : List Gathered) → length gs ≤ 64 → length (added frame f d gs).waiting ≤ 64
few_wait frame f d gs h = by (fault_of f d) where
  by : (o : Option FragmentFault) → length (added_by o frame f d gs).waiting ≤ 64
  by (Some x) = h
  by None =
      let k = place_of f.identification d gs in
      let g = with_fragment f d.payload.octets (gathered_at (slice_get gs k) frame f.identification d) in
      let less = if_removed (nat_lt k (length gs)) k gs in few_settled (whole g) k g (without k gs) (omega (arith, h, less))
