-- What is kept before a segment with which a packet begins.
use Rattle.std.proofs.Common.{◌≡◌, refl, sym, ℕ, ◌+◌, ◌*◌, ◌<◌, ◌&&◌, nat_le, Bool, true, false, cond, List, [], ◌∷◌, ◌++◌, arith, length, true≢false, Some}
use Rattle.std.proofs.lemmas.Bool.{and_parts, leb-true}
use Rattle.xot_circuits.specs.Packets.{header}
use Rattle.xot_circuits.specs.Joining.{FirstBegins, are_plausible, beginning, is_expected, is_plausible, joined, joined_by, joining_by, may_begin, sought}
use Rattle.xot_circuits.specs.Streams.{IsWithinBy}
use Rattle.xot_circuits.specs.declared.header.Header.{Header}
use Rattle.xot_circuits.specs.declared.header.Header.TheVariants.{Cut, OtherVersion, Length}
use Rattle.xot_circuits.specs.declared.joining.Beginning.{Beginning}
use Rattle.xot_circuits.specs.declared.joining.Beginning.TheVariants.{Begins, TooFew, Other}
use Rattle.xot_circuits.specs.declared.joining.Expected.{Expected}

too_few : (t : Bool) → cond t TooFew Other ≡ Begins → ⊥
too_few true h = cc h
too_few false h = cc h

begun : (t : Bool) → cond t Begins Other ≡ Begins → t ≡ true
begun true h = refl
begun false h = absurd (cc h)

begins_plausible : (e : Expected) (xs : List ℕ) → beginning e xs ≡ Begins → is_plausible (header xs) ≡ true
unfolding are_plausible
begins_plausible e [] h = absurd (too_few (may_begin []) h)
begins_plausible e (a ∷ []) h = absurd (too_few (may_begin (a ∷ [])) h)
begins_plausible e (a ∷ b ∷ []) h = absurd (too_few (may_begin (a ∷ b ∷ [])) h)
begins_plausible e (a ∷ b ∷ c ∷ []) h = absurd (too_few (may_begin (a ∷ b ∷ c ∷ [])) h)
begins_plausible e (a ∷ b ∷ c ∷ d ∷ []) h = absurd (too_few (may_begin (a ∷ b ∷ c ∷ d ∷ [])) h)
begins_plausible e (a ∷ b ∷ c ∷ d ∷ x ∷ []) h = absurd (too_few (may_begin (a ∷ b ∷ c ∷ d ∷ x ∷ [])) h)
begins_plausible e (a ∷ b ∷ c ∷ d ∷ x ∷ y ∷ []) h = absurd (too_few (may_begin (a ∷ b ∷ c ∷ d ∷ x ∷ y ∷ [])) h)
begins_plausible e (a ∷ b ∷ c ∷ d ∷ x ∷ y ∷ z ∷ xs) h =
    let all : List ℕ = a ∷ b ∷ c ∷ d ∷ x ∷ y ∷ z ∷ xs in
    let parts = and_parts (is_expected e x y) (are_plausible 0 all) (begun (is_expected e x y && are_plausible 0 all) h) in
    (and_parts (is_plausible (header (a ∷ b ∷ c ∷ d ∷ []))) (are_plausible (c * 256 + d) (x ∷ y ∷ z ∷ xs)) parts.1).0

within_by : (h : Header) (n : ℕ) → is_plausible h ≡ true → n < 7 → IsWithinBy h n
within_by Cut n p lt = tt
within_by (OtherVersion v) n p lt = absurd (true≢false (sym p))
within_by (Length m) n p lt = omega (arith, lt, leb-true 3 m (and_parts (nat_le 3 m) (nat_le m 4200) p).0)

within : (rest segment : List ℕ) → is_plausible (header (rest ++ segment)) ≡ true → length rest < 7 → IsWithinBy (header rest) (length rest)
within [] segment p lt = tt
within (a ∷ []) segment p lt = tt
within (a ∷ b ∷ []) segment p lt = tt
within (a ∷ b ∷ c ∷ []) segment p lt = tt
within (a ∷ b ∷ c ∷ d ∷ xs) segment p lt = within_by (header (a ∷ b ∷ c ∷ d ∷ xs)) (length (a ∷ b ∷ c ∷ d ∷ xs)) p lt

pub begins_within : (e : Expected) (rest segment : List ℕ) → beginning e (rest ++ segment) ≡ Begins → length rest < 7 → IsWithinBy (header rest) (length rest)
begins_within e rest segment h lt = within rest segment (begins_plausible e (rest ++ segment) h) lt

joined_at : (e : Expected) (s : List ℕ) (ss : List (List ℕ)) (b : Beginning) → (b ≡ TooFew → ⊥) → sought e [] ss ≡ joined e ss
    → cond (joining_by b b [] s).is_sought (sought e (joining_by b b [] s).rest ss) (Some (s ∷ ss)) ≡ joined_by b (Some (s ∷ ss)) (joined e ss)
joined_at e s ss Begins n later = refl
joined_at e s ss TooFew n later = absurd (n refl)
joined_at e s ss Other n later = later

pub first_begins : FirstBegins
first_begins e [] long = refl
first_begins e (s ∷ ss) long = joined_at e s ss (beginning e s) long.0 (first_begins e ss long.1)
