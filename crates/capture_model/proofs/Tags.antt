-- A tag, and octets without one.
use Rattle.std.proofs.Common.{◌≡◌, sym, refl, true≢false, ℕ, ◌-◌, ◌<◌, true, false, List, [], ◌∷◌, drop, length, arith}
use Rattle.std.proofs.lemmas.Bool.{cond-true, cond-false}
use Rattle.capture_model.specs.Views.{Payload}
use Rattle.capture_model.specs.Ethernet.{is_tag, is_tagged, two_octets, untagged}

abbrev pub plain : List ℕ → ℕ → Payload
plain xs n = record { octets = xs; length = n }

pub untagged_tag : (xs : List ℕ) (n : ℕ) → is_tagged xs ≡ true → untagged (drop 4 xs) (n - 4) ≡ untagged xs n
untagged_tag [] n h = absurd (true≢false (sym h))
untagged_tag (a ∷ []) n h = absurd (true≢false (sym h))
untagged_tag (a ∷ b ∷ []) n h = absurd (true≢false (sym h))
untagged_tag (a ∷ b ∷ c ∷ []) n h = absurd (true≢false (sym h))
untagged_tag (a ∷ b ∷ c ∷ d ∷ xs) n h = sym (cond-true (is_tag (two_octets a b)) (untagged xs (n - 4)) (plain (a ∷ b ∷ c ∷ d ∷ xs) n) h)

pub untagged_none : (xs : List ℕ) (n : ℕ) → is_tagged xs ≡ false → untagged xs n ≡ plain xs n
untagged_none [] n h = refl
untagged_none (a ∷ []) n h = refl
untagged_none (a ∷ b ∷ []) n h = refl
untagged_none (a ∷ b ∷ c ∷ []) n h = refl
untagged_none (a ∷ b ∷ c ∷ d ∷ xs) n h = cond-false (is_tag (two_octets a b)) (untagged xs (n - 4)) (plain (a ∷ b ∷ c ∷ d ∷ xs) n) h

pub tagged_long : (xs : List ℕ) → is_tagged xs ≡ true → length (drop 4 xs) < length xs
tagged_long [] h = absurd (true≢false (sym h))
tagged_long (a ∷ []) h = absurd (true≢false (sym h))
tagged_long (a ∷ b ∷ []) h = absurd (true≢false (sym h))
tagged_long (a ∷ b ∷ c ∷ []) h = absurd (true≢false (sym h))
tagged_long (a ∷ b ∷ c ∷ d ∷ xs) h = omega arith
