-- A label of MPLS, and the last one.
use Rattle.std.proofs.Common.{◌≡◌, sym, refl, true≢false, ℕ, ◌-◌, ◌/◌, ◌%◌, ◌==◌, ◌<◌, ◌≤◌, true, false, List, [], ◌∷◌, drop, length, slice_index, arith}
use Rattle.std.proofs.lemmas.Bool.{cond-true, cond-false}
use Rattle.capture_model.specs.Views.{Payload}
use Rattle.ip_segments.specs.Carriers.{Neither, by_labels, by_version, has_label}
use Rattle.ip_segments.specs.declared.carriers.CarrierFault.TheVariants as fault

abbrev pub plain : List ℕ → ℕ → Payload
plain xs n = record { octets = xs; length = n }

pub labels_on : (xs : List ℕ) (n : ℕ) → has_label xs ≡ true → by_labels (drop 4 xs) (n - 4) ≡ by_labels xs n
labels_on [] n h = absurd (true≢false (sym h))
labels_on (a ∷ []) n h = absurd (true≢false (sym h))
labels_on (a ∷ b ∷ []) n h = absurd (true≢false (sym h))
labels_on (a ∷ b ∷ c ∷ []) n h = absurd (true≢false (sym h))
labels_on (a ∷ b ∷ c ∷ d ∷ []) n h = absurd (true≢false (sym h))
labels_on (a ∷ b ∷ c ∷ d ∷ e ∷ xs) n h = sym (cond-true (c % 2 == 0) (by_labels (e ∷ xs) (n - 4)) (by_version (e / 16) (plain (e ∷ xs) (n - 4))) h)

pub label_long : (xs : List ℕ) → has_label xs ≡ true → length (drop 4 xs) < length xs
label_long [] h = absurd (true≢false (sym h))
label_long (a ∷ []) h = absurd (true≢false (sym h))
label_long (a ∷ b ∷ []) h = absurd (true≢false (sym h))
label_long (a ∷ b ∷ c ∷ []) h = absurd (true≢false (sym h))
label_long (a ∷ b ∷ c ∷ d ∷ []) h = absurd (true≢false (sym h))
label_long (a ∷ b ∷ c ∷ d ∷ e ∷ xs) h = omega arith

pub labels_cut : (xs : List ℕ) (n : ℕ) → length xs < 5 → by_labels xs n ≡ Neither fault.Cut
labels_cut [] n h = refl
labels_cut (a ∷ []) n h = refl
labels_cut (a ∷ b ∷ []) n h = refl
labels_cut (a ∷ b ∷ c ∷ []) n h = refl
labels_cut (a ∷ b ∷ c ∷ d ∷ []) n h = refl
labels_cut (a ∷ b ∷ c ∷ d ∷ e ∷ xs) n h = absurd (omega (arith, h))

pub labels_end : (xs : List ℕ) (n : ℕ) → has_label xs ≡ false → 5 ≤ length xs → by_labels xs n ≡ by_version (slice_index xs 4 / 16) (plain (drop 4 xs) (n - 4))
labels_end [] n h k = absurd (omega (arith, k))
labels_end (a ∷ []) n h k = absurd (omega (arith, k))
labels_end (a ∷ b ∷ []) n h k = absurd (omega (arith, k))
labels_end (a ∷ b ∷ c ∷ []) n h k = absurd (omega (arith, k))
labels_end (a ∷ b ∷ c ∷ d ∷ []) n h k = absurd (omega (arith, k))
labels_end (a ∷ b ∷ c ∷ d ∷ e ∷ xs) n h k = cond-false (c % 2 == 0) (by_labels (e ∷ xs) (n - 4)) (by_version (e / 16) (plain (e ∷ xs) (n - 4))) h
