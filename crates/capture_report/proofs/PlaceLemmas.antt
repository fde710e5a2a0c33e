-- The comment before a row is one line that is not too long.
use Rattle.std.proofs.Common.{refl, ℕ, ℤ, ◌+◌, ◌/◌, ◌%◌, ◌^◌, ◌<◌, ◌≤◌, Bool, true, false, List, [], ◌∷◌, ◌++◌, length, length-append, Option, Some, None, arith}
use Rattle.std.specs.Prelude.{codes, decimal, IfSome, nat_eq, ◌||◌, if◌then◌else◌}
use Rattle.std.specs.Int.{is_negative}
use Rattle.std.specs.Int.RustNames.{unsigned_abs}
use Rattle.std.proofs.lemmas.Bool.{ne_eqb}
use Rattle.std.proofs.lemmas.Fmt.{length-decimal-le_wide}
use Rattle.trace_text.specs.Cuts.{Lacks}
use Rattle.trace_text.proofs.RowFront.{lacks-append, number_lacks}
use Rattle.capture_model.specs.declared.time.Nanos.{Nanos}
use Rattle.lapb_link.specs.declared.frames.Place.{Place}
use Rattle.capture_report.specs.Texts.{circuit_word, decimals, nano_units, nanos_text, part_text, seconds_text, sign_text, time_text}
use Rattle.capture_report.specs.TraceRows.{IsPlace}
use Rattle.capture_report.proofs.RowWordLemmas.{decimal_passes}

-- bytes without an LF, at most so many
pub record IsPart (most : ℕ) (xs : List ℕ) : Type 0 where
  pub no_lf : Lacks 10 xs
  pub few : length xs ≤ most

both_parts : (a b most : ℕ) (xs ys : List ℕ) → IsPart a xs → IsPart b ys → a + b ≤ most → IsPart most (xs ++ ys)
both_parts a b most xs ys h k fits = record {
  no_lf = lacks-append 10 xs ys h.no_lf k.no_lf;
  few = let front = h.few in let back = k.few in omega (arith, front, back, fits, length-append xs ys);
}

number_part : (k n : ℕ) → 0 < k → n < 10 ^ k → n < 10 ^ 64 → IsPart k (decimal n)
number_part k n some fits wide = record { no_lf = number_lacks 10 (decimal n) refl (decimal_passes n wide); few = length-decimal-le_wide k n some fits wide }

abbrev split_if : Bool → ℕ → ℕ → Option (ℕ × ℕ)
split_if b n u = if b then None else Some (48 + n / u % 10, n % u)

decimals_part : (units : List ℕ) (n : ℕ) → IsPart (length units) (decimals units n)
decimals_part [] n = record { no_lf = refl; few = omega arith }
decimals_part (u ∷ us) n = at (nat_eq n 0 || nat_eq u 0) (decimals_part us)
  where
    at : (b : Bool) → ((m : ℕ) → IsPart (length us) (decimals us m))
        → IsPart (length (u ∷ us)) (elim (split_if b n u) as (λ _. List ℕ) [ None ↦ [] | Some d ↦ d.0 ∷ decimals us d.1 ])
    at true later = record { no_lf = refl; few = omega arith }
    at false later = let rest = later (n % u) in record {
      no_lf = rw (ne_eqb (48 + n / u % 10) 10 (λ e. absurd (omega (arith, e))), rest.no_lf) refl;
      few = let few = rest.few in omega (arith, few);
    }

part_part : (n : ℕ) → IsPart 10 (part_text n)
part_part n = at (nat_eq n 0)
  where
    at : (b : Bool) → IsPart 10 (if b then [] else 46 ∷ decimals nano_units n)
    at true = record { no_lf = refl; few = omega arith }
    at false = let rest = decimals_part nano_units n in record { no_lf = rest.no_lf; few = let few = rest.few in omega (arith, few) }

nanos_part : (n : ℕ) → n < 2 ^ 128 → IsPart 50 (nanos_text n)
nanos_part n small =
    both_parts 40 10 50 (decimal (n / 1000000000)) (part_text (n % 1000000000)) (number_part 40 (n / 1000000000) (omega arith) (omega (arith, small)) (omega (arith, small))) (part_part (n % 1000000000)) (omega arith)

seconds_part : (z : ℤ) → unsigned_abs z < 2 ^ 128 → IsPart 51 (seconds_text z)
seconds_part z small = both_parts 1 50 51 (sign_text (is_negative z)) (nanos_text (unsigned_abs z)) (sign (is_negative z)) (nanos_part (unsigned_abs z) small) (omega arith)
  where
    sign : (b : Bool) → IsPart 1 (sign_text b)
    sign true = record { no_lf = refl; few = omega arith }
    sign false = record { no_lf = refl; few = omega arith }

time_part : (t : Option Nanos) → IfSome t (λ t. unsigned_abs t.count < 2 ^ 128) → IsPart 51 (time_text t)
time_part None h = record { no_lf = refl; few = omega arith }
time_part (Some t) h = seconds_part t.count h

word_part : (c : Option ℕ) → IfSome c (λ n. n < 2 ^ 64) → IsPart 21 (circuit_word c)
word_part None h = record { no_lf = refl; few = omega arith }
word_part (Some n) h =
    both_parts 1 20 21 (codes " ") (decimal n) (record { no_lf = refl; few = omega arith }) (number_part 20 n (omega arith) (omega (arith, h)) (omega (arith, h))) (omega arith)

abbrev pub place_line : Place → (circuit : Option ℕ) → List ℕ
place_line p c = codes "#@ " ++ time_text p.time ++ codes " " ++ decimal p.frame ++ circuit_word c

pub place_part : (p : Place) (c : Option ℕ) → IsPlace p → IfSome c (λ n. n < 2 ^ 64) → IsPart 8500 (place_line p c)
place_part p c h k =
    let frame = h.frame in
    let begin : IsPart 54 (codes "#@ " ++ time_text p.time) = both_parts 3 51 54 (codes "#@ ") (time_text p.time) (record { no_lf = refl; few = omega arith }) (time_part p.time h.time) (omega arith) in
    let front : IsPart 55 (codes "#@ " ++ time_text p.time ++ codes " ") = both_parts 54 1 55 (codes "#@ " ++ time_text p.time) (codes " ") begin (record { no_lf = refl; few = omega arith }) (omega arith) in
    let own : IsPart 75 (codes "#@ " ++ time_text p.time ++ codes " " ++ decimal p.frame) =
    both_parts 55 20 75 (codes "#@ " ++ time_text p.time ++ codes " ") (decimal p.frame) front (number_part 20 p.frame (omega arith) (omega (arith, frame)) (omega (arith, frame))) (omega arith) in
    both_parts 75 21 8500 (codes "#@ " ++ time_text p.time ++ codes " " ++ decimal p.frame) (circuit_word c) own (word_part c k) (omega arith)
