-- The numbers of one direction, in the whole walk and in that of a recording with gaps.
use Rattle.std.proofs.Common.{◌≡◌, ◌⊎◌, ◌<◌, ◌≤◌, ◌-◌, ◌%◌, ◌+◌, ℕ, zero, suc, Bool, true, false, cond, ◌==◌, refl, sym, subst, ◌∙◌, arith, Some, eq-eqb}
use Rattle.std.proofs.lemmas.Bool.{false≢true, eqb-true, lt-ltb, ltb-true, and_parts, and_from}
use Rattle.std.specs.Prelude.{find, nat_lt}
use Rattle.std.specs.List.{range_with_len}
use Rattle.line_model.specs.channels.FlowControl.{count_acknowledged, is_send_valid}
use Rattle.line_model.specs.channels.GapStep.{missing}

-- a number of a range that passes a test
pub record Passing (p : ℕ → Bool) (a c k : ℕ) : Type 0 where
  pub passes : p k ≡ true
  pub from : a ≤ k
  pub below : k < a + c

later : (p : ℕ → Bool) (a c k : ℕ) → Passing p (a + 1) c k → Passing p a (suc c) k
later p a c k h = record { passes = h.passes; from = omega (arith, h.from); below = omega (arith, h.below) }

-- what the search finds is one
pub found : (p : ℕ → Bool) (a c k : ℕ) → find p (range_with_len a c) ≡ Some k → Passing p a c k
found p a zero k h = cc
found p a (suc c) k h = at (found p (a + 1) c k) (p a) refl h
  where
    at : (find p (range_with_len (a + 1) c) ≡ Some k → Passing p (a + 1) c k) → (b : Bool) → p a ≡ b → cond b (Some a) (find p (range_with_len (a + 1) c)) ≡ Some k → Passing p a (suc c) k
    at rest true e h = let same : a ≡ k = cc in record { passes = subst (λ n. p n ≡ true) same e; from = omega (arith, same); below = omega (arith, same) }
    at rest false e h = later p a c k (rest h)

-- where one is, the search finds one
pub finds : (p : ℕ → Bool) (a c d : ℕ) → d < c → p (a + d) ≡ true → (k : ℕ) × (find p (range_with_len a c) ≡ Some k)
finds p a zero d l h = absurd (omega (arith, l))
finds p a (suc c) d l h = at (finds p (a + 1) c) (p a) refl d l h
  where
    at : ((d : ℕ) → d < c → p (a + 1 + d) ≡ true → (k : ℕ) × (find p (range_with_len (a + 1) c) ≡ Some k))
        → (b : Bool) → p a ≡ b → (d : ℕ) → d < suc c → p (a + d) ≡ true → (k : ℕ) × (cond b (Some a) (find p (range_with_len (a + 1) c)) ≡ Some k)
    at rest true e d l h = (a, refl)
    at rest false e zero l h = let same : a + 0 ≡ a = omega arith in absurd (false≢true (sym e ∙ subst (λ n. p n ≡ true) same h))
    at rest false e (suc d) l h = rest d (omega (arith, l)) (subst (λ n. p n ≡ true) (omega arith) h)

-- the count that a P(R) acknowledges
pub record Acknowledges (m s a n k : ℕ) : Type 0 where
  pub is : k % m ≡ n
  pub from : a ≤ k
  pub upto : k ≤ s

pub acknowledged : (m s a n k : ℕ) → count_acknowledged m s a n ≡ Some k → Acknowledges m s a n k
acknowledged m s a n k h =
    let w = found (λ j. j % m == n) a (s + 1 - a) k h in
    record { is = eqb-true (k % m) n w.passes; from = w.from; upto = omega (arith, w.from, w.below) }

pub acknowledges : (m s a n k : ℕ) → Acknowledges m s a n k → (j : ℕ) × (count_acknowledged m s a n ≡ Some j) × Acknowledges m s a n j
acknowledges m s a n k h =
    let same : a + (k - a) ≡ k = omega (arith, h.from) in
    let (j, e) = finds (λ j. j % m == n) a (s + 1 - a) (k - a) (omega (arith, h.from, h.upto)) (subst (λ l. (l % m == n) ≡ true) (sym same) (eq-eqb (k % m) n h.is)) in
    (j, e, acknowledged m s a n j e)

-- what is certain of one direction: s packets sent and a acknowledged in the whole walk, t and b in the other, where the next P(S) may be in doubt
pub record FitsDirection (m : ℕ) (doubt : Bool) (s a t b : ℕ) : Type 0 where
  pub edge : b % m ≡ a % m
  pub ordered : a ≤ s
  pub within : s < a + m
  pub ordered_too : b ≤ t
  pub known : doubt ≡ false → t + a ≡ s + b
  pub unknown : doubt ≡ true → t ≡ b

-- packets of the direction up to a number
abbrev pub completed_count : (m : ℕ) (doubt : Bool) (t n : ℕ) → ℕ
completed_count m true t n = t + missing m t n
completed_count m false t n = t

-- a P(R) that the whole walk takes
pub receive_fits : (m s a t b n k : ℕ) (doubt : Bool) → (m ≡ 8) ⊎ (m ≡ 128) → FitsDirection m doubt s a t b → Acknowledges m s a n k
    → (j : ℕ) × (count_acknowledged m (completed_count m doubt t n) b n ≡ Some j) × FitsDirection m doubt s k (completed_count m doubt t n) j
receive_fits m s a t b n k false e f h =
    let known : t + a ≡ s + b = f.known refl in
    let here : Acknowledges m t b n (k + b - a) = record { is = grind (arith, e, f.edge, h.is, h.from); from = omega (arith, h.from); upto = omega (arith, known, h.from, h.upto) } in
    let (j, is, w) = acknowledges m t b n (k + b - a) here in
    let same : j + a ≡ k + b = grind (arith, e, f.edge, f.within, known, h.is, h.from, h.upto, w.is, w.from, w.upto) in (
      j,
      is,
      record {
        edge = w.is ∙ sym h.is;
        ordered = h.upto;
        within = omega (arith, f.within, h.from);
        ordered_too = w.upto;
        known = λ _. omega (arith, known, same);
        unknown = λ c. absurd (false≢true c);
      },
    )
receive_fits m s a t b n k true e f h =
    let none : t ≡ b = f.unknown refl in
    let less : n < m = grind (arith, e, h.is) in
    let d : ℕ = missing m t n in
    let short : d < m = grind (arith, e) in
    let hit : (t + d) % m ≡ n = grind (arith, e, less) in
    let (j, is, w) = acknowledges m (t + d) b n (t + d) (record { is = hit; from = omega (arith, none); upto = omega arith }) in
    let same : j ≡ t + d = grind (arith, e, w.is, w.from, w.upto, none, short, hit) in (
      j,
      is,
      record {
        edge = w.is ∙ sym h.is;
        ordered = h.upto;
        within = omega (arith, f.within, h.from);
        ordered_too = w.upto;
        known = λ c. absurd (false≢true (sym c));
        unknown = λ _. sym same;
      },
    )

-- ---- the numbers of a data packet

-- P(S) is the next number, and is in the window
pub record IsNext (m w s a n : ℕ) : Type 0 where
  pub is : n ≡ s % m
  pub room : s - a < w

pub next_is : (m w s a n : ℕ) → is_send_valid m w s a n ≡ true → IsNext m w s a n
next_is m w s a n h =
    let both = and_parts (n == s % m) (nat_lt (s - a) w) h in
    record { is = eqb-true n (s % m) both.0; room = ltb-true (s - a) w both.1 }

pub next_valid : (m w s a n : ℕ) → IsNext m w s a n → is_send_valid m w s a n ≡ true
next_valid m w s a n h = and_from (n == s % m) (nat_lt (s - a) w) (eq-eqb n (s % m) h.is) (lt-ltb (s - a) w h.room)

-- the lower edge after it
abbrev pub edge_after : (m : ℕ) (doubt : Bool) (t b : ℕ) → ℕ
edge_after m true t b = t - (t - b) % m
edge_after m false t b = b

-- the window that judges it
abbrev pub window_for : (m w : ℕ) (doubt : Bool) → ℕ
window_for m w true = m
window_for m w false = w

pub record SendFits (m w s a t b n : ℕ) (doubt : Bool) : Type 0 where
  pub next : IsNext m (window_for m w doubt) (completed_count m doubt t n) b n
  pub fits : FitsDirection m false (s + 1) a (completed_count m doubt t n + 1) (edge_after m doubt (completed_count m doubt t n + 1) b)

pub send_fits : (m w s a t b n : ℕ) (doubt : Bool) → (m ≡ 8) ⊎ (m ≡ 128) → w < m → FitsDirection m doubt s a t b → IsNext m w s a n → SendFits m w s a t b n doubt
send_fits m w s a t b n false e l f h =
    let known : t + a ≡ s + b = f.known refl in
    let next : n ≡ t % m = grind (arith, e, f.edge, known, h.is, f.ordered, f.ordered_too) in
    record {
      next = record { is = next; room = omega (arith, known, h.room, f.ordered, f.ordered_too) };
      fits = record {
        edge = f.edge;
        ordered = omega (arith, f.ordered);
        within = omega (arith, l, h.room, f.ordered);
        ordered_too = omega (arith, f.ordered_too);
        known = λ _. omega (arith, known);
        unknown = λ c. absurd (false≢true c);
      };
    }
send_fits m w s a t b n true e l f h =
    let none : t ≡ b = f.unknown refl in
    let d : ℕ = missing m t n in
    let less : n < m = grind (arith, e, h.is) in
    let short : d < m = grind (arith, e) in
    let hit : (t + d) % m ≡ n = grind (arith, e, less) in
    let gap : (t + d + 1 - b) % m ≡ s + 1 - a = grind (arith, e, hit, none, f.edge, h.is, h.room, f.ordered, l) in
    record {
      next = record { is = sym hit; room = omega (arith, none, short) };
      fits = record {
        edge = grind (arith, e, gap, hit, h.is, h.room, f.ordered, l, none);
        ordered = omega (arith, f.ordered);
        within = omega (arith, l, h.room, f.ordered);
        ordered_too = omega arith;
        known = λ _. omega (arith, gap, none, f.ordered);
        unknown = λ c. absurd (false≢true c);
      };
    }

-- ---- settling

-- a P(R) that is the number after all that was sent acknowledges all
pub all_acknowledged : (m s a n k : ℕ) → (m ≡ 8) ⊎ (m ≡ 128) → s < a + m → s % m ≡ n → Acknowledges m s a n k → k ≡ s
all_acknowledged m s a n k e l is h = grind (arith, e, l, is, h.is, h.from, h.upto)

pub settled_acknowledged : (m s n : ℕ) → (m ≡ 8) ⊎ (m ≡ 128) → s % m ≡ n → FitsDirection m false s s n n
settled_acknowledged m s n e is = record {
  edge = grind (arith, e, is);
  ordered = omega arith;
  within = grind (arith, e);
  ordered_too = omega arith;
  known = λ _. omega arith;
  unknown = λ c. absurd (false≢true c);
}

pub settled_in_doubt : (m s a l : ℕ) → (m ≡ 8) ⊎ (m ≡ 128) → a ≤ s → s < a + m → a % m ≡ l → FitsDirection m true s a l l
settled_in_doubt m s a l e o w is = record {
  edge = grind (arith, e, is);
  ordered = o;
  within = w;
  ordered_too = omega arith;
  known = λ c. absurd (false≢true (sym c));
  unknown = λ _. refl;
}

pub settled_with_data : (m w s a l n : ℕ) → (m ≡ 8) ⊎ (m ≡ 128) → w < m → a ≤ s → a % m ≡ l → IsNext m w s a n → FitsDirection m false (s + 1) a (l + missing m l (n + 1)) l
settled_with_data m w s a l n e b o is h =
    let more : missing m l (n + 1) + a ≡ s + 1 = grind (arith, e, b, o, is, h.is, h.room) in
    record {
      edge = grind (arith, e, is);
      ordered = omega (arith, o);
      within = omega (arith, o, h.room, b);
      ordered_too = omega arith;
      known = λ _. omega (arith, more);
      unknown = λ c. absurd (false≢true c);
    }
