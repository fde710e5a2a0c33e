-- The first new channel, and what a plan gives.
use Rattle.std.proofs.Common.{◌≡◌, ◌∙◌, sym, ap, subst, refl, ℕ, zero, suc, ◌+◌, ◌-◌, ◌<◌, ◌≤◌, ◌&&◌, ◌⊎◌, inl, inr, nat_le, Bool, true, false, cond, List, [], ◌∷◌, Option, Some, None, arith, find, length, ◌≢◌, true≢false}
use Rattle.std.specs.List.{range_with_len}
use Rattle.std.specs.Option.{option_map}
use Rattle.std.proofs.lemmas.Bool.{and_parts, cases_eq, cases_lt, cases_order, leb-true, ltb-true}
use Rattle.line_model.specs.declared.interface.Interface.{Interface}
use Rattle.xot_circuits.specs.Plans.{ArePlanned, AreWithin, ChannelsView, IsFirstNew, IsFound, IsNextNew, IsWithin, NoneNew, after_given, first_new, fits, found, free_since, given_of, is_for, is_new, is_unused, longest_of, longer, plan_of, since_before}
use Rattle.xot_circuits.specs.declared.channels.FreeChannel.{FreeChannel}
use Rattle.xot_circuits.specs.declared.channels.Given.{Given}
use Rattle.xot_circuits.specs.declared.channels.Purpose.{Purpose}
use Rattle.xot_circuits.specs.declared.channels.Purpose.TheVariants.{Permanent, Calls}
use Rattle.xot_circuits.specs.declared.channels.Wanted.{Wanted}
use Rattle.xot_circuits.proofs.Apart.{IsSized, given_fits, in_range, use_of}
use Rattle.xot_circuits.proofs.Ranges.{IsBest, best_all, best_more}

-- a channel for a purpose is one of the interface's
fits_from : (i : Interface) (p : Purpose) (k : ℕ) → fits i p k ≡ true → 1 ≤ k
fits_from i Permanent k h = leb-true 1 k (and_parts (nat_le 1 k) _ (and_parts (nat_le k i.svc) _ h).1).0
fits_from i (Calls side) k h = let after : i.pvc < k = ltb-true i.pvc k (and_parts _ _ (and_parts (nat_le k i.svc) _ h).1).0 in omega (arith, after)

fits_to : (i : Interface) (p : Purpose) (k : ℕ) → fits i p k ≡ true → k ≤ i.svc
fits_to i p k h = leb-true k i.svc (and_parts (nat_le k i.svc) (is_for i p k) h).0

unfit : (i : Interface) (p : Purpose) (k : ℕ) → (1 ≤ k → k ≤ i.svc → ⊥) → fits i p k ≡ false
unfit i p k out = by (fits i p k) refl where
  by : (b : Bool) → fits i p k ≡ b → fits i p k ≡ false
  by true is = absurd (out (fits_from i p k is) (fits_to i p k is))
  by false is = is

unfit_new : (c : ChannelsView) (p : Purpose) (k : ℕ) → (1 ≤ k → k ≤ c.interface.svc → ⊥) → is_new c p k ≡ false
unfit_new c p k out = ap (λ (b : Bool). b && is_unused (use_of c k)) (unfit c.interface p k out)

unfit_free : (c : ChannelsView) (p : Purpose) (row k : ℕ) → (1 ≤ k → k ≤ c.interface.svc → ⊥) → free_since c p row k ≡ None
unfit_free c p row k out = ap (λ (b : Bool). cond b (since_before row (use_of c k)) None) (unfit c.interface p k out)

-- the first of some numbers that passes, if there is one
abbrev IsFirst : (ℕ → Bool) → (a n : ℕ) → Option ℕ → Type 0
IsFirst f a n None = (j : ℕ) → a ≤ j → j < a + n → f j ≡ false
IsFirst f a n (Some k) = (f k ≡ true) × ((j : ℕ) → a ≤ j → j < k → f j ≡ false)

-- what holds of a number and of those after it
from_one : (P : ℕ → Type 0) (a j : ℕ) → P a → (a + 1 ≤ j → P j) → a ≤ j → P j
from_one P a j at after ge = by (cases_eq j a) where
  by : (j ≡ a) ⊎ (j ≢ a) → P j
  by (inl e) = subst P (sym e) at
  by (inr other) = after (omega (arith, ge, other))

later : (f : ℕ → Bool) (a n : ℕ) (o : Option ℕ) → f a ≡ false → IsFirst f (a + 1) n o → IsFirst f a (suc n) o
later f a n None e h = λ j ge lt. from_one (λ j. f j ≡ false) a j e (λ more. h j more (omega (arith, lt))) ge
later f a n (Some k) e h = (h.0, λ j ge lt. from_one (λ j. f j ≡ false) a j e (λ more. h.1 j more lt) ge)

first_in : (f : ℕ → Bool) (a n : ℕ) → IsFirst f a n (find f (range_with_len a n))
first_in f a zero = λ j ge lt. absurd (omega (arith, ge, lt))
first_in f a (suc n) = at (f a) refl (first_in f (a + 1) n) where
  at : (b : Bool) → f a ≡ b → IsFirst f (a + 1) n (find f (range_with_len (a + 1) n)) → IsFirst f a (suc n) (cond b (Some a) (find f (range_with_len (a + 1) n)))
  at true is rest = (is, λ j ge lt. absurd (omega (arith, ge, lt)))
  at false is rest = later f a n _ is rest

abbrev IsFirstOf : ChannelsView → Purpose → Option ℕ → Type 0
IsFirstOf c p None = NoneNew c p
IsFirstOf c p (Some k) = IsFirstNew c p k

first_of : (c : ChannelsView) (p : Purpose) (o : Option ℕ) → IsFirst (is_new c p) 1 c.interface.svc o → IsFirstOf c p o
first_of c p None h = λ k. by k (cases_lt 0 k) (cases_lt c.interface.svc k) where
  by : (k : ℕ) → (0 < k) ⊎ (k ≤ 0) → (c.interface.svc < k) ⊎ (k ≤ c.interface.svc) → is_new c p k ≡ false
  by k (inr none) any = unfit_new c p k (λ ge le. omega (arith, none, ge))
  by k (inl some) (inl above) = unfit_new c p k (λ ge le. omega (arith, above, le))
  by k (inl some) (inr le) = h k (omega (arith, some)) (omega (arith, le))
first_of c p (Some k) h = (h.0, λ j lt. by j lt (cases_lt 0 j)) where
  by : (j : ℕ) → j < k → (0 < j) ⊎ (j ≤ 0) → is_new c p j ≡ false
  by j lt (inr none) = unfit_new c p j (λ ge le. omega (arith, none, ge))
  by j lt (inl some) = h.1 j (omega (arith, some)) lt

first_is : (c : ChannelsView) (p : Purpose) → IsFirstOf c p (first_new c p)
first_is c p = first_of c p (first_new c p) (first_in (is_new c p) 1 c.interface.svc)

-- there is one first new channel
new_once : (c : ChannelsView) (p : Purpose) (j k : ℕ) → IsFirstNew c p j → IsFirstNew c p k → j ≡ k
new_once c p j k one other = by (cases_order j k) where
  by : (j ≡ k) ⊎ ((j < k) ⊎ (k < j)) → j ≡ k
  by (inl same) = same
  by (inr (inl before)) = absurd (true≢false (sym one.0 ∙ other.1 j before))
  by (inr (inr after)) = absurd (true≢false (sym other.0 ∙ one.1 k after))

pub next_some : (c : ChannelsView) (p : Purpose) (k : ℕ) → IsNextNew c p k → k ≤ c.interface.svc → Some k ≡ first_new c p
next_some c p k next le = by (first_new c p) (first_is c p) where
  by : (o : Option ℕ) → IsFirstOf c p o → Some k ≡ o
  by None none = absurd (true≢false (sym (next.1 le) ∙ none k))
  by (Some j) first = ap Some (new_once c p k j (next.1 le, next.0) first)

pub next_none : (c : ChannelsView) (p : Purpose) (k : ℕ) → IsNextNew c p k → c.interface.svc < k → None ≡ first_new c p
next_none c p k next above = by (first_new c p) (first_is c p) where
  by : (o : Option ℕ) → IsFirstOf c p o → None ≡ o
  by None none = refl
  by (Some j) first =
      let there = fits_to c.interface p j (and_parts _ _ first.0).0 in
      absurd (true≢false (sym first.0 ∙ next.0 j (omega (arith, above, there))))

-- the channel that has been free longest
none_free : (c : ChannelsView) (p : Purpose) (row n : ℕ) → IsBest c p row n None → c.interface.svc < n → (k : ℕ) → free_since c p row k ≡ None
none_free c p row n h all k = by (cases_lt k n) where
  by : (k < n) ⊎ (n ≤ k) → free_since c p row k ≡ None
  by (inl lt) = h k lt
  by (inr ge) = unfit_free c p row k (λ one le. omega (arith, all, ge, le))

longest_from : (c : ChannelsView) (p : Purpose) (row a n : ℕ) (best : Option FreeChannel) → IsBest c p row a best → IsBest c p row (a + n) (longest_of c p row best (range_with_len a n))
longest_from c p row a zero best h = let same : a ≡ a + 0 = omega arith in subst (λ (m : ℕ). IsBest c p row m best) same h
longest_from c p row a (suc n) best h =
    let same : a + 1 + n ≡ a + suc n = omega arith in
    subst (λ (m : ℕ). IsBest c p row m (longest_of c p row (longer best a (free_since c p row a)) (range_with_len (a + 1) n))) same
    (longest_from c p row (a + 1) n (longer best a (free_since c p row a)) (best_more c p row a best h))

longest_is : (c : ChannelsView) (p : Purpose) (row : ℕ) → IsBest c p row (1 + c.interface.svc) (longest_of c p row None (range_with_len 1 c.interface.svc))
longest_is c p row = longest_from c p row 1 c.interface.svc None (λ j lt. unfit_free c p row j (λ ge le. omega (arith, lt, ge)))

-- one channel more
pub longest_next : (c : ChannelsView) (p : Purpose) (row k : ℕ) (best : Option FreeChannel) → k ≤ c.interface.svc
    → longest_of c p row best (range_with_len k (c.interface.svc + 1 - k)) ≡ longest_of c p row (longer best k (free_since c p row k)) (range_with_len (k + 1) (c.interface.svc + 1 - (k + 1)))
longest_next c p row k best le =
    let one : c.interface.svc + 1 - k ≡ suc (c.interface.svc + 1 - (k + 1)) = omega (arith, le) in
    ap (λ (n : ℕ). longest_of c p row best (range_with_len k n)) one

-- what is computed is what a circuit is to be given
pub found_is : (c : ChannelsView) (w : Wanted) → IsFound c w (found c w)
found_is c w = at (first_new c w.purpose) (longest_of c w.purpose w.first None (range_with_len 1 c.interface.svc)) (first_is c w.purpose) (longest_is c w.purpose w.first) where
  at : (o : Option ℕ) (b : Option FreeChannel) → IsFirstOf c w.purpose o → IsBest c w.purpose w.first (1 + c.interface.svc) b → IsFound c w (given_of o (option_map (λ f. f.channel) b))
  at (Some k) b new free = new
  at None None new free = (new, none_free c w.purpose w.first (1 + c.interface.svc) free (omega arith))
  at None (Some b) new free = (new, best_all c w.purpose w.first (1 + c.interface.svc) b free (omega arith))

pub given_there : (c : ChannelsView) (w : Wanted) (g : Given) → IsSized c → found c w ≡ Some g → g.channel < length c.uses
given_there c w g sized is = in_range c w g.channel sized (given_fits c w g g.is_again (subst (IsFound c w) is (found_is c w)))

pub plan_planned : (c : ChannelsView) (ws : List Wanted) → ArePlanned c ws (plan_of c ws)
plan_planned c [] = refl
plan_planned c (w ∷ ws) = (found_is c w, plan_planned (after_given (found c w) w c) ws)

found_within : (c : ChannelsView) (w : Wanted) → IsWithin c.interface (found c w)
found_within c w = at (found c w) (found_is c w) where
  at : (g : Option Given) → IsFound c w g → IsWithin c.interface g
  at None h = tt
  at (Some g) h = let fit = given_fits c w g g.is_again h in (fits_from c.interface w.purpose g.channel fit, fits_to c.interface w.purpose g.channel fit)

same_interface : (g : Option Given) (w : Wanted) (c : ChannelsView) → (after_given g w c).interface ≡ c.interface
same_interface None w c = refl
same_interface (Some g) w c = refl

-- each channel of a plan is one of the interface's
pub plan_within : (c : ChannelsView) (ws : List Wanted) → AreWithin c.interface (plan_of c ws)
plan_within c [] = tt
plan_within c (w ∷ ws) = (
  found_within c w,
  subst (λ (i : Interface). AreWithin i (plan_of (after_given (found c w) w c) ws)) (same_interface (found c w) w c) (plan_within (after_given (found c w) w c) ws),
)
