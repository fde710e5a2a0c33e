-- Channels that are looked through one after the other.
use Rattle.std.proofs.Common.{◌≡◌, refl, sym, ℕ, ◌+◌, ◌<◌, ◌≤◌, ◌⊎◌, inl, inr, nat_le, Bool, true, false, cond, Option, Some, None, arith, subst}
use Rattle.std.proofs.lemmas.Bool.{and_parts, cases_eq, leb-false, leb-true}
use Rattle.xot_circuits.specs.Plans.{ChannelsView, IsLongestFree, fits, free_since, is_for, longer}
use Rattle.xot_circuits.specs.declared.channels.FreeChannel.{FreeChannel}
use Rattle.xot_circuits.specs.declared.channels.Purpose.{Purpose}
use Rattle.xot_circuits.proofs.Apart.{free_is, use_of}

-- of the channels below a number the one that has been free longest
abbrev pub IsBest : ChannelsView → Purpose → (row number : ℕ) → Option FreeChannel → Type 0
IsBest c p row n None = (j : ℕ) → j < n → free_since c p row j ≡ None
IsBest c p row n (Some b) = (free_since c p row b.channel ≡ Some b.since) × ((j other : ℕ) → j < n → free_since c p row j ≡ Some other → b.since ≤ other)

-- what holds below a number and at it
pub one_more : (P : ℕ → Type 0) (n : ℕ) → ((j : ℕ) → j < n → P j) → P n → (j : ℕ) → j < n + 1 → P j
one_more P n below at j lt = by (cases_eq j n) where
  by : (j ≡ n) ⊎ (j ≡ n → ⊥) → P j
  by (inl e) = subst P (sym e) at
  by (inr other) = below j (omega (arith, lt, other))

none_other : (o : Option ℕ) (other : ℕ) → o ≡ None → o ≡ Some other → ⊥
none_other o other none some = cc (none, some)

same_other : (o : Option ℕ) (since other : ℕ) → o ≡ Some since → o ≡ Some other → since ≡ other
same_other o since other one two = cc (one, two)

best_by : (c : ChannelsView) (p : Purpose) (row n : ℕ) (best : Option FreeChannel) (o : Option ℕ) → IsBest c p row n best → free_since c p row n ≡ o → IsBest c p row (n + 1) (longer best n o)
best_by c p row n None None h e = one_more (λ (j : ℕ). free_since c p row j ≡ None) n h e
best_by c p row n (Some b) None h e =
    (h.0, λ j other lt is. one_more (λ (j : ℕ). (other : ℕ) → free_since c p row j ≡ Some other → b.since ≤ other) n (λ j lt other. h.1 j other lt) (λ other is. absurd (none_other _ other e is)) j lt other is)
best_by c p row n None (Some since) h e = (
  e,
  λ j other lt is. one_more (λ (j : ℕ). (other : ℕ) → free_since c p row j ≡ Some other → since ≤ other) n
      (λ j lt other is. absurd (none_other _ other (h j lt) is)) (λ other is. omega (arith, same_other _ since other e is)) j lt other is,
)
best_by c p row n (Some b) (Some since) h e = by (nat_le b.since since) refl where
  by : (t : Bool) → nat_le b.since since ≡ t → IsBest c p row (n + 1) (cond t (Some b) (Some (record { channel = n; since = since })))
  by true le = (
    h.0,
    λ j other lt is. one_more (λ (j : ℕ). (other : ℕ) → free_since c p row j ≡ Some other → b.since ≤ other) n (λ j lt other. h.1 j other lt)
        (λ other is. omega (arith, leb-true b.since since le, same_other _ since other e is)) j lt other is,
  )
  by false lt = (
    e,
    λ j other less is. one_more (λ (j : ℕ). (other : ℕ) → free_since c p row j ≡ Some other → since ≤ other) n
        (λ j less other is. omega (arith, leb-false b.since since lt, h.1 j other less is)) (λ other is. omega (arith, same_other _ since other e is)) j less other is,
  )

pub best_more : (c : ChannelsView) (p : Purpose) (row n : ℕ) (best : Option FreeChannel) → IsBest c p row n best → IsBest c p row (n + 1) (longer best n (free_since c p row n))
best_more c p row n best h = best_by c p row n best (free_since c p row n) h refl

-- a channel that is free is one of the interface's
pub free_within : (c : ChannelsView) (p : Purpose) (row j other : ℕ) → free_since c p row j ≡ Some other → j ≤ c.interface.svc
free_within c p row j other is =
    leb-true j c.interface.svc (and_parts (nat_le j c.interface.svc) (is_for c.interface p j) (free_is row other (fits c.interface p j) (use_of c j) is).0).0

pub best_all : (c : ChannelsView) (p : Purpose) (row n : ℕ) (b : FreeChannel) → IsBest c p row n (Some b) → c.interface.svc < n → IsLongestFree c p row b.channel
best_all c p row n b h all = (b.since, h.0, λ j other is. h.1 j other (omega (arith, all, free_within c p row j other is)) is)
