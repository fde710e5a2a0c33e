-- The logical channels of a trace for circuits.
use Rattle.std.specs.Prelude.{◌≡◌, ℕ, ◌+◌, ◌<◌, ◌≤◌, ◌&&◌, nat_le, nat_lt, Bool, true, false, not, List, [], ◌∷◌, find, replicate, slice_index_or, slice_set, Option, Some, None, if◌then◌else◌}
use Rattle.std.specs.List.{AllByRecursion, fold, range_with_len}
use Rattle.std.specs.Option.{option_map}
use Rattle.line_model.specs.channels.Channels.{is_against, is_permanent}
use Rattle.line_model.specs.declared.interface.Interface.{Interface}
use Rattle.line_model.specs.declared.state.Side.TheVariants.{T, N}
use Rattle.xot_circuits.specs.declared.channels.Purpose.{Purpose}
use Rattle.xot_circuits.specs.declared.channels.Purpose.TheVariants.{Permanent, Calls}
use Rattle.xot_circuits.specs.declared.channels.ChannelUse.{ChannelUse}
use Rattle.xot_circuits.specs.declared.channels.ChannelUse.TheVariants.{Unused, Taken, Free}
use Rattle.xot_circuits.specs.declared.channels.FreeChannel.{FreeChannel}
use Rattle.xot_circuits.specs.declared.channels.Given.{Given}
use Rattle.xot_circuits.specs.declared.channels.Starts.{Starts}
use Rattle.xot_circuits.specs.declared.channels.Wanted.{Wanted}

-- the channels of an interface, and who has each; the first one is channel 0
pub record ChannelsView : Type 0 where
  pub interface : Interface
  pub uses : List ChannelUse

abbrev pub new_channels : Interface → ChannelsView
new_channels i = record { interface = i; uses = replicate (i.svc + 1) Unused }

-- permanent circuits have 1 to pvc, and calls those after them that are not one-way against them (X.25 Annex A)
abbrev pub is_for : Interface → Purpose → (channel : ℕ) → Bool
is_for i Permanent k = is_permanent i k
is_for i (Calls side) k = nat_lt i.pvc k && not (is_against i side k)

abbrev pub fits : Interface → Purpose → (channel : ℕ) → Bool
fits i p k = nat_le k i.svc && is_for i p k

abbrev pub is_unused : ChannelUse → Bool
is_unused Unused = true
is_unused u = false

-- a channel for a purpose that no circuit had
abbrev pub is_new : ChannelsView → Purpose → (channel : ℕ) → Bool
is_new c p k = fits c.interface p k && is_unused (slice_index_or c.uses k Unused)

abbrev pub first_new : ChannelsView → Purpose → Option ℕ
first_new c p = find (λ k. is_new c p k) (range_with_len 1 c.interface.svc)

-- a number before which no channel is new, and which is new if it is a channel
abbrev pub IsNextNew : ChannelsView → Purpose → (channel : ℕ) → Type 0
IsNextNew c p k = ((j : ℕ) → j < k → is_new c p j ≡ false) × (k ≤ c.interface.svc → is_new c p k ≡ true)

abbrev pub NoneNew : ChannelsView → Purpose → Type 0
NoneNew c p = (k : ℕ) → is_new c p k ≡ false

abbrev pub start_of : Purpose → Starts → ℕ
start_of Permanent s = s.permanent
start_of (Calls T) s = s.of_t
start_of (Calls N) s = s.of_n

abbrev pub with_start : Purpose → (channel : ℕ) → Starts → Starts
with_start Permanent k s = record s { permanent = k }
with_start (Calls T) k s = record s { of_t = k }
with_start (Calls N) k s = record s { of_n = k }

abbrev pub AreStarts : ChannelsView → Starts → Type 0
AreStarts c s = (p : Purpose) (j : ℕ) → j < start_of p s → is_new c p j ≡ false

abbrev pub IsFirstNew : ChannelsView → Purpose → (channel : ℕ) → Type 0
IsFirstNew c p k = (is_new c p k ≡ true) × ((j : ℕ) → j < k → is_new c p j ≡ false)

-- the row before another one since which a channel for a purpose is free
abbrev pub since_before : (row : ℕ) → ChannelUse → Option ℕ
since_before row (Free since) = if nat_lt since row then Some since else None
since_before row u = None

abbrev pub free_since : ChannelsView → Purpose → (row channel : ℕ) → Option ℕ
free_since c p row k = if fits c.interface p k then since_before row (slice_index_or c.uses k Unused) else None

abbrev pub NoneFree : ChannelsView → Purpose → (row : ℕ) → Type 0
NoneFree c p row = (k : ℕ) → free_since c p row k ≡ None

-- none has been free longer
abbrev pub IsLongestFree : ChannelsView → Purpose → (row channel : ℕ) → Type 0
IsLongestFree c p row k = (since : ℕ) × (free_since c p row k ≡ Some since)
    × ((j other : ℕ) → free_since c p row j ≡ Some other → since ≤ other)

-- of the best one so far and another one, if that is free, the one that has been free longer
abbrev pub longer : Option FreeChannel → (channel : ℕ) → Option ℕ → Option FreeChannel
longer best k None = best
longer None k (Some since) = Some (record { channel = k; since = since })
longer (Some b) k (Some since) = if nat_le b.since since then Some b else Some (record { channel = k; since = since })

-- of some channels the one that has been free longest
abbrev pub longest_of : ChannelsView → Purpose → (row : ℕ) → Option FreeChannel → List ℕ → Option FreeChannel
longest_of c p row best ks = fold (λ b k. longer b k (free_since c p row k)) best ks

abbrev pub longest_free : ChannelsView → Purpose → (row : ℕ) → Option ℕ
longest_free c p row = option_map (λ f. f.channel) (longest_of c p row None (range_with_len 1 c.interface.svc))

-- a new channel, or where there is none one that is free
abbrev pub IsGiven : ChannelsView → Wanted → Given → Bool → Type 0
IsGiven c w g false = IsFirstNew c w.purpose g.channel
IsGiven c w g true = NoneNew c w.purpose × IsLongestFree c w.purpose w.first g.channel

abbrev pub given_of : (new free : Option ℕ) → Option Given
given_of (Some k) free = Some (record { channel = k; is_again = false })
given_of None free = option_map (λ k. record { channel = k; is_again = true }) free

abbrev pub found : ChannelsView → Wanted → Option Given
found c w = given_of (first_new c w.purpose) (longest_free c w.purpose w.first)

abbrev pub IsFound : ChannelsView → Wanted → Option Given → Type 0
IsFound c w None = NoneNew c w.purpose × NoneFree c w.purpose w.first
IsFound c w (Some g) = IsGiven c w g g.is_again

-- a channel is free after a circuit only if it is surely in p1 then
abbrev pub use_after : Wanted → ChannelUse
use_after w = if w.is_clear then Free w.last else Taken

abbrev pub after_given : Option Given → Wanted → ChannelsView → ChannelsView
after_given None w c = c
after_given (Some g) w c = record { interface = c.interface; uses = slice_set c.uses g.channel (use_after w) }

-- what circuits are given, one after the other
abbrev pub plan_of : ChannelsView → List Wanted → List (Option Given)
plan_of c [] = []
plan_of c (w ∷ ws) = found c w ∷ plan_of (after_given (found c w) w c) ws

-- a logical channel of the interface
abbrev pub IsWithin : Interface → Option Given → Type 0
IsWithin i None = Unit {0}
IsWithin i (Some g) = (1 ≤ g.channel) × (g.channel ≤ i.svc)

abbrev pub AreWithin : Interface → List (Option Given) → Type 0
AreWithin i gs = AllByRecursion (IsWithin i) gs

-- circuits one after the other, and what each of them was given
abbrev pub ArePlanned : ChannelsView → List Wanted → List (Option Given) → Type 0
ArePlanned c [] gs = gs ≡ []
ArePlanned c (w ∷ ws) [] = ⊥
ArePlanned c (w ∷ ws) (g ∷ gs) = IsFound c w g × ArePlanned (after_given g w c) ws gs

-- each circuit begins before it ends
abbrev pub AreOrdered : List Wanted → Type 0
AreOrdered ws = AllByRecursion (λ w. w.first ≤ w.last) ws

-- what two circuits have one channel for: the first one's is surely in p1 before the second one begins
abbrev pub IsApart : (w later : Wanted) → Type 0
IsApart w later = (w.is_clear ≡ true) × (w.last < later.first)

abbrev pub IsOn : Option Given → (channel : ℕ) → Type 0
IsOn None k = ⊥
IsOn (Some g) k = g.channel ≡ k

-- each circuit that has a channel after one that had it
abbrev pub AreAfter : Wanted → (channel : ℕ) → List Wanted → List (Option Given) → Type 0
AreAfter w k [] gs = Unit {0}
AreAfter w k (v ∷ vs) [] = Unit {0}
AreAfter w k (v ∷ vs) (g ∷ gs) = (IsOn g k → IsApart w v) × AreAfter w k vs gs

abbrev pub AreApart : List Wanted → List (Option Given) → Type 0
AreApart [] gs = Unit {0}
AreApart (w ∷ ws) [] = Unit {0}
AreApart (w ∷ ws) (g ∷ gs) = ((k : ℕ) → IsOn g k → AreAfter w k ws gs) × AreApart ws gs
