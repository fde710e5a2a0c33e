-- What is kept of the packets that a side has begun, and what a packet does to it (X.25 clause 4.3.5).
use Rattle.std.specs.Prelude.{ℕ, Bool, true, false, ◌≡◌, List, [], ◌++◌, ◌-◌, length, take, Option, Some, None}
use Rattle.std.specs.List.{list_all}
use Rattle.line_model.specs.declared.state.Side.{Side}
use Rattle.line_model.specs.channels.Channels.{AcceptedData}
use Rattle.line_model.specs.channels.Sequences.{is_category_a, eq_bool, sequence_octets}
use Rattle.data_transfer.specs.declared.sequence.DataField.{DataField}
use Rattle.data_transfer.specs.Sequences.{SequenceView}
use Rattle.data_transfer.specs.UserOctets.{octets_in}
use Rattle.data_transfer.specs.declared.sequence.Put.{Put}
use Rattle.data_transfer.specs.declared.sequence.Put.TheVariants.{Going, Complete, Mixed}

-- the data packet of a side
abbrev pub accepted : Side → DataField → AcceptedData
accepted x f = record {
  side = x;
  qualified = f.qualified;
  more = f.more;
  delivery = f.delivery;
  length = length f.octets.now;
  octets = f.octets.now;
}

-- a data packet of a side with Q 0, which is known by its length
abbrev pub unqualified : Side → (more delivery : Bool) → (length : ℕ) → AcceptedData
unqualified x m d n = record { side = x; qualified = false; more = m; delivery = d; length = n; octets = [] }

-- the octets of packets that are kept: the first 1,025 (profile)
abbrev pub kept_octets : List AcceptedData → List ℕ
kept_octets gs = take 1025 (sequence_octets gs)

-- the Q bit of some packets, none where there are none
abbrev pub AllHaveQ : Option Bool → List AcceptedData → Type 0
AllHaveQ None gs = gs ≡ []
AllHaveQ (Some q) gs = (r : Bool) → list_all (λ g. eq_bool g.qualified r) gs ≡ eq_bool q r

-- whether a Q bit is that of the packets before it
abbrev pub is_like : Option Bool → Bool → Bool
is_like None r = true
is_like (Some q) r = eq_bool q r

-- octets and more of them, as far as there is room
abbrev pub with_more : List ℕ → List ℕ → List ℕ
with_more old more = old ++ take (1025 - length old) more

-- what is kept of the packets that a side has begun
pub record Holds (b : SequenceView) (gs : List AcceptedData) : Type 0 where
  pub octets : b.octets ≡ kept_octets gs
  pub qualified : AllHaveQ b.qualified gs

-- what a packet does to what is kept of its side
abbrev pub IsPutOn : {A : Type 0} → Put A → (old new : SequenceView) → Side → AcceptedData → Type 0
IsPutOn Going old new x h =
    (is_like old.qualified h.qualified ≡ true) × (is_category_a old.size h ≡ true)
    × (new.qualified ≡ Some h.qualified) × (new.octets ≡ with_more old.octets h.octets)
IsPutOn (Complete s) old new x h =
    (is_like old.qualified h.qualified ≡ true) × (is_category_a old.size h ≡ false) × Holds new []
    × (s.side ≡ x) × (s.qualified ≡ h.qualified) × (octets_in s.octets ≡ with_more old.octets h.octets)
IsPutOn Mixed old new x h = (is_like old.qualified h.qualified ≡ false) × (new ≡ old)

-- what a packet with Q 0 does, which is known by its length: its sequence goes on, or ends
abbrev pub IsUnqualifiedOn : (goes_on : Bool) → (old new : SequenceView) → AcceptedData → Type 0
IsUnqualifiedOn true old new h = (is_category_a old.size h ≡ true) × (new.qualified ≡ Some false) × (new.octets ≡ old.octets)
IsUnqualifiedOn false old new h = (is_category_a old.size h ≡ false) × Holds new []

-- a fact where a packet is refused for its Q bit
abbrev pub OnMixed : {A : Type 0} → Put A → Type 0 → Type 0
OnMixed Mixed fact = fact
OnMixed _ fact = Unit {0}
