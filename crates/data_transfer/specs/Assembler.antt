-- An assembler, and the data packets that it represents.
use Rattle.std.specs.Prelude.{ℕ, true, false, ◌≡◌, List, [], ◌∷◌, ◌++◌}
use Rattle.line_model.specs.declared.state.Side.{Side}
use Rattle.line_model.specs.declared.state.Side.TheVariants.{T, N}
use Rattle.line_model.specs.channels.Channels.{AcceptedData, Sides, of_side}
use Rattle.line_model.specs.channels.Sequences.{begun, is_category_a, is_alike}
use Rattle.data_transfer.specs.Assembly.{Holds, kept_octets}
use Rattle.data_transfer.specs.Sequences.{Assembly, SequenceView}
use Rattle.data_transfer.specs.UserOctets.{octets_in}
use Rattle.data_transfer.specs.declared.sequence.Put.{Put}
use Rattle.data_transfer.specs.declared.sequence.Put.TheVariants.{Going, Complete, Mixed}

-- the sizes in force
abbrev pub sizes : Assembly → Sides ℕ
sizes a = record { of_t = a.of_t.size; of_n = a.of_n.size }

-- each side holds what it has begun
pub record Represents (a : Assembly) (hs : List AcceptedData) : Type 0 where
  pub of_t : Holds a.of_t (begun a.of_t.size T hs)
  pub of_n : Holds a.of_n (begun a.of_n.size N hs)

-- the packets that a side has begun
abbrev pub begun_by : Assembly → Side → List AcceptedData → List AcceptedData
begun_by a x hs = begun (of_side x (sizes a)) x hs

-- what is kept of a side
abbrev pub begun_on : Assembly → Side → SequenceView
begun_on a T = a.of_t
begun_on a N = a.of_n

-- what a packet does to an assembler
abbrev pub IsPut : {A : Type 0} → Put A → (old new : Assembly) → Side → AcceptedData → List AcceptedData → Type 0
IsPut Going old new x h hs =
    (is_alike h (begun_by old x hs) ≡ true) × (is_category_a (of_side x (sizes old)) h ≡ true) × Represents new (hs ++ h ∷ [])
IsPut (Complete s) old new x h hs =
    (is_alike h (begun_by old x hs) ≡ true) × (is_category_a (of_side x (sizes old)) h ≡ false) × Represents new (hs ++ h ∷ [])
    × (s.side ≡ x) × (s.qualified ≡ h.qualified) × (octets_in s.octets ≡ kept_octets (begun_by old x hs ++ h ∷ []))
IsPut Mixed old new x h hs = (is_alike h (begun_by old x hs) ≡ false) × (new ≡ old)

-- what a packet with Q 0 does to an assembler, where its side has begun no sequence with Q 1
abbrev pub IsPutUnqualified : (old new : Assembly) → Side → AcceptedData → List AcceptedData → Type 0
IsPutUnqualified old new x h hs = (is_alike h (begun_by old x hs) ≡ true) × Represents new (hs ++ h ∷ [])
