-- The sequences of a settled channel, and what a data packet does to them.
use Rattle.std.specs.Prelude.{Bool, true, false, ◌≡◌, ◌&&◌, List, [], ◌∷◌, ◌++◌, Option, Some, None}
use Rattle.line_model.specs.declared.state.Side.{Side}
use Rattle.line_model.specs.channels.Channels.{AcceptedData, of_side}
use Rattle.line_model.specs.channels.GapStep.{alike_at_end, is_mixed}
use Rattle.data_transfer.specs.Assembler.{begun_on}
use Rattle.data_transfer.specs.Assembly.{Holds, kept_octets}
use Rattle.data_transfer.specs.UserOctets.{octets_in}
use Rattle.data_transfer.specs.declared.sequence.DataField.{DataField}
use Rattle.data_transfer.specs.declared.sequence.UserData.{UserData}
use Rattle.channel_machine.specs.GapView.{InDoubt}
use Rattle.channel_machine.specs.SettledNumbers.{kept_of}

-- a packet that continues these packets of its side; the assembler has what is kept of them
pub record IsContinued (s : InDoubt) (x : Side) (field : DataField) (hs : List AcceptedData) (p : AcceptedData) : Type 0 where
  pub holds : Holds (begun_on s.assembler x) (kept_of (of_side x s.doubts.sequences) s.doubts.hidden hs)
  pub qualified : p.qualified ≡ field.qualified
  pub octets : p.octets ≡ field.octets.now
  pub alike : is_mixed s.doubts.hidden (of_side x s.doubts.sequences) p hs ≡ false

-- the packets that are kept after it: these where more of the sequence follows, otherwise none
abbrev pub kept_after : (doubt hidden category_a : Bool) → List AcceptedData → AcceptedData → List AcceptedData
kept_after doubt hidden true hs p = kept_of doubt hidden (hs ++ p ∷ [])
kept_after doubt hidden false hs p = []

-- the octets of the sequence that it completes, where one is known
abbrev pub IsCompleted : {A : Type 0} → Option (UserData A) → (known : Bool) → List AcceptedData → AcceptedData → Type 0
IsCompleted (Some u) known hs p = (known ≡ true) × (octets_in u ≡ kept_octets (alike_at_end p hs ++ p ∷ []))
IsCompleted None known hs p = (known && p.qualified) ≡ false
