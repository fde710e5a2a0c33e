-- What a row does to the open channels.
use Rattle.std.specs.Prelude.{◌≡◌, ℕ, ◌++◌, ◌∷◌, [], List, Option}
use Rattle.line_model.specs.declared.interface.Interface.{Interface}
use Rattle.line_model.specs.declared.event.Event.{Event}
use Rattle.line_model.specs.declared.finding.Finding.{Finding}
use Rattle.line_model.specs.basics.Bounds.{IsPiece}
use Rattle.line_model.specs.basics.Records.{Item, Piece}
use Rattle.line_model.specs.channels.GapRestart.{GapInterfaceState}
use Rattle.restart_epochs.specs.OpenRows.{OpenRows, rows_of, with_gap, IsListing}
use Rattle.restart_epochs.specs.declared.walk.EpochWalk.{EpochWalk}
use Rattle.restart_epochs.specs.declared.walk.Step.{Step}
use Rattle.restart_epochs.specs.declared.walk.ChannelEffect.{ChannelEffect}
use Rattle.restart_epochs.specs.declared.walk.ChannelEffect.TheVariants.{ToChannel}
use Rattle.channel_run.specs.declared.run.Channel.{Ghosts as Machine}
use Rattle.channel_run.specs.Live.{channel_so_far}
use Rattle.channel_run.specs.Run.{data_events, row_events}
use Rattle.live_report.specs.declared.judged_row.Judge.{Judge}
use Rattle.live_report.specs.declared.judged_row.Judge.TheVariants as judge
use Rattle.live_report.specs.declared.open_channels.OpenChannels.{OpenChannels}
use Rattle.live_report.specs.AddedPieces.{ArePieces}
use Rattle.live_report.specs.JudgedRows.{IsRestart, IsTaker}
use Rattle.live_report.specs.OpenChannels.{ChannelsRepresent, OpenEpoch, begun_piece, FindsOn}

-- the open epoch of a walk
abbrev pub epoch_of : {B : Type 0} → EpochWalk B → OpenEpoch
epoch_of walk = record { interface = walk.interface; number = walk.epoch; start = walk.start }

-- the piece of a channel in it, up to the last gap of all channels
abbrev pub reached_piece : {B : Type 0} → EpochWalk B → (gap channel : ℕ) → OpenRows → Piece
reached_piece walk gap channel rows = begun_piece (epoch_of walk) channel (with_gap gap (rows_of rows channel))

-- of any rows of the open epoch of a walk that open channels represent
abbrev pub OfOpenChannels : {A B C : Type 0} → Machine C A → EpochWalk B → OpenChannels A C → (OpenRows → Type 0) → Type 0
OfOpenChannels m walk open_channels Fact = (rows : OpenRows) → ChannelsRepresent m (epoch_of walk) rows open_channels → ArePieces (epoch_of walk) open_channels.gap rows → Fact rows

-- a channel of the open epoch that read a row: these are the rows before and after it
abbrev pub TakesOn : {B : Type 0} → EpochWalk B → (gap channel : ℕ) → (rows after : OpenRows) → Judge → Type 0
TakesOn walk gap channel rows after by =
    IsTaker walk.interface channel (channel_so_far (reached_piece walk gap channel rows)) (channel_so_far (begun_piece (epoch_of walk) channel (rows_of after channel))) by

-- the open channels of a walk represent the rows of its open epoch
abbrev pub RepresentsAt : {A B C : Type 0} → Machine C A → EpochWalk B → OpenRows → OpenChannels A C → Type 0
RepresentsAt m walk rows open_channels = ChannelsRepresent m (epoch_of walk) rows open_channels × ArePieces (epoch_of walk) open_channels.gap rows × IsListing rows

-- of any rows that they represent
abbrev pub OfOpen : {A B C : Type 0} → Machine C A → EpochWalk B → OpenChannels A C → (OpenRows → Type 0) → Type 0
OfOpen m walk open_channels Fact = (rows : OpenRows) → RepresentsAt m walk rows open_channels → Fact rows

-- a row that goes to a channel can be one of its piece
abbrev pub MayAffect : ChannelEffect → Interface → (gap : ℕ) → Item → OpenRows → Type 0
MayAffect (ToChannel channel) i gap item rows = IsPiece i channel (with_gap gap (rows_of rows channel) ++ item ∷ [])
MayAffect _ i gap item rows = Unit {0}

-- what a row finds: where it goes to a channel what that finds, otherwise what the restart machine does
abbrev pub FindsAt : {B : Type 0} → ChannelEffect → (level : Option Finding) → EpochWalk B → (gap : ℕ) → OpenRows → Item → Option Finding → Type 0
FindsAt (ToChannel channel) level walk gap rows row found = FindsOn (reached_piece walk gap channel rows) row found
FindsAt _ level walk gap rows row found = found ≡ level

abbrev pub FindsBy : {B : Type 0} → Step → EpochWalk B → (gap : ℕ) → OpenRows → Item → Option Finding → Type 0
FindsBy step walk gap rows row found = FindsAt step.effect step.finding walk gap rows row found

-- events, and after them that of accepted data with Q 0 on the channel that a row went to
abbrev pub with_data : (epoch : ℕ) → Judge → Item → List Event → List Event
with_data epoch (judge.Restart before after) item events = events
with_data epoch (judge.Channel k before after accepted) item events = events ++ data_events epoch k item accepted

-- the events of a row that goes to a channel
abbrev pub HasEvents : {B : Type 0} → ChannelEffect → EpochWalk B → (gap : ℕ) → OpenRows → Item → List Event → Type 0
HasEvents (ToChannel channel) walk gap rows row events = events ≡ row_events walk.interface walk.epoch channel (channel_so_far (reached_piece walk gap channel rows)) row
HasEvents _ walk gap rows row events = Unit {0}

-- the machine that judges a row: the channel that it goes to, otherwise the restart machine, which is so after it
abbrev pub JudgesBy : {B : Type 0} → ChannelEffect → EpochWalk B → (gap : ℕ) → (machine : GapInterfaceState) → (rows after : OpenRows) → Judge → Type 0
JudgesBy (ToChannel channel) walk gap machine rows after by = TakesOn walk gap channel rows after by
JudgesBy _ walk gap machine rows after by = IsRestart walk.machine.level.state machine.level.state by
