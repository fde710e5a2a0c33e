-- The logical channels of the open epoch, and the rows that they represent.
use Rattle.std.specs.Prelude.{◌≡◌, ◌≢◌, ℕ, true, List, [], Option, Some, None, option_to_list}
use Rattle.line_model.specs.declared.interface.Interface.{Interface}
use Rattle.line_model.specs.declared.finding.Finding.{Finding}
use Rattle.line_model.specs.declared.gap.EpochStart.{EpochStart}
use Rattle.line_model.specs.declared.piece.PieceEnd.{PieceEnd}
use Rattle.line_model.specs.basics.Bounds.{IsPiece}
use Rattle.line_model.specs.basics.Records.{Item, Piece}
use Rattle.line_model.specs.channels.Gaps.{GapChannel}
use Rattle.line_model.specs.observer.Report.{findings_of}
use Rattle.line_model.specs.pieces.Plan.{has_some}
use Rattle.restart_epochs.specs.OpenRows.{OpenRows, last_number, rows_of, with_channel, with_gap}
use Rattle.restart_epochs.specs.ChannelTables.{ChannelTables, value_at}
use Rattle.channel_run.specs.declared.run.Channel.{Ghosts as Machine}
use Rattle.channel_run.specs.Live.{Represents as IsLive, channel_so_far}
use Rattle.channel_run.specs.Run.{row_events}
use Rattle.live_report.specs.declared.open_channels.OpenChannel.{OpenChannel}
use Rattle.live_report.specs.declared.open_channels.OpenChannels.{OpenChannels}

-- an epoch that has not ended: its interface, its number, and how it began
pub record OpenEpoch : Type 0 where
  pub interface : Interface
  pub number : ℕ
  pub start : EpochStart

-- the piece of a channel in an epoch that ended so
abbrev pub ended_piece : (id : ℕ) → OpenEpoch → (end : Option PieceEnd) → (channel : ℕ) → List Item → Piece
ended_piece id e end k items = record { id = id; interface = e.interface; epoch = e.number; start = e.start; channel = k; items = items; end = end }

-- the piece of a channel in an epoch that has not ended
abbrev pub begun_piece : OpenEpoch → (channel : ℕ) → List Item → Piece
begun_piece e k items = ended_piece 0 e None k items

-- an open channel represents a piece, whose last row has its number
pub record OpenFor {A C : Type 0} (interface_of : C → Interface) (number_of : C → ℕ) (represents : C → GapChannel → Type 0) (entry : OpenChannel A C) (p : Piece) : Type 0 where
  pub live : IsLive interface_of number_of represents entry.live p
  pub last : entry.last ≡ last_number p.items

-- what is in the place of a channel: nothing where it has no rows, otherwise an open channel that represents them
abbrev pub OpenChannelFor : {A C : Type 0} → (C → Interface) → (C → ℕ) → (C → GapChannel → Type 0) → Piece → Option (OpenChannel A C) → Type 0
OpenChannelFor interface_of number_of represents p None = p.items ≡ []
OpenChannelFor interface_of number_of represents p (Some entry) = (has_some p.items ≡ true) × OpenFor interface_of number_of represents entry p

-- the open channels of an epoch represent the rows of its channels
pub record OpenChannelsFor {A C : Type 0} (interface_of : C → Interface) (number_of : C → ℕ) (represents : C → GapChannel → Type 0)
    (e : OpenEpoch) (rows : OpenRows) (table : ChannelTables (OpenChannel A C)) : Type 0 where
  pub channels : table.channels ≡ rows.channels
  pub each : (k : ℕ) → OpenChannelFor interface_of number_of represents (begun_piece e k (rows_of rows k)) (value_at table k)

-- an open channel was removed from its place, or begun where it had no rows; it is listed
pub record IsOutFor {A C : Type 0} (interface_of : C → Interface) (number_of : C → ℕ) (represents : C → GapChannel → Type 0)
    (e : OpenEpoch) (channel : ℕ) (rows : OpenRows) (entry : OpenChannel A C) (table : ChannelTables (OpenChannel A C)) : Type 0 where
  pub represented : OpenFor interface_of number_of represents entry (begun_piece e channel (rows_of rows channel))
  pub others : (k : ℕ) → k ≢ channel → OpenChannelFor interface_of number_of represents (begun_piece e k (rows_of rows k)) (value_at table k)
  pub channels : table.channels ≡ with_channel (rows_of rows channel) channel rows.channels

-- the same three by the members of a machine of one channel
abbrev pub IsOpenFor : {A C : Type 0} → Machine C A → OpenEpoch → (channel : ℕ) → List Item → OpenChannel A C → Type 0
IsOpenFor m e channel items entry = OpenFor m.interface_of m.number_of m.represents entry (begun_piece e channel items)

-- of any rows of an open channel, which with the last gap of all channels can be a piece: the channel and that gap
abbrev pub OfOpenChannel : {A C : Type 0} → Machine C A → (channel gap : ℕ) → OpenChannel A C → (OpenEpoch → List Item → Type 0) → Type 0
OfOpenChannel m channel gap entry Fact = (e : OpenEpoch) (items : List Item) → IsOpenFor m e channel items entry → IsPiece e.interface channel (with_gap gap items) → Fact e (with_gap gap items)

abbrev pub ChannelsRepresent : {A C : Type 0} → Machine C A → OpenEpoch → OpenRows → OpenChannels A C → Type 0
ChannelsRepresent m e rows open_channels = OpenChannelsFor m.interface_of m.number_of m.represents e rows open_channels.table

abbrev pub IsOut : {A C : Type 0} → Machine C A → OpenEpoch → (channel : ℕ) → OpenRows → OpenChannel A C → OpenChannels A C → Type 0
IsOut m e channel rows entry open_channels = IsOutFor m.interface_of m.number_of m.represents e channel rows entry open_channels.table

-- the finding on the next row of a piece
abbrev pub FindsOn : Piece → Item → Option Finding → Type 0
FindsOn p row found = option_to_list found ≡ findings_of (row_events p.interface p.epoch p.channel (channel_so_far p) row)
