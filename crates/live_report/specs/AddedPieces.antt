-- The results of the pieces of the open epoch, gathered after those of the pieces before them.
use Rattle.std.specs.Prelude.{◌≡◌, ℕ, ◌++◌, List, Option, Result, OnOk, length, map}
use Rattle.line_model.specs.basics.Bounds.{IsPiece}
use Rattle.line_model.specs.basics.Records.{Piece, PieceReport}
use Rattle.line_model.specs.declared.piece.PieceEnd.{PieceEnd}
use Rattle.line_model.specs.pieces.Plans.{result_of}
use Rattle.channel_run.specs.declared.run.Channel.{Ghosts as Machine}
use Rattle.restart_epochs.specs.Cutting.{items_out, pieces_out}
use Rattle.restart_epochs.specs.ChannelTables.{IsEmpty}
use Rattle.restart_epochs.specs.OpenRows.{OpenRows, IsListing}
use Rattle.report_merge.specs.Gathered.{Gathered, gathered}
use Rattle.live_report.specs.OpenChannels.{ChannelsRepresent, OpenEpoch}
use Rattle.live_report.specs.declared.open_channels.OpenChannels.{OpenChannels}

-- the rows of each channel, with a gap of all channels after the last of them, can be a piece
abbrev pub ArePieces : OpenEpoch → (gap : ℕ) → OpenRows → Type 0
ArePieces e gap rows = (k : ℕ) → IsPiece e.interface k (items_out gap rows k)

-- the pieces of an epoch whose last gap of all channels has this number, from an id on
abbrev pub pieces_of : OpenEpoch → (gap : ℕ) → (end : Option PieceEnd) → OpenRows → (id : ℕ) → List ℕ → List Piece
pieces_of e gap end rows id ks = pieces_out e.interface e.number e.start end (items_out gap rows) id ks

-- open channels represent the rows of some epoch, after which some reports were gathered
abbrev pub MayAddPieces : {A C : Type 0} → Machine C A → OpenChannels A C → Gathered → Type 0
MayAddPieces m open_channels parts =
    (e : OpenEpoch) × (rows : OpenRows) × (first : List PieceReport) × ChannelsRepresent m e rows open_channels × ArePieces e open_channels.gap rows × IsListing rows × (parts ≡ gathered first)

-- of any such epoch and reports: the values of its pieces, with this end, were gathered after them
abbrev pub AddsPieces : {A C T E : Type 0} → Machine C A → (end : Option PieceEnd) → OpenChannels A C → (before after : Gathered) → Result T E → Type 0
AddsPieces m end open_channels before after result =
    (e : OpenEpoch) (rows : OpenRows) (first : List PieceReport) → ChannelsRepresent m e rows open_channels → ArePieces e open_channels.gap rows → IsListing rows → before ≡ gathered first
    → OnOk result (after ≡ gathered (first ++ map result_of (pieces_of e open_channels.gap end rows (length first) rows.channels)))

-- of any such epoch: no channel of it is left
abbrev pub EmptiesOpenChannels : {A C T E : Type 0} → Machine C A → (before after : OpenChannels A C) → Result T E → Type 0
EmptiesOpenChannels m before after result = (e : OpenEpoch) (rows : OpenRows) → ChannelsRepresent m e rows before → ArePieces e before.gap rows → IsListing rows → OnOk result (IsEmpty after.table × (after.gap ≡ 0))
