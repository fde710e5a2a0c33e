-- Rows that are cut by epoch and logical channel apart from the rows before them.
use Rattle.std.specs.Prelude.{◌≡◌, ◌≢◌, ◌⊎◌, ℕ, ◌+◌, ◌<◌, ◌≤◌, ◌^◌, ◌==◌, true, cond, List, [], ◌∷◌, ◌++◌, length, map, filter, All, Option, Some}
use Rattle.std.specs.List.{range_with_len}
use Rattle.std.specs.List.Sorted.{IsStrictlyIncreasing}
use Rattle.line_model.specs.basics.Bounds.{AreSaid, IsPiece, IsSaid, all_octets}
use Rattle.line_model.specs.basics.Records.{Item, Piece}
use Rattle.line_model.specs.declared.gap.EpochStart.{EpochStart}
use Rattle.line_model.specs.declared.piece.PieceEnd.{PieceEnd}
use Rattle.line_model.specs.pieces.Plans.{end_at}
use Rattle.line_model.specs.channels.GapRestart.{GapInterfaceState}
use Rattle.line_model.specs.declared.finding.Finding.{Finding}
use Rattle.line_model.specs.declared.interface.Interface.{Interface}
use Rattle.line_model.specs.pieces.Plan.{has_some}
use Rattle.line_model.specs.text.Text.{last_or}
use Rattle.restart_epochs.specs.Cutting.{Cutting, HasAppended, IsCutting, Represents, given_of, piece_out, pieces_out}
use Rattle.restart_epochs.specs.Walks.{start_joined}
use Rattle.restart_epochs.specs.ChannelTables.{open_channel_at}
use Rattle.restart_epochs.specs.OpenRows.{OpenRows, last_number, no_rows, rows_in, rows_of, with_channel, with_gap, with_part, HasMore, HasNoOthers, IsSame}
use Rattle.restart_epochs.specs.declared.walk.ChannelEffect.{ChannelEffect}
use Rattle.restart_epochs.specs.declared.walk.ChannelEffect.TheVariants.{ToChannel, Ends}

-- rows of a channel
pub record ChannelRows : Type 0 where
  pub channel : ℕ
  pub items : List Item

-- the rows of an epoch of a block by channel, the number of the last gap of all channels, or 0, how many epochs began before in the block,
-- how this one began, if it began in the block, and the row that ended it
pub record EpochRows : Type 0 where
  pub parts : List ChannelRows
  pub gap : ℕ
  pub epoch : ℕ
  pub start : EpochStart
  pub end : PieceEnd

-- the rows of a channel in all parts
abbrev pub rows_on : ℕ → List ChannelRows → List Item
rows_on k [] = []
rows_on k (p ∷ ps) = cond (p.channel == k) (p.items ++ rows_on k ps) (rows_on k ps)

-- the rows of each channel that is listed, as a part
abbrev pub parts_of : (ℕ → List Item) → List ℕ → List ChannelRows
parts_of rows channels = map (λ k. record { channel = k; items = rows k }) channels

-- the rows of a channel, and those that parts have of it; before these this was the last gap of all channels
abbrev pub with_parts : (gap : ℕ) → OpenRows → List ChannelRows → ℕ → List Item
with_parts gap o parts k = with_part gap (rows_of o k) (rows_on k parts)

-- the last gap of all channels, of those in some rows and in later ones
abbrev pub gap_joined : (gap later : ℕ) → ℕ
gap_joined gap later = cond (later == 0) gap later

-- the channels up to a number that have rows
abbrev pub listed : ℕ → (ℕ → List Item) → List ℕ
listed n rows = filter (λ k. has_some (rows k)) (range_with_len 1 n)

-- ---- the cutter with the rows of a block

-- the rows of a block as they were cut: the restart machine after them, how many epochs began in it and how the last of them
-- did, how many rows there are and how many of them are gaps, the number of the last, their octets, the findings of the restart
-- machine, the epochs that ended, and of the epoch that is open the last gap of all channels and the rows
pub record BlockRows : Type 0 where
  pub level : GapInterfaceState
  pub epoch : ℕ
  pub start : EpochStart
  pub packets : ℕ
  pub gaps : ℕ
  pub last : ℕ
  pub octets : ℕ
  pub findings : List Finding
  pub ended : List EpochRows
  pub gap : ℕ
  pub rows : OpenRows

-- the rows of a channel in both tables, and the last gap of all channels between them
abbrev pub open_channels_both : (gap : ℕ) → List (Option (List Item)) → List (Option (List Item)) → List (Option (List Item))
open_channels_both gap open_channels [] = open_channels
open_channels_both gap [] (b ∷ others) = Some (with_part gap [] (rows_in b)) ∷ open_channels_both gap [] others
open_channels_both gap (a ∷ open_channels) (b ∷ others) = Some (with_part gap (rows_in a) (rows_in b)) ∷ open_channels_both gap open_channels others

-- the rows of each channel in both tables, of up to `n` channels
abbrev pub both : ℕ → (gap : ℕ) → OpenRows → OpenRows → OpenRows
both n gap a b = record { open_channels = open_channels_both gap a.open_channels b.open_channels; channels = listed n (λ k. rows_in (open_channel_at (open_channels_both gap a.open_channels b.open_channels) k)) }

-- the rows that are open once these epochs have ended
abbrev pub rows_after : OpenRows → List EpochRows → OpenRows
rows_after o [] = o
rows_after o (e ∷ es) = no_rows

-- the last gap of all channels in the epoch that is open then
abbrev pub gap_left : (gap : ℕ) → List EpochRows → ℕ
gap_left gap [] = gap
gap_left gap (e ∷ es) = 0

-- the items of the pieces of an epoch that ends, where these rows were open
abbrev pub items_ended : (gap : ℕ) → OpenRows → EpochRows → ℕ → List Item
items_ended gap o e k = with_gap (gap_joined gap e.gap) (with_parts gap o e.parts k)

-- the pieces of an epoch that ends, where these rows were open; the block begins in an epoch that began so
abbrev pub pieces_at : Interface → (epoch : ℕ) → EpochStart → (given gap : ℕ) → OpenRows → EpochRows → List Piece
pieces_at i epoch start given gap o e =
    pieces_out i (epoch + e.epoch) (start_joined e.epoch start e.start) (Some e.end) (items_ended gap o e) given (listed i.svc (with_parts gap o e.parts))

-- the pieces of epochs that end one after the other
abbrev pub pieces_of : Interface → (epoch : ℕ) → EpochStart → (given gap : ℕ) → OpenRows → List EpochRows → List Piece
pieces_of i epoch start given gap o [] = []
pieces_of i epoch start given gap o (e ∷ es) =
    pieces_at i epoch start given gap o e ++ pieces_of i epoch start (given + length (listed i.svc (with_parts gap o e.parts))) 0 no_rows es

-- the pieces that are complete with the rows of a block
abbrev pub pieces_ended : Cutting → BlockRows → List Piece
pieces_ended c b = pieces_of c.interface c.epoch c.start c.given c.gap c.open_rows b.ended

-- a cutter with the rows of a block
abbrev pub joined : Cutting → BlockRows → Cutting
joined c b = record {
  interface = c.interface;
  level = b.level;
  epoch = c.epoch + b.epoch;
  start = start_joined b.epoch c.start b.start;
  given = c.given + length (pieces_ended c b);
  packets = c.packets + b.packets;
  gaps = c.gaps + b.gaps;
  last = cond (b.packets == 0) c.last b.last;
  octets = c.octets + b.octets;
  findings = c.findings ++ b.findings;
  gap = gap_joined (gap_left c.gap b.ended) b.gap;
  open_rows = both c.interface.svc (gap_left c.gap b.ended) (rows_after c.open_rows b.ended) b.rows;
}

-- ---- rows that a cutter may read

-- one after the other
pub record MayCome (c : Cutting) (items : List Item) : Type 0 where
  pub rising : IsStrictlyIncreasing (c.last ∷ map (λ it. it.number) items)
  pub numbers : All (λ it. it.number ≤ 999999999) items
  pub octets : c.octets + all_octets items ≤ 2 ^ 31
  pub said : AreSaid c.interface items

-- the same, row by row
abbrev pub Comes : Interface → (last octets : ℕ) → List Item → Type 0
Comes i last octets [] = octets ≤ 2 ^ 31
Comes i last octets (item ∷ items) = (last < item.number) × (item.number ≤ 999999999) × IsSaid i item × Comes i item.number (octets + item.length) items

-- the rows of an epoch of a block can be pieces, where these were open
pub record FitsEpoch (i : Interface) (epoch gap : ℕ) (o : OpenRows) (e : EpochRows) : Type 0 where
  pub epochs : epoch + e.epoch < 2 ^ 32
  pub pieces : (k : ℕ) → IsPiece i k (items_ended gap o e k)
  pub channels : (k : ℕ) → has_some (rows_on k e.parts) ≡ true → (1 ≤ k) × (k ≤ i.svc)
  pub parts : e.parts ≡ parts_of (λ k. rows_on k e.parts) (listed i.svc (λ k. rows_on k e.parts))

-- the rows of all epochs that ended can be pieces
abbrev pub AreFit : Interface → (epoch gap : ℕ) → OpenRows → List EpochRows → Type 0
AreFit i epoch gap o [] = Unit {0}
AreFit i epoch gap o (e ∷ es) = FitsEpoch i epoch gap o e × AreFit i epoch 0 no_rows es

-- the rows of the open epoch of a block and its last gap of all channels come after a row of this number
pub record IsBehind (last : ℕ) (b : BlockRows) : Type 0 where
  pub gap : (b.gap ≡ 0) ⊎ (last < b.gap)
  pub rows : (k : ℕ) → (rows_of b.rows k ≡ []) ⊎ (last < last_number (rows_of b.rows k))

-- a cutter that has read some rows, with the rows of a block, has read both, and the pieces that are complete with
-- them are those of the block
pub record IsJoined (i : Interface) (rs : List Item) (c : Cutting) (items : List Item) (b : BlockRows) : Type 0 where
  pub represented : Represents i (rs ++ items) (joined c b)
  pub bounds : IsCutting (joined c b)
  pub given : given_of i (rs ++ items) ≡ given_of i rs ++ pieces_ended c b
  pub last : (joined c b).last ≡ last_or c.last (map (λ it. it.number) items)
  pub octets : (joined c b).octets ≡ c.octets + all_octets items
  pub listed : b.rows.channels ≡ listed c.interface.svc (rows_of b.rows)
  pub fit : AreFit c.interface c.epoch c.gap c.open_rows b.ended
  pub behind : IsBehind c.last b

-- rows were cut after a restart machine: wherever they come after the rows of a cutter with this machine, the cutter with the rows of the
-- block has read them too
abbrev pub IsCutApart : GapInterfaceState → List Item → BlockRows → Type 0
IsCutApart l items b = (i : Interface) (rs : List Item) (c : Cutting) → Represents i rs c → IsCutting c → c.level ≡ l → Comes c.interface c.last c.octets items → IsJoined i rs c items b

-- all rows were removed, and their parts have each of them
pub record AreAllOut (before after : OpenRows) : Type 0 where
  pub parts : (k : ℕ) → rows_on k (parts_of (rows_of before) before.channels) ≡ rows_of before k
  pub none : (k : ℕ) → rows_of after k ≡ []
  pub channels : after.channels ≡ []

-- the epoch of a block that a row ends
abbrev pub epoch_ended : Item → (epoch : ℕ) → EpochStart → (gap : ℕ) → OpenRows → EpochRows
epoch_ended item epoch start gap rows = record { parts = parts_of (rows_of rows) rows.channels; gap = gap; epoch = epoch; start = start; end = end_at item }

-- what a row did to the rows of a block, in an epoch that began so with this last gap of all channels
abbrev pub HasCut : ChannelEffect → Item → (epoch : ℕ) → EpochStart → (gap : ℕ) → (ended ended_after : List EpochRows) → (before after : OpenRows) → Type 0
HasCut (ToChannel channel) item epoch start gap ended ended_after before after = (ended_after ≡ ended) × HasMore gap channel item before after
HasCut Ends item epoch start gap ended ended_after before after = (ended_after ≡ ended ++ epoch_ended item epoch start gap before ∷ []) × AreAllOut before after
HasCut _ item epoch start gap ended ended_after before after = (ended_after ≡ ended) × (after ≡ before)

-- ---- what a cutter read

-- a cutter read these rows: of any rows that it read before, it represents them and these, and the pieces that are complete were
-- appended
pub record HasTakenAll (items : List Item) (before after : Cutting) (out out_after : List Piece) : Type 0 where
  pub interface : after.interface ≡ before.interface
  pub last : after.last ≡ last_or before.last (map (λ it. it.number) items)
  pub octets : after.octets ≡ before.octets + all_octets items
  pub represented : (i : Interface) (rs : List Item) → Represents i rs before → Represents i (rs ++ items) after
  pub appended : (i : Interface) (rs : List Item) → Represents i rs before → HasAppended out out_after (given_of i rs) (given_of i (rs ++ items))

-- a channel that gets rows is among the channels
abbrev pub with_rows : (added : List Item) → (was : List Item) → ℕ → List ℕ → List ℕ
with_rows [] was k channels = channels
with_rows (item ∷ items) was k channels = with_channel was k channels

-- a channel that had no rows has these
pub record HasFirst (channel : ℕ) (items : List Item) (before after : OpenRows) : Type 0 where
  pub rows : rows_of after channel ≡ items
  pub others : (k : ℕ) → k ≢ channel → rows_of after k ≡ rows_of before k
  pub channels : after.channels ≡ with_rows items [] channel before.channels

-- a channel has these rows more, after the last gap of all channels
pub record HasAll (gap channel : ℕ) (items : List Item) (before after : OpenRows) : Type 0 where
  pub rows : rows_of after channel ≡ with_part gap (rows_of before channel) items
  pub others : (k : ℕ) → k ≢ channel → rows_of after k ≡ rows_of before k
  pub channels : after.channels ≡ with_rows items (rows_of before channel) channel before.channels

-- the rows of parts were added one after the other
abbrev pub AreAdded : (gap : ℕ) → List ChannelRows → OpenRows → OpenRows → Type 0
AreAdded gap [] before after = IsSame before after
AreAdded gap (p ∷ ps) before after = (next : OpenRows) × HasAll gap p.channel p.items before next × AreAdded gap ps next after

-- the pieces of an epoch whose rows are these parts, up to this last gap of all channels
abbrev pub part_pieces : Interface → (epoch : ℕ) → EpochStart → (end : Option PieceEnd) → (gap id : ℕ) → List ChannelRows → List Piece
part_pieces i e start end gap id [] = []
part_pieces i e start end gap id (p ∷ ps) =
    piece_out i e start end id p.channel (with_gap gap p.items) ∷ part_pieces i e start end gap (id + 1) ps

-- the rows of an epoch may be added to these, and its pieces may be given out
pub record MayEnd (i : Interface) (epoch given gap : ℕ) (o : OpenRows) (e : EpochRows) : Type 0 where
  pub channels : o.channels ≡ listed i.svc (rows_of o)
  pub others : HasNoOthers o
  pub ids : given + length (listed i.svc (with_parts gap o e.parts)) < 2 ^ 32
  pub fits : FitsEpoch i epoch gap o e

-- the pieces of an epoch were given out, and no row is left
pub record HasEnded (i : Interface) (epoch : ℕ) (start : EpochStart) (e : EpochRows) (given given_after gap : ℕ) (before after : OpenRows) (out out_after : List Piece) : Type 0 where
  pub count : given_after ≡ given + length (listed i.svc (with_parts gap before e.parts))
  pub pieces : out_after ≡ out ++ pieces_at i epoch start given gap before e
  pub rows : (k : ℕ) → rows_of after k ≡ []
  pub channels : after.channels ≡ []

-- the same of epochs one after the other
pub record MayEndAll (i : Interface) (epoch : ℕ) (start : EpochStart) (given gap : ℕ) (o : OpenRows) (es : List EpochRows) : Type 0 where
  pub channels : o.channels ≡ listed i.svc (rows_of o)
  pub others : HasNoOthers o
  pub ids : given + length (pieces_of i epoch start given gap o es) < 2 ^ 32
  pub fit : AreFit i epoch gap o es

-- the pieces of the epochs were given out
pub record HaveEnded (i : Interface) (epoch : ℕ) (start : EpochStart) (es : List EpochRows) (given given_after gap gap_after : ℕ) (before after : OpenRows) (out out_after : List Piece) : Type 0 where
  pub count : given_after ≡ given + length (pieces_of i epoch start given gap before es)
  pub pieces : out_after ≡ out ++ pieces_of i epoch start given gap before es
  pub left : gap_after ≡ gap_left gap es
  pub rows : (k : ℕ) → rows_of after k ≡ rows_of (rows_after before es) k
  pub channels : after.channels ≡ listed i.svc (rows_of after)
