-- A trace that is cut into pieces, row by row (profile).
use Rattle.std.specs.Prelude.{◌≡◌, ◌≢◌, ◌⊎◌, ℕ, Bool, true, false, ◌&&◌, not, ◌+◌, ◌<◌, ◌≤◌, ◌^◌, ◌==◌, if◌then◌else◌, List, [], ◌∷◌, ◌++◌, length, filter, is_some, All, Option, Some, None, option_to_list}
use Rattle.line_model.specs.declared.interface.Interface.{Interface}
use Rattle.line_model.specs.declared.finding.Finding.{Finding}
use Rattle.line_model.specs.basics.Records.{Item, Piece}
use Rattle.line_model.specs.declared.gap.EpochStart.{EpochStart}
use Rattle.line_model.specs.declared.piece.PieceEnd.{PieceEnd}
use Rattle.line_model.specs.channels.GapRestart.{GapInterfaceState, is_gap_of_all, is_ready, start_by}
use Rattle.line_model.specs.channels.Gaps.{GapChannel}
use Rattle.line_model.specs.observer.Machine.{Observer, walk}
use Rattle.line_model.specs.pieces.Pieces.{Placed, placed, piece_rows, piece_end, step_rows}
use Rattle.line_model.specs.pieces.Plan.{has_some}
use Rattle.std.specs.List.{range_with_len, AllByRecursion}
use Rattle.line_model.specs.observer.Observer.{x25, start}
use Rattle.line_model.specs.observer.Report.{gaps_of}
use Rattle.line_model.specs.pieces.Plans.{plan, level_findings, single_gaps}
use Rattle.line_model.specs.basics.Bounds.{AreSaid, IsItem, all_octets}
use Rattle.restart_epochs.specs.OpenRows.{OpenRows, begins_with_row, last_number, no_rows, rows_of, with_gap, IsSame, HasMore}
use Rattle.restart_epochs.specs.Walks.{start_after}
use Rattle.restart_epochs.specs.declared.walk.Step.{Step}
use Rattle.restart_epochs.specs.declared.walk.ChannelEffect.{ChannelEffect}
use Rattle.restart_epochs.specs.declared.walk.ChannelEffect.TheVariants.{ToChannel, ToAll, Ends}

-- the observer of an interface after some rows
abbrev pub observer : Interface → List Item → Observer GapInterfaceState GapChannel
observer i rs = walk (x25 i) (start i) rs

-- the rows with their epochs and channels
abbrev pub places : Interface → List Item → List (Placed Item)
places i rs = placed (x25 i) (start i) rs

-- the pieces whose epoch a row has left: they are complete
abbrev pub given_of : Interface → List Item → List Piece
given_of i rs = filter (λ p. is_some p.end) (plan i rs)

-- what a cutter keeps: the restart machine, the epoch and how it began, how many pieces there were, how many rows, and
-- how many of them gaps, the number of the last row, all octets, the findings of the restart machine, and of the open epoch
-- the number of the last gap of all channels, or 0, and the rows
pub record Cutting : Type 0 where
  pub interface : Interface
  pub level : GapInterfaceState
  pub epoch : ℕ
  pub start : EpochStart
  pub given : ℕ
  pub packets : ℕ
  pub gaps : ℕ
  pub last : ℕ
  pub octets : ℕ
  pub findings : List Finding
  pub gap : ℕ
  pub open_rows : OpenRows

-- what a cutter keeps before the first row
abbrev pub no_cutting : Interface → Cutting
no_cutting i = record {
  interface = i;
  level = (start i).level;
  epoch = 1;
  start = start_by (start i).level;
  given = 0;
  packets = 0;
  gaps = 0;
  last = 0;
  octets = 0;
  findings = [];
  gap = 0;
  open_rows = no_rows;
}

-- at most these rows of a channel, each with a gap of all channels before it, up to the last one
pub record IsChannelRows (i : Interface) (k packets octets last : ℕ) (items : List Item) : Type 0 where
  pub few_rows : length items ≤ packets + packets
  pub few_octets : all_octets items ≤ octets
  pub up_to : last_number items ≤ last
  pub packets_of : All (IsItem i k) items

-- the numbers of a cutter stay within their types
pub record IsCutting (c : Cutting) : Type 0 where
  pub rows : c.packets ≤ c.last
  pub last : c.last ≤ 999999999
  pub octets : c.octets ≤ 2 ^ 31
  pub epochs : c.epoch ≤ c.packets + 1
  pub ids : c.given + length c.open_rows.channels ≤ c.packets
  pub gaps : c.gaps ≤ c.packets
  pub gap : c.gap ≤ c.last
  pub recorded : (c.gap ≡ 0) ⊎ (c.interface.gaps ≡ true)
  pub open_channels : (k : ℕ) → IsChannelRows c.interface k c.packets c.octets c.last (rows_of c.open_rows k)

-- the same rows were pushed
pub record IsUnchanged (before after : Cutting) : Type 0 where
  pub interface : after.interface ≡ before.interface
  pub level : after.level ≡ before.level
  pub epoch : after.epoch ≡ before.epoch
  pub start : after.start ≡ before.start
  pub given : after.given ≡ before.given
  pub packets : after.packets ≡ before.packets
  pub gaps : after.gaps ≡ before.gaps
  pub last : after.last ≡ before.last
  pub octets : after.octets ≡ before.octets
  pub findings : after.findings ≡ before.findings
  pub gap : after.gap ≡ before.gap
  pub open_rows : IsSame before.open_rows after.open_rows

-- each epoch before the last was left, the last one where the interface is not in r1; no row comes after it
pub record EndsOf (ps : List (Placed Item)) (epoch : ℕ) (ready : Bool) : Type 0 where
  pub begun : 1 ≤ epoch
  pub within : AllByRecursion (λ p. p.epoch ≤ epoch) ps
  pub ended : (e : ℕ) → 1 ≤ e → e < epoch → is_some (piece_end e ps) ≡ true
  pub left : ready ≡ false → is_some (piece_end epoch ps) ≡ true
  pub unended : ready ≡ true → piece_end epoch ps ≡ None

-- the channels that have rows in an epoch
abbrev pub channels_in : Interface → List (Placed Item) → ℕ → List ℕ
channels_in i ps e = filter (λ k. has_some (piece_rows e k ps)) (range_with_len 1 i.svc)

-- how an epoch began, or begins with the next row
abbrev pub epoch_start : (epoch : ℕ) → GapInterfaceState → List (Placed Item) → EpochStart
epoch_start e l [] = start_by l
epoch_start e l (p ∷ ps) = if p.epoch == e then p.start else epoch_start e l ps

-- the rows that step a channel up to the last one that is not a gap of all channels; of several gaps with no other row between them the
-- last one
abbrev pub taken_rows : List Item → List Item
taken_rows [] = []
taken_rows (r ∷ rs) = elim (is_gap_of_all r && not (begins_with_row rs)) [ true ↦ taken_rows rs | false ↦ r ∷ taken_rows rs ]

-- the rows of a channel in the last epoch, if it is open, up to the last of its own
abbrev pub rows_if : (ready : Bool) → Interface → List (Placed Item) → (epoch channel : ℕ) → List Item
rows_if true i ps e k = taken_rows (step_rows (x25 i) e k ps)
rows_if false i ps e k = []

-- the same with the last gap of all channels
abbrev pub items_if : (ready : Bool) → Interface → List (Placed Item) → (epoch channel : ℕ) → List Item
items_if true i ps e k = single_gaps (step_rows (x25 i) e k ps)
items_if false i ps e k = []

-- the channels that have rows in the last epoch, if it is open
abbrev pub channels_if : (ready : Bool) → Interface → List (Placed Item) → (epoch : ℕ) → List ℕ
channels_if true i ps e = channels_in i ps e
channels_if false i ps e = []

-- the cutter has read what rows of an interface say
pub record Represents (i : Interface) (rs : List Item) (c : Cutting) : Type 0 where
  pub said : AreSaid i rs
  pub interface : c.interface ≡ i
  pub level : c.level ≡ (observer i rs).level
  pub epoch : c.epoch ≡ (observer i rs).epoch
  pub start : c.start ≡ epoch_start (observer i rs).epoch (observer i rs).level (places i rs)
  pub packets : c.packets ≡ length rs
  pub gaps : c.gaps ≡ gaps_of rs
  pub findings : c.findings ≡ level_findings i rs
  pub given : c.given ≡ length (given_of i rs)
  pub rows : (k : ℕ) → rows_of c.open_rows k ≡ rows_if (is_ready (observer i rs).level) i (places i rs) (observer i rs).epoch k
  pub items : (k : ℕ) → with_gap c.gap (rows_of c.open_rows k) ≡ items_if (is_ready (observer i rs).level) i (places i rs) (observer i rs).epoch k
  pub channels : c.open_rows.channels ≡ channels_if (is_ready (observer i rs).level) i (places i rs) (observer i rs).epoch
  pub epochs : EndsOf (places i rs) (observer i rs).epoch (is_ready (observer i rs).level)

-- of any rows of an interface that the cutter has read
abbrev pub OfCut : Cutting → (Interface → List Item → Type 0) → Type 0
OfCut c Fact = (i : Interface) (rs : List Item) → Represents i rs c → Fact i rs

-- the items of the piece of each channel that has rows: these, and the last gap of all channels
abbrev pub items_out : (gap : ℕ) → OpenRows → ℕ → List Item
items_out gap open_rows k = with_gap gap (rows_of open_rows k)

-- the piece of a channel in an epoch that began so
abbrev pub piece_out : Interface → (epoch : ℕ) → EpochStart → (end : Option PieceEnd) → (id channel : ℕ) → List Item → Piece
piece_out i e start end id k items = record { id = id; interface = i; epoch = e; start = start; channel = k; items = items; end = end }

-- the pieces of an epoch with these channels, from an id on
abbrev pub pieces_out : Interface → (epoch : ℕ) → EpochStart → (end : Option PieceEnd) → (items : ℕ → List Item) → (id : ℕ) → List ℕ → List Piece
pieces_out i e start end items id [] = []
pieces_out i e start end items id (k ∷ ks) = piece_out i e start end id k (items k) ∷ pieces_out i e start end items (id + 1) ks

-- the pieces of the open epoch
abbrev pub open_pieces : Cutting → (end : Option PieceEnd) → List Piece
open_pieces c end = pieces_out c.interface c.epoch c.start end (items_out c.gap c.open_rows) c.given c.open_rows.channels

-- the pieces that a row ends
abbrev pub ended_by : ChannelEffect → Interface → (epoch : ℕ) → EpochStart → PieceEnd → (given gap : ℕ) → OpenRows → List Piece
ended_by Ends i e start end given gap rows = pieces_out i e start (Some end) (items_out gap rows) given rows.channels
ended_by _ i e start end given gap rows = []

-- a row was counted
pub record IsCounted (r : Item) (before after : Cutting) : Type 0 where
  pub interface : after.interface ≡ before.interface
  pub packets : after.packets ≡ before.packets + 1
  pub gaps : after.gaps ≡ before.gaps + gaps_of (r ∷ [])
  pub last : after.last ≡ r.number
  pub octets : after.octets ≡ before.octets + r.length

-- a row was kept on its channel
pub record IsKeptOn (channel : ℕ) (item : Item) (before after : Cutting) : Type 0 where
  pub counted : IsCounted item before after
  pub level : after.level ≡ before.level
  pub epoch : after.epoch ≡ before.epoch
  pub start : after.start ≡ before.start
  pub given : after.given ≡ before.given
  pub findings : after.findings ≡ before.findings
  pub gap : after.gap ≡ before.gap
  pub open_rows : HasMore before.gap channel item before.open_rows after.open_rows

-- a row stepped the restart machine, which did not leave r1; this is the last gap of all channels now
pub record IsStepped (r : Item) (machine : GapInterfaceState) (next_epoch next_gap : ℕ) (found : List Finding) (before after : Cutting) : Type 0 where
  pub counted : IsCounted r before after
  pub level : after.level ≡ machine
  pub epoch : after.epoch ≡ next_epoch
  pub start : after.start ≡ start_after before.epoch before.start next_epoch machine
  pub given : after.given ≡ before.given
  pub findings : after.findings ≡ before.findings ++ found
  pub gap : after.gap ≡ next_gap
  pub open_rows : IsSame before.open_rows after.open_rows

-- no row is left of a channel, or it had none of those that were removed
abbrev pub IsEmptied : OpenRows → OpenRows → Type 0
IsEmptied before after = (k : ℕ) → (rows_of after k ≡ []) ⊎ ((rows_of after k ≡ rows_of before k) × AllByRecursion (λ j. j ≢ k) before.channels)

-- a row ended its epoch, whose pieces were given out
pub record IsLeft (r : Item) (machine : GapInterfaceState) (next_epoch : ℕ) (found : List Finding) (before after : Cutting) : Type 0 where
  pub counted : IsCounted r before after
  pub level : after.level ≡ machine
  pub epoch : after.epoch ≡ next_epoch
  pub start : after.start ≡ start_after before.epoch before.start next_epoch machine
  pub given : after.given ≡ before.given + length before.open_rows.channels
  pub findings : after.findings ≡ before.findings ++ found
  pub gap : after.gap ≡ 0
  pub channels : after.open_rows.channels ≡ []
  pub emptied : IsEmptied before.open_rows after.open_rows

-- what a row did to the rows of the open epoch, where this was the last gap of all channels
abbrev pub HasEffect : ChannelEffect → Item → (gap : ℕ) → (before after : OpenRows) → Type 0
HasEffect (ToChannel channel) item gap before after = HasMore gap channel item before after
HasEffect Ends item gap before after = (after.channels ≡ []) × IsEmptied before after
HasEffect _ item gap before after = IsSame before after

-- the last gap of all channels in the open epoch after a row, or 0
abbrev pub gap_by_effect : ChannelEffect → Item → (gap : ℕ) → ℕ
gap_by_effect ToAll item gap = item.number
gap_by_effect Ends item gap = 0
gap_by_effect _ item gap = gap

-- how many pieces were given out after a row
abbrev pub given_after : ChannelEffect → (given : ℕ) → OpenRows → ℕ
given_after Ends given rows = given + length rows.channels
given_after _ given rows = given

-- the row of a step was read
pub record IsTakenBy (item : Item) (step : Step) (before after : Cutting) : Type 0 where
  pub counted : IsCounted item before after
  pub level : after.level ≡ step.machine
  pub epoch : after.epoch ≡ step.epoch
  pub start : after.start ≡ start_after before.epoch before.start step.epoch step.machine
  pub findings : after.findings ≡ before.findings ++ option_to_list step.finding
  pub given : after.given ≡ given_after step.effect before.given before.open_rows
  pub gap : after.gap ≡ gap_by_effect step.effect item before.gap
  pub open_rows : HasEffect step.effect item before.gap before.open_rows after.open_rows

-- the same pieces were appended to both lists
pub record HasAppended (out out_after known known_after : List Piece) : Type 0 where
  pub more : List Piece
  pub out_has : out_after ≡ out ++ more
  pub known_has : known_after ≡ known ++ more

-- a row was read: of any rows that were read before, the cutter represents them and this one, and the pieces that are
-- complete were appended to those that were
pub record IsTaken (item : Item) (before after : Cutting) (out out_after : List Piece) : Type 0 where
  pub represented : (i : Interface) (rs : List Item) → Represents i rs before → Represents i (rs ++ item ∷ []) after
  pub given : (i : Interface) (rs : List Item) (ps : List Piece) → Represents i rs before → out ≡ ps ++ given_of i rs → out_after ≡ ps ++ given_of i (rs ++ item ∷ [])
  pub appended : (i : Interface) (rs : List Item) → Represents i rs before → HasAppended out out_after (given_of i rs) (given_of i (rs ++ item ∷ []))
  pub counted : IsCounted item before after
