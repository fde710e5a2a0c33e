-- What a block's cutter has read, and what a block has.
use Rattle.std.specs.Prelude.{◌≡◌, ℕ, List}
use Rattle.line_model.specs.basics.Records.{Item}
use Rattle.line_model.specs.channels.GapRestart.{GapInterfaceState}
use Rattle.restart_epochs.specs.BlockCuts.{BlockRows, HasCut, IsCutApart, parts_of, rows_on}
use Rattle.restart_epochs.specs.Cutting.{gap_by_effect}
use Rattle.restart_epochs.specs.OpenRows.{OpenRows, rows_of}
use Rattle.restart_epochs.specs.declared.block_cut.BlockCut.{BlockCut}
use Rattle.restart_epochs.specs.declared.block_cut.BlockCutter.{BlockCutter}
use Rattle.restart_epochs.specs.declared.walk.ChannelEffect.{ChannelEffect}

-- a block's cutter has read these rows after a restart machine
abbrev pub IsCutSoFar : {A : Type 0} → GapInterfaceState → List Item → BlockCutter A → Type 0
IsCutSoFar l items s = IsCutApart l items (record {
  level = s.walk.machine;
  epoch = s.walk.epoch;
  start = s.walk.start;
  packets = s.walk.packets;
  gaps = s.walk.gaps;
  last = s.last;
  octets = s.octets;
  findings = s.walk.findings.items;
  ended = s.ended.items;
  gap = s.gap;
  rows = s.rows;
})

-- the rows of a block; those of its open epoch are in a table
abbrev pub block_rows : {A : Type 0} → BlockCut A → OpenRows → BlockRows
block_rows b rows = record {
  level = b.walk.machine;
  epoch = b.walk.epoch;
  start = b.walk.start;
  packets = b.walk.packets;
  gaps = b.walk.gaps;
  last = b.last;
  octets = b.octets;
  findings = b.walk.findings.items;
  ended = b.ended.items;
  gap = b.gap;
  rows = rows;
}

-- a block has these rows, cut after a restart machine
pub record IsBlockCut {A : Type 0} (l : GapInterfaceState) (items : List Item) (b : BlockCut A) : Type 0 where
  pub rows : OpenRows
  pub parts : b.tail.items ≡ parts_of (rows_of rows) rows.channels
  pub tail : (k : ℕ) → rows_on k b.tail.items ≡ rows_of rows k
  pub cut : IsCutApart l items (block_rows b rows)

-- what a row did to a block's cutter, except for what it counts
abbrev pub HasBlockEffect : {A : Type 0} → ChannelEffect → Item → (before after : BlockCutter A) → Type 0
HasBlockEffect effect item before after =
    (after.walk ≡ before.walk) × (after.gap ≡ gap_by_effect effect item before.gap)
    × HasCut effect item before.walk.epoch before.walk.start before.gap before.ended.items after.ended.items before.rows after.rows
