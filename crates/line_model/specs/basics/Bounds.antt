-- How large the parts of a trace may be.
use Rattle.std.specs.Prelude.{◌≡◌, ◌≤◌, ℕ, ◌+◌, ◌^◌, ◌⊎◌, true, Option, Some, None, IfSome, List, [], length, sum_by, All}
use Rattle.std.specs.List.{AllByRecursion}
use Rattle.line_model.specs.declared.interface.Interface.{Interface}
use Rattle.line_model.specs.declared.state.Side.TheVariants.{T}
use Rattle.line_model.specs.declared.finding.Finding.{Finding}
use Rattle.line_model.specs.basics.Records.{Row, Item, CallRecord}
use Rattle.line_model.specs.packets.Says.{gap_of, item_of, packet_channel}

-- a gap row: where gaps are rows, of a channel of the interface or of all, without a side of its own and without octets
pub record IsGapRow (i : Interface) (row : Row) (gap : Option ℕ) : Type 0 where
  pub recorded : i.gaps ≡ true
  pub within : IfSome gap (λ k. (1 ≤ k) × (k ≤ i.svc))
  pub side : row.side ≡ T
  pub octets : row.octets ≡ []

-- a row of an interface
abbrev pub IsRow : Interface → Row → Type 0
IsRow i row = IfSome row.gap (IsGapRow i row)

-- rows of an interface
abbrev pub AreRows : Interface → List Row → Type 0
AreRows i rows = AllByRecursion (IsRow i) rows

-- what a row of an interface says
pub record IsSaid (i : Interface) (item : Item) : Type 0 where
  pub row : Row
  pub lawful : IsRow i row
  pub says : item ≡ item_of i row

-- what rows of an interface say
abbrev pub AreSaid : Interface → List Item → Type 0
AreSaid i items = AllByRecursion (IsSaid i) items

-- what a row says that steps channel k: one of its own, or a gap of all channels
pub record IsItem (i : Interface) (k : ℕ) (item : Item) : Type 0 where
  pub said : IsSaid i item
  pub channel : (packet_channel item.packet ≡ k) ⊎ (gap_of item.packet ≡ Some None)

-- the octets of some rows, all together
abbrev pub all_octets : List Item → ℕ
all_octets items = sum_by (λ i. i.length) items

-- the rows of a piece of channel k
pub record IsPiece (i : Interface) (k : ℕ) (items : List Item) : Type 0 where
  pub few_rows : length items ≤ 2 ^ 31
  pub few_octets : all_octets items ≤ 2 ^ 31
  pub packets : All (IsItem i k) items

-- the bounds of a piece's result: its calls count no more than its octets and segments
pub record IsPieceReport (findings : List Finding) (calls : List CallRecord) (octets segments : ℕ) : Type 0 where
  pub few_findings : length findings ≤ 2 ^ 31
  pub few_octets : octets ≤ 2 ^ 31
  pub few_segments : segments ≤ 2 ^ 31
  pub call_octets : sum_by (λ c. c.oct_t + c.oct_n) calls ≤ octets
  pub call_segments : sum_by (λ c. c.segments) calls ≤ segments
