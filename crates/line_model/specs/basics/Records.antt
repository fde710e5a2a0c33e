-- What contracts see of the types that hold lists, whatever their allocator.
use Rattle.std.specs.Prelude.{ℕ, Bool, List, Option}
use Rattle.line_model.specs.declared.interface.Interface.{Interface}
use Rattle.line_model.specs.declared.state.Side.{Side}
use Rattle.line_model.specs.declared.packet.Packet.{Packet}
use Rattle.line_model.specs.declared.finding.Finding.{Finding}
use Rattle.line_model.specs.declared.gap.EpochStart.{EpochStart}
use Rattle.line_model.specs.declared.piece.PieceEnd.{PieceEnd}
use Rattle.line_model.specs.declared.event.How.{How}
use Rattle.line_model.specs.declared.call.SettingRecord.{SettingRecord}
use Rattle.line_model.specs.declared.call.Account.{Account}
use Rattle.line_model.specs.declared.report.Peak.{Peak}
use Rattle.line_model.specs.declared.totals.Summary.{Summary}

-- a row of a trace: of a packet its octets, or a gap of a channel, or of all, in which packets may not have been recorded
pub record Row : Type 0 where
  pub number : ℕ
  pub side : Side
  pub octets : List ℕ
  pub gap : Option (Option ℕ)

-- what a row says (X.25 clause 5): its packet, its length in octets, and the octets that are kept in addition
pub record Item : Type 0 where
  pub number : ℕ
  pub side : Side
  pub packet : Packet
  pub length : ℕ
  pub octets : List ℕ

-- a row as it is read: of data with Q 0 the first four octets, of all others each octet
pub record ReadRow : Type 0 where
  pub number : ℕ
  pub side : Side
  pub length : ℕ
  pub octets : List ℕ
  pub gap : Option (Option ℕ)

-- the rows of one channel in one epoch with the gaps of all channels among them, how the epoch began, and the row that ended
-- it, if one did
pub record Piece : Type 0 where
  pub id : ℕ
  pub interface : Interface
  pub epoch : ℕ
  pub start : EpochStart
  pub channel : ℕ
  pub items : List Item
  pub end : Option PieceEnd

-- a call, by its `Open` event and the events that belong to it
pub record CallRecord : Type 0 where
  pub epoch : ℕ
  pub channel : ℕ
  pub out : Bool
  pub called : List ℕ
  pub calling : List ℕ
  pub reverse : Bool
  pub up : Option ℕ
  pub opened : ℕ
  pub ended : Option ℕ
  pub how : Option How
  pub data_t : ℕ
  pub oct_t : ℕ
  pub data_n : ℕ
  pub oct_n : ℕ
  pub segments : ℕ
  pub settings : List SettingRecord

-- the result of a piece
pub record PieceReport : Type 0 where
  pub id : ℕ
  pub epoch : ℕ
  pub channel : ℕ
  pub findings : List Finding
  pub calls : List CallRecord
  pub octets : ℕ
  pub segments : ℕ

-- the lists of a report, each in the order of its lines, and how many gaps there are, where gaps are rows
pub record Report : Type 0 where
  pub findings : List Finding
  pub calls : List CallRecord
  pub accounts : List Account
  pub peak : Peak
  pub gaps : Option ℕ
  pub summary : Summary
