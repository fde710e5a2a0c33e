-- The pieces of the open epoch come after those that were given out.
use Rattle.std.proofs.Common.{◌≡◌, ◌∙◌, ap, sym, subst, ℕ, List, [], ◌++◌, Result, Ok, Err, None}
use Rattle.std.specs.Prelude.{IfOk}
use Rattle.line_model.specs.declared.interface.Interface.{Interface}
use Rattle.line_model.specs.declared.fault.Fault.{Fault}
use Rattle.line_model.specs.basics.Bounds.{IsPiece}
use Rattle.line_model.specs.basics.Records.{Item, Piece}
use Rattle.line_model.specs.pieces.Plans.{plan}
use Rattle.restart_epochs.specs.Cutting.{Cutting, Represents, given_of, items_out, open_pieces, pieces_out}
use Rattle.restart_epochs.specs.OpenRows.{OpenRows}
use Rattle.restart_epochs.specs.declared.ended_epoch.EndedEpoch.{EndedEpoch}
use Rattle.restart_epochs.proofs.Pushes.{rest_open}

pub all_peeked : {V : Type 0} → (items : V → List Piece) (i : Interface) (rows : List Item) (c : Cutting) → Represents i rows c → (answer : Result V Fault)
    → IfOk answer (λ v. items v ≡ open_pieces c None) → IfOk answer (λ v. given_of i rows ++ items v ≡ plan i rows)
all_peeked items i rows c s (Ok v) h = ap (λ l. given_of i rows ++ l) h ∙ rest_open i rows c s
all_peeked items i rows c s (Err f) h = tt

-- the pieces of the open epoch, by what its cutter says of it
pub epoch_pieces : (c : Cutting) (e : EndedEpoch) (given : ℕ) (rows : OpenRows) → e.interface ≡ c.interface → e.number ≡ c.epoch → e.start ≡ c.start → e.gap ≡ c.gap → e.end ≡ None → given ≡ c.given → rows ≡ c.open_rows
    → pieces_out e.interface e.number e.start e.end (items_out e.gap rows) given rows.channels ≡ open_pieces c None
epoch_pieces c e given rows interface number start gap end first same = λ j. pieces_out (interface j) (number j) (start j) (end j) (items_out (gap j) (same j)) (first j) (same j).channels

-- they were appended to a list without any
pub all_out : (c : Cutting) (e : EndedEpoch) (given : ℕ) (rows : OpenRows) (before after : List Piece) → e.interface ≡ c.interface → e.number ≡ c.epoch → e.start ≡ c.start → e.gap ≡ c.gap → e.end ≡ None → given ≡ c.given → rows ≡ c.open_rows
    → before ≡ [] → after ≡ before ++ pieces_out e.interface e.number e.start e.end (items_out e.gap rows) given rows.channels → after ≡ open_pieces c None
all_out c e given rows before after interface number start gap end first same none all =
    all ∙ ap (λ l. l ++ pieces_out e.interface e.number e.start e.end (items_out e.gap rows) given rows.channels) none ∙ epoch_pieces c e given rows interface number start gap end first same

pub open_piece : (c : Cutting) (e : EndedEpoch) (rows : OpenRows) (k : ℕ) → e.interface ≡ c.interface → e.gap ≡ c.gap → rows ≡ c.open_rows → IsPiece c.interface k (items_out c.gap c.open_rows k) → IsPiece e.interface k (items_out e.gap rows k)
open_piece c e rows k interface gap same h = subst (λ (i : Interface). IsPiece i k (items_out e.gap rows k)) (sym interface) (subst (IsPiece c.interface k) (sym (λ j. items_out (gap j) (same j) k)) h)
