-- What a witness knows of reports.
use Rattle.std.specs.Prelude.{◌≡◌, ℕ, List, [], Some, slice_get}
use Rattle.line_model.specs.basics.Records.{Piece, PieceReport}
use Rattle.line_model.specs.pieces.Plans.{result_of}
use Rattle.shared_work.specs.queue.Passes.{QueueId}

-- a name that represents no queue
abbrev pub no_queue : QueueId
no_queue = record { words = 0; slots = 0; views_name = 0; atom = 0; block = 0; offset = 0; slot_names = [] }

-- the piece is among these
abbrev pub HasPiece : List Piece → Piece → Type 0
HasPiece pieces p = (k : ℕ) × (slice_get pieces k ≡ Some p)

-- the report is the value of one of these pieces
abbrev pub IsValueOfOne : List Piece → PieceReport → Type 0
IsValueOfOne pieces r = (p : Piece) × HasPiece pieces p × (r ≡ result_of p)

-- the report is the value of one of these pieces, which was run in this way
abbrev pub IsRunOfOne : (ran : Piece → PieceReport → Type 0) → List Piece → PieceReport → Type 0
IsRunOfOne ran pieces r = (p : Piece) × HasPiece pieces p × (r ≡ result_of p) × ran p r
