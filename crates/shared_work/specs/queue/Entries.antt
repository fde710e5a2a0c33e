-- The entries of the queue, by their pieces.
use Rattle.std.specs.Prelude.{◌<◌, List, [], ◌∷◌, ◌++◌, Option, Some, None, All, length}
use Rattle.line_model.specs.basics.Records.{Piece}
use Rattle.line_model.specs.work.Work.{WorkEntry}
use Rattle.line_model.specs.work.Work.WorkEntry.{job, finish}

-- each of the pieces is to be run
abbrev pub jobs : List Piece → List WorkEntry
jobs [] = []
jobs (p ∷ ps) = job p ∷ jobs ps

-- an entry of the queue: the pieces of a bundle, or an end
abbrev pub entry_of : Option (List Piece) → List WorkEntry
entry_of (Some ps) = jobs ps
entry_of None = finish ∷ []

-- the entries of the queue as one line of pieces and ends
abbrev pub line_of : List (List WorkEntry) → List WorkEntry
line_of [] = []
line_of (x ∷ xs) = x ++ line_of xs

-- no entry is empty
abbrev pub AreFilled : List (List WorkEntry) → Type 0
AreFilled items = All (λ x. 0 < length x) items

-- the pieces of a line
abbrev pub pieces_in : List WorkEntry → List Piece
pieces_in [] = []
pieces_in (job p ∷ xs) = p ∷ pieces_in xs
pieces_in (finish ∷ xs) = pieces_in xs
