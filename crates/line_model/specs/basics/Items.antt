-- What rows say, in two lists: heads, and the octets that are kept one after the other.
use Rattle.std.specs.Prelude.{ℕ, List, [], ◌∷◌, ◌++◌, sum_by, take, drop}
use Rattle.std.specs.List.{flat_map}
use Rattle.line_model.specs.basics.Records.{Item}
use Rattle.line_model.specs.declared.items.Head.{Head}

-- how many octets are kept of the rows, all together
abbrev pub octets_of : List Head → ℕ
octets_of heads = sum_by (λ h. h.kept) heads

-- each row has its octets from where those of the row before end
abbrev pub items_of : List Head → List ℕ → List Item
items_of [] octets = []
items_of (h ∷ hs) octets =
    record { number = h.number; side = h.side; packet = h.packet; length = h.length; octets = take h.kept octets }
    ∷ items_of hs (drop h.kept octets)

-- the rows of all parts, and then of the last one
abbrev pub all_items : List (List Item) → List Item → List Item
all_items parts last = flat_map (λ p. p) parts ++ last
