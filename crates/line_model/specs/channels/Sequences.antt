-- Complete packet sequences (X.25 clauses 4.3.4 and 4.3.5, Table 4-1).
use Rattle.std.specs.Prelude.{ℕ, Bool, true, false, not, ◌==◌, ◌&&◌, List, reverse, take_while, flat_map}
use Rattle.std.specs.List.{list_all}
use Rattle.line_model.specs.declared.state.Side.{Side}
use Rattle.line_model.specs.channels.Channels.{AcceptedData}
use Rattle.line_model.specs.channels.FlowControl.{packets_of}

-- category A: more data follows, no delivery confirmation, and the full size in force
abbrev pub is_category_a : (size : ℕ) → AcceptedData → Bool
is_category_a size h = h.more && not h.delivery && (h.length == size)

-- the packets of a side that begin a sequence which is not complete: those of category A at the end
abbrev pub begun : (size : ℕ) → Side → List AcceptedData → List AcceptedData
begun size x hs = reverse (take_while (is_category_a size) (reverse (packets_of x hs)))

-- equality of two bits
abbrev pub eq_bool : Bool → Bool → Bool
eq_bool true b = b
eq_bool false b = not b

-- whether a packet has the Q bit of the sequence that was begun
abbrev pub is_alike : AcceptedData → List AcceptedData → Bool
is_alike h hs = list_all (λ g. eq_bool g.qualified h.qualified) hs

-- the user data of a sequence
abbrev pub sequence_octets : List AcceptedData → List ℕ
sequence_octets hs = flat_map (λ h. h.octets) hs
