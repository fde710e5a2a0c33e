-- What rows say, by the packets beside them.
use Rattle.std.proofs.Common.{◌≡◌, refl, ap, sym, ◌∙◌, List, [], ◌∷◌, ◌++◌, map, length}
use Rattle.std.specs.List.{zip}
use Rattle.std.proofs.lemmas.List.{map-append}
use Rattle.line_model.specs.basics.Records.{Row, Item}
use Rattle.line_model.specs.packets.Says.{item_of, items_of, packet_or_gap, said_octets}
use Rattle.line_model.specs.declared.interface.Interface.{Interface}
use Rattle.line_model.specs.declared.packet.Packet.{Packet}
use Rattle.line_model.specs.packets.Classes.{packet_of}

abbrev pub packets : Interface → List Row → List Packet
packets i rs = map (λ r. packet_of i r.octets) rs

abbrev pub said : Interface → List (Row × Packet) → List Item
said i ps = map (λ p. item_of i p.0) ps

pub said-beside : (i : Interface) (rs : List Row) → said i (zip rs (packets i rs)) ≡ items_of i rs
said-beside i [] = refl
said-beside i (r ∷ rs) = ap (λ l. item_of i r ∷ l) (said-beside i rs)

pub said-more : (i : Interface) (ps : List (Row × Packet)) (r : Row) (p : Packet) → said i (ps ++ (r, p) ∷ []) ≡ said i ps ++ item_of i r ∷ []
said-more i ps r p = map-append (λ (q : Row × Packet). item_of i q.0) ps ((r, p) ∷ [])

-- what a row says with the packet that was decoded
pub said_by : (i : Interface) (r : Row) (p : Packet) (item : Item) → item ≡ record { number = r.number; side = r.side; packet = packet_or_gap r.gap p; length = length r.octets; octets = said_octets r.octets }
    → p ≡ packet_of i r.octets → item ≡ item_of i r
said_by i r p item is e = is ∙ ap (λ q. record { number = r.number; side = r.side; packet = packet_or_gap r.gap q; length = length r.octets; octets = said_octets r.octets }) e

first_or : Packet → List Packet → Packet
first_or d [] = d
first_or d (p ∷ ps) = p

rest : List Packet → List Packet
rest [] = []
rest (p ∷ ps) = ps

-- the packet of the row that comes next, and the packets of those after it
pub next_is : (i : Interface) (r : Row) (p : Packet) (rs before : List Row) (ps decoded : List Packet) → decoded ≡ packets i before → before ≡ r ∷ rs → decoded ≡ p ∷ ps
    → (p ≡ packet_of i r.octets) × (ps ≡ packets i rs)
unfolding first_or rest
next_is i r p rs before ps decoded are row packet =
    let both : p ∷ ps ≡ packets i (r ∷ rs) = sym packet ∙ are ∙ ap (packets i) row in
    (ap (first_or p) both, ap rest both)
