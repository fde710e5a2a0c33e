-- The first fault of a packet on a channel.
use Rattle.std.proofs.Common.{◌≡◌, ℕ, ap, ◌∙◌, Option}
use Rattle.line_model.specs.declared.interface.Interface.{Interface}
use Rattle.line_model.specs.declared.packet.Class.{Class}
use Rattle.line_model.specs.basics.Records.{Item}
use Rattle.line_model.specs.packets.Classes.{packet_class}
use Rattle.line_model.specs.packets.Formats.{format_fault, packet_fault, direction_fault, or_other}
use Rattle.line_model.specs.channels.Channels.{Channel}

-- a fault of the direction is the first, and otherwise one of the format is
pub first_fault_is : (i : Interface) (n : ℕ) (c : Channel) (r : Item) (k : Class) (a b : Option ℕ) → k ≡ packet_class r.packet →
    a ≡ direction_fault i n r.side k → b ≡ format_fault i c r.side k r.length r.octets → or_other a b ≡ packet_fault i n c r
first_fault_is i n c r k a b class d f =
    (λ j. or_other (d j) (f j)) ∙ ap (λ v. or_other (direction_fault i n r.side v) (format_fault i c r.side v r.length r.octets)) class
