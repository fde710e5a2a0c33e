-- What a packet has in addition to its class and its length (X.25 clause 5).
use Rattle.std.specs.Prelude.{Bool, true, false, ◌≡◌}
use Rattle.line_model.specs.declared.interface.Interface.{Interface}
use Rattle.line_model.specs.declared.packet.Class.{Class}
use Rattle.line_model.specs.declared.packet.Class as class
use Rattle.line_model.specs.basics.Records.{Item}
use Rattle.line_model.specs.packets.Classes.{packet_class}
use Rattle.line_model.specs.packets.Facilities.{fields_of}
use Rattle.packet_decode.specs.Shown.{shown, IsUsable}
use Rattle.channel_machine.specs.declared.format.Contents.{Contents}
use Rattle.channel_machine.specs.declared.format.Contents.TheVariants.{Call, Accepted, Other}

-- whether a packet is one of a call
abbrev pub is_call : Class → Bool
is_call class.TheVariants.Call = true
is_call class.TheVariants.Accepted = true
is_call _ = false

-- these are the contents of what a row says
abbrev pub AreOf : Contents → Item → Type 0
AreOf (Call f) r = (packet_class r.packet ≡ class.TheVariants.Call) × (shown f ≡ fields_of r.octets)
AreOf (Accepted f) r = (packet_class r.packet ≡ class.TheVariants.Accepted) × (shown f ≡ fields_of r.octets)
AreOf Other r = is_call (packet_class r.packet) ≡ false

-- sizes and windows that can be in force
abbrev pub AreUsable : Contents → Interface → Type 0
AreUsable (Call f) i = IsUsable i f
AreUsable (Accepted f) i = IsUsable i f
AreUsable Other i = Unit {0}
