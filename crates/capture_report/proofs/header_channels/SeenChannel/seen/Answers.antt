use Rattle.std.proofs.Common.{◌∙◌, ap, subst, sym}
use Rattle.line_model.specs.packets.Classes.{kind_class}
use Rattle.packet_decode.specs.CallFaults.{IsCallPacket}
use Rattle.capture_report.proofs.header_channels.SeenChannel.seen.Goals as goal

pub agreed-requires : goal.agreed-requires
agreed-requires c = subst IsCallPacket (sym (c.requires ∙ ap kind_class c.in-Call.is)) tt

pub agreed-requires-in-Accepted : goal.agreed-requires-in-Accepted
agreed-requires-in-Accepted c = subst IsCallPacket (sym (c.requires ∙ ap kind_class c.in-Accepted.is)) tt
