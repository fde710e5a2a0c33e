use Rattle.std.proofs.Common.{◌∙◌, ap, sym}
use Rattle.line_model.specs.packets.Classes.{packet_of}
use Rattle.line_model.specs.packets.Says.{packet_or_gap}
use Rattle.live_report.proofs.row_ref.RowRef.packet.Goals as goal

pub returns-in-Some : goal.returns-in-Some
returns-in-Some c = c.gap_packet.ensures ∙ ap (λ g. packet_or_gap g (packet_of c.args.interface.now c.args.self.now.octets)) (sym c.in-Some.is ∙ ap (λ r. r.gap) c.self.view_is)
