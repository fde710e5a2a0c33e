use Rattle.std.proofs.Common.{◌≡◌, ◌∙◌, ap, ap₂, subst, sym, [], ◌∷◌, ◌++◌, option_to_list, ℕ, List}
use Rattle.std.specs.Prelude.{IfOk, OnOk}
use Rattle.line_model.specs.basics.Records.{ReadRow}
use Rattle.line_model.specs.declared.interface.Interface.{Interface}
use Rattle.line_model.specs.declared.packet.Packet.{Packet}
use Rattle.line_model.specs.observer.Report.{report_of}
use Rattle.line_model.specs.packets.Classes.{packet_of}
use Rattle.line_model.specs.packets.Says.{item_read, packet_or_gap, said_octets}
use Rattle.live_report.specs.Observing.{AreItems, HasWalked}
use Rattle.live_report.proofs.observer.Observer.take_row.Goals as goal

says : (i j : Interface) (read row : ReadRow) (packet : Packet) (octets : List ℕ)
    → packet ≡ packet_or_gap row.gap (packet_of j row.octets) → j ≡ i → octets ≡ said_octets read.octets → read ≡ row
    → record { number = read.number; side = read.side; packet = packet; length = read.length; octets = octets } ≡ item_read i row
says i j read row packet octets decoded same said is =
    ap₂ (λ (r : ReadRow) os. record { number = r.number; side = r.side; packet = packet; length = r.length; octets = os }) is (said ∙ ap (λ (r : ReadRow). said_octets r.octets) is)
    ∙ ap (λ p. record { number = row.number; side = row.side; packet = p; length = row.length; octets = said_octets row.octets }) (decoded ∙ ap (λ k. packet_or_gap row.gap (packet_of k row.octets)) same)

pub take_item-requires : goal.take_item-requires
take_item-requires g c =
    let room = c.requires.room in
    let s = room.2 in
    let read : ReadRow = record { number = c.row.inside.number; side = c.row.inside.side; length = c.row.inside.length; octets = c.row.inside.octets.now; gap = c.row.inside.gap } in
    let said = says room.0 c.args.self.now.walk.interface read c.args.row c.packet-packet.result c.said_octets.result.now c.packet-packet.ensures (s.holds.interface ∙ s.cut.interface) c.said_octets.ensures c.row.view_is in
    record { room = (room.0, room.1, s, subst (λ r. AreItems room.0 (room.1 ++ r ∷ [])) (sym said) room.3) }

pub returns-clause-represented : goal.returns-clause-represented
returns-clause-represented g c i rs s sound =
    let read : ReadRow = record { number = c.row.inside.number; side = c.row.inside.side; length = c.row.inside.length; octets = c.row.inside.octets.now; gap = c.row.inside.gap } in
    let said = says i c.args.self.now.walk.interface read c.args.row c.packet-packet.result c.said_octets.result.now c.packet-packet.ensures (s.holds.interface ∙ s.cut.interface) c.said_octets.ensures c.row.view_is in
    subst (λ r. OnOk c.take_item.result (HasWalked g.C.Channel i (rs ++ r ∷ []) c.take_item.new.self)) said
    (c.take_item.ensures.represented i rs s (subst (λ r. AreItems i (rs ++ r ∷ [])) (sym said) sound))

pub returns-clause-finding : goal.returns-clause-finding
returns-clause-finding g c i rs s =
    let read : ReadRow = record { number = c.row.inside.number; side = c.row.inside.side; length = c.row.inside.length; octets = c.row.inside.octets.now; gap = c.row.inside.gap } in
    let said = says i c.args.self.now.walk.interface read c.args.row c.packet-packet.result c.said_octets.result.now c.packet-packet.ensures (s.holds.interface ∙ s.cut.interface) c.said_octets.ensures c.row.view_is in
    subst (λ r. IfOk c.take_item.result (λ found. (report_of i (rs ++ r ∷ [])).findings ≡ (report_of i rs).findings ++ option_to_list found)) said
    (c.take_item.ensures.finding i rs s)
