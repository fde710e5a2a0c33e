use Rattle.std.proofs.Common.{◌∙◌, ap, sym, None}
use Rattle.std.specs.Result.{result_err}
use Rattle.line_model.specs.basics.Records.{Item}
use Rattle.line_model.specs.packets.Classes.{packet_class}
use Rattle.line_model.specs.packets.Formats.{direction_fault, format_fault, or_other}
use Rattle.channel_machine.proofs.FirstFault.{first_fault_is}
use Rattle.channel_machine.proofs.channel.StatusChannel.read.Goals as goal

pub returns-in-None-clause-fault : goal.returns-in-None-clause-fault
returns-in-None-clause-fault g c k s =
    let old = c.args.self.now in
    let i = old.terms.interface in
    let side = ap (λ (x : Item). x.side) c.item.view_is in
    first_fault_is i old.channel k c.args.item.now c.class-class.result None (result_err c.read_format.result)
    (c.class-class.ensures ∙ ap (λ (x : Item). packet_class x.packet) c.item.view_is)
    (sym c.in-None.is ∙ c.direction_fault.ensures ∙ ap (λ x. direction_fault i old.channel x c.class-class.result) side)
    (c.read_format.ensures.fault k s)

pub returns-in-Some-clause-fault : goal.returns-in-Some-clause-fault
returns-in-Some-clause-fault g c k s =
    let old = c.args.self.now in
    let i = old.terms.interface in
    let r : Item = c.args.item.now in
    let side = ap (λ (x : Item). x.side) c.item.view_is in
    let class = c.class-class.ensures ∙ ap (λ (x : Item). packet_class x.packet) c.item.view_is in
    ap (λ o. or_other o (format_fault i k r.side (packet_class r.packet) r.length r.octets))
    (sym c.in-Some.is ∙ c.direction_fault.ensures ∙ (λ j. direction_fault i old.channel (side j) (class j)))
