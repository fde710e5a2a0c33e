use Rattle.std.proofs.Common.{◌≡◌, ◌∙◌, ap}
use Rattle.line_model.specs.packets.Formats.{was_fast}
use Rattle.packet_decode.specs.CallFaults.{call_packet_fault}
use Rattle.channel_machine.specs.Channels.{Known}
use Rattle.channel_machine.specs.TermsRepresent.{is_fast}
use Rattle.channel_machine.proofs.CallFaults.{call_format, fault_of, is_call_packet}
use Rattle.channel_machine.proofs.InForce.{fast_represents}
use Rattle.channel_machine.proofs.channel.StatusChannel.fields.Goals as goal

pub call_fields-requires : goal.call_fields-requires
call_fields-requires g c =
    let old : Known = c.args.self.now in
    is_call_packet old.terms.interface c.interface.result c.args.item.now _ c.args.class c.requires.said c.requires.class c.requires.call (c.interface.ensures ∙ ap (λ (o : Known). o.terms.interface) c.self.view_is) c.item.view_is

pub returns-clause-fault : goal.returns-clause-fault
returns-clause-fault g c k s =
    let old : Known = c.args.self.now in
    let fast : c.was_fast-fast.result ≡ was_fast k =
    c.was_fast-fast.ensures ∙ ap is_fast c.call.ensures ∙ ap (λ (o : Known). is_fast o.terms.call) c.self.view_is ∙ fast_represents old.terms k s.terms in
    fault_of c.call_fields.result (call_packet_fault c.interface.result c.was_fast-fast.result c.item.inside.octets.now) c.call_fields.ensures.fault
    ∙ call_format old.terms.interface c.interface.result c.args.item.now _ c.args.class k c.was_fast-fast.result c.requires.said c.requires.class c.requires.call
    (c.interface.ensures ∙ ap (λ (o : Known). o.terms.interface) c.self.view_is) c.item.view_is fast
