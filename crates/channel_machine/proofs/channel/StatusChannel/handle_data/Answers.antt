use Rattle.std.proofs.Common.{◌≡◌, ◌∙◌, Some, ap, sym, subst, arith}
use Rattle.std.proofs.lemmas.Grind.{elements}
use Rattle.line_model.specs.channels.ChannelStep.{accepted_of, data_step}
use Rattle.line_model.specs.basics.Records.{Item}
use Rattle.line_model.specs.packets.Says.{header_in}
use Rattle.packet_decode.proofs.SaidPackets.{data_said}
use Rattle.channel_machine.specs.Channels.{Does}
use Rattle.channel_machine.specs.Transfers.{counted_in_force, packet}
use Rattle.channel_machine.proofs.SaidData.{has_q_1, qualified_is}
use Rattle.channel_machine.proofs.Taking.{data_is, accepted_by}
use Rattle.channel_machine.proofs.channel.StatusChannel.handle_data.Goals as goal

pub user_data-user_data-requires-clause-said : goal.user_data-user_data-requires-clause-said
user_data-user_data-requires-clause-said g c =
    data_said c.args.self.now.terms.interface c.args.item.now c.in-Some.header c.requires.said c.requires.class
    (ap (λ (x : Item). header_in x.packet) (sym c.item.view_is) ∙ sym c.data_header.ensures ∙ c.in-Some.is)

pub user_data-user_data-requires-clause-qualified : goal.user_data-user_data-requires-clause-qualified
user_data-user_data-requires-clause-qualified g c =
    has_q_1 _ c.in-Some.header (ap (λ (x : Item). header_in x.packet) (sym c.item.view_is) ∙ sym c.data_header.ensures ∙ c.in-Some.is) c.requires.qualified

pub accept_data-requires : goal.accept_data-requires
accept_data-requires g c =
    let i = c.args.self.now.terms.interface in
    let r : Item = c.args.item.now in
    let h = c.in-Some.header in
    let header : header_in r.packet ≡ Some h = ap (λ (x : Item). header_in x.packet) (sym c.item.view_is) ∙ sym c.data_header.ensures ∙ c.in-Some.is in
    let said = data_said i r h c.requires.said c.requires.class header in
    let same = qualified_is i r h r.side c.user_data-user_data.result.now said (has_q_1 _ h header c.requires.qualified) (λ j. r.side) c.user_data-user_data.ensures in
    record { short = omega (arith, ap (λ p. p.length) same, c.requires.short) }

pub returns-in-None-clause-does : goal.returns-in-None-clause-does
returns-in-None-clause-does g c k s =
    let i = c.args.self.now.terms.interface in
    let r : Item = c.args.item.now in
    let j = c.args.judgement.now in
    let h = c.in-Some.header in
    let ys = c.user_data-user_data.result.now in
    let header : header_in r.packet ≡ Some h = ap (λ (x : Item). header_in x.packet) (sym c.item.view_is) ∙ sym c.data_header.ensures ∙ c.in-Some.is in
    let said = data_said i r h c.requires.said c.requires.class header in
    let step = data_is i j.state r h (packet j.side h ys) j.side k c.requires.side (qualified_is i r h j.side ys said (has_q_1 _ h header c.requires.qualified) c.requires.side c.user_data-user_data.ensures) in
    subst (λ o. Does j.origin c.args.self.now c.accept_data.new.self c.args.events.now.items c.accept_data.new.events.items (data_step i j.state r o k)) (sym header)
    (accepted_by j.origin c.args.self.now c.accept_data.new.self c.args.events.now.items c.accept_data.new.events.items
    j.side j.state (packet j.side h ys) (counted_in_force i j.side h.send h.receive k) k (data_step i j.state r (Some h) k)
    c.in_ok-code.ensures.rest s step _ c.in-None.is (c.in_ok-code.ensures.accepted_data k s))

pub returns-in-Some-2-clause-does : goal.returns-in-Some-2-clause-does
returns-in-Some-2-clause-does g c =
    let i = c.args.self.now.terms.interface in
    let r : Item = c.args.item.now in
    let j = c.args.judgement.now in
    let h = c.in-Some.header in
    let ys = c.user_data-user_data.result.now in
    let header : header_in r.packet ≡ Some h = ap (λ (x : Item). header_in x.packet) (sym c.item.view_is) ∙ sym c.data_header.ensures ∙ c.in-Some.is in
    let said = data_said i r h c.requires.said c.requires.class header in
    let same : packet j.side h ys ≡ accepted_of i r h = qualified_is i r h j.side ys said (has_q_1 _ h header c.requires.qualified) c.requires.side c.user_data-user_data.ensures in
    grind (arith, elements, header, same)
