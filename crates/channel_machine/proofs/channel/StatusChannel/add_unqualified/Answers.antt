use Rattle.std.proofs.Common.{◌≡◌, refl, sym, ◌∙◌, ap, []}
use Rattle.std.specs.Prelude.{drop}
use Rattle.std.proofs.Math.Seq.{drop-nil}
use Rattle.line_model.specs.basics.Records.{Item}
use Rattle.line_model.specs.packets.Formats.{size_in_force}
use Rattle.line_model.specs.channels.Channels.{AcceptedData}
use Rattle.line_model.specs.channels.ChannelStep.{accepted_of}
use Rattle.line_model.specs.channels.Gaps.{Doubts}
use Rattle.line_model.specs.channels.GapStep.{may_be_category_a}
use Rattle.line_model.specs.packets.Classes.{header_length}
use Rattle.channel_machine.specs.Channels.{Known}
use Rattle.channel_machine.specs.GapChannels.{at_rest}
use Rattle.channel_machine.specs.GapView.{InDoubt}
use Rattle.channel_machine.specs.TermsRepresent.{size_of}
use Rattle.channel_machine.proofs.InForce.{size_represents}
use Rattle.channel_machine.proofs.channel.StatusChannel.add_unqualified.Goals as goal

pub returns-clause-puts : goal.returns-clause-puts
returns-clause-puts g c k hs st continued =
    let r : Item = c.args.item.now in
    let p : Known = c.args.self.now in
    let i = p.terms.interface in
    let h = c.args.header.now in
    let s : InDoubt = c.args.settled.now in
    let q : AcceptedData = accepted_of i r h in
    let x = c.args.side in
    let hidden = c.is_hidden.ensures ∙ ap (λ (d : Doubts). d.hidden) c.doubts.ensures in
    let size : c.size-size.result ≡ size_in_force i k x =
    c.size-size.ensures ∙ ap (λ (o : Known). size_of o.terms.values x) c.self.view_is ∙ size_represents p.terms (at_rest k) x st.terms in
    let octets : q.octets ≡ [] = ap (λ l. drop (header_length i) l) (c.requires.said.silent c.requires.unqualified) ∙ drop-nil (header_length i) in
    record {
      category = c.may_be_category_a-is_category_a.ensures q refl refl (sym c.user_data_length-length.ensures) ∙ (λ j. may_be_category_a (hidden j) (size j) q);
      begun = c.in_ok-put.ensures.continued hs q (record { holds = continued.holds; qualified = c.requires.unqualified; octets = octets; alike = continued.alike });
      apart = c.put.ensures.apart;
      doubts = c.put.ensures.doubts;
    }
