use Rattle.std.proofs.Common.{◌≡◌, true, refl, sym, ◌∙◌, ap, subst, List, ℕ, [], ◌∷◌, ◌++◌, None}
use Rattle.std.specs.Prelude.{map}
use Rattle.line_model.specs.channels.Channels.{AcceptedData}
use Rattle.line_model.specs.channels.ChannelStep.{data_reports}
use Rattle.line_model.specs.channels.Sequences.{sequence_octets}
use Rattle.data_transfer.specs.Assembly.{accepted}
use Rattle.data_transfer.specs.Assembler.{IsPut, begun_by}
use Rattle.data_transfer.specs.declared.sequence.Put.TheVariants.{Going, Complete, Mixed}
use Rattle.channel_machine.specs.Appending.{message_by}
use Rattle.channel_machine.specs.Carried.{carried}
use Rattle.channel_machine.specs.Events.{event_at}
use Rattle.channel_machine.proofs.transfer.append_data.Goals as goal

pub returns-in-Mixed-clause-appended : goal.returns-in-Mixed-clause-appended
returns-in-Mixed-clause-appended g c hs ts st settings =
    (subst (λ q. IsPut q c.args.assembler.now c.put.new.self c.args.packet.now.side (accepted c.args.packet.now.side c.args.packet.now.field) hs) c.in-Mixed.is (c.in_ok-put.ensures.put hs st)).0

pub returns-in-Going-clause-appended : goal.returns-in-Going-clause-appended
returns-in-Going-clause-appended g c hs ts st settings =
    let a = c.args.assembler.now in
    let x = c.args.packet.now.side in
    let h : AcceptedData = accepted x c.args.packet.now.field in
    let b : IsPut {A = g.row.A.Denot} Going a c.put.new.self x h hs =
    subst (λ q. IsPut q a c.put.new.self x h hs) c.in-Going.is (c.in_ok-put.ensures.put hs st) in (
      b.0,
      b.2,
      None,
      ap (λ v. message_by v c.args.packet.now.carries_message (sequence_octets (begun_by a x hs ++ h ∷ []))) (sym b.1),
      settings,
      c.push_reserved.ensures.items ∙ ap (λ l. l ++ c.event.result ∷ []) c.in_ok-reserve.ensures.items
          ∙ ap (λ v. c.args.events.now.items ++ v ∷ []) (c.event.ensures ∙ ap (λ w. event_at c.args.packet.now.origin w) c.data_packet.ensures),
    )

pub returns-in-Complete-clause-appended : goal.returns-in-Complete-clause-appended
returns-in-Complete-clause-appended g c hs ts st settings =
    let a = c.args.assembler.now in
    let x = c.args.packet.now.side in
    let h : AcceptedData = accepted x c.args.packet.now.field in
    let b : IsPut (Complete c.in-Complete.sequence) a c.put.new.self x h hs =
    subst (λ q. IsPut q a c.put.new.self x h hs) c.in-Complete.is (c.in_ok-put.ensures.put hs st) in
    let l : List ℕ = sequence_octets (begun_by a x hs ++ h ∷ []) in
    let octets = c.as_slice-octets.ensures ∙ b.5 in (
      b.0,
      b.2,
      carried c.args.packet.now.carries_message l,
      ap (λ v. message_by v c.args.packet.now.carries_message l) (sym b.1),
      c.report_completed.ensures.represented l ts octets settings,
      c.report_completed.ensures.reports l ts h refl octets settings
          ∙ ap (λ es. es ++ map (event_at c.args.packet.now.origin) (data_reports x h ts (carried c.args.packet.now.carries_message l))) c.in_ok-reserve.ensures.items,
    )
