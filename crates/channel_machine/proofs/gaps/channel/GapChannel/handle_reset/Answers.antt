use Rattle.std.proofs.Common.{◌≡◌, ◌∙◌, ap, subst}
use Rattle.std.specs.Prelude.{IfOk}
use Rattle.line_model.specs.channels.Gaps as gaps
use Rattle.line_model.specs.channels.GapStep.{GapOutcome, adrift_reset, owed_after}
use Rattle.channel_machine.specs.GapChannels.{GapDoes, GapKnown, adrift_at, interface_of, number_of}
use Rattle.channel_machine.proofs.AdriftRows.{owing_represents}
use Rattle.channel_machine.proofs.gaps.channel.GapChannel.handle_reset.Goals as goal

pub returns-clause-does : goal.returns-clause-does
returns-clause-does g c k s =
    let p : GapKnown = c.args.self.now in
    let a = c.args.adrift in
    let q : gaps.GapChannel = adrift_at p a k in
    let owing : c.owing.result ≡ record a { owed = owed_after c.args.row.now.side c.args.entry a.owed } =
    c.owing.ensures ∙ (λ j. record a { owed = (c.owed_after-owed.ensures ∙ ap (λ w. owed_after c.args.row.now.side c.args.entry w) c.owed.ensures) j }) in
    subst (λ (o : GapOutcome). IfOk c.reset_adrift.result (λ _. GapDoes c.args.row.now.origin p c.reset_adrift.new.self c.args.events.now.items c.reset_adrift.new.events.items o))
    (λ j. adrift_reset (interface_of p) (number_of p) (owing j).owed (owing j) c.args.to q)
    (c.reset_adrift.ensures.does k (owing_represents p.channel a c.owing.result k (ap (λ v. v.hidden) owing) s))
