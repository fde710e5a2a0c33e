use Rattle.std.proofs.Common.{◌≡◌, ◌∙◌, ap, subst, sym, true}
use Rattle.line_model.specs.channels.Channels.{is_permanent}
use Rattle.line_model.specs.channels.GapStep.{is_in_d1}
use Rattle.channel_machine.specs.Channels.{Known}
use Rattle.channel_machine.specs.Entries.{comes_from, is_entry}
use Rattle.channel_machine.proofs.Entries.{comes, fits, normal}
use Rattle.channel_machine.proofs.channel.StatusChannel.judge.Goals as goal

pub returns-clause-fits : goal.returns-clause-fits
returns-clause-fits g c =
    subst (λ t. is_entry c.judged.result.1 c.args.side c.args.class t ≡ true) (c.state.ensures ∙ ap (λ (o : Known). o.state) c.self.view_is)
    (ap (λ j. is_entry j.entry c.args.side c.args.class c.state.result) c.judged.ensures
    ∙ fits c.is_permanent.result c.args.side c.state.result c.is_owed.result c.args.class)

pub returns-clause-comes : goal.returns-clause-comes
returns-clause-comes g c =
    subst (λ t. comes_from c.judged.result.1 t ≡ true) (c.state.ensures ∙ ap (λ (o : Known). o.state) c.self.view_is)
    (ap (λ j. comes_from j.entry c.state.result) c.judged.ensures
    ∙ comes c.is_permanent.result c.args.side c.state.result c.is_owed.result c.args.class)

pub returns-then-is_in_d1-clause-judged : goal.returns-then-is_in_d1-clause-judged
returns-then-is_in_d1-clause-judged g c k s =
    let p = c.args.self.now in
    normal (is_permanent p.terms.interface p.channel) c.args.side k.state k.owed c.args.class (sym c.is_transfer.ensures ∙ c.if-is_transfer.true)
    (ap (λ q. is_in_d1 q) (sym s.state) ∙ sym c.is_in_d1.ensures ∙ c.if-is_in_d1.true)
