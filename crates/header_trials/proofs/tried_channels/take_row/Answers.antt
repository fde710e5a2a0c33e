use Rattle.std.proofs.Common.{◌∙◌, ◌++◌, ap, sym, subst, ℕ}
use Rattle.line_model.specs.basics.Bounds.{IsItem}
use Rattle.line_model.specs.observer.Observer.{row_step}
use Rattle.channel_run.specs.Run.{data_events, row_events}
use Rattle.header_trials.proofs.ReactionLemmas.{reaction_same}
use Rattle.header_trials.proofs.tried_channels.take_row.Goals as goal

pub advance-requires : goal.advance-requires
advance-requires g c =
    let i = c.requires.0 in
    let own = c.requires.3 in
    record { item = subst (λ j. IsItem j (g.C.Channel.number_of c.args.tried.now.machine) c.args.item.now) (sym own.interface) (subst (λ n. IsItem i n c.args.item.now) (sym own.number) c.requires.4) }

pub returns-clause-represented : goal.returns-clause-represented
returns-clause-represented g c = λ i n s own.
    let step = c.in_ok-accepted.ensures in
    record {
      interface = step.interface s own.represented ∙ own.interface;
      number = step.number s own.represented ∙ own.number;
      taken = own.taken;
      represented = subst (g.C.Channel.represents c.advance.new.self) (λ j. (row_step (own.interface j) (own.number j) s c.args.item.now).after) (step.represented s own.represented);
    }

pub returns-clause-events : goal.returns-clause-events
returns-clause-events g c = λ i n s own.
    let step = c.in_ok-accepted.ensures.events s own.represented in
    c.in_ok-push_data.ensures.events
    ∙ ap (λ (m : ℕ). c.advance.new.events.items ++ data_events c.args.epoch m c.args.item.now c.in_ok-accepted.accepted) (sym own.number)
    ∙ step ∙ (λ j. c.args.events.now.items ++ row_events (own.interface j) c.args.epoch (own.number j) s c.args.item.now)

pub returns-clause-reaction : goal.returns-clause-reaction
returns-clause-reaction g c = λ i n s own.
    let k : ℕ = c.args.channel in
    let next = subst (g.C.Channel.represents c.advance.new.self) (λ j. (row_step (own.interface j) (own.number j) s c.args.item.now).after) (c.in_ok-accepted.ensures.represented s own.represented) in
    let before = c.word.ensures s own.represented in
    let after = c.word-2.ensures (row_step i k s c.args.item.now).after next in
    c.channel_reaction.ensures
    ∙ reaction_same c.args.item.now _ _ _ _ _ _ _ _ (ap (λ v. v.adrift) c.view_in-before.ensures ∙ before.adrift) (ap (λ v. v.owed) c.view_in-before.ensures ∙ before.owed) (ap (λ v. v.owed) c.view_in-after.ensures ∙ after.owed)
    (ap (λ v. v.state) c.view_in-before.ensures ∙ before.state)
