use Rattle.std.proofs.Common.{◌≡◌, ◌++◌, ℕ, sym, subst}
use Rattle.std.specs.Prelude.{IfOk, OnOk}
use Rattle.channel_run.specs.Run.{row_events}
use Rattle.header_trials.specs.Reactions.{reaction_on}
use Rattle.header_trials.specs.Tried.{AreChannels, events_after, states_after}
use Rattle.header_trials.proofs.trial.Trial.apply.Goals as goal

pub returns-in-ToChannel-clause-channels : goal.returns-in-ToChannel-clause-channels
returns-in-ToChannel-clause-channels g c states channels =
    let walk = c.args.self.now.walk in
    subst (λ t. OnOk c.step.result (AreChannels g.C.Channel walk.interface walk.start walk.epoch (states_after t walk.interface states c.args.item.now) c.step.new.self)) (sym c.in-ToChannel.is)
    (c.step.ensures.channels states channels)

pub returns-in-ToChannel-clause-events : goal.returns-in-ToChannel-clause-events
returns-in-ToChannel-clause-events g c states channels =
    let walk = c.args.self.now.walk in
    let k : ℕ = c.in-ToChannel.channel in
    subst (λ t. OnOk c.step.result (c.step.new.events.items ≡ events_after t walk.interface walk.epoch states c.args.item.now)) (sym c.in-ToChannel.is)
    (subst (λ es. OnOk c.step.result (c.step.new.events.items ≡ es ++ row_events walk.interface walk.epoch k (states k) c.args.item.now)) c.clear.ensures.items (c.step.ensures.events states channels))

pub returns-in-ToChannel-clause-reaction : goal.returns-in-ToChannel-clause-reaction
returns-in-ToChannel-clause-reaction g c states channels =
    let walk = c.args.self.now.walk in
    subst (λ t. IfOk c.step.result (λ x. x ≡ reaction_on t walk.interface walk.machine c.args.after.now states c.args.item.now)) (sym c.in-ToChannel.is)
    (c.step.ensures.reaction states channels)
