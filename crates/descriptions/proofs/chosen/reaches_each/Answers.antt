use Rattle.std.proofs.Common.{◌≡◌, ◌∙◌, ◌++◌, ◌∷◌, [], ap, sym}
use Rattle.std.specs.Prelude.{None, Some}
use Rattle.line_model.specs.observer.Machine.{routed}
use Rattle.line_model.specs.observer.Observer.{x25}
use Rattle.line_model.specs.packets.Says.{gap_of}
use Rattle.restart_epochs.specs.Cutting.{observer}
use Rattle.live_report.specs.JudgedRows.{taker}
use Rattle.descriptions.specs.CallRows.{steps_each}
use Rattle.descriptions.proofs.Anywhere.{each_is, restart_was}
use Rattle.descriptions.proofs.chosen.reaches_each.Goals as goal

pub returns-in-Restart : goal.returns-in-Restart
returns-in-Restart c i before r events none last =
    let was = restart_was i (routed (x25 i) (observer i before).level r) (observer i before) (observer i (before ++ r ∷ [])) c.args.last.now.judge c.in-Restart.before _ last.judge c.in-Restart.is in
    c.steps_each.ensures ∙ (λ t. steps_each (gap_of (last.packet t)) (was t)) ∙ sym (each_is i (observer i before).level r)

pub returns-in-Channel : goal.returns-in-Channel
returns-in-Channel c i before r events none last = absurd (let bad : Some c.in-Channel.channel ≡ None = sym (ap taker c.in-Channel.is) ∙ none in cc)
