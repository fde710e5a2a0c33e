use Rattle.std.proofs.Common.{◌∙◌, ap, refl, ℕ, ◌≤◌, length, arith, option_to_list, is_some, Option, Some, None}
use Rattle.line_model.specs.declared.finding.Finding.{Finding}
use Rattle.line_model.specs.packets.Says.{gap_of}
use Rattle.line_model.specs.channels.GapRestart.{routing}
use Rattle.restart_epochs.specs.Walks.{effect_of, epoch_after, route_finding}
use Rattle.restart_epochs.proofs.walk.EpochWalk.step_by_machine.Goals as goal

at_most_one : (o : Option Finding) → length (option_to_list o) ≤ 1
at_most_one None = omega arith
at_most_one (Some f) = omega arith

pub returns : goal.returns
returns g c =
    let item = c.args.item.now in
    let routed = c.step-route.ensures ∙ ap (routing c.args.self.now.machine) c.item.view_is in
    record {
      step = record {
        machine = ap (λ r. r.after) routed;
        epoch = c.next_epoch.ensures ∙ ap (λ r. epoch_after c.args.self.now.epoch r.route) routed;
        finding = c.finding_of.ensures ∙ ap (λ r. route_finding item r.route) routed;
        gap = c.is_gap.ensures ∙ ap (λ x. is_some (gap_of x.packet)) c.item.view_is;
        effect = c.effect_by.ensures ∙ ap (λ x. effect_of x.packet c.step-route.result) c.item.view_is ∙ ap (λ r. effect_of item.packet r.route) routed;
      };
      same = record { interface = refl; machine = refl; epoch = refl; start = refl; packets = refl; gaps = refl; findings = c.reserve.ensures.items };
      room = let room = c.in_ok-reserve.ensures.ok in omega (arith, room, at_most_one c.finding_of.result);
    }
