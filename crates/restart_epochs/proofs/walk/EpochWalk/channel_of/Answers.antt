use borrow.Author.Tests.{tests}
use Rattle.std.proofs.Common.{◌≡◌, ◌∙◌, ap, sym, refl, rules}
use Rattle.line_model.specs.declared.state.RState.TheVariants.{R1}
use Rattle.line_model.specs.packets.Says.{packet_channel}
use Rattle.line_model.specs.channels.GapRestart.{GapRouting}
use Rattle.restart_epochs.specs.declared.walk.ChannelEffect.TheVariants as effect
use Rattle.restart_epochs.specs.Walks.{epoch_after, route_finding, effect_of}
use Rattle.restart_epochs.proofs.HandedOn.{handed_on}
use Rattle.restart_epochs.proofs.walk.EpochWalk.channel_of.Goals as goal

pub returns-in-Channel : goal.returns-in-Channel
returns-in-Channel g c =
    let level = c.args.self.now.machine in
    let row = c.args.item.now in
    let packet = sym c.in-Channel.is ∙ ap (λ x. x.packet) c.item.view_is in
    let handed : c.in-Channel.channel ≡ packet_channel row.packet = ap packet_channel packet in
    let r1 : level.level.state ≡ R1 = search (tests, rules) in
    let routed = handed_on level row c.in-Channel.channel c.in-Channel.kind (sym packet) r1 in
    record {
      machine = ap (λ (r : GapRouting). r.after) routed;
      epoch = ap (λ (r : GapRouting). epoch_after c.args.self.now.epoch r.route) routed;
      finding = ap (λ (r : GapRouting). route_finding row r.route) routed;
      gap = refl;
      effect = ap effect.ToChannel handed ∙ ap (λ (r : GapRouting). effect_of row.packet r.route) routed;
    }
