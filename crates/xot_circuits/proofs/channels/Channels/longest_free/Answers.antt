-- One channel more.
use Rattle.std.proofs.Common.{◌∙◌, ◌+◌, ◌-◌, ap, sym, arith, Option}
use Rattle.std.specs.List.{range_with_len}
use Rattle.xot_circuits.specs.Plans.{ChannelsView, longer, longest_of}
use Rattle.xot_circuits.specs.declared.channels.FreeChannel.{FreeChannel}
use Rattle.xot_circuits.proofs.Found.{longest_next}
use Rattle.xot_circuits.proofs.channels.Channels.longest_free.Goals as goal

pub loop-channel-preserved : goal.loop-channel-preserved
loop-channel-preserved c =
    let self = c.args.self.now in
    let k = c.loop-channel.channel in
    let best = c.loop-channel.best in
    let rest = range_with_len (k + 1) (self.interface.svc + 1 - (k + 1)) in
    let svc = ap (λ (v : ChannelsView). v.interface.svc) c.self.view_is in
    ap (λ (b : Option FreeChannel). longest_of self c.args.purpose c.args.row b rest) (c.longer-best.ensures ∙ ap (longer best k) c.free_since.ensures)
    ∙ (sym (longest_next self c.args.purpose c.args.row k best (omega (arith, c.loop-channel-test.true, svc))) ∙ c.loop-channel.invariant)
