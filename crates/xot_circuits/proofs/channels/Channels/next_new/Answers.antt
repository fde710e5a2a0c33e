-- One channel more.
use Rattle.std.proofs.Common.{◌≡◌, ◌∙◌, sym, false}
use Rattle.xot_circuits.specs.Plans.{is_new}
use Rattle.xot_circuits.proofs.Ranges.{one_more}
use Rattle.xot_circuits.proofs.channels.Channels.next_new.Goals as goal

pub loop-channel-preserved : goal.loop-channel-preserved
loop-channel-preserved c =
    let self = c.args.self.now in
    let purpose = c.args.purpose in
    one_more (λ j. is_new self purpose j ≡ false) c.loop-channel.channel c.loop-channel.invariant (sym c.is_new.ensures ∙ c.if-is_new.false)
