use Rattle.std.proofs.Common.{refl}
use Rattle.header_trials.proofs.ChannelLemmas.{gap_taken}
use Rattle.header_trials.proofs.tried_channels.TriedChannels.take_gap.Goals as goal

pub returns-clause-channels : goal.returns-clause-channels
returns-clause-channels g c = λ i start epoch states recorded h. gap_taken g.C.Channel i start epoch states c.args.self.now _ recorded refl refl h
