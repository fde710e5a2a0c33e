use Rattle.std.proofs.Common.{sym, subst, arith}
use Rattle.line_model.specs.basics.Bounds.{IsItem}
use Rattle.header_trials.proofs.ChannelLemmas.{gap_said}
use Rattle.header_trials.proofs.tried_channels.catch_up.Goals as goal

pub advance-requires : goal.advance-requires
advance-requires g c =
    let i = c.requires.0 in
    let k = c.requires.1 in
    let h = c.requires.3 in
    let item = c.gap_of_all.result in
    record {
      item = subst (λ j. IsItem j (g.C.Channel.number_of c.args.channel.now.machine) item) (sym h.interface)
          (subst (λ n. IsItem i n item) (sym h.number) (subst (IsItem i k) (sym c.gap_of_all.ensures) (gap_said i k c.args.epoch (c.requires.4 (omega arith)))));
    }
