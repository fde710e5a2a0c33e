use Rattle.std.proofs.Common.{◌∙◌, ap, arith, subst, sym, ℕ}
use Rattle.std.specs.Option.{option_map}
use Rattle.line_model.specs.channels.Gaps.{fresh_at}
use Rattle.header_trials.specs.Tried.{IsChannel, IsOpenChannelOf}
use Rattle.header_trials.proofs.tried_channels.TriedChannels.take_out.Goals as goal

pub returns-clause-out : goal.returns-clause-out
returns-clause-out g c = λ states h.
    let walk = c.args.walk.now in
    let k : ℕ = c.args.channel in
    subst (IsChannel g.C.Channel walk.interface c.args.self.now.gaps k (states k)) (sym c.in_ok-begun.ensures.ok) (record {
      interface = c.fresh.ensures.interface;
      number = c.fresh.ensures.number;
      taken = omega arith;
      before = fresh_at walk.interface walk.start walk.epoch k;
      represented = c.fresh.ensures.represented;
      state_is = subst (IsOpenChannelOf g.C.Channel walk.interface walk.start walk.epoch c.args.self.now.gaps k (states k)) (sym c.take.ensures.value ∙ ap (option_map (λ b. b.value)) c.in_default.is) (h.each k);
    })
