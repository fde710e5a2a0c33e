use Rattle.std.proofs.Common.{◌∙◌, sym, subst, map, None, List}
use Rattle.line_model.specs.basics.Records.{Item}
use Rattle.line_model.specs.basics.Bounds.{IsPiece}
use Rattle.line_model.specs.channels.Gaps.{fresh_at}
use Rattle.line_model.specs.pieces.Pieces.{events_of_steps}
use Rattle.line_model.specs.observer.Observer.{x25, event_of}
use Rattle.channel_run.specs.Tally.{Counts}
use Rattle.channel_run.specs.Live.{channel_after}
use Rattle.channel_run.proofs.LiveLemmas.{empty_small}
use Rattle.channel_run.proofs.live.LiveChannel.fresh.Goals as goal

pub returns-clause-represented : goal.returns-clause-represented
returns-clause-represented g c = λ p of_interface of_channel of_epoch of_start no_items. record {
  small = subst (IsPiece p.interface p.channel) (sym no_items) (empty_small p.interface p.channel);
  interface = c.fresh.ensures.interface ∙ sym of_interface;
  number = c.fresh.ensures.number ∙ sym of_channel;
  channel = sym of_channel;
  epoch = sym of_epoch;
  machine =
      subst (g.C.Channel.represents c.fresh.result)
      (λ j. channel_after (sym of_interface j) (sym of_channel j) (fresh_at (sym of_interface j) (sym of_start j) (sym of_epoch j) (sym of_channel j)) (sym no_items j)) c.fresh.ensures.represented;
  counted =
      subst (λ (l : List Item). Counts c.in_ok-new.field-0 p.epoch p.channel (map event_of (events_of_steps (x25 p.interface) p.epoch p.channel (fresh_at p.interface p.start p.epoch p.channel) l None)))
      (sym no_items) (c.in_ok-new.ensures.none p.epoch p.channel);
}
