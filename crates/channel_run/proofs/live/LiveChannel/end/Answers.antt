use Rattle.std.proofs.Common.{◌∙◌, ℕ, sym, subst}
use Rattle.line_model.specs.basics.Records.{Piece}
use Rattle.line_model.specs.pieces.Plans.{piece_events}
use Rattle.channel_run.specs.Tally.{Counts}
use Rattle.channel_run.proofs.LiveLemmas.{piece_within}
use Rattle.channel_run.proofs.live.LiveChannel.end.Goals as goal

pub finish-requires : goal.finish-requires
finish-requires g c =
    let p = c.requires.represented.0 in
    let s = c.requires.represented.1 in
    let done : Piece = record p { end = c.args.end } in
    let place = c.in_ok-close.ensures.place in
    record {
      within = (
        piece_events done,
        subst (λ (w : ℕ × ℕ). Counts c.close.new.self.tally w.0 w.1 (piece_events done)) (λ j. (sym (place.0 ∙ s.epoch) j, sym (place.1 ∙ s.channel) j)) (c.in_ok-close.ensures.counted p s),
        piece_within done s.small,
      );
    }
