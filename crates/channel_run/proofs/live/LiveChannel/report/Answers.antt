use Rattle.std.proofs.Common.{◌∙◌, ℕ, sym, subst}
use Rattle.std.proofs.lemmas.Result.{IfOk-weaker}
use Rattle.line_model.specs.pieces.Plans.{piece_events}
use Rattle.channel_run.specs.Tally.{Counts, piece_result}
use Rattle.channel_run.specs.Live.{so_far}
use Rattle.channel_run.proofs.LiveLemmas.{piece_within}
use Rattle.channel_run.proofs.live.LiveChannel.report.Goals as goal

pub report-requires : goal.report-requires
report-requires g c =
    let p = c.requires.represented.0 in
    let s = c.requires.represented.1 in
    record {
      within = (
        piece_events (so_far p),
        subst (λ (w : ℕ × ℕ). Counts c.args.self.now.tally w.0 w.1 (piece_events (so_far p))) (λ j. (sym s.epoch j, sym s.channel j)) s.counted,
        piece_within (so_far p) s.small,
      );
    }

pub returns : goal.returns
returns g c = record {
  value = IfOk-weaker c.report.result _ _
      (λ report counts p s.
      counts (piece_events (so_far p)) (subst (λ (w : ℕ × ℕ). Counts c.args.self.now.tally w.0 w.1 (piece_events (so_far p))) (λ j. (sym s.epoch j, sym s.channel j)) s.counted)
      ∙ (λ j. piece_result c.args.id (s.epoch j) (s.channel j) (piece_events (so_far p)))) c.report.ensures.piece_result;
  memory = c.report.ensures.memory;
}
