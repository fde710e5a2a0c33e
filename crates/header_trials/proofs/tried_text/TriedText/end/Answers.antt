use Rattle.std.proofs.Common.{◌++◌, subst, sym}
use Rattle.line_model.specs.packets.Says.{items_of}
use Rattle.line_model.specs.text.Text.{early_rows}
use Rattle.trace_text.specs.Represents.{last_row}
use Rattle.header_trials.specs.Headers.{headers_tried}
use Rattle.header_trials.specs.Trials.{AreTrials, IsTrace}
use Rattle.trace_text.proofs.RefusalLemmas.{whole_head}
use Rattle.header_trials.proofs.TrialsLemmas.{whole_under}
use Rattle.header_trials.proofs.tried_text.TriedText.end.Goals as goal

pub take_last-requires : goal.take_last-requires
take_last-requires g c =
    let text = c.requires.0 in
    let taken = c.requires.1 in
    let end = c.in-Ok.ensures.ok text taken.reads in
    let same = whole_head c.args.self.lines text c.in-Ok.end.interface taken.reads end.1 in
    let row = c.in-Ok.ensures.row text taken.reads in
    record {
      next = (
        c.in-Ok.end.interface,
        early_rows text,
        row.0,
        c.in_ok-trials.ensures.trying (early_rows text) c.args.self.lines.interface taken.tried same,
        row.2,
        subst (IsTrace c.in-Ok.end.interface) row.1 (whole_under c.in-Ok.end.interface text end.0 end.1),
      );
    }

pub returns-clause-tried : goal.returns-clause-tried
returns-clause-tried g c text taken =
    let end = c.in-Ok.ensures.ok text taken.reads in
    let i = c.in-Ok.end.interface in
    let row = c.in-Ok.ensures.row text taken.reads in
    let same = whole_head c.args.self.lines text i taken.reads end.1 in
    record {
      sound = end.0;
      interface = i;
      header = end.1;
      trials = subst (λ rs. AreTrials g.C.Channel i (λ j. items_of j rs) (headers_tried i rs) c.chosen.result.items) (sym row.1)
          (c.chosen.ensures i (early_rows text ++ last_row c.in-Ok.end.has_row row.0)
          (c.in_ok-take_last.ensures.trying i (early_rows text) row.0 (c.in_ok-trials.ensures.trying (early_rows text) c.args.self.lines.interface taken.tried same) row.2 (subst (IsTrace i) row.1 (whole_under i text end.0 end.1))));
    }
