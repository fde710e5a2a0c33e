use Rattle.std.proofs.Common.{◌∙◌, ap, sym, subst, arith}
use Rattle.std.proofs.lemmas.Grind.{common_steps, elements}
use Rattle.line_model.specs.basics.Device.{with_more}
use Rattle.line_model.specs.basics.Written.{HasFront}
use Rattle.header_trials.specs.TriedLines.{AreTriedLines, fewest, tried_text}
use Rattle.header_trials.specs.Trials.{AreTrials}
use Rattle.header_trials.proofs.TriedLemmas.{lines_of_trials}
use Rattle.header_trials.proofs.trying.write_tried.Goals as goal

pub returns-clause-tried : goal.returns-clause-tried
returns-clause-tried g c x h =
    let tried = c.in_ok-tried.tried.items in
    let lines = lines_of_trials g.C.Channel x c.in_ok-trials.trials.items tried (c.in_ok-trials.ensures.tried x h) (λ own is rs all. c.in_ok-tried.ensures.all own is rs (subst (AreTrials g.C.Channel own rs is) (sym c.as_slice.ensures.value) all)) c.in_ok-tried.ensures.sorted in
    record {
      bytes = tried_text tried;
      lines = subst (λ n. AreTriedLines x (tried_text tried) n) (sym (c.fewest_findings.ensures ∙ ap fewest c.as_slice-3.ensures.value)) lines;
      taken = c.in_ok-write_lines.ensures.ok ∙ ap (λ l. with_more (g.K.Sink.taken c.args.sink.now) (tried_text l)) c.as_slice-2.ensures.value;
    }

pub returns-in_err-write_lines-clause-part : goal.returns-in_err-write_lines-clause-part
returns-in_err-write_lines-clause-part g c x h e =
    let tried = c.in_ok-tried.tried.items in
    record {
      bytes = tried_text tried;
      findings = fewest tried;
      lines = lines_of_trials g.C.Channel x c.in_ok-trials.trials.items tried (c.in_ok-trials.ensures.tried x h) (λ own is rs all. c.in_ok-tried.ensures.all own is rs (subst (AreTrials g.C.Channel own rs is) (sym c.as_slice.ensures.value) all)) c.in_ok-tried.ensures.sorted;
      part = subst (λ l. HasFront (g.K.Sink.taken c.args.sink.now) (g.K.Sink.taken c.write_lines.new.sink) (tried_text l)) c.as_slice-2.ensures.value c.in_err-write_lines.ensures.part;
    }

pub returns-in_err-tried-clause-write_failed : goal.returns-in_err-tried-clause-write_failed
returns-in_err-tried-clause-write_failed g c = grind (arith, elements)

pub returns-clause-write_failed : goal.returns-clause-write_failed
returns-clause-write_failed g c = grind (arith, common_steps)
