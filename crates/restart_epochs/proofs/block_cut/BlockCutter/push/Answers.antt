use Rattle.std.proofs.Common.{◌∙◌, ap, sym, subst, ◌+◌, ◌<◌, ◌++◌, cond, option_to_list, List}
use Rattle.std.proofs.lemmas.Result.{IfOk-from_err}
use Rattle.line_model.specs.declared.finding.Finding.{Finding}
use Rattle.restart_epochs.specs.BlockCuts.{HasCut}
use Rattle.restart_epochs.specs.Walks.{start_after, HasRoom}
use Rattle.restart_epochs.proofs.BlockJoins.{cut_more}
use Rattle.restart_epochs.proofs.Taken.{gap_count}
use Rattle.restart_epochs.proofs.block_cut.BlockCutter.push.Goals as goal

pub returns : goal.returns
returns g c l items apart =
    let before = c.args.self.now in
    let item = c.args.item.now in
    let step = c.in_ok-step.step in
    let is = c.in_ok-step.ensures.step in
    let same = c.in_ok-step.ensures.same in
    let affected = c.in_ok-apply.ensures in
    cut_more l items _ _ item step is
    (record {
      level = c.advance.ensures.machine;
      epoch = c.advance.ensures.epoch;
      start = c.advance.ensures.start ∙ (λ j. start_after (affected.0 j).epoch (affected.0 j).start step.epoch step.machine) ∙ (λ j. start_after (same.epoch j) (same.start j) step.epoch step.machine);
      packets = c.advance.ensures.packets ∙ ap (λ n. n + 1) (ap (λ w. w.packets) affected.0 ∙ same.packets);
      gaps = c.advance.ensures.gaps ∙ (λ j. (affected.0 j).gaps + cond (is.gap j) 1 0) ∙ (λ j. same.gaps j + gap_count item j);
      last = ap (λ x. x.number) c.item.view_is;
      octets = c.in-Some.ensures.0;
      findings = c.advance.ensures.findings ∙ ap (λ (fs : List Finding). fs ++ option_to_list step.finding) (ap (λ w. w.findings.items) affected.0 ∙ same.findings);
      gap = affected.1;
      cut = subst (λ n. HasCut step.effect item n before.walk.start before.gap before.ended.items c.apply.new.self.ended.items before.rows c.apply.new.self.rows) same.epoch
          (subst (λ s. HasCut step.effect item c.step.new.self.epoch s before.gap before.ended.items c.apply.new.self.ended.items before.rows c.apply.new.self.rows) same.start affected.2);
    })
    apart

pub advance-requires : goal.advance-requires
advance-requires g c =
    let same = c.in_ok-step.ensures.same in
    let walk = c.in_ok-apply.ensures.0 in
    record {
      room = subst (λ w. HasRoom w c.in_ok-step.step) (sym walk) c.in_ok-step.ensures.room;
      packets = subst (λ n. n + 1 < 4294967296) (sym (ap (λ w. w.packets) walk ∙ same.packets)) c.in-Some.ensures.2;
      gaps = subst (λ n. n + 1 < 4294967296) (sym (ap (λ w. w.gaps) walk ∙ same.gaps)) c.in-Some.ensures.3;
    }

pub returns-in_err-step : goal.returns-in_err-step
returns-in_err-step g c l items apart = IfOk-from_err _ _ c.from_residual.ensures.0
