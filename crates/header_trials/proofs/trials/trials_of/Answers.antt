use Rattle.std.proofs.Common.{◌∙◌, ap, sym, subst, [], take}
use Rattle.std.specs.List.{flat_map}
use Rattle.std.proofs.lemmas.List.{take_all}
use Rattle.header_trials.specs.Headers.{headers_with}
use Rattle.header_trials.specs.Trials.{AreTrials}
use Rattle.header_trials.proofs.TrialsLemmas.{mapped_more}
use Rattle.header_trials.proofs.trials.trials_of.Goals as goal

pub loop-window-preserved : goal.loop-window-preserved
loop-window-preserved g c =
    let f = headers_with c.args.own.now c.args.modulus in
    subst (λ hs. AreTrials g.C.Channel c.args.own.now (λ _. []) hs c.push_sizes.new.trials.items) (sym (mapped_more f c.windows-window-items.result.now c.loop-window.window-index _ c.loop-window-test.true))
    (c.in_ok-push_sizes.ensures.trials (flat_map f (take c.loop-window.window-index c.windows-window-items.result.now)) c.loop-window.invariant)

pub returns-clause-trials : goal.returns-clause-trials
returns-clause-trials g c =
    let f = headers_with c.args.own.now c.args.modulus in
    subst (λ hs. AreTrials g.C.Channel c.args.own.now (λ _. []) hs c.loop-window.trials.items)
    (ap (flat_map f) (take_all c.loop-window.window-index c.windows-window-items.result.now c.loop-window-test.false) ∙ ap (flat_map f) c.windows-window-items.ensures) c.loop-window.invariant
