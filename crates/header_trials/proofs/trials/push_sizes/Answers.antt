use Rattle.std.proofs.Common.{◌++◌, sym, subst, append-nil, [], take}
use Rattle.std.specs.List.{filter_map}
use Rattle.line_model.specs.basics.Limits.{packet_sizes}
use Rattle.header_trials.specs.Headers.{with_numbers}
use Rattle.header_trials.specs.Trials.{AreTrials}
use Rattle.header_trials.proofs.TrialsLemmas.{headers_more, kept_more}
use Rattle.header_trials.proofs.trials.push_sizes.Goals as goal

pub loop-size-init : goal.loop-size-init
loop-size-init g c = λ headers h. subst (λ hs. AreTrials g.C.Channel c.args.own.now (λ _. []) hs c.args.trials.now.items) (sym (append-nil headers)) h

pub loop-size-preserved : goal.loop-size-preserved
loop-size-preserved g c = λ headers h.
    let f = with_numbers c.args.own.now c.args.modulus c.args.window in
    let first = filter_map f (take c.loop-size.size-index packet_sizes) in
    headers_more g.C.Channel c.args.own.now headers first _ _ c.push_header.new.trials.items (kept_more f packet_sizes c.loop-size.size-index _ c.loop-size-test.true)
    (c.in_ok-push_header.ensures.trials (headers ++ first) (c.loop-size.invariant headers h))
