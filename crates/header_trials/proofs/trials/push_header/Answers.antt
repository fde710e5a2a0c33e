use Rattle.std.proofs.Common.{◌++◌, ◌∷◌, [], sym, subst}
use Rattle.std.specs.Option.{option_to_list}
use Rattle.header_trials.specs.Headers.{with_numbers}
use Rattle.header_trials.specs.Trials.{AreTrials}
use Rattle.header_trials.proofs.TrialsLemmas.{trials_push}
use Rattle.header_trials.proofs.trials.push_header.Goals as goal

pub returns-in_ok-push-in-Some-clause-trials : goal.returns-in_ok-push-in-Some-clause-trials
returns-in_ok-push-in-Some-clause-trials g c headers h =
    subst (λ ts. AreTrials g.C.Channel c.args.own.now (λ _. []) (headers ++ option_to_list (with_numbers c.args.own.now c.args.modulus c.args.window c.args.size)) ts) (sym c.in_ok-push-in-Some.ensures.items)
    (subst (λ o. AreTrials g.C.Channel c.args.own.now (λ _. []) (headers ++ option_to_list o) (c.args.trials.now.items ++ c.new.result ∷ [])) c.in-Some.ensures.numbers
    (trials_push g.C.Channel c.args.own.now (λ _. []) headers c.args.trials.now.items c.in-Some.header c.new.result h c.new.ensures c.in-Some.ensures.like))
