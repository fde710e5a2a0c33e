use Rattle.std.proofs.Common.{[], take}
use Rattle.std.specs.List.{flat_map}
use Rattle.header_trials.specs.Headers.{headers_with}
use Rattle.header_trials.specs.Trials.{AreTrials}
use Rattle.header_trials.proofs.trials.trials_of.Given as goal

abbrev pub invariant-loop-window : goal.invariant-loop-window
invariant-loop-window g l = AreTrials g.C.Channel l.own (λ _. []) (flat_map (headers_with l.own l.modulus) (take l.window-index l.window-items)) l.trials.items
