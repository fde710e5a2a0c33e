use Rattle.std.proofs.Common.{◌++◌, [], List, take}
use Rattle.std.specs.List.{filter_map}
use Rattle.line_model.specs.basics.Limits.{packet_sizes}
use Rattle.line_model.specs.declared.interface.Interface.{Interface}
use Rattle.header_trials.specs.Headers.{with_numbers}
use Rattle.header_trials.specs.Trials.{AreTrials}
use Rattle.header_trials.proofs.trials.push_sizes.Given as goal

abbrev pub invariant-loop-size : goal.invariant-loop-size
invariant-loop-size g l =
    (headers : List Interface) → AreTrials g.C.Channel l.own (λ _. []) headers l.fn.trials.items
    → AreTrials g.C.Channel l.own (λ _. []) (headers ++ filter_map (with_numbers l.own l.modulus l.window) (take l.size-index packet_sizes)) l.trials.items
