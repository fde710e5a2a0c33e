use Rattle.std.proofs.Common.{List}
use Rattle.line_model.specs.declared.interface.Interface.{Interface}
use Rattle.header_trials.specs.Trials.{AreSound, AreTrials, SaidRows, with_row}
use Rattle.header_trials.proofs.TrialsLemmas.{AreOnWay}
use Rattle.header_trials.proofs.trials.take_all.Given as goal

abbrev pub invariant-loop-trial : goal.invariant-loop-trial
invariant-loop-trial g l =
    (own : Interface) (headers : List Interface) (items : SaidRows) → AreTrials g.C.Channel own items headers l.fn.trials.items → AreSound own (with_row items l.row)
    → AreOnWay g.C.Channel l.trial-index own items (with_row items l.row) headers l.trial-items
