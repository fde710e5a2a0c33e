use Rattle.pad.specs.Effects.{asked_one}
use Rattle.pad.proofs.Walked.{IsWalked}
use Rattle.pad.proofs.settings.Settings.ask.Given as goal

abbrev pub invariant-loop-pair : goal.invariant-loop-pair
invariant-loop-pair l = IsWalked asked_one l.fn.self l.self l.pair-iterator l.fn.pairs
