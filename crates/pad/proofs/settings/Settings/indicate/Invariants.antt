use Rattle.pad.specs.Effects.{indicated_one}
use Rattle.pad.proofs.Walked.{IsWalked}
use Rattle.pad.proofs.settings.Settings.indicate.Given as goal

abbrev pub invariant-loop-pair : goal.invariant-loop-pair
invariant-loop-pair l = IsWalked indicated_one l.fn.self l.self l.pair-iterator l.fn.pairs
