use Rattle.pad.specs.Pairs.{shown}
use Rattle.pad.specs.Effects.{indicated_one}
use Rattle.pad.proofs.Walked.{walked_none, walked_one, walked_all}
use Rattle.pad.proofs.settings.Settings.indicate.Goals as goal

pub loop-pair-init : goal.loop-pair-init
loop-pair-init c = walked_none indicated_one c.args.self.now _ _ c.into_iter-pair-iterator.ensures.into_iter_gives

pub loop-pair-preserved : goal.loop-pair-preserved
loop-pair-preserved c =
    let took = c.indicate_one.ensures in
    walked_one indicated_one c.args.self.now c.loop-pair.self _ (shown c.in-Some.pair) c.loop-pair.pair-iterator c.next.new.self c.args.pairs c.loop-pair.invariant
    c.in-Some.ensures.steps took.pad took.asked took.has_entries

pub returns-clause-has_entries : goal.returns-clause-has_entries
returns-clause-has_entries c =
    walked_all indicated_one c.args.self.now c.loop-pair.self c.loop-pair.pair-iterator c.args.pairs c.loop-pair.invariant c.in-None.ensures.steps.0
