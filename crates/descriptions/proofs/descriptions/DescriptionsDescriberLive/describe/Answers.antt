use Rattle.std.proofs.Common.{◌∙◌, sym}
use Rattle.descriptions.proofs.ChoiceLemmas.{none_is, rightly_none, rightly_some}
use Rattle.descriptions.proofs.descriptions.DescriptionsDescriberLive.describe.Goals as goal

pub returns-in_default-clause-picked : goal.returns-in_default-clause-picked
returns-in_default-clause-picked g c before line text h s lines =
    rightly_none c.args.self.now.chosen.rows before line (none_is c.judge_line.result c.in_default.not-Some ∙ c.judge_line.ensures.picked before line text h s lines)

pub returns-clause-picked : goal.returns-clause-picked
returns-clause-picked g c before line text h s lines =
    rightly_some c.args.self.now.chosen.rows before line c.in-Some.picked (sym c.in-Some.is ∙ c.judge_line.ensures.picked before line text h s lines)
