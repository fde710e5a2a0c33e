use Rattle.std.proofs.Common.{◌∙◌, ap, false, sym, true}
use Rattle.descriptions.specs.Follows.{first_in}
use Rattle.descriptions.proofs.OriginLemmas.{follows_here, follows_off}
use Rattle.descriptions.proofs.origins.Origins.follows.Goals as goal

pub returns-in-Some-channel : goal.returns-in-Some-channel
returns-in-Some-channel g c i earlier r events h l =
    c.first_in.ensures ∙ ap (first_in c.args.self.now.epoch) c.of.ensures
    ∙ follows_here i earlier r c.args.row.now events c.args.self.now c.in-Some-channel.channel c.in-Some.finding true h l (sym c.channel.ensures ∙ c.in-Some-channel.is) c.in-Some.is (sym c.is_of_course.ensures ∙ c.if-is_of_course.true)

pub returns-in_default-channel : goal.returns-in_default-channel
returns-in_default-channel g c i earlier r events h l =
    follows_here i earlier r c.args.row.now events c.args.self.now c.in-Some-channel.channel c.in-Some.finding false h l (sym c.channel.ensures ∙ c.in-Some-channel.is) c.in-Some.is (sym c.is_of_course.ensures ∙ c.if-is_of_course.false)

pub returns-in_default-channel-2 : goal.returns-in_default-channel-2
returns-in_default-channel-2 g c i earlier r events h l = follows_off i earlier r c.args.row.now events l (sym c.channel.ensures ∙ c.in_default-channel.is)
