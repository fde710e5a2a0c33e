use Rattle.std.proofs.Common.{◌∙◌, ap}
use Rattle.pad.specs.Pairs.{pairs_before}
use Rattle.pad.proofs.message.Message.standard_pairs.Goals as goal

pub returns : goal.returns
returns c =
    c.new.ensures ∙ ap (λ b. pairs_before b c.args.self.now.pairs.now) (c.is_indication.ensures c.args.self.now.pairs.now)
