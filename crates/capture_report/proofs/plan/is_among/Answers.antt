-- The search finds what is there.
use Rattle.std.proofs.Common.{◌∙◌}
use Rattle.capture_report.proofs.SearchLemmas.{found_among}
use Rattle.capture_report.proofs.plan.is_among.Goals as goal

pub returns : goal.returns
returns c = c.is_ok.ensures.value ∙ found_among c.args.frames.now c.args.frame c.binary_search.result c.binary_search.ensures.position c.requires
