use Rattle.descriptions.proofs.FindingLemmas.{found_put, none_found}
use Rattle.descriptions.proofs.finding_words.put_finding.Goals as goal

pub returns : goal.returns
returns g c i earlier r h = found_put i earlier r c.args.facts.now c.in-Some.finding h c.in-Some.is c.put_head.ensures c.put_words.ensures c.raw.ensures

pub returns-in_default : goal.returns-in_default
returns-in_default g c i earlier r h = none_found i earlier r c.args.facts.now h c.in_default.is
