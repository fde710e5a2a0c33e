use Rattle.std.proofs.Common.{ap, decimal, sym}
use Rattle.descriptions.specs.FindingLines.{follows_words}
use Rattle.descriptions.proofs.ValueLemmas.{these_same, these_then}
use Rattle.descriptions.proofs.finding_words.put_follows.Goals as goal

pub returns-in-Some : goal.returns-in-Some
returns-in-Some g c = these_same (ap follows_words (sym c.in-Some.is)) (these_then c.raw.ensures (these_same (ap decimal c.from.ensures) c.number.ensures))
