-- Words that are read ask for these options, and those with a fault for none.
use Rattle.std.proofs.Common.{map, subst}
use Rattle.command_line.specs.Asked.{AskedWords}
use Rattle.x25scan.specs.Captures.{AsksOptions}
use Rattle.x25scan.proofs.CaptureLemmas.{refused_words}
use Rattle.x25scan.proofs.capture_options.Goals as goal

pub returns-in-Ok-clause-asked : goal.returns-in-Ok-clause-asked
returns-in-Ok-clause-asked c = subst (λ (asked : AskedWords). AsksOptions asked c.options_of.result) c.in-Ok.ensures.asked c.options_of.ensures

pub returns-in-Err-clause-asked : goal.returns-in-Err-clause-asked
returns-in-Err-clause-asked c = refused_words (map (λ word. word.now) c.args.words.now) c.in-Err.error c.refused_options.result c.in-Err.ensures.kinds c.refused_options.ensures.kind
