use Rattle.std.proofs.Common.{◌∙◌, ap, arith}
use Rattle.command_line.specs.Numbers.{number_of}
use Rattle.command_line.proofs.NumberLemmas.{number_read}
use Rattle.command_line.proofs.matches.short_number_in.Goals as goal

pub returns-in-Some : goal.returns-in-Some
returns-in-Some c = c.ok.ensures.value ∙ number_read 8 c.in-Some.text.now c.parse.result (omega arith) (omega arith) c.parse.ensures.value.0 ∙ ap (number_of 8) c.in-Some.ensures
