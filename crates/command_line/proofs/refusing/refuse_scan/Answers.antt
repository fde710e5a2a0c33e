use Rattle.command_line.proofs.StopLemmas.{said_of}
use Rattle.command_line.proofs.refusing.refuse_scan.Goals as goal

pub returns-in_default-clause-said : goal.returns-in_default-clause-said
returns-in_default-clause-said g c = said_of c.args.fault _ _ _ c.in_default.not-Write c.print_lines.ensures
