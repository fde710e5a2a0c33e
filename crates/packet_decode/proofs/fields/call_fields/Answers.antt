use Rattle.std.proofs.lemmas.Grind.{common_steps}
use Rattle.std.proofs.Common.{arith}
use Rattle.packet_decode.proofs.fields.call_fields.Goals as goal

pub bounds-octets-2 : goal.bounds-octets-2
bounds-octets-2 c = grind (arith, common_steps)

pub accepting_fields-requires : goal.accepting_fields-requires
accepting_fields-requires c = grind (arith, common_steps)

pub returns-then-octets-eq11-clause-fault : goal.returns-then-octets-eq11-clause-fault
returns-then-octets-eq11-clause-fault c = grind (arith, common_steps)

pub returns-else-octets-eq11-clause-fault : goal.returns-else-octets-eq11-clause-fault
returns-else-octets-eq11-clause-fault c = grind (arith, common_steps)
