use Rattle.std.proofs.lemmas.Grind.{common_steps}
use Rattle.std.proofs.Common.{arith}
use Rattle.packet_decode.proofs.fields.read_addresses.Goals as goal

pub returns-in_default-clause-fault : goal.returns-in_default-clause-fault
returns-in_default-clause-fault c = grind (arith, common_steps) steps 2000000

pub returns-in_default-address-clause-fault : goal.returns-in_default-address-clause-fault
returns-in_default-address-clause-fault c = grind (arith, common_steps) steps 2000000

pub returns-clause-addresses : goal.returns-clause-addresses
returns-clause-addresses c = grind (arith, common_steps) steps 2000000

pub returns-clause-fault : goal.returns-clause-fault
returns-clause-fault c = grind (arith, common_steps) steps 2000000
