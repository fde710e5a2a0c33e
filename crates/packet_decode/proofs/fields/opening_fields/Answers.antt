use Rattle.std.proofs.lemmas.Grind.{elements, common_steps}
use Rattle.std.proofs.Common.{arith, rules}
use Rattle.packet_decode.proofs.fields.opening_fields.Goals as goal

pub returns-then-octets-lt4-clause-fault : goal.returns-then-octets-lt4-clause-fault
returns-then-octets-lt4-clause-fault c = search rules

pub returns-clause-fields : goal.returns-clause-fields
returns-clause-fields c = grind (arith, elements) steps 2000000

pub returns-clause-usable : goal.returns-clause-usable
returns-clause-usable c = grind (arith, elements) steps 2000000

pub returns-then-octets-ge128-clause-fault : goal.returns-then-octets-ge128-clause-fault
returns-then-octets-ge128-clause-fault c = grind (arith, common_steps)

pub returns-clause-fault : goal.returns-clause-fault
returns-clause-fault c = grind (arith, common_steps)
