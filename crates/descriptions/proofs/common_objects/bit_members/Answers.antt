use Rattle.std.proofs.Common.{false, true}
use Rattle.descriptions.proofs.CommonMembers.{bits_then}
use Rattle.descriptions.proofs.common_objects.bit_members.Goals as goal

pub returns-in-false-false : goal.returns-in-false-false
returns-in-false-false c value v = bits_then value v false false

pub returns-in-false-true : goal.returns-in-false-true
returns-in-false-true c value v = bits_then value v false true

pub returns-in-true-false : goal.returns-in-true-false
returns-in-true-false c value v = bits_then value v true false

pub returns-in-true-true : goal.returns-in-true-true
returns-in-true-true c value v = bits_then value v true true
