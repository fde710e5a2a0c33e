use Rattle.std.proofs.Common.{refl}
use Rattle.descriptions.proofs.MemberLemmas.{as_form, nothing_put, text_put, text_then, two_plain}
use Rattle.descriptions.proofs.json.Json.hex.Goals as goal

pub loop-octet-init : goal.loop-octet-init
loop-octet-init g c = nothing_put refl

pub loop-octet-preserved : goal.loop-octet-preserved
loop-octet-preserved g c = text_then c.loop-octet.invariant (as_form (two_plain c.hex_digit.result c.hex_digit-in-loop-octet.result c.hex_digit.ensures c.hex_digit-in-loop-octet.ensures) c.raw-in-loop-octet.ensures)

pub returns : goal.returns
returns g c = text_put c.raw.ensures c.loop-octet.invariant c.raw-2.ensures
