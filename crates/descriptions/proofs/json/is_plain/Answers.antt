use Rattle.std.proofs.Common.{◌∙◌, sym}
use Rattle.descriptions.proofs.MemberLemmas.{not_clear}
use Rattle.descriptions.proofs.ValueLemmas.{plain_more}
use Rattle.descriptions.proofs.json.is_plain.Goals as goal

pub loop-byte-preserved : goal.loop-byte-preserved
loop-byte-preserved c = plain_more c.args.bytes.now c.loop-byte.byte-index _ c.loop-byte-test.true c.loop-byte.invariant (not_clear _ (sym c.needs_escape.ensures ∙ c.if-needs_escape.false))
