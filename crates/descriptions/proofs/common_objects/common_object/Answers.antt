use Rattle.std.proofs.Common.{◌∙◌, ap, sym}
use Rattle.std.proofs.lemmas.Bool.{OnTrue_at}
use Rattle.line_model.specs.observer.Calls.{all_lengths}
use Rattle.line_model.specs.packets.Says.{gap_of}
use Rattle.descriptions.specs.Follows.{is_renewing}
use Rattle.descriptions.specs.Members.{IsText}
use Rattle.descriptions.specs.RowObjects.{named_channel}
use Rattle.descriptions.specs.CommonObjects.{IsCommonObject}
use Rattle.descriptions.proofs.LineLemmas.{if_line, common_line}
use Rattle.descriptions.proofs.common_objects.common_object.Goals as goal

pub returns : goal.returns
returns c =
    let row = c.args.common.now.row.now in
    let events = c.args.common.now.events.now in
    let packet = OnTrue_at c.if-not-is_common.false c.put_packet-is_common.ensures.members in
    let other = ap is_renewing c.in-Channel.is ∙ OnTrue_at c.if-not-is_common.false c.put_packet-is_common.ensures.renews c.in-Channel.channel in
    let gap = ap gap_of c.in-Channel.is ∙ OnTrue_at c.if-not-is_common.false c.put_packet-is_common.ensures.packet c.in-Channel.channel in
    let head = c.put_head.ensures (all_lengths events) c.in-Some.ensures.counted (ap named_channel c.in-Channel.is) in
    if_line (λ object. object.now) (λ bytes. IsText c.args.common.now.digits.now → IsCommonObject row c.args.common.now.epoch c.args.common.now.call events bytes) c.line.result _ c.line.ensures
    (λ bytes is one. common_line row c.args.common.now.epoch c.args.common.now.call events _ _ _ _ _ bytes (sym c.is_quiet.ensures ∙ c.if-not-is_quiet.false) gap other c.in-Some.ensures.quiet c.clear.ensures c.put.ensures (packet one) c.put_call_member.ensures head is)
