use Rattle.std.proofs.Common.{◌∙◌}
use Rattle.channel_run.proofs.PieceResult.{piece_result_is, within_is}
use Rattle.channel_run.proofs.tally.PieceTally.report.Goals as goal

pub returns-clause-piece_result : goal.returns-clause-piece_result
returns-clause-piece_result g c es h =
    piece_result_is c.args.id c.args.epoch c.args.channel es c.in_ok-from_slice.field-0.items c.in_ok-calls.field-0.items c.args.self.now.octets c.args.self.now.segments
    (c.in_ok-from_slice.ensures.items ∙ c.deref.ensures.value ∙ h.findings) (c.in_ok-calls.ensures.calls c.args.epoch c.args.channel es h.calls) h.octets h.segments

pub invariant_of-result : goal.invariant_of-result
invariant_of-result g c =
    let (es, h, within) = c.requires.within in
    within_is es c.in_ok-from_slice.field-0.items c.in_ok-calls.field-0.items c.args.self.now.octets c.args.self.now.segments
    (c.in_ok-from_slice.ensures.items ∙ c.deref.ensures.value ∙ h.findings) (c.in_ok-calls.ensures.calls c.args.epoch c.args.channel es h.calls) h.octets h.segments within
