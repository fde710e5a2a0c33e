use Rattle.std.proofs.Common.{arith}
use Rattle.line_model.specs.packets.Says.{item_of, items_of}
use Rattle.line_model.specs.text.Text.{rows_in}
use Rattle.trace_text.proofs.FeedLemmas.{on_ok}
use Rattle.descriptions.specs.CallSums.{findings_at, segments_at}
use Rattle.descriptions.proofs.CallSumLemmas.{added, has_room}
use Rattle.descriptions.proofs.call_table.CallTable.take_row.Goals as goal

pub returns-clause-kept : goal.returns-clause-kept
returns-clause-kept g c i before line r text s lines head row is kept =
    let rs = items_of i (rows_in before) in
    let came = c.in_ok-append_row.ensures.added i before line r text s lines head row is kept.origins in
    let a = came.0 in
    on_ok c.add-2.result _ _ (c.add-2.ensures (has_room i (segments_at i) rs c.args.self.now.segments_t c.append_row.new.self.added.call c.append_row.new.self.added.segments_t kept.segments came.1 a.few_segments))
    (λ put. record {
      origins = c.in_ok-append_row.ensures.kept i before line r text s lines head row is kept.origins;
      findings = added i (findings_at i) rs (item_of i r) c.args.self.now.findings c.add.new.self c.append_row.new.self.added.call c.append_row.new.self.added.findings kept.findings a.call a.findings (omega (arith, a.few_findings))
          (c.in_ok-add.ensures (has_room i (findings_at i) rs c.args.self.now.findings c.append_row.new.self.added.call c.append_row.new.self.added.findings kept.findings came.1 (omega (arith, a.few_findings))));
      segments = added i (segments_at i) rs (item_of i r) c.args.self.now.segments_t c.add-2.new.self c.append_row.new.self.added.call c.append_row.new.self.added.segments_t kept.segments a.call a.segments a.few_segments put;
    })
