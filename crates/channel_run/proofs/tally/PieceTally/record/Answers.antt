use Rattle.std.proofs.Common.{List, [], ◌∷◌}
use Rattle.line_model.specs.declared.event.Event.{Event}
use Rattle.channel_run.proofs.LiveLemmas.{findings_added, octets_added, segments_added}
use Rattle.channel_run.proofs.tally.PieceTally.record.Goals as goal

pub returns-clause-recorded : goal.returns-clause-recorded
returns-clause-recorded g c = λ epoch channel es h of few.
    let vs : List Event = c.args.event.now ∷ [] in
    let self = c.args.self.now in
    record {
      findings = findings_added es vs self.findings.items c.push_finding.new.findings.items h.findings c.in_ok-push_finding.ensures.finding;
      calls = c.in_ok-add_event.ensures.added epoch channel es h.calls of few;
      octets = octets_added es vs self.octets c.octets_in.result c.saturating_add-self.result h.octets c.octets_in.ensures c.saturating_add-self.ensures few;
      segments = segments_added es vs self.segments c.segments_in-segments.result c.saturating_add-self-2.result h.segments c.segments_in-segments.ensures c.saturating_add-self-2.ensures few;
    }
