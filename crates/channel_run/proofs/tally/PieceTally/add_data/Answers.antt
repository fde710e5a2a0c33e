use Rattle.std.proofs.Common.{◌∙◌, sym, List, [], ◌∷◌}
use Rattle.line_model.specs.declared.event.Event.{Event}
use Rattle.channel_run.proofs.LiveLemmas.{data_finds_nothing, data_octets, data_segments, findings_added, octets_added, segments_added}
use Rattle.channel_run.proofs.tally.PieceTally.add_data.Goals as goal

pub returns : goal.returns
returns g c epoch channel es e h of is few =
    let vs : List Event = e ∷ [] in
    let self = c.args.self.now in
    let x = c.args.side in
    let n = c.args.octets in
    record {
      findings = findings_added es vs self.findings.items self.findings.items h.findings (data_finds_nothing e x n self.findings.items is);
      calls = c.add_data.ensures epoch channel es e h.calls of is c.segments_for-segments.ensures few;
      octets = octets_added es vs self.octets c.from.result c.saturating_add-self.result h.octets (c.from.ensures ∙ data_octets e x n is) c.saturating_add-self.ensures few;
      segments = segments_added es vs self.segments c.segments_for-segments.result c.saturating_add-self-2.result h.segments (c.segments_for-segments.ensures ∙ sym (data_segments e x n is)) c.saturating_add-self-2.ensures few;
    }
