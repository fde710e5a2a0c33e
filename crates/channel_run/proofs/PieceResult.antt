-- What is counted, as a report of it.
use Rattle.std.proofs.Common.{◌≡◌, ℕ, List, sum, sym, subst}
use Rattle.line_model.specs.declared.event.Event.{Event}
use Rattle.line_model.specs.declared.finding.Finding.{Finding}
use Rattle.line_model.specs.basics.Records.{CallRecord, PieceReport}
use Rattle.line_model.specs.basics.Bounds.{IsPieceReport}
use Rattle.line_model.specs.observer.Calls.{calls_of, all_lengths, segments_of}
use Rattle.line_model.specs.observer.Report.{findings_of}
use Rattle.channel_run.specs.Tally.{piece_result, IsWithin}

pub piece_result_is : (id epoch channel : ℕ) (es : List Event) (fs : List Finding) (cs : List CallRecord) (octets segments : ℕ) →
    fs ≡ findings_of es → cs ≡ calls_of es → octets ≡ sum (all_lengths es) → segments ≡ segments_of (all_lengths es) →
    record { id = id; epoch = epoch; channel = channel; findings = fs; calls = cs; octets = octets; segments = segments } ≡ piece_result id epoch channel es
piece_result_is id epoch channel es fs cs octets segments findings calls all whole = λ j. record {
  id = id;
  epoch = epoch;
  channel = channel;
  findings = findings j;
  calls = calls j;
  octets = all j;
  segments = whole j;
}

pub within_is : (es : List Event) (fs : List Finding) (cs : List CallRecord) (octets segments : ℕ) →
    fs ≡ findings_of es → cs ≡ calls_of es → octets ≡ sum (all_lengths es) → segments ≡ segments_of (all_lengths es) →
    IsWithin es → IsPieceReport fs cs octets segments
within_is es fs cs octets segments findings calls all whole within =
    subst (λ (r : PieceReport). IsPieceReport r.findings r.calls r.octets r.segments) (sym (piece_result_is 0 0 0 es fs cs octets segments findings calls all whole)) within
