-- What is counted of a channel in an epoch.
use Rattle.std.specs.Prelude.{◌≡◌, ℕ, List, sum}
use Rattle.line_model.specs.declared.event.Event.{Event}
use Rattle.line_model.specs.basics.Records.{PieceReport}
use Rattle.line_model.specs.basics.Bounds.{IsPieceReport}
use Rattle.line_model.specs.observer.Calls.{calls_of, all_lengths, segments_of}
use Rattle.line_model.specs.observer.Report.{findings_of}
use Rattle.call_accounts.specs.SoFar as so_far
use Rattle.channel_run.specs.declared.tally.PieceTally.{PieceTally}

-- what is counted is what these events show, all of one channel in one epoch
pub record Counts {A : Type 0} (t : PieceTally A) (epoch channel : ℕ) (es : List Event) : Type 0 where
  pub findings : t.findings.items ≡ findings_of es
  pub calls : so_far.Represents t.calls epoch channel es
  pub octets : t.octets ≡ sum (all_lengths es)
  pub segments : t.segments ≡ segments_of (all_lengths es)

-- the result of the events of a channel in an epoch
abbrev pub piece_result : (id epoch channel : ℕ) → List Event → PieceReport
piece_result id epoch channel es = record {
  id = id;
  epoch = epoch;
  channel = channel;
  findings = findings_of es;
  calls = calls_of es;
  octets = sum (all_lengths es);
  segments = segments_of (all_lengths es);
}

-- it is a possible result of a piece
abbrev pub IsWithin : List Event → Type 0
IsWithin es = IsPieceReport (findings_of es) (calls_of es) (sum (all_lengths es)) (segments_of (all_lengths es))
