-- What came next was seen: the frames that were dropped, and then its frame.
use Rattle.capture_report.specs.CircuitSights.{sight_in}
use Rattle.capture_report.specs.Records.{record_view}
use Rattle.capture_report.specs.Segments.{reader_of}
use Rattle.capture_report.proofs.CircuitReadingLemmas.{seen_record}
use Rattle.capture_report.proofs.circuit_reading.CircuitPass.see.Goals as goal

pub returns-clause-seen : goal.returns-clause-seen
returns-clause-seen c =
    seen_record c.see_frame.result (record_view c.args.record.now) (reader_of c.args.self.now.frames) (reader_of c.see_dropped.new.self.frames) (sight_in c.args.self.now.circuits) (sight_in c.see_dropped.new.self.circuits)
    (sight_in c.see_frame.new.self.circuits) c.see_dropped.ensures.reader c.in_ok-see_dropped.ensures.seen c.see_frame.ensures.seen
