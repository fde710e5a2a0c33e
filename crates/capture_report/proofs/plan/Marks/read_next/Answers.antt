-- What comes next is read, and was seen.
use Rattle.std.proofs.Common.{◌≡◌, Some, rules}
use Rattle.std.specs.Option.{option_map}
use Rattle.capture_rows.specs.Lines.{read_view}
use Rattle.capture_report.specs.Records.{record_view}
use Rattle.capture_report.specs.Rows.{record_shown}
use Rattle.capture_report.proofs.ReadingLemmas.{seen_next}
use Rattle.capture_report.proofs.plan.Marks.read_next.Goals as goal

pub returns-clause-seen : goal.returns-clause-seen
returns-clause-seen g c =
    let next = record_view c.in-Some.record in
    let line = c.args.line.now in
    let is : g.F.Frames.latest c.advance.new.self ≡ Some next = search rules in
    let shown : c.deref.result.now ≡ record_shown next line = search rules in
    seen_next (g.F.Frames.left c.args.frames.now) (g.F.Frames.left c.advance.new.self) (g.F.Frames.latest c.advance.new.self) line c.read_record.new.line c.args.survey.now c.see_dropped.new.self c.see.new.self next c.deref.result.now
    (option_map read_view c.in_ok-read.read) c.in_ok-advance.ensures.given is c.in_ok-read.ensures.after shown c.in_ok-read.ensures.read c.in_ok-see_dropped.ensures c.in_ok-see.ensures
