-- What was read goes on behind what was read before.
use Rattle.std.proofs.Common.{◌≡◌, rules, Some, false}
use Rattle.capture_report.specs.Headers.{has_packets}
use Rattle.capture_report.specs.Piped.{after_next, reading_of}
use Rattle.capture_report.specs.Records.{Follows, record_view}
use Rattle.capture_report.proofs.PipedLemmas.{started_more, starting_more}
use Rattle.capture_report.proofs.piped.LineStart.read_on.Goals as goal

pub returns-then-has_packets : goal.returns-then-has_packets
returns-then-has_packets g c =
    let is : g.F.Frames.latest c.loop.frames ≡ Some (record_view c.in-Some.record) = search rules in
    let made : reading_of c.read.new.self ≡ after_next (record_view c.in-Some.record) (reading_of c.loop.self) = search rules in
    started_more (g.F.Frames.left c.args.frames.now) (g.F.Frames.latest c.args.frames.now) (g.F.Frames.left c.loop.frames) (g.F.Frames.latest c.loop.frames) (record_view c.in-Some.record) (reading_of c.args.self.now) (reading_of c.loop.self) (reading_of c.read.new.self) c.loop.invariant.read is c.loop.invariant.empty made

pub loop-preserved : goal.loop-preserved
loop-preserved g c =
    let is : g.F.Frames.latest c.loop.frames ≡ Some (record_view c.in-Some.record) = search rules in
    let made : reading_of c.read.new.self ≡ after_next (record_view c.in-Some.record) (reading_of c.loop.self) = search rules in
    let more =
    started_more (g.F.Frames.left c.args.frames.now) (g.F.Frames.latest c.args.frames.now) (g.F.Frames.left c.loop.frames) (g.F.Frames.latest c.loop.frames) (record_view c.in-Some.record) (reading_of c.args.self.now) (reading_of c.loop.self) (reading_of c.read.new.self) c.loop.invariant.read is c.loop.invariant.empty made in
    let follows : Follows (g.F.Frames.left c.loop.frames) (g.F.Frames.left c.advance.new.self) (g.F.Frames.latest c.advance.new.self) = search rules in
    let empty : has_packets c.read.new.self.survey.seen.beginning ≡ false = search rules in
    record {
      read = starting_more (g.F.Frames.left c.args.frames.now) (g.F.Frames.latest c.args.frames.now) (g.F.Frames.left c.loop.frames) (g.F.Frames.left c.advance.new.self) (g.F.Frames.latest c.advance.new.self) (reading_of c.args.self.now) (reading_of c.read.new.self) more follows;
      empty = empty;
    }
