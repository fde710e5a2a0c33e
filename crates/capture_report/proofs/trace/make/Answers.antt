-- What came next is read, or what comes at the end, and its text was made.
use Rattle.std.proofs.Common.{◌≡◌, None, Some, rules}
use Rattle.capture_report.specs.Records.{record_view}
use Rattle.capture_report.proofs.GivingLemmas.{end_made, read_made}
use Rattle.capture_report.proofs.trace.make.Goals as goal

pub returns-in-Ok-finish : goal.returns-in-Ok-finish
returns-in-Ok-finish g c =
    let is : g.F.Frames.latest c.advance.new.self ≡ None = search rules in
    end_made (g.F.Frames.left c.args.frames.now) (g.F.Frames.left c.advance.new.self) (g.F.Frames.latest c.advance.new.self) c.args.reader.now c.finish.new.self c.in-Ok.ensures.given is c.in-Ok-finish.ensures.page c.in-Ok-finish.ensures.rest

pub returns-in-Ok-read : goal.returns-in-Ok-read
returns-in-Ok-read g c =
    let is : g.F.Frames.latest c.advance.new.self ≡ Some (record_view c.in-Some.record) = search rules in
    read_made (g.F.Frames.left c.args.frames.now) (g.F.Frames.left c.advance.new.self) (g.F.Frames.latest c.advance.new.self) c.args.reader.now c.read.new.self (record_view c.in-Some.record) c.in-Ok.ensures.given is c.in-Ok-read.ensures.page
    c.in-Ok-read.ensures.rest
