-- All was given, and more text was made.
use Rattle.std.proofs.Common.{◌≤◌, length, rules}
use Rattle.capture_report.specs.Traces.{page_of}
use Rattle.capture_report.proofs.GivingLemmas.{ready_filled}
use Rattle.capture_report.proofs.trace.refill.Goals as goal

pub returns-clause-ready : goal.returns-clause-ready
returns-clause-ready g c =
    let all : length (page_of c.args.reader.now).text ≤ c.args.to = search rules in
    ready_filled (g.F.Frames.left c.args.frames.now) (g.F.Frames.left c.fill.new.frames) c.args.reader.now c.clear.new.self c.fill.new.reader c.args.to all c.clear.ensures c.in_ok-fill.ensures
