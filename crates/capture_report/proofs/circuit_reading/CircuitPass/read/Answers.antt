-- All was seen up to the end.
use Rattle.std.proofs.Common.{◌≡◌, false, rules, subst, true}
use Rattle.capture_report.specs.CircuitReadings.{IsPassedOn}
use Rattle.capture_report.specs.CircuitSights.{first_circuit_sight}
use Rattle.capture_report.specs.Circuits.{rule_of}
use Rattle.capture_report.specs.Segments.{new_reader}
use Rattle.capture_report.proofs.CircuitReadingLemmas.{passed_all, passed_more}
use Rattle.capture_report.proofs.circuit_reading.CircuitPass.read.Goals as goal

pub returns-then-not-branch : goal.returns-then-not-branch
returns-then-not-branch g c =
    let end : c.in_ok-read_next.field-0 ≡ false = search rules in
    passed_all (g.F.Frames.left c.args.frames.now) (g.F.Frames.left c.loop.frames) (g.F.Frames.left c.read_next.new.frames) c.args.options.now c.loop.pass c.read_next.new.self c.loop.invariant
    (subst (IsPassedOn (g.F.Frames.left c.loop.frames) (g.F.Frames.left c.read_next.new.frames) c.loop.pass c.read_next.new.self) end c.in_ok-read_next.ensures)

pub loop-preserved : goal.loop-preserved
loop-preserved g c =
    let more : c.in_ok-read_next.field-0 ≡ true = search rules in
    passed_more (g.F.Frames.left c.args.frames.now) (g.F.Frames.left c.loop.frames) (g.F.Frames.left c.read_next.new.frames) (new_reader c.args.options.now) (first_circuit_sight (rule_of c.args.options.now)) c.loop.pass c.read_next.new.self
    c.loop.invariant (subst (IsPassedOn (g.F.Frames.left c.loop.frames) (g.F.Frames.left c.read_next.new.frames) c.loop.pass c.read_next.new.self) more c.in_ok-read_next.ensures)
