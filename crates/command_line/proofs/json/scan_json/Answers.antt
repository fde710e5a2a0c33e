-- The objects of circuits come behind those of the report.
use Rattle.std.proofs.Common.{◌≡◌, ◌<◌, [], arith}
use Rattle.command_line.specs.Program.{is_followed, lag_of}
use Rattle.command_line.proofs.JsonLemmas.{IsAdded, added_cause, added_refused, added_reported, added_shown}
use Rattle.command_line.proofs.json.scan_json.Goals as goal
use Rattle.command_line.proofs.json.scan_json.Given.{Over}

added : (g : Over) → (c : goal.After-add_circuits g) → IsAdded (g.K.Sink.taken c.scan_lines.new.sink) (g.K.Sink.taken c.add_circuits.new.sink) (g.K.Sink.failures c.scan_lines.new.sink < g.K.Sink.failures c.add_circuits.new.sink) c.in-Ok.summary c.add_circuits.result
added g c = record { added = c.add_circuits.ensures.added; part = c.add_circuits.ensures.part; cause = c.add_circuits.ensures.cause; write = c.add_circuits.ensures.write }

pub returns-in-Ok-clause-shown : goal.returns-in-Ok-clause-shown
returns-in-Ok-clause-shown g c text shown =
    added_shown (lag_of c.args.mode) (is_followed c.args.mode) text (g.S.Source.left c.scan_lines.new.source) (g.S.Source.before c.scan_lines.new.source) (g.K.Sink.taken c.args.sink.now) (g.K.Sink.taken c.scan_lines.new.sink) (g.K.Sink.taken c.add_circuits.new.sink)
    (g.K.Sink.failures c.scan_lines.new.sink ≡ g.K.Sink.failures c.args.sink.now) (g.K.Sink.failures c.add_circuits.new.sink ≡ g.K.Sink.failures c.args.sink.now) (g.K.Sink.failures c.scan_lines.new.sink < g.K.Sink.failures c.add_circuits.new.sink)
    c.in-Ok.summary c.add_circuits.result (added g c) (λ more same. omega (arith, more, same, c.in-Ok.ensures.rising)) (c.in-Ok.ensures.shown text shown)

pub returns-in-Ok-clause-reported : goal.returns-in-Ok-clause-reported
returns-in-Ok-clause-reported g c =
    added_reported (g.K.Sink.taken c.args.sink.now) (g.K.Sink.taken c.scan_lines.new.sink) (g.K.Sink.taken c.add_circuits.new.sink) (g.K.Sink.failures c.scan_lines.new.sink < g.K.Sink.failures c.add_circuits.new.sink) c.in-Ok.summary c.add_circuits.result (added g c)
    c.in-Ok.ensures.reported

pub returns-in-Ok-clause-refused : goal.returns-in-Ok-clause-refused
returns-in-Ok-clause-refused g c text shown =
    added_refused (lag_of c.args.mode) text (g.S.Source.left c.scan_lines.new.source) (g.S.Source.before c.scan_lines.new.source) (g.K.Sink.taken c.scan_lines.new.sink) (g.K.Sink.taken c.add_circuits.new.sink) (g.K.Sink.failures c.scan_lines.new.sink < g.K.Sink.failures c.add_circuits.new.sink)
    c.in-Ok.summary c.add_circuits.result (added g c)

pub returns-in-Ok-clause-cause : goal.returns-in-Ok-clause-cause
returns-in-Ok-clause-cause g c =
    added_cause (g.K.Sink.taken c.scan_lines.new.sink) (g.K.Sink.taken c.add_circuits.new.sink) (g.K.Sink.failures c.scan_lines.new.sink < g.K.Sink.failures c.add_circuits.new.sink) _ _ _ c.in-Ok.summary c.add_circuits.result (added g c)
    (λ more. omega (arith, more, c.in-Ok.ensures.rising))

pub returns-in-Err-clause-shown : goal.returns-in-Err-clause-shown
returns-in-Err-clause-shown g c text shown = ([], c.in-Err.ensures.shown text shown)

pub returns-in-Err-clause-reported : goal.returns-in-Err-clause-reported
returns-in-Err-clause-reported g c = ([], c.in-Err.ensures.reported)
