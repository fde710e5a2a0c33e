use Rattle.std.proofs.Common.{Option, List, ℕ}
use Rattle.header_trials.proofs.tried_lines.write_lines.Goals as goal

pub returns-clause-ok : goal.returns-clause-ok
returns-clause-ok g c =
    let before : Option (List ℕ) × ℕ = (g.W.Sink.taken c.args.sink.now, g.W.Sink.failures c.args.sink.now) in
    c.end.ensures.ok before _ (c.put_lines.ensures before _ (c.put.ensures before _ (c.new-out.ensures.nothing before)))

pub returns-clause-part : goal.returns-clause-part
returns-clause-part g c =
    let before : Option (List ℕ) × ℕ = (g.W.Sink.taken c.args.sink.now, g.W.Sink.failures c.args.sink.now) in
    c.end.ensures.part before _ (c.put_lines.ensures before _ (c.put.ensures before _ (c.new-out.ensures.nothing before)))

pub returns-clause-cause : goal.returns-clause-cause
returns-clause-cause g c =
    let before : Option (List ℕ) × ℕ = (g.W.Sink.taken c.args.sink.now, g.W.Sink.failures c.args.sink.now) in
    c.end.ensures.cause before _ (c.put_lines.ensures before _ (c.put.ensures before _ (c.new-out.ensures.nothing before)))
