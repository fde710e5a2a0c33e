-- What the source names are the recordings of the system's files.
use Rattle.std.proofs.Common.{map, refl}
use Rattle.command_line.specs.Asked.{asked_of}
use Rattle.x25scan.proofs.CaptureLemmas.{prints, reports}
use Rattle.x25scan.proofs.run_over.Goals as goal

pub returns-clause-reported : goal.returns-clause-reported
returns-clause-reported g c =
    let recordings = c.args.source.now.system.now in
    reports _ g.K.Sink g.E.Sink recordings.options _ (g.O.Opener.named recordings.system) (λ name. refl) (asked_of (map (λ word. word.now) c.args.words.now)) c.args.source.now c.program.new.source c.args.sink.now c.program.new.sink c.args.errors.now c.program.new.errors c.program.result c.program.ensures.answered

pub returns-clause-printed : goal.returns-clause-printed
returns-clause-printed g c =
    let recordings = c.args.source.now.system.now in
    prints _ g.K.Sink g.E.Sink recordings.options _ (g.O.Opener.named recordings.system) (λ name. refl) (asked_of (map (λ word. word.now) c.args.words.now)) c.args.source.now c.program.new.source c.args.sink.now c.program.new.sink c.args.errors.now c.program.new.errors c.program.result c.program.ensures.answered
