-- The reader of circuits that options choose gives the text of the capture.
use Rattle.std.proofs.Common.{◌≡◌, rules, Some}
use Rattle.capture_report.specs.declared.row_source.RowSource.TheVariants.{Xot}
use Rattle.capture_report.proofs.RecordingLemmas.{chosen_circuits}
use Rattle.capture_report.proofs.recordings.Recordings.reader.Goals as goal

pub returns-in-Some-Xot-clause-reader : goal.returns-in-Some-Xot-clause-reader
returns-in-Some-Xot-clause-reader g c =
    let source : c.args.self.now.options.source ≡ Some Xot = search rules in
    chosen_circuits c.circuit_reader.result c.args.self.now.options _ c.args.first c.in_ok-circuits-in-Some-Xot.circuits c.requires c.in_ok-circuits-in-Some-Xot.ensures.read source c.circuit_reader.ensures.reader
