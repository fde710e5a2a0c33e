-- What comes next is read, and the rows of the rest are those of the reader after it.
use Rattle.capture_report.specs.Records.{record_view}
use Rattle.capture_report.proofs.CircuitReaderLemmas.{circuits_go_on, line_goes_on}
use Rattle.capture_report.proofs.reader.Reader.read.Goals as goal

pub returns-in-Line-clause-rest : goal.returns-in-Line-clause-rest
returns-in-Line-clause-rest c = line_goes_on c.read.result c.args.self.now c.in-Line.reader c.read.new.self (record_view c.args.record.now) c.in-Line.is c.read.ensures.line c.read.ensures.order

pub returns-in-Circuits-clause-rest : goal.returns-in-Circuits-clause-rest
returns-in-Circuits-clause-rest c =
    circuits_go_on c.read-in-Circuits.result c.args.self.now c.in-Circuits.reader c.read-in-Circuits.new.self (record_view c.args.record.now) c.in-Circuits.is c.read-in-Circuits.ensures.frames c.read-in-Circuits.ensures.page
