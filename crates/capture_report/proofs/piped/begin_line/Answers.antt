-- What was read up to the first packet, and the reader of the rest.
use Rattle.std.proofs.Common.{rules}
use Rattle.capture_report.specs.Piped.{IsStarted, reading_of}
use Rattle.capture_report.proofs.PipedLemmas.{line_begun_if}
use Rattle.capture_report.proofs.piped.begin_line.Goals as goal

pub returns-in-Ok-clause-reader : goal.returns-in-Ok-clause-reader
returns-in-Ok-clause-reader g c =
    let started : IsStarted c.args.frames.now.left c.args.frames.now.latest c.read_on.new.frames.left (reading_of c.in_ok-start.start) (reading_of c.read_on.new.self) = search rules in
    line_begun_if c.into_reader.result c.args.options.now c.args.frames.now.left c.args.frames.now.latest c.read_on.new.frames.left (reading_of c.in_ok-start.start) (reading_of c.read_on.new.self) c.in_ok-start.ensures.start started c.into_reader.ensures.packets c.into_reader.ensures.text
