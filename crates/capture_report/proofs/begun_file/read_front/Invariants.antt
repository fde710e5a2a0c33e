-- The octets that were read are those that the file has lost.
use Rattle.std.proofs.Common.{◌≡◌, length}
use Rattle.std.specs.Io.KnownBytes.{Consumes}
use Rattle.capture_report.proofs.begun_file.read_front.Given as goal

abbrev pub invariant-loop : goal.invariant-loop
invariant-loop g l = record {
  consumed : Consumes (g.F.Read.remaining l.fn.file) (g.F.Read.remaining l.file) l.front.items;
  many : length l.front.items ≡ l.counter;
}
