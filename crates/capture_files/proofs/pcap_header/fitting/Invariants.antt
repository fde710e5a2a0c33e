-- The headers before did not fit.
use Rattle.std.proofs.Common.{◌≡◌, drop}
use Rattle.capture_files.specs.PcapHeaders.{first_fitting}
use Rattle.capture_files.proofs.pcap_header.fitting.Given as goal

abbrev pub invariant-loop-header : goal.invariant-loop-header
invariant-loop-header l = first_fitting l.form (drop l.header-index l.headers) l.octets l.is_end ≡ first_fitting l.form l.headers l.octets l.is_end
