-- The ports that come next are named after those that were.
use Rattle.std.proofs.Common.{◌-◌, ◌++◌, List}
use Rattle.capture_report.specs.OtherPorts.{AreNamed}
use Rattle.capture_report.specs.declared.other_ports.NamedPort.{NamedPort}
use Rattle.capture_report.proofs.other_ports.OtherPorts.named.Given as goal

abbrev pub invariant-loop : goal.invariant-loop
invariant-loop l = (next : List NamedPort) → AreNamed (l.fn.most - l.counter) l.self next → AreNamed l.fn.most l.fn.self (l.ports.items ++ next)
