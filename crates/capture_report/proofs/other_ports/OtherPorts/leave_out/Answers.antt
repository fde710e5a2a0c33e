-- The pairs without the port are kept.
use Rattle.std.proofs.Common.{rules}
use Rattle.std.specs.Prelude.{not}
use Rattle.std.proofs.lemmas.Map.Made.{filter_same_pairs}
use Rattle.capture_report.specs.PortSights.{has_port}
use Rattle.capture_report.proofs.OtherPortLemmas.{left_out}
use Rattle.capture_report.proofs.other_ports.OtherPorts.leave_out.Goals as goal

pub returns : goal.returns
returns c =
    left_out c.args.port c.self.inside.pairs.entries c.retain.new.self.entries c.self.inside.servers.keys c.args.self.now
    (filter_same_pairs _ (λ e. not (has_port c.args.port e.0)) _ (λ k v b w f t. search rules) c.self.inside.pairs.entries c.retain.new.self.entries c.retain.ensures.filtered) c.self.view_is
