use Rattle.std.proofs.Common.{sym}
use Rattle.pad.proofs.Walked.{set_all}
use Rattle.pad.proofs.settings.Settings.set.Goals as goal

pub returns-then-is_refused-clause-has_entries : goal.returns-then-is_refused-clause-has_entries
returns-then-is_refused-clause-has_entries c = set_all c.args.self.now c.ask.new.self c.args.octets.now _ (sym c.if-is_empty.ensures) c.new.ensures c.ask.ensures.has_entries

pub returns-else-is_refused-clause-has_entries : goal.returns-else-is_refused-clause-has_entries
returns-else-is_refused-clause-has_entries c = set_all c.args.self.now c.ask.new.self c.args.octets.now _ (sym c.if-is_empty.ensures) c.new.ensures c.ask.ensures.has_entries
