use Rattle.std.proofs.Common.{◌++◌, subst}
use Rattle.std.specs.Prelude.{codes}
use Rattle.descriptions.specs.Writing.{Adds, These}
use Rattle.descriptions.proofs.ValueLemmas.{these_then}
use Rattle.descriptions.proofs.row_members.call_member.Goals as goal

pub returns : goal.returns
returns g c = subst (λ word. Adds g.O.Out.has (These (codes ",\"call\":" ++ word)) c.args.json.now.out c.value.new.self.out) c.call_value.ensures (these_then c.raw.ensures c.value.ensures.written)
