use Rattle.std.proofs.Common.{sym, subst}
use Rattle.descriptions.specs.Members.{IsValue}
use Rattle.descriptions.proofs.MemberLemmas.{as_form, flag_value, member_put}
use Rattle.descriptions.proofs.json.Json.flag_member.Goals as goal

pub returns : goal.returns
returns g c = member_put c.begin.ensures (as_form (subst IsValue (sym c.flag_word.ensures) (flag_value c.args.is_set)) c.raw.ensures)
