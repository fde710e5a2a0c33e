use Rattle.descriptions.specs.Members.{Null, Number}
use Rattle.descriptions.proofs.MemberLemmas.{as_form}
use Rattle.descriptions.proofs.ValueLemmas.{quoted_value}
use Rattle.descriptions.proofs.json.Json.value.Goals as goal

pub returns-in-Null-clause-value : goal.returns-in-Null-clause-value
returns-in-Null-clause-value g c = as_form Null c.raw.ensures

pub returns-in-Number-clause-value : goal.returns-in-Number-clause-value
returns-in-Number-clause-value g c = as_form (Number _) c.number.ensures

pub returns-in-Word-clause-value : goal.returns-in-Word-clause-value
returns-in-Word-clause-value g c = as_form (quoted_value c.in-Word.word.now) c.quoted.ensures

pub returns-in-Text-clause-value : goal.returns-in-Text-clause-value
returns-in-Text-clause-value g c = as_form (quoted_value c.in-Text.text.now) c.quoted-in-Text.ensures
