-- The host of the address that was parsed.
use Rattle.std.proofs.Common.{◌≡◌, ◌∙◌, ap, rules, Ok, Some}
use Rattle.command_line.proofs.HostLemmas.{host_parsed}
use Rattle.command_line.proofs.capture_words.host_named.Goals as goal

pub returns-in-Ok : goal.returns-in-Ok
returns-in-Ok c =
    let is : c.parse.result ≡ Ok c.in-Ok.address = search rules in
    ap Some c.host_of.ensures ∙ host_parsed c.args.text.now c.parse.result c.in-Ok.address c.parse.ensures.value is
