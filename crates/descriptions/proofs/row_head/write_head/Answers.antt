use Rattle.std.proofs.Common.{◌∙◌, sym}
use Rattle.descriptions.proofs.ObjectLemmas.{gap_is, packet_is}
use Rattle.descriptions.proofs.ValueLemmas.{these_same}
use Rattle.descriptions.proofs.row_head.write_head.Goals as goal

pub returns-in-Some : goal.returns-in-Some
returns-in-Some g c i earlier r h = these_same (gap_is i earlier r c.args.facts.now c.in-Some.channel h (sym c.gap_of.ensures ∙ c.in-Some.is)) c.write_gap.ensures

pub returns-in-None : goal.returns-in-None
returns-in-None g c i earlier r h = these_same (packet_is i earlier r c.args.facts.now h (sym c.gap_of.ensures ∙ c.in-None.is)) (c.write_packet.ensures i earlier r h)
