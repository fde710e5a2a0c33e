use Rattle.std.proofs.Common.{sym, ◌∙◌, ap}
use Rattle.std.specs.Prelude.{is_none, option_map}
use Rattle.line_model.specs.basics.Records.{Item}
use Rattle.line_model.specs.packets.Says.{gap_of}
use Rattle.channel_machine.proofs.GapRows.{no_gap}
use Rattle.channel_machine.proofs.gaps.channel.GapChannel.handle_rarely.Goals as goal

pub handle_in_doubt-requires-clause-packet : goal.handle_in_doubt-requires-clause-packet
handle_in_doubt-requires-clause-packet g c =
    no_gap (gap_of c.args.item.now.packet) (sym c.in-None.is ∙ c.gap_in.ensures ∙ ap (λ (r : Item). option_map (λ c. is_none c) (gap_of r.packet)) c.item.view_is)

pub handle_in_doubt-requires-clause-doubt : goal.handle_in_doubt-requires-clause-doubt
handle_in_doubt-requires-clause-doubt g c certain =
    c.requires.rare certain (no_gap (gap_of c.args.item.now.packet) (sym c.in-None.is ∙ c.gap_in.ensures ∙ ap (λ (r : Item). option_map (λ c. is_none c) (gap_of r.packet)) c.item.view_is))

pub returns-in-None-clause-does : goal.returns-in-None-clause-does
returns-in-None-clause-does g c k rep = c.handle_in_doubt.ensures.does k rep
