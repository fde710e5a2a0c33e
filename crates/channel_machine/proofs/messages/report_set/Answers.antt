use Rattle.std.proofs.Common.{◌≡◌, ◌∙◌, ◌++◌, ap, arith, false}
use Rattle.std.specs.Prelude.{map, flat_map}
use Rattle.pad.specs.Effects.{asked_one}
use Rattle.pad.specs.MessageEvents.{set_events, set_events_by}
use Rattle.channel_machine.specs.Events.{event_at}
use Rattle.channel_machine.proofs.PairCounts.{few_pairs}
use Rattle.channel_machine.proofs.Settings.{asked_all}
use Rattle.channel_machine.proofs.messages.report_set.Goals as goal

pub report_asked-requires : goal.report_asked-requires
report_asked-requires g c = omega (arith, c.requires.room, c.requires.short, few_pairs false c.args.octets.now c.new.result c.new.ensures)

pub returns-else-is_empty : goal.returns-else-is_empty
returns-else-is_empty g c =
    let all : flat_map (asked_one c.args.pad) c.new.result ≡ set_events c.args.pad c.args.octets.now =
    asked_all c.args.pad c.args.octets.now c.new.result c.new.ensures ∙ ap (λ b. set_events_by b c.args.pad c.args.octets.now) c.if-is_empty.ensures in
    c.report_asked.ensures ∙ ap (λ ws. c.args.events.now.items ++ map (event_at c.args.origin) ws) all
