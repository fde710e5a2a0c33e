use Rattle.std.proofs.Common.{◌++◌, ◌∙◌, sym, ap, arith, true}
use Rattle.std.specs.Prelude.{map}
use Rattle.pad.specs.MessageEvents.{set_events}
use Rattle.channel_machine.specs.Events.{event_at}
use Rattle.channel_machine.proofs.PairCounts.{few_pairs}
use Rattle.channel_machine.proofs.Settings.{indicated_all}
use Rattle.channel_machine.proofs.Kept.{settings_indicated, settings_set, settings_set_and_read}
use Rattle.channel_machine.proofs.messages.report_settings.Goals as goal

pub report_indicated-requires : goal.report_indicated-requires
report_indicated-requires g c = omega (arith, c.requires.room, c.requires.short, few_pairs true c.args.message.now.pairs.now c.new.result c.new.ensures)

pub returns-in-Indication : goal.returns-in-Indication
returns-in-Indication g c =
    c.report_indicated.ensures ∙ ap (λ ws. c.args.events.now.items ++ map (event_at c.args.origin) ws)
    (indicated_all c.args.from c.args.message.now.pairs.now c.new.result c.new.ensures
    ∙ sym (settings_indicated c.args.from c.args.message.now.code c.args.message.now.pairs.now c.in-Indication.is))

pub returns-in-Set : goal.returns-in-Set
returns-in-Set g c =
    c.report_set.ensures ∙ ap (λ ws. c.args.events.now.items ++ map (event_at c.args.origin) ws)
    (ap (λ p. set_events p c.args.message.now.pairs.now) c.other.ensures
    ∙ sym (settings_set c.args.from c.args.message.now.code c.args.message.now.pairs.now c.in-Set.is))

pub returns-in-SetAndRead : goal.returns-in-SetAndRead
returns-in-SetAndRead g c =
    c.report_set-in-SetAndRead.ensures ∙ ap (λ ws. c.args.events.now.items ++ map (event_at c.args.origin) ws)
    (ap (λ p. set_events p c.args.message.now.pairs.now) c.other-in-SetAndRead.ensures
    ∙ sym (settings_set_and_read c.args.from c.args.message.now.code c.args.message.now.pairs.now c.in-SetAndRead.is))
