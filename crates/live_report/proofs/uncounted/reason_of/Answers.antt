use Rattle.std.proofs.Common.{◌∙◌, false, sym}
use Rattle.live_report.proofs.UncountedLemmas.{of_data, on_channel, on_restart}
use Rattle.live_report.proofs.uncounted.reason_of.Goals as goal

pub returns-in-Channel : goal.returns-in-Channel
returns-in-Channel c i earlier r l = on_channel i earlier r c.args.row.now c.args.events.now _ _ _ _ c.reason_on.result l (sym c.is_data.ensures ∙ c.if-not-is_data.false) c.in-Channel.is c.reason_on.ensures

pub returns-then-not-is_data : goal.returns-then-not-is_data
returns-then-not-is_data c i earlier r l = of_data i earlier r c.args.row.now c.args.events.now l false (sym c.is_data.ensures ∙ c.if-not-is_data.true)

pub returns-in-Restart : goal.returns-in-Restart
returns-in-Restart c i earlier r l = on_restart i earlier r c.args.row.now c.args.events.now _ _ l (sym c.is_data.ensures ∙ c.if-not-is_data.false) c.in-Restart.is
