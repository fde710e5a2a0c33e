use Rattle.std.proofs.Common.{◌++◌, ◌∙◌, List, ap}
use Rattle.std.specs.List.{range_with_len}
use Rattle.line_model.specs.declared.state.Side.TheVariants.{T, N}
use Rattle.line_model.specs.declared.call.SettingRecord.{SettingRecord}
use Rattle.call_accounts.specs.Counted.{settings_in}
use Rattle.call_accounts.proofs.CountedLemmas.{settings_known}
use Rattle.call_accounts.proofs.counts.CallCounts.settings.Goals as goal

pub returns : goal.returns
returns g c = λ m g.
    let h = c.args.self.now in
    let first : List SettingRecord = settings_in T h.settings_t (range_with_len 1 22) in
    let second : List SettingRecord = settings_in N h.settings_n (range_with_len 1 22) in
    c.in_ok-push_known-2.ensures
    ∙ ap (λ l. l ++ second) (c.in_ok-push_known.ensures ∙ ap (λ l. l ++ first) c.new-settings.ensures.items)
    ∙ settings_known h m g
