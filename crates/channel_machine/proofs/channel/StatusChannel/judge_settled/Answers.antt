use Rattle.std.proofs.Common.{◌∙◌}
use Rattle.line_model.specs.channels.GapStep.{completed_for_data}
use Rattle.channel_machine.proofs.SettledData.{mismatched, misnumbered, mixed_at, sequences_for_data}
use Rattle.channel_machine.proofs.channel.StatusChannel.judge_settled.Goals as goal

pub returns-in-Err-clause-judged : goal.returns-in-Err-clause-judged
returns-in-Err-clause-judged g c k p same st =
    let i = c.args.self.now.terms.interface in
    misnumbered c.in-Err.code i c.args.settled.now.doubts c.args.side c.args.header.now p k
    (c.in-Err.ensures.numbers i k st.numbers (c.window-window.ensures.window k st.rest) c.window-window.ensures.below)

pub returns-then-is_mixed-clause-judged : goal.returns-then-is_mixed-clause-judged
returns-then-is_mixed-clause-judged g c k p same st =
    let i = c.args.self.now.terms.interface in
    let s = c.args.settled.now in
    let x = c.args.side in
    let h = c.args.header.now in
    mismatched c.in-Ok.flow i s.doubts x h p k (c.in-Ok.ensures.numbers i k st.numbers (c.window-window.ensures.window k st.rest) c.window-window.ensures.below)
    (mixed_at c.is_mixed.result i s x h p k (c.is_mixed.ensures i (completed_for_data i.modulus s.doubts x h k) p same (sequences_for_data i s x h k st.numbers st.sequences)) ∙ c.if-is_mixed.true)

pub returns-else-is_mixed-clause-judged : goal.returns-else-is_mixed-clause-judged
returns-else-is_mixed-clause-judged g c k p same st =
    let i = c.args.self.now.terms.interface in
    let s = c.args.settled.now in
    let x = c.args.side in
    let h = c.args.header.now in (
      c.in-Ok.ensures.numbers i k st.numbers (c.window-window.ensures.window k st.rest) c.window-window.ensures.below,
      mixed_at c.is_mixed.result i s x h p k (c.is_mixed.ensures i (completed_for_data i.modulus s.doubts x h k) p same (sequences_for_data i s x h k st.numbers st.sequences)) ∙ c.if-is_mixed.false,
    )
