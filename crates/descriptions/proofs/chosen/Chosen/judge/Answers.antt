use Rattle.std.proofs.Common.{◌∙◌, ap, subst}
use Rattle.std.specs.Prelude.{MatchOption}
use Rattle.live_report.specs.JudgedRows.{IsJudgedRow}
use Rattle.annotated_trace.specs.Rows.{chooses, is_of_call}
use Rattle.descriptions.proofs.ChoiceLemmas.{some_one}
use Rattle.descriptions.proofs.chosen.Chosen.judge.Goals as goal

pub returns-in_default-clause-picked : goal.returns-in_default-clause-picked
returns-in_default-clause-picked g c i before r f number walked = absurd (some_one c.last_row.result (λ l. IsJudgedRow i before r l.now c.args.observer.now.events.items) (c.last_row.ensures i before r walked) c.in_default.not-Some)

pub returns-in_default-clause-follows : goal.returns-in_default-clause-follows
returns-in_default-clause-follows g c i before r f walked = absurd (some_one c.last_row.result (λ l. IsJudgedRow i before r l.now c.args.observer.now.events.items) (c.last_row.ensures i before r walked) c.in_default.not-Some)

pub returns-clause-picked : goal.returns-clause-picked
returns-clause-picked g c i before r f number walked =
    let last = subst (λ o. MatchOption o ⊥ (λ l. IsJudgedRow i before r l.now c.args.observer.now.events.items)) c.in-Some.is (c.last_row.ensures i before r walked) in
    c.chooses.ensures ∙ (λ t. chooses c.args.self.now.rows (last.packet t) ((c.judge_call-of_call.ensures.of_call i before r f walked.0 last ∙ ap (is_of_call i before r) number) t))

pub returns-clause-follows : goal.returns-clause-follows
returns-clause-follows g c i before r f walked =
    let last = subst (λ o. MatchOption o ⊥ (λ l. IsJudgedRow i before r l.now c.args.observer.now.events.items)) c.in-Some.is (c.last_row.ensures i before r walked) in
    c.judge_call-of_call.ensures.follows i before r f walked.0 last
