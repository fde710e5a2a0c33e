use Rattle.std.proofs.Common.{◌≡◌, ◌∙◌, ap, sym, subst}
use Rattle.live_report.specs.JudgedRows.{IsJudgedRow, judged_row}
use Rattle.live_report.specs.Effects.{with_data}
use Rattle.live_report.specs.Uncounted.{counts_data, user_octets, with_one}
use Rattle.live_report.proofs.UncountedLemmas.{has_data, uncounted_more, uncounted_same, was_counted}
use Rattle.live_report.proofs.uncounted.Uncounted.take.Goals as goal

pub returns-then-is_accepted : goal.returns-then-is_accepted
returns-then-is_accepted c i epoch earlier l same few old =
    let r = c.args.item.now in
    let of = c.if-is_accepted.ensures.accepted in
    old ∙ uncounted_same i earlier r (was_counted i earlier r (judged_row r c.args.outcome.now) _ _ _ _ _ l of.4 (ap (λ by. counts_data (with_data epoch by r c.args.events.now)) of.4 ∙ has_data c.args.events.now epoch of.0 r of.3))

pub returns-in-Some : goal.returns-in-Some
returns-in-Some c i epoch earlier l same few old =
    let r = c.args.item.now in
    let own : c.user_octets.result ≡ user_octets i r.length = c.user_octets.ensures ∙ (λ t. user_octets (same t) (c.item.view_is t).length) in
    let listed = subst (λ row. IsJudgedRow i earlier r row c.args.events.now) (sym c.row.ensures) (subst (IsJudgedRow i earlier r (judged_row r c.args.outcome.now)) (c.if-is_accepted.ensures.listed epoch r c.args.events.now) l) in
    c.add.ensures ∙ (λ t. with_one c.in-Some.reason (own t) (old t)) ∙ uncounted_more i earlier r c.in-Some.reason few (sym c.in-Some.is ∙ c.reason_of.ensures i earlier r listed)

pub returns-in_default : goal.returns-in_default
returns-in_default c i epoch earlier l same few old =
    let r = c.args.item.now in
    let listed = subst (λ row. IsJudgedRow i earlier r row c.args.events.now) (sym c.row.ensures) (subst (IsJudgedRow i earlier r (judged_row r c.args.outcome.now)) (c.if-is_accepted.ensures.listed epoch r c.args.events.now) l) in
    old ∙ uncounted_same i earlier r (sym c.in_default.is ∙ c.reason_of.ensures i earlier r listed)
