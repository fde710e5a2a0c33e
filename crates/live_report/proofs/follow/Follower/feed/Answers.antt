use Rattle.std.proofs.Common.{Err, ap, refl, subst}
use Rattle.std.specs.Prelude.{IfSome}
use Rattle.live_report.specs.Reports.{IsReportFault}
use Rattle.live_report.proofs.ReportLemmas.{apart, same}
use Rattle.live_report.proofs.follow.Follower.feed.Goals as goal

pub write_found-answer-requires : goal.write_found-answer-requires
write_found-answer-requires g c = c.requires.fed.fed c.in_default.is

pub returns-clause-write_failed : goal.returns-clause-write_failed
returns-clause-write_failed g c text s = c.write_found-answer.ensures.write_failed

pub returns-clause-again : goal.returns-clause-again
returns-clause-again g c fault r = absurd (apart c.args.self.now.refused fault c.in_default.is r)

pub returns-in-Some-clause-refused : goal.returns-in-Some-clause-refused
returns-in-Some-clause-refused g c text s = absurd (apart c.args.self.now.refused c.in-Some.fault s.running c.in-Some.is)

pub returns-in-Some-clause-taken : goal.returns-in-Some-clause-taken
returns-in-Some-clause-taken g c text before s = absurd (apart c.args.self.now.refused c.in-Some.fault s.running c.in-Some.is)

pub returns-in-Some-clause-at_line : goal.returns-in-Some-clause-at_line
returns-in-Some-clause-at_line g c text before s = absurd (apart c.args.self.now.refused c.in-Some.fault s.running c.in-Some.is)

pub returns-in-Some-clause-write_failed : goal.returns-in-Some-clause-write_failed
returns-in-Some-clause-write_failed g c text s = absurd (apart c.args.self.now.refused c.in-Some.fault s.running c.in-Some.is)

pub returns-in-Some-clause-kinds : goal.returns-in-Some-clause-kinds
returns-in-Some-clause-kinds g c = subst (λ f. IfSome f IsReportFault) c.in-Some.is c.requires.fed.kinds

pub returns-in-Some-clause-again : goal.returns-in-Some-clause-again
returns-in-Some-clause-again g c fault r = (ap (λ f. Err f) (same c.args.self.now.refused c.in-Some.fault fault c.in-Some.is r), refl, refl)
