use Rattle.std.proofs.Common.{◌∙◌}
use Rattle.shared_work.proofs.findings.posts.Posts.gathered.Goals as goal

pub returns-clause-shares : goal.returns-clause-shares
returns-clause-shares g c = c.totals-totals.ensures ∙ (c.settle.ensures.same ∙ c.settle.ensures.sums)

pub returns-clause-reports : goal.returns-clause-reports
returns-clause-reports g c = c.self.view_is

pub returns-clause-posts : goal.returns-clause-posts
returns-clause-posts g c = c.self.invariant.0.posts

pub returns-clause-totals : goal.returns-clause-totals
returns-clause-totals g c = c.totals-totals.ensures ∙ (c.settle.ensures.same ∙ c.self.invariant.0.totals)
