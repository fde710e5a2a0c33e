use Rattle.std.proofs.lemmas.Result.{IfErr-weaker}
use Rattle.shared_work.proofs.Adding.{post_fault}
use Rattle.shared_work.proofs.findings.book.LockedPosts.post.Goals as goal

pub add-requires : goal.add-requires
add-requires g c = record { values = c.requires.values; vouched = c.requires.vouched }

pub returns-clause-faults : goal.returns-clause-faults
returns-clause-faults g c = IfErr-weaker c.add.result _ _ (λ e h. post_fault _ _ e.1 h) c.add.ensures.faults
