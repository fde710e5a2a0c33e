use Rattle.std.specs.Prelude.{◌≡◌, ◌+◌, sum_by}
use Rattle.std.specs.Vec.Iter.{into_iter_len}
use Rattle.shared_work.proofs.findings.book.Book.gather.Given as goal

abbrev pub invariant-loop-share : goal.invariant-loop-share
invariant-loop-share g l = record {
  parts : l.all.parts + into_iter_len l.share-iterator ≡ 4096;
  posts : l.all.sums.posts ≡ sum_by (λ s. s.posts) l.yielded;
  findings : l.all.sums.findings ≡ sum_by (λ s. s.findings) l.yielded;
  octets : l.all.sums.octets ≡ sum_by (λ s. s.octets) l.yielded;
  segments : l.all.sums.segments ≡ sum_by (λ s. s.segments) l.yielded;
}
