use Rattle.std.proofs.Common.{◌≡◌, ◌∙◌, sym, ap, arith, rules}
use Rattle.std.proofs.lemmas.List.Sums.{sum_by_push}
use Rattle.line_model.specs.declared.totals.Totals.{Totals}
use Rattle.std.proofs.lemmas.List.{map-id}
use Rattle.std.proofs.lemmas.Iterator.Adapters.{YieldsList-from_vec}
use Rattle.std.proofs.lemmas.Iterator.Consumers.{YieldsList-end}
use Rattle.line_model.specs.work.Book.{sum_of}
use Rattle.shared_work.proofs.findings.book.Book.gather.Goals as goal

pub returns-clause-shares : goal.returns-clause-shares
returns-clause-shares g c =
    let given = c.into_iter-share-iterator.ensures.into_iter_gives in
    let t = YieldsList-end (YieldsList-from_vec {s = c.into_iter-share-iterator.result} c.args.shares.items given.0 (given.1 ∙ c.args.shares.ok.0)) c.loop-share.yielded c.loop-share.share-iterator c.loop-share.yielded_by c.next.result c.next.new.self c.in-None.is c.next.ensures.steps in
    let whole : c.loop-share.yielded ≡ c.args.shares.items = sym (map-id c.loop-share.yielded) ∙ t.0 in
    let inv = c.loop-share.invariant in
    c.gathered.ensures.shares ∙ ((λ i. record { posts = inv.posts i; findings = inv.findings i; octets = inv.octets i; segments = inv.segments i }) ∙ ap sum_of whole)

pub returns-clause-reports : goal.returns-clause-reports
returns-clause-reports g c = c.gathered.ensures.posts

pub returns-clause-totals : goal.returns-clause-totals
returns-clause-totals g c = c.gathered.ensures.totals

pub loop-share-preserved : goal.loop-share-preserved
loop-share-preserved g c =
    let i = c.loop-share.invariant in record {
      parts = search rules;
      posts = omega (arith, ap (λ t. t.posts) c.add.ensures.sums, i.posts, sum_by_push (λ (s : Totals). s.posts) c.loop-share.yielded c.in-Some.share);
      findings = omega (arith, ap (λ t. t.findings) c.add.ensures.sums, i.findings, sum_by_push (λ (s : Totals). s.findings) c.loop-share.yielded c.in-Some.share);
      octets = omega (arith, ap (λ t. t.octets) c.add.ensures.sums, i.octets, sum_by_push (λ (s : Totals). s.octets) c.loop-share.yielded c.in-Some.share);
      segments = omega (arith, ap (λ t. t.segments) c.add.ensures.sums, i.segments, sum_by_push (λ (s : Totals). s.segments) c.loop-share.yielded c.in-Some.share);
    }
