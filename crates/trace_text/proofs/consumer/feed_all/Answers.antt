use Rattle.std.proofs.Common.{◌≡◌, ◌≢◌, ◌≤◌, ◌^◌, ◌++◌, ℕ, List, ap, length, length-append, [], arith, rules, subst, sym}
use Rattle.std.proofs.lemmas.Bool.{eqb-false, eqb-true}
use Rattle.std.proofs.lemmas.Grind.{common_steps}
use Rattle.std.proofs.lemmas.List.{nil_from_length}
use Rattle.std.proofs.lemmas.Result.{IfOk-from_err}
use Rattle.line_model.specs.basics.Device.{Gives}
use Rattle.trace_text.proofs.SourceLemmas.{all_read, begins_so, begun, failed_read, given_more, passed_on, refused_at}
use Rattle.trace_text.proofs.consumer.feed_all.Goals as goal

pub loop-source-init : goal.loop-source-init
loop-source-init g c = record {
  calls = omega arith;
  room = omega (arith, g.met.T.Consumer.sized c.args.consumer.now c.args.out.now c.args.consumer.now c.args.out.now [] c.requires.nothing);
  failures = omega arith;
  least = omega arith;
  reached = begun (g.S.Source.left c.args.source.now) (g.T.Consumer.was_fed c.args.consumer.now c.args.out.now c.args.consumer.now c.args.out.now) c.requires.nothing;
}

pub feed-requires : goal.feed-requires
feed-requires g c =
    let r = c.loop-source.invariant.reached in
    let left = g.S.Source.left c.args.source.now in
    let bytes = c.latest-chunk.result.now in
    let gives = subst (λ bytes. Gives (g.S.Source.left c.loop-source.source) (g.S.Source.left c.read.new.self) bytes) (sym c.latest-chunk.ensures) c.in-Ok.ensures.given in
    let source = given_more left (g.S.Source.left c.loop-source.source) (g.S.Source.left c.read.new.self) r.text bytes r.source gives in
    record { fed = (c.args.consumer.now, c.args.out.now, r.text, r.fed, c.requires.expected (r.text ++ bytes) (begins_so left (g.S.Source.left c.read.new.self) (r.text ++ bytes) source)) }

pub loop-source-preserved : goal.loop-source-preserved
loop-source-preserved g c =
    let least = c.loop-source.invariant.least in
    let r = c.loop-source.invariant.reached in
    let first = c.args.consumer.now in
    let start = c.args.out.now in
    let bytes = c.latest-chunk.result.now in
    let gives = subst (λ bytes. Gives (g.S.Source.left c.loop-source.source) (g.S.Source.left c.read.new.self) bytes) (sym c.latest-chunk.ensures) c.in-Ok.ensures.given in
    let fed = c.in_ok-feed.ensures.fed first start r.text r.fed in
    let old = g.met.T.Consumer.sized first start c.loop-source.consumer c.loop-source.out r.text r.fed in
    let new = g.met.T.Consumer.sized first start c.feed.new.self c.feed.new.out (r.text ++ bytes) fed in
    let size = length-append r.text bytes in
    let some : length bytes ≢ 0 = eqb-false (length bytes) 0 (sym c.if-is_empty.ensures) in
    record {
      calls = omega (arith, old, new, size, some, c.loop-source.invariant.calls, c.read.ensures.calls);
      room = omega (arith, new, g.met.T.Consumer.few first start c.feed.new.self c.feed.new.out (r.text ++ bytes) fed);
      failures = grind (arith, common_steps);
      least = omega (arith, least, c.read.ensures.calls);
      reached = record { text = r.text ++ bytes; fed = fed; source = given_more (g.S.Source.left c.args.source.now) (g.S.Source.left c.loop-source.source) (g.S.Source.left c.read.new.self) r.text bytes r.source gives };
    }

pub loop-source-smaller : goal.loop-source-smaller
loop-source-smaller g c =
    let r = c.loop-source.invariant.reached in
    let first = c.args.consumer.now in
    let start = c.args.out.now in
    let bytes = c.latest-chunk.result.now in
    let fed = c.in_ok-feed.ensures.fed first start r.text r.fed in
    let old = g.met.T.Consumer.sized first start c.loop-source.consumer c.loop-source.out r.text r.fed in
    let new = g.met.T.Consumer.sized first start c.feed.new.self c.feed.new.out (r.text ++ bytes) fed in
    let size = length-append r.text bytes in
    let some : length bytes ≢ 0 = eqb-false (length bytes) 0 (sym c.if-is_empty.ensures) in
    let few = g.met.T.Consumer.few first start c.feed.new.self c.feed.new.out (r.text ++ bytes) fed in
    omega (arith, old, new, size, some, few)

pub returns-in_err-feed-clause-stopped : goal.returns-in_err-feed-clause-stopped
returns-in_err-feed-clause-stopped g c =
    let r = c.loop-source.invariant.reached in
    let first = c.args.consumer.now in
    let start = c.args.out.now in
    let bytes = c.latest-chunk.result.now in
    let gives = subst (λ bytes. Gives (g.S.Source.left c.loop-source.source) (g.S.Source.left c.read.new.self) bytes) (sym c.latest-chunk.ensures) c.in-Ok.ensures.given in
    let few : length bytes ≤ 2 ^ 16 = omega (arith, ap (λ (xs : List ℕ). length xs) c.latest-chunk.ensures, c.in-Ok.ensures.few) in
    let sound = g.met.T.Consumer.sound first start c.loop-source.consumer c.loop-source.out r.text r.fed in
    passed_on c.from_residual.result c.in_err-feed.field-0.0 _ c.from_residual.ensures.1
    (refused_at g.T.Consumer.lag (g.S.Source.left c.args.source.now) (g.S.Source.left c.loop-source.source) (g.S.Source.left c.read.new.self) (g.S.Source.before c.read.new.self) _ (g.T.Consumer.was_fed first start c.feed.new.self c.feed.new.out) (g.T.Consumer.refused first start c.feed.new.self c.feed.new.out) c.in_err-feed.field-0.0 bytes
    r sound gives c.read.ensures.before few (c.in_err-feed.ensures.refused first start r.text r.fed))

pub returns-in_err-feed-clause-whole : goal.returns-in_err-feed-clause-whole
returns-in_err-feed-clause-whole g c = IfOk-from_err _ _ c.from_residual.ensures.0

pub returns-in_err-feed-clause-called : goal.returns-in_err-feed-clause-called
returns-in_err-feed-clause-called g c = let inv = c.loop-source.invariant in omega (arith, inv.least, c.read.ensures.calls)

pub returns-in_default-clause-called : goal.returns-in_default-clause-called
returns-in_default-clause-called g c = let inv = c.loop-source.invariant in omega (arith, inv.least, c.read.ensures.calls)

pub returns-then-is_empty-clause-called : goal.returns-then-is_empty-clause-called
returns-then-is_empty-clause-called g c = let inv = c.loop-source.invariant in omega (arith, inv.least, c.read.ensures.calls)

pub returns-in_default-clause-stopped : goal.returns-in_default-clause-stopped
returns-in_default-clause-stopped g c =
    let r = c.loop-source.invariant.reached in
    let first = c.args.consumer.now in
    let start = c.args.out.now in
    failed_read g.T.Consumer.lag (g.S.Source.left c.args.source.now) (g.S.Source.left c.loop-source.source) (g.S.Source.left c.read.new.self) (g.S.Source.before c.read.new.self) (g.T.Consumer.was_fed first start c.loop-source.consumer c.loop-source.out) (g.T.Consumer.refused first start c.loop-source.consumer c.loop-source.out)
    r (g.met.T.Consumer.sound first start c.loop-source.consumer c.loop-source.out r.text r.fed) (search rules) c.read.ensures.before

pub returns-then-is_empty-clause-whole : goal.returns-then-is_empty-clause-whole
returns-then-is_empty-clause-whole g c =
    let r = c.loop-source.invariant.reached in
    let first = c.args.consumer.now in
    let start = c.args.out.now in
    let bytes = c.latest-chunk.result.now in
    let gives = subst (λ bytes. Gives (g.S.Source.left c.loop-source.source) (g.S.Source.left c.read.new.self) bytes) (sym c.latest-chunk.ensures) c.in-Ok.ensures.given in
    let none : bytes ≡ [] = nil_from_length bytes (eqb-true (length bytes) 0 (sym c.if-is_empty.ensures)) in
    all_read g.T.Consumer.lag (g.S.Source.left c.args.source.now) (g.S.Source.left c.loop-source.source) (g.S.Source.left c.read.new.self) (g.S.Source.before c.read.new.self) (g.T.Consumer.was_fed first start c.loop-source.consumer c.loop-source.out) bytes
    r (g.met.T.Consumer.sound first start c.loop-source.consumer c.loop-source.out r.text r.fed) gives c.read.ensures.before none
