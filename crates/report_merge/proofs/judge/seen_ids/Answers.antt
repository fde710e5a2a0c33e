use Rattle.std.proofs.lemmas.Result.{IfOk-from_err}
use Rattle.std.proofs.lemmas.Grind.{common_steps}
use Rattle.std.proofs.Common.{◌≡◌, ◌+◌, ◌||◌, false, length, get_or, arith, sym, ap, ◌∙◌}
use Rattle.report_merge.specs.Seen.{is_among, double_with}
use Rattle.std.proofs.lemmas.List.{get_or_read, at_drop_all, at_drop_more}
use Rattle.std.proofs.Math.Bool.{or-false}
use Rattle.report_merge.proofs.SeenLemmas.{IsMarked, known_next, marked_seen, marked_double, count-marked}
use Rattle.report_merge.proofs.judge.seen_ids.Goals as goal

pub loop-id-preserved : goal.loop-id-preserved
loop-id-preserved g c =
    let ids = c.args.ids.now in
    let i = c.loop-id.id-index in
    let id = get_or ids i 0 in
    let seen = c.loop-id.seen.items in
    let inv = c.loop-id.invariant in
    let at = at_drop_more (λ l. l) ids i 0 c.loop-id-test.true in
    let w = known_next ids i id c.args.pieces at inv.known in
    let long : length seen ≡ c.args.pieces = omega (arith, c.loop-id.seen.ok.0, inv.len) in
    let off : get_or seen id false ≡ false = sym (get_or_read seen id c.index.result.now (omega (arith, w.0, long)) c.index.ensures false) ∙ c.if-index.false in
    let h : IsMarked ids i id seen c.args.pieces = record { at = at; len = long; off = off; known = inv.known } in
    record {
      len = inv.len;
      known = w.1;
      seen = marked_seen ids i id seen c.args.pieces h inv.seen;
      double = marked_double ids i id seen c.args.pieces _ h inv.double;
      count = count-marked seen id (omega (arith, w.0, long)) off ∙ ap (λ n. n + 1) inv.count;
    }

pub loop-id-init : goal.loop-id-init
loop-id-init g c = grind (arith, common_steps) steps 4000000

pub returns-then-index-clause-refused : goal.returns-then-index-clause-refused
returns-then-index-clause-refused g c = grind (arith, common_steps) steps 4000000

pub returns-in_err-seen-clause-seen : goal.returns-in_err-seen-clause-seen
returns-in_err-seen-clause-seen g c = IfOk-from_err _ _ c.from_residual.ensures.0

pub returns-in_err-seen-clause-len : goal.returns-in_err-seen-clause-len
returns-in_err-seen-clause-len g c = IfOk-from_err _ _ c.from_residual.ensures.0

pub returns-in_err-seen-clause-once : goal.returns-in_err-seen-clause-once
returns-in_err-seen-clause-once g c = IfOk-from_err _ _ c.from_residual.ensures.0

pub index-requires : goal.index-requires
index-requires g c =
    let inv = c.loop-id.invariant in
    let known = known_next c.args.ids.now c.loop-id.id-index _ c.args.pieces (at_drop_more (λ l. l) c.args.ids.now c.loop-id.id-index 0 c.loop-id-test.true) inv.known in
    omega (arith, known.0, inv.len)

pub index_mut-requires : goal.index_mut-requires
index_mut-requires g c =
    let inv = c.loop-id.invariant in
    let known = known_next c.args.ids.now c.loop-id.id-index _ c.args.pieces (at_drop_more (λ l. l) c.args.ids.now c.loop-id.id-index 0 c.loop-id-test.true) inv.known in
    omega (arith, known.0, inv.len)

pub returns-clause-seen : goal.returns-clause-seen
returns-clause-seen g c = λ k.
    let ids = c.args.ids.now in
    let i = c.loop-id.id-index in
    let seen = c.loop-id.seen.items in
    sym (or-false (get_or seen k false))
    ∙ sym (at_drop_all (λ rs. get_or seen k false || is_among k rs) ids i c.loop-id-test.false)
    ∙ c.loop-id.invariant.seen k

pub returns-clause-once : goal.returns-clause-once
returns-clause-once g c =
    c.loop-id.invariant.double
    ∙ at_drop_all (λ rs. double_with (λ k. get_or c.loop-id.seen.items k false) rs) c.args.ids.now c.loop-id.id-index c.loop-id-test.false
