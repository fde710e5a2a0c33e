use Rattle.std.specs.Prelude.{IfErr}
use Rattle.std.proofs.lemmas.Grind.{elements}
use Rattle.std.proofs.lemmas.Result.{IfOk-from_err, err_from_is_err_and}
use Rattle.line_model.specs.declared.fault.Fault.TheVariants.{Memory}
use Rattle.std.proofs.Common.{◌≡◌, ◌∙◌, ◌++◌, ◌∷◌, ◌-◌, ◌<◌, ◌≤◌, length-append, ap, subst, sym, List, [], length, true, arith, rules}
use Rattle.std.specs.List.{zip}
use Rattle.std.specs.Iterator.Adapters.{zip_first, zip_second}
use Rattle.std.specs.Vec.Iter.{into_iter_items, into_iter_len}
use Rattle.std.proofs.lemmas.List.{map-id, length-map}
use Rattle.std.proofs.lemmas.List.Sums.{sum_by-cons}
use Rattle.std.proofs.lemmas.Iterator.{YieldsList-from_zip}
use Rattle.std.proofs.lemmas.Iterator.Adapters.{YieldsList-from_vec}
use Rattle.std.proofs.lemmas.Iterator.Consumers.{YieldsList-end}
use Rattle.line_model.specs.observer.Report.{gaps_among, gaps_of}
use Rattle.line_model.specs.packets.Says.{item_of, items_of}
use Rattle.line_model.specs.pieces.Plans.{plan, level_findings}
use Rattle.line_model.specs.basics.Records.{Row, Item, Piece}
use Rattle.restart_epochs.specs.Cutting.{given_of, Represents, IsCounted}
use Rattle.restart_epochs.proofs.Decoded.{packets, said, said-beside, said-more, said_by, next_is}
use Rattle.restart_epochs.proofs.Growth.{ends_nothing, given_pieces}
use Rattle.restart_epochs.proofs.Whole.{MayCome, all_may_come, rest_may_come}
use Rattle.restart_epochs.proofs.cut.cut.Given.{Over}
use Rattle.restart_epochs.proofs.cut.cut.Goals as goal

-- what the loop runs over: the rows, and beside them the packets that were decoded
rows_left : (g : Over) (c : goal.After-into_iter-row-iterator g) → into_iter_items (zip_first c.into_iter-row-iterator.result) ≡ c.args.rows.items
rows_left g c =
    ap (λ z. into_iter_items (zip_first z)) c.into_iter-row-iterator.ensures.into_iter_gives ∙ ap into_iter_items c.zip-row-items.ensures.first ∙ c.into_iter.ensures.rest

packets_left : (g : Over) (c : goal.After-into_iter-row-iterator g) → into_iter_items (zip_second c.into_iter-row-iterator.result) ≡ packets c.args.interface.now c.args.rows.items
packets_left g c =
    ap (λ z. into_iter_items (zip_second z)) c.into_iter-row-iterator.ensures.into_iter_gives ∙ c.zip-row-items.ensures.second.0
    ∙ c.in_ok-packets.ensures.packets ∙ ap (packets c.args.interface.now) c.as_slice.ensures.value

pub loop-row-init : goal.loop-row-init
loop-row-init g c = record {
  represented = c.new-cutter.ensures.represented;
  given = c.new-pieces.ensures.items ∙ sym (given_pieces c.args.interface.now [] true ends_nothing);
  left = subst (MayCome c.new-cutter.result) (sym (rows_left g c))
      (all_may_come c.args.interface.now c.new-cutter.result c.args.rows.items c.new-cutter.ensures.represented.interface c.requires.lawful c.new-cutter.ensures.last c.new-cutter.ensures.octets c.requires.rising c.requires.numbers c.requires.octets);
  decoded = packets_left g c ∙ ap (packets c.args.interface.now) (sym (rows_left g c));
}

pub push-requires-clause-said : goal.push-requires-clause-said
push-requires-clause-said g c =
    let inv = c.loop-row.invariant in
    let steps = c.in-Some.ensures.steps in
    let next = next_is c.args.interface.now c.in-Some.row c.in-Some.packet (into_iter_items (zip_first c.next.new.self)) (into_iter_items (zip_first c.loop-row.row-iterator))
    (into_iter_items (zip_second c.next.new.self)) (into_iter_items (zip_second c.loop-row.row-iterator)) inv.decoded steps.0.0 steps.1.0 in
    let left : MayCome c.loop-row.cutter (c.in-Some.row ∷ into_iter_items (zip_first c.next.new.self)) = subst (MayCome c.loop-row.cutter) steps.0.0 inv.left in
    record {
      row = c.in-Some.row;
      lawful = left.lawful.0;
      says = said_by c.args.interface.now c.in-Some.row c.in-Some.packet _ c.item.ensures next.0 ∙ ap (λ i. item_of i c.in-Some.row) (sym inv.represented.interface);
    }

pub push-requires-clause-rising : goal.push-requires-clause-rising
push-requires-clause-rising g c =
    let left : MayCome c.loop-row.cutter (c.in-Some.row ∷ into_iter_items (zip_first c.next.new.self)) = subst (MayCome c.loop-row.cutter) c.in-Some.ensures.steps.0.0 c.loop-row.invariant.left in
    subst (λ (x : Item). c.loop-row.cutter.last < x.number) (sym c.item.ensures) left.rising.0

pub push-requires-clause-number : goal.push-requires-clause-number
push-requires-clause-number g c =
    let left : MayCome c.loop-row.cutter (c.in-Some.row ∷ into_iter_items (zip_first c.next.new.self)) = subst (MayCome c.loop-row.cutter) c.in-Some.ensures.steps.0.0 c.loop-row.invariant.left in
    subst (λ (x : Item). x.number ≤ 999999999) (sym c.item.ensures) (left.numbers 0 c.in-Some.row (omega arith))

pub push-requires-clause-octets : goal.push-requires-clause-octets
push-requires-clause-octets g c =
    let rest = into_iter_items (zip_first c.next.new.self) in
    let left : MayCome c.loop-row.cutter (c.in-Some.row ∷ rest) = subst (MayCome c.loop-row.cutter) c.in-Some.ensures.steps.0.0 c.loop-row.invariant.left in
    let all = left.octets in
    omega (arith, all, sum_by-cons (λ (x : Row). length x.octets) c.in-Some.row rest, ap (λ (x : Item). x.length) c.item.ensures)

pub loop-row-preserved : goal.loop-row-preserved
loop-row-preserved g c =
    let i = c.args.interface.now in
    let inv = c.loop-row.invariant in
    let steps = c.in-Some.ensures.steps in
    let rest = into_iter_items (zip_first c.next.new.self) in
    let left : MayCome c.loop-row.cutter (c.in-Some.row ∷ rest) = subst (MayCome c.loop-row.cutter) steps.0.0 inv.left in
    let before = said i c.loop-row.yielded in
    let more = sym (said-more i c.loop-row.yielded c.in-Some.row c.in-Some.packet) in
    let next = next_is i c.in-Some.row c.in-Some.packet rest (into_iter_items (zip_first c.loop-row.row-iterator)) (into_iter_items (zip_second c.next.new.self))
    (into_iter_items (zip_second c.loop-row.row-iterator)) inv.decoded steps.0.0 steps.1.0 in
    let says = said_by i c.in-Some.row c.in-Some.packet _ c.item.ensures next.0 in
    let after : before ++ c.item.result ∷ [] ≡ said i (c.loop-row.yielded ++ (c.in-Some.row, c.in-Some.packet) ∷ []) = ap (λ x. before ++ x ∷ []) says ∙ more in
    record {
      represented = subst (λ rs. Represents i rs c.push.new.self) after (c.in_ok-push.ensures.represented i before inv.represented);
      given = subst (λ rs. c.push.new.out.items ≡ given_of i rs) after (c.in_ok-push.ensures.given i before [] inv.represented inv.given);
      left = rest_may_come i c.loop-row.cutter c.push.new.self c.in-Some.row rest left (subst (λ (x : Item). IsCounted x c.loop-row.cutter c.push.new.self) says c.in_ok-push.ensures.counted);
      decoded = next.1;
    }

all_yielded : (g : Over) (c : goal.After-drop-open-2 g) → said c.args.interface.now c.loop-row.yielded ≡ items_of c.args.interface.now c.args.rows.items
all_yielded g c =
    let first = c.zip-row-items.ensures.first in
    let second = c.zip-row-items.ensures.second in
    let zipped = c.into_iter-row-iterator.ensures.into_iter_gives in
    let i = c.args.interface.now in
    let of_rows = YieldsList-from_vec {s = zip_first c.into_iter-row-iterator.result} c.args.rows.items (ap (λ z. into_iter_items (zip_first z)) zipped ∙ ap into_iter_items first ∙ c.into_iter.ensures.rest)
    (ap (λ z. into_iter_len (zip_first z)) zipped ∙ ap into_iter_len first ∙ c.into_iter.ensures.len ∙ c.args.rows.ok.0) in
    let of_packets = YieldsList-from_vec {s = zip_second c.into_iter-row-iterator.result} c.in_ok-packets.packets.items (ap (λ z. into_iter_items (zip_second z)) zipped ∙ second.0)
    (ap (λ z. into_iter_len (zip_second z)) zipped ∙ second.1 ∙ c.in_ok-packets.packets.ok.0) in
    let t = YieldsList-end (YieldsList-from_zip of_rows of_packets) c.loop-row.yielded c.loop-row.row-iterator c.loop-row.yielded_by c.next.result c.next.new.self c.in-None.is c.next.ensures.steps in
    let are = c.in_ok-packets.ensures.packets ∙ ap (packets i) c.as_slice.ensures.value in
    ap (said i) (sym (map-id c.loop-row.yielded) ∙ t.0) ∙ ap (λ ps. said i (zip c.args.rows.items ps)) are ∙ said-beside i c.args.rows.items

-- the pieces that were given out on the way, and after them those of the open epoch
appended : (g : Over) (c : goal.After-drop-open-2 g) → c.append.new.self.items ≡ given_of c.args.interface.now (said c.args.interface.now c.loop-row.yielded) ++ c.in_ok-open.field-0.pieces.items
appended g c =
    let open_is : c.in_ok-open.open.items ≡ c.in_ok-open.field-0.pieces.items = ap (λ v. v.items) (sym c.in_ok-open.open-is) in
    let more : c.append.new.self.items ≡ c.loop-row.pieces.items ++ c.in_ok-open.open.items = search rules in
    more ∙ (λ j. c.loop-row.invariant.given j ++ open_is j)

pub returns-clause-pieces : goal.returns-clause-pieces
returns-clause-pieces g c =
    appended g c
    ∙ c.in_ok-open.ensures.pieces c.args.interface.now (said c.args.interface.now c.loop-row.yielded) c.loop-row.invariant.represented ∙ ap (plan c.args.interface.now) (all_yielded g c)

pub returns-clause-interface_findings : goal.returns-clause-interface_findings
returns-clause-interface_findings g c =
    c.in_ok-open.ensures.interface_findings c.args.interface.now (said c.args.interface.now c.loop-row.yielded) c.loop-row.invariant.represented ∙ ap (level_findings c.args.interface.now) (all_yielded g c)

pub returns-clause-packets : goal.returns-clause-packets
returns-clause-packets g c =
    let items = items_of c.args.interface.now c.args.rows.items in
    c.in_ok-open.ensures.packets c.args.interface.now (said c.args.interface.now c.loop-row.yielded) c.loop-row.invariant.represented ∙ ap (λ (rs : List Item). length rs - gaps_of rs) (all_yielded g c)
    ∙ ap (λ n. n - gaps_of items) (length-map c.args.rows.items (item_of c.args.interface.now))

pub returns-clause-gaps : goal.returns-clause-gaps
returns-clause-gaps g c =
    let i = c.args.interface.now in
    c.in_ok-open.ensures.gaps i (said i c.loop-row.yielded) c.loop-row.invariant.represented ∙ ap (gaps_among i.gaps) (all_yielded g c)

pub returns-clause-few : goal.returns-clause-few
returns-clause-few g c =
    let all = ap (λ (l : List Piece). length l) (appended g c) ∙ length-append (given_of c.args.interface.now (said c.args.interface.now c.loop-row.yielded)) c.in_ok-open.field-0.pieces.items in
    omega (arith, all, c.in_ok-open.ensures.few c.args.interface.now (said c.args.interface.now c.loop-row.yielded) c.loop-row.invariant.represented)

pub returns-clause-of_rows : goal.returns-clause-of_rows
returns-clause-of_rows g c =
    let i = c.args.interface.now in
    let rows = said i c.loop-row.yielded in
    let all = ap (λ (l : List Piece). length l) (appended g c) ∙ length-append (given_of i rows) c.in_ok-open.field-0.pieces.items in
    let count = ap (λ (rs : List Item). length rs) (all_yielded g c) ∙ length-map c.args.rows.items (item_of i) in
    omega (arith, all, c.in_ok-open.ensures.of_rows i rows c.loop-row.invariant.represented, count)

pub loop-row-init-derived : goal.loop-row-init-derived
loop-row-init-derived g c = grind (arith, elements) steps 2000000

pub returns-in_err-packets-clause-pieces : goal.returns-in_err-packets-clause-pieces
returns-in_err-packets-clause-pieces g c = IfOk-from_err _ _ c.from_residual.ensures.0

pub returns-in_err-packets-clause-interface_findings : goal.returns-in_err-packets-clause-interface_findings
returns-in_err-packets-clause-interface_findings g c = IfOk-from_err _ _ c.from_residual.ensures.0

pub returns-in_err-packets-clause-packets : goal.returns-in_err-packets-clause-packets
returns-in_err-packets-clause-packets g c = IfOk-from_err _ _ c.from_residual.ensures.0

pub returns-in_err-packets-clause-gaps : goal.returns-in_err-packets-clause-gaps
returns-in_err-packets-clause-gaps g c = IfOk-from_err _ _ c.from_residual.ensures.0

pub returns-in_err-packets-clause-few : goal.returns-in_err-packets-clause-few
returns-in_err-packets-clause-few g c = IfOk-from_err _ _ c.from_residual.ensures.0

pub returns-in_err-packets-clause-of_rows : goal.returns-in_err-packets-clause-of_rows
returns-in_err-packets-clause-of_rows g c = IfOk-from_err _ _ c.from_residual.ensures.0

pub returns-in_err-packets-clause-refused : goal.returns-in_err-packets-clause-refused
returns-in_err-packets-clause-refused g c =
    let p = err_from_is_err_and c.from_residual.result c.from_residual.ensures.1 in
    subst (λ r. IfErr r (λ f. f ≡ Memory)) (sym p.1) p.2

pub returns-in_err-push-clause-pieces : goal.returns-in_err-push-clause-pieces
returns-in_err-push-clause-pieces g c = IfOk-from_err _ _ c.from_residual-in_err-push.ensures.0

pub returns-in_err-push-clause-interface_findings : goal.returns-in_err-push-clause-interface_findings
returns-in_err-push-clause-interface_findings g c = IfOk-from_err _ _ c.from_residual-in_err-push.ensures.0

pub returns-in_err-push-clause-packets : goal.returns-in_err-push-clause-packets
returns-in_err-push-clause-packets g c = IfOk-from_err _ _ c.from_residual-in_err-push.ensures.0

pub returns-in_err-push-clause-gaps : goal.returns-in_err-push-clause-gaps
returns-in_err-push-clause-gaps g c = IfOk-from_err _ _ c.from_residual-in_err-push.ensures.0

pub returns-in_err-push-clause-few : goal.returns-in_err-push-clause-few
returns-in_err-push-clause-few g c = IfOk-from_err _ _ c.from_residual-in_err-push.ensures.0

pub returns-in_err-push-clause-of_rows : goal.returns-in_err-push-clause-of_rows
returns-in_err-push-clause-of_rows g c = IfOk-from_err _ _ c.from_residual-in_err-push.ensures.0

pub returns-in_err-push-clause-refused : goal.returns-in_err-push-clause-refused
returns-in_err-push-clause-refused g c =
    let p = err_from_is_err_and c.from_residual-in_err-push.result c.from_residual-in_err-push.ensures.1 in
    subst (λ r. IfErr r (λ f. f ≡ Memory)) (sym p.1) (p.2 ∙ c.in_err-push.ensures.refused.0)

pub returns-in_err-open-clause-pieces : goal.returns-in_err-open-clause-pieces
returns-in_err-open-clause-pieces g c = IfOk-from_err _ _ c.from_residual-in_err-open.ensures.0

pub returns-in_err-open-clause-interface_findings : goal.returns-in_err-open-clause-interface_findings
returns-in_err-open-clause-interface_findings g c = IfOk-from_err _ _ c.from_residual-in_err-open.ensures.0

pub returns-in_err-open-clause-packets : goal.returns-in_err-open-clause-packets
returns-in_err-open-clause-packets g c = IfOk-from_err _ _ c.from_residual-in_err-open.ensures.0

pub returns-in_err-open-clause-gaps : goal.returns-in_err-open-clause-gaps
returns-in_err-open-clause-gaps g c = IfOk-from_err _ _ c.from_residual-in_err-open.ensures.0

pub returns-in_err-open-clause-few : goal.returns-in_err-open-clause-few
returns-in_err-open-clause-few g c = IfOk-from_err _ _ c.from_residual-in_err-open.ensures.0

pub returns-in_err-open-clause-of_rows : goal.returns-in_err-open-clause-of_rows
returns-in_err-open-clause-of_rows g c = IfOk-from_err _ _ c.from_residual-in_err-open.ensures.0

pub returns-in_err-open-clause-refused : goal.returns-in_err-open-clause-refused
returns-in_err-open-clause-refused g c =
    let p = err_from_is_err_and c.from_residual-in_err-open.result c.from_residual-in_err-open.ensures.1 in
    subst (λ r. IfErr r (λ f. f ≡ Memory)) (sym p.1) (p.2 ∙ c.in_err-open.ensures.refused)

pub returns-in_err-append-clause-pieces : goal.returns-in_err-append-clause-pieces
returns-in_err-append-clause-pieces g c = IfOk-from_err _ _ c.from_residual-in_err-append.ensures.0

pub returns-in_err-append-clause-interface_findings : goal.returns-in_err-append-clause-interface_findings
returns-in_err-append-clause-interface_findings g c = IfOk-from_err _ _ c.from_residual-in_err-append.ensures.0

pub returns-in_err-append-clause-packets : goal.returns-in_err-append-clause-packets
returns-in_err-append-clause-packets g c = IfOk-from_err _ _ c.from_residual-in_err-append.ensures.0

pub returns-in_err-append-clause-gaps : goal.returns-in_err-append-clause-gaps
returns-in_err-append-clause-gaps g c = IfOk-from_err _ _ c.from_residual-in_err-append.ensures.0

pub returns-in_err-append-clause-few : goal.returns-in_err-append-clause-few
returns-in_err-append-clause-few g c = IfOk-from_err _ _ c.from_residual-in_err-append.ensures.0

pub returns-in_err-append-clause-of_rows : goal.returns-in_err-append-clause-of_rows
returns-in_err-append-clause-of_rows g c = IfOk-from_err _ _ c.from_residual-in_err-append.ensures.0

pub returns-in_err-append-clause-refused : goal.returns-in_err-append-clause-refused
returns-in_err-append-clause-refused g c =
    let p = err_from_is_err_and c.from_residual-in_err-append.result c.from_residual-in_err-append.ensures.1 in
    subst (λ r. IfErr r (λ f. f ≡ Memory)) (sym p.1) p.2
