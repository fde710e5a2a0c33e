-- What was kept and what is left are the octets.
use Rattle.std.proofs.Common.{◌≡◌, ◌∙◌, ◌+◌, ◌<◌, ◌≤◌, ◌++◌, ap, arith, drop, get_or, length, subst, sym}
use Rattle.xot_circuits.specs.Streams.{IsKept, IsWithinBy, StreamView}
use Rattle.xot_circuits.specs.Packets.{header}
use Rattle.xot_circuits.proofs.Whole.{bounded, kept}
use Rattle.xot_circuits.proofs.stream.Stream.next_kept.Goals as goal

pub returns-in_ok-extend_from_slice-in-Length : goal.returns-in_ok-extend_from_slice-in-Length
returns-in_ok-extend_from_slice-in-Length c =
    let before = c.self.inside.rest in
    let first = c.fill.new.rest in
    let second = c.fill-in-Length.new.rest in
    let n = c.in-Length.length in
    let view = ap (λ (v : StreamView). v.rest) c.self.view_is in
    let sought = ap (λ (v : StreamView). v.is_sought) c.self.view_is ∙ c.requires in
    let within : IsWithinBy (header before.items) (length before.items) = subst (λ b. IsKept b before.items) sought c.self.invariant in
    let front = c.in_ok-left.ensures.front in
    let is = sym c.read_header.ensures.header ∙ c.in-Length.is in
    let head = ap header (sym c.deref.ensures.value) ∙ is in
    let le : length before.items ≤ 4 + n = bounded before.items first.items front.0 n front.1 within head in
    let size : length second.items ≡ 4 + n = omega (arith, le, before.ok.0, first.ok.0, second.ok.0, c.in_ok-left.ensures.most, c.in_ok-rest-in-Length.ensures.most, c.if-len-size.false, c.len-in-Length.ensures, c.from-size.ensures) in
    let small : get_or first.items 3 0 < 256 = subst (λ xs. get_or xs 3 0 < 256) c.deref.ensures.value c.read_header.ensures.low in
    let packet : c.extend_from_slice.new.self.items ≡ drop 4 second.items =
    c.in_ok-extend_from_slice-in-Length.ensures.items ∙ (ap (λ xs. xs ++ c.split_at.result.1.now) c.clear-in-Length.ensures.items ∙ (c.split_at.ensures.back ∙ ap (drop 4) c.deref-in-Length.ensures.value)) in
    let more = c.in_ok-rest-in-Length.ensures.front in (
      kept c.args.self.now.rest c.args.octets.now first.items c.in_ok-left.left.now second.items c.in_ok-rest-in-Length.rest.now more.0 c.extend_from_slice.new.self.items c.clear-in-Length-2.new.self.items n
          (c.in_ok-left.ensures.moved ∙ ap (λ xs. xs ++ c.args.octets.now) view) c.in_ok-rest-in-Length.ensures.moved more.1 head size small packet c.clear-in-Length-2.ensures.items,
      sought,
    )
