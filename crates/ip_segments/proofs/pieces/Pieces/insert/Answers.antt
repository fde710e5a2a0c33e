-- The part before the next piece is put, and both are passed.
use Rattle.std.proofs.Common.{rules, ◌≡◌, ◌∙◌, ap, ◌<◌, ◌+◌, ◌++◌, drop, length, take, get_or}
use Rattle.ip_segments.specs.Pieces.{after, before, part_view, some_of}
use Rattle.ip_segments.proofs.Passing.{go_on, same_read}
use Rattle.ip_segments.proofs.pieces.Pieces.insert.Goals as goal

pub loop-index-preserved : goal.loop-index-preserved
loop-index-preserved c =
    let xs = c.loop-index.self in
    let i = c.loop-index.index in
    let r = part_view c.loop-index.rest in
    let tested = c.index.result.now in
    let p = c.index-in-loop-index.result.now in
    let last = c.index-in-loop-index-2.result.now in
    let within : i < length xs = search rules in
    let here_tested : tested ≡ get_or xs i tested = search rules in
    let here : p ≡ get_or xs i p = search rules in
    let here_last : last ≡ get_or xs i last = search rules in
    let below : tested.at < r.until = search rules in
    let over : p.at < r.until = rw (same_read xs i p tested within here here_tested) below in
    let is : c.put.new.self ≡ take i xs ++ some_of (before p.at r) ++ drop i xs = search rules in
    let size : c.in_ok-index.field-0 ≡ i + length (some_of (before p.at r)) = search rules in
    let after_last : part_view c.after-rest.result ≡ after last.until r = search rules in
    go_on i c.in_ok-index.field-0 xs c.args.self.now c.put.new.self (part_view c.args.part.now) r (part_view c.after-rest.result) p
    within here over is size (after_last ∙ ap (λ q. after q.until r) (same_read xs i last p within here_last here)) c.loop-index.invariant.1
