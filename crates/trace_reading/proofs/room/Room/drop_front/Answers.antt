use Rattle.std.proofs.Common.{◌≡◌, ◌∙◌, ◌+◌, ◌-◌, ◌≤◌, ap, arith, drop, length, length-drop, rules, sym, take}
use Rattle.std.specs.List.{copy_within}
use Rattle.std.proofs.lemmas.List.{drop-take}
use Rattle.std.proofs.lemmas.List.Edits.{take-paste}
use Rattle.trace_reading.specs.TextBlocks.{RoomView}
use Rattle.trace_reading.proofs.room.Room.drop_front.Goals as goal

pub returns : goal.returns
returns g c =
    let bytes = c.self.inside.bytes.items in
    let len = c.self.inside.len in
    let le : c.args.count ≤ len = search rules in
    let there : len ≤ length bytes = search rules in
    let behind : len - c.args.count ≤ length (drop c.args.count bytes) = omega (arith, there, length-drop c.args.count bytes) in
    let all : c.args.count + (len - c.args.count) ≡ len = omega (arith, le) in
    let first : len - c.args.count ≡ 0 + (len - c.args.count) = omega (arith) in
    ap (take (len - c.args.count)) c.copy_within.ensures.items
    ∙ ap (λ n. take n (copy_within bytes c.args.count len 0)) first
    ∙ take-paste bytes 0 (drop c.args.count bytes) (len - c.args.count) (omega (arith)) behind
    ∙ sym (drop-take c.args.count (len - c.args.count) bytes)
    ∙ ap (λ n. drop c.args.count (take n bytes)) all
    ∙ ap (λ (r : RoomView). drop c.args.count r.items) c.self.view_is
