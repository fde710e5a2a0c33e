use Rattle.std.proofs.Common.{◌≡◌, ◌∙◌, ◌-◌, ◌++◌, ◌≤◌, [], ap, drop, length, rules, take}
use Rattle.trace_reading.proofs.RoomLemmas.{all_behind, split_at}
use Rattle.trace_reading.specs.TextBlocks.{RoomView}
use Rattle.trace_reading.proofs.room.Room.split.Goals as goal

pub returns-clause-parts : goal.returns-clause-parts
returns-clause-parts g c =
    let is : take c.bytes.inside.len c.bytes.inside.bytes.items ≡ c.args.self.now.items = ap (λ (r : RoomView). r.items) (c.bytes.view_is ∙ c.replace.ensures.value) in
    let le : c.args.count ≤ c.bytes.inside.len = search rules in
    let none : c.in_ok-next.next.items ≡ [] = search rules in
    let back : c.replace.new.dest.items ≡ drop c.args.count c.args.self.now.items = ap (λ (r : RoomView). r.items) c.replace.ensures.after ∙ c.append.ensures.appended (search rules) ∙ ap (λ xs. xs ++ take (length c.as_slice.result.now - c.args.count) (drop c.args.count c.as_slice.result.now)) none ∙ all_behind c.as_slice.result.now c.args.count ∙ ap (drop c.args.count) c.as_slice.ensures in
    split_at c.args.self.now.items c.bytes.inside.bytes.items c.truncate.new.self.items c.replace.new.dest.items c.bytes.inside.len c.args.count is c.requires le c.truncate.ensures.items back
