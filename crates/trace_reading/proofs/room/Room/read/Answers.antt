use Rattle.std.proofs.Common.{◌≡◌, ◌∙◌, ◌+◌, ◌≤◌, ◌++◌, ap, arith, length, length-take-le, rules, take}
use Rattle.trace_reading.proofs.RoomLemmas.{read_behind}
use Rattle.trace_reading.specs.TextBlocks.{RoomView}
use Rattle.trace_reading.proofs.room.Room.read.Goals as goal

pub returns-clause-read : goal.returns-clause-read
returns-clause-read g c =
    let count = c.in_ok-count.count in
    let size : length c.read_into.new.room ≡ 65536 = search rules in
    let few : count ≤ length c.read_into.new.room = omega (arith, size, c.in_ok-count.ensures.few) in
    let within : c.self.inside.len + count ≤ c.self.inside.bytes.len = search rules in
    let there : c.self.inside.len ≤ length c.self.inside.bytes.items = search rules in (
      take count c.read_into.new.room,
      read_behind c.self.inside.bytes.items c.deref_mut.result.now c.read_into.new.room _ _ c.self.inside.len count c.self.inside.bytes.len c.deref_mut.ensures.value there few within
          ∙ ap (λ xs. xs ++ take count c.read_into.new.room) (ap (λ (r : RoomView). r.items) c.self.view_is),
      length-take-le count c.read_into.new.room few,
      c.in_ok-count.ensures.few,
      c.in_ok-count.ensures.given,
    )
