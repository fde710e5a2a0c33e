-- The octets that were read follow those ahead.
use Rattle.std.proofs.Common.{◌≡◌, ◌∙◌, ◌+◌, ◌≤◌, ◌++◌, ap, arith, length, length-take-le, rules, take}
use Rattle.capture_files.specs.Windows.{WindowView}
use Rattle.capture_files.proofs.WindowLemmas.{read_ahead}
use Rattle.capture_files.proofs.window.Window.read.Goals as goal

pub returns-clause-read : goal.returns-clause-read
returns-clause-read g c =
    let count = c.in-Ok.count in
    let size : length c.read_into.new.room ≡ 65536 = search rules in
    let few : count ≤ length c.read_into.new.room = omega (arith, size, c.in-Ok.ensures.few) in
    let within : c.self.inside.end + count ≤ c.self.inside.bytes.len = search rules in
    let there : c.self.inside.end ≤ length c.self.inside.bytes.items = search rules in
    let le : c.self.inside.at ≤ c.self.inside.end = search rules in (
      take count c.read_into.new.room,
      read_ahead c.self.inside.bytes.items c.deref_mut.result.now c.read_into.new.room _ _ c.self.inside.at c.self.inside.end count c.self.inside.bytes.len c.deref_mut.ensures.value le there few within
          ∙ ap (λ xs. xs ++ take count c.read_into.new.room) (ap (λ (w : WindowView). w.ahead) c.self.view_is),
      length-take-le count c.read_into.new.room few,
      c.in-Ok.ensures.given,
    )
