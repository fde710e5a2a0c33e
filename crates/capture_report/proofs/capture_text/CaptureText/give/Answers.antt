-- The bytes that were copied are the next ones of those that were read last.
use Rattle.std.proofs.Common.{◌≡◌, ◌∙◌, ◌+◌, ◌-◌, ◌≤◌, [], ◌++◌, Some, arith, drop, length, refl, subst, sym, take}
use Rattle.std.specs.Prelude.{if◌then◌else◌}
use Rattle.std.specs.Io.KnownBytes.{Consumes}
use Rattle.std.proofs.lemmas.List.{length-take-le}
use Rattle.capture_report.specs.Traces.{bytes_left}
use Rattle.capture_report.proofs.GivingLemmas.{bytes_given, room_has}
use Rattle.capture_report.proofs.capture_text.CaptureText.give.Goals as goal

pub returns-clause-given : goal.returns-clause-given
returns-clause-given g c =
    let t = c.args.self.now.trace in
    let given = c.args.self.now.given in
    let from = c.min-from.result in
    let count = c.min-count.result in
    let latest = c.latest-latest.result.now in
    let left = if t.has_failed then t.before.value.left else t.made.left in
    let front = c.copy_from_slice.new.self in
    let fits : count ≤ length c.args.buf.now = omega (arith, c.min-count.ensures) in
    let few : count ≤ length latest - from = omega (arith, c.min-count.ensures) in
    let whole : length front ≡ count = c.copy_from_slice.ensures.len ∙ length-take-le count c.args.buf.now fits in
    let bytes = room_has count from front (drop count c.args.buf.now) latest c.copy_from_slice.ensures.after whole in
    subst (λ done. Consumes (if done then Some [] else bytes_left given t.made.latest left) (if done then Some [] else bytes_left (from + count) t.made.latest left) (take count (front ++ drop count c.args.buf.now))) (sym c.requires.begun)
    (subst (λ xs. Consumes (bytes_left given xs left) (bytes_left (from + count) xs left) (take count (front ++ drop count c.args.buf.now))) c.latest-latest.ensures
    (bytes_given given from count (from + count) latest (take count (front ++ drop count c.args.buf.now)) left c.min-from.ensures few refl bytes))
