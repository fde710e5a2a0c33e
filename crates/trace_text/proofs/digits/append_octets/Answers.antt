use Rattle.std.proofs.Common.{ℕ, List, ap, arith, length, length-append, subst, sym, take, ◌*◌}
use Rattle.trace_text.specs.Digits.{AreOctets}
use Rattle.trace_text.proofs.DigitLemmas.{decodes-block}
use Rattle.trace_text.proofs.digits.append_octets.Goals as goal

pub loop-rest-preserved : goal.loop-rest-preserved
loop-rest-preserved g c text h =
    decodes-block text c.loop-rest.octets.items c.extend_from_slice.new.self.items c.loop-rest.rest.now c.next_block.result.1.now c.next_block.result.0
    (c.loop-rest.invariant text h) c.next_block.ensures.octets c.in-Ok.ensures.items

pub loop-rest-smaller : goal.loop-rest-smaller
loop-rest-smaller g c =
    let grown = ap (λ (xs : List ℕ). length xs) c.in-Ok.ensures.items in
    omega (arith, grown, length-append c.loop-rest.octets.items c.next_block.result.0, c.next_block.ensures.long, c.loop-rest-test.true, c.loop-rest.octets.ok)

pub returns : goal.returns
returns g c text h there all =
    let done = c.loop-rest.invariant text h in
    subst (AreOctets (take (2 * c.args.count) text)) (sym c.truncate.ensures.items)
    (done.octets_are c.args.count (omega (arith, c.loop-rest-test.false, c.loop-rest.octets.ok)) there all)
