use Rattle.std.proofs.Common.{◌≡◌, ◌∙◌, sym, ◌<◌, false, length, subst, arith}
use Rattle.std.proofs.lemmas.Grind.{common_steps}
use Rattle.json_lines.proofs.BetweenCallsLemmas.{goes_of, nothing_refused, represents_of}
use Rattle.json_lines.proofs.lines.JsonLines.take.Goals as goal

pub loop-byte-preserved : goal.loop-byte-preserved
loop-byte-preserved g c =
    let t = c.loop-byte.invariant in (
      c.take_byte.ensures.given ∙ grind (arith, common_steps),
      c.take_byte.ensures.refused ∙ t.1,
      λ before w. c.take_byte.ensures.goes before (t.2 before w),
    )

pub returns-clause-represented : goal.returns-clause-represented
returns-clause-represented g c before s =
    let t = c.loop-byte.invariant in
    let w = t.2 before (goes_of before _ c.args.self.now s) in
    let fine : c.args.self.now.buffer.failed ≡ false = sym c.has_failed.ensures ∙ c.if-has_failed.false in
    represents_of before _ (record c.loop-byte.self { buffer = c.flush.new.self }) (record { writes = c.flush.ensures.sent before _ w.writes; line = w.line }) c.flush.ensures.empty
    (λ some. nothing_refused before _ c.args.self.now s fine (subst (λ bytes. 0 < length bytes) t.1 some) c.flush.new.self.failed)
