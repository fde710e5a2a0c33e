use Rattle.std.proofs.Common.{◌≡◌, ◌<◌, arith, slice_index, refl}
use Rattle.call_accounts.specs.Sweep.{height}
use Rattle.call_accounts.proofs.SweepLemmas.{highest_taken, highest_kept}
use Rattle.call_accounts.proofs.peak.highest.Goals as goal
use Rattle.call_accounts.proofs.peak.highest.Goals.{then-count-up_now, else-count-up_now}

pub loop-index-preserved : goal.loop-index-preserved
loop-index-preserved c =
    let h = c.loop-index.invariant in
    let ups = c.args.ups.now in
    let ends = c.args.ends.now in
    let n = c.loop-index.index in
    record {
      within = omega (arith, c.ended_by-ended.ensures.within);
      known = λ k i low from lt. omega (arith, c.ended_by-ended.ensures.known k low, c.requires.ups_sorted n i 0 (omega arith) lt);
      highest = elim c.if-count-up_now.branch [
        | then-count-up_now w ↦
            let e : c.if-count-up_now.count ≡ height ups ends n = cc (c.saturating_sub-up_now.ensures, c.ended_by-ended.ensures.count) in
            let lt : c.loop-index.count < height ups ends n = omega (arith, w.if-count-up_now.true, w.count-is) in
            rw (e, w.packet-is) (highest_taken ups ends n c.loop-index.count (slice_index ups n) c.loop-index.packet h.highest lt refl)
        | else-count-up_now w ↦
            let e : c.saturating_sub-up_now.result ≡ height ups ends n = cc (c.saturating_sub-up_now.ensures, c.ended_by-ended.ensures.count) in
            rw (w.count-is, w.packet-is) (highest_kept ups ends n c.loop-index.count c.loop-index.packet h.highest (omega (arith, w.if-count-up_now.false)))
      ];
    }
