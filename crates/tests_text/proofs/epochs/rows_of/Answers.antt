use Rattle.std.proofs.Common.{◌≡◌, ◌+◌, ◌*◌, ◌≤◌, ◌++◌, ◌∷◌, [], ℕ, List, None, length, subst, sym, arith, rules}
use Rattle.std.specs.Prelude.{IfSome}
use Rattle.line_model.specs.basics.Bounds.{AreRows, IsGapRow}
use Rattle.line_model.specs.declared.interface.Interface.{Interface}
use Rattle.line_model.specs.basics.Records.{Row}
use Rattle.line_model.proofs.RowsSoFar.{RowsTo, rows_push, rows_rise}
use Rattle.tests_text.proofs.epochs.rows_of.Goals as goal

one_more : (n : ℕ) (rs xs : List Row) (r : Row) → RowsTo n (n * 1000) rs → xs ≡ rs ++ r ∷ [] → r.number ≡ n + 1 → length r.octets ≤ 1000 → RowsTo (n + 1) ((n + 1) * 1000) xs
one_more n rs xs r h e number few =
    let pushed = rows_push n (n * 1000) rs r h (omega (arith, number)) in
    let all = pushed.octets in
    subst (RowsTo (n + 1) ((n + 1) * 1000)) (sym e) (record {
      rising = pushed.rising;
      below = λ k x in_rs. omega (arith, pushed.below k x in_rs, number);
      octets = omega (arith, all, few);
    })

lawful_more : (i : Interface) (rs : List Row) (r : Row) → AreRows i rs → r.gap ≡ None → AreRows i (rs ++ r ∷ [])
lawful_more i [] r h e = (subst (λ gap. IfSome gap (IsGapRow i r)) (sym e) tt, tt)
lawful_more i (x ∷ rs) r h e = (h.0, lawful_more i rs r h.1 e)

pub loop-side-preserved : goal.loop-side-preserved
loop-side-preserved g c = record {
  few = omega (arith, c.if-number-ge1000.false, c.loop-side.invariant.few);
  rows = one_more c.loop-side.number c.loop-side.rows.items c.push.new.self.items _ c.loop-side.invariant.rows c.in_ok-push.ensures.items (search rules) (search rules);
  lawful = λ i. subst (AreRows i) (sym c.in_ok-push.ensures.items) (lawful_more i c.loop-side.rows.items _ (c.loop-side.invariant.lawful i) (search rules));
}

pub returns-clause-rising : goal.returns-clause-rising
returns-clause-rising g c = rows_rise c.loop-side.number (c.loop-side.number * 1000) c.loop-side.rows.items c.loop-side.invariant.rows
