-- The rows that a cutter has not read yet.
use Rattle.std.proofs.Common.{◌≡◌, sym, subst, suc, ◌+◌, ◌≤◌, ◌^◌, List, ◌∷◌, map, length, arith}
use Rattle.std.specs.Prelude.{All, sum_by}
use Rattle.std.specs.List.Sorted.{IsStrictlyIncreasing}
use Rattle.std.proofs.lemmas.List.Sums.{sum_by-cons}
use Rattle.line_model.specs.basics.Bounds.{AreRows}
use Rattle.line_model.specs.basics.Records.{Row}
use Rattle.line_model.specs.declared.interface.Interface.{Interface}
use Rattle.line_model.specs.packets.Says.{item_of}
use Rattle.line_model.proofs.Rising.{RisesFrom, rises-from_index}
use Rattle.restart_epochs.specs.Cutting.{Cutting, IsCounted}

-- rows that the cutter may read, one after the other
pub record MayCome (c : Cutting) (rs : List Row) : Type 0 where
  pub lawful : AreRows c.interface rs
  pub rising : RisesFrom c.last (map (λ r. r.number) rs)
  pub numbers : All (λ r. r.number ≤ 999999999) rs
  pub octets : c.octets + sum_by (λ r. length r.octets) rs ≤ 2 ^ 31

pub all_may_come : (i : Interface) (c : Cutting) (rs : List Row) → c.interface ≡ i → AreRows i rs → c.last ≡ 0 → c.octets ≡ 0 → IsStrictlyIncreasing (0 ∷ map (λ r. r.number) rs)
    → All (λ r. r.number ≤ 999999999) rs → sum_by (λ r. length r.octets) rs ≤ 2 ^ 31 → MayCome c rs
all_may_come i c rs interface lawful last octets rising numbers few = record {
  lawful = subst (λ (j : Interface). AreRows j rs) (sym interface) lawful;
  rising = subst (λ n. RisesFrom n (map (λ r. r.number) rs)) (sym last) (rises-from_index (0 ∷ map (λ r. r.number) rs) rising);
  numbers = numbers;
  octets = omega (arith, octets, few);
}

pub rest_may_come : (i : Interface) (before after : Cutting) (r : Row) (rs : List Row) → MayCome before (r ∷ rs) → IsCounted (item_of i r) before after → MayCome after rs
rest_may_come i before after r rs m counted = record {
  lawful = subst (λ (j : Interface). AreRows j rs) (sym counted.interface) m.lawful.1;
  rising = subst (λ n. RisesFrom n (map (λ x. x.number) rs)) (sym counted.last) m.rising.1;
  numbers = λ k x lt. m.numbers (suc k) x (omega arith);
  octets = let all = m.octets in omega (arith, counted.octets, all, sum_by-cons (λ (x : Row). length x.octets) r rs);
}
