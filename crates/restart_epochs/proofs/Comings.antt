-- Rows that a cutter may read, one after the other.
use Rattle.std.proofs.Common.{◌≡◌, subst, ℕ, suc, ◌+◌, ◌≤◌, ◌^◌, List, [], ◌∷◌, ◌++◌, map, arith}
use Rattle.std.specs.Prelude.{All}
use Rattle.std.proofs.lemmas.List.Sums.{sum_by-cons}
use Rattle.line_model.specs.declared.interface.Interface.{Interface}
use Rattle.line_model.specs.basics.Bounds.{AreSaid, all_octets}
use Rattle.line_model.specs.basics.Records.{Item}
use Rattle.line_model.specs.text.Text.{last_or}
use Rattle.line_model.proofs.Rising.{RisesFrom, rises-from_index}
use Rattle.restart_epochs.specs.Cutting.{Cutting}
use Rattle.restart_epochs.specs.BlockCuts.{Comes, MayCome}

abbrev pub numbers : List Item → List ℕ
numbers items = map (λ (it : Item). it.number) items

octets_first : (item : Item) (items : List Item) → all_octets (item ∷ items) ≡ item.length + all_octets items
octets_first item items = sum_by-cons (λ (it : Item). it.length) item items

comes : (i : Interface) (last octets : ℕ) (items : List Item) → RisesFrom last (numbers items) → All (λ it. it.number ≤ 999999999) items → octets + all_octets items ≤ 2 ^ 31
    → AreSaid i items → Comes i last octets items
comes i last octets [] rising few all said = omega (arith, all)
comes i last octets (item ∷ items) rising few all said = (
  rising.0,
  few 0 item (omega arith),
  said.0,
  comes i item.number (octets + item.length) items rising.1 (λ k x lt. few (suc k) x (omega arith)) (omega (arith, all, octets_first item items)) said.1,
)

pub all_come : (c : Cutting) (items : List Item) → MayCome c items → Comes c.interface c.last c.octets items
all_come c items m = comes c.interface c.last c.octets items (rises-from_index (c.last ∷ numbers items) m.rising) m.numbers m.octets m.said

come_few : (i : Interface) (last octets : ℕ) (items : List Item) → Comes i last octets items → octets + all_octets items ≤ 2 ^ 31
come_few i last octets [] h = omega (arith, h)
come_few i last octets (item ∷ items) h = let rest = come_few i item.number (octets + item.length) items h.3 in omega (arith, rest, octets_first item items)

-- the first of them
pub come_first : (i : Interface) (last octets : ℕ) (xs ys : List Item) → Comes i last octets (xs ++ ys) → Comes i last octets xs
come_first i last octets [] ys h = let all = come_few i last octets ys h in omega (arith, all)
come_first i last octets (x ∷ xs) ys h = (h.0, h.1, h.2, come_first i x.number (octets + x.length) xs ys h.3)

-- those after them
pub come_behind : (i : Interface) (last octets : ℕ) (xs ys : List Item) → Comes i last octets (xs ++ ys) → Comes i (last_or last (numbers xs)) (octets + all_octets xs) ys
come_behind i last octets [] ys h = subst (λ n. Comes i last n ys) (omega arith) h
come_behind i last octets (x ∷ xs) ys h =
    let same : (octets + x.length) + all_octets xs ≡ octets + all_octets (x ∷ xs) = omega (arith, octets_first x xs) in
    subst (λ n. Comes i (last_or x.number (numbers xs)) n ys) same (come_behind i x.number (octets + x.length) xs ys h.3)

-- the number of the last of them
pub come_up : (i : Interface) (last octets : ℕ) (items : List Item) → Comes i last octets items → last ≤ last_or last (numbers items)
come_up i last octets [] h = omega arith
come_up i last octets (item ∷ items) h = let first = h.0 in let rest = come_up i item.number (octets + item.length) items h.3 in omega (arith, first, rest)
