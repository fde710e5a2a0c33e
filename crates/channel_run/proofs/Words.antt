-- A word that says whether its channel is adrift.
use Rattle.std.proofs.Common.{◌≡◌, ◌∙◌, ℕ, ◌+◌, ◌*◌, ◌/◌, ◌%◌, ◌^◌, ◌<◌, ◌==◌, ◌&&◌, Bool, true, false, ap, arith}
use Rattle.data_transfer.specs.Packed.{Packed}
use Rattle.channel_run.specs.StatusWord.{state_by, view_in}

-- the mark is alone above all other bits
state_kept : (a n : ℕ) → (a % 2 ^ 18 + n * 2 ^ 18) % 8 ≡ a % 8
state_kept a n = omega arith

transfer_kept : (a n : ℕ) → (a % 2 ^ 18 + n * 2 ^ 18) / 8 % 4 ≡ a / 8 % 4
transfer_kept a n = omega arith

owed_kept : (a n : ℕ) → (a % 2 ^ 18 + n * 2 ^ 18) / 32 % 2 ≡ a / 32 % 2
owed_kept a n = omega arith

open_kept : (a n : ℕ) → (a % 2 ^ 18 + n * 2 ^ 18) / 2 ^ 9 % 2 ≡ a / 2 ^ 9 % 2
open_kept a n = omega arith

pad_kept : (a n : ℕ) → (a % 2 ^ 18 + n * 2 ^ 18) / 2 ^ 6 % 2 ≡ a / 2 ^ 6 % 2
pad_kept a n = omega arith

fast_kept : (a n : ℕ) → (a % 2 ^ 18 + n * 2 ^ 18) / 2 ^ 7 % 2 ≡ a / 2 ^ 7 % 2
fast_kept a n = omega arith

size_t_kept : (a n : ℕ) → (a % 2 ^ 18 + n * 2 ^ 18) / 1024 % 16 ≡ a / 1024 % 16
size_t_kept a n = omega arith

size_n_kept : (a n : ℕ) → (a % 2 ^ 18 + n * 2 ^ 18) / 16384 % 16 ≡ a / 16384 % 16
size_n_kept a n = omega arith

mark_is : (a n : ℕ) → n < 2 → (a % 2 ^ 18 + n * 2 ^ 18) / 2 ^ 18 % 2 ≡ n
mark_is a n h = omega arith

-- a mark of one bit
below : (n : ℕ) (b : Bool) → n ≡ elim b [ true ↦ 1 | false ↦ 0 ] → n < 2
below n true e = omega arith
below n false e = omega arith

says : (n : ℕ) (b : Bool) → n ≡ elim b [ true ↦ 1 | false ↦ 0 ] → (n == 1) ≡ b
says n true e = ap (λ m. m == 1) e
says n false e = ap (λ m. m == 1) e

pub marked : (old new : Packed) (n : ℕ) (b : Bool) → n ≡ elim b [ true ↦ 1 | false ↦ 0 ] → new.owner_bits ≡ old.owner_bits % 2 ^ 18 + n * 2 ^ 18 → new.flow ≡ old.flow → view_in new ≡ record (view_in old) { adrift = b }
marked old new n b is owner_bits flow =
    let a : ℕ = old.owner_bits in
    (λ j. view_in (record { flow = flow j; owner_bits = owner_bits j }))
    ∙ (λ j. record {
      state = state_by (state_kept a n j) (transfer_kept a n j);
      adrift = (ap (λ m. m == 1) (mark_is a n (below n b is)) ∙ says n b is) j;
      owed = owed_kept a n j == 1;
      pad_call = (open_kept a n j == 1) && (pad_kept a n j == 1);
      fast = (open_kept a n j == 1) && (fast_kept a n j == 1);
      size_t = 2 ^ size_t_kept a n j;
      size_n = 2 ^ size_n_kept a n j;
      flow = old.flow;
    })
