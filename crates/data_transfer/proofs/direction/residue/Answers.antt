use Rattle.std.proofs.Common.{◌≡◌, ◌-◌, ◌%◌, ℕ, inl, inr}
use Rattle.std.specs.Prelude.{◌⊎◌}
use Rattle.std.specs.Int.Bits.{bit_and}
use Rattle.std.proofs.lemmas.Nat.{and_mask}
use Rattle.data_transfer.proofs.direction.residue.Goals as goal

masked : (n m : ℕ) → (m ≡ 8) ⊎ (m ≡ 128) → bit_and n (m - 1) ≡ n % m
masked n m (inl e) = rw e (and_mask n 3)
masked n m (inr e) = rw e (and_mask n 7)

pub returns : goal.returns
returns c = masked c.args.number c.args.modulus c.requires.eight
