-- The octets of a sequence.
use Rattle.std.specs.Prelude.{ℕ, List}
use Rattle.data_transfer.specs.declared.sequence.UserData.{UserData}
use Rattle.data_transfer.specs.declared.sequence.UserData.TheVariants.{OfOne, OfSeveral}

-- lent by its only packet, or joined
abbrev pub octets_in : {A : Type 0} → UserData A → List ℕ
octets_in (OfOne xs) = xs.now
octets_in (OfSeveral v) = v.items
