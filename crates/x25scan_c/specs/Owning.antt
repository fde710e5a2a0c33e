-- What a handle owns.
use Rattle.std.specs.Prelude.{◌≡◌, ℕ, Option, Some, None}
use mir.Syntax.{Ty}
use base.Fml.{Fml, ftrue}
use denote.RattleType.{RattleType}
use denote.RawPtr.{Ptr}
use Rattle.std.specs.Box.Ownership.{box_owns}
use Rattle.std_heap.specs.contracts.GlobalAllocator.TheImpl.{ghosts}

-- the right to free a block of the heap, which is the same of each handle to it
abbrev pub chunk : Ty → Ptr → Fml
chunk = ghosts.dealloc_token (record { memory = record { seal = tt } })

-- the box at a pointer, where there is a value
unfoldable pub loose_owns : (Ty → Ptr → Fml) → (R : RattleType) → Ptr → Option R.Denot → Fml
loose_owns holds R p (Some x) = box_owns holds R p x
loose_owns holds R p None = ftrue

-- a handle of state 1 holds a value
abbrev pub Holds : {A : Type 0} → ℕ → Option A → Type 0
Holds n v = n ≡ 1 → ¬ (v ≡ None)
