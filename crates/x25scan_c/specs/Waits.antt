-- What waits to be taken.
use Rattle.std.specs.Prelude.{ℕ, List, drop}
use Rattle.x25scan_c.specs.declared.waiting.Waiting.{Waiting}

-- what was appended and not taken
abbrev pub waiting : {T A : Type 0} → Waiting T A → List T
waiting w = drop w.taken w.items.items

-- how often memory was refused to what was written
abbrev pub refusals : {T A : Type 0} → Waiting T A → ℕ
refusals w = w.failures
