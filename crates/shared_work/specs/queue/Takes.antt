-- What a call of `take` returns.
use Rattle.std.specs.Prelude.{◌≡◌, ℕ, ◌<◌, List, ◌++◌, true, false, All}
use Rattle.crossbeam_queue.specs.Fifo.{Held}
use Rattle.line_model.specs.basics.Records.{Piece}
use Rattle.line_model.specs.work.Book.{KnownPlan, IsPlanned}
use Rattle.line_model.specs.work.Work.{numbers_of}
use Rattle.shared_work.specs.declared.queue.rule.Record.{Record}
use Rattle.shared_work.specs.declared.queue.work.Taken.{Taken}
use Rattle.shared_work.specs.declared.queue.work.Taken.TheVariants.{Got, Finish, Empty}
use Rattle.shared_work.specs.queue.Rule.{worker, IsDrained}

-- each piece of a bundle is the plan's of its id, and goes into the record; an end marks the pass; where nothing was taken, nothing has changed
abbrev pub IsTaken : {A : Type 0} → KnownPlan → Record → Taken A → Record → Type 0
IsTaken plan v (Got ps) w = All (λ p. IsPlanned plan p.id p) ps × (w ≡ worker (v.taken ++ numbers_of ps) false v.fed)
IsTaken plan v Finish w = w ≡ worker v.taken true w.fed
IsTaken plan v Empty w = w ≡ v

-- at an end: at one moment of the call only ends were in the queue, and each of the pieces that had been fed, this count, was taken
abbrev pub WasDrained : {A : Type 0} → KnownPlan → Record → Taken A → ℕ → Type 0
WasDrained plan v Finish fed = (n : ℕ) × (0 < n) × Held n (IsDrained plan v fed)
WasDrained plan v (Got ps) fed = Unit {0}
WasDrained plan v Empty fed = Unit {0}

-- where nothing was taken: at one moment of the call the queue had no entry, and each of the pieces that had been fed, some count, was taken
abbrev pub WasEmpty : {A : Type 0} → KnownPlan → Record → Taken A → Type 0
WasEmpty plan v Empty = (fed : ℕ) × Held 0 (IsDrained plan v fed)
WasEmpty plan v (Got ps) = Unit {0}
WasEmpty plan v Finish = Unit {0}

-- the pieces that were taken come after those before them
abbrev pub AddsTaken : {A : Type 0} → List Piece → Taken A → List Piece → Type 0
AddsTaken before (Got ps) after = after ≡ before ++ ps
AddsTaken before Finish after = after ≡ before
AddsTaken before Empty after = after ≡ before
