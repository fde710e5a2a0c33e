-- The queue holds the plan's pieces that were fed and not taken, in order, and then ends. Each number taken is in one record, once.
use Rattle.std.specs.Prelude.{◌≡◌, ℕ, ◌+◌, ◌-◌, ◌<◌, ◌≤◌, List, [], ◌∷◌, ◌++◌, Bool, true, false, if◌then◌else◌, sum_by, count_by, Some, slice_get}
use mathlib.Core.Option.{some}
use lib.ListN.{get_elem?}
use Rattle.line_model.specs.basics.Records.{Piece}
use Rattle.line_model.specs.work.Book.{KnownPlan, IsPlanned, times, once_below}
use Rattle.line_model.specs.work.Work.{WorkEntry, IsLine}
use Rattle.line_model.specs.work.Work.WorkEntry.{job, finish}
use Rattle.shared_work.specs.declared.queue.rule.Record.{Record}
use Rattle.shared_work.specs.queue.Entries.{line_of, AreFilled}

-- a record of the feeder's pass
abbrev pub feeder : ℕ → ℕ → ℕ → ℕ → List ℕ → Record
feeder fed ends pending done taken = record { feeds = true; works = false; fed = fed; ends = ends; pending = pending; done = done; taken = taken; finished = false; known_fed = fed }

-- a record of a worker's pass
abbrev pub worker : List ℕ → Bool → ℕ → Record
worker taken finished fed = record { feeds = false; works = true; fed = fed; ends = 0; pending = 0; done = 0; taken = taken; finished = finished; known_fed = 0 }

-- it is a record of a worker's pass
abbrev pub IsWorker : Record → Type 0
IsWorker v = v ≡ worker v.taken v.finished v.fed

-- a pass that was joined
abbrev pub nothing_done : Record
nothing_done = record { feeds = false; works = false; fed = 0; ends = 0; pending = 0; done = 0; taken = []; finished = false; known_fed = 0 }

-- the steps of a pass
abbrev pub after_split : Record → Record
after_split v = feeder v.fed v.ends (v.pending + 1) v.done v.taken

-- the feeder's record with that of a worker, and what the worker knew
abbrev pub after_join : Record → Record → Record
after_join v w = record {
  feeds = true;
  works = false;
  fed = v.fed;
  ends = v.ends;
  pending = v.pending - 1;
  done = if w.finished then v.done + 1 else v.done;
  taken = v.taken ++ w.taken;
  finished = false;
  known_fed = if w.finished then w.fed else v.fed;
}

-- these are the pieces of the plan from this place on
abbrev pub ArePlanned : KnownPlan → ℕ → List Piece → Type 0
ArePlanned plan first ps = (k : ℕ) (p : Piece) → slice_get ps k ≡ Some p → IsPlanned plan (first + k) p

-- the feeder fed a piece
abbrev pub Fed : Record → WorkEntry → Record → Type 0
Fed v x w = w ≡ feeder (v.fed + 1) v.ends v.pending v.done v.taken

-- the feeder fed an end
abbrev pub EndFed : Record → WorkEntry → Record → Type 0
EndFed v x w = w ≡ feeder v.fed (v.ends + 1) v.pending v.done v.taken

-- what the rule knows of the whole: which pass is the feeder's, how many pieces were fed, taken, how many ends were fed and how many of them wait
pub record Count : Type 0 where
  pub feeder : ℕ
  pub fed : ℕ
  pub taken : ℕ
  pub ends : ℕ
  pub waiting : ℕ

-- all that was fed was taken, and nothing more is fed
abbrev pub IsOver : Count → Type 0
IsOver c = (c.taken ≡ c.fed) × (0 < c.ends)

-- what the rule says of one pass, where this count of workers were not joined
pub record Fits (c : Count) (pending : ℕ) (port : ℕ) (v : Record) : Type 0 where
  pub feeds : v.feeds ≡ true → (port ≡ c.feeder) × (v.fed ≡ c.fed) × (v.ends ≡ c.ends) × (v.pending ≡ pending) × (v.works ≡ false) × (0 < v.done → IsOver c)
  pub finished : v.finished ≡ true → IsOver c × (v.fed ≡ c.fed)
  pub idle : v.feeds ≡ false → v.works ≡ false → v.taken ≡ []
  pub known_fed : v.feeds ≡ true → v.known_fed ≡ c.fed

-- how many workers were not joined
abbrev pub pending_of : List Record → ℕ
pending_of views = count_by (λ v. v.works) views

-- a feeder's record is at this place, and says that this count of pieces were fed
abbrev pub HasFeeder : ℕ → ℕ → List Record → Type 0
HasFeeder port fed views = (u : Record) × (get_elem? views port ≡ some u) × (u.feeds ≡ true) × (u.fed ≡ fed)

-- what the queue and the records hold, by these numbers
pub record IsCounted (plan : KnownPlan) (items : List WorkEntry) (views : List Record) (c : Count) : Type 0 where
  pub line : IsLine plan c.taken c.fed c.waiting items
  pub ends : c.waiting ≤ c.ends
  pub known : HasFeeder c.feeder c.fed views
  pub fits : (port : ℕ) (v : Record) → get_elem? views port ≡ some v → Fits c (pending_of views) port v
  pub once : (x : ℕ) → sum_by (λ v. times x v.taken) views ≡ once_below x c.taken

-- the rule: what the queue and the records hold between any two steps
abbrev pub IsKept : KnownPlan → List WorkEntry → List Record → Type 0
IsKept plan items views = (c : Count) × IsCounted plan items views c

-- at one moment the queue held the plan's pieces up to the last one fed, and then ends
abbrev pub IsInQueue : KnownPlan → Record → List WorkEntry → Type 0
IsInQueue plan v items = (taken : ℕ) × (waiting : ℕ) × IsLine plan taken v.fed waiting items × (waiting ≤ v.ends)

-- the same of a queue whose entries are bundles and ends, none of them empty
abbrev pub AreInQueue : KnownPlan → Record → List (List WorkEntry) → Type 0
AreInQueue plan v items = IsInQueue plan v (line_of items) × AreFilled items

-- at one moment each piece that had been fed was taken, by this count: the rule held of these entries and of the records of all passes, this one among them; the feeder's said that this count were fed, each number below it was in one record, once, and the entries were ends
pub record IsDrained (plan : KnownPlan) (v : Record) (fed : ℕ) (items : List WorkEntry) : Type 0 where
  pub views : List Record
  pub kept : IsKept plan items views
  pub port : ℕ
  pub among : get_elem? views port ≡ some v
  pub known : (other : ℕ) × HasFeeder other fed views
  pub once : (x : ℕ) → sum_by (λ u. times x u.taken) views ≡ once_below x fed
  pub waiting : ℕ
  pub line : IsLine plan fed fed waiting items

-- a piece is the plan's, and goes into the record; at an end the pass is finished and knows how many pieces were fed, and all of them were taken
abbrev pub TookEntry : KnownPlan → Record → WorkEntry → Record → Type 0
TookEntry plan v (job p) w = IsPlanned plan p.id p × (w ≡ worker (v.taken ++ p.id ∷ []) v.finished v.fed)
TookEntry plan v finish w = (w ≡ worker v.taken true w.fed) × ((left : List WorkEntry) × IsDrained plan v w.fed (finish ∷ left))

-- where each pass that was split was joined, and one of them had its end, the record has each number that was fed, once
abbrev pub IsAccounted : Record → Type 0
IsAccounted v = v.pending ≡ 0 → 0 < v.done → (x : ℕ) → times x v.taken ≡ once_below x v.fed

-- a worker that had its end knows as many pieces as the feeder fed
abbrev pub KnowsAll : Record → Record → Type 0
KnowsAll v w = w.finished ≡ true → w.fed ≡ v.fed
