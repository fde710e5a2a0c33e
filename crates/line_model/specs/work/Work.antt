-- The shared work: its states, its steps, and every schedule of them (profile).
use Rattle.std.specs.Prelude.{◌≡◌, ℕ, suc, ◌+◌, ◌<◌, List, [], ◌∷◌, ◌++◌, map, length, Bool, true, false, Some, slice_get, sum_by}
use Rattle.line_model.specs.basics.Records.{Piece, PieceReport}
use Rattle.line_model.specs.pieces.Plans.{result_of}
use Rattle.line_model.specs.work.Book.{KnownPlan, IsPlanned, IsNumbered, times, once_below, ids_of}

-- an entry of the queue: a piece, or an end
pub data WorkEntry : Type 0 where
  job : Piece → WorkEntry
  finish : WorkEntry

-- a pass that was split: what it received, what of that was not posted, whether it had its end, whether it was joined
pub record Worker : Type 0 where
  pub taken : List ℕ
  pub held : List Piece
  pub finished : Bool
  pub joined : Bool

-- the pieces and the ends that were fed, the queue, the workers, the feeder's record of what joined workers received, and the posts
pub record WorkState : Type 0 where
  pub fed : List Piece
  pub ends : ℕ
  pub queue : List WorkEntry
  pub workers : List Worker
  pub record_of : List ℕ
  pub posts : List PieceReport

-- nothing was fed, and the feeder has the only pass
abbrev pub at_start : WorkState
at_start = record { fed = []; ends = 0; queue = []; workers = []; record_of = []; posts = [] }

-- a worker that received nothing
abbrev pub new_worker : Worker
new_worker = record { taken = []; held = []; finished = false; joined = false }

-- the kinds of steps
pub data Move : Type 0 where
  feed : Move
  met_full : Move
  feed_end : Move
  take_piece : Move
  take_end : Move
  met_empty : Move
  split : Move
  join : Move
  post : Move
  look : Move

-- one worker changes
abbrev pub Changes : (Worker → Worker → Type 0) → List Worker → List Worker → Type 0
Changes Does ws vs = (before : List Worker) × (after : List Worker) × (w : Worker) × (v : Worker) × (ws ≡ before ++ w ∷ after) × (vs ≡ before ++ v ∷ after) × Does w v

-- a pass that was neither finished nor joined
abbrev pub IsOut : Worker → Type 0
IsOut w = (w.finished ≡ false) × (w.joined ≡ false)

-- a worker receives a piece
abbrev pub Takes : Piece → Worker → Worker → Type 0
Takes p w v = IsOut w × (v ≡ record { taken = w.taken ++ p.id ∷ []; held = w.held ++ p ∷ []; finished = w.finished; joined = w.joined })

-- a worker receives an end
abbrev pub Finishes : Worker → Worker → Type 0
Finishes w v = IsOut w × (v ≡ record { taken = w.taken; held = w.held; finished = true; joined = w.joined })

-- a worker hands over its record
abbrev pub Joins : List ℕ → Worker → Worker → Type 0
Joins ids w v = (w.joined ≡ false) × (ids ≡ w.taken) × (v ≡ record { taken = w.taken; held = w.held; finished = w.finished; joined = true })

-- a worker posts a piece that it holds
abbrev pub Posts : Piece → Worker → Worker → Type 0
Posts p w v = (xs : List Piece) × (ys : List Piece) × (w.held ≡ xs ++ p ∷ ys) × (v ≡ record { taken = w.taken; held = xs ++ ys; finished = w.finished; joined = w.joined })

-- where a step is allowed, and what it does
abbrev pub Does : List Piece → ℕ → Move → WorkState → WorkState → Type 0
Does plan capacity feed s t = (p : Piece) × (slice_get plan (length s.fed) ≡ Some p) × (s.ends ≡ 0) × (length s.queue < capacity)
    × (t ≡ record { fed = s.fed ++ p ∷ []; ends = s.ends; queue = s.queue ++ job p ∷ []; workers = s.workers; record_of = s.record_of; posts = s.posts })
Does plan capacity met_full s t = (length s.queue ≡ capacity) × (t ≡ s)
Does plan capacity feed_end s t = (length s.queue < capacity)
    × (t ≡ record { fed = s.fed; ends = s.ends + 1; queue = s.queue ++ finish ∷ []; workers = s.workers; record_of = s.record_of; posts = s.posts })
Does plan capacity take_piece s t = (p : Piece) × (rest : List WorkEntry) × (vs : List Worker) × (s.queue ≡ job p ∷ rest) × Changes (Takes p) s.workers vs
    × (t ≡ record { fed = s.fed; ends = s.ends; queue = rest; workers = vs; record_of = s.record_of; posts = s.posts })
Does plan capacity take_end s t = (rest : List WorkEntry) × (vs : List Worker) × (s.queue ≡ finish ∷ rest) × Changes Finishes s.workers vs
    × (t ≡ record { fed = s.fed; ends = s.ends; queue = rest; workers = vs; record_of = s.record_of; posts = s.posts })
Does plan capacity met_empty s t = (s.queue ≡ []) × (t ≡ s)
Does plan capacity split s t = t ≡ record { fed = s.fed; ends = s.ends; queue = s.queue; workers = s.workers ++ new_worker ∷ []; record_of = s.record_of; posts = s.posts }
Does plan capacity join s t = (ids : List ℕ) × (vs : List Worker) × Changes (Joins ids) s.workers vs
    × (t ≡ record { fed = s.fed; ends = s.ends; queue = s.queue; workers = vs; record_of = s.record_of ++ ids; posts = s.posts })
Does plan capacity post s t = (p : Piece) × (vs : List Worker) × Changes (Posts p) s.workers vs
    × (t ≡ record { fed = s.fed; ends = s.ends; queue = s.queue; workers = vs; record_of = s.record_of; posts = s.posts ++ result_of p ∷ [] })
Does plan capacity look s t = t ≡ s

-- the steps lead from one state to the other, each allowed in its state
abbrev pub Leads : List Piece → ℕ → List Move → WorkState → WorkState → Type 0
Leads plan capacity [] s t = t ≡ s
Leads plan capacity (m ∷ ms) s t = (u : WorkState) × Does plan capacity m s u × Leads plan capacity ms u t

-- the ids of some pieces
abbrev pub numbers_of : List Piece → List ℕ
numbers_of ps = map (λ p. p.id) ps

-- the numbers of the pieces in the queue
abbrev pub waiting_of : List WorkEntry → List ℕ
waiting_of [] = []
waiting_of (job p ∷ rest) = p.id ∷ waiting_of rest
waiting_of (finish ∷ rest) = waiting_of rest

-- each member of a list has a property
abbrev pub Each : {A : Type 0} → (A → Type 0) → List A → Type 0
Each P [] = Unit {0}
Each P (x ∷ xs) = P x × Each P xs

-- what holds after every schedule
abbrev pub IsPrefixOf : List Piece → List Piece → Type 0
IsPrefixOf plan fed = (rest : List Piece) × (plan ≡ fed ++ rest)

-- each piece that was fed is once in the queue, or held by one worker, or posted
abbrev pub OccursOnce : WorkState → Type 0
OccursOnce s = (x : ℕ) → times x (waiting_of s.queue) + sum_by (λ w. times x (numbers_of w.held)) s.workers + times x (ids_of s.posts) ≡ once_below x (length s.fed)

-- there is a worker, and all have their end and hold nothing
abbrev pub IsSettled : WorkState → Type 0
IsSettled s = (0 < length s.workers) × Each (λ w. (w.finished ≡ true) × (w.held ≡ [])) s.workers

-- each piece that was fed was posted, once
abbrev pub AllPosted : WorkState → Type 0
AllPosted s = (x : ℕ) → times x (ids_of s.posts) ≡ once_below x (length s.fed)

-- a fact of each state that a schedule leads to
abbrev pub Always : (List Piece → WorkState → Type 0) → Type 0
Always Fact = (plan : List Piece) (capacity : ℕ) (moves : List Move) (s : WorkState) → IsNumbered plan → Leads plan capacity moves at_start s → Fact plan s

-- the entries are the plan's pieces from `taken` up to `fed`, in order, and then `ends` ends
abbrev pub IsLine : KnownPlan → (taken fed ends : ℕ) → List WorkEntry → Type 0
IsLine plan taken fed ends [] = (taken ≡ fed) × (ends ≡ 0)
IsLine plan taken fed ends (job p ∷ rest) = IsPlanned plan taken p × IsLine plan (suc taken) fed ends rest
IsLine plan taken fed ends (finish ∷ rest) = (taken ≡ fed) × ((left : ℕ) × (ends ≡ suc left) × IsLine plan taken fed left rest)
