-- The pieces that were fed, and which passes know of them.
use Rattle.std.specs.Prelude.{◌≡◌, ℕ, ◌+◌, List, [], ◌∷◌, ◌++◌, true, All, Some, length, map, slice_get}
use mathlib.Core.Option.{some}
use lib.ListN.{get_elem?}
use Rattle.line_model.specs.basics.Records.{Piece}
use Rattle.line_model.specs.work.Book.{KnownPlan}
use Rattle.line_model.specs.work.Work.{WorkEntry}
use Rattle.line_model.specs.work.Work.WorkEntry.{job, finish}
use Rattle.shared_work.specs.declared.queue.rule.Record.{Record}
use Rattle.shared_work.specs.declared.queue.rule.QueueNotes.{QueueNotes}
use Rattle.shared_work.specs.queue.Entries.{line_of, AreFilled, pieces_in}
use Rattle.shared_work.specs.queue.Rule.{feeder, IsKept, EndFed, TookEntry}

-- what a pass did, the pieces that it fed, and those that it knows of
abbrev pub notes : Record → (fed known : List Piece) → QueueNotes
notes record_of fed known = record { record_of = record_of; fed = fed; known = known }

-- what all passes did
abbrev pub records_of : List QueueNotes → List Record
records_of views = map (λ v. v.record_of) views

-- the piece is among those that were fed, at its id
abbrev pub IsFed : List Piece → Piece → Type 0
IsFed fed p = slice_get fed p.id ≡ Some p

-- each piece of an entry is among those that were fed, at its id
abbrev pub IsFedEntry : List Piece → WorkEntry → Type 0
IsFedEntry fed (job p) = IsFed fed p
IsFedEntry fed finish = Unit {0}

-- what a pass knows: the feeder all pieces that were fed, in order, as many as its record says, and each pass some of them
pub record Knows (fed : List Piece) (v : QueueNotes) : Type 0 where
  pub own : v.record_of.feeds ≡ true → (v.fed ≡ fed) × (length v.fed ≡ v.record_of.fed)
  pub known : All (IsFed fed) v.known

-- what the queue and the passes hold, where these pieces were fed
pub record IsNoted (plan : KnownPlan) (items : List WorkEntry) (views : List QueueNotes) (fed : List Piece) : Type 0 where
  pub kept : IsKept plan items (records_of views)
  pub queued : All (IsFedEntry fed) items
  pub each : (port : ℕ) (v : QueueNotes) → get_elem? views port ≡ some v → Knows fed v

-- the rule of the queue, with the pieces
abbrev pub AreNoted : KnownPlan → List WorkEntry → List QueueNotes → Type 0
AreNoted plan items views = (fed : List Piece) × IsNoted plan items views fed

-- the rule of a queue whose entries are bundles and ends
abbrev pub AreBundled : KnownPlan → List (List WorkEntry) → List QueueNotes → Type 0
AreBundled plan items views = AreNoted plan (line_of items) views × AreFilled items

-- at one moment the rule held of these entries and of what all passes knew, this one among them
abbrev pub IsBetween : KnownPlan → QueueNotes → List (List WorkEntry) → Type 0
IsBetween plan v items = (views : List QueueNotes) × (port : ℕ) × AreBundled plan items views × (get_elem? views port ≡ some v)

-- the feeder fed the pieces of an entry
abbrev pub FedBundle : QueueNotes → List WorkEntry → QueueNotes → Type 0
FedBundle v x w = (w.record_of ≡ feeder (v.record_of.fed + length x) v.record_of.ends v.record_of.pending v.record_of.done v.record_of.taken) × (w.fed ≡ v.fed ++ pieces_in x) × (w.known ≡ v.known)

-- the feeder fed an end
abbrev pub FedEnd : QueueNotes → List WorkEntry → QueueNotes → Type 0
FedEnd v x w = EndFed v.record_of finish w.record_of × (w.fed ≡ v.fed) × (w.known ≡ v.known)

-- a worker took a piece or an end, and knows the piece
abbrev pub Took : KnownPlan → QueueNotes → WorkEntry → QueueNotes → Type 0
Took plan v x w = TookEntry plan v.record_of x w.record_of × (w.known ≡ v.known ++ pieces_in (x ∷ []))

-- a worker took what an entry has, one after the other
abbrev pub TookAll : KnownPlan → QueueNotes → List WorkEntry → QueueNotes → Type 0
TookAll plan v [] w = w ≡ v
TookAll plan v (x ∷ xs) w = (u : QueueNotes) × Took plan v x u × TookAll plan u xs w

-- a pass that knows what a witness knows too
abbrev pub with_witness : QueueNotes → QueueNotes → QueueNotes
with_witness v w = notes v.record_of v.fed (v.known ++ w.known)

-- each piece that the feeder learned of was fed; it has fed as many as its record says
abbrev pub IsConfirmed : QueueNotes → Type 0
IsConfirmed v = All (IsFed v.fed) v.known × (length v.fed ≡ v.record_of.fed)
