-- What was read of a source.
use Rattle.std.specs.Prelude.{◌≡◌, ℕ, ◌+◌, ◌-◌, ◌*◌, ◌≤◌, ◌^◌, ◌⊎◌, List, [], length, take, Option, Some, None, Result, Err, IfOk, IfErr, IfSome, MatchOption}
use Rattle.line_model.specs.basics.Records.{Item, Piece}
use Rattle.line_model.specs.declared.interface.Interface.{Interface}
use Rattle.line_model.specs.observer.Report.{gaps_among, gaps_of}
use Rattle.line_model.specs.text.Text.{early, fault, head, rows}
use Rattle.line_model.specs.pieces.Plans.{plan, level_findings}
use Rattle.line_model.specs.packets.Says.{items_of}
use Rattle.line_model.specs.traces.Traces.{trace_plan}
use Rattle.std.specs.Option.{option_map}
use Rattle.line_model.specs.work.Book.{KnownPlan}
use Rattle.trace_text.specs.Progress.{bytes_fed}
use Rattle.trace_text.specs.Refusals.{IsRefusal}
use Rattle.trace_text.specs.Sources.{BeginsSo, IsRefusedBy}
use Rattle.trace_text.specs.Represents.{IsFaultOf, IsTextFault}
use Rattle.line_model.specs.declared.fault.Fault.{Fault}
use Rattle.line_model.specs.declared.fault.Fault.TheVariants.{Memory, Trace, Read as ReadFailed}
use Rattle.shared_work.specs.queue.Passes.{PassView, QueueId}
use Rattle.workers.specs.Workers.{HasFed}
use Rattle.trace_reading.specs.TextBlocks.{IsPartAt}
use Rattle.trace_reading.specs.TextCuts.{IsFedTo}
use Rattle.trace_reading.specs.declared.text_cutter.TextCutter.{TextCutter}
use Rattle.trace_reading.specs.declared.feeding.FedText.{FedText}
use Rattle.trace_reading.specs.declared.feeding.Read.{Read}

-- this was read of what rows of an interface say, and the pieces of their plan were fed, all and in order
pub record IsCutOf {A : Type 0} (i : Interface) (rs : List Item) (fed : List Piece) (r : Read A) : Type 0 where
  pub interface : r.interface ≡ i
  pub all : fed ≡ plan i rs
  pub interface_findings : r.interface_findings.items ≡ level_findings i rs
  pub packets : r.counts.packets ≡ length rs - gaps_of rs
  pub gaps : r.counts.gaps ≡ gaps_among i.gaps rs
  pub pieces : r.pieces ≡ length fed

-- the text has no fault, this was read of it, and its pieces were fed
pub record IsReadOf {A : Type 0} (text : List ℕ) (fed : List Piece) (r : Read A) : Type 0 where
  pub sound : fault text ≡ None
  pub header : head text ≡ Some r.interface
  pub cut : IsCutOf r.interface (items_of r.interface (rows text)) fed r

-- the bytes of the blocks in flight: 16 blocks, each of at most 262,144 bytes
abbrev pub in_flight : ℕ
in_flight = 16 * 2 ^ 18

-- the faults that reading a text may meet
abbrev pub IsReadingFault : Fault → Type 0
IsReadingFault Memory = Unit {0}
IsReadingFault (Trace level kind) = Unit {0}
IsReadingFault ReadFailed = Unit {0}
IsReadingFault _ = ⊥

-- the pass of a queue has fed more pieces, and no end
pub record HasFedOn (before after : PassView) : Type 0 where
  pub kept : HasFed before.record_of after.record_of
  pub same : after.queue ≡ before.queue

-- a first part of the text that a source shows was cut, no more than was sent on, and the pieces that are complete were fed to this queue
pub record IsFedSoFar {A : Type 0} (known : Option (List ℕ)) (queue : QueueId) (pass : PassView) (sent : ℕ) (c : TextCutter A) : Type 0 where
  pub taken : List ℕ
  pub begins : BeginsSo known taken
  pub cut : IsFedTo taken pass c
  pub within : bytes_fed c.lines ≤ sent
  pub queue_is : pass.queue ≡ queue
  pub no_ends : pass.record_of.ends ≡ 0

-- `sent` bytes of the text that a source shows were sent on, a first part of them was cut, and these bytes come after them
pub record IsHeld {A : Type 0} (known : Option (List ℕ)) (queue : QueueId) (pass : PassView) (sent : ℕ) (room : List ℕ) (c : TextCutter A) : Type 0 where
  pub cut : IsFedSoFar known queue pass sent c
  pub place : IfSome known (λ whole. IsPartAt whole sent room)

-- how many bytes of a text were read: those that were sent on, and those in the room
abbrev pub bytes_read : {P A R : Type 0} → FedText P A R → ℕ
bytes_read t = t.taken.sent + length t.room.items

-- the bytes that were read of the text that a source shows are held: a first part of those that were sent on was cut, and the others are in the
-- room
abbrev pub Holds : {P A R : Type 0} → (known : Option (List ℕ)) → (pass : PassView) → FedText P A R → Type 0
Holds known pass t = IsHeld known t.taken.work.now.queue pass t.taken.sent t.room.items t.taken.text

-- nothing was sent on
pub record HasSentNone (sent : ℕ) (room : List ℕ) : Type 0 where
  pub sent_is : sent ≡ 0
  pub room_is : room ≡ []

-- how many of the last bytes that were read may not have been cut: the blocks in flight, and any of a source that hides its bytes
abbrev pub lag_of : Option (List ℕ) → ℕ
lag_of None = 2 ^ 30
lag_of (Some whole) = in_flight

-- a text was given since the pass of the queue was `start`: `sent` of its bytes were sent on, and these come after them; all but the blocks
-- in flight was cut
pub record IsFedTextOf {A : Type 0} (known : Option (List ℕ)) (queue : QueueId) (start pass : PassView) (text : List ℕ) (sent : ℕ) (room : List ℕ) (c : TextCutter A) : Type 0 where
  pub fed : HasFedOn start pass
  pub begins : BeginsSo known text
  pub size : length text ≡ sent + length room
  pub few : length text ≤ 2 ^ 30
  pub held : IsHeld known queue pass sent room c
  pub near : length text ≤ bytes_fed c.lines + in_flight

-- the same of what is held
abbrev pub HoldsAllOf : {P A R : Type 0} → (known : Option (List ℕ)) → (start pass : PassView) → (text : List ℕ) → FedText P A R → Type 0
HoldsAllOf known start pass text t = IsFedTextOf known t.taken.work.now.queue start pass text t.taken.sent t.room.items t.taken.text

-- the text that a source shows begins so, and the plan is that of it
pub record IsPlanBegunSo (plan : KnownPlan) (known : Option (List ℕ)) (text : List ℕ) : Type 0 where
  pub planned : plan ≡ option_map trace_plan known
  pub begins : BeginsSo known text

-- the fault is that of the first `size` bytes of the text that a source shows, or an out-of-memory fault
pub record IsFaultWithin (known : Option (List ℕ)) (size : ℕ) (returned : Fault) : Type 0 where
  pub kinds : IsTextFault returned
  pub fault : IfSome known (λ whole. IsFaultOf (early (take size whole)) returned)

-- the source failed after `size` bytes, and no line of them is faulty; or the fault is theirs
abbrev pub IsReadEnd : (known : Option (List ℕ)) → (size : ℕ) → Fault → Type 0
IsReadEnd known size returned = ((returned ≡ ReadFailed) × IfSome known (λ whole. early (take size whole) ≡ None)) ⊎ IsFaultWithin known size returned

-- after some text was fed, the next bytes of it were refused
pub record IsRefusedText (known : Option (List ℕ)) (start pass : PassView) (size : ℕ) (returned : Fault) : Type 0 where
  pub fed : HasFedOn start pass
  pub refusal : IsFaultWithin known size returned

-- these pieces were fed, by which all of a text was read, or it was refused; `asked` is what the source had before its last call
pub record HasRead {A : Type 0} (before after asked : Option (List ℕ)) (failed : Type 0) (fed : List Piece) (r : Result (Read A) Fault) : Type 0 where
  pub shown : (text : List ℕ) → before ≡ Some text → IfOk r (λ read. IsReadOf text fed read × (after ≡ Some []) × (asked ≡ Some []))
  pub of_text : IfOk r (λ read. (text : List ℕ) × IsReadOf text fed read)
  pub kinds : IfErr r IsReadingFault
  pub refused : (text : List ℕ) → before ≡ Some text → IfErr r (IsRefusedBy in_flight (IsRefusal in_flight) text after asked)
  pub read_failed : r ≡ Err ReadFailed → failed

-- the source was read
abbrev pub IsOutcome : {A : Type 0} → (before after asked : Option (List ℕ)) → (failed : Type 0) → List Piece → Option (Result (Read A) Fault) → Type 0
IsOutcome before after asked failed fed outcome = MatchOption outcome ⊥ (HasRead before after asked failed fed)
