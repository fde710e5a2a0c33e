-- The parts of a text that are consumed in order.
use Rattle.std.proofs.Common.{◌≡◌, ◌∙◌, sym, ap, subst, refl, ℕ, ◌+◌, ◌≤◌, List, [], ◌++◌, length, take, Option, Some, None, Result, Ok, Err, append-nil, append_assoc, length-append, arith}
use Rattle.std.proofs.Math.Seq.{take-append_seam}
use Rattle.std.specs.Prelude.{IfErr, IfSome, OnOk}
use Rattle.std.specs.Option.{option_map}
use Rattle.line_model.specs.text.Text.{early}
use Rattle.line_model.specs.declared.fault.Fault.{Fault}
use Rattle.line_model.specs.work.Book.{KnownPlan}
use Rattle.line_model.specs.basics.Records.{Piece}
use Rattle.line_model.specs.traces.Traces.{trace_plan}
use Rattle.trace_text.specs.Progress.{bytes_fed}
use Rattle.trace_text.specs.FedBytes.{fed_length}
use Rattle.trace_text.specs.Sources.{BeginsSo}
use Rattle.shared_work.specs.queue.Passes.{PassView, QueueId}
use Rattle.workers.specs.Workers.{HasFed}
use Rattle.trace_reading.specs.TextBlocks.{IsPartAt}
use Rattle.trace_reading.specs.TextCuts.{HasTaken, IsPlanOf, known_pieces}
use Rattle.trace_reading.specs.Readings.{HasFedOn, IsFaultWithin, IsFedSoFar, IsHeld, in_flight}
use Rattle.trace_reading.specs.declared.text_cutter.TextCutter.{TextCutter}
use Rattle.trace_reading.proofs.Courses.{fault_wider, fed_on, plan_begun}
use Rattle.trace_reading.proofs.Rows.{all_fed}

same_front : (xs ys us vs : List ℕ) → xs ++ us ≡ ys ++ vs → length xs ≡ length ys → xs ≡ ys
same_front xs ys us vs e n = sym (take-append_seam xs us) ∙ ap (take (length xs)) e ∙ ap (λ k. take k (ys ++ vs)) n ∙ take-append_seam ys vs

-- bytes that come after those that were consumed
pub begins_more : (known : Option (List ℕ)) (taken bytes : List ℕ) (place : ℕ) → BeginsSo known taken → place ≡ length taken → IfSome known (λ whole. IsPartAt whole place bytes) → BeginsSo known (taken ++ bytes)
begins_more None taken bytes place begins at s = tt
begins_more (Some whole) taken bytes place begins at s =
    let whole_is = sym (append_assoc s.before bytes s.rest) ∙ sym s.is ∙ begins.1 in
    (s.rest, s.is ∙ ap (λ xs. (xs ++ bytes) ++ s.rest) (same_front s.before taken (bytes ++ s.rest) begins.0 whole_is (s.place_is ∙ at)))

-- the plan of a text that begins so
pub planned_so : (plan : KnownPlan) (known : Option (List ℕ)) (text : List ℕ) → plan ≡ option_map trace_plan known → BeginsSo known text → IsPlanOf plan text
planned_so plan known text e begins = subst (λ ps. IsPlanOf ps text) (sym e) (plan_begun known text begins)

-- how many bytes were consumed
pub taken_length : {A : Type 0} (text : List ℕ) (c : TextCutter A) → HasTaken text c → bytes_fed c.lines ≡ length text
taken_length text c h = fed_length c.lines text h.reads

-- a part was consumed, and the pieces that came to be complete were fed
pub part_fed : {A : Type 0} (known : Option (List ℕ)) (queue : QueueId) (pass after : PassView) (sent reached : ℕ) (c d : TextCutter A) (bytes : List ℕ) (pieces : List Piece) (len : ℕ) → (so : IsFedSoFar known queue pass sent c) → bytes_fed d.lines ≤ reached → BeginsSo known (so.taken ++ bytes) → HasTaken (so.taken ++ bytes) d
    → known_pieces (so.taken ++ bytes) ≡ known_pieces so.taken ++ pieces → len ≡ length pieces → after.record_of.fed ≡ pass.record_of.fed + len → HasFed pass.record_of after.record_of → after.queue ≡ pass.queue → after.pieces ≡ pass.pieces ++ pieces
    → IsFedSoFar known queue after reached d
part_fed known queue pass after sent reached c d bytes pieces len so within begins taken more size fed kept same all = record {
  taken = so.taken ++ bytes;
  begins = begins;
  cut = record {
    taken = taken;
    count = all_fed len pass.record_of.fed after.record_of.fed (known_pieces so.taken) pieces (known_pieces (so.taken ++ bytes)) size so.cut.count more fed;
    pieces = all ∙ ap (λ ps. ps ++ pieces) so.cut.pieces ∙ sym more;
  };
  within = within;
  queue_is = same ∙ so.queue_is;
  no_ends = kept.ends;
}

-- some were fed, and then others
pub fed_both : (a b c : PassView) → HasFedOn a b → HasFedOn b c → HasFedOn a c
fed_both a b c first more = record { kept = fed_on a.record_of b.record_of c.record_of first.kept more.kept; same = more.same ∙ first.same }

-- ---- bytes of the text that come one after the other

pub represents_front : (known : Option (List ℕ)) (place : ℕ) (bytes lines more : List ℕ) → bytes ≡ lines ++ more → IfSome known (λ whole. IsPartAt whole place bytes) → IfSome known (λ whole. IsPartAt whole place lines)
represents_front None place bytes lines more e s = tt
represents_front (Some whole) place bytes lines more e s = record {
  before = s.before;
  rest = more ++ s.rest;
  is = s.is ∙ ap (λ xs. (s.before ++ xs) ++ s.rest) e ∙ ap (λ xs. xs ++ s.rest) (sym (append_assoc s.before lines more)) ∙ append_assoc (s.before ++ lines) more s.rest;
  place_is = s.place_is;
}

pub represents_back : (known : Option (List ℕ)) (place next : ℕ) (bytes lines more : List ℕ) → bytes ≡ lines ++ more → next ≡ place + length lines → IfSome known (λ whole. IsPartAt whole place bytes) → IfSome known (λ whole. IsPartAt whole next more)
represents_back None place next bytes lines more e at s = tt
represents_back (Some whole) place next bytes lines more e at s = record {
  before = s.before ++ lines;
  rest = s.rest;
  is = s.is ∙ ap (λ xs. (s.before ++ xs) ++ s.rest) e ∙ ap (λ xs. xs ++ s.rest) (sym (append_assoc s.before lines more));
  place_is = length-append s.before lines ∙ ap (λ n. n + length lines) s.place_is ∙ sym at;
}

-- a chunk comes after them
pub represents_more : (known : Option (List ℕ)) (text chunk bytes : List ℕ) (place : ℕ) → BeginsSo known (text ++ chunk) → length text ≡ place + length bytes → IfSome known (λ whole. IsPartAt whole place bytes) → IfSome known (λ whole. IsPartAt whole place (bytes ++ chunk))
represents_more None text chunk bytes place begins size s = tt
represents_more (Some whole) text chunk bytes place begins size s =
    let front = same_front (s.before ++ bytes) text s.rest (chunk ++ begins.0) (sym s.is ∙ begins.1 ∙ append_assoc text chunk begins.0) (length-append s.before bytes ∙ ap (λ n. n + length bytes) s.place_is ∙ sym size) in
    record {
      before = s.before;
      rest = begins.0;
      is = begins.1 ∙ ap (λ xs. (xs ++ chunk) ++ begins.0) (sym front) ∙ ap (λ xs. xs ++ begins.0) (append_assoc s.before bytes chunk);
      place_is = s.place_is;
    }

-- ---- what is held of the text, where it is moved on

pub more_sent : {A : Type 0} (known : Option (List ℕ)) (queue : QueueId) (pass : PassView) (sent more : ℕ) (c : TextCutter A) → IsFedSoFar known queue pass sent c → sent ≤ more → IsFedSoFar known queue pass more c
more_sent known queue pass sent more c so le = record { taken = so.taken; begins = so.begins; cut = so.cut; within = omega (arith, le, so.within); queue_is = so.queue_is; no_ends = so.no_ends }

-- all that was sent on was consumed, and nothing comes after it
none_represents : {A : Type 0} (known : Option (List ℕ)) (queue : QueueId) (pass : PassView) (sent : ℕ) (room : List ℕ) (c : TextCutter A) → IsFedSoFar known queue pass sent c → bytes_fed c.lines ≡ sent → room ≡ [] → IfSome known (λ whole. IsPartAt whole sent room)
none_represents None queue pass sent room c so all none = tt
none_represents (Some whole) queue pass sent room c so all none = record {
  before = so.taken;
  rest = so.begins.0;
  is = so.begins.1 ∙ ap (λ xs. xs ++ so.begins.0) (sym (append-nil so.taken) ∙ ap (λ xs. so.taken ++ xs) (sym none));
  place_is = sym (taken_length so.taken c so.cut.taken) ∙ all;
}

pub held_none : {A T : Type 0} (r : Result T Fault) (known : Option (List ℕ)) (queue : QueueId) (pass : PassView) (sent : ℕ) (room : List ℕ) (c : TextCutter A) → room ≡ [] → OnOk r (IsFedSoFar known queue pass sent c) → OnOk r (bytes_fed c.lines ≡ sent) → OnOk r (IsHeld known queue pass sent room c)
held_none (Err f) known queue pass sent room c none so all = tt
held_none (Ok u) known queue pass sent room c none so all = record { cut = so; place = none_represents known queue pass sent room c so all none }

pub size_none : {T : Type 0} (r : Result T Fault) (sent total : ℕ) (room : List ℕ) → room ≡ [] → OnOk r (sent ≡ total) → OnOk r (sent + length room ≡ total)
size_none (Err f) sent total room none h = tt
size_none (Ok u) sent total room none h = let empty : length room ≡ 0 = ap (λ (xs : List ℕ). length xs) none in omega (arith, empty, h)

-- lines were sent on, and the room after them stays
pub held_after : {A T : Type 0} (r : Result T Fault) (known : Option (List ℕ)) (queue next_queue : QueueId) (pass after : PassView) (sent next : ℕ) (lines room : List ℕ) (c d : TextCutter A) → IsHeld known queue pass sent (lines ++ room) c → OnOk r (IsFedSoFar known next_queue after next d) → OnOk r (next ≡ sent + length lines)
    → OnOk r (IsHeld known next_queue after next room d)
held_after (Err f) known queue next_queue pass after sent next lines room c d held so at = tt
held_after (Ok u) known queue next_queue pass after sent next lines room c d held so at = record { cut = so; place = represents_back known sent next (lines ++ room) lines room refl at held.place }

-- the same is held where nothing was sent on
pub held_same : {A : Type 0} (known : Option (List ℕ)) (queue same_queue : QueueId) (pass : PassView) (sent now : ℕ) (room rest : List ℕ) (c d : TextCutter A) → IsHeld known queue pass sent room c → now ≡ sent → d ≡ c → same_queue ≡ queue → room ≡ rest → IsHeld known same_queue pass now rest d
held_same known queue same_queue pass sent now room rest c d h at text work is =
    subst (λ q. IsHeld known q pass now rest d) (sym work) (subst (λ n. IsHeld known queue pass n rest d) (sym at) (subst (λ t. IsHeld known queue pass sent rest t) (sym text) (subst (λ xs. IsHeld known queue pass sent xs c) is h)))

-- a chunk was put after what is held
pub held_more : {A : Type 0} (known : Option (List ℕ)) (queue : QueueId) (pass : PassView) (sent : ℕ) (text chunk room : List ℕ) (c : TextCutter A) → BeginsSo known (text ++ chunk) → length text ≡ sent + length room → IsHeld known queue pass sent room c → IsHeld known queue pass sent (room ++ chunk) c
held_more known queue pass sent text chunk room c begins size h = record { cut = h.cut; place = represents_more known text chunk room sent begins size h.place }

-- all that was consumed is sound
pub taken_sound : {A : Type 0} (known : Option (List ℕ)) (queue : QueueId) (pass : PassView) (sent size : ℕ) (c : TextCutter A) → IsFedSoFar known queue pass sent c → bytes_fed c.lines ≡ size → IfSome known (λ whole. early (take size whole) ≡ None)
taken_sound None queue pass sent size c so all = tt
taken_sound (Some whole) queue pass sent size c so all =
    subst (λ xs. early xs ≡ None) (sym (take-append_seam so.taken so.begins.0) ∙ ap (take (length so.taken)) (sym so.begins.1) ∙ ap (λ n. take n whole) (sym (taken_length so.taken c so.cut.taken) ∙ all)) so.cut.taken.reads.sound

pub err_wider : {T : Type 0} (r : Result T Fault) (known : Option (List ℕ)) (few size : ℕ) → few ≤ size → IfErr r (IsFaultWithin known few) → IfErr r (IsFaultWithin known size)
err_wider (Ok u) known few size le h = tt
err_wider (Err f) known few size le h = fault_wider known few size f le h

pub ok_is : {T : Type 0} (r : Result T Fault) (a b c : ℕ) → b ≡ c → OnOk r (a ≡ b) → OnOk r (a ≡ c)
ok_is (Err f) a b c e h = tt
ok_is (Ok u) a b c e h = h ∙ e

pub ok_few : {T : Type 0} (r : Result T Fault) (a b n : ℕ) → b ≤ n → OnOk r (a ≡ b) → OnOk r (a ≤ n)
ok_few (Err f) a b n le h = tt
ok_few (Ok u) a b n le h = omega (arith, le, h)

pub ok_holds : {T P : Type 0} (r : Result T Fault) → P → OnOk r P
ok_holds (Err f) h = tt
ok_holds (Ok u) h = h

-- nothing comes after what was sent on, and all of that was consumed
pub few_none : {T : Type 0} (r : Result T Fault) (sent most : ℕ) (room : List ℕ) → room ≡ [] → OnOk r (sent ≤ most) → OnOk r (sent + length room ≤ most)
few_none (Err f) sent most room none h = tt
few_none (Ok u) sent most room none h = let empty : length room ≡ 0 = ap (λ (xs : List ℕ). length xs) none in omega (arith, empty, h)

pub near_none : {T : Type 0} (r : Result T Fault) (taken sent : ℕ) (room : List ℕ) → room ≡ [] → OnOk r (taken ≡ sent) → OnOk r (sent + length room ≤ taken + in_flight)
near_none (Err f) taken sent room none h = tt
near_none (Ok u) taken sent room none h = let empty : length room ≡ 0 = ap (λ (xs : List ℕ). length xs) none in omega (arith, empty, h)
