-- A text whose pieces are fed while it is read from a source.
use Rattle.std.proofs.Common.{◌≡◌, ◌∙◌, sym, ap, subst, refl, ℕ, ◌+◌, ◌-◌, ◌≤◌, ◌≢◌, List, [], ◌++◌, length, take, drop, Option, Some, None, Result, Ok, Err, append-nil, inl, inr, ◌⊎◌, arith}
use Rattle.std.proofs.Math.Seq.{take-add, take-append_seam}
use Rattle.std.specs.Prelude.{IfOk, IfErr, IfSome}
use Rattle.std.specs.Option.{option_map}
use Rattle.line_model.specs.work.Book.{KnownPlan}
use Rattle.line_model.specs.basics.Records.{Piece}
use Rattle.line_model.specs.traces.Traces.{trace_plan}
use Rattle.line_model.specs.text.Text.{early, fault}
use Rattle.line_model.specs.declared.fault.Fault.{Fault}
use Rattle.line_model.specs.declared.fault.Fault.TheVariants.{Memory, Trace, Read as ReadFailed}
use Rattle.line_model.proofs.FinalFaults.{early-append}
use Rattle.line_model.proofs.TextLemmas.{early_rows-nothing}
use Rattle.trace_text.specs.FedBytes.{fed_length}
use Rattle.trace_text.specs.Progress.{bytes_fed}
use Rattle.trace_text.specs.Sources.{BeginsSo, HasFailed, IsAllGiven, IsFedAll, IsFedUpTo, IsRefusedBy, MayBeFed}
use Rattle.trace_text.specs.Represents.{IsFaultOf, IsTextFault}
use Rattle.trace_text.proofs.SourceLemmas.{all_sound as sound_at_end}
use Rattle.shared_work.specs.queue.Passes.{PassView, QueueId}
use Rattle.shared_work.specs.declared.queue.rule.Record.{Record}
use Rattle.workers.specs.Workers.{HasFed}
use Rattle.trace_reading.specs.TextBlocks.{IsPartAt}
use Rattle.trace_reading.specs.TextCuts.{HasTaken, IsPlanOf}
use Rattle.trace_reading.specs.Readings.{HasFedOn, HasRead, HasSentNone, IsFaultWithin, IsFedTextOf, IsHeld, IsPlanBegunSo, IsReadEnd, IsReadOf, IsReadingFault, IsRefusedText, in_flight, lag_of}
use Rattle.trace_reading.specs.declared.feeding.Read.{Read}
use Rattle.trace_reading.specs.declared.text_cutter.TextCutter.{TextCutter}
use Rattle.trace_reading.proofs.Firsts.{none_known}
use Rattle.trace_text.specs.Refusals.{IsRefusal}
use Rattle.trace_text.proofs.Refused.{given_by, on_the_way}

fed_none : (v : Record) → v.ends ≡ 0 → HasFed v v
fed_none v none = record { ends = none; pending = refl; done = refl; taken = refl }

pub fed_on : (u v w : Record) → HasFed u v → HasFed v w → HasFed u w
fed_on u v w first more = record { ends = more.ends; pending = more.pending ∙ first.pending; done = more.done ∙ first.done; taken = more.taken ∙ first.taken }

begins_none : (known : Option (List ℕ)) → BeginsSo known []
begins_none None = tt
begins_none (Some whole) = (whole, refl)

pub nothing_fed : {A : Type 0} (known : Option (List ℕ)) (queue : QueueId) (pass : PassView) (sent : ℕ) (room : List ℕ) (c : TextCutter A) → HasSentNone sent room → HasTaken [] c → pass.record_of.fed ≡ 0 → pass.record_of.ends ≡ 0 → pass.pieces ≡ [] → pass.queue ≡ queue
    → IsFedTextOf known queue pass pass [] sent room c
nothing_fed known queue pass sent room c begun taken none no_ends no_pieces same =
    let none_are = none_known [] early_rows-nothing in
    let bytes : bytes_fed c.lines ≡ 0 = fed_length c.lines [] taken.reads in
    let size : length room ≡ 0 = ap (λ (xs : List ℕ). length xs) begun.room_is in
    record {
      fed = record { kept = fed_none pass.record_of no_ends; same = refl };
      begins = begins_none known;
      size = omega (arith, begun.sent_is, size);
      few = omega arith;
      held = record {
        cut = record {
          taken = [];
          begins = begins_none known;
          cut = record { taken = taken; count = none ∙ sym (ap (λ (ps : List Piece). length ps) none_are); pieces = no_pieces ∙ sym none_are };
          within = omega (arith, bytes);
          queue_is = same;
          no_ends = no_ends;
        };
        place = none_represents known sent room begun;
      };
      near = omega arith;
    }
  where
    none_represents : (known : Option (List ℕ)) (sent : ℕ) (room : List ℕ) → HasSentNone sent room → IfSome known (λ whole. IsPartAt whole sent room)
    none_represents None sent room begun = tt
    none_represents (Some whole) sent room begun = record { before = []; rest = whole; is = ap (λ xs. xs ++ whole) (sym begun.room_is); place_is = sym begun.sent_is }

-- ---- the plan of the text

pub plan_begun : (left : Option (List ℕ)) (text : List ℕ) → BeginsSo left text → IsPlanOf (option_map trace_plan left) text
plan_begun None text h = tt
plan_begun (Some all) text h = (h.0, ap trace_plan h.1)

pub plan_expected : (plan : KnownPlan) (known left : Option (List ℕ)) → known ≡ left → plan ≡ option_map trace_plan known → MayBeFed left (IsPlanBegunSo plan known)
plan_expected plan known left e planned text begins = record { planned = planned; begins = subst (λ l. BeginsSo l text) (sym e) begins }

-- all that was given was consumed
pub all_taken : (known : Option (List ℕ)) (text taken : List ℕ) → BeginsSo known text → BeginsSo known taken → length taken ≡ length text → IfSome known (λ whole. taken ≡ text)
all_taken None text taken given begins size = tt
all_taken (Some whole) text taken given begins size = sym (take-append_seam taken begins.0) ∙ ap (take (length taken)) (sym begins.1 ∙ given.1) ∙ ap (λ n. take n (text ++ given.0)) size ∙ take-append_seam text given.0

-- the plan is that of what was consumed
pub plan_whole : (plan : KnownPlan) (known : Option (List ℕ)) (taken : List ℕ) → plan ≡ option_map trace_plan known → IfSome known (λ whole. whole ≡ taken) → IfSome plan (λ ps. ps ≡ trace_plan taken)
plan_whole plan known taken e h = subst (λ ps. IfSome ps (λ l. l ≡ trace_plan taken)) (sym e) (at known h)
  where
    at : (o : Option (List ℕ)) → IfSome o (λ whole. whole ≡ taken) → IfSome (option_map trace_plan o) (λ ps. ps ≡ trace_plan taken)
    at None h = tt
    at (Some whole) h = ap trace_plan h

-- the whole text was consumed
pub whole_taken : (known left after asked : Option (List ℕ)) (text taken : List ℕ) → known ≡ left → IsAllGiven left after asked text → IfSome known (λ whole. taken ≡ text) → IfSome known (λ whole. whole ≡ taken)
whole_taken None left after asked text taken e source h = tt
whole_taken (Some whole) left after asked text taken e source h = (source whole (sym e)).0 ∙ sym h

pub shown_taken : (known left : Option (List ℕ)) (text taken all : List ℕ) → known ≡ left → IfSome known (λ whole. taken ≡ text) → left ≡ Some all → taken ≡ text
shown_taken None left text taken all e h shown = absurd cc
shown_taken (Some whole) left text taken all e h shown = h

-- ---- the fault of the first bytes of the text

fault_stays : (text more : List ℕ) (f : Fault) → IsFaultOf (early text) f → IsFaultOf (early (text ++ more)) f
fault_stays text more Memory h = tt
fault_stays text more (Trace level kind) h = early-append text more (level, kind) h
fault_stays text more _ h = absurd h

pub fault_wider : (known : Option (List ℕ)) (few size : ℕ) (f : Fault) → few ≤ size → IsFaultWithin known few f → IsFaultWithin known size f
fault_wider None few size f le h = record { kinds = h.kinds; fault = tt }
fault_wider (Some whole) few size f le h = record {
  kinds = h.kinds;
  fault = subst (λ xs. IsFaultOf (early xs) f) (sym (take-add few (size - few) whole) ∙ ap (λ n. take n whole) (omega (arith, le))) (fault_stays (take few whole) (take (size - few) (drop few whole)) f h.fault);
}

pub fault_at : (known : Option (List ℕ)) (text : List ℕ) (f : Fault) → BeginsSo known text → IsFaultOf (early text) f → IsTextFault f → IsFaultWithin known (length text) f
fault_at None text f begins h kinds = record { kinds = kinds; fault = tt }
fault_at (Some whole) text f begins h kinds = record { kinds = kinds; fault = subst (λ xs. IsFaultOf (early xs) f) (sym (ap (take (length text)) begins.1 ∙ take-append_seam text begins.0)) h }

-- ---- what is reported at the end

reading_fault : (f : Fault) → IsTextFault f → IsReadingFault f
reading_fault Memory h = tt
reading_fault (Trace level kind) h = tt
reading_fault _ h = absurd h

no_read_fault : (f : Fault) → IsTextFault f → f ≡ ReadFailed → ⊥
no_read_fault f h e = subst IsTextFault e h

-- the bytes in flight, where the source shows its text
flight : (known before : Option (List ℕ)) (all : List ℕ) → known ≡ before → before ≡ Some all → lag_of known ≡ in_flight
flight known before all e shown = ap lag_of (e ∙ shown)

pub has_read : {A : Type 0} (known before after asked : Option (List ℕ)) (failed : Type 0) (was_fed : List ℕ → Type 0) (fed : List Piece) (r : Result (Read A) Fault) → known ≡ before → (w : IsFedAll (lag_of known) before after asked was_fed) → ((all : List ℕ) → before ≡ Some all → IfOk r (IsReadOf w.text fed)) → IfOk r (λ read. (text : List ℕ) × IsReadOf text fed read)
    → ((all : List ℕ) → before ≡ Some all → IfErr r (IsRefusal (lag_of known) w.text [])) → IfErr r IsTextFault
    → HasRead before after asked failed fed r
has_read known before after asked failed was_fed fed (Ok read) same w ok of_text refused kinds = record {
  shown = λ all e. let at = w.source all e in (subst (λ t. IsReadOf t fed read) (sym at.0) (ok all e), at.1, at.2);
  of_text = of_text;
  kinds = tt;
  refused = λ all e. tt;
  read_failed = λ e. absurd (cc);
}
has_read known before after asked failed was_fed fed (Err f) same w ok of_text refused kinds = record {
  shown = λ all e. tt;
  of_text = tt;
  kinds = reading_fault f kinds;
  refused = λ all e.
      let at = w.source all e in
      subst (λ lag. IsRefusedBy lag (IsRefusal lag) all after asked f) (flight known before all same e)
      (record { given = w.text; rest = []; whole = at.0 ∙ sym (append-nil w.text); left = at.1; order = inr (sound_at_end (lag_of known) before after asked was_fed all w e); refusal = refused all e });
  read_failed = λ e. let same : f ≡ ReadFailed = cc in absurd (no_read_fault f kinds same);
}

-- ---- where reading stops

-- of one that consumes what was given before it refuses
has_stopped : {A : Type 0} (known before after asked : Option (List ℕ)) (failed : Type 0) (was_fed : List ℕ → Type 0) (refused : (fed last : List ℕ) → Fault → Type 0) (fed : List Piece) (f g : Fault) → known ≡ before → (u : IsFedUpTo (lag_of known) before after asked was_fed refused f)
    → ((all rest : List ℕ) → known ≡ Some all → all ≡ (u.fed ++ u.last) ++ rest → IsRefusal (lag_of known) (u.fed ++ u.last) rest g) → IsReadingFault g → (g ≡ ReadFailed → failed)
    → HasRead {A = A} before after asked failed fed (Err g)
has_stopped known before after asked failed was_fed refused fed f g same u refusal kinds fails = record {
  shown = λ all e. tt;
  of_text = tt;
  kinds = kinds;
  refused = λ all e. subst (λ lag. IsRefusedBy lag (IsRefusal lag) all after asked g) (flight known before all same e) (given_by (lag_of known) before after asked was_fed refused f g all u e (λ rest whole. refusal all rest (same ∙ e) whole));
  read_failed = λ e. let same : g ≡ ReadFailed = cc in fails same;
}

-- the fault is that of what was given
pub fault_given : (whole given rest : List ℕ) (f : Fault) → whole ≡ given ++ rest → IsFaultWithin (Some whole) (length given) f → IsFaultOf (early given) f
fault_given whole given rest f e h = subst (λ xs. IsFaultOf (early xs) f) (ap (take (length given)) e ∙ take-append_seam given rest) h.fault

-- what was given was refused
text_stopped : {A : Type 0} (known before after asked : Option (List ℕ)) (failed : Type 0) (was_fed : List ℕ → Type 0) (refused : (fed last : List ℕ) → Fault → Type 0) (fed : List Piece) (f g : Fault) → known ≡ before → (u : IsFedUpTo (lag_of known) before after asked was_fed refused f) → IsFaultWithin known (length (u.fed ++ u.last)) g
    → HasRead {A = A} before after asked failed fed (Err g)
text_stopped known before after asked failed was_fed refused fed f g same u h =
    has_stopped known before after asked failed was_fed refused fed f g same u
    (λ all rest e whole. on_the_way (lag_of known) u.fed u.last rest g u.sound u.few (fault_given all (u.fed ++ u.last) rest g whole (subst (λ o. IsFaultWithin o (length (u.fed ++ u.last)) g) e h)))
    (reading_fault g h.kinds) (λ e. absurd (no_read_fault g h.kinds e))

-- what was given was refused after the source had ended
pub end_stopped : (known before after asked : Option (List ℕ)) (was_fed : List ℕ → Type 0) (g : Fault) (all : List ℕ) → known ≡ before → (w : IsFedAll (lag_of known) before after asked was_fed) → IsFaultWithin known (length w.text) g → before ≡ Some all → IsRefusal (lag_of known) w.text [] g
end_stopped known before after asked was_fed g all same w h e =
    let at = w.source all e in
    subst (λ xs. IsRefusal (lag_of known) xs [] g) (append-nil w.text)
    (on_the_way (lag_of known) w.text [] [] g w.sound (omega arith) (subst (λ xs. IsFaultOf (early xs) g) (sym (append-nil w.text)) (fault_given all w.text [] g (at.0 ∙ sym (append-nil w.text)) (subst (λ o. IsFaultWithin o (length w.text) g) (same ∙ e) h))))

-- the same was fed where the room stays
pub fed_same : {A : Type 0} (known : Option (List ℕ)) (queue : QueueId) (start pass : PassView) (text : List ℕ) (sent : ℕ) (room rest : List ℕ) (c : TextCutter A) → IsFedTextOf known queue start pass text sent room c → rest ≡ room → IsFedTextOf known queue start pass text sent rest c
fed_same known queue start pass text sent room rest c h same = subst (λ xs. IsFedTextOf known queue start pass text sent xs c) (sym same) h

pub text_fault : (known : Option (List ℕ)) (size : ℕ) (f : Fault) → IsFaultWithin known size f → f ≢ ReadFailed
text_fault known size f h = λ e. no_read_fault f h.kinds e

-- ---- reading has stopped

abbrev pub Stop : {A : Type 0} → (known : Option (List ℕ)) → (queue : QueueId) → (start pass : PassView) → (sent : ℕ) → (room : List ℕ) → TextCutter A → (fed last : List ℕ) → Fault → Type 0
Stop known queue start pass sent room c fed last f = HasFailed (λ text. IsFedTextOf known queue start pass text sent room c) fed last f ⊎ IsRefusedText known start pass (length (fed ++ last)) f

pub stop_held : {A : Type 0} (known : Option (List ℕ)) (queue : QueueId) (start pass : PassView) (sent : ℕ) (room : List ℕ) (c : TextCutter A) (fed last : List ℕ) (f : Fault) → Stop known queue start pass sent room c fed last f → f ≡ ReadFailed → IsHeld known queue pass sent room c
stop_held known queue start pass sent room c fed last f (inl why) e = why.represented.held
stop_held known queue start pass sent room c fed last f (inr why) e = absurd (no_read_fault f why.refusal.kinds e)

pub stop_fed : {A : Type 0} (known : Option (List ℕ)) (queue : QueueId) (start pass : PassView) (sent : ℕ) (room : List ℕ) (c : TextCutter A) (fed last : List ℕ) (f : Fault) → Stop known queue start pass sent room c fed last f → HasFedOn start pass
stop_fed known queue start pass sent room c fed last f (inl why) = why.represented.fed
stop_fed known queue start pass sent room c fed last f (inr why) = why.fed

-- the fault by which the text is refused then
pub stop_read : {A B : Type 0} (known before after asked : Option (List ℕ)) (failed : Type 0) (queue : QueueId) (start pass : PassView) (sent : ℕ) (room : List ℕ) (c : TextCutter B) (fed : List Piece) (f g : Fault) → known ≡ before → (u : IsFedUpTo (lag_of known) before after asked (λ text. IsFedTextOf known queue start pass text sent room c) (λ xs last. IsRefusedText known start pass (length (xs ++ last))) f)
    → (f ≢ ReadFailed → g ≡ f) → (f ≡ ReadFailed → IsReadEnd known (sent + length room) g) → (f ≡ ReadFailed → failed) → HasRead {A = A} before after asked failed fed (Err g)
stop_read {A = A} known before after asked failed queue start pass sent room c fed f g same u other read fails = at u.why
  where
    at : Stop known queue start pass sent room c u.fed u.last f → HasRead {A = A} before after asked failed fed (Err g)
    at (inr why) =
        text_stopped known before after asked failed (λ text. IsFedTextOf known queue start pass text sent room c) (λ xs last. IsRefusedText known start pass (length (xs ++ last))) fed f g same u
        (subst (IsFaultWithin known (length (u.fed ++ u.last))) (sym (other (text_fault known (length (u.fed ++ u.last)) f why.refusal))) why.refusal)
    at (inl why) = ended (read why.failure)
      where
        size : length (u.fed ++ u.last) ≡ sent + length room
        size = ap (λ (xs : List ℕ). length xs) (ap (λ xs. u.fed ++ xs) why.none ∙ append-nil u.fed) ∙ why.represented.size

        sound_given : (all rest : List ℕ) → known ≡ Some all → all ≡ (u.fed ++ u.last) ++ rest → IfSome known (λ whole. early (take (sent + length room) whole) ≡ None) → early (u.fed ++ u.last) ≡ None
        sound_given all rest k whole h =
            subst (λ (xs : List ℕ). early xs ≡ None) (ap (λ n. take n all) (sym size) ∙ ap (take (length (u.fed ++ u.last))) whole ∙ take-append_seam (u.fed ++ u.last) rest) (subst (λ o. IfSome o (λ whole. early (take (sent + length room) whole) ≡ None)) k h)

        ended : IsReadEnd known (sent + length room) g → HasRead {A = A} before after asked failed fed (Err g)
        ended (inr h) =
            text_stopped known before after asked failed (λ text. IsFedTextOf known queue start pass text sent room c) (λ xs last. IsRefusedText known start pass (length (xs ++ last))) fed f g same u
            (subst (λ n. IsFaultWithin known n g) (sym size) h)
        ended (inl h) =
            has_stopped known before after asked failed (λ text. IsFedTextOf known queue start pass text sent room c) (λ xs last. IsRefusedText known start pass (length (xs ++ last))) fed f g same u
            (λ all rest k whole. subst (IsRefusal (lag_of known) (u.fed ++ u.last) rest) (sym h.0) (sound_given all rest k whole h.1)) (subst IsReadingFault (sym h.0) tt) (λ e. fails why.failure)
