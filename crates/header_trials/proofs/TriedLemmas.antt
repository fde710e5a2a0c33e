-- A trace text whose rows the trials of all headers walk.
use Rattle.std.proofs.Common.{◌≡◌, ◌≢◌, ◌∙◌, sym, ap, subst, refl, ℕ, List, [], ◌∷◌, ◌++◌, map, Option, Some, None, append-nil, append_assoc}
use Rattle.std.specs.Prelude.{IfErr, IfOk, IfSome, Result, Ok, Err}
use Rattle.std.specs.List.Sorted.{IsNonDecreasingBy, IsPermutation}
use Rattle.line_model.specs.declared.fault.Fault.{Fault}
use Rattle.line_model.specs.declared.fault.Fault.TheVariants.{Write}
use Rattle.live_report.specs.Reports.{IsRefusal as IsReportRefusal, IsReportFault, IsScanFault}
use Rattle.trace_text.specs.Sources.{IsFedAll, IsRefusedBy}
use Rattle.header_trials.specs.Headers.{headers_tried}
use Rattle.trace_text.specs.Refusals.{IsRefusal}
use Rattle.header_trials.specs.TriedLines.{AreTriedLines, HasTried, fewest, rank, tried_text, tried_with}
use Rattle.header_trials.specs.declared.trial.Trial.{Trial}
use Rattle.header_trials.specs.declared.tried_lines.Tried.{Tried}
use Rattle.live_report.proofs.ScanLemmas.{end_refused, report_scan}
use Rattle.line_model.specs.declared.interface.Interface.{Interface}
use Rattle.line_model.specs.basics.Records.{Row, ReadRow}
use Rattle.line_model.specs.packets.Says.{items_of}
use Rattle.line_model.specs.text.Text.{early_head, early_rows, rows}
use Rattle.channel_run.specs.declared.run.Channel.{Ghosts as Machine}
use Rattle.trace_text.specs.Progress.{Progress}
use Rattle.trace_text.specs.Represents.{Represents, ReadsChunk}
use Rattle.header_trials.specs.Trials.{AreTrials, AreTried, HasTaken, IsTriedText, SaidRows}
use Rattle.header_trials.specs.declared.trials.Trials.{Trials}
use Rattle.header_trials.specs.declared.tried_text.TriedText.{TriedText}
use Rattle.live_report.proofs.ChunkLemmas.{ReadsRow, header_stays}

-- the header that is known stays
pub tried_stays : {A C : Type 0} (m : Machine C A) (rs : List Row) (before after : Option Interface) (trials : Option (Trials A C)) → ((i : Interface) → before ≡ Some i → after ≡ Some i) → AreTried m rs before trials → AreTried m rs after trials
tried_stays m rs before after None stays h = h
tried_stays m rs before after (Some t) stays h = (h.0, stays h.0 h.1, h.2)

-- some of a chunk was read, and the trials received its rows
pub record Course {A C : Type 0} (m : Machine C A) (text chunk rest : List ℕ) (t : TriedText A C) : Type 0 where
  pub read : List ℕ
  pub whole : chunk ≡ read ++ rest
  pub taken : HasTaken m (text ++ read) t

pub course_begun : {A C : Type 0} (m : Machine C A) (text chunk : List ℕ) (t : TriedText A C) → HasTaken m text t → Course m text chunk chunk t
course_begun m text chunk t h = record { read = []; whole = refl; taken = subst (λ x. HasTaken m x t) (sym (append-nil text)) h }

-- the text with the chunk
pub course_text : {A C : Type 0} (m : Machine C A) (text chunk rest : List ℕ) (t : TriedText A C) (c : Course m text chunk rest t) → (text ++ c.read) ++ rest ≡ text ++ chunk
course_text m text chunk rest t c = append_assoc text c.read rest ∙ ap (λ x. text ++ x) (sym c.whole)

-- what was tried so far, under the header that is known once the next row was read
pub next_tried : {A C : Type 0} (m : Machine C A) (text more : List ℕ) (t : TriedText A C) (after : Progress) → HasTaken m text t → after.interface ≡ early_head (text ++ more) → AreTried m (early_rows text) after.interface t.trials
next_tried m text more t after h kept =
    tried_stays m (early_rows text) t.lines.interface after.interface t.trials (λ i is. header_stays t.lines after text more i h.reads is kept) h.tried

-- the next row was read and tried
pub course_row : {A C : Type 0} (m : Machine C A) (text chunk rest left : List ℕ) (row : ReadRow) (after : Progress) (t next : TriedText A C) → (c : Course m text chunk rest t) → next.lines ≡ after → (takes : ReadsRow t.lines after rest left row)
    → AreTried m (early_rows (text ++ c.read) ++ takes.0 ∷ []) after.interface next.trials → Course m text chunk left next
course_row m text chunk rest left row after t next c same takes tried = record {
  read = c.read ++ takes.1.taken;
  whole = c.whole ∙ ap (λ x. c.read ++ x) takes.1.whole ∙ sym (append_assoc c.read takes.1.taken left);
  taken = subst (λ x. HasTaken m x next) (append_assoc text c.read takes.1.taken) (record {
    reads = subst (λ l. Represents l ((text ++ c.read) ++ takes.1.taken)) (sym same) (takes.1.represented (text ++ c.read) c.taken.reads);
    tried = subst (λ l. AreTried m (early_rows ((text ++ c.read) ++ takes.1.taken)) l.interface next.trials) (sym same)
        (subst (λ rs. AreTried m rs after.interface next.trials) (sym (takes.1.rows (text ++ c.read) c.taken.reads)) tried);
  });
}

-- the rest of the chunk has no further row
pub course_end : {A C : Type 0} (m : Machine C A) (text chunk rest : List ℕ) (t next : TriedText A C) → (c : Course m text chunk rest t) → ReadsChunk t.lines next.lines rest → next.lines.interface ≡ early_head ((text ++ c.read) ++ rest) → next.trials ≡ t.trials
    → HasTaken m (text ++ chunk) next
course_end m text chunk rest t next c ends kept same =
    subst (λ x. HasTaken m x next) (course_text m text chunk rest t c) (record {
      reads = ends.represented (text ++ c.read) c.taken.reads;
      tried = subst (λ o. AreTried m (early_rows ((text ++ c.read) ++ rest)) next.lines.interface o) (sym same)
          (subst (λ rs. AreTried m rs next.lines.interface t.trials) (sym (ends.rows (text ++ c.read) c.taken.reads)) (next_tried m (text ++ c.read) rest t next.lines c.taken kept));
    })

-- ---- what a refusal says, and what was written

-- the lines of a text whose trials are these
pub lines_of_trials : {A C : Type 0} (m : Machine C A) (text : List ℕ) (ts : List (Trial A C)) (tried : List Tried) → (t : IsTriedText m text ts)
    → ((own : Interface) (is : List Interface) (items : SaidRows) → AreTrials m own items is ts → IsPermutation (map (λ (h : Interface). tried_with h (items h)) is) tried)
    → IsNonDecreasingBy rank tried → AreTriedLines text (tried_text tried) (fewest tried)
lines_of_trials m text ts tried t all sorted = record {
  sound = t.sound;
  interface = t.interface;
  header = t.header;
  tried = tried;
  all = all t.interface (headers_tried t.interface (rows text)) (λ i. items_of i (rows text)) t.trials;
  sorted = sorted;
  whole = refl;
  first = refl;
}

-- a refusal of the whole text
pub whole_refused : {T : Type 0} (r : Result T Fault) (before left asked : Option (List ℕ)) (was_fed : List ℕ → Type 0) (text : List ℕ) → (w : IsFedAll 0 before left asked was_fed) → before ≡ Some text → IfErr r (IsReportRefusal w.text) → IfErr r (IsRefusedBy 0 (IsRefusal 0) text left asked)
whole_refused (Ok x) before left asked was_fed text w shown h = tt
whole_refused (Err f) before left asked was_fed text w shown h = end_refused (Err f) before left asked was_fed text w shown h

pub whole_kinds : {T : Type 0} (r : Result T Fault) → IfErr r IsReportFault → IfErr r IsScanFault
whole_kinds (Ok x) h = tt
whole_kinds (Err f) h = report_scan f h

pub whole_text : (r : Result ℕ Fault) (text : List ℕ) (before after : Option (List ℕ)) → IfOk r (HasTried text before after) → IfOk r (λ n. (x : List ℕ) × HasTried x before after n)
whole_text (Ok n) text before after h = (text, h)
whole_text (Err f) text before after h = tt

pub whole_tried : {K : Type 0} (taken : K → Option (List ℕ)) (before sink : K) (after : Option (List ℕ)) (text read : List ℕ) (r : Result ℕ Fault) → sink ≡ before → text ≡ read → IfOk r (HasTried read (taken sink) after) → IfOk r (HasTried text (taken before) after)
whole_tried taken before sink after text read r same all h = subst (λ t. IfOk r (HasTried t (taken before) after)) (sym all) (subst (λ s. IfOk r (HasTried read (taken s) after)) same h)

pub whole_kept : {T K : Type 0} (before sink after : K) (r : Result T Fault) → sink ≡ before → IfErr r (λ f. f ≢ Write → after ≡ sink) → IfErr r (λ f. f ≢ Write → after ≡ before)
whole_kept before sink after (Ok x) same h = tt
whole_kept before sink after (Err f) same h = λ ne. h ne ∙ same

-- ---- the header that was read

some_same : {T : Type 0} (a b : T) → Some a ≡ Some b → a ≡ b
some_same a b h = cc

pub same_head : (o : Option Interface) (i : Interface) → Some i ≡ o → IfSome o (λ j. j ≡ i)
same_head None i h = tt
same_head (Some j) i h = sym (some_same i j h)
