-- What was counted of a row's data.
use Rattle.std.proofs.Common.{◌≡◌, ◌∙◌, sym, ap, subst, refl, ℕ, ◌+◌, ◌<◌, List, [], ◌∷◌, ◌++◌, take, drop, length, get_or, Option, Some, None, true, true≢false}
use Rattle.std.proofs.lemmas.List.{take_more, take-append-drop}
use Rattle.std.proofs.lemmas.List.Elements.{filter_map-append}
use Rattle.line_model.specs.basics.Records.{Item}
use Rattle.line_model.specs.channels.Gaps.{GapChannel}
use Rattle.line_model.specs.channels.GapRestart.{GapInterfaceState}
use Rattle.line_model.specs.declared.event.Event.{Event}
use Rattle.line_model.specs.declared.event.What.{What}
use Rattle.line_model.specs.declared.event.What.TheVariants.{Found, Open, Up, End, Data, Setting, Initial}
use Rattle.line_model.specs.declared.state.Side.{Side}
use Rattle.line_model.specs.declared.interface.Interface.{Interface}
use Rattle.line_model.specs.observer.Calls.{all_lengths, segments_of}
use Rattle.line_model.specs.observer.Machine.{Observer}
use Rattle.channel_run.specs.Run.{row_events}
use Rattle.restart_epochs.specs.Cutting.{observer}
use Rattle.live_report.specs.JudgedRows.{IsJudgedRow, taker}
use Rattle.live_report.specs.Uncounted.{counts_data, reason_at}
use Rattle.live_report.specs.declared.judged_row.Judge.{Judge}
use Rattle.live_report.specs.declared.judged_row.Judge.TheVariants as judge
use Rattle.live_report.specs.declared.judged_row.JudgedRow.{JudgedRow}
use Rattle.live_report.proofs.UncountedLemmas.{was_counted}
use Rattle.descriptions.specs.Facts.{IsFateOf}
use Rattle.descriptions.specs.RowObjects.{events_at}
use Rattle.descriptions.specs.declared.facts.Fate.TheVariants.{Counted}

lengths_of : (first later : List Event) → all_lengths (first ++ later) ≡ all_lengths first ++ all_lengths later
lengths_of first later = filter_map-append (λ (v : Event). elim v.what [ Data y n ↦ Some n | _ ↦ None ]) first later

-- with one more event
lengths_next : (es : List Event) (i : ℕ) (e : Event) → i < length es → e ≡ get_or es i e → all_lengths (take (i + 1) es) ≡ all_lengths (take i es) ++ all_lengths (e ∷ [])
lengths_next es i e lt is = ap all_lengths (take_more es i e lt ∙ ap (λ x. take i es ++ x ∷ []) (sym is)) ∙ lengths_of (take i es) (e ∷ [])

data_lengths : (e : Event) (side : Side) (n : ℕ) → e.what ≡ Data side n → all_lengths (e ∷ []) ≡ n ∷ []
data_lengths e side n is = ap (λ what. all_lengths (record e { what = what } ∷ [])) is

-- the first data packet among events is the one that counts
pub counted_at : (es : List Event) (i : ℕ) (e : Event) (side : Side) (n segments : ℕ) → i < length es → e ≡ get_or es i e → e.what ≡ Data side n → all_lengths (take i es) ≡ [] → segments ≡ segments_of (all_lengths (e ∷ []))
    → IsFateOf (all_lengths es) (Counted n segments)
counted_at es i e side n segments lt is seen none counted =
    let own = data_lengths e side n seen in
    let first : all_lengths (take (i + 1) es) ≡ n ∷ [] = lengths_next es i e lt is ∙ (λ t. none t ++ own t) in
    let all : all_lengths es ≡ n ∷ all_lengths (drop (i + 1) es) =
    ap all_lengths (sym (take-append-drop (i + 1) es)) ∙ lengths_of (take (i + 1) es) (drop (i + 1) es) ∙ ap (λ ns. ns ++ all_lengths (drop (i + 1) es)) first in
    subst (λ ns. IsFateOf ns (Counted n segments)) (sym all) (refl, counted ∙ ap segments_of own)

other_lengths : (e : Event) (what : What) → e.what ≡ what → ((side : Side) (n : ℕ) → ¬ (what ≡ Data side n)) → all_lengths (e ∷ []) ≡ []
other_lengths e (Found side state code) is h = ap (λ w. all_lengths (record e { what = w } ∷ [])) is
other_lengths e (Open out called calling reverse) is h = ap (λ w. all_lengths (record e { what = w } ∷ [])) is
other_lengths e Up is h = ap (λ w. all_lengths (record e { what = w } ∷ [])) is
other_lengths e (End how) is h = ap (λ w. all_lengths (record e { what = w } ∷ [])) is
other_lengths e (Data side n) is h = absurd (h side n refl)
other_lengths e (Setting pad parameter entry) is h = ap (λ w. all_lengths (record e { what = w } ∷ [])) is
other_lengths e (Initial pad) is h = ap (λ w. all_lengths (record e { what = w } ∷ [])) is

-- another event counts nothing
pub none_next : (es : List Event) (i : ℕ) (e : Event) → i < length es → e ≡ get_or es i e → ((side : Side) (n : ℕ) → ¬ (e.what ≡ Data side n)) → all_lengths (take i es) ≡ [] → all_lengths (take (i + 1) es) ≡ []
none_next es i e lt is other none = lengths_next es i e lt is ∙ (λ t. none t ++ other_lengths e e.what refl other t)

-- the events of the logical channel that receives a row
pub events_are : (i : Interface) (o : Observer GapInterfaceState GapChannel) (r : Item) (channel taker : Option ℕ) (seen events : List Event) → channel ≡ taker → ((k : ℕ) → channel ≡ Some k → events ≡ seen) → (channel ≡ None → events ≡ [])
    → ((k : ℕ) → taker ≡ Some k → seen ≡ row_events i o.epoch k (o.states k) r) → events ≡ events_at i taker o r
events_are i o r channel None seen events is taken untaken came = untaken is
events_are i o r channel (Some k) seen events is taken untaken came = taken k is ∙ came k refl

-- ---- data that was counted is not left out

pub counted_reason : (i : Interface) (earlier : List Item) (r : Item) (row : JudgedRow) (events : List Event) → IsJudgedRow i earlier r row events → (taker row.judge ≡ None → events ≡ [])
    → counts_data events ≡ true → None ≡ reason_at i (observer i earlier) r
counted_reason i earlier r row events l untaken counts = at row.judge refl
  where
    at : (j : Judge) → row.judge ≡ j → None ≡ reason_at i (observer i earlier) r
    at (judge.Restart before after) is = absurd (true≢false (sym counts ∙ ap counts_data (untaken (ap taker is))))
    at (judge.Channel k before after accepted) is = was_counted i earlier r row events k before after accepted l is counts
