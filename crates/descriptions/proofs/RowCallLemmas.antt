-- Which call is open, and which one a row belongs to, row by row.
use Rattle.std.proofs.Common.{◌≡◌, ◌≢◌, ◌∙◌, sym, ap, subst, refl, ℕ, ◌+◌, ◌≤◌, ◌<◌, ◌^◌, ◌-◌, ◌⊎◌, inl, inr, zero, suc, Bool, true, false, true≢false, not, ◌&&◌, cond, eqb, List, [], ◌∷◌, ◌++◌, map, length, min, take, get_or, Option, Some, None, IfSome, Result, Ok, Err, OnOk, IfOk, arith, append-nil, append_assoc}
use Rattle.std.specs.Prelude.{is_none}
use Rattle.std.proofs.lemmas.Bool.{ne_eqb, eq-eqb, eqb-true}
use Rattle.std.proofs.lemmas.List.{take_more}
use Rattle.line_model.specs.declared.event.Event.{Event}
use Rattle.line_model.specs.declared.event.What.{What}
use Rattle.line_model.specs.declared.interface.Interface.{Interface}
use Rattle.line_model.specs.basics.Records.{Item}
use Rattle.line_model.specs.channels.GapRestart.{GapInterfaceState, is_ready}
use Rattle.line_model.specs.declared.state.RState.{RState}
use Rattle.line_model.specs.declared.state.RState.TheVariants.{R1, R2, R3}
use Rattle.live_report.specs.JudgedRows.{IsJudge, IsJudgedRow}
use Rattle.live_report.specs.declared.judged_row.Judge.{Judge}
use Rattle.live_report.specs.declared.judged_row.Judge.TheVariants as judge
use Rattle.live_report.specs.declared.judged_row.JudgedRow.{JudgedRow}
use Rattle.line_model.specs.observer.Calls.{calls_of, is_end, is_opening}
use Rattle.line_model.specs.observer.Machine.{routed}
use Rattle.line_model.specs.observer.MachineEvents.{stamp}
use Rattle.line_model.specs.observer.Observer.{event_of, events, x25}
use Rattle.channel_run.specs.Run.{row_events}
use Rattle.restart_epochs.specs.ChannelTables.{ChannelTables, HasPopped, value_at}
use Rattle.restart_epochs.specs.Cutting.{observer}
use Rattle.annotated_trace.specs.Rows.{is_open_on}
use Rattle.descriptions.specs.CallRows.{EndsAt, OpensAt}
use Rattle.descriptions.specs.RowCalls.{AreFewCalls, AreOn, AreQuiet, Counted, IsOn, KeepsCalls, call_of, call_on, is_elsewhere, leaves_ready, number_at, open_call, open_call_from, row_call, unless_0}
use Rattle.descriptions.specs.declared.open_calls.CallMove.{CallMove}
use Rattle.descriptions.specs.declared.open_calls.ChannelCalls.{ChannelCalls}
use Rattle.descriptions.specs.declared.open_calls.OpenCalls.{OpenCalls}
use Rattle.descriptions.proofs.FollowLemmas.{LevelBegins, LevelStays, UpTo, epoch_up, events_on_channel, level_case, level_count, ready_at, same_epoch}
use Rattle.descriptions.proofs.OpenCalls.{count_more, on, open_more, opens_first, passes_first}

-- ---- one more event

-- the call of a channel after an event that is there or elsewhere
abbrev after_event : (opens ends here : Bool) → (new old : ℕ) → ℕ
after_event opens ends false new old = old
after_event true ends true new old = new
after_event false true true new old = 0
after_event false false true new old = old

of_first : (opens ends here now : Bool) (m new old : ℕ) → unless_0 (after_event opens ends here (suc new) old) (cond (now && not (ends && here)) m 0) ≡ after_event opens ends here (suc new) (unless_0 old (cond now m 0))
of_first opens true false true m new old = refl
of_first opens true false false m new old = refl
of_first opens false false true m new old = refl
of_first opens false false false m new old = refl
of_first true ends true now m new old = refl
of_first false true true true m new old = refl
of_first false true true false m new old = refl
of_first false false true true m new old = refl
of_first false false true false m new old = refl

new_only : (here_e here_k ends : Bool) (m : ℕ) → cond (here_e && (here_k && true)) m 0 ≡ after_event true ends (here_e && here_k) (m + 0) 0
new_only true true ends m = omega arith
new_only true false ends m = refl
new_only false b ends m = refl

none_stays : (ends here : Bool) (new : ℕ) → 0 ≡ after_event false ends here new 0
none_stays ends false new = refl
none_stays true true new = refl
none_stays false true new = refl

call_more : (m e k : ℕ) (es : List Event) (f : Event) → open_call_from m e k (calls_of (es ++ f ∷ [])) ≡ after_event (is_opening f) (is_end f) (on e k f) (m + length (calls_of es)) (open_call_from m e k (calls_of es))
call_more m e k [] f = by (is_opening f) refl
  where
    by : (b : Bool) → is_opening f ≡ b → open_call_from m e k (calls_of (f ∷ [])) ≡ after_event (is_opening f) (is_end f) (on e k f) (m + 0) 0
    by true h =
        let first = opens_first f [] h in
        ap (open_call_from m e k) first.calls
        ∙ (λ t. cond (eqb (first.epoch t) e && (eqb (first.channel t) k && is_none (first.ended t))) m 0)
        ∙ new_only (eqb f.epoch e) (eqb f.channel k) (is_end f) m
        ∙ ap (λ b. after_event b (is_end f) (on e k f) (m + 0) 0) (sym h)
    by false h = ap (open_call_from m e k) (passes_first f [] h) ∙ none_stays (is_end f) (on e k f) (m + 0) ∙ ap (λ b. after_event b (is_end f) (on e k f) (m + 0) 0) (sym h)
call_more m e k (x ∷ es) f = by (λ q. call_more q e k es f) (is_opening x) refl
  where
    by : ((q : ℕ) → open_call_from q e k (calls_of (es ++ f ∷ [])) ≡ after_event (is_opening f) (is_end f) (on e k f) (q + length (calls_of es)) (open_call_from q e k (calls_of es)))
        → (b : Bool) → is_opening x ≡ b → open_call_from m e k (calls_of (x ∷ (es ++ f ∷ []))) ≡ after_event (is_opening f) (is_end f) (on e k f) (m + length (calls_of (x ∷ es))) (open_call_from m e k (calls_of (x ∷ es)))
    by later false h =
        ap (open_call_from m e k) (passes_first x (es ++ f ∷ []) h) ∙ later m
        ∙ ap (λ cs. after_event (is_opening f) (is_end f) (on e k f) (m + length cs) (open_call_from m e k cs)) (sym (passes_first x es h))
    by later true h =
        let next = opens_first x (es ++ f ∷ []) h in
        let now = opens_first x es h in
        let count : (m + 1) + length (calls_of es) ≡ suc (m + length (calls_of es)) = omega arith in
        let whole : suc (m + length (calls_of es)) ≡ m + length (now.call ∷ calls_of es) = omega arith in
        ap (open_call_from m e k) next.calls
        ∙ (λ t. unless_0 (later (m + 1) t) (cond (open_more x f es e k now next t) m 0))
        ∙ ap (λ n. unless_0 (after_event (is_opening f) (is_end f) (on e k f) n (open_call_from (m + 1) e k (calls_of es))) (cond (is_open_on e k now.call && not (is_end f && on e k f)) m 0)) count
        ∙ of_first (is_opening f) (is_end f) (on e k f) (is_open_on e k now.call) m (m + length (calls_of es)) (open_call_from (m + 1) e k (calls_of es))
        ∙ ap (λ n. after_event (is_opening f) (is_end f) (on e k f) n (open_call_from m e k (now.call ∷ calls_of es))) whole
        ∙ ap (λ cs. after_event (is_opening f) (is_end f) (on e k f) (m + length cs) (open_call_from m e k cs)) (sym now.calls)

-- ---- how many there are

few_before : (es : List Event) (f : Event) → AreFewCalls (es ++ f ∷ []) → AreFewCalls es
few_before es f few = omega (arith, few, count_more es f)

few_part : (es fs : List Event) → AreFewCalls (es ++ fs) → AreFewCalls es
few_part es [] few = subst AreFewCalls (append-nil es) few
few_part es (f ∷ fs) few = few_before es f (few_part (es ++ f ∷ []) fs (subst AreFewCalls (sym (append_assoc es (f ∷ []) fs)) few))

-- ---- an event as it is counted

on_here : (e k : ℕ) (f : Event) → f.epoch ≡ e → f.channel ≡ k → on e k f ≡ true
on_here e k f epoch channel = λ t. eq-eqb f.epoch e epoch t && eq-eqb f.channel k channel t

pub counted_opening : (e k : ℕ) (es : List Event) (f : Event) (opened call next : ℕ) → OpensAt e k f → Counted e k es opened call → next ≡ min (opened + 1) (2 ^ 32 - 1) → Counted e k (es ++ f ∷ []) next next
counted_opening e k es f opened call next o h step few =
    let was = h (few_before es f few) in
    let count : length (calls_of (es ++ f ∷ [])) ≡ length (calls_of es) + 1 = count_more es f ∙ ap (λ b. length (calls_of es) + cond b 1 0) o.opening in
    let is : open_call e k (calls_of (es ++ f ∷ [])) ≡ 1 + length (calls_of es) =
    call_more 1 e k es f ∙ (λ t. after_event (o.opening t) (is_end f) (on_here e k f o.epoch o.channel t) (1 + length (calls_of es)) (open_call e k (calls_of es))) in
    let same : next ≡ length (calls_of (es ++ f ∷ [])) = omega (arith, few, was.0, count, step) in
    (same, same ∙ count ∙ omega arith ∙ sym is)

pub counted_end : {T E : Type 0} (result : Result T E) (e k : ℕ) (es : List Event) (f : Event) (opened call same next : ℕ) → EndsAt e k f → Counted e k es opened call → same ≡ opened → OnOk result (next ≡ 0) → OnOk result (Counted e k (es ++ f ∷ []) same next)
counted_end (Err x) e k es f opened call same next o h kept none = tt
counted_end (Ok x) e k es f opened call same next o h kept none = λ few.
    let was = h (few_before es f few) in
    let count : length (calls_of (es ++ f ∷ [])) ≡ length (calls_of es) + 0 = count_more es f ∙ ap (λ b. length (calls_of es) + cond b 1 0) o.no_opening in (
      omega (arith, was.0, count, kept),
      none ∙ sym (call_more 1 e k es f ∙ (λ t. after_event (o.no_opening t) (o.end t) (on_here e k f o.epoch o.channel t) (1 + length (calls_of es)) (open_call e k (calls_of es)))),
    )

passes : (here : Bool) (new old : ℕ) → after_event false false here new old ≡ old
passes true new old = refl
passes false new old = refl

quiet_more : (e k : ℕ) (es : List Event) (f : Event) → is_opening f ≡ false → is_end f ≡ false → open_call e k (calls_of (es ++ f ∷ [])) ≡ open_call e k (calls_of es)
quiet_more e k es f no_opening no_end =
    call_more 1 e k es f ∙ (λ t. after_event (no_opening t) (no_end t) (on e k f) (1 + length (calls_of es)) (open_call e k (calls_of es))) ∙ passes (on e k f) (1 + length (calls_of es)) (open_call e k (calls_of es))

pub counted_other : (e k : ℕ) (es : List Event) (f : Event) (opened call : ℕ) → is_opening f ≡ false → is_end f ≡ false → Counted e k es opened call → Counted e k (es ++ f ∷ []) opened call
counted_other e k es f opened call no_opening no_end h few =
    let was = h (few_before es f few) in
    let count : length (calls_of (es ++ f ∷ [])) ≡ length (calls_of es) + 0 = count_more es f ∙ ap (λ b. length (calls_of es) + cond b 1 0) no_opening in
    (omega (arith, was.0, count), was.1 ∙ sym (quiet_more e k es f no_opening no_end))

-- ---- several events

on_at : (e k : ℕ) (fs : List Event) (i : ℕ) (d : Event) → AreOn e k fs → i < length fs → IsOn e k (get_or fs i d)
on_at e k [] i d h lt = absurd (omega arith)
on_at e k (f ∷ fs) zero d h lt = h.0
on_at e k (f ∷ fs) (suc i) d h lt = on_at e k fs i d h.1 (omega arith)

pub counted_next : (e k : ℕ) (es fs : List Event) (i : ℕ) (f : Event) (opened call : ℕ) → i < length fs → f ≡ get_or fs i f → AreOn e k fs
    → (IsOn e k f → Counted e k ((es ++ take i fs) ++ f ∷ []) opened call) → Counted e k (es ++ take (i + 1) fs) opened call
counted_next e k es fs i f opened call lt is all step =
    let whole : es ++ take (i + 1) fs ≡ (es ++ take i fs) ++ f ∷ [] = ap (λ l. es ++ l) (take_more fs i f lt ∙ ap (λ g. take i fs ++ g ∷ []) (sym is)) ∙ sym (append_assoc es (take i fs) (f ∷ [])) in
    subst (λ l. Counted e k l opened call) (sym whole) (step (subst (IsOn e k) (sym is) (on_at e k fs i f all lt)))

other_channel : (e k j : ℕ) (es fs : List Event) → AreOn e k fs → k ≢ j → open_call e j (calls_of (es ++ fs)) ≡ open_call e j (calls_of es)
other_channel e k j es [] h ne = ap (λ l. open_call e j (calls_of l)) (append-nil es)
other_channel e k j es (f ∷ fs) h ne =
    let elsewhere : on e j f ≡ false = (λ t. eq-eqb f.epoch e h.0.0 t && ne_eqb f.channel j (λ same. ne (sym h.0.1 ∙ same)) t) in
    ap (λ l. open_call e j (calls_of l)) (sym (append_assoc es (f ∷ []) fs)) ∙ other_channel e k j (es ++ f ∷ []) fs h.1 ne
    ∙ call_more 1 e j es f ∙ ap (λ b. after_event (is_opening f) (is_end f) b (1 + length (calls_of es)) (open_call e j (calls_of es))) elsewhere

quiet_calls : (e k : ℕ) (es fs : List Event) → AreQuiet fs → open_call e k (calls_of (es ++ fs)) ≡ open_call e k (calls_of es)
quiet_calls e k es [] q = ap (λ l. open_call e k (calls_of l)) (append-nil es)
quiet_calls e k es (f ∷ fs) q =
    ap (λ l. open_call e k (calls_of l)) (sym (append_assoc es (f ∷ []) fs)) ∙ quiet_calls e k (es ++ f ∷ []) fs q.1 ∙ quiet_more e k es f q.0.0 q.0.1

none_later : (m e d k : ℕ) (es : List Event) → e < d → UpTo e es → open_call_from m d k (calls_of es) ≡ 0
none_later m e d k [] lt h = refl
none_later m e d k (x ∷ es) lt h = by (λ q. none_later q e d k es lt h.1) (is_opening x) refl
  where
    by : ((q : ℕ) → open_call_from q d k (calls_of es) ≡ 0) → (b : Bool) → is_opening x ≡ b → open_call_from m d k (calls_of (x ∷ es)) ≡ 0
    by later true o =
        let first = opens_first x es o in
        let other : eqb first.call.epoch d ≡ false = ne_eqb first.call.epoch d (λ same. omega (arith, same, first.epoch, lt, h.0)) in
        ap (open_call_from m d k) first.calls ∙ (λ t. unless_0 (later (m + 1) t) (cond (other t && (eqb first.call.channel k && is_none first.call.ended)) m 0))
    by later false o = ap (open_call_from m d k) (passes_first x es o) ∙ later m

-- ---- the rows

own_on : (e k : ℕ) (r : Item) (ws : List What) → AreOn e k (map event_of (stamp e (Some k) r ws))
own_on e k r [] = tt
own_on e k r (w ∷ ws) = ((refl, refl), own_on e k r ws)

pub calls_begun : {A : Type 0} (i : Interface) (o : OpenCalls A) → o.opened ≡ 0 → ((k : ℕ) → value_at o.table k ≡ None) → KeepsCalls i [] o
calls_begun i o none empty = record {
  opened = λ few. none;
  calls = λ few ready k. ap (number_at (observer i []).epoch) (empty k);
  known = λ k. subst (λ v. IfSome v (λ (c : ChannelCalls). c.epoch ≤ (observer i []).epoch)) (sym (empty k)) tt;
}

some_up : (d e : ℕ) (v : Option ChannelCalls) → d ≤ e → IfSome v (λ c. c.epoch ≤ d) → IfSome v (λ c. c.epoch ≤ e)
some_up d e None up h = tt
some_up d e (Some c) up h = omega (arith, up, h)

some_at : (d e : ℕ) (v : Option ChannelCalls) → d ≤ e → IfSome v (λ c. c.epoch ≡ d) → IfSome v (λ c. c.epoch ≤ e)
some_at d e None up h = tt
some_at d e (Some c) up h = omega (arith, up, h)

-- what is known of a channel before a row that it receives
pub counted_so_far : {A : Type 0} (i : Interface) (rs : List Item) (r : Item) (n : ℕ) (old : OpenCalls A) → routed (x25 i) (observer i rs).level r ≡ Some n → KeepsCalls i rs old
    → Counted (observer i rs).epoch n (events i rs) old.opened (number_at (observer i rs).epoch (value_at old.table n))
counted_so_far i rs r n old to h few = (h.opened few, h.calls few (ready_at i (observer i rs).level r n to) n)

-- and after it
abbrev pub CallsOn : {A : Type 0} → Interface → List Item → Item → (n : ℕ) → (new : OpenCalls A) → Type 0
CallsOn i rs r n new = Counted (observer i rs).epoch n (events i (rs ++ r ∷ [])) new.opened (number_at (observer i rs).epoch (value_at new.table n))

pub counted_on : {A : Type 0} (i : Interface) (rs : List Item) (r : Item) (n : ℕ) (old new : OpenCalls A) → routed (x25 i) (observer i rs).level r ≡ Some n → KeepsCalls i rs old
    → (AreOn (observer i rs).epoch n (row_events i (observer i rs).epoch n ((observer i rs).states n) r) → Counted (observer i rs).epoch n (events i rs) old.opened (number_at (observer i rs).epoch (value_at old.table n))
    → Counted (observer i rs).epoch n (events i rs ++ row_events i (observer i rs).epoch n ((observer i rs).states n) r) new.opened (number_at (observer i rs).epoch (value_at new.table n)))
    → CallsOn i rs r n new
counted_on i rs r n old new to h step =
    subst (λ es. Counted (observer i rs).epoch n es new.opened (number_at (observer i rs).epoch (value_at new.table n))) (sym (events_on_channel i rs r n to))
    (step (own_on (observer i rs).epoch n r _) (counted_so_far i rs r n old to h))

pub kept_calls_on : {A : Type 0} (i : Interface) (rs : List Item) (r : Item) (n : ℕ) (old new : OpenCalls A) → routed (x25 i) (observer i rs).level r ≡ Some n → KeepsCalls i rs old → CallsOn i rs r n new
    → IfSome (value_at new.table n) (λ c. c.epoch ≡ (observer i rs).epoch) → ((k : ℕ) → k ≢ n → value_at new.table k ≡ value_at old.table k) → KeepsCalls i (rs ++ r ∷ []) new
kept_calls_on {A} i rs r n old new to h counted own others = record {
  opened = λ few. (counted few).0;
  calls = λ few ready k. subst (λ d. number_at d (value_at new.table k) ≡ open_call d k (calls_of (events i (rs ++ r ∷ [])))) (sym (same_epoch i rs r n to)) (by few k (eqb n k) refl);
  known = λ k. known_by k (eqb n k) refl;
}
  where
    by : AreFewCalls (events i (rs ++ r ∷ [])) → (k : ℕ) (b : Bool) → eqb n k ≡ b → number_at (observer i rs).epoch (value_at new.table k) ≡ open_call (observer i rs).epoch k (calls_of (events i (rs ++ r ∷ [])))
    by few k true is = subst (λ m. number_at (observer i rs).epoch (value_at new.table m) ≡ open_call (observer i rs).epoch m (calls_of (events i (rs ++ r ∷ [])))) (eqb-true n k is) (counted few).1
    by few k false is =
        let e = (observer i rs).epoch in
        let came = events_on_channel i rs r n to in
        let ne : n ≢ k = λ same. true≢false (sym (eq-eqb n k same) ∙ is) in
        ap (number_at e) (others k (λ same. ne (sym same))) ∙ h.calls (few_part (events i rs) _ (subst AreFewCalls came few)) (ready_at i (observer i rs).level r n to) k
        ∙ sym (ap (λ es. open_call e k (calls_of es)) came ∙ other_channel e n k (events i rs) _ (own_on e n r _) ne)

    known_by : (k : ℕ) (b : Bool) → eqb n k ≡ b → IfSome (value_at new.table k) (λ c. c.epoch ≤ (observer i (rs ++ r ∷ [])).epoch)
    known_by k true is = subst (λ m. IfSome (value_at new.table m) (λ c. c.epoch ≤ (observer i (rs ++ r ∷ [])).epoch)) (eqb-true n k is) (some_at (observer i rs).epoch (observer i (rs ++ r ∷ [])).epoch (value_at new.table n) (epoch_up i rs r) own)
    known_by k false is =
        subst (λ v. IfSome v (λ (c : ChannelCalls). c.epoch ≤ (observer i (rs ++ r ∷ [])).epoch)) (sym (others k (λ same. true≢false (sym (eq-eqb n k (sym same)) ∙ is))))
        (some_up (observer i rs).epoch (observer i (rs ++ r ∷ [])).epoch (value_at old.table k) (epoch_up i rs r) (h.known k))

-- of a row that opens no call and ends none
pub kept_calls_quiet : {A : Type 0} (i : Interface) (rs : List Item) (r : Item) (n : ℕ) (kept : OpenCalls A) → routed (x25 i) (observer i rs).level r ≡ Some n
    → AreQuiet (row_events i (observer i rs).epoch n ((observer i rs).states n) r) → KeepsCalls i rs kept → KeepsCalls i (rs ++ r ∷ []) kept
kept_calls_quiet i rs r n kept to quiet h =
    let came = events_on_channel i rs r n to in
    let epoch = same_epoch i rs r n to in
    record {
      opened = λ few. h.opened (few_part (events i rs) _ (subst AreFewCalls came few)) ∙ sym (ap (λ es. length (calls_of es)) came ∙ quiet_count (events i rs) _ quiet);
      calls = λ few ready k.
          subst (λ d. number_at d (value_at kept.table k) ≡ open_call d k (calls_of (events i (rs ++ r ∷ [])))) (sym epoch)
          (h.calls (few_part (events i rs) _ (subst AreFewCalls came few)) (ready_at i (observer i rs).level r n to) k
          ∙ sym (ap (λ es. open_call (observer i rs).epoch k (calls_of es)) came ∙ quiet_calls (observer i rs).epoch k (events i rs) _ quiet));
      known = λ k. some_up (observer i rs).epoch (observer i (rs ++ r ∷ [])).epoch (value_at kept.table k) (epoch_up i rs r) (h.known k);
    }
  where
    quiet_count : (es fs : List Event) → AreQuiet fs → length (calls_of (es ++ fs)) ≡ length (calls_of es)
    quiet_count es [] q = ap (λ l. length (calls_of l)) (append-nil es)
    quiet_count es (f ∷ fs) q =
        ap (λ l. length (calls_of l)) (sym (append_assoc es (f ∷ []) fs)) ∙ quiet_count (es ++ f ∷ []) fs q.1
        ∙ omega (arith, count_more es f ∙ ap (λ b. length (calls_of es) + cond b 1 0) q.0.0)

-- of a row that the restart machine judged
none_at : (d e : ℕ) (v old : Option ChannelCalls) → d < e → IfSome old (λ c. c.epoch ≤ d) → IfSome v (λ c. old ≡ Some c) → number_at e v ≡ 0
none_at d e None old lt known left = refl
none_at d e (Some c) old lt known left =
    let low : c.epoch ≤ d = subst (λ o. IfSome o (λ (x : ChannelCalls). x.epoch ≤ d)) left known in
    ap (λ b. cond b c.call 0) (ne_eqb c.epoch e (λ same. omega (arith, same, lt, low)))

some_left : (d e : ℕ) (v old : Option ChannelCalls) → d ≤ e → IfSome old (λ c. c.epoch ≤ d) → IfSome v (λ c. old ≡ Some c) → IfSome v (λ c. c.epoch ≤ e)
some_left d e None old up known left = tt
some_left d e (Some c) old up known left = some_up d e (Some c) up (subst (λ o. IfSome o (λ (x : ChannelCalls). x.epoch ≤ d)) left known)

pub left_more : (n : ℕ) (taken : Option ChannelCalls) (first before behind : ChannelTables ChannelCalls) → HasPopped n taken before behind → ((k : ℕ) → IfSome (value_at before k) (λ c. value_at first k ≡ Some c)) → (k : ℕ) → IfSome (value_at behind k) (λ c. value_at first k ≡ Some c)
left_more n taken first before behind popped h k = by (eqb k n) refl
  where
    by : (b : Bool) → eqb k n ≡ b → IfSome (value_at behind k) (λ c. value_at first k ≡ Some c)
    by true is = subst (λ m. IfSome (value_at behind m) (λ (c : ChannelCalls). value_at first m ≡ Some c)) (sym (eqb-true k n is)) (subst (λ v. IfSome v (λ (c : ChannelCalls). value_at first n ≡ Some c)) (sym popped.emptied) tt)
    by false is = subst (λ v. IfSome v (λ (c : ChannelCalls). value_at first k ≡ Some c)) (sym (popped.others k (λ same. true≢false (sym (eq-eqb k n same) ∙ is)))) (h k)

pub kept_calls_off : {A : Type 0} (i : Interface) (rs : List Item) (r : Item) (old new : OpenCalls A) → routed (x25 i) (observer i rs).level r ≡ None → KeepsCalls i rs old → new.opened ≡ old.opened
    → ((k : ℕ) → IfSome (value_at new.table k) (λ c. value_at old.table k ≡ Some c))
    → ((observer i (rs ++ r ∷ [])).epoch ≡ (observer i rs).epoch → is_ready (observer i (rs ++ r ∷ [])).level ≡ true → new.table ≡ old.table) → KeepsCalls i (rs ++ r ∷ []) new
kept_calls_off {A} i rs r old new to h same left stays = record {
  opened = λ few. same ∙ h.opened (fewer few) ∙ sym (level_count i rs r to);
  calls = λ few ready. by few ready (level_case i rs r to ready);
  known = λ k. some_left (observer i rs).epoch (observer i (rs ++ r ∷ [])).epoch (value_at new.table k) (value_at old.table k) (epoch_up i rs r) (h.known k) (left k);
}
  where
    fewer : AreFewCalls (events i (rs ++ r ∷ [])) → AreFewCalls (events i rs)
    fewer few = subst (λ n. n < 2 ^ 32) (level_count i rs r to) few

    by : AreFewCalls (events i (rs ++ r ∷ [])) → is_ready (observer i (rs ++ r ∷ [])).level ≡ true → LevelStays i rs r ⊎ LevelBegins i rs r
        → (k : ℕ) → number_at (observer i (rs ++ r ∷ [])).epoch (value_at new.table k) ≡ open_call (observer i (rs ++ r ∷ [])).epoch k (calls_of (events i (rs ++ r ∷ [])))
    by few ready (inl on) k =
        (λ t. number_at (on.epoch t) (value_at (stays on.epoch ready t) k)) ∙ h.calls (fewer few) on.ready k
        ∙ sym ((λ t. open_call (on.epoch t) k (calls_of (on.only t))) ∙ quiet_calls (observer i rs).epoch k (events i rs) on.own on.quiet)
    by few ready (inr next) k =
        let e = (observer i rs).epoch in
        (λ t. number_at (next.epoch t) (value_at new.table k)) ∙ none_at e (e + 1) (value_at new.table k) (value_at old.table k) (omega arith) (h.known k) (left k)
        ∙ sym (ap (λ d. open_call d k (calls_of (events i (rs ++ r ∷ [])))) next.epoch ∙ none_later 1 e (e + 1) k (events i (rs ++ r ∷ [])) (omega arith) next.up)

-- the machine is in r1 after such a row
pub not_left : (i : Interface) (rs : List Item) (r : Item) (row : JudgedRow) (seen : List Event) → IsJudgedRow i rs r row seen → routed (x25 i) (observer i rs).level r ≡ None → is_ready (observer i (rs ++ r ∷ [])).level ≡ true → leaves_ready row.judge ≡ false
not_left i rs r row seen l none ready = by row.judge (subst (λ q. IsJudge i q (observer i rs) (observer i (rs ++ r ∷ [])) row.judge) none l.judge)
  where
    at : (g : GapInterfaceState) (s : RState) → g.level.state ≡ s → is_ready g ≡ true → is_elsewhere s ≡ false
    at g R1 e h = refl
    at g R2 e h = absurd (true≢false (sym h ∙ (λ t. is_ready (record { level = record g.level { state = e t }; adrift = g.adrift; owed_before = g.owed_before }))))
    at g R3 e h = absurd (true≢false (sym h ∙ (λ t. is_ready (record { level = record g.level { state = e t }; adrift = g.adrift; owed_before = g.owed_before }))))

    by : (j : Judge) → IsJudge i None (observer i rs) (observer i (rs ++ r ∷ [])) j → leaves_ready j ≡ false
    by (judge.Restart before behind) h = at (observer i (rs ++ r ∷ [])).level behind (sym h.1) ready
    by (judge.Channel k before behind accepted) h = absurd h

-- ---- the call of a row

row_call_on : {A : Type 0} (i : Interface) (rs : List Item) (r : Item) (n : ℕ) (old new : OpenCalls A) (moved : CallMove) → routed (x25 i) (observer i rs).level r ≡ Some n → KeepsCalls i rs old → CallsOn i rs r n new
    → AreFewCalls (events i (rs ++ r ∷ [])) → moved.before ≡ number_at (observer i rs).epoch (value_at old.table n) → moved.after ≡ number_at (observer i rs).epoch (value_at new.table n) → row_call moved ≡ call_of i rs r
row_call_on i rs r n old new moved to h counted few before behind =
    let so_far = counted_so_far i rs r n old to h (few_part (events i rs) _ (subst AreFewCalls (events_on_channel i rs r n to) few)) in
    (λ t. unless_0 ((behind ∙ (counted few).1) t) ((before ∙ so_far.1) t)) ∙ sym (ap (call_on i rs r) to)

pub row_call_off : (i : Interface) (rs : List Item) (r : Item) (moved : CallMove) → routed (x25 i) (observer i rs).level r ≡ None → row_call moved ≡ 0 → row_call moved ≡ call_of i rs r
row_call_off i rs r moved to none = none ∙ sym (ap (call_on i rs r) to)

-- of one that opens no call and ends none
twice : (n : ℕ) → unless_0 n n ≡ n
twice zero = refl
twice (suc n) = refl

pub quiet_call : {A : Type 0} (i : Interface) (rs : List Item) (r : Item) (n : ℕ) (kept : OpenCalls A) → routed (x25 i) (observer i rs).level r ≡ Some n
    → AreQuiet (row_events i (observer i rs).epoch n ((observer i rs).states n) r) → KeepsCalls i rs kept → AreFewCalls (events i (rs ++ r ∷ [])) → number_at (observer i rs).epoch (value_at kept.table n) ≡ call_of i rs r
quiet_call i rs r n kept to quiet h few =
    let e = (observer i rs).epoch in
    let came = events_on_channel i rs r n to in
    let before = open_call e n (calls_of (events i rs)) in
    h.calls (few_part (events i rs) _ (subst AreFewCalls came few)) (ready_at i (observer i rs).level r n to) n
    ∙ sym (ap (λ m. unless_0 m before) (ap (λ es. open_call e n (calls_of es)) came ∙ quiet_calls e n (events i rs) _ quiet) ∙ twice before) ∙ sym (ap (call_on i rs r) to)

-- ---- what came of a row that a channel received

-- its events were counted
abbrev pub StepsOn : {A : Type 0} → (epoch n : ℕ) → List Event → (old new : OpenCalls A) → Type 0
StepsOn epoch n fs old new = (es : List Event) → AreOn epoch n fs → Counted epoch n es old.opened (number_at epoch (value_at old.table n)) → Counted epoch n (es ++ fs) new.opened (number_at epoch (value_at new.table n))

abbrev pub CountsOn : {A T E : Type 0} → (epoch n : ℕ) → List Event → (old new : OpenCalls A) → Result T E → Type 0
CountsOn epoch n fs old new result = (es : List Event) → AreOn epoch n fs → Counted epoch n es old.opened (number_at epoch (value_at old.table n)) → OnOk result (Counted epoch n (es ++ fs) new.opened (number_at epoch (value_at new.table n)))

counted_then : {A : Type 0} (i : Interface) (rs : List Item) (r : Item) (row : JudgedRow) (seen : List Event) (n epoch : ℕ) (old new : OpenCalls A) → IsJudgedRow i rs r row seen → routed (x25 i) (observer i rs).level r ≡ Some n → KeepsCalls i rs old → epoch ≡ (observer i rs).epoch
    → StepsOn epoch n seen old new → CallsOn i rs r n new
counted_then i rs r row seen n epoch old new l to h same step =
    counted_on i rs r n old new to h (subst (λ e. StepsOn e n (row_events i (observer i rs).epoch n ((observer i rs).states n) r) old new) same (subst (λ fs. StepsOn epoch n fs old new) (l.came n to) step) (events i rs))

pub kept_taken : {A T E : Type 0} (result : Result T E) (i : Interface) (rs : List Item) (r : Item) (row : JudgedRow) (seen : List Event) (n epoch : ℕ) (old new : OpenCalls A) → IsJudgedRow i rs r row seen → routed (x25 i) (observer i rs).level r ≡ Some n → KeepsCalls i rs old → epoch ≡ (observer i rs).epoch
    → CountsOn epoch n seen old new result → OnOk result (IfSome (value_at new.table n) (λ c. c.epoch ≡ epoch)) → OnOk result ((k : ℕ) → k ≢ n → value_at new.table k ≡ value_at old.table k) → OnOk result (KeepsCalls i (rs ++ r ∷ []) new)
kept_taken (Err x) i rs r row seen n epoch old new l to h same step own others = tt
kept_taken (Ok x) i rs r row seen n epoch old new l to h same step own others =
    kept_calls_on i rs r n old new to h (counted_then i rs r row seen n epoch old new l to h same step) (subst (λ e. IfSome (value_at new.table n) (λ (c : ChannelCalls). c.epoch ≡ e)) same own) others

pub call_taken : {A E : Type 0} (result : Result CallMove E) (i : Interface) (rs : List Item) (r : Item) (row : JudgedRow) (seen : List Event) (n epoch : ℕ) (old new : OpenCalls A) → IsJudgedRow i rs r row seen → routed (x25 i) (observer i rs).level r ≡ Some n → KeepsCalls i rs old → epoch ≡ (observer i rs).epoch
    → AreFewCalls (events i (rs ++ r ∷ [])) → CountsOn epoch n seen old new result → IfOk result (λ moved. moved.before ≡ number_at epoch (value_at old.table n)) → IfOk result (λ moved. moved.after ≡ number_at epoch (value_at new.table n)) → IfOk result (λ moved. row_call moved ≡ call_of i rs r)
call_taken (Err x) i rs r row seen n epoch old new l to h same few step before behind = tt
call_taken (Ok moved) i rs r row seen n epoch old new l to h same few step before behind =
    row_call_on i rs r n old new moved to h (counted_then i rs r row seen n epoch old new l to h same step) few
    (subst (λ e. moved.before ≡ number_at e (value_at old.table n)) same before) (subst (λ e. moved.after ≡ number_at e (value_at new.table n)) same behind)
