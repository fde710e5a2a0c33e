-- What was not counted of some rows and of one more.
use Rattle.std.proofs.Common.{◌≡◌, ◌∙◌, sym, ap, subst, refl, ℕ, ◌+◌, ◌-◌, ◌<◌, ◌≤◌, ◌^◌, Bool, true, false, ◌||◌, cond, List, [], ◌∷◌, ◌++◌, length, filter, min, sum_by, Option, Some, None, Result, Ok, Err, OnOk, append-nil, append_assoc, length-append, arith}
use Rattle.std.proofs.lemmas.List.Elements.{filter-append}
use Rattle.std.proofs.lemmas.List.Sums.{sum_by-append, sum_by-cons, sum_by_push}
use Rattle.line_model.specs.declared.event.Event.{Event}
use Rattle.line_model.specs.declared.interface.Interface.{Interface}
use Rattle.line_model.specs.basics.Records.{Item}
use Rattle.line_model.specs.channels.Gaps.{GapChannel}
use Rattle.line_model.specs.channels.GapRestart.{GapInterfaceState}
use Rattle.line_model.specs.observer.Machine.{Observer, after, routed, walk}
use Rattle.line_model.specs.observer.Observer.{start, x25}
use Rattle.line_model.specs.text.Text.{head, rows}
use Rattle.channel_run.specs.StatusWord.{view_in}
use Rattle.channel_run.specs.Views.{IsViewOf, is_adrift}
use Rattle.data_transfer.specs.Packed.{Packed}
use Rattle.restart_epochs.specs.Cutting.{observer}
use Rattle.live_report.specs.JudgedRows.{IsJudge, IsJudgedRow}
use Rattle.live_report.specs.Observing.{AreItems, Represents}
use Rattle.live_report.specs.Uncounted.{AreFew, LeftOut, amount_of, amounts_of, grown, is_data, is_same, left_out, left_out_at, left_out_by, none_left_out, counts_data, has_finding, reason_of_state, reason_at, reason_by, reason_on, is_data_event, trace_uncounted, uncounted_of, user_octets, with_one}
use Rattle.live_report.specs.declared.judged_row.Judge.TheVariants as judge
use Rattle.line_model.specs.declared.state.RState.{RState}
use Rattle.live_report.specs.declared.judged_row.JudgedRow.{JudgedRow}
use Rattle.live_report.specs.declared.observer.Observer.{Observer as Running}
use Rattle.live_report.specs.declared.uncounted.Amount.{Amount}
use Rattle.live_report.specs.declared.uncounted.Reason.{Reason}
use Rattle.live_report.specs.declared.uncounted.Reason.TheVariants.{Finding, Owed, NotInTransfer, Discarded, Unknown, Restart}
use Rattle.live_report.specs.declared.uncounted.Uncounted.{Uncounted}
use Rattle.line_model.specs.packets.Says.{items_of}
use Rattle.channel_run.specs.Run.{data_events, row_events}

-- ---- why the data of a row was not counted

-- by the channel that it went to
by_taker : (i : Interface) (o more : Observer GapInterfaceState GapChannel) (r : Item) (events : List Event) (taker : Option ℕ) (k : ℕ) (before after : Packed) (accepted : Option ℕ) (answer : Option Reason)
    → IsJudge i taker o more (judge.Channel k before after accepted) → ((n : ℕ) → taker ≡ Some n → events ≡ row_events i o.epoch n (o.states n) r)
    → ((j : Interface) (c : GapChannel) → IsViewOf j c (view_in before) → answer ≡ reason_on c events) → answer ≡ reason_by i taker o r
by_taker i o more r events None k before after accepted answer h came by = absurd h
by_taker i o more r events (Some n) k before after accepted answer h came by = by i (o.states n) h.1 ∙ ap (reason_on (o.states n)) (came n refl)

pub of_data : (i : Interface) (earlier : List Item) (r : Item) (row : JudgedRow) (events : List Event) → IsJudgedRow i earlier r row events → (b : Bool) → is_data row.packet ≡ b
    → cond b (reason_by i (routed (x25 i) (observer i earlier).level r) (observer i earlier) r) None ≡ reason_at i (observer i earlier) r
of_data i earlier r row events l b is =
    let o = observer i earlier in
    ap (λ x. cond x (reason_by i (routed (x25 i) o.level r) o r) None) (sym is ∙ ap is_data l.packet)

pub on_channel : (i : Interface) (earlier : List Item) (r : Item) (row : JudgedRow) (events : List Event) (k : ℕ) (before after : Packed) (accepted : Option ℕ) (answer : Option Reason) → IsJudgedRow i earlier r row events
    → is_data row.packet ≡ true → row.judge ≡ judge.Channel k before after accepted → ((j : Interface) (c : GapChannel) → IsViewOf j c (view_in before) → answer ≡ reason_on c events) → answer ≡ reason_at i (observer i earlier) r
on_channel i earlier r row events k before after accepted answer l data_is by reason =
    let o = observer i earlier in
    let more = observer i (earlier ++ r ∷ []) in
    let taker = routed (x25 i) o.level r in
    by_taker i o more r events taker k before after accepted answer (subst (IsJudge i taker o more) by l.judge) l.came reason ∙ of_data i earlier r row events l true data_is

-- by the restart machine
by_restart : (i : Interface) (o more : Observer GapInterfaceState GapChannel) (r : Item) (taker : Option ℕ) (before after : RState) → IsJudge i taker o more (judge.Restart before after) → Some Restart ≡ reason_by i taker o r
by_restart i o more r None before after h = refl
by_restart i o more r (Some n) before after h = absurd h

pub on_restart : (i : Interface) (earlier : List Item) (r : Item) (row : JudgedRow) (events : List Event) (before after : RState) → IsJudgedRow i earlier r row events
    → is_data row.packet ≡ true → row.judge ≡ judge.Restart before after → Some Restart ≡ reason_at i (observer i earlier) r
on_restart i earlier r row events before after l data_is by =
    let o = observer i earlier in
    let more = observer i (earlier ++ r ∷ []) in
    let taker = routed (x25 i) o.level r in
    by_restart i o more r taker before after (subst (IsJudge i taker o more) by l.judge) ∙ of_data i earlier r row events l true data_is

or_true : (b c : Bool) → c ≡ true → (b || c) ≡ true
or_true true c h = refl
or_true false c h = h

-- where its channel accepted data, it was counted
pub has_data : (events : List Event) (epoch k : ℕ) (r : Item) (n : ℕ) → counts_data (events ++ data_events epoch k r (Some n)) ≡ true
has_data [] epoch k r n = refl
has_data (e ∷ es) epoch k r n = or_true (is_data_event e.what) (counts_data (es ++ data_events epoch k r (Some n))) (has_data es epoch k r n)

counted_on : (i : Interface) (o more : Observer GapInterfaceState GapChannel) (r : Item) (events : List Event) (taker : Option ℕ) (k : ℕ) (before after : Packed) (accepted : Option ℕ)
    → IsJudge i taker o more (judge.Channel k before after accepted) → ((n : ℕ) → taker ≡ Some n → events ≡ row_events i o.epoch n (o.states n) r) → counts_data events ≡ true → None ≡ reason_by i taker o r
counted_on i o more r events None k before after accepted h came counted = absurd h
counted_on i o more r events (Some n) k before after accepted h came counted =
    let c = o.states n in
    ap (λ b. cond b None (cond (has_finding events) (Some Finding) (Some (reason_of_state c.channel.state (is_adrift c.certainty) c.channel.owed)))) (sym counted) ∙ ap (reason_on c) (came n refl)

none_if : (b : Bool) (why : Option Reason) → None ≡ why → None ≡ cond b why None
none_if true why h = h
none_if false why h = refl

pub was_counted : (i : Interface) (earlier : List Item) (r : Item) (row : JudgedRow) (events : List Event) (k : ℕ) (before after : Packed) (accepted : Option ℕ) → IsJudgedRow i earlier r row events
    → row.judge ≡ judge.Channel k before after accepted → counts_data events ≡ true → None ≡ reason_at i (observer i earlier) r
was_counted i earlier r row events k before after accepted l by counted =
    let o = observer i earlier in
    let more = observer i (earlier ++ r ∷ []) in
    let taker = routed (x25 i) o.level r in
    none_if (is_data r.packet) (reason_by i taker o r) (counted_on i o more r events taker k before after accepted (subst (IsJudge i taker o more) by l.judge) l.came counted)

-- ---- rows one by one

-- those of some rows and of one more
left_out_more : (i : Interface) (o : Observer GapInterfaceState GapChannel) (rs : List Item) (r : Item) → left_out i o (rs ++ r ∷ []) ≡ left_out i o rs ++ left_out_at i (walk (x25 i) o rs) r
left_out_more i o [] r = append-nil (left_out_at i o r)
left_out_more i o (x ∷ rs) r =
    ap (λ ds. left_out_at i o x ++ ds) (left_out_more i (after (x25 i) o x) rs r)
    ∙ sym (append_assoc (left_out_at i o x) (left_out i (after (x25 i) o x) rs) (left_out_at i (walk (x25 i) (after (x25 i) o x) rs) r))

-- ---- they are few

one_at_most : (b : Bool) (d : LeftOut) → length (cond b (d ∷ []) []) ≤ 1
one_at_most true d = omega arith
one_at_most false d = omega arith

its_octets : (b : Bool) (d : LeftOut) → sum_by (λ e. e.octets) (cond b (d ∷ []) []) ≤ d.octets
its_octets true d = omega arith
its_octets false d = omega arith

row_packets : (why : Reason) (came : Option Reason) (n : ℕ) → length (filter (λ d. is_same why d.reason) (left_out_by came n)) ≤ 1
row_packets why None n = omega arith
row_packets why (Some reason) n = one_at_most (is_same why reason) (record { reason = reason; octets = n })

row_octets : (why : Reason) (came : Option Reason) (n : ℕ) → sum_by (λ d. d.octets) (filter (λ d. is_same why d.reason) (left_out_by came n)) ≤ n
row_octets why None n = omega arith
row_octets why (Some reason) n = its_octets (is_same why reason) (record { reason = reason; octets = n })

few_packets : (why : Reason) (i : Interface) (o : Observer GapInterfaceState GapChannel) (rs : List Item) → length (filter (λ d. is_same why d.reason) (left_out i o rs)) ≤ length rs
few_packets why i o [] = omega arith
few_packets why i o (r ∷ rs) =
    let p : LeftOut → Bool = λ d. is_same why d.reason in
    let here = left_out_at i o r in
    let later = left_out i (after (x25 i) o r) rs in
    omega (arith, row_packets why (reason_at i o r) (user_octets i r.length), few_packets why i (after (x25 i) o r) rs, ap (λ (ds : List LeftOut). length ds) (filter-append p here later), length-append (filter p here) (filter p later))

few_octets : (why : Reason) (i : Interface) (o : Observer GapInterfaceState GapChannel) (rs : List Item) → sum_by (λ d. d.octets) (filter (λ d. is_same why d.reason) (left_out i o rs)) ≤ sum_by (λ r. r.length) rs
few_octets why i o [] = omega arith
few_octets why i o (r ∷ rs) =
    let p : LeftOut → Bool = λ d. is_same why d.reason in
    let f : LeftOut → ℕ = λ d. d.octets in
    let here = left_out_at i o r in
    let later = left_out i (after (x25 i) o r) rs in
    omega (arith, row_octets why (reason_at i o r) (user_octets i r.length), few_octets why i (after (x25 i) o r) rs, ap (sum_by f) (filter-append p here later), sum_by-append f (filter p here) (filter p later), sum_by-cons (λ (x : Item). x.length) r rs)

-- ---- one packet more

abbrev amount_in : List LeftOut → Amount
amount_in ds = record { packets = length ds; octets = sum_by (λ d. d.octets) ds }

fits : (n : ℕ) → n < 2 ^ 64 → n ≡ min n (2 ^ 64 - 1)
fits n h = omega (arith, h)

amount_more : (b : Bool) (d : LeftOut) (ds : List LeftOut) → length ds + 1 < 2 ^ 64 → sum_by (λ e. e.octets) ds + d.octets < 2 ^ 64
    → amount_in (ds ++ cond b (d ∷ []) []) ≡ cond b (grown d.octets (amount_in ds)) (amount_in ds)
amount_more true d ds h g = λ t. record {
  packets = (length-append ds (d ∷ []) ∙ fits (length ds + 1) h) t;
  octets = (sum_by_push (λ e. e.octets) ds d ∙ fits (sum_by (λ e. e.octets) ds + d.octets) g) t;
}
amount_more false d ds h g = ap amount_in (append-nil ds)

-- there are few for each reason, with these octets more
record HasRoom (n : ℕ) (ds : List LeftOut) : Type 0 where
  pub packets : (why : Reason) → length (filter (λ d. is_same why d.reason) ds) + 1 < 2 ^ 64
  pub octets : (why : Reason) → sum_by (λ d. d.octets) (filter (λ d. is_same why d.reason) ds) + n < 2 ^ 64

amount_after : (why reason : Reason) (n : ℕ) (ds : List LeftOut) → HasRoom n ds
    → amount_of why (ds ++ record { reason = reason; octets = n } ∷ []) ≡ cond (is_same why reason) (grown n (amount_of why ds)) (amount_of why ds)
amount_after why reason n ds h =
    let p : LeftOut → Bool = λ d. is_same why d.reason in
    let d : LeftOut = record { reason = reason; octets = n } in
    ap amount_in (filter-append p ds (d ∷ [])) ∙ amount_more (is_same why reason) d (filter p ds) (h.packets why) (h.octets why)

-- the amounts after one packet more, one by one
abbrev each_with : Reason → (octets : ℕ) → Uncounted → Uncounted
each_with reason n u = record {
  finding = cond (is_same Finding reason) (grown n u.finding) u.finding;
  owed = cond (is_same Owed reason) (grown n u.owed) u.owed;
  not_in_transfer = cond (is_same NotInTransfer reason) (grown n u.not_in_transfer) u.not_in_transfer;
  discarded = cond (is_same Discarded reason) (grown n u.discarded) u.discarded;
  unknown = cond (is_same Unknown reason) (grown n u.unknown) u.unknown;
  restart = cond (is_same Restart reason) (grown n u.restart) u.restart;
}

each_with_one : (reason : Reason) (n : ℕ) (u : Uncounted) → each_with reason n u ≡ with_one reason n u
each_with_one Finding n u = refl
each_with_one Owed n u = refl
each_with_one NotInTransfer n u = refl
each_with_one Discarded n u = refl
each_with_one Unknown n u = refl
each_with_one Restart n u = refl

amounts_after : (reason : Reason) (n : ℕ) (ds : List LeftOut) → HasRoom n ds → amounts_of (ds ++ record { reason = reason; octets = n } ∷ []) ≡ with_one reason n (amounts_of ds)
amounts_after reason n ds h =
    (λ t. record {
      finding = amount_after Finding reason n ds h t;
      owed = amount_after Owed reason n ds h t;
      not_in_transfer = amount_after NotInTransfer reason n ds h t;
      discarded = amount_after Discarded reason n ds h t;
      unknown = amount_after Unknown reason n ds h t;
      restart = amount_after Restart reason n ds h t;
    })
    ∙ each_with_one reason n (amounts_of ds)

room_for : (i : Interface) (earlier : List Item) (r : Item) → AreFew (earlier ++ r ∷ []) → HasRoom (user_octets i r.length) (left_out i (start i) earlier)
room_for i earlier r few = record {
  packets = λ why. omega (arith, few_packets why i (start i) earlier, few.rows, length-append earlier (r ∷ []));
  octets = λ why. omega (arith, few_octets why i (start i) earlier, few.octets, sum_by_push (λ (x : Item). x.length) earlier r);
}

-- the data of one row more was not counted
pub uncounted_more : (i : Interface) (earlier : List Item) (r : Item) (why : Reason) → AreFew (earlier ++ r ∷ []) → Some why ≡ reason_at i (observer i earlier) r
    → with_one why (user_octets i r.length) (uncounted_of i earlier) ≡ uncounted_of i (earlier ++ r ∷ [])
uncounted_more i earlier r why few came =
    sym (amounts_after why (user_octets i r.length) (left_out i (start i) earlier) (room_for i earlier r few))
    ∙ ap (λ o. amounts_of (left_out i (start i) earlier ++ left_out_by o (user_octets i r.length))) came
    ∙ ap amounts_of (sym (left_out_more i (start i) earlier r))

-- it was, or the row has none
pub uncounted_same : (i : Interface) (earlier : List Item) (r : Item) → None ≡ reason_at i (observer i earlier) r → uncounted_of i earlier ≡ uncounted_of i (earlier ++ r ∷ [])
uncounted_same i earlier r came =
    ap amounts_of (sym (append-nil (left_out i (start i) earlier)))
    ∙ ap (λ o. amounts_of (left_out i (start i) earlier ++ left_out_by o (user_octets i r.length))) came
    ∙ ap amounts_of (sym (left_out_more i (start i) earlier r))

-- the rows of a trace are few
pub few_with : {A C : Type 0} → (I : C → Interface) (N : C → ℕ) (S : C → GapChannel → Type 0) (i : Interface) (rs : List Item) (r : Item) (o : Running A C) → Represents I N S i rs o → AreItems i (rs ++ r ∷ []) → AreFew (rs ++ r ∷ [])
few_with I N S i rs r o s sound = record { rows = omega (arith, length-append rs (r ∷ []), s.cut.packets, s.bounds.rows, s.bounds.last); octets = omega (arith, sound.octets) }

-- what was not counted of the rows of a trace text
pub of_the_text : {T E : Type 0} → (answer : Result T E) (text : List ℕ) (i : Interface) (rs : List Item) (u : Uncounted) → OnOk answer (u ≡ uncounted_of i rs) → head text ≡ Some i → items_of i (rows text) ≡ rs → OnOk answer (u ≡ trace_uncounted text)
of_the_text (Ok x) text i rs u h header same =
    h ∙ ap (uncounted_of i) (sym same) ∙ ap (λ o. elim o as (λ _. Uncounted) [ None ↦ none_left_out | Some j ↦ uncounted_of j (items_of j (rows text)) ]) (sym header)
of_the_text (Err f) text i rs u h header same = tt
