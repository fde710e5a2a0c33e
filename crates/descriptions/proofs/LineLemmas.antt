-- Lines that are written from their end, and the objects of rows of the common case.
use Rattle.std.proofs.Common.{◌≡◌, ◌∙◌, sym, ap, subst, refl, ℕ, Bool, true, false, not, ◌&&◌, cond, List, [], ◌∷◌, ◌++◌, Option, Some, None, IfSome, Result, Ok, Err, OnOk, is_ok, append_assoc}
use Rattle.std.specs.Prelude.{codes, decimal}
use Rattle.std.specs.Option.{is_none, is_some, option_map, option_to_list}
use Rattle.line_model.specs.basics.Records.{Item}
use Rattle.line_model.specs.declared.event.Event.{Event}
use Rattle.line_model.specs.declared.finding.Finding.{Finding}
use Rattle.line_model.specs.declared.interface.Interface.{Interface}
use Rattle.line_model.specs.declared.state.ChannelState.{ChannelState}
use Rattle.line_model.specs.declared.state.ChannelState.TheVariants.{Setup, Transfer, Unknown}
use Rattle.line_model.specs.declared.state.DState.TheVariants.{D1, D2, D3}
use Rattle.line_model.specs.channels.Gaps.{GapChannel}
use Rattle.line_model.specs.channels.GapRestart.{GapInterfaceState}
use Rattle.line_model.specs.observer.Calls.{all_lengths}
use Rattle.line_model.specs.observer.Machine.{Observer, routed}
use Rattle.line_model.specs.observer.Observer.{x25}
use Rattle.line_model.specs.observer.Report.{report_of}
use Rattle.line_model.specs.declared.packet.Packet.{Packet}
use Rattle.line_model.specs.packets.Says.{gap_of}
use Rattle.restart_epochs.specs.Cutting.{observer}
use Rattle.data_transfer.specs.Packed.{Packed}
use Rattle.channel_run.specs.StatusWord.{view_in}
use Rattle.live_report.specs.JudgedRows.{IsJudge, IsJudgedRow, taker}
use Rattle.live_report.specs.declared.judged_row.Judge.{Judge}
use Rattle.live_report.specs.declared.judged_row.Judge.TheVariants as judge
use Rattle.live_report.specs.declared.judged_row.JudgedRow.{JudgedRow}
use Rattle.annotated_trace.specs.Printed.{HasAppended}
use Rattle.descriptions.specs.Facts.{IsFateOf}
use Rattle.descriptions.specs.Lines.{Puts, PutsForm}
use Rattle.descriptions.specs.Members.{IsFurther, IsOfCall, IsText, call_member}
use Rattle.line_model.specs.observer.Observer as Walk
use Rattle.restart_epochs.specs.ChannelTables.{value_at}
use Rattle.live_report.proofs.LastLemmas.{taker_is}
use Rattle.descriptions.specs.RowCalls.{AreFewCalls, AreQuiet, call_of, number_at}
use Rattle.descriptions.proofs.RowCallLemmas.{quiet_call}
use Rattle.descriptions.specs.RowObjects.{IsObjectWhere, IsRest, IsRowObject, channel_word, counted_word, events_at, finding_word, circuit_recorded, head_by, known_word, named_channel, owed_after, owed_at, place_members, row_head, state_at, state_members, word_after, word_before}
use Rattle.descriptions.specs.CommonObjects.{IsCommonObject, amount_word, is_d1, is_quiet, is_settled, leaves_settled, common_head}
use Rattle.descriptions.specs.declared.facts.Fate.TheVariants.{Counted}
use Rattle.descriptions.specs.declared.times.Recorded.{Recorded}
use Rattle.descriptions.proofs.FollowLemmas.{same_epoch}
use Rattle.descriptions.proofs.ObjectLemmas.{owed_is, words_are}
use Rattle.descriptions.proofs.OneLine.{rest_one}
use Rattle.descriptions.proofs.RestLemmas.{no_circuit}
use Rattle.descriptions.specs.Follows.{KeepsOrigins, is_renewing}
use Rattle.descriptions.specs.declared.origins.Origins.{Origins}
use Rattle.descriptions.proofs.OriginLemmas.{kept_quiet}

-- ---- bytes before others

same_line : (a b : List ℕ) → Some a ≡ Some b → a ≡ b
same_line a b h = cc

pub puts_then : (v w : List ℕ) (a b c : Option (List ℕ)) → Puts w a b → Puts v b c → Puts (v ++ w) a c
puts_then v w a b c first later = record {
  whole = λ line is.
      let l = later.whole line is in
      let f = first.whole l.0 l.1 in
      (f.0, f.1, l.2 ∙ ap (λ xs. v ++ xs) f.2 ∙ sym (append_assoc v w f.0));
}

pub form_put : {P : List ℕ → Type 0} (bytes : List ℕ) (a b : Option (List ℕ)) → P bytes → Puts bytes a b → PutsForm P a b
form_put bytes a b p put = record {
  whole = λ line is.
      let w = put.whole line is in
      (w.0, bytes, w.1, w.2, p);
}

-- ---- what was counted

pub counted_is : (lengths : List ℕ) (octets segments : ℕ) → IsFateOf lengths (Counted octets segments) → amount_word octets segments ≡ counted_word lengths
counted_is [] octets segments h = absurd h
counted_is (n ∷ ns) octets segments h = (λ t. amount_word (h.0 t) (h.1 t))

pub counted_put : (lengths : List ℕ) (octets segments : ℕ) (a b : Option (List ℕ)) → IsFateOf lengths (Counted octets segments)
    → Puts (amount_word octets segments) a b → Puts (counted_word lengths) a b
counted_put lengths octets segments a b h put = subst (λ word. Puts word a b) (counted_is lengths octets segments h) put

-- ---- the beginning of an object

nested : (b s c k d x : List ℕ) → (b ++ (s ++ (c ++ (k ++ d)))) ++ x ≡ (b ++ (s ++ c)) ++ (k ++ (d ++ x))
nested b s c k d x =
    append_assoc b (s ++ (c ++ (k ++ d))) x ∙ ap (λ xs. b ++ xs) (append_assoc s (c ++ (k ++ d)) x ∙ ap (λ xs. s ++ xs) (append_assoc c (k ++ d) x ∙ ap (λ xs. c ++ xs) (append_assoc k d x)))
    ∙ ap (λ xs. b ++ xs) (sym (append_assoc s c (k ++ (d ++ x)))) ∙ sym (append_assoc b (s ++ c) (k ++ (d ++ x)))

pub headed : (a n b s c k d x : List ℕ) → (a ++ (n ++ (b ++ (s ++ (c ++ (k ++ d)))))) ++ x ≡ a ++ (n ++ ((b ++ (s ++ c)) ++ (k ++ (d ++ x))))
headed a n b s c k d x =
    append_assoc a (n ++ (b ++ (s ++ (c ++ (k ++ d))))) x ∙ ap (λ xs. a ++ xs) (append_assoc n (b ++ (s ++ (c ++ (k ++ d)))) x ∙ ap (λ xs. n ++ xs) (nested b s c k d x))

-- the members between what was counted and the finding, none of which there is
pub place_end : (epoch : ℕ) → codes ",\"epoch\":" ++ (decimal epoch ++ codes ",\"owed\":false,\"finding\":null") ≡ place_members epoch false ++ finding_word None None
place_end epoch = ap (λ xs. codes ",\"epoch\":" ++ xs) (sym (append_assoc (decimal epoch) (codes ",\"owed\":false,\"finding\":") (codes "null")))

-- ---- a whole line

pub common_line : (row : JudgedRow) (epoch call : ℕ) (events : List Event) (a b c k d : Option (List ℕ)) (bytes : List ℕ) → is_quiet row ≡ true → gap_of row.packet ≡ None → is_renewing row.packet ≡ false → AreQuiet events → a ≡ Some [] → Puts (codes "}\n") a b → PutsForm IsFurther b c → Puts (call_member call) c k
    → Puts (common_head row epoch (all_lengths events)) k d → d ≡ Some bytes → IsCommonObject row epoch call events bytes
common_line row epoch call events a b c k d bytes quiet gap renews steady empty end plain called head is =
    let h = head.whole bytes is in
    let m = called.whole h.0 h.1 in
    let p = plain.whole m.0 m.1 in
    let e = end.whole p.0 p.2 in
    let none : e.0 ≡ [] = same_line e.0 [] (sym e.1 ∙ empty) in
    record {
      quiet = quiet;
      packet = gap;
      renews = renews;
      steady = steady;
      rest = call_member call ++ p.1;
      members = (p.1, refl, p.4);
      written = h.2 ∙ ap (λ xs. common_head row epoch (all_lengths events) ++ xs) (m.2 ∙ ap (λ xs. call_member call ++ xs) (p.3 ∙ ap (λ xs. p.1 ++ xs) (e.2 ∙ ap (λ xs. codes "}\n" ++ xs) none)) ∙ sym (append_assoc (call_member call) p.1 (codes "}\n")));
    }

-- a line that was lent
pub if_line : {X : Type 0} (f : X → List ℕ) (P : List ℕ → Type 0) (o : Option X) (d : Option (List ℕ)) → option_map f o ≡ d → ((bytes : List ℕ) → d ≡ Some bytes → P bytes) → IfSome o (λ x. P (f x))
if_line f P None d e h = tt
if_line f P (Some x) d e h = h (f x) (sym e)

-- ---- a row that found nothing and left its channel in d1

both_left : (a b : Bool) → (a && b) ≡ true → a ≡ true
both_left true b h = refl
both_left false b h = cc

both_right : (a b : Bool) → (a && b) ≡ true → b ≡ true
both_right true b h = h
both_right false b h = cc

no_finding : (o : Option Finding) → is_none o ≡ true → o ≡ None
no_finding None h = refl
no_finding (Some f) h = cc

d1_word : (s : ChannelState) → is_d1 s ≡ true → channel_word s ≡ codes "d1"
d1_word (Setup p) h = cc
d1_word (Transfer D1) h = refl
d1_word (Transfer D2) h = cc
d1_word (Transfer D3) h = cc
d1_word Unknown h = cc

not_set : (b : Bool) → not b ≡ true → b ≡ false
not_set true h = cc
not_set false h = refl

settled_word : (word : Packed) → is_settled word ≡ true → known_word (view_in word).adrift (view_in word).state ≡ codes "d1"
settled_word word h =
    let v = view_in word in
    let certain = not_set v.adrift (both_right (not v.owed) (not v.adrift) (both_right (is_d1 v.state) (not v.owed && not v.adrift) h)) in
    ap (λ b. known_word b v.state) certain ∙ d1_word v.state (both_left (is_d1 v.state) (not v.owed && not v.adrift) h)

settled_words : (j : Judge) → leaves_settled j ≡ true → (word_before j ≡ codes "d1") × (word_after j ≡ codes "d1")
settled_words (judge.Restart before after) h = absurd (let bad : false ≡ true = h in cc)
settled_words (judge.Channel k before after accepted) h =
    (settled_word before (both_left (is_settled before) (is_settled after) h), settled_word after (both_right (is_settled before) (is_settled after) h))

settled_owes : (j : Judge) → leaves_settled j ≡ true → owed_after j ≡ false
settled_owes (judge.Restart before after) h = refl
settled_owes (judge.Channel k before after accepted) h =
    let v = view_in after in
    not_set v.owed (both_left (not v.owed) (not v.adrift) (both_right (is_d1 v.state) (not v.owed && not v.adrift) (both_right (is_settled before) (is_settled after) h)))

taker_of : (i : Interface) (taker : Option ℕ) (o more : Observer GapInterfaceState GapChannel) (j : Judge) → IsJudge i taker o more j → leaves_settled j ≡ true → (n : ℕ) × (taker ≡ Some n)
taker_of i None o more (judge.Restart before after) h settled = absurd (let bad : false ≡ true = settled in cc)
taker_of i None o more (judge.Channel k before after accepted) h settled = absurd h
taker_of i (Some n) o more j h settled = (n, refl)

further_rest : (read packet : Packet) → read ≡ packet → gap_of packet ≡ None → (call known : ℕ) → call ≡ known → (rest : List ℕ) → IsOfCall call rest → IsRest (gap_of read) None None known rest
further_rest read packet same none call known is rest h = subst (λ g. IsRest g None None known rest) (sym (ap gap_of same ∙ none)) (no_circuit known rest (subst (λ n. IsOfCall n rest) is h))

-- the call that is open on the channel of a row, as it is kept
abbrev pub IsCallOf : {A : Type 0} → Origins A → JudgedRow → (call : ℕ) → Type 0
IsCallOf kept row call = IfSome (taker row.judge) (λ k. call ≡ number_at kept.epoch (value_at kept.calls.table k))

-- such a row is of the call that is open before it
common_call : {A : Type 0} (i : Interface) (earlier : List Item) (r : Item) (row : JudgedRow) (events : List Event) (call : ℕ) (kept : Origins A) → IsJudgedRow i earlier r row events → AreQuiet events → KeepsOrigins i earlier kept → IsCallOf kept row call
    → AreFewCalls (Walk.events i (earlier ++ r ∷ [])) → (n : ℕ) → routed (x25 i) (observer i earlier).level r ≡ Some n → call ≡ call_of i earlier r
common_call i earlier r row events call kept l quiet h of_call few n to =
    let known : call ≡ number_at kept.epoch (value_at kept.calls.table n) =
    subst (λ q. IfSome q (λ k. call ≡ number_at kept.epoch (value_at kept.calls.table k))) (taker_is i _ (observer i earlier) (observer i (earlier ++ r ∷ [])) row.judge l.judge ∙ to) of_call in
    known ∙ ap (λ e. number_at e (value_at kept.calls.table n)) h.epoch ∙ quiet_call i earlier r n kept.calls to (subst AreQuiet (l.came n to) quiet) h.calls few

common_object : {A : Type 0} (i : Interface) (earlier : List Item) (r : Item) (row : JudgedRow) (epoch call : ℕ) (events : List Event) (bytes : List ℕ) (kept : Origins A) → IsJudgedRow i earlier r row events → epoch ≡ (observer i (earlier ++ r ∷ [])).epoch → KeepsOrigins i earlier kept → IsCallOf kept row call
    → AreFewCalls (Walk.events i (earlier ++ r ∷ [])) → IsCommonObject row epoch call events bytes → IsRowObject None i earlier r bytes
common_object i earlier r row epoch call events bytes kept l at h of_call few line =
    let o : Observer GapInterfaceState GapChannel = observer i earlier in
    let more : Observer GapInterfaceState GapChannel = observer i (earlier ++ r ∷ []) in
    let taker : Option ℕ = routed (x25 i) o.level r in
    let none : row.finding ≡ None = no_finding row.finding (both_left (is_none row.finding) (leaves_settled row.judge) line.quiet) in
    let settled = both_right (is_none row.finding) (leaves_settled row.judge) line.quiet in
    let d1 = settled_words row.judge settled in
    let on = taker_of i taker o more row.judge l.judge settled in
    let words = words_are i taker o more row.judge l.judge in
    let before : codes "d1" ≡ state_at taker o = sym d1.0 ∙ words.0 in
    let after : codes "d1" ≡ state_at taker more = sym d1.1 ∙ words.1 in
    let channel : named_channel row.packet ≡ named_channel r.packet = ap named_channel l.packet in
    let came : events ≡ events_at i taker o r = l.came on.0 on.1 ∙ ap (λ k. events_at i k o r) (sym on.1) in
    let members : state_members row.number row.side (named_channel row.packet) (codes "d1") (codes "d1")
    ≡ state_members r.number r.side (named_channel r.packet) (state_at taker o) (state_at taker more) =
    (λ t. state_members (l.number t) (l.side t) (channel t) (before t) (after t)) in
    let own : epoch ≡ o.epoch = at ∙ same_epoch i earlier r on.0 on.1 in
    let owed : false ≡ owed_at taker more = sym (settled_owes row.judge settled) ∙ owed_is i taker o more row.judge l.judge in
    let head : common_head row epoch (all_lengths events) ≡ row_head i earlier r None =
    (λ t. members t ++ (counted_word (all_lengths (came t)) ++ (place_members (own t) (owed t) ++ finding_word None None)))
    ∙ sym (ap (λ g. head_by g i earlier r None) (sym (ap gap_of l.packet) ∙ line.packet)) in
    record {
      found = None;
      came = subst (λ f. (report_of i (earlier ++ r ∷ [])).findings ≡ (report_of i earlier).findings ++ option_to_list f) none l.finding;
      rest = line.rest;
      one = rest_one None None None call line.rest (no_circuit call line.rest line.members);
      members = further_rest r.packet row.packet (sym l.packet) line.packet call (call_of i earlier r) (common_call i earlier r row events call kept l line.steady h of_call few on.0 on.1) line.rest line.members;
      written = line.written ∙ ap (λ xs. xs ++ (line.rest ++ codes "}\n")) head;
    }

-- where no comment says when or where
pub unrecorded : (o : Option Recorded) (b : Bool) → b ≡ is_some o → b ≡ false → circuit_recorded o ≡ None
unrecorded None b is unset = refl
unrecorded (Some r) b is unset = absurd (let bad : true ≡ false = sym is ∙ unset in cc)

pub picked_object : (picked : Bool) (circuit : Option ℕ) (i : Interface) (earlier : List Item) (r : Item) (bytes : List ℕ) → picked ≡ true → circuit ≡ None → IsRowObject None i earlier r bytes → IsObjectWhere picked circuit i earlier r bytes
picked_object picked circuit i earlier r bytes is none h = subst (λ b. IsObjectWhere b circuit i earlier r bytes) (sym is) (subst (λ c. IsRowObject c i earlier r bytes) (sym none) h)

pub lent_object : {X A : Type 0} (f : X → List ℕ) (o : Option X) (picked : Bool) (circuit : Option ℕ) (i : Interface) (earlier : List Item) (r : Item) (row : JudgedRow) (epoch call : ℕ) (events : List Event) (digits : List ℕ) (kept : Origins A) → picked ≡ true → circuit ≡ None
    → IsJudgedRow i earlier r row events → epoch ≡ (observer i (earlier ++ r ∷ [])).epoch → KeepsOrigins i earlier kept → IsCallOf kept row call → AreFewCalls (Walk.events i (earlier ++ r ∷ [])) → IsText digits
    → IfSome o (λ x. IsText digits → IsCommonObject row epoch call events (f x)) → IfSome o (λ x. IsObjectWhere picked circuit i earlier r (f x))
lent_object f None picked circuit i earlier r row epoch call events digits kept is none l at past of_call few text h = tt
lent_object f (Some x) picked circuit i earlier r row epoch call events digits kept is none l at past of_call few text h = picked_object picked circuit i earlier r (f x) is none (common_object i earlier r row epoch call events (f x) kept l at past of_call few (h text))

-- such a row leaves what is kept of the rows before it as it is
common_kept : {A : Type 0} (i : Interface) (earlier : List Item) (r : Item) (row : JudgedRow) (epoch call : ℕ) (events : List Event) (bytes : List ℕ) (kept : Origins A) → IsJudgedRow i earlier r row events → IsCommonObject row epoch call events bytes → KeepsOrigins i earlier kept → KeepsOrigins i (earlier ++ r ∷ []) kept
common_kept i earlier r row epoch call events bytes kept l line h =
    let on = taker_of i (routed (x25 i) (observer i earlier).level r) (observer i earlier) (observer i (earlier ++ r ∷ [])) row.judge l.judge (both_right (is_none row.finding) (leaves_settled row.judge) line.quiet) in
    kept_quiet i earlier r row events on.0 kept l on.1 (no_finding row.finding (both_left (is_none row.finding) (leaves_settled row.judge) line.quiet)) line.renews line.steady h

pub lent_kept : {X A : Type 0} (f : X → List ℕ) (o : Option X) (i : Interface) (earlier : List Item) (r : Item) (row : JudgedRow) (epoch call : ℕ) (events : List Event) (digits : List ℕ) (kept : Origins A)
    → IsJudgedRow i earlier r row events → IsText digits → IfSome o (λ x. IsText digits → IsCommonObject row epoch call events (f x)) → IfSome o (λ x. KeepsOrigins i earlier kept → KeepsOrigins i (earlier ++ r ∷ []) kept)
lent_kept f None i earlier r row epoch call events digits kept l text h = tt
lent_kept f (Some x) i earlier r row epoch call events digits kept l text h = common_kept i earlier r row epoch call events (f x) kept l (h text)

-- ---- it is appended

pub object_appended : {T E : Type 0} (r : Result T E) (form : List ℕ → Type 0) (object out after : List ℕ) → after ≡ cond (is_ok r) (out ++ object) out → form object → OnOk r (HasAppended form out after)
object_appended (Ok x) form object out after e f = record { bytes = object; appended = e; formed = f }
object_appended (Err x) form object out after e f = tt

-- whatever came of it
pub on_any : {T E : Type 0} {P : Type 0} (r : Result T E) → P → OnOk r P
on_any (Ok x) p = p
on_any (Err x) p = tt
