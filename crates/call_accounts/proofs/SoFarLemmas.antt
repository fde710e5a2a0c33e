-- The calls of one channel in one epoch, with one more event after those that were added.
use Rattle.std.proofs.Common.{◌≡◌, ℕ, suc, zero, ◌<◌, Bool, true, false, cond, not, ◌||◌, ◌==◌, List, [], ◌∷◌, ◌++◌, map, refl, sym, ap, ◌∙◌, subst, Option, Some, None, append_assoc, arith, length, sum, ◌-◌, ◌≤◌, get_or, take, drop}
use Rattle.std.specs.Prelude.{find, take_while, option_map, option_and_then, is_some}
use Rattle.std.specs.List.{filter, AllByRecursion}
use Rattle.std.proofs.lemmas.List.{map-append, get_or-take, take-append-drop}
use Rattle.std.proofs.lemmas.List.Sums.{take_while-cons}
use Rattle.std.proofs.lemmas.Bool.{eq-eqb, and_from}
use Rattle.line_model.specs.declared.state.Side.{Side}
use Rattle.line_model.specs.declared.state.Side.TheVariants.{T, N}
use Rattle.line_model.specs.declared.event.How.{How}
use Rattle.line_model.specs.declared.event.What.{What}
use Rattle.line_model.specs.declared.event.What.TheVariants.{Found, Open, Up, End, Data, Setting, Initial}
use Rattle.line_model.specs.declared.event.Event.{Event}
use Rattle.line_model.specs.basics.Records.{CallRecord}
use Rattle.line_model.specs.observer.Calls.{is_up, is_end, is_opening, is_alongside, is_end_event, lengths_from, all_lengths, segments_of, settings_of, record_of, calls_of}
use Rattle.call_accounts.specs.Counted.{Counts, Adds, IsCountable}
use Rattle.call_accounts.proofs.CountedLemmas.{counts_more, countable_part}
use Rattle.call_accounts.specs.SoFar.{IsOf, IsWithin, AllEnded, opening_of, call_with, ended_by, EndFirst, IsOpenIn, IsClosedIn, HoldsFor}
use Rattle.call_accounts.specs.declared.so_far.OpenCall.{OpenCall}

-- ---- the calls of events that are all alongside

goes_on : Event → Bool
goes_on f = not (is_end f || is_opening f)

-- the record of a call by the events that belong to it and by its end
abbrev record_from : Event → Bool → List ℕ → List ℕ → Bool → List Event → Option Event → CallRecord
record_from e o a b r own end = record {
  epoch = e.epoch;
  channel = e.channel;
  out = o;
  called = a;
  calling = b;
  reverse = r;
  up = option_map (λ f. f.packet) (find is_up own);
  opened = e.packet;
  ended = option_map (λ f. f.packet) end;
  how = option_and_then (λ f. elim f.what [ End h ↦ Some h | _ ↦ None ]) end;
  data_t = length (lengths_from T own);
  oct_t = sum (lengths_from T own);
  data_n = length (lengths_from N own);
  oct_n = sum (lengths_from N own);
  segments = segments_of (all_lengths own);
  settings = settings_of own;
}

abbrev opened_from : Event → What → List Event → Option Event → List CallRecord
opened_from e w own end = elim w [ Open o a b r ↦ record_from e o a b r own end ∷ [] | _ ↦ [] ]

abbrev calls_in : List Event → List CallRecord
calls_in [] = []
calls_in (e ∷ later) = opened_from e e.what (take_while goes_on later) (find is_end later) ++ calls_in later

alongside : (epoch channel : ℕ) (e : Event) → IsOf epoch channel e → (es : List Event) → AllByRecursion (IsOf epoch channel) es → filter (is_alongside e) es ≡ es
alongside epoch channel e h [] all = refl
alongside epoch channel e h (f ∷ es) all =
    let same : is_alongside e f ≡ true = and_from (e.epoch == f.epoch) (e.channel == f.channel) (eq-eqb e.epoch f.epoch (h.0 ∙ sym all.0.0)) (eq-eqb e.channel f.channel (h.1 ∙ sym all.0.1)) in
    ap (λ b. cond b (f ∷ filter (is_alongside e) es) (filter (is_alongside e) es)) same ∙ ap (λ l. f ∷ l) (alongside epoch channel e h es all.1)

of_one : (epoch channel : ℕ) (es : List Event) → AllByRecursion (IsOf epoch channel) es → calls_of es ≡ calls_in es
unfolding goes_on
of_one epoch channel [] all = refl
of_one epoch channel (e ∷ es) all = at e.what (of_one epoch channel es all.1)
  where
    at : (w : What) → calls_of es ≡ calls_in es
        → elim w [ Open o a b r ↦ record_of e o a b r es ∷ calls_of es | _ ↦ calls_of es ] ≡ opened_from e w (take_while goes_on es) (find is_end es) ++ calls_in es
    at (Open o a b r) h =
        ap (λ l. record_from e o a b r (take_while goes_on l) (find is_end l) ∷ calls_of es) (alongside epoch channel e all.0 es all.1)
        ∙ ap (λ l. record_from e o a b r (take_while goes_on es) (find is_end es) ∷ l) h
    at (Found _ _ _) h = h
    at Up h = h
    at (End _) h = h
    at (Data _ _) h = h
    at (Setting _ _ _) h = h
    at (Initial _) h = h

-- a record has the events alongside alone
pub record_along : (e : Event) (o : Bool) (a b : List ℕ) (r : Bool) (later own : List Event) → filter (is_alongside e) later ≡ filter (is_alongside e) own → record_of e o a b r later ≡ record_of e o a b r own
unfolding goes_on
record_along e o a b r later own h = ap (λ l. record_from e o a b r (take_while goes_on l) (find is_end l)) h

-- ---- ends and members, with events after them

taken_before : (es : List Event) (o : Event) (later : List Event) → goes_on o ≡ false → take_while goes_on (es ++ o ∷ later) ≡ take_while goes_on es
taken_before [] o later h = take_while-cons goes_on o later ∙ ap (λ b. cond b (o ∷ take_while goes_on later) []) h
taken_before (e ∷ es) o later h =
    take_while-cons goes_on e (es ++ o ∷ later)
    ∙ ap (λ l. cond (goes_on e) (e ∷ l) []) (taken_before es o later h)
    ∙ sym (take_while-cons goes_on e es)

found_before : (es later : List Event) → find is_end later ≡ None → find is_end (es ++ later) ≡ find is_end es
found_before [] later h = h
found_before (e ∷ es) later h = ap (λ o. cond (is_end e) (Some e) o) (found_before es later h)

found_in : (es later : List Event) → is_some (find is_end es) ≡ true → find is_end (es ++ later) ≡ find is_end es
found_in [] later h = cc
found_in (e ∷ es) later h = at (is_end e) h (λ k. found_in es later k)
  where
    at : (b : Bool) → is_some (cond b (Some e) (find is_end es)) ≡ true → (is_some (find is_end es) ≡ true → find is_end (es ++ later) ≡ find is_end es)
        → cond b (Some e) (find is_end (es ++ later)) ≡ cond b (Some e) (find is_end es)
    at true k more = refl
    at false k more = more k

taken_in : (es later : List Event) → is_some (find is_end es) ≡ true → take_while goes_on (es ++ later) ≡ take_while goes_on es
unfolding goes_on
taken_in [] later h = cc
taken_in (e ∷ es) later h =
    take_while-cons goes_on e (es ++ later) ∙ at (is_end e) h (λ k. taken_in es later k) ∙ sym (take_while-cons goes_on e es)
  where
    at : (b : Bool) → is_some (cond b (Some e) (find is_end es)) ≡ true → (is_some (find is_end es) ≡ true → take_while goes_on (es ++ later) ≡ take_while goes_on es)
        → cond (not (b || is_opening e)) (e ∷ take_while goes_on (es ++ later)) [] ≡ cond (not (b || is_opening e)) (e ∷ take_while goes_on es) []
    at true k more = refl
    at false k more = ap (λ l. cond (not (false || is_opening e)) (e ∷ l) []) (more k)

-- the end of a call, where one more event is an end
or_end : Option Event → Event → Option Event
or_end (Some f) e = Some f
or_end None e = Some e

found_end : (es : List Event) (e : Event) → is_end e ≡ true → find is_end (es ++ e ∷ []) ≡ or_end (find is_end es) e
unfolding or_end
found_end [] e h = ap (λ b. cond b (Some e) None) h
found_end (f ∷ es) e h = at (is_end f) (found_end es e h)
  where
    at : (b : Bool) → find is_end (es ++ e ∷ []) ≡ or_end (find is_end es) e → cond b (Some f) (find is_end (es ++ e ∷ [])) ≡ or_end (cond b (Some f) (find is_end es)) e
    at true k = refl
    at false k = k

some_end : (es : List Event) (e : Event) → is_end e ≡ true → is_some (find is_end (es ++ e ∷ [])) ≡ true
unfolding or_end
some_end es e h = ap (λ o. is_some o) (found_end es e h) ∙ at (find is_end es)
  where
    at : (o : Option Event) → is_some (or_end o e) ≡ true
    at (Some f) = refl
    at None = refl

still_found : (es : List Event) (e : Event) → is_some (find is_end es) ≡ true → is_some (find is_end (es ++ e ∷ [])) ≡ true
still_found es e h = ap (λ o. is_some o) (found_in es (e ∷ []) h) ∙ h

-- ---- events within a call

within_opens : (e : Event) (own : List Event) (end : Option Event) → is_opening e ≡ false → opened_from e e.what own end ≡ []
within_opens e own end h = at e.what h
  where
    at : (w : What) → elim w [ Open o a b r ↦ true | _ ↦ false ] ≡ false → opened_from e w own end ≡ []
    at (Open o a b r) k = cc
    at (Found _ _ _) k = refl
    at Up k = refl
    at (End _) k = refl
    at (Data _ _) k = refl
    at (Setting _ _ _) k = refl
    at (Initial _) k = refl

no_end : (a b : Bool) → (a || b) ≡ false → a ≡ false
no_end true b h = h
no_end false b h = refl

no_opening : (a b : Bool) → (a || b) ≡ false → b ≡ false
no_opening true b h = cc
no_opening false b h = h

within_none : (own : List Event) → AllByRecursion IsWithin own → calls_in own ≡ []
within_none [] h = refl
within_none (e ∷ own) h =
    ap (λ l. l ++ calls_in own) (within_opens e (take_while goes_on own) (find is_end own) (no_opening (is_end e) (is_opening e) h.0)) ∙ within_none own h.1

within_taken : (own : List Event) → AllByRecursion IsWithin own → take_while goes_on own ≡ own
unfolding goes_on
within_taken [] h = refl
within_taken (e ∷ own) h =
    take_while-cons goes_on e own ∙ ap (λ b. cond (not b) (e ∷ take_while goes_on own) []) h.0 ∙ ap (λ l. e ∷ l) (within_taken own h.1)

within_endless : (own : List Event) → AllByRecursion IsWithin own → find is_end own ≡ None
within_endless [] h = refl
within_endless (e ∷ own) h = ap (λ b. cond b (Some e) (find is_end own)) (no_end (is_end e) (is_opening e) h.0) ∙ within_endless own h.1

-- ---- one more event

-- an opening leaves the calls before it as they are, while no end follows
calls-opening : (before : List Event) (o : Event) (later : List Event) → goes_on o ≡ false → find is_end (o ∷ later) ≡ None → calls_in (before ++ o ∷ later) ≡ calls_in before ++ calls_in (o ∷ later)
calls-opening [] o later g h = refl
calls-opening (e ∷ before) o later g h =
    let taken = taken_before before o later g in
    let found = found_before before (o ∷ later) h in
    ap (λ l. opened_from e e.what l (find is_end (before ++ o ∷ later)) ++ calls_in (before ++ o ∷ later)) taken
    ∙ ap (λ x. opened_from e e.what (take_while goes_on before) x ++ calls_in (before ++ o ∷ later)) found
    ∙ ap (λ l. opened_from e e.what (take_while goes_on before) (find is_end before) ++ l) (calls-opening before o later g h)
    ∙ sym (append_assoc (opened_from e e.what (take_while goes_on before) (find is_end before)) (calls_in before) (calls_in (o ∷ later)))

abbrev ending_at : ℕ → ℕ → ℕ → How → Event
ending_at a b n h = record { epoch = a; channel = b; packet = n; what = End h }

-- an end ends all calls that have no end
calls-end : (es : List Event) (a b n : ℕ) (h : How) → calls_in (es ++ ending_at a b n h ∷ []) ≡ map (ended_by n h) (calls_in es)
unfolding or_end goes_on
calls-end [] a b n h = refl
calls-end (e ∷ es) a b n h =
    let f : Event = ending_at a b n h in
    ap (λ l. opened_from e e.what l (find is_end (es ++ f ∷ [])) ++ calls_in (es ++ f ∷ [])) (taken_before es f [] refl)
    ∙ ap (λ x. opened_from e e.what (take_while goes_on es) x ++ calls_in (es ++ f ∷ [])) (found_end es f refl)
    ∙ ap (λ l. opened_from e e.what (take_while goes_on es) (or_end (find is_end es) f) ++ l) (calls-end es a b n h)
    ∙ ap (λ l. l ++ map (ended_by n h) (calls_in es)) (at e.what (find is_end es))
    ∙ sym (map-append (ended_by n h) (opened_from e e.what (take_while goes_on es) (find is_end es)) (calls_in es))
  where
    at : (w : What) (x : Option Event) → opened_from e w (take_while goes_on es) (or_end x (ending_at a b n h)) ≡ map (ended_by n h) (opened_from e w (take_while goes_on es) x)
    at (Open o p q r) (Some f) = refl
    at (Open o p q r) None = refl
    at (Found _ _ _) x = refl
    at Up x = refl
    at (End _) x = refl
    at (Data _ _) x = refl
    at (Setting _ _ _) x = refl
    at (Initial _) x = refl

-- calls that have ended stay as they are, until another is opened
calls-ended : (es : List Event) (e : Event) → AllEnded es → is_opening e ≡ false → calls_in (es ++ e ∷ []) ≡ calls_in es
calls-ended [] e h k = ap (λ l. l ++ []) (within_opens e [] None k)
calls-ended (f ∷ es) e h k =
    ap (λ l. l ++ calls_in (es ++ e ∷ [])) (at f.what h.0)
    ∙ ap (λ l. opened_from f f.what (take_while goes_on es) (find is_end es) ++ l) (calls-ended es e h.1 k)
  where
    at : (w : What) → (elim w [ Open o a b r ↦ true | _ ↦ false ] ≡ true → is_some (find is_end es) ≡ true)
        → opened_from f w (take_while goes_on (es ++ e ∷ [])) (find is_end (es ++ e ∷ [])) ≡ opened_from f w (take_while goes_on es) (find is_end es)
    at (Open o a b r) q =
        ap (λ l. record_from f o a b r l (find is_end (es ++ e ∷ [])) ∷ []) (taken_in es (e ∷ []) (q refl))
        ∙ ap (λ x. record_from f o a b r (take_while goes_on es) x ∷ []) (found_in es (e ∷ []) (q refl))
    at (Found _ _ _) q = refl
    at Up q = refl
    at (End _) q = refl
    at (Data _ _) q = refl
    at (Setting _ _ _) q = refl
    at (Initial _) q = refl

all_ended : (es : List Event) (a b n : ℕ) (h : How) → AllEnded (es ++ ending_at a b n h ∷ [])
all_ended [] a b n h = ((λ k. cc), tt)
all_ended (e ∷ es) a b n h = ((λ k. some_end es (ending_at a b n h) refl), all_ended es a b n h)

still_ended : (es : List Event) (e : Event) → AllEnded es → is_opening e ≡ false → AllEnded (es ++ e ∷ [])
still_ended [] e h k = ((λ q. cc), tt)
still_ended (f ∷ es) e h k = ((λ q. still_found es e (h.0 q)), still_ended es e h.1 k)

-- ---- the calls that have ended come before those that have not

endless : (es : List Event) → find is_end es ≡ None → AllByRecursion (λ c. c.ended ≡ None) (calls_in es)
endless [] h = tt
endless (e ∷ es) h = rest (is_end e) h (λ k. endless es k)
  where
    at : (w : What) → find is_end es ≡ None → AllByRecursion (λ c. c.ended ≡ None) (calls_in es) → AllByRecursion (λ c. c.ended ≡ None) (opened_from e w (take_while goes_on es) (find is_end es) ++ calls_in es)
    at (Open o a b r) k all = (ap (λ x. option_map (λ f. f.packet) x) k, all)
    at (Found _ _ _) k all = all
    at Up k all = all
    at (End _) k all = all
    at (Data _ _) k all = all
    at (Setting _ _ _) k all = all
    at (Initial _) k all = all

    rest : (b : Bool) → cond b (Some e) (find is_end es) ≡ None → (find is_end es ≡ None → AllByRecursion (λ c. c.ended ≡ None) (calls_in es))
        → AllByRecursion (λ c. c.ended ≡ None) (opened_from e e.what (take_while goes_on es) (find is_end es) ++ calls_in es)
    rest true k more = absurd (cc)
    rest false k more = at e.what k (more k)

end_first : (es : List Event) → EndFirst (calls_in es)
end_first [] = tt
end_first (e ∷ es) = at e.what (end_first es)
  where
    none : (x : Option Event) → option_map (λ f. f.packet) x ≡ None → x ≡ None
    none None h = refl
    none (Some f) h = cc

    at : (w : What) → EndFirst (calls_in es) → EndFirst (opened_from e w (take_while goes_on es) (find is_end es) ++ calls_in es)
    at (Open o a b r) h = ((λ k. endless es (none (find is_end es) k)), h)
    at (Found _ _ _) h = h
    at Up h = h
    at (End _) h = h
    at (Data _ _) h = h
    at (Setting _ _ _) h = h
    at (Initial _) h = h

-- ---- what represents the events

all_first : (P : Event → Type 0) (xs ys : List Event) → AllByRecursion P (xs ++ ys) → AllByRecursion P xs
all_first P [] ys h = tt
all_first P (x ∷ xs) ys h = (h.0, all_first P xs ys h.1)

pub all_more : (P : Event → Type 0) (xs : List Event) (e : Event) → AllByRecursion P xs → P e → AllByRecursion P (xs ++ e ∷ [])
all_more P [] e h k = (k, tt)
all_more P (x ∷ xs) e h k = (h.0, all_more P xs e h.1 k)

-- the records, and that of the open call, are all calls
open_calls : (closed : List CallRecord) (c : OpenCall) (epoch channel : ℕ) (es : List Event) → AllByRecursion (IsOf epoch channel) es → (h : IsOpenIn closed c es) → calls_in es ≡ closed ++ call_with c h.own None None ∷ []
unfolding goes_on
open_calls closed c epoch channel es all h =
    let o : Event = opening_of c in
    let none = within_endless h.own h.within in
    let before : List Event = h.before in
    let of_before : AllByRecursion (IsOf epoch channel) before = all_first (IsOf epoch channel) before (o ∷ h.own) (subst (AllByRecursion (IsOf epoch channel)) h.whole all) in
    ap calls_in h.whole
    ∙ calls-opening before o h.own refl none
    ∙ ap (λ l. l ++ calls_in (o ∷ h.own)) (sym (h.earlier ∙ of_one epoch channel before of_before))
    ∙ ap (λ l. closed ++ record_from o c.out c.called c.calling c.reverse (take_while goes_on h.own) (find is_end h.own) ∷ l) (within_none h.own h.within)
    ∙ ap (λ l. closed ++ record_from o c.out c.called c.calling c.reverse l (find is_end h.own) ∷ []) (within_taken h.own h.within)
    ∙ ap (λ x. closed ++ record_from o c.out c.called c.calling c.reverse h.own x ∷ []) none

pub open_calls_are : (closed new : List CallRecord) (c : OpenCall) (epoch channel : ℕ) (es : List Event) → AllByRecursion (IsOf epoch channel) es → IsOpenIn closed c es
    → (r : CallRecord) → ((own : List Event) → Counts c.counts own → r ≡ call_with c own None None) → new ≡ closed ++ r ∷ [] → new ≡ calls_of es
open_calls_are closed new c epoch channel es all h r is step =
    step ∙ ap (λ x. closed ++ x ∷ []) (is h.own h.counts) ∙ sym (open_calls closed c epoch channel es all h) ∙ sym (of_one epoch channel es all)

-- an event that opens none, where no call is open
pub stays_closed : (closed : List CallRecord) (epoch channel : ℕ) (es : List Event) (e : Event) → AllByRecursion (IsOf epoch channel) es → IsOf epoch channel e → IsClosedIn closed es → is_opening e ≡ false
    → IsClosedIn closed (es ++ e ∷ [])
stays_closed closed epoch channel es e all of h k = record {
  earlier =
      h.earlier ∙ of_one epoch channel es all ∙ sym (calls-ended es e h.ended k) ∙ sym (of_one epoch channel (es ++ e ∷ []) (all_more (IsOf epoch channel) es e all of));
  ended = still_ended es e h.ended k;
}

-- the end of the open call
pub ends_open : (closed ended new : List CallRecord) (c : OpenCall) (epoch channel : ℕ) (es : List Event) (a b n : ℕ) (how : How) → AllByRecursion (IsOf epoch channel) es → IsOf epoch channel (ending_at a b n how) → IsOpenIn closed c es
    → (EndFirst closed → ended ≡ map (ended_by n how) closed)
    → (r : CallRecord) → ((own : List Event) → Counts c.counts own → r ≡ call_with c own (Some n) (Some how)) → new ≡ ended ++ r ∷ []
    → IsClosedIn new (es ++ ending_at a b n how ∷ [])
ends_open closed ended new c epoch channel es a b n how all of h last r is step =
    let e : Event = ending_at a b n how in
    let before : List Event = h.before in
    let of_before : AllByRecursion (IsOf epoch channel) before = all_first (IsOf epoch channel) before (opening_of c ∷ h.own) (subst (AllByRecursion (IsOf epoch channel)) h.whole all) in
    let first : EndFirst closed = subst EndFirst (sym (h.earlier ∙ of_one epoch channel before of_before)) (end_first before) in
    let one : List CallRecord = call_with c h.own None None ∷ [] in
    record {
      earlier =
          step
          ∙ ap (λ x. ended ++ x ∷ []) (is h.own h.counts)
          ∙ ap (λ l. l ++ call_with c h.own (Some n) (Some how) ∷ []) (last first)
          ∙ sym (map-append (ended_by n how) closed one)
          ∙ ap (map (ended_by n how)) (sym (open_calls closed c epoch channel es all h))
          ∙ sym (calls-end es a b n how)
          ∙ sym (of_one epoch channel (es ++ e ∷ []) (all_more (IsOf epoch channel) es e all of));
      ended = all_ended es a b n how;
    }

-- ---- results

-- the record of an end of the open call
pub ends_open_at : (closed ended new : List CallRecord) (c : OpenCall) (epoch channel : ℕ) (es : List Event) (e : Event) (n : ℕ) (how : How) → AllByRecursion (IsOf epoch channel) es → IsOf epoch channel e → e.packet ≡ n → e.what ≡ End how → IsOpenIn closed c es
    → (EndFirst closed → ended ≡ map (ended_by n how) closed)
    → (r : CallRecord) → ((own : List Event) → Counts c.counts own → r ≡ call_with c own (Some n) (Some how)) → new ≡ ended ++ r ∷ []
    → IsClosedIn new (es ++ e ∷ [])
ends_open_at closed ended new c epoch channel es e n how all of packet what h last r is step =
    let same : ending_at e.epoch e.channel n how ≡ e = λ j. record { epoch = e.epoch; channel = e.channel; packet = sym packet j; what = sym what j } in
    subst (λ f. IsClosedIn new (es ++ f ∷ [])) same (ends_open closed ended new c epoch channel es e.epoch e.channel n how all (of.0, of.1) h last r is step)

-- where no call is open, an event that opens none changes nothing
pub stays_none : (closed : List CallRecord) (o : Option OpenCall) (epoch channel : ℕ) (es : List Event) (e : Event) → o ≡ None → AllByRecursion (IsOf epoch channel) es → IsOf epoch channel e → HoldsFor closed o es → is_opening e ≡ false
    → HoldsFor closed o (es ++ e ∷ [])
stays_none closed o epoch channel es e none all of h k =
    subst (λ p. HoldsFor closed p es → HoldsFor closed p (es ++ e ∷ [])) (sym none) (λ w. stays_closed closed epoch channel es e all of w k) h

pub end_opens_none : (e : Event) (how : How) → e.what ≡ End how → is_opening e ≡ false
end_opens_none e how is = ap (λ w. elim w [ Open o a b r ↦ true | _ ↦ false ]) is

pub other_within : (e : Event) → ((o : Bool) (a b : List ℕ) (r : Bool) → ¬ (e.what ≡ Open o a b r)) → ((how : How) → ¬ (e.what ≡ End how)) → IsWithin e
other_within e no_open no_end = at e.what refl
  where
    at : (w : What) → e.what ≡ w → (is_end_event w || elim w [ Open o a b r ↦ true | _ ↦ false ]) ≡ false
    at (Open o a b r) is = absurd (no_open o a b r is)
    at (End how) is = absurd (no_end how is)
    at (Found _ _ _) is = refl
    at Up is = refl
    at (Data _ _) is = refl
    at (Setting _ _ _) is = refl
    at (Initial _) is = refl

-- data neither opens nor ends a call, and has one length
pub data_within : (e : Event) (x : Side) (n : ℕ) → e.what ≡ Data x n → IsWithin e
data_within e x n is = ap (λ w. is_end_event w || elim w [ Open o a b r ↦ true | _ ↦ false ]) is

pub data_lengths : (e : Event) (x : Side) (n : ℕ) → e.what ≡ Data x n → segments_of (all_lengths (e ∷ [])) ≡ segments_of (n ∷ [])
data_lengths e x n is = ap (λ w. segments_of (all_lengths (record { epoch = e.epoch; channel = e.channel; packet = e.packet; what = w } ∷ []))) is

pub within_opens_none : (e : Event) → IsWithin e → is_opening e ≡ false
within_opens_none e h = no_opening (is_end e) (is_opening e) h

-- an event within the open call, by what is counted then
pub counted_within : (closed : List CallRecord) (o : Option OpenCall) (c d : OpenCall) (es : List Event) (e : Event) → o ≡ Some c → HoldsFor closed o es → IsWithin e → opening_of d ≡ opening_of c → Adds c.counts d.counts e → IsCountable (es ++ e ∷ [])
    → IsOpenIn closed d (es ++ e ∷ [])
counted_within closed o c d es e is holds k same adds few =
    let h : IsOpenIn closed c es = subst (λ p. HoldsFor closed p es) is holds in
    let front : List Event = h.before ++ opening_of c ∷ [] in
    let parts : es ++ e ∷ [] ≡ front ++ (h.own ++ e ∷ []) =
    ap (λ l. l ++ e ∷ []) h.whole ∙ append_assoc h.before (opening_of c ∷ h.own) (e ∷ []) ∙ sym (append_assoc h.before (opening_of c ∷ []) (h.own ++ e ∷ [])) in
    let own_few : IsCountable (h.own ++ e ∷ []) = countable_part front (h.own ++ e ∷ []) (subst IsCountable parts few) in
    record {
      before = h.before;
      own = h.own ++ e ∷ [];
      whole = ap (λ l. l ++ e ∷ []) h.whole ∙ append_assoc h.before (opening_of c ∷ h.own) (e ∷ []) ∙ ap (λ f. h.before ++ f ∷ (h.own ++ e ∷ [])) (sym same);
      within = all_more IsWithin h.own e h.within k;
      earlier = h.earlier;
      counts = counts_more c.counts d.counts h.own e h.counts adds own_few;
    }

-- ---- the end of the calls that have none

all_at : (P : CallRecord → Type 0) (cs : List CallRecord) (j : ℕ) (d : CallRecord) → AllByRecursion P cs → j < length cs → P (get_or cs j d)
all_at P [] j d h lt = absurd (omega arith)
all_at P (c ∷ cs) zero d h lt = h.0
all_at P (c ∷ cs) (suc j) d h lt = all_at P cs j d h.1 (omega arith)

ended_prefix : (n : ℕ) (how : How) (cs : List CallRecord) (j : ℕ) (d : CallRecord) → EndFirst cs → j < length cs → is_some (get_or cs j d).ended ≡ true → map (ended_by n how) (take (suc j) cs) ≡ take (suc j) cs
ended_prefix n how [] j d h lt k = absurd (omega arith)
ended_prefix n how (c ∷ cs) zero d h lt k = ap (λ x. x ∷ []) (at c.ended k)
  where
    at : (o : Option ℕ) → is_some o ≡ true → elim o [ Some m ↦ c | None ↦ record c { ended = Some n; how = Some how } ] ≡ c
    at (Some m) q = refl
    at None q = absurd (cc)
ended_prefix n how (c ∷ cs) (suc j) d h lt k =
    let below : j < length cs = omega arith in
    ap (λ x. x ∷ map (ended_by n how) (take (suc j) cs)) (at c.ended refl (λ e. ap (λ o. is_some o) (all_at (λ x. x.ended ≡ None) cs j d (h.0 e) below)))
    ∙ ap (λ l. c ∷ l) (ended_prefix n how cs j d h.1 below k)
  where
    at : (o : Option ℕ) → c.ended ≡ o → (c.ended ≡ None → is_some (get_or cs j d).ended ≡ false) → elim o [ Some m ↦ c | None ↦ record c { ended = Some n; how = Some how } ] ≡ c
    at (Some m) e q = refl
    at None e q = let none = q e in absurd (cc)

-- the calls before one that has ended have ended
pub ended_already : (n : ℕ) (how : How) (old now : List CallRecord) (i : ℕ) (x : CallRecord) → 0 < i → i ≤ length old → x ≡ get_or now (i - 1) x → is_some x.ended ≡ true
    → take i now ≡ take i old → drop i now ≡ map (ended_by n how) (drop i old) → length now ≡ length old → EndFirst old → now ≡ map (ended_by n how) old
ended_already n how old now i x some le is has before behind same first =
    let f : CallRecord → CallRecord = ended_by n how in
    let j : ℕ = i - 1 in
    let i_is : i ≡ suc j = omega arith in
    let seen : get_or now j x ≡ get_or old j x = sym (get_or-take i now j x (omega arith)) ∙ ap (λ l. get_or l j x) before ∙ get_or-take i old j x (omega arith) in
    let old_has : is_some (get_or old j x).ended ≡ true = ap (λ c. is_some c.ended) (sym (is ∙ seen)) ∙ has in
    let prefix : map f (take i old) ≡ take i old = subst (λ k. map f (take k old) ≡ take k old) (sym i_is) (ended_prefix n how old j x first (omega arith) old_has) in
    sym (take-append-drop i now)
    ∙ ap (λ l. l ++ drop i now) (before ∙ sym prefix)
    ∙ ap (λ l. map f (take i old) ++ l) behind
    ∙ sym (map-append f (take i old) (drop i old))
    ∙ ap (map f) (take-append-drop i old)
