-- The calls of many places: one event more, and one record less.
use Rattle.std.proofs.Common.{◌≡◌, ◌∙◌, refl, sym, ap, subst, ℕ, ◌+◌, ◌<◌, ◌≤◌, ◌^◌, ◌==◌, ◌&&◌, Bool, true, false, cond, List, [], ◌∷◌, ◌++◌, length, map, sum, Option, Some, None, Result, Ok, Err, if◌then◌else◌, arith, append_assoc, append-nil, length-append, reverse}
use Rattle.std.proofs.Common.{Less, Equal, Greater}
use Rattle.std.specs.Prelude.{OnOk}
use Rattle.std.specs.List.{filter, cons_option}
use Rattle.std.specs.BTreeMap.{BTreeMap, get, is_at}
use Rattle.std.specs.Map.{lookup}
use Rattle.std.specs.Ordering.{ordering_then, nat_cmp, is_eq, MatchOrdering}
use Rattle.std.specs.declared.cmp.Ordering.{Ordering}
use Rattle.std.specs.Cmp.{ranks}
use Rattle.std.proofs.lemmas.Bool.Decides.{nat_tests}
use Rattle.std.proofs.lemmas.List.{reverse-append}
use Rattle.std.proofs.lemmas.List.Elements.{filter-append}
use Rattle.std.proofs.lemmas.List.Sums.{sum_by-cons}
use Rattle.line_model.specs.declared.event.What.{What}
use Rattle.line_model.specs.declared.event.What.TheVariants.{Found, Open, Up, End, Data, Setting, Initial}
use Rattle.line_model.specs.declared.event.Event.{Event}
use Rattle.line_model.specs.basics.Records.{CallRecord}
use Rattle.line_model.specs.observer.Calls.{is_alongside, all_lengths, calls_of, record_of}
use Rattle.call_accounts.specs.declared.so_far.CallsSoFar.{CallsSoFar}
use Rattle.call_accounts.specs.declared.call.Places.{Places}
use Rattle.call_accounts.specs.Counted.{IsCountable}
use Rattle.call_accounts.specs.SoFar.{HoldsFor, IsOf, Represents, HasCalls, HasCallsBy}
use Rattle.call_accounts.specs.declared.so_far.OpenCall.{OpenCall}
use Rattle.call_accounts.specs.Places.{AreAdded, AreLeft, IsFound, IsKept, calls_at, own_calls, own_events, place_of, place_order}
use Rattle.call_accounts.proofs.SoFarLemmas.{record_along}
use Rattle.line_model.proofs.Merged.{filter_twice}

-- ---- places

same_place : (a b c d : ℕ) → is_eq (ordering_then (nat_cmp a c) (nat_cmp b d)) ≡ (a == c && b == d)
same_place a b c d = at (nat_cmp a c) (nat_cmp b d) (ranks a c) (ranks b d)
  where
    at : (o p : Ordering) → MatchOrdering o (a < c) (a ≡ c) (c < a) → MatchOrdering p (b < d) (b ≡ d) (d < b) → is_eq (ordering_then o p) ≡ (a == c && b == d)
    at Less p h k = let e : (a == c) ≡ false = grind (arith, nat_tests) in ap (λ x. x && (b == d)) (sym e)
    at Greater p h k = let e : (a == c) ≡ false = grind (arith, nat_tests) in ap (λ x. x && (b == d)) (sym e)
    at Equal Less h k = let e : (a == c) ≡ true = grind (arith, nat_tests) in let f : (b == d) ≡ false = grind (arith, nat_tests) in sym (ap (λ x. x && (b == d)) e ∙ f)
    at Equal Equal h k = let e : (a == c) ≡ true = grind (arith, nat_tests) in let f : (b == d) ≡ true = grind (arith, nat_tests) in sym (ap (λ x. x && (b == d)) e ∙ f)
    at Equal Greater h k = let e : (a == c) ≡ true = grind (arith, nat_tests) in let f : (b == d) ≡ false = grind (arith, nat_tests) in sym (ap (λ x. x && (b == d)) e ∙ f)

pub both : (a b c d : ℕ) → (a == c && b == d) ≡ true → (a ≡ c) × (b ≡ d)
both a b c d h = at (a == c) refl h
  where
    at : (x : Bool) → (a == c) ≡ x → (x && (b == d)) ≡ true → (a ≡ c) × (b ≡ d)
    at true e k = (grind (arith, nat_tests), grind (arith, nat_tests))
    at false e k = absurd (cc)

pub apart_from : (a b c d : ℕ) → ((a ≡ c) × (b ≡ d) → ⊥) → (a == c && b == d) ≡ false
apart_from a b c d h = at (a == c && b == d) refl
  where
    at : (x : Bool) → (a == c && b == d) ≡ x → (a == c && b == d) ≡ false
    at true e = absurd (h (both a b c d e))
    at false e = e

same_sym : (a b : ℕ) → (a == b) ≡ (b == a)
same_sym a b = grind (arith, nat_tests)

itself : (a b : ℕ) → (a == a && b == b) ≡ true
itself a b =
    let one : (a == a) ≡ true = grind (arith, nat_tests) in
    let two : (b == b) ≡ true = grind (arith, nat_tests) in
    ap (λ x. x && (b == b)) one ∙ two

flipped : (a b c d : ℕ) → (a == c && b == d) ≡ (c == a && d == b)
flipped a b c d = λ j. same_sym a c j && same_sym b d j

-- the current place goes into the map, and another comes out
pub current : {V : Type 0} → (a b epoch channel : ℕ) (here : V) (old removed new : BTreeMap (ℕ × ℕ) V)
    → ((q : ℕ × ℕ) → get place_order removed q ≡ cond (is_at (place_order (epoch, channel)) q) None (get place_order old q))
    → ((q : ℕ × ℕ) → get place_order new q ≡ cond (is_at (place_order (a, b)) q) (Some here) (get place_order removed q))
    → (e c : ℕ) → (epoch == e && channel == c) ≡ false
    → get place_order new (e, c) ≡ (if a == e && b == c then Some here else get place_order old (e, c))
current a b epoch channel here old removed new takes puts e c other =
    puts (e, c)
    ∙ ap (λ x. cond x (Some here) (get place_order removed (e, c))) (same_place a b e c)
    ∙ ap (λ o. cond (a == e && b == c) (Some here) o) (takes (e, c) ∙ ap (λ x. cond x None (get place_order old (e, c))) (same_place epoch channel e c ∙ other))

-- what is kept of each place, where the current calls became others
in_hand : {A X : Type 0} → (P : ℕ → ℕ → CallsSoFar A → List X → Type 0) (old t : Places A) (after : CallsSoFar A) (own own' : ℕ → ℕ → List X) (epoch channel : ℕ)
    → t.epoch ≡ epoch → t.channel ≡ channel
    → ((e c : ℕ) → (epoch == e && channel == c) ≡ false → calls_at t e c ≡ calls_at old e c)
    → ((e c : ℕ) → IsKept (P e c) (calls_at old e c) (own e c))
    → P epoch channel after (own' epoch channel)
    → ((e c : ℕ) → (epoch == e && channel == c) ≡ false → own' e c ≡ own e c)
    → (e c : ℕ) → IsKept (P e c) (calls_at {A = A} (record { epoch = t.epoch; channel = t.channel; here = after; others = t.others }) e c) (own' e c)
in_hand {A} {X} P old t after own own' epoch channel is_epoch is_channel others kept here same e c = at (epoch == e && channel == c) refl
  where
    now : Places A
    now = record { epoch = t.epoch; channel = t.channel; here = after; others = t.others }

    hand : (t.epoch == e && t.channel == c) ≡ (epoch == e && channel == c)
    hand = λ j. is_epoch j == e && is_channel j == c

    at : (b : Bool) → (epoch == e && channel == c) ≡ b → IsKept (P e c) (if t.epoch == e && t.channel == c then Some after else get place_order t.others (e, c)) (own' e c)
    at true is =
        let w = both epoch channel e c is in
        subst (λ b. IsKept (P e c) (if b then Some after else get place_order t.others (e, c)) (own' e c)) (sym (hand ∙ is))
        (subst (λ x. P x c after (own' x c)) w.0 (subst (λ x. P epoch x after (own' epoch x)) w.1 here))
    at false is =
        let two : calls_at t e c ≡ get place_order t.others (e, c) = ap (λ b. if b then Some t.here else get place_order t.others (e, c)) (hand ∙ is) in
        subst (λ b. IsKept (P e c) (if b then Some after else get place_order t.others (e, c)) (own' e c)) (sym (hand ∙ is))
        (subst (λ o. IsKept (P e c) o (own' e c)) (sym (others e c is) ∙ two) (subst (IsKept (P e c) (calls_at old e c)) (sym (same e c is)) (kept e c)))

-- ---- one event more

pub none_added : {A : Type 0} → (epoch channel : ℕ) (here : CallsSoFar A) (others : BTreeMap (ℕ × ℕ) (CallsSoFar A)) → ((e c : ℕ) → Represents here e c []) → others.entries ≡ []
    → AreAdded {A = A} (record { epoch = epoch; channel = channel; here = here; others = others }) []
none_added epoch channel first others here empty e c = at (epoch == e && channel == c)
  where
    at : (b : Bool) → IsKept (λ s. Represents s e c) (if b then Some first else get place_order others (e, c)) []
    at true = here e c
    at false = subst (λ es. IsKept (λ s. Represents s e c) (lookup (is_at (place_order (e, c))) es) []) (sym empty) refl

record AddsUp (F : List Event → ℕ) (w : Event → ℕ) : Type 0 where
  nil : F [] ≡ 0
  cons : (e : Event) (m : List Event) → F (e ∷ m) ≡ w e + F m

less_filtered : (F : List Event → ℕ) (w : Event → ℕ) → AddsUp F w → (t : Event → Bool) (m : List Event) → F (filter t m) ≤ F m
less_filtered F w a t [] = omega arith
less_filtered F w a t (e ∷ m) = at (t e) (less_filtered F w a t m)
  where
    at : (b : Bool) → F (filter t m) ≤ F m → F (cond b (e ∷ filter t m) (filter t m)) ≤ F (e ∷ m)
    at true h = omega (arith, a.cons e m, a.cons e (filter t m))
    at false h = omega (arith, a.cons e m)

less_before : (F : List Event → ℕ) (w : Event → ℕ) → AddsUp F w → (m more : List Event) → F m ≤ F (m ++ more)
less_before F w a [] more = omega (arith, a.nil)
less_before F w a (e ∷ m) more = omega (arith, a.cons e m, a.cons e (m ++ more), less_before F w a m more)

abbrev data_at : What → Option ℕ
data_at w = elim w [ Data y n ↦ Some n | _ ↦ None ]

sum-option : (o : Option ℕ) (ns : List ℕ) → sum (cons_option o ns) ≡ sum (cons_option o []) + sum ns
sum-option None ns = omega arith
sum-option (Some n) ns = omega (arith, sum_by-cons (λ (k : ℕ). k) n ns, sum_by-cons (λ (k : ℕ). k) n [])

length-option : (o : Option ℕ) (ns : List ℕ) → length (cons_option o ns) ≡ length (cons_option o []) + length ns
length-option None ns = omega arith
length-option (Some n) ns = omega arith

packets_add : AddsUp (λ m. length (all_lengths m)) (λ f. length (all_lengths (f ∷ [])))
packets_add = record { nil = refl; cons = λ f m. length-option (data_at f.what) (all_lengths m) }

octets_add : AddsUp (λ m. sum (all_lengths m)) (λ f. sum (all_lengths (f ∷ [])))
octets_add = record { nil = refl; cons = λ f m. sum-option (data_at f.what) (all_lengths m) }

countable_filtered : (t : Event → Bool) (es : List Event) → IsCountable es → IsCountable (filter t es)
countable_filtered t es few = record {
  packets = omega (arith, few.packets, less_filtered (λ m. length (all_lengths m)) (λ f. length (all_lengths (f ∷ []))) packets_add t es);
  octets = omega (arith, few.octets, less_filtered (λ m. sum (all_lengths m)) (λ f. sum (all_lengths (f ∷ []))) octets_add t es);
}

pub countable_before : (es more : List Event) → IsCountable (es ++ more) → IsCountable es
countable_before es more few = record {
  packets = omega (arith, few.packets, less_before (λ m. length (all_lengths m)) (λ f. length (all_lengths (f ∷ []))) packets_add es more);
  octets = omega (arith, few.octets, less_before (λ m. sum (all_lengths m)) (λ f. sum (all_lengths (f ∷ []))) octets_add es more);
}

lengths_few : (es : List Event) → length (all_lengths es) ≤ length es
lengths_few [] = omega arith
lengths_few (e ∷ es) = at (data_at e.what) (lengths_few es)
  where
    at : (o : Option ℕ) → length (all_lengths es) ≤ length es → length (cons_option o (all_lengths es)) ≤ length (e ∷ es)
    at None h = omega arith
    at (Some n) h = omega arith

pub all_countable : (es : List Event) → length es ≤ 2 ^ 63 → sum (all_lengths es) ≤ 2 ^ 63 → IsCountable es
all_countable es short few = record { packets = omega (arith, lengths_few es, short); octets = few }

own_more : (e c : ℕ) (es : List Event) (v : Event) → own_events e c (es ++ v ∷ []) ≡ own_events e c es ++ cond (e == v.epoch && c == v.channel) (v ∷ []) []
own_more e c es v = filter-append (λ f. e == f.epoch && c == f.channel) es (v ∷ [])

-- an event is added at its place
pub added_more : {A : Type 0} → (old t : Places A) (after : CallsSoFar A) (es : List Event) (v : Event)
    → t.epoch ≡ v.epoch → t.channel ≡ v.channel → IsFound (calls_at old v.epoch v.channel) t.here
    → ((e c : ℕ) → (v.epoch == e && v.channel == c) ≡ false → calls_at t e c ≡ calls_at old e c)
    → ((e c : ℕ) (own : List Event) → Represents t.here e c own → IsOf e c v → IsCountable (own ++ v ∷ []) → Represents after e c (own ++ v ∷ []))
    → AreAdded old es → IsCountable (es ++ v ∷ [])
    → AreAdded {A = A} (record { epoch = t.epoch; channel = t.channel; here = after; others = t.others }) (es ++ v ∷ [])
added_more {A} old t after es v epoch channel found others adds_at kept few =
    in_hand (λ e c s own. Represents s e c own) old t after (λ e c. own_events e c es) (λ e c. own_events e c (es ++ v ∷ [])) v.epoch v.channel epoch channel others kept
    (subst (Represents after v.epoch v.channel) (sym here_more) (adds_at v.epoch v.channel (own_events v.epoch v.channel es) (before (calls_at old v.epoch v.channel) (kept v.epoch v.channel) found) (refl, refl) few_here))
    (λ e c other. own_more e c es v ∙ ap (λ b. own_events e c es ++ cond b (v ∷ []) []) (flipped e c v.epoch v.channel ∙ other) ∙ append-nil (own_events e c es))
  where
    here_more : own_events v.epoch v.channel (es ++ v ∷ []) ≡ own_events v.epoch v.channel es ++ v ∷ []
    here_more = own_more v.epoch v.channel es v ∙ ap (λ b. own_events v.epoch v.channel es ++ cond b (v ∷ []) []) (itself v.epoch v.channel)

    few_here : IsCountable (own_events v.epoch v.channel es ++ v ∷ [])
    few_here = subst IsCountable here_more (countable_filtered (λ f. v.epoch == f.epoch && v.channel == f.channel) (es ++ v ∷ []) few)

    before : (o : Option (CallsSoFar A)) → IsKept (λ s. Represents s v.epoch v.channel) o (own_events v.epoch v.channel es) → IsFound o t.here → Represents t.here v.epoch v.channel (own_events v.epoch v.channel es)
    before None none fresh = subst (Represents t.here v.epoch v.channel) (sym none) (fresh v.epoch v.channel)
    before (Some s) represented same = subst (λ x. Represents x v.epoch v.channel (own_events v.epoch v.channel es)) (sym same) represented

-- ---- the records of each place

-- a call has the events of its place alone
record_alone : (v : Event) (o : Bool) (a b : List ℕ) (r : Bool) (es : List Event) → record_of v o a b r es ≡ record_of v o a b r (own_events v.epoch v.channel es)
record_alone v o a b r es = record_along v o a b r es (own_events v.epoch v.channel es) (sym (filter_twice (is_alongside v) es))

-- the calls of a place are those of its events
pub calls_of_place : (e c : ℕ) (es : List Event) → own_calls e c (calls_of es) ≡ calls_of (own_events e c es)
calls_of_place e c [] = refl
calls_of_place e c (v ∷ es) = by_place (e == v.epoch && c == v.channel) refl (calls_of_place e c es)
  where
    own : List Event
    own = own_events e c es

    here : (w : What) → (e == v.epoch && c == v.channel) ≡ true → own_calls e c (calls_of es) ≡ calls_of own
        → own_calls e c (elim w [ Open o a b r ↦ record_of v o a b r es ∷ calls_of es | _ ↦ calls_of es ]) ≡ elim w [ Open o a b r ↦ record_of v o a b r own ∷ calls_of own | _ ↦ calls_of own ]
    here (Open o a b r) is later =
        let w = both e c v.epoch v.channel is in
        let epoch = sym w.0 in
        let channel = sym w.1 in
        ap (λ x. cond x (record_of v o a b r es ∷ own_calls e c (calls_of es)) (own_calls e c (calls_of es))) is
        ∙ ap (λ l. record_of v o a b r es ∷ l) later
        ∙ ap (λ x. x ∷ calls_of own) (record_alone v o a b r es ∙ (λ j. record_of v o a b r (own_events (epoch j) (channel j) es)))
    here (Found _ _ _) is later = later
    here Up is later = later
    here (End _) is later = later
    here (Data _ _) is later = later
    here (Setting _ _ _) is later = later
    here (Initial _) is later = later

    elsewhere : (w : What) → (e == v.epoch && c == v.channel) ≡ false → own_calls e c (calls_of es) ≡ calls_of own
        → own_calls e c (elim w [ Open o a b r ↦ record_of v o a b r es ∷ calls_of es | _ ↦ calls_of es ]) ≡ calls_of own
    elsewhere (Open o a b r) is later = ap (λ x. cond x (record_of v o a b r es ∷ own_calls e c (calls_of es)) (own_calls e c (calls_of es))) is ∙ later
    elsewhere (Found _ _ _) is later = later
    elsewhere Up is later = later
    elsewhere (End _) is later = later
    elsewhere (Data _ _) is later = later
    elsewhere (Setting _ _ _) is later = later
    elsewhere (Initial _) is later = later

    by_place : (b : Bool) → (e == v.epoch && c == v.channel) ≡ b → own_calls e c (calls_of es) ≡ calls_of own
        → own_calls e c (calls_of (v ∷ es)) ≡ calls_of (cond (e == v.epoch && c == v.channel) (v ∷ own) own)
    by_place true is later = here v.what is later ∙ ap (λ b. calls_of (cond b (v ∷ own) own)) (sym is)
    by_place false is later = elsewhere v.what is later ∙ ap (λ b. calls_of (cond b (v ∷ own) own)) (sym is)

-- where a call is opened by an event, if one is
abbrev pub opening_place : Event → What → List (ℕ × ℕ)
opening_place v w = elim w [ Open o a b r ↦ (v.epoch, v.channel) ∷ [] | _ ↦ [] ]

pub places_more : (es : List Event) (v : Event) → map place_of (calls_of (es ++ v ∷ [])) ≡ map place_of (calls_of es) ++ opening_place v v.what
places_more [] v = at v.what
  where
    at : (w : What) → map place_of (elim w [ Open o a b r ↦ record_of v o a b r [] ∷ [] | _ ↦ [] ]) ≡ opening_place v w
    at (Open _ _ _ _) = refl
    at (Found _ _ _) = refl
    at Up = refl
    at (End _) = refl
    at (Data _ _) = refl
    at (Setting _ _ _) = refl
    at (Initial _) = refl
places_more (x ∷ es) v = at x.what (places_more es v)
  where
    at : (w : What) → map place_of (calls_of (es ++ v ∷ [])) ≡ map place_of (calls_of es) ++ opening_place v v.what
        → map place_of (elim w [ Open o a b r ↦ record_of x o a b r (es ++ v ∷ []) ∷ calls_of (es ++ v ∷ []) | _ ↦ calls_of (es ++ v ∷ []) ])
        ≡ map place_of (elim w [ Open o a b r ↦ record_of x o a b r es ∷ calls_of es | _ ↦ calls_of es ]) ++ opening_place v v.what
    at (Open _ _ _ _) h = ap (λ l. (x.epoch, x.channel) ∷ l) h
    at (Found _ _ _) h = h
    at Up h = h
    at (End _) h = h
    at (Data _ _) h = h
    at (Setting _ _ _) h = h
    at (Initial _) h = h

pub opens_here : (v : Event) (o : Bool) (a b : List ℕ) (r : Bool) → v.what ≡ Open o a b r → opening_place v v.what ≡ (v.epoch, v.channel) ∷ []
opens_here v o a b r is = ap (opening_place v) is

pub opens_none : (v : Event) → ((o : Bool) (a b : List ℕ) (r : Bool) → v.what ≡ Open o a b r → ⊥) → opening_place v v.what ≡ []
opens_none v none = at v.what refl
  where
    at : (w : What) → v.what ≡ w → opening_place v w ≡ []
    at (Open o a b r) is = absurd (none o a b r is)
    at (Found _ _ _) is = refl
    at Up is = refl
    at (End _) is = refl
    at (Data _ _) is = refl
    at (Setting _ _ _) is = refl
    at (Initial _) is = refl

-- what represents the events of a channel has their calls
has_calls_of : {A : Type 0} → (s : CallsSoFar A) (e c : ℕ) (es : List Event) → Represents s e c es → HasCalls s (calls_of es)
has_calls_of s e c es h = at s.call h.holds
  where
    at : (o : Option OpenCall) → HoldsFor s.closed.items o es → HasCallsBy s.closed.items o (calls_of es)
    at None holds = holds.earlier
    at (Some x) holds = (e, c, es, h.of_channel, holds, refl)

-- all that were added are left
pub added_left : {A : Type 0} → (t : Places A) (es : List Event) → AreAdded t es → AreLeft t (calls_of es)
added_left {A} t es holds_at e c = subst (IsKept HasCalls (calls_at t e c)) (sym (calls_of_place e c es)) (at (calls_at t e c) (holds_at e c))
  where
    at : (o : Option (CallsSoFar A)) → IsKept (λ s. Represents s e c) o (own_events e c es) → IsKept HasCalls o (calls_of (own_events e c es))
    at None none = ap calls_of none
    at (Some s) represented = has_calls_of s e c (own_events e c es) represented

-- ---- one record less

not_empty : {X : Type 0} → (xs : List X) (x : X) → xs ++ x ∷ [] ≡ [] → ⊥
not_empty xs x h = absurd (omega (arith, ap (λ (l : List _). length l) h, length-append xs (x ∷ [])))

own_less : (e c : ℕ) (cs : List CallRecord) (r : CallRecord) → own_calls e c (cs ++ r ∷ []) ≡ own_calls e c cs ++ cond (e == r.epoch && c == r.channel) (r ∷ []) []
own_less e c cs r = filter-append (λ x. e == x.epoch && c == x.channel) cs (r ∷ [])

own_last : (cs : List CallRecord) (r : CallRecord) → own_calls r.epoch r.channel (cs ++ r ∷ []) ≡ own_calls r.epoch r.channel cs ++ r ∷ []
own_last cs r = own_less r.epoch r.channel cs r ∙ ap (λ b. own_calls r.epoch r.channel cs ++ cond b (r ∷ []) []) (itself r.epoch r.channel)

-- the calls that are found at the place of the last record have it last
pub last_call_of : {A : Type 0} → (old : Places A) (here : CallsSoFar A) (cs : List CallRecord) (r : CallRecord) → AreLeft old (cs ++ r ∷ []) → IsFound (calls_at old r.epoch r.channel) here
    → HasCalls here (own_calls r.epoch r.channel cs ++ r ∷ [])
last_call_of {A} old here cs r left found = at (calls_at old r.epoch r.channel) (subst (IsKept HasCalls (calls_at old r.epoch r.channel)) (own_last cs r) (left r.epoch r.channel)) found
  where
    at : (o : Option (CallsSoFar A)) → IsKept HasCalls o (own_calls r.epoch r.channel cs ++ r ∷ []) → IsFound o here → HasCalls here (own_calls r.epoch r.channel cs ++ r ∷ [])
    at None none f = absurd (not_empty (own_calls r.epoch r.channel cs) r none)
    at (Some s) has_calls same = subst (λ x. HasCalls x (own_calls r.epoch r.channel cs ++ r ∷ [])) (sym same) has_calls

pub one_less : {A : Type 0} → (old t : Places A) (after : CallsSoFar A) (cs : List CallRecord) (r : CallRecord) → t.epoch ≡ r.epoch → t.channel ≡ r.channel
    → ((e c : ℕ) → (r.epoch == e && r.channel == c) ≡ false → calls_at t e c ≡ calls_at old e c)
    → AreLeft old (cs ++ r ∷ []) → HasCalls after (own_calls r.epoch r.channel cs)
    → AreLeft {A = A} (record { epoch = t.epoch; channel = t.channel; here = after; others = t.others }) cs
one_less {A} old t after cs r epoch channel others left has_calls =
    in_hand (λ e c s own. HasCalls s own) old t after (λ e c. own_calls e c (cs ++ r ∷ [])) (λ e c. own_calls e c cs) r.epoch r.channel epoch channel others left has_calls
    (λ e c other. sym (own_less e c cs r ∙ ap (λ b. own_calls e c cs ++ cond b (r ∷ []) []) (flipped e c r.epoch r.channel ∙ other) ∙ append-nil (own_calls e c cs)))

-- the last place is that of the last record
parted : (front : List CallRecord) (places : List (ℕ × ℕ)) (place : ℕ × ℕ) → places ++ place ∷ [] ≡ map place_of front
    → (before : List CallRecord) × (r : CallRecord) × (front ≡ before ++ r ∷ []) × (places ≡ map place_of before) × (place ≡ place_of r)
parted [] places place h = absurd (not_empty places place h)
parted (x ∷ []) [] place h = ([], x, refl, refl, cc)
parted (x ∷ []) (p ∷ places) place h = absurd (not_empty places place (let tail : places ++ place ∷ [] ≡ [] = cc in tail))
parted (x ∷ y ∷ front) [] place h = absurd (let tail : [] ≡ place_of y ∷ map place_of front = cc in cc)
parted (x ∷ y ∷ front) (p ∷ places) place h =
    let head : p ≡ place_of x = cc in
    let tail : places ++ place ∷ [] ≡ map place_of (y ∷ front) = cc in
    let later = parted (y ∷ front) places place tail in
    let rest = later.3 in
    (x ∷ later.0, later.1, ap (λ l. x ∷ l) later.2, (λ j. head j ∷ rest j), later.4)

-- some first records are left, and the others were removed, the last first
abbrev pub IsParted : {A : Type 0} → Places A → (openings : List (ℕ × ℕ)) → (taken cs : List CallRecord) → Type 0
IsParted t openings taken cs = (front : List CallRecord) × (front ++ reverse taken ≡ cs) × (openings ≡ map place_of front) × AreLeft t front

pub taken_back : {A : Type 0} → (old new : Places A) (openings : List (ℕ × ℕ)) (epoch channel : ℕ) (taken cs : List CallRecord) (answer : Option CallRecord) → IsParted old (openings ++ (epoch, channel) ∷ []) taken cs
    → ((before : List CallRecord) (r : CallRecord) → AreLeft old (before ++ r ∷ []) → r.epoch ≡ epoch → r.channel ≡ channel → answer ≡ Some r)
    → ((before : List CallRecord) (r : CallRecord) → AreLeft old (before ++ r ∷ []) → r.epoch ≡ epoch → r.channel ≡ channel → AreLeft new before)
    → (r : CallRecord) × (answer ≡ Some r) × IsParted new openings (taken ++ r ∷ []) cs
taken_back old new openings epoch channel taken cs answer parts found_at left =
    let p = parted parts.0 openings (epoch, channel) parts.2 in
    let before = p.0 in
    let r = p.1 in
    let here = subst (λ l. AreLeft old l) p.2 parts.3 in
    let is_epoch : r.epoch ≡ epoch = ap (λ x. x.0) (sym p.4) in
    let is_channel : r.channel ≡ channel = ap (λ x. x.1) (sym p.4) in
    let whole : before ++ reverse (taken ++ r ∷ []) ≡ cs =
    ap (λ l. before ++ l) (reverse-append taken (r ∷ [])) ∙ sym (append_assoc before (r ∷ []) (reverse taken)) ∙ ap (λ l. l ++ reverse taken) (sym p.2) ∙ parts.1 in
    (r, found_at before r here is_epoch is_channel, (before, whole, p.3, left before r here is_epoch is_channel))

-- what holds where a call has answered `Ok` may use that it has
pub on_result : {T E : Type 0} (r : Result T E) {Q : Type 0} → (((X : Type 0) → OnOk r X → X) → Q) → OnOk r Q
on_result (Ok x) f = f (λ X h. h)
on_result (Err e) f = tt
