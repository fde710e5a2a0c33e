-- Which calls are open, with one more event.
use Rattle.std.proofs.Common.{◌≡◌, ◌∙◌, sym, ap, refl, ℕ, ◌+◌, ◌≤◌, Bool, true, false, true≢false, not, ◌&&◌, ◌||◌, cond, eqb, List, [], ◌∷◌, ◌++◌, length, Some, None, arith}
use Rattle.std.specs.Prelude.{is_none}
use Rattle.std.specs.List.{enumerate_from, filter, find, list_any}
use Rattle.std.specs.Option.{option_map}
use Rattle.std.proofs.lemmas.Bool.{ne_eqb, eq-eqb, eqb-true, eqb-false}
use Rattle.line_model.specs.declared.event.Event.{Event}
use Rattle.line_model.specs.declared.event.What.{What}
use Rattle.line_model.specs.declared.event.What.TheVariants.{Open}
use Rattle.line_model.specs.basics.Records.{CallRecord}
use Rattle.line_model.specs.observer.Calls.{calls_of, end_of, is_alongside, is_end, is_opening, record_of}
use Rattle.line_model.proofs.Pieces.{filter_append}
use Rattle.annotated_trace.specs.Rows.{is_open_on}

-- whether the call of a number is open, where the calls count from another number on
abbrev pub open_from : (m n e k : ℕ) → List CallRecord → Bool
open_from m n e k cs = list_any (λ (q : ℕ × CallRecord). eqb q.0 n && is_open_on e k q.1) (enumerate_from m cs)

-- an event is of a logical channel in an epoch
abbrev pub on : (e k : ℕ) → Event → Bool
on e k f = eqb f.epoch e && eqb f.channel k

-- ---- the first event

-- what opens a call comes first among its records
pub record OpensFirst (f : Event) (later : List Event) : Type 0 where
  pub call : CallRecord
  pub calls : calls_of (f ∷ later) ≡ call ∷ calls_of later
  pub epoch : call.epoch ≡ f.epoch
  pub channel : call.channel ≡ f.channel
  pub ended : call.ended ≡ option_map (λ g. g.packet) (end_of f later)

opens_by : (e k p : ℕ) (w : What) (later : List Event) → is_opening (record { epoch = e; channel = k; packet = p; what = w }) ≡ true → OpensFirst (record { epoch = e; channel = k; packet = p; what = w }) later
opens_by e k p (Open out called calling reverse_charging) later h = record {
  call = record_of (record { epoch = e; channel = k; packet = p; what = Open out called calling reverse_charging }) out called calling reverse_charging later;
  calls = refl;
  epoch = refl;
  channel = refl;
  ended = refl;
}
opens_by e k p _ later h = absurd (true≢false (sym h))

pub opens_first : (f : Event) (later : List Event) → is_opening f ≡ true → OpensFirst f later
opens_first f later h = opens_by f.epoch f.channel f.packet f.what later h

passes_by : (e k p : ℕ) (w : What) (later : List Event) → is_opening (record { epoch = e; channel = k; packet = p; what = w }) ≡ false → calls_of (record { epoch = e; channel = k; packet = p; what = w } ∷ later) ≡ calls_of later
passes_by e k p (Open out called calling reverse_charging) later h = absurd (true≢false h)
passes_by e k p _ later h = refl

pub passes_first : (f : Event) (later : List Event) → is_opening f ≡ false → calls_of (f ∷ later) ≡ calls_of later
passes_first f later h = passes_by f.epoch f.channel f.packet f.what later h

-- ---- the end of a call

abbrev none_in : List Event → Bool
none_in fs = is_none (option_map (λ (g : Event). g.packet) (find is_end fs))

none_more : (fs gs : List Event) → none_in (fs ++ gs) ≡ (none_in fs && none_in gs)
none_more [] gs = refl
none_more (f ∷ fs) gs = by (is_end f) (none_more fs gs)
  where
    by : (b : Bool) → none_in (fs ++ gs) ≡ (none_in fs && none_in gs)
        → is_none (option_map (λ (g : Event). g.packet) (cond b (Some f) (find is_end (fs ++ gs)))) ≡ (is_none (option_map (λ (g : Event). g.packet) (cond b (Some f) (find is_end fs))) && none_in gs)
    by true more = refl
    by false more = more

none_of_one : (f : Event) (b : Bool) → none_in (cond b (f ∷ []) []) ≡ not (b && is_end f)
none_of_one f false = refl
none_of_one f true = by (is_end f)
  where
    by : (c : Bool) → is_none (option_map (λ (g : Event). g.packet) (cond c (Some f) None)) ≡ not c
    by true = refl
    by false = refl

end_more : (x f : Event) (later : List Event) → is_none (option_map (λ g. g.packet) (end_of x (later ++ f ∷ []))) ≡ (is_none (option_map (λ g. g.packet) (end_of x later)) && not (is_alongside x f && is_end f))
end_more x f later =
    ap none_in (filter_append (is_alongside x) later (f ∷ []))
    ∙ none_more (filter (is_alongside x) later) (filter (is_alongside x) (f ∷ []))
    ∙ ap (λ b. none_in (filter (is_alongside x) later) && b) (none_of_one f (is_alongside x f))

eqb_turned : (a b : ℕ) → eqb a b ≡ eqb b a
eqb_turned a b = by (eqb a b) refl
  where
    by : (c : Bool) → eqb a b ≡ c → eqb a b ≡ eqb b a
    by true h = h ∙ sym (eq-eqb b a (sym (eqb-true a b h)))
    by false h = h ∙ sym (ne_eqb b a (λ e. eqb-false a b h (sym e)))

and_turned : (a b : Bool) → (a && b) ≡ (b && a)
and_turned true true = refl
and_turned true false = refl
and_turned false true = refl
and_turned false false = refl

alongside_on : (x f : Event) (e k : ℕ) → x.epoch ≡ e → x.channel ≡ k → (is_alongside x f && is_end f) ≡ (is_end f && on e k f)
alongside_on x f e k h l =
    ap (λ b. b && is_end f) ((λ t. eqb (h t) f.epoch && eqb (l t) f.channel) ∙ (λ t. eqb_turned e f.epoch t && eqb_turned k f.channel t)) ∙ and_turned (on e k f) (is_end f)

still_open : (x f : Event) (later : List Event) (e k : ℕ) (a b n : Bool) → eqb x.epoch e ≡ a → eqb x.channel k ≡ b → (a && (b && (n && not (is_alongside x f && is_end f)))) ≡ ((a && (b && n)) && not (is_end f && on e k f))
still_open x f later e k false b n h l = refl
still_open x f later e k true false n h l = refl
still_open x f later e k true true n h l = ap (λ c. n && not c) (alongside_on x f e k (eqb-true x.epoch e h) (eqb-true x.channel k l))

pub open_more : (x f : Event) (later : List Event) (e k : ℕ) → (now : OpensFirst x later) (next : OpensFirst x (later ++ f ∷ [])) → is_open_on e k next.call ≡ (is_open_on e k now.call && not (is_end f && on e k f))
open_more x f later e k now next =
    (λ t. eqb (next.epoch t) e && (eqb (next.channel t) k && is_none (next.ended t)))
    ∙ ap (λ b. eqb x.epoch e && (eqb x.channel k && b)) (end_more x f later)
    ∙ still_open x f later e k (eqb x.epoch e) (eqb x.channel k) (is_none (option_map (λ g. g.packet) (end_of x later))) refl refl
    ∙ sym (λ t. (eqb (now.epoch t) e && (eqb (now.channel t) k && is_none (now.ended t))) && not (is_end f && on e k f))

-- ---- the calls

and_true : (b : Bool) → (b && true) ≡ b
and_true true = refl
and_true false = refl

or_false : (b : Bool) → (b || false) ≡ b
or_false true = refl
or_false false = refl

shared : (p q r t z : Bool) → ((p && (q && t)) || ((r && t) || z)) ≡ ((((p && q) || r) && t) || z)
shared false q r t z = refl
shared true false r t z = refl
shared true true r true z = refl
shared true true true false z = refl
shared true true false false z = refl

-- which calls are open with one more event: those that were and are not ended by it, and the one that it opens
pub event_more : (m n e k : ℕ) (es : List Event) (f : Event)
    → open_from m n e k (calls_of (es ++ f ∷ [])) ≡ ((open_from m n e k (calls_of es) && not (is_end f && on e k f)) || (is_opening f && (eqb (m + length (calls_of es)) n && on e k f)))
event_more m n e k [] f = by (is_opening f) refl
  where
    by : (b : Bool) → is_opening f ≡ b → open_from m n e k (calls_of (f ∷ [])) ≡ (is_opening f && (eqb (m + 0) n && on e k f))
    by true h =
        let first = opens_first f [] h in
        let same : m ≡ m + 0 = omega arith in
        ap (open_from m n e k) first.calls ∙ or_false (eqb m n && is_open_on e k first.call)
        ∙ (λ t. eqb (same t) n && (eqb (first.epoch t) e && (eqb (first.channel t) k && is_none (first.ended t))))
        ∙ ap (λ b. eqb (m + 0) n && (eqb f.epoch e && b)) (and_true (eqb f.channel k))
        ∙ ap (λ b. b && (eqb (m + 0) n && on e k f)) (sym h)
    by false h = ap (open_from m n e k) (passes_first f [] h) ∙ ap (λ b. b && (eqb (m + 0) n && on e k f)) (sym h)
event_more m n e k (x ∷ es) f = by (λ q. event_more q n e k es f) (is_opening x) refl
  where
    by : ((q : ℕ) → open_from q n e k (calls_of (es ++ f ∷ [])) ≡ ((open_from q n e k (calls_of es) && not (is_end f && on e k f)) || (is_opening f && (eqb (q + length (calls_of es)) n && on e k f))))
        → (b : Bool) → is_opening x ≡ b → open_from m n e k (calls_of (x ∷ (es ++ f ∷ []))) ≡ ((open_from m n e k (calls_of (x ∷ es)) && not (is_end f && on e k f)) || (is_opening f && (eqb (m + length (calls_of (x ∷ es))) n && on e k f)))
    by later false h =
        ap (open_from m n e k) (passes_first x (es ++ f ∷ []) h) ∙ later m
        ∙ ap (λ cs. (open_from m n e k cs && not (is_end f && on e k f)) || (is_opening f && (eqb (m + length cs) n && on e k f))) (sym (passes_first x es h))
    by later true h =
        let next = opens_first x (es ++ f ∷ []) h in
        let now = opens_first x es h in
        let count : (m + 1) + length (calls_of es) ≡ m + length (now.call ∷ calls_of es) = omega arith in
        ap (open_from m n e k) next.calls
        ∙ (λ t. (eqb m n && open_more x f es e k now next t) || later (m + 1) t)
        ∙ shared (eqb m n) (is_open_on e k now.call) (open_from (m + 1) n e k (calls_of es)) (not (is_end f && on e k f)) (is_opening f && (eqb ((m + 1) + length (calls_of es)) n && on e k f))
        ∙ ap (λ c. (open_from m n e k (now.call ∷ calls_of es) && not (is_end f && on e k f)) || (is_opening f && (eqb c n && on e k f))) count
        ∙ ap (λ cs. (open_from m n e k cs && not (is_end f && on e k f)) || (is_opening f && (eqb (m + length cs) n && on e k f))) (sym now.calls)

-- how many calls were opened with one more event
pub count_more : (es : List Event) (f : Event) → length (calls_of (es ++ f ∷ [])) ≡ length (calls_of es) + cond (is_opening f) 1 0
count_more [] f = by (is_opening f) refl
  where
    by : (b : Bool) → is_opening f ≡ b → length (calls_of (f ∷ [])) ≡ 0 + cond (is_opening f) 1 0
    by true h =
        let first = opens_first f [] h in
        ap (λ cs. length cs) first.calls ∙ ap (λ b. 0 + cond b 1 0) (sym h)
    by false h = ap (λ cs. length cs) (passes_first f [] h) ∙ ap (λ b. 0 + cond b 1 0) (sym h)
count_more (x ∷ es) f = by (count_more es f) (is_opening x) refl
  where
    by : length (calls_of (es ++ f ∷ [])) ≡ length (calls_of es) + cond (is_opening f) 1 0 → (b : Bool) → is_opening x ≡ b → length (calls_of (x ∷ (es ++ f ∷ []))) ≡ length (calls_of (x ∷ es)) + cond (is_opening f) 1 0
    by later true h =
        let next = opens_first x (es ++ f ∷ []) h in
        let now = opens_first x es h in
        omega (arith, ap (λ cs. length cs) next.calls, ap (λ cs. length cs) now.calls, later)
    by later false h = ap (λ cs. length cs) (passes_first x (es ++ f ∷ []) h) ∙ later ∙ ap (λ cs. length cs + cond (is_opening f) 1 0) (sym (passes_first x es h))

-- a call of a number that none has is not open
pub too_far : (m n e k : ℕ) (cs : List CallRecord) → m + length cs ≤ n → open_from m n e k cs ≡ false
too_far m n e k [] h = refl
too_far m n e k (c ∷ cs) h =
    let other : eqb m n ≡ false = ne_eqb m n (λ same. omega (arith, same, h)) in
    ap (λ b. (b && is_open_on e k c) || open_from (m + 1) n e k cs) other ∙ too_far (m + 1) n e k cs (omega (arith, h))

-- ---- no opening and no end

pub kept_open : (b : Bool) → ((b && true) || false) ≡ b
kept_open true = refl
kept_open false = refl
