-- One call, as the events of an epoch come.
use Rattle.std.proofs.Common.{◌≡◌, ◌≢◌, ◌∙◌, sym, ap, subst, refl, ℕ, ◌+◌, ◌-◌, ◌≤◌, ◌<◌, Bool, true, false, true≢false, not, ◌&&◌, ◌||◌, cond, eqb, zero, suc, List, [], ◌∷◌, ◌++◌, length, take, get_or, Option, Some, None, IfSome, arith, append_assoc}
use Rattle.std.specs.List.{AllByRecursion}
use Rattle.std.proofs.lemmas.List.{take_more}
use Rattle.std.proofs.lemmas.Bool.{and_parts, ne_eqb, eq-eqb, eqb-true}
use Rattle.line_model.specs.declared.event.Event.{Event}
use Rattle.line_model.specs.declared.event.What.{What}
use Rattle.line_model.specs.observer.Calls.{calls_of, is_end, is_opening}
use Rattle.annotated_trace.specs.Rows.{has_open}
use Rattle.descriptions.specs.CallRows.{EndsAt, IsAfter, OpensAt, is_at}
use Rattle.descriptions.specs.declared.call_rows.CallRows.{CallRows}
use Rattle.descriptions.specs.declared.call_rows.Place.{Place}
use Rattle.descriptions.proofs.OpenCalls.{count_more, event_more, kept_open, on, open_from, too_far}

-- ---- an opening

-- how many calls are still to come
fewer : (es : List Event) (f : Event) (number to_come : ℕ) → is_opening f ≡ true → to_come ≡ number - length (calls_of es) → to_come - 1 ≡ number - length (calls_of (es ++ f ∷ []))
fewer es f number to_come h come = omega (arith, come, count_more es f ∙ ap (λ b. length (calls_of es) + cond b 1 0) h)

same_count : (es : List Event) (f : Event) (number to_come : ℕ) → is_opening f ≡ false → to_come ≡ number - length (calls_of es) → to_come ≡ number - length (calls_of (es ++ f ∷ []))
same_count es f number to_come h come = omega (arith, come, count_more es f ∙ ap (λ b. length (calls_of es) + cond b 1 0) h)

pub opened_now : (e k : ℕ) (es : List Event) (f : Event) (w next : CallRows) → OpensAt e k f → IsAfter e es w → w.to_come ≡ 1 → next.number ≡ w.number → next.to_come ≡ w.to_come - 1 → next.place ≡ Some (record { epoch = e; channel = k }) → IsAfter e (es ++ f ∷ []) next
opened_now e k es f w next o h one number come place = record {
  to_come = come ∙ fewer es f w.number w.to_come o.opening h.to_come ∙ ap (λ n. n - length (calls_of (es ++ f ∷ []))) (sym number);
  place = λ j.
      let far : open_from 1 w.number e j (calls_of es) ≡ false = too_far 1 w.number e j (calls_of es) (omega (arith, one, h.to_come)) in
      let last : eqb (1 + length (calls_of es)) w.number ≡ true = eq-eqb _ _ (omega (arith, one, h.to_come)) in
      ap (λ n. open_from 1 n e j (calls_of (es ++ f ∷ []))) number ∙ event_more 1 w.number e j es f
      ∙ (λ t. (far t && not (is_end f && on e j f)) || (o.opening t && (last t && (eqb (o.epoch t) e && eqb (o.channel t) j))))
      ∙ ap (is_at e j) (sym place);
  known = subst (λ p. IfSome p (λ (q : Place). q.epoch ≤ e)) (sym place) (omega arith);
}

pub opened_later : (e k : ℕ) (es : List Event) (f : Event) (w next : CallRows) → OpensAt e k f → IsAfter e es w → w.to_come ≢ 1 → next.number ≡ w.number → next.to_come ≡ w.to_come - 1 → next.place ≡ w.place → IsAfter e (es ++ f ∷ []) next
opened_later e k es f w next o h other number come place = record {
  to_come = come ∙ fewer es f w.number w.to_come o.opening h.to_come ∙ ap (λ n. n - length (calls_of (es ++ f ∷ []))) (sym number);
  place = λ j.
      let last : eqb (1 + length (calls_of es)) w.number ≡ false = ne_eqb _ _ (λ same. other (omega (arith, same, h.to_come))) in
      ap (λ n. open_from 1 n e j (calls_of (es ++ f ∷ []))) number ∙ event_more 1 w.number e j es f
      ∙ (λ t. (open_from 1 w.number e j (calls_of es) && not (o.no_end t && on e j f)) || (o.opening t && (last t && on e j f)))
      ∙ kept_open (open_from 1 w.number e j (calls_of es)) ∙ h.place j ∙ ap (is_at e j) (sym place);
  known = subst (λ p. IfSome p (λ (q : Place). q.epoch ≤ e)) (sym place) h.known;
}

-- ---- an end

at_place : (p : Option Place) (e k j : ℕ) → is_at e k p ≡ true → is_at e j p ≡ (eqb e e && eqb k j)
at_place None e k j h = absurd (true≢false (sym h))
at_place (Some p) e k j h =
    let parts = and_parts (eqb p.epoch e) (eqb p.channel k) h in
    (λ t. eqb (eqb-true p.epoch e parts.0 t) e && eqb (eqb-true p.channel k parts.1 t) j)

not_both : (b : Bool) → ((b && not b) || false) ≡ false
not_both true = refl
not_both false = refl

elsewhere : (p : Option Place) (e k j : ℕ) → is_at e k p ≡ false → ((is_at e j p && not (eqb e e && eqb k j)) || false) ≡ is_at e j p
elsewhere p e k j h = by (eqb k j) refl
  where
    and_false : (b : Bool) → (b && false) ≡ false
    and_false true = refl
    and_false false = refl

    by : (b : Bool) → eqb k j ≡ b → ((is_at e j p && not (eqb e e && eqb k j)) || false) ≡ is_at e j p
    by true same =
        let none : is_at e j p ≡ false = ap (λ n. is_at e n p) (sym (eqb-true k j same)) ∙ h in
        ap (λ b. (b && not (eqb e e && eqb k j)) || false) none ∙ sym none
    by false other = ap (λ b. (is_at e j p && not b) || false) (ap (λ b. eqb e e && b) other ∙ and_false (eqb e e)) ∙ kept_open (is_at e j p)

ended_on : (e k j : ℕ) (es : List Event) (f : Event) (w : CallRows) → EndsAt e k f → IsAfter e es w → open_from 1 w.number e j (calls_of (es ++ f ∷ [])) ≡ ((is_at e j w.place && not (eqb e e && eqb k j)) || false)
ended_on e k j es f w o h =
    event_more 1 w.number e j es f
    ∙ (λ t. (h.place j t && not (o.end t && (eqb (o.epoch t) e && eqb (o.channel t) j))) || (o.no_opening t && (eqb (1 + length (calls_of es)) w.number && on e j f)))

pub ended_here : (e k : ℕ) (es : List Event) (f : Event) (w next : CallRows) → EndsAt e k f → IsAfter e es w → is_at e k w.place ≡ true → next.number ≡ w.number → next.to_come ≡ w.to_come → next.place ≡ None → IsAfter e (es ++ f ∷ []) next
ended_here e k es f w next o h here number come place = record {
  to_come = come ∙ same_count es f w.number w.to_come o.no_opening h.to_come ∙ ap (λ n. n - length (calls_of (es ++ f ∷ []))) (sym number);
  place = λ j.
      ap (λ n. open_from 1 n e j (calls_of (es ++ f ∷ []))) number ∙ ended_on e k j es f w o h
      ∙ ap (λ b. (b && not (eqb e e && eqb k j)) || false) (at_place w.place e k j here) ∙ not_both (eqb e e && eqb k j) ∙ ap (is_at e j) (sym place);
  known = subst (λ p. IfSome p (λ (q : Place). q.epoch ≤ e)) (sym place) tt;
}

pub ended_there : (e k : ℕ) (es : List Event) (f : Event) (w next : CallRows) → EndsAt e k f → IsAfter e es w → is_at e k w.place ≡ false → next.number ≡ w.number → next.to_come ≡ w.to_come → next.place ≡ w.place → IsAfter e (es ++ f ∷ []) next
ended_there e k es f w next o h there number come place = record {
  to_come = come ∙ same_count es f w.number w.to_come o.no_opening h.to_come ∙ ap (λ n. n - length (calls_of (es ++ f ∷ []))) (sym number);
  place = λ j.
      ap (λ n. open_from 1 n e j (calls_of (es ++ f ∷ []))) number ∙ ended_on e k j es f w o h ∙ elsewhere w.place e k j there ∙ ap (is_at e j) (sym place);
  known = subst (λ p. IfSome p (λ (q : Place). q.epoch ≤ e)) (sym place) h.known;
}

-- ---- another event

pub passed : (e : ℕ) (es : List Event) (f : Event) (w : CallRows) → is_opening f ≡ false → is_end f ≡ false → IsAfter e es w → IsAfter e (es ++ f ∷ []) w
passed e es f w no_opening no_end h = record {
  to_come = same_count es f w.number w.to_come no_opening h.to_come;
  place = λ j.
      event_more 1 w.number e j es f
      ∙ (λ t. (open_from 1 w.number e j (calls_of es) && not (no_end t && on e j f)) || (no_opening t && (eqb (1 + length (calls_of es)) w.number && on e j f)))
      ∙ kept_open (open_from 1 w.number e j (calls_of es)) ∙ h.place j;
  known = h.known;
}

-- ---- several events

pub as_what : (f : Event) (w : What) → f.what ≡ w → f ≡ record f { what = w }
as_what f w h = λ t. record f { what = h t }

pub both_false : (a b : Bool) → (a || b) ≡ false → (a ≡ false) × (b ≡ false)
both_false false false h = (refl, refl)
both_false true b h = absurd (true≢false h)
both_false false true h = absurd (true≢false h)

all_at : (P : Event → Type 0) (fs : List Event) (i : ℕ) (d : Event) → AllByRecursion P fs → i < length fs → P (get_or fs i d)
all_at P [] i d h lt = absurd (omega arith)
all_at P (f ∷ fs) zero d h lt = h.0
all_at P (f ∷ fs) (suc i) d h lt = all_at P fs i d h.1 (omega arith)

pub applied_next : (e : ℕ) (es fs : List Event) (i : ℕ) (f : Event) (w next : CallRows) → i < length fs → f ≡ get_or fs i f → AllByRecursion (λ g. g.epoch ≡ e) fs → IsAfter e (es ++ take i fs) w
    → (IsAfter f.epoch (es ++ take i fs) w → IsAfter f.epoch ((es ++ take i fs) ++ f ∷ []) next) → IsAfter e (es ++ take (i + 1) fs) next
applied_next e es fs i f w next lt is all h step =
    let of : f.epoch ≡ e = subst (λ g. g.epoch ≡ e) (sym is) (all_at (λ g. g.epoch ≡ e) fs i f all lt) in
    let whole : es ++ take (i + 1) fs ≡ (es ++ take i fs) ++ f ∷ [] = ap (λ l. es ++ l) (take_more fs i f lt ∙ ap (λ g. take i fs ++ g ∷ []) (sym is)) ∙ sym (append_assoc es (take i fs) (f ∷ [])) in
    subst (λ l. IsAfter e l next) (sym whole) (subst (λ n. IsAfter n ((es ++ take i fs) ++ f ∷ []) next) of (step (subst (λ n. IsAfter n (es ++ take i fs) w) (sym of) h)))

pub took : (e k : ℕ) (es fs : List Event) (w next : CallRows) → IsAfter e es w → IsAfter e (es ++ fs) next → next.number ≡ w.number → (was is : Bool) → was ≡ is_at e k w.place → is ≡ is_at e k next.place
    → (was || is) ≡ (has_open w.number e k (calls_of es) || has_open w.number e k (calls_of (es ++ fs)))
took e k es fs w next h n number was is before after =
    λ t. (before ∙ sym (h.place k)) t || (after ∙ sym (n.place k) ∙ ap (λ m. has_open m e k (calls_of (es ++ fs))) number) t
