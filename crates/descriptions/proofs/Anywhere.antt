-- A call that is open in an epoch, on whatever logical channel, and the gaps of all channels that reach each.
use Rattle.std.proofs.Common.{◌≡◌, ◌∙◌, sym, ap, subst, refl, ℕ, Bool, true, false, ◌&&◌, ◌||◌, ◌==◌, List, [], ◌∷◌, Option, Some, None}
use Rattle.std.specs.List.{enumerate_from, list_any}
use Rattle.std.specs.Option.{is_none}
use Rattle.std.proofs.lemmas.Bool.{eq-eqb}
use Rattle.line_model.specs.basics.Records.{CallRecord, Item}
use Rattle.line_model.specs.channels.Gaps.{GapChannel}
use Rattle.line_model.specs.channels.GapRestart.{GapInterfaceState, gap_in, is_of_all, is_ready, routing_by}
use Rattle.line_model.specs.declared.interface.Interface.{Interface}
use Rattle.line_model.specs.declared.state.RState.{RState}
use Rattle.line_model.specs.declared.state.RState.TheVariants.{R1, R2, R3}
use Rattle.line_model.specs.observer.Machine.{Observer, steps_all}
use Rattle.line_model.specs.observer.Observer.{x25}
use Rattle.line_model.specs.packets.Classes.{packet_class}
use Rattle.line_model.specs.packets.Says.{gap_of}
use Rattle.live_report.specs.JudgedRows.{IsJudge}
use Rattle.live_report.specs.declared.judged_row.Judge.{Judge}
use Rattle.live_report.specs.declared.judged_row.Judge.TheVariants as judge
use Rattle.annotated_trace.specs.Rows.{has_open, has_open_in, is_open_in, is_open_on}
use Rattle.descriptions.specs.CallRows.{is_at, is_in, steps_each}
use Rattle.descriptions.specs.declared.call_rows.Place.{Place}

-- ---- on some channel, or on none

abbrev is_on : (n e k : ℕ) → ℕ × CallRecord → Bool
is_on n e k q = (q.0 == n) && is_open_on e k q.1

abbrev is_anywhere : (n e : ℕ) → ℕ × CallRecord → Bool
is_anywhere n e q = (q.0 == n) && is_open_in e q.1

implied : (a b c d : Bool) → (a && (b && (c && d))) ≡ true → (a && (b && d)) ≡ true
implied true true true d h = h
implied true true false d h = cc
implied true false c d h = cc
implied false b c d h = cc

or_true : (v : Bool) → (v || true) ≡ true
or_true true = refl
or_true false = refl

or_left : (v w : Bool) → (v || w) ≡ false → v ≡ false
or_left true w h = cc
or_left false w h = refl

or_right : (v w : Bool) → (v || w) ≡ false → w ≡ false
or_right true w h = cc
or_right false w h = h

on_some : (n e k : ℕ) (qs : List (ℕ × CallRecord)) → list_any (is_on n e k) qs ≡ true → list_any (is_anywhere n e) qs ≡ true
on_some n e k [] h = cc
on_some n e k (q ∷ qs) h = by (is_on n e k q) refl (on_some n e k qs) h
  where
    by : (v : Bool) → is_on n e k q ≡ v → (list_any (is_on n e k) qs ≡ true → list_any (is_anywhere n e) qs ≡ true) → (v || list_any (is_on n e k) qs) ≡ true → list_any (is_anywhere n e) (q ∷ qs) ≡ true
    by true is later some = ap (λ v. v || list_any (is_anywhere n e) qs) (implied (q.0 == n) (q.1.epoch == e) (q.1.channel == k) (is_none q.1.ended) is)
    by false is later some = ap (λ v. is_anywhere n e q || v) (later some) ∙ or_true (is_anywhere n e q)

on_none : (n e : ℕ) (qs : List (ℕ × CallRecord)) → ((k : ℕ) → list_any (is_on n e k) qs ≡ false) → list_any (is_anywhere n e) qs ≡ false
on_none n e [] h = refl
on_none n e (q ∷ qs) h =
    let own : is_on n e q.1.channel q ≡ false = or_left (is_on n e q.1.channel q) (list_any (is_on n e q.1.channel) qs) (h q.1.channel) in
    let here : is_anywhere n e q ≡ false = (λ t. (q.0 == n) && ((q.1.epoch == e) && (sym (eq-eqb q.1.channel q.1.channel refl) t && is_none q.1.ended))) ∙ own in
    λ t. here t || on_none n e qs (λ k. or_right (is_on n e k q) (list_any (is_on n e k) qs) (h k)) t

pub open_in : (n e : ℕ) (cs : List CallRecord) (p : Option Place) → ((k : ℕ) → has_open n e k cs ≡ is_at e k p) → has_open_in n e cs ≡ is_in e p
open_in n e cs None h = on_none n e (enumerate_from 1 cs) h
open_in n e cs (Some p) h = by (p.epoch == e) refl
  where
    by : (v : Bool) → (p.epoch == e) ≡ v → has_open_in n e cs ≡ (p.epoch == e)
    by true is = on_some n e p.channel (enumerate_from 1 cs) (h p.channel ∙ (λ t. is t && eq-eqb p.channel p.channel refl t)) ∙ sym is
    by false is = on_none n e (enumerate_from 1 cs) (λ k. h k ∙ ap (λ b. b && (p.channel == k)) is) ∙ sym is

-- ---- the gaps that reach each channel

abbrev is_first : RState → Bool
is_first s = elim s [ R1 ↦ true | _ ↦ false ]

pub each_is : (i : Interface) (l : GapInterfaceState) (r : Item) → steps_all (x25 i) l r ≡ steps_each (gap_of r.packet) l.level.state
each_is i l r = by (gap_of r.packet)
  where
    at : (s : RState) → l.level.state ≡ s → (is_ready l && is_ready (gap_in l.level.state l).after) ≡ steps_each (Some None) l.level.state
    at R1 e = (λ t. is_first (e t) && is_ready (gap_in (e t) l).after) ∙ ap is_first e ∙ sym (ap (steps_each (Some None)) e)
    at R2 e = (λ t. is_first (e t) && is_ready (gap_in (e t) l).after) ∙ sym (ap (steps_each (Some None)) e)
    at R3 e = (λ t. is_first (e t) && is_ready (gap_in (e t) l).after) ∙ sym (ap (steps_each (Some None)) e)

    by : (g : Option (Option ℕ)) → (is_of_all g && (is_ready l && is_ready (routing_by g l r.side (packet_class r.packet) r.length).after)) ≡ steps_each g l.level.state
    by None = refl
    by (Some None) = at l.level.state refl
    by (Some (Some c)) = refl

pub restart_was : (i : Interface) (taker : Option ℕ) (o more : Observer GapInterfaceState GapChannel) (j : Judge) (before after : RState) → IsJudge i taker o more j → j ≡ judge.Restart before after → before ≡ o.level.level.state
restart_was i None o more j before after h e = (subst (λ x. IsJudge i None o more x) e h).0
restart_was i (Some k) o more j before after h e = absurd (subst (λ x. IsJudge i (Some k) o more x) e h)
