-- Events, one after another.
use Rattle.std.proofs.Common.{◌≡◌, refl, sym, ◌∙◌, ap, List, [], ◌∷◌, ◌++◌, append_assoc}
use Rattle.std.specs.Prelude.{map, flat_map}
use Rattle.line_model.specs.declared.event.Event.{Event}
use Rattle.line_model.specs.declared.event.What.{What}
use Rattle.line_model.specs.channels.Pad.{Pair}
use Rattle.channel_machine.specs.declared.events.EventOrigin.{EventOrigin}
use Rattle.channel_machine.specs.Events.{event_at, Reports}

events_append : (s : EventOrigin) (vs ws : List What) → map (event_at s) (vs ++ ws) ≡ map (event_at s) vs ++ map (event_at s) ws
events_append s [] ws = refl
events_append s (v ∷ vs) ws = ap (λ l. event_at s v ∷ l) (events_append s vs ws)

-- a fault, a packet and its settings
pub three : (s : EventOrigin) (old one two new : List Event) (fs ws : List What) (d : What) → Reports s old one fs →
    two ≡ one ++ event_at s d ∷ [] → Reports s two new ws → Reports s old new (fs ++ d ∷ ws)
three s old one two new fs ws d first second third =
    third ∙ ap (λ l. l ++ map (event_at s) ws) second ∙ append_assoc one (event_at s d ∷ []) (map (event_at s) ws)
    ∙ ap (λ l. l ++ event_at s d ∷ map (event_at s) ws) first ∙ append_assoc old (map (event_at s) fs) (event_at s d ∷ map (event_at s) ws)
    ∙ ap (λ l. old ++ l) (sym (events_append s fs (d ∷ ws)))

-- some events and some more
pub more : (s : EventOrigin) (old mid new : List Event) (vs ws : List What) → Reports s old mid vs → Reports s mid new ws → Reports s old new (vs ++ ws)
more s old mid new vs ws first second =
    second ∙ ap (λ l. l ++ map (event_at s) ws) first ∙ append_assoc old (map (event_at s) vs) (map (event_at s) ws)
    ∙ ap (λ l. old ++ l) (sym (events_append s vs ws))

-- reports along pairs: those read so far are reported, and with those left they are all
pub record IsReported (s : EventOrigin) (f : Pair → List What) (start now : List Event) (left all : List Pair) : Type 0 where
  pub done : List What
  pub reports : Reports s start now done
  pub whole : done ++ flat_map f left ≡ flat_map f all

pub reported_one : (s : EventOrigin) (f : Pair → List What) (start now new : List Event) (p : Pair) (left rest all : List Pair) →
    IsReported s f start now left all → left ≡ p ∷ rest → Reports s now new (f p) → IsReported s f start new rest all
reported_one s f start now new p left rest all h e one = record {
  done = h.done ++ f p;
  reports = more s start now new h.done (f p) h.reports one;
  whole = append_assoc h.done (f p) (flat_map f rest) ∙ ap (λ l. h.done ++ flat_map f l) (sym e) ∙ h.whole;
}
