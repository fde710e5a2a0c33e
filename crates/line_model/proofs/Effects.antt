-- What a step does to the call of its channel.
use Rattle.std.proofs.Common.{◌≡◌, ◌∷◌, [], ◌++◌, ℕ, inl, inr, Bool, true, false, not, ◌||◌, Option, Some, None, List, refl, sym, ◌∙◌, ap, subst}
use Rattle.std.proofs.lemmas.Bool.{and_parts, false≢true}
use Rattle.line_model.specs.declared.interface.Interface.{Interface}
use Rattle.line_model.specs.declared.state.Side.{Side}
use Rattle.line_model.specs.declared.state.Side.TheVariants.{T, N}
use Rattle.line_model.specs.declared.state.ChannelState.{ChannelState}
use Rattle.line_model.specs.declared.state.ChannelState.TheVariants.{Setup, Transfer, Unknown}
use Rattle.line_model.specs.declared.state.PState as setup
use Rattle.line_model.specs.declared.state.DState as transfer
use Rattle.line_model.specs.declared.state.StateName.{StateName}
use Rattle.line_model.specs.declared.state.StateName.TheVariants.{D1, D2, D3, P7}
use Rattle.line_model.specs.declared.packet.Class.{Class}
use Rattle.line_model.specs.declared.table.Action.{Action}
use Rattle.line_model.specs.declared.table.Action.TheVariants.{Move, Normal, Error, Ends as EndsIndication, Discard, Pass, Below, ToChannel}
use Rattle.line_model.specs.channels.Verdicts.{Verdict, CallChange}
use Rattle.line_model.specs.channels.Verdicts.Verdict.{Fails, Moves, Transfers, EndsOwed, Nothing}
use Rattle.line_model.specs.channels.Verdicts.CallChange.{Opens, GoesUp, Ends, Keeps}
use Rattle.line_model.specs.declared.event.How.{How}
use Rattle.line_model.specs.declared.event.How as how
use Rattle.line_model.specs.declared.event.What as what
use Rattle.line_model.specs.basics.Records.{Item}
use Rattle.line_model.specs.packets.Classes.{packet_class}
use Rattle.line_model.specs.channels.Channels.{Channel, Opening, is_permanent}
use Rattle.line_model.specs.packets.Formats.{packet_fault}
use Rattle.line_model.specs.channels.Channels.{is_open}
use Rattle.line_model.specs.channels.ChannelStep.{Outcome, Judged, and_then, judged, verdict, report_nothing, entering, ending, ending_open, opening, call_change, changing, failing, transferring, verdict_step, channel_step, state_named}
use Rattle.line_model.proofs.CallSteps.{Mark, Opened as OpenedMark, Risen, Ended, marks, marks_append, Transferred, transferring_is}
use Rattle.line_model.proofs.Phases.{Phase, Closed, Opened, IsUp, phase_of, suits, is_judged_there, name_fits, change_fits, entry_fits, judgement_fits, fits}

abbrev pub is_held : Phase → Bool
is_held Closed = false
is_held _ = true

-- the mark of an end, where a call is open
abbrev pub end_marks : Bool → List Mark
end_marks true = Ended ∷ []
end_marks false = []

-- ---- the end of a call

abbrev opened : Option Opening → Bool
opened o = elim o [ None ↦ false | Some p ↦ true ]

pub ending_state : (h : How) (c : Channel) → (ending h c).after.state ≡ c.state
ending_state h c = at c.opening
  where
    at : (o : Option Opening) → (ending_open h o c).after.state ≡ c.state
    at None = refl
    at (Some p) = refl

ending_closes : (h : How) (c : Channel) → is_open (ending h c).after ≡ false
ending_closes h c = at c.opening refl
  where
    at : (o : Option Opening) → c.opening ≡ o → is_open (ending_open h o c).after ≡ false
    at None e = ap opened e
    at (Some p) e = refl

pub ending_marks : (h : How) (c : Channel) → marks (ending h c).reported ≡ end_marks (is_open c)
ending_marks h c = at c.opening
  where
    at : (o : Option Opening) → marks (ending_open h o c).reported ≡ end_marks (opened o)
    at None = refl
    at (Some p) = refl

-- ---- effects

-- what a step does to the call
pub data PhaseEffect : Type 0 where
  stays : Phase → PhaseEffect
  opens reopens replaces rises cancels clears : PhaseEffect

abbrev pub from_of : PhaseEffect → Phase
from_of (stays p) = p
from_of opens = Closed
from_of reopens = Opened
from_of replaces = IsUp
from_of rises = Opened
from_of cancels = Opened
from_of clears = IsUp

abbrev pub to_of : PhaseEffect → Phase
to_of (stays p) = p
to_of opens = Opened
to_of reopens = Opened
to_of replaces = Opened
to_of rises = IsUp
to_of cancels = Closed
to_of clears = Closed

abbrev pub marks_of : PhaseEffect → List Mark
marks_of (stays p) = []
marks_of opens = OpenedMark ∷ []
marks_of reopens = Ended ∷ OpenedMark ∷ []
marks_of replaces = Ended ∷ OpenedMark ∷ []
marks_of rises = Risen ∷ []
marks_of cancels = Ended ∷ []
marks_of clears = Ended ∷ []

-- a channel whose state says whether its call is open
pub record IsSound (permanent : Bool) (c : Channel) : Type 0 where
  pub suits : suits permanent c.state ≡ true
  pub held : is_open c ≡ is_held (phase_of permanent c.state)

-- a step from one phase to another that has an effect
pub record Affected (old new : Phase) (reported : List what.What) : Type 0 where
  pub effect : PhaseEffect
  pub before : old ≡ from_of effect
  pub behind : new ≡ to_of effect
  pub marked : marks reported ≡ marks_of effect

-- a step of a channel that has an effect
pub record Effects (permanent : Bool) (c : Channel) (out : Outcome) : Type 0 where
  pub affected : Affected (phase_of permanent c.state) (phase_of permanent out.after.state) out.reported
  pub sound : IsSound permanent out.after

pub calm_effects : (p : Bool) (c : Channel) (out : Outcome) → IsSound p c → marks out.reported ≡ [] → out.after.state ≡ c.state → out.after.opening ≡ c.opening → Effects p c out
calm_effects p c out s m e f = record {
  affected = record { effect = stays (phase_of p c.state); before = refl; behind = ap (phase_of p) e; marked = m };
  sound = record { suits = ap (suits p) e ∙ s.suits; held = ap opened f ∙ s.held ∙ sym (ap (λ t. is_held (phase_of p t)) e) };
}

-- a step that ends the call if there is one
end_effects : (p : Bool) (c : Channel) (out : Outcome) (b : Phase) → phase_of p c.state ≡ b → marks out.reported ≡ end_marks (is_held b) → phase_of p out.after.state ≡ Closed → suits p out.after.state ≡ true → is_open out.after ≡ false → Effects p c out
end_effects p c out Closed e m a s o = record { affected = record { effect = stays Closed; before = e; behind = a; marked = m }; sound = record { suits = s; held = o ∙ ap is_held (sym a) } }
end_effects p c out Opened e m a s o = record { affected = record { effect = cancels; before = e; behind = a; marked = m }; sound = record { suits = s; held = o ∙ ap is_held (sym a) } }
end_effects p c out IsUp e m a s o = record { affected = record { effect = clears; before = e; behind = a; marked = m }; sound = record { suits = s; held = o ∙ ap is_held (sym a) } }

-- ---- errors

resets : (p : Bool) (c : Channel) (s : StateName) (n : ℕ) → IsSound p c → is_judged_there p c.state ≡ true → Effects p c (record { reported = what.TheVariants.Found T s (Rattle.line_model.specs.declared.finding.Code.TheVariants.Number n) ∷ []; after = entering D3 true c })
resets p c s n h t = record {
  affected = record { effect = stays (phase_of p c.state); before = refl; behind = same_phase p c.state t; marked = refl };
  sound = record { suits = in_transfer p; held = h.held ∙ sym (ap is_held (same_phase p c.state t)) };
}
  where
    same_phase : (p : Bool) (s : ChannelState) → is_judged_there p s ≡ true → phase_of p (Transfer transfer.TheVariants.D3) ≡ phase_of p s
    same_phase p (Setup q) e = absurd (false≢true e)
    same_phase true (Transfer d) e = refl
    same_phase false (Transfer d) e = refl
    same_phase true Unknown e = refl
    same_phase false Unknown e = absurd (false≢true e)

    in_transfer : (p : Bool) → suits p (Transfer transfer.TheVariants.D3) ≡ true
    in_transfer true = refl
    in_transfer false = refl

not_permanent : (p : Bool) → not p ≡ true → p ≡ false
not_permanent true e = cc
not_permanent false e = refl

-- an error of the first table clears the call
clearing : (p : Bool) (c : Channel) (ws : List what.What) → IsSound p c → not p ≡ true → marks ws ≡ [] → Effects p c (record { reported = ws ++ (ending how.TheVariants.N (entering P7 true c)).reported; after = (ending how.TheVariants.N (entering P7 true c)).after })
clearing p c ws h np m =
    let state = ending_state how.TheVariants.N (entering P7 true c) in
    end_effects p c (record { reported = ws ++ (ending how.TheVariants.N (entering P7 true c)).reported; after = (ending how.TheVariants.N (entering P7 true c)).after }) (phase_of p c.state) refl
    (marks_append ws (ending how.TheVariants.N (entering P7 true c)).reported ∙ ap (λ l. l ++ marks (ending how.TheVariants.N (entering P7 true c)).reported) m ∙ ending_marks how.TheVariants.N (entering P7 true c) ∙ ap end_marks h.held)
    (ap (phase_of p) state)
    (ap (suits p) state ∙ ap (λ q. suits q (Setup setup.TheVariants.P7)) (not_permanent p np))
    (ending_closes how.TheVariants.N (entering P7 true c))

failing_effects : (p : Bool) (x : Side) (s : StateName) (n : ℕ) (c : Channel) → IsSound p c → name_fits p c.state s ≡ true → Effects p c (failing x s n c)
failing_effects p N s n c h f = calm_effects p c (failing N s n c) h refl refl refl
failing_effects p T D1 n c h f = resets p c D1 n h f
failing_effects p T D2 n c h f = resets p c D2 n h f
failing_effects p T D3 n c h f = resets p c D3 n h f
failing_effects p T s n c h f = clearing p c (what.TheVariants.Found T s (Rattle.line_model.specs.declared.finding.Code.TheVariants.Number n) ∷ []) h f refl

-- ---- moves

-- a call is opened, after the end of the one before
pub opening_effects : (p : Bool) (h : How) (out : Bool) (xs : List ℕ) (c d : Channel) → IsSound p c → d.opening ≡ c.opening → suits p d.state ≡ true → phase_of p d.state ≡ Opened → Effects p c (and_then (ending h d) (opening out xs))
opening_effects p h out xs c d s same fit f = at (phase_of p c.state) refl
  where
    state : (ending h d).after.state ≡ d.state
    state = ending_state h d

    made : (t : PhaseEffect) → phase_of p c.state ≡ from_of t → Opened ≡ to_of t → end_marks (is_held (phase_of p c.state)) ++ OpenedMark ∷ [] ≡ marks_of t → Effects p c (and_then (ending h d) (opening out xs))
    made t e g m = record {
      affected = record {
        effect = t;
        before = e;
        behind = ap (phase_of p) state ∙ f ∙ g;
        marked =
            marks_append (ending h d).reported (opening out xs (ending h d).after).reported
            ∙ ap (λ l. l ++ OpenedMark ∷ []) (ending_marks h d ∙ ap end_marks (ap opened same ∙ s.held)) ∙ m;
      };
      sound = record { suits = ap (suits p) state ∙ fit; held = sym (ap is_held (ap (phase_of p) state ∙ f)) };
    }

    at : (b : Phase) → phase_of p c.state ≡ b → Effects p c (and_then (ending h d) (opening out xs))
    at Closed e = made opens e refl (ap (λ q. end_marks (is_held q) ++ OpenedMark ∷ []) e)
    at Opened e = made reopens e refl (ap (λ q. end_marks (is_held q) ++ OpenedMark ∷ []) e)
    at IsUp e = made replaces e refl (ap (λ q. end_marks (is_held q) ++ OpenedMark ∷ []) e)

-- a call comes up
pub rising_effects : (p : Bool) (c d : Channel) → IsSound p c → d.opening ≡ c.opening → suits p d.state ≡ true → phase_of p c.state ≡ Opened → phase_of p d.state ≡ IsUp
    → Effects p c (record { reported = what.TheVariants.Up ∷ []; after = d })
rising_effects p c d s same fit e f = record {
  affected = record { effect = rises; before = e; behind = f; marked = refl };
  sound = record { suits = fit; held = ap opened same ∙ s.held ∙ ap is_held e ∙ sym (ap is_held f) };
}

-- a call ends, if one is open
pub ending_effects : (p : Bool) (h : How) (c d : Channel) → IsSound p c → d.opening ≡ c.opening → suits p d.state ≡ true → phase_of p d.state ≡ Closed → Effects p c (ending h d)
ending_effects p h c d s same fit f =
    end_effects p c (ending h d) (phase_of p c.state) refl (ending_marks h d ∙ ap end_marks (ap opened same ∙ s.held)) (ap (phase_of p) (ending_state h d) ∙ f) (ap (suits p) (ending_state h d) ∙ fit) (ending_closes h d)

changing_effects : (p : Bool) (xs : List ℕ) (ch : CallChange) (c d : Channel) → IsSound p c → d.opening ≡ c.opening → suits p d.state ≡ true → (b a : Phase) → phase_of p c.state ≡ b → phase_of p d.state ≡ a → change_fits b ch a ≡ true
    → Effects p c (changing xs ch d)
changing_effects p xs (Opens out) c d h same s b Opened e f fit = opening_effects p how.TheVariants.Collision out xs c d h same s f
changing_effects p xs (Opens out) c d h same s Closed Closed e f fit = absurd (false≢true fit)
changing_effects p xs (Opens out) c d h same s Opened Closed e f fit = absurd (false≢true fit)
changing_effects p xs (Opens out) c d h same s IsUp Closed e f fit = absurd (false≢true fit)
changing_effects p xs (Opens out) c d h same s Closed IsUp e f fit = absurd (false≢true fit)
changing_effects p xs (Opens out) c d h same s Opened IsUp e f fit = absurd (false≢true fit)
changing_effects p xs (Opens out) c d h same s IsUp IsUp e f fit = absurd (false≢true fit)
changing_effects p xs GoesUp c d h same s Opened IsUp e f fit = rising_effects p c (record d { accepting = Some xs }) h same s e f
changing_effects p xs GoesUp c d h same s Closed a e f fit = absurd (false≢true fit)
changing_effects p xs GoesUp c d h same s Opened Closed e f fit = absurd (false≢true fit)
changing_effects p xs GoesUp c d h same s Opened Opened e f fit = absurd (false≢true fit)
changing_effects p xs GoesUp c d h same s IsUp a e f fit = absurd (false≢true fit)
changing_effects p xs (Ends how) c d h same s b Closed e f fit = ending_effects p how c d h same s f
changing_effects p xs (Ends how) c d h same s Closed Opened e f fit = absurd (false≢true fit)
changing_effects p xs (Ends how) c d h same s Opened Opened e f fit = absurd (false≢true fit)
changing_effects p xs (Ends how) c d h same s IsUp Opened e f fit = absurd (false≢true fit)
changing_effects p xs (Ends how) c d h same s Closed IsUp e f fit = absurd (false≢true fit)
changing_effects p xs (Ends how) c d h same s Opened IsUp e f fit = absurd (false≢true fit)
changing_effects p xs (Ends how) c d h same s IsUp IsUp e f fit = absurd (false≢true fit)
changing_effects p xs Keeps c d h same s b a e f fit =
    let eq = kept b a fit in record {
      affected = record { effect = stays b; before = e; behind = f ∙ sym eq; marked = refl };
      sound = record { suits = s; held = ap opened same ∙ h.held ∙ ap is_held (e ∙ eq) ∙ sym (ap is_held f) };
    }
  where
    kept : (b a : Phase) → change_fits b Keeps a ≡ true → b ≡ a
    kept Closed Closed g = refl
    kept Opened Opened g = refl
    kept IsUp IsUp g = refl
    kept Closed Opened g = absurd (false≢true g)
    kept Closed IsUp g = absurd (false≢true g)
    kept Opened Closed g = absurd (false≢true g)
    kept Opened IsUp g = absurd (false≢true g)
    kept IsUp Closed g = absurd (false≢true g)
    kept IsUp Opened g = absurd (false≢true g)

-- ---- steps

-- what a verdict does, where packets of data transfer come to a given outcome
abbrev pub verdict_with : Outcome → Interface → StateName → Item → Verdict → Channel → Outcome
verdict_with out i s r Transfers c = out
verdict_with out i s r v c = verdict_step i s r v c

pub verdict_with_transfer : (i : Interface) (s : StateName) (r : Item) (v : Verdict) (c : Channel) → verdict_with (transferring i s (packet_class r.packet) r c) i s r v c ≡ verdict_step i s r v c
verdict_with_transfer i s r (Fails t n) c = refl
verdict_with_transfer i s r (Moves t) c = refl
verdict_with_transfer i s r Transfers c = refl
verdict_with_transfer i s r EndsOwed c = refl
verdict_with_transfer i s r Nothing c = refl

entry_effects : (i : Interface) (p : Bool) (r : Item) (c : Channel) (s : StateName) (out : Outcome) → Transferred r.side s c out → IsSound p c → name_fits p c.state s ≡ true → (a : Action) → entry_fits p r.side c.state (packet_class r.packet) a ≡ true → (fault : Option ℕ)
    → Effects p c (verdict_with out i s r (verdict (record { state = s; entry = a }) fault) c)
entry_effects i p r c s out t h f (Move n) g (Some e) = failing_effects p r.side s e c h f
entry_effects i p r c s out t h f (Move n) g None =
    let w = and_parts (suits p (state_named n)) (change_fits (phase_of p c.state) (call_change r.side (packet_class r.packet) n) (phase_of p (state_named n))) g in
    changing_effects p r.octets (call_change r.side (packet_class r.packet) n) c (entering n false c) h refl w.0 (phase_of p c.state) (phase_of p (state_named n)) refl refl w.1
entry_effects i p r c s out t h f Normal g (Some n) = failing_effects p r.side s n c h f
entry_effects i p r c s out (inl w) h f Normal g None = subst (λ o. Effects p c o) (sym w.1) (failing_effects p r.side s w.0 c h f)
entry_effects i p r c s out (inr w) h f Normal g None = calm_effects p c out h w.marks w.same_state w.same_opening
entry_effects i p r c s out t h f (Error n) g fault = failing_effects p r.side s n c h f
entry_effects i p r c s out t h f EndsIndication g fault = calm_effects p c (report_nothing (record c { owed = false })) h refl refl refl
entry_effects i p r c s out t h f Discard g fault = calm_effects p c (report_nothing c) h refl refl refl
entry_effects i p r c s out t h f Pass g fault = calm_effects p c (report_nothing c) h refl refl refl
entry_effects i p r c s out t h f Below g fault = calm_effects p c (report_nothing c) h refl refl refl
entry_effects i p r c s out t h f ToChannel g fault = calm_effects p c (report_nothing c) h refl refl refl

judged_fits : (p : Bool) (x : Side) (s : ChannelState) (w : Bool) (k : Class) → suits p s ≡ true → judgement_fits p x s k (judged p x s w k) ≡ true
judged_fits p x s w k h = at (suits p s) h (fits p x s w k)
  where
    at : (b : Bool) → b ≡ true → (not b || judgement_fits p x s k (judged p x s w k)) ≡ true → judgement_fits p x s k (judged p x s w k) ≡ true
    at true e f = f
    at false e f = cc

-- the column of a packet in its state
abbrev pub judged_in : (permanent : Bool) → Channel → Item → Judged
judged_in p c r = judged p r.side c.state c.owed (packet_class r.packet)

-- a packet that the tables judge has an effect, where those of data transfer fail or are calm
pub judged_effects : (i : Interface) (p : Bool) (c : Channel) (r : Item) (fault : Option ℕ) (out : Outcome) → IsSound p c → Transferred r.side (judged_in p c r).state c out
    → Effects p c (verdict_with out i (judged_in p c r).state r (verdict (judged_in p c r) fault) c)
judged_effects i p c r fault out h t =
    let j = judged_in p c r in
    let w = and_parts (name_fits p c.state j.state) (entry_fits p r.side c.state (packet_class r.packet) j.entry) (judged_fits p r.side c.state c.owed (packet_class r.packet) h.suits) in
    entry_effects i p r c j.state out t h w.0 j.entry w.1 fault

pub step_effects : (i : Interface) (n : ℕ) (c : Channel) (r : Item) → IsSound (is_permanent i n) c → Effects (is_permanent i n) c (channel_step i n c r)
step_effects i n c r h =
    let j = judged_in (is_permanent i n) c r in
    let fault = packet_fault i n c r in
    subst (λ o. Effects (is_permanent i n) c o) (verdict_with_transfer i j.state r (verdict j fault) c)
    (judged_effects i (is_permanent i n) c r fault (transferring i j.state (packet_class r.packet) r c) h (transferring_is i j.state (packet_class r.packet) r c))
