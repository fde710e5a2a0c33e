-- The call of a channel.
use Rattle.std.proofs.Common.{◌≡◌, ◌⊎◌, inl, inr, Bool, true, false, true≢false, refl, sym, ◌∙◌, ap, List, [], ◌∷◌, Option, Some, None}
use Rattle.std.specs.Prelude.{option_map, is_none, IfNone}
use Rattle.line_model.specs.declared.event.How.{How}
use Rattle.line_model.specs.declared.event.Event.{Event}
use Rattle.line_model.specs.declared.event.What.{What}
use Rattle.line_model.specs.declared.event.What.TheVariants.{End}
use Rattle.line_model.specs.channels.ChannelStep.{Outcome, report_nothing, ending, ending_open, and_then, entering, after_error}
use Rattle.line_model.specs.declared.state.StateName.{StateName}
use Rattle.line_model.specs.declared.state.StateName.TheVariants.{Dash, R1, R2, R3, P1, P2, P3, P4, P5, P6, P7, D1, D2, D3}
use Rattle.line_model.specs.declared.event.How as how
use Rattle.line_model.specs.channels.Channels.{Channel, Opening}
use Rattle.channel_machine.specs.declared.terms.Opened.{Opened}
use Rattle.channel_machine.specs.declared.events.EventOrigin.{EventOrigin}
use Rattle.channel_machine.specs.TermsRepresent.{opened_of}
use Rattle.channel_machine.specs.Events.{Reports}
use Rattle.channel_machine.specs.Channels.{Known, Does}
use Rattle.channel_machine.proofs.Reporting.{more}

-- a channel whose call has ended
abbrev pub ended : How → Channel → Outcome
ended h c = record { reported = End h ∷ []; after = record c { opening = None; accepting = None; pad_messages = [] } }

ends_by : (h : How) (c : Channel) (o : Option Opening) (v : Opened) → option_map opened_of o ≡ Some v →
    ending h (record c { opening = o }) ≡ ended h (record c { opening = o })
ends_by h c None v e = absurd (true≢false (ap (λ o. is_none o) e))
ends_by h c (Some o) v e = refl

pub ends : (h : How) (c : Channel) (terms : Option Opened) (v : Opened) → terms ≡ option_map opened_of c.opening → terms ≡ Some v →
    ended h c ≡ ending h c
ends h c terms v represented e = sym (ends_by h c c.opening v (sym represented ∙ e))

none_by : (h : How) (c : Channel) (o : Option Opening) → option_map opened_of o ≡ None → report_nothing (record c { opening = o }) ≡ ending h (record c { opening = o })
none_by h c None e = refl
none_by h c (Some o) e = absurd (true≢false (sym (ap (λ v. is_none v) e)))

pub ends_none : (h : How) (c : Channel) (call : Option Opened) → call ≡ option_map opened_of c.opening → call ≡ None → report_nothing c ≡ ending h c
ends_none h c call represented e = none_by h c c.opening (sym represented ∙ e)

-- some events, and then an outcome
pub after_events : (s : EventOrigin) (old mid new : Known) (before between after : List Event) (vs : List What) (c : Channel) (f : Channel → Outcome) →
    mid.terms.interface ≡ old.terms.interface → mid.channel ≡ old.channel → Reports s before between vs →
    Does s mid new between after (f c) → Does s old new before after (and_then (record { reported = vs; after = c }) f)
after_events s old mid new before between after vs c f interface channel first d = record {
  interface = d.interface ∙ interface;
  channel = d.channel ∙ channel;
  represented = d.represented;
  reports = more s before between after vs (f c).reported first d.reports;
}

-- a call that is opened where the state was entered, and the same entered once more
reopens_by : (h : How) (to : StateName) (c : Channel) (o : Option Opening) (v : Option Opening) →
    entering to false (record (ending h (entering to false (record c { opening = o }))).after { opening = v })
    ≡ record (ending h (entering to false (record c { opening = o }))).after { opening = v }
reopens_by h to c None v = refl
reopens_by h to c (Some o) v = refl

pub reopens : (h : How) (to : StateName) (c : Channel) (v : Option Opening) →
    entering to false (record (ending h (entering to false c)).after { opening = v }) ≡ record (ending h (entering to false c)).after { opening = v }
reopens h to c v = reopens_by h to c c.opening v

-- a channel whose call ended has no answer to one
bare_by : (h : How) (o : Option Opening) (c : Channel) → IfNone o (c.accepting ≡ None) → (ending_open h o c).after.accepting ≡ None
bare_by h None c bare = bare
bare_by h (Some o) c bare = refl

pub bare_after : (h : How) (to : StateName) (owed : Bool) (c : Channel) → IfNone c.opening (c.accepting ≡ None) → (ending h (entering to owed c)).after.accepting ≡ None
bare_after h to owed c bare = bare_by h c.opening (entering to owed c) (by c.opening bare)
  where
    by : (o : Option Opening) → IfNone o (c.accepting ≡ None) → IfNone o ((entering to owed c).accepting ≡ None)
    by None b = b
    by (Some o) b = b

-- an error resets in data transfer, and clears the call elsewhere
pub error_leads : (s : StateName) → ((c : Channel) → after_error s c ≡ report_nothing (entering D3 true c)) ⊎ ((c : Channel) → after_error s c ≡ ending how.TheVariants.N (entering P7 true c))
error_leads D1 = inl (λ c. refl)
error_leads D2 = inl (λ c. refl)
error_leads D3 = inl (λ c. refl)
error_leads Dash = inr (λ c. refl)
error_leads R1 = inr (λ c. refl)
error_leads R2 = inr (λ c. refl)
error_leads R3 = inr (λ c. refl)
error_leads P1 = inr (λ c. refl)
error_leads P2 = inr (λ c. refl)
error_leads P3 = inr (λ c. refl)
error_leads P4 = inr (λ c. refl)
error_leads P5 = inr (λ c. refl)
error_leads P6 = inr (λ c. refl)
error_leads P7 = inr (λ c. refl)

-- an error outside data transfer clears the call
pub gives_up : (s : StateName) (c : Channel) → (s ≡ D1 → ⊥) → (s ≡ D2 → ⊥) → (s ≡ D3 → ⊥) →
    ending how.TheVariants.N (entering P7 true c) ≡ after_error s c
gives_up Dash c a b d = refl
gives_up R1 c a b d = refl
gives_up R2 c a b d = refl
gives_up R3 c a b d = refl
gives_up P1 c a b d = refl
gives_up P2 c a b d = refl
gives_up P3 c a b d = refl
gives_up P4 c a b d = refl
gives_up P5 c a b d = refl
gives_up P6 c a b d = refl
gives_up P7 c a b d = refl
gives_up D1 c a b d = absurd (a refl)
gives_up D2 c a b d = absurd (b refl)
gives_up D3 c a b d = absurd (d refl)
