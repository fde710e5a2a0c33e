-- What the laws of calls ask of a machine.
use Rattle.std.proofs.Common.{◌≡◌, [], ℕ, ◌≤◌, Bool, true, false, Some, List, refl, sym, ◌∙◌, ap, arith}
use Rattle.std.specs.List.{filter}
use Rattle.line_model.specs.declared.event.What.{What}
use Rattle.line_model.specs.declared.gap.EpochStart.{EpochStart}
use Rattle.line_model.specs.observer.Machine.{Machine, Observer}
use Rattle.line_model.specs.observer.MachineEvents.{stamp, walk_events}
use Rattle.line_model.specs.observer.Peak.{how_many}
use Rattle.line_model.specs.pieces.Pieces.{step_events, OccursOnce}
use Rattle.line_model.specs.pieces.Merge.{is_level, OnePerRow}
use Rattle.line_model.proofs.CallSteps.{marks}
use Rattle.line_model.proofs.EventKinds.{is_opening}
use Rattle.line_model.proofs.LevelPart.{level_none}
use Rattle.line_model.proofs.OncePerRow.{one_per_row}
use Rattle.line_model.proofs.Phases.{Phase, Closed, IsUp}
use Rattle.line_model.proofs.RowOpenings.{IsOnce, end_opens_none, is_opened, opened_marks}
use Rattle.line_model.proofs.Effects.{PhaseEffect, stays, opens, reopens, replaces, rises, cancels, clears, from_of, to_of, marks_of, end_marks, is_held, Affected}

-- whether a call is up
abbrev pub occurs_up : Phase → Bool
occurs_up IsUp = true
occurs_up _ = false

-- in the states that channels reach (valid), each step has one effect on the channel's call, and its closing ends the call
-- that is open; the interface level has no events of calls
pub record MovesCalls {X L S : Type 0} (m : Machine X L S What) (is_up : ℕ → S → Bool) : Type 0 where
  pub valid : ℕ → S → Bool
  pub phase : ℕ → S → Phase
  pub is_open : S → Bool
  pub up_is : (k : ℕ) (s : S) → is_up k s ≡ occurs_up (phase k s)
  pub held : (k : ℕ) (s : S) → valid k s ≡ true → is_open s ≡ is_held (phase k s)
  pub fresh_valid : (b : EpochStart) (e k : ℕ) → valid k (m.fresh b e k) ≡ true
  pub fresh_closed : (b : EpochStart) (e k : ℕ) → phase k (m.fresh b e k) ≡ Closed
  pub stays_valid : (e k : ℕ) (s : S) (x : X) → valid k s ≡ true → valid k (m.channel_after e k s x) ≡ true
  pub affected : (e k : ℕ) (s : S) (x : X) → valid k s ≡ true → Affected (phase k s) (phase k (m.channel_after e k s x)) (m.channel_events e k s x)
  pub opens_once : (e k : ℕ) (s : S) (x : X) → IsOnce (m.channel_events e k s x)
  -- a row for all channels has no events on them
  pub silent : (e k : ℕ) (s : S) (x : X) → m.for_all x ≡ true → m.channel_events e k s x ≡ []
  pub closes : (e k : ℕ) (s : S) (x : X) → marks (m.closing_events e k s x) ≡ end_marks (is_open s)
  pub unmarked_line : (e : ℕ) (l : L) (x : X) → marks (m.level_events e l x) ≡ []
  pub positive : (k : ℕ) → OccursOnce k m.channels → 1 ≤ k

-- an effect without a mark stays in its phase
pub unmarked_stays : (old new : Phase) (ws : List What) → Affected old new ws → ws ≡ [] → new ≡ old
unmarked_stays old new ws t none = t.behind ∙ at t.effect (sym t.marked ∙ ap marks none) ∙ sym t.before
  where
    at : (t : PhaseEffect) → marks_of t ≡ [] → to_of t ≡ from_of t
    at (stays p) e = refl
    at opens e = cc
    at reopens e = cc
    at replaces e = cc
    at rises e = cc
    at cancels e = cc
    at clears e = cc

-- the events of a step in a piece are those of the channel
pub steps_are : {X L S : Type 0} → (m : Machine X L S What) → ((e k : ℕ) (s : S) (x : X) → m.for_all x ≡ true → m.channel_events e k s x ≡ [])
    → (e k : ℕ) (s : S) (x : X) → step_events m e k s x (m.for_all x) ≡ stamp e (Some k) x (m.channel_events e k s x)
steps_are m silent e k s x = at (m.for_all x) refl
  where
    at : (b : Bool) → m.for_all x ≡ b → step_events m e k s x b ≡ stamp e (Some k) x (m.channel_events e k s x)
    at true h = sym (ap (stamp e (Some k) x) (silent e k s x h))
    at false h = refl

pub one_opening : {X L S : Type 0} → (m : Machine X L S What) (is_up : ℕ → S → Bool) → MovesCalls m is_up → OnePerRow m (λ v. is_opening v.what)
one_opening m is_up h =
    one_per_row m is_opening
    (λ e k s x. let o = h.opens_once e k s x in let m = opened_marks (m.channel_events e k s x) in omega arith)
    (λ e l x. let none : how_many is_opening (m.level_events e l x) ≡ 0 = opened_marks (m.level_events e l x) ∙ ap (how_many is_opened) (h.unmarked_line e l x) in omega arith)
    (λ e k s x. opened_marks (m.closing_events e k s x) ∙ ap (how_many is_opened) (h.closes e k s x) ∙ end_opens_none (h.is_open s))

pub line_opens_none : {X L S : Type 0} → (m : Machine X L S What) (is_up : ℕ → S → Bool) → MovesCalls m is_up
    → (o : Observer L S) (xs : List X) → filter (λ v. is_opening v.what) (filter is_level (walk_events m o xs)) ≡ []
line_opens_none m is_up h o xs =
    level_none m is_opening (λ e l x. opened_marks (m.level_events e l x) ∙ ap (how_many is_opened) (h.unmarked_line e l x)) o xs
