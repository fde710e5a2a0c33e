-- One call of a trace, as its events come: whether it is open, and where.
use Rattle.std.specs.Prelude.{◌≡◌, ℕ, ◌-◌, ◌≤◌, ◌==◌, ◌&&◌, Bool, true, false, List, Option, None, Some, IfSome, length}
use Rattle.line_model.specs.declared.event.Event.{Event}
use Rattle.line_model.specs.declared.interface.Interface.{Interface}
use Rattle.line_model.specs.declared.state.RState.{RState}
use Rattle.line_model.specs.declared.state.RState.TheVariants.{R1}
use Rattle.line_model.specs.basics.Records.{Item}
use Rattle.line_model.specs.observer.Calls.{calls_of, is_end, is_opening}
use Rattle.line_model.specs.channels.GapRestart.{is_ready}
use Rattle.line_model.specs.observer.Observer.{events}
use Rattle.restart_epochs.specs.Cutting.{observer}
use Rattle.annotated_trace.specs.Rows.{has_open}
use Rattle.descriptions.specs.declared.call_rows.CallRows.{CallRows}
use Rattle.descriptions.specs.declared.call_rows.Place.{Place}

-- whether a place is this one
abbrev pub is_at : (epoch channel : ℕ) → Option Place → Bool
is_at e k None = false
is_at e k (Some p) = (p.epoch == e) && (p.channel == k)

-- whether a place is in an epoch
abbrev pub is_in : (epoch : ℕ) → Option Place → Bool
is_in e None = false
is_in e (Some p) = p.epoch == e

-- whether a gap, where there is one, in a state of the restart machine steps each channel
abbrev pub steps_each : (gap : Option (Option ℕ)) → RState → Bool
steps_each (Some None) R1 = true
steps_each _ _ = false

-- it represents those of these events that are of an epoch
pub record IsAfter (e : ℕ) (es : List Event) (w : CallRows) : Type 0 where
  pub to_come : w.to_come ≡ w.number - length (calls_of es)
  pub place : (k : ℕ) → has_open w.number e k (calls_of es) ≡ is_at e k w.place
  pub known : IfSome w.place (λ p. p.epoch ≤ e)

-- it represents these rows of a trace: where rows go to channels, it is open as the definitions' observer has it
pub record Follows (i : Interface) (rs : List Item) (w : CallRows) : Type 0 where
  pub to_come : w.to_come ≡ w.number - length (calls_of (events i rs))
  pub place : is_ready (observer i rs).level ≡ true → (k : ℕ) → has_open w.number (observer i rs).epoch k (calls_of (events i rs)) ≡ is_at (observer i rs).epoch k w.place
  pub known : IfSome w.place (λ p. p.epoch ≤ (observer i rs).epoch)

-- an event that opens a call on a logical channel in an epoch
pub record OpensAt (e k : ℕ) (f : Event) : Type 0 where
  pub epoch : f.epoch ≡ e
  pub channel : f.channel ≡ k
  pub opening : is_opening f ≡ true
  pub no_end : is_end f ≡ false

-- one that ends a call
pub record EndsAt (e k : ℕ) (f : Event) : Type 0 where
  pub epoch : f.epoch ≡ e
  pub channel : f.channel ≡ k
  pub no_opening : is_opening f ≡ false
  pub end : is_end f ≡ true
