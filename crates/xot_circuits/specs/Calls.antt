-- The call of a circuit.
use Rattle.std.specs.Prelude.{◌≡◌, ℕ, ◌+◌, ◌*◌, ◌%◌, ◌==◌, ◌&&◌, ◌||◌, Bool, true, false, not, List, [], ◌∷◌, ◌++◌, Option, Some, None, unwrap_or, if◌then◌else◌}
use Rattle.std.specs.List.{AllByRecursion}
use Rattle.line_model.specs.channels.Channels.{other}
use Rattle.line_model.specs.declared.state.Side.{Side}
use Rattle.line_model.specs.declared.state.Side.TheVariants.{T, N}
use Rattle.xot_circuits.specs.Joining.{modulus_of}
use Rattle.xot_circuits.specs.declared.call.Head.{Head}
use Rattle.xot_circuits.specs.declared.call.Call.{Call}
use Rattle.xot_circuits.specs.declared.call.Clearing.{Clearing}
use Rattle.xot_circuits.specs.declared.call.Clearing.TheVariants.{Open, By, Confirmed}

abbrev pub is_long : List ℕ → Bool
is_long [] = false
is_long (x ∷ xs) = true

-- what the first three octets of a packet say
abbrev pub head_of : List ℕ → Option Head
head_of (a ∷ b ∷ c ∷ xs) = Some (record { modulus = modulus_of a; channel = a % 16 * 256 + b; kind = c; is_long = is_long xs })
head_of xs = None

abbrev pub is_t : Side → Bool
is_t T = true
is_t N = false

abbrev pub new_call : (is_called : Bool) → Call
new_call called = record { is_permanent = false; is_called = called; caller = None; clearing = Open; is_spoiled = false }

-- the other side answers a clear; the same side repeats it
abbrev pub answered : (side by : Side) → Clearing
answered T T = By T
answered T N = Confirmed
answered N T = Confirmed
answered N N = By N

-- a call request begins a call, a clear ends it, and a confirmation or a clear of the other side answers that
abbrev pub clearing_by : Side → (kind : ℕ) → Clearing → Clearing
clearing_by s kind Open = if kind == 0x13 then By s else Open
clearing_by s kind (By t) = if kind == 0x13 || kind == 0x17 then answered s t else By t
clearing_by s kind Confirmed = Confirmed

abbrev pub clearing_after : Side → (kind : ℕ) → Clearing → Clearing
clearing_after s kind c = if kind == 0x0B then Open else clearing_by s kind c

abbrev pub is_confirmed : Clearing → Bool
is_confirmed Open = false
is_confirmed (By s) = false
is_confirmed Confirmed = true

-- a clear has a cause; after a confirmed clear the DTE sends nothing but a call request
abbrev pub spoils : Side → Head → Clearing → Bool
spoils s h c = (h.kind == 0x13 && not h.is_long) || (is_confirmed c && (is_t s && not (h.kind == 0x0B)))

abbrev pub after_packet : Side → Head → Call → Call
after_packet s h c = record {
  is_permanent = c.is_permanent;
  is_called = c.is_called || h.kind == 0x0B;
  caller = if h.kind == 0x0B then Some (unwrap_or c.caller s) else c.caller;
  clearing = clearing_after s h.kind c.clearing;
  is_spoiled = c.is_spoiled || spoils s h c.clearing;
}

abbrev pub after_gap : Call → Call
after_gap c = record c { is_spoiled = c.is_spoiled || is_confirmed c.clearing }

-- the channel is surely in p1
abbrev pub is_clear : Call → Bool
is_clear c = is_confirmed c.clearing && (not c.is_spoiled && not c.is_permanent)

-- what a recorder has of a call: a packet of a side, or a gap
pub data Step : Type 0 where
  Sent : Side → Head → Step
  Missed : Step

abbrev pub after_step : Step → Call → Call
after_step (Sent s h) c = after_packet s h c
after_step Missed c = after_gap c

abbrev pub after_steps : List Step → Call → Call
after_steps [] c = c
after_steps (s ∷ ss) c = after_steps ss (after_step s c)

abbrev pub IsOfN : Step → Type 0
IsOfN (Sent N h) = Unit {0}
IsOfN (Sent T h) = ⊥
IsOfN Missed = ⊥

-- of these steps one answers the clear of the other side, and only packets of the DCE come after it
pub record IsAnswered (steps : List Step) (c : Call) : Type 0 where
  pub before : List Step
  pub after : List Step
  pub side : Side
  pub head : Head
  pub steps_are : steps ≡ before ++ Sent side head ∷ after
  pub cleared : (after_steps before c).clearing ≡ By (other side)
  pub answers : (head.kind == 0x13 || head.kind == 0x17) ≡ true
  pub quiet : AllByRecursion IsOfN after

abbrev pub ClearIsAnswered : Type 0
ClearIsAnswered = (steps : List Step) (called : Bool) → is_clear (after_steps steps (new_call called)) ≡ true → IsAnswered steps (new_call called)
