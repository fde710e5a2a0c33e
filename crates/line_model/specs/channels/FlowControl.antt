-- Sequence numbers, windows and interrupts (X.25 clauses 4.3 and 4.4.1).
use Rattle.std.specs.Prelude.{ℕ, Bool, true, false, ◌==◌, nat_lt, ◌&&◌, ◌+◌, ◌-◌, ◌%◌, List, length, filter, find, Option, Some, None, Result, Ok, Err}
use Rattle.line_model.specs.declared.state.Side.{Side}
use Rattle.line_model.specs.declared.state.Side.TheVariants.{T, N}
use Rattle.line_model.specs.declared.diagnostic.TheConstants.{INVALID_P_S, INVALID_P_R, UNAUTHORIZED_INTERRUPT_CONFIRMATION, UNAUTHORIZED_INTERRUPT}
use Rattle.std.specs.List.{range_with_len}
use Rattle.line_model.specs.channels.Channels.{AcceptedData, Sides, of_side, with_side, other}

-- whether two sides are the same
abbrev pub is_side : Side → Side → Bool
is_side T T = true
is_side N N = true
is_side _ _ = false

-- the data packets of a side
abbrev pub packets_of : Side → List AcceptedData → List AcceptedData
packets_of x hs = filter (λ h. is_side x h.side) hs

-- how many data packets a side has sent since d1 was entered
abbrev pub sent : Side → List AcceptedData → ℕ
sent x hs = length (packets_of x hs)

-- P(S) is the next number, and is in the window (4.4.1.1, 4.4.1.2)
abbrev pub is_send_valid : (modulus window sent acknowledged number : ℕ) → Bool
is_send_valid m w s a n = (n == s % m) && nat_lt (s - a) w

-- the count that P(R) acknowledges, from `acknowledged` to `sent`, if there is one (4.4.1.2, 4.4.1.3)
abbrev pub count_acknowledged : (modulus sent acknowledged number : ℕ) → Option ℕ
count_acknowledged m s a n = find (λ k. k % m == n) (range_with_len a (s + 1 - a))

-- the counts of an interface's two directions since d1 was entered, and its interrupts
pub record Counts : Type 0 where
  pub sent : Sides ℕ
  pub acknowledged : Sides ℕ
  pub unconfirmed : Sides Bool

-- nothing was sent
abbrev pub no_counts : Counts
no_counts = record {
  sent = record { of_t = 0; of_n = 0 };
  acknowledged = record { of_t = 0; of_n = 0 };
  unconfirmed = record { of_t = false; of_n = false };
}

-- a P(R) of a side acknowledges packets of the other
abbrev pub count_receive : (modulus : ℕ) → Counts → Side → (receive : ℕ) → Result Counts ℕ
count_receive m c x pr =
    elim (count_acknowledged m (of_side (other x) c.sent) (of_side (other x) c.acknowledged) pr) [
      | Some k ↦ Ok (record c { acknowledged = with_side (other x) k c.acknowledged })
      | None ↦ Err INVALID_P_R
    ]

-- a data packet of a side: P(S) first, then P(R)
abbrev pub count_data : (modulus window : ℕ) → Counts → Side → (send receive : ℕ) → Result Counts ℕ
count_data m w c x ps pr =
    elim (is_send_valid m w (of_side x c.sent) (of_side x c.acknowledged) ps) [
      | true ↦ count_receive m (record c { sent = with_side x (of_side x c.sent + 1) c.sent }) x pr
      | false ↦ Err INVALID_P_S
    ]

-- an interrupt of a side, whose interrupt before was confirmed
abbrev pub count_interrupt : Counts → Side → Result Counts ℕ
count_interrupt c x =
    elim (of_side x c.unconfirmed) [
      | true ↦ Err UNAUTHORIZED_INTERRUPT
      | false ↦ Ok (record c { unconfirmed = with_side x true c.unconfirmed })
    ]

-- the confirmation of an interrupt of the other side
abbrev pub count_confirm : Counts → Side → Result Counts ℕ
count_confirm c x =
    elim (of_side (other x) c.unconfirmed) [
      | false ↦ Err UNAUTHORIZED_INTERRUPT_CONFIRMATION
      | true ↦ Ok (record c { unconfirmed = with_side (other x) false c.unconfirmed })
    ]

-- the counts of a list of data packets that were accepted
abbrev pub sent_by : List AcceptedData → Sides ℕ
sent_by hs = record { of_t = sent T hs; of_n = sent N hs }
