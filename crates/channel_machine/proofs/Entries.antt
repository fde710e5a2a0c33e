-- The entries of the tables, and the packets that they represent.
use Rattle.std.proofs.Common.{◌≡◌, Bool, true, false, true≢false, refl, sym}
use Rattle.line_model.specs.declared.packet.Class.{Class}
use Rattle.line_model.specs.declared.packet.Class.TheVariants.{Data, Interrupt, InterruptConfirm, Rr, Rnr}
use Rattle.line_model.specs.declared.state.DState.TheVariants as transfer
use Rattle.line_model.specs.declared.state.Side.{Side}
use Rattle.line_model.specs.declared.state.Side.TheVariants.{T, N}
use Rattle.line_model.specs.declared.state.StateName.TheVariants.{D1}
use Rattle.line_model.specs.declared.table.Action.TheVariants.{Normal}
use Rattle.line_model.specs.channels.GapStep.{is_in_d1}
use Rattle.line_model.specs.declared.state.ChannelState.{ChannelState}
use Rattle.line_model.specs.declared.state.ChannelState.TheVariants.{Setup, Transfer, Unknown}
use Rattle.line_model.specs.channels.ChannelStep.{judged}
use Rattle.line_model.proofs.Every.{every, flags, sides, states, classes, every_flag, every_side, every_state, every_class}
use Rattle.channel_machine.specs.Entries.{comes_from, is_entry, is_transfer}

abbrev table_fits : (permanent : Bool) → Side → ChannelState → (owed : Bool) → Class → Bool
table_fits p x s w k = is_entry (judged p x s w k).entry x k s

all_fit : every (λ p. every (λ x. every (λ s. every (λ w. every (λ k. table_fits p x s w k) classes) flags) states) sides) flags ≡ true
all_fit = refl

pub fits : (p : Bool) (x : Side) (s : ChannelState) (w : Bool) (k : Class) → is_entry (judged p x s w k).entry x k s ≡ true
fits p x s w k =
    every_class (λ k. table_fits p x s w k)
    (every_flag (λ w. every (λ k. table_fits p x s w k) classes)
    (every_state (λ s. every (λ w. every (λ k. table_fits p x s w k) classes) flags)
    (every_side (λ x. every (λ s. every (λ w. every (λ k. table_fits p x s w k) classes) flags) states)
    (every_flag (λ p. every (λ x. every (λ s. every (λ w. every (λ k. table_fits p x s w k) classes) flags) states) sides) all_fit p) x) s) w) k

abbrev table_comes : (permanent : Bool) → Side → ChannelState → (owed : Bool) → Class → Bool
table_comes p x s w k = comes_from (judged p x s w k).entry s

all_come : every (λ p. every (λ x. every (λ s. every (λ w. every (λ k. table_comes p x s w k) classes) flags) states) sides) flags ≡ true
all_come = refl

pub comes : (p : Bool) (x : Side) (s : ChannelState) (w : Bool) (k : Class) → comes_from (judged p x s w k).entry s ≡ true
comes p x s w k =
    every_class (λ k. table_comes p x s w k)
    (every_flag (λ w. every (λ k. table_comes p x s w k) classes)
    (every_state (λ s. every (λ w. every (λ k. table_comes p x s w k) classes) flags)
    (every_side (λ x. every (λ s. every (λ w. every (λ k. table_comes p x s w k) classes) flags) states)
    (every_flag (λ p. every (λ x. every (λ s. every (λ w. every (λ k. table_comes p x s w k) classes) flags) states) sides) all_come p) x) s) w) k

-- in d1 every packet of data transfer is normal
in_d1 : (p : Bool) (x : Side) (w : Bool) (k : Class) → is_transfer k ≡ true → record { state = D1; entry = Normal } ≡ judged p x (Transfer transfer.D1) w k
in_d1 true T w Data e = refl
in_d1 true T w Interrupt e = refl
in_d1 true T w InterruptConfirm e = refl
in_d1 true T w Rr e = refl
in_d1 true T w Rnr e = refl
in_d1 true N w Data e = refl
in_d1 true N w Interrupt e = refl
in_d1 true N w InterruptConfirm e = refl
in_d1 true N w Rr e = refl
in_d1 true N w Rnr e = refl
in_d1 false T w Data e = refl
in_d1 false T w Interrupt e = refl
in_d1 false T w InterruptConfirm e = refl
in_d1 false T w Rr e = refl
in_d1 false T w Rnr e = refl
in_d1 false N w Data e = refl
in_d1 false N w Interrupt e = refl
in_d1 false N w InterruptConfirm e = refl
in_d1 false N w Rr e = refl
in_d1 false N w Rnr e = refl
in_d1 p x w k e = absurd (true≢false (sym e))

pub normal : (p : Bool) (x : Side) (s : ChannelState) (w : Bool) (k : Class) → is_transfer k ≡ true → is_in_d1 s ≡ true → record { state = D1; entry = Normal } ≡ judged p x s w k
normal p x (Transfer transfer.D1) w k e d = in_d1 p x w k e
normal p x (Transfer transfer.D2) w k e d = absurd (true≢false (sym d))
normal p x (Transfer transfer.D3) w k e d = absurd (true≢false (sym d))
normal p x (Setup q) w k e d = absurd (true≢false (sym d))
normal p x Unknown w k e d = absurd (true≢false (sym d))
