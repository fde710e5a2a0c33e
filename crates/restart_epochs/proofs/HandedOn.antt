-- In r1 a row of a logical channel goes to it, and the restart machine stays as it is.
use Rattle.std.proofs.Common.{◌≡◌, ◌∙◌, sym, ap, refl, ℕ, Bool, true, false, true≢false, ◌&&◌, Option, Some, None}
use Rattle.line_model.specs.declared.packet.Class.{Class}
use Rattle.line_model.specs.declared.packet.Packet.TheVariants.{Channel}
use Rattle.line_model.specs.declared.packet.PacketKind.{PacketKind}
use Rattle.line_model.specs.declared.packet.PacketKind.TheVariants.{TwoOctets, RestartHere, Call, Accepted, Clear, ClearConfirm, Interrupt, InterruptConfirm, Reset, ResetConfirm, Data, Rr, Rnr, Rej, Undefined, Gap}
use Rattle.line_model.specs.declared.route.Route.TheVariants.{ToChannel}
use Rattle.line_model.specs.declared.state.RState.TheVariants.{R1}
use Rattle.line_model.specs.declared.state.Side.{Side}
use Rattle.line_model.specs.declared.state.Side.TheVariants.{T, N}
use Rattle.line_model.specs.basics.Records.{Item}
use Rattle.line_model.specs.channels.GapRestart.{GapInterfaceState, GapRouting, gap_level_step, gap_on, is_of_all, is_of_restart, is_ready, level_takes, routing, routing_by}
use Rattle.line_model.specs.channels.RestartMachine.{InterfaceState, Routing, level_step}
use Rattle.line_model.specs.packets.Classes.{kind_class, packet_class}
use Rattle.line_model.specs.packets.Says.{gap_of}
use Rattle.restart_epochs.proofs.Routes.{level_of, stepped_if}

-- it is no gap of all channels and no restart, and goes to its channel
abbrev Goes : (owed : Bool) (length channel : ℕ) → PacketKind → (joining : Bool) → Side → Type 0
Goes w n c k j x =
    (is_of_all (gap_of (Channel c k)) ≡ false) × (is_of_restart (kind_class k) ≡ false)
    × (level_step (level_of R1 w j) x (kind_class k) n ≡ record { route = ToChannel; after = level_of R1 w j })

by_case : (P : Bool → Side → Type 0) → P true T → P true N → P false T → P false N → (b : Bool) (x : Side) → P b x
by_case P joins joins_n calm calm_n true T = joins
by_case P joins joins_n calm calm_n true N = joins_n
by_case P joins joins_n calm calm_n false T = calm
by_case P joins joins_n calm calm_n false N = calm_n

goes : (w : Bool) (n c : ℕ) (k : PacketKind) (j : Bool) (x : Side) → Goes w n c k j x
goes w n c TwoOctets = by_case (Goes w n c TwoOctets) (refl, refl, refl) (refl, refl, refl) (refl, refl, refl) (refl, refl, refl)
goes w n c RestartHere = by_case (Goes w n c RestartHere) (refl, refl, refl) (refl, refl, refl) (refl, refl, refl) (refl, refl, refl)
goes w n c Call = by_case (Goes w n c Call) (refl, refl, refl) (refl, refl, refl) (refl, refl, refl) (refl, refl, refl)
goes w n c Accepted = by_case (Goes w n c Accepted) (refl, refl, refl) (refl, refl, refl) (refl, refl, refl) (refl, refl, refl)
goes w n c Clear = by_case (Goes w n c Clear) (refl, refl, refl) (refl, refl, refl) (refl, refl, refl) (refl, refl, refl)
goes w n c ClearConfirm = by_case (Goes w n c ClearConfirm) (refl, refl, refl) (refl, refl, refl) (refl, refl, refl) (refl, refl, refl)
goes w n c Interrupt = by_case (Goes w n c Interrupt) (refl, refl, refl) (refl, refl, refl) (refl, refl, refl) (refl, refl, refl)
goes w n c InterruptConfirm = by_case (Goes w n c InterruptConfirm) (refl, refl, refl) (refl, refl, refl) (refl, refl, refl) (refl, refl, refl)
goes w n c Reset = by_case (Goes w n c Reset) (refl, refl, refl) (refl, refl, refl) (refl, refl, refl) (refl, refl, refl)
goes w n c ResetConfirm = by_case (Goes w n c ResetConfirm) (refl, refl, refl) (refl, refl, refl) (refl, refl, refl) (refl, refl, refl)
goes w n c (Data h) = by_case (Goes w n c (Data h)) (refl, refl, refl) (refl, refl, refl) (refl, refl, refl) (refl, refl, refl)
goes w n c (Rr m) = by_case (Goes w n c (Rr m)) (refl, refl, refl) (refl, refl, refl) (refl, refl, refl) (refl, refl, refl)
goes w n c (Rnr m) = by_case (Goes w n c (Rnr m)) (refl, refl, refl) (refl, refl, refl) (refl, refl, refl) (refl, refl, refl)
goes w n c Rej = by_case (Goes w n c Rej) (refl, refl, refl) (refl, refl, refl) (refl, refl, refl) (refl, refl, refl)
goes w n c Undefined = by_case (Goes w n c Undefined) (refl, refl, refl) (refl, refl, refl) (refl, refl, refl) (refl, refl, refl)
goes w n c Gap = by_case (Goes w n c Gap) (refl, refl, refl) (refl, refl, refl) (refl, refl, refl) (refl, refl, refl)

and_no : (b : Bool) → (b && false) ≡ false
and_no true = refl
and_no false = refl

pub handed_on : (g : GapInterfaceState) (r : Item) (c : ℕ) (k : PacketKind) → r.packet ≡ Channel c k → g.level.state ≡ R1 → record { route = ToChannel; after = g } ≡ routing g r
handed_on g r c k is r1 = sym (at (gap_of (Channel c k)) fits.0) ∙ ap (λ p. routing_by (gap_of p) g r.side (packet_class p) r.length) (sym is)
  where
    w : Bool
    w = g.level.owed

    j : Bool
    j = g.level.joining

    fits : Goes w r.length c k j r.side
    fits = goes w r.length c k j r.side

    stays : level_step g.level r.side (kind_class k) r.length ≡ record { route = ToChannel; after = g.level }
    stays = ap (λ s. level_step (level_of s w j) r.side (kind_class k) r.length) r1 ∙ fits.2 ∙ ap (λ s. record { route = ToChannel; after = level_of s w j }) (sym r1)

    at : (o : Option (Option ℕ)) → is_of_all o ≡ false → routing_by o g r.side (kind_class k) r.length ≡ record { route = ToChannel; after = g }
    at None h =
        ap (λ v. stepped_if v g r.side (kind_class k) r.length) (ap (λ b. g.adrift && is_ready g && b) fits.1 ∙ and_no (g.adrift && is_ready g))
        ∙ ap (level_takes g) stays
    at (Some None) h = absurd (true≢false h)
    at (Some (Some d)) h = ap (λ s. gap_on s g) r1
