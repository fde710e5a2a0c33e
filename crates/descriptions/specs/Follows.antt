-- Which finding another one may follow from (profile).
--
-- The packet of a finding did not count, or the DCE clears or resets its channel, and a side may not know that. So later findings on the channel
-- may follow from it, until both sides have cleared or reset the channel since, or the epoch ends.
use Rattle.std.specs.Prelude.{◌≡◌, ℕ, ◌==◌, ◌&&◌, ◌||◌, nat_le, not, Bool, true, false, List, [], ◌∷◌, Option, None, Some, option_and_then, unwrap_or, if◌then◌else◌}
use Rattle.line_model.specs.basics.Records.{Item}
use Rattle.line_model.specs.channels.Channels.{Channel}
use Rattle.line_model.specs.channels.Gaps.{GapChannel}
use Rattle.line_model.specs.channels.GapRestart.{GapInterfaceState}
use Rattle.line_model.specs.declared.diagnostic.TheConstants.{INCONSISTENT_Q_BIT_SETTING, PACKET_TYPE_INVALID_FOR_STATE_D3, UNAUTHORIZED_INTERRUPT, UNAUTHORIZED_INTERRUPT_CONFIRMATION}
use Rattle.line_model.specs.declared.finding.Code.{Code}
use Rattle.line_model.specs.declared.finding.Code.TheVariants.{Number, Pad}
use Rattle.line_model.specs.declared.finding.Finding.{Finding}
use Rattle.line_model.specs.declared.interface.Interface.{Interface}
use Rattle.line_model.specs.declared.packet.Packet.{Packet}
use Rattle.line_model.specs.declared.packet.Packet.TheVariants as packet
use Rattle.line_model.specs.declared.packet.PacketKind.{PacketKind}
use Rattle.line_model.specs.declared.packet.PacketKind.TheVariants as kind
use Rattle.line_model.specs.declared.state.ChannelState.{ChannelState}
use Rattle.line_model.specs.declared.state.ChannelState.TheVariants.{Setup, Transfer}
use Rattle.line_model.specs.declared.state.DState.TheVariants.{D1}
use Rattle.line_model.specs.declared.state.PState.TheVariants.{P1}
use Rattle.line_model.specs.declared.state.Side.{Side}
use Rattle.line_model.specs.declared.state.Side.TheVariants.{T, N}
use Rattle.line_model.specs.observer.Machine.{Observer, after, routed}
use Rattle.line_model.specs.observer.Observer.{start, x25}
use Rattle.line_model.specs.observer.Report.{findings_of}
use Rattle.channel_run.specs.Run.{row_events}
use Rattle.restart_epochs.specs.ChannelTables.{value_at}
use Rattle.restart_epochs.specs.Cutting.{observer}
use Rattle.descriptions.specs.RowCalls.{KeepsCalls}
use Rattle.descriptions.specs.declared.origins.Origin.{Origin}
use Rattle.descriptions.specs.declared.origins.Origins.{Origins}

-- whether a code says that a packet does not fit what came before it on its channel; every other code is of the packet alone
abbrev pub is_of_course : Code → Bool
is_of_course (Pad x) = true
is_of_course (Number n) = nat_le n PACKET_TYPE_INVALID_FOR_STATE_D3 || ((n == UNAUTHORIZED_INTERRUPT_CONFIRMATION) || ((n == UNAUTHORIZED_INTERRUPT) || (n == INCONSISTENT_Q_BIT_SETTING)))

-- whether a packet clears or resets a channel, or confirms that
abbrev pub is_renewing_kind : PacketKind → Bool
is_renewing_kind kind.Clear = true
is_renewing_kind kind.ClearConfirm = true
is_renewing_kind kind.Reset = true
is_renewing_kind kind.ResetConfirm = true
is_renewing_kind _ = false

abbrev pub is_renewing : Packet → Bool
is_renewing (packet.Channel k what) = is_renewing_kind what
is_renewing _ = false

-- whether a channel waits for no answer: it is in p1 or d1
abbrev pub is_at_rest : ChannelState → Bool
is_at_rest (Setup P1) = true
is_at_rest (Transfer D1) = true
is_at_rest _ = false

-- the number of the first finding, where it is of this epoch
abbrev pub first_in : (epoch : ℕ) → Option Origin → Option ℕ
first_in e None = None
first_in e (Some q) = if q.epoch == e then Some q.first else None

-- after a finding: the first one stays the first; a fault of a PAD message moves no state, and its data counts
abbrev pub after_finding : (epoch number : ℕ) → Code → Option Origin → Option Origin
after_finding e n (Pad x) q = q
after_finding e n (Number c) q = Some (record { epoch = e; first = unwrap_or (first_in e q) n; by_t = false; by_n = false })

-- a side has cleared or reset the channel, or confirmed that
abbrev pub seen_by : Side → Origin → Origin
seen_by T q = record q { by_t = true }
seen_by N q = record q { by_n = true }

-- where both sides have, and no answer is awaited, nothing follows any more
abbrev pub unless_settled : ChannelState → Origin → Option Origin
unless_settled s q = if is_at_rest s && (q.by_t && q.by_n) then None else Some q

-- after a packet without a finding, by its channel after it; while the DCE owes its indication, only the DTE's part may have been done
abbrev pub after_packet : Side → Packet → ChannelState → (owed : Bool) → Origin → Option Origin
after_packet x p s owed q = if is_renewing p && not owed then unless_settled s (seen_by x q) else Some q

-- after a row of the channel, by its findings
abbrev pub after_row : (epoch : ℕ) → Item → Channel → List Finding → Option Origin → Option Origin
after_row e r c [] q = option_and_then (after_packet r.side r.packet c.state c.owed) q
after_row e r c (f ∷ fs) q = after_finding e r.number f.code q

-- whether it is this channel that receives a row
abbrev pub is_taken_by : (channel : ℕ) → (taker : Option ℕ) → Bool
is_taken_by k None = false
is_taken_by k (Some n) = n == k

-- where the findings of a channel began, after a row
abbrev pub origin_at : Interface → Observer GapInterfaceState GapChannel → Item → (channel : ℕ) → Option Origin → Option Origin
origin_at i o r k q =
    if is_taken_by k (routed (x25 i) o.level r)
    then after_row o.epoch r ((after (x25 i) o r).states k).channel (findings_of (row_events i o.epoch k (o.states k) r)) q
    else q

-- after rows
abbrev pub origin_from : Interface → Observer GapInterfaceState GapChannel → (channel : ℕ) → Option Origin → List Item → Option Origin
origin_from i o k q [] = q
origin_from i o k q (r ∷ rs) = origin_from i (after (x25 i) o r) k (origin_at i o r k q) rs

abbrev pub origin_of : Interface → List Item → (channel : ℕ) → Option Origin
origin_of i rs k = origin_from i (start i) k None rs

-- the number of the finding from which one on a channel may follow
abbrev pub follows_from : (epoch : ℕ) → Option Origin → Option Finding → Option ℕ
follows_from e q None = None
follows_from e q (Some f) = if is_of_course f.code then first_in e q else None

-- on the channel that received its row; where the restart machine judged it, it follows from none
abbrev pub follows_on : Interface → (earlier : List Item) → (taker : Option ℕ) → Option Finding → Option ℕ
follows_on i earlier None found = None
follows_on i earlier (Some k) found = follows_from (observer i earlier).epoch (origin_of i earlier k) found

abbrev pub follows_at : Interface → (earlier : List Item) → Item → Option Finding → Option ℕ
follows_at i earlier r found = follows_on i earlier (routed (x25 i) (observer i earlier).level r) found

-- it keeps, of these rows, the epoch of the next one, where the findings of each channel began, and the call that is open there
pub record KeepsOrigins {A : Type 0} (i : Interface) (rs : List Item) (o : Origins A) : Type 0 where
  pub epoch : o.epoch ≡ (observer i rs).epoch
  pub values : (k : ℕ) → value_at o.table k ≡ origin_of i rs k
  pub calls : KeepsCalls i rs o.calls
