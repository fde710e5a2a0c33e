-- Data packets as rows say them, and the other packets of data transfer.
use Rattle.std.proofs.Common.{◌≡◌, ◌-◌, ℕ, Bool, true, false, true≢false, refl, sym, ◌∙◌, ap, List, [], length, drop, Option, Some}
use Rattle.std.proofs.lemmas.List.{length-drop}
use Rattle.std.specs.Prelude.{if◌then◌else◌, not, unwrap_or, ◌==◌}
use Rattle.line_model.specs.basics.Records.{Item}
use Rattle.line_model.specs.channels.Channels.{Channel}
use Rattle.line_model.specs.channels.ChannelStep.{counting, counts_of, accepted_of, transferring}
use Rattle.line_model.specs.channels.FlowControl.{count_receive}
use Rattle.line_model.specs.declared.interface.Interface.{Interface}
use Rattle.line_model.specs.declared.packet.Class.{Class}
use Rattle.line_model.specs.declared.packet.Class.TheVariants.{Data, Interrupt, InterruptConfirm}
use Rattle.line_model.specs.declared.packet.DataHeader.{DataHeader}
use Rattle.line_model.specs.declared.state.Side.{Side}
use Rattle.line_model.specs.declared.state.StateName.{StateName}
use Rattle.line_model.specs.packets.Classes.{header_length}
use Rattle.line_model.specs.packets.Says.{receive_in}
use Rattle.data_transfer.specs.Assembly.{unqualified}
use Rattle.packet_decode.specs.SaidData.{IsSaidData}
use Rattle.channel_machine.specs.Entries.{is_unqualified}
use Rattle.channel_machine.specs.Transfers.{packet}

-- a header of data that is not unqualified
pub has_q_1 : (o : Option DataHeader) (h : DataHeader) → o ≡ Some h → is_unqualified o ≡ false → h.qualified ≡ true
has_q_1 o h e without = by h.qualified refl
  where
    by : (b : Bool) → h.qualified ≡ b → h.qualified ≡ true
    by true is = is
    by false is = absurd (true≢false (sym (ap (λ q. not q) is) ∙ sym (ap (λ v. is_unqualified v) e) ∙ without))

-- the data packet of a row with Q 1
pub qualified_is : (i : Interface) (r : Item) (h : DataHeader) (x : Side) (ys : List ℕ) → IsSaidData i r h → h.qualified ≡ true → x ≡ r.side → ys ≡ drop (header_length i) r.octets →
    packet x h ys ≡ accepted_of i r h
qualified_is i r h x ys said q side octets =
    let long : length ys ≡ r.length - header_length i = ap (λ l. length l) octets ∙ length-drop (header_length i) r.octets ∙ ap (λ n. n - header_length i) (said.full q) in
    λ j. record { side = side j; qualified = h.qualified; more = h.more; delivery = h.delivery; length = long j; octets = octets j }

pub none_left : (b : Bool) (xs : List ℕ) → xs ≡ [] → [] ≡ drop (if b then 3 else 4) xs
none_left true xs e = sym (ap (λ l. drop 3 l) e)
none_left false xs e = sym (ap (λ l. drop 4 l) e)

-- the data packet of a row with Q 0
pub unqualified_is : (i : Interface) (r : Item) (h : DataHeader) (x : Side) (n : ℕ) → IsSaidData i r h → h.qualified ≡ false → x ≡ r.side → n ≡ r.length - header_length i →
    unqualified x h.more h.delivery n ≡ accepted_of i r h
unqualified_is i r h x n said q side long =
    let octets : [] ≡ drop (header_length i) r.octets = none_left (i.modulus == 8) r.octets (said.silent q) in
    λ j. record { side = side j; qualified = sym q j; more = h.more; delivery = h.delivery; length = long j; octets = octets j }

-- every other packet of data transfer has its P(R) counted
pub other_transfers : (i : Interface) (s : StateName) (k : Class) (r : Item) (c : Channel) → (k ≡ Data → ⊥) → (k ≡ Interrupt → ⊥) → (k ≡ InterruptConfirm → ⊥) →
    counting r.side s (count_receive i.modulus (counts_of c) r.side (unwrap_or (receive_in r.packet) 0)) c ≡ transferring i s k r c
other_transfers i s Data r c a b d = absurd (a refl)
other_transfers i s Interrupt r c a b d = absurd (b refl)
other_transfers i s InterruptConfirm r c a b d = absurd (d refl)
other_transfers i s k r c a b d = refl
