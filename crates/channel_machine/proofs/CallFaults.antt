-- The faults of call packets, by their class.
use Rattle.std.proofs.Common.{◌≡◌, ◌∙◌, ℕ, Bool, true, false, true≢false, refl, sym, ap, subst, List, Option, None, Some, Result, Ok, Err}
use Rattle.std.specs.Result.{MatchResult, result_err}
use Rattle.line_model.specs.basics.Bounds.{IsSaid}
use Rattle.line_model.specs.basics.Records.{Item}
use Rattle.line_model.specs.declared.interface.Interface.{Interface}
use Rattle.line_model.specs.declared.packet.Class.{Class}
use Rattle.line_model.specs.declared.packet.Class.TheVariants.{Call, Accepted}
use Rattle.line_model.specs.declared.state.Side.{Side}
use Rattle.line_model.specs.channels.Channels.{Channel}
use Rattle.line_model.specs.packets.Classes.{class_of, packet_class}
use Rattle.line_model.specs.packets.Formats.{format_fault, was_fast}
use Rattle.packet_decode.specs.CallFaults.{IsCallPacket, call_packet_fault, fault_by_class}
use Rattle.packet_decode.proofs.SaidPackets.{accepted_said, call_said}
use Rattle.channel_machine.specs.Contents.{is_call}

-- a packet of a call has its octets
said_call : (i : Interface) (r : Item) (k : Class) → IsSaid i r → k ≡ packet_class r.packet → is_call k ≡ true → class_of i r.octets ≡ k
said_call i r Call said is e = call_said i r said (sym is)
said_call i r Accepted said is e = accepted_said i r said (sym is)
said_call i r k said is e = absurd (true≢false (sym e))

call_packet : (k : Class) → is_call k ≡ true → IsCallPacket k
call_packet Call e = tt
call_packet Accepted e = tt
call_packet k e = absurd (true≢false (sym e))

pub is_call_packet : (i j : Interface) (r v : Item) (k : Class) → IsSaid i r → k ≡ packet_class r.packet → is_call k ≡ true → j ≡ i → v ≡ r → IsCallPacket (class_of j v.octets)
is_call_packet i j r v k said is e same view = subst IsCallPacket (sym ((λ t. class_of (same t) (view t).octets) ∙ said_call i r k said is e)) (call_packet k e)

by_class : (i : Interface) (f : Bool) (k : Class) (c : Channel) (x : Side) (n : ℕ) (xs : List ℕ) → is_call k ≡ true → f ≡ was_fast c → fault_by_class i f k xs ≡ format_fault i c x k n xs
by_class i f Call c x n xs e fast = refl
by_class i f Accepted c x n xs e fast = ap (λ b. fault_by_class i b Accepted xs) fast
by_class i f k c x n xs e fast = absurd (true≢false (sym e))

-- its fault is one of its format
pub call_format : (i j : Interface) (r v : Item) (k : Class) (c : Channel) (f : Bool) → IsSaid i r → k ≡ packet_class r.packet → is_call k ≡ true → j ≡ i → v ≡ r → f ≡ was_fast c →
    call_packet_fault j f v.octets ≡ format_fault i c r.side k r.length r.octets
call_format i j r v k c f said is e same view fast =
    (λ t. call_packet_fault (same t) f (view t).octets) ∙ ap (λ d. fault_by_class i f d r.octets) (said_call i r k said is e) ∙ by_class i f k c r.side r.length r.octets e fast

pub fault_of : {U : Type 0} (a : Result U ℕ) (o : Option ℕ) → MatchResult a (λ _. o ≡ None) (λ n. o ≡ Some n) → result_err a ≡ o
fault_of (Ok u) o e = sym e
fault_of (Err n) o e = sym e

-- every other packet
pub no_call : (k : Class) → (k ≡ Call → ⊥) → (k ≡ Accepted → ⊥) → is_call k ≡ false
no_call Call a b = absurd (a refl)
no_call Accepted a b = absurd (b refl)
no_call k a b = refl
