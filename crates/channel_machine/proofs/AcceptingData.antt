-- What a data packet does to a channel.
use Rattle.std.proofs.Common.{◌≡◌, ◌+◌, ℕ, Bool, true, false, refl, sym, ◌∙◌, ap, subst, List, [], ◌∷◌, ◌++◌, Option, Some, None, Result, Ok, Err}
use Rattle.std.specs.Prelude.{◌&&◌}
use Rattle.line_model.specs.declared.diagnostic.TheConstants.{INCONSISTENT_Q_BIT_SETTING}
use Rattle.line_model.specs.declared.interface.Interface.{Interface}
use Rattle.line_model.specs.declared.state.Side.{Side}
use Rattle.line_model.specs.declared.state.Side.TheVariants.{T, N}
use Rattle.line_model.specs.declared.state.StateName.{StateName}
use Rattle.line_model.specs.declared.event.Event.{Event}
use Rattle.line_model.specs.channels.Channels.{Channel, AcceptedData, of_side, with_side}
use Rattle.line_model.specs.channels.FlowControl.{Counts, sent_by, count_data}
use Rattle.line_model.specs.channels.Sequences.{is_alike, begun, is_category_a, sequence_octets}
use Rattle.line_model.specs.packets.Formats.{window_in_force, size_in_force, is_pad_call}
use Rattle.line_model.specs.channels.ChannelStep.{counts_of, data_counted, data_alike, failing, accepting_data, completed_message, messages_after}
use Rattle.data_transfer.specs.FlowResidues.{FlowResidues, ResiduesRepresent, Answers}
use Rattle.data_transfer.specs.Assembler as assembly
use Rattle.data_transfer.specs.Assembly.{is_like}
use Rattle.data_transfer.specs.Sequences.{Assembly}
use Rattle.data_transfer.proofs.Packets.{alike_is}
use Rattle.channel_machine.specs.declared.events.EventOrigin.{EventOrigin}
use Rattle.channel_machine.specs.Appending.{message_by, message_of}
use Rattle.channel_machine.specs.Events.{Reports}
use Rattle.channel_machine.specs.Messages.{SettingsRepresent}
use Rattle.channel_machine.specs.Transfers.{Transfer, Represents, IsAccepted, counted_in_force}
use Rattle.channel_machine.proofs.Counting.{answered_ok, answered_err, data_counts, sent_more}

-- the values in force, by sides
size_is : (i : Interface) (t : Transfer) (c : Channel) (x : Side) → Represents i t c → of_side x (assembly.sizes t.assembler) ≡ size_in_force i c x
size_is i t c T represented = ap (λ v. v.of_t) represented.sizes
size_is i t c N represented = ap (λ v. v.of_n) represented.sizes

window_is : (i : Interface) (t : Transfer) (c : Channel) (x : Side) → Represents i t c → of_side x t.flow.windows ≡ window_in_force i c x
window_is i t c T represented = ap (λ v. v.of_t) represented.windows
window_is i t c N represented = ap (λ v. v.of_n) represented.windows

pub in_force : (U : Type 0) (r : Result U ℕ) (i : Interface) (t : Transfer) (new : FlowResidues) (c : Channel) (x : Side) (s n : ℕ) → Represents i t c →
    Answers r t.flow new (count_data t.flow.modulus (of_side x t.flow.windows) (counts_of c) x s n) → Answers r t.flow new (counted_in_force i x s n c)
in_force U r i t new c x s n represented answer =
    subst (λ w. Answers r t.flow new (count_data i.modulus w (counts_of c) x s n)) (window_is i t c x represented)
    (subst (λ m. Answers r t.flow new (count_data m (of_side x t.flow.windows) (counts_of c) x s n)) represented.modulus answer)

-- a fault of the numbers
pub refused : (U : Type 0) (e : ℕ) (i : Interface) (s : EventOrigin) (t : Transfer) (new : FlowResidues) (before : List Event) (x : Side) (p : AcceptedData) (r : Result Counts ℕ) (c : Channel) →
    Answers {A = U} (Err e) t.flow new r → IsAccepted (Some e) i s t t before before x p r c
refused U e i s t new before x p r c answer =
    ((λ q. ap (λ a. data_counted i x q p a c) (answered_err U e t.flow new r answer).0), refl, refl)

-- the Q bit of the sequence begun, as it is kept
pub alike_of : (a : Assembly) (x : Side) (p : AcceptedData) (hs : List AcceptedData) → assembly.Represents a hs → is_alike p (assembly.begun_by a x hs) ≡ is_like (assembly.begun_on a x).qualified p.qualified
alike_of a T p hs represented = alike_is a.of_t.qualified (begun a.of_t.size T hs) p represented.of_t.qualified
alike_of a N p hs represented = alike_is a.of_n.qualified (begun a.of_n.size N hs) p represented.of_n.qualified

-- another Q bit
pub unlike : {U : Type 0} (u : U) (i : Interface) (t : Transfer) (flow : FlowResidues) (x : Side) (p : AcceptedData) (r : Result Counts ℕ) (c : Channel) →
    Represents i t c → Answers (Ok u) t.flow flow r → is_alike p (assembly.begun_by t.assembler x c.accepted) ≡ false →
    (q : StateName) → data_counted i x q p r c ≡ failing x q INCONSISTENT_Q_BIT_SETTING c
unlike u i t flow x p r c represented answer other =
    let (v, is, _) = answered_ok u t.flow flow r answer in
    let apart : is_alike p (begun (size_in_force i c x) x c.accepted) ≡ false = subst (λ n. is_alike p (begun n x c.accepted) ≡ false) (size_is i t c x represented) other in
    λ q. ap (λ a. data_counted i x q p a c) is ∙ ap (λ b. data_alike i x q p v b c) apart

-- a channel after a packet without fault
settled : (i : Interface) (t new : Transfer) (c : Channel) (x : Side) (p : AcceptedData) (v : Counts) (m : Option (List ℕ)) → Represents i t c → p.side ≡ x →
    v.sent ≡ with_side x (of_side x (sent_by c.accepted) + 1) (sent_by c.accepted) → v.unconfirmed ≡ c.unconfirmed → ResiduesRepresent new.flow v →
    new.flow.modulus ≡ t.flow.modulus → new.flow.windows ≡ t.flow.windows →
    assembly.Represents new.assembler (c.accepted ++ p ∷ []) → assembly.sizes new.assembler ≡ assembly.sizes t.assembler →
    SettingsRepresent new.settings (messages_after x c.pad_messages m) → Represents i new (accepting_data x p v m c).after
settled i t new c x p v m represented side_is sent_is unconfirmed_is flow modulus windows sequences sizes settings = record {
  flow = subst (λ s. ResiduesRepresent new.flow (record { sent = s; acknowledged = v.acknowledged; unconfirmed = c.unconfirmed })) (sent_is ∙ sent_more x c.accepted p side_is)
      (subst (λ b. ResiduesRepresent new.flow (record { sent = v.sent; acknowledged = v.acknowledged; unconfirmed = b })) unconfirmed_is flow);
  modulus = modulus ∙ represented.modulus;
  windows = windows ∙ represented.windows;
  sequences = sequences;
  sizes = sizes ∙ represented.sizes;
  settings = settings;
}

-- which message is completed
no_whole_message : (a b c : Bool) (l : List ℕ) → (a && b) ≡ false →
    ◌≡◌ {A = Option (List ℕ)} (elim a [ false ↦ None | true ↦ elim b [ false ↦ None | true ↦ elim c [ true ↦ None | false ↦ Some l ] ] ]) None
no_whole_message false b c l h = refl
no_whole_message true false c l h = refl
no_whole_message true true c l h = cc

-- a packet with Q 0 belongs to no message
pub without_q : (a b : Bool) → b ≡ false → (a && b) ≡ false
without_q true b h = h
without_q false b h = refl

pub no_message_is : (i : Interface) (c : Channel) (x : Side) (p : AcceptedData) → (is_pad_call c && p.qualified) ≡ false → completed_message i x c p ≡ None
no_message_is i c x p h =
    no_whole_message (is_pad_call c) p.qualified (is_category_a (size_in_force i c x) p) (sequence_octets (begun (size_in_force i c x) x c.accepted ++ p ∷ [])) h

-- the message that a packet completes
message_is : (a b c : Bool) (l : List ℕ) →
    elim a [ false ↦ None | true ↦ elim b [ false ↦ None | true ↦ elim c [ true ↦ None | false ↦ Some l ] ] ] ≡ message_by c (a && b) l
message_is false b true l = refl
message_is false b false l = refl
message_is true false true l = refl
message_is true false false l = refl
message_is true true true l = refl
message_is true true false l = refl

pub completed_is : (b : Bool) (i : Interface) (t : Transfer) (c : Channel) (x : Side) (p : AcceptedData) → b ≡ (is_pad_call c && p.qualified) → Represents i t c →
    completed_message i x c p ≡ message_of b t.assembler x p c.accepted
completed_is b i t c x p carries represented =
    message_is (is_pad_call c) p.qualified (is_category_a (size_in_force i c x) p) (sequence_octets (begun (size_in_force i c x) x c.accepted ++ p ∷ []))
    ∙ (λ j. message_by (is_category_a (sym (size_is i t c x represented) j) p) (sym carries j) (sequence_octets (begun (sym (size_is i t c x represented) j) x c.accepted ++ p ∷ [])))

-- a packet without fault, which completes a message or not
pub accepted : {U : Type 0} (u : U) (i : Interface) (t new : Transfer) (c : Channel) (x : Side) (sn rn : ℕ) (p : AcceptedData) (m : Option (List ℕ)) →
    Represents i t c → p.side ≡ x → Answers (Ok u) t.flow new.flow (counted_in_force i x sn rn c) →
    is_alike p (assembly.begun_by t.assembler x c.accepted) ≡ true → completed_message i x c p ≡ m →
    new.flow.modulus ≡ t.flow.modulus → new.flow.windows ≡ t.flow.windows →
    assembly.Represents new.assembler (c.accepted ++ p ∷ []) → assembly.sizes new.assembler ≡ assembly.sizes t.assembler → SettingsRepresent new.settings (messages_after x c.pad_messages m) →
    (v : Counts) × ((q : StateName) → data_counted i x q p (counted_in_force i x sn rn c) c ≡ accepting_data x p v m c) × Represents i new (accepting_data x p v m c).after
accepted u i t new c x sn rn p m represented side_is answer alike completes modulus windows sequences sizes settings =
    let r : Result Counts ℕ = counted_in_force i x sn rn c in
    let (v, is, flow) = answered_ok u t.flow new.flow r answer in
    let like : is_alike p (begun (size_in_force i c x) x c.accepted) ≡ true = subst (λ n. is_alike p (begun n x c.accepted) ≡ true) (size_is i t c x represented) alike in
    let keeps = data_counts i.modulus (window_in_force i c x) (counts_of c) v x sn rn is in (
      v,
      (λ q. ap (λ a. data_counted i x q p a c) is ∙ ap (λ b. data_alike i x q p v b c) like ∙ ap (λ o. accepting_data x p v o c) completes),
      settled i t new c x p v m represented side_is keeps.0 keeps.1 flow modulus windows sequences sizes settings,
    )

-- the same with its events
pub accepted_data : {U : Type 0} (u : U) (i : Interface) (s : EventOrigin) (t new : Transfer) (before after : List Event) (c : Channel) (x : Side) (sn rn : ℕ) (p : AcceptedData) (m : Option (List ℕ)) →
    Represents i t c → p.side ≡ x → Answers (Ok u) t.flow new.flow (counted_in_force i x sn rn c) →
    is_alike p (assembly.begun_by t.assembler x c.accepted) ≡ true → completed_message i x c p ≡ m →
    new.flow.modulus ≡ t.flow.modulus → new.flow.windows ≡ t.flow.windows →
    assembly.Represents new.assembler (c.accepted ++ p ∷ []) → assembly.sizes new.assembler ≡ assembly.sizes t.assembler → SettingsRepresent new.settings (messages_after x c.pad_messages m) →
    ((v : Counts) → Reports s before after (accepting_data x p v m c).reported) → IsAccepted None i s t new before after x p (counted_in_force i x sn rn c) c
accepted_data u i s t new before after c x sn rn p m represented side_is answer alike completes modulus windows sequences sizes settings events =
    let (v, is, after_it) = accepted u i t new c x sn rn p m represented side_is answer alike completes modulus windows sequences sizes settings in
    (v, m, is, after_it, events v)
