-- The results of the counts, for a channel.
use Rattle.std.proofs.Common.{◌≡◌, ◌+◌, ℕ, Bool, true, false, refl, sym, ◌∙◌, ap, subst, List, [], ◌∷◌, ◌++◌, length, length-append, Option, Some, None, Result, Ok, Err}
use Rattle.line_model.specs.declared.diagnostic.TheConstants.{UNAUTHORIZED_INTERRUPT_CONFIRMATION, UNAUTHORIZED_INTERRUPT}
use Rattle.line_model.specs.declared.interface.Interface.{Interface}
use Rattle.line_model.specs.declared.state.Side.{Side}
use Rattle.line_model.specs.declared.state.Side.TheVariants.{T, N}
use Rattle.line_model.specs.channels.Channels.{Channel, AcceptedData, of_side, with_side, other}
use Rattle.line_model.specs.channels.FlowControl.{Counts, is_side, packets_of, sent, sent_by, is_send_valid, count_acknowledged, count_data, count_receive, count_interrupt, count_confirm}
use Rattle.line_model.specs.channels.ChannelStep.{counts_of}
use Rattle.data_transfer.specs.FlowResidues.{FlowResidues, ResiduesRepresent, Answers}
use Rattle.data_transfer.proofs.SequenceLemmas.{packets_of-same, packets_of-other}
use Rattle.channel_machine.specs.Transfers.{Transfer, Represents, IsCounted}

-- a result shows what the counts return
pub answered_ok : {U : Type 0} (u : U) (old new : FlowResidues) (r : Result Counts ℕ) → Answers (Ok u) old new r → (v : Counts) × (r ≡ Ok v) × ResiduesRepresent new v
answered_ok u old new (Ok v) h = (v, refl, h)
answered_ok u old new (Err n) h = absurd h

pub answered_err : (U : Type 0) (e : ℕ) (old new : FlowResidues) (r : Result Counts ℕ) → Answers {A = U} (Err e) old new r → (r ≡ Err e) × (new ≡ old)
answered_err U e old new (Ok v) h = absurd h
answered_err U e old new (Err n) h = (ap (λ k. Err k) (sym h.0), h.1)

-- which counts stay
ok_is : (v w : Counts) → ◌≡◌ {A = Result Counts ℕ} (Ok w) (Ok v) → w ≡ v
ok_is v w e = cc

receive_by : (c v : Counts) (x : Side) (o : Option ℕ) →
    ◌≡◌ {A = Result Counts ℕ} (elim o [ Some k ↦ Ok (record c { acknowledged = with_side (other x) k c.acknowledged }) | None ↦ Err 2 ]) (Ok v) →
    (v.sent ≡ c.sent) × (v.unconfirmed ≡ c.unconfirmed)
receive_by c v x None e = cc
receive_by c v x (Some k) e =
    let is = ok_is v (record c { acknowledged = with_side (other x) k c.acknowledged }) e in
    (ap (λ u. u.sent) (sym is), ap (λ u. u.unconfirmed) (sym is))

pub receive_keeps : (m : ℕ) (c v : Counts) (x : Side) (n : ℕ) → count_receive m c x n ≡ Ok v → (v.sent ≡ c.sent) × (v.unconfirmed ≡ c.unconfirmed)
receive_keeps m c v x n e = receive_by c v x (count_acknowledged m (of_side (other x) c.sent) (of_side (other x) c.acknowledged) n) e

interrupt_by : (c v : Counts) (x : Side) (b : Bool) →
    ◌≡◌ {A = Result Counts ℕ} (elim b [ true ↦ Err UNAUTHORIZED_INTERRUPT | false ↦ Ok (record c { unconfirmed = with_side x true c.unconfirmed }) ]) (Ok v) → v.sent ≡ c.sent
interrupt_by c v x true e = cc
interrupt_by c v x false e = ap (λ u. u.sent) (sym (ok_is v (record c { unconfirmed = with_side x true c.unconfirmed }) e))

confirm_by : (c v : Counts) (x : Side) (b : Bool) →
    ◌≡◌ {A = Result Counts ℕ} (elim b [ false ↦ Err UNAUTHORIZED_INTERRUPT_CONFIRMATION | true ↦ Ok (record c { unconfirmed = with_side (other x) false c.unconfirmed }) ]) (Ok v) → v.sent ≡ c.sent
confirm_by c v x false e = cc
confirm_by c v x true e = ap (λ u. u.sent) (sym (ok_is v (record c { unconfirmed = with_side (other x) false c.unconfirmed }) e))

data_by : (m : ℕ) (c v : Counts) (x : Side) (n : ℕ) (b : Bool) →
    ◌≡◌ {A = Result Counts ℕ} (elim b [ true ↦ count_receive m (record c { sent = with_side x (of_side x c.sent + 1) c.sent }) x n | false ↦ Err 1 ]) (Ok v) →
    (v.sent ≡ with_side x (of_side x c.sent + 1) c.sent) × (v.unconfirmed ≡ c.unconfirmed)
data_by m c v x n false e = cc
data_by m c v x n true e = receive_keeps m (record c { sent = with_side x (of_side x c.sent + 1) c.sent }) v x n e

pub data_counts : (m w : ℕ) (c v : Counts) (x : Side) (s n : ℕ) → count_data m w c x s n ≡ Ok v →
    (v.sent ≡ with_side x (of_side x c.sent + 1) c.sent) × (v.unconfirmed ≡ c.unconfirmed)
data_counts m w c v x s n e = data_by m c v x n (is_send_valid m w (of_side x c.sent) (of_side x c.acknowledged) s) e

-- the counts of one packet more of a side
length_more : (hs : List AcceptedData) (h : AcceptedData) → length (hs ++ h ∷ []) ≡ length hs + 1
length_more hs h = length-append hs (h ∷ [])

sent_same : (x : Side) (hs : List AcceptedData) (p : AcceptedData) → is_side x p.side ≡ true → sent x (hs ++ p ∷ []) ≡ sent x hs + 1
sent_same x hs p own = ap (λ l. length l) (packets_of-same x hs p own) ∙ length_more (packets_of x hs) p

sent_apart : (x : Side) (hs : List AcceptedData) (p : AcceptedData) → is_side x p.side ≡ false → sent x (hs ++ p ∷ []) ≡ sent x hs
sent_apart x hs p apart = ap (λ l. length l) (packets_of-other x hs p apart)

pub sent_more : (x : Side) (hs : List AcceptedData) (p : AcceptedData) → p.side ≡ x → with_side x (of_side x (sent_by hs) + 1) (sent_by hs) ≡ sent_by (hs ++ p ∷ [])
sent_more T hs p is = λ j. record { of_t = sym (sent_same T hs p (ap (λ y. is_side T y) is)) j; of_n = sym (sent_apart N hs p (ap (λ y. is_side N y) is)) j }
sent_more N hs p is = λ j. record { of_t = sym (sent_apart T hs p (ap (λ y. is_side T y) is)) j; of_n = sym (sent_same N hs p (ap (λ y. is_side N y) is)) j }

-- a channel with other counts, over the same packets and messages
recounted : (i : Interface) (t : Transfer) (new : FlowResidues) (c : Channel) (v : Counts) → Represents i t c →
    new.modulus ≡ t.flow.modulus → new.windows ≡ t.flow.windows → v.sent ≡ sent_by c.accepted → ResiduesRepresent new v →
    Represents i (record t { flow = new }) (record c { acknowledged = v.acknowledged; unconfirmed = v.unconfirmed })
recounted i t new c v represented modulus windows sent_is flow = record {
  flow = subst (λ s. ResiduesRepresent new (record v { sent = s })) sent_is flow;
  modulus = modulus ∙ represented.modulus;
  windows = windows ∙ represented.windows;
  sequences = represented.sequences;
  sizes = represented.sizes;
  settings = represented.settings;
}

-- the result of counts that keep what was sent
counted_by : {U : Type 0} (r : Result U ℕ) (i : Interface) (t : Transfer) (new : FlowResidues) (a : Result Counts ℕ) (c : Channel) → Represents i t c →
    new.modulus ≡ t.flow.modulus → new.windows ≡ t.flow.windows → ((v : Counts) → a ≡ Ok v → v.sent ≡ sent_by c.accepted) →
    Answers r t.flow new a → IsCounted r i t (record t { flow = new }) a c
counted_by (Ok u) i t new a c represented modulus windows keeps answer =
    let (v, is, flow) = answered_ok u t.flow new a answer in
    (v, is, recounted i t new c v represented modulus windows (keeps v is) flow)
counted_by {U = U} (Err e) i t new a c represented modulus windows keeps answer =
    let (is, same) = answered_err U e t.flow new a answer in
    (is, ap (λ f. record t { flow = f }) same)

pub received : {U : Type 0} (r : Result U ℕ) (i : Interface) (t : Transfer) (new : FlowResidues) (x : Side) (n : ℕ) (c : Channel) → Represents i t c →
    new.modulus ≡ t.flow.modulus → new.windows ≡ t.flow.windows → Answers r t.flow new (count_receive t.flow.modulus (counts_of c) x n) →
    IsCounted r i t (record t { flow = new }) (count_receive i.modulus (counts_of c) x n) c
received r i t new x n c represented modulus windows answer =
    counted_by r i t new (count_receive i.modulus (counts_of c) x n) c represented modulus windows (λ v e. (receive_keeps i.modulus (counts_of c) v x n e).0)
    (subst (λ m. Answers r t.flow new (count_receive m (counts_of c) x n)) represented.modulus answer)

pub interrupted : {U : Type 0} (r : Result U ℕ) (i : Interface) (t : Transfer) (new : FlowResidues) (x : Side) (c : Channel) → Represents i t c →
    new.modulus ≡ t.flow.modulus → new.windows ≡ t.flow.windows → Answers r t.flow new (count_interrupt (counts_of c) x) →
    IsCounted r i t (record t { flow = new }) (count_interrupt (counts_of c) x) c
interrupted r i t new x c represented modulus windows answer =
    counted_by r i t new (count_interrupt (counts_of c) x) c represented modulus windows (λ v e. interrupt_by (counts_of c) v x (of_side x c.unconfirmed) e) answer

pub confirmed : {U : Type 0} (r : Result U ℕ) (i : Interface) (t : Transfer) (new : FlowResidues) (x : Side) (c : Channel) → Represents i t c →
    new.modulus ≡ t.flow.modulus → new.windows ≡ t.flow.windows → Answers r t.flow new (count_confirm (counts_of c) x) →
    IsCounted r i t (record t { flow = new }) (count_confirm (counts_of c) x) c
confirmed r i t new x c represented modulus windows answer =
    counted_by r i t new (count_confirm (counts_of c) x) c represented modulus windows (λ v e. confirm_by (counts_of c) v x (of_side (other x) c.unconfirmed) e) answer
