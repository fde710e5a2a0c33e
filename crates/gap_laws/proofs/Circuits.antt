-- Data transfer in a walk without a finding: on permanent circuits, and on the terms of a call.
use Rattle.std.proofs.Common.{◌≡◌, ◌<◌, ◌≤◌, ◌+◌, ℕ, Bool, true, false, refl, sym, ◌∙◌, ap, List, [], ◌∷◌, ◌++◌, Option, Some, None, Result, Ok, Err}
use Rattle.std.specs.Prelude.{not, ◌&&◌}
use Rattle.std.proofs.lemmas.Bool.{false≢true}
use Rattle.line_model.specs.declared.diagnostic.TheConstants.{INVALID_P_R, INVALID_P_S}
use Rattle.line_model.specs.declared.event.What.{What}
use Rattle.line_model.specs.declared.interface.Interface.{Interface}
use Rattle.line_model.specs.declared.packet.DataHeader.{DataHeader}
use Rattle.line_model.specs.declared.state.Side.{Side}
use Rattle.line_model.specs.declared.state.Side.TheVariants.{T, N}
use Rattle.line_model.specs.declared.state.DState.{DState}
use Rattle.line_model.specs.declared.state.DState as transfer
use Rattle.line_model.specs.declared.state.ChannelState.TheVariants.{Transfer}
use Rattle.line_model.specs.declared.state.StateName.{StateName}
use Rattle.line_model.specs.declared.state.StateName.TheVariants.{D1}
use Rattle.line_model.specs.basics.Records.{Item}
use Rattle.line_model.specs.channels.Channels.{AcceptedData, Channel, Opening, PadMessage, Sides, of_side, other, with_side}
use Rattle.line_model.specs.packets.Formats.{size_in_force, window_in_force}
use Rattle.line_model.specs.channels.ChannelStep.{Outcome, accepted_of, completed_message, counting, counts_of, data_alike, data_counted, data_reports, data_step, failing, messages_after}
use Rattle.line_model.specs.channels.FlowControl.{Counts, count_acknowledged, count_data, count_receive, is_send_valid, sent, sent_by}
use Rattle.line_model.specs.channels.Sequences.{begun, is_alike}
use Rattle.line_model.specs.observer.Report.{is_finding}
use Rattle.gap_laws.proofs.Numbers.{Acknowledges, IsNext, acknowledged, next_is}

-- ---- events

-- no event is a finding
abbrev pub silent : List What → Bool
silent [] = true
silent (w ∷ ws) = not (is_finding w) && silent ws

pub failing_loud : {A : Type 0} (x : Side) (s : StateName) (n : ℕ) (c : Channel) → silent (failing x s n c).reported ≡ true → A
failing_loud T s n c h = absurd (false≢true h)
failing_loud N s n c h = absurd (false≢true h)

pub some_none : {A : Type 0} {f : ℕ} → Some f ≡ None → A
some_none e = absurd (apart e)
  where
    apart : {f : ℕ} → Some f ≡ None → ⊥
    apart e = cc

-- ---- sides

pub of_own : {A : Type 0} (x : Side) (a : A) (v : Sides A) → of_side x (with_side x a v) ≡ a
of_own T a v = refl
of_own N a v = refl

pub of_other : {A : Type 0} (x : Side) (a : A) (v : Sides A) → of_side (other x) (with_side x a v) ≡ of_side (other x) v
of_other T a v = refl
of_other N a v = refl

pub of_back : {A : Type 0} (x : Side) (a : A) (v : Sides A) → of_side x (with_side (other x) a v) ≡ of_side x v
of_back T a v = refl
of_back N a v = refl

pub by_side : (P : Side → Type 0) (x : Side) → P x → P (other x) → (y : Side) → P y
by_side P T own apart T = own
by_side P T own apart N = apart
by_side P N own apart N = own
by_side P N own apart T = apart

pub of_sent : (x : Side) (hs : List AcceptedData) → of_side x (sent_by hs) ≡ sent x hs
of_sent T hs = refl
of_sent N hs = refl

-- ---- counts

-- a P(R) that counts
pub record CountsReceive (m : ℕ) (c : Counts) (x : Side) (pr : ℕ) (v : Counts) : Type 0 where
  pub upto : ℕ
  pub found : count_acknowledged m (of_side (other x) c.sent) (of_side (other x) c.acknowledged) pr ≡ Some upto
  pub acknowledged : v.acknowledged ≡ with_side (other x) upto c.acknowledged
  pub unconfirmed : v.unconfirmed ≡ c.unconfirmed

pub counts_receive : (m : ℕ) (c : Counts) (x : Side) (pr : ℕ) (v : Counts) → count_receive m c x pr ≡ Ok v → CountsReceive m c x pr v
counts_receive m c x pr v h = at (count_acknowledged m (of_side (other x) c.sent) (of_side (other x) c.acknowledged) pr) refl h
  where
    at : (o : Option ℕ) → count_acknowledged m (of_side (other x) c.sent) (of_side (other x) c.acknowledged) pr ≡ o
        → ◌≡◌ {A = Result Counts ℕ} (elim o [ Some k ↦ Ok (record c { acknowledged = with_side (other x) k c.acknowledged }) | None ↦ Err INVALID_P_R ]) (Ok v)
        → CountsReceive m c x pr v
    at None e h = cc
    at (Some k) e h =
        let same : record c { acknowledged = with_side (other x) k c.acknowledged } ≡ v = cc in
        record { upto = k; found = e; acknowledged = sym (ap (λ (u : Counts). u.acknowledged) same); unconfirmed = sym (ap (λ (u : Counts). u.unconfirmed) same) }

pub count_receive_is : (m : ℕ) (c : Counts) (x : Side) (pr k : ℕ) → count_acknowledged m (of_side (other x) c.sent) (of_side (other x) c.acknowledged) pr ≡ Some k
    → count_receive m c x pr ≡ Ok (record c { acknowledged = with_side (other x) k c.acknowledged })
count_receive_is m c x pr k h = ap (λ o. elim o as (λ _. Result Counts ℕ) [ Some k ↦ Ok (record c { acknowledged = with_side (other x) k c.acknowledged }) | None ↦ Err INVALID_P_R ]) h

-- a data packet that counts
pub record CountsData (m w : ℕ) (c : Counts) (x : Side) (ps pr : ℕ) (v : Counts) : Type 0 where
  pub upto : ℕ
  pub valid : is_send_valid m w (of_side x c.sent) (of_side x c.acknowledged) ps ≡ true
  pub found : count_acknowledged m (of_side (other x) c.sent) (of_side (other x) c.acknowledged) pr ≡ Some upto
  pub acknowledged : v.acknowledged ≡ with_side (other x) upto c.acknowledged

pub counts_data : (m w : ℕ) (c : Counts) (x : Side) (ps pr : ℕ) (v : Counts) → count_data m w c x ps pr ≡ Ok v → CountsData m w c x ps pr v
counts_data m w c x ps pr v h = at (is_send_valid m w (of_side x c.sent) (of_side x c.acknowledged) ps) refl h
  where
    at : (b : Bool) → is_send_valid m w (of_side x c.sent) (of_side x c.acknowledged) ps ≡ b
        → ◌≡◌ {A = Result Counts ℕ} (elim b [ true ↦ count_receive m (record c { sent = with_side x (of_side x c.sent + 1) c.sent }) x pr | false ↦ Err INVALID_P_S ]) (Ok v)
        → CountsData m w c x ps pr v
    at false e h = cc
    at true e h =
        let f = counts_receive m (record c { sent = with_side x (of_side x c.sent + 1) c.sent }) x pr v h in
        record {
          upto = f.upto;
          valid = e;
          found = ap (λ s. count_acknowledged m s (of_side (other x) c.acknowledged) pr) (sym (of_other x (of_side x c.sent + 1) c.sent)) ∙ f.found;
          acknowledged = f.acknowledged;
        }

pub count_data_is : (m w : ℕ) (c : Counts) (x : Side) (ps pr k : ℕ) → is_send_valid m w (of_side x c.sent) (of_side x c.acknowledged) ps ≡ true
    → count_acknowledged m (of_side (other x) c.sent) (of_side (other x) c.acknowledged) pr ≡ Some k
    → count_data m w c x ps pr ≡ Ok (record c { sent = with_side x (of_side x c.sent + 1) c.sent; acknowledged = with_side (other x) k c.acknowledged })
count_data_is m w c x ps pr k valid h =
    ap (λ b. elim b as (λ _. Result Counts ℕ) [ true ↦ count_receive m (record c { sent = with_side x (of_side x c.sent + 1) c.sent }) x pr | false ↦ Err INVALID_P_S ]) valid
    ∙ count_receive_is m (record c { sent = with_side x (of_side x c.sent + 1) c.sent }) x pr k
    (ap (λ s. count_acknowledged m s (of_side (other x) c.acknowledged) pr) (of_other x (of_side x c.sent + 1) c.sent) ∙ h)

-- ---- circuits

-- what changes in data transfer as long as nothing is a finding
pub record Circuit : Type 0 where
  pub state : DState
  pub accepted : List AcceptedData
  pub acknowledged : Sides ℕ
  pub unconfirmed : Sides Bool

abbrev pub circuit : DState → List AcceptedData → Sides ℕ → Sides Bool → Circuit
circuit d hs v u = record { state = d; accepted = hs; acknowledged = v; unconfirmed = u }

-- a circuit in a state that it has just entered
abbrev pub idle : DState → Circuit
idle d = circuit d [] (record { of_t = 0; of_n = 0 }) (record { of_t = false; of_n = false })

-- what a channel has of its call, besides; a permanent circuit has none
pub record Terms : Type 0 where
  pub opening : Option Opening
  pub accepting : Option (List ℕ)
  pub pad_messages : List PadMessage

abbrev pub no_terms : Terms
no_terms = record { opening = None; accepting = None; pad_messages = [] }

-- its channel, where no indication is owed
abbrev pub channel_with : Terms → Circuit → Channel
channel_with k q = record {
  state = Transfer q.state;
  owed = false;
  opening = k.opening;
  accepting = k.accepting;
  accepted = q.accepted;
  acknowledged = q.acknowledged;
  unconfirmed = q.unconfirmed;
  pad_messages = k.pad_messages;
}

abbrev pub channel_of : Circuit → Channel
channel_of q = channel_with no_terms q

-- the window and the packet size in force for data from a side
abbrev pub window_of : Interface → Terms → Side → ℕ
window_of i k x = window_in_force i (channel_with k (idle transfer.TheVariants.D1)) x

abbrev pub size_of : Interface → Terms → Side → ℕ
size_of i k = λ x. size_in_force i (channel_with k (idle transfer.TheVariants.D1)) x

-- the numbers of each side lie in the window
pub record IsOrdered (m : ℕ) (q : Circuit) (x : Side) : Type 0 where
  pub ordered : of_side x q.acknowledged ≤ sent x q.accepted
  pub within : sent x q.accepted < of_side x q.acknowledged + m

-- after a data packet
abbrev pub with_data : Interface → Item → DataHeader → (upto : ℕ) → Circuit → Circuit
with_data i r h k q = record q { accepted = q.accepted ++ accepted_of i r h ∷ []; acknowledged = with_side (other r.side) k q.acknowledged }

-- the message that it completes, and the terms after it
abbrev pub message_of : Interface → Terms → Item → DataHeader → Circuit → Option (List ℕ)
message_of i k r h q = completed_message i r.side (channel_with k q) (accepted_of i r h)

abbrev pub with_message : Interface → Terms → Item → DataHeader → Circuit → Terms
with_message i k r h q = record k { pad_messages = messages_after r.side k.pad_messages (message_of i k r h q) }

-- a data packet that is accepted
pub record DataTaken (i : Interface) (k : Terms) (r : Item) (h : DataHeader) (q : Circuit) : Type 0 where
  pub upto : ℕ
  pub next : IsNext i.modulus (window_of i k r.side) (sent r.side q.accepted) (of_side r.side q.acknowledged) h.send
  pub receive : Acknowledges i.modulus (sent (other r.side) q.accepted) (of_side (other r.side) q.acknowledged) h.receive upto
  pub alike : is_alike (accepted_of i r h) (begun (size_of i k r.side) r.side q.accepted) ≡ true
  pub after : (data_step i D1 r (Some h) (channel_with k q)).after ≡ channel_with (with_message i k r h q) (with_data i r h upto q)
  pub reported : (data_step i D1 r (Some h) (channel_with k q)).reported ≡ data_reports r.side (accepted_of i r h) k.pad_messages (message_of i k r h q)

pub data_taken : (i : Interface) (k : Terms) (r : Item) (h : DataHeader) (q : Circuit) → silent (data_step i D1 r (Some h) (channel_with k q)).reported ≡ true → DataTaken i k r h q
data_taken i k r h q s = at (count_data i.modulus (window_of i k r.side) (counts_of (channel_with k q)) r.side h.send h.receive) refl s
  where
    c : Channel
    c = channel_with k q

    p : AcceptedData
    p = accepted_of i r h

    taken : (v : Counts) → count_data i.modulus (window_of i k r.side) (counts_of (channel_with k q)) r.side h.send h.receive ≡ Ok v
        → is_alike p (begun (size_of i k r.side) r.side q.accepted) ≡ true
        → (o : Outcome) → o ≡ data_step i D1 r (Some h) (channel_with k q)
        → o.after ≡ channel_with (with_message i k r h q) (record q { accepted = q.accepted ++ p ∷ []; acknowledged = v.acknowledged })
        → o.reported ≡ data_reports r.side p k.pad_messages (message_of i k r h q)
        → DataTaken i k r h q
    taken v e alike o is same said =
        let f = counts_data i.modulus (window_of i k r.side) (counts_of c) r.side h.send h.receive v e in
        record {
          upto = f.upto;
          next = next_is i.modulus (window_of i k r.side) (sent r.side q.accepted) (of_side r.side q.acknowledged) h.send
              (ap (λ n. is_send_valid i.modulus (window_of i k r.side) n (of_side r.side q.acknowledged) h.send) (sym (of_sent r.side q.accepted)) ∙ f.valid);
          receive = acknowledged i.modulus (sent (other r.side) q.accepted) (of_side (other r.side) q.acknowledged) h.receive f.upto
              (ap (λ n. count_acknowledged i.modulus n (of_side (other r.side) q.acknowledged) h.receive) (sym (of_sent (other r.side) q.accepted)) ∙ f.found);
          alike = alike;
          after = sym (ap (λ (o : Outcome). o.after) is) ∙ same ∙ ap (λ a. channel_with (with_message i k r h q) (record q { accepted = q.accepted ++ p ∷ []; acknowledged = a })) f.acknowledged;
          reported = sym (ap (λ (o : Outcome). o.reported) is) ∙ said;
        }

    by : (v : Counts) → count_data i.modulus (window_of i k r.side) (counts_of (channel_with k q)) r.side h.send h.receive ≡ Ok v
        → (b : Bool) → is_alike p (begun (size_of i k r.side) r.side q.accepted) ≡ b
        → silent (data_alike i r.side D1 p v b (channel_with k q)).reported ≡ true
        → DataTaken i k r h q
    by v e false a s = failing_loud r.side D1 _ c s
    by v e true a s =
        taken v e a (data_alike i r.side D1 p v true c)
        (ap (λ b. data_alike i r.side D1 p v b c) (sym a) ∙ ap (λ u. data_counted i r.side D1 p u c) (sym e)) refl refl

    at : (v : Result Counts ℕ) → count_data i.modulus (window_of i k r.side) (counts_of (channel_with k q)) r.side h.send h.receive ≡ v
        → silent (data_counted i r.side D1 p v (channel_with k q)).reported ≡ true → DataTaken i k r h q
    at (Err n) e s = failing_loud r.side D1 n c s
    at (Ok v) e s = by v e (is_alike p (begun (size_of i k r.side) r.side q.accepted)) refl s

-- after an RR or RNR
abbrev pub with_receive : Side → (upto : ℕ) → Circuit → Circuit
with_receive x k q = record q { acknowledged = with_side (other x) k q.acknowledged }

-- an RR or RNR that is accepted
pub record ReceiveTaken (k : Terms) (m : ℕ) (x : Side) (n : ℕ) (q : Circuit) : Type 0 where
  pub upto : ℕ
  pub receive : Acknowledges m (sent (other x) q.accepted) (of_side (other x) q.acknowledged) n upto
  pub after : (counting x D1 (count_receive m (counts_of (channel_with k q)) x n) (channel_with k q)).after ≡ channel_with k (with_receive x upto q)
  pub reported : (counting x D1 (count_receive m (counts_of (channel_with k q)) x n) (channel_with k q)).reported ≡ []

pub receive_taken : (k : Terms) (m : ℕ) (x : Side) (n : ℕ) (q : Circuit) → silent (counting x D1 (count_receive m (counts_of (channel_with k q)) x n) (channel_with k q)).reported ≡ true → ReceiveTaken k m x n q
receive_taken k m x n q s = at (count_receive m (counts_of (channel_with k q)) x n) refl s
  where
    at : (v : Result Counts ℕ) → count_receive m (counts_of (channel_with k q)) x n ≡ v → silent (counting x D1 v (channel_with k q)).reported ≡ true → ReceiveTaken k m x n q
    at (Err f) e s = failing_loud x D1 f (channel_with k q) s
    at (Ok v) e s =
        let f = counts_receive m (counts_of (channel_with k q)) x n v e in
        record {
          upto = f.upto;
          receive = acknowledged m (sent (other x) q.accepted) (of_side (other x) q.acknowledged) n f.upto
              (ap (λ s. count_acknowledged m s (of_side (other x) q.acknowledged) n) (sym (of_sent (other x) q.accepted)) ∙ f.found);
          after = ap (λ u. (counting x D1 u (channel_with k q)).after) e
              ∙ (λ j. channel_with k (record q { acknowledged = f.acknowledged j; unconfirmed = f.unconfirmed j }));
          reported = ap (λ u. (counting x D1 u (channel_with k q)).reported) e;
        }
