-- What is certain of a channel that has settled, as a packet is taken: of a permanent circuit, or on the terms of a call.
use Rattle.std.proofs.Common.{◌≡◌, ◌⊎◌, ◌<◌, ◌≤◌, ◌+◌, ℕ, Bool, true, false, cond, refl, sym, ◌∙◌, ap, subst, length, List, [], ◌∷◌, ◌++◌, Option, Some, Ok, arith}
use Rattle.std.specs.Prelude.{not, ◌&&◌, replicate, reverse, take_while}
use Rattle.std.proofs.lemmas.Bool.{false≢true}
use Rattle.line_model.specs.declared.interface.Interface.{Interface}
use Rattle.line_model.specs.declared.packet.DataHeader.{DataHeader}
use Rattle.line_model.specs.declared.state.Side.{Side}
use Rattle.line_model.specs.declared.state.Side.TheVariants.{T, N}
use Rattle.line_model.specs.declared.state.StateName.TheVariants.{D1}
use Rattle.line_model.specs.declared.diagnostic.TheConstants.{INCONSISTENT_Q_BIT_SETTING}
use Rattle.line_model.specs.declared.event.What.{What}
use Rattle.line_model.specs.declared.event.What.TheVariants.{Data as DataAccepted}
use Rattle.line_model.specs.basics.Records.{Item}
use Rattle.line_model.specs.channels.Channels.{AcceptedData, Sides, of_side, other, with_side}
use Rattle.line_model.specs.channels.ChannelStep.{accepted_of, counts_of}
use Rattle.line_model.specs.channels.FlowControl.{Counts, count_acknowledged, count_data, count_receive, is_send_valid, packets_of, sent, sent_by}
use Rattle.line_model.specs.channels.Gaps.{Doubts}
use Rattle.line_model.specs.channels.GapStep.{SettledOutcome, accepting_in_doubt, completed_for_data, completed_to, counted_in_doubt, counting_in_doubt, data_in_doubt, doubts_after_data, edge_in_doubt, failing_in_doubt, is_mixed, may_be_begun, may_be_category_a, message_in_doubt, missed, missing, receive_in_doubt, settings_in_doubt, window_in_doubt}
use Rattle.line_model.specs.channels.Sequences.{begun, is_alike, is_category_a}
use Rattle.gap_laws.proofs.Numbers.{FitsDirection, SendFits, completed_count, edge_after, next_valid, receive_fits, send_fits, window_for}
use Rattle.gap_laws.proofs.SentPackets.{begun_own, begun_other, other_side, own_side, packets_apart, sent_missed, sent_other, sent_own}
use Rattle.gap_laws.proofs.Circuits.{Circuit, DataTaken, ReceiveTaken, Terms, by_side, channel_with, count_data_is, count_receive_is, of_back, of_other, of_own, of_sent, size_of, window_of, with_data, with_receive}

abbrev pub doubts_with : (hidden : Bool) → (numbers interrupts sequences : Sides Bool) → Doubts
doubts_with u ns is ss = record { hidden = u; numbers = ns; interrupts = is; sequences = ss }

-- what may be in doubt of a permanent circuit: no other call is hidden there
abbrev pub in_doubt : (numbers interrupts sequences : Sides Bool) → Doubts
in_doubt ns is ss = doubts_with false ns is ss

-- what is certain of a side of a settled channel is true of the whole walk
pub record SideFits (i : Interface) (z : Side → ℕ) (b : Doubts) (q g : Circuit) (y : Side) : Type 0 where
  pub numbers : FitsDirection i.modulus (of_side y b.numbers) (sent y q.accepted) (of_side y q.acknowledged) (sent y g.accepted) (of_side y g.acknowledged)
  pub interrupts : of_side y b.interrupts ≡ false → of_side y g.unconfirmed ≡ of_side y q.unconfirmed
  pub sequences : b.hidden ≡ false → of_side y b.sequences ≡ false → begun (z y) y g.accepted ≡ begun (z y) y q.accepted
  pub in_order : of_side y b.sequences ≡ false → of_side y b.numbers ≡ false

-- the terms of a settled channel are those of the whole walk, or, where another call may be hidden, they allow as much
pub record Allows (i : Interface) (hidden : Bool) (k t : Terms) (y : Side) : Type 0 where
  pub window : window_of i k y ≤ window_of i t y
  pub below : window_of i t y < i.modulus
  pub size : size_of i k y ≤ size_of i t y
  pub same : hidden ≡ false → size_of i t y ≡ size_of i k y

-- numbers that are written in another way
pub numbers_at : (m : ℕ) (d e : Bool) (s u a c t v b w : ℕ) → e ≡ d → u ≡ s → c ≡ a → v ≡ t → w ≡ b → FitsDirection m d s a t b → FitsDirection m e u c v w
numbers_at m d e s u a c t v b w p1 p2 p3 p4 p5 f =
    subst (λ e. FitsDirection m e u c v w) (sym p1) (subst (λ u. FitsDirection m d u c v w) (sym p2) (subst (λ c. FitsDirection m d s c v w) (sym p3)
    (subst (λ v. FitsDirection m d s a v w) (sym p4) (subst (λ w. FitsDirection m d s a t w) (sym p5) f))))

-- ---- packets that were missed

abbrev pub completed_list : (m : ℕ) (doubt : Bool) → Side → (n : ℕ) → List AcceptedData → List AcceptedData
completed_list m true x n hs = hs ++ replicate (missing m (sent x hs) n) (missed x)
completed_list m false x n hs = hs

pub completed_is : (t : Terms) (m : ℕ) (d : Bool) (x : Side) (n : ℕ) (q : Circuit) → completed_to m d x n (channel_with t q) ≡ channel_with t (record q { accepted = completed_list m d x n q.accepted })
completed_is t m true x n q = refl
completed_is t m false x n q = refl

pub sent_completed : (m : ℕ) (d : Bool) (x : Side) (n : ℕ) (hs : List AcceptedData) → sent x (completed_list m d x n hs) ≡ completed_count m d (sent x hs) n
sent_completed m true x n hs = sent_missed x hs (missing m (sent x hs) n)
sent_completed m false x n hs = refl

packets_completed : (m : ℕ) (d : Bool) (x : Side) (n : ℕ) (hs : List AcceptedData) → packets_of (other x) (completed_list m d x n hs) ≡ packets_of (other x) hs
packets_completed m true x n hs = packets_apart x hs (missing m (sent x hs) n)
packets_completed m false x n hs = refl

packets_back : (m : ℕ) (d : Bool) (x : Side) (n : ℕ) (hs : List AcceptedData) → packets_of x (completed_list m d (other x) n hs) ≡ packets_of x hs
packets_back m d T n hs = packets_completed m d N n hs
packets_back m d N n hs = packets_completed m d T n hs

none_completed : (m : ℕ) (d : Bool) (x : Side) (n : ℕ) (hs : List AcceptedData) → d ≡ false → completed_list m d x n hs ≡ hs
none_completed m true x n hs e = absurd (false≢true (sym e))
none_completed m false x n hs e = refl

begun_by : (size : ℕ) (x : Side) (hs gs : List AcceptedData) → packets_of x hs ≡ packets_of x gs → begun size x hs ≡ begun size x gs
begun_by size x hs gs e = ap (λ l. reverse (take_while (is_category_a size) (reverse l))) e

-- ---- data

window_is : (i : Interface) (t : Terms) (b : Doubts) (q : Circuit) (x : Side) → window_in_doubt i b (channel_with t q) x ≡ window_for i.modulus (window_of i t x) (of_side x b.numbers)
window_is i t b q x = at (of_side x b.numbers)
  where
    at : (d : Bool) → elim d as (λ _. ℕ) [ true ↦ i.modulus | false ↦ window_of i t x ] ≡ window_for i.modulus (window_of i t x) d
    at true = refl
    at false = refl

edge_own : (m : ℕ) (d : Bool) (x : Side) (n : ℕ) (v : Sides ℕ) → of_side x (edge_in_doubt m d x n v) ≡ edge_after m d n (of_side x v)
edge_own m true x n v = of_own x _ v
edge_own m false x n v = refl

edge_other : (m : ℕ) (d : Bool) (x : Side) (n : ℕ) (v : Sides ℕ) → of_side (other x) (edge_in_doubt m d x n v) ≡ of_side (other x) v
edge_other m true x n v = of_other x _ v
edge_other m false x n v = refl

-- what was completed for a data packet
abbrev pub completed_circuit : (m : ℕ) → Doubts → Side → DataHeader → Circuit → Circuit
completed_circuit m b x h g = record g {
  accepted = completed_list m (of_side (other x) b.numbers) (other x) h.receive (completed_list m (of_side x b.numbers) x h.send g.accepted);
}

-- the circuit after it, where the P(R) goes up to j
abbrev pub after_data : Interface → Doubts → Item → DataHeader → (j : ℕ) → Circuit → Circuit
after_data i b r h j g =
    let hs : List AcceptedData = (completed_circuit i.modulus b r.side h g).accepted ++ accepted_of i r h ∷ [] in
    record g { accepted = hs; acknowledged = edge_in_doubt i.modulus (of_side r.side b.numbers) r.side (sent r.side hs) (with_side (other r.side) j g.acknowledged) }

abbrev pub doubts_then : Interface → Terms → Doubts → Item → DataHeader → Doubts
doubts_then i t b r h = doubts_after_data r.side (may_be_category_a b.hidden (size_of i t r.side) (accepted_of i r h)) b

-- what it says: the data, and settings where it completes a message
abbrev pub said_in_doubt : Interface → Terms → Doubts → Item → DataHeader → Circuit → List What
said_in_doubt i t b r h g =
    let d : Circuit = completed_circuit i.modulus b r.side h g in
    DataAccepted r.side (accepted_of i r h).length
    ∷ settings_in_doubt r.side (message_in_doubt b.hidden (of_side r.side b.sequences) (size_of i t r.side) (accepted_of i r h) (may_be_begun b.hidden (size_of i t r.side) r.side d.accepted) (channel_with t d))

-- what a packet comes to that is no finding
abbrev pub taken_with : Terms → List What → Doubts → Circuit → SettledOutcome
taken_with t ws b g = record { outcome = record { reported = ws; after = channel_with t g }; doubts = b }

-- the same data packet on the settled channel
pub record DataSettled (i : Interface) (k t : Terms) (b : Doubts) (r : Item) (h : DataHeader) (q g : Circuit) (j : ℕ) : Type 0 where
  pub upto : ℕ
  pub is : data_in_doubt i D1 r (Some h) b (channel_with t g) ≡ taken_with t (said_in_doubt i t b r h g) (doubts_then i t b r h) (after_data i b r h upto g)
  pub fits : (y : Side) → SideFits i (size_of i k) (doubts_then i t b r h) (with_data i r h j q) (after_data i b r h upto g) y

pub data_settled : (i : Interface) (k t : Terms) (u : Bool) (ns is ss : Sides Bool) (r : Item) (h : DataHeader) (q g : Circuit) → (i.modulus ≡ 8) ⊎ (i.modulus ≡ 128) → Allows i u k t r.side
    → ((y : Side) → SideFits i (size_of i k) (doubts_with u ns is ss) q g y) → (w : DataTaken i k r h q) → DataSettled i k t (doubts_with u ns is ss) r h q g w.upto
data_settled i k t u ns is ss r h q g e allows f w =
    record {
      upto = receives.0;
      is = is_accepted;
      fits = by_side (λ y. SideFits i (size_of i k) (doubts_then i t b r h) (with_data i r h w.upto q) (after_data i b r h receives.0 g) y) x own apart;
    }
  where
    b : Doubts
    b = doubts_with u ns is ss

    m : ℕ
    m = i.modulus

    x : Side
    x = r.side

    p : AcceptedData
    p = accepted_of i r h

    g1 : Circuit
    g1 = completed_circuit i.modulus (doubts_with u ns is ss) r.side h g

    sends : SendFits i.modulus (window_of i t r.side) (sent r.side q.accepted) (of_side r.side q.acknowledged) (sent r.side g.accepted) (of_side r.side g.acknowledged) h.send (of_side r.side ns)
    sends = send_fits i.modulus (window_of i t r.side) (sent r.side q.accepted) (of_side r.side q.acknowledged) (sent r.side g.accepted) (of_side r.side g.acknowledged) h.send (of_side r.side ns) e allows.below (f r.side).numbers
        (record { is = w.next.is; room = omega (arith, w.next.room, allows.window) })

    receives : (j : ℕ) × (count_acknowledged i.modulus (completed_count i.modulus (of_side (other r.side) ns) (sent (other r.side) g.accepted) h.receive) (of_side (other r.side) g.acknowledged) h.receive ≡ Some j)
        × FitsDirection i.modulus (of_side (other r.side) ns) (sent (other r.side) q.accepted) w.upto (completed_count i.modulus (of_side (other r.side) ns) (sent (other r.side) g.accepted) h.receive) j
    receives = receive_fits i.modulus (sent (other r.side) q.accepted) (of_side (other r.side) q.acknowledged) (sent (other r.side) g.accepted) (of_side (other r.side) g.acknowledged) h.receive w.upto (of_side (other r.side) ns) e (f (other r.side)).numbers w.receive

    sent_of_own : sent x g1.accepted ≡ completed_count m (of_side x ns) (sent x g.accepted) h.send
    sent_of_own =
        ap (λ l. length l) (packets_back m (of_side (other x) ns) x h.receive (completed_list m (of_side x ns) x h.send g.accepted))
        ∙ sent_completed m (of_side x ns) x h.send g.accepted

    sent_of_other : sent (other x) g1.accepted ≡ completed_count m (of_side (other x) ns) (sent (other x) g.accepted) h.receive
    sent_of_other =
        sent_completed m (of_side (other x) ns) (other x) h.receive (completed_list m (of_side x ns) x h.send g.accepted)
        ∙ ap (λ n. completed_count m (of_side (other x) ns) n h.receive) (ap (λ l. length l) (packets_completed m (of_side x ns) x h.send g.accepted))

    completed : completed_for_data m b x h (channel_with t g) ≡ channel_with t g1
    completed =
        ap (λ c. completed_to m (of_side (other x) ns) (other x) h.receive c) (completed_is t m (of_side x ns) x h.send g)
        ∙ completed_is t m (of_side (other x) ns) (other x) h.receive (record g { accepted = completed_list m (of_side x ns) x h.send g.accepted })

    counted : Counts
    counted = record (counts_of (channel_with t g1)) {
      sent = with_side x (of_side x (sent_by g1.accepted) + 1) (sent_by g1.accepted);
      acknowledged = with_side (other x) receives.0 g.acknowledged;
    }

    counts : count_data m (window_in_doubt i b (channel_with t g) x) (counts_of (channel_with t g1)) x h.send h.receive ≡ Ok counted
    counts =
        ap (λ u. count_data m u (counts_of (channel_with t g1)) x h.send h.receive) (window_is i t b g x)
        ∙ count_data_is m (window_for m (window_of i t x) (of_side x ns)) (counts_of (channel_with t g1)) x h.send h.receive receives.0
        (ap (λ n. is_send_valid m (window_for m (window_of i t x) (of_side x ns)) n (of_side x g.acknowledged) h.send) (of_sent x g1.accepted ∙ sent_of_own) ∙ next_valid m _ _ _ h.send sends.next)
        (ap (λ n. count_acknowledged m n (of_side (other x) g.acknowledged) h.receive) (of_sent (other x) g1.accepted ∙ sent_of_other) ∙ receives.1)

    -- what was begun, where that is certain
    begun_same : u ≡ false → of_side x ss ≡ false → begun (size_of i k x) x g1.accepted ≡ begun (size_of i k x) x q.accepted
    begun_same v d =
        begun_by (size_of i k x) x g1.accepted g.accepted
        (packets_back m (of_side (other x) ns) x h.receive (completed_list m (of_side x ns) x h.send g.accepted)
        ∙ ap (λ l. packets_of x l) (none_completed m (of_side x ns) x h.send g.accepted ((f x).in_order d)))
        ∙ (f x).sequences v d

    alike : is_mixed u (of_side x ss) p (may_be_begun u (size_of i t x) x g1.accepted) ≡ false
    alike = at u refl (of_side x ss) refl
      where
        at : (v : Bool) → u ≡ v → (d : Bool) → of_side x ss ≡ d → is_mixed v d p (may_be_begun v (size_of i t x) x g1.accepted) ≡ false
        at true v d e = refl
        at false v true d = refl
        at false v false d = ap (λ n. not (is_alike p (begun n x g1.accepted))) (allows.same v) ∙ ap (λ l. not (is_alike p l)) (begun_same v d) ∙ ap (λ a. not a) w.alike

    message : Option (List ℕ)
    message = message_in_doubt u (of_side x ss) (size_of i t x) p (may_be_begun u (size_of i t x) x g1.accepted) (channel_with t g1)

    is_accepted : data_in_doubt i D1 r (Some h) b (channel_with t g) ≡ accepting_in_doubt m x (size_of i t x) p counted message b (channel_with t g1)
    is_accepted =
        ap (λ d. counted_in_doubt m x D1 (size_of i t x) p (count_data m (window_in_doubt i b (channel_with t g) x) (counts_of d) x h.send h.receive) b d (channel_with t g)) completed
        ∙ ap (λ v. counted_in_doubt m x D1 (size_of i t x) p v b (channel_with t g1) (channel_with t g)) counts
        ∙ ap (λ a. elim a as (λ _. SettledOutcome) [
          | true ↦ failing_in_doubt x D1 INCONSISTENT_Q_BIT_SETTING b (channel_with t g)
          | false ↦ accepting_in_doubt m x (size_of i t x) p counted message b (channel_with t g1)
        ]) alike

    category : u ≡ false → may_be_category_a u (size_of i t x) p ≡ is_category_a (size_of i k x) p
    category v = ap (λ u. may_be_category_a u (size_of i t x) p) v ∙ ap (λ n. is_category_a n p) (allows.same v)

    -- what is in doubt of its sequence then
    mixing : Bool
    mixing = of_side x ss && may_be_category_a u (size_of i t x) p

    own_sequences : u ≡ false → of_side x (doubts_then i t b r h).sequences ≡ false → begun (size_of i k x) x (g1.accepted ++ p ∷ []) ≡ begun (size_of i k x) x (q.accepted ++ p ∷ [])
    own_sequences v d =
        begun_own (size_of i k x) x g1.accepted p (own_side x) ∙ at (is_category_a (size_of i k x) p) (ap (λ a. of_side x ss && a) (sym (category v)) ∙ sym (of_own x mixing ss) ∙ d) ∙ sym (begun_own (size_of i k x) x q.accepted p (own_side x))
      where
        at : (a : Bool) → (of_side x ss && a) ≡ false → cond a (begun (size_of i k x) x g1.accepted ++ p ∷ []) [] ≡ cond a (begun (size_of i k x) x q.accepted ++ p ∷ []) []
        at false d = refl
        at true d = ap (λ l. l ++ p ∷ []) (begun_same v (plain (of_side x ss) d))
          where
            plain : (s : Bool) → (s && true) ≡ false → s ≡ false
            plain true e = e
            plain false e = refl

    own : SideFits i (size_of i k) (doubts_then i t b r h) (with_data i r h w.upto q) (after_data i b r h receives.0 g) x
    own = record {
      numbers = numbers_at m false (of_side x (with_side x false ns)) (sent x q.accepted + 1) (sent x (q.accepted ++ p ∷ []))
          (of_side x q.acknowledged) (of_side x (with_side (other x) w.upto q.acknowledged))
          (completed_count m (of_side x ns) (sent x g.accepted) h.send + 1) (sent x (g1.accepted ++ p ∷ []))
          (edge_after m (of_side x ns) (completed_count m (of_side x ns) (sent x g.accepted) h.send + 1) (of_side x g.acknowledged))
          (of_side x (edge_in_doubt m (of_side x ns) x (sent x (g1.accepted ++ p ∷ [])) (with_side (other x) receives.0 g.acknowledged)))
          (of_own x false ns)
          (sent_own x q.accepted p (own_side x))
          (of_back x w.upto q.acknowledged)
          (sent_own x g1.accepted p (own_side x) ∙ ap (λ n. n + 1) sent_of_own)
          (edge_own m (of_side x ns) x (sent x (g1.accepted ++ p ∷ [])) (with_side (other x) receives.0 g.acknowledged)
          ∙ (λ j. edge_after m (of_side x ns) ((sent_own x g1.accepted p (own_side x) ∙ ap (λ n. n + 1) sent_of_own) j) (of_back x receives.0 g.acknowledged j)))
          sends.fits;
      interrupts = (f x).interrupts;
      sequences = own_sequences;
      in_order = λ d. of_own x false ns;
    }

    apart : SideFits i (size_of i k) (doubts_then i t b r h) (with_data i r h w.upto q) (after_data i b r h receives.0 g) (other x)
    apart = record {
      numbers = numbers_at m (of_side (other x) ns) (of_side (other x) (with_side x false ns)) (sent (other x) q.accepted) (sent (other x) (q.accepted ++ p ∷ []))
          w.upto (of_side (other x) (with_side (other x) w.upto q.acknowledged))
          (completed_count m (of_side (other x) ns) (sent (other x) g.accepted) h.receive) (sent (other x) (g1.accepted ++ p ∷ []))
          receives.0 (of_side (other x) (edge_in_doubt m (of_side x ns) x (sent x (g1.accepted ++ p ∷ [])) (with_side (other x) receives.0 g.acknowledged)))
          (of_other x false ns)
          (sent_other (other x) q.accepted p (other_side x))
          (of_own (other x) w.upto q.acknowledged)
          (sent_other (other x) g1.accepted p (other_side x) ∙ sent_of_other)
          (edge_other m (of_side x ns) x (sent x (g1.accepted ++ p ∷ [])) (with_side (other x) receives.0 g.acknowledged) ∙ of_own (other x) receives.0 g.acknowledged)
          receives.2;
      interrupts = (f (other x)).interrupts;
      sequences = λ v d.
          let certain : of_side (other x) ss ≡ false = sym (of_other x mixing ss) ∙ d in
          begun_other (size_of i k (other x)) (other x) g1.accepted p (other_side x)
          ∙ begun_by (size_of i k (other x)) (other x) g1.accepted g.accepted
          (ap (λ l. packets_of (other x) l) (none_completed m (of_side (other x) ns) (other x) h.receive (completed_list m (of_side x ns) x h.send g.accepted) ((f (other x)).in_order certain))
          ∙ packets_completed m (of_side x ns) x h.send g.accepted)
          ∙ (f (other x)).sequences v certain
          ∙ sym (begun_other (size_of i k (other x)) (other x) q.accepted p (other_side x));
      in_order = λ d. of_other x false ns ∙ (f (other x)).in_order (sym (of_other x mixing ss) ∙ d);
    }

-- ---- RR and RNR

-- the same RR or RNR on the settled channel
pub record ReceiveSettled (i : Interface) (k t : Terms) (b : Doubts) (x : Side) (n : ℕ) (q g : Circuit) (j : ℕ) : Type 0 where
  pub settled : Circuit
  pub in_d1 : settled.state ≡ g.state
  pub is : receive_in_doubt i.modulus x D1 (Some n) b (channel_with t g) ≡ taken_with t [] b settled
  pub fits : (y : Side) → SideFits i (size_of i k) b (with_receive x j q) settled y

pub receive_settled : (i : Interface) (k t : Terms) (u : Bool) (ns is ss : Sides Bool) (x : Side) (n : ℕ) (q g : Circuit) → (i.modulus ≡ 8) ⊎ (i.modulus ≡ 128)
    → ((y : Side) → SideFits i (size_of i k) (doubts_with u ns is ss) q g y) → (w : ReceiveTaken k i.modulus x n q) → ReceiveSettled i k t (doubts_with u ns is ss) x n q g w.upto
receive_settled i k t u ns is ss x n q g e f w = record {
  settled = g2;
  in_d1 = refl;
  is = is_taken;
  fits = by_side (λ y. SideFits i (size_of i k) (doubts_with u ns is ss) (with_receive x w.upto q) g2 y) x own apart;
}
  where
    m : ℕ
    m = i.modulus

    d : Bool
    d = of_side (other x) ns

    g1 : Circuit
    g1 = record g { accepted = completed_list i.modulus (of_side (other x) ns) (other x) n g.accepted }

    receives : (j : ℕ) × (count_acknowledged i.modulus (completed_count i.modulus (of_side (other x) ns) (sent (other x) g.accepted) n) (of_side (other x) g.acknowledged) n ≡ Some j)
        × FitsDirection i.modulus (of_side (other x) ns) (sent (other x) q.accepted) w.upto (completed_count i.modulus (of_side (other x) ns) (sent (other x) g.accepted) n) j
    receives = receive_fits i.modulus (sent (other x) q.accepted) (of_side (other x) q.acknowledged) (sent (other x) g.accepted) (of_side (other x) g.acknowledged) n w.upto (of_side (other x) ns) e (f (other x)).numbers w.receive

    g2 : Circuit
    g2 = record g1 { acknowledged = with_side (other x) receives.0 g.acknowledged }

    sent_of_other : sent (other x) g1.accepted ≡ completed_count m d (sent (other x) g.accepted) n
    sent_of_other = sent_completed m d (other x) n g.accepted

    counts : count_receive m (counts_of (channel_with t g1)) x n ≡ Ok (record (counts_of (channel_with t g1)) { acknowledged = with_side (other x) receives.0 g.acknowledged })
    counts =
        count_receive_is m (counts_of (channel_with t g1)) x n receives.0
        (ap (λ s. count_acknowledged m s (of_side (other x) g.acknowledged) n) (of_sent (other x) g1.accepted ∙ sent_of_other) ∙ receives.1)

    is_taken : receive_in_doubt m x D1 (Some n) (doubts_with u ns is ss) (channel_with t g) ≡ taken_with t [] (doubts_with u ns is ss) g2
    is_taken =
        ap (λ c. counting_in_doubt x D1 (count_receive m (counts_of c) x n) (doubts_with u ns is ss) (doubts_with u ns is ss) c (channel_with t g)) (completed_is t m d (other x) n g)
        ∙ ap (λ v. counting_in_doubt x D1 v (doubts_with u ns is ss) (doubts_with u ns is ss) (channel_with t g1) (channel_with t g)) counts

    own : SideFits i (size_of i k) (doubts_with u ns is ss) (with_receive x w.upto q) g2 x
    own = record {
      numbers = numbers_at m (of_side x ns) (of_side x ns) (sent x q.accepted) (sent x q.accepted) (of_side x q.acknowledged) (of_side x (with_side (other x) w.upto q.acknowledged))
          (sent x g.accepted) (sent x g1.accepted) (of_side x g.acknowledged) (of_side x (with_side (other x) receives.0 g.acknowledged))
          refl refl (of_back x w.upto q.acknowledged) (ap (λ l. length l) (packets_back m d x n g.accepted)) (of_back x receives.0 g.acknowledged) (f x).numbers;
      interrupts = (f x).interrupts;
      sequences = λ v c. begun_by (size_of i k x) x g1.accepted g.accepted (packets_back m d x n g.accepted) ∙ (f x).sequences v c;
      in_order = (f x).in_order;
    }

    apart : SideFits i (size_of i k) (doubts_with u ns is ss) (with_receive x w.upto q) g2 (other x)
    apart = record {
      numbers = numbers_at m (of_side (other x) ns) (of_side (other x) ns) (sent (other x) q.accepted) (sent (other x) q.accepted) w.upto (of_side (other x) (with_side (other x) w.upto q.acknowledged))
          (completed_count m d (sent (other x) g.accepted) n) (sent (other x) g1.accepted) receives.0 (of_side (other x) (with_side (other x) receives.0 g.acknowledged))
          refl refl (of_own (other x) w.upto q.acknowledged) sent_of_other (of_own (other x) receives.0 g.acknowledged) receives.2;
      interrupts = (f (other x)).interrupts;
      sequences = λ v c. begun_by (size_of i k (other x)) (other x) g1.accepted g.accepted (ap (λ l. packets_of (other x) l) (none_completed m d (other x) n g.accepted ((f (other x)).in_order c))) ∙ (f (other x)).sequences v c;
      in_order = (f (other x)).in_order;
    }
