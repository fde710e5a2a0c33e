-- Data packets on a settled channel.
use Rattle.std.proofs.Common.{◌≡◌, ◌⊎◌, ◌+◌, ◌-◌, ℕ, Bool, true, false, true≢false, refl, sym, ◌∙◌, ap, subst, length, map, List, [], ◌∷◌, ◌++◌, Option, Some, None, Result, Ok, Err}
use Rattle.std.specs.Prelude.{not, reverse, take_while, ◌&&◌}
use Rattle.line_model.specs.declared.diagnostic.TheConstants.{INCONSISTENT_Q_BIT_SETTING}
use Rattle.line_model.specs.declared.event.Event.{Event}
use Rattle.line_model.specs.declared.event.What.TheVariants.{Data}
use Rattle.line_model.specs.declared.interface.Interface.{Interface}
use Rattle.line_model.specs.declared.packet.DataHeader.{DataHeader}
use Rattle.line_model.specs.declared.state.Side.{Side}
use Rattle.line_model.specs.declared.state.Side.TheVariants.{T, N}
use Rattle.line_model.specs.declared.state.StateName.{StateName}
use Rattle.line_model.specs.basics.Records.{Item}
use Rattle.line_model.specs.packets.Formats.{is_pad_call, size_in_force}
use Rattle.line_model.specs.channels.Channels.{AcceptedData, Channel, Sides, of_side, other, with_side}
use Rattle.line_model.specs.channels.ChannelStep.{counts_of, accepted_of}
use Rattle.line_model.specs.channels.FlowControl.{Counts, count_acknowledged, count_data, count_receive, is_send_valid, is_side, packets_of, sent, sent_by}
use Rattle.line_model.specs.channels.Gaps.{Doubts, of_both}
use Rattle.line_model.specs.channels.GapStep.{SettledOutcome, accepting_in_doubt, alike_at_end, alike_in_doubt, completed_for_data, completed_to, counted_in_doubt, data_in_doubt, doubts_after_data, edge_in_doubt, failing_in_doubt, is_in_d1, is_mixed, may_be_begun, may_be_category_a, message_in_doubt, settings_in_doubt, window_in_doubt}
use Rattle.line_model.specs.channels.Sequences.{sequence_octets}
use Rattle.data_transfer.specs.Assembler.{begun_on}
use Rattle.data_transfer.specs.Assembly.{Holds}
use Rattle.data_transfer.specs.FlowResidues.{FlowResidues, ResiduesRepresent}
use Rattle.data_transfer.specs.Sequences.{Assembly, SequenceView}
use Rattle.data_transfer.proofs.SequenceLemmas.{packets_of-other, packets_of-same}
use Rattle.channel_machine.specs.declared.events.EventOrigin.{EventOrigin}
use Rattle.channel_machine.specs.Channels as channels
use Rattle.channel_machine.specs.Channels.{Known}
use Rattle.channel_machine.specs.Events.{Reports, data_of, event_at}
use Rattle.channel_machine.specs.GapChannels.{RepresentsSettled, at_rest}
use Rattle.channel_machine.specs.GapView.{InDoubt}
use Rattle.channel_machine.specs.SettledData.{Continues, IsAdded, IsDataJudged, IsPut, continued_by, data_settled, known_message}
use Rattle.channel_machine.specs.SettledNumbers.{IsNumbered, IsWidest, NumbersRepresent, SequencesRepresent, kept_begun, kept_of}
use Rattle.channel_machine.specs.SettledSequences.{kept_after}
use Rattle.channel_machine.specs.SettledSteps.{SettledDoes}
use Rattle.channel_machine.proofs.Completing.{ack_same, acked, kept_completed, receive_is, rest_completed, sent_other, side_of}
use Rattle.channel_machine.proofs.Counting.{data_counts, sent_more}
use Rattle.channel_machine.proofs.Reached.{same}
use Rattle.channel_machine.proofs.Sequencing.{end_done, end_more}
use Rattle.channel_machine.proofs.SettledRows.{doubts_of_d1, none_begun}

-- sides
of_other : {A : Type 0} (x : Side) (a : A) (v : Sides A) → of_side (other x) (with_side x a v) ≡ of_side (other x) v
of_other T a v = refl
of_other N a v = refl

of_own : {A : Type 0} (x : Side) (a : A) (v : Sides A) → of_side x (with_side x a v) ≡ a
of_own T a v = refl
of_own N a v = refl

by_side : (P : Side → Type 0) (x y : Side) → P x → P (other x) → P y
by_side P T T own apart = own
by_side P T N own apart = apart
by_side P N N own apart = own
by_side P N T own apart = apart

own_side : (x : Side) → is_side x x ≡ true
own_side T = refl
own_side N = refl

other_side : (x : Side) → is_side (other x) x ≡ false
other_side T = refl
other_side N = refl

edge_other : (m : ℕ) (b : Bool) (x : Side) (n : ℕ) (v : Sides ℕ) → of_side (other x) (edge_in_doubt m b x n v) ≡ of_side (other x) v
edge_other m false x n v = refl
edge_other m true x n v = of_other x _ v

-- the channel that is completed for a data packet
pub rest_for_data : (m : ℕ) (b : Doubts) (x : Side) (h : DataHeader) (c : Channel) → at_rest (completed_for_data m b x h c) ≡ at_rest c
rest_for_data m b x h c =
    rest_completed m (of_side (other x) b.numbers) (other x) h.receive (completed_to m (of_side x b.numbers) x h.send c) ∙ rest_completed m (of_side x b.numbers) x h.send c

pub size_same : (i : Interface) (b : Doubts) (x y : Side) (h : DataHeader) (c : Channel) → size_in_force i (completed_for_data i.modulus b x h c) y ≡ size_in_force i c y
size_same i b x y h c = ap (λ d. size_in_force i d y) (rest_for_data i.modulus b x h c)

kept_for_data : (i : Interface) (s : InDoubt) (x y : Side) (h : DataHeader) (c : Channel) → NumbersRepresent i.modulus s c → kept_begun i s.doubts y c ≡ kept_begun i s.doubts y (completed_for_data i.modulus s.doubts x h c)
kept_for_data i s x y h c ns =
    kept_completed i i.modulus s x y h.send c ns.unknown
    ∙ kept_completed i i.modulus s (other x) y h.receive (completed_to i.modulus (of_side x s.doubts.numbers) x h.send c) ns.unknown

pub sequences_for_data : (i : Interface) (s : InDoubt) (x : Side) (h : DataHeader) (c : Channel) → NumbersRepresent i.modulus s c → SequencesRepresent i s c → SequencesRepresent i s (completed_for_data i.modulus s.doubts x h c)
sequences_for_data i s x h c ns ss = λ y. subst (λ l. Holds (begun_on s.assembler y) l) (kept_for_data i s x y h c ns) (ss y)

pub continues : (i : Interface) (s : InDoubt) (x : Side) (h : DataHeader) (p : AcceptedData) (c : Channel) → NumbersRepresent i.modulus s c → SequencesRepresent i s c → is_mixed s.doubts.hidden (of_side x s.doubts.sequences) p (continued_by i s.doubts x h c) ≡ false →
    Continues s x (continued_by i s.doubts x h c) p
continues i s x h p c ns ss alike = record {
  holds = subst (λ n. Holds (begun_on s.assembler x) (kept_of (of_side x s.doubts.sequences) s.doubts.hidden (may_be_begun s.doubts.hidden n x (completed_for_data i.modulus s.doubts x h c).accepted)))
      (size_same i s.doubts x x h c) (sequences_for_data i s x h c ns ss x);
  alike = alike;
}

-- the result for its numbers and its Q bit
pub misnumbered : (n : ℕ) (i : Interface) (b : Doubts) (x : Side) (h : DataHeader) (p : AcceptedData) (c : Channel) → IsNumbered (Err n) i b x h c → IsDataJudged (Err n) i b x h p c
misnumbered n i b x h p c is = λ q. ap (λ r. counted_in_doubt i.modulus x q (size_in_force i c x) p r b (completed_for_data i.modulus b x h c) c) is

alike_by : (m : ℕ) (x : Side) (q : StateName) (size : ℕ) (p : AcceptedData) (v : Counts) (b : Doubts) (d c : Channel) → is_mixed b.hidden (of_side x b.sequences) p (may_be_begun b.hidden size x d.accepted) ≡ true →
    alike_in_doubt m x q size p v b d c ≡ failing_in_doubt x q INCONSISTENT_Q_BIT_SETTING b c
alike_by m x q size p v b d c e =
    ap (λ a. elim a as (λ _. SettledOutcome) [
      | true ↦ failing_in_doubt x q INCONSISTENT_Q_BIT_SETTING b c
      | false ↦ accepting_in_doubt m x size p v (message_in_doubt b.hidden (of_side x b.sequences) size p (may_be_begun b.hidden size x d.accepted) d) b d
    ]) e

pub mismatched : (f : FlowResidues) (i : Interface) (b : Doubts) (x : Side) (h : DataHeader) (p : AcceptedData) (c : Channel) → IsNumbered (Ok f) i b x h c →
    is_mixed b.hidden (of_side x b.sequences) p (continued_by i b x h c) ≡ true → IsDataJudged (Err INCONSISTENT_Q_BIT_SETTING) i b x h p c
mismatched f i b x h p c (v, is, _) mixed =
    let d : Channel = completed_for_data i.modulus b x h c in
    λ q. ap (λ r. counted_in_doubt i.modulus x q (size_in_force i c x) p r b d c) is ∙ alike_by i.modulus x q (size_in_force i c x) p v b d c mixed

-- whether its Q bit is another, by the sequences of the channel that was completed for it
pub mixed_at : (r : Bool) (i : Interface) (s : InDoubt) (x : Side) (h : DataHeader) (p : AcceptedData) (c : Channel) →
    r ≡ is_mixed s.doubts.hidden (of_side x s.doubts.sequences) p (may_be_begun s.doubts.hidden (size_in_force i (completed_for_data i.modulus s.doubts x h c) x) x (completed_for_data i.modulus s.doubts x h c).accepted) →
    is_mixed s.doubts.hidden (of_side x s.doubts.sequences) p (continued_by i s.doubts x h c) ≡ r
mixed_at r i s x h p c is =
    sym (is ∙ ap (λ n. is_mixed s.doubts.hidden (of_side x s.doubts.sequences) p (may_be_begun s.doubts.hidden n x (completed_for_data i.modulus s.doubts x h c).accepted)) (size_same i s.doubts x x h c))

-- one that is accepted
accepted_by : (i : Interface) (x : Side) (q : StateName) (h : DataHeader) (p : AcceptedData) (v : Counts) (b : Doubts) (c : Channel) →
    count_data i.modulus (window_in_doubt i b c x) (counts_of (completed_for_data i.modulus b x h c)) x h.send h.receive ≡ Ok v → is_mixed b.hidden (of_side x b.sequences) p (continued_by i b x h c) ≡ false →
    data_settled i x q h p b c
    ≡ accepting_in_doubt i.modulus x (size_in_force i c x) p v
    (message_in_doubt b.hidden (of_side x b.sequences) (size_in_force i c x) p (continued_by i b x h c) (completed_for_data i.modulus b x h c)) b (completed_for_data i.modulus b x h c)
accepted_by i x q h p v b c is alike =
    let d : Channel = completed_for_data i.modulus b x h c in
    let size = size_in_force i c x in
    ap (λ r. counted_in_doubt i.modulus x q size p r b d c) is
    ∙ ap (λ a. elim a as (λ _. SettledOutcome) [
      | true ↦ failing_in_doubt x q INCONSISTENT_Q_BIT_SETTING b c
      | false ↦ accepting_in_doubt i.modulus x size p v (message_in_doubt b.hidden (of_side x b.sequences) size p (continued_by i b x h c) d) b d
    ]) alike

-- its P(R)
receive_by : (m : ℕ) (c v : Counts) (x : Side) (n : ℕ) (b : Bool) →
    ◌≡◌ {A = Result Counts ℕ} (elim b [ true ↦ count_receive m (record c { sent = with_side x (of_side x c.sent + 1) c.sent }) x n | false ↦ Err 1 ]) (Ok v) →
    count_receive m (record c { sent = with_side x (of_side x c.sent + 1) c.sent }) x n ≡ Ok v
receive_by m c v x n true e = e
receive_by m c v x n false e = cc

data_receives : (m w : ℕ) (c v : Counts) (x : Side) (s n : ℕ) → count_data m w c x s n ≡ Ok v → count_receive m (record c { sent = with_side x (of_side x c.sent + 1) c.sent }) x n ≡ Ok v
data_receives m w c v x s n e = receive_by m c v x n (is_send_valid m w (of_side x c.sent) (of_side x c.acknowledged) s) e

sent_still : (x : Side) (hs : List AcceptedData) (p : AcceptedData) → p.side ≡ x → sent (other x) (hs ++ p ∷ []) ≡ sent (other x) hs
sent_still x hs p side = ap (λ l. length l) (packets_of-other (other x) hs p (ap (λ y. is_side (other x) y) side ∙ other_side x))

-- the other side has nothing outstanding after it, where its next P(S) is in doubt
settled_other : (m w : ℕ) (s : InDoubt) (x : Side) (h : DataHeader) (p : AcceptedData) (v : Counts) (n : ℕ) (c : Channel) → (m ≡ 8) ⊎ (m ≡ 128) → NumbersRepresent m s c → p.side ≡ x →
    count_data m w (counts_of (completed_for_data m s.doubts x h c)) x h.send h.receive ≡ Ok v → of_side (other x) s.doubts.numbers ≡ true →
    of_side (other x) (sent_by ((completed_for_data m s.doubts x h c).accepted ++ p ∷ [])) ≡ of_side (other x) (edge_in_doubt m (of_side x s.doubts.numbers) x n v.acknowledged)
settled_other m w s x h p v n c eight ns side is doubt =
    let a : Bool = of_side x s.doubts.numbers in
    let b : Bool = of_side (other x) s.doubts.numbers in
    let e : Channel = completed_to m a x h.send c in
    let d : Channel = completed_to m b (other x) h.receive e in
    let (k, found, taken) = receive_is m (record (counts_of d) { sent = with_side x (of_side x (sent_by d.accepted) + 1) (sent_by d.accepted) }) v x h.receive (data_receives m w (counts_of d) v x h.send h.receive is) in
    let none : sent (other x) e.accepted ≡ of_side (other x) e.acknowledged =
    sent_other m a x h.send c ∙ sym (side_of (other x) c.accepted) ∙ ns.acknowledged (other x) doubt ∙ ap (λ u. of_side (other x) u) (sym (ack_same m a x h.send c)) in
    let here : count_acknowledged m (sent (other x) d.accepted) (of_side (other x) e.acknowledged) h.receive ≡ Some k =
    (λ j. count_acknowledged m ((sym (side_of (other x) d.accepted) ∙ sym (of_other x (of_side x (sent_by d.accepted) + 1) (sent_by d.accepted))) j) (of_side (other x) (sym (ack_same m b (other x) h.receive e) j)) h.receive) ∙ found in
    side_of (other x) (d.accepted ++ p ∷ []) ∙ sent_still x d.accepted p side
    ∙ acked m x (other x) b h.receive k e v.acknowledged eight none (λ _. doubt) here (taken ∙ ap (λ u. with_side (other x) k u) (ack_same m b (other x) h.receive e))
    ∙ sym (edge_other m a x n v.acknowledged)

-- what is kept of the sequences after it
kept_still : (doubt hidden : Bool) (gs : List AcceptedData) → kept_of (doubt && true) hidden gs ≡ kept_of doubt hidden gs
kept_still true hidden gs = refl
kept_still false hidden gs = refl

begun_own : (doubt hidden : Bool) (size : ℕ) (x : Side) (hs : List AcceptedData) (p : AcceptedData) (a : Bool) → p.side ≡ x → a ≡ may_be_category_a hidden size p →
    kept_of (doubt && a) hidden (may_be_begun hidden size x (hs ++ p ∷ [])) ≡ kept_after doubt hidden a (may_be_begun hidden size x hs) p
begun_own doubt hidden size x hs p true side is =
    ap (λ l. kept_of (doubt && true) hidden (reverse (take_while (may_be_category_a hidden size) (reverse l)))) (packets_of-same x hs p (ap (λ y. is_side x y) side ∙ own_side x))
    ∙ ap (λ l. kept_of (doubt && true) hidden l) (end_more (may_be_category_a hidden size) (packets_of x hs) p (sym is))
    ∙ kept_still doubt hidden (may_be_begun hidden size x hs ++ p ∷ [])
begun_own doubt hidden size x hs p false side is =
    ap (λ l. kept_of (doubt && false) hidden (reverse (take_while (may_be_category_a hidden size) (reverse l)))) (packets_of-same x hs p (ap (λ y. is_side x y) side ∙ own_side x))
    ∙ ap (λ l. kept_of (doubt && false) hidden l) (end_done (may_be_category_a hidden size) (packets_of x hs) p (sym is))
    ∙ none_begun (doubt && false) hidden

begun_other : (doubt hidden : Bool) (size : ℕ) (x : Side) (hs : List AcceptedData) (p : AcceptedData) → p.side ≡ x →
    kept_of doubt hidden (may_be_begun hidden size (other x) (hs ++ p ∷ [])) ≡ kept_of doubt hidden (may_be_begun hidden size (other x) hs)
begun_other doubt hidden size x hs p side =
    ap (λ l. kept_of doubt hidden (reverse (take_while (may_be_category_a hidden size) (reverse l)))) (packets_of-other (other x) hs p (ap (λ y. is_side (other x) y) side ∙ other_side x))

-- the counts after it
counts_after : (m w : ℕ) (f : FlowResidues) (b : Bool) (x : Side) (h : DataHeader) (p : AcceptedData) (v : Counts) (d : Channel) → p.side ≡ x → count_data m w (counts_of d) x h.send h.receive ≡ Ok v →
    ResiduesRepresent f (record v { acknowledged = edge_in_doubt m b x (of_side x v.sent) v.acknowledged }) →
    ResiduesRepresent f (counts_of (record d { accepted = d.accepted ++ p ∷ []; acknowledged = edge_in_doubt m b x (sent x (d.accepted ++ p ∷ [])) v.acknowledged }))
counts_after m w f b x h p v d side is represented =
    let keeps = data_counts m w (counts_of d) v x h.send h.receive is in
    let all : v.sent ≡ sent_by (d.accepted ++ p ∷ []) = keeps.0 ∙ sent_more x d.accepted p side in
    let own : of_side x v.sent ≡ sent x (d.accepted ++ p ∷ []) = ap (λ u. of_side x u) all ∙ side_of x (d.accepted ++ p ∷ []) in
    subst (λ (u : Counts). ResiduesRepresent f u) (λ j. record { sent = all j; acknowledged = edge_in_doubt m b x (own j) v.acknowledged; unconfirmed = keeps.1 j }) represented

-- what is certain after it
numbers_after : (i : Interface) (w : ℕ) (s : InDoubt) (g : Assembly) (f : FlowResidues) (x : Side) (h : DataHeader) (p : AcceptedData) (a : Bool) (v : Counts) (c : Channel) → (i.modulus ≡ 8) ⊎ (i.modulus ≡ 128) → NumbersRepresent i.modulus s c → p.side ≡ x →
    count_data i.modulus w (counts_of (completed_for_data i.modulus s.doubts x h c)) x h.send h.receive ≡ Ok v →
    ResiduesRepresent f (record v { acknowledged = edge_in_doubt i.modulus (of_side x s.doubts.numbers) x (of_side x v.sent) v.acknowledged }) → IsWidest f → f.modulus ≡ s.flow.modulus →
    NumbersRepresent i.modulus (record { doubts = doubts_after_data x a s.doubts; flow = f; assembler = g })
    (record (completed_for_data i.modulus s.doubts x h c) {
      accepted = (completed_for_data i.modulus s.doubts x h c).accepted ++ p ∷ [];
      acknowledged = edge_in_doubt i.modulus (of_side x s.doubts.numbers) x (sent x ((completed_for_data i.modulus s.doubts x h c).accepted ++ p ∷ [])) v.acknowledged;
    })
numbers_after i w s g f x h p a v c eight ns side is represented widest modulus =
    let d : Channel = completed_for_data i.modulus s.doubts x h c in
    let e : Channel = record d { accepted = d.accepted ++ p ∷ []; acknowledged = edge_in_doubt i.modulus (of_side x s.doubts.numbers) x (sent x (d.accepted ++ p ∷ [])) v.acknowledged } in
    let t : Doubts = doubts_after_data x a s.doubts in
    record {
      flow = counts_after i.modulus w f (of_side x s.doubts.numbers) x h p v d side is represented;
      modulus = modulus ∙ ns.modulus;
      widest = widest.windows ∙ ap (λ n. of_both (n - 1)) (modulus ∙ ns.modulus);
      acknowledged = λ y. by_side (λ z. of_side z t.numbers ≡ true → of_side z (sent_by e.accepted) ≡ of_side z e.acknowledged) x y
          (λ k. absurd (true≢false (sym k ∙ of_own x false s.doubts.numbers)))
          (λ k. settled_other i.modulus w s x h p v (sent x (d.accepted ++ p ∷ [])) c eight ns side is (sym (of_other x false s.doubts.numbers) ∙ k));
      unknown = λ y. by_side (λ z. of_side z t.numbers ≡ true → of_side z t.sequences ≡ true) x y
          (λ k. absurd (true≢false (sym k ∙ of_own x false s.doubts.numbers)))
          (λ k. of_other x (of_side x s.doubts.sequences && a) s.doubts.sequences ∙ ns.unknown (other x) (sym (of_other x false s.doubts.numbers) ∙ k));
    }

sequences_after : (i : Interface) (s : InDoubt) (g : Assembly) (f : FlowResidues) (x : Side) (h : DataHeader) (p : AcceptedData) (a : Bool) (u : Sides ℕ) (c : Channel) → NumbersRepresent i.modulus s c → SequencesRepresent i s c → p.side ≡ x →
    a ≡ may_be_category_a s.doubts.hidden (size_in_force i c x) p → Holds (begun_on g x) (kept_after (of_side x s.doubts.sequences) s.doubts.hidden a (continued_by i s.doubts x h c) p) →
    begun_on g (other x) ≡ begun_on s.assembler (other x) →
    SequencesRepresent i (record { doubts = doubts_after_data x a s.doubts; flow = f; assembler = g })
    (record (completed_for_data i.modulus s.doubts x h c) { accepted = (completed_for_data i.modulus s.doubts x h c).accepted ++ p ∷ []; acknowledged = u })
sequences_after i s g f x h p a u c ns ss side category begun apart =
    let d : Channel = completed_for_data i.modulus s.doubts x h c in
    let e : Channel = record d { accepted = d.accepted ++ p ∷ []; acknowledged = u } in
    let t : Doubts = doubts_after_data x a s.doubts in
    let size : (z : Side) → size_in_force i e z ≡ size_in_force i c z = λ z. size_same i s.doubts x z h c in
    let own : kept_begun i t x e ≡ kept_after (of_side x s.doubts.sequences) s.doubts.hidden a (continued_by i s.doubts x h c) p =
    (λ j. kept_of (of_own x (of_side x s.doubts.sequences && a) s.doubts.sequences j) s.doubts.hidden (may_be_begun s.doubts.hidden (size x j) x e.accepted))
    ∙ begun_own (of_side x s.doubts.sequences) s.doubts.hidden (size_in_force i c x) x d.accepted p a side category in
    let rest : kept_begun i t (other x) e ≡ kept_begun i s.doubts (other x) c =
    ap (λ k. kept_of k s.doubts.hidden (may_be_begun s.doubts.hidden (size_in_force i e (other x)) (other x) e.accepted)) (of_other x (of_side x s.doubts.sequences && a) s.doubts.sequences)
    ∙ begun_other (of_side (other x) s.doubts.sequences) s.doubts.hidden (size_in_force i e (other x)) x d.accepted p side ∙ sym (kept_for_data i s x (other x) h c ns) in
    λ y. by_side (λ z. Holds (begun_on g z) (kept_begun i t z e)) x y
    (subst (λ l. Holds (begun_on g x) l) (sym own) begun)
    (subst (λ (q : SequenceView). Holds q (kept_begun i t (other x) e)) (sym apart) (subst (λ l. Holds (begun_on s.assembler (other x)) l) (sym rest) (ss (other x))))

pub accepts : (s : EventOrigin) (old : Known) (held put left : InDoubt) (before after : List Event) (x : Side) (q : StateName) (h : DataHeader) (p : AcceptedData) (a : Bool) (f : FlowResidues) (c : Channel) → RepresentsSettled old held c → is_in_d1 old.state ≡ true → p.side ≡ x →
    IsDataJudged (Ok f) old.terms.interface held.doubts x h p c → IsWidest f → f.modulus ≡ held.flow.modulus → left ≡ record put { doubts = doubts_after_data x a put.doubts; flow = f } →
    IsAdded s old.terms.interface x held put before after a (continued_by old.terms.interface held.doubts x h c) p (completed_for_data old.terms.interface.modulus held.doubts x h c) →
    SettledDoes s old old left before after (data_settled old.terms.interface x q h p held.doubts c)
accepts s old held put left before after x q h p a f c st d1 side ((v, is, represented), alike) widest modulus left_is added =
    let i : Interface = old.terms.interface in
    let b : Doubts = held.doubts in
    let size = size_in_force i c x in
    let d : Channel = completed_for_data i.modulus b x h c in
    let hs : List AcceptedData = continued_by i b x h c in
    let e : Channel = record d { accepted = d.accepted ++ p ∷ []; acknowledged = edge_in_doubt i.modulus (of_side x b.numbers) x (sent x (d.accepted ++ p ∷ [])) v.acknowledged } in
    let rest : at_rest e ≡ at_rest c = rest_for_data i.modulus b x h c in
    let sized : size_in_force i d x ≡ size = size_same i b x x h c in
    let category : a ≡ may_be_category_a b.hidden size p = added.put.category ∙ ap (λ n. may_be_category_a b.hidden n p) sized in
    let new : InDoubt = record { doubts = doubts_after_data x a b; flow = f; assembler = put.assembler } in
    let new_is : left ≡ new = left_is ∙ (λ j. record { doubts = doubts_after_data x a (added.put.doubts j); flow = f; assembler = put.assembler }) in
    let here : is_in_d1 e.state ≡ true = ap (λ (k : Channel). is_in_d1 k.state) rest ∙ ap (λ k. is_in_d1 k) (sym st.rest.state) ∙ d1 in
    let eight : (i.modulus ≡ 8) ⊎ (i.modulus ≡ 128) = subst (λ m. (m ≡ 8) ⊎ (m ≡ 128)) (modulus ∙ st.numbers.modulus) widest.eight in
    subst (λ o. SettledDoes s old old left before after o) (sym (accepted_by i x q h p v b c is alike))
    (subst (λ (l : InDoubt). SettledDoes s old old l before after (accepting_in_doubt i.modulus x size p v (message_in_doubt b.hidden (of_side x b.sequences) size p hs d) b d)) (sym new_is) (record {
      interface = refl;
      channel = refl;
      doubts = ap (λ k. doubts_after_data x k b) category ∙ doubts_of_d1 e.state (doubts_after_data x (may_be_category_a b.hidden size p) b) here;
      represented = record {
        rest = subst (λ k. channels.StatusRepresents old k) (sym rest) st.rest;
        reached = same c e (ap (λ (k : Channel). k.opening) rest) (ap (λ (k : Channel). k.accepting) rest) (ap (λ (k : Channel). k.state) rest) st.reached;
        numbers = numbers_after i (window_in_doubt i b c x) held put.assembler f x h p a v c eight st.numbers side is represented widest modulus;
        sequences = sequences_after i held put.assembler f x h p a e.acknowledged c st.numbers st.sequences side category added.put.begun added.put.apart;
        outside = λ k. absurd (true≢false (sym here ∙ k));
      };
      reports = subst (λ n. Reports s before after (Data x p.length ∷ settings_in_doubt x (message_in_doubt b.hidden (of_side x b.sequences) n p hs d))) sized added.reports;
    }))

-- the packet of a row
pub of_row : (i : Interface) (q : StateName) (r : Item) (h : DataHeader) (b : Doubts) (x : Side) (c : Channel) → x ≡ r.side → data_settled i x q h (accepted_of i r h) b c ≡ data_in_doubt i q r (Some h) b c
of_row i q r h b x c side = ap (λ y. data_settled i y q h (accepted_of i r h) b c) side

-- which message a packet completes
message_by : (pad q doubt a : Bool) (hs : List AcceptedData) (p : AcceptedData) →
    known_message (pad && q) (not doubt && not a) hs p ≡ elim (pad && q && not doubt && not a) as (λ _. Option (List ℕ)) [ true ↦ Some (sequence_octets (alike_at_end p hs ++ p ∷ [])) | false ↦ None ]
message_by true true true a hs p = refl
message_by true true false true hs p = refl
message_by true true false false hs p = refl
message_by true false doubt a hs p = refl
message_by false q doubt a hs p = refl

pub message_reported : (hidden doubt : Bool) (size : ℕ) (p : AcceptedData) (hs : List AcceptedData) (a carried : Bool) (c : Channel) → carried ≡ (is_pad_call c && p.qualified) → a ≡ may_be_category_a hidden size p →
    known_message carried (not doubt && not a) hs p ≡ message_in_doubt hidden doubt size p hs c
message_reported hidden doubt size p hs a carried c e is =
    (λ j. known_message (e j) (not doubt && not (is j)) hs p) ∙ message_by (is_pad_call c) p.qualified doubt (may_be_category_a hidden size p) hs p

pub carries : (pad q carried : Bool) → carried ≡ (pad && q) → carried ≡ true → q ≡ true
carries true q carried e is = sym e ∙ is
carries false q carried e is = absurd (true≢false (sym is ∙ e))

pub unknown : (carried known : Bool) (hs : List AcceptedData) (p : AcceptedData) → p.qualified ≡ true → (known && p.qualified) ≡ false → known_message carried known hs p ≡ None
unknown true true hs p q e = absurd (true≢false (sym q ∙ e))
unknown true false hs p q e = refl
unknown false known hs p q e = refl

-- a packet with Q 0 carries no message
unqualified : (pad q : Bool) → q ≡ false → false ≡ (pad && q)
unqualified true q e = sym e
unqualified false q e = refl

pub added_apart : (s : EventOrigin) (i : Interface) (x : Side) (old new : InDoubt) (events : List Event) (a : Bool) (hs : List AcceptedData) (p : AcceptedData) (c : Channel) → p.qualified ≡ false → IsPut i x old new a hs p c →
    IsAdded s i x old new events (events ++ map (event_at s) (data_of x (Some p.length))) a hs p c
added_apart s i x old new events a hs p c q put = record {
  put = put;
  reports = subst (λ m. Reports s events (events ++ event_at s (Data x p.length) ∷ []) (Data x p.length ∷ settings_in_doubt x m))
      (message_reported old.doubts.hidden (of_side x old.doubts.sequences) (size_in_force i c x) p hs a false c (unqualified (is_pad_call c) p.qualified q) put.category) refl;
}

-- no header
pub none_header : (o : Option DataHeader) → ((h : DataHeader) → ¬ (o ≡ Some h)) → o ≡ None
none_header None other = refl
none_header (Some h) other = absurd (other h refl)
