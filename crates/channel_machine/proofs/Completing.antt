-- A settled channel completed by the packets that may be missing, and what a packet does to its counts.
use Rattle.std.proofs.Common.{◌≡◌, ◌⊎◌, ◌+◌, ℕ, Bool, true, false, true≢false, refl, sym, ◌∙◌, ap, subst, arith, List, ◌++◌, Option, Some, None, Result, Ok, Err}
use Rattle.std.specs.Prelude.{nat_lt, replicate, reverse, take_while}
use Rattle.std.proofs.lemmas.Bool.Decides.{nat_tests}
use Rattle.line_model.specs.declared.diagnostic.TheConstants.{UNAUTHORIZED_INTERRUPT, UNAUTHORIZED_INTERRUPT_CONFIRMATION}
use Rattle.line_model.specs.declared.interface.Interface.{Interface}
use Rattle.line_model.specs.declared.state.Side.{Side}
use Rattle.line_model.specs.declared.state.Side.TheVariants.{T, N}
use Rattle.line_model.specs.channels.Channels.{AcceptedData, Channel, Sides, of_side, other, with_side}
use Rattle.line_model.specs.channels.ChannelStep.{counts_of}
use Rattle.line_model.specs.channels.FlowControl.{Counts, count_acknowledged, count_confirm, count_interrupt, count_receive, sent, sent_by}
use Rattle.line_model.specs.channels.Gaps.{Doubts}
use Rattle.line_model.specs.channels.GapStep.{completed_for_receive, completed_to, may_be_begun, may_be_category_a, missed, missing, with_interrupt}
use Rattle.line_model.specs.packets.Formats.{size_in_force}
use Rattle.data_transfer.specs.Assembler.{begun_on}
use Rattle.data_transfer.specs.Assembly.{Holds}
use Rattle.data_transfer.specs.FlowResidues.{Answers, FlowResidues, ResiduesRepresent}
use Rattle.data_transfer.specs.Sequences.{Assembly}
use Rattle.data_transfer.proofs.FlowLemmas.{acknowledged-none_above, acknowledged-some}
use Rattle.channel_machine.specs.GapChannels.{at_rest}
use Rattle.channel_machine.specs.GapView.{InDoubt}
use Rattle.channel_machine.specs.SettledNumbers.{IsCountedInDoubt, NumbersRepresent, SequencesRepresent, kept_begun, kept_of, with_counts}
use Rattle.channel_machine.proofs.Counting.{answered_err, answered_ok, receive_keeps}
use Rattle.channel_machine.proofs.Missed.{packets_apart, sent_apart, sent_own}

pub rest_completed : (m : ℕ) (b : Bool) (x : Side) (n : ℕ) (c : Channel) → at_rest (completed_to m b x n c) ≡ at_rest c
rest_completed m true x n c = refl
rest_completed m false x n c = refl

-- what such packets leave of the sequences
begun_apart : (hidden : Bool) (size : ℕ) (x : Side) (k : ℕ) (hs : List AcceptedData) → may_be_begun hidden size (other x) (hs ++ replicate k (missed x)) ≡ may_be_begun hidden size (other x) hs
begun_apart hidden size x k hs = ap (λ l. reverse (take_while (may_be_category_a hidden size) (reverse l))) (packets_apart x hs k)

kept_doubt : (i : Interface) (d : Doubts) (x : Side) (c e : Channel) → of_side x d.sequences ≡ true → kept_begun i d x c ≡ kept_begun i d x e
kept_doubt i d x c e is =
    ap (λ b. kept_of b d.hidden (may_be_begun d.hidden (size_in_force i c x) x c.accepted)) is
    ∙ sym (ap (λ b. kept_of b d.hidden (may_be_begun d.hidden (size_in_force i e x) x e.accepted)) is)

-- the sequences of a channel that was completed for one side
pub kept_completed : (i : Interface) (m : ℕ) (s : InDoubt) (y x : Side) (n : ℕ) (c : Channel) → ((z : Side) → of_side z s.doubts.numbers ≡ true → of_side z s.doubts.sequences ≡ true) →
    kept_begun i s.doubts x c ≡ kept_begun i s.doubts x (completed_to m (of_side y s.doubts.numbers) y n c)
kept_completed i m s y x n c unknown = at y x (of_side y s.doubts.numbers) refl
  where
    at : (y x : Side) (b : Bool) → of_side y s.doubts.numbers ≡ b → kept_begun i s.doubts x c ≡ kept_begun i s.doubts x (completed_to m b y n c)
    at y x false e = refl
    at T T true e = kept_doubt i s.doubts T c (completed_to m true T n c) (unknown T e)
    at N N true e = kept_doubt i s.doubts N c (completed_to m true N n c) (unknown N e)
    at T N true e = ap (λ l. kept_of (of_side N s.doubts.sequences) s.doubts.hidden l) (sym (begun_apart s.doubts.hidden (size_in_force i c N) T (missing m (sent T c.accepted) n) c.accepted))
    at N T true e = ap (λ l. kept_of (of_side T s.doubts.sequences) s.doubts.hidden l) (sym (begun_apart s.doubts.hidden (size_in_force i c T) N (missing m (sent N c.accepted) n) c.accepted))

-- the count that a P(R) acknowledges
receive_by : (c v : Counts) (x : Side) (o : Option ℕ) →
    ◌≡◌ {A = Result Counts ℕ} (elim o [ Some k ↦ Ok (record c { acknowledged = with_side (other x) k c.acknowledged }) | None ↦ Err 2 ]) (Ok v) →
    (k : ℕ) × (o ≡ Some k) × (v.acknowledged ≡ with_side (other x) k c.acknowledged)
receive_by c v x None e = cc
receive_by c v x (Some k) e =
    let is : record c { acknowledged = with_side (other x) k c.acknowledged } ≡ v = cc in
    (k, refl, ap (λ u. u.acknowledged) (sym is))

pub receive_is : (m : ℕ) (c v : Counts) (x : Side) (n : ℕ) → count_receive m c x n ≡ Ok v →
    (k : ℕ) × (count_acknowledged m (of_side (other x) c.sent) (of_side (other x) c.acknowledged) n ≡ Some k) × (v.acknowledged ≡ with_side (other x) k c.acknowledged)
receive_is m c v x n e = receive_by c v x (count_acknowledged m (of_side (other x) c.sent) (of_side (other x) c.acknowledged) n) e

-- all of a side is acknowledged that was completed up to P(R)
all_of : (m s a n k : ℕ) → (m ≡ 8) ⊎ (m ≡ 128) → s ≡ a + missing m a n → count_acknowledged m s a n ≡ Some k → k ≡ s
all_of m s a n k e is found = by (nat_lt n m) refl
  where
    by : (b : Bool) → nat_lt n m ≡ b → k ≡ s
    by true l =
        let some : count_acknowledged m s a n ≡ Some (a + missing m a n) = acknowledged-some m s a n e (grind (arith, nat_tests, l)) (omega (arith, is)) (omega (arith, is)) in
        let same : k ≡ a + missing m a n = cc (sym found ∙ some) in
        same ∙ sym is
    by false l = let none : count_acknowledged m s a n ≡ None = acknowledged-none_above m s a n e (grind (arith, nat_tests, l)) in cc (sym none ∙ found)

-- what completing a channel leaves as it is
pub ack_same : (m : ℕ) (b : Bool) (y : Side) (n : ℕ) (c : Channel) → (completed_to m b y n c).acknowledged ≡ c.acknowledged
ack_same m true y n c = refl
ack_same m false y n c = refl

pub sent_other : (m : ℕ) (b : Bool) (y : Side) (n : ℕ) (c : Channel) → sent (other y) (completed_to m b y n c).accepted ≡ sent (other y) c.accepted
sent_other m true y n c = sent_apart y c.accepted (missing m (sent y c.accepted) n)
sent_other m false y n c = refl

pub unconfirmed_same : (m : ℕ) (b : Bool) (y : Side) (n : ℕ) (c : Channel) → (completed_to m b y n c).unconfirmed ≡ c.unconfirmed
unconfirmed_same m true y n c = refl
unconfirmed_same m false y n c = refl

-- the count that P(R) acknowledges of a side that was completed
completed_ack : (m : ℕ) (b : Bool) (y : Side) (n k : ℕ) (c : Channel) → (m ≡ 8) ⊎ (m ≡ 128) → b ≡ true → sent y c.accepted ≡ of_side y c.acknowledged →
    count_acknowledged m (sent y (completed_to m b y n c).accepted) (of_side y c.acknowledged) n ≡ Some k → sent y (completed_to m b y n c).accepted ≡ k
completed_ack m true y n k c e is same found =
    sym (all_of m (sent y (completed_to m true y n c).accepted) (of_side y c.acknowledged) n k e
    (sent_own y c.accepted (missing m (sent y c.accepted) n) ∙ ap (λ s. s + missing m s n) same) found)
completed_ack m false y n k c e is same found = absurd (true≢false (sym is))

-- a side in doubt has nothing outstanding after P(R)
pub acked : (m : ℕ) (x y : Side) (b : Bool) (n k : ℕ) (c : Channel) (v : Sides ℕ) → (m ≡ 8) ⊎ (m ≡ 128) → sent y c.accepted ≡ of_side y c.acknowledged → (y ≡ other x → b ≡ true) →
    count_acknowledged m (sent (other x) (completed_to m b (other x) n c).accepted) (of_side (other x) c.acknowledged) n ≡ Some k → v ≡ with_side (other x) k c.acknowledged →
    sent y (completed_to m b (other x) n c).accepted ≡ of_side y v
acked m T N b n k c v e same doubt found is = completed_ack m b N n k c e (doubt refl) same found ∙ ap (λ w. w.of_n) (sym is)
acked m N T b n k c v e same doubt found is = completed_ack m b T n k c e (doubt refl) same found ∙ ap (λ w. w.of_t) (sym is)
acked m T T b n k c v e same doubt found is = sent_other m b N n c ∙ same ∙ ap (λ w. w.of_t) (sym is)
acked m N N b n k c v e same doubt found is = sent_other m b T n c ∙ same ∙ ap (λ w. w.of_n) (sym is)

pub side_of : (y : Side) (hs : List AcceptedData) → of_side y (sent_by hs) ≡ sent y hs
side_of T hs = refl
side_of N hs = refl

-- a P(R) that is right
pub acknowledges : {U : Type 0} (u : U) (i : Interface) (s new : InDoubt) (f g : FlowResidues) (x : Side) (n : ℕ) (c : Channel) → (i.modulus ≡ 8) ⊎ (i.modulus ≡ 128) →
    NumbersRepresent i.modulus s c → SequencesRepresent i s c → f.modulus ≡ s.flow.modulus → f.windows ≡ s.flow.windows → ResiduesRepresent f (counts_of (completed_for_receive i.modulus s.doubts x n c)) →
    Answers (Ok u) f g (count_receive f.modulus (counts_of (completed_for_receive i.modulus s.doubts x n c)) x n) → g.modulus ≡ f.modulus → g.windows ≡ f.windows → new ≡ record s { flow = g } →
    IsCountedInDoubt (Ok u) i new (count_receive i.modulus (counts_of (completed_for_receive i.modulus s.doubts x n c)) x n) (completed_for_receive i.modulus s.doubts x n c)
acknowledges u i s new f g x n c eight ns ss modulus windows represented answer kept_modulus kept_windows is =
    let m : ℕ = i.modulus in
    let b : Bool = of_side (other x) s.doubts.numbers in
    let d : Channel = completed_for_receive m s.doubts x n c in
    let (v, ok, st) = answered_ok u f g (count_receive m (counts_of d) x n) (subst (λ k. Answers (Ok u) f g (count_receive k (counts_of d) x n)) (modulus ∙ ns.modulus) answer) in
    let keeps = receive_keeps m (counts_of d) v x n ok in
    let (k, found, taken) = receive_is m (counts_of d) v x n ok in
    let a : Sides ℕ = c.acknowledged in
    let here : count_acknowledged m (sent (other x) d.accepted) (of_side (other x) a) n ≡ Some k =
    sym (λ j. count_acknowledged m (side_of (other x) d.accepted j) (of_side (other x) (ack_same m b (other x) n c j)) n) ∙ found in
    let numbers : NumbersRepresent m (record s { flow = g }) (with_counts v d) = record {
      flow = subst (λ t. ResiduesRepresent g (record v { sent = t })) keeps.0 st;
      modulus = kept_modulus ∙ modulus ∙ ns.modulus;
      widest = kept_windows ∙ windows ∙ ns.widest;
      acknowledged = λ y e. side_of y d.accepted ∙ acked m x y b n k c v.acknowledged eight (sym (side_of y c.accepted) ∙ ns.acknowledged y e)
          (λ same. ap (λ z. of_side z s.doubts.numbers) (sym same) ∙ e) here (taken ∙ ap (λ w. with_side (other x) k w) (ack_same m b (other x) n c));
      unknown = ns.unknown;
    } in
    let sequences : SequencesRepresent i (record s { flow = g }) (with_counts v d) = λ y.
    subst (λ l. Holds (begun_on s.assembler y) l) (kept_completed i m s (other x) y n c ns.unknown) (ss y) in
    (v, ok, subst (λ t. NumbersRepresent m t (with_counts v d)) (sym is) numbers, subst (λ t. SequencesRepresent i t (with_counts v d)) (sym is) sequences)

-- and one that is wrong
pub not_acknowledged : (U : Type 0) (e : ℕ) (i : Interface) (s : InDoubt) (f g : FlowResidues) (x : Side) (n : ℕ) (c : Channel) → NumbersRepresent i.modulus s c → f.modulus ≡ s.flow.modulus →
    Answers {A = U} (Err e) f g (count_receive f.modulus (counts_of (completed_for_receive i.modulus s.doubts x n c)) x n) →
    count_receive i.modulus (counts_of (completed_for_receive i.modulus s.doubts x n c)) x n ≡ Err e
not_acknowledged U e i s f g x n c ns modulus answer =
    let d : Channel = completed_for_receive i.modulus s.doubts x n c in
    (answered_err U e f g (count_receive i.modulus (counts_of d) x n) (subst (λ k. Answers {A = U} (Err e) f g (count_receive k (counts_of d) x n)) (modulus ∙ ns.modulus) answer)).0

-- an interrupt, or its confirmation
pub flagged : {U : Type 0} (u : U) (i : Interface) (s new : InDoubt) (f g : FlowResidues) (a : Result Counts ℕ) (c d : Channel) → NumbersRepresent i.modulus s c → SequencesRepresent i s c →
    d ≡ record c { unconfirmed = d.unconfirmed } → ((v : Counts) → a ≡ Ok v → (v.sent ≡ sent_by d.accepted) × (v.acknowledged ≡ d.acknowledged)) →
    f.modulus ≡ s.flow.modulus → f.windows ≡ s.flow.windows → Answers (Ok u) f g a → g.modulus ≡ f.modulus → g.windows ≡ f.windows →
    new.flow ≡ g → new.assembler ≡ s.assembler → new.doubts.numbers ≡ s.doubts.numbers → new.doubts.sequences ≡ s.doubts.sequences → new.doubts.hidden ≡ s.doubts.hidden →
    IsCountedInDoubt (Ok u) i new a d
flagged u i s new f g a c d ns ss is keeps modulus windows answer kept_modulus kept_windows flow_is assembler_is numbers_are sequences_are hidden_is =
    let (v, ok, st) = answered_ok u f g a answer in
    let accepted_is : d.accepted ≡ c.accepted = ap (λ e. e.accepted) is in
    let ack_is : v.acknowledged ≡ c.acknowledged = (keeps v ok).1 ∙ ap (λ e. e.acknowledged) is in (
      v,
      ok,
      record {
        flow = subst (λ q. ResiduesRepresent q (counts_of (with_counts v d))) (sym flow_is) (subst (λ t. ResiduesRepresent g (record v { sent = t })) (keeps v ok).0 st);
        modulus = ap (λ q. q.modulus) flow_is ∙ kept_modulus ∙ modulus ∙ ns.modulus;
        widest = ap (λ q. q.windows) flow_is ∙ kept_windows ∙ windows ∙ ns.widest;
        acknowledged = λ y e. ap (λ hs. of_side y (sent_by hs)) accepted_is ∙ ns.acknowledged y (ap (λ w. of_side y w) (sym numbers_are) ∙ e) ∙ ap (λ w. of_side y w) (sym ack_is);
        unknown = λ y e. ap (λ w. of_side y w) sequences_are ∙ ns.unknown y (ap (λ w. of_side y w) (sym numbers_are) ∙ e);
      },
      λ y. subst (λ (q : Assembly). Holds (begun_on q y) (kept_begun i new.doubts y (with_counts v d))) (sym assembler_is)
          (subst (λ l. Holds (begun_on s.assembler y) l)
          ((λ j. kept_of (of_side y (sym sequences_are j)) (sym hidden_is j) (may_be_begun (sym hidden_is j) (size_in_force i (sym is j) y) y (sym is j).accepted)))
          (ss y)),
    )

pub interrupt_rest : (b : Bool) (x : Side) (u : Bool) (c : Channel) → with_interrupt b x u c ≡ record c { unconfirmed = (with_interrupt b x u c).unconfirmed }
interrupt_rest true x u c = refl
interrupt_rest false x u c = refl

interrupt_by : (c v : Counts) (x : Side) (b : Bool) →
    ◌≡◌ {A = Result Counts ℕ} (elim b [ true ↦ Err UNAUTHORIZED_INTERRUPT | false ↦ Ok (record c { unconfirmed = with_side x true c.unconfirmed }) ]) (Ok v) →
    (v.sent ≡ c.sent) × (v.acknowledged ≡ c.acknowledged)
interrupt_by c v x true e = cc
interrupt_by c v x false e =
    let is : record c { unconfirmed = with_side x true c.unconfirmed } ≡ v = cc in
    (ap (λ u. u.sent) (sym is), ap (λ u. u.acknowledged) (sym is))

pub interrupt_keeps : (c v : Counts) (x : Side) → count_interrupt c x ≡ Ok v → (v.sent ≡ c.sent) × (v.acknowledged ≡ c.acknowledged)
interrupt_keeps c v x e = interrupt_by c v x (of_side x c.unconfirmed) e

confirm_by : (c v : Counts) (x : Side) (b : Bool) →
    ◌≡◌ {A = Result Counts ℕ} (elim b [ false ↦ Err UNAUTHORIZED_INTERRUPT_CONFIRMATION | true ↦ Ok (record c { unconfirmed = with_side (other x) false c.unconfirmed }) ]) (Ok v) →
    (v.sent ≡ c.sent) × (v.acknowledged ≡ c.acknowledged)
confirm_by c v x false e = cc
confirm_by c v x true e =
    let is : record c { unconfirmed = with_side (other x) false c.unconfirmed } ≡ v = cc in
    (ap (λ u. u.sent) (sym is), ap (λ u. u.acknowledged) (sym is))

pub confirm_keeps : (c v : Counts) (x : Side) → count_confirm c x ≡ Ok v → (v.sent ≡ c.sent) × (v.acknowledged ≡ c.acknowledged)
confirm_keeps c v x e = confirm_by c v x (of_side (other x) c.unconfirmed) e

-- another interrupt of a side, for a channel of which it was in doubt
pub flag_represents : (b : Bool) (x : Side) (u : Bool) (f g : FlowResidues) (c : Channel) → ResiduesRepresent f (counts_of c) → b ≡ true → g ≡ record f { unconfirmed = with_side x u f.unconfirmed } →
    ResiduesRepresent g (counts_of (with_interrupt b x u c))
flag_represents true x u f g c h e is = subst (λ q. ResiduesRepresent q (counts_of (with_interrupt true x u c))) (sym is) (record {
  of_t = h.of_t;
  of_n = h.of_n;
  unconfirmed = ap (λ w. with_side x u w) h.unconfirmed;
})
flag_represents false x u f g c h e is = absurd (true≢false (sym e))

pub flag_certain : (b : Bool) (x : Side) (u : Bool) (f : FlowResidues) (c : Channel) → ResiduesRepresent f (counts_of c) → b ≡ false → ResiduesRepresent f (counts_of (with_interrupt b x u c))
flag_certain true x u f c h e = absurd (true≢false e)
flag_certain false x u f c h e = h

pub not_flagged : (U : Type 0) (e : ℕ) (f g : FlowResidues) (a : Result Counts ℕ) → Answers {A = U} (Err e) f g a → a ≡ Err e
not_flagged U e f g a answer = (answered_err U e f g a answer).0
