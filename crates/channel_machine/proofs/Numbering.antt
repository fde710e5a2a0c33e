-- The numbers of a data packet on a settled channel.
use Rattle.std.proofs.Common.{◌≡◌, ◌⊎◌, ◌<◌, ◌≤◌, ◌-◌, ◌%◌, ◌+◌, ℕ, Bool, true, false, refl, sym, ◌∙◌, ap, subst, arith, Option, Some, None, Result, Ok, Err}
use Rattle.std.specs.Prelude.{◌==◌, ◌++◌, min, replicate}
use Rattle.std.proofs.Math.Nat.{min-eq_left}
use Rattle.line_model.specs.packets.Formats.{window_in_force}
use Rattle.std.proofs.lemmas.Bool.Decides.{nat_tests}
use Rattle.line_model.specs.declared.diagnostic.TheConstants.{INVALID_P_S, INVALID_P_R}
use Rattle.line_model.specs.declared.state.Side.{Side}
use Rattle.line_model.specs.declared.state.Side.TheVariants.{T, N}
use Rattle.line_model.specs.channels.Channels.{Channel, Sides, of_side, other, with_side}
use Rattle.line_model.specs.channels.FlowControl.{Counts, count_acknowledged, count_data, is_send_valid, sent}
use Rattle.line_model.specs.channels.Gaps.{Doubts, of_both}
use Rattle.line_model.specs.channels.GapStep.{edge_in_doubt}
use Rattle.data_transfer.specs.FlowResidues.{Answers, DirectionRepresents, FlowResidues, ResiduesRepresent}
use Rattle.line_model.specs.declared.packet.DataHeader.{DataHeader}
use Rattle.line_model.specs.declared.interface.Interface.{Interface}
use Rattle.line_model.specs.channels.ChannelStep.{counts_of}
use Rattle.line_model.specs.channels.GapStep.{completed_to, missed, missing}
use Rattle.channel_machine.specs.GapView.{InDoubt}
use Rattle.channel_machine.specs.SettledNumbers.{AreNumbered, IsFirst, IsNumbered, IsWidest, NumbersRepresent, all_acknowledged}
use Rattle.channel_machine.proofs.Counting.{answered_ok, answered_err}
use Rattle.channel_machine.proofs.Completing.{ack_same, sent_other, side_of, unconfirmed_same}
use Rattle.channel_machine.proofs.Missed.{missing_below, missing_hit, sent_apart, sent_own, side_same}

-- the counts after a data packet of a side, by whether P(S) is valid and by the count that P(R) acknowledges
abbrev data_by : Side → Bool → Option ℕ → Counts → Result Counts ℕ
data_by x true (Some k) c = Ok (record c { sent = with_side x (of_side x c.sent + 1) c.sent; acknowledged = with_side (other x) k c.acknowledged })
data_by x true None c = Err INVALID_P_R
data_by x false o c = Err INVALID_P_S

data_shape : (x : Side) (b : Bool) (o : Option ℕ) (c : Counts) →
    (elim b as (λ v. Result Counts ℕ) [
      | true ↦ elim o as (λ v. Result Counts ℕ) [
        | Some k ↦ Ok (record c { sent = with_side x (of_side x c.sent + 1) c.sent; acknowledged = with_side (other x) k c.acknowledged })
        | None ↦ Err INVALID_P_R
      ]
      | false ↦ Err INVALID_P_S
    ]) ≡ data_by x b o c
data_shape x true (Some k) c = refl
data_shape x true None c = refl
data_shape x false o c = refl

-- what P(R) of a side acknowledges
abbrev acknowledged_by : (modulus : ℕ) → Side → (receive : ℕ) → Counts → Option ℕ
acknowledged_by m x n c = count_acknowledged m (of_side (other x) c.sent) (of_side (other x) c.acknowledged) n

data_is : (m w : ℕ) (x : Side) (s n : ℕ) (c : Counts) → count_data m w c x s n ≡ data_by x (is_send_valid m w (of_side x c.sent) (of_side x c.acknowledged) s) (acknowledged_by m x n c) c
data_is m w T s n c = data_shape T (is_send_valid m w c.sent.of_t c.acknowledged.of_t s) (count_acknowledged m c.sent.of_n c.acknowledged.of_n n) c
data_is m w N s n c = data_shape N (is_send_valid m w c.sent.of_n c.acknowledged.of_n s) (count_acknowledged m c.sent.of_t c.acknowledged.of_t n) c

-- a result of counts of which nothing of the side is outstanding, for the counts themselves
abbrev IsDoubtful : {U : Type 0} → Result U ℕ → FlowResidues → Side → Result Counts ℕ → Counts → Type 0
IsDoubtful (Ok u) f x r c =
    (v : Counts) × (r ≡ Ok v) × ResiduesRepresent f (record v { acknowledged = with_side x (of_side x c.sent) v.acknowledged })
    × (of_side x v.sent ≡ of_side x c.sent + 1) × (of_side x v.acknowledged ≡ of_side x c.acknowledged)
IsDoubtful (Err e) f x r c = r ≡ Err e

doubtful_by : {U : Type 0} (r : Result U ℕ) (f g : FlowResidues) (x : Side) (b : Bool) (o : Option ℕ) (c : Counts) →
    Answers r f g (data_by x b o (all_acknowledged x c)) → IsDoubtful r g x (data_by x b o c) c
doubtful_by (Ok u) f g T true (Some k) c answer = (_, refl, answer, refl, refl)
doubtful_by (Ok u) f g N true (Some k) c answer = (_, refl, answer, refl, refl)
doubtful_by (Ok u) f g x true None c answer = absurd answer
doubtful_by (Ok u) f g x false o c answer = absurd answer
doubtful_by (Err e) f g x true (Some k) c answer = absurd answer
doubtful_by (Err e) f g x true None c answer = ap (λ n. Err n) (sym answer.0)
doubtful_by (Err e) f g x false o c answer = ap (λ n. Err n) (sym answer.0)

-- P(S) is the next number, in whatever window has room
valid_none : (m S s : ℕ) → (m ≡ 8) ⊎ (m ≡ 128) → is_send_valid m (m - 1) S S s ≡ (s == S % m)
valid_none m S s e = grind (arith, nat_tests, e)

valid_some : (m S a s : ℕ) → a ≤ S → S < a + m → is_send_valid m m S a s ≡ (s == S % m)
valid_some m S a s o h = grind (arith, nat_tests, o, h)

doubtful : {U : Type 0} (r : Result U ℕ) (f g : FlowResidues) (m : ℕ) (x : Side) (s n : ℕ) (c : Counts) → (m ≡ 8) ⊎ (m ≡ 128) → of_side x c.acknowledged ≤ of_side x c.sent → of_side x c.sent < of_side x c.acknowledged + m →
    Answers r f g (count_data m (m - 1) (all_acknowledged x c) x s n) → IsDoubtful r g x (count_data m m c x s n) c
doubtful r f g m T s n c e ordered below answer =
    let b : Bool = s == c.sent.of_t % m in
    let o : Option ℕ = count_acknowledged m c.sent.of_n c.acknowledged.of_n n in
    let mine : count_data m m c T s n ≡ data_by T b o c = data_is m m T s n c ∙ ap (λ v. data_by T v o c) (valid_some m c.sent.of_t c.acknowledged.of_t s ordered below) in
    let theirs : count_data m (m - 1) (all_acknowledged T c) T s n ≡ data_by T b o (all_acknowledged T c) = data_is m (m - 1) T s n (all_acknowledged T c) ∙ ap (λ v. data_by T v o (all_acknowledged T c)) (valid_none m c.sent.of_t s e) in
    subst (λ q. IsDoubtful r g T q c) (sym mine) (doubtful_by r f g T b o c (subst (λ q. Answers r f g q) theirs answer))
doubtful r f g m N s n c e ordered below answer =
    let b : Bool = s == c.sent.of_n % m in
    let o : Option ℕ = count_acknowledged m c.sent.of_t c.acknowledged.of_t n in
    let mine : count_data m m c N s n ≡ data_by N b o c = data_is m m N s n c ∙ ap (λ v. data_by N v o c) (valid_some m c.sent.of_n c.acknowledged.of_n s ordered below) in
    let theirs : count_data m (m - 1) (all_acknowledged N c) N s n ≡ data_by N b o (all_acknowledged N c) = data_is m (m - 1) N s n (all_acknowledged N c) ∙ ap (λ v. data_by N v o (all_acknowledged N c)) (valid_none m c.sent.of_n s e) in
    subst (λ q. IsDoubtful r g N q c) (sym mine) (doubtful_by r f g N b o c (subst (λ q. Answers r f g q) theirs answer))

-- the lower edge afterwards
edge_residue : (m n a : ℕ) → (m ≡ 8) ⊎ (m ≡ 128) → a < n → n ≤ a + m → (n - (n - a) % m) % m ≡ a % m
edge_residue m n a e above below = grind (arith, e, above, below)

edge_represents : (m n a sent acknowledged old : ℕ) → (m ≡ 8) ⊎ (m ≡ 128) → a < n → n ≤ a + m → old ≡ a % m → n % m ≡ sent → DirectionRepresents m (m - 1) n (n - (n - a) % m) sent old
edge_represents m n a sent acknowledged old e above below is sent_is = record {
  sent_is = sent_is;
  acknowledged_is = edge_residue m n a e above below ∙ sym is;
  ordered = omega arith;
  within = grind (arith, e);
}

-- the numbers with that edge
edged : (x : Side) (m : ℕ) (v : Counts) (g f : FlowResidues) (count old : ℕ) → (m ≡ 8) ⊎ (m ≡ 128) → g.modulus ≡ m → g.windows ≡ of_both (m - 1) →
    ResiduesRepresent g (record v { acknowledged = with_side x count v.acknowledged }) → of_side x v.acknowledged < of_side x v.sent → of_side x v.sent ≤ of_side x v.acknowledged + m →
    old ≡ of_side x v.acknowledged % m → f ≡ record g { acknowledged = with_side x old g.acknowledged } →
    ResiduesRepresent f (record v { acknowledged = edge_in_doubt m true x (of_side x v.sent) v.acknowledged })
edged T m v g f count old e modulus windows h above below is set =
    let P : ℕ × Sides ℕ → Type 0 = λ q. DirectionRepresents q.0 q.1.of_t v.sent.of_t (v.sent.of_t - (v.sent.of_t - v.acknowledged.of_t) % m) g.sent.of_t old in
    let sent_is : v.sent.of_t % m ≡ g.sent.of_t = subst (λ k. v.sent.of_t % k ≡ g.sent.of_t) modulus h.of_t.sent_is in
    subst (λ q. ResiduesRepresent q (record v { acknowledged = edge_in_doubt m true T v.sent.of_t v.acknowledged })) (sym set) (record {
      of_t = subst P (λ j. (sym modulus j, sym windows j)) (edge_represents m v.sent.of_t v.acknowledged.of_t g.sent.of_t old old e above below is sent_is);
      of_n = h.of_n;
      unconfirmed = h.unconfirmed;
    })
edged N m v g f count old e modulus windows h above below is set =
    let P : ℕ × Sides ℕ → Type 0 = λ q. DirectionRepresents q.0 q.1.of_n v.sent.of_n (v.sent.of_n - (v.sent.of_n - v.acknowledged.of_n) % m) g.sent.of_n old in
    let sent_is : v.sent.of_n % m ≡ g.sent.of_n = subst (λ k. v.sent.of_n % k ≡ g.sent.of_n) modulus h.of_n.sent_is in
    subst (λ q. ResiduesRepresent q (record v { acknowledged = edge_in_doubt m true N v.sent.of_n v.acknowledged })) (sym set) (record {
      of_t = h.of_t;
      of_n = subst P (λ j. (sym modulus j, sym windows j)) (edge_represents m v.sent.of_n v.acknowledged.of_n g.sent.of_n old old e above below is sent_is);
      unconfirmed = h.unconfirmed;
    })

windows_of : (x : Side) (f : FlowResidues) → f.windows ≡ of_both (f.modulus - 1) → of_side x f.windows ≡ f.modulus - 1
windows_of T f e = ap (λ v. v.of_t) e
windows_of N f e = ap (λ v. v.of_n) e

-- the result of numbers that are set, at the widest window of those before
at_widest : {U : Type 0} (r : Result U ℕ) (f g h : FlowResidues) (x : Side) (s n : ℕ) (c : Counts) → IsWidest f → g.modulus ≡ f.modulus → g.windows ≡ f.windows →
    Answers r g h (count_data g.modulus (of_side x g.windows) c x s n) → Answers r g h (count_data f.modulus (f.modulus - 1) c x s n)
at_widest r f g h x s n c wide modulus windows answer =
    let w : of_side x g.windows ≡ f.modulus - 1 = ap (λ v. of_side x v) windows ∙ windows_of x f wide.windows in
    subst (λ k. Answers r g h (count_data f.modulus k c x s n)) w (subst (λ k. Answers r g h (count_data k (of_side x g.windows) c x s n)) modulus answer)

pub first_represents : (x : Side) (s next : ℕ) (f0 f1 : FlowResidues) (c : Counts) → IsFirst f0 x s c → next ≡ s % f0.modulus → f1 ≡ record f0 { sent = with_side x next f0.sent; acknowledged = with_side x next f0.acknowledged } → ResiduesRepresent f1 (all_acknowledged x c)
first_represents x s next f0 f1 c first is set =
    subst (λ f. ResiduesRepresent f (all_acknowledged x c)) (sym (set ∙ (λ j. record f0 { sent = with_side x (is j) f0.sent; acknowledged = with_side x (is j) f0.acknowledged }))) first.represented

pub still_widest : (f g : FlowResidues) → IsWidest f → g.modulus ≡ f.modulus → g.windows ≡ f.windows → IsWidest g
still_widest f g w modulus windows = record {
  eight = subst (λ m. (m ≡ 8) ⊎ (m ≡ 128)) (sym modulus) w.eight;
  windows = windows ∙ w.windows ∙ ap (λ m. of_both (m - 1)) (sym modulus);
}

-- the first data packet of a side whose next P(S) is in doubt
pub first_passes : {U : Type 0} (u : U) (x : Side) (s n next lowest after : ℕ) (f0 f1 f2 f3 : FlowResidues) (c : Counts) → IsWidest f0 → IsFirst f0 x s c → lowest ≡ of_side x f0.acknowledged → after ≡ of_side x f2.sent →
    f1 ≡ record f0 { sent = with_side x next f0.sent; acknowledged = with_side x next f0.acknowledged } →
    Answers (Ok u) f1 f2 (count_data f1.modulus (of_side x f1.windows) (all_acknowledged x c) x s n) → f2.modulus ≡ f1.modulus → f2.windows ≡ f1.windows →
    f3 ≡ record f2 { sent = with_side x after f2.sent; acknowledged = with_side x lowest f2.acknowledged } → AreNumbered (Ok f3) f0.modulus true x (count_data f0.modulus f0.modulus c x s n)
first_passes u x s n next lowest after f0 f1 f2 f3 c wide first lowest_is after_is set answer modulus windows set_back =
    let m : ℕ = f0.modulus in
    let modulus_is : f1.modulus ≡ m = ap (λ (f : FlowResidues). f.modulus) set in
    let windows_are : f1.windows ≡ f0.windows = ap (λ (f : FlowResidues). f.windows) set in
    let (v, ok, represented, more, same) = doubtful (Ok u) f1 f2 m x s n c wide.eight first.ordered first.below (at_widest (Ok u) f0 f1 f2 x s n (all_acknowledged x c) wide modulus_is windows_are answer) in
    let back : f3 ≡ record f2 { acknowledged = with_side x lowest f2.acknowledged } =
    set_back ∙ (λ j. record f2 { sent = (ap (λ k. with_side x k f2.sent) after_is ∙ side_same x f2.sent) j; acknowledged = with_side x lowest f2.acknowledged }) in (
      v,
      ok,
      edged x m v f2 f3 (of_side x c.sent) lowest wide.eight (modulus ∙ modulus_is) (windows ∙ windows_are ∙ wide.windows) represented
          (omega (arith, more, same, first.ordered)) (omega (arith, more, same, first.below)) (lowest_is ∙ first.edge ∙ ap (λ k. k % m) (sym same)) back,
    )

pub first_fails : (U : Type 0) (e : ℕ) (x : Side) (s n next : ℕ) (f0 f1 f2 : FlowResidues) (c : Counts) → IsWidest f0 → IsFirst f0 x s c →
    f1 ≡ record f0 { sent = with_side x next f0.sent; acknowledged = with_side x next f0.acknowledged } →
    Answers {A = U} (Err e) f1 f2 (count_data f1.modulus (of_side x f1.windows) (all_acknowledged x c) x s n) → count_data f0.modulus f0.modulus c x s n ≡ Err e
first_fails U e x s n next f0 f1 f2 c wide first set answer =
    doubtful {U = U} (Err e) f1 f2 f0.modulus x s n c wide.eight first.ordered first.below
    (at_widest {U = U} (Err e) f0 f1 f2 x s n (all_acknowledged x c) wide (ap (λ (f : FlowResidues). f.modulus) set) (ap (λ (f : FlowResidues). f.windows) set) answer)

-- a data packet of a side whose next P(S) is certain
next_answers : {U : Type 0} (r : Result U ℕ) (x : Side) (w s n : ℕ) (f g : FlowResidues) (c : Counts) → IsWidest f → w < f.modulus →
    Answers r f g (count_data f.modulus (min w (of_side x f.windows)) c x s n) → Answers r f g (count_data f.modulus w c x s n)
next_answers r x w s n f g c wide below answer =
    subst (λ k. Answers r f g (count_data f.modulus k c x s n)) (ap (λ k. min w k) (windows_of x f wide.windows) ∙ min-eq_left (omega (arith, below))) answer

pub next_passes : {U : Type 0} (u : U) (x : Side) (w s n : ℕ) (f g : FlowResidues) (c : Counts) → IsWidest f → w < f.modulus →
    Answers (Ok u) f g (count_data f.modulus (min w (of_side x f.windows)) c x s n) → AreNumbered (Ok g) f.modulus false x (count_data f.modulus w c x s n)
next_passes u x w s n f g c wide below answer = answered_ok u f g (count_data f.modulus w c x s n) (next_answers (Ok u) x w s n f g c wide below answer)

pub next_fails : (U : Type 0) (e : ℕ) (x : Side) (w s n : ℕ) (f g : FlowResidues) (c : Counts) → IsWidest f → w < f.modulus →
    Answers {A = U} (Err e) f g (count_data f.modulus (min w (of_side x f.windows)) c x s n) → count_data f.modulus w c x s n ≡ Err e
next_fails U e x w s n f g c wide below answer = (answered_err U e f g (count_data f.modulus w c x s n) (next_answers {U = U} (Err e) x w s n f g c wide below answer)).0

-- how many packets of a side a channel has that was completed for it
abbrev count_completed : ℕ → Bool → ℕ → ℕ → ℕ
count_completed m false n s = s
count_completed m true n s = s + missing m s n

sent_completed : (m : ℕ) (b : Bool) (y : Side) (n : ℕ) (c : Channel) → sent y (completed_to m b y n c).accepted ≡ count_completed m b n (sent y c.accepted)
sent_completed m false y n c = refl
sent_completed m true y n c = sent_own y c.accepted (missing m (sent y c.accepted) n)

-- completing the one side leaves what completing the other comes to
sent_both : (m : ℕ) (b : Bool) (x y : Side) (n s : ℕ) (c : Channel) → y ≡ other x → sent y (completed_to m b y n (completed_to m true x s c)).accepted ≡ sent y (completed_to m b y n c).accepted
sent_both m b x y n s c is =
    sent_completed m b y n (completed_to m true x s c)
    ∙ ap (λ k. count_completed m b n k) (subst (λ z. sent z (c.accepted ++ replicate (missing m (sent x c.accepted) s) (missed x)) ≡ sent z c.accepted) (sym is) (sent_apart x c.accepted (missing m (sent x c.accepted) s)))
    ∙ sym (sent_completed m b y n c)

-- how many packets the side itself has then
sent_first : (m : ℕ) (b : Bool) (x y : Side) (n s : ℕ) (c : Channel) → x ≡ other y → sent x (completed_to m b y n (completed_to m true x s c)).accepted ≡ sent x c.accepted + missing m (sent x c.accepted) s
sent_first m b x y n s c is =
    subst (λ z. sent z (completed_to m b y n (completed_to m true x s c)).accepted ≡ sent z (completed_to m true x s c).accepted) (sym is) (sent_other m b y n (completed_to m true x s c))
    ∙ sent_own x c.accepted (missing m (sent x c.accepted) s)

-- a direction in which nothing is outstanding
all_represents : (m k s : ℕ) → k % m ≡ s % m → DirectionRepresents m (m - 1) k k (s % m) (s % m)
all_represents m k s e = record { sent_is = e; acknowledged_is = e; ordered = omega arith; within = omega arith }

-- the numbers before the first data packet of a side whose next P(S) is in doubt
first_at : (x : Side) (b : Bool) (f : FlowResidues) (s n : ℕ) (c : Channel) → IsWidest f → sent x c.accepted ≡ of_side x c.acknowledged → ResiduesRepresent f (counts_of (completed_to f.modulus b (other x) n c)) →
    IsFirst f x s (counts_of (completed_to f.modulus b (other x) n (completed_to f.modulus true x s c)))
first_at T b f s n c wide same h =
    let m : ℕ = f.modulus in
    let d : Channel = completed_to m b N n (completed_to m true T s c) in
    let count : sent T d.accepted ≡ sent T c.accepted + missing m (sent T c.accepted) s = sent_first m b T N n s c refl in
    let ack : d.acknowledged ≡ (completed_to m b N n c).acknowledged = ack_same m b N n (completed_to m true T s c) ∙ sym (ack_same m b N n c) in
    let edge : d.acknowledged ≡ c.acknowledged = ack_same m b N n (completed_to m true T s c) in
    let hit : sent T d.accepted % m ≡ s % m = ap (λ k. k % m) count ∙ missing_hit m (sent T c.accepted) s wide.eight in
    record {
      represented = record {
        of_t = subst (λ w. DirectionRepresents m w (sent T d.accepted) (sent T d.accepted) (s % m) (s % m)) (sym (windows_of T f wide.windows)) (all_represents m (sent T d.accepted) s hit);
        of_n = subst (λ (q : ℕ × Sides ℕ). DirectionRepresents m f.windows.of_n q.0 q.1.of_n f.sent.of_n f.acknowledged.of_n) (λ j. (sym (sent_both m b T N n s c refl) j, sym ack j)) h.of_n;
        unconfirmed = h.unconfirmed ∙ unconfirmed_same m b N n c ∙ sym (unconfirmed_same m b N n (completed_to m true T s c));
      };
      edge = sym h.of_t.acknowledged_is ∙ ap (λ v. v.of_t % m) (sym ack);
      ordered = omega (arith, count, same, ap (λ v. v.of_t) edge);
      below = omega (arith, count, same, ap (λ v. v.of_t) edge, missing_below m (sent T c.accepted) s wide.eight);
    }
first_at N b f s n c wide same h =
    let m : ℕ = f.modulus in
    let d : Channel = completed_to m b T n (completed_to m true N s c) in
    let count : sent N d.accepted ≡ sent N c.accepted + missing m (sent N c.accepted) s = sent_first m b N T n s c refl in
    let ack : d.acknowledged ≡ (completed_to m b T n c).acknowledged = ack_same m b T n (completed_to m true N s c) ∙ sym (ack_same m b T n c) in
    let edge : d.acknowledged ≡ c.acknowledged = ack_same m b T n (completed_to m true N s c) in
    let hit : sent N d.accepted % m ≡ s % m = ap (λ k. k % m) count ∙ missing_hit m (sent N c.accepted) s wide.eight in
    record {
      represented = record {
        of_t = subst (λ (q : ℕ × Sides ℕ). DirectionRepresents m f.windows.of_t q.0 q.1.of_t f.sent.of_t f.acknowledged.of_t) (λ j. (sym (sent_both m b N T n s c refl) j, sym ack j)) h.of_t;
        of_n = subst (λ w. DirectionRepresents m w (sent N d.accepted) (sent N d.accepted) (s % m) (s % m)) (sym (windows_of N f wide.windows)) (all_represents m (sent N d.accepted) s hit);
        unconfirmed = h.unconfirmed ∙ unconfirmed_same m b T n c ∙ sym (unconfirmed_same m b T n (completed_to m true N s c));
      };
      edge = sym h.of_n.acknowledged_is ∙ ap (λ v. v.of_n % m) (sym ack);
      ordered = omega (arith, count, same, ap (λ v. v.of_n) edge);
      below = omega (arith, count, same, ap (λ v. v.of_n) edge, missing_below m (sent N c.accepted) s wide.eight);
    }

-- what the numbers of a data packet come to on a channel
numbered_by : (r : Result FlowResidues ℕ) (m : ℕ) (doubt : Bool) (i : Interface) (b : Doubts) (x : Side) (h : DataHeader) (c : Channel) → m ≡ i.modulus → of_side x b.numbers ≡ doubt →
    AreNumbered r m doubt x (count_data m (elim doubt [ true ↦ m | false ↦ window_in_force i c x ]) (counts_of (completed_to m (of_side (other x) b.numbers) (other x) h.receive (completed_to m doubt x h.send c))) x h.send h.receive) →
    IsNumbered r i b x h c
numbered_by r m doubt i b x h c modulus is done =
    subst (λ (q : ℕ × Bool). AreNumbered r q.0 q.1 x (count_data q.0 (elim q.1 [ true ↦ q.0 | false ↦ window_in_force i c x ]) (counts_of (completed_to q.0 (of_side (other x) b.numbers) (other x) h.receive (completed_to q.0 q.1 x h.send c))) x h.send h.receive))
    (λ j. (modulus j, sym is j)) done

pub judged_first : (r : Result FlowResidues ℕ) (i : Interface) (s : InDoubt) (f : FlowResidues) (x y : Side) (h : DataHeader) (c : Channel) → IsWidest f → NumbersRepresent i.modulus s c → y ≡ other x → of_side x s.doubts.numbers ≡ true →
    f.modulus ≡ i.modulus → ResiduesRepresent f (counts_of (completed_to i.modulus (of_side y s.doubts.numbers) y h.receive c)) →
    ((e : Counts) → IsFirst f x h.send e → AreNumbered r f.modulus true x (count_data f.modulus f.modulus e x h.send h.receive)) → IsNumbered r i s.doubts x h c
judged_first r i s f x y h c wide ns side doubt modulus represented answer =
    let here : ResiduesRepresent f (counts_of (completed_to f.modulus (of_side (other x) s.doubts.numbers) (other x) h.receive c)) =
    subst (λ (q : ℕ × Side). ResiduesRepresent f (counts_of (completed_to q.0 (of_side q.1 s.doubts.numbers) q.1 h.receive c))) (λ j. (sym modulus j, side j)) represented in
    numbered_by r f.modulus true i s.doubts x h c modulus doubt
    (answer _ (first_at x (of_side (other x) s.doubts.numbers) f h.send h.receive c wide (sym (side_of x c.accepted) ∙ ns.acknowledged x doubt) here))

pub judged_next : (r : Result FlowResidues ℕ) (i : Interface) (s : InDoubt) (f : FlowResidues) (x y : Side) (w : ℕ) (h : DataHeader) (c : Channel) → y ≡ other x → of_side x s.doubts.numbers ≡ false →
    f.modulus ≡ i.modulus → w ≡ window_in_force i c x → w < i.modulus → ResiduesRepresent f (counts_of (completed_to i.modulus (of_side y s.doubts.numbers) y h.receive c)) →
    ((e : Counts) → ResiduesRepresent f e → w < f.modulus → AreNumbered r f.modulus false x (count_data f.modulus w e x h.send h.receive)) → IsNumbered r i s.doubts x h c
judged_next r i s f x y w h c side doubt modulus window below represented answer =
    let here : ResiduesRepresent f (counts_of (completed_to f.modulus (of_side (other x) s.doubts.numbers) (other x) h.receive c)) =
    subst (λ (q : ℕ × Side). ResiduesRepresent f (counts_of (completed_to q.0 (of_side q.1 s.doubts.numbers) q.1 h.receive c))) (λ j. (sym modulus j, side j)) represented in
    let d : Channel = completed_to f.modulus (of_side (other x) s.doubts.numbers) (other x) h.receive c in
    numbered_by r f.modulus false i s.doubts x h c modulus doubt
    (subst (λ k. AreNumbered r f.modulus false x (count_data f.modulus k (counts_of d) x h.send h.receive)) window (answer (counts_of d) here (subst (λ k. w < k) (sym modulus) below)))
