-- Data packets that were missed, and the numbers that represent them.
use Rattle.std.proofs.Common.{◌≡◌, ◌⊎◌, ◌<◌, ◌≤◌, ◌-◌, ◌%◌, ◌+◌, ℕ, zero, suc, Bool, true, false, true≢false, refl, sym, ◌∙◌, ap, subst, List, [], ◌∷◌, ◌++◌, length, arith, append-nil}
use Rattle.std.specs.Prelude.{is_some, not, replicate, Option, Some, None}
use Rattle.std.proofs.lemmas.List.{length-append}
use Rattle.std.proofs.lemmas.List.Elements.{filter-append}
use Rattle.line_model.specs.declared.gap.LastData.{LastData}
use Rattle.line_model.specs.declared.packet.DataHeader.{DataHeader}
use Rattle.line_model.specs.declared.state.Side.{Side}
use Rattle.line_model.specs.declared.state.Side.TheVariants.{T, N}
use Rattle.line_model.specs.channels.Channels.{AcceptedData, Channel, Sides, of_side, other, with_side}
use Rattle.line_model.specs.channels.ChannelStep.{counts_of}
use Rattle.line_model.specs.channels.FlowControl.{is_side, no_counts, packets_of, sent, sent_by}
use Rattle.line_model.specs.channels.Gaps.{of_both}
use Rattle.line_model.specs.channels.GapStep.{completed_to, count_settled, missed, missing, settled_channel, settled_doubts}
use Rattle.channel_machine.specs.declared.gaps.settled.Settling.{Settling}
use Rattle.channel_machine.specs.GapView.{InDoubt}
use Rattle.channel_machine.specs.SettledNumbers.{IsWidest, NumbersRepresent}
use Rattle.channel_machine.specs.Settling.{settled_after}
use Rattle.data_transfer.specs.FlowResidues.{DirectionRepresents, FlowResidues, ResiduesRepresent}

pub sent_append : (x : Side) (hs gs : List AcceptedData) → sent x (hs ++ gs) ≡ sent x hs + sent x gs
sent_append x hs gs = ap (λ l. length l) (filter-append (λ h. is_side x h.side) hs gs) ∙ length-append (packets_of x hs) (packets_of x gs)

-- those of a side are packets of that side alone
pub own_missed : (x : Side) (k : ℕ) → packets_of x (replicate k (missed x)) ≡ replicate k (missed x)
own_missed x zero = refl
own_missed T (suc k) = ap (λ l. missed T ∷ l) (own_missed T k)
own_missed N (suc k) = ap (λ l. missed N ∷ l) (own_missed N k)

pub none_missed : (x : Side) (k : ℕ) → packets_of (other x) (replicate k (missed x)) ≡ []
none_missed x zero = refl
none_missed T (suc k) = none_missed T k
none_missed N (suc k) = none_missed N k

length_replicate : (k : ℕ) (h : AcceptedData) → length (replicate k h) ≡ k
length_replicate zero h = refl
length_replicate (suc k) h = ap suc (length_replicate k h)

pub sent_own : (x : Side) (hs : List AcceptedData) (k : ℕ) → sent x (hs ++ replicate k (missed x)) ≡ sent x hs + k
sent_own x hs k = sent_append x hs (replicate k (missed x)) ∙ ap (λ n. sent x hs + n) (ap (λ l. length l) (own_missed x k) ∙ length_replicate k (missed x))

pub packets_apart : (x : Side) (hs : List AcceptedData) (k : ℕ) → packets_of (other x) (hs ++ replicate k (missed x)) ≡ packets_of (other x) hs
packets_apart x hs k =
    filter-append (λ h. is_side (other x) h.side) hs (replicate k (missed x))
    ∙ ap (λ l. packets_of (other x) hs ++ l) (none_missed x k) ∙ append-nil (packets_of (other x) hs)

pub sent_apart : (x : Side) (hs : List AcceptedData) (k : ℕ) → sent (other x) (hs ++ replicate k (missed x)) ≡ sent (other x) hs
sent_apart x hs k = ap (λ l. length l) (packets_apart x hs k)

-- the number after `missing` packets
pub missing_hit : (m s n : ℕ) → (m ≡ 8) ⊎ (m ≡ 128) → (s + missing m s n) % m ≡ n % m
missing_hit m s n e = grind (arith, e)

pub missing_below : (m s n : ℕ) → (m ≡ 8) ⊎ (m ≡ 128) → missing m s n < m
missing_below m s n e = grind (arith, e)

-- a side with nothing outstanding, and packets of it that were missed
moved : (m s a sent acknowledged n : ℕ) → (m ≡ 8) ⊎ (m ≡ 128) → DirectionRepresents m (m - 1) s a sent acknowledged → s ≡ a →
    DirectionRepresents m (m - 1) (s + missing m s n) a (n % m) acknowledged
moved m s a sent acknowledged n e h same = record {
  sent_is = missing_hit m s n e;
  acknowledged_is = h.acknowledged_is;
  ordered = omega (arith, same);
  within = omega (arith, same, missing_below m s n e);
}

at_count : (m s k a sent acknowledged : ℕ) → s ≡ k → DirectionRepresents m (m - 1) s a sent acknowledged → DirectionRepresents m (m - 1) k a sent acknowledged
at_count m s k a sent acknowledged e h = subst (λ v. DirectionRepresents m (m - 1) v a sent acknowledged) e h

-- numbers that represent a channel with such packets
pub presumed : (x : Side) (n : ℕ) (f : FlowResidues) (c : Channel) → (f.modulus ≡ 8) ⊎ (f.modulus ≡ 128) → f.windows ≡ of_both (f.modulus - 1) → ResiduesRepresent f (counts_of c) →
    of_side x (sent_by c.accepted) ≡ of_side x c.acknowledged →
    ResiduesRepresent (record f { sent = with_side x (n % f.modulus) f.sent }) (counts_of (completed_to f.modulus true x n c))
presumed T n f c e w h same =
    let k : ℕ = missing f.modulus (sent T c.accepted) n in
    let of_t : DirectionRepresents f.modulus (f.modulus - 1) (sent T c.accepted) c.acknowledged.of_t f.sent.of_t f.acknowledged.of_t = subst (λ v. DirectionRepresents f.modulus v.of_t (sent T c.accepted) c.acknowledged.of_t f.sent.of_t f.acknowledged.of_t) w h.of_t in
    record {
      of_t = subst (λ v. DirectionRepresents f.modulus v.of_t (sent T (c.accepted ++ replicate k (missed T))) c.acknowledged.of_t (n % f.modulus) f.acknowledged.of_t) (sym w)
          (at_count f.modulus (sent T c.accepted + k) (sent T (c.accepted ++ replicate k (missed T))) c.acknowledged.of_t (n % f.modulus) f.acknowledged.of_t (sym (sent_own T c.accepted k))
          (moved f.modulus (sent T c.accepted) c.acknowledged.of_t f.sent.of_t f.acknowledged.of_t n e of_t same));
      of_n = subst (λ s. DirectionRepresents f.modulus f.windows.of_n s c.acknowledged.of_n f.sent.of_n f.acknowledged.of_n) (sym (sent_apart T c.accepted k)) h.of_n;
      unconfirmed = h.unconfirmed;
    }
presumed N n f c e w h same =
    let k : ℕ = missing f.modulus (sent N c.accepted) n in
    let of_n : DirectionRepresents f.modulus (f.modulus - 1) (sent N c.accepted) c.acknowledged.of_n f.sent.of_n f.acknowledged.of_n = subst (λ v. DirectionRepresents f.modulus v.of_n (sent N c.accepted) c.acknowledged.of_n f.sent.of_n f.acknowledged.of_n) w h.of_n in
    record {
      of_t = subst (λ s. DirectionRepresents f.modulus f.windows.of_t s c.acknowledged.of_t f.sent.of_t f.acknowledged.of_t) (sym (sent_apart N c.accepted k)) h.of_t;
      of_n = subst (λ v. DirectionRepresents f.modulus v.of_n (sent N (c.accepted ++ replicate k (missed N))) c.acknowledged.of_n (n % f.modulus) f.acknowledged.of_n) (sym w)
          (at_count f.modulus (sent N c.accepted + k) (sent N (c.accepted ++ replicate k (missed N))) c.acknowledged.of_n (n % f.modulus) f.acknowledged.of_n (sym (sent_own N c.accepted k))
          (moved f.modulus (sent N c.accepted) c.acknowledged.of_n f.sent.of_n f.acknowledged.of_n n e of_n same));
      unconfirmed = h.unconfirmed;
    }

-- the next number of the side whose packet settles a channel
pub next_is : (m e : ℕ) (h : DataHeader) → (m ≡ 8) ⊎ (m ≡ 128) → (h.send % m + 1) % m ≡ count_settled m e (Some h) % m
next_is m e h w = grind (arith, w) ∙ sym (missing_hit m e (h.send + 1) w)

-- it is not below the edge, and no more than the modulus above it
count_from : (m e : ℕ) (h : Option DataHeader) → (m ≡ 8) ⊎ (m ≡ 128) → e ≤ count_settled m e h
count_from m e None w = omega arith
count_from m e (Some h) w = omega arith

count_to : (m e : ℕ) (h : Option DataHeader) → (m ≡ 8) ⊎ (m ≡ 128) → count_settled m e h ≤ e + (m - 1)
count_to m e None w = omega (arith, w)
count_to m e (Some h) w = omega (arith, missing_below m e (h.send + 1) w)

settling_represents : (m e next : ℕ) (h : Option DataHeader) → (m ≡ 8) ⊎ (m ≡ 128) → next ≡ count_settled m e h % m → DirectionRepresents m (m - 1) (count_settled m e h) e next (e % m)
settling_represents m e next h w is = record { sent_is = sym is; acknowledged_is = refl; ordered = count_from m e h w; within = count_to m e h w }

settled_represents : (m n : ℕ) → DirectionRepresents m (m - 1) n n (n % m) (n % m)
settled_represents m n = record { sent_is = refl; acknowledged_is = refl; ordered = omega arith; within = omega arith }

zero_plus : (k : ℕ) → 0 + k ≡ k
zero_plus k = omega arith

-- how many packets of each side a settled channel has
own_count : (x : Side) (n k : ℕ) → sent x (replicate n (missed (other x)) ++ replicate k (missed x)) ≡ k
own_count T n k = sent_own T (replicate n (missed N)) k ∙ ap (λ j. j + k) (ap (λ l. length l) (none_missed N n)) ∙ zero_plus k
own_count N n k = sent_own N (replicate n (missed T)) k ∙ ap (λ j. j + k) (ap (λ l. length l) (none_missed T n)) ∙ zero_plus k

other_count : (x : Side) (n k : ℕ) → sent (other x) (replicate n (missed (other x)) ++ replicate k (missed x)) ≡ n
other_count T n k = sent_apart T (replicate n (missed N)) k ∙ ap (λ l. length l) (own_missed N n) ∙ length_replicate n (missed N)
other_count N n k = sent_apart N (replicate n (missed T)) k ∙ ap (λ l. length l) (own_missed T n) ∙ length_replicate n (missed T)

-- the numbers that a packet makes certain
pub settled_numbers : (m : ℕ) (x : Side) (n next : ℕ) (l : LastData) (h : Option DataHeader) (f : FlowResidues) (c : Channel) → (m ≡ 8) ⊎ (m ≡ 128) → f.modulus ≡ m →
    f.windows ≡ of_both (m - 1) → f.unconfirmed ≡ of_both false → next ≡ count_settled m l.receive h % m →
    f.sent ≡ with_side x next (of_both (n % m)) → f.acknowledged ≡ with_side x (l.receive % m) (of_both (n % m)) →
    ResiduesRepresent f (counts_of (settled_channel m x n l h c))
settled_numbers m T n next l h f c e modulus windows free is sent_is acknowledged_is =
    let k : ℕ = count_settled m l.receive h in
    let hs : List AcceptedData = replicate n (missed N) ++ replicate k (missed T) in
    let P : (ℕ × Sides ℕ) × (Sides ℕ × Sides ℕ) × (ℕ × ℕ) → Type 0 = λ v.
    DirectionRepresents v.0.0 v.0.1.of_t v.2.0 l.receive v.1.0.of_t v.1.1.of_t × DirectionRepresents v.0.0 v.0.1.of_n v.2.1 n v.1.0.of_n v.1.1.of_n in
    let both : P ((f.modulus, f.windows), (f.sent, f.acknowledged), (sent T hs, sent N hs)) =
    subst P (λ j. ((sym modulus j, sym windows j), (sym sent_is j, sym acknowledged_is j), (sym (own_count T n k) j, sym (other_count T n k) j)))
    (settling_represents m l.receive next h e is, settled_represents m n) in
    record { of_t = both.0; of_n = both.1; unconfirmed = free }
settled_numbers m N n next l h f c e modulus windows free is sent_is acknowledged_is =
    let k : ℕ = count_settled m l.receive h in
    let hs : List AcceptedData = replicate n (missed T) ++ replicate k (missed N) in
    let P : (ℕ × Sides ℕ) × (Sides ℕ × Sides ℕ) × (ℕ × ℕ) → Type 0 = λ v.
    DirectionRepresents v.0.0 v.0.1.of_t v.2.0 n v.1.0.of_t v.1.1.of_t × DirectionRepresents v.0.0 v.0.1.of_n v.2.1 l.receive v.1.0.of_n v.1.1.of_n in
    let both : P ((f.modulus, f.windows), (f.sent, f.acknowledged), (sent T hs, sent N hs)) =
    subst P (λ j. ((sym modulus j, sym windows j), (sym sent_is j, sym acknowledged_is j), (sym (other_count N n k) j, sym (own_count N n k) j)))
    (settled_represents m n, settling_represents m l.receive next h e is) in
    record { of_t = both.0; of_n = both.1; unconfirmed = free }

-- a side whose next number is in doubt then has nothing outstanding
settled_equal : (m : ℕ) (y x : Side) (n : ℕ) (l : LastData) (h : Option DataHeader) (c : Channel) → of_side x (with_side y (not (is_some h)) (of_both false)) ≡ true →
    of_side x (sent_by (settled_channel m y n l h c).accepted) ≡ of_side x (settled_channel m y n l h c).acknowledged
settled_equal m T T n l None c e = own_count T n l.receive
settled_equal m T T n l (Some h) c e = absurd (true≢false (sym e))
settled_equal m T N n l h c e = absurd (true≢false (sym e))
settled_equal m N N n l None c e = own_count N n l.receive
settled_equal m N N n l (Some h) c e = absurd (true≢false (sym e))
settled_equal m N T n l h c e = absurd (true≢false (sym e))

pub of_same : (x : Side) (b : Bool) → of_side x (of_both b) ≡ b
of_same T b = refl
of_same N b = refl

-- what a packet that settles the channel makes certain
pub new_numbers : (m : ℕ) (s : InDoubt) (hidden : Bool) (g : Settling) (c : Channel) → s.doubts ≡ settled_doubts hidden g.side g.header → ResiduesRepresent s.flow (counts_of (settled_after m g c)) →
    s.flow.modulus ≡ m → s.flow.windows ≡ of_both (m - 1) → NumbersRepresent m s (settled_after m g c)
new_numbers m s hidden g c doubts flow modulus widest = record {
  flow = flow;
  modulus = modulus;
  widest = widest;
  acknowledged = λ x e. settled_equal m g.side x g.receive g.last g.header c (ap (λ d. of_side x d.numbers) (sym doubts) ∙ e);
  unknown = λ x e. ap (λ d. of_side x d.sequences) doubts ∙ of_same x true;
}

both_set : (x : Side) (a b : ℕ) (v : Sides ℕ) → with_side x a (with_side (other x) b v) ≡ with_side x a (of_both b)
both_set T a b v = refl
both_set N a b v = refl

-- the numbers as they are set, one side after the other
pub set_both : (m : ℕ) (g : Settling) (y : Side) (received lowest next : ℕ) (f0 f1 f2 : FlowResidues) (c : Channel) → (m ≡ 8) ⊎ (m ≡ 128) → f0.modulus ≡ m → f0.windows ≡ of_both (m - 1) →
    ResiduesRepresent f0 no_counts → y ≡ other g.side → received ≡ g.receive % m → lowest ≡ g.last.receive % m → next ≡ count_settled m g.last.receive g.header % m →
    f1 ≡ record f0 { sent = with_side y received f0.sent; acknowledged = with_side y received f0.acknowledged } →
    f2 ≡ record f1 { sent = with_side g.side next f1.sent; acknowledged = with_side g.side lowest f1.acknowledged } → ResiduesRepresent f2 (counts_of (settled_after m g c))
set_both m g y received lowest next f0 f1 f2 c e modulus widest free side received_is lowest_is next_is first second =
    settled_numbers m g.side g.receive next g.last g.header f2 c e
    (ap (λ (f : FlowResidues). f.modulus) second ∙ ap (λ (f : FlowResidues). f.modulus) first ∙ modulus)
    (ap (λ (f : FlowResidues). f.windows) second ∙ ap (λ (f : FlowResidues). f.windows) first ∙ widest)
    (ap (λ (f : FlowResidues). f.unconfirmed) second ∙ ap (λ (f : FlowResidues). f.unconfirmed) first ∙ free.unconfirmed)
    next_is
    (ap (λ (f : FlowResidues). f.sent) second
    ∙ ap (λ v. with_side g.side next v) (ap (λ (f : FlowResidues). f.sent) first ∙ (λ j. with_side (side j) (received_is j) f0.sent))
    ∙ both_set g.side next (g.receive % m) f0.sent)
    (ap (λ (f : FlowResidues). f.acknowledged) second
    ∙ ap (λ v. with_side g.side lowest v) (ap (λ (f : FlowResidues). f.acknowledged) first ∙ (λ j. with_side (side j) (received_is j) f0.acknowledged))
    ∙ both_set g.side lowest (g.receive % m) f0.acknowledged
    ∙ ap (λ v. with_side g.side v (of_both (g.receive % m))) lowest_is)

room : (m w : ℕ) → (m ≡ 8) ⊎ (m ≡ 128) → w ≡ m - 1 → w + 1 ≡ m
room m w e is = omega (arith, e, is)

-- the widest windows
pub widest_room : (x : Side) (f : FlowResidues) → IsWidest f → of_side x f.windows + 1 ≡ f.modulus
widest_room T f w = room f.modulus f.windows.of_t w.eight (ap (λ v. v.of_t) w.windows)
widest_room N f w = room f.modulus f.windows.of_n w.eight (ap (λ v. v.of_n) w.windows)

pub side_same : {A : Type 0} (x : Side) (v : Sides A) → with_side x (of_side x v) v ≡ v
side_same T v = refl
side_same N v = refl

-- the numbers of a side in doubt, with the packets that were missed up to a number
pub presumed_by : (x : Side) (n k lowest : ℕ) (m : ℕ) (s : InDoubt) (g : FlowResidues) (c : Channel) → IsWidest s.flow → NumbersRepresent m s c → of_side x s.doubts.numbers ≡ true →
    k ≡ n % s.flow.modulus → lowest ≡ of_side x s.flow.acknowledged →
    g ≡ record s.flow { sent = with_side x k s.flow.sent; acknowledged = with_side x lowest s.flow.acknowledged } → ResiduesRepresent g (counts_of (completed_to m (of_side x s.doubts.numbers) x n c))
presumed_by x n k lowest m s g c w ns doubt number edge is =
    let f : FlowResidues = s.flow in
    let set : g ≡ record f { sent = with_side x (n % f.modulus) f.sent } =
    is ∙ (λ j. record f { sent = with_side x (number j) f.sent; acknowledged = (ap (λ v. with_side x v f.acknowledged) edge ∙ side_same x f.acknowledged) j }) in
    subst (λ v. ResiduesRepresent g (counts_of (completed_to m v x n c))) (sym doubt)
    (subst (λ v. ResiduesRepresent g (counts_of (completed_to v true x n c))) ns.modulus
    (subst (λ q. ResiduesRepresent q (counts_of (completed_to f.modulus true x n c))) (sym set)
    (presumed x n f c w.eight w.windows ns.flow (ns.acknowledged x doubt))))
