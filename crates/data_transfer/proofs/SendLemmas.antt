-- A data packet counts as its P(R) does and adds one packet sent.
use Rattle.std.proofs.Common.{◌≡◌, ◌⊎◌, ◌<◌, ◌-◌, ◌%◌, ◌+◌, ℕ, true, sym, subst, arith, Option, Some, None, Result, Ok, Err, min, rules}
use Rattle.std.proofs.Math.Nat.{min-le_right}
use Rattle.line_model.specs.declared.diagnostic.TheConstants.{INVALID_P_R}
use Rattle.line_model.specs.declared.state.Side.{Side}
use Rattle.line_model.specs.declared.state.Side.TheVariants.{T, N}
use Rattle.line_model.specs.channels.Channels.{of_side, with_side, other}
use Rattle.line_model.specs.channels.FlowControl.{Counts, is_send_valid, count_receive, count_data}
use Rattle.data_transfer.specs.FlowResidues.{FlowResidues, IsDirection, Residues, DirectionRepresents, ResiduesRepresent, Answers}
use Rattle.data_transfer.specs.declared.direction.Direction.{Direction}
use Rattle.data_transfer.specs.Directions.{direction_of, with_direction}

-- one packet more is sent
sent_one : (m w s a sent acknowledged : ℕ) → (m ≡ 8) ⊎ (m ≡ 128) → DirectionRepresents m w s a sent acknowledged → s - a < w →
    DirectionRepresents m w (s + 1) a ((sent + 1) % m) acknowledged
sent_one m w s a sent acknowledged e h l = record {
  sent_is = grind (arith, e, h.sent_is);
  acknowledged_is = h.acknowledged_is;
  ordered = omega (arith, h.ordered);
  within = omega (arith, h.ordered, l);
}

-- the same receive number after one packet more of its own side
received : {A : Type 0} (x : Side) (u : A) (old mid : FlowResidues) (c : Counts) (o : Option ℕ) →
    (old.modulus ≡ 8) ⊎ (old.modulus ≡ 128) → ResiduesRepresent old c →
    of_side x c.sent - of_side x c.acknowledged < of_side x old.windows →
    mid.modulus ≡ old.modulus → mid.windows ≡ old.windows →
    Answers (Ok u) old mid (elim o as (λ v. Result Counts ℕ) [ Some k ↦ Ok (record c { acknowledged = with_side (other x) k c.acknowledged }) | None ↦ Err INVALID_P_R ]) →
    Answers (Ok u) old (with_direction x (record (direction_of x old) { sent = (of_side x old.sent + 1) % old.modulus }) mid)
    (elim o as (λ v. Result Counts ℕ) [ Some k ↦ Ok (record c { sent = with_side x (of_side x c.sent + 1) c.sent; acknowledged = with_side (other x) k c.acknowledged }) | None ↦ Err INVALID_P_R ])
received x u old mid c None e h l m w r = r
received T u old mid c (Some k) e h l m w r = record {
  of_t = rw m (sent_one _ _ _ _ _ _ e h.of_t l);
  of_n = r.of_n;
  unconfirmed = search rules;
}
received N u old mid c (Some k) e h l m w r = record {
  of_t = r.of_t;
  of_n = rw m (sent_one _ _ _ _ _ _ e h.of_n l);
  unconfirmed = search rules;
}

-- the counts of one direction and their residues
residues_of : (x : Side) (k : FlowResidues) (c : Counts) → ResiduesRepresent k c → of_side x k.windows < k.modulus →
    Residues k.modulus (of_side x c.sent) (of_side x c.acknowledged) (of_side x k.sent) (of_side x k.acknowledged)
residues_of T k c h b = record { sent_is = h.of_t.sent_is; acknowledged_is = h.of_t.acknowledged_is; ordered = h.of_t.ordered; below = omega (arith, h.of_t.within, b) }
residues_of N k c h b = record { sent_is = h.of_n.sent_is; acknowledged_is = h.of_n.acknowledged_is; ordered = h.of_n.ordered; below = omega (arith, h.of_n.within, b) }

-- a number that is next lies in the window
room : (m w s a n : ℕ) → is_send_valid m w s a n ≡ true → s - a < w
room m w s a n v = grind (arith, v)

-- by the side
counted_receive : {A : Type 0} (x : Side) (u : A) (old mid : FlowResidues) (c : Counts) (receive : ℕ) →
    (old.modulus ≡ 8) ⊎ (old.modulus ≡ 128) → ResiduesRepresent old c →
    of_side x c.sent - of_side x c.acknowledged < of_side x old.windows →
    mid.modulus ≡ old.modulus → mid.windows ≡ old.windows →
    Answers (Ok u) old mid (count_receive old.modulus c x receive) →
    Answers (Ok u) old (with_direction x (record (direction_of x old) { sent = (of_side x old.sent + 1) % old.modulus }) mid)
    (count_receive old.modulus (record c { sent = with_side x (of_side x c.sent + 1) c.sent }) x receive)
counted_receive T u old mid c receive e h l m w r = received T u old mid c _ e h l m w r
counted_receive N u old mid c receive e h l m w r = received N u old mid c _ e h l m w r

-- a data packet whose numbers are valid
pub counted : {A : Type 0} (x : Side) (u : A) (old mid : FlowResidues) (c : Counts) (window send receive : ℕ) →
    (old.modulus ≡ 8) ⊎ (old.modulus ≡ 128) → of_side x old.windows < old.modulus → ResiduesRepresent old c →
    ((s a : ℕ) → Residues old.modulus s a (of_side x old.sent) (of_side x old.acknowledged) → true ≡ is_send_valid old.modulus (min window (of_side x old.windows)) s a send) →
    mid.modulus ≡ old.modulus → mid.windows ≡ old.windows →
    Answers (Ok u) old mid (count_receive old.modulus c x receive) →
    Answers (Ok u) old (with_direction x (record (direction_of x old) { sent = (of_side x old.sent + 1) % old.modulus }) mid)
    (count_data old.modulus (min window (of_side x old.windows)) c x send receive)
counted x u old mid c window send receive e b h v m w r =
    let valid : is_send_valid old.modulus (min window (of_side x old.windows)) (of_side x c.sent) (of_side x c.acknowledged) send ≡ true
    = sym (v _ _ (residues_of x old c h b)) in
    let free : of_side x c.sent - of_side x c.acknowledged < of_side x old.windows = omega (arith, room old.modulus (min window (of_side x old.windows)) (of_side x c.sent) (of_side x c.acknowledged) send valid, min-le_right window (of_side x old.windows)) in
    rw (valid, Answers) (counted_receive x u old mid c receive e h free m w r)

-- the same in the words of the code: the numbers of the side are read, and written back with one more
pub counted_by : {A : Type 0} (x : Side) (u : A) (old mid new : FlowResidues) (d : Direction) (m n : ℕ) (c : Counts) (window send receive : ℕ) →
    m ≡ old.modulus → d ≡ direction_of x old → n ≡ (d.sent + 1) % m → new ≡ with_direction x (record d { sent = n }) mid →
    IsDirection old.modulus d.window d.sent d.acknowledged → (m ≡ 8) ⊎ (m ≡ 128) →
    ((s a : ℕ) → Residues m s a d.sent d.acknowledged → true ≡ is_send_valid m (min window d.window) s a send) →
    mid.modulus ≡ old.modulus → mid.windows ≡ old.windows → ResiduesRepresent old c →
    Answers (Ok u) old mid (count_receive old.modulus c x receive) →
    Answers (Ok u) old new (count_data old.modulus (min window (of_side x old.windows)) c x send receive)
counted_by x u old mid new d m n c window send receive same is more into range e v w k h r =
    let P : Direction → Type 0 = λ d'. IsDirection old.modulus d'.window d'.sent d'.acknowledged →
    ((s a : ℕ) → Residues old.modulus s a d'.sent d'.acknowledged → true ≡ is_send_valid old.modulus (min window d'.window) s a send) →
    Answers (Ok u) old (with_direction x (record d' { sent = (d'.sent + 1) % old.modulus }) mid) (count_data old.modulus (min window (of_side x old.windows)) c x send receive) in
    let eight : (old.modulus ≡ 8) ⊎ (old.modulus ≡ 128) = rw same at e in
    let at_d : P d = subst P (sym is) (λ g q. counted x u old mid c window send receive eight g.window_below h q w k r) in
    let Q : ℕ → Type 0 = λ m'. (s a : ℕ) → Residues m' s a d.sent d.acknowledged → true ≡ is_send_valid m' (min window d.window) s a send in
    rw (into, more, same) (at_d range (subst Q same v))
