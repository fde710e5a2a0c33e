-- How a channel settles.
use Rattle.std.proofs.Common.{◌≡◌, ◌⊎◌, ◌<◌, ◌+◌, ◌%◌, ℕ, Bool, true, false, refl, sym, ◌∙◌, ap, length, [], ◌∷◌, ◌++◌, Option, Some, None, arith}
use Rattle.std.specs.Prelude.{is_some, not, replicate}
use Rattle.std.proofs.lemmas.Bool.{false≢true}
use Rattle.line_model.specs.declared.gap.LastData.{LastData}
use Rattle.line_model.specs.declared.interface.Interface.{Interface}
use Rattle.line_model.specs.declared.packet.DataHeader.{DataHeader}
use Rattle.line_model.specs.declared.state.Side.{Side}
use Rattle.line_model.specs.declared.state.Side.TheVariants.{T, N}
use Rattle.line_model.specs.declared.state.DState as transfer
use Rattle.line_model.specs.basics.Records.{Item}
use Rattle.line_model.specs.channels.Channels.{Sides, of_side, other, with_side}
use Rattle.line_model.specs.channels.ChannelStep.{accepted_of}
use Rattle.line_model.specs.channels.FlowControl.{sent}
use Rattle.line_model.specs.channels.Gaps.{of_both}
use Rattle.line_model.specs.channels.GapStep.{count_settled, missed}
use Rattle.gap_laws.proofs.Numbers.{FitsDirection, all_acknowledged, settled_acknowledged, settled_in_doubt, settled_with_data}
use Rattle.gap_laws.proofs.SentPackets.{missed_own, missed_other, other_side, own_side, packets_apart, sent_missed, sent_other, sent_own}
use Rattle.gap_laws.proofs.Circuits.{Circuit, DataTaken, IsOrdered, ReceiveTaken, Terms, by_side, circuit, of_back, of_other, of_own, size_of, window_of, with_data, with_receive}
use Rattle.gap_laws.proofs.Settled.{SideFits, doubts_with, numbers_at}
use Rattle.gap_laws.proofs.Fits.{LastIn}

-- the circuit that a packet of a side settles
abbrev pub settled_circuit : (modulus : ℕ) → Side → (receive : ℕ) → LastData → Option DataHeader → Circuit
settled_circuit m x n l h =
    circuit transfer.TheVariants.D1 (replicate n (missed (other x)) ++ replicate (count_settled m l.receive h) (missed x))
    (with_side x l.receive (of_both n)) (of_both false)

abbrev pub numbers_then : Side → Option DataHeader → Sides Bool
numbers_then x h = with_side x (not (is_some h)) (of_both false)

missed_back : (x : Side) (k : ℕ) → sent x (replicate k (missed (other x))) ≡ 0
missed_back T k = ap (λ l. length l) (missed_other N k)
missed_back N k = ap (λ l. length l) (missed_other T k)

own_count : (x : Side) (n k : ℕ) → sent x (replicate n (missed (other x)) ++ replicate k (missed x)) ≡ k
own_count x n k = sent_missed x (replicate n (missed (other x))) k ∙ ap (λ j. j + k) (missed_back x n) ∙ zero_plus k
  where
    zero_plus : (k : ℕ) → 0 + k ≡ k
    zero_plus k = omega arith

other_count : (x : Side) (n k : ℕ) → sent (other x) (replicate n (missed (other x)) ++ replicate k (missed x)) ≡ n
other_count x n k = ap (λ l. length l) (packets_apart x (replicate n (missed (other x))) k) ∙ missed_own (other x) n

-- what is certain then, by what is certain of the numbers of each side
settled_sides : (i : Interface) (k : Terms) (u : Bool) (x : Side) (n : ℕ) (l : LastData) (h : Option DataHeader) (w : Circuit)
    → FitsDirection i.modulus (not (is_some h)) (sent x w.accepted) (of_side x w.acknowledged) (count_settled i.modulus l.receive h) l.receive
    → FitsDirection i.modulus false (sent (other x) w.accepted) (of_side (other x) w.acknowledged) n n
    → (y : Side) → SideFits i (size_of i k) (doubts_with u (numbers_then x h) (of_both true) (of_both true)) w (settled_circuit i.modulus x n l h) y
settled_sides i k u x n l h w f g = by_side (λ y. SideFits i (size_of i k) (doubts_with u (numbers_then x h) (of_both true) (of_both true)) w (settled_circuit i.modulus x n l h) y) x own apart
  where
    never : {A : Type 0} (y : Side) → of_side y (of_both true) ≡ false → A
    never T e = absurd (false≢true (sym e))
    never N e = absurd (false≢true (sym e))

    both : (y : Side) → of_side y (of_both n) ≡ n
    both T = refl
    both N = refl

    neither : (y : Side) → of_side y (of_both false) ≡ false
    neither T = refl
    neither N = refl

    own : SideFits i (size_of i k) (doubts_with u (numbers_then x h) (of_both true) (of_both true)) w (settled_circuit i.modulus x n l h) x
    own = record {
      numbers = numbers_at i.modulus (not (is_some h)) (of_side x (numbers_then x h)) (sent x w.accepted) (sent x w.accepted) (of_side x w.acknowledged) (of_side x w.acknowledged)
          (count_settled i.modulus l.receive h) (sent x (settled_circuit i.modulus x n l h).accepted) l.receive (of_side x (with_side x l.receive (of_both n)))
          (of_own x (not (is_some h)) (of_both false)) refl refl (own_count x n (count_settled i.modulus l.receive h)) (of_own x l.receive (of_both n)) f;
      interrupts = λ e. never x e;
      sequences = λ v e. never x e;
      in_order = λ e. never x e;
    }

    apart : SideFits i (size_of i k) (doubts_with u (numbers_then x h) (of_both true) (of_both true)) w (settled_circuit i.modulus x n l h) (other x)
    apart = record {
      numbers = numbers_at i.modulus false (of_side (other x) (numbers_then x h)) (sent (other x) w.accepted) (sent (other x) w.accepted) (of_side (other x) w.acknowledged) (of_side (other x) w.acknowledged)
          n (sent (other x) (settled_circuit i.modulus x n l h).accepted) n (of_side (other x) (with_side x l.receive (of_both n)))
          (of_other x (not (is_some h)) (of_both false) ∙ neither (other x)) refl refl (other_count x n (count_settled i.modulus l.receive h)) (of_other x l.receive (of_both n) ∙ both (other x)) g;
      interrupts = λ e. never (other x) e;
      sequences = λ v e. never (other x) e;
      in_order = λ e. never (other x) e;
    }

-- the side that is acknowledged
acknowledged_side : (m : ℕ) (q w : Circuit) (x : Side) (n k : ℕ) → (m ≡ 8) ⊎ (m ≡ 128) → sent (other x) w.accepted ≡ sent (other x) q.accepted → of_side (other x) w.acknowledged ≡ k
    → k ≡ sent (other x) q.accepted → sent (other x) q.accepted % m ≡ n → FitsDirection m false (sent (other x) w.accepted) (of_side (other x) w.acknowledged) n n
acknowledged_side m q w x n k e s a all is =
    numbers_at m false false (sent (other x) q.accepted) (sent (other x) w.accepted) (sent (other x) q.accepted) (of_side (other x) w.acknowledged) n n n n
    refl s (a ∙ all) refl refl (settled_acknowledged m (sent (other x) q.accepted) n e is)

-- what the last data packet of the other side says
last_says : (m : ℕ) (x : Side) (n : ℕ) (q : Circuit) (l : LastData) → LastIn transfer.TheVariants.D1 m q (other x) l → l.next ≡ n → (sent (other x) q.accepted % m ≡ n) × (of_side x q.acknowledged % m ≡ l.receive)
last_says m T n q l last same = (last.0 ∙ same, last.1)
last_says m N n q l last same = (last.0 ∙ same, last.1)

pub settles_by_data : (i : Interface) (k : Terms) (u : Bool) (r : Item) (h : DataHeader) (q : Circuit) (l : LastData) → (i.modulus ≡ 8) ⊎ (i.modulus ≡ 128) → window_of i k r.side < i.modulus → ((y : Side) → IsOrdered i.modulus q y)
    → LastIn transfer.TheVariants.D1 i.modulus q (other r.side) l → l.next ≡ h.receive → (t : DataTaken i k r h q)
    → (y : Side) → SideFits i (size_of i k) (doubts_with u (numbers_then r.side (Some h)) (of_both true) (of_both true)) (with_data i r h t.upto q) (settled_circuit i.modulus r.side h.receive l (Some h)) y
settles_by_data i k u r h q l e w o last same t =
    let (next, receive) = last_says i.modulus r.side h.receive q l last same in
    settled_sides i k u r.side h.receive l (Some h) (with_data i r h t.upto q)
    (numbers_at i.modulus false false (sent r.side q.accepted + 1) (sent r.side (q.accepted ++ accepted_of i r h ∷ [])) (of_side r.side q.acknowledged) (of_side r.side (with_side (other r.side) t.upto q.acknowledged))
    (count_settled i.modulus l.receive (Some h)) (count_settled i.modulus l.receive (Some h)) l.receive l.receive
    refl (sent_own r.side q.accepted (accepted_of i r h) (own_side r.side)) (of_back r.side t.upto q.acknowledged) refl refl
    (settled_with_data i.modulus (window_of i k r.side) (sent r.side q.accepted) (of_side r.side q.acknowledged) l.receive h.send e w (o r.side).ordered receive t.next))
    (acknowledged_side i.modulus q (with_data i r h t.upto q) r.side h.receive t.upto e (sent_other (other r.side) q.accepted (accepted_of i r h) (other_side r.side)) (of_own (other r.side) t.upto q.acknowledged)
    (all_acknowledged i.modulus (sent (other r.side) q.accepted) (of_side (other r.side) q.acknowledged) h.receive t.upto e (o (other r.side)).within next t.receive) next)

pub settles_by_receive : (i : Interface) (k : Terms) (u : Bool) (x : Side) (n : ℕ) (q : Circuit) (l : LastData) → (i.modulus ≡ 8) ⊎ (i.modulus ≡ 128) → ((y : Side) → IsOrdered i.modulus q y)
    → LastIn transfer.TheVariants.D1 i.modulus q (other x) l → l.next ≡ n → (t : ReceiveTaken k i.modulus x n q)
    → (y : Side) → SideFits i (size_of i k) (doubts_with u (numbers_then x None) (of_both true) (of_both true)) (with_receive x t.upto q) (settled_circuit i.modulus x n l None) y
settles_by_receive i k u x n q l e o last same t =
    let (next, receive) = last_says i.modulus x n q l last same in
    settled_sides i k u x n l None (with_receive x t.upto q)
    (numbers_at i.modulus true true (sent x q.accepted) (sent x q.accepted) (of_side x q.acknowledged) (of_side x (with_side (other x) t.upto q.acknowledged)) l.receive l.receive l.receive l.receive
    refl refl (of_back x t.upto q.acknowledged) refl refl
    (settled_in_doubt i.modulus (sent x q.accepted) (of_side x q.acknowledged) l.receive e (o x).ordered (o x).within receive))
    (acknowledged_side i.modulus q (with_receive x t.upto q) x n t.upto e refl (of_own (other x) t.upto q.acknowledged)
    (all_acknowledged i.modulus (sent (other x) q.accepted) (of_side (other x) q.acknowledged) n t.upto e (o (other x)).within next t.receive) next)
