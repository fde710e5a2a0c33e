-- The sequences of a settled channel.
use Rattle.std.proofs.Common.{◌≡◌, ℕ, Bool, true, false, true≢false, refl, sym, ◌∙◌, ap, subst, List, [], ◌∷◌, ◌++◌, reverse}
use Rattle.std.specs.Prelude.{not, take_while, ◌&&◌, Some}
use Rattle.std.specs.List.{list_all}
use Rattle.std.proofs.lemmas.List.{reverse-append, reverse-reverse}
use Rattle.std.proofs.lemmas.List.Folds.{list_all-append}
use Rattle.std.proofs.lemmas.List.Sums.{take_while-cons}
use Rattle.line_model.specs.declared.state.Side.{Side}
use Rattle.line_model.specs.channels.Channels.{AcceptedData, of_side}
use Rattle.line_model.specs.channels.GapStep.{alike_at_end, is_mixed}
use Rattle.line_model.specs.channels.Sequences.{eq_bool, is_alike}
use Rattle.data_transfer.specs.Assembler.{begun_on}
use Rattle.data_transfer.specs.Assembly.{Holds, is_like, kept_octets, with_more}
use Rattle.data_transfer.specs.Sequences.{SequenceView}
use Rattle.data_transfer.specs.declared.sequence.DataField.{DataField}
use Rattle.data_transfer.proofs.Packets.{alike_is, holds_more, octets_more}
use Rattle.channel_machine.specs.GapView.{InDoubt}
use Rattle.channel_machine.specs.SettledNumbers.{kept_of}
use Rattle.channel_machine.specs.SettledSequences.{IsContinued, kept_after}

-- the packets at the end of a list that pass a test
abbrev pub at_end : (AcceptedData → Bool) → List AcceptedData → List AcceptedData
at_end f hs = reverse (take_while f (reverse hs))

end_is : (f : AcceptedData → Bool) (hs : List AcceptedData) (p : AcceptedData) → at_end f (hs ++ p ∷ []) ≡ reverse (take_while f (p ∷ reverse hs))
end_is f hs p = ap (λ l. reverse (take_while f l)) (reverse-append hs (p ∷ []))

pub end_more : (f : AcceptedData → Bool) (hs : List AcceptedData) (p : AcceptedData) → f p ≡ true → at_end f (hs ++ p ∷ []) ≡ at_end f hs ++ p ∷ []
end_more f hs p e =
    let kept : take_while f (p ∷ reverse hs) ≡ p ∷ take_while f (reverse hs) = take_while-cons f p (reverse hs) ∙ rw e refl in
    end_is f hs p ∙ ap (λ l. reverse l) kept ∙ reverse-append (p ∷ []) (take_while f (reverse hs))

pub end_done : (f : AcceptedData → Bool) (hs : List AcceptedData) (p : AcceptedData) → f p ≡ false → at_end f (hs ++ p ∷ []) ≡ []
end_done f hs p e =
    let dropped : take_while f (p ∷ reverse hs) ≡ [] = take_while-cons f p (reverse hs) ∙ rw e refl in
    end_is f hs p ∙ ap (λ l. reverse l) dropped

both : (a b : Bool) → a ≡ true → b ≡ true → (a && b) ≡ true
both a b e h = (λ j. e j && h j)

first_of : (a b : Bool) → (a && b) ≡ true → a ≡ true
first_of true b e = refl
first_of false b e = absurd (true≢false (sym e))

second_of : (a b : Bool) → (a && b) ≡ true → b ≡ true
second_of true b e = e
second_of false b e = absurd (true≢false (sym e))

last_of : (b : Bool) → b ≡ true → (b && true) ≡ true
last_of b e = ap (λ a. a && true) e

-- a test that all pass, the other way round
all_reverse : (f : AcceptedData → Bool) (hs : List AcceptedData) → list_all f hs ≡ true → list_all f (reverse hs) ≡ true
all_reverse f [] e = refl
all_reverse f (h ∷ hs) e =
    ap (λ l. list_all f l) (reverse-append (h ∷ []) hs) ∙ list_all-append f (reverse hs) (h ∷ [])
    ∙ both (list_all f (reverse hs)) (f h && true) (all_reverse f hs (second_of (f h) (list_all f hs) e)) (last_of (f h) (first_of (f h) (list_all f hs) e))

all_taken_by : (f : AcceptedData → Bool) (h : AcceptedData) (hs : List AcceptedData) (b : Bool) → f h ≡ b → list_all f (take_while f hs) ≡ true → list_all f (take_while f (h ∷ hs)) ≡ true
all_taken_by f h hs true e rest =
    let kept : take_while f (h ∷ hs) ≡ h ∷ take_while f hs = take_while-cons f h hs ∙ rw e refl in
    ap (λ l. list_all f l) kept ∙ both (f h) (list_all f (take_while f hs)) e rest
all_taken_by f h hs false e rest =
    let dropped : take_while f (h ∷ hs) ≡ [] = take_while-cons f h hs ∙ rw e refl in
    ap (λ l. list_all f l) dropped

all_taken : (f : AcceptedData → Bool) (hs : List AcceptedData) → list_all f (take_while f hs) ≡ true
all_taken f [] = refl
all_taken f (h ∷ hs) = all_taken_by f h hs (f h) refl (all_taken f hs)

taken_all : (f : AcceptedData → Bool) (hs : List AcceptedData) → list_all f hs ≡ true → take_while f hs ≡ hs
taken_all f [] e = refl
taken_all f (h ∷ hs) e =
    let one : f h ≡ true = first_of (f h) (list_all f hs) e in
    let kept : take_while f (h ∷ hs) ≡ h ∷ take_while f hs = take_while-cons f h hs ∙ rw one refl in
    kept ∙ ap (λ l. h ∷ l) (taken_all f hs (second_of (f h) (list_all f hs) e))

all_at_end : (f : AcceptedData → Bool) (hs : List AcceptedData) → list_all f (at_end f hs) ≡ true
all_at_end f hs = all_reverse f (take_while f (reverse hs)) (all_taken f (reverse hs))

end_all : (f : AcceptedData → Bool) (hs : List AcceptedData) → list_all f hs ≡ true → at_end f hs ≡ hs
end_all f hs e = ap (λ l. reverse l) (taken_all f (reverse hs) (all_reverse f hs e)) ∙ reverse-reverse hs

-- the packets that a packet continues are those at the end with its Q bit
kept_alike : (hidden : Bool) (p : AcceptedData) (hs : List AcceptedData) → is_mixed hidden false p hs ≡ false → not (hidden && not p.qualified) ≡ true → kept_of false hidden hs ≡ alike_at_end p hs
kept_alike true p hs e q = ap (λ b. at_end (λ g. eq_bool g.qualified b) hs) (sym (is_true p.qualified q))
  where
    is_true : (b : Bool) → not (not b) ≡ true → b ≡ true
    is_true true e = refl
    is_true false e = absurd (true≢false (sym e))
kept_alike false p hs e q = sym (end_all (λ g. eq_bool g.qualified p.qualified) hs (is_true (is_alike p hs) e))
  where
    is_true : (b : Bool) → not b ≡ false → b ≡ true
    is_true true e = refl
    is_true false e = absurd (true≢false e)

-- what was begun has its Q bit
like_of : (b : SequenceView) (hidden : Bool) (p : AcceptedData) (hs : List AcceptedData) → Holds b (kept_of false hidden hs) → is_mixed hidden false p hs ≡ false → not (hidden && not p.qualified) ≡ true → is_like b.qualified p.qualified ≡ true
like_of b hidden p hs holds e q =
    sym (alike_is b.qualified (kept_of false hidden hs) p holds.qualified) ∙ ap (λ l. is_alike p l) (kept_alike hidden p hs e q)
    ∙ all_at_end (λ g. eq_bool g.qualified p.qualified) hs

refuted : (a l : Bool) → (a && l) ≡ false → (a ≡ true → l ≡ true) → a ≡ false
refuted true l k h = absurd (true≢false (sym (h refl) ∙ k))
refuted false l k h = refl

hidden_unqualified : (h q : Bool) → not (h && not q) ≡ false → (h ≡ true) × (q ≡ false)
hidden_unqualified true false e = (refl, refl)
hidden_unqualified true true e = absurd (true≢false e)
hidden_unqualified false q e = absurd (true≢false e)

none_kept : (a : Bool) (hs : List AcceptedData) (p : AcceptedData) → p.qualified ≡ false → kept_after false true a hs p ≡ []
none_kept true hs p q = end_done (λ g. eq_bool g.qualified true) hs p (ap (λ r. eq_bool r true) q)
none_kept false hs p q = refl

none_known : (a : Bool) (p : AcceptedData) → p.qualified ≡ false → ((true && not a) && p.qualified) ≡ false
none_known true p q = refl
none_known false p q = q

-- what is kept of a sequence that is known
known_holds : (s : InDoubt) (x : Side) (f : DataField) (hs : List AcceptedData) (p : AcceptedData) → IsContinued s x f hs p → of_side x s.doubts.sequences ≡ false → Holds (begun_on s.assembler x) (kept_of false s.doubts.hidden hs)
known_holds s x f hs p h d = subst (λ b. Holds (begun_on s.assembler x) (kept_of b s.doubts.hidden hs)) d h.holds

known_alike : (s : InDoubt) (x : Side) (f : DataField) (hs : List AcceptedData) (p : AcceptedData) → IsContinued s x f hs p → of_side x s.doubts.sequences ≡ false → is_mixed s.doubts.hidden false p hs ≡ false
known_alike s x f hs p h d = ap (λ b. is_mixed s.doubts.hidden b p hs) (sym d) ∙ h.alike

-- a packet that is not kept: nothing is kept of its sequence, and it completes no message that is known
unkept_at : (doubt a : Bool) (s : InDoubt) (x : Side) (f : DataField) (hs : List AcceptedData) (p : AcceptedData) → IsContinued s x f hs p → of_side x s.doubts.sequences ≡ doubt →
    (not doubt && (not (s.doubts.hidden && not f.qualified) && is_like (begun_on s.assembler x).qualified f.qualified)) ≡ false →
    (kept_after doubt s.doubts.hidden a hs p ≡ []) × (((not doubt && not a) && p.qualified) ≡ false)
unkept_at true true s x f hs p h d k = (refl, refl)
unkept_at true false s x f hs p h d k = (refl, refl)
unkept_at false a s x f hs p h d k =
    let like : not (s.doubts.hidden && not f.qualified) ≡ true → is_like (begun_on s.assembler x).qualified f.qualified ≡ true =
    λ e. subst (λ q. is_like (begun_on s.assembler x).qualified q ≡ true) h.qualified
    (like_of (begun_on s.assembler x) s.doubts.hidden p hs (known_holds s x f hs p h d) (known_alike s x f hs p h d) (ap (λ q. not (s.doubts.hidden && not q)) h.qualified ∙ e)) in
    let (hidden, unqualified) = hidden_unqualified s.doubts.hidden f.qualified (refuted (not (s.doubts.hidden && not f.qualified)) (is_like (begun_on s.assembler x).qualified f.qualified) k like) in
    (ap (λ b. kept_after false b a hs p) hidden ∙ none_kept a hs p (h.qualified ∙ unqualified), none_known a p (h.qualified ∙ unqualified))

pub unkept : (b a : Bool) (s : InDoubt) (x : Side) (f : DataField) (hs : List AcceptedData) (p : AcceptedData) → IsContinued s x f hs p →
    b ≡ (not (of_side x s.doubts.sequences) && (not (s.doubts.hidden && not f.qualified) && is_like (begun_on s.assembler x).qualified f.qualified)) → b ≡ false →
    (kept_after (of_side x s.doubts.sequences) s.doubts.hidden a hs p ≡ []) × (((not (of_side x s.doubts.sequences) && not a) && p.qualified) ≡ false)
unkept b a s x f hs p h is e = unkept_at (of_side x s.doubts.sequences) a s x f hs p h refl (sym is ∙ e)

-- a packet that is kept
pub record IsKept (s : InDoubt) (x : Side) (f : DataField) : Type 0 where
  pub known : of_side x s.doubts.sequences ≡ false
  pub known_by : not (s.doubts.hidden && not f.qualified) ≡ true
  pub like : is_like (begun_on s.assembler x).qualified f.qualified ≡ true

not_true : (b : Bool) → not b ≡ true → b ≡ false
not_true true e = absurd (true≢false (sym e))
not_true false e = refl

pub kept_is : (b : Bool) (s : InDoubt) (x : Side) (f : DataField) → b ≡ (not (of_side x s.doubts.sequences) && (not (s.doubts.hidden && not f.qualified) && is_like (begun_on s.assembler x).qualified f.qualified)) → b ≡ true → IsKept s x f
kept_is b s x f is e =
    let all = sym is ∙ e in
    let rest = second_of (not (of_side x s.doubts.sequences)) (not (s.doubts.hidden && not f.qualified) && is_like (begun_on s.assembler x).qualified f.qualified) all in
    record {
      known = not_true (of_side x s.doubts.sequences) (first_of (not (of_side x s.doubts.sequences)) (not (s.doubts.hidden && not f.qualified) && is_like (begun_on s.assembler x).qualified f.qualified) all);
      known_by = first_of (not (s.doubts.hidden && not f.qualified)) (is_like (begun_on s.assembler x).qualified f.qualified) rest;
      like = second_of (not (s.doubts.hidden && not f.qualified)) (is_like (begun_on s.assembler x).qualified f.qualified) rest;
    }

hidden_qualified : (h q : Bool) → not (h && not q) ≡ true → h ≡ true → q ≡ true
hidden_qualified true true e t = refl
hidden_qualified true false e t = absurd (true≢false (sym e))
hidden_qualified false q e t = absurd (true≢false (sym t))

more_kept : (hidden : Bool) (hs : List AcceptedData) (p : AcceptedData) → (hidden ≡ true → p.qualified ≡ true) → kept_of false hidden hs ++ p ∷ [] ≡ kept_of false hidden (hs ++ p ∷ [])
more_kept true hs p q = sym (end_more (λ g. eq_bool g.qualified true) hs p (ap (λ r. eq_bool r true) (q refl)))
more_kept false hs p q = refl

-- one that more of its sequence follows
pub joined : (s : InDoubt) (new : SequenceView) (x : Side) (f : DataField) (hs : List AcceptedData) (p : AcceptedData) → IsContinued s x f hs p → IsKept s x f →
    new ≡ record (begun_on s.assembler x) { qualified = Some f.qualified; octets = with_more (begun_on s.assembler x).octets f.octets.now } →
    Holds new (kept_after (of_side x s.doubts.sequences) s.doubts.hidden true hs p)
joined s new x f hs p h k is =
    let b : SequenceView = begun_on s.assembler x in
    let gs : List AcceptedData = kept_of false s.doubts.hidden hs in
    let more : Holds new (gs ++ p ∷ []) =
    holds_more b new gs p (known_holds s x f hs p h k.known) (ap (λ q. is_like b.qualified q) h.qualified ∙ k.like)
    (ap (λ (v : SequenceView). v.qualified) is ∙ ap (λ q. Some q) (sym h.qualified))
    (ap (λ (v : SequenceView). v.octets) is ∙ ap (λ l. with_more b.octets l) (sym h.octets)) in
    subst (λ d. Holds new (kept_of d s.doubts.hidden (hs ++ p ∷ []))) (sym k.known)
    (subst (λ l. Holds new l) (more_kept s.doubts.hidden hs p (λ e. h.qualified ∙ hidden_qualified s.doubts.hidden f.qualified k.known_by e)) more)

-- one that completes its sequence
pub completes : (s : InDoubt) (x : Side) (f : DataField) (hs : List AcceptedData) (p : AcceptedData) (a : Bool) (os : List ℕ) → IsContinued s x f hs p → IsKept s x f → a ≡ false →
    os ≡ with_more (begun_on s.assembler x).octets f.octets.now → ((not (of_side x s.doubts.sequences) && not a) ≡ true) × (os ≡ kept_octets (alike_at_end p hs ++ p ∷ []))
completes s x f hs p a os h k last is =
    let gs : List AcceptedData = kept_of false s.doubts.hidden hs in (
      (λ j. not (k.known j) && not (last j)),
      is ∙ ap (λ l. with_more (begun_on s.assembler x).octets l) (sym h.octets) ∙ octets_more (begun_on s.assembler x) gs p (known_holds s x f hs p h k.known)
          ∙ ap (λ l. kept_octets (l ++ p ∷ [])) (kept_alike s.doubts.hidden p hs (known_alike s x f hs p h k.known) (ap (λ q. not (s.doubts.hidden && not q)) h.qualified ∙ k.known_by)),
    )

-- whether it is certain that a packet has another Q bit
mixed_by : (hidden doubt b : Bool) (q : SequenceView) (p : AcceptedData) (hs : List AcceptedData) → (not hidden && not doubt) ≡ true → Holds q (kept_of doubt hidden hs) → b ≡ is_like q.qualified p.qualified → not b ≡ is_mixed hidden doubt p hs
mixed_by true d b q p hs e h is = absurd (true≢false (sym e))
mixed_by false true b q p hs e h is = absurd (true≢false (sym e))
mixed_by false false b q p hs e h is = ap (λ v. not v) (is ∙ sym (alike_is q.qualified hs p h.qualified))

pub mixed : (b r : Bool) (s : InDoubt) (x : Side) (q : Bool) (p : AcceptedData) (hs : List AcceptedData) → r ≡ (not s.doubts.hidden && not (of_side x s.doubts.sequences)) → r ≡ true → Holds (begun_on s.assembler x) (kept_of (of_side x s.doubts.sequences) s.doubts.hidden hs) →
    p.qualified ≡ q → b ≡ is_like (begun_on s.assembler x).qualified q → not b ≡ is_mixed s.doubts.hidden (of_side x s.doubts.sequences) p hs
mixed b r s x q p hs known e h same is =
    mixed_by s.doubts.hidden (of_side x s.doubts.sequences) b (begun_on s.assembler x) p hs (sym known ∙ e) h (is ∙ ap (λ v. is_like (begun_on s.assembler x).qualified v) (sym same))

unmixed : (hidden doubt : Bool) (p : AcceptedData) (hs : List AcceptedData) → (not hidden && not doubt) ≡ false → false ≡ is_mixed hidden doubt p hs
unmixed true d p hs e = refl
unmixed false true p hs e = refl
unmixed false false p hs e = absurd (true≢false e)

pub not_mixed : (r : Bool) (s : InDoubt) (x : Side) (p : AcceptedData) (hs : List AcceptedData) → r ≡ (not s.doubts.hidden && not (of_side x s.doubts.sequences)) → r ≡ false → r ≡ is_mixed s.doubts.hidden (of_side x s.doubts.sequences) p hs
not_mixed r s x p hs known e = e ∙ unmixed s.doubts.hidden (of_side x s.doubts.sequences) p hs (sym known ∙ e)
