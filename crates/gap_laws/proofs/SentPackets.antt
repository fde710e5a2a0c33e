-- The data packets of each side, as one more is accepted, or some that were missed are added.
use Rattle.std.proofs.Common.{◌≡◌, ◌+◌, ℕ, zero, suc, Bool, true, false, cond, refl, ◌∙◌, ap, List, [], ◌∷◌, ◌++◌, length, reverse, append-nil}
use Rattle.std.specs.Prelude.{replicate, take_while}
use Rattle.std.proofs.lemmas.List.{length-append, reverse-append}
use Rattle.std.proofs.lemmas.List.Elements.{filter-append}
use Rattle.std.proofs.lemmas.List.Sums.{take_while-cons}
use Rattle.line_model.specs.declared.state.Side.{Side}
use Rattle.line_model.specs.declared.state.Side.TheVariants.{T, N}
use Rattle.line_model.specs.channels.Channels.{AcceptedData, other}
use Rattle.line_model.specs.channels.FlowControl.{is_side, packets_of, sent}
use Rattle.line_model.specs.channels.GapStep.{missed}
use Rattle.line_model.specs.channels.Sequences.{begun, is_category_a}

pub own_side : (x : Side) → is_side x x ≡ true
own_side T = refl
own_side N = refl

pub other_side : (x : Side) → is_side (other x) x ≡ false
other_side T = refl
other_side N = refl

-- ---- one more

pub packets_own : (x : Side) (hs : List AcceptedData) (p : AcceptedData) → is_side x p.side ≡ true → packets_of x (hs ++ p ∷ []) ≡ packets_of x hs ++ p ∷ []
packets_own x hs p e = filter-append (λ h. is_side x h.side) hs (p ∷ []) ∙ ap (λ b. packets_of x hs ++ cond b (p ∷ []) []) e

pub packets_other : (x : Side) (hs : List AcceptedData) (p : AcceptedData) → is_side x p.side ≡ false → packets_of x (hs ++ p ∷ []) ≡ packets_of x hs
packets_other x hs p e =
    filter-append (λ h. is_side x h.side) hs (p ∷ []) ∙ ap (λ b. packets_of x hs ++ cond b (p ∷ []) []) e ∙ append-nil (packets_of x hs)

pub sent_own : (x : Side) (hs : List AcceptedData) (p : AcceptedData) → is_side x p.side ≡ true → sent x (hs ++ p ∷ []) ≡ sent x hs + 1
sent_own x hs p e = ap (λ l. length l) (packets_own x hs p e) ∙ length-append (packets_of x hs) (p ∷ [])

pub sent_other : (x : Side) (hs : List AcceptedData) (p : AcceptedData) → is_side x p.side ≡ false → sent x (hs ++ p ∷ []) ≡ sent x hs
sent_other x hs p e = ap (λ l. length l) (packets_other x hs p e)

-- ---- those that were missed

pub missed_own : (x : Side) (k : ℕ) → length (packets_of x (replicate k (missed x))) ≡ k
missed_own x zero = refl
missed_own T (suc k) = ap suc (missed_own T k)
missed_own N (suc k) = ap suc (missed_own N k)

pub missed_other : (x : Side) (k : ℕ) → packets_of (other x) (replicate k (missed x)) ≡ []
missed_other x zero = refl
missed_other T (suc k) = missed_other T k
missed_other N (suc k) = missed_other N k

pub sent_missed : (x : Side) (hs : List AcceptedData) (k : ℕ) → sent x (hs ++ replicate k (missed x)) ≡ sent x hs + k
sent_missed x hs k =
    ap (λ l. length l) (filter-append (λ h. is_side x h.side) hs (replicate k (missed x)))
    ∙ length-append (packets_of x hs) (packets_of x (replicate k (missed x))) ∙ ap (λ n. sent x hs + n) (missed_own x k)

pub packets_apart : (x : Side) (hs : List AcceptedData) (k : ℕ) → packets_of (other x) (hs ++ replicate k (missed x)) ≡ packets_of (other x) hs
packets_apart x hs k =
    filter-append (λ h. is_side (other x) h.side) hs (replicate k (missed x))
    ∙ ap (λ l. packets_of (other x) hs ++ l) (missed_other x k) ∙ append-nil (packets_of (other x) hs)

-- ---- sequences

-- those that begin a sequence after a packet, by those before it
abbrev pub begun_with : (size : ℕ) → AcceptedData → List AcceptedData → List AcceptedData
begun_with size p hs = cond (is_category_a size p) (hs ++ p ∷ []) []

pub begun_own : (size : ℕ) (x : Side) (hs : List AcceptedData) (p : AcceptedData) → is_side x p.side ≡ true → begun size x (hs ++ p ∷ []) ≡ begun_with size p (begun size x hs)
begun_own size x hs p e =
    ap (λ l. reverse (take_while (is_category_a size) (reverse l))) (packets_own x hs p e)
    ∙ ap (λ l. reverse (take_while (is_category_a size) l)) (reverse-append (packets_of x hs) (p ∷ []))
    ∙ ap (λ l. reverse l) (take_while-cons (is_category_a size) p (reverse (packets_of x hs)))
    ∙ at (is_category_a size p)
  where
    rest : List AcceptedData
    rest = take_while (is_category_a size) (reverse (packets_of x hs))

    at : (b : Bool) → reverse (cond b (p ∷ rest) []) ≡ cond b (reverse rest ++ p ∷ []) []
    at true = reverse-append (p ∷ []) rest
    at false = refl

pub begun_other : (size : ℕ) (x : Side) (hs : List AcceptedData) (p : AcceptedData) → is_side x p.side ≡ false → begun size x (hs ++ p ∷ []) ≡ begun size x hs
begun_other size x hs p e = ap (λ l. reverse (take_while (is_category_a size) (reverse l))) (packets_other x hs p e)
