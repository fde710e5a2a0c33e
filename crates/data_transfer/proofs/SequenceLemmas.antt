-- The packets begun, one packet at a time.
use Rattle.std.proofs.Common.{◌≡◌, ℕ, true, false, refl, ◌∙◌, ap, List, [], ◌∷◌, ◌++◌, reverse, append-nil}
use Rattle.std.specs.Prelude.{filter, take_while}
use Rattle.std.proofs.lemmas.List.{reverse-append}
use Rattle.std.proofs.lemmas.List.Elements.{filter-append}
use Rattle.std.proofs.lemmas.List.Sums.{take_while-cons}
use Rattle.line_model.specs.declared.state.Side.{Side}
use Rattle.line_model.specs.channels.Channels.{AcceptedData}
use Rattle.line_model.specs.channels.FlowControl.{packets_of, is_side}
use Rattle.line_model.specs.channels.Sequences.{is_category_a, begun}

-- a packet at the end is one of its side's
pub packets_of-same : (x : Side) (hs : List AcceptedData) (h : AcceptedData) → is_side x h.side ≡ true →
    packets_of x (hs ++ h ∷ []) ≡ packets_of x hs ++ h ∷ []
packets_of-same x hs h e =
    let last : filter (λ g. is_side x g.side) (h ∷ []) ≡ h ∷ [] = rw e refl in
    filter-append (λ g. is_side x g.side) hs (h ∷ []) ∙ ap (λ l. packets_of x hs ++ l) last

pub packets_of-other : (x : Side) (hs : List AcceptedData) (h : AcceptedData) → is_side x h.side ≡ false →
    packets_of x (hs ++ h ∷ []) ≡ packets_of x hs
packets_of-other x hs h e =
    let last : filter (λ g. is_side x g.side) (h ∷ []) ≡ [] = rw e refl in
    filter-append (λ g. is_side x g.side) hs (h ∷ []) ∙ ap (λ l. packets_of x hs ++ l) last ∙ append-nil (packets_of x hs)

-- a packet of the other side changes nothing that was begun
pub begun-other : (size : ℕ) (x : Side) (hs : List AcceptedData) (h : AcceptedData) → is_side x h.side ≡ false →
    begun size x (hs ++ h ∷ []) ≡ begun size x hs
begun-other size x hs h e = ap (λ l. reverse (take_while (is_category_a size) (reverse l))) (packets_of-other x hs h e)

-- the packets at the end, with one more
pub begun-same : (size : ℕ) (x : Side) (hs : List AcceptedData) (h : AcceptedData) → is_side x h.side ≡ true →
    begun size x (hs ++ h ∷ []) ≡ reverse (take_while (is_category_a size) (h ∷ reverse (packets_of x hs)))
begun-same size x hs h e =
    ap (λ l. reverse (take_while (is_category_a size) (reverse l))) (packets_of-same x hs h e)
    ∙ ap (λ l. reverse (take_while (is_category_a size) l)) (reverse-append (packets_of x hs) (h ∷ []))

-- a packet of category A goes to those that were begun
pub begun-more : (size : ℕ) (x : Side) (hs : List AcceptedData) (h : AcceptedData) → is_side x h.side ≡ true → is_category_a size h ≡ true →
    begun size x (hs ++ h ∷ []) ≡ begun size x hs ++ h ∷ []
begun-more size x hs h e a =
    let kept : take_while (is_category_a size) (h ∷ reverse (packets_of x hs)) ≡ h ∷ take_while (is_category_a size) (reverse (packets_of x hs)) =
    take_while-cons (is_category_a size) h (reverse (packets_of x hs)) ∙ rw a refl in
    begun-same size x hs h e ∙ ap (λ l. reverse l) kept ∙ reverse-append (h ∷ []) (take_while (is_category_a size) (reverse (packets_of x hs)))

-- a packet of category B leaves nothing begun
pub begun-done : (size : ℕ) (x : Side) (hs : List AcceptedData) (h : AcceptedData) → is_side x h.side ≡ true → is_category_a size h ≡ false →
    begun size x (hs ++ h ∷ []) ≡ []
begun-done size x hs h e a =
    let dropped : take_while (is_category_a size) (h ∷ reverse (packets_of x hs)) ≡ [] =
    take_while-cons (is_category_a size) h (reverse (packets_of x hs)) ∙ rw a refl in
    begun-same size x hs h e ∙ ap (λ l. reverse l) dropped
