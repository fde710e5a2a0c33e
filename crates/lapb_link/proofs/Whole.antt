-- Frames of which none is missing.
use Rattle.std.proofs.Common.{◌≡◌, ◌∙◌, inl, inr, refl, sym, ap, subst, ℕ, ◌==◌, ◌++◌, Bool, true, false, List, [], ◌∷◌, Some, unwrap_or}
use Rattle.lapb_link.specs.Numbers.{after}
use Rattle.lapb_link.specs.Frames.{IFrame, is_repeated}
use Rattle.lapb_link.specs.Receiving.{acknowledged, informed, is_inside, is_repeated_number}
use Rattle.lapb_link.specs.WithoutLosses.{Seen, Sent, Received, IsAccepted, IsRepeated, IsInside, AreWhole, AreNumbered, all_shown, all_frames, frames_if}
use Rattle.lapb_link.specs.declared.frames.Reading.{Reading}
use Rattle.lapb_link.specs.declared.receiver.Receiver.{Receiver}
use Rattle.lapb_link.specs.declared.receiver.Shown.{Shown}
use Rattle.lapb_link.specs.declared.receiver.Fate.{Fate}

-- what holds of one frame, and of one N(R)
abbrev pub Accepts : Type 0
Accepts = (g : Reading) (f : IFrame) (r : Receiver) → r.next ≡ Some f.send → r.held ≡ [] → IsAccepted g f (informed g f r)

abbrev pub LeavesOut : Type 0
LeavesOut = (g : Reading) (f : IFrame) (r : Receiver) (n : ℕ) → r.next ≡ Some n → r.held ≡ [] → (f.send == n) ≡ false
    → is_repeated_number g.modulus n f.send r ≡ true → is_repeated r.set_up f r.recent ≡ true → IsRepeated r (informed g f r)

abbrev pub ShowsNothing : Type 0
ShowsNothing = (g : Reading) (proves : Bool) (receive n : ℕ) (r : Receiver) → r.next ≡ Some n → is_inside g.modulus receive n r ≡ true
    → IsInside receive r (acknowledged g proves receive r)

both_empty : (xs ys : List Shown) → xs ≡ [] → ys ≡ [] → xs ++ ys ≡ []
both_empty xs ys h k = ap (λ z. z ++ ys) h ∙ k

pub whole : Accepts → LeavesOut → ShowsNothing → (ss : List Seen) (r : Receiver) (n : ℕ) → r.next ≡ Some n → r.held ≡ [] → AreWhole ss r
    → (all_shown ss r ≡ []) × AreNumbered n (all_frames ss r)
whole a l s [] r n h k w = (refl, tt)
whole a l s (Sent g f ∷ ss) r n h k w = elim w.0 [
  | inl e ↦
      let x = a g f r e k in
      let rest = whole a l s ss (informed g f r).after (after g.modulus f.send 1) x.next x.held w.1 in
      let P : Fate → Type 0 = λ t. AreNumbered n (frames_if t g f ++ all_frames ss (informed g f r).after) in
      (both_empty (informed g f r).shown (all_shown ss (informed g f r).after) x.shown rest.0, subst P (sym x.fate) (ap (λ o. unwrap_or o n) (sym e ∙ h), rest.1))
  | inr e ↦
      let x = l g f r e.next e.known k e.other e.number e.packet in
      let rest = whole a l s ss (informed g f r).after n (x.next ∙ h) x.held w.1 in
      let P : Fate → Type 0 = λ t. AreNumbered n (frames_if t g f ++ all_frames ss (informed g f r).after) in
      (both_empty (informed g f r).shown (all_shown ss (informed g f r).after) x.shown rest.0, subst P (sym x.fate) rest.1)
]
whole a l s (Received g proves receive ∷ ss) r n h k w =
    let x = s g proves receive w.0.next r w.0.known w.0.inside in
    let rest = whole a l s ss (acknowledged g proves receive r).after n (ap (λ r. r.next) x.after ∙ h) (ap (λ r. r.held) x.after ∙ k) w.1 in
    (both_empty (acknowledged g proves receive r).shown (all_shown ss (acknowledged g proves receive r).after) x.shown rest.0, rest.1)
