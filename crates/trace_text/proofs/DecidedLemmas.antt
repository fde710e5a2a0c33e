-- Which bytes decide no faulty line, except for a few last ones.
use Rattle.std.proofs.Common.{◌≡◌, ◌∙◌, refl, sym, ap, subst, ℕ, ◌+◌, ◌≤◌, ◌^◌, List, [], ◌∷◌, ◌++◌, length, None, append-nil, append_assoc, length-append, arith}
use Rattle.line_model.specs.text.Text.{early}
use Rattle.trace_text.specs.Decided.{NoneDecidedButLast}

pub decided_before : (lag : ℕ) (before last : List ℕ) → NoneDecidedButLast lag before → length last ≤ 2 ^ 16 → NoneDecidedButLast (lag + 2 ^ 16) (before ++ last)
decided_before lag before last s few = record {
  before = s.before;
  last = s.last ++ last;
  whole = ap (λ xs. xs ++ last) s.whole ∙ append_assoc s.before s.last last;
  few = omega (arith, length-append s.last last, s.few, few);
  sound = s.sound;
}

-- all of them decide none
pub all_sound : (most : ℕ) (given : List ℕ) → early given ≡ None → NoneDecidedButLast most given
all_sound most given sound = record { before = given; last = []; whole = sym (append-nil given); few = omega arith; sound = sound }

pub none_sound : (given : List ℕ) → NoneDecidedButLast 0 given → early given ≡ None
none_sound given s = subst (λ (xs : List ℕ). early xs ≡ None) (sym (s.whole ∙ ap (λ xs. s.before ++ xs) (none s.last s.few) ∙ append-nil s.before)) s.sound
  where
    none : (xs : List ℕ) → length xs ≤ 0 → xs ≡ []
    none [] h = refl
    none (x ∷ xs) h = absurd (omega (arith, h))
