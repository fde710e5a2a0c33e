-- Texts that a sink accepts in parts.
use Rattle.std.proofs.Common.{◌≡◌, ℕ, true, false, ◌<◌, ◌≤◌, List, [], ◌++◌, sym, ap, ◌∙◌, subst, arith, Option, append_assoc}
use Rattle.std.proofs.lemmas.List.{append-nil}
use Rattle.line_model.specs.basics.Device.{with_more}
use Rattle.line_model.specs.basics.Written.{Puts, Writes}
use Rattle.line_model.specs.declared.write_buffer.WriteBuffer.{WriteBuffer}
use Rattle.line_model.proofs.DeviceLemmas.{with_more-append}

-- what is held is sent, all of it or a first part, and nothing is held then
pub flushed : (before taken after : Option (List ℕ) × ℕ) (c d : WriteBuffer) (text front rest : List ℕ) → Writes before taken c text → c.failed ≡ false → c.bytes.items ≡ front ++ rest → after.0 ≡ with_more taken.0 front
    → (d.failed ≡ false → rest ≡ []) → d.bytes.items ≡ [] → taken.1 ≤ after.1 → (d.failed ≡ true → taken.1 < after.1) → Writes before after d text
flushed before taken after c d text front rest w fine split sent all empty rising cause = record {
  sent = w.sent ++ front;
  left = rest;
  took = sent ∙ ap (λ o. with_more o front) w.took ∙ with_more-append before.0 w.sent front;
  whole = append_assoc w.sent front rest ∙ ap (λ l. w.sent ++ l) (sym split ∙ sym (w.held fine)) ∙ w.whole;
  held = λ e. all e ∙ sym empty;
  rising = omega (arith, w.rising, rising);
  cause = λ e. omega (arith, w.rising, cause e);
}

pub passed : (before taken after : Option (List ℕ) × ℕ) (c d : WriteBuffer) (text more front rest : List ℕ) → Writes before taken c text → c.failed ≡ false → c.bytes.items ≡ [] → more ≡ front ++ rest → after.0 ≡ with_more taken.0 front
    → (d.failed ≡ false → rest ≡ d.bytes.items) → taken.1 ≤ after.1 → (d.failed ≡ true → taken.1 < after.1) → Writes before after d (text ++ more)
passed before taken after c d text more front rest w fine empty split sent held rising cause =
    let all : w.sent ≡ text = sym (append-nil w.sent) ∙ ap (λ l. w.sent ++ l) (sym (w.held fine ∙ empty)) ∙ w.whole in
    record {
      sent = w.sent ++ front;
      left = rest;
      took = sent ∙ ap (λ o. with_more o front) w.took ∙ with_more-append before.0 w.sent front;
      whole = append_assoc w.sent front rest ∙ ap (λ l. w.sent ++ l) (sym split) ∙ ap (λ l. l ++ more) all;
      held = held;
      rising = omega (arith, w.rising, rising);
      cause = λ e. omega (arith, w.rising, cause e);
    }

-- nothing is held any more
pub finished : (before taken : Option (List ℕ) × ℕ) (c : WriteBuffer) (text : List ℕ) → Writes before taken c text → c.failed ≡ false → c.bytes.items ≡ [] → taken.0 ≡ with_more before.0 text
finished before taken c text w fine empty =
    w.took ∙ ap (λ l. with_more before.0 l) (sym (append-nil w.sent) ∙ ap (λ l. w.sent ++ l) (sym (w.held fine ∙ empty)) ∙ w.whole)

-- bytes that are put after others
pub put_both : (w0 w1 w2 : Option (List ℕ) × ℕ) (c0 c1 c2 : WriteBuffer) (p q : List ℕ) → Puts w0 w1 c0 c1 p → Puts w1 w2 c1 c2 q → Puts w0 w2 c0 c2 (p ++ q)
put_both w0 w1 w2 c0 c1 c2 p q f g = λ start text w. subst (λ t. Writes start w2 c2 t) (append_assoc text p q) (g start (text ++ p) (f start text w))

pub put_same : (w0 w1 : Option (List ℕ) × ℕ) (c0 c1 : WriteBuffer) (p q : List ℕ) → Puts w0 w1 c0 c1 p → p ≡ q → Puts w0 w1 c0 c1 q
put_same w0 w1 c0 c1 p q f e = subst (λ r. Puts w0 w1 c0 c1 r) e f
