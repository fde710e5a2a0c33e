-- A text that is copied part by part.
use Rattle.std.proofs.Common.{◌≡◌, ◌≢◌, ◌∙◌, sym, ap, refl, ℕ, ◌+◌, ◌-◌, ◌<◌, ◌≤◌, List, [], ◌++◌, Option, Some, Ok, Err, arith, append_assoc, length, length-append}
use Rattle.line_model.specs.basics.Device.{Gives, with_more}
use Rattle.line_model.specs.basics.Written.{HasFront}
use Rattle.line_model.specs.declared.fault.Fault.{Fault}
use Rattle.line_model.specs.declared.fault.Fault.TheVariants.{Trace}
use Rattle.line_model.proofs.DeviceLemmas.{with_more-append, with_more-nil}
use Rattle.command_line.specs.Copies.{IsCopied, IsCopyStatus}
use Rattle.command_line.specs.Program.{fault_status}

-- a source that had `left` has `now`, a sink accepted what it gave, and so much room is left
pub record Copied (left now before taken : Option (List ℕ)) (room : ℕ) : Type 0 where
  pub shown : (text : List ℕ) → left ≡ Some text → (front : List ℕ) × (rest : List ℕ) × (text ≡ front ++ rest) × (now ≡ Some rest) × (taken ≡ with_more before front) × (length front + room ≡ 1073741824)

pub copied_none : (left before : Option (List ℕ)) → Copied left left before before 1073741824
copied_none left before = record { shown = λ text e. ([], text, refl, e, sym (with_more-nil before), refl) }

pub copied_more : (left now after before taken taken′ : Option (List ℕ)) (room : ℕ) (bytes : List ℕ) → Copied left now before taken room → Gives now after bytes → length bytes ≤ room → taken′ ≡ with_more taken bytes → Copied left after before taken′ (room - length bytes)
copied_more left now after before taken taken′ room bytes c gives few more = record {
  shown = λ text e.
      let s = c.shown text e in
      let g = gives.shown s.1 s.3 in (
        s.0 ++ bytes,
        g.0,
        s.2 ∙ ap (λ xs. s.0 ++ xs) g.2 ∙ sym (append_assoc s.0 bytes g.0),
        g.1,
        more ∙ ap (λ o. with_more o bytes) s.4 ∙ with_more-append before s.0 bytes,
        omega (arith, few, s.5, length-append s.0 bytes),
      );
}

-- and where the sink failed a part of what was given last
pub copied_less : {T : Type 0} (left now after before taken taken′ : Option (List ℕ)) (room : ℕ) (bytes : List ℕ) (f : Fault) → Copied left now before taken room → Gives now after bytes → HasFront taken taken′ bytes → fault_status f ≢ 2 → (text : List ℕ) → left ≡ Some text → IsCopied {T = T} text before taken′ (Err f)
copied_less left now after before taken taken′ room bytes f c gives less other text e =
    let s = c.shown text e in
    let g = gives.shown s.1 s.3 in
    let cut : s.1 ≡ less.0 ++ (less.1 ++ g.0) = g.2 ∙ ap (λ (xs : List ℕ). xs ++ g.0) less.2 ∙ append_assoc less.0 less.1 g.0 in
    record {
      whole = tt;
      part = (s.0 ++ less.0, less.1 ++ g.0, s.2 ∙ ap (λ xs. s.0 ++ xs) cut ∙ sym (append_assoc s.0 less.0 (less.1 ++ g.0)), less.3 ∙ ap (λ o. with_more o less.0) s.4 ∙ with_more-append before s.0 less.0);
      large = λ two. absurd (other two);
    }

-- ---- the status

status_of_fault : (f : Fault) → (1 < fault_status f) × (fault_status f < 4)
status_of_fault (Trace line kind) = (omega arith, omega arith)
status_of_fault _ = (omega arith, omega arith)

pub copied_status : {T : Type 0} (text : List ℕ) (before after : Option (List ℕ)) (done : T) (status : ℕ) → IsCopied text before after (Ok done) → status < 2 → IsCopyStatus text before after status
copied_status text before after done status c few = record { whole = λ e. c.whole; part = c.part; large = λ e. absurd (omega (arith, e, few)); range = omega (arith, few) }

pub refused_copy : {T : Type 0} (text : List ℕ) (before after : Option (List ℕ)) (f : Fault) (status : ℕ) → IsCopied {T = T} text before after (Err f) → status ≡ fault_status f → IsCopyStatus text before after status
refused_copy text before after f status c s =
    let known = status_of_fault f in
    record {
      whole = λ few. absurd (omega (arith, s, known.0, few));
      part = c.part;
      large = λ two. c.large (sym s ∙ two);
      range = omega (arith, s, known.1);
    }
