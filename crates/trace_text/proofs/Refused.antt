-- What a refusal says of the bytes that a source gave.
use Rattle.std.proofs.Common.{◌≡◌, sym, subst, refl, ℕ, ◌+◌, ◌≤◌, ◌^◌, List, [], ◌++◌, length, Option, Some, None, append-nil, inl, inr, ◌⊎◌}
use Rattle.line_model.specs.text.Text.{early, fault}
use Rattle.line_model.specs.declared.fault.Fault.{Fault}
use Rattle.line_model.specs.declared.fault.Fault.TheVariants.{Memory, Trace}
use Rattle.trace_text.specs.Decided.{NoneDecidedButLast}
use Rattle.trace_text.specs.Refusals.{IsRefusal}
use Rattle.trace_text.specs.Represents.{IsFaultOf}
use Rattle.trace_text.specs.Sources.{HasFailed, IsFedUpTo, IsRefusedBy}
use Rattle.trace_text.proofs.DecidedLemmas.{all_sound, decided_before, none_sound}
use Rattle.trace_text.proofs.SourceLemmas.{sound_before}

pub at_end : (lag : ℕ) (text : List ℕ) (f : Fault) → early text ≡ None → IsFaultOf (fault text) f → IsRefusal lag text [] f
at_end lag text Memory sound h = all_sound (lag + 2 ^ 16) text sound
at_end lag text (Trace line kind) sound h = (all_sound (lag + 2 ^ 16) text sound, inr (refl, h))
at_end lag text _ sound h = absurd h

pub on_the_way : (lag : ℕ) (fed last rest : List ℕ) (f : Fault) → NoneDecidedButLast lag fed → length last ≤ 2 ^ 16 → IsFaultOf (early (fed ++ last)) f → IsRefusal lag (fed ++ last) rest f
on_the_way lag fed last rest Memory sound few h = decided_before lag fed last sound few
on_the_way lag fed last rest (Trace line kind) sound few h = (decided_before lag fed last sound few, inl h)
on_the_way lag fed last rest _ sound few h = absurd h

-- ---- where reading stops

-- what the bytes say that were given
pub given_by : (lag : ℕ) (before after asked : Option (List ℕ)) (was_fed : List ℕ → Type 0) (refused : (fed last : List ℕ) → Fault → Type 0) (f g : Fault) (text : List ℕ) → (u : IsFedUpTo lag before after asked was_fed refused f) → before ≡ Some text → ((rest : List ℕ) → text ≡ (u.fed ++ u.last) ++ rest → IsRefusal lag (u.fed ++ u.last) rest g)
    → IsRefusedBy lag (IsRefusal lag) text after asked g
given_by lag before after asked was_fed refused f g text u shown refusal =
    let at = u.given text shown in
    record {
      given = u.fed ++ u.last;
      rest = at.0;
      whole = at.1;
      left = at.2;
      order = inr (sound_before lag before after asked was_fed refused f text u shown);
      refusal = refusal at.0 at.1;
    }

failed_sound : (was_fed : List ℕ → Type 0) (fed last rest : List ℕ) (f : Fault) → early fed ≡ None → HasFailed was_fed fed last f → IsRefusal 0 (fed ++ last) rest f
failed_sound was_fed fed last rest f sound why =
    subst (IsRefusal 0 (fed ++ last) rest) (sym why.failure) (subst (λ xs. early (fed ++ xs) ≡ None) (sym why.none) (subst (λ xs. early xs ≡ None) (sym (append-nil fed)) sound))

stop_refusal : (was_fed : List ℕ → Type 0) (refused : (fed last : List ℕ) → Fault → Type 0) (fed last rest : List ℕ) (f : Fault) → NoneDecidedButLast 0 fed → length last ≤ 2 ^ 16 → (refused fed last f → IsFaultOf (early (fed ++ last)) f) → HasFailed was_fed fed last f ⊎ refused fed last f → IsRefusal 0 (fed ++ last) rest f
stop_refusal was_fed refused fed last rest f sound few is (inl why) = failed_sound was_fed fed last rest f (none_sound fed sound) why
stop_refusal was_fed refused fed last rest f sound few is (inr why) = on_the_way 0 fed last rest f sound few (is why)

-- of a consumer that refuses each read before the next
pub refused_by : (before after asked : Option (List ℕ)) (was_fed : List ℕ → Type 0) (refused : (fed last : List ℕ) → Fault → Type 0) (f : Fault) (text : List ℕ) → (u : IsFedUpTo 0 before after asked was_fed refused f) → (refused u.fed u.last f → IsFaultOf (early (u.fed ++ u.last)) f) → before ≡ Some text
    → IsRefusedBy 0 (IsRefusal 0) text after asked f
refused_by before after asked was_fed refused f text u is shown = given_by 0 before after asked was_fed refused f f text u shown (λ rest whole. stop_refusal was_fed refused u.fed u.last rest f u.sound u.few is u.why)
