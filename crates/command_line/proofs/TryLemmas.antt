-- The exit status where headers are tried.
use Rattle.std.proofs.Common.{◌≡◌, ◌≢◌, ◌∙◌, sym, refl, inl, inr, ◌⊎◌, ℕ, zero, suc, List, Option, arith, cond, ◌==◌}
use Rattle.line_model.specs.declared.fault.Fault.{Fault}
use Rattle.line_model.specs.declared.fault.Fault.TheVariants.{Trace, Write}
use Rattle.trace_text.specs.Sources.{IsRefusedBy}
use Rattle.trace_text.specs.Refusals.{IsRefusal}
use Rattle.header_trials.specs.TriedLines.{HasTried, HasTriedPart}
use Rattle.command_line.specs.Program.{fault_status}
use Rattle.command_line.specs.Trying.{IsTryStatus}
use Rattle.command_line.proofs.StatusLemmas.{some_status}

pub tried_status : (text : List ℕ) (left asked before after : Option (List ℕ)) (well : Type 0) (findings status : ℕ) → HasTried text before after findings → status ≡ cond {A = ℕ} (findings == 0) 0 1 → IsTryStatus text left asked before after well status
tried_status text left asked before after well zero status h s = record {
  clean = λ e. h;
  found = λ e. absurd (omega (arith, s, e));
  faulty = λ e. absurd (omega (arith, s, e));
  other = λ e. absurd (omega (arith, s, e));
  range = omega (arith, s);
}
tried_status text left asked before after well (suc m) status h s =
    let is : status ≡ 1 = s ∙ some_status m in
    record {
      clean = λ e. absurd (omega (arith, is, e));
      found = λ e. record { findings = suc m; some = omega arith; tried = h };
      faulty = λ e. absurd (omega (arith, is, e));
      other = λ e. absurd (omega (arith, is, e));
      range = omega (arith, is);
    }

other_status : (text : List ℕ) (left asked before after : Option (List ℕ)) (well : Type 0) (f : Fault) (status : ℕ) → status ≡ 3 → status ≡ fault_status f → IsRefusedBy 0 (IsRefusal 0) text left asked f → ((after ≡ before) ⊎ ((¬ well) × HasTriedPart text before after))
    → IsTryStatus text left asked before after well status
other_status text left asked before after well f status is s r taken = record {
  clean = λ e. absurd (omega (arith, e, is));
  found = λ e. absurd (omega (arith, e, is));
  faulty = λ e. absurd (omega (arith, e, is));
  other = λ e. record { cause = f; other = sym s ∙ is; refusal = r; taken = taken };
  range = omega (arith, is);
}

pub refused_try : (text : List ℕ) (left asked before after : Option (List ℕ)) (well : Type 0) (f : Fault) (status : ℕ) → IsRefusedBy 0 (IsRefusal 0) text left asked f → (f ≢ Write → after ≡ before) → (f ≡ Write → HasTriedPart text before after) → (f ≡ Write → ¬ well)
    → status ≡ fault_status f → IsTryStatus text left asked before after well status
refused_try text left asked before after well (Trace line kind) status r same part failed s = record {
  clean = λ e. absurd (omega (arith, e, s));
  found = λ e. absurd (omega (arith, e, s));
  faulty = λ e. (record { line = line; kind = kind; refusal = r }, same (λ h. absurd cc));
  other = λ e. absurd (omega (arith, e, s));
  range = omega (arith, s);
}
refused_try text left asked before after well Write status r same part failed s = other_status text left asked before after well Write status s s r (inr (failed refl, part refl))
refused_try text left asked before after well _ status r same part failed s = other_status text left asked before after well _ status s s r (inl (same (λ h. absurd cc)))
