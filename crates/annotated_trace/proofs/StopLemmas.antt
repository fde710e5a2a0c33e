-- What the fault of a refusal says.
use Rattle.std.proofs.Common.{◌≡◌, ◌≢◌, sym, subst, ℕ, List, None, Result, Ok, Err, OnErr, IfErr}
use Rattle.line_model.specs.text.Text.{fault}
use Rattle.line_model.specs.declared.fault.Fault.{Fault}
use Rattle.line_model.specs.declared.fault.Fault.TheVariants.{Memory, Trace, Write}
use Rattle.annotated_trace.specs.Printers.{IsCloseRefusal, IsPrinterFault}
use Rattle.trace_text.specs.Represents.{IsTextFault}

-- a sink that fails refuses a text without a fault
pub write_refused : {T : Type 0} (r : Result T Fault) (x : List ℕ) → fault x ≡ None → IfErr r (λ f. f ≡ Write) → IfErr r (IsCloseRefusal x)
write_refused (Ok y) x sound h = tt
write_refused (Err f) x sound h = subst (IsCloseRefusal x) (sym h) sound

pub write_kind : {T : Type 0} (r : Result T Fault) → IfErr r (λ f. f ≡ Write) → IfErr r IsPrinterFault
write_kind (Ok y) h = tt
write_kind (Err f) h = subst IsPrinterFault (sym h) tt

-- no other fault is returned
pub no_other : {T : Type 0} (r : Result T Fault) (P : Type 0) → IfErr r (λ f. f ≡ Write) → IfErr r (λ f. f ≢ Write → P)
no_other (Ok y) P h = tt
no_other (Err f) P h = λ other. absurd (other h)

pub write_cause : {T E : Type 0} (r : Result T E) (f : E) (P : Type 0) → OnErr r P → r ≡ Err f → P
write_cause (Ok y) f P h e = absurd (let bad : Ok y ≡ Err f = e in cc)
write_cause (Err f') f P h e = h

pub text_kind : (f : Fault) → IsTextFault f → IsPrinterFault f
text_kind Memory h = tt
text_kind (Trace line kind) h = tt
text_kind _ h = absurd h

-- a text is not refused by a sink
pub no_write : {T : Type 0} (f : Fault) → IsTextFault f → ◌≡◌ {A = Result T Fault} (Err f) (Err Write) → ⊥
no_write f h e =
    let same : f ≡ Write = cc in
    subst IsTextFault same h
