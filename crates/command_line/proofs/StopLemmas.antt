-- What ended a run whose status is 3.
use Rattle.std.proofs.Common.{◌≡◌, ◌≢◌, ◌∙◌, ◌⊎◌, inl, inr, sym, ℕ, Bool, true, false, List, Option, Result, Ok, Err, refl, subst, arith, cond, ◌==◌}
use Rattle.std.specs.Prelude.{IfErr}
use Rattle.std.specs.declared.io.Error.{Error}
use Rattle.line_model.specs.declared.device.Sink.{Ghosts as Sink}
use Rattle.line_model.specs.declared.device.Source.{Ghosts as Source}
use Rattle.line_model.specs.declared.fault.Fault.{Fault}
use Rattle.line_model.specs.declared.fault.Fault.TheVariants.{Memory, Trace, Read, Write, Start}
use Rattle.live_report.specs.Reports.{IsScanFault}
use Rattle.annotated_trace.specs.Printing.{IsPrintingFault}
use Rattle.trace_scan.specs.Threaded.{IsWorkedFault}
use Rattle.command_line.specs.Faults.{IsFaultSaid, IsSaid, fault_line, is_by_options, open_status}
use Rattle.command_line.specs.Program.{fault_status}
use Rattle.command_line.specs.Stopped.{HaltsRun, IsCause, IsHalted}
use Rattle.command_line.proofs.StatusLemmas.{small}

-- the line of another fault than a failed write is printed
pub said_of : (f : Fault) (before after : Option (List ℕ)) (well : Type 0) → f ≢ Write → IsSaid (fault_line f) before after well → IsFaultSaid f before after well
said_of Write before after well other said = absurd (other refl)
said_of _ before after well other said = said

-- the cause of a scan's fault
pub scan_cause : {T : Type 0} (read_failed write_failed unstarted : Type 0) (r : Result T Fault) → IfErr r IsScanFault → (r ≡ Err Read → read_failed) → (r ≡ Err Write → write_failed) → IfErr r (IsCause read_failed write_failed unstarted)
scan_cause a b d (Ok t) kinds read write = tt
scan_cause a b d (Err Memory) kinds read write = tt
scan_cause a b d (Err (Trace line kind)) kinds read write = tt
scan_cause a b d (Err Read) kinds read write = read refl
scan_cause a b d (Err Write) kinds read write = write refl
scan_cause a b d (Err _) kinds read write = absurd kinds

-- a printer meets the faults of a scan
pub printing_scan : {T : Type 0} (r : Result T Fault) → IfErr r IsPrintingFault → IfErr r IsScanFault
printing_scan (Ok t) kinds = tt
printing_scan (Err Memory) kinds = tt
printing_scan (Err (Trace line kind)) kinds = tt
printing_scan (Err Read) kinds = tt
printing_scan (Err Write) kinds = tt
printing_scan (Err _) kinds = absurd kinds

-- the cause of a fault of a scan that has workers
pub worked_cause : (read_failed write_failed unstarted : Type 0) (f : Fault) → IsWorkedFault f → (f ≡ Read → read_failed) → (f ≡ Write → write_failed) → (f ≡ Start → unstarted) → IsCause read_failed write_failed unstarted f
worked_cause a b d Memory kinds read write start = tt
worked_cause a b d (Trace line kind) kinds read write start = tt
worked_cause a b d Read kinds read write start = read refl
worked_cause a b d Write kinds read write start = write refl
worked_cause a b d Start kinds read write start = start refl
worked_cause a b d _ kinds read write start = absurd kinds

-- the cause of a write that failed
pub write_cause : (a b d : Type 0) (f : Fault) → f ≡ Write → b → IsCause a b d f
write_cause a b d f is failed = subst (λ (x : Fault). IsCause a b d x) (sym is) failed

-- what shows a fault, where each of these shows another
pub more_cause : (a b d a′ b′ d′ : Type 0) (f : Fault) → (a → a′) → (b → b′) → (d → d′) → IsCause a b d f → IsCause a′ b′ d′ f
more_cause a b d a′ b′ d′ Memory x y z cause = tt
more_cause a b d a′ b′ d′ (Trace line kind) x y z cause = tt
more_cause a b d a′ b′ d′ Read x y z cause = x cause
more_cause a b d a′ b′ d′ Write x y z cause = y cause
more_cause a b d a′ b′ d′ Start x y z cause = z cause
more_cause a b d a′ b′ d′ _ x y z cause = absurd cause

pub halts_more : {a b d a′ b′ d′ : Type 0} {before after : Option (List ℕ)} {well : Type 0} → (a → a′) → (b → b′) → (d → d′) → IsHalted a b d before after well → IsHalted a′ b′ d′ before after well
halts_more {a = a} {b = b} {d = d} {a′ = a′} {b′ = b′} {d′ = d′} x y z h = record { fault = h.fault; other = h.other; cause = more_cause a b d a′ b′ d′ h.fault x y z h.cause; said = h.said }

-- a run that was refused, and whose status is that of the fault
pub halted : {a b d : Type 0} {before after : Option (List ℕ)} {well : Type 0} (f : Fault) (status : ℕ) → status ≡ fault_status f → IsCause a b d f → IsFaultSaid f before after well → status ≡ 3 → IsHalted a b d before after well
halted f status s cause said three = record { fault = f; other = sym s ∙ three; cause = cause; said = said }

-- a run with a report does not have that status
pub unhalted : (findings status : ℕ) (A : Type 0) → status ≡ cond {A = ℕ} (findings == 0) 0 1 → status ≡ 3 → A
unhalted findings status A s three = let few = small findings status s in absurd (omega (arith, few, three))

-- a run after the trace was opened
pub opened_halt : {S K E : Type 0} (read : Source S) (write : Sink K) (print : Sink E) (workers : Bool) (source opened source′ : S) (sink sink′ : K) (errors silent errors′ : E) → read.failures opened ≡ read.failures source → read.calls opened ≡ read.calls source → silent ≡ errors
    → HaltsRun read write print workers opened source′ sink sink′ silent errors′ → HaltsRun read write print workers source source′ sink sink′ errors errors′
opened_halt read write print workers source opened source′ sink sink′ errors silent errors′ failures calls same halt =
    halts_more (λ failed. omega (arith, failed, failures)) (λ failed. failed) (λ none. (none.0, none.1 ∙ calls)) (subst (λ e. HaltsRun read write print workers opened source′ sink sink′ e errors′) same halt)

-- the status where a trace could not be opened
pub open_statuses : (has_options : Bool) (reason : Option Error) (status : ℕ) → status ≡ open_status has_options reason → (status ≡ 3) ⊎ ((has_options ≡ true) × (status ≡ 64))
open_statuses false reason status is = inl is
open_statuses true reason status is = at (is_by_options reason) is
  where
    at : (b : Bool) → status ≡ cond {A = ℕ} b 64 3 → (status ≡ 3) ⊎ ((true ≡ true) × (status ≡ 64))
    at true is = inr (refl, is)
    at false is = inl is
