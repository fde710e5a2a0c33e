-- Of what was given no more is not cut than may be in flight.
use Rattle.std.proofs.Common.{◌≡◌, ◌∙◌, sym, ap, subst, refl, ℕ, ◌≤◌, List, [], ◌++◌, length, take, drop, Option, Some, None, arith}
use Rattle.std.proofs.Math.Seq.{take-append_seam}
use Rattle.std.proofs.lemmas.List.{length-drop, take-append-drop, take-append-le}
use Rattle.line_model.proofs.TextLemmas.{early-nothing}
use Rattle.line_model.specs.text.Text.{early}
use Rattle.shared_work.specs.queue.Passes.{PassView, QueueId}
use Rattle.trace_text.specs.Decided.{NoneDecidedButLast}
use Rattle.trace_text.specs.FedBytes.{fed_length}
use Rattle.trace_reading.specs.Readings.{IsFedTextOf, lag_of}
use Rattle.trace_reading.specs.declared.text_cutter.TextCutter.{TextCutter}

-- the first bytes of a trace text, where another text begins it
first_bytes : (whole text rest taken more : List ℕ) → whole ≡ text ++ rest → whole ≡ taken ++ more → length taken ≤ length text → take (length taken) text ≡ taken
first_bytes whole text rest taken more t k few = sym (take-append-le (length taken) text rest few) ∙ ap (take (length taken)) (sym t ∙ k) ∙ take-append_seam taken more

-- so no line of it is known to be faulty, except for those of the bytes in flight
pub cut_sound : {A : Type 0} (known : Option (List ℕ)) (queue : QueueId) (start pass : PassView) (text : List ℕ) (sent : ℕ) (room : List ℕ) (c : TextCutter A) → IsFedTextOf known queue start pass text sent room c → NoneDecidedButLast (lag_of known) text
cut_sound None queue start pass text sent room c fed = record { before = []; last = text; whole = refl; few = fed.few; sound = early-nothing }
cut_sound (Some whole) queue start pass text sent room c fed =
    let taken = fed.held.cut.taken in
    let reads = fed.held.cut.cut.taken.reads in
    let size = fed_length c.lines taken reads in
    record {
      before = take (length taken) text;
      last = drop (length taken) text;
      whole = sym (take-append-drop (length taken) text);
      few = omega (arith, length-drop (length taken) text, fed.near, size);
      sound = subst (λ xs. early xs ≡ None) (sym (first_bytes whole text fed.begins.0 taken fed.held.cut.begins.0 fed.begins.1 fed.held.cut.begins.1 (omega (arith, size, fed.size, fed.held.cut.within)))) reads.sound;
    }
