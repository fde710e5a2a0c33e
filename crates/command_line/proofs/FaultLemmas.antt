-- What was accepted of a text that was asked for, and of the line of a fault.
use Rattle.std.proofs.Common.{◌≡◌, ◌≢◌, ◌∙◌, ap, refl, sym, subst, ℕ, ◌<◌, List, [], ◌∷◌, Option, Some, Result, Ok, Err, OnOk, OnErr, append-nil, arith, cond, ◌==◌, inl, inr, ◌⊎◌}
use Rattle.clap.specs.Words.{HasKind, Kinds, kind_of}
use Rattle.clap.specs.declared.error.Error.{Error}
use Rattle.line_model.specs.declared.device.Sink.{Ghosts as Sink}
use Rattle.line_model.specs.declared.device.Source.{Ghosts as Source}
use Rattle.line_model.specs.basics.Device.{with_more}
use Rattle.line_model.specs.basics.Written.{HasFront}
use Rattle.line_model.specs.declared.fault.Fault.{Fault}
use Rattle.line_model.specs.declared.fault.Fault.TheVariants.{Trace}
use Rattle.command_line.specs.Faults.{IsFaultSaid, SaysFault}
use Rattle.command_line.specs.Answer.{IsAnswerTo}
use Rattle.command_line.specs.Asked.{AskedWords, has_options, unless_wrong}
use Rattle.command_line.specs.Program.{IsAskedTextTaken, IsUnread, RefusesLine, asked_text, fault_status, words_status}
use Rattle.command_line.proofs.StatusLemmas.{small}

-- all of a text was accepted, or the sink failed and accepted a first part of it
text_taken : {T E : Type 0} (r : Result T E) (text : List ℕ) (before after : Option (List ℕ)) (x y : ℕ) → OnOk r (after ≡ with_more before text) → OnErr r (HasFront before after text) → OnErr r (x < y) → IsAskedTextTaken (Some text) before after (y ≡ x)
text_taken (Ok u) text before after x y whole part failed = ((text, [], sym (append-nil text), whole), λ w. whole)
text_taken (Err e) text before after x y whole part failed = (part, λ w. absurd (omega (arith, w, failed)))

-- the same of the text that was asked for
pub asked_taken : {T E : Type 0} {asked : Option (List ℕ)} (r : Result T E) (text : List ℕ) (before after : Option (List ℕ)) (x y : ℕ) → Some text ≡ asked → OnOk r (after ≡ with_more before text) → OnErr r (HasFront before after text) → OnErr r (x < y) → IsAskedTextTaken asked before after (y ≡ x)
asked_taken r text before after x y same whole part failed = subst (λ o. IsAskedTextTaken o before after (y ≡ x)) same (text_taken r text before after x y whole part failed)

-- a scan was refused by a faulty line, which was printed
pub says_fault : (lag : ℕ) (f : Fault) (status : ℕ) (trace left asked before after : Option (List ℕ)) (well : Type 0) → status ≡ fault_status f → IsFaultSaid f before after well → ((text : List ℕ) → trace ≡ Some text → RefusesLine lag text left asked f)
    → status ≡ 2 → SaysFault lag trace left asked before after well
says_fault lag (Trace line kind) status trace left asked before after well s said refused two = record { line = line; kind = kind; said = said; refusal = λ text shows. refused text shows refl }
says_fault lag _ status trace left asked before after well s said refused two = absurd (omega (arith, s, two))

-- nothing of it where the status is that of sums
pub says_none : (findings status : ℕ) (A : Type 0) → status ≡ cond {A = ℕ} (findings == 0) 0 1 → status ≡ 2 → A
says_none findings status A s two = let few = small findings status s in absurd (omega (arith, few, two))

-- words that were refused, of which nothing was read
pub wrong_words : {S K E : Type 0} (read : Source S) (write : Sink K) (print : Sink E) (named : List ℕ → Option (List ℕ)) (kinds : Kinds) (asked : AskedWords) (source : S) (sink sink′ : K) (errors errors′ : E) (e : Error) (status : ℕ) → HasKind kinds e → status ≡ words_status (kind_of e)
    → IsAskedTextTaken (asked_text (kind_of e)) (write.taken sink) (write.taken sink′) (write.failures sink′ ≡ write.failures sink) → (words_status (kind_of e) ≢ 0 → sink′ ≡ sink)
    → IsUnread (has_options (unless_wrong kinds asked)) source source sink sink′ status ⊎ IsAnswerTo read write print named (unless_wrong kinds asked) source source sink sink′ errors errors′ status
wrong_words read write print named kinds asked source sink sink′ errors errors′ e status (inl memory) is taken unwritten =
    let three : words_status (kind_of e) ≡ 3 = ap words_status memory in
    inl (record { unasked = refl; unwritten = unwritten (λ none. omega (arith, three, none)); other = inl (is ∙ three) })
wrong_words read write print named [] asked source sink sink′ errors errors′ e status (inr among) is taken unwritten = absurd among
wrong_words read write print named (kind ∷ kinds) asked source sink sink′ errors errors′ e status (inr among) is taken unwritten = inr (refl, (kind_of e, among, is, taken))
