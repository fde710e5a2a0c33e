use Rattle.std.proofs.Common.{◌≡◌, ◌∙◌, refl, ap, subst, inr, true, [], ◌∷◌, ◌++◌, ℕ, List, Option, arith, length, length-append}
use Rattle.std.proofs.lemmas.Result.{err_from_is_err_and}
use Rattle.std.specs.Borrow.{Bor}
use Rattle.line_model.specs.text.Text.{early, early_head}
use Rattle.line_model.specs.declared.fault.Fault.TheVariants.{Memory}
use Rattle.line_model.specs.basics.Records.{Row}
use Rattle.trace_text.specs.Reads.{kept_row, whole_row}
use Rattle.trace_text.specs.Represents.{IsFaultOf, ReadsChunk, TakesRow}
use Rattle.trace_text.proofs.ChunkLemmas.{all-fed, fed-head, fed-more, fed-no-memory, fed-none, fed-refused, whole_chunk}
use Rattle.trace_text.proofs.RefusalLemmas.{head_stopped}
use Rattle.trace_text.proofs.lines.Lines.feed_rows.Goals as goal

pub returns-in_err-row-clause-appended : goal.returns-in_err-row-clause-appended
returns-in_err-row-clause-appended g c text s =
    let exit = err_from_is_err_and c.from_residual.result c.from_residual.ensures.1 in
    rw (exit.1, exit.2)
    (fed-no-memory (Unit {0}) c.args.self.now c.loop-row.self c.args.out.now.items c.loop-row.out.items c.args.chunk.now c.loop-row.rest.now c.loop-row.invariant text s)

pub returns-in_err-row-clause-header : goal.returns-in_err-row-clause-header
returns-in_err-row-clause-header g c text s =
    let f = c.loop-row.invariant in
    let exit = err_from_is_err_and c.from_residual.result c.from_residual.ensures.1 in
    rw (exit.1, exit.2)
    (fed-head (Unit {0}) (Unit {0}) c.args.self.now c.loop-row.self c.args.out.now.items c.loop-row.out.items c.args.chunk.now c.loop-row.rest.now Memory c.loop-row.self.interface f text s
    (head_stopped (Unit {0}) c.loop-row.self (text ++ f.fed) c.loop-row.rest.now Memory c.loop-row.self.interface (f.represented text s) tt tt refl))

pub returns-in_err-push-clause-appended : goal.returns-in_err-push-clause-appended
returns-in_err-push-clause-appended g c text s =
    let exit = err_from_is_err_and c.from_residual-in_err-push.result c.from_residual-in_err-push.ensures.1 in
    rw (exit.1, exit.2)
    (rw c.in_err-push.ensures.items
    (fed-no-memory (Unit {0}) c.args.self.now c.loop-row.self c.args.out.now.items c.loop-row.out.items c.args.chunk.now c.loop-row.rest.now c.loop-row.invariant text s))

pub loop-row-preserved : goal.loop-row-preserved
loop-row-preserved g c =
    let taken : (r : Row) × TakesRow c.loop-row.self c.find_row.new.self c.loop-row.rest.now c.in-Some.after.now r × (c.find_row.new.row ≡ kept_row true r) = rw c.in-Some.is at c.in_ok-after.ensures.ok in
    let row = c.whole_row.ensures ∙ ap whole_row taken.2 in
    fed-more c.args.self.now c.loop-row.self c.find_row.new.self c.args.out.now.items c.loop-row.out.items c.push.new.self.items taken.0 c.args.chunk.now c.loop-row.rest.now c.in-Some.after.now
    c.loop-row.invariant taken.1 (rw c.in-Some.is at c.in_ok-after.ensures.size) (c.in_ok-push.ensures.items ∙ ap (λ r. c.loop-row.out.items ++ r ∷ []) row)

pub loop-row-init : goal.loop-row-init
loop-row-init g c = fed-none c.args.self.now c.args.out.now.items c.args.chunk.now

pub loop-row-smaller : goal.loop-row-smaller
loop-row-smaller g c = rw c.in-Some.is at c.in_ok-after.ensures.shorter

pub returns-in_err-push-clause-header : goal.returns-in_err-push-clause-header
returns-in_err-push-clause-header g c text s =
    let f = c.loop-row.invariant in
    let exit = err_from_is_err_and c.from_residual-in_err-push.result c.from_residual-in_err-push.ensures.1 in
    rw (exit.1, exit.2)
    (inr (c.in_ok-after.ensures.header (text ++ f.fed) (f.represented text s) ∙ ap early_head (whole_chunk text f.fed c.loop-row.rest.now c.args.chunk.now f.whole)))

pub returns-in_default-clause-ok : goal.returns-in_default-clause-ok
returns-in_default-clause-ok g c text s =
    let f = c.loop-row.invariant in
    let read : ReadsChunk c.loop-row.self c.find_row.new.self c.loop-row.rest.now = rw c.in_default.is at c.in_ok-after.ensures.ok in
    rw (whole_chunk text f.fed c.loop-row.rest.now c.args.chunk.now f.whole) at (read.represented (text ++ f.fed) (f.represented text s))

pub returns-in_default-clause-appended : goal.returns-in_default-clause-appended
returns-in_default-clause-appended g c text s =
    let read : ReadsChunk c.loop-row.self c.find_row.new.self c.loop-row.rest.now = rw c.in_default.is at c.in_ok-after.ensures.ok in
    all-fed c.args.self.now c.loop-row.self c.find_row.new.self c.args.out.now.items c.loop-row.out.items c.args.chunk.now c.loop-row.rest.now c.loop-row.invariant read text s

pub returns-in_default-clause-header : goal.returns-in_default-clause-header
returns-in_default-clause-header g c text s =
    let f = c.loop-row.invariant in
    c.in_ok-after.ensures.header (text ++ f.fed) (f.represented text s) ∙ ap early_head (whole_chunk text f.fed c.loop-row.rest.now c.args.chunk.now f.whole)

pub returns-in_default-clause-size : goal.returns-in_default-clause-size
returns-in_default-clause-size g c =
    let f = c.loop-row.invariant in
    let size = rw c.in_default.is at c.in_ok-after.ensures.size in
    omega (arith, f.size, size, ap (λ (xs : List ℕ). length xs) f.whole, length-append f.fed c.loop-row.rest.now)

pub returns-in_err-after-clause-refused : goal.returns-in_err-after-clause-refused
returns-in_err-after-clause-refused g c text s =
    let f = c.loop-row.invariant in
    let exit = err_from_is_err_and c.from_residual-in_err-after.result c.from_residual-in_err-after.ensures.1 in
    rw (exit.1, exit.2)
    (subst (λ (xs : List ℕ). IsFaultOf (early xs) c.in_err-after.field-0.0) (whole_chunk text f.fed c.loop-row.rest.now c.args.chunk.now f.whole)
    (c.in_err-after.ensures.refused (text ++ f.fed) (f.represented text s)))

pub returns-in_err-after-clause-appended : goal.returns-in_err-after-clause-appended
returns-in_err-after-clause-appended g c text s =
    let f = c.loop-row.invariant in
    let exit = err_from_is_err_and c.from_residual-in_err-after.result c.from_residual-in_err-after.ensures.1 in
    rw (exit.1, exit.2)
    (fed-refused (Unit {0}) c.args.self.now c.loop-row.self c.args.out.now.items c.loop-row.out.items c.args.chunk.now c.loop-row.rest.now c.in_err-after.field-0.0 f text s (c.in_err-after.ensures.known (text ++ f.fed) (f.represented text s)))

pub returns-in_err-after-clause-header : goal.returns-in_err-after-clause-header
returns-in_err-after-clause-header g c text s =
    let f = c.loop-row.invariant in
    let exit = err_from_is_err_and c.from_residual-in_err-after.result c.from_residual-in_err-after.ensures.1 in
    rw (exit.1, exit.2)
    (fed-head (Unit {0}) (Option (Bor (List ℕ))) c.args.self.now c.loop-row.self c.args.out.now.items c.loop-row.out.items c.args.chunk.now c.loop-row.rest.now c.in_err-after.field-0.0 c.find_row.new.self.interface f text s (c.in_err-after.ensures.header (text ++ f.fed) (f.represented text s)))

pub returns-in_err-after-clause-kinds : goal.returns-in_err-after-clause-kinds
returns-in_err-after-clause-kinds g c =
    let exit = err_from_is_err_and c.from_residual-in_err-after.result c.from_residual-in_err-after.ensures.1 in
    rw (exit.1, exit.2) c.in_err-after.ensures.kinds
