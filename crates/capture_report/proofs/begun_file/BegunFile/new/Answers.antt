-- What the chain gives is what the file showed.
use Rattle.std.proofs.Common.{◌∙◌, ap, drop, Some}
use Rattle.std.specs.Fmt.{option_append}
use Rattle.capture_report.specs.Recordings.{begins_as_capture}
use Rattle.capture_report.proofs.RecordingLemmas.{opened}
use Rattle.capture_report.proofs.begun_file.BegunFile.new.Goals as goal

pub returns : goal.returns
returns g c =
    let again = ap (λ v. Some (drop c.new.result.pos v.items)) c.new.ensures.inner ∙ ap (λ n. Some (drop n c.in_ok-front.front.items)) c.new.ensures.position in
    opened g.F.Read.remaining c.args.file c.read_front.new.file c.in_ok-front.front.items _ c.of-first.ensures c.in_ok-front.ensures.consumed c.in_ok-front.ensures.whole
    (c.chain.ensures.bytes ∙ ap (λ k. option_append k (g.F.Read.remaining c.read_front.new.file)) again)
    (c.begins_as_capture.ensures ∙ ap begins_as_capture c.deref.ensures.value)
