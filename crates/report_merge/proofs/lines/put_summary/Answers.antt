use Rattle.std.proofs.Common.{◌∷◌, [], List, ℕ, subst, codes, decimal}
use Rattle.line_model.specs.basics.Written.{Writes}
use Rattle.report_merge.proofs.WrittenLemmas.{line_after}
use Rattle.report_merge.proofs.lines.put_summary.Goals as goal

pub returns : goal.returns
returns g c = λ before text w.
    let x = c.args.summary.now in
    let words : List (List ℕ) = codes "Z" ∷ decimal x.packets ∷ decimal x.findings ∷ decimal x.calls ∷ decimal x.octets ∷ [] in
    subst (λ l. Writes before (g.W.Sink.taken c.put_last_number.new.sink, g.W.Sink.failures c.put_last_number.new.sink) c.put_last_number.new.out l) (line_after text words (decimal x.segments))
    (c.put_last_number.ensures before _ (c.put_number-4.ensures before _ (c.put_number-3.ensures before _ (c.put_number-2.ensures before _ (c.put_number.ensures before _ (c.put_word.ensures before _ w))))))
