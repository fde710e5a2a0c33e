use Rattle.std.proofs.Common.{◌∷◌, ◌++◌, ◌∙◌, [], List, ℕ, subst, ap, codes, decimal}
use Rattle.line_model.specs.observer.Report.{line, call_line, direction_word, address_word, number_word}
use Rattle.line_model.specs.basics.Written.{Writes}
use Rattle.report_merge.proofs.WrittenLemmas.{line_after}
use Rattle.report_merge.proofs.lines.put_call.Goals as goal

pub returns : goal.returns
returns g c = λ before text w.
    let x = c.call.inside in
    let words = λ (epoch channel opened : ℕ) (direction how : List ℕ).
    codes "C" ∷ decimal c.args.number ∷ decimal epoch ∷ decimal channel ∷ direction ∷ address_word x.called ∷ address_word x.calling ∷ decimal opened
    ∷ number_word x.up ∷ number_word x.ended ∷ how ∷ decimal x.data_t ∷ decimal x.oct_t ∷ decimal x.data_n ∷ decimal x.oct_n ∷ [] in
    let last : List ℕ = decimal x.segments in
    let d = c.direction_word.result.now in
    let h = c.how_word.result.now in
    let e = line_after text (words c.from.result c.from-2.result c.from-3.result d h) last
    ∙ ap (λ n. text ++ line (words n c.from-2.result c.from-3.result d h ++ last ∷ [])) c.from.ensures
    ∙ ap (λ n. text ++ line (words x.epoch n c.from-3.result d h ++ last ∷ [])) c.from-2.ensures
    ∙ ap (λ n. text ++ line (words x.epoch x.channel n d h ++ last ∷ [])) c.from-3.ensures
    ∙ ap (λ v. text ++ line (words x.epoch x.channel x.opened v h ++ last ∷ [])) c.direction_word.ensures
    ∙ ap (λ v. text ++ line (words x.epoch x.channel x.opened (direction_word x.out) v ++ last ∷ [])) c.how_word.ensures
    ∙ ap (λ r. text ++ call_line (c.args.number, r)) c.call.view_is in
    subst (λ l. Writes before (g.W.Sink.taken c.put_last_number.new.sink, g.W.Sink.failures c.put_last_number.new.sink) c.put_last_number.new.out l) e
    (c.put_last_number.ensures before _ (c.put_number-8.ensures before _ (c.put_number-7.ensures before _ (c.put_number-6.ensures before _ (c.put_number-5.ensures before _ (c.put_word-3.ensures before _ (c.put_maybe-2.ensures before _ (c.put_maybe.ensures before _ (c.put_number-4.ensures before _ (c.put_address-2.ensures before _ (c.put_address.ensures before _ (c.put_word-2.ensures before _ (c.put_number-3.ensures before _ (c.put_number-2.ensures before _ (c.put_number.ensures before _ (c.put_word.ensures before _ w))))))))))))))))
