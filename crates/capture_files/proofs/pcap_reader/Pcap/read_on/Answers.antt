-- A search begins where no record does. Nothing is left where the octets ahead end.
use Rattle.std.proofs.Common.{◌∙◌, ◌++◌, ap, arith, inl, inr, length, rules, sym}
use Rattle.capture_files.specs.Windows.{still}
use Rattle.capture_files.proofs.FileLemmas.{follows_filled, follows_impossible}
use Rattle.capture_files.proofs.RecordLemmas.{no_frame, none_begins}
use Rattle.capture_files.proofs.pcap_reader.Pcap.read_on.Goals as goal

pub returns-in_ok-search_on-in-Impossible-clause-step : goal.returns-in_ok-search_on-in-Impossible-clause-step
returns-in_ok-search_on-in-Impossible-clause-step g c =
    let front = c.in_ok-search_on-in-Impossible.ensures.front in
    let start = c.in-Impossible.ensures in
    no_frame c.args.self.now _ _ _ c.in_ok-search_on-in-Impossible.ensures.frame (λ _. none_begins c.args.self.now.form c.ahead.result.now front.0 _ (front.1 ∙ ap (λ xs. xs ++ front.0) (sym c.ahead.ensures)) start.0 start.1)

pub returns-in-End-clause-end : goal.returns-in-End-clause-end
returns-in-End-clause-end g c = elim c.in_ok-fill.ensures.there [ inl le ↦ absurd (omega (arith, le, c.in-End.ensures, ap length c.ahead.ensures, c.size.ensures.least)) | inr end ↦ end ]

pub returns-in_ok-search_on-in-Impossible-clause-follows : goal.returns-in_ok-search_on-in-Impossible-clause-follows
returns-in_ok-search_on-in-Impossible-clause-follows g c =
    let start = c.in-Impossible.ensures in
    follows_impossible c.args.self.now _ (g.S.Source.left c.fill.new.source) c.fill.new.self.ahead _ _ (search rules) c.fill.ensures.passes (search (rules, start.0, c.ahead.ensures)) (search (rules, start.1, c.ahead.ensures))

pub returns-in_ok-take_record-in-Record-clause-follows : goal.returns-in_ok-take_record-in-Record-clause-follows
returns-in_ok-take_record-in-Record-clause-follows g c =
    follows_filled c.args.self.now _ (still c.fill.new.self.ahead (g.S.Source.left c.fill.new.source)) _ _ c.fill.ensures.passes c.in_ok-take_record-in-Record.ensures.follows
