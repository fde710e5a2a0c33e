-- The octets of a record come first in the file, and are those of the entry.
use Rattle.std.proofs.Common.{◌≡◌, ◌∙◌, ◌++◌, ◌<◌, ◌≤◌, ap, arith, inl, inr, length, length-take-le, min, rules, take}
use Rattle.std.proofs.Math.ListN.{drop_of_length-le}
use Rattle.capture_files.proofs.FileLemmas.{follows_entry}
use Rattle.capture_files.proofs.RecordLemmas.{cut_record, whole_record}
use Rattle.capture_files.proofs.WindowLemmas.{taken}
use Rattle.capture_files.proofs.pcap_reader.Pcap.take_record.Goals as goal

pub returns-clause-passes : goal.returns-clause-passes
returns-clause-passes g c = taken _ _ c.fill.new.self.ahead _ _ _ c.fill.ensures.passes c.take.ensures.last c.take.ensures.ahead

pub returns-clause-entry : goal.returns-clause-entry
returns-clause-entry g c =
    let old = c.args.window.now.ahead in
    let new = c.fill.new.self.ahead in
    let last = c.take.new.self.last in
    let grown = c.fill.ensures.grown in
    let is_taken : last ≡ take (min c.args.size (length (old ++ grown.0))) (old ++ grown.0) = search (rules, grown.1) in
    let same : length c.last.result.now ≡ length last = ap length c.last.ensures in
    let few : c.min.result ≤ length new = omega (arith, c.min.ensures, c.len.ensures) in
    let size : length last ≡ c.min.result = ap length c.take.ensures.last ∙ length-take-le c.min.result new few in
    record {
      frame = search rules;
      whole = λ some none. whole_record c.args.self.now.form old grown.0 last c.args.size c.requires.begins c.requires.size is_taken (omega (arith, same, c.record.ensures.whole none));
      cut = λ some cut.
          let less : length last < c.args.size = omega (arith, same, c.record.ensures.cut cut) in
          let all : length new ≤ c.min.result = omega (arith, less, size, c.min.ensures, c.len.ensures) in
          (cut_record c.args.self.now.form old grown.0 last c.args.size c.requires.begins c.requires.size is_taken less, c.take.ensures.ahead ∙ drop_of_length-le new all);
      none = λ _ is_none _. cc (rw is_none at c.record.ensures.some);
    }

pub returns-clause-follows : goal.returns-clause-follows
returns-clause-follows g c =
    let last = c.take.new.self.last in
    let new = c.fill.new.self.ahead in
    let same : length c.last.result.now ≡ length last = ap length c.last.ensures in
    let few : c.min.result ≤ length new = omega (arith, c.min.ensures, c.len.ensures) in
    let size : length last ≡ c.min.result = ap length c.take.ensures.last ∙ length-take-le c.min.result new few in
    follows_entry c.args.self.now c.record.new.self _ (g.S.Source.left c.fill.new.source) last c.take.new.self.ahead c.record.result c.requires.free c.record.ensures.search c.record.ensures.form c.record.ensures.number c.record.ensures.some c.record.ensures.dropped
    (returns-clause-entry g c) (returns-clause-passes g c) (λ cut. elim c.in_ok-fill.ensures.there [ inl le ↦ absurd (omega (arith, le, same, size, c.record.ensures.cut cut, c.min.ensures, c.len.ensures)) | inr end ↦ end ])
