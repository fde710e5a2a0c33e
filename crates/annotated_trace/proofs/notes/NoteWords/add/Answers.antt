use Rattle.std.proofs.Common.{◌≡◌, ap, ◌∙◌, arith, length}
use Rattle.annotated_trace.specs.Wording.{with_words}
use Rattle.annotated_trace.proofs.WordingLemmas.{all_said, few_said}
use Rattle.annotated_trace.proofs.notes.NoteWords.add.Goals as goal

pub invariant_of-self-2 : goal.invariant_of-self-2
invariant_of-self-2 g c =
    let n : c.len-room.result ≡ length c.self.inside.bytes.items = omega (arith, c.len-room.ensures, c.self.inside.bytes.ok) in
    few_said c.self.inside.bytes.items c.args.words.now c.extend_from_slice.new.self.items c.len-room.result c.min.result c.self.invariant n c.min.ensures c.in_ok-extend_from_slice.ensures.items

pub returns : goal.returns
returns g c =
    let n : c.len-room.result ≡ length c.self.inside.bytes.items = omega (arith, c.len-room.ensures, c.self.inside.bytes.ok) in
    record {
      ok = all_said c.self.inside.bytes.items c.args.words.now c.extend_from_slice.new.self.items c.len-room.result c.min.result c.self.invariant n c.min.ensures c.in_ok-extend_from_slice.ensures.items
          ∙ ap (λ said. with_words said c.args.words.now) c.self.view_is;
    }
