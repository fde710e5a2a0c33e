use Rattle.std.proofs.Common.{subst}
use Rattle.annotated_trace.specs.Wording.{IsWords}
use Rattle.annotated_trace.proofs.WordingLemmas.{plain_words}
use Rattle.annotated_trace.proofs.notes.NoteWords.is_empty.Goals as goal

pub returns-clause-words : goal.returns-clause-words
returns-clause-words g c = subst IsWords c.self.view_is (plain_words c.self.inside.bytes.items c.self.invariant)
