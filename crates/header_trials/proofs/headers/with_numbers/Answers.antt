use Rattle.std.proofs.Common.{sym}
use Rattle.trace_text.proofs.HeaderLemmas.{interface_with-some, unlawful_numbering, unlawful_size}
use Rattle.header_trials.proofs.HeaderLemmas.{lawful_numbers}
use Rattle.header_trials.proofs.headers.with_numbers.Goals as goal
use Rattle.header_trials.proofs.headers.with_numbers.Goals.{then-not-is_numbered-via-then-not-is_numbered, then-not-is_numbered-via-else-not-is_numbered+then-not-is_packet_size}

pub returns-then-not-is_numbered-clause-numbers : goal.returns-then-not-is_numbered-clause-numbers
returns-then-not-is_numbered-clause-numbers c = elim c.then-not-is_numbered.branch [
  | then-not-is_numbered-via-then-not-is_numbered w ↦ sym (unlawful_numbering _ w.if-not-is_numbered.ensures)
  | then-not-is_numbered-via-else-not-is_numbered+then-not-is_packet_size w ↦ sym (unlawful_size _ w.if-not-is_packet_size.ensures)
]

pub invariant_of-result : goal.invariant_of-result
invariant_of-result c = record { lawful = lawful_numbers c.args.own.now c.args.modulus c.args.window c.args.size (sym c.if-not-is_numbered.ensures) (sym c.if-not-is_packet_size.ensures) }

pub returns-clause-numbers : goal.returns-clause-numbers
returns-clause-numbers c = sym (interface_with-some _ _)
