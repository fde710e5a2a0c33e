use Rattle.std.proofs.Common.{◌∙◌, sym, ap}
use Rattle.line_model.specs.text.Header.{interface_with}
use Rattle.trace_text.proofs.HeaderLemmas.{interface_with-some, unlawful_numbering, unlawful_size, unlawful_channels}
use Rattle.capture_report.proofs.header.interface_of.Goals as goal
use Rattle.capture_report.proofs.header.interface_of.Goals.{then-not-is_numbered-via-then-not-is_numbered, then-not-is_numbered-via-else-not-is_numbered+then-not-is_packet_size, then-not-is_numbered-via-else-not-is_numbered+else-not-is_packet_size+then-not-has_channels}

pub returns-then-not-is_numbered : goal.returns-then-not-is_numbered
returns-then-not-is_numbered c = rw (← c.numbers.view_is) (elim c.then-not-is_numbered.branch [
  | then-not-is_numbered-via-then-not-is_numbered w ↦ sym (unlawful_numbering _ w.if-not-is_numbered.ensures)
  | then-not-is_numbered-via-else-not-is_numbered+then-not-is_packet_size w ↦ sym (unlawful_size _ w.if-not-is_packet_size.ensures)
  | then-not-is_numbered-via-else-not-is_numbered+else-not-is_packet_size+then-not-has_channels w ↦ sym (unlawful_channels _ w.if-not-has_channels.ensures)
])

pub returns : goal.returns
returns c = sym (ap interface_with (sym c.numbers.view_is) ∙ interface_with-some _ _)
