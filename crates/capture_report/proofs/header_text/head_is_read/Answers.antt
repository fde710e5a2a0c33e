use Rattle.capture_report.proofs.HeaderTextLemmas as lemma
use Rattle.capture_report.proofs.header_text.head_is_read.Goals as goal

pub returns : goal.returns
returns c = λ i v g. lemma.head_is_read i v g
