use Rattle.std.proofs.Common.{◌≡◌, take}
use Rattle.line_model.specs.basics.Items.{octets_of}
use Rattle.line_model.proofs.items.shared.count_kept.Given as goal

abbrev pub invariant-loop-head : goal.invariant-loop-head
invariant-loop-head l = l.kept ≡ octets_of (take l.head-index l.heads)
