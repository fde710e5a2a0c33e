-- The octets of the frame that are there, without its check sequence.
use Rattle.std.proofs.Common.{◌≡◌, ◌∙◌, ◌-◌, ap, arith, drop, length, length-drop, min, take}
use Rattle.capture_files.proofs.BlockLemmas.{taken_twice}
use Rattle.capture_files.proofs.packet_block.Placed.kept.Goals as goal

pub returns-clause-octets : goal.returns-clause-octets
returns-clause-octets c =
    let octets = drop c.args.self.now.from c.args.block.now in
    let size : length octets ≡ length c.args.block.now - c.args.self.now.from = length-drop c.args.self.now.from c.args.block.now in
    let count : c.min.result ≡ min (min (length octets) c.args.self.now.kept) c.args.line = omega (arith, size, c.min.ensures, c.there.ensures.there) in
    ap (λ k. take k octets) count ∙ taken_twice octets c.args.self.now.kept c.args.line
