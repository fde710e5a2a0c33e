-- The packet and what is left are the piece.
use Rattle.std.proofs.Common.{◌≡◌, ◌∙◌, ◌-◌, arith, drop, length, length-drop, sym, take, take_all}
use Rattle.xot_circuits.proofs.Whole.{lent}
use Rattle.xot_circuits.proofs.stream.Stream.next_lent.Goals as goal

pub returns-then-size-octets : goal.returns-then-size-octets
returns-then-size-octets c =
    let front = c.split_at.result.0.now in
    let p = take (length front - 4) (drop 4 front) in
    let all : p ≡ drop 4 front = take_all (length front - 4) (drop 4 front) (omega (arith, length-drop 4 front)) in
    let packet = lent c.args.octets.now front c.split_at.result.1.now c.args.self.now.rest p c.in-Length.length _
    c.read_header.ensures.low (sym c.read_header.ensures.header ∙ c.in-Length.is) (omega (arith, c.from-size.ensures)) (omega (arith, c.if-size-octets.true))
    c.split_at.ensures.front c.split_at.ensures.back c.requires.none all in
    (packet, c.requires.sought)
