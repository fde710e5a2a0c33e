use Rattle.trace_reading.proofs.Rows.{all_cut, may_come}
use Rattle.trace_reading.proofs.text_cutter.RowCutter.join.Goals as goal

pub join-requires : goal.join-requires
join-requires g c =
    let next = c.requires.next in
    record { next = (c.args.self.interface, next.0, next.1, next.2.represented, next.4, may_come next.0 next.1 c.args.self next.2 next.3) }

pub returns-clause-cut : goal.returns-clause-cut
returns-clause-cut g c before cut items sound block =
    all_cut before items c.args.self c.in_ok-cutter.cutter c.args.pieces.now.items c.join.new.out.items cut
    (c.in_ok-cutter.ensures.taken items block (may_come before items c.args.self cut sound))

pub returns-clause-pieces : goal.returns-clause-pieces
returns-clause-pieces g c before cut items sound block =
    (c.in_ok-cutter.ensures.taken items block (may_come before items c.args.self cut sound)).appended c.args.self.interface before cut.represented
