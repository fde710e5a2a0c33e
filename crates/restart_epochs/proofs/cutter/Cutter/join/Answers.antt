use Rattle.std.proofs.Common.{sym, ap, subst, refl, arith}
use Rattle.restart_epochs.specs.BlockCuts.{MayEndAll}
use Rattle.restart_epochs.specs.Cutting.{IsCutting}
use Rattle.restart_epochs.proofs.Hung.{IsHung, counts_fit, hung_at, hung_bounds, hung_taken, may_end, may_hang}
use Rattle.restart_epochs.proofs.cutter.Cutter.join.Goals as goal

pub end_epochs-requires : goal.end_epochs-requires
end_epochs-requires g c =
    let next = c.requires.next in
    let may = may_hang next.0 next.1 next.2 c.args.self c.args.block next.3 (subst IsCutting c.self.view_is c.self.invariant) next.4 next.5 in
    record { rows = subst (λ d. MayEndAll d.interface d.epoch d.start d.given d.gap d.open_rows c.args.block.ended.items) (sym c.self.view_is) (may_end c.args.self c.args.block may) }

pub join-requires-clause-epochs : goal.join-requires-clause-epochs
join-requires-clause-epochs g c =
    let next = c.requires.next in
    let fits = (counts_fit c.args.self c.args.block (may_hang next.0 next.1 next.2 c.args.self c.args.block next.3 (subst IsCutting c.self.view_is c.self.invariant) next.4 next.5)).0 in
    omega (arith, fits, ap (λ d. d.epoch) c.self.view_is)

pub join-requires-clause-packets : goal.join-requires-clause-packets
join-requires-clause-packets g c =
    let next = c.requires.next in
    let fits = (counts_fit c.args.self c.args.block (may_hang next.0 next.1 next.2 c.args.self c.args.block next.3 (subst IsCutting c.self.view_is c.self.invariant) next.4 next.5)).1 in
    omega (arith, fits, ap (λ d. d.packets) c.self.view_is)

pub join-requires-clause-gaps : goal.join-requires-clause-gaps
join-requires-clause-gaps g c =
    let next = c.requires.next in
    let fits = (counts_fit c.args.self c.args.block (may_hang next.0 next.1 next.2 c.args.self c.args.block next.3 (subst IsCutting c.self.view_is c.self.invariant) next.4 next.5)).2 in
    omega (arith, fits, ap (λ d. d.gaps) c.self.view_is)

pub overflow_add-result : goal.overflow_add-result
overflow_add-result g c =
    let next = c.requires.next in
    let fits = (counts_fit c.args.self c.args.block (may_hang next.0 next.1 next.2 c.args.self c.args.block next.3 (subst IsCutting c.self.view_is c.self.invariant) next.4 next.5)).3 in
    omega (arith, fits, ap (λ d. d.octets) c.self.view_is)

pub invariant_of-result : goal.invariant_of-result
invariant_of-result g c =
    let next = c.requires.next in
    let bounds = subst IsCutting c.self.view_is c.self.invariant in
    let walk = c.in_ok-join.ensures in
    let hung : IsHung c.args.self c.args.block _ c.args.out.now.items c.end_epochs.new.out.items = hung_at _ c.args.self _ c.args.block c.args.out.now.items c.end_epochs.new.out.items c.self.view_is (record {
      between = c.end_epochs.new.self.rows;
      gap = c.end_epochs.new.self.gap;
      ended = c.in_ok-end_epochs.ensures;
      added = c.in_ok-keep_parts.ensures;
      joined = c.gap_joined.ensures;
      interface = walk.interface;
      level = walk.machine;
      epoch = walk.epoch;
      start = walk.start;
      packets = walk.packets;
      gaps = walk.gaps;
      last = c.last_after-last.ensures;
      octets = refl;
      findings = walk.findings;
    }) in
    hung_bounds c.args.self _ c.args.block c.args.out.now.items c.end_epochs.new.out.items (may_hang next.0 next.1 next.2 c.args.self c.args.block next.3 bounds next.4 next.5) hung

pub returns-clause-taken : goal.returns-clause-taken
returns-clause-taken g c items cut come =
    let next = c.requires.next in
    let bounds = subst IsCutting c.self.view_is c.self.invariant in
    let walk = c.in_ok-join.ensures in
    let hung : IsHung c.args.self c.args.block _ c.args.out.now.items c.end_epochs.new.out.items = hung_at _ c.args.self _ c.args.block c.args.out.now.items c.end_epochs.new.out.items c.self.view_is (record {
      between = c.end_epochs.new.self.rows;
      gap = c.end_epochs.new.self.gap;
      ended = c.in_ok-end_epochs.ensures;
      added = c.in_ok-keep_parts.ensures;
      joined = c.gap_joined.ensures;
      interface = walk.interface;
      level = walk.machine;
      epoch = walk.epoch;
      start = walk.start;
      packets = walk.packets;
      gaps = walk.gaps;
      last = c.last_after-last.ensures;
      octets = refl;
      findings = walk.findings;
    }) in
    hung_taken next.0 next.1 items c.args.self _ c.args.block c.args.out.now.items c.end_epochs.new.out.items next.3 bounds cut come hung
