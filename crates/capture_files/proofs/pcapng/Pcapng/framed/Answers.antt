-- The frame is where the block has it, of the interface that it names, and of the direction that its options say.
use Rattle.std.proofs.Common.{◌∙◌, ap, drop, refl, rules, sym}
use Rattle.capture_files.specs.BlockFrames.{block_frame, placed_in}
use Rattle.capture_files.specs.Entries.{frame_at}
use Rattle.capture_files.specs.Numbers.{next_number}
use Rattle.capture_files.specs.Options.{direction_by, drop_count, flags_in, options_in}
use Rattle.capture_files.specs.PcapngRecords.{dropped_before, placed_drops}
use Rattle.capture_files.proofs.PcapngLemmas.{frame_done}
use Rattle.capture_files.proofs.pcapng.Pcapng.framed.Goals as goal

pub returns-clause-frame : goal.returns-clause-frame
returns-clause-frame c =
    let p = c.args.self.now in
    let body = c.args.body.now in
    let placed = c.in-Some.placed in
    let i = c.in-Some-interface.interface in
    let direction = c.head-head.ensures.direction ∙ c.frame_options-options.ensures.direction ∙ ap (λ k. direction_by (flags_in p.is_big (options_in p.is_big (drop k body)))) c.options.ensures in (
      c.head-head.ensures.within,
      record {
        placed = placed;
        interface = i;
        place = sym (c.in-Some.ensures.place ∙ ap (λ s. placed_in p.is_big c.args.kind s body) c.first_snap.ensures);
        described = sym c.in-Some-interface.ensures;
        same =
            c.head-head.ensures.frame
            ∙ ap (λ n. block_frame placed i p.first_interface n c.head-head.result.direction body) c.next_number-self.ensures
            ∙ ap (λ d. block_frame placed i p.first_interface (next_number p.number) d body) direction;
      },
    )

pub returns-clause-reads : goal.returns-clause-reads
unfolding returns-clause-frame
returns-clause-reads c =
    let p = c.args.self.now in
    let body = c.args.body.now in
    let head = c.head-head.result in
    let its = (returns-clause-frame c).1 in
    let count = c.placed_drops-count.ensures ∙ ap (placed_drops p.is_big c.args.kind body) (c.frame_options-options.ensures.dropped ∙ ap (λ k. drop_count p.is_big (options_in p.is_big (drop k body))) c.options.ensures) in
    frame_done p _ c.args.kind body c.in-Some.placed c.in-Some-interface.interface _ head its.place its.described refl its.same
    (λ there sound. c.dropped_before.ensures.dropped (c.frame_damage-frame_damage.ensures.sound there ∙ sound) ∙ ap (λ n. dropped_before n (frame_at head body)) count)
    (search rules) (search rules) (search rules)
