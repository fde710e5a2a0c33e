-- The frame is that of the body of these octets.
use Rattle.std.proofs.Common.{◌≡◌, ◌∙◌, ◌-◌, ap, drop, false, is_some, length, None, refl, subst, sym, take}
use Rattle.capture_files.specs.BlockFrames.{body_of}
use Rattle.capture_files.specs.BlockSteps.{IsDescribed, IsFrameOf}
use Rattle.capture_files.specs.Entries.{frame_at}
use Rattle.capture_files.specs.Numbers.{next_number, number}
use Rattle.capture_files.specs.PcapngFiles.{section_of}
use Rattle.capture_files.specs.PcapngRecords.{content_read}
use Rattle.capture_files.specs.declared.entry.FrameHead.{FrameHead}
use Rattle.capture_files.proofs.BlockLemmas.{body_frame, body_is}
use Rattle.capture_files.proofs.PcapngLemmas.{body_done}
use Rattle.capture_files.proofs.pcapng.Pcapng.block.Goals as goal

pub returns-in-Ok-clause-frame : goal.returns-in-Ok-clause-frame
returns-in-Ok-clause-frame c =
    let octets = c.args.octets.now in
    let big = c.args.is_big in
    let body = take c.min.result octets in
    let is : body ≡ body_of big octets = ap (λ k. take k octets) c.min.ensures ∙ body_is big octets c.args.said c.requires.said in
    body_frame big c.read_four-kind.result c.args.self.now.interfaces.items c.args.self.now.first_interface (next_number c.args.self.now.number) c.min.result octets body c.in-Ok.entry.frame c.read_four-kind.ensures refl is c.in-Ok.ensures.frame

pub returns-in-Ok-clause-described : goal.returns-in-Ok-clause-described
returns-in-Ok-clause-described c =
    let octets = c.args.octets.now in
    let big = c.args.is_big in
    let body = take c.min.result octets in
    let before = c.args.self.now.interfaces.items in
    let after = c.content.new.self.interfaces.items in
    let is : body ≡ body_of big octets = ap (λ k. take k octets) c.min.ensures ∙ body_is big octets c.args.said c.requires.said in
    subst (λ k. IsDescribed big k (body_of big octets) before after) c.read_four-kind.ensures
    (subst (λ b. IsDescribed big c.read_four-kind.result b before after) is c.in-Ok.ensures.described)

pub returns-in-Ok-clause-reads : goal.returns-in-Ok-clause-reads
returns-in-Ok-clause-reads c = λ whole sound free t read.
    let octets = c.args.octets.now in
    let big = c.args.is_big in
    let body = take c.min.result octets in
    let s = record (section_of c.args.self.now) { is_big = big } in
    let is : body ≡ body_of big octets = ap (λ k. take k octets) c.min.ensures ∙ body_is big octets c.args.said c.requires.said in
    let size : length octets ≡ c.args.said = whole.one.whole ∙ sym c.requires.said in
    let again : number big (drop (c.args.said - 4) octets) ≡ c.args.said = ap (λ k. number big (drop (k - 4) octets)) (sym size) ∙ whole.again ∙ size in
    let none : c.block_damage-damage.result ≡ None = c.block_damage-damage.ensures size again in
    let quiet : c.is_some.result ≡ false = c.is_some.ensures ∙ ap is_some none in
    let content = ap (λ k. content_read s k body) c.read_four-kind.ensures ∙ ap (content_read s (number big octets)) is ∙ read in
    let its = λ (h : FrameHead). IsFrameOf big c.read_four-kind.result c.args.self.now.interfaces.items c.args.self.now.first_interface (next_number c.args.self.now.number) body (frame_at h body) in
    body_done t c.content.new.self _ octets c.min.result c.in-Ok.entry _ its c.in-Ok.ensures.frame (c.in-Ok.ensures.reads (rw (sound, quiet) refl) free t content) refl refl refl refl refl
