-- The octets of a block come first in the file, and are those of the entry.
use Rattle.std.proofs.Common.{◌≡◌, ◌∙◌, ◌++◌, ◌≤◌, ap, arith, inl, inr, length, length-append, length-take-le, min, rules, sym, take}
use Rattle.std.proofs.Math.ListN.{drop_of_length-le}
use Rattle.std.proofs.lemmas.Bool.{cases_lt}
use Rattle.capture_files.specs.Blocks.{block_length}
use Rattle.capture_files.proofs.BlockLemmas.{cut_block, same_length, whole_block}
use Rattle.capture_files.proofs.WindowLemmas.{taken}
use Rattle.capture_files.proofs.pcapng.Pcapng.take_block.Goals as goal

pub block-requires-clause-said : goal.block-requires-clause-said
block-requires-clause-said g c =
    let old = c.args.window.now.ahead in
    let grown = c.fill.ensures.grown in
    let begins = c.requires.begins in
    let there : 12 ≤ c.min-taken.result = omega (arith, c.min-taken.ensures, c.len.ensures, ap length grown.1, length-append old grown.0, begins.head, begins.least, c.requires.said) in
    c.requires.said
    ∙ sym (same_length c.args.is_big old grown.0 c.min-taken.result begins.head there)
    ∙ ap (λ xs. block_length c.args.is_big (take c.min-taken.result xs)) (sym (c.ahead.ensures ∙ grown.1))

pub returns-clause-passes : goal.returns-clause-passes
returns-clause-passes g c = taken _ _ c.fill.new.self.ahead _ _ _ c.fill.ensures.passes c.take.ensures.last c.take.ensures.ahead

pub returns-clause-entry : goal.returns-clause-entry
returns-clause-entry g c =
    let big = c.args.is_big in
    let old = c.args.window.now.ahead in
    let new = c.fill.new.self.ahead in
    let last = c.take.new.self.last in
    let grown = c.fill.ensures.grown in
    let begins = c.requires.begins in
    let is_taken : last ≡ take (min (length (old ++ grown.0)) c.args.said) (old ++ grown.0) = search (rules, grown.1) in
    let same : take c.min-taken.result c.ahead.result.now ≡ last = ap (take c.min-taken.result) c.ahead.ensures ∙ sym c.take.ensures.last in
    let size : length new ≡ length (old ++ grown.0) = ap length grown.1 in
    record {
      block = elim (cases_lt (length (old ++ grown.0)) c.args.said) [
        | inl less ↦
            let all : length new ≤ c.min-taken.result = omega (arith, less, size, c.min-taken.ensures, c.len.ensures) in
            inr (cut_block big old grown.0 last c.args.said begins c.requires.said is_taken less, c.take.ensures.ahead ∙ drop_of_length-le new all)
        | inr le ↦ inl (whole_block big old grown.0 last c.args.said begins c.requires.said is_taken le)
      ];
      frame = rw (sym same) c.in_ok-entry.ensures.frame;
      described = rw (sym same) c.in_ok-entry.ensures.described;
    }

pub returns-clause-reads : goal.returns-clause-reads
returns-clause-reads g c =
    let same : take c.min-taken.result c.ahead.result.now ≡ c.take.new.self.last = ap (take c.min-taken.result) c.ahead.ensures ∙ sym c.take.ensures.last in
    rw (sym same) c.in_ok-entry.ensures.reads

-- the source ends where the block does not
pub returns-clause-cut : goal.returns-clause-cut
returns-clause-cut g c = λ less.
    let big = c.args.is_big in
    let old = c.args.window.now.ahead in
    let new = c.fill.new.self.ahead in
    let n = c.min-taken.result in
    let grown = c.fill.ensures.grown in
    let begins = c.requires.begins in
    let few : n ≤ length new = omega (arith, c.min-taken.ensures, c.len.ensures) in
    let least : 12 ≤ n = omega (arith, c.min-taken.ensures, c.len.ensures, ap length grown.1, length-append old grown.0, begins.head, begins.least, c.requires.said) in
    let size : length c.take.new.self.last ≡ n = ap length c.take.ensures.last ∙ length-take-le n new few in
    let same : block_length big c.take.new.self.last ≡ block_length big old = ap (block_length big) (c.take.ensures.last ∙ ap (take n) grown.1) ∙ same_length big old grown.0 n begins.head least in
    elim c.in_ok-fill.ensures.there [ inl le ↦ absurd (omega (arith, le, size, same, less, c.requires.said, c.min-taken.ensures, c.len.ensures)) | inr end ↦ end ]
