-- A search begins where no block does; else the octets are a block in the byte order from it on.
use Rattle.std.proofs.Common.{◌≡◌, ◌∙◌, ◌++◌, ◌≤◌, ap, arith, inl, inr, length, rules, sym}
use Rattle.capture_files.specs.Blocks.{order_at}
use Rattle.capture_files.specs.Windows.{still}
use Rattle.capture_files.proofs.BlockLemmas.{no_block, order_taken}
use Rattle.capture_files.proofs.PcapngLemmas.{follows_after_fill, follows_head, follows_taken, follows_unusable}
use Rattle.capture_files.proofs.pcapng.Pcapng.next.Goals as goal

pub returns-in_ok-search_on-in-Unusable-clause-step : goal.returns-in_ok-search_on-in-Unusable-clause-step
returns-in_ok-search_on-in-Unusable-clause-step g c =
    let before = c.args.self.now.is_big in
    let ahead = c.ahead-2.result.now in
    let front = c.in_ok-search_on-in-Unusable.ensures.front in
    let order : c.order_at-is_big.result ≡ order_at before ahead = c.order_at-is_big.ensures ∙ ap (order_at before) (c.ahead.ensures ∙ sym c.ahead-2.ensures) in
    let is = front.1 ∙ ap (λ xs. xs ++ front.0) (sym c.ahead-2.ensures) in
    inl (record {
      frame = c.in_ok-search_on-in-Unusable.ensures.frame;
      interfaces = c.search_on-in-Unusable.ensures.interfaces;
      none = λ _. no_block before c.order_at-is_big.result ahead front.0 _ is order c.in-Unusable.ensures.0 c.in-Unusable.ensures.1;
    })

pub returns-in_ok-take_block-in-Block-clause-step : goal.returns-in_ok-take_block-in-Block-clause-step
returns-in_ok-take_block-in-Block-clause-step g c =
    let before = c.args.self.now.is_big in
    let ahead = c.ahead-2.result.now in
    let front = c.in_ok-take_block-in-Block.ensures.front in
    let entry = c.in_ok-take_block-in-Block.ensures.entry in
    let order : c.order_at-is_big.result ≡ order_at before ahead = c.order_at-is_big.ensures ∙ ap (order_at before) (c.ahead.ensures ∙ sym c.ahead-2.ensures) in
    let is = front.1 ∙ ap (λ xs. xs ++ front.0) (sym c.ahead-2.ensures) in
    let head : 12 ≤ length c.take_block.new.window.last = elim entry.block [ inl b ↦ b.begins.head | inr b ↦ b.0.begins.head ] in
    inr (rw (order_taken before c.order_at-is_big.result ahead front.0 _ _ is order c.in-Block.ensures.0.head head) entry)

-- nothing is left where the octets ahead end
pub returns-in-End-clause-end : goal.returns-in-End-clause-end
returns-in-End-clause-end g c = elim c.in_ok-fill.ensures.there [ inl le ↦ absurd (omega (arith, le, c.in-End.ensures, ap length c.ahead-2.ensures)) | inr end ↦ end ]

pub returns-in_ok-search_on-in-Unusable-clause-follows : goal.returns-in_ok-search_on-in-Unusable-clause-follows
returns-in_ok-search_on-in-Unusable-clause-follows g c =
    let before = c.args.self.now.is_big in
    let ahead = c.ahead-2.result.now in
    let order : c.order_at-is_big.result ≡ order_at before ahead = c.order_at-is_big.ensures ∙ ap (order_at before) (c.ahead.ensures ∙ sym c.ahead-2.ensures) in
    follows_unusable c.args.self.now _ (g.S.Source.left c.fill.new.source) c.fill.new.self.ahead c.order_at-is_big.result _ _ (search rules) c.fill.ensures.passes
    (order ∙ ap (order_at before) c.ahead-2.ensures) (search (rules, c.in-Unusable.ensures.0, c.ahead-2.ensures)) (rw (sym c.ahead-2.ensures) c.in-Unusable.ensures.1)

pub returns-in_ok-take_block-in-Block-clause-follows : goal.returns-in_ok-take_block-in-Block-clause-follows
returns-in_ok-take_block-in-Block-clause-follows g c =
    let before = c.args.self.now.is_big in
    let ahead = c.ahead-2.result.now in
    let taken = c.in_ok-take_block-in-Block.ensures in
    let order : c.order_at-is_big.result ≡ order_at before ahead = c.order_at-is_big.ensures ∙ ap (order_at before) (c.ahead.ensures ∙ sym c.ahead-2.ensures) in
    let is = taken.front.1 ∙ ap (λ xs. xs ++ taken.front.0) (sym c.ahead-2.ensures) in
    let head : 12 ≤ length c.take_block.new.window.last = elim taken.entry.block [ inl b ↦ b.begins.head | inr b ↦ b.0.begins.head ] in
    follows_after_fill c.args.self.now _ (still c.fill.new.self.ahead (g.S.Source.left c.fill.new.source)) _ _ c.fill.ensures.passes
    (follows_taken c.args.self.now c.take_block.new.self _ (g.S.Source.left c.take_block.new.source) c.take_block.new.window.last c.take_block.new.window.ahead _ c.order_at-is_big.result
    (order_taken before c.order_at-is_big.result ahead taken.front.0 _ _ is order c.in-Block.ensures.0.head head) (search rules) taken.entry.block taken.passes taken.cut taken.reads)

pub returns-in-HeadCut-clause-follows : goal.returns-in-HeadCut-clause-follows
returns-in-HeadCut-clause-follows g c =
    let same : length c.ahead-2.result.now ≡ length c.fill.new.self.ahead = ap length c.ahead-2.ensures in
    follows_head c.args.self.now _ (g.S.Source.left c.fill.new.source) c.fill.new.self.ahead _ _ (search rules) c.fill.ensures.passes (elim c.in_ok-fill.ensures.there [ inl le ↦ absurd (omega (arith, le, c.in-HeadCut.ensures.1, same)) | inr end ↦ end ]) (omega (arith, same, c.in-HeadCut.ensures.0)) (omega (arith, same, c.in-HeadCut.ensures.1))
