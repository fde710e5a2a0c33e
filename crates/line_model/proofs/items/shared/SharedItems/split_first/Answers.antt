use Rattle.std.proofs.Common.{rules, ◌≡◌, ◌∙◌, ap, ap₂, sym, refl, ℕ, ◌+◌, ◌-◌, ◌<◌, ◌≤◌, ◌++◌, length, take, drop, List, arith}
use Rattle.std.specs.Arc.{arc_value}
use Rattle.line_model.specs.basics.Items.{items_of, octets_of}
use Rattle.line_model.specs.basics.Records.{Item}
use Rattle.line_model.specs.declared.items.Head.{Head}
use Rattle.line_model.proofs.ItemLemmas.{first_kept-le, items-split, others_kept, place-length}
use Rattle.line_model.proofs.items.shared.SharedItems.split_first.Goals as goal

pub cut-requires : goal.cut-requires
cut-requires g c =
    let s = c.self.inside in
    let heads = (arc_value s.lists).heads.items in
    let octets = (arc_value s.lists).octets.items in
    let n = c.args.count in
    let all : length c.args.self.now ≡ s.count =
    sym (ap (λ (l : List Item). length l) c.self.view_is) ∙ place-length heads (take s.kept (drop s.octet octets)) s.first s.count c.self.invariant.0 in
    let few : n ≤ s.count = omega (arith, all, c.requires.some) in
    let is : c.as_slice.result.now ≡ heads = search rules in
    record { inside = omega (arith, few, c.self.invariant.0, ap (λ (l : List Head). length l) is) }

pub count_kept-kept-requires : goal.count_kept-kept-requires
count_kept-kept-requires g c =
    let s = c.self.inside in
    let heads = (arc_value s.lists).heads.items in
    let octets = (arc_value s.lists).octets.items in
    let n = c.args.count in
    let all : length c.args.self.now ≡ s.count =
    sym (ap (λ (l : List Item). length l) c.self.view_is) ∙ place-length heads (take s.kept (drop s.octet octets)) s.first s.count c.self.invariant.0 in
    let few : n ≤ s.count = omega (arith, all, c.requires.some) in
    let cut : c.cut.result.now ≡ take n (drop s.first heads) = search rules in
    let le = first_kept-le heads octets s.first s.count s.octet s.kept n (octets_of (take n (drop s.first heads))) few c.self.invariant.2 refl c.self.invariant.1 in
    let small : s.kept < 18446744073709551616 = search rules in
    record { few = omega (arith, le, small, ap octets_of cut) }

pub overflow_add-self : goal.overflow_add-self
overflow_add-self g c =
    let s = c.self.inside in
    let heads = (arc_value s.lists).heads.items in
    let octets = (arc_value s.lists).octets.items in
    let n = c.args.count in
    let all : length c.args.self.now ≡ s.count =
    sym (ap (λ (l : List Item). length l) c.self.view_is) ∙ place-length heads (take s.kept (drop s.octet octets)) s.first s.count c.self.invariant.0 in
    let few : n ≤ s.count = omega (arith, all, c.requires.some) in
    let is : c.as_slice.result.now ≡ heads = search rules in
    omega (arith, few, c.self.invariant.0, ap (λ (l : List Head). length l) is, c.as_slice.type_inv.0)

pub overflow_sub-self : goal.overflow_sub-self
overflow_sub-self g c =
    let s = c.self.inside in
    let heads = (arc_value s.lists).heads.items in
    let octets = (arc_value s.lists).octets.items in
    let n = c.args.count in
    let all : length c.args.self.now ≡ s.count =
    sym (ap (λ (l : List Item). length l) c.self.view_is) ∙ place-length heads (take s.kept (drop s.octet octets)) s.first s.count c.self.invariant.0 in
    let few : n ≤ s.count = omega (arith, all, c.requires.some) in
    few

pub overflow_add-self-2 : goal.overflow_add-self-2
overflow_add-self-2 g c =
    let s = c.self.inside in
    let heads = (arc_value s.lists).heads.items in
    let octets = (arc_value s.lists).octets.items in
    let n = c.args.count in
    let all : length c.args.self.now ≡ s.count =
    sym (ap (λ (l : List Item). length l) c.self.view_is) ∙ place-length heads (take s.kept (drop s.octet octets)) s.first s.count c.self.invariant.0 in
    let few : n ≤ s.count = omega (arith, all, c.requires.some) in
    let k = c.count_kept-kept.result in
    let cut : c.cut.result.now ≡ take n (drop s.first heads) = search rules in
    let part : k ≡ octets_of (take n (drop s.first heads)) = c.count_kept-kept.ensures ∙ ap octets_of cut in
    let le = first_kept-le heads octets s.first s.count s.octet s.kept n k few c.self.invariant.2 part c.self.invariant.1 in
    let small : length octets < 18446744073709551616 = search rules in
    omega (arith, le, c.self.invariant.1, small)

pub overflow_sub-self-2 : goal.overflow_sub-self-2
overflow_sub-self-2 g c =
    let s = c.self.inside in
    let heads = (arc_value s.lists).heads.items in
    let octets = (arc_value s.lists).octets.items in
    let n = c.args.count in
    let all : length c.args.self.now ≡ s.count =
    sym (ap (λ (l : List Item). length l) c.self.view_is) ∙ place-length heads (take s.kept (drop s.octet octets)) s.first s.count c.self.invariant.0 in
    let few : n ≤ s.count = omega (arith, all, c.requires.some) in
    let k = c.count_kept-kept.result in
    let cut : c.cut.result.now ≡ take n (drop s.first heads) = search rules in
    let part : k ≡ octets_of (take n (drop s.first heads)) = c.count_kept-kept.ensures ∙ ap octets_of cut in
    first_kept-le heads octets s.first s.count s.octet s.kept n k few c.self.invariant.2 part c.self.invariant.1

pub invariant_of-part : goal.invariant_of-part
invariant_of-part g c =
    let s = c.self.inside in
    let heads = (arc_value s.lists).heads.items in
    let octets = (arc_value s.lists).octets.items in
    let n = c.args.count in
    let all : length c.args.self.now ≡ s.count =
    sym (ap (λ (l : List Item). length l) c.self.view_is) ∙ place-length heads (take s.kept (drop s.octet octets)) s.first s.count c.self.invariant.0 in
    let few : n ≤ s.count = omega (arith, all, c.requires.some) in
    let k = c.count_kept-kept.result in
    let cut : c.cut.result.now ≡ take n (drop s.first heads) = search rules in
    let part : k ≡ octets_of (take n (drop s.first heads)) = c.count_kept-kept.ensures ∙ ap octets_of cut in
    let le = first_kept-le heads octets s.first s.count s.octet s.kept n k few c.self.invariant.2 part c.self.invariant.1 in
    let same = c.in_ok-lists.ensures in
    let same_heads : (arc_value c.in_ok-lists.lists).heads.items ≡ heads = ap (λ l. l.heads.items) same in
    let same_octets : (arc_value c.in_ok-lists.lists).octets.items ≡ octets = ap (λ l. l.octets.items) same in (
      omega (arith, few, c.self.invariant.0, ap (λ (l : List Head). length l) same_heads),
      omega (arith, le, c.self.invariant.1, ap (λ (l : List ℕ). length l) same_octets),
      ap (λ hs. octets_of (take n (drop s.first hs))) same_heads ∙ sym part,
    )

pub invariant_of-self : goal.invariant_of-self
invariant_of-self g c =
    let s = c.self.inside in
    let heads = (arc_value s.lists).heads.items in
    let octets = (arc_value s.lists).octets.items in
    let n = c.args.count in
    let all : length c.args.self.now ≡ s.count =
    sym (ap (λ (l : List Item). length l) c.self.view_is) ∙ place-length heads (take s.kept (drop s.octet octets)) s.first s.count c.self.invariant.0 in
    let few : n ≤ s.count = omega (arith, all, c.requires.some) in
    let k = c.count_kept-kept.result in
    let cut : c.cut.result.now ≡ take n (drop s.first heads) = search rules in
    let part : k ≡ octets_of (take n (drop s.first heads)) = c.count_kept-kept.ensures ∙ ap octets_of cut in
    let le = first_kept-le heads octets s.first s.count s.octet s.kept n k few c.self.invariant.2 part c.self.invariant.1 in
    (omega (arith, few, c.self.invariant.0), omega (arith, le, c.self.invariant.1), others_kept heads octets s.first s.count s.octet s.kept n k few c.self.invariant.2 part c.self.invariant.1)

pub returns-clause-rows : goal.returns-clause-rows
returns-clause-rows g c =
    let s = c.self.inside in
    let heads = (arc_value s.lists).heads.items in
    let octets = (arc_value s.lists).octets.items in
    let n = c.args.count in
    let all : length c.args.self.now ≡ s.count =
    sym (ap (λ (l : List Item). length l) c.self.view_is) ∙ place-length heads (take s.kept (drop s.octet octets)) s.first s.count c.self.invariant.0 in
    let few : n ≤ s.count = omega (arith, all, c.requires.some) in
    let k = c.count_kept-kept.result in
    let cut : c.cut.result.now ≡ take n (drop s.first heads) = search rules in
    let part : k ≡ octets_of (take n (drop s.first heads)) = c.count_kept-kept.ensures ∙ ap octets_of cut in
    let same = c.in_ok-lists.ensures in
    let same_heads : (arc_value c.in_ok-lists.lists).heads.items ≡ heads = ap (λ l. l.heads.items) same in
    let same_octets : (arc_value c.in_ok-lists.lists).octets.items ≡ octets = ap (λ l. l.octets.items) same in
    sym c.self.view_is ∙ items-split heads octets s.first s.count s.octet s.kept n k few c.self.invariant.2 part c.self.invariant.1
    ∙ ap₂ (λ hs os. items_of (take n (drop s.first hs)) (take k (drop s.octet os))
    ++ items_of (take (s.count - n) (drop (s.first + n) heads)) (take (s.kept - k) (drop (s.octet + k) octets))) (sym same_heads) (sym same_octets)

pub returns-clause-count : goal.returns-clause-count
returns-clause-count g c =
    let s = c.self.inside in
    let heads = (arc_value s.lists).heads.items in
    let octets = (arc_value s.lists).octets.items in
    let n = c.args.count in
    let all : length c.args.self.now ≡ s.count =
    sym (ap (λ (l : List Item). length l) c.self.view_is) ∙ place-length heads (take s.kept (drop s.octet octets)) s.first s.count c.self.invariant.0 in
    let few : n ≤ s.count = omega (arith, all, c.requires.some) in
    let same = c.in_ok-lists.ensures in
    let same_heads : (arc_value c.in_ok-lists.lists).heads.items ≡ heads = ap (λ l. l.heads.items) same in
    let same_octets : (arc_value c.in_ok-lists.lists).octets.items ≡ octets = ap (λ l. l.octets.items) same in
    place-length (arc_value c.in_ok-lists.lists).heads.items (take c.count_kept-kept.result (drop s.octet (arc_value c.in_ok-lists.lists).octets.items)) s.first n
    (omega (arith, few, c.self.invariant.0, ap (λ (l : List Head). length l) same_heads))
