-- What is kept is the beginning of a packet.
use Rattle.std.proofs.Common.{◌≡◌, ◌∙◌, ◌<◌, ◌++◌, ap, arith, length, List, ℕ, rules, subst, sym, take}
use Rattle.std.proofs.Math.Seq.{take-append_seam}
use Rattle.xot_circuits.specs.Packets.{header}
use Rattle.xot_circuits.specs.Joining.{beginning}
use Rattle.xot_circuits.specs.Streams.{IsKept, IsWithinBy, StreamView}
use Rattle.xot_circuits.proofs.Joined.{begins_within}
use Rattle.xot_circuits.proofs.stream.Stream.join.Goals as goal

pub invariant_of-self-in-Begins : goal.invariant_of-self-in-Begins
invariant_of-self-in-Begins c =
    let rest = c.self.inside.rest.items in
    let segment = c.args.segment.now in
    let sought = ap (λ (v : StreamView). v.is_sought) c.self.view_is ∙ c.requires in
    let few : length rest < 7 = subst (λ b. IsKept b rest) sought c.self.invariant in
    let all : c.deref.result.now ≡ rest ++ segment = search rules in
    let many : c.len-before.result ≡ length rest = omega (arith, c.len-before.ensures, c.self.inside.rest.ok.0) in
    let same : c.truncate.new.self.items ≡ rest =
    c.truncate.ensures.items ∙ (ap (take c.len-before.result) c.in_ok-extend_from_slice.ensures.items ∙ (ap (λ n. take n (rest ++ segment)) many ∙ take-append_seam rest segment)) in
    let begins = ap (beginning c.args.expected.now) (sym all) ∙ (sym c.beginning.ensures ∙ c.in-Begins.is) in
    subst (λ (xs : List ℕ). IsWithinBy (header xs) (length xs)) (sym same) (begins_within c.args.expected.now rest segment begins few)
