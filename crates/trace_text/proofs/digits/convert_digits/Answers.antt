use Rattle.std.proofs.Common.{◌∙◌, ◌≡◌, ◌≤◌, ap, arith, drop, if◌then◌else◌, inl, inr, length, length-take-le, min, subst, sym, take, true, ◌*◌, ◌++◌, Bool, ℕ, List}
use Rattle.std.specs.Prelude.{◌⊎◌}
use Rattle.line_model.specs.packets.Says.{is_unqualified}
use lib.Seq.{take-append_seam}
use Rattle.std.proofs.lemmas.List.{take-take}
use Rattle.std.proofs.lemmas.Option.{IfSome_then}
use Rattle.trace_text.specs.Digits.{AreOctets, HasDecoded}
use Rattle.trace_text.proofs.DigitLemmas.{converts, decodes-none, few_read, fewer}
use Rattle.trace_text.proofs.digits.convert_digits.Goals as goal
use Rattle.trace_text.proofs.digits.convert_digits.Goals.{else-size-gt-FEW_OCTETS-via-then-size-gt-FEW_OCTETS+else-not-is_unqualified, else-size-gt-FEW_OCTETS-via-else-size-gt-FEW_OCTETS}

pub returns-then-not-is_unqualified : goal.returns-then-not-is_unqualified
returns-then-not-is_unqualified g c rest w =
    let text = c.args.digits.now in
    let front = c.octets_of.result in
    let first = c.octets_of.ensures.octets text c.requires in
    let three = ap (take 3) c.in_ok-few.ensures.cases.same ∙ take-take 3 4 front (omega arith) in
    let counted = ap (λ (b : Bool). if b then min 4 c.args.size else c.args.size) (c.if-not-is_unqualified.ensures ∙ ap is_unqualified three) in
    IfSome_then c.append_octets.result c.append_octets.ensures
    (λ _ are. converts text rest (drop 32 text) c.append_octets.new.octets.items front c.args.size c.args.size w first c.octets_of.ensures.long counted
    (are text (subst (λ (xs : List ℕ). HasDecoded text xs text) (sym c.clear.ensures.items) (decodes-none text))))

pub returns : goal.returns
returns g c rest w =
    let text = c.args.digits.now in
    let front = c.octets_of.result in
    let first = c.octets_of.ensures.octets text c.requires in
    let three = ap (take 3) c.in_ok-few.ensures.cases.same ∙ take-take 3 4 front (omega arith) in
    let few : (is_unqualified (take 3 front) ≡ true) ⊎ (c.args.size ≤ 4) = elim c.else-size-gt-FEW_OCTETS.branch [
      | else-size-gt-FEW_OCTETS-via-then-size-gt-FEW_OCTETS+else-not-is_unqualified way ↦ inl (ap is_unqualified (sym three) ∙ sym way.if-not-is_unqualified.ensures)
      | else-size-gt-FEW_OCTETS-via-else-size-gt-FEW_OCTETS way ↦ inr (omega (arith, way.if-size-gt-FEW_OCTETS.false))
    ] in
    let count : ℕ = min 4 c.args.size in
    let four = c.in_ok-few.field-0.now in
    let long : length four ≡ 4 = ap (λ (xs : List ℕ). length xs) c.in_ok-few.ensures.cases.same ∙ length-take-le 4 front (omega (arith, c.octets_of.ensures.long)) in
    let back : List ℕ = drop (length four) c.loop-octets.octets.items in
    let put = ap (λ (n : ℕ). take n (four ++ back)) (omega (arith, long, c.loop-octets-test.false, c.loop-octets.octets.ok, c.loop-octets.invariant)) ∙ take-append_seam four back in
    let items : c.truncate-2.new.self.items ≡ take count front = c.truncate-2.ensures.items ∙ ap (take c.args.size) (put ∙ c.in_ok-few.ensures.cases.same) ∙ fewer front c.args.size c.octets_of.ensures.long in
    converts text rest (drop 32 text) c.truncate-2.new.self.items front c.args.size count w first c.octets_of.ensures.long (few_read (is_unqualified (take 3 front)) c.args.size few)
    (λ there all. subst (AreOctets (take (2 * count) text)) (sym items) (first.octets_are count (omega (arith, c.octets_of.ensures.long)) there all))
