-- What reports give, put together.
use Rattle.std.proofs.Common.{◌≡◌, ℕ, sym, ap, ◌∙◌, refl, ◌+◌, List, [], ◌∷◌, ◌++◌, length, sum_by, arith, length-append, subst}
use Rattle.std.specs.List.Sorted.{IsPermutation}
use Rattle.std.proofs.lemmas.List.Sums.{sum_by-append, sum_by-cons}
use Rattle.std.proofs.lemmas.List.Sorted.{IsPermutation-refl, IsPermutation-trans, IsPermutation-append, length_permutation}
use Rattle.line_model.specs.basics.Records.{PieceReport, CallRecord}
use Rattle.line_model.specs.declared.finding.Finding.{Finding}
use Rattle.line_model.specs.work.Book.{totals_of}
use Rattle.report_merge.specs.Gathered.{Gathered, gathered, joined, counted, piece_findings, all_calls, AreGathered, AreSorted, IsBundle, IsSmall}
use Rattle.std.proofs.lemmas.List.Elements.{All-push}
use Rattle.line_model.proofs.Schedules.{ids-append}
use Rattle.report_merge.proofs.SortedLists.{flat_map-append}

pub gathered_more : (ps qs : List PieceReport) → joined (gathered ps) (gathered qs) ≡ gathered (ps ++ qs)
gathered_more ps qs =
    let pieces : length ps + length qs ≡ length (ps ++ qs) = sym (length-append ps qs) in
    let findings = sym (flat_map-append (λ (p : PieceReport). p.findings) ps qs) in
    let calls = sym (flat_map-append (λ (p : PieceReport). p.calls) ps qs) in
    let octets : sum_by (λ p. p.octets) ps + sum_by (λ p. p.octets) qs ≡ sum_by (λ p. p.octets) (ps ++ qs) = sym (sum_by-append (λ (p : PieceReport). p.octets) ps qs) in
    let segments : sum_by (λ p. p.segments) ps + sum_by (λ p. p.segments) qs ≡ sum_by (λ p. p.segments) (ps ++ qs) = sym (sum_by-append (λ (p : PieceReport). p.segments) ps qs) in
    λ j. record { pieces = pieces j; findings = findings j; calls = calls j; octets = octets j; segments = segments j }

pub in_order : (ps : List PieceReport) → AreGathered ps (gathered ps)
in_order ps = record {
  number = refl;
  same_findings = IsPermutation-refl (piece_findings ps);
  same_calls = IsPermutation-refl (all_calls ps);
  same_octets = refl;
  same_segments = refl;
}

pub in_order_as : (ps : List PieceReport) (g : Gathered) → g ≡ gathered ps → AreGathered ps g
in_order_as ps g is = subst (AreGathered ps) (sym is) (in_order ps)

-- the reports of both
pub both : (ps qs : List PieceReport) (g h : Gathered) → AreGathered ps g → AreGathered qs h → AreGathered (ps ++ qs) (joined g h)
both ps qs g h a b = record {
  number = omega (arith, a.number, b.number, length-append ps qs);
  same_findings = subst (λ (l : List Finding). IsPermutation l (g.findings ++ h.findings)) (sym (flat_map-append (λ (p : PieceReport). p.findings) ps qs))
      (IsPermutation-append (piece_findings ps) g.findings (piece_findings qs) h.findings a.same_findings b.same_findings);
  same_calls = subst (λ (l : List CallRecord). IsPermutation l (g.calls ++ h.calls)) (sym (flat_map-append (λ (p : PieceReport). p.calls) ps qs))
      (IsPermutation-append (all_calls ps) g.calls (all_calls qs) h.calls a.same_calls b.same_calls);
  same_octets = omega (arith, a.same_octets, b.same_octets, sum_by-append (λ (p : PieceReport). p.octets) ps qs);
  same_segments = omega (arith, a.same_segments, b.same_segments, sum_by-append (λ (p : PieceReport). p.segments) ps qs);
}

length_findings : (ps : List PieceReport) → length (piece_findings ps) ≡ sum_by (λ p. length p.findings) ps
length_findings [] = refl
length_findings (p ∷ ps) = omega (arith, length-append p.findings (piece_findings ps), length_findings ps, sum_by-cons (λ (q : PieceReport). length q.findings) p ps)

pub counts : (ps : List PieceReport) (g : Gathered) → AreGathered ps g → counted g ≡ totals_of ps
counts ps g a =
    let findings = length_permutation (piece_findings ps) g.findings a.same_findings in
    let many : length g.findings ≡ sum_by (λ p. length p.findings) ps = omega (arith, findings, length_findings ps) in
    λ j. record { posts = a.number j; findings = many j; octets = a.same_octets j; segments = a.same_segments j }

pub sorted_as : {g h k : Gathered} → k ≡ h → AreSorted g h → AreSorted g k
sorted_as {g} same sorted = subst (AreSorted g) (sym same) sorted

pub bundle_more : (ps : List PieceReport) (ids : List ℕ) (g : Gathered) (r : PieceReport) → IsBundle ps ids g → IsSmall r → IsBundle (ps ++ r ∷ []) (ids ++ r.id ∷ []) (joined g (gathered (r ∷ [])))
bundle_more ps ids g r b small = record {
  ids_are = ap (λ l. l ++ r.id ∷ []) b.ids_are ∙ sym (ids-append ps (r ∷ []));
  gathered = both ps (r ∷ []) g (gathered (r ∷ [])) b.gathered (in_order (r ∷ []));
  small = All-push IsSmall ps r b.small small;
}

pub bundle_sorted : (ps : List PieceReport) (ids : List ℕ) (g h : Gathered) → IsBundle ps ids g → AreSorted g h → IsBundle ps ids h
bundle_sorted ps ids g h b s = record {
  ids_are = b.ids_are;
  gathered = record {
    number = s.same_pieces ∙ b.gathered.number;
    same_findings = IsPermutation-trans (piece_findings ps) g.findings h.findings b.gathered.same_findings s.same_findings;
    same_calls = IsPermutation-trans (all_calls ps) g.calls h.calls b.gathered.same_calls s.same_calls;
    same_octets = s.same_octets ∙ b.gathered.same_octets;
    same_segments = s.same_segments ∙ b.gathered.same_segments;
  };
  small = b.small;
}
