-- The results of pieces, put together.
use Rattle.std.specs.Prelude.{◌≡◌, ℕ, ◌≤◌, ◌+◌, ◌*◌, ◌^◌, ◌++◌, List, length, sum_by, All}
use Rattle.std.specs.List.{flat_map}
use Rattle.std.specs.List.Sorted.{IsPermutation, IsNonDecreasingBy}
use Rattle.line_model.specs.declared.finding.Finding.{Finding}
use Rattle.line_model.specs.declared.totals.Totals.{Totals}
use Rattle.line_model.specs.basics.Records.{CallRecord, PieceReport}
use Rattle.line_model.specs.work.Book.{ids_of}

-- the findings of the pieces
abbrev pub piece_findings : List PieceReport → List Finding
piece_findings ps = flat_map (λ p. p.findings) ps

-- the calls of the pieces
abbrev pub all_calls : List PieceReport → List CallRecord
all_calls ps = flat_map (λ p. p.calls) ps

-- a count of pieces, their findings and calls, and their octets and segments
pub record Gathered : Type 0 where
  pub pieces : ℕ
  pub findings : List Finding
  pub calls : List CallRecord
  pub octets : ℕ
  pub segments : ℕ

-- what these reports give
abbrev pub gathered : List PieceReport → Gathered
gathered ps = record {
  pieces = length ps;
  findings = piece_findings ps;
  calls = all_calls ps;
  octets = sum_by (λ p. p.octets) ps;
  segments = sum_by (λ p. p.segments) ps;
}

-- their totals
abbrev pub counted : Gathered → Totals
counted g = record { posts = g.pieces; findings = length g.findings; octets = g.octets; segments = g.segments }

-- the results of two, one after the other
abbrev pub joined : Gathered → Gathered → Gathered
joined g h = record {
  pieces = g.pieces + h.pieces;
  findings = g.findings ++ h.findings;
  calls = g.calls ++ h.calls;
  octets = g.octets + h.octets;
  segments = g.segments + h.segments;
}

-- the results of these reports, with each list in any order
pub record AreGathered (ps : List PieceReport) (g : Gathered) : Type 0 where
  pub number : g.pieces ≡ length ps
  pub same_findings : IsPermutation (piece_findings ps) g.findings
  pub same_calls : IsPermutation (all_calls ps) g.calls
  pub same_octets : g.octets ≡ sum_by (λ p. p.octets) ps
  pub same_segments : g.segments ≡ sum_by (λ p. p.segments) ps

-- the same with the findings and the calls in the order of their packets
pub record AreSorted (g h : Gathered) : Type 0 where
  pub same_findings : IsPermutation g.findings h.findings
  pub findings_sorted : IsNonDecreasingBy (λ f. f.packet) h.findings
  pub same_calls : IsPermutation g.calls h.calls
  pub calls_sorted : IsNonDecreasingBy (λ c. c.opened) h.calls
  pub same_pieces : h.pieces ≡ g.pieces
  pub same_octets : h.octets ≡ g.octets
  pub same_segments : h.segments ≡ g.segments

-- the numbers of a report are at most 2^31
pub record IsSmall (r : PieceReport) : Type 0 where
  pub findings : length r.findings ≤ 2 ^ 31
  pub octets : r.octets ≤ 2 ^ 31
  pub segments : r.segments ≤ 2 ^ 31

-- the ids of some reports, and their results
pub record IsBundle (ps : List PieceReport) (ids : List ℕ) (g : Gathered) : Type 0 where
  pub ids_are : ids ≡ ids_of ps
  pub gathered : AreGathered ps g
  pub small : All IsSmall ps

-- at most the octets and segments that this many pieces may have, and calls with at most these segments
pub record AreFew (pieces : ℕ) (calls : List CallRecord) (octets segments : ℕ) : Type 0 where
  pub few_octets : octets ≤ 2 ^ 31 * pieces
  pub few_segments : segments ≤ 2 ^ 31 * pieces
  pub within : sum_by (λ c. c.segments) calls ≤ segments
