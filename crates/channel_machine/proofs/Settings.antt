-- What the pairs of a message set, one after another and all at once.
use Rattle.std.proofs.Common.{◌≡◌, ℕ, true, false, ◌∙◌, ap, List}
use Rattle.std.specs.Prelude.{flat_map}
use Rattle.line_model.specs.declared.state.Side.{Side}
use Rattle.line_model.specs.basics.Octets.{bits}
use Rattle.line_model.specs.channels.Pad.{Pair, is_parameter, indicated, asked}
use Rattle.pad.specs.Pairs.{pairs_before}
use Rattle.pad.specs.Effects.{indicated_one, asked_one, all_indicated, all_asked}
use Rattle.pad.proofs.Walked.{passed}

pub indicated_all : (pad : Side) (octets : List ℕ) (ps : List Pair) → ps ≡ pairs_before true octets → flat_map (indicated_one pad) ps ≡ all_indicated pad octets
indicated_all pad octets ps e =
    ap (λ l. flat_map (indicated_one pad) l) e ∙ passed (λ p. is_parameter (bits 7 1 p.reference)) (indicated pad) (pairs_before true octets)

pub asked_all : (pad : Side) (octets : List ℕ) (ps : List Pair) → ps ≡ pairs_before false octets → flat_map (asked_one pad) ps ≡ all_asked pad octets
asked_all pad octets ps e =
    ap (λ l. flat_map (asked_one pad) l) e ∙ passed (λ p. is_parameter p.reference) (asked pad) (pairs_before false octets)
