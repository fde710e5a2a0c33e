-- The list of the pieces, by epoch and then by channel.
use Rattle.std.specs.Prelude.{ℕ, ◌+◌, ◌-◌, Bool, true, false, List, [], ◌∷◌, map}
use Rattle.std.specs.List.{filter, flat_map, range_with_len}
use Rattle.line_model.specs.observer.Machine.{Machine, Observer, walk}
use Rattle.line_model.specs.pieces.Pieces.{placed, piece_rows}

-- whether a list has a member
abbrev pub has_some : {X : Type 0} → List X → Bool
has_some [] = false
has_some (x ∷ xs) = true

-- the epochs of the walk
abbrev pub epochs : {X L S E : Type 0} → Machine X L S E → Observer L S → List X → List ℕ
epochs m start xs = range_with_len start.epoch ((walk m start xs).epoch + 1 - start.epoch)

-- the epochs and channels that have rows
abbrev pub plan_of : {X L S E : Type 0} → Machine X L S E → Observer L S → List X → List (ℕ × ℕ)
plan_of m start xs = filter (λ p. has_some (piece_rows p.0 p.1 (placed m start xs))) (flat_map (λ e. map (λ k. (e, k)) m.channels) (epochs m start xs))
