-- The rows of circuits: what their types say, and their logical channels.
use Rattle.std.proofs.Common.{◌≡◌, ◌∙◌, refl, ℕ, ◌+◌, ◌*◌, ◌/◌, ◌%◌, ◌<◌, ◌≤◌, Bool, true, false, List, [], ◌∷◌, ap, arith, drop, get_or, length, suc}
use Rattle.std.specs.Prelude.{nat_le, nat_lt, if◌then◌else◌}
use Rattle.std.specs.List.{list_all}
use Rattle.std.proofs.lemmas.Bool.{lt-ltb}
use Rattle.hex.specs.Hex.{IsBytes}
use Rattle.line_model.specs.basics.Octets.{channel_of}
use Rattle.line_model.specs.declared.state.Side.{Side}
use Rattle.capture_report.specs.CircuitRows.{Missing, Sent, is_typed_content, sent_or_missing, with_channel}

octets_typed : (xs : List ℕ) → IsBytes xs → list_all (λ x. nat_lt x 256) xs ≡ true
octets_typed [] h = refl
octets_typed (x ∷ xs) h = let small : x < 256 = h 0 in rw (lt-ltb x 256 small, octets_typed xs (λ k. h (suc k))) refl

pub content_typed : (side : Side) (xs : List ℕ) → IsBytes xs → is_typed_content (sent_or_missing side xs) ≡ true
content_typed side xs h = at (nat_le (length xs) 4200)
  where
    at : (few : Bool) → is_typed_content (if few then Sent side xs else Missing) ≡ true
    at true = octets_typed xs h
    at false = refl

-- what is known of a packet whose logical channel was written says all of it
pub channel_written : (before after : List ℕ) (c : ℕ) → ((i : ℕ) → i < length after → get_or after i 0 < 256) → length after ≡ length before → (2 ≤ length before → channel_of after ≡ c)
    → get_or after 0 0 / 16 ≡ get_or before 0 0 / 16 → drop 2 after ≡ drop 2 before → (length before < 2 → after ≡ before) → after ≡ with_channel c before
channel_written [] after c bytes same channel format others few = few (omega arith)
channel_written (x ∷ []) after c bytes same channel format others few = few (omega arith)
channel_written (x ∷ y ∷ xs) [] c bytes same channel format others few = absurd (omega (arith, same))
channel_written (x ∷ y ∷ xs) (a ∷ []) c bytes same channel format others few = absurd (omega (arith, same))
channel_written (x ∷ y ∷ xs) (a ∷ b ∷ ys) c bytes same channel format others few =
    let is = channel (omega arith) in
    let small : b < 256 = bytes 1 (omega arith) in
    let first : a ≡ x / 16 * 16 + c / 256 = omega (arith, is, small, format, bytes 0 (omega arith)) in
    let second : b ≡ c % 256 = omega (arith, is, small) in
    ap (λ k. k ∷ b ∷ ys) first ∙ ap (λ k. (x / 16 * 16 + c / 256) ∷ k ∷ ys) second ∙ ap (λ zs. (x / 16 * 16 + c / 256) ∷ (c % 256) ∷ zs) others
