-- Open channels: what is written to one is read from it, and the others stay.
use Rattle.std.proofs.Common.{◌≡◌, ◌≢◌, ap, refl, ℕ, zero, suc, ◌<◌, ◌≤◌, List, [], ◌∷◌, ◌++◌, length, set, get_or, map, arith, length-set, Option, None}
use Rattle.restart_epochs.specs.ChannelTables.{open_channel_at}

-- an empty place makes no difference
pub open-empty : {B T : Type 0} → (f : B → Option T) (open_channels : List B) (e : B) (k : ℕ) → f e ≡ None → open_channel_at (map f (open_channels ++ e ∷ [])) k ≡ open_channel_at (map f open_channels) k
open-empty f [] e zero h = h
open-empty f [] e (suc k) h = refl
open-empty f (open_channel ∷ open_channels) e zero h = refl
open-empty f (open_channel ∷ open_channels) e (suc k) h = open-empty f open_channels e k h

pub open-get : {B T : Type 0} → (f : B → Option T) (open_channels : List B) (k : ℕ) (d : B) → k < length open_channels → open_channel_at (map f open_channels) k ≡ f (get_or open_channels k d)
open-get f [] k d h = absurd (omega (arith, h))
open-get f (open_channel ∷ open_channels) zero d h = refl
open-get f (open_channel ∷ open_channels) (suc k) d h = open-get f open_channels k d (omega (arith, h))

pub open-past : {B T : Type 0} → (f : B → Option T) (open_channels : List B) (k : ℕ) → length open_channels ≤ k → open_channel_at (map f open_channels) k ≡ None
open-past f [] k h = refl
open-past f (open_channel ∷ open_channels) zero h = absurd (omega (arith, h))
open-past f (open_channel ∷ open_channels) (suc k) h = open-past f open_channels k (omega (arith, h))

pub open-set : {B T : Type 0} → (f : B → Option T) (open_channels : List B) (k : ℕ) (b : B) → k < length open_channels → open_channel_at (map f (set open_channels k b)) k ≡ f b
open-set f [] k b h = absurd (omega (arith, h))
open-set f (open_channel ∷ open_channels) zero b h = refl
open-set f (open_channel ∷ open_channels) (suc k) b h = open-set f open_channels k b (omega (arith, h))

pub open-other : {B T : Type 0} → (f : B → Option T) (open_channels : List B) (k j : ℕ) (b : B) → j ≢ k → open_channel_at (map f (set open_channels k b)) j ≡ open_channel_at (map f open_channels) j
open-other f [] k j b ne = refl
open-other f (open_channel ∷ open_channels) zero zero b ne = absurd (ne refl)
open-other f (open_channel ∷ open_channels) zero (suc j) b ne = refl
open-other f (open_channel ∷ open_channels) (suc k) zero b ne = refl
open-other f (open_channel ∷ open_channels) (suc k) (suc j) b ne = open-other f open_channels k j b (λ e. ne (ap suc e))

-- how many places there are
same-width : {B T : Type 0} → (f : B → Option T) (open_channels : List B) → length (map f open_channels) ≡ length open_channels
same-width f [] = refl
same-width f (open_channel ∷ open_channels) = ap suc (same-width f open_channels)

pub open-inside : {B T : Type 0} → (f : B → Option T) (open_channels : List B) (k : ℕ) → k < length (map f open_channels) → k < length open_channels
open-inside f open_channels k h = omega (arith, h, same-width f open_channels)

pub open-wide : {B T : Type 0} → (f : B → Option T) (open_channels : List B) (k : ℕ) → k < length open_channels → k < length (map f open_channels)
open-wide f open_channels k h = omega (arith, h, same-width f open_channels)

pub open-room : {B T : Type 0} → (f : B → Option T) (open_channels : List B) (k : ℕ) (b : B) → k < length open_channels → k < length (map f (set open_channels k b))
open-room {B} f open_channels k b h = omega (arith, h, same-width f (set open_channels k b), length-set {A = B})
