-- A channel is given again only where the circuit that had it is surely in p1.
use Rattle.std.proofs.Common.{◌≡◌, ◌∙◌, sym, ap, refl, subst, ℕ, ◌+◌, ◌<◌, ◌≤◌, ◌⊎◌, inl, inr, Bool, true, false, cond, List, [], ◌∷◌, arith, length, Option, Some, None, slice_index_or, ◌≢◌, get_or-set_other, get_or-set_same, length-set, nat_lt, true≢false}
use Rattle.std.proofs.lemmas.Bool.{and_parts, cases_eq, leb-true, ltb-true}
use Rattle.xot_circuits.specs.Plans.{AreAfter, AreApart, AreOrdered, ArePlanned, ChannelsView, IsApart, IsFound, IsGiven, IsOn, after_given, fits, is_unused, since_before, use_after}
use Rattle.xot_circuits.specs.declared.channels.ChannelUse.{ChannelUse}
use Rattle.xot_circuits.specs.declared.channels.ChannelUse.TheVariants.{Unused, Taken, Free}
use Rattle.xot_circuits.specs.declared.channels.Given.{Given}
use Rattle.xot_circuits.specs.declared.channels.Wanted.{Wanted}

-- who has a channel after a circuit had it
abbrev Stands : Wanted → ChannelUse → Type 0
Stands w Unused = ⊥
Stands w Taken = Unit {0}
Stands w (Free since) = (w.is_clear ≡ true) × (w.last ≤ since)

abbrev pub use_of : ChannelsView → ℕ → ChannelUse
use_of c k = slice_index_or c.uses k Unused

abbrev pub IsSized : ChannelsView → Type 0
IsSized c = length c.uses ≡ c.interface.svc + 1

-- a channel that fits is one of the interface's
pub in_range : (c : ChannelsView) (w : Wanted) (k : ℕ) → IsSized c → fits c.interface w.purpose k ≡ true → k < length c.uses
in_range c w k sized h =
    let le : k ≤ c.interface.svc = leb-true k c.interface.svc (and_parts _ _ h).0 in
    omega (arith, le, sized)

unused_is : (u : ChannelUse) → is_unused u ≡ true → u ≡ Unused
unused_is Unused h = refl
unused_is Taken h = absurd (true≢false (sym h))
unused_is (Free since) h = absurd (true≢false (sym h))

before_is : (row since t : ℕ) (b : Bool) → nat_lt t row ≡ b → cond b (Some t) None ≡ Some since → (t ≡ since) × (t < row)
before_is row since t true e h = (cc h, ltb-true t row e)
before_is row since t false e h = absurd (cc h)

pub free_is : (row since : ℕ) (b : Bool) (u : ChannelUse) → cond b (since_before row u) None ≡ Some since → (b ≡ true) × (u ≡ Free since) × (since < row)
free_is row since false u h = absurd (cc h)
free_is row since true Unused h = absurd (cc h)
free_is row since true Taken h = absurd (cc h)
free_is row since true (Free t) h =
    let e = before_is row since t (nat_lt t row) refl h in
    (refl, ap Free e.0, subst (λ (n : ℕ). n < row) e.0 e.1)

pub given_fits : (c : ChannelsView) (w : Wanted) (g : Given) (b : Bool) → IsGiven c w g b → fits c.interface w.purpose g.channel ≡ true
given_fits c w g false h = (and_parts _ _ h.0).0
given_fits c w g true h = (free_is w.first h.1.0 _ _ h.1.1).0

given_apart : (c : ChannelsView) (v w : Wanted) (g : Given) (b : Bool) → IsGiven c w g b → Stands v (use_of c g.channel) → IsApart v w
given_apart c v w g false h s = absurd (subst (Stands v) (unused_is _ (and_parts _ _ h.0).1) s)
given_apart c v w g true h s =
    let free = free_is w.first h.1.0 _ _ h.1.1 in
    let stands : Stands v (Free h.1.0) = subst (Stands v) free.1 s in
    (stands.0, omega (arith, stands.1, free.2))

use_stands : (v w : Wanted) (b : Bool) → IsApart v w → w.first ≤ w.last → Stands v (cond b (Free w.last) Taken)
use_stands v w false a o = tt
use_stands v w true a o = (a.0, omega (arith, a.1, o))

own_stands : (w : Wanted) (b : Bool) → w.is_clear ≡ b → Stands w (cond b (Free w.last) Taken)
own_stands w false e = tt
own_stands w true e = (e, omega arith)

set_use : (c : ChannelsView) (w : Wanted) (g : Given) → IsSized c → IsFound c w (Some g) → use_of (after_given (Some g) w c) g.channel ≡ use_after w
set_use c w g sized h = get_or-set_same c.uses g.channel (use_after w) Unused (in_range c w g.channel sized (given_fits c w g g.is_again h))

kept_use : (c : ChannelsView) (w : Wanted) (g : Given) (k : ℕ) → k ≢ g.channel → use_of (after_given (Some g) w c) k ≡ use_of c k
kept_use c w g k other = get_or-set_other c.uses g.channel k (use_after w) Unused other

sized_after : (c : ChannelsView) (w : Wanted) (g : Option Given) → IsSized c → IsSized (after_given g w c)
sized_after c w None s = s
sized_after c w (Some g) s = length-set c.uses g.channel (use_after w) ∙ s

stands_after : (c : ChannelsView) (v w : Wanted) (g : Option Given) (k : ℕ) → IsSized c → IsFound c w g → w.first ≤ w.last → Stands v (use_of c k) → Stands v (use_of (after_given g w c) k)
stands_after c v w None k sized h o s = s
stands_after c v w (Some g) k sized h o s = at (cases_eq k g.channel) where
  at : (k ≡ g.channel) ⊎ (k ≢ g.channel) → Stands v (use_of (after_given (Some g) w c) k)
  at (inl e) = subst (λ (j : ℕ). Stands v (use_of (after_given (Some g) w c) j)) (sym e)
      (subst (Stands v) (sym (set_use c w g sized h)) (use_stands v w w.is_clear (given_apart c v w g g.is_again h (subst (λ (j : ℕ). Stands v (use_of c j)) e s)) o))
  at (inr n) = subst (Stands v) (sym (kept_use c w g k n)) s

found_apart : (c : ChannelsView) (v w : Wanted) (g : Option Given) (k : ℕ) → IsFound c w g → Stands v (use_of c k) → IsOn g k → IsApart v w
found_apart c v w None k h s on = absurd on
found_apart c v w (Some g) k h s on = given_apart c v w g g.is_again h (subst (λ (j : ℕ). Stands v (use_of c j)) (sym on) s)

found_stands : (c : ChannelsView) (w : Wanted) (g : Option Given) (k : ℕ) → IsSized c → IsFound c w g → IsOn g k → Stands w (use_of (after_given g w c) k)
found_stands c w None k sized h on = absurd on
found_stands c w (Some g) k sized h on = subst (λ (j : ℕ). Stands w (use_of (after_given (Some g) w c) j)) on (subst (Stands w) (sym (set_use c w g sized h)) (own_stands w w.is_clear refl))

after_are : (v : Wanted) (k : ℕ) (c : ChannelsView) (ws : List Wanted) (gs : List (Option Given)) → IsSized c → ArePlanned c ws gs → AreOrdered ws → Stands v (use_of c k) → AreAfter v k ws gs
after_are v k c [] gs sized p o s = tt
after_are v k c (w ∷ ws) [] sized p o s = tt
after_are v k c (w ∷ ws) (g ∷ gs) sized p o s =
    (found_apart c v w g k p.0 s, after_are v k (after_given g w c) ws gs (sized_after c w g sized) p.1 o.1 (stands_after c v w g k sized p.0 o.0 s))

-- what was planned shares a channel only where the first circuit's is in p1
pub apart : (c : ChannelsView) (ws : List Wanted) (gs : List (Option Given)) → IsSized c → ArePlanned c ws gs → AreOrdered ws → AreApart ws gs
apart c [] gs sized p o = tt
apart c (w ∷ ws) [] sized p o = tt
apart c (w ∷ ws) (g ∷ gs) sized p o = (
  λ k on. after_are w k (after_given g w c) ws gs (sized_after c w g sized) p.1 o.1 (found_stands c w g k sized p.0 on),
  apart (after_given g w c) ws gs (sized_after c w g sized) p.1 o.1,
)
