-- What one more row does to the observer, by its route.
use Rattle.std.proofs.Common.{◌≡◌, ◌∙◌, sym, ap, subst, refl, ℕ, Bool, true, false, true≢false, ◌&&◌, cond, not, List, [], ◌∷◌, ◌++◌, Option, Some, None}
use Rattle.std.proofs.lemmas.Bool.{and_parts, and_right}
use Rattle.line_model.specs.declared.interface.Interface.{Interface}
use Rattle.line_model.specs.declared.route.Route.{Route}
use Rattle.line_model.specs.declared.route.Route.TheVariants.{Pass, Found, Leave, Enter, Renew, ToChannel}
use Rattle.line_model.specs.basics.Records.{Item}
use Rattle.line_model.specs.packets.Says.{gap_of, packet_channel}
use Rattle.line_model.specs.channels.GapRestart.{GapInterfaceState, is_gap_of_all, is_of_all, is_ready, level_in_r1_with, routing}
use Rattle.line_model.specs.channels.Gaps.{GapChannel}
use Rattle.line_model.specs.observer.Machine.{Observer, after, after_by, after_routed, channel_unless, level_moved, level_stepped, routed, stays_ready, steps_all}
use Rattle.line_model.specs.pieces.Pieces.{leaves_by, leaves_level}
use Rattle.line_model.specs.observer.Observer.{x25, channel_in_r1, is_renewal}
use Rattle.restart_epochs.specs.Cutting.{observer}
use Rattle.restart_epochs.specs.Walks.{epoch_after}
use Rattle.restart_epochs.proofs.Routes.{is_to_channel, is_leaving, fits_route, fits, alike, all_passes, not_for_all, handed_to, handed_none, quiet_at}
use Rattle.restart_epochs.proofs.Epochs.{place_of, observer_more}

to_channel_route : (route : Route) (b a : Bool) → is_to_channel route ≡ true → fits_route b a route ≡ true → b ≡ true
to_channel_route ToChannel b a h f = (and_parts b a f).0
to_channel_route Pass b a h f = absurd (true≢false (sym h))
to_channel_route (Found s n) b a h f = absurd (true≢false (sym h))
to_channel_route (Leave c) b a h f = absurd (true≢false (sym h))
to_channel_route Enter b a h f = absurd (true≢false (sym h))
to_channel_route Renew b a h f = absurd (true≢false (sym h))

-- a row that goes to its channel finds r1
pub in_r1 : (l : GapInterfaceState) (r : Item) → is_to_channel (routing l r).route ≡ true → is_ready l ≡ true
in_r1 l r h = to_channel_route (routing l r).route (is_ready l) _ h (fits l r)

pub in_r1_alone : (i : Interface) (l : GapInterfaceState) (r : Item) → is_to_channel (routing l r).route ≡ true → steps_all (x25 i) l r ≡ false
in_r1_alone i l r h = ap (λ b. b && stays_ready (x25 i) l r) (not_for_all l r h)

-- its channel in r1
pub handed_at : (l : GapInterfaceState) (r : Item) → is_to_channel (routing l r).route ≡ true → channel_in_r1 r ≡ Some (packet_channel r.packet)
handed_at l r h = handed_to (routing (level_in_r1_with false false) r).route (packet_channel r.packet) (sym (alike l r (in_r1 l r h)) ∙ h)

pub routed_to : (i : Interface) (l : GapInterfaceState) (r : Item) → is_to_channel (routing l r).route ≡ true → routed (x25 i) l r ≡ Some (packet_channel r.packet)
routed_to i l r h =
    ap (λ b. cond b (channel_unless (x25 i) r (is_of_all (gap_of r.packet))) None) (in_r1 l r h)
    ∙ ap (channel_unless (x25 i) r) (not_for_all l r h) ∙ handed_at l r h

none_at : (b : Bool) (o : Option ℕ) → (b ≡ true → o ≡ None) → cond b o None ≡ None
none_at true o h = h refl
none_at false o h = refl

pub routed_none : (i : Interface) (l : GapInterfaceState) (r : Item) → is_to_channel (routing l r).route ≡ false → routed (x25 i) l r ≡ None
routed_none i l r h =
    none_at (is_ready l) (channel_unless (x25 i) r (is_of_all (gap_of r.packet)))
    (λ ready. unless (is_of_all (gap_of r.packet)) (handed_none (routing (level_in_r1_with false false) r).route (packet_channel r.packet) (sym (alike l r ready) ∙ h)))
  where
    unless : (all : Bool) → channel_in_r1 r ≡ None → channel_unless (x25 i) r all ≡ None
    unless true none = refl
    unless false none = none

-- the observer after a row that goes to its channel
pub stepped_on : (i : Interface) (o : Observer GapInterfaceState GapChannel) (r : Item) → is_to_channel (routing o.level r).route ≡ true → after (x25 i) o r ≡ after_routed (x25 i) o r (Some (packet_channel r.packet))
stepped_on i o r h = λ j. after_by (x25 i) o r (in_r1_alone i o.level r h j) (routed_to i o.level r h j)

-- what a row on a channel leaves
pub record OnChannel (i : Interface) (rs : List Item) (r : Item) : Type 0 where
  pub own : is_gap_of_all r ≡ false
  pub ready : is_ready (observer i rs).level ≡ true
  pub level : (observer i (rs ++ r ∷ [])).level ≡ (observer i rs).level
  pub epoch : (observer i (rs ++ r ∷ [])).epoch ≡ (observer i rs).epoch
  pub channel : (place_of i rs r).channel ≡ Some (packet_channel r.packet)
  pub leaves : (place_of i rs r).leaves ≡ false

pub on_channel : (i : Interface) (rs : List Item) (r : Item) → is_to_channel (routing (observer i rs).level r).route ≡ true → OnChannel i rs r
on_channel i rs r h =
    let o = observer i rs in
    let to = routed_to i o.level r h in
    record {
      own = not_for_all o.level r h;
      ready = in_r1 o.level r h;
      level = ap (λ p. p.level) (observer_more i rs r ∙ stepped_on i o r h);
      epoch = ap (λ p. p.epoch) (observer_more i rs r ∙ stepped_on i o r h);
      channel = to;
      leaves = λ j. leaves_by (x25 i) o.level r (in_r1_alone i o.level r h j) (to j);
    }

-- ---- a row of the interface level

moved_level : (i : Interface) (o : Observer GapInterfaceState GapChannel) (l : GapInterfaceState) (b a : Bool) → (level_moved (x25 i) o l b a).level ≡ l
moved_level i o l false true = refl
moved_level i o l false false = refl
moved_level i o l true true = refl
moved_level i o l true false = refl

-- what is left of an observer after a row, and whether it ends the epoch
record IsLeftBy (o p : Observer GapInterfaceState GapChannel) (next : GapInterfaceState) (route : Route) (leaves : Bool) : Type 0 where
  level : p.level ≡ next
  epoch : p.epoch ≡ epoch_after o.epoch route
  left : leaves ≡ is_leaving route

moved_by : (i : Interface) (o : Observer GapInterfaceState GapChannel) (r : Item) (t : Route) (b a : Bool) → is_ready o.level ≡ b → is_ready (routing o.level r).after ≡ a
    → (level_moved (x25 i) o (routing o.level r).after b a).epoch ≡ epoch_after o.epoch t → (b && not a) ≡ is_leaving t
    → IsLeftBy o (level_stepped (x25 i) o r false) (routing o.level r).after t (leaves_level (x25 i) o.level r false)
moved_by i o r t b a was will epoch leaves = record {
  level = moved_level i o (routing o.level r).after (is_ready o.level) (is_ready (routing o.level r).after);
  epoch = (λ j. (level_moved (x25 i) o (routing o.level r).after (was j) (will j)).epoch) ∙ epoch;
  left = (λ j. was j && not (will j)) ∙ leaves;
}

-- a row that is for no channel, by its route
stepped_by : (i : Interface) (o : Observer GapInterfaceState GapChannel) (r : Item) (t : Route) (b a : Bool) → is_ready o.level ≡ b → is_ready (routing o.level r).after ≡ a → fits_route b a t ≡ true → is_to_channel t ≡ false
    → IsLeftBy o (level_stepped (x25 i) o r (is_renewal t && (b && a))) (routing o.level r).after t (leaves_level (x25 i) o.level r (is_renewal t && (b && a)))
stepped_by i o r Renew true true was will fit to = record { level = refl; epoch = refl; left = refl }
stepped_by i o r Renew true false was will fit to = absurd (true≢false (sym fit))
stepped_by i o r Renew false a was will fit to = absurd (true≢false (sym fit))
stepped_by i o r Pass true true was will fit to = moved_by i o r Pass true true was will refl refl
stepped_by i o r Pass false false was will fit to = moved_by i o r Pass false false was will refl refl
stepped_by i o r Pass true false was will fit to = absurd (true≢false (sym fit))
stepped_by i o r Pass false true was will fit to = absurd (true≢false (sym fit))
stepped_by i o r (Found s n) true true was will fit to = moved_by i o r (Found s n) true true was will refl refl
stepped_by i o r (Found s n) false false was will fit to = moved_by i o r (Found s n) false false was will refl refl
stepped_by i o r (Found s n) true false was will fit to = absurd (true≢false (sym fit))
stepped_by i o r (Found s n) false true was will fit to = absurd (true≢false (sym fit))
stepped_by i o r (Leave c) true false was will fit to = moved_by i o r (Leave c) true false was will refl refl
stepped_by i o r (Leave c) true true was will fit to = absurd (true≢false (sym fit))
stepped_by i o r (Leave c) false a was will fit to = absurd (true≢false (sym fit))
stepped_by i o r Enter false true was will fit to = moved_by i o r Enter false true was will refl refl
stepped_by i o r Enter false false was will fit to = absurd (true≢false (sym fit))
stepped_by i o r Enter true a was will fit to = absurd (true≢false (sym fit))
stepped_by i o r ToChannel b a was will fit to = absurd (true≢false to)

-- what a row of the interface level leaves
pub record OnLevel (i : Interface) (rs : List Item) (r : Item) : Type 0 where
  pub level : (observer i (rs ++ r ∷ [])).level ≡ (routing (observer i rs).level r).after
  pub epoch : (observer i (rs ++ r ∷ [])).epoch ≡ epoch_after (observer i rs).epoch (routing (observer i rs).level r).route
  pub channel : (place_of i rs r).channel ≡ None
  pub leaves : (place_of i rs r).leaves ≡ is_leaving (routing (observer i rs).level r).route

pub on_level : (i : Interface) (rs : List Item) (r : Item) → is_to_channel (routing (observer i rs).level r).route ≡ false → OnLevel i rs r
on_level i rs r h =
    let o = observer i rs in
    let left = at (steps_all (x25 i) o.level r) refl in
    record {
      level = ap (λ p. p.level) (observer_more i rs r) ∙ left.level;
      epoch = ap (λ p. p.epoch) (observer_more i rs r) ∙ left.epoch;
      channel = routed_none i o.level r h;
      leaves = left.left;
    }
  where
    o : Observer GapInterfaceState GapChannel
    o = observer i rs

    at : (v : Bool) → steps_all (x25 i) o.level r ≡ v
        → IsLeftBy o (after_by (x25 i) o r v (routed (x25 i) o.level r)) (routing o.level r).after (routing o.level r).route (leaves_by (x25 i) o.level r v (routed (x25 i) o.level r))
    at true all =
        let w = and_parts (is_of_all (gap_of r.packet)) (stays_ready (x25 i) o.level r) all in
        let pass = all_passes o.level r w.0 (and_parts (is_ready o.level) (is_ready (routing o.level r).after) w.1).0 in
        record { level = refl; epoch = ap (epoch_after o.epoch) (sym pass); left = ap is_leaving (sym pass) }
    at false all =
        subst (λ q. IsLeftBy o (after_by (x25 i) o r false q) (routing o.level r).after (routing o.level r).route (leaves_by (x25 i) o.level r false q)) (sym (routed_none i o.level r h))
        (stepped_by i o r (routing o.level r).route (is_ready o.level) (is_ready (routing o.level r).after) refl refl (fits o.level r) h)

-- ---- whether a row steps each channel

-- outside r1 it does not
pub unready_alone : (i : Interface) (l : GapInterfaceState) (r : Item) → is_ready l ≡ false → steps_all (x25 i) l r ≡ false
unready_alone i l r h = and_right (is_gap_of_all r) (stays_ready (x25 i) l r) (ap (λ b. b && is_ready (routing l r).after) h)

-- nor does a row that is no gap of all channels
pub own_alone : (i : Interface) (l : GapInterfaceState) (r : Item) → is_gap_of_all r ≡ false → steps_all (x25 i) l r ≡ false
own_alone i l r h = ap (λ b. b && stays_ready (x25 i) l r) h

-- a gap of all channels in r1 does
pub gap_steps_all : (i : Interface) (l : GapInterfaceState) (r : Item) → is_gap_of_all r ≡ true → is_ready l ≡ true → steps_all (x25 i) l r ≡ true
gap_steps_all i l r gap ready =
    let pass = all_passes l r gap ready in
    let after : is_ready (routing l r).after ≡ true = quiet_at (is_ready l) (is_ready (routing l r).after) Pass refl (ap (fits_route (is_ready l) (is_ready (routing l r).after)) (sym pass) ∙ fits l r) ∙ ready in
    λ j. gap j && (ready j && after j)
