-- The state of each channel is that of the rows that stepped it in its epoch.
use Rattle.std.proofs.Common.{◌≡◌, ◌∙◌, sym, ap, refl, subst, ℕ, ◌+◌, Bool, true, false, true≢false, ◌&&◌, cond, eqb, None, List, [], ◌∷◌, ◌++◌, arith, append-nil, append_assoc}
use Rattle.std.proofs.lemmas.Bool.{and_parts, ne_eqb, eq-eqb, eqb-true, eqb-false}
use Rattle.line_model.specs.declared.interface.Interface.{Interface}
use Rattle.line_model.specs.basics.Records.{Item}
use Rattle.line_model.specs.channels.Gaps.{GapChannel, fresh_at}
use Rattle.line_model.specs.channels.GapRestart.{GapInterfaceState, is_gap_of_all, is_ready, routing, start_by}
use Rattle.line_model.specs.packets.Says.{packet_channel}
use Rattle.line_model.specs.observer.Machine.{Observer, after, after_by, level_moved, level_stepped, renewed, routed, stays_ready, steps_all}
use Rattle.line_model.specs.pieces.Shuffle.{is_channel}
use Rattle.line_model.specs.pieces.Pieces.{Placed, step_rows, steps_by}
use Rattle.line_model.specs.observer.Observer.{x25, row_step}
use Rattle.restart_epochs.specs.Cutting.{epoch_start, observer, places}
use Rattle.restart_epochs.proofs.Routes.{is_to_channel}
use Rattle.restart_epochs.proofs.Epochs.{later_start, later_steps, observer_more, place_of, places_more, started_next, steps_none, steps_one, steps_same}
use Rattle.restart_epochs.proofs.Growth.{within_more}
use Rattle.restart_epochs.proofs.Heads.{ends_of}
use Rattle.restart_epochs.proofs.Steps.{OnChannel, on_channel, on_level, routed_none, stepped_on}

-- a channel after some rows
abbrev pub after_rows : Interface → (channel : ℕ) → GapChannel → List Item → GapChannel
after_rows i k c [] = c
after_rows i k c (r ∷ rs) = after_rows i k (row_step i k c r).after rs

after_more : (i : Interface) (k : ℕ) (c : GapChannel) (rs : List Item) (r : Item) → after_rows i k c (rs ++ r ∷ []) ≡ (row_step i k (after_rows i k c rs) r).after
after_more i k c [] r = refl
after_more i k c (x ∷ rs) r = after_more i k (row_step i k c x).after rs r

-- a channel as its epoch begins
abbrev begun : Interface → List Item → (channel : ℕ) → GapChannel
begun i rs k = let o = observer i rs in fresh_at i (epoch_start o.epoch o.level (places i rs)) o.epoch k

-- a channel as its epoch began, after the rows that stepped it
abbrev stepped : Interface → GapInterfaceState → (epoch channel : ℕ) → List (Placed Item) → GapChannel
stepped i l e k ps = after_rows i k (fresh_at i (epoch_start e l ps) e k) (step_rows (x25 i) e k ps)

-- in r1 each channel is what these rows made of a fresh one
abbrev pub StatesAre : Interface → List Item → Type 0
StatesAre i rs = is_ready (observer i rs).level ≡ true → (k : ℕ)
    → (observer i rs).states k ≡ after_rows i k (fresh_at i (epoch_start (observer i rs).epoch (observer i rs).level (places i rs)) (observer i rs).epoch k) (step_rows (x25 i) (observer i rs).epoch k (places i rs))

-- with a row of the epoch more, which steps the channel or not
one_more : (i : Interface) (rs : List Item) (r : Item) (k : ℕ) (l' : GapInterfaceState) → let o = observer i rs in (steps_by k (place_of i rs r) (is_gap_of_all r) && eqb o.epoch o.epoch) ≡ true
    → stepped i l' o.epoch k (places i rs ++ place_of i rs r ∷ []) ≡ (row_step i k (stepped i o.level o.epoch k (places i rs)) r).after
one_more i rs r k l' steps =
    let o = observer i rs in
    let p = place_of i rs r in
    (λ j. after_rows i k (fresh_at i (started_next o.epoch o.level l' (places i rs) p (eq-eqb o.epoch o.epoch refl) refl j) o.epoch k) (steps_one i o.epoch k (places i rs) p steps j))
    ∙ after_more i k (fresh_at i (epoch_start o.epoch o.level (places i rs)) o.epoch k) (step_rows (x25 i) o.epoch k (places i rs)) r

not_more : (i : Interface) (rs : List Item) (r : Item) (k : ℕ) (l' : GapInterfaceState) → let o = observer i rs in (steps_by k (place_of i rs r) (is_gap_of_all r) && eqb o.epoch o.epoch) ≡ false
    → stepped i l' o.epoch k (places i rs ++ place_of i rs r ∷ []) ≡ stepped i o.level o.epoch k (places i rs)
not_more i rs r k l' steps =
    let o = observer i rs in
    let p = place_of i rs r in
    λ j. after_rows i k (fresh_at i (started_next o.epoch o.level l' (places i rs) p (eq-eqb o.epoch o.epoch refl) refl j) o.epoch k) (steps_same i o.epoch k (places i rs) p steps j)

-- and with the first row after an epoch
anew : (i : Interface) (rs : List Item) (r : Item) (k : ℕ) (l' : GapInterfaceState) → let o = observer i rs in stepped i l' (o.epoch + 1) k (places i rs ++ place_of i rs r ∷ []) ≡ fresh_at i (start_by l') (o.epoch + 1) k
anew i rs r k l' =
    let o = observer i rs in
    let p = place_of i rs r in
    let within = within_more (places i rs) p o.epoch (ends_of i rs).within refl in
    λ j. after_rows i k (fresh_at i (later_start o.epoch (o.epoch + 1) l' (places i rs ++ p ∷ []) (omega arith) within j) (o.epoch + 1) k) (later_steps i o.epoch (o.epoch + 1) k (places i rs ++ p ∷ []) (omega arith) within j)

-- the state of a channel after a row
abbrev StateIs : Interface → List Item → Item → ℕ → Observer GapInterfaceState GapChannel → Type 0
StateIs i rs r k o' = o'.states k ≡ stepped i o'.level o'.epoch k (places i rs ++ place_of i rs r ∷ [])

states_channel : (i : Interface) (rs : List Item) (r : Item) (k : ℕ) → StatesAre i rs → is_to_channel (routing (observer i rs).level r).route ≡ true → StateIs i rs r k (after (x25 i) (observer i rs) r)
states_channel i rs r k h to = subst (StateIs i rs r k) (sym (stepped_on i (observer i rs) r to)) (at (eqb k (packet_channel r.packet)) refl)
  where
    o : Observer GapInterfaceState GapChannel
    o = observer i rs

    n : ℕ
    n = packet_channel r.packet

    on : OnChannel i rs r
    on = on_channel i rs r to

    steps : (steps_by k (place_of i rs r) (is_gap_of_all r) && eqb o.epoch o.epoch) ≡ (eqb n k && eqb o.epoch o.epoch)
    steps = (λ j. steps_by k (place_of i rs r) (on.own j) && eqb o.epoch o.epoch) ∙ (λ j. is_channel k (on.channel j) && eqb o.epoch o.epoch)

    at : (b : Bool) → eqb k n ≡ b → (let s : GapChannel = cond (eqb k n) (row_step i n (o.states n) r).after (o.states k) in s) ≡ stepped i o.level o.epoch k (places i rs ++ place_of i rs r ∷ [])
    at true same =
        let e : k ≡ n = eqb-true k n same in
        ap (λ b. cond b (row_step i n (o.states n) r).after (o.states k)) same
        ∙ ap (λ m. (row_step i m (o.states m) r).after) (sym e)
        ∙ ap (λ g. (row_step i k g r).after) (h on.ready k)
        ∙ sym (one_more i rs r k o.level (steps ∙ ap (λ b. b && eqb o.epoch o.epoch) (eq-eqb n k (sym e)) ∙ eq-eqb o.epoch o.epoch refl))
    at false other =
        let ne = eqb-false k n other in
        ap (λ b. cond b (row_step i n (o.states n) r).after (o.states k)) other
        ∙ h on.ready k
        ∙ sym (not_more i rs r k o.level (steps ∙ ap (λ b. b && eqb o.epoch o.epoch) (ne_eqb n k (λ e. ne (sym e)))))

-- a row of the interface level, after which r1 is the state
moved : (i : Interface) (rs : List Item) (r : Item) (k : ℕ) (b a : Bool) → let o = observer i rs in StatesAre i rs → is_ready o.level ≡ b → a ≡ true → (steps_by k (place_of i rs r) (is_gap_of_all r) && eqb o.epoch o.epoch) ≡ false
    → StateIs i rs r k (level_moved (x25 i) o (routing o.level r).after b a)
moved i rs r k true a h was will steps = h was k ∙ sym (not_more i rs r k (routing (observer i rs).level r).after steps)
moved i rs r k false true h was will steps = sym (anew i rs r k (routing (observer i rs).level r).after)
moved i rs r k false false h was will steps = absurd (true≢false (sym will))

stepped_level : (i : Interface) (rs : List Item) (r : Item) (k : ℕ) (v : Bool) → let o = observer i rs in StatesAre i rs → is_ready (routing o.level r).after ≡ true → (steps_by k (place_of i rs r) (is_gap_of_all r) && eqb o.epoch o.epoch) ≡ false
    → StateIs i rs r k (level_stepped (x25 i) o r v)
stepped_level i rs r k true h will steps = sym (anew i rs r k (routing (observer i rs).level r).after)
stepped_level i rs r k false h will steps = moved i rs r k (is_ready (observer i rs).level) (is_ready (routing (observer i rs).level r).after) h refl will steps

states_level : (i : Interface) (rs : List Item) (r : Item) (k : ℕ) → StatesAre i rs → is_to_channel (routing (observer i rs).level r).route ≡ false → is_ready (routing (observer i rs).level r).after ≡ true → StateIs i rs r k (after (x25 i) (observer i rs) r)
states_level i rs r k h to will = at (steps_all (x25 i) (observer i rs).level r) refl
  where
    o : Observer GapInterfaceState GapChannel
    o = observer i rs

    none : routed (x25 i) o.level r ≡ None
    none = routed_none i o.level r to

    at : (v : Bool) → steps_all (x25 i) o.level r ≡ v → StateIs i rs r k (after_by (x25 i) o r v (routed (x25 i) o.level r))
    at true all =
        let parts = and_parts (is_gap_of_all r) (stays_ready (x25 i) o.level r) all in
        let ready = (and_parts (is_ready o.level) (is_ready (routing o.level r).after) parts.1).0 in
        ap (λ g. (row_step i k g r).after) (h ready k)
        ∙ sym (one_more i rs r k (routing o.level r).after ((λ j. steps_by k (place_of i rs r) (parts.0 j) && eqb o.epoch o.epoch) ∙ (λ j. all j && eqb o.epoch o.epoch) ∙ eq-eqb o.epoch o.epoch refl))
    at false alone =
        subst (λ q. StateIs i rs r k (after_by (x25 i) o r false q)) (sym none)
        (stepped_level i rs r k (renewed (x25 i) o.level r) h will (ap (λ b. b && eqb o.epoch o.epoch) (steps_none (place_of i rs r) k none alone (is_gap_of_all r))))

states_one : (i : Interface) (rs : List Item) (r : Item) → StatesAre i rs → StatesAre i (rs ++ r ∷ [])
states_one i rs r h ready k =
    subst (λ ps. (observer i (rs ++ r ∷ [])).states k ≡ stepped i (observer i (rs ++ r ∷ [])).level (observer i (rs ++ r ∷ [])).epoch k ps) (sym (places_more i rs r))
    (subst (StateIs i rs r k) (sym (observer_more i rs r)) (at (is_to_channel (routing (observer i rs).level r).route) refl))
  where
    at : (b : Bool) → is_to_channel (routing (observer i rs).level r).route ≡ b → StateIs i rs r k (after (x25 i) (observer i rs) r)
    at true to = states_channel i rs r k h to
    at false to = states_level i rs r k h to (sym (ap is_ready (on_level i rs r to).level) ∙ ready)

states_from : (i : Interface) (rs more : List Item) → StatesAre i rs → StatesAre i (rs ++ more)
states_from i rs [] h = subst (StatesAre i) (sym (append-nil rs)) h
states_from i rs (r ∷ more) h = subst (StatesAre i) (append_assoc rs (r ∷ []) more) (states_from i (rs ++ r ∷ []) more (states_one i rs r h))

pub states_of : (i : Interface) (rs : List Item) → StatesAre i rs
states_of i rs = states_from i [] rs (λ ready k. refl)
