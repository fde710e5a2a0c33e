-- The pieces that are complete come first in the plan of the rows that come, whatever they are.
use Rattle.std.proofs.Common.{◌≡◌, ◌∙◌, sym, ap, subst, refl, ℕ, zero, suc, ◌+◌, ◌-◌, ◌<◌, ◌≤◌, ◌⊎◌, inl, inr, Bool, true, false, true≢false, eqb, List, [], ◌∷◌, ◌++◌, length, arith, append-nil, append_assoc}
use Rattle.std.proofs.lemmas.Bool.{eqb-true, eqb-false}
use Rattle.line_model.specs.declared.interface.Interface.{Interface}
use Rattle.line_model.specs.basics.Records.{Item, Piece}
use Rattle.std.specs.Prelude.{is_some}
use Rattle.line_model.specs.declared.route.Route.{Route}
use Rattle.line_model.specs.declared.route.Route.TheVariants.{Pass, Found, Leave, Enter, Renew, ToChannel}
use Rattle.line_model.specs.channels.GapRestart.{is_ready, routing}
use Rattle.line_model.specs.pieces.Pieces.{Placed, piece_end}
use Rattle.line_model.specs.pieces.Plans.{plan}
use Rattle.restart_epochs.specs.Cutting.{observer, places, given_of, EndsOf}
use Rattle.restart_epochs.specs.Walks.{epoch_after}
use Rattle.restart_epochs.proofs.Routes.{fits, fits_route, is_leaving, is_to_channel}
use Rattle.restart_epochs.proofs.Epochs.{place_of, places_more}
use Rattle.restart_epochs.proofs.Steps.{on_channel, on_level, unready_alone}
use Rattle.restart_epochs.proofs.Cuts.{SameEpoch, pieces_to, pieces_in, keys_to, pieces_more, pieces_to_same, plan_is}
use Rattle.restart_epochs.proofs.Growth.{ends_by, ends_nothing, ends_same, whole_epochs, given_pieces, same_below, same_level}

-- ---- the epochs of any rows

abbrev Ends : Interface → List Item → Type 0
Ends i rs = EndsOf (places i rs) (observer i rs).epoch (is_ready (observer i rs).level)

ends_one : (i : Interface) (rs : List Item) (r : Item) → Ends i rs → Ends i (rs ++ r ∷ [])
ends_one i rs r h = at (is_to_channel (routing (observer i rs).level r).route) refl
  where
    ends_here : (epoch : ℕ) (ready : Bool) → (observer i (rs ++ r ∷ [])).epoch ≡ epoch → is_ready (observer i (rs ++ r ∷ [])).level ≡ ready → EndsOf (places i rs ++ place_of i rs r ∷ []) epoch ready → Ends i (rs ++ r ∷ [])
    ends_here epoch ready e l s = subst (λ ps. EndsOf ps (observer i (rs ++ r ∷ [])).epoch (is_ready (observer i (rs ++ r ∷ [])).level)) (sym (places_more i rs r))
        (subst (λ n. EndsOf (places i rs ++ place_of i rs r ∷ []) n (is_ready (observer i (rs ++ r ∷ [])).level)) (sym e) (subst (EndsOf (places i rs ++ place_of i rs r ∷ []) epoch) (sym l) s))

    at : (b : Bool) → is_to_channel (routing (observer i rs).level r).route ≡ b → Ends i (rs ++ r ∷ [])
    at true to =
        let on = on_channel i rs r to in
        ends_here (observer i rs).epoch (is_ready (observer i rs).level) on.epoch (ap is_ready on.level) (ends_same (places i rs) (place_of i rs r) (observer i rs).epoch (is_ready (observer i rs).level) h refl on.leaves)
    at false to =
        let on = on_level i rs r to in
        let o = observer i rs in
        let route : Route = (routing o.level r).route in
        ends_here (epoch_after o.epoch route) (is_ready (routing o.level r).after) on.epoch (ap is_ready on.level)
        (ends_by (places i rs) (place_of i rs r) o.epoch route (is_ready o.level) (is_ready (routing o.level r).after) (fits o.level r) to h refl on.leaves)

ends_from : (i : Interface) (rs more : List Item) → Ends i rs → Ends i (rs ++ more)
ends_from i rs [] h = subst (Ends i) (sym (append-nil rs)) h
ends_from i rs (r ∷ more) h = subst (Ends i) (append_assoc rs (r ∷ []) more) (ends_from i (rs ++ r ∷ []) more (ends_one i rs r h))

pub ends_of : (i : Interface) (rs : List Item) → Ends i rs
ends_of i rs = ends_from i [] rs ends_nothing

-- ---- epochs that stay as they are

-- an epoch that no row will be of any more
abbrev IsShut : Interface → List Item → ℕ → Type 0
IsShut i rs e = (e < (observer i rs).epoch) ⊎ ((e ≡ (observer i rs).epoch) × (is_ready (observer i rs).level ≡ false))

-- an epoch that stays as it is, and shut
record Kept (i : Interface) (rs more : List Item) (e : ℕ) : Type 0 where
  same : SameEpoch i e (places i rs) (places i more)
  shut : IsShut i more e

still_below : (route : Route) (e n : ℕ) → e < n → e < epoch_after n route
still_below Enter e n lt = omega (arith, lt)
still_below Renew e n lt = omega (arith, lt)
still_below Pass e n lt = lt
still_below (Found s c) e n lt = lt
still_below (Leave c) e n lt = lt
still_below ToChannel e n lt = lt

-- outside r1 no epoch ends, and the last one is left behind or stays shut
record IsBehind (n : ℕ) (after : Bool) (route : Route) : Type 0 where
  stays : is_leaving route ≡ false
  shut : (n < epoch_after n route) ⊎ ((n ≡ epoch_after n route) × (after ≡ false))

behind : (n : ℕ) (b a : Bool) (route : Route) → b ≡ false → fits_route b a route ≡ true → IsBehind n a route
behind n true a route e fit = absurd (true≢false e)
behind n false a Enter e fit = record { stays = refl; shut = inl (omega arith) }
behind n false false Pass e fit = record { stays = refl; shut = inr (refl, refl) }
behind n false true Pass e fit = absurd (true≢false (sym fit))
behind n false false (Found s c) e fit = record { stays = refl; shut = inr (refl, refl) }
behind n false true (Found s c) e fit = absurd (true≢false (sym fit))
behind n false a (Leave c) e fit = absurd (true≢false (sym fit))
behind n false a Renew e fit = absurd (true≢false (sym fit))
behind n false a ToChannel e fit = absurd (true≢false (sym fit))

with_place : (i : Interface) (rs : List Item) (r : Item) (e : ℕ) → SameEpoch i e (places i rs) (places i rs ++ place_of i rs r ∷ []) → SameEpoch i e (places i rs) (places i (rs ++ r ∷ []))
with_place i rs r e s = subst (SameEpoch i e (places i rs)) (sym (places_more i rs r)) s

shut_at : (e n next epoch : ℕ) (a b : Bool) → e ≡ n → epoch ≡ next → b ≡ a → (n < next) ⊎ ((n ≡ next) × (a ≡ false)) → (e < epoch) ⊎ ((e ≡ epoch) × (b ≡ false))
shut_at e n next epoch a b same at ready (inl lt) = inl (omega (arith, same, at, lt))
shut_at e n next epoch a b same at ready (inr w) = inr (same ∙ w.0 ∙ sym at, ready ∙ w.1)

keeps_one : (i : Interface) (rs : List Item) (r : Item) (e : ℕ) → IsShut i rs e → Kept i rs (rs ++ r ∷ []) e
keeps_one i rs r e s = at (is_to_channel (routing (observer i rs).level r).route) refl s
  where
    at : (b : Bool) → is_to_channel (routing (observer i rs).level r).route ≡ b → IsShut i rs e → Kept i rs (rs ++ r ∷ []) e
    at true h (inl lt) = record {
      same = with_place i rs r e (same_below i (places i rs) (place_of i rs r) (observer i rs).epoch e refl lt);
      shut = inl (subst (λ n. e < n) (sym (on_channel i rs r h).epoch) lt);
    }
    at true h (inr w) = absurd (true≢false (sym (on_channel i rs r h).ready ∙ w.1))
    at false h (inl lt) =
        let o = observer i rs in
        record {
          same = with_place i rs r e (same_below i (places i rs) (place_of i rs r) o.epoch e refl lt);
          shut = inl (subst (λ n. e < n) (sym (on_level i rs r h).epoch) (still_below (routing o.level r).route e o.epoch lt));
        }
    at false h (inr w) =
        let o = observer i rs in
        let on = on_level i rs r h in
        let a : Bool = is_ready (routing o.level r).after in
        let is = behind o.epoch (is_ready o.level) a (routing o.level r).route w.1 (fits o.level r) in
        record {
          same = with_place i rs r e (same_level i (places i rs) (place_of i rs r) e on.channel (unready_alone i o.level r w.1) (on.leaves ∙ is.stays) (ap (λ n. is_some (piece_end n (places i rs))) w.0 ∙ (ends_of i rs).left w.1));
          shut = shut_at e o.epoch (epoch_after o.epoch (routing o.level r).route) (observer i (rs ++ r ∷ [])).epoch a (is_ready (observer i (rs ++ r ∷ [])).level) w.0 on.epoch (ap is_ready on.level) is.shut;
        }

keeps : (i : Interface) (rs more : List Item) (e : ℕ) → IsShut i rs e → Kept i rs (rs ++ more) e
keeps i rs [] e s = subst (λ l. Kept i rs l e) (sym (append-nil rs)) (record { same = record { start = refl; rows = λ k. refl; steps = λ k. refl; end = refl }; shut = s })
keeps i rs (r ∷ more) e s =
    let one = keeps_one i rs r e s in
    let rest = keeps i (rs ++ r ∷ []) more e one.shut in
    subst (λ l. Kept i rs l e) (append_assoc rs (r ∷ []) more)
    (record {
      same = record {
        start = rest.same.start ∙ one.same.start;
        rows = λ k. rest.same.rows k ∙ one.same.rows k;
        steps = λ k. rest.same.steps k ∙ one.same.steps k;
        end = rest.same.end ∙ one.same.end;
      };
      shut = rest.shut;
    })

-- ---- the pieces up to an epoch come before those up to a later one

further : (i : Interface) (ps : List (Placed Item)) (n d : ℕ) → (rest : List Piece) × (pieces_to i ps n ++ rest ≡ pieces_to i ps (n + d))
further i ps n zero = ([], append-nil (pieces_to i ps n) ∙ ap (pieces_to i ps) (omega arith))
further i ps n (suc d) =
    let before = further i ps n d in
    let next : suc (n + d) ≡ n + suc d = omega arith in
    let one : List Piece = pieces_in i ps (length (keys_to i ps (n + d))) (n + d + 1) in
    (before.0 ++ one, sym (append_assoc (pieces_to i ps n) before.0 one) ∙ ap (λ l. l ++ one) before.1 ∙ sym (pieces_more i ps (n + d)) ∙ ap (pieces_to i ps) next)

shut_to : (i : Interface) (rs : List Item) (ready : Bool) → is_ready (observer i rs).level ≡ ready → 1 ≤ (observer i rs).epoch → (e : ℕ) → e ≤ whole_epochs (observer i rs).epoch ready → IsShut i rs e
shut_to i rs true h lo e le = inl (omega (arith, lo, le))
shut_to i rs false h lo e le = at (eqb e (observer i rs).epoch) refl
  where
    at : (b : Bool) → eqb e (observer i rs).epoch ≡ b → IsShut i rs e
    at true same = inr (eqb-true e (observer i rs).epoch same, h)
    at false other = let ne = eqb-false e (observer i rs).epoch other in inl (omega (arith, le, ne))

reached : (i : Interface) (rs : List Item) (e : ℕ) → IsShut i rs e → e ≤ (observer i rs).epoch
reached i rs e (inl lt) = omega (arith, lt)
reached i rs e (inr w) = let same = w.0 in omega (arith, same)

pub given_first : (i : Interface) (rs more : List Item) → (rest : List Piece) × (given_of i rs ++ rest ≡ plan i (rs ++ more))
given_first i rs more =
    let ends = ends_of i rs in
    let n : ℕ = whole_epochs (observer i rs).epoch (is_ready (observer i rs).level) in
    let shut : (e : ℕ) → e ≤ n → IsShut i rs e = shut_to i rs (is_ready (observer i rs).level) refl ends.begun in
    let same : pieces_to i (places i (rs ++ more)) n ≡ pieces_to i (places i rs) n = pieces_to_same i (places i rs) (places i (rs ++ more)) n (λ e le. (keeps i rs more e (shut e le)).same) in
    let le : n ≤ (observer i (rs ++ more)).epoch = reached i (rs ++ more) n (keeps i rs more n (shut n (omega arith))).shut in
    let all = further i (places i (rs ++ more)) n ((observer i (rs ++ more)).epoch - n) in
    let whole : n + ((observer i (rs ++ more)).epoch - n) ≡ (observer i (rs ++ more)).epoch = omega (arith, le) in (
      all.0,
      ap (λ l. l ++ all.0) (given_pieces i rs (is_ready (observer i rs).level) ends ∙ sym same)
          ∙ all.1 ∙ ap (pieces_to i (places i (rs ++ more))) whole ∙ sym (plan_is i (rs ++ more)),
    )
