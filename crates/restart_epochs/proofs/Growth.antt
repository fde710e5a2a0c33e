-- What one more row does to the pieces that are complete, and to the rows of the open epoch.
use Rattle.std.proofs.Common.{◌≡◌, ◌≢◌, ◌∙◌, sym, ap, subst, refl, ℕ, zero, suc, ◌+◌, ◌-◌, ◌<◌, ◌≤◌, Bool, true, false, true≢false, ◌&&◌, eqb, List, [], ◌∷◌, ◌++◌, length, None, arith}
use Rattle.std.specs.Prelude.{is_some}
use Rattle.std.specs.List.{AllByRecursion, filter}
use Rattle.std.proofs.lemmas.Bool.{ne_eqb, and_right, eq-eqb, eqb-true, eqb-false}
use Rattle.line_model.specs.declared.interface.Interface.{Interface}
use Rattle.line_model.specs.basics.Records.{Item, Piece}
use Rattle.line_model.specs.channels.GapRestart.{is_gap_of_all}
use Rattle.line_model.specs.pieces.Shuffle.{is_channel}
use Rattle.line_model.specs.pieces.Pieces.{Placed, piece_end, steps_by}
use Rattle.line_model.proofs.Rising.{all_append}
use Rattle.restart_epochs.specs.Cutting.{observer, places, given_of, EndsOf}
use Rattle.restart_epochs.specs.Walks.{epoch_after}
use Rattle.restart_epochs.proofs.Routes.{fits_route, is_leaving, is_to_channel}
use Rattle.line_model.specs.declared.route.Route.{Route}
use Rattle.line_model.specs.declared.route.Route.TheVariants.{Pass, Found, Leave, Enter, Renew, ToChannel}
use Rattle.restart_epochs.proofs.Epochs.{rows_same, end_same, end_stays, end_new, later_end, start_kept, start_same, steps_none, steps_same}
use Rattle.restart_epochs.proofs.Cuts.{SameEpoch, pieces_to, pieces_in, pieces_more, pieces_to_same, keys_to, pieces-length, plan_is, all_given, others_given}

pub ends_nothing : EndsOf [] 1 true
ends_nothing = record {
  begun = omega arith;
  ended = λ e lo hi. absurd (omega (arith, lo, hi));
  left = λ h. absurd (true≢false h);
  unended = λ h. refl;
  within = tt;
}

pub within_more : (ps : List (Placed Item)) (p : Placed Item) (epoch : ℕ) → AllByRecursion (λ q. q.epoch ≤ epoch) ps → p.epoch ≡ epoch → AllByRecursion (λ q. q.epoch ≤ epoch) (ps ++ p ∷ [])
within_more ps p epoch within at = all_append (λ q. q.epoch ≤ epoch) ps (p ∷ []) within (omega (arith, at), tt)

within_next : (ps : List (Placed Item)) (epoch : ℕ) → AllByRecursion (λ q. q.epoch ≤ epoch) ps → AllByRecursion (λ q. q.epoch ≤ epoch + 1) ps
within_next [] epoch h = tt
within_next (p ∷ ps) epoch h = let le = h.0 in (omega (arith, le), within_next ps epoch h.1)

not_of : (b : Bool) (p : Placed Item) (epoch e : ℕ) → p.epoch ≡ epoch → epoch ≢ e → (b && eqb p.epoch e) ≡ false
not_of b p epoch e at ne = and_right b (eqb p.epoch e) (ne_eqb p.epoch e (λ h. ne (sym at ∙ h)))

stays_in : (p : Placed Item) (e : ℕ) → p.leaves ≡ false → (p.leaves && eqb p.epoch e) ≡ false
stays_in p e h = ap (λ b. b && eqb p.epoch e) h

pub ends_same : (ps : List (Placed Item)) (p : Placed Item) (epoch : ℕ) (ready : Bool) → EndsOf ps epoch ready → p.epoch ≡ epoch → p.leaves ≡ false → EndsOf (ps ++ p ∷ []) epoch ready
ends_same ps p epoch ready h at stays = record {
  begun = h.begun;
  ended = λ e lo hi. ap (λ o. is_some o) (end_same e ps p (stays_in p e stays)) ∙ h.ended e lo hi;
  left = λ r. ap (λ o. is_some o) (end_same epoch ps p (stays_in p epoch stays)) ∙ h.left r;
  unended = λ r. end_same epoch ps p (stays_in p epoch stays) ∙ h.unended r;
  within = within_more ps p epoch h.within at;
}

pub ends_leave : (ps : List (Placed Item)) (p : Placed Item) (epoch : ℕ) → EndsOf ps epoch true → p.epoch ≡ epoch → p.leaves ≡ true → EndsOf (ps ++ p ∷ []) epoch false
ends_leave ps p epoch h at leaves = record {
  begun = h.begun;
  ended = λ e lo hi. ap (λ o. is_some o) (end_stays e ps p (h.ended e lo hi)) ∙ h.ended e lo hi;
  left = λ r. ap (λ o. is_some o) (end_new epoch ps p (ap (λ b. b && eqb p.epoch epoch) leaves ∙ eq-eqb p.epoch epoch at) (h.unended refl));
  unended = λ r. absurd (true≢false (sym r));
  within = within_more ps p epoch h.within at;
}

split_last : (e epoch : ℕ) → e < epoch + 1 → (e ≢ epoch → e < epoch)
split_last e epoch lt ne = omega (arith, lt, ne)

-- the next epoch begins once one has ended
pub ends_begin : (ps : List (Placed Item)) (epoch : ℕ) → EndsOf ps epoch false → EndsOf ps (epoch + 1) true
ends_begin ps epoch h = record {
  begun = omega arith;
  ended = λ e lo hi. was e lo hi (eqb e epoch) refl;
  left = λ r. absurd (true≢false r);
  unended = λ r. later_end epoch (epoch + 1) ps (omega arith) h.within;
  within = within_next ps epoch h.within;
}
  where
    was : (e : ℕ) → 1 ≤ e → e < epoch + 1 → (b : Bool) → eqb e epoch ≡ b → is_some (piece_end e ps) ≡ true
    was e lo hi true same = subst (λ n. is_some (piece_end n ps) ≡ true) (sym (eqb-true e epoch same)) (h.left refl)
    was e lo hi false other = h.ended e lo (split_last e epoch hi (eqb-false e epoch other))

-- the epochs after a row that goes to no channel, by its route
pub ends_by : (ps : List (Placed Item)) (p : Placed Item) (epoch : ℕ) (t : Route) (b a : Bool) → fits_route b a t ≡ true → is_to_channel t ≡ false → EndsOf ps epoch b → p.epoch ≡ epoch → p.leaves ≡ is_leaving t
    → EndsOf (ps ++ p ∷ []) (epoch_after epoch t) a
ends_by ps p epoch Pass true true fit to h at leaves = ends_same ps p epoch true h at leaves
ends_by ps p epoch Pass false false fit to h at leaves = ends_same ps p epoch false h at leaves
ends_by ps p epoch Pass true false fit to h at leaves = absurd (true≢false (sym fit))
ends_by ps p epoch Pass false true fit to h at leaves = absurd (true≢false (sym fit))
ends_by ps p epoch (Found s n) true true fit to h at leaves = ends_same ps p epoch true h at leaves
ends_by ps p epoch (Found s n) false false fit to h at leaves = ends_same ps p epoch false h at leaves
ends_by ps p epoch (Found s n) true false fit to h at leaves = absurd (true≢false (sym fit))
ends_by ps p epoch (Found s n) false true fit to h at leaves = absurd (true≢false (sym fit))
ends_by ps p epoch (Leave c) true false fit to h at leaves = ends_leave ps p epoch h at leaves
ends_by ps p epoch (Leave c) true true fit to h at leaves = absurd (true≢false (sym fit))
ends_by ps p epoch (Leave c) false a fit to h at leaves = absurd (true≢false (sym fit))
ends_by ps p epoch Enter false true fit to h at leaves = ends_begin (ps ++ p ∷ []) epoch (ends_same ps p epoch false h at leaves)
ends_by ps p epoch Enter false false fit to h at leaves = absurd (true≢false (sym fit))
ends_by ps p epoch Enter true a fit to h at leaves = absurd (true≢false (sym fit))
ends_by ps p epoch Renew true true fit to h at leaves = ends_begin (ps ++ p ∷ []) epoch (ends_leave ps p epoch h at leaves)
ends_by ps p epoch Renew true false fit to h at leaves = absurd (true≢false (sym fit))
ends_by ps p epoch Renew false a fit to h at leaves = absurd (true≢false (sym fit))
ends_by ps p epoch ToChannel b a fit to h at leaves = absurd (true≢false to)

-- how many epochs are complete
abbrev pub whole_epochs : (epoch : ℕ) (ready : Bool) → ℕ
whole_epochs epoch true = epoch - 1
whole_epochs epoch false = epoch

pub given_pieces : (i : Interface) (rs : List Item) (ready : Bool) → EndsOf (places i rs) (observer i rs).epoch ready → given_of i rs ≡ pieces_to i (places i rs) (whole_epochs (observer i rs).epoch ready)
given_pieces i rs true h = ap (filter (λ p. is_some p.end)) (plan_is i rs) ∙ at (observer i rs).epoch h.begun h.ended (h.unended refl)
  where
    at : (n : ℕ) → 1 ≤ n → ((e : ℕ) → 1 ≤ e → e < n → is_some (piece_end e (places i rs)) ≡ true) → piece_end n (places i rs) ≡ None
        → filter (λ p. is_some p.end) (pieces_to i (places i rs) n) ≡ pieces_to i (places i rs) (n - 1)
    at zero lo ended none = absurd (omega (arith, lo))
    at (suc n) lo ended none =
        let one : suc n ≡ n + 1 = omega arith in
        others_given i (places i rs) n (λ e low high. ended e low (omega (arith, high))) (subst (λ m. piece_end m (places i rs) ≡ None) one none)
        ∙ ap (pieces_to i (places i rs)) (omega arith)
given_pieces i rs false h =
    ap (filter (λ p. is_some p.end)) (plan_is i rs)
    ∙ all_given i (places i rs) (observer i rs).epoch (λ e lo hi. was e lo hi (eqb e (observer i rs).epoch) refl)
  where
    was : (e : ℕ) → 1 ≤ e → e ≤ (observer i rs).epoch → (b : Bool) → eqb e (observer i rs).epoch ≡ b → is_some (piece_end e (places i rs)) ≡ true
    was e lo hi true same = subst (λ n. is_some (piece_end n (places i rs)) ≡ true) (sym (eqb-true e (observer i rs).epoch same)) (h.left refl)
    was e lo hi false other = let ne = eqb-false e (observer i rs).epoch other in h.ended e lo (omega (arith, hi, ne))

-- ---- epochs that the row is none of

same_other : (i : Interface) (ps : List (Placed Item)) (p : Placed Item) (epoch e : ℕ) → p.epoch ≡ epoch → epoch ≢ e → SameEpoch i e ps (ps ++ p ∷ [])
same_other i ps p epoch e at ne = record {
  start = start_same e ps p (ne_eqb p.epoch e (λ h. ne (sym at ∙ h)));
  rows = λ k. rows_same e k ps p (not_of (is_channel k p.channel) p epoch e at ne);
  steps = λ k. steps_same i e k ps p (not_of (steps_by k p (is_gap_of_all p.row)) p epoch e at ne);
  end = end_same e ps p (not_of p.leaves p epoch e at ne);
}

pub same_below : (i : Interface) (ps : List (Placed Item)) (p : Placed Item) (epoch e : ℕ) → p.epoch ≡ epoch → e < epoch → SameEpoch i e ps (ps ++ p ∷ [])
same_below i ps p epoch e at lt = same_other i ps p epoch e at (λ q. omega (arith, q, lt))

-- nor one that ended, of which the row may be
pub same_level : (i : Interface) (ps : List (Placed Item)) (p : Placed Item) (e : ℕ) → p.channel ≡ None → p.all ≡ false → p.leaves ≡ false → is_some (piece_end e ps) ≡ true → SameEpoch i e ps (ps ++ p ∷ [])
same_level i ps p e level alone stays ended = record {
  start = start_kept e ps p ended;
  rows = λ k. rows_same e k ps p (ap (λ c. is_channel k c && eqb p.epoch e) level);
  steps = λ k. steps_same i e k ps p (ap (λ b. b && eqb p.epoch e) (steps_none p k level alone (is_gap_of_all p.row)));
  end = end_same e ps p (stays_in p e stays);
}

-- the pieces of an epoch that is left come after those before it
pub leave_pieces : (i : Interface) (ps : List (Placed Item)) (p : Placed Item) (epoch : ℕ) → 1 ≤ epoch → p.epoch ≡ epoch
    → pieces_to i (ps ++ p ∷ []) epoch ≡ pieces_to i ps (epoch - 1) ++ pieces_in i (ps ++ p ∷ []) (length (pieces_to i ps (epoch - 1))) epoch
leave_pieces i ps p zero lo at = absurd (omega (arith, lo))
leave_pieces i ps p (suc n) lo at =
    let qs : List (Placed Item) = ps ++ p ∷ [] in
    let same : (e : ℕ) → e ≤ n → SameEpoch i e ps qs = λ e h. same_below i ps p (suc n) e at (omega (arith, h)) in
    let back : n ≡ suc n - 1 = omega arith in
    let next : n + 1 ≡ suc n = omega arith in
    pieces_more i qs n
    ∙ ap (λ l. l ++ pieces_in i qs (length (keys_to i qs n)) (n + 1)) (pieces_to_same i ps qs n same)
    ∙ ap (λ m. pieces_to i ps n ++ pieces_in i qs m (n + 1)) (sym (pieces-length i qs n) ∙ ap (λ (l : List Piece). length l) (pieces_to_same i ps qs n same))
    ∙ ap (λ m. pieces_to i ps n ++ pieces_in i qs (length (pieces_to i ps n)) m) next
    ∙ ap (λ m. pieces_to i ps m ++ pieces_in i qs (length (pieces_to i ps m)) (suc n)) back
