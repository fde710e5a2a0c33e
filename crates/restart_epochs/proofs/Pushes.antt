-- A cutter that represents some rows represents one more after it read it.
use Rattle.std.proofs.Common.{◌≡◌, ◌≢◌, ◌∙◌, sym, ap, subst, refl, ℕ, zero, suc, ◌+◌, ◌-◌, ◌<◌, ◌≤◌, ◌⊎◌, inl, inr, Bool, true, false, true≢false, ◌&&◌, cond, eqb, List, [], ◌∷◌, ◌++◌, map, length, Option, Some, None, arith, append-nil, length-append}
use Rattle.std.specs.Prelude.{is_some, option_map}
use Rattle.std.specs.List.{filter, range_with_len, enumerate_from, AllByRecursion}
use Rattle.std.specs.BTreeSet.{insert_key}
use Rattle.std.specs.Ordering.{nat_cmp}
use Rattle.std.proofs.lemmas.Bool.{ne_eqb, eq-eqb, eqb-true, eqb-false}
use Rattle.line_model.specs.declared.interface.Interface.{Interface}
use Rattle.line_model.specs.declared.finding.Finding.{Finding}
use Rattle.line_model.specs.basics.Records.{Item, Piece}
use Rattle.line_model.specs.declared.gap.EpochStart.{EpochStart}
use Rattle.line_model.specs.declared.piece.PieceEnd.{PieceEnd}
use Rattle.line_model.specs.basics.Bounds.{IsSaid, AreSaid}
use Rattle.line_model.proofs.Rising.{all_append}
use Rattle.line_model.specs.packets.Says.{packet_channel}
use Rattle.line_model.specs.channels.GapRestart.{GapInterfaceState, is_gap_of_all, is_ready, routing, start_by}
use Rattle.line_model.specs.pieces.Shuffle.{is_channel}
use Rattle.line_model.specs.pieces.Pieces.{Placed, piece_rows, piece_end, piece_start, step_rows, OccursOnce}
use Rattle.line_model.specs.pieces.Plan.{has_some}
use Rattle.line_model.specs.pieces.Plans.{end_at, piece_of, plan, level_findings, single_gaps}
use Rattle.line_model.proofs.Handed.{handed_in_range}
use Rattle.line_model.proofs.GapMachines.{has_channels}
use Rattle.line_model.proofs.Merged.{piece_once}
use Rattle.line_model.specs.observer.Observer.{x25, start, is_renewal}
use Rattle.line_model.specs.declared.route.Route.{Route}
use Rattle.line_model.specs.declared.route.Route.TheVariants.{Enter, Found, Leave, Pass, Renew, ToChannel}
use Rattle.restart_epochs.specs.OpenRows.{OpenRows, rows_of, with_channel, with_gap}
use Rattle.restart_epochs.specs.Cutting.{Cutting, observer, places, given_of, EndsOf, channels_in, epoch_start, rows_if, items_if, items_out, channels_if, taken_rows, IsCutting, Represents, open_pieces, piece_out, pieces_out, IsKeptOn, IsStepped, IsLeft}
use Rattle.restart_epochs.specs.Walks.{epoch_after, route_finding, start_after}
use Rattle.restart_epochs.proofs.Routes.{fits, is_leaving, is_quiet, is_to_channel, leaves_at, leaving_level, leaving_own, quiet_level, quiet_stays}
use Rattle.restart_epochs.proofs.Epochs.{place_of, places_more, rows_same, rows_on_more, end_new, begun_or_bare, later_rows, later_steps, some_taken, start_next}
use Rattle.restart_epochs.proofs.GapRows.{said_gap}
use Rattle.restart_epochs.proofs.OpenChannelSteps.{Keeps, gaps_counted, keeps_all, keeps_now, keeps_on, level_items, level_rows, start_more, start_stays}
use Rattle.restart_epochs.proofs.Steps.{OnChannel, gap_steps_all, handed_at, on_channel, OnLevel, on_level, own_alone, unready_alone}
use Rattle.restart_epochs.proofs.Cuts.{SameEpoch, filter_each, pieces_to, pieces_in, pieces_more, pieces_to_same, pieces-length, plan_is}
use Rattle.restart_epochs.proofs.Growth.{ends_nothing, ends_begin, ends_same, ends_leave, whole_epochs, given_pieces, same_below, same_level, leave_pieces}
use Rattle.restart_epochs.proofs.LevelFindings.{level_findings_more, to_none}
use Rattle.restart_epochs.proofs.Listed.{insert_listed, none_listed}

-- ---- the pieces of an epoch, as they are given out

mapped_out : (i : Interface) (ps : List (Placed Item)) (e : ℕ) (start : EpochStart) (end : Option PieceEnd) (items : ℕ → List Item) → piece_start e ps ≡ start → option_map end_at (piece_end e ps) ≡ end
    → ((k : ℕ) → items k ≡ single_gaps (step_rows (x25 i) e k ps)) → (id : ℕ) (ks : List ℕ)
    → map (piece_of i ps) (enumerate_from id (map (λ k. (e, k)) ks)) ≡ pieces_out i e start end items id ks
mapped_out i ps e start end items b h same id [] = refl
mapped_out i ps e start end items b h same id (k ∷ ks) = λ j. piece_out i e (b j) (h j) id k (sym (same k) j) ∷ mapped_out i ps e start end items b h same (id + 1) ks j

pub pieces_in_out : (i : Interface) (ps : List (Placed Item)) (id e : ℕ) (start : EpochStart) (end : Option PieceEnd) (items : ℕ → List Item) → piece_start e ps ≡ start → option_map end_at (piece_end e ps) ≡ end
    → ((k : ℕ) → items k ≡ single_gaps (step_rows (x25 i) e k ps)) → pieces_in i ps id e ≡ pieces_out i e start end items id (channels_in i ps e)
pieces_in_out i ps id e start end items b h same = mapped_out i ps e start end items b h same id (channels_in i ps e)

-- the same of an epoch that began so, or will with its first row
begun_out : (i : Interface) (ps : List (Placed Item)) (id e : ℕ) (l : GapInterfaceState) (end : Option PieceEnd) (items : ℕ → List Item) → option_map end_at (piece_end e ps) ≡ end
    → ((k : ℕ) → items k ≡ single_gaps (step_rows (x25 i) e k ps)) → pieces_in i ps id e ≡ pieces_out i e (epoch_start e l ps) end items id (channels_in i ps e)
begun_out i ps id e l end items h same = at (begun_or_bare e l ps (range_with_len 1 i.svc))
  where
    at : (channels_in i ps e ≡ []) ⊎ (epoch_start e l ps ≡ piece_start e ps) → pieces_in i ps id e ≡ pieces_out i e (epoch_start e l ps) end items id (channels_in i ps e)
    at (inl none) = ap (λ ks. map (piece_of i ps) (enumerate_from id (map (λ k. (e, k)) ks))) none ∙ sym (ap (pieces_out i e (epoch_start e l ps) end items id) none)
    at (inr begun) = pieces_in_out i ps id e (epoch_start e l ps) end items (sym begun) h same

-- ---- the first row

no_channels : (i : Interface) → channels_in i [] 1 ≡ []
no_channels i = none_listed (λ k. has_some {X = Item} (piece_rows 1 k [])) (range_with_len 1 i.svc) (λ k. refl)

pub represents_nothing : (i : Interface) (c : Cutting) → c.interface ≡ i → c.level ≡ (start i).level → c.epoch ≡ 1 → c.start ≡ start_by (start i).level → c.given ≡ 0 → c.packets ≡ 0 → c.gaps ≡ 0 → c.findings ≡ [] → c.gap ≡ 0
    → ((k : ℕ) → rows_of c.open_rows k ≡ []) → c.open_rows.channels ≡ [] → Represents i [] c
represents_nothing i c same level epoch start given packets gaps findings gap rows channels = record {
  said = tt;
  interface = same;
  level = level;
  epoch = epoch;
  start = start;
  packets = packets;
  gaps = gaps;
  findings = findings;
  given = given ∙ sym (ap (λ (l : List Piece). length l) (given_pieces i [] true ends_nothing));
  rows = rows;
  items = λ k j. with_gap (gap j) (rows k j);
  channels = channels ∙ sym (no_channels i);
  epochs = ends_nothing;
}

-- ---- a row on a channel

rows_or_none : (rs : List Item) → (rs ≡ []) ⊎ (has_some rs ≡ true)
rows_or_none [] = inl refl
rows_or_none (r ∷ rs) = inr refl

more_some : (rs : List Item) (r : Item) → has_some (rs ++ r ∷ []) ≡ true
more_some [] r = refl
more_some (x ∷ rs) r = refl

with_known : (items : List Item) (k : ℕ) (channels : List ℕ) → items ≢ [] → with_channel items k channels ≡ channels
with_known [] k channels ne = absurd (ne refl)
with_known (item ∷ items) k channels ne = refl

with_new : (items : List Item) (k : ℕ) (channels : List ℕ) → items ≡ [] → with_channel items k channels ≡ insert_key nat_cmp channels k
with_new items k channels e = ap (λ l. with_channel l k channels) e

-- it depends only on whether there are rows
with_alike : (xs ys : List Item) (k : ℕ) (channels : List ℕ) → has_some xs ≡ has_some ys → with_channel xs k channels ≡ with_channel ys k channels
with_alike [] [] k channels e = refl
with_alike (x ∷ xs) (y ∷ ys) k channels e = refl
with_alike [] (y ∷ ys) k channels e = absurd (true≢false (sym e))
with_alike (x ∷ xs) [] k channels e = absurd (true≢false e)

-- a row makes its channel one of those that have rows
kept_channels : (i : Interface) (ps : List (Placed Item)) (p : Placed Item) (e channel : ℕ) → 1 ≤ channel → channel ≤ i.svc → p.epoch ≡ e → p.channel ≡ Some channel
    → channels_in i (ps ++ p ∷ []) e ≡ with_channel (piece_rows e channel ps) channel (channels_in i ps e)
kept_channels i ps p e channel lo hi at on =
    let here : (is_channel channel p.channel && eqb p.epoch e) ≡ true =
    ap (λ c. is_channel channel c && eqb p.epoch e) on ∙ ap (λ b. b && eqb p.epoch e) (eq-eqb channel channel refl) ∙ eq-eqb p.epoch e at in
    let f : ℕ → Bool = λ k. has_some (piece_rows e k ps) in
    let g : ℕ → Bool = λ k. has_some (piece_rows e k (ps ++ p ∷ [])) in
    let others : (k : ℕ) → k ≢ channel → g k ≡ f k = λ k ne.
    ap has_some (rows_same e k ps p (ap (λ c. is_channel k c && eqb p.epoch e) on ∙ ap (λ b. b && eqb p.epoch e) (ne_eqb channel k (λ q. ne (sym q))))) in
    let now : g channel ≡ true = ap has_some (rows_on_more e channel ps p here) ∙ more_some (piece_rows e channel ps) p.row in
    elim (rows_or_none (piece_rows e channel ps)) [
      | inl none ↦ insert_listed f g channel 1 i.svc lo (omega (arith, hi)) (ap has_some none) now others
          ∙ sym (with_new (piece_rows e channel ps) channel (channels_in i ps e) none)
      | inr some ↦ filter_each g f (λ k. each k (eqb k channel) refl f g others (now ∙ sym some)) (range_with_len 1 i.svc)
          ∙ sym (with_known (piece_rows e channel ps) channel (channels_in i ps e) (λ none. true≢false (sym some ∙ ap has_some none)))
    ]
  where
    each : (k : ℕ) (b : Bool) → eqb k channel ≡ b → (f g : ℕ → Bool) → ((j : ℕ) → j ≢ channel → g j ≡ f j) → g channel ≡ f channel → g k ≡ f k
    each k true e f g h is = ap g (eqb-true k channel e) ∙ is ∙ ap f (sym (eqb-true k channel e))
    each k false e f g h is = h k (eqb-false k channel e)

-- ---- a cutter after one more row

-- what the observer and the places are after a row
record After (i : Interface) (rs : List Item) (r : Item) (ready : Bool) (epoch : ℕ) (level : GapInterfaceState) : Type 0 where
  is_ready : is_ready (observer i (rs ++ r ∷ [])).level ≡ ready
  is_epoch : (observer i (rs ++ r ∷ [])).epoch ≡ epoch
  is_level : (observer i (rs ++ r ∷ [])).level ≡ level

counted_length : (rs : List Item) (r : Item) (n m : ℕ) → n ≡ length rs → m ≡ n + 1 → m ≡ length (rs ++ r ∷ [])
counted_length rs r n m e h = omega (arith, e, h, length-append rs (r ∷ []))

ends_at : (i : Interface) (rs : List Item) (r : Item) (ready : Bool) (epoch : ℕ) (level : GapInterfaceState) → After i rs r ready epoch level → EndsOf (places i rs ++ place_of i rs r ∷ []) epoch ready
    → EndsOf (places i (rs ++ r ∷ [])) (observer i (rs ++ r ∷ [])).epoch (is_ready (observer i (rs ++ r ∷ [])).level)
ends_at i rs r ready epoch level a h =
    subst (λ (ps : List (Placed Item)). EndsOf ps (observer i (rs ++ r ∷ [])).epoch (is_ready (observer i (rs ++ r ∷ [])).level)) (sym (places_more i rs r))
    (subst (λ e. EndsOf (places i rs ++ place_of i rs r ∷ []) e (is_ready (observer i (rs ++ r ∷ [])).level)) (sym a.is_epoch)
    (subst (λ b. EndsOf (places i rs ++ place_of i rs r ∷ []) epoch b) (sym a.is_ready) h))

rows_at : (i : Interface) (rs : List Item) (r : Item) (ready : Bool) (epoch : ℕ) (level : GapInterfaceState) → After i rs r ready epoch level → (k : ℕ)
    → rows_if ready i (places i rs ++ place_of i rs r ∷ []) epoch k ≡ rows_if (is_ready (observer i (rs ++ r ∷ [])).level) i (places i (rs ++ r ∷ [])) (observer i (rs ++ r ∷ [])).epoch k
rows_at i rs r ready epoch level a k = λ j. rows_if (sym a.is_ready j) i (sym (places_more i rs r) j) (sym a.is_epoch j) k

channels_at : (i : Interface) (rs : List Item) (r : Item) (ready : Bool) (epoch : ℕ) (level : GapInterfaceState) → After i rs r ready epoch level
    → channels_if ready i (places i rs ++ place_of i rs r ∷ []) epoch ≡ channels_if (is_ready (observer i (rs ++ r ∷ [])).level) i (places i (rs ++ r ∷ [])) (observer i (rs ++ r ∷ [])).epoch
channels_at i rs r ready epoch level a = λ j. channels_if (sym a.is_ready j) i (sym (places_more i rs r) j) (sym a.is_epoch j)

items_at : (i : Interface) (rs : List Item) (r : Item) (ready : Bool) (epoch : ℕ) (level : GapInterfaceState) → After i rs r ready epoch level → (k : ℕ)
    → items_if ready i (places i rs ++ place_of i rs r ∷ []) epoch k ≡ items_if (is_ready (observer i (rs ++ r ∷ [])).level) i (places i (rs ++ r ∷ [])) (observer i (rs ++ r ∷ [])).epoch k
items_at i rs r ready epoch level a k = λ j. items_if (sym a.is_ready j) i (sym (places_more i rs r) j) (sym a.is_epoch j) k

given_at : (i : Interface) (rs : List Item) (r : Item) (ready : Bool) (epoch : ℕ) (level : GapInterfaceState) → After i rs r ready epoch level → EndsOf (places i rs ++ place_of i rs r ∷ []) epoch ready
    → given_of i (rs ++ r ∷ []) ≡ pieces_to i (places i rs ++ place_of i rs r ∷ []) (whole_epochs epoch ready)
given_at i rs r ready epoch level a h =
    let there = ends_at i rs r ready epoch level a h in
    given_pieces i (rs ++ r ∷ []) (is_ready (observer i (rs ++ r ∷ [])).level) there
    ∙ (λ j. pieces_to i (places_more i rs r j) (whole_epochs (a.is_epoch j) (a.is_ready j)))

-- before the row
given_before : (i : Interface) (rs : List Item) (c : Cutting) (ready : Bool) → Represents i rs c → is_ready (observer i rs).level ≡ ready → given_of i rs ≡ pieces_to i (places i rs) (whole_epochs (observer i rs).epoch ready)
given_before i rs c ready s h = given_pieces i rs ready (subst (EndsOf (places i rs) (observer i rs).epoch) h s.epochs)

-- ---- by its route

pub record Pushed (i : Interface) (rs : List Item) (r : Item) (more : List Piece) (c : Cutting) : Type 0 where
  pub represented : Represents i (rs ++ r ∷ []) c
  pub given : given_of i (rs ++ r ∷ []) ≡ given_of i rs ++ more

said_more : (i : Interface) (rs : List Item) (r : Item) → {c : Cutting} → Represents i rs c → IsSaid i r → AreSaid i (rs ++ r ∷ [])
said_more i rs r s said = all_append (IsSaid i) rs (r ∷ []) s.said (said, tt)

to_channel_at : (i : Interface) (rs : List Item) (r : Item) (c : Cutting) → Represents i rs c → is_to_channel (routing c.level r).route ≡ true → OnChannel i rs r
to_channel_at i rs r c s h = on_channel i rs r (ap (λ l. is_to_channel (routing l r).route) (sym s.level) ∙ h)

-- how the epoch after the row began
start_at : (i : Interface) (rs : List Item) (r : Item) (c : Cutting) (start : EpochStart) (next : ℕ) (l' : GapInterfaceState) → Represents i rs c → (observer i (rs ++ r ∷ [])).epoch ≡ next → (observer i (rs ++ r ∷ [])).level ≡ l'
    → (next ≡ (observer i rs).epoch) ⊎ (next ≡ (observer i rs).epoch + 1) → start ≡ start_after c.epoch c.start next l'
    → start ≡ epoch_start (observer i (rs ++ r ∷ [])).epoch (observer i (rs ++ r ∷ [])).level (places i (rs ++ r ∷ []))
start_at i rs r c start next l' s epoch level which is =
    start_more i rs r start next l' epoch level which s.epochs.within (is ∙ (λ j. start_after (s.epoch j) (s.start j) next l'))

pub pushed_on_channel : (i : Interface) (rs : List Item) (r : Item) (c c' : Cutting) → Represents i rs c → IsCutting c → c.last < r.number → IsSaid i r → is_to_channel (routing c.level r).route ≡ true → IsKeptOn (packet_channel r.packet) r c c' → Pushed i rs r [] c'
pushed_on_channel i rs r c c' s bounds rising said h kept =
    let on = to_channel_at i rs r c s h in
    let o = observer i rs in
    let p = place_of i rs r in
    let k = packet_channel r.packet in
    let up = bounds.gap in
    let a : After i rs r true o.epoch o.level = record { is_ready = ap is_ready on.level ∙ on.ready; is_epoch = on.epoch; is_level = on.level } in
    let ends : EndsOf (places i rs ++ p ∷ []) o.epoch true = ends_same (places i rs) p o.epoch true (subst (EndsOf (places i rs) o.epoch) on.ready s.epochs) refl on.leaves in
    let keeps : (j : ℕ) → Keeps (step_rows (x25 i) o.epoch j (places i rs ++ p ∷ [])) c.gap (rows_of c'.open_rows j) = λ j.
    keeps_on i (places i rs) p o.epoch c.gap k j (eqb j k) refl on.own refl on.channel (omega (arith, up, rising)) c.open_rows c'.open_rows kept.open_rows (keeps_now i rs c s on.ready j) in
    let some : has_some (rows_of c.open_rows k) ≡ has_some (piece_rows o.epoch k (places i rs)) = ap has_some (keeps_now i rs c s on.ready k).0 ∙ some_taken i rs o.epoch k in
    let range = handed_in_range i r k said (handed_at o.level r (ap (λ l. is_to_channel (routing l r).route) (sym s.level) ∙ h)) in
    let given : given_of i (rs ++ r ∷ []) ≡ given_of i rs =
    given_at i rs r true o.epoch o.level a ends
    ∙ pieces_to_same i (places i rs) (places i rs ++ p ∷ []) (o.epoch - 1) (λ e le. same_below i (places i rs) p o.epoch e refl (let lo = ends.begun in omega (arith, lo, le)))
    ∙ sym (given_before i rs c true s on.ready) in
    record {
      represented = record {
        said = said_more i rs r s said;
        interface = kept.counted.interface ∙ s.interface;
        level = kept.level ∙ s.level ∙ sym on.level;
        epoch = kept.epoch ∙ s.epoch ∙ sym on.epoch;
        start = start_at i rs r c c'.start o.epoch o.level s on.epoch on.level (inl refl) (kept.start ∙ sym (start_stays c.epoch o.epoch c.start o.level (sym s.epoch)));
        packets = counted_length rs r c.packets c'.packets s.packets kept.counted.packets;
        gaps = gaps_counted rs r c.gaps c'.gaps s.gaps kept.counted.gaps;
        findings = kept.findings ∙ s.findings ∙ sym (level_findings_more i rs r ∙ ap (λ l. level_findings i rs ++ l) (to_none r (routing o.level r).route (ap (λ l. is_to_channel (routing l r).route) (sym s.level) ∙ h)) ∙ append-nil (level_findings i rs));
        given = kept.given ∙ s.given ∙ ap (λ (l : List Piece). length l) (sym given);
        rows = λ j. (keeps j).0 ∙ rows_at i rs r true o.epoch o.level a j;
        items = λ j. ap (λ n. with_gap n (rows_of c'.open_rows j)) kept.gap ∙ (keeps j).1 ∙ items_at i rs r true o.epoch o.level a j;
        channels = kept.open_rows.channels ∙ with_alike (rows_of c.open_rows k) (piece_rows o.epoch k (places i rs)) k c.open_rows.channels some
            ∙ ap (with_channel (piece_rows o.epoch k (places i rs)) k) (s.channels ∙ ap (λ b. channels_if b i (places i rs) o.epoch) on.ready)
            ∙ sym (kept_channels i (places i rs) p o.epoch k range.0 range.1 refl on.channel)
            ∙ channels_at i rs r true o.epoch o.level a;
        epochs = ends_at i rs r true o.epoch o.level a ends;
      };
      given = given ∙ sym (append-nil (given_of i rs));
    }

quiet_epoch : (epoch : ℕ) (route : Route) → is_quiet route ≡ true → epoch_after epoch route ≡ epoch
quiet_epoch epoch Pass q = refl
quiet_epoch epoch (Found s n) q = refl
quiet_epoch epoch ToChannel q = refl
quiet_epoch epoch (Leave c) q = refl
quiet_epoch epoch Enter q = absurd (true≢false (sym q))
quiet_epoch epoch Renew q = absurd (true≢false (sym q))

-- the findings after a row of the interface level
findings_at : (i : Interface) (rs : List Item) (r : Item) (c : Cutting) (findings : List Finding) → Represents i rs c → findings ≡ c.findings ++ route_finding r (routing c.level r).route → findings ≡ level_findings i (rs ++ r ∷ [])
findings_at i rs r c findings s h =
    h ∙ ap (λ l. l ++ route_finding r (routing c.level r).route) s.findings
    ∙ ap (λ l. level_findings i rs ++ route_finding r (routing l r).route) s.level
    ∙ sym (level_findings_more i rs r)

level_at : (i : Interface) (rs : List Item) (r : Item) (c : Cutting) → Represents i rs c → is_to_channel (routing c.level r).route ≡ false → OnLevel i rs r
level_at i rs r c s h = on_level i rs r (ap (λ l. is_to_channel (routing l r).route) (sym s.level) ∙ h)

level_channels : (i : Interface) (ps : List (Placed Item)) (p : Placed Item) (e : ℕ) (ready : Bool) → p.channel ≡ None → channels_if ready i (ps ++ p ∷ []) e ≡ channels_if ready i ps e
level_channels i ps p e true none = filter_each _ _ (λ k. ap has_some (rows_same e k ps p (ap (λ c. is_channel k c && eqb p.epoch e) none))) (range_with_len 1 i.svc)
level_channels i ps p e false none = refl

-- the epochs that are complete stay as they are with a row that steps no channel, or is one of an open epoch
level_epochs : (i : Interface) (rs : List Item) (r : Item) (ready : Bool) → EndsOf (places i rs) (observer i rs).epoch ready → (place_of i rs r).channel ≡ None → (place_of i rs r).leaves ≡ false
    → (ready ≡ true) ⊎ ((place_of i rs r).all ≡ false) → (e : ℕ) → e ≤ whole_epochs (observer i rs).epoch ready → SameEpoch i e (places i rs) (places i rs ++ place_of i rs r ∷ [])
level_epochs i rs r true ends none stays alone e le = same_below i (places i rs) (place_of i rs r) (observer i rs).epoch e refl (let lo = ends.begun in omega (arith, lo, le))
level_epochs i rs r false ends none stays (inl ready) e le = absurd (true≢false (sym ready))
level_epochs i rs r false ends none stays (inr alone) e le = at (eqb e (observer i rs).epoch) refl
  where
    at : (b : Bool) → eqb e (observer i rs).epoch ≡ b → SameEpoch i e (places i rs) (places i rs ++ place_of i rs r ∷ [])
    at true same = same_level i (places i rs) (place_of i rs r) e none alone stays (ap (λ n. is_some (piece_end n (places i rs))) (eqb-true e (observer i rs).epoch same) ∙ ends.left refl)
    at false other = let ne = eqb-false e (observer i rs).epoch other in same_below i (places i rs) (place_of i rs r) (observer i rs).epoch e refl (omega (arith, le, ne))

-- the rows that the cutter keeps of each channel
record KeepsAll (i : Interface) (rs : List Item) (r : Item) (c' : Cutting) (ready : Bool) : Type 0 where
  rows : (k : ℕ) → rows_of c'.open_rows k ≡ rows_if ready i (places i rs ++ place_of i rs r ∷ []) (observer i rs).epoch k
  items : (k : ℕ) → with_gap c'.gap (rows_of c'.open_rows k) ≡ items_if ready i (places i rs ++ place_of i rs r ∷ []) (observer i rs).epoch k

-- r1 is neither left nor entered
quietly_with : (i : Interface) (rs : List Item) (r : Item) (c c' : Cutting) (ready : Bool) (gap : ℕ) → Represents i rs c → IsSaid i r → is_quiet (routing c.level r).route ≡ true
    → is_ready c.level ≡ ready → is_ready (routing c.level r).after ≡ ready → (ready ≡ true) ⊎ ((place_of i rs r).all ≡ false)
    → IsStepped r (routing c.level r).after c.epoch gap (route_finding r (routing c.level r).route) c c' → KeepsAll i rs r c' ready → Pushed i rs r [] c'
quietly_with i rs r c c' ready gap s said quiet before after alone step keeps =
    let on = level_at i rs r c s (quiet_level (routing c.level r).route quiet) in
    let o = observer i rs in
    let p = place_of i rs r in
    let l' : GapInterfaceState = (routing o.level r).after in
    let was : is_ready o.level ≡ ready = ap is_ready (sym s.level) ∙ before in
    let will : is_ready l' ≡ ready = ap (λ l. is_ready (routing l r).after) (sym s.level) ∙ after in
    let here : is_quiet (routing o.level r).route ≡ true = ap (λ l. is_quiet (routing l r).route) (sym s.level) ∙ quiet in
    let stays : p.leaves ≡ false = on.leaves ∙ quiet_stays (routing o.level r).route here in
    let epoch : (observer i (rs ++ r ∷ [])).epoch ≡ o.epoch = on.epoch ∙ quiet_epoch o.epoch (routing o.level r).route here in
    let a : After i rs r ready o.epoch l' = record { is_ready = ap is_ready on.level ∙ will; is_epoch = epoch; is_level = on.level } in
    let old : EndsOf (places i rs) o.epoch ready = subst (EndsOf (places i rs) o.epoch) was s.epochs in
    let ends : EndsOf (places i rs ++ p ∷ []) o.epoch ready = ends_same (places i rs) p o.epoch ready old refl stays in
    let given : given_of i (rs ++ r ∷ []) ≡ given_of i rs =
    given_at i rs r ready o.epoch l' a ends
    ∙ pieces_to_same i (places i rs) (places i rs ++ p ∷ []) (whole_epochs o.epoch ready) (level_epochs i rs r ready old on.channel stays alone)
    ∙ sym (given_before i rs c ready s was) in
    record {
      represented = record {
        said = said_more i rs r s said;
        interface = step.counted.interface ∙ s.interface;
        level = step.level ∙ ap (λ l. (routing l r).after) s.level ∙ sym on.level;
        epoch = step.epoch ∙ s.epoch ∙ sym epoch;
        start = start_at i rs r c c'.start o.epoch l' s epoch on.level (inl refl) (step.start ∙ (λ j. start_after c.epoch c.start (s.epoch j) (routing (s.level j) r).after));
        packets = counted_length rs r c.packets c'.packets s.packets step.counted.packets;
        gaps = gaps_counted rs r c.gaps c'.gaps s.gaps step.counted.gaps;
        findings = findings_at i rs r c c'.findings s step.findings;
        given = step.given ∙ s.given ∙ ap (λ (l : List Piece). length l) (sym given);
        rows = λ j. keeps.rows j ∙ rows_at i rs r ready o.epoch l' a j;
        items = λ j. keeps.items j ∙ items_at i rs r ready o.epoch l' a j;
        channels = step.open_rows.channels ∙ s.channels ∙ ap (λ b. channels_if b i (places i rs) o.epoch) was ∙ sym (level_channels i (places i rs) p o.epoch ready on.channel) ∙ channels_at i rs r ready o.epoch l' a;
        epochs = ends_at i rs r ready o.epoch l' a ends;
      };
      given = given ∙ sym (append-nil (given_of i rs));
    }

-- a row that steps no channel
pub pushed_quietly : (i : Interface) (rs : List Item) (r : Item) (c c' : Cutting) (ready : Bool) → Represents i rs c → IsSaid i r → is_quiet (routing c.level r).route ≡ true
    → is_ready c.level ≡ ready → is_ready (routing c.level r).after ≡ ready → (ready ≡ false) ⊎ (is_gap_of_all r ≡ false)
    → IsStepped r (routing c.level r).after c.epoch c.gap (route_finding r (routing c.level r).route) c c' → Pushed i rs r [] c'
pushed_quietly i rs r c c' ready s said quiet before after which step =
    let on = level_at i rs r c s (quiet_level (routing c.level r).route quiet) in
    let o = observer i rs in
    let p = place_of i rs r in
    let was : is_ready o.level ≡ ready = ap is_ready (sym s.level) ∙ before in
    let alone : p.all ≡ false = by was which in
    quietly_with i rs r c c' ready c.gap s said quiet before after (inr alone) step (record {
      rows = λ j. step.open_rows.rows j ∙ s.rows j ∙ ap (λ b. rows_if b i (places i rs) o.epoch j) was ∙ sym (level_rows i (places i rs) p o.epoch j ready on.channel alone);
      items = λ j. (λ m. with_gap (step.gap m) (step.open_rows.rows j m)) ∙ s.items j ∙ ap (λ b. items_if b i (places i rs) o.epoch j) was ∙ sym (level_items i (places i rs) p o.epoch j ready on.channel alone);
    })
  where
    by : is_ready (observer i rs).level ≡ ready → (ready ≡ false) ⊎ (is_gap_of_all r ≡ false) → (place_of i rs r).all ≡ false
    by was (inl unready) = unready_alone i (observer i rs).level r (was ∙ unready)
    by was (inr own) = own_alone i (observer i rs).level r own

-- a gap of all channels in r1
pub pushed_gap : (i : Interface) (rs : List Item) (r : Item) (c c' : Cutting) → Represents i rs c → IsCutting c → c.last < r.number → IsSaid i r → is_quiet (routing c.level r).route ≡ true
    → is_ready c.level ≡ true → is_ready (routing c.level r).after ≡ true → is_gap_of_all r ≡ true
    → IsStepped r (routing c.level r).after c.epoch r.number (route_finding r (routing c.level r).route) c c' → Pushed i rs r [] c'
pushed_gap i rs r c c' s bounds rising said quiet before after gap step =
    let o = observer i rs in
    let p = place_of i rs r in
    let ready : is_ready o.level ≡ true = ap is_ready (sym s.level) ∙ before in
    let keeps : (k : ℕ) → Keeps (step_rows (x25 i) o.epoch k (places i rs ++ p ∷ [])) r.number (rows_of c.open_rows k) = λ k.
    let up = (bounds.open_channels k).up_to in
    keeps_all i (places i rs) p o.epoch c.gap k gap (said_gap i r said gap).1 refl (gap_steps_all i o.level r gap ready) (rows_of c.open_rows k) (omega (arith, up, rising)) (keeps_now i rs c s ready k) in
    quietly_with i rs r c c' true r.number s said quiet before after (inl refl) step (record {
      rows = λ k. step.open_rows.rows k ∙ (keeps k).0;
      items = λ k. (λ m. with_gap (step.gap m) (step.open_rows.rows k m)) ∙ (keeps k).1;
    })

-- r1 is entered
pub pushed_entering : (i : Interface) (rs : List Item) (r : Item) (c c' : Cutting) → Represents i rs c → IsSaid i r → (routing c.level r).route ≡ Enter
    → is_ready c.level ≡ false → is_ready (routing c.level r).after ≡ true
    → IsStepped r (routing c.level r).after (c.epoch + 1) c.gap (route_finding r (routing c.level r).route) c c' → Pushed i rs r [] c'
pushed_entering i rs r c c' s said enter before after step =
    let on = level_at i rs r c s (ap is_to_channel enter) in
    let o = observer i rs in
    let p = place_of i rs r in
    let l' : GapInterfaceState = (routing o.level r).after in
    let was : is_ready o.level ≡ false = ap is_ready (sym s.level) ∙ before in
    let will : is_ready l' ≡ true = ap (λ l. is_ready (routing l r).after) (sym s.level) ∙ after in
    let here : (routing o.level r).route ≡ Enter = ap (λ l. (routing l r).route) (sym s.level) ∙ enter in
    let stays : p.leaves ≡ false = on.leaves ∙ ap is_leaving here in
    let epoch : (observer i (rs ++ r ∷ [])).epoch ≡ o.epoch + 1 = on.epoch ∙ ap (epoch_after o.epoch) here in
    let a : After i rs r true (o.epoch + 1) l' = record { is_ready = ap is_ready on.level ∙ will; is_epoch = epoch; is_level = on.level } in
    let old : EndsOf (places i rs) o.epoch false = subst (EndsOf (places i rs) o.epoch) was s.epochs in
    let ends : EndsOf (places i rs ++ p ∷ []) (o.epoch + 1) true = ends_begin (places i rs ++ p ∷ []) o.epoch (ends_same (places i rs) p o.epoch false old refl stays) in
    let back : whole_epochs (o.epoch + 1) true ≡ o.epoch = omega arith in
    let given : given_of i (rs ++ r ∷ []) ≡ given_of i rs =
    given_at i rs r true (o.epoch + 1) l' a ends
    ∙ ap (pieces_to i (places i rs ++ p ∷ [])) back
    ∙ pieces_to_same i (places i rs) (places i rs ++ p ∷ []) o.epoch (level_epochs i rs r false old on.channel stays (inr (unready_alone i o.level r was)))
    ∙ sym (given_before i rs c false s was) in
    let left : EndsOf (places i rs ++ p ∷ []) o.epoch false = ends_same (places i rs) p o.epoch false old refl stays in
    let none : (k : ℕ) → piece_rows (o.epoch + 1) k (places i rs ++ p ∷ []) ≡ [] = λ k. later_rows o.epoch (o.epoch + 1) k (places i rs ++ p ∷ []) (omega arith) left.within in
    let unstepped : (k : ℕ) → step_rows (x25 i) (o.epoch + 1) k (places i rs ++ p ∷ []) ≡ [] = λ k. later_steps i o.epoch (o.epoch + 1) k (places i rs ++ p ∷ []) (omega arith) left.within in
    record {
      represented = record {
        said = said_more i rs r s said;
        interface = step.counted.interface ∙ s.interface;
        level = step.level ∙ ap (λ l. (routing l r).after) s.level ∙ sym on.level;
        epoch = step.epoch ∙ ap (λ n. n + 1) s.epoch ∙ sym epoch;
        start = start_at i rs r c c'.start (o.epoch + 1) l' s epoch on.level (inr refl) (step.start ∙ (λ j. start_after c.epoch c.start (s.epoch j + 1) (routing (s.level j) r).after));
        packets = counted_length rs r c.packets c'.packets s.packets step.counted.packets;
        gaps = gaps_counted rs r c.gaps c'.gaps s.gaps step.counted.gaps;
        findings = findings_at i rs r c c'.findings s step.findings;
        given = step.given ∙ s.given ∙ ap (λ (l : List Piece). length l) (sym given);
        rows = λ j. step.open_rows.rows j ∙ s.rows j ∙ ap (λ b. rows_if b i (places i rs) o.epoch j) was ∙ sym (ap taken_rows (unstepped j)) ∙ rows_at i rs r true (o.epoch + 1) l' a j;
        items = λ j. (λ m. with_gap (step.gap m) (step.open_rows.rows j m)) ∙ s.items j ∙ ap (λ b. items_if b i (places i rs) o.epoch j) was ∙ sym (ap single_gaps (unstepped j)) ∙ items_at i rs r true (o.epoch + 1) l' a j;
        channels = step.open_rows.channels ∙ s.channels ∙ ap (λ b. channels_if b i (places i rs) o.epoch) was
            ∙ sym (none_listed (λ k. has_some (piece_rows (o.epoch + 1) k (places i rs ++ p ∷ []))) (range_with_len 1 i.svc) (λ k. ap has_some (none k))) ∙ channels_at i rs r true (o.epoch + 1) l' a;
        epochs = ends_at i rs r true (o.epoch + 1) l' a ends;
      };
      given = given ∙ sym (append-nil (given_of i rs));
    }

pub out-length : (i : Interface) (e : ℕ) (start : EpochStart) (end : Option PieceEnd) (items : ℕ → List Item) (id : ℕ) (ks : List ℕ) → length (pieces_out i e start end items id ks) ≡ length ks
out-length i e start end items id [] = refl
out-length i e start end items id (k ∷ ks) = let more = out-length i e start end items (id + 1) ks in omega (arith, more)

last_pieces : (i : Interface) (ps : List (Placed Item)) (epoch : ℕ) → 1 ≤ epoch → pieces_to i ps epoch ≡ pieces_to i ps (epoch - 1) ++ pieces_in i ps (length (pieces_to i ps (epoch - 1))) epoch
last_pieces i ps zero lo = absurd (omega (arith, lo))
last_pieces i ps (suc n) lo =
    let back : n ≡ suc n - 1 = omega arith in
    let next : n + 1 ≡ suc n = omega arith in
    pieces_more i ps n
    ∙ ap (λ m. pieces_to i ps n ++ pieces_in i ps m (n + 1)) (sym (pieces-length i ps n))
    ∙ ap (λ m. pieces_to i ps n ++ pieces_in i ps (length (pieces_to i ps n)) m) next
    ∙ ap (λ m. pieces_to i ps m ++ pieces_in i ps (length (pieces_to i ps m)) (suc n)) back

-- ---- an epoch ends

-- a channel that is not listed has no rows
not_listed : (f : ℕ → Bool) (k : ℕ) (ks : List ℕ) → OccursOnce k ks → f k ≡ true → AllByRecursion (λ j. j ≢ k) (filter f ks) → ⊥
not_listed f k [] once h others = once
not_listed f k (j ∷ ks) (inl w) h others = here (f j) (ap f w.0 ∙ h) others
  where
    here : (b : Bool) → b ≡ true → AllByRecursion (λ i. i ≢ k) (cond b (j ∷ filter f ks) (filter f ks)) → ⊥
    here true e all = all.0 w.0
    here false e all = true≢false (sym e)
not_listed f k (j ∷ ks) (inr w) h others = not_listed f k ks w.1 h (rest (f j) others)
  where
    rest : (b : Bool) → AllByRecursion (λ i. i ≢ k) (cond b (j ∷ filter f ks) (filter f ks)) → AllByRecursion (λ i. i ≢ k) (filter f ks)
    rest true all = all.1
    rest false all = all

pub served : (i : Interface) (rs : List Item) → AreSaid i rs → (e k : ℕ) → piece_rows e k (places i rs) ≢ [] → OccursOnce k (range_with_len 1 i.svc)
served i rs said e k some = piece_once (x25 i) (start i) e k rs (has_channels i rs said).of_rows some

pub no_rows_of : (i : Interface) (rs : List Item) → AreSaid i rs → (e k : ℕ) → AllByRecursion (λ j. j ≢ k) (channels_in i (places i rs) e) → piece_rows e k (places i rs) ≡ []
no_rows_of i rs said e k others = elim (rows_or_none (piece_rows e k (places i rs))) [
  | inl none ↦ none
  | inr some ↦ absurd (not_listed (λ j. has_some (piece_rows e j (places i rs))) k (range_with_len 1 i.svc) (served i rs said e k (λ none. true≢false (sym some ∙ ap has_some none))) some others)
]

none_of : (xs : List Item) → has_some xs ≡ false → xs ≡ []
none_of [] h = refl
none_of (x ∷ xs) h = absurd (true≢false h)

-- nor any that is kept
pub none_taken : (i : Interface) (rs : List Item) → AreSaid i rs → (e k : ℕ) → AllByRecursion (λ j. j ≢ k) (channels_in i (places i rs) e) → taken_rows (step_rows (x25 i) e k (places i rs)) ≡ []
none_taken i rs said e k others = none_of (taken_rows (step_rows (x25 i) e k (places i rs))) (some_taken i rs e k ∙ ap has_some (no_rows_of i rs said e k others))

emptied_row : (i : Interface) (rs : List Item) → AreSaid i rs → (e k : ℕ) (before after : OpenRows) → before.channels ≡ channels_in i (places i rs) e → rows_of before k ≡ taken_rows (step_rows (x25 i) e k (places i rs))
    → (rows_of after k ≡ []) ⊎ ((rows_of after k ≡ rows_of before k) × AllByRecursion (λ j. j ≢ k) before.channels) → rows_of after k ≡ []
emptied_row i rs said e k before after listed was (inl none) = none
emptied_row i rs said e k before after listed was (inr kept) = kept.0 ∙ was ∙ none_taken i rs said e k (subst (AllByRecursion (λ j. j ≢ k)) listed kept.1)

-- the epoch after a row that ends one, by whether the next one begins with it
abbrev next_if : (renewed : Bool) → ℕ → ℕ
next_if v e = cond v (e + 1) e

leaving_epoch : (epoch : ℕ) (route : Route) → is_leaving route ≡ true → epoch_after epoch route ≡ next_if (is_renewal route) epoch
leaving_epoch epoch (Leave c) h = refl
leaving_epoch epoch Renew h = refl
leaving_epoch epoch Pass h = refl
leaving_epoch epoch (Found s n) h = refl
leaving_epoch epoch ToChannel h = refl
leaving_epoch epoch Enter h = absurd (true≢false (sym h))

ends_next : (ps : List (Placed Item)) (e : ℕ) (v : Bool) → EndsOf ps e false → EndsOf ps (next_if v e) v
ends_next ps e true h = ends_begin ps e h
ends_next ps e false h = h

whole_next : (v : Bool) (e : ℕ) → whole_epochs (next_if v e) v ≡ e
whole_next true e = omega arith
whole_next false e = refl

-- the next epoch has no rows yet
next_rows : (i : Interface) (ps : List (Placed Item)) (e k : ℕ) (v : Bool) → EndsOf ps e false → rows_if v i ps (next_if v e) k ≡ []
next_rows i ps e k true h = ap taken_rows (later_steps i e (e + 1) k ps (omega arith) h.within)
next_rows i ps e k false h = refl

next_items : (i : Interface) (ps : List (Placed Item)) (e k : ℕ) (v : Bool) → EndsOf ps e false → items_if v i ps (next_if v e) k ≡ []
next_items i ps e k true h = ap single_gaps (later_steps i e (e + 1) k ps (omega arith) h.within)
next_items i ps e k false h = refl

next_epochs : (v : Bool) (e : ℕ) → (next_if v e ≡ e) ⊎ (next_if v e ≡ e + 1)
next_epochs true e = inr refl
next_epochs false e = inl refl

next_channels : (i : Interface) (ps : List (Placed Item)) (e : ℕ) (v : Bool) → EndsOf ps e false → channels_if v i ps (next_if v e) ≡ []
next_channels i ps e true h = none_listed (λ k. has_some (piece_rows (e + 1) k ps)) (range_with_len 1 i.svc) (λ k. ap has_some (later_rows e (e + 1) k ps (omega arith) h.within))
next_channels i ps e false h = refl

pub pushed_leaving : (i : Interface) (rs : List Item) (r : Item) (c c' : Cutting) → Represents i rs c → IsSaid i r → is_leaving (routing c.level r).route ≡ true
    → IsLeft r (routing c.level r).after (epoch_after c.epoch (routing c.level r).route) (route_finding r (routing c.level r).route) c c'
    → Pushed i rs r (open_pieces c (Some (end_at r))) c'
pushed_leaving i rs r c c' s said leaving step =
    let on = level_at i rs r c s (leaving_level (routing c.level r).route leaving) in
    let o = observer i rs in
    let p = place_of i rs r in
    let l' : GapInterfaceState = (routing o.level r).after in
    let route : Route = (routing o.level r).route in
    let here : is_leaving route ≡ true = ap (λ l. is_leaving (routing l r).route) (sym s.level) ∙ leaving in
    let v : Bool = is_renewal route in
    let both = leaves_at (is_ready o.level) (is_ready l') route here (fits o.level r) in
    let was : is_ready o.level ≡ true = both.0 in
    let leaves : p.leaves ≡ true = on.leaves ∙ here in
    let next : epoch_after o.epoch route ≡ next_if v o.epoch = leaving_epoch o.epoch route here in
    let a : After i rs r v (next_if v o.epoch) l' = record { is_ready = ap is_ready on.level ∙ both.1; is_epoch = on.epoch ∙ next; is_level = on.level } in
    let old : EndsOf (places i rs) o.epoch true = subst (EndsOf (places i rs) o.epoch) was s.epochs in
    let left : EndsOf (places i rs ++ p ∷ []) o.epoch false = ends_leave (places i rs) p o.epoch old refl leaves in
    let ends : EndsOf (places i rs ++ p ∷ []) (next_if v o.epoch) v = ends_next (places i rs ++ p ∷ []) o.epoch v left in
    let at : eqb p.epoch o.epoch ≡ true = eq-eqb p.epoch o.epoch refl in
    let end : option_map end_at (piece_end o.epoch (places i rs ++ p ∷ [])) ≡ Some (end_at r) =
    ap (option_map end_at) (end_new o.epoch (places i rs) p (ap (λ b. b && eqb p.epoch o.epoch) leaves ∙ at) (old.unended refl)) in
    let begun : piece_start o.epoch (places i rs ++ p ∷ []) ≡ c.start = start_next o.epoch o.level (places i rs) p at refl ∙ sym s.start in
    let own : is_gap_of_all r ≡ false = leaving_own o.level r here in
    let items : (k : ℕ) → items_out c.gap c.open_rows k ≡ single_gaps (step_rows (x25 i) o.epoch k (places i rs ++ p ∷ [])) = λ k.
    (keeps_now i rs c s was k).1 ∙ sym (level_items i (places i rs) p o.epoch k true on.channel (own_alone i o.level r own)) in
    let listed : c.open_rows.channels ≡ channels_in i (places i rs) o.epoch = s.channels ∙ ap (λ b. channels_if b i (places i rs) o.epoch) was in
    let before_is : given_of i rs ≡ pieces_to i (places i rs) (o.epoch - 1) = given_before i rs c true s was in
    let more : pieces_in i (places i rs ++ p ∷ []) (length (pieces_to i (places i rs) (o.epoch - 1))) o.epoch ≡ open_pieces c (Some (end_at r)) =
    pieces_in_out i (places i rs ++ p ∷ []) (length (pieces_to i (places i rs) (o.epoch - 1))) o.epoch c.start (Some (end_at r)) (items_out c.gap c.open_rows) begun end items
    ∙ (λ j. pieces_out (sym s.interface j) (sym s.epoch j) c.start (Some (end_at r)) (items_out c.gap c.open_rows) (sym (s.given ∙ ap (λ (l : List Piece). length l) before_is) j)
    (sym (listed ∙ sym (level_channels i (places i rs) p o.epoch true on.channel)) j)) in
    let given : given_of i (rs ++ r ∷ []) ≡ given_of i rs ++ open_pieces c (Some (end_at r)) =
    given_at i rs r v (next_if v o.epoch) l' a ends
    ∙ ap (pieces_to i (places i rs ++ p ∷ [])) (whole_next v o.epoch)
    ∙ leave_pieces i (places i rs) p o.epoch old.begun refl
    ∙ (λ j. sym before_is j ++ more j) in
    let none : (k : ℕ) → rows_of c'.open_rows k ≡ [] = λ k. emptied_row i rs s.said o.epoch k c.open_rows c'.open_rows listed (keeps_now i rs c s was k).0 (step.emptied k) in
    record {
      represented = record {
        said = said_more i rs r s said;
        interface = step.counted.interface ∙ s.interface;
        level = step.level ∙ ap (λ l. (routing l r).after) s.level ∙ sym on.level;
        epoch = step.epoch ∙ (λ j. epoch_after (s.epoch j) (routing (s.level j) r).route) ∙ sym on.epoch;
        start = start_at i rs r c c'.start (next_if v o.epoch) l' s a.is_epoch on.level (next_epochs v o.epoch)
            (step.start ∙ (λ j. start_after c.epoch c.start (epoch_after (s.epoch j) (routing (s.level j) r).route) (routing (s.level j) r).after) ∙ ap (λ n. start_after c.epoch c.start n l') next);
        packets = counted_length rs r c.packets c'.packets s.packets step.counted.packets;
        gaps = gaps_counted rs r c.gaps c'.gaps s.gaps step.counted.gaps;
        findings = findings_at i rs r c c'.findings s step.findings;
        given = step.given ∙ ap (λ n. n + length c.open_rows.channels) s.given
            ∙ ap (λ n. length (given_of i rs) + n) (sym (out-length c.interface c.epoch c.start (Some (end_at r)) (items_out c.gap c.open_rows) c.given c.open_rows.channels))
            ∙ sym (ap (λ (l : List Piece). length l) given ∙ length-append (given_of i rs) (open_pieces c (Some (end_at r))));
        rows = λ k. none k ∙ sym (next_rows i (places i rs ++ p ∷ []) o.epoch k v left) ∙ rows_at i rs r v (next_if v o.epoch) l' a k;
        items = λ k. (λ m. with_gap (step.gap m) (none k m)) ∙ sym (next_items i (places i rs ++ p ∷ []) o.epoch k v left) ∙ items_at i rs r v (next_if v o.epoch) l' a k;
        channels = step.channels ∙ sym (next_channels i (places i rs ++ p ∷ []) o.epoch v left) ∙ channels_at i rs r v (next_if v o.epoch) l' a;
        epochs = ends_at i rs r v (next_if v o.epoch) l' a ends;
      };
      given = given;
    }

-- ---- the end of the trace

pub rest_open : (i : Interface) (rs : List Item) (c : Cutting) → Represents i rs c → given_of i rs ++ open_pieces c None ≡ plan i rs
rest_open i rs c s = at (is_ready (observer i rs).level) refl
  where
    at : (b : Bool) → is_ready (observer i rs).level ≡ b → given_of i rs ++ open_pieces c None ≡ plan i rs
    at true e =
        let o = observer i rs in
        let ends : EndsOf (places i rs) o.epoch true = subst (EndsOf (places i rs) o.epoch) e s.epochs in
        let before_is : given_of i rs ≡ pieces_to i (places i rs) (o.epoch - 1) = given_before i rs c true s e in
        let last : pieces_in i (places i rs) (length (pieces_to i (places i rs) (o.epoch - 1))) o.epoch ≡ open_pieces c None =
        begun_out i (places i rs) (length (pieces_to i (places i rs) (o.epoch - 1))) o.epoch o.level None (items_out c.gap c.open_rows) (ap (option_map end_at) (ends.unended refl)) (λ k. (keeps_now i rs c s e k).1)
        ∙ (λ j. pieces_out (sym s.interface j) (sym s.epoch j) (sym s.start j) None (items_out c.gap c.open_rows) (sym (s.given ∙ ap (λ (l : List Piece). length l) before_is) j) (sym (s.channels ∙ ap (λ b. channels_if b i (places i rs) o.epoch) e) j)) in
        (λ j. before_is j ++ sym last j) ∙ sym (last_pieces i (places i rs) o.epoch ends.begun) ∙ sym (plan_is i rs)
    at false e =
        let none : c.open_rows.channels ≡ [] = s.channels ∙ ap (λ b. channels_if b i (places i rs) (observer i rs).epoch) e in
        ap (λ ks. given_of i rs ++ pieces_out c.interface c.epoch c.start None (items_out c.gap c.open_rows) c.given ks) none
        ∙ append-nil (given_of i rs) ∙ given_before i rs c false s e ∙ sym (plan_is i rs)
