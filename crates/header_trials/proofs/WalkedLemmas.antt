-- A trial with one more row.
use Rattle.std.proofs.Common.{◌≡◌, ◌≢◌, ◌∙◌, ◌⊎◌, inl, inr, sym, ap, subst, refl, ℕ, ◌+◌, ◌≤◌, ◌^◌, Bool, true, false, List, [], ◌∷◌, ◌++◌, map, length, sum, sum_by, Option, arith, length-append, option_to_list}
use Rattle.std.specs.Prelude.{All, slice_get}
use Rattle.std.proofs.lemmas.Bool.{cases_eq, eq-eqb, ne_eqb}
use Rattle.std.proofs.lemmas.List.Sums.{sum_by_push}
use Rattle.std.proofs.lemmas.List.Elements.{All-head, All-tail}
use Rattle.line_model.specs.declared.interface.Interface.{Interface}
use Rattle.line_model.specs.declared.event.Event.{Event}
use Rattle.line_model.specs.declared.finding.Finding.{Finding}
use Rattle.line_model.specs.basics.Records.{Item}
use Rattle.line_model.specs.declared.gap.EpochStart.{EpochStart}
use Rattle.line_model.specs.channels.Gaps.{GapChannel, fresh_at}
use Rattle.line_model.specs.observer.Report.{findings_of}
use Rattle.line_model.proofs.Rising.{RisesFrom, rises-from_index}
use Rattle.channel_run.specs.Run.{row_events}
use Rattle.channel_run.specs.declared.run.Channel.{Ghosts as Machine}
use Rattle.channel_run.proofs.LiveLemmas.{one_finding}
use Rattle.live_report.proofs.FoundLemmas.{at_most_one}
use Rattle.restart_epochs.specs.Cutting.{observer}
use Rattle.restart_epochs.specs.ChannelTables.{value_at}
use Rattle.restart_epochs.specs.declared.walk.EpochWalk.{EpochWalk}
use Rattle.restart_epochs.specs.declared.walk.Step.{Step}
use Rattle.restart_epochs.specs.declared.walk.ChannelEffect.{ChannelEffect}
use Rattle.restart_epochs.specs.declared.walk.ChannelEffect.TheVariants.{ToChannel}
use Rattle.live_report.specs.Observing.{AreItems}
use Rattle.header_trials.specs.Tried.{AreChannels, HasWalked, IsFew, IsOpenChannelOf, events_after, no_channels, states_after, tally_of, uncounted_in}
use Rattle.header_trials.specs.declared.trial.TrialCounts.{TrialCounts}
use Rattle.header_trials.specs.declared.trial.Trial.{Trial}
use Rattle.header_trials.specs.declared.tried_channels.TriedChannels.{TriedChannels}
use Rattle.line_model.specs.channels.GapRestart.{GapInterfaceState, routing, start_by}
use Rattle.header_trials.specs.Watched.{Watched}
use Rattle.restart_epochs.specs.Walks.{IsStep, start_after, effect_of}
use Rattle.header_trials.specs.Reactions.{reaction_on, watched_after, watched}
use Rattle.header_trials.proofs.ReactionLemmas.{watched_more}
use Rattle.header_trials.proofs.TrialLemmas.{Steps, count_more, few_uncounted, octets_more, one_uncounted, packets_more}

-- ---- a trace has few rows

rises_below : (n b : ℕ) (rs : List Item) → b ≤ n → RisesFrom b (map (λ (r : Item). r.number) rs) → All (λ (r : Item). r.number ≤ n) rs → b + length rs ≤ n
rises_below n b [] le h all = omega arith
rises_below n b (r ∷ rs) le h all =
    let first : r.number ≤ n = All-head (λ (x : Item). x.number ≤ n) r rs all in
    let more = rises_below n r.number rs first h.1 (All-tail (λ (x : Item). x.number ≤ n) r rs all) in
    omega (arith, h.0, more)

pub few_rows : (i : Interface) (rs : List Item) → AreItems i rs → length rs ≤ 999999999
few_rows i rs t = let few = rises_below 999999999 0 rs (omega arith) (rises-from_index (0 ∷ map (λ (r : Item). r.number) rs) t.rising) t.numbers in omega (arith, few)

pub few_next : (i : Interface) (rs : List Item) (r : Item) → AreItems i (rs ++ r ∷ []) → length rs + 1 ≤ 999999999
few_next i rs r t = let few = few_rows i (rs ++ r ∷ []) t in omega (arith, few, length-append rs (r ∷ []))

pub few_octets : (i : Interface) (rs : List Item) (r : Item) → AreItems i (rs ++ r ∷ []) → sum_by (λ (x : Item). x.length) rs + r.length ≤ 2 ^ 31
few_octets i rs r t = let few = t.octets in omega (arith, few, sum_by_push (λ (x : Item). x.length) rs r)

-- ---- the channels

-- where an epoch begins all of them are so
fresh_channels : {A C : Type 0} (m : Machine C A) (i : Interface) (start : EpochStart) (e : ℕ) (states : ℕ → GapChannel) → ((k : ℕ) → states k ≡ fresh_at i start e k) → AreChannels {A = A} m i start e states no_channels
fresh_channels m i start e states h = record { each = h; recorded = λ some. absurd (omega (arith, some)) }

same_channels : {A C : Type 0} (m : Machine C A) (i : Interface) (start : EpochStart) (e : ℕ) (states after : ℕ → GapChannel) (channels : TriedChannels A C) → ((k : ℕ) → after k ≡ states k) → AreChannels m i start e states channels → AreChannels m i start e after channels
same_channels m i start e states after channels same h = record {
  each = λ k. subst (λ g. IsOpenChannelOf m i start e channels.gaps k g (value_at channels.open_channels k)) (sym (same k)) (h.each k);
  recorded = h.recorded;
}

-- ---- a row was received

-- what becomes of a trial by the step of a row: `affected` are the channels before a further epoch makes them fresh
pub record Takes {A C : Type 0} (m : Machine C A) (states : ℕ → GapChannel) (r : Item) (step : Step) (before after : Trial A C) (affected : TriedChannels A C) : Type 0 where
  pub interface : after.walk.interface ≡ before.walk.interface
  pub level : after.walk.machine ≡ step.machine
  pub epoch : after.walk.epoch ≡ step.epoch
  pub start : after.walk.start ≡ start_after before.walk.epoch before.walk.start step.epoch step.machine
  pub packets : after.walk.packets ≡ before.walk.packets + 1
  pub gaps : after.walk.gaps ≤ before.walk.gaps + 1
  pub channels : AreChannels m before.walk.interface before.walk.start before.walk.epoch (states_after step.effect before.walk.interface states r) affected
  pub few : affected.gaps ≤ before.channels.gaps + 1
  pub same : step.epoch ≡ before.walk.epoch → after.channels ≡ affected
  pub renewed : step.epoch ≢ before.walk.epoch → after.channels ≡ no_channels
  pub watch : (i : Interface) → before.walk.interface ≡ i → after.watch ≡ watched_after step.effect (reaction_on step.effect i before.walk.machine step.machine states r) before.watch

-- what is counted of a row with these events, if it has one finding at the most
pub record Counts (i : Interface) (r : Item) (found : List Finding) (es : List Event) (before after : TrialCounts) : Type 0 where
  pub findings : after.findings ≡ before.findings + length (found ++ findings_of es)
  pub packets : after.packets ≡ before.packets + length (uncounted_in i r es)
  pub octets : after.octets ≡ before.octets + sum (uncounted_in i r es)

-- how the epoch began that is open after a row
start_kept : (e : ℕ) (start : EpochStart) (n : ℕ) (g : GapInterfaceState) → n ≡ e → start_after e start n g ≡ start
start_kept e start n g same = ap (λ (b : Bool). elim b as (λ _. EpochStart) [ true ↦ start | false ↦ start_by g ]) (eq-eqb n e same)

start_renewed : (e : ℕ) (start : EpochStart) (n : ℕ) (g : GapInterfaceState) → n ≢ e → start_after e start n g ≡ start_by g
start_renewed e start n g other = ap (λ (b : Bool). elim b as (λ _. EpochStart) [ true ↦ start | false ↦ start_by g ]) (ne_eqb n e other)

pub channels_after : {A C : Type 0} (m : Machine C A) (i : Interface) (rs : List Item) (r : Item) (step : Step) (before after : Trial A C) (affected : TriedChannels A C) → HasWalked m i rs before → Steps i rs r step
    → Takes m (observer i rs).states r step before after affected → AreChannels m i after.walk.start (observer i (rs ++ r ∷ [])).epoch (observer i (rs ++ r ∷ [])).states after.channels
channels_after {A} {C} m i rs r step before after affected w s t = at (cases_eq step.epoch before.walk.epoch)
  where
    states : ℕ → GapChannel
    states = (observer i (rs ++ r ∷ [])).states

    here : AreChannels m i before.walk.start before.walk.epoch (states_after step.effect i (observer i rs).states r) affected
    here = subst (λ j. AreChannels m j before.walk.start before.walk.epoch (states_after step.effect j (observer i rs).states r) affected) w.interface t.channels

    at : (step.epoch ≡ before.walk.epoch) ⊎ (step.epoch ≡ before.walk.epoch → ⊥) → AreChannels m i after.walk.start (observer i (rs ++ r ∷ [])).epoch states after.channels
    at (inl same) =
        subst (λ n. AreChannels m i after.walk.start n states after.channels) (sym (s.epoch ∙ same))
        (subst (λ b. AreChannels m i b before.walk.epoch states after.channels) (sym (t.start ∙ start_kept before.walk.epoch before.walk.start step.epoch step.machine same))
        (subst (AreChannels m i before.walk.start before.walk.epoch states) (sym (t.same same))
        (same_channels m i before.walk.start before.walk.epoch (states_after step.effect i (observer i rs).states r) states affected (s.states (same ∙ w.epoch)) here)))
    at (inr other) =
        subst (λ n. AreChannels m i after.walk.start n states after.channels) (sym s.epoch)
        (subst (λ b. AreChannels m i b step.epoch states after.channels) (sym (t.start ∙ start_renewed before.walk.epoch before.walk.start step.epoch step.machine other))
        (subst (AreChannels m i (start_by step.machine) step.epoch states) (sym (t.renewed other))
        (fresh_channels m i (start_by step.machine) step.epoch states (s.renewed (λ h. other (h ∙ sym w.epoch))))))

-- a row has one finding at the most
one_of_channel : (i : Interface) (e k : ℕ) (c : GapChannel) (r : Item) → length (findings_of (row_events i e k c r)) ≤ 1
one_of_channel i e k c r =
    let first : Option Finding = slice_get (findings_of (row_events i e k c r)) 0 in
    subst (λ (l : List Finding). length l ≤ 1) (one_finding i e k c r (row_events i e k c r) first refl refl) (at_most_one first)

pub one_after : (i : Interface) (rs : List Item) (r : Item) (step : Step) → ((k : ℕ) → step.effect ≡ ToChannel k → option_to_list step.finding ≡ []) → length (option_to_list step.finding ++ findings_of (events_after step.effect i (observer i rs).epoch (observer i rs).states r)) ≤ 1
one_after i rs r step none = at step.effect refl
  where
    at : (t : ChannelEffect) → step.effect ≡ t → length (option_to_list step.finding ++ findings_of (events_after t i (observer i rs).epoch (observer i rs).states r)) ≤ 1
    at (ToChannel k) e =
        let o = observer i rs in
        let one = one_of_channel i o.epoch k (o.states k) r in
        subst (λ (l : List Finding). length (l ++ findings_of (row_events i o.epoch k (o.states k) r)) ≤ 1) (sym (none k e)) one
    at t e = let one = at_most_one step.finding in omega (arith, one, length-append (option_to_list step.finding) [])

pub tally_after : (i : Interface) (rs : List Item) (r : Item) (step : Step) (before after : TrialCounts) → before ≡ tally_of i rs → Steps i rs r step
    → Counts i r (option_to_list step.finding) (events_after step.effect i (observer i rs).epoch (observer i rs).states r) before after → after ≡ tally_of i (rs ++ r ∷ [])
tally_after i rs r step before after was s c =
    let findings : after.findings ≡ (tally_of i (rs ++ r ∷ [])).findings =
    c.findings ∙ (λ j. (was j).findings + length (sym s.found j)) ∙ sym (count_more i rs r) in
    let packets : after.packets ≡ (tally_of i (rs ++ r ∷ [])).packets =
    c.packets ∙ (λ j. (was j).packets + sym s.left.packets j) ∙ sym (packets_more i rs r) in
    let octets : after.octets ≡ (tally_of i (rs ++ r ∷ [])).octets =
    c.octets ∙ (λ j. (was j).octets + sym s.left.octets j) ∙ sym (octets_more i rs r) in
    λ j. record { findings = findings j; packets = packets j; octets = octets j }

watch_same : (i : Interface) (states : ℕ → GapChannel) (r : Item) (t u : ChannelEffect) (a b c d : GapInterfaceState) (w v : Watched) → t ≡ u → a ≡ b → c ≡ d → w ≡ v → watched_after t (reaction_on t i a c states r) w ≡ watched_after u (reaction_on u i b d states r) v
watch_same i states r t u a b c d w v effect before after same = λ j. watched_after (effect j) (reaction_on (effect j) i (before j) (after j) states r) (same j)

-- what is watched after a row
pub watch_after : {A C : Type 0} (m : Machine C A) (i : Interface) (rs : List Item) (r : Item) (step : Step) (before after : Trial A C) (affected : TriedChannels A C) → HasWalked m i rs before → IsStep before.walk.machine before.walk.epoch r step
    → Takes m (observer i rs).states r step before after affected → after.watch ≡ watched i (rs ++ r ∷ [])
watch_after m i rs r step before after affected w is t =
    t.watch i w.interface
    ∙ watch_same i (observer i rs).states r step.effect _ _ _ _ _ before.watch _ (is.effect ∙ ap (λ l. effect_of r.packet (routing l r).route) w.level) w.level
    (is.machine ∙ ap (λ l. (routing l r).after) w.level) w.watch
    ∙ sym (watched_more i rs r)

gaps_after : {A C : Type 0} (m : Machine C A) (i : Interface) (rs : List Item) (r : Item) (step : Step) (before after : Trial A C) (affected : TriedChannels A C) → HasWalked m i rs before → Takes m (observer i rs).states r step before after affected → after.channels.gaps ≤ length rs + 1
gaps_after m i rs r step before after affected w t = at (cases_eq step.epoch before.walk.epoch)
  where
    at : (step.epoch ≡ before.walk.epoch) ⊎ (step.epoch ≡ before.walk.epoch → ⊥) → after.channels.gaps ≤ length rs + 1
    at (inl same) = omega (arith, ap (λ c. c.gaps) (t.same same), t.few, w.few.gaps_of_all)
    at (inr other) = omega (arith, ap (λ c. c.gaps) (t.renewed other))

few_after : {A C : Type 0} (m : Machine C A) (i : Interface) (rs : List Item) (r : Item) (step : Step) (before after : Trial A C) (affected : TriedChannels A C) (found : List Finding) (es : List Event) → HasWalked m i rs before → Takes m (observer i rs).states r step before after affected
    → step.epoch ≤ (observer i rs).epoch + 1 → length (found ++ findings_of es) ≤ 1 → Counts i r found es before.tally after.tally → IsFew (rs ++ r ∷ []) after
few_after m i rs r step before after affected found es w t next one c =
    let few = w.few in
    let more : length (rs ++ r ∷ []) ≡ length rs + 1 = length-append rs (r ∷ []) in
    let one_packet = one_uncounted i r es in
    let octets = few_uncounted i r es in
    let gaps = gaps_after m i rs r step before after affected w t in
    record {
      epochs = omega (arith, t.epoch, next, w.epoch, few.epochs, more);
      rows = omega (arith, few.rows, t.packets, more);
      gaps = omega (arith, few.gaps, t.gaps, more);
      gaps_of_all = omega (arith, gaps, more);
      findings = omega (arith, few.findings, c.findings, one, more);
      uncounted = omega (arith, few.uncounted, c.packets, one_packet, more);
      octets = omega (arith, few.octets, c.octets, octets, sum_by_push (λ (x : Item). x.length) rs r);
    }

pub walked_after : {A C : Type 0} (m : Machine C A) (i : Interface) (rs : List Item) (r : Item) (step : Step) (before after : Trial A C) (affected : TriedChannels A C) → HasWalked m i rs before → Steps i rs r step
    → length (option_to_list step.finding ++ findings_of (events_after step.effect i (observer i rs).epoch (observer i rs).states r)) ≤ 1
    → Takes m (observer i rs).states r step before after affected
    → Counts i r (option_to_list step.finding) (events_after step.effect i (observer i rs).epoch (observer i rs).states r) before.tally after.tally
    → IsStep before.walk.machine before.walk.epoch r step → HasWalked m i (rs ++ r ∷ []) after
walked_after m i rs r step before after affected w s one t c is = record {
  interface = t.interface ∙ w.interface;
  level = t.level ∙ sym s.level;
  epoch = t.epoch ∙ sym s.epoch;
  channels = channels_after m i rs r step before after affected w s t;
  tally = tally_after i rs r step before.tally after.tally w.tally s c;
  watch = watch_after m i rs r step before after affected w is t;
  few = few_after m i rs r step before after affected (option_to_list step.finding) (events_after step.effect i (observer i rs).epoch (observer i rs).states r) w t s.next one c;
}

-- ---- as the calls of one row have it

pub channels_under : {A C : Type 0} (m : Machine C A) (i : Interface) (rs : List Item) (t : Trial A C) (v : EpochWalk A) → HasWalked m i rs t → v.interface ≡ t.walk.interface → v.start ≡ t.walk.start → v.epoch ≡ t.walk.epoch
    → AreChannels m v.interface v.start v.epoch (observer i rs).states t.channels
channels_under m i rs t v w interface start epoch =
    subst (λ j. AreChannels m j v.start v.epoch (observer i rs).states t.channels) (sym (interface ∙ w.interface))
    (subst (λ b. AreChannels m i b v.epoch (observer i rs).states t.channels) (sym start)
    (subst (λ e. AreChannels m i t.walk.start e (observer i rs).states t.channels) (sym (epoch ∙ w.epoch)) w.channels))

pub affected_under : {A C : Type 0} (m : Machine C A) (i j : Interface) (a b : EpochStart) (e f : ℕ) (effect : ChannelEffect) (states : ℕ → GapChannel) (r : Item) (affected : TriedChannels A C) → i ≡ j → a ≡ b → e ≡ f → AreChannels m i a e (states_after effect i states r) affected → AreChannels m j b f (states_after effect j states r) affected
affected_under m i j a b e f effect states r affected interface start epoch h =
    subst (λ k. AreChannels m k b f (states_after effect k states r) affected) interface (subst (λ c. AreChannels m i c f (states_after effect i states r) affected) start (subst (λ n. AreChannels m i a n (states_after effect i states r) affected) epoch h))

pub counts_under : (i j : Interface) (r : Item) (found : List Finding) (es fs : List Event) (before mid made after : TrialCounts) → j ≡ i → fs ≡ es → mid ≡ before → after ≡ made → length (found ++ findings_of es) ≤ 1
    → (length (found ++ findings_of fs) ≤ 1 → made.findings ≡ mid.findings + length (found ++ findings_of fs)) → made.packets ≡ mid.packets + length (uncounted_in j r fs) → made.octets ≡ mid.octets + sum (uncounted_in j r fs)
    → Counts i r found es before after
counts_under i j r found es fs before mid made after interface events was now one findings packets octets = record {
  findings = ap (λ t. t.findings) now ∙ findings (subst (λ l. length (found ++ findings_of l) ≤ 1) (sym events) one) ∙ (λ k. (was k).findings + length (found ++ findings_of (events k)));
  packets = ap (λ t. t.packets) now ∙ packets ∙ (λ k. (was k).packets + length (uncounted_in (interface k) r (events k)));
  octets = ap (λ t. t.octets) now ∙ octets ∙ (λ k. (was k).octets + sum (uncounted_in (interface k) r (events k)));
}
