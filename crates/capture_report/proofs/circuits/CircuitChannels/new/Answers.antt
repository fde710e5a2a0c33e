-- Circuit by circuit.
use Rattle.std.proofs.Common.{◌≡◌, ◌∙◌, ◌+◌, ◌<◌, ◌≤◌, sym, ap, Some, ◌∷◌, drop, get_or, length, arith, subst, nat_cmp}
use Rattle.std.proofs.lemmas.List.{at_drop_more, length-map}
use Rattle.std.proofs.lemmas.Map.Views.{All-values-insert_entry}
use Rattle.xot_circuits.specs.Plans.{AreWithin, IsWithin, new_channels, plan_of}
use Rattle.capture_report.specs.CircuitChannels.{AreChannels, IsChannel, channel_of}
use Rattle.capture_report.specs.Circuits.{channel_by}
use Rattle.capture_report.proofs.CircuitChannelLemmas.{IsKept, kept_all, kept_none, kept_some, no_circuit}
use Rattle.capture_report.proofs.RowWordLemmas.{few_channels}
use Rattle.capture_report.proofs.circuits.CircuitChannels.new.Goals as goal
use Rattle.capture_report.proofs.circuits.CircuitChannels.new.Goals.{in-Some+in_ok-insert, in_default}

pub loop-index-preserved : goal.loop-index-preserved
loop-index-preserved c =
    let xs = c.args.circuits.now in
    let gs = c.in_ok-given.given.items in
    let i = c.loop-index.index in
    let old = c.loop-index.channels.entries in
    let x = get_or xs i no_circuit in
    let g = c.index.result.now in
    let same : length gs ≡ length xs = c.in_ok-given.ensures.each ∙ (ap length (c.deref.ensures.value ∙ c.in_ok-wanted.ensures) ∙ length-map xs (λ x. x.wanted)) in
    let there : i < length gs = omega (arith, same, c.loop-index-test.true) in
    let circuits : drop i xs ≡ x ∷ drop (i + 1) xs = at_drop_more (λ l. l) xs i no_circuit c.loop-index-test.true in
    let given : drop i gs ≡ g ∷ drop (i + 1) gs = at_drop_more (λ l. l) gs i g there ∙ ap (λ y. y ∷ drop (i + 1) gs) (sym c.index.ensures) in
    let before : IsKept (x ∷ drop (i + 1) xs) (g ∷ drop (i + 1) gs) (channel_by xs gs) old =
    subst (λ l. IsKept l (g ∷ drop (i + 1) gs) (channel_by xs gs) old) circuits (subst (λ l. IsKept (drop i xs) l (channel_by xs gs) old) given c.loop-index.invariant.all) in
    let within : AreWithin c.args.header (g ∷ drop (i + 1) gs) = subst (AreWithin c.args.header) given c.loop-index.invariant.within in
    elim c.match-index.branch [
      | in-Some+in_ok-insert w ↦
          let of : IsWithin c.args.header (Some w.in-Some.given) = subst (IsWithin c.args.header) w.in-Some.is within.0 in
          let most : c.args.header.svc ≤ 4095 = few_channels c.args.header in
          record {
            all = kept_some x (drop (i + 1) xs) g w.in-Some.given (drop (i + 1) gs) (channel_by xs gs) old c.match-index.channels.entries w.in-Some.is
                (λ n. ap (λ m. channel_of m.entries n) w.channels-is ∙ w.in_ok-insert.ensures.updates.0 n) before;
            within = within.1;
            kept = subst AreChannels (sym (ap (λ m. m.entries) w.channels-is ∙ w.in_ok-insert.ensures.entries))
                (All-values-insert_entry nat_cmp x.connection w.in-Some.given.channel IsChannel old c.loop-index.invariant.kept (of.0, omega (arith, of.1, most)));
          }
      | in_default w ↦ record {
        all = kept_none x (drop (i + 1) xs) g (drop (i + 1) gs) (channel_by xs gs) old c.match-index.channels.entries w.in_default.is (ap (λ m. m.entries) w.channels-is) before;
        within = within.1;
        kept = subst AreChannels (sym (ap (λ m. m.entries) w.channels-is)) c.loop-index.invariant.kept;
      }
    ]

pub returns : goal.returns
returns c =
    let xs = c.args.circuits.now in
    let gs = c.in_ok-given.given.items in
    let planned = c.in_ok-given.ensures.planned ∙ ap (plan_of (new_channels c.args.header)) (c.deref.ensures.value ∙ c.in_ok-wanted.ensures) in
    λ j n. (kept_all xs gs c.loop-index.channels.entries c.loop-index.index (omega (arith, c.loop-index-test.false)) c.loop-index.invariant.all n ∙ ap (λ l. channel_by xs l n) planned) j
