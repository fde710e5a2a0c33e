-- What the events of a row weigh on a channel of a recording with gaps: no more than a finding with a data packet of the row.
use Rattle.std.proofs.Common.{◌≡◌, ◌∙◌, ℕ, ◌+◌, ◌≤◌, Bool, true, false, not, ◌&&◌, Option, Some, None, List, [], ◌∷◌, ◌++◌, map, refl, ap, arith}
use Rattle.std.specs.Prelude.{Result, Ok, Err, is_some, option_and_then}
use Rattle.std.proofs.lemmas.List.{map-append}
use Rattle.line_model.specs.declared.diagnostic.TheConstants.{INCONSISTENT_Q_BIT_SETTING}
use Rattle.line_model.specs.declared.interface.Interface.{Interface}
use Rattle.line_model.specs.declared.packet.Class.{Class}
use Rattle.line_model.specs.declared.packet.Class.TheVariants.{Data, Interrupt, InterruptConfirm}
use Rattle.line_model.specs.declared.packet.DataHeader.{DataHeader}
use Rattle.line_model.specs.declared.state.Side.{Side}
use Rattle.line_model.specs.declared.state.StateName.{StateName}
use Rattle.line_model.specs.declared.event.How.{How}
use Rattle.line_model.specs.declared.event.How.TheVariants.{Gap}
use Rattle.line_model.specs.declared.event.What.{What}
use Rattle.line_model.specs.declared.gap.LastData.{LastData}
use Rattle.line_model.specs.declared.gap.AdriftEntry.{AdriftEntry}
use Rattle.line_model.specs.declared.gap.AdriftEntry.TheVariants.{OpensCall, Accepts, Clears, ConfirmsClear, Resets, ConfirmsReset, Carries, DoesNothing}
use Rattle.line_model.specs.basics.Records.{Item}
use Rattle.line_model.specs.packets.Classes.{packet_class}
use Rattle.line_model.specs.packets.Says.{gap_of, header_in, receive_in}
use Rattle.line_model.specs.packets.Formats.{packet_fault, size_in_force}
use Rattle.line_model.specs.channels.Channels.{AcceptedData, Channel, is_in_transfer, is_open, is_permanent, of_side, other}
use Rattle.line_model.specs.channels.FlowControl.{Counts, count_data, count_receive}
use Rattle.line_model.specs.channels.Pad.{form_fault, is_indication, is_set}
use Rattle.line_model.specs.channels.Verdicts.{Verdict}
use Rattle.line_model.specs.channels.Verdicts.Verdict.{Fails, Moves, Transfers, EndsOwed, Nothing}
use Rattle.line_model.specs.channels.ChannelStep.{counts_of, accepted_of, judged, report_nothing, verdict}
use Rattle.line_model.specs.channels.Gaps.{Certainty, Doubts, GapChannel, WhileAdrift, largest_terms}
use Rattle.line_model.specs.channels.Gaps.Certainty.{Adrift, Certain, Settled}
use Rattle.line_model.specs.channels.GapStep.{GapOutcome, accepting_in_doubt, acknowledged_data, adrift_carried, adrift_entry, adrift_fault, adrift_received, adrift_step, adrift_step_by, brought_up, coming_up, completed_for_data, completed_for_receive, counted_in_doubt, counting_in_doubt, data_in_doubt, data_reported, failing_in_doubt, hidden_when_up, is_in_use, is_mixed, is_resetting, may_be_begun, message_in_doubt, packet_step, receive_in_doubt, receive_of, settings_by_form, settings_in_doubt, settled_verdict, transferring_in_doubt, window_in_doubt}
use Rattle.line_model.specs.observer.MachineEvents.{stamp}
use Rattle.line_model.specs.observer.Observer.{x25, end_of_epoch, epoch_end_if, event_of, is_confirmation, row_step, step_by}
use Rattle.line_model.specs.pieces.Pieces.{events_of_steps}
use Rattle.line_model.proofs.EventWeights.{total, total-append, weight, weighing}
use Rattle.line_model.proofs.GapMachines.{row_events_are}
use Rattle.line_model.proofs.RowWeights.{IsMost, ending_none, failing_few, packet_few, settings_none, stamp_weight, verdict_few}

-- the first of two where a test is true
abbrev pub either : {A : Type 0} → Bool → A → A → A
either b x y = elim b [ true ↦ x | false ↦ y ]

module _ (a : ℕ) (f : ℕ → ℕ) (b : ℕ) where
  -- events that weigh no more than those of a row may
  abbrev IsFew : List What → Type 0
  IsFew ws = total (weighing a f) ws ≤ b

  few_if : (q : Bool) (o p : GapOutcome) → IsFew o.reported → IsFew p.reported → IsFew (either q o p).reported
  few_if true o p h k = h
  few_if false o p h k = k

  none_few : (ws : List What) → total (weighing a f) ws ≡ 0 → IsFew ws
  none_few ws h = omega arith

  more_few : (us vs : List What) → total (weighing a f) us ≡ 0 → IsFew vs → IsFew (us ++ vs)
  more_few us vs h k = let e = total-append (weighing a f) us vs in omega arith

  enough : (r : Item) → IsMost a f b r → a ≤ b
  enough r most = let e = most 0 (omega arith) in omega arith

  -- ---- a channel adrift has data alone

  up_none : (i : Interface) (c : Channel) → total (weighing a f) (brought_up i c).reported ≡ 0
  up_none i c = at (is_in_transfer c)
    where
      at : (q : Bool) → total (weighing a f) (either q (report_nothing c) (coming_up (largest_terms i) c)).reported ≡ 0
      at true = refl
      at false = refl

  data_few : (i : Interface) (r : Item) (h : Option DataHeader) → IsMost a f b r → IsFew (data_reported i r h)
  data_few i r None most = omega arith
  data_few i r (Some h) most = let e = most (accepted_of i r h).length (omega arith) in omega arith

  received_few : (i : Interface) (r : Item) (w : WhileAdrift) (g : GapChannel) (n : Option ℕ) (l : Option LastData) → IsMost a f b r → IsFew (adrift_received i r w g n l).reported
  received_few i r w g (Some n) (Some l) most = data_few i r (header_in r.packet) most
  received_few i r w g (Some n) None most = data_few i r (header_in r.packet) most
  received_few i r w g None l most = data_few i r (header_in r.packet) most

  carried_few : (i : Interface) (r : Item) (w : WhileAdrift) (g : GapChannel) → IsMost a f b r → IsFew (adrift_carried i r w g).reported
  carried_few i r w g most =
      few_if (is_resetting (other r.side) g.channel.state) _ _ (omega arith) (received_few i r w g (receive_of r) (option_and_then (acknowledged_data w r.side) (receive_of r)) most)

  entry_few : (e : AdriftEntry) (i : Interface) (n : ℕ) (r : Item) (w : WhileAdrift) (g : GapChannel) → IsMost a f b r → IsFew (adrift_step_by e i n r w g).reported
  entry_few OpensCall i n r w g most = more_few _ _ (ending_none a f Gap g.channel.opening _) (omega arith)
  entry_few Accepts i n r w g most = few_if (is_open g.channel && not (is_in_transfer g.channel)) _ _ (omega arith) (omega arith)
  entry_few Clears i n r w g most = none_few _ (ending_none a f _ g.channel.opening _)
  entry_few ConfirmsClear i n r w g most = none_few _ (ending_none a f Gap g.channel.opening _)
  entry_few Resets i n r w g most = few_if (is_in_use i n g.channel) _ _ (more_few (brought_up i g.channel).reported [] (up_none i g.channel) (omega arith)) (omega arith)
  entry_few ConfirmsReset i n r w g most = few_if (is_in_use i n g.channel) _ _ (more_few (brought_up i g.channel).reported [] (up_none i g.channel) (omega arith)) (omega arith)
  entry_few Carries i n r w g most =
      few_if (is_in_use i n g.channel) _ _
      (more_few (brought_up i g.channel).reported _ (up_none i g.channel) (carried_few i r (record w { hidden = hidden_when_up w g.channel }) (record g { channel = (brought_up i g.channel).after }) most)) (omega arith)
  entry_few DoesNothing i n r w g most = omega arith

  adrift_few : (i : Interface) (n : ℕ) (r : Item) (w : WhileAdrift) (g : GapChannel) → IsMost a f b r → IsFew (adrift_step i n r w g).reported
  adrift_few i n r w g most =
      few_if (is_some (adrift_fault i n g.channel r)) _ _ (omega arith) (entry_few (adrift_entry (is_permanent i n) (packet_class r.packet)) i n r w g most)

  -- ---- a settled channel

  form_none : (q : Bool) (x : Side) (m : List ℕ) → total (weighing a f) (settings_by_form q x m) ≡ 0
  form_none true x m = refl
  form_none false x m = settings_none a f (is_indication m) (is_set m) x m

  message_none : (x : Side) (m : Option (List ℕ)) → total (weighing a f) (settings_in_doubt x m) ≡ 0
  message_none x None = refl
  message_none x (Some m) = form_none (is_some (form_fault m)) x m

  counting_few : (x : Side) (s : StateName) (v : Result Counts ℕ) (t u : Doubts) (d c : Channel) → a ≤ b → IsFew (counting_in_doubt x s v t u d c).outcome.reported
  counting_few x s (Err n) t u d c le = let few = failing_few a f x s n c in omega arith
  counting_few x s (Ok v) t u d c le = omega arith

  mixed_few : (q : Bool) (m : ℕ) (x : Side) (s : StateName) (size : ℕ) (p : AcceptedData) (v : Counts) (message : Option (List ℕ)) (t : Doubts) (d c : Channel) → a + f p.length ≤ b
      → IsFew (either q (failing_in_doubt x s INCONSISTENT_Q_BIT_SETTING t c) (accepting_in_doubt m x size p v message t d)).outcome.reported
  mixed_few true m x s size p v message t d c le = let few = failing_few a f x s INCONSISTENT_Q_BIT_SETTING c in omega arith
  mixed_few false m x s size p v message t d c le = let none = message_none x message in omega arith

  counted_few : (m : ℕ) (x : Side) (s : StateName) (size : ℕ) (p : AcceptedData) (v : Result Counts ℕ) (t : Doubts) (d c : Channel) → a + f p.length ≤ b → IsFew (counted_in_doubt m x s size p v t d c).outcome.reported
  counted_few m x s size p (Err n) t d c le = let few = failing_few a f x s n c in omega arith
  counted_few m x s size p (Ok v) t d c le =
      let hs = may_be_begun t.hidden size x d.accepted in
      mixed_few (is_mixed t.hidden (of_side x t.sequences) p hs) m x s size p v (message_in_doubt t.hidden (of_side x t.sequences) size p hs d) t d c le

  doubted_few : (i : Interface) (s : StateName) (r : Item) (h : Option DataHeader) (t : Doubts) (c : Channel) → IsMost a f b r → IsFew (data_in_doubt i s r h t c).outcome.reported
  doubted_few i s r None t c most = omega arith
  doubted_few i s r (Some h) t c most =
      let d = completed_for_data i.modulus t r.side h c in
      counted_few i.modulus r.side s (size_in_force i c r.side) (accepted_of i r h) (count_data i.modulus (window_in_doubt i t c r.side) (counts_of d) r.side h.send h.receive) t d c
      (most (accepted_of i r h).length (omega arith))

  receive_few : (m : ℕ) (x : Side) (s : StateName) (n : Option ℕ) (t : Doubts) (c : Channel) → a ≤ b → IsFew (receive_in_doubt m x s n t c).outcome.reported
  receive_few m x s None t c le = omega arith
  receive_few m x s (Some n) t c le =
      let d = completed_for_receive m t x n c in
      counting_few x s (count_receive m (counts_of d) x n) t t d c le

  transferring_few : (i : Interface) (s : StateName) (k : Class) (r : Item) (t : Doubts) (c : Channel) → IsMost a f b r → IsFew (transferring_in_doubt i s k r t c).outcome.reported
  transferring_few i s Data r t c most = doubted_few i s r (header_in r.packet) t c most
  transferring_few i s Interrupt r t c most = counting_few r.side s _ t _ _ c (enough r most)
  transferring_few i s InterruptConfirm r t c most = counting_few r.side s _ t _ _ c (enough r most)
  transferring_few i s k r t c most = receive_few i.modulus r.side s (receive_in r.packet) t c (enough r most)

  settled_few : (i : Interface) (s : StateName) (r : Item) (v : Verdict) (t : Doubts) (c : Channel) → IsMost a f b r → IsFew (settled_verdict i s r v t c).outcome.reported
  settled_few i s r Transfers t c most = transferring_few i s (packet_class r.packet) r t c most
  settled_few i s r (Fails q n) t c most = verdict_few a f b i s r (Fails q n) c most
  settled_few i s r (Moves q) t c most = verdict_few a f b i s r (Moves q) c most
  settled_few i s r EndsOwed t c most = verdict_few a f b i s r EndsOwed c most
  settled_few i s r Nothing t c most = verdict_few a f b i s r Nothing c most

  -- ---- a row

  certainty_few : (t : Certainty) (i : Interface) (n : ℕ) (r : Item) (g : GapChannel) → IsMost a f b r → IsFew (packet_step t i n r g).reported
  certainty_few Certain i n r g most = packet_few a f b i n g.channel r most
  certainty_few (Adrift w) i n r g most = adrift_few i n r w g most
  certainty_few (Settled t) i n r g most =
      let j = judged (is_permanent i n) r.side g.channel.state g.channel.owed (packet_class r.packet) in
      settled_few i j.state r (verdict j (packet_fault i n g.channel r)) t g.channel most

  pub row_few : (i : Interface) (k : ℕ) (g : GapChannel) (r : Item) → IsMost a f b r → total (weighing a f) (row_step i k g r).reported ≤ b
  row_few i k g r most = at (gap_of r.packet)
    where
      at : (gap : Option (Option ℕ)) → total (weighing a f) (step_by gap i k g r).reported ≤ b
      at None = certainty_few g.certainty i k r g most
      at (Some c) = omega arith

-- ---- the rows of a piece

pub end_weight : (a : ℕ) (f : ℕ → ℕ) (e : ℕ) (k : Option ℕ) (r : Item) (b : Bool) (h : How) → weight (weighing a f) (map event_of (stamp e k r (epoch_end_if b h))) ≡ 0
end_weight a f e k r true h = refl
end_weight a f e k r false h = refl

-- the events of a piece weigh no more than the most that its rows may
pub piece_few : (a : ℕ) (f : ℕ → ℕ) (most : Item → ℕ) → ((r : Item) → IsMost a f (most r) r)
    → (i : Interface) (e k : ℕ) (g : GapChannel) (items : List Item) (end : Option Item)
    → weight (weighing a f) (map event_of (events_of_steps (x25 i) e k g items end)) ≤ total most items
piece_few a f most h i e k g [] None = omega arith
piece_few a f most h i e k g [] (Some r) = let none = end_weight a f e (Some k) r (is_open g.channel) (end_of_epoch (g.restarting && is_confirmation r)) in omega arith
piece_few a f most h i e k g (r ∷ items) end =
    let ws : List What = (row_step i k g r).reported in
    let d : GapChannel = (row_step i k g r).after in
    let parts =
    ap (λ vs. weight (weighing a f) (map event_of (vs ++ events_of_steps (x25 i) e k d items end))) (row_events_are i e k g r)
    ∙ ap (weight (weighing a f)) (map-append event_of (stamp e (Some k) r ws) (events_of_steps (x25 i) e k d items end))
    ∙ total-append (λ v. weighing a f v.what) (map event_of (stamp e (Some k) r ws)) (map event_of (events_of_steps (x25 i) e k d items end)) in
    let own = stamp_weight a f e (Some k) r ws in
    let few = row_few a f (most r) i k g r (h r) in
    let more = piece_few a f most h i e k d items end in
    omega arith
