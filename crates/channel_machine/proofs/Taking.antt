-- What a packet of data transfer does to a channel.
use Rattle.std.proofs.Common.{◌≡◌, ◌-◌, ℕ, false, refl, sym, ◌∙◌, ap, subst, append-nil, List, [], ◌++◌, map, Option, Some, None, Result, Ok, Err}
use Rattle.std.specs.Prelude.{IfOk}
use Rattle.line_model.specs.declared.fault.Fault.{Fault}
use Rattle.channel_machine.specs.Events.{Reports, data_of, event_at}
use Rattle.channel_machine.proofs.SaidData.{unqualified_is}
use Rattle.packet_decode.specs.SaidData.{IsSaidData}
use Rattle.line_model.specs.packets.Classes.{header_length}
use Rattle.line_model.specs.declared.event.What.{What}
use Rattle.data_transfer.specs.Assembly.{unqualified}
use Rattle.data_transfer.specs.FlowResidues.{FlowResidues}
use Rattle.line_model.specs.declared.event.Event.{Event}
use Rattle.line_model.specs.declared.interface.Interface.{Interface}
use Rattle.line_model.specs.declared.packet.DataHeader.{DataHeader}
use Rattle.line_model.specs.declared.state.Side.{Side}
use Rattle.line_model.specs.declared.state.StateName.{StateName}
use Rattle.line_model.specs.channels.Channels.{Channel, AcceptedData}
use Rattle.line_model.specs.basics.Records.{Item}
use Rattle.line_model.specs.channels.FlowControl.{Counts}
use Rattle.line_model.specs.channels.ChannelStep.{Outcome, counting, data_counted, data_step, accepted_of, accepting_data}
use Rattle.channel_machine.specs.declared.events.EventOrigin.{EventOrigin}
use Rattle.channel_machine.specs.Transfers.{Represents, IsCounted, IsAccepted, counted_in_force}
use Rattle.channel_machine.specs.Channels.{Known, StatusRepresents, Does, DoesApart, IsJudged, Passes, listed}

-- what follows a fault that left the channel as it was
pub refusing : (P : Known → Outcome → Type 0) (old mid : Known) (c : Channel) (f : Channel → Outcome) (o : Outcome) → (f c ≡ o) × (mid ≡ old) → StatusRepresents old c →
    ((d : Channel) → StatusRepresents mid d → P mid (f d)) → P old o
refusing P old mid c f o same represented does =
    subst (λ p. P old p) same.0 (subst (λ u. P u (f c)) same.1 (does c (subst (λ u. StatusRepresents u c) (sym same.1) represented)))

-- a packet that changes the counts alone
judged_at : {U : Type 0} (r : Result U ℕ) (old : Known) (f : FlowResidues) (x : Side) (q : StateName) (a : Result Counts ℕ) (c : Channel) → StatusRepresents old c →
    IsCounted r old.terms.interface old.transfer (record old.transfer { flow = f }) a c →
    IsJudged r (λ _. []) x q old (record old { transfer = record old.transfer { flow = f } }) c (counting x q a c)
judged_at (Ok u) old f x q a c represented answer =
    let (v, is, transfer) = answer in
    subst (λ b. Passes old (record old { transfer = record old.transfer { flow = f } }) [] (counting x q b c)) (sym is) (record {
      interface = refl;
      channel = refl;
      represented = record { state = represented.state; owed = represented.owed; terms = record { call = represented.terms.call; values = represented.terms.values }; transfer = transfer };
      reported = refl;
    })
judged_at (Err e) old f x q a c represented answer = (ap (λ b. counting x q b c) (sym answer.0), ap (λ t. record old { transfer = t }) answer.1)

pub judged_counts : {U : Type 0} (r : Result U ℕ) (old p new : Known) (f : FlowResidues) (x : Side) (q : StateName) (a : Interface → Result Counts ℕ) (c : Channel) → old ≡ p →
    new ≡ record old { transfer = record old.transfer { flow = f } } → StatusRepresents p c →
    (Represents old.terms.interface old.transfer c → IsCounted r old.terms.interface old.transfer (record old.transfer { flow = f }) (a old.terms.interface) c) →
    IsJudged r (λ _. []) x q p new c (counting x q (a p.terms.interface) c)
judged_counts r old p new f x q a c same rest represented answer =
    let st : StatusRepresents old c = subst (λ o. StatusRepresents o c) (sym same) represented in
    subst (λ (o : Known). IsJudged r (λ _. []) x q o new c (counting x q (a o.terms.interface) c)) same
    (subst (λ o. IsJudged r (λ _. []) x q old o c (counting x q (a old.terms.interface) c)) (sym rest) (judged_at r old f x q (a old.terms.interface) c st (answer st.transfer)))

-- the same of the side and the outcome that it is known to have
pub judged_as : {U : Type 0} (a : Result U ℕ) (old new : Known) (x y : Side) (q : StateName) (c : Channel) (o p : Outcome) → x ≡ y → o ≡ p →
    IsJudged a (λ _. []) x q old new c o → IsJudged a (λ _. []) y q old new c p
judged_as a old new x y q c o p side same judged = subst (λ (v : Side × Outcome). IsJudged a (λ _. []) v.0 q old new c v.1) (λ j. (side j, same j)) judged

-- the data packet that a row says
pub data_is : (i : Interface) (q : StateName) (r : Item) (h : DataHeader) (p : AcceptedData) (x : Side) (c : Channel) → x ≡ r.side → p ≡ accepted_of i r h →
    data_counted i x q p (counted_in_force i x h.send h.receive c) c ≡ data_step i q r (Some h) c
data_is i q r h p x c side same = λ j. data_counted i (side j) q (same j) (counted_in_force i (side j) h.send h.receive c) c

-- a data packet with Q 0 of a row
pub judged_data : {U : Type 0} (a : Result U ℕ) (ws : Side → U → List What) (old p new : Known) (x : Side) (q : StateName) (r : Item) (h : DataHeader) (n : ℕ) (c : Channel) →
    old ≡ p → x ≡ r.side → n ≡ r.length - header_length p.terms.interface → IsSaidData p.terms.interface r h → h.qualified ≡ false →
    IsJudged a (ws x) x q old new c (data_counted old.terms.interface x q (unqualified x h.more h.delivery n) (counted_in_force old.terms.interface x h.send h.receive c) c) →
    IsJudged a (ws r.side) r.side q p new c (data_step p.terms.interface q r (Some h) c)
judged_data a ws old p new x q r h n c same side long said without_q judged =
    let i = p.terms.interface in
    let d : AcceptedData = unqualified x h.more h.delivery n in
    subst (λ (v : Side × Outcome). IsJudged a (ws v.0) v.0 q p new c v.1)
    (λ j. (side j, data_is i q r h d x c side (unqualified_is i r h x n said without_q side long) j))
    (subst (λ (o : Known). IsJudged a (ws x) x q o new c (data_counted o.terms.interface x q d (counted_in_force o.terms.interface x h.send h.receive c) c)) same judged)

-- a packet that passes, with its events listed, or that of its data apart
pub passes_listed : (s : EventOrigin) (old new : Known) (before after : List Event) (ws : List What) (o : Outcome) → Passes old new ws o → Reports s before after ws → Does s old new before after o
passes_listed s old new before after ws o passes reports = record {
  interface = passes.interface;
  channel = passes.channel;
  represented = passes.represented;
  reports = reports ∙ ap (λ vs. before ++ map (event_at s) vs) (sym passes.reported);
}

pub passes_apart : (s : EventOrigin) (old new : Known) (events : List Event) (x : Side) (accepted : Option ℕ) (o : Outcome) → Passes old new (data_of x accepted) o →
    DoesApart s x old new events events accepted o
passes_apart s old new events x accepted o passes = record {
  interface = passes.interface;
  channel = passes.channel;
  represented = passes.represented;
  reports = ap (λ ws. events ++ map (event_at s) ws) (sym passes.reported);
}

-- a step whose events are all listed
listed_by : {U : Type 0} (q : Result U Fault) (s : EventOrigin) (x : Side) (old new : Known) (before after : List Event) (o : Outcome) → IfOk q (λ _. Does s old new before after o) → IfOk (listed q) (λ k. DoesApart s x old new before after k o)
listed_by (Ok u) s x old new before after o d = record {
  interface = d.interface;
  channel = d.channel;
  represented = d.represented;
  reports = append-nil after ∙ d.reports;
}
listed_by (Err e) s x old new before after o d = tt

pub listed_apart : {U : Type 0} (q : Result U Fault) (l : Result (Option ℕ) Fault) (s : EventOrigin) (x : Side) (old new : Known) (before after : List Event) (o : Outcome) → l ≡ listed q →
    IfOk q (λ _. Does s old new before after o) → IfOk l (λ k. DoesApart s x old new before after k o)
listed_apart q l s x old new before after o is d = subst (λ v. IfOk v (λ k. DoesApart s x old new before after k o)) (sym is) (listed_by q s x old new before after o d)

-- a data packet without fault
pub passes_accepted : (old new : Known) (x : Side) (q : StateName) (p : AcceptedData) (m : Option (List ℕ)) (v : Counts) (r : Result Counts ℕ) (c : Channel) →
    new ≡ record old { transfer = new.transfer } → StatusRepresents old c → ((t : StateName) → data_counted old.terms.interface x t p r c ≡ accepting_data x p v m c) →
    Represents old.terms.interface new.transfer (accepting_data x p v m c).after → Passes old new (accepting_data x p v m c).reported (data_counted old.terms.interface x q p r c)
passes_accepted old new x q p m v r c rest represented is transfer =
    subst (λ d. Passes old d (accepting_data x p v m c).reported (data_counted old.terms.interface x q p r c)) (sym rest)
    (subst (λ o. Passes old (record old { transfer = new.transfer }) (accepting_data x p v m c).reported o) (sym (is q)) (record {
      interface = refl;
      channel = refl;
      represented = record { state = represented.state; owed = represented.owed; terms = record { call = represented.terms.call; values = represented.terms.values }; transfer = transfer };
      reported = refl;
    }))

pub accepted_by : (s : EventOrigin) (old new : Known) (before after : List Event) (x : Side) (q : StateName) (p : AcceptedData) (r : Result Counts ℕ) (c : Channel) (o : Outcome) →
    new ≡ record old { transfer = new.transfer } → StatusRepresents old c → data_counted old.terms.interface x q p r c ≡ o →
    (k : Option ℕ) → k ≡ None → IsAccepted k old.terms.interface s old.transfer new.transfer before after x p r c → Does s old new before after o
accepted_by s old new before after x q p r c o rest represented counted_is k none accepted_data =
    let (v, m, is, transfer, reports) = subst (λ j. IsAccepted j old.terms.interface s old.transfer new.transfer before after x p r c) none accepted_data in
    subst (λ d. Does s old new before after d) counted_is
    (passes_listed s old new before after (accepting_data x p v m c).reported (data_counted old.terms.interface x q p r c) (passes_accepted old new x q p m v r c rest represented is transfer) reports)
