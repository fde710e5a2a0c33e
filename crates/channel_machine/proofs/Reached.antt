-- A channel stays one that was followed from its beginning.
use Rattle.std.proofs.Common.{◌≡◌, ℕ, Bool, true, false, true≢false, refl, sym, ◌∙◌, ap, subst, List, Option, Some, None, Result, Ok, Err, inl, inr}
use Rattle.std.specs.Prelude.{IfNone, is_some, not, ◌&&◌, ◌||◌}
use Rattle.line_model.specs.declared.diagnostic.TheConstants.{INCONSISTENT_Q_BIT_SETTING}
use Rattle.line_model.specs.declared.interface.Interface.{Interface}
use Rattle.line_model.specs.declared.packet.Class.{Class}
use Rattle.line_model.specs.declared.packet.Class.TheVariants.{Data}
use Rattle.line_model.specs.declared.packet.DataHeader.{DataHeader}
use Rattle.line_model.specs.declared.event.How.{How}
use Rattle.line_model.specs.declared.event.How as how
use Rattle.line_model.specs.declared.state.Side.{Side}
use Rattle.line_model.specs.declared.state.Side.TheVariants.{T, N}
use Rattle.line_model.specs.declared.state.StateName.{StateName}
use Rattle.line_model.specs.declared.state.StateName.TheVariants.{P7, D3}
use Rattle.line_model.specs.channels.Verdicts.{CallChange}
use Rattle.line_model.specs.channels.Verdicts.CallChange.{Opens, GoesUp, Ends, Keeps}
use Rattle.line_model.specs.declared.table.Action.{Action}
use Rattle.line_model.specs.declared.table.Action.TheVariants.{Move, Normal, Error, Discard, Pass, Ends as EndsIndication, Below, ToChannel}
use Rattle.line_model.specs.basics.Records.{Item}
use Rattle.line_model.specs.channels.Channels.{Channel, Opening, AcceptedData, is_permanent}
use Rattle.line_model.specs.channels.FlowControl.{Counts}
use Rattle.line_model.specs.packets.Classes.{packet_class}
use Rattle.line_model.specs.packets.Says.{header_in}
use Rattle.line_model.specs.packets.Formats.{packet_fault}
use Rattle.line_model.specs.channels.Sequences.{is_alike, begun}
use Rattle.line_model.specs.packets.Formats.{size_in_force, window_in_force}
use Rattle.line_model.specs.channels.FlowControl.{count_data}
use Rattle.line_model.specs.channels.ChannelStep.{judged, verdict, verdict_step, channel_step, changing, entering, ending, ending_open, failing, after_error, transferring, data_step, data_counted, data_alike, counting, counts_of, accepted_of, call_change, state_named}
use Rattle.channel_machine.specs.Reached.{IsReached, IsUnanswered, is_from, is_waiting}
use Rattle.channel_machine.specs.Entries.{is_entry}
use Rattle.channel_machine.proofs.Entries.{fits}
use Rattle.channel_machine.proofs.Calls.{bare_after, error_leads}

-- a channel with the same state and call
pub same : (c d : Channel) → d.opening ≡ c.opening → d.accepting ≡ c.accepting → d.state ≡ c.state → IsReached c → IsReached d
same c d o a s r = record {
  bare = subst (λ v. IfNone v (d.accepting ≡ None)) (sym o) (subst (λ w. IfNone c.opening (w ≡ None)) (sym a) r.bare);
  waiting = λ e. record {
    opened = ap (λ v. is_some v) o ∙ (r.waiting (ap (λ v. is_waiting v) (sym s) ∙ e)).opened;
    unanswered = a ∙ (r.waiting (ap (λ v. is_waiting v) (sym s) ∙ e)).unanswered;
  };
}

-- a channel in a state in which no call waits
idle : (c : Channel) → is_waiting c.state ≡ false → IfNone c.opening (c.accepting ≡ None) → IsReached c
idle c still bare = record { bare = bare; waiting = λ e. absurd (true≢false (sym e ∙ still)) }

-- whose call ends
ended : (h : How) (c : Channel) → is_waiting c.state ≡ false → IfNone c.opening (c.accepting ≡ None) → IsReached (ending h c).after
ended h c still bare = by c.opening
  where
    by : (o : Option Opening) → IsReached (ending_open h o c).after
    by None = idle c still bare
    by (Some o) = idle (ending_open h (Some o) c).after still refl

none_open : (o : Option Opening) (P : Type 0) → is_some o ≡ true → IfNone o P
none_open None P e = absurd (true≢false (sym e))
none_open (Some o) P e = tt

not_true : (b : Bool) → not b ≡ true → b ≡ false
not_true true e = absurd (true≢false (sym e))
not_true false e = refl

first_of : (a b : Bool) → (a && b) ≡ true → a ≡ true
first_of true b e = refl
first_of false b e = absurd (true≢false (sym e))

second_of : (a b : Bool) → (a && b) ≡ true → b ≡ true
second_of true b e = e
second_of false b e = absurd (true≢false (sym e))

either_of : (a b : Bool) → (not a || b) ≡ true → a ≡ true → b ≡ true
either_of true b e t = e
either_of false b e t = absurd (true≢false (sym t))

-- a call comes up where one waits
pub unanswered : (to : StateName) (c : Channel) → is_from GoesUp to c.state ≡ true → IsReached c → IsUnanswered c
unanswered to c from r = r.waiting (first_of (is_waiting c.state) (not (is_waiting (state_named to))) from)

-- a move of the tables
pub moved : (v : CallChange) (to : StateName) (xs : List ℕ) (c : Channel) → is_from v to c.state ≡ true → IsReached c → IsReached (changing xs v (entering to false c)).after
moved (Opens out) to xs c from r = record {
  bare = tt;
  waiting = λ e. record { opened = refl; unanswered = bare_after how.TheVariants.Collision to false c r.bare };
}
moved GoesUp to xs c from r =
    idle (changing xs GoesUp (entering to false c)).after (not_true (is_waiting (state_named to)) (second_of (is_waiting c.state) (not (is_waiting (state_named to))) from))
    (none_open c.opening (Some xs ≡ None) (r.waiting (first_of (is_waiting c.state) (not (is_waiting (state_named to))) from)).opened)
moved (Ends h) to xs c from r = ended h (entering to false c) (not_true (is_waiting (state_named to)) from) r.bare
moved Keeps to xs c from r = record {
  bare = r.bare;
  waiting = λ e. record {
    opened = (r.waiting (either_of (is_waiting (state_named to)) (is_waiting c.state) from e)).opened;
    unanswered = (r.waiting (either_of (is_waiting (state_named to)) (is_waiting c.state) from e)).unanswered;
  };
}

-- an error
gives_up : (s : StateName) (c : Channel) → IsReached c → IsReached (after_error s c).after
gives_up s c r = elim (error_leads s) [
  | inl d3 ↦ subst (λ o. IsReached o.after) (sym (d3 c)) (idle (entering D3 true c) refl r.bare)
  | inr p7 ↦ subst (λ o. IsReached o.after) (sym (p7 c)) (ended how.TheVariants.N (entering P7 true c) refl r.bare)
]

failed : (x : Side) (s : StateName) (n : ℕ) (c : Channel) → IsReached c → IsReached (failing x s n c).after
failed T s n c r = gives_up s c r
failed N s n c r = r

-- packets of data transfer
counts_alone : (x : Side) (s : StateName) (a : Result Counts ℕ) (c : Channel) → IsReached c → IsReached (counting x s a c).after
counts_alone x s (Err n) c r = failed x s n c r
counts_alone x s (Ok v) c r = same c (counting x s (Ok v) c).after refl refl refl r

alike_by : (i : Interface) (x : Side) (s : StateName) (p : AcceptedData) (v : Counts) (b : Bool) (c : Channel) → IsReached c → IsReached (data_alike i x s p v b c).after
alike_by i x s p v false c r = failed x s INCONSISTENT_Q_BIT_SETTING c r
alike_by i x s p v true c r = same c (data_alike i x s p v true c).after refl refl refl r

counted_by : (i : Interface) (x : Side) (s : StateName) (p : AcceptedData) (a : Result Counts ℕ) (c : Channel) → IsReached c → IsReached (data_counted i x s p a c).after
counted_by i x s p (Err n) c r = failed x s n c r
counted_by i x s p (Ok v) c r = alike_by i x s p v (is_alike p (begun (size_in_force i c x) x c.accepted)) c r

data_by : (i : Interface) (s : StateName) (r : Item) (h : Option DataHeader) (c : Channel) → IsReached c → IsReached (data_step i s r h c).after
data_by i s r None c h = h
data_by i s r (Some d) c h =
    counted_by i r.side s (accepted_of i r d) (count_data i.modulus (window_in_force i c r.side) (counts_of c) r.side d.send d.receive) c h

transferred : (i : Interface) (s : StateName) (k : Class) (r : Item) (c : Channel) → IsReached c → IsReached (transferring i s k r c).after
transferred i s Data r c h = data_by i s r (header_in r.packet) c h
transferred i s k r c h = counts_alone r.side s _ c h

pub by_entry : (i : Interface) (s : StateName) (r : Item) (a : Action) (f : Option ℕ) (c : Channel) → is_entry a r.side (packet_class r.packet) c.state ≡ true → IsReached c →
    IsReached (verdict_step i s r (verdict (record { state = s; entry = a }) f) c).after
by_entry i s r (Move t) None c e h = moved (call_change r.side (packet_class r.packet) t) t r.octets c e h
by_entry i s r (Move t) (Some n) c e h = failed r.side s n c h
by_entry i s r Normal None c e h = transferred i s (packet_class r.packet) r c h
by_entry i s r Normal (Some n) c e h = failed r.side s n c h
by_entry i s r (Error n) f c e h = failed r.side s n c h
by_entry i s r EndsIndication f c e h = same c (record c { owed = false }) refl refl refl h
by_entry i s r Discard f c e h = h
by_entry i s r Pass f c e h = h
by_entry i s r Below f c e h = h
by_entry i s r ToChannel f c e h = h

-- a row
pub reached_step : (i : Interface) (n : ℕ) (c : Channel) (r : Item) → IsReached c → IsReached (channel_step i n c r).after
reached_step i n c r reached =
    let k : Class = packet_class r.packet in
    let j = judged (is_permanent i n) r.side c.state c.owed k in
    by_entry i j.state r j.entry (packet_fault i n c r) c (fits (is_permanent i n) r.side c.state c.owed k) reached
