-- What one more row does to the errors of the DTE that are watched.
use Rattle.std.proofs.Common.{◌≡◌, ap, refl, ℕ, ◌+◌, ◌≤◌, ◌==◌, Bool, true, false, cond, List, [], ◌∷◌, ◌++◌, length, arith, nat_lt}
use Rattle.line_model.specs.basics.Records.{Item}
use Rattle.line_model.specs.channels.Gaps.{GapChannel}
use Rattle.line_model.specs.channels.GapRestart.{GapInterfaceState, routing}
use Rattle.line_model.specs.declared.interface.Interface.{Interface}
use Rattle.line_model.specs.declared.state.ChannelState.{ChannelState}
use Rattle.line_model.specs.packets.Classes.{packet_class}
use Rattle.line_model.specs.packets.Says.{gap_of}
use Rattle.line_model.specs.observer.Machine.{Observer, after, walk}
use Rattle.line_model.specs.observer.Observer.{start, x25}
use Rattle.restart_epochs.specs.Cutting.{observer}
use Rattle.restart_epochs.specs.Walks.{effect_of}
use Rattle.restart_epochs.specs.declared.walk.ChannelEffect.{ChannelEffect}
use Rattle.restart_epochs.specs.declared.walk.ChannelEffect.TheVariants.{Ends as EndsEpoch, Stays, ToAll, ToChannel}
use Rattle.header_trials.specs.Reactions.{awaits, closed, epoch_ended, given_up, noted, nothing_watched, passed, reaction_by, reaction_on, seen_on_channel, settled, wait_in, watched_after, watched, watched_from, watched_next, with_wait}
use Rattle.header_trials.specs.Watched.{IsRoomy, Watched}
use Rattle.header_trials.specs.declared.reactions.Reaction.{Reaction}
use Rattle.header_trials.specs.declared.reactions.Reaction.TheVariants.{Answers, Ends, Hides, Nothing, Owes, Passes, Unexplained}

pub reaction_same : (r : Item) (x y a b c d : Bool) (s t : ChannelState) → x ≡ y → a ≡ b → c ≡ d → s ≡ t
    → seen_on_channel (gap_of r.packet) x (reaction_by a c (awaits s (packet_class r.packet)) r) ≡ seen_on_channel (gap_of r.packet) y (reaction_by b d (awaits t (packet_class r.packet)) r)
reaction_same r x y a b c d s t adrift before after state = λ j. seen_on_channel (gap_of r.packet) (adrift j) (reaction_by (before j) (after j) (awaits (state j) (packet_class r.packet)) r)

from_more : (i : Interface) (o : Observer GapInterfaceState GapChannel) (w : Watched) (rs : List Item) (r : Item) → watched_from i o w (rs ++ r ∷ []) ≡ watched_next i (walk (x25 i) o rs) r (watched_from i o w rs)
from_more i o w [] r = refl
from_more i o w (x ∷ rs) r = from_more i (after (x25 i) o x) (watched_next i o x w) rs r

pub watched_more : (i : Interface) (rs : List Item) (r : Item) → watched i (rs ++ r ∷ []) ≡ watched_next i (observer i rs) r (watched i rs)
watched_more i rs r = from_more i (start i) nothing_watched rs r

-- ---- the counts are no more than the rows

pub record AreFewWatched (n : ℕ) (w : Watched) : Type 0 where
  pub answered : w.answered ≤ n
  pub unanswered : w.unanswered + w.pending ≤ n
  pub unexplained : w.unexplained ≤ n

few_same : (n : ℕ) (w : Watched) → AreFewWatched n w → AreFewWatched (n + 1) w
few_same n w few = record {
  answered = omega (arith, few.answered);
  unanswered = omega (arith, few.unanswered);
  unexplained = omega (arith, few.unexplained);
}

few_given_up : (k n : ℕ) (w : Watched) → AreFewWatched n w → AreFewWatched (n + 1) (given_up k w)
few_given_up k n w few = record {
  answered = omega (arith, few.answered);
  unanswered = omega (arith, few.unanswered);
  unexplained = omega (arith, few.unexplained);
}

few_closed : (k n : ℕ) (w : Watched) → AreFewWatched n w → AreFewWatched (n + 1) (closed k w)
few_closed k n w few = record {
  answered = omega (arith, few.answered);
  unanswered = omega (arith, few.unanswered);
  unexplained = omega (arith, few.unexplained);
}

few_passed : (k n wait : ℕ) (w : Watched) → AreFewWatched n w → AreFewWatched (n + 1) (passed k wait w)
few_passed k n wait w few = at (nat_lt wait 8)
  where
    at : (b : Bool) → AreFewWatched (n + 1) (cond b (with_wait k (wait + 1) w) (given_up k w))
    at true = few_same n (with_wait k (wait + 1) w) (record { answered = few.answered; unanswered = few.unanswered; unexplained = few.unexplained })
    at false = few_given_up k n w few

few_settled : (k n wait : ℕ) (x : Reaction) (w : Watched) → AreFewWatched n w → AreFewWatched (n + 1) (settled x k wait w)
few_settled k n wait Answers w few = record {
  answered = omega (arith, few.answered);
  unanswered = omega (arith, few.unanswered);
  unexplained = omega (arith, few.unexplained);
}
few_settled k n wait Ends w few = few_given_up k n w few
few_settled k n wait Passes w few = few_passed k n wait w few
few_settled k n wait Hides w few = few_closed k n w few
few_settled k n wait _ w few = few_same n w few

few_awaited : (b : Bool) (k n wait : ℕ) (x : Reaction) (w : Watched) → AreFewWatched n w → AreFewWatched (n + 1) (cond b w (settled x k wait w))
few_awaited true k n wait x w few = few_same n w few
few_awaited false k n wait x w few = few_settled k n wait x w few

few_noted : (k n : ℕ) (x : Reaction) (w : Watched) → AreFewWatched n w → AreFewWatched (n + 1) (noted k x w)
few_noted k n Owes w few = record {
  answered = omega (arith, few.answered);
  unanswered = omega (arith, few.unanswered);
  unexplained = omega (arith, few.unexplained);
}
few_noted k n Unexplained w few = record {
  answered = omega (arith, few.answered);
  unanswered = omega (arith, few.unanswered);
  unexplained = omega (arith, few.unexplained);
}
few_noted k n Nothing w few = few_same n w few
few_noted k n Answers w few = few_awaited (wait_in k w == 0) k n (wait_in k w) Answers w few
few_noted k n Ends w few = few_awaited (wait_in k w == 0) k n (wait_in k w) Ends w few
few_noted k n Passes w few = few_awaited (wait_in k w == 0) k n (wait_in k w) Passes w few
few_noted k n Hides w few = few_awaited (wait_in k w == 0) k n (wait_in k w) Hides w few

few_ended : (n : ℕ) (w : Watched) → AreFewWatched n w → AreFewWatched n (epoch_ended w)
few_ended n w few = record {
  answered = few.answered;
  unanswered = omega (arith, few.unanswered);
  unexplained = few.unexplained;
}

few_effect : (n : ℕ) (t : ChannelEffect) (x : Reaction) (w : Watched) → AreFewWatched n w → AreFewWatched (n + 1) (watched_after t x w)
few_effect n (ToChannel k) x w few = few_noted k n x w few
few_effect n EndsEpoch x w few = few_noted 0 n x (epoch_ended w) (few_ended n w few)
few_effect n ToAll x w few = record {
  answered = omega (arith, few.answered);
  unanswered = omega (arith, few.unanswered);
  unexplained = omega (arith, few.unexplained);
}
few_effect n Stays x w few = few_noted 0 n x w few

few_from : (n : ℕ) (i : Interface) (o : Observer GapInterfaceState GapChannel) (w : Watched) (rs : List Item) → AreFewWatched n w → AreFewWatched (n + length rs) (watched_from i o w rs)
few_from n i o w [] few = record {
  answered = omega (arith, few.answered);
  unanswered = omega (arith, few.unanswered);
  unexplained = omega (arith, few.unexplained);
}
few_from n i o w (r ∷ rs) few =
    let effect : ChannelEffect = effect_of r.packet (routing o.level r).route in
    let x : Reaction = reaction_on effect i o.level (routing o.level r).after o.states r in
    let next : Watched = watched_next i o r w in
    let more = few_from (n + 1) i (after (x25 i) o r) next rs (few_effect n effect x w few) in
    record {
      answered = omega (arith, more.answered);
      unanswered = omega (arith, more.unanswered);
      unexplained = omega (arith, more.unexplained);
    }

-- one more can be counted
pub roomy : (i : Interface) (rs : List Item) (w : Watched) → w ≡ watched i rs → length rs + 1 ≤ 999999999 → IsRoomy w
roomy i rs w is few =
    let all = few_from 0 i (start i) nothing_watched rs (record { answered = omega arith; unanswered = omega arith; unexplained = omega arith }) in
    record {
      answered = omega (arith, few, all.answered, ap (λ v. v.answered) is);
      unanswered = omega (arith, few, all.unanswered, ap (λ v. v.unanswered) is, ap (λ v. v.pending) is);
      unexplained = omega (arith, few, all.unexplained, ap (λ v. v.unexplained) is);
    }
