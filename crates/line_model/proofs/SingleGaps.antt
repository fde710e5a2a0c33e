-- Gaps of all channels: what is said of them, and that of several with no other row between them the last one alone does what
-- they do.
use Rattle.std.proofs.Common.{◌≡◌, ◌∙◌, Bool, true, false, not, ◌&&◌, ◌||◌, ℕ, Option, Some, None, is_some, List, [], ◌∷◌, ◌++◌, inr, refl, sym, ap}
use Rattle.std.proofs.lemmas.Bool.{and_parts, false≢true}
use Rattle.line_model.specs.declared.interface.Interface.{Interface}
use Rattle.line_model.specs.declared.state.Side.TheVariants.{T}
use Rattle.line_model.specs.declared.gap.Owed.{Owed}
use Rattle.line_model.specs.declared.event.What.{What}
use Rattle.line_model.specs.basics.Records.{Item}
use Rattle.line_model.specs.basics.Bounds.{IsItem}
use Rattle.line_model.specs.packets.Says.{gap_item, gap_of}
use Rattle.line_model.specs.channels.Channels.{Channel, Opening, is_in_transfer, is_open, is_permanent}
use Rattle.line_model.specs.channels.ChannelStep.{entering}
use Rattle.line_model.specs.channels.Gaps.{GapChannel, drifting, gap_step, idle_name, owed_at_gap, with_largest_terms}
use Rattle.line_model.specs.channels.GapRestart.{is_gap_of_all, is_of_all}
use Rattle.line_model.specs.observer.MachineEvents.{RowEvent}
use Rattle.line_model.specs.observer.Observer.{x25, row_step, step_by}
use Rattle.line_model.specs.pieces.Pieces.{events_of_steps, step_events}
use Rattle.line_model.specs.pieces.Plans.{begins_with_gap, single_gaps}

-- ---- what is said of them

-- where gaps are rows, a gap of all channels is said
pub gap_said : (i : Interface) (k n : ℕ) → i.gaps ≡ true → IsItem i k (gap_item n)
gap_said i k n recorded = record {
  said = record {
    row = record { number = n; side = T; octets = []; gap = Some None };
    lawful = record { recorded = recorded; within = tt; side = refl; octets = refl };
    says = refl;
  };
  channel = inr refl;
}

-- ---- a gap after a gap

-- a second gap of all channels changes nothing more
pub gap_again : (i : Interface) (k : ℕ) (g : GapChannel) → gap_step i k true (gap_step i k true g) ≡ gap_step i k true g
gap_again i k g = at (is_permanent i k) (is_in_transfer g.channel) g.channel.opening g.restarting
  where
    owed : Owed
    owed = owed_at_gap g.certainty g.channel

    left : (permanent up : Bool) → Option Opening → Channel
    left p t o = with_largest_terms (not p && is_some o) i (entering (idle_name (p || t) o) false (record g.channel { opening = o }))

    once : (p t : Bool) → Option Opening → Bool → GapChannel
    once p t o r = record { channel = left p t o; restarting = r || true; certainty = drifting owed (not p && is_some o) }

    again : (p t : Bool) → Option Opening → Bool → GapChannel
    again p t o r = record {
      channel = with_largest_terms (not p && is_open (left p t o)) i (entering (idle_name (p || is_in_transfer (left p t o)) (left p t o).opening) false (left p t o));
      restarting = (r || true) || true;
      certainty = drifting owed (not p && is_open (left p t o));
    }

    waiting : (out : Bool) (xs : List ℕ) (r : Bool) → again false false (Some (record { out = out; packet = xs })) r ≡ once false false (Some (record { out = out; packet = xs })) r
    waiting true xs true = refl
    waiting true xs false = refl
    waiting false xs true = refl
    waiting false xs false = refl

    at : (p t : Bool) (o : Option Opening) (r : Bool) → again p t o r ≡ once p t o r
    at true t o true = refl
    at true t o false = refl
    at false true None true = refl
    at false true None false = refl
    at false true (Some o) true = refl
    at false true (Some o) false = refl
    at false false None true = refl
    at false false None false = refl
    at false false (Some o) r = waiting o.out o.packet r

pub gap_steps : (i : Interface) (k : ℕ) (g : GapChannel) (r : Item) → is_gap_of_all r ≡ true → (row_step i k g r).after ≡ gap_step i k true g
gap_steps i k g r h = at (gap_of r.packet) h
  where
    at : (gap : Option (Option ℕ)) → is_of_all gap ≡ true → (step_by gap i k g r).after ≡ gap_step i k true g
    at (Some None) h = refl
    at (Some (Some c)) h = absurd (false≢true h)
    at None h = absurd (false≢true h)

-- ---- the events of a channel

abbrev events_after : Interface → (epoch channel : ℕ) → Option Item → GapChannel → List Item → List (RowEvent Item What)
events_after i e k end g rs = events_of_steps (x25 i) e k g rs end

-- rows that begin with a gap of all channels have the same events after another one
value_after_gap : (i : Interface) (e k : ℕ) (end : Option Item) (g : GapChannel) (r : Item) (rs : List Item) → is_gap_of_all r ≡ true → begins_with_gap rs ≡ true
    → events_after i e k end (row_step i k g r).after rs ≡ events_after i e k end g rs
value_after_gap i e k end g r [] h b = absurd (false≢true b)
value_after_gap i e k end g r (s ∷ rs) h b =
    let first : (row_step i k g r).after ≡ gap_step i k true g = gap_steps i k g r h in
    let same : (row_step i k (row_step i k g r).after s).after ≡ (row_step i k g s).after =
    gap_steps i k (row_step i k g r).after s b ∙ ap (gap_step i k true) first ∙ gap_again i k g ∙ sym (gap_steps i k g s b) in
    ap (λ q. step_events (x25 i) e k (row_step i k g r).after s q ++ events_after i e k end (row_step i k (row_step i k g r).after s).after rs) b
    ∙ ap (λ d. events_after i e k end d rs) same
    ∙ ap (λ q. step_events (x25 i) e k g s q ++ events_after i e k end (row_step i k g s).after rs) (sym b)

pub events_of_single_gaps : (i : Interface) (e k : ℕ) (end : Option Item) (g : GapChannel) (rs : List Item) → events_after i e k end g (single_gaps rs) ≡ events_after i e k end g rs
events_of_single_gaps i e k end g [] = refl
events_of_single_gaps i e k end g (r ∷ rs) = at (is_gap_of_all r && begins_with_gap rs) refl (events_of_single_gaps i e k end g rs) (events_of_single_gaps i e k end (row_step i k g r).after rs)
  where
    at : (b : Bool) → (is_gap_of_all r && begins_with_gap rs) ≡ b
        → events_after i e k end g (single_gaps rs) ≡ events_after i e k end g rs
        → events_after i e k end (row_step i k g r).after (single_gaps rs) ≡ events_after i e k end (row_step i k g r).after rs
        → events_after i e k end g (elim b as (λ _. List Item) [ true ↦ single_gaps rs | false ↦ r ∷ single_gaps rs ]) ≡ step_events (x25 i) e k g r (is_gap_of_all r) ++ events_after i e k end (row_step i k g r).after rs
    at true h here later =
        let w = and_parts (is_gap_of_all r) (begins_with_gap rs) h in
        here
        ∙ sym (value_after_gap i e k end g r rs w.0 w.1)
        ∙ ap (λ q. step_events (x25 i) e k g r q ++ events_after i e k end (row_step i k g r).after rs) (sym w.0)
    at false h here later = ap (λ l. step_events (x25 i) e k g r (is_gap_of_all r) ++ l) later
