-- The last gap of all channels, which a channel reads with its next row or with the end of the epoch.
use Rattle.std.proofs.Common.{◌≡◌, ◌∙◌, ◌&&◌, Bool, true, false, ℕ, Option, Some, None, List, [], ◌∷◌, ◌++◌, map, ap, refl, subst, sym, arith, append-nil, length-append}
use Rattle.std.proofs.lemmas.Bool.{and_parts, false≢true}
use Rattle.std.proofs.lemmas.List.{get_or_append_left}
use Rattle.std.proofs.lemmas.List.Sums.{sum_by-append}
use Rattle.line_model.specs.declared.interface.Interface.{Interface}
use Rattle.line_model.specs.basics.Bounds.{IsItem, IsPiece}
use Rattle.line_model.specs.basics.Records.{Item, Piece}
use Rattle.line_model.specs.channels.Gaps.{GapChannel, fresh_at, gap_step}
use Rattle.line_model.specs.channels.GapRestart.{is_gap_of_all}
use Rattle.line_model.specs.observer.MachineEvents.{RowEvent}
use Rattle.line_model.specs.observer.Observer.{x25, event_of, row_step}
use Rattle.line_model.specs.declared.event.What.{What}
use Rattle.line_model.specs.packets.Says.{gap_item, gap_items}
use Rattle.line_model.specs.pieces.Pieces.{events_of_steps, step_events}
use Rattle.line_model.specs.pieces.Plans.{begins_with_gap, report_on, single_gaps, result_of}
use Rattle.line_model.proofs.SingleGaps.{gap_again, gap_steps}
use Rattle.channel_run.specs.Live.{channel_after}
use Rattle.restart_epochs.specs.OpenRows.{gap_after, last_number, with_gap}

-- the first rows of a piece are no more than it
pub piece_front : (i : Interface) (k : ℕ) (items more : List Item) → IsPiece i k (items ++ more) → IsPiece i k items
piece_front i k items more h =
    let rows = h.few_rows in
    let octets = h.few_octets in
    record {
      few_rows = omega (arith, rows, length-append items more);
      few_octets = omega (arith, octets, sum_by-append (λ (r : Item). r.length) items more);
      packets = λ n d lt. subst (IsItem i k) (get_or_append_left items more d n lt) (h.packets n d (omega (arith, lt, length-append items more)));
    }

-- ---- a gap that no row follows

-- it has no events while the epoch goes on
gap_silent : (i : Interface) (e k : ℕ) (gap : ℕ) (g : GapChannel) (items : List Item) → events_of_steps (x25 i) e k g (items ++ gap_item gap ∷ []) None ≡ events_of_steps (x25 i) e k g items None
gap_silent i e k gap g [] = refl
gap_silent i e k gap g (r ∷ items) = ap (λ (vs : List (RowEvent Item What)). step_events (x25 i) e k g r ((x25 i).for_all r) ++ vs) (gap_silent i e k gap (row_step i k g r).after items)

-- so the result of a piece is the same with it
pub value_so_far : (gap : ℕ) (p : Piece) → result_of (record p { items = with_gap gap p.items; end = None }) ≡ result_of (record p { end = None })
value_so_far gap p = at (gap_after gap (last_number p.items))
  where
    at : (o : Option ℕ) → result_of (record p { items = p.items ++ gap_items o; end = None }) ≡ result_of (record p { end = None })
    at None = ap (λ items. result_of (record p { items = items; end = None })) (append-nil p.items)
    at (Some n) = ap (λ vs. report_on p.id p.epoch p.channel (map event_of vs)) (gap_silent p.interface p.epoch p.channel n (fresh_at p.interface p.start p.epoch p.channel) p.items)

-- ---- a channel after rows

-- rows that begin with a gap of all channels leave the same after another one
after_gap : (i : Interface) (k : ℕ) (g : GapChannel) (r : Item) (rs : List Item) → is_gap_of_all r ≡ true → begins_with_gap rs ≡ true → channel_after i k (row_step i k g r).after rs ≡ channel_after i k g rs
after_gap i k g r [] h b = absurd (false≢true b)
after_gap i k g r (s ∷ rs) h b =
    ap (λ d. channel_after i k d rs) (gap_steps i k (row_step i k g r).after s b ∙ ap (gap_step i k true) (gap_steps i k g r h) ∙ gap_again i k g ∙ sym (gap_steps i k g s b))

-- of several gaps with no other row between them the last one leaves what they do
pub after_single : (i : Interface) (k : ℕ) (g : GapChannel) (rs : List Item) → channel_after i k g (single_gaps rs) ≡ channel_after i k g rs
after_single i k g [] = refl
after_single i k g (r ∷ rs) = at (is_gap_of_all r && begins_with_gap rs) refl (after_single i k g rs) (after_single i k (row_step i k g r).after rs)
  where
    at : (b : Bool) → (is_gap_of_all r && begins_with_gap rs) ≡ b
        → channel_after i k g (single_gaps rs) ≡ channel_after i k g rs
        → channel_after i k (row_step i k g r).after (single_gaps rs) ≡ channel_after i k (row_step i k g r).after rs
        → channel_after i k g (elim b as (λ _. List Item) [ true ↦ single_gaps rs | false ↦ r ∷ single_gaps rs ]) ≡ channel_after i k (row_step i k g r).after rs
    at true h here later = let w = and_parts (is_gap_of_all r) (begins_with_gap rs) h in here ∙ sym (after_gap i k g r rs w.0 w.1)
    at false h here later = later
