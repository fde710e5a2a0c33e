-- Nobody is accused by what was not recorded.
use Rattle.std.proofs.Common.{◌≡◌, ℕ, true, refl, sym, ap, subst, List, [], ◌∷◌, ◌++◌}
use Rattle.std.specs.Prelude.{not, ◌&&◌}
use Rattle.std.specs.List.{AllByRecursion}
use Rattle.std.proofs.lemmas.Bool.{false≢true}
use Rattle.line_model.specs.declared.interface.Interface.{Interface}
use Rattle.line_model.specs.declared.packet.Packet.{Packet}
use Rattle.line_model.specs.declared.packet.Packet as packet
use Rattle.line_model.specs.declared.state.Side.{Side}
use Rattle.line_model.specs.basics.Records.{Item}
use Rattle.line_model.specs.observer.MachineEvents.{walk_events}
use Rattle.line_model.specs.observer.Observer.{start, x25}
use Rattle.gap_laws.specs.Thinned.{IsSaid, JoinedLaw, ThinningLaw, restarted}
use Rattle.gap_laws.proofs.Read.{is_read, said_read}
use Rattle.gap_laws.proofs.Levels.{level_item}
use Rattle.gap_laws.proofs.Observers.{Silent, all_silent, none_found}
use Rattle.gap_laws.proofs.Order.{channel_row}
use Rattle.gap_laws.proofs.Restarts.{IsRow, OnChannel, OnNone, level_packet, thinned_joined, thinned_restarted}
use Rattle.gap_laws.proofs.Thinning.{joined_is, starts_restarted}

row_is : (i : Interface) (nr : ℕ) (x : Side) (p : Packet) (len : ℕ) (os : List ℕ) → is_read i p len ≡ true → IsRow i (level_item nr x p len os)
row_is i nr x (packet.TheVariants.Channel c k) len os h = OnChannel (channel_row i nr x c k len os h)
row_is i nr x packet.TheVariants.GapOfAll len os h = absurd (false≢true h)
row_is i nr x p len os h = OnNone (level_packet i nr x p len os refl)

rows_are : (i : Interface) (rs : List Item) → AllByRecursion (IsSaid i) rs → AllByRecursion (IsRow i) rs
rows_are i [] h = tt
rows_are i (r ∷ rs) (h, rest) = (row_is i r.number r.side r.packet r.length r.octets (said_read i r h), rows_are i rs rest)

pub thinning_law : ThinningLaw
thinning_law i xs ys join rows thin h =
    none_found (walk_events (x25 i) (start i) ys)
    (subst (λ o. Silent i o ys) (sym (starts_restarted i join))
    (thinned_restarted i xs ys (ap (λ j. j && not i.gaps) join) (rows_are i xs rows) thin
    (subst (λ o. Silent i o xs) (starts_restarted i join) (all_silent (walk_events (x25 i) (start i) xs) h))))

pub joined_law : JoinedLaw
joined_law i before rest ys join gaps rows thin h =
    none_found (walk_events (x25 i) (start i) ys)
    (subst (λ o. Silent i o ys) (sym (joined_is i join gaps))
    (thinned_joined i before rest ys (λ n. join n && not (gaps n)) (rows_are i (before ++ rest) rows) thin
    (all_silent (walk_events (x25 i) (restarted i) (before ++ rest)) h)))
