-- Thinning of whole interfaces: the restart machine, all channels, and recordings that begin in the middle.
use Rattle.std.proofs.Common.{◌≡◌, inl, inr, ◌+◌, ℕ, Bool, true, false, cond, refl, sym, ◌∙◌, ap, subst, List, [], ◌∷◌, ◌++◌, Some, None, eq-eqb}
use Rattle.std.specs.List.{AllByRecursion}
use Rattle.std.proofs.lemmas.Bool.{false≢true}
use Rattle.line_model.specs.declared.gap.EpochStart.TheVariants.{Restarted, Drifting}
use Rattle.line_model.specs.declared.interface.Interface.{Interface}
use Rattle.line_model.specs.declared.packet.Packet.{Packet}
use Rattle.line_model.specs.declared.packet.Packet as packet
use Rattle.line_model.specs.declared.packet.PacketKind as kind
use Rattle.line_model.specs.declared.state.Side.{Side}
use Rattle.line_model.specs.declared.state.Side.TheVariants.{T, N}
use Rattle.line_model.specs.declared.state.RState.{RState}
use Rattle.line_model.specs.declared.state.RState as restart
use Rattle.line_model.specs.basics.Records.{Item}
use Rattle.line_model.specs.packets.Says.{gap_of}
use Rattle.line_model.specs.channels.Channels.{other}
use Rattle.line_model.specs.channels.Gaps.{GapChannel, fresh_at, gap_step}
use Rattle.line_model.specs.channels.GapRestart.{GapInterfaceState, GapRouting, level_in_r1_with, level_stays, routing}
use Rattle.line_model.specs.channels.GapStep.{gap_channel_step}
use Rattle.line_model.specs.observer.Machine.{with_state}
use Rattle.line_model.specs.observer.Observer.{route_found}
use Rattle.gap_laws.specs.Thinned.{Covers, IsThinned, own_channel as channel_in}
use Rattle.gap_laws.proofs.Circuits.{silent}
use Rattle.gap_laws.proofs.Observers.{Silent}
use Rattle.gap_laws.proofs.Thinning.{first_row, row_first, rows_after, same_some, with_one, with_two}
use Rattle.gap_laws.proofs.Levels.{AdriftMove, KeepsAdrift, LevelMove, LevelRow, LevelStep, Redrifts, Restores, Stays, Enters, Leaves, adrift_level, at_level, is_level, level_back, level_first, level_item, level_packet_row, level_step_is, moved_epoch, moved_state, moved_states, restarting_state, stays_so, stepped, waited_out, waiting_row, whole_level}
use Rattle.gap_laws.proofs.Order.{BeginsKnown, ChannelRow, Meanwhile, Near, Opened, Whole, fresh_near, fresh_open, fresh_whole, meanwhile_gap, meanwhile_open, near_open, near_whole, open_meanwhile, open_near}

-- ---- observers side by side

abbrev NearAt : RState → Interface → (ℕ → GapChannel) → (ℕ → GapChannel) → Type 0
NearAt restart.TheVariants.R1 i f g = (k : ℕ) → Near i k (f k) (g k)
NearAt s i f g = Unit {0}

abbrev WholeAt : RState → Interface → (ℕ → GapChannel) → Type 0
WholeAt restart.TheVariants.R1 i f = (k : ℕ) → Whole i k (f k)
WholeAt s i f = Unit {0}

abbrev MeanwhileAt : RState → Interface → (ℕ → GapChannel) → (ℕ → GapChannel) → Type 0
MeanwhileAt restart.TheVariants.R1 i f g = (k : ℕ) → Near i k (f k) (g k)
MeanwhileAt restart.TheVariants.R2 i f g = (k : ℕ) → Meanwhile i T k (g k)
MeanwhileAt restart.TheVariants.R3 i f g = (k : ℕ) → Meanwhile i N k (g k)

-- the interface of the whole walk, and that of the other: the same, or adrift
data Beside (i : Interface) (s : RState) (f : ℕ → GapChannel) (l : GapInterfaceState) (g : ℕ → GapChannel) : Type 0 where
  Alike : l ≡ whole_level s → NearAt s i f g → Beside i s f l g
  IsAdrift : l ≡ adrift_level → MeanwhileAt s i f g → Beside i s f l g

all_whole : (i : Interface) (f g : ℕ → GapChannel) → ((k : ℕ) → Near i k (f k) (g k)) → (k : ℕ) → Whole i k (f k)
all_whole i f g near k = near_whole i k (f k) (g k) (near k)

beside_whole : (i : Interface) (s : RState) (f : ℕ → GapChannel) (l : GapInterfaceState) (g : ℕ → GapChannel) → Beside i s f l g → WholeAt s i f
beside_whole i restart.TheVariants.R1 f l g (Alike e near) = all_whole i f g near
beside_whole i restart.TheVariants.R1 f l g (IsAdrift e near) = all_whole i f g near
beside_whole i restart.TheVariants.R2 f l g b = tt
beside_whole i restart.TheVariants.R3 f l g b = tt

-- channels right after a gap of all fit whatever the whole walk has come to
opened_meanwhile : (i : Interface) (s : RState) (f g : ℕ → GapChannel) → WholeAt s i f → ((k : ℕ) → Opened i true k (g k)) → MeanwhileAt s i f g
opened_meanwhile i restart.TheVariants.R1 f g whole opened = λ k. open_near i true k (f k) (g k) (whole k) (opened k)
opened_meanwhile i restart.TheVariants.R2 f g whole opened = λ k. open_meanwhile i T k (g k) (opened k)
opened_meanwhile i restart.TheVariants.R3 f g whole opened = λ k. open_meanwhile i N k (g k) (opened k)

-- ---- moves of the whole walk

whole_moved : (i : Interface) (s : RState) (e : ℕ) (f : ℕ → GapChannel) (m : LevelMove) → BeginsKnown i → WholeAt s i f → WholeAt (moved_state s m) i (moved_states i e f m)
whole_moved i s e f Stays h w = w
whole_moved i s e f (Leaves T) h w = tt
whole_moved i s e f (Leaves N) h w = tt
whole_moved i s e f Enters h w = λ k. fresh_whole i (e + 1) k h

near_moved : (i : Interface) (s : RState) (e d : ℕ) (f g : ℕ → GapChannel) (m : LevelMove) → BeginsKnown i → NearAt s i f g → NearAt (moved_state s m) i (moved_states i e f m) (moved_states i d g m)
near_moved i s e d f g Stays h w = w
near_moved i s e d f g (Leaves T) h w = tt
near_moved i s e d f g (Leaves N) h w = tt
near_moved i s e d f g Enters h w = λ k. fresh_near i (e + 1) (d + 1) k h

-- ---- rows

-- a packet on no channel
pub record LevelPacket (i : Interface) (r : Item) : Type 0 where
  pub none : channel_in r.packet ≡ None
  pub row : (l : GapInterfaceState) (e : ℕ) (f : ℕ → GapChannel) → LevelRow i (at_level e l f) r
  pub steps : (s : RState) → silent (route_found r (routing (whole_level s) r).route) ≡ true → LevelStep i s (routing (whole_level s) r) (routing adrift_level r)

none_on : (p : Packet) → is_level p ≡ true → channel_in p ≡ None
none_on (packet.TheVariants.Channel c k) e = absurd (false≢true e)
none_on p e = refl

pub level_packet : (i : Interface) (nr : ℕ) (x : Side) (p : Packet) (len : ℕ) (os : List ℕ) → is_level p ≡ true → LevelPacket i (level_item nr x p len os)
level_packet i nr x p len os e = record { none = none_on p e; row = λ l e' f. level_packet_row i (at_level e' l f) nr x p len os e; steps = λ s. level_step_is i s nr x p len os e }

pub data IsRow (i : Interface) (r : Item) : Type 0 where
  OnChannel : ChannelRow i r → IsRow i r
  OnNone : LevelPacket i r → IsRow i r

-- both walks after a row
record Kept (i : Interface) (r : Item) (rs : List Item) (d : ℕ) (l : GapInterfaceState) (g : ℕ → GapChannel) : Type 0 where
  epoch : ℕ
  state : RState
  states : ℕ → GapChannel
  silent : Silent i (at_level epoch (whole_level state) states) rs
  epoch_then : ℕ
  level_then : GapInterfaceState
  states_then : ℕ → GapChannel
  beside : Beside i state states level_then states_then
  back : (ys : List Item) → Silent i (at_level epoch_then level_then states_then) ys → Silent i (at_level d l g) (r ∷ ys)

-- a packet on a channel in r1
kept_in_r1 : (i : Interface) (e d : ℕ) (b : Bool) (f g : ℕ → GapChannel) (r : Item) (rs : List Item) → ChannelRow i r → ((k : ℕ) → Near i k (f k) (g k))
    → ((f g : ℕ → GapChannel) → ((k : ℕ) → Near i k (f k) (g k)) → Beside i restart.TheVariants.R1 f (level_in_r1_with b false) g)
    → Silent i (at_level e (whole_level restart.TheVariants.R1) f) (r ∷ rs) → Kept i r rs d (level_in_r1_with b false) g
kept_in_r1 i e d b f g r rs t near again h =
    let k : ℕ = t.channel in
    let first = first_row i e false f k r rs t.on h in
    let stays = t.stays (f k) (g k) (near k) first.0 in
    let whole : ℕ → GapChannel = with_state f k (gap_channel_step i k (f k) r).after in
    let other : ℕ → GapChannel = with_state g k (gap_channel_step i k (g k) r).after in
    record {
      epoch = e;
      state = restart.TheVariants.R1;
      states = whole;
      silent = first.1;
      epoch_then = d;
      level_then = level_in_r1_with b false;
      states_then = other;
      beside = again whole other (λ j. with_two (λ j a g. Near i j a g) f g k (gap_channel_step i k (f k) r).after (gap_channel_step i k (g k) r).after stays.1 j (near j));
      back = λ ys. row_first i d b g k r ys t.on stays.0;
    }

-- a packet on a channel while a side restarts: the whole walk ignores it
record Ignored (i : Interface) (e : ℕ) (y : Side) (f : ℕ → GapChannel) (r : Item) (rs : List Item) : Type 0 where
  side : r.side ≡ other y
  silent : Silent i (at_level e (whole_level (restarting_state y)) f) rs
  back : (d : ℕ) (g : ℕ → GapChannel) (ys : List Item) → Silent i (at_level d (whole_level (restarting_state y)) g) ys → Silent i (at_level d (whole_level (restarting_state y)) g) (r ∷ ys)

ignored : (i : Interface) (e : ℕ) (y : Side) (f : ℕ → GapChannel) (r : Item) (rs : List Item) → ChannelRow i r → Silent i (at_level e (whole_level (restarting_state y)) f) (r ∷ rs) → Ignored i e y f r rs
ignored i e y f r rs t h =
    let first = level_first i (at_level e l f) r rs (row e f) h in
    let w = waited_out y t.channel r t.on first.0 in
    record {
      side = w.side;
      silent = subst (λ o. Silent i o rs) (ap (stepped i (at_level e l f)) w.passes ∙ stays_so i (restarting_state y) e f) first.1;
      back = λ d g ys k. level_back i (at_level d l g) r ys (row d g) first.0 (subst (λ o. Silent i o ys) (sym (ap (stepped i (at_level d l g)) w.passes ∙ stays_so i (restarting_state y) d g)) k);
    }
  where
    l : GapInterfaceState
    l = whole_level (restarting_state y)

    row : (e : ℕ) (f : ℕ → GapChannel) → LevelRow i (at_level e (whole_level (restarting_state y)) f) r
    row e f = waiting_row i e y f t.channel r t.on

kept_alike : (i : Interface) (e d : ℕ) (y : Side) (f g : ℕ → GapChannel) (r : Item) (rs : List Item) → NearAt (restarting_state y) i f g → Ignored i e y f r rs → Kept i r rs d (whole_level (restarting_state y)) g
kept_alike i e d y f g r rs near w = record { epoch = e; state = restarting_state y; states = f; silent = w.silent; epoch_then = d; level_then = whole_level (restarting_state y); states_then = g; beside = Alike refl near; back = w.back d g }

kept_meanwhile : (i : Interface) (e d : ℕ) (y : Side) (f g : ℕ → GapChannel) (r : Item) (rs : List Item) → ChannelRow i r → ((k : ℕ) → Meanwhile i y k (g k))
    → ((g : ℕ → GapChannel) → ((k : ℕ) → Meanwhile i y k (g k)) → Beside i (restarting_state y) f adrift_level g) → Ignored i e y f r rs → Kept i r rs d adrift_level g
kept_meanwhile i e d y f g r rs t near again w =
    let k : ℕ = t.channel in
    let waits = t.waits y (g k) w.side (near k) in
    let other : ℕ → GapChannel = with_state g k (gap_channel_step i k (g k) r).after in
    record {
      epoch = e;
      state = restarting_state y;
      states = f;
      silent = w.silent;
      epoch_then = d;
      level_then = adrift_level;
      states_then = other;
      beside = again other (λ j. with_one (λ j g. Meanwhile i y j g) g k (gap_channel_step i k (g k) r).after waits.1 j (near j));
      back = λ ys. row_first i d true g k r ys t.on waits.0;
    }

kept_channel : (i : Interface) (e d : ℕ) (s : RState) (f g : ℕ → GapChannel) (l : GapInterfaceState) (r : Item) (rs : List Item) → ChannelRow i r → Beside i s f l g → Silent i (at_level e (whole_level s) f) (r ∷ rs) → Kept i r rs d l g
kept_channel i e d restart.TheVariants.R1 f g l r rs t (Alike same near) h = subst (λ l. Kept i r rs d l g) (sym same) (kept_in_r1 i e d false f g r rs t near (λ f g near. Alike refl near) h)
kept_channel i e d restart.TheVariants.R1 f g l r rs t (IsAdrift same near) h = subst (λ l. Kept i r rs d l g) (sym same) (kept_in_r1 i e d true f g r rs t near (λ f g near. IsAdrift refl near) h)
kept_channel i e d restart.TheVariants.R2 f g l r rs t (Alike same near) h = subst (λ l. Kept i r rs d l g) (sym same) (kept_alike i e d T f g r rs near (ignored i e T f r rs t h))
kept_channel i e d restart.TheVariants.R3 f g l r rs t (Alike same near) h = subst (λ l. Kept i r rs d l g) (sym same) (kept_alike i e d N f g r rs near (ignored i e N f r rs t h))
kept_channel i e d restart.TheVariants.R2 f g l r rs t (IsAdrift same near) h =
    subst (λ l. Kept i r rs d l g) (sym same) (kept_meanwhile i e d T f g r rs t near (λ g near. IsAdrift refl near) (ignored i e T f r rs t h))
kept_channel i e d restart.TheVariants.R3 f g l r rs t (IsAdrift same near) h =
    subst (λ l. Kept i r rs d l g) (sym same) (kept_meanwhile i e d N f g r rs t near (λ g near. IsAdrift refl near) (ignored i e N f r rs t h))

-- the whole walk after a packet on no channel
pub record Moved (i : Interface) (e : ℕ) (s : RState) (f : ℕ → GapChannel) (r : Item) (rs : List Item) : Type 0 where
  pub found : silent (route_found r (routing (whole_level s) r).route) ≡ true
  pub step : LevelStep i s (routing (whole_level s) r) (routing adrift_level r)
  pub silent : Silent i (at_level (moved_epoch e step.move) (whole_level (moved_state s step.move)) (moved_states i e f step.move)) rs

pub moves_level : (i : Interface) (e : ℕ) (s : RState) (f : ℕ → GapChannel) (r : Item) (rs : List Item) → LevelPacket i r → Silent i (at_level e (whole_level s) f) (r ∷ rs) → Moved i e s f r rs
moves_level i e s f r rs t h =
    let first = level_first i (at_level e (whole_level s) f) r rs (t.row (whole_level s) e f) h in
    let step : LevelStep i s (routing (whole_level s) r) (routing adrift_level r) = t.steps s first.0 in
    record { found = first.0; step = step; silent = subst (λ o. Silent i o rs) (step.whole e f) first.1 }

kept_level : (i : Interface) (e d : ℕ) (s : RState) (f g : ℕ → GapChannel) (l : GapInterfaceState) (r : Item) (rs : List Item) → BeginsKnown i → LevelPacket i r → Beside i s f l g → Silent i (at_level e (whole_level s) f) (r ∷ rs) → Kept i r rs d l g
kept_level i e d s f g l r rs known t beside h = at beside
  where
    w : Moved i e s f r rs
    w = moves_level i e s f r rs t h

    m : LevelMove
    m = (moves_level i e s f r rs t h).step.move

    kept : (d' : ℕ) (l' : GapInterfaceState) (g' : ℕ → GapChannel) → Beside i (moved_state s m) (moved_states i e f m) l' g' → ((ys : List Item) → Silent i (at_level d' l' g') ys → Silent i (at_level d l g) (r ∷ ys)) → Kept i r rs d l g
    kept d' l' g' beside back = record { epoch = moved_epoch e m; state = moved_state s m; states = moved_states i e f m; silent = w.silent; epoch_then = d'; level_then = l'; states_then = g'; beside = beside; back = back }

    whole : WholeAt (moved_state s m) i (moved_states i e f m)
    whole = whole_moved i s e f m known (beside_whole i s f l g beside)

    -- the interface that is adrift
    adrift_back : (t' : GapRouting) → routing adrift_level r ≡ t' → silent (route_found r t'.route) ≡ true → l ≡ adrift_level → (ys : List Item) → Silent i (stepped i (at_level d adrift_level g) t') ys → Silent i (at_level d l g) (r ∷ ys)
    adrift_back t' same found a ys k =
        subst (λ l. Silent i (at_level d l g) (r ∷ ys)) (sym a)
        (level_back i (at_level d adrift_level g) r ys (t.row adrift_level d g) (ap (λ (u : GapRouting). silent (route_found r u.route)) same ∙ found)
        (subst (λ u. Silent i (stepped i (at_level d adrift_level g) u) ys) (sym same) k))

    stays : m ≡ Stays → MeanwhileAt s i f g → MeanwhileAt (moved_state s m) i (moved_states i e f m) g
    stays u near = subst (λ m. MeanwhileAt (moved_state s m) i (moved_states i e f m) g) (sym u) near

    restores : m ≡ Enters → Beside i (moved_state s m) (moved_states i e f m) (whole_level restart.TheVariants.R1) (fresh_at i Restarted (d + 1))
    restores u = subst (λ m. Beside i (moved_state s m) (moved_states i e f m) (whole_level restart.TheVariants.R1) (fresh_at i Restarted (d + 1))) (sym u) (Alike refl (λ k. fresh_near i (e + 1) (d + 1) k known))

    adrift : AdriftMove m (routing adrift_level r) → l ≡ adrift_level → MeanwhileAt s i f g → Kept i r rs d l g
    adrift (KeepsAdrift u same) a near = kept d adrift_level g (IsAdrift refl (stays u near)) (adrift_back (level_stays adrift_level) same refl a)
    adrift (Redrifts same) a near =
        kept (d + 1) adrift_level (fresh_at i (Drifting false) (d + 1)) (IsAdrift refl (opened_meanwhile i (moved_state s m) (moved_states i e f m) (fresh_at i (Drifting false) (d + 1)) whole (λ k. fresh_open i (d + 1) k)))
        (adrift_back _ same refl a)
    adrift (Restores u same) a near = kept (d + 1) (whole_level restart.TheVariants.R1) (fresh_at i Restarted (d + 1)) (restores u) (adrift_back _ same refl a)

    at : Beside i s f l g → Kept i r rs d l g
    at (Alike same near) = kept (moved_epoch d m) (whole_level (moved_state s m)) (moved_states i d g m) (Alike refl (near_moved i s e d f g m known near))
        (λ ys k. subst (λ l. Silent i (at_level d l g) (r ∷ ys)) (sym same)
        (level_back i (at_level d (whole_level s) g) r ys (t.row (whole_level s) d g) w.found (subst (λ o. Silent i o ys) (sym (w.step.whole d g)) k)))
    at (IsAdrift same near) = adrift w.step.adrift same near

kept_row : (i : Interface) (e d : ℕ) (s : RState) (f g : ℕ → GapChannel) (l : GapInterfaceState) (r : Item) (rs : List Item) → BeginsKnown i → IsRow i r → Beside i s f l g → Silent i (at_level e (whole_level s) f) (r ∷ rs) → Kept i r rs d l g
kept_row i e d s f g l r rs known (OnChannel t) beside h = kept_channel i e d s f g l r rs t beside h
kept_row i e d s f g l r rs known (OnNone t) beside h = kept_level i e d s f g l r rs known t beside h

-- ---- runs of rows that were taken out

-- the whole walk after some rows
record Walked (i : Interface) (rs : List Item) : Type 0 where
  epoch : ℕ
  state : RState
  states : ℕ → GapChannel
  silent : Silent i (at_level epoch (whole_level state) states) rs
  whole : WholeAt state i states

walked_on : (i : Interface) (e : ℕ) (s : RState) (f : ℕ → GapChannel) (r : Item) (rs : List Item) → ChannelRow i r → WholeAt s i f → Silent i (at_level e (whole_level s) f) (r ∷ rs) → Walked i rs
walked_on i e restart.TheVariants.R1 f r rs t whole h =
    let k : ℕ = t.channel in
    let first = first_row i e false f k r rs t.on h in
    record {
      epoch = e;
      state = restart.TheVariants.R1;
      states = with_state f k (gap_channel_step i k (f k) r).after;
      silent = first.1;
      whole = λ j. with_one (λ j a. Whole i j a) f k (gap_channel_step i k (f k) r).after (t.whole (f k) (whole k) first.0) j (whole j);
    }
walked_on i e restart.TheVariants.R2 f r rs t whole h = record { epoch = e; state = restart.TheVariants.R2; states = f; silent = (ignored i e T f r rs t h).silent; whole = tt }
walked_on i e restart.TheVariants.R3 f r rs t whole h = record { epoch = e; state = restart.TheVariants.R3; states = f; silent = (ignored i e N f r rs t h).silent; whole = tt }

walked_row : (i : Interface) (e : ℕ) (s : RState) (f : ℕ → GapChannel) (r : Item) (rs : List Item) → BeginsKnown i → IsRow i r → WholeAt s i f → Silent i (at_level e (whole_level s) f) (r ∷ rs) → Walked i rs
walked_row i e s f r rs known (OnChannel t) whole h = walked_on i e s f r rs t whole h
walked_row i e s f r rs known (OnNone t) whole h =
    let w = moves_level i e s f r rs t h in
    record { epoch = moved_epoch e w.step.move; state = moved_state s w.step.move; states = moved_states i e f w.step.move; silent = w.silent; whole = whole_moved i s e f w.step.move known whole }

walked : (i : Interface) (e : ℕ) (s : RState) (f : ℕ → GapChannel) (run rest : List Item) → BeginsKnown i → AllByRecursion (IsRow i) run → WholeAt s i f → Silent i (at_level e (whole_level s) f) (run ++ rest) → Walked i rest
walked i e s f [] rest known rows whole h = record { epoch = e; state = s; states = f; silent = h; whole = whole }
walked i e s f (r ∷ run) rest known (row, rows) whole h =
    let w = walked_row i e s f r (run ++ rest) known row whole h in
    walked i w.epoch w.state w.states run rest known rows w.whole w.silent

-- rows of a channel alone
abbrev RowOf : Interface → ℕ → Item → Type 0
RowOf i c r = (t : ChannelRow i r) × (t.channel ≡ c)

rows_of : (i : Interface) (c : ℕ) (run : List Item) → AllByRecursion (IsRow i) run → AllByRecursion (λ r. channel_in r.packet ≡ Some c) run → AllByRecursion (RowOf i c) run
rows_of i c [] rows same = tt
rows_of i c (r ∷ run) (OnChannel t, rows) (same, more) = ((t, same_some (sym (ap (λ p. channel_in p) t.on.is) ∙ same)), rows_of i c run rows more)
rows_of i c (r ∷ run) (OnNone t, rows) (same, more) = absurd (none_some (sym t.none ∙ same))
  where
    none_some : None ≡ Some c → ⊥
    none_some e = cc

-- in r1 they change that channel
record Absorbed (i : Interface) (e : ℕ) (g : ℕ → GapChannel) (rest : List Item) : Type 0 where
  states : ℕ → GapChannel
  near : (k : ℕ) → Near i k (states k) (g k)
  silent : Silent i (at_level e (whole_level restart.TheVariants.R1) states) rest

absorbed : (i : Interface) (e c : ℕ) (f g : ℕ → GapChannel) (run rest : List Item) → AllByRecursion (RowOf i c) run → Opened i false c (g c) → ((k : ℕ) → Near i k (f k) (g k))
    → Silent i (at_level e (whole_level restart.TheVariants.R1) f) (run ++ rest) → Absorbed i e g rest
absorbed i e c f g [] rest rows opened near h = record { states = f; near = near; silent = h }
absorbed i e c f g (r ∷ run) rest (row, rows) opened near h =
    let k : ℕ = row.0.channel in
    let first = first_row i e false f k r (run ++ rest) row.0.on h in
    let own : Opened i false k (g k) = subst (λ k. Opened i false k (g k)) (sym row.1) opened in
    let after : GapChannel = (gap_channel_step i k (f k) r).after in
    absorbed i e c (with_state f k after) g run rest rows opened
    (λ j. with_one (λ j a. Near i j a (g j)) f k after (open_near i false k after (g k) (row.0.whole (f k) (near_whole i k (f k) (g k) (near k)) first.0) own) j (near j)) first.1

-- while a side restarts they change nothing
all_ignored : (i : Interface) (e c : ℕ) (y : Side) (f : ℕ → GapChannel) (run rest : List Item) → AllByRecursion (RowOf i c) run → Silent i (at_level e (whole_level (restarting_state y)) f) (run ++ rest) → Silent i (at_level e (whole_level (restarting_state y)) f) rest
all_ignored i e c y f [] rest rows h = h
all_ignored i e c y f (r ∷ run) rest (row, rows) h = all_ignored i e c y f run rest rows (ignored i e y f r (run ++ rest) row.0 h).silent

-- ---- gaps

-- both walks after a gap, and the rows that it represents
record Gapped (i : Interface) (y : Item) (rest : List Item) (d : ℕ) (l : GapInterfaceState) (g : ℕ → GapChannel) : Type 0 where
  epoch : ℕ
  state : RState
  states : ℕ → GapChannel
  silent : Silent i (at_level epoch (whole_level state) states) rest
  epoch_then : ℕ
  level_then : GapInterfaceState
  states_then : ℕ → GapChannel
  beside : Beside i state states level_then states_then
  back : (ys : List Item) → Silent i (at_level epoch_then level_then states_then) ys → Silent i (at_level d l g) (y ∷ ys)

abbrev gap_of_all : (number : ℕ) → Side → (length : ℕ) → (octets : List ℕ) → Item
gap_of_all nr x len os = record { number = nr; side = x; packet = packet.TheVariants.GapOfAll; length = len; octets = os }

abbrev gap_on : (number : ℕ) → Side → (channel : ℕ) → (length : ℕ) → (octets : List ℕ) → Item
gap_on nr x c len os = record { number = nr; side = x; packet = packet.TheVariants.Channel c kind.TheVariants.Gap; length = len; octets = os }

gapped_all : (i : Interface) (e d : ℕ) (s : RState) (f g : ℕ → GapChannel) (l : GapInterfaceState) (nr : ℕ) (x : Side) (len : ℕ) (os : List ℕ) (run rest : List Item) → BeginsKnown i → AllByRecursion (IsRow i) run → Beside i s f l g
    → Silent i (at_level e (whole_level s) f) (run ++ rest) → Gapped i (gap_of_all nr x len os) rest d l g
gapped_all i e d s f g l nr x len os run rest known rows beside h = at s beside
  where
    w : Walked i rest
    w = walked i e s f run rest known rows (beside_whole i s f l g beside) h

    gapped : (d' : ℕ) (g' : ℕ → GapChannel) → ((k : ℕ) → Opened i true k (g' k)) → ((ys : List Item) → Silent i (at_level d' adrift_level g') ys → Silent i (at_level d l g) (gap_of_all nr x len os ∷ ys)) → Gapped i (gap_of_all nr x len os) rest d l g
    gapped d' g' opened back = record { epoch = w.epoch; state = w.state; states = w.states; silent = w.silent; epoch_then = d'; level_then = adrift_level; states_then = g'; beside = IsAdrift refl (opened_meanwhile i w.state w.states g' w.whole opened); back = back }

    -- each channel is adrift in the same epoch
    each : (m : GapInterfaceState) → l ≡ m → ((ys : List Item) → Silent i (at_level d adrift_level (λ k. gap_step i k true (g k))) ys → Silent i (at_level d m g) (gap_of_all nr x len os ∷ ys)) → ((k : ℕ) → Opened i true k (gap_step i k true (g k))) → Gapped i (gap_of_all nr x len os) rest d l g
    each m same back opened = gapped d (λ k. gap_step i k true (g k)) opened (λ ys k. subst (λ l. Silent i (at_level d l g) (gap_of_all nr x len os ∷ ys)) (sym same) (back ys k))

    -- the other packet of the restart may be missing
    next : (m : GapInterfaceState) → l ≡ m → ((ys : List Item) → Silent i (at_level (d + 1) adrift_level (fresh_at i (Drifting false) (d + 1))) ys → Silent i (at_level d m g) (gap_of_all nr x len os ∷ ys)) → Gapped i (gap_of_all nr x len os) rest d l g
    next m same back = gapped (d + 1) (fresh_at i (Drifting false) (d + 1)) (λ k. fresh_open i (d + 1) k) (λ ys k. subst (λ l. Silent i (at_level d l g) (gap_of_all nr x len os ∷ ys)) (sym same) (back ys k))

    at : (s : RState) → Beside i s f l g → Gapped i (gap_of_all nr x len os) rest d l g
    at restart.TheVariants.R1 (Alike same near) = each (whole_level restart.TheVariants.R1) same (λ ys k. k) (λ k. near_open i true k (f k) (g k) (near k))
    at restart.TheVariants.R1 (IsAdrift same near) = each adrift_level same (λ ys k. k) (λ k. near_open i true k (f k) (g k) (near k))
    at restart.TheVariants.R2 (Alike same near) = next (whole_level restart.TheVariants.R2) same (λ ys k. k)
    at restart.TheVariants.R3 (Alike same near) = next (whole_level restart.TheVariants.R3) same (λ ys k. k)
    at restart.TheVariants.R2 (IsAdrift same near) = each adrift_level same (λ ys k. k) (λ k. meanwhile_open i T k (g k) (near k))
    at restart.TheVariants.R3 (IsAdrift same near) = each adrift_level same (λ ys k. k) (λ k. meanwhile_open i N k (g k) (near k))

gapped_on : (i : Interface) (e d : ℕ) (s : RState) (f g : ℕ → GapChannel) (l : GapInterfaceState) (nr : ℕ) (x : Side) (c len : ℕ) (os : List ℕ) (run rest : List Item) → AllByRecursion (RowOf i c) run → Beside i s f l g
    → Silent i (at_level e (whole_level s) f) (run ++ rest) → Gapped i (gap_on nr x c len os) rest d l g
gapped_on i e d s f g l nr x c len os run rest rows beside h = at s beside h
  where
    other : ℕ → GapChannel
    other = with_state g c (gap_step i c false (g c))

    gapped : (s' : RState) (f' : ℕ → GapChannel) → Silent i (at_level e (whole_level s') f') rest → (m : GapInterfaceState) → l ≡ m → (g' : ℕ → GapChannel) → Beside i s' f' m g'
        → ((ys : List Item) → Silent i (at_level d m g') ys → Silent i (at_level d m g) (gap_on nr x c len os ∷ ys)) → Gapped i (gap_on nr x c len os) rest d l g
    gapped s' f' quiet m same g' beside back = record {
      epoch = e;
      state = s';
      states = f';
      silent = quiet;
      epoch_then = d;
      level_then = m;
      states_then = g';
      beside = beside;
      back = λ ys k. subst (λ l. Silent i (at_level d l g) (gap_on nr x c len os ∷ ys)) (sym same) (back ys k);
    }

    in_r1 : ((k : ℕ) → Near i k (f k) (g k)) → Silent i (at_level e (whole_level restart.TheVariants.R1) f) (run ++ rest) → Absorbed i e (with_state g c (gap_step i c false (g c))) rest
    in_r1 near h =
        let opened : Opened i false c (gap_step i c false (g c)) = near_open i false c (f c) (g c) (near c) in
        absorbed i e c f (with_state g c (gap_step i c false (g c))) run rest rows
        (subst (Opened i false c) (sym (ap (λ t. cond t (gap_step i c false (g c)) (g c)) (eq-eqb c c refl))) opened)
        (λ k. with_one (λ k b. Near i k (f k) b) g c (gap_step i c false (g c)) (open_near i false c (f c) (gap_step i c false (g c)) (near_whole i c (f c) (g c) (near c)) opened) k (near k)) h

    meanwhile : (y : Side) → ((k : ℕ) → Meanwhile i y k (g k)) → (k : ℕ) → Meanwhile i y k (with_state g c (gap_step i c false (g c)) k)
    meanwhile y near k = with_one (λ k b. Meanwhile i y k b) g c (gap_step i c false (g c)) (meanwhile_gap i y c (g c) (near c)) k (near k)

    at : (s : RState) → Beside i s f l g → Silent i (at_level e (whole_level s) f) (run ++ rest) → Gapped i (gap_on nr x c len os) rest d l g
    at restart.TheVariants.R1 (Alike same near) h = let w = in_r1 near h in gapped restart.TheVariants.R1 w.states w.silent (whole_level restart.TheVariants.R1) same other (Alike refl w.near) (λ ys k. k)
    at restart.TheVariants.R1 (IsAdrift same near) h = let w = in_r1 near h in gapped restart.TheVariants.R1 w.states w.silent adrift_level same other (IsAdrift refl w.near) (λ ys k. k)
    at restart.TheVariants.R2 (Alike same near) h = gapped restart.TheVariants.R2 f (all_ignored i e c T f run rest rows h) (whole_level restart.TheVariants.R2) same g (Alike refl tt) (λ ys k. k)
    at restart.TheVariants.R3 (Alike same near) h = gapped restart.TheVariants.R3 f (all_ignored i e c N f run rest rows h) (whole_level restart.TheVariants.R3) same g (Alike refl tt) (λ ys k. k)
    at restart.TheVariants.R2 (IsAdrift same near) h = gapped restart.TheVariants.R2 f (all_ignored i e c T f run rest rows h) adrift_level same other (IsAdrift refl (meanwhile T near)) (λ ys k. k)
    at restart.TheVariants.R3 (IsAdrift same near) h = gapped restart.TheVariants.R3 f (all_ignored i e c N f run rest rows h) adrift_level same other (IsAdrift refl (meanwhile N near)) (λ ys k. k)

gapped_by : (i : Interface) (e d : ℕ) (s : RState) (f g : ℕ → GapChannel) (l : GapInterfaceState) (nr : ℕ) (x : Side) (p : Packet) (len : ℕ) (os : List ℕ) (run rest : List Item) → BeginsKnown i → AllByRecursion (IsRow i) run → Covers (gap_of p) run → Beside i s f l g
    → Silent i (at_level e (whole_level s) f) (run ++ rest) → Gapped i (record { number = nr; side = x; packet = p; length = len; octets = os }) rest d l g
gapped_by i e d s f g l nr x packet.TheVariants.GapOfAll len os run rest known rows covers beside h = gapped_all i e d s f g l nr x len os run rest known rows beside h
gapped_by i e d s f g l nr x (packet.TheVariants.Channel c kind.TheVariants.Gap) len os run rest known rows covers beside h = gapped_on i e d s f g l nr x c len os run rest (rows_of i c run rows covers) beside h
gapped_by i e d s f g l nr x p len os run rest known rows covers beside h = absurd covers

-- ---- thinning

thinned : (i : Interface) (e d : ℕ) (s : RState) (f g : ℕ → GapChannel) (l : GapInterfaceState) (ys xs : List Item) → BeginsKnown i → AllByRecursion (IsRow i) xs → IsThinned xs ys → Beside i s f l g
    → Silent i (at_level e (whole_level s) f) xs → Silent i (at_level d l g) ys
thinned i e d s f g l [] xs known rows thin beside h = refl
thinned i e d s f g l (y ∷ ys) xs known rows (inl (rest, same, thin)) beside h =
    let kept = subst (λ l. AllByRecursion (IsRow i) l) same rows in
    let w = kept_row i e d s f g l y rest known kept.0 beside (subst (λ l. Silent i (at_level e (whole_level s) f) l) same h) in
    w.back ys (thinned i w.epoch w.epoch_then w.state w.states w.states_then w.level_then ys rest known kept.1 thin w.beside w.silent)
thinned i e d s f g l (y ∷ ys) xs known rows (inr (run, rest, same, covers, thin)) beside h =
    let parts = rows_after (IsRow i) run rest (subst (λ l. AllByRecursion (IsRow i) l) same rows) in
    let w = gapped_by i e d s f g l y.number y.side y.packet y.length y.octets run rest known parts.0 covers beside (subst (λ l. Silent i (at_level e (whole_level s) f) l) same h) in
    w.back ys (thinned i w.epoch w.epoch_then w.state w.states w.states_then w.level_then ys rest known parts.1 thin w.beside w.silent)

-- from an interface that has just restarted
pub thinned_restarted : (i : Interface) (xs ys : List Item) → BeginsKnown i → AllByRecursion (IsRow i) xs → IsThinned xs ys → Silent i (at_level 1 (whole_level restart.TheVariants.R1) (fresh_at i Restarted 1)) xs
    → Silent i (at_level 1 (whole_level restart.TheVariants.R1) (fresh_at i Restarted 1)) ys
thinned_restarted i xs ys known rows thin h = thinned i 1 1 restart.TheVariants.R1 (fresh_at i Restarted 1) (fresh_at i Restarted 1) (whole_level restart.TheVariants.R1) ys xs known rows thin (Alike refl (λ k. fresh_near i 1 1 k known)) h

-- and of any end of the rows, where the recording begins in the middle
pub thinned_joined : (i : Interface) (before rest ys : List Item) → BeginsKnown i → AllByRecursion (IsRow i) (before ++ rest) → IsThinned rest ys → Silent i (at_level 1 (whole_level restart.TheVariants.R1) (fresh_at i Restarted 1)) (before ++ rest)
    → Silent i (at_level 1 adrift_level (fresh_at i (Drifting false) 1)) ys
thinned_joined i before rest ys known rows thin h =
    let parts = rows_after (IsRow i) before rest rows in
    let w = walked i 1 restart.TheVariants.R1 (fresh_at i Restarted 1) before rest known parts.0 (λ k. fresh_whole i 1 k known) h in
    thinned i w.epoch 1 w.state w.states (fresh_at i (Drifting false) 1) adrift_level ys rest known parts.1 thin
    (IsAdrift refl (opened_meanwhile i w.state w.states (fresh_at i (Drifting false) 1) w.whole (λ k. fresh_open i 1 k))) w.silent
