-- A cutter that read the rows of a block.
use Rattle.std.proofs.Common.{◌≡◌, ◌∙◌, sym, ap, subst, refl, ℕ, ◌+◌, ◌<◌, ◌≤◌, ◌==◌, cond, true, List, ◌++◌, arith}
use Rattle.line_model.specs.declared.interface.Interface.{Interface}
use Rattle.line_model.specs.basics.Records.{Item, Piece}
use Rattle.line_model.specs.pieces.Plan.{has_some}
use Rattle.restart_epochs.specs.BlockCuts.{AreAdded, HasTakenAll, HaveEnded, IsJoined, MayCome, MayEndAll, gap_joined, gap_left, joined, listed, parts_of, pieces_ended, rows_after, rows_on}
use Rattle.restart_epochs.specs.BlockStates.{IsBlockCut, block_rows}
use Rattle.restart_epochs.specs.Cutting.{Cutting, IsCutting, IsUnchanged, Represents}
use Rattle.restart_epochs.specs.OpenRows.{OpenRows, rows_of, with_part}
use Rattle.restart_epochs.specs.Walks.{start_joined}
use Rattle.restart_epochs.specs.declared.block_cut.BlockCut.{BlockCut}
use Rattle.restart_epochs.proofs.Added.{AreOnce, added_rows, are_within, lists, parts_listed, parts_once, same_bounds, same_represents, some_behind, within_open}
use Rattle.restart_epochs.proofs.BlockJoins.{both_rows}
use Rattle.restart_epochs.proofs.Comings.{all_come}
use Rattle.restart_epochs.proofs.GapRows.{part_some}
use Rattle.restart_epochs.proofs.Listings.{listing}

-- the epochs of the block were given out, and the rows of its open epoch added
pub record IsHung {A : Type 0} (c : Cutting) (b : BlockCut A) (c' : Cutting) (out out' : List Piece) : Type 0 where
  pub between : OpenRows
  pub gap : ℕ
  pub ended : HaveEnded c.interface c.epoch c.start b.ended.items c.given c'.given c.gap gap c.open_rows between out out'
  pub added : AreAdded gap b.tail.items between c'.open_rows
  pub joined : c'.gap ≡ gap_joined gap b.gap
  pub interface : c'.interface ≡ c.interface
  pub level : c'.level ≡ b.walk.machine
  pub epoch : c'.epoch ≡ c.epoch + b.walk.epoch
  pub start : c'.start ≡ start_joined b.walk.epoch c.start b.walk.start
  pub packets : c'.packets ≡ c.packets + b.walk.packets
  pub gaps : c'.gaps ≡ c.gaps + b.walk.gaps
  pub last : c'.last ≡ cond (b.walk.packets == 0) c.last b.last
  pub octets : c'.octets ≡ c.octets + b.octets
  pub findings : c'.findings ≡ c.findings ++ b.walk.findings.items

pub hung_at : {A : Type 0} (d c c' : Cutting) (b : BlockCut A) (out out' : List Piece) → d ≡ c → IsHung d b c' out out' → IsHung c b c' out out'
hung_at d c c' b out out' same h = subst (λ e. IsHung e b c' out out') same h

-- what a cutter receives
pub record MayHang {A : Type 0} (c : Cutting) (b : BlockCut A) : Type 0 where
  pub interface : Interface
  pub rows : List Item
  pub items : List Item
  pub represented : Represents interface rows c
  pub bounds : IsCutting c
  pub cut : IsBlockCut c.level items b
  pub joins : IsJoined interface rows c items (block_rows b cut.rows)

abbrev pub may_hang : {A : Type 0} (i : Interface) (rows items : List Item) (c : Cutting) (b : BlockCut A) → Represents i rows c → IsCutting c → IsBlockCut c.level items b → MayCome c items → MayHang c b
may_hang i rows items c b represented bounds cut come = record { interface = i; rows = rows; items = items; represented = represented; bounds = bounds; cut = cut; joins = cut.cut i rows c represented bounds refl (all_come c items come) }

pub may_end : {A : Type 0} (c : Cutting) (b : BlockCut A) → MayHang c b → MayEndAll c.interface c.epoch c.start c.given c.gap c.open_rows b.ended.items
may_end c b m =
    let ids = m.joins.bounds.ids in
    let rows = m.joins.bounds.rows in
    let last = m.joins.bounds.last in
    record {
      channels = lists m.interface m.rows c m.represented ∙ ap (λ (j : Interface). listed j.svc (rows_of c.open_rows)) (sym m.represented.interface);
      others = (listing m.interface m.rows c m.represented).others;
      ids = omega (arith, ids, rows, last);
      fit = m.joins.fit;
    }

-- the counts of both fit
pub counts_fit : {A : Type 0} (c : Cutting) (b : BlockCut A) → MayHang c b → (c.epoch + b.walk.epoch < 4294967296) × (c.packets + b.walk.packets < 4294967296) × (c.gaps + b.walk.gaps < 4294967296) × (c.octets + b.octets < 4294967296)
counts_fit c b m =
    let epochs = m.joins.bounds.epochs in
    let rows = m.joins.bounds.rows in
    let last = m.joins.bounds.last in
    let octets = m.joins.bounds.octets in
    let gaps = m.joins.bounds.gaps in
    (omega (arith, epochs, rows, last), omega (arith, rows, last), omega (arith, gaps, rows, last), omega (arith, octets))

-- the parts of the epoch that is open after the block are of one channel each
tail_once : {A : Type 0} → (c : Cutting) (b : BlockCut A) → MayHang c b → AreOnce b.tail.items
tail_once c b m = subst AreOnce (sym (m.cut.parts ∙ ap (parts_of (rows_of m.cut.rows)) m.joins.listed)) (parts_once (rows_of m.cut.rows) (λ k. has_some (rows_of m.cut.rows k)) 1 c.interface.svc)

hung_same : {A : Type 0} (c c' : Cutting) (b : BlockCut A) (out out' : List Piece) → (m : MayHang c b) → IsHung c b c' out out' → IsUnchanged (joined c (block_rows b m.cut.rows)) c'
hung_same c c' b out out' m h =
    let n = c.interface.svc in
    let g = gap_left c.gap b.ended.items in
    let o = rows_after c.open_rows b.ended.items in
    let all = joined c (block_rows b m.cut.rows) in
    let tail : (k : ℕ) → rows_on k b.tail.items ≡ rows_of m.cut.rows k = m.cut.tail in
    let rows : (k : ℕ) → rows_of c'.open_rows k ≡ rows_of all.open_rows k = λ k.
    added_rows h.gap b.tail.items h.between c'.open_rows h.added (tail_once c b m) k ∙ (λ j. with_part (h.ended.left j) (h.ended.rows k j) (tail k j)) ∙ sym (both_rows n g o m.cut.rows k) in
    let within : (k : ℕ) → has_some (rows_on k b.tail.items) ≡ true → (1 ≤ k) × (k ≤ n) = λ k some.
    subst (λ (j : Interface). (1 ≤ k) × (k ≤ j.svc)) (sym m.joins.represented.interface)
    (within_open m.interface (m.rows ++ m.items) all m.joins.represented k (ap has_some (both_rows n g o m.cut.rows k ∙ ap (with_part g (rows_of o k)) (sym (tail k))) ∙ part_some g (rows_of o k) (rows_on k b.tail.items) ∙ some_behind (rows_of o k) (rows_on k b.tail.items) some)) in
    record {
      interface = h.interface;
      level = h.level;
      epoch = h.epoch;
      start = h.start;
      given = h.ended.count;
      packets = h.packets;
      gaps = h.gaps;
      last = h.last;
      octets = h.octets;
      findings = h.findings;
      gap = h.joined ∙ ap (λ m'. gap_joined m' b.gap) h.ended.left;
      open_rows = record {
        rows = rows;
        channels = parts_listed n h.gap b.tail.items h.between c'.open_rows h.added (are_within n b.tail.items within) h.ended.channels ∙ ap (listed n) (λ j k. rows k j);
      };
    }

pub hung_bounds : {A : Type 0} (c c' : Cutting) (b : BlockCut A) (out out' : List Piece) → MayHang c b → IsHung c b c' out out' → IsCutting c'
hung_bounds c c' b out out' m h = same_bounds (joined c (block_rows b m.cut.rows)) c' (hung_same c c' b out out' m h) m.joins.bounds

pub hung_taken : {A : Type 0} (i : Interface) (rows items : List Item) (c c' : Cutting) (b : BlockCut A) (out out' : List Piece) → Represents i rows c → IsCutting c → IsBlockCut c.level items b → MayCome c items → IsHung c b c' out out' → HasTakenAll items c c' out out'
hung_taken i rows items c c' b out out' represented bounds cut come h =
    let may : (j : Interface) (rs : List Item) → Represents j rs c → MayHang c b = λ j rs s. may_hang j rs items c b s bounds cut come in
    let m = may i rows represented in
    record {
      interface = h.interface;
      last = h.last ∙ m.joins.last;
      octets = h.octets ∙ m.joins.octets;
      represented = λ j rs s. let n = may j rs s in same_represents j (rs ++ items) (joined c (block_rows b cut.rows)) c' (hung_same c c' b out out' n h) n.joins.represented;
      appended = λ j rs s. record { more = pieces_ended c (block_rows b cut.rows); out_has = h.ended.pieces; known_has = (may j rs s).joins.given };
    }
