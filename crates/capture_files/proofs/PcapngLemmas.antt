-- The blocks that a pcapng file has, read one by one.
use Rattle.std.proofs.Common.{◌≡◌, ◌∙◌, sym, ap, Bool, true, false, ℕ, zero, suc, ◌+◌, ◌-◌, ◌%◌, ◌<◌, ◌≤◌, ◌⊎◌, inl, inr, List, [], ◌∷◌, ◌++◌, Option, None, Some, IfSome, arith, drop, length, length-append, length-drop, length-take, min, nat_le, refl, subst, take}
use Rattle.std.specs.Prelude.{if◌then◌else◌, slice_get}
use Rattle.std.specs.Option.{option_map}
use Rattle.std.proofs.Math.Seq.{drop-append_seam, take-append_seam}
use Rattle.std.proofs.lemmas.Bool.{leb-true}
use Rattle.std.proofs.lemmas.Bool.Decides.{nat_tests}
use Rattle.std.proofs.lemmas.List.{append-nil, take-append-drop}
use Rattle.capture_files.specs.Blocks.{BeginsBlock, IsBlock, IsCutBlock, IsWholeBlock, block_length, is_whole, order_at}
use Rattle.capture_files.specs.BlockFrames.{options_behind, placed_in}
use Rattle.capture_files.specs.BlockSteps.{first_snap}
use Rattle.capture_files.specs.Entries.{frame_at}
use Rattle.capture_files.specs.Numbers.{next_number}
use Rattle.capture_files.specs.PcapngFiles.{IsRead, Reads, block_records, blocks_within, front_read, front_size, pcapng_ahead, pcapng_left, section_of}
use Rattle.capture_files.specs.Options.{drop_count}
use Rattle.capture_files.specs.PcapngRecords.{Reading, Section, block_read, dropped_before, frame_given, frame_here, frame_in, frame_of, frame_read, ordered, placed_drops, whole_read}
use Rattle.capture_files.specs.Records.{Follows, Record, record_of}
use Rattle.capture_files.specs.Windows.{IsAtEnd, Passes, still}
use Rattle.capture_files.specs.declared.entry.Entry.{Entry}
use Rattle.capture_files.specs.declared.entry.FrameHead.{FrameHead}
use Rattle.capture_files.specs.declared.interface.Interface.{Interface}
use Rattle.capture_files.specs.declared.packet_block.Placed.{Placed}
use Rattle.capture_files.specs.declared.pcapng.Pcapng.{Pcapng}
use Rattle.capture_files.proofs.BlockLemmas.{frame_more, no_block, order_more}
use Rattle.capture_files.proofs.FileLemmas.{follows_unshown, front_shown}
use Rattle.capture_files.proofs.RecordLemmas.{number_more}

-- ---- a block that is read

whole_block : (big : Bool) (octets : List ℕ) → is_whole big octets ≡ true → IsWholeBlock big octets
whole_block big octets is = record {
  one = record {
    begins = record {
      head = grind (arith, nat_tests);
      least = grind (arith, nat_tests);
      words = grind (arith, nat_tests);
      most = grind (arith, nat_tests);
    };
    whole = grind (arith, nat_tests);
  };
  again = grind (arith, nat_tests);
}

is_whole_block : (big : Bool) (octets : List ℕ) → IsWholeBlock big octets → is_whole big octets ≡ true
is_whole_block big octets w =
    let head = w.one.begins.head in
    let words : length octets % 4 ≡ 0 = ap (λ n. n % 4) w.one.whole ∙ w.one.begins.words in
    let most = w.one.begins.most in
    let whole = w.one.whole in
    let again = w.again in
    grind (arith, nat_tests)

-- it is one, and its content is read
pub block_whole : (s : Section) (block : List ℕ) (t : Reading) → block_read s block ≡ Some t → IsWholeBlock (order_at s.is_big block) block × (whole_read (ordered s block) block ≡ Some t)
block_whole s block t is = by_whole (is_whole (order_at s.is_big block) block) refl
  where
    by_whole : (b : Bool) → is_whole (order_at s.is_big block) block ≡ b → IsWholeBlock (order_at s.is_big block) block × (whole_read (ordered s block) block ≡ Some t)
    by_whole true whole = (whole_block (order_at s.is_big block) block whole, sym (ap (λ b. if b then whole_read (ordered s block) block else None) whole) ∙ is)
    by_whole false bad = cc (sym is ∙ ap (λ b. if b then whole_read (ordered s block) block else None) bad)

block_is : (s : Section) (block : List ℕ) → IsWholeBlock (order_at s.is_big block) block → block_read s block ≡ whole_read (ordered s block) block
block_is s block whole = ap (λ b. if b then whole_read (ordered s block) block else None) (is_whole_block (order_at s.is_big block) block whole)

-- ---- the block at the front

-- more octets behind its head make no difference
size_more : (s : Section) (xs ys : List ℕ) → 12 ≤ length xs → front_size s (xs ++ ys) ≡ block_length (order_at s.is_big xs) xs
size_more s xs ys there = ap (λ b. block_length b (xs ++ ys)) (order_more s.is_big xs ys there) ∙ number_more (order_at s.is_big xs) xs ys 4 (omega (arith, there))

-- it is there
pub front_whole : (s : Section) (file : List ℕ) (t : Reading) → front_read s file ≡ Some t → (12 ≤ front_size s file) × (front_size s file ≤ length file)
front_whole s file t is =
    let size : ℕ = front_size s file in
    let block : List ℕ = take size file in
    let whole = (block_whole s block t is).0 in
    let few : length block ≡ min size (length file) = length-take size file in
    let parts : block ++ drop size file ≡ file = take-append-drop size file in
    let same : front_size s (block ++ drop size file) ≡ block_length (order_at s.is_big block) block = size_more s block (drop size file) whole.one.begins.head in
    let all : size ≡ length block = ap (front_size s) (sym parts) ∙ same ∙ sym whole.one.whole in
    (omega (arith, all, whole.one.begins.head), omega (arith, all, few))

-- the records from the block at the front on, by what it gives
abbrev from_front : (next : List ℕ) → Option Reading → Option (List Record)
from_front next reading = elim reading [
  | None ↦ None
  | Some t ↦ option_map (λ rs. t.gives ∷ rs) (block_records t.after next)
]

abbrev from_front_within : (most : ℕ) → (next : List ℕ) → Option Reading → Option (List Record)
from_front_within most next reading = elim reading [
  | None ↦ None
  | Some t ↦ option_map (λ rs. t.gives ∷ rs) (blocks_within most t.after next)
]

front_same : (m n : ℕ) (next : List ℕ) (reading : Option Reading) → ((t : Reading) → reading ≡ Some t → blocks_within m t.after next ≡ blocks_within n t.after next) → from_front_within m next reading ≡ from_front_within n next reading
front_same m n next None same = refl
front_same m n next (Some t) same = ap (option_map (λ rs. t.gives ∷ rs)) (same t refl)

-- the bound makes no difference
within_bound : (m n : ℕ) (s : Section) (xs : List ℕ) → length xs ≤ m → length xs ≤ n → blocks_within m s xs ≡ blocks_within n s xs
within_bound m n s [] l k = refl
within_bound zero n s (x ∷ xs) l k = absurd (omega (arith, l))
within_bound (suc m) zero s (x ∷ xs) l k = absurd (omega (arith, k))
within_bound (suc m) (suc n) s (x ∷ xs) l k =
    let file : List ℕ = x ∷ xs in
    let size : ℕ = front_size s file in
    let shorter : length (drop size file) ≡ length file - size = length-drop size file in
    front_same m n (drop size file) (front_read s file) (λ t is.
    let least = (front_whole s file t is).0 in
    within_bound m n t.after (drop size file) (omega (arith, shorter, least, l)) (omega (arith, shorter, least, k)))

first_of_file : (s : Section) (file : List ℕ) → 0 < length file → block_records s file ≡ from_front (drop (front_size s file) file) (front_read s file)
first_of_file s [] some = absurd (omega (arith, some))
first_of_file s (x ∷ xs) some =
    let file : List ℕ = x ∷ xs in
    let size : ℕ = front_size s file in
    let shorter : length (drop size file) ≡ length file - size = length-drop size file in
    front_same (length xs) (length (drop size file)) (drop size file) (front_read s file) (λ t is.
    let least = (front_whole s file t is).0 in
    within_bound (length xs) (length (drop size file)) t.after (drop size file) (omega (arith, shorter, least)) (omega arith))

-- the block at the front, and the records of the others
pub record IsFirst (s : Section) (file : List ℕ) (records : List Record) : Type 0 where
  pub reading : Reading
  pub read : front_read s file ≡ Some reading
  pub others : List Record
  pub rest : block_records reading.after (drop (front_size s file) file) ≡ Some others
  pub all : records ≡ reading.gives ∷ others

of_rest : (s : Section) (file : List ℕ) (records : List Record) (t : Reading) (o : Option (List Record)) → front_read s file ≡ Some t → block_records t.after (drop (front_size s file) file) ≡ o → option_map (λ rs. t.gives ∷ rs) o ≡ Some records → IsFirst s file records
of_rest s file records t None read rest is = cc is
of_rest s file records t (Some rs) read rest is = record { reading = t; read = read; others = rs; rest = rest; all = cc is }

-- a file that is not damaged begins with one
pub first_block : (s : Section) (file : List ℕ) (records : List Record) → 0 < length file → block_records s file ≡ Some records → IsFirst s file records
first_block s file records some is = by_front (front_read s file) refl
  where
    by_front : (o : Option Reading) → front_read s file ≡ o → IsFirst s file records
    by_front None none = cc (sym is ∙ first_of_file s file some ∙ ap (from_front (drop (front_size s file) file)) none)
    by_front (Some t) read =
        of_rest s file records t (block_records t.after (drop (front_size s file) file)) read refl
        (sym (ap (from_front (drop (front_size s file) file)) read) ∙ sym (first_of_file s file some) ∙ is)

-- a block at the front is the first one
pub blocks_more : (s : Section) (one rest : List ℕ) (t : Reading) → IsWholeBlock (order_at s.is_big one) one → whole_read (ordered s one) one ≡ Some t → block_records s (one ++ rest) ≡ option_map (λ rs. t.gives ∷ rs) (block_records t.after rest)
blocks_more s one rest t whole read =
    let file : List ℕ = one ++ rest in
    let there : 12 ≤ length one = whole.one.begins.head in
    let size : front_size s file ≡ length one = size_more s one rest there ∙ sym whole.one.whole in
    let block : take (front_size s file) file ≡ one = ap (λ k. take k file) size ∙ take-append_seam one rest in
    let next : drop (front_size s file) file ≡ rest = ap (λ k. drop k file) size ∙ drop-append_seam one rest in
    let front : front_read s file ≡ Some t = ap (block_read s) block ∙ block_is s one whole ∙ read in
    first_of_file s file (omega (arith, there, length-append one rest))
    ∙ ap (from_front (drop (front_size s file) file)) front
    ∙ ap (λ xs. option_map (λ rs. t.gives ∷ rs) (block_records t.after xs)) next

-- what can be read at the front begins a block
front_begins : (s : Section) (file : List ℕ) (t : Reading) → front_read s file ≡ Some t → BeginsBlock (order_at s.is_big file) file
front_begins s file t is =
    let size : ℕ = front_size s file in
    let block : List ℕ = take size file in
    let begins = ((block_whole s block t is).0).one.begins in
    let parts : block ++ drop size file ≡ file = take-append-drop size file in
    let same : size ≡ block_length (order_at s.is_big block) block = ap (front_size s) (sym parts) ∙ size_more s block (drop size file) begins.head in
    let front = front_whole s file t is in
    record {
      head = omega (arith, front.0, front.1);
      least = front.0;
      words = ap (λ n. n % 4) same ∙ begins.words;
      most = omega (arith, same, begins.most);
    }

-- ---- what a block gives

-- the frame of a block
pub frame_done : (p q : Pcapng) (kind : ℕ) (body : List ℕ) (placed : Placed) (i : Interface) (e : Entry) (h : FrameHead) → placed_in p.is_big kind (first_snap p.interfaces.items) body ≡ Some placed → slice_get p.interfaces.items placed.which ≡ Some i
    → e.frame ≡ Some h → frame_at h body ≡ frame_here (section_of p) placed i body
    → (placed.kept ≤ length body - placed.from → p.is_damaged ≡ false → e.dropped ≡ dropped_before (placed_drops p.is_big kind body (drop_count p.is_big (options_behind p.is_big placed body))) (frame_at h body))
    → section_of q ≡ record (section_of p) { last = next_number p.number } → q.is_damaged ≡ false → q.search ≡ p.search → Reads (frame_read (section_of p) kind body) p q body e
frame_done p q kind body placed i e h place described has same drops section mended search_same = λ sound free t is. by_octets sound free t is (nat_le placed.kept (length body - placed.from)) refl
  where
    s : Section
    s = section_of p

    count : ℕ
    count = placed_drops p.is_big kind body (drop_count p.is_big (options_behind p.is_big placed body))

    if_there : Bool → Option Reading
    if_there b = if b then Some (frame_given s kind body placed i) else None

    reading_is : frame_read s kind body ≡ if_there (nat_le placed.kept (length body - placed.from))
    reading_is = ap (frame_in s kind body) place ∙ ap (frame_of s kind body placed) described

    by_octets : p.is_damaged ≡ false → p.search ≡ None → (t : Reading) → frame_read s kind body ≡ Some t → (b : Bool) → nat_le placed.kept (length body - placed.from) ≡ b → IsRead t q body e
    by_octets sound free t is true there =
        let read : frame_given s kind body placed i ≡ t = cc (sym (reading_is ∙ ap if_there there) ∙ is) in
        let dropped : e.dropped ≡ dropped_before count (frame_here s placed i body) = drops (leb-true placed.kept (length body - placed.from) there) sound ∙ ap (dropped_before count) same in
        let frame : option_map (λ h. frame_at h body) e.frame ≡ Some (frame_here s placed i body) = ap (option_map (λ h. frame_at h body)) has ∙ ap Some same in
        subst (λ t. IsRead t q body e) read (record {
          gives = ap (λ d. record { dropped = d; frame = option_map (λ h. frame_at h body) e.frame }) dropped ∙ ap (λ f. record { dropped = dropped_before count (frame_here s placed i body); frame = f }) frame;
          after = section;
          sound = mended;
          free = search_same ∙ free;
        })
    by_octets sound free t is false short = cc (sym (reading_is ∙ ap if_there short) ∙ is)

-- the frame of a block's body is that of the block
frames_more : (octets : List ℕ) (n : ℕ) (o : Option FrameHead) (P : FrameHead → Type 0) → IfSome o (λ h. (h.from + h.kept ≤ length (take n octets)) × P h) → option_map (λ h. frame_at h octets) o ≡ option_map (λ h. frame_at h (take n octets)) o
frames_more octets n None P within = refl
frames_more octets n (Some h) P within = ap Some (sym (frame_more h octets n within.0))

-- what a block gives is what its body gives
pub body_done : (t : Reading) (q r : Pcapng) (octets : List ℕ) (n : ℕ) (e whole : Entry) (P : FrameHead → Type 0) → IfSome e.frame (λ h. (h.from + h.kept ≤ length (take n octets)) × P h) → IsRead t q (take n octets) e
    → whole.frame ≡ e.frame → whole.dropped ≡ e.dropped → section_of r ≡ section_of q → r.is_damaged ≡ q.is_damaged → r.search ≡ q.search → IsRead t r octets whole
body_done t q r octets n e whole P within read frame dropped section damaged search_same = record {
  gives =
      ap (λ f. record { dropped = whole.dropped; frame = option_map (λ h. frame_at h octets) f }) frame
      ∙ ap (λ d. record { dropped = d; frame = option_map (λ h. frame_at h octets) e.frame }) dropped
      ∙ ap (λ f. record { dropped = e.dropped; frame = f }) (frames_more octets n e.frame P within)
      ∙ read.gives;
  after = section ∙ read.after;
  sound = damaged ∙ read.sound;
  free = search_same ∙ read.free;
}

-- ---- what comes next

-- what a reader has left, where it found no damage
pub left_is : (p : Pcapng) (file : List ℕ) → p.search ≡ None → p.is_damaged ≡ false → pcapng_left p (Some file) ≡ block_records (section_of p) file
left_is p file free sound = ap (λ o. pcapng_ahead o p.is_damaged (section_of p) file) free ∙ ap (λ b. pcapng_ahead None b (section_of p) file) sound

-- after a damage nothing is shown
unshown_damaged : (p : Pcapng) (before : Option (List ℕ)) (after : Option (List Record)) (r : Option Record) → p.search ≡ None → p.is_damaged ≡ true → Follows (pcapng_left p before) after r
unshown_damaged p None after r free bad = follows_unshown _ _ _ (λ records shown. cc shown)
unshown_damaged p (Some file) after r free bad = follows_unshown _ _ _ (λ records shown. cc (sym (ap (λ o. pcapng_ahead o p.is_damaged (section_of p) file) free ∙ ap (λ b. pcapng_ahead None b (section_of p) file) bad) ∙ shown))

-- the file does not begin with a whole block
follows_damage : (p : Pcapng) (before : Option (List ℕ)) (after : Option (List Record)) (r : Option Record) → p.search ≡ None
    → ((file : List ℕ) → before ≡ Some file → (0 < length file) × (BeginsBlock (order_at p.is_big file) file → ⊥)) → Follows (pcapng_left p before) after r
follows_damage p before after r free bad = by_damage p.is_damaged refl before refl
  where
    by_damage : (b : Bool) → p.is_damaged ≡ b → (o : Option (List ℕ)) → before ≡ o → Follows (pcapng_left p before) after r
    by_damage true is o shown = unshown_damaged p before after r free is
    by_damage false is None shown = rw shown (follows_unshown _ _ _ (λ records is. cc is))
    by_damage false is (Some file) shown =
        let damaged = bad file shown in
        rw shown (follows_unshown _ _ _ (λ records shown_here.
        let first = first_block (section_of p) file records damaged.0 (sym (left_is p file free is) ∙ shown_here) in
        damaged.1 (front_begins (section_of p) file first.reading first.read)))

-- no block can have the length at the front
pub follows_unusable : (p : Pcapng) (before left : Option (List ℕ)) (ahead : List ℕ) (big : Bool) (after : Option (List Record)) (r : Option Record) → p.search ≡ None → Passes before (still ahead left) []
    → big ≡ order_at p.is_big ahead → 12 ≤ length ahead → (BeginsBlock big ahead → ⊥) → Follows (pcapng_left p before) after r
follows_unusable p before left ahead big after r free passes order there none = follows_damage p before after r free (λ file shown.
    let front = front_shown before left ahead file passes shown in
    let all : length file ≡ length ahead + length front.0 = ap length front.2 ∙ length-append ahead front.0 in
    (omega (arith, all, there), no_block p.is_big big ahead front.0 file front.2 order there none))

-- the file ends inside of the head of a block
pub follows_head : (p : Pcapng) (before left : Option (List ℕ)) (ahead : List ℕ) (after : Option (List Record)) (r : Option Record) → p.search ≡ None → Passes before (still ahead left) []
    → IsAtEnd before left → 0 < length ahead → length ahead < 12 → Follows (pcapng_left p before) after r
follows_head p before left ahead after r free passes end some less = follows_damage p before after r free (λ file shown.
    let front = front_shown before left ahead file passes shown in
    let none : front.0 ≡ [] = cc (sym front.1 ∙ end file shown) in
    let whole : file ≡ ahead = front.2 ∙ ap (λ xs. ahead ++ xs) none ∙ append-nil ahead in
    (omega (arith, ap length whole, some), λ begins. omega (arith, ap length whole, less, begins.head)))

-- the entry of a block, whole or cut by the end of the file
follows_block : (p q : Pcapng) (before left : Option (List ℕ)) (last ahead : List ℕ) (e : Entry) → p.search ≡ None → IsBlock (order_at p.is_big last) last ⊎ (IsCutBlock (order_at p.is_big last) last × (ahead ≡ []))
    → Passes before (still ahead left) last → (length last < block_length (order_at p.is_big last) last → IsAtEnd before left) → (IsWholeBlock (order_at p.is_big last) last → Reads (whole_read (ordered (section_of p) last) last) p q last e)
    → Follows (pcapng_left p before) (pcapng_left q (still ahead left)) (Some (record_of last e))
follows_block p q before left last ahead e free block passes ends reads = by_damage p.is_damaged refl before refl
  where
    s : Section
    s = section_of p

    there : 12 ≤ length last
    there = elim block [ inl b ↦ b.begins.head | inr b ↦ b.0.begins.head ]

    -- all of it is there
    whole_here : (rest : List ℕ) (t : Reading) → before ≡ Some (last ++ rest) → front_read s (last ++ rest) ≡ Some t → block_length (order_at p.is_big last) last ≡ length last
    whole_here rest t shown is = elim block [
      | inl b ↦ sym b.whole
      | inr b ↦
          let read = passes (last ++ rest) shown in
          let at_end : still ahead left ≡ Some [] = ap (λ xs. still xs left) b.1 ∙ ap (still []) (ends b.0.cut (last ++ rest) shown) in
          let none : read.0 ≡ [] = cc (sym read.1 ∙ at_end) in
          let only : length (last ++ rest) ≡ length last = ap length (read.2 ∙ ap (λ xs. last ++ xs) none ∙ append-nil last) in
          let front = front_whole s (last ++ rest) t is in
          absurd (omega (arith, only, size_more s last rest there, front.1, b.0.cut))
    ]

    by_damage : (b : Bool) → p.is_damaged ≡ b → (o : Option (List ℕ)) → before ≡ o → Follows (pcapng_left p before) (pcapng_left q (still ahead left)) (Some (record_of last e))
    by_damage true is o shown = unshown_damaged p before _ _ free is
    by_damage false is None shown = rw shown (follows_unshown _ _ _ (λ records is. cc is))
    by_damage false is (Some file) shown =
        let read = passes file shown in
        let file_is : before ≡ Some (last ++ read.0) = shown ∙ ap Some read.2 in
        record {
          shown = λ records is_shown.
              let has : block_records s (last ++ read.0) ≡ Some records = sym (ap (pcapng_left p) file_is ∙ left_is p (last ++ read.0) free is) ∙ is_shown in
              let first = first_block s (last ++ read.0) records (omega (arith, there, length-append last read.0)) has in
              let size : front_size s (last ++ read.0) ≡ length last = size_more s last read.0 there ∙ whole_here read.0 first.reading file_is first.read in
              let one : take (front_size s (last ++ read.0)) (last ++ read.0) ≡ last = ap (λ k. take k (last ++ read.0)) size ∙ take-append_seam last read.0 in
              let next : drop (front_size s (last ++ read.0)) (last ++ read.0) ≡ read.0 = ap (λ k. drop k (last ++ read.0)) size ∙ drop-append_seam last read.0 in
              let whole = block_whole s last first.reading (ap (block_read s) (sym one) ∙ first.read) in
              let done = reads whole.0 is free first.reading whole.1 in (
                first.others,
                ap (pcapng_left q) read.1 ∙ left_is q read.0 done.free done.sound ∙ ap (λ s. block_records s read.0) done.after ∙ ap (block_records first.reading.after) (sym next) ∙ first.rest,
                first.all ∙ ap (λ r. r ∷ first.others) (sym done.gives),
              );
          end = λ records is_shown none. cc none;
        }

-- the same, where the byte order was read before
pub follows_taken : (p q : Pcapng) (before left : Option (List ℕ)) (last ahead : List ℕ) (e : Entry) (big : Bool) → order_at p.is_big last ≡ big → p.search ≡ None → IsBlock big last ⊎ (IsCutBlock big last × (ahead ≡ []))
    → Passes before (still ahead left) last → (length last < block_length big last → IsAtEnd before left) → (IsWholeBlock big last → Reads (whole_read (record (section_of p) { is_big = big }) last) p q last e)
    → Follows (pcapng_left p before) (pcapng_left q (still ahead left)) (Some (record_of last e))
follows_taken p q before left last ahead e big order free block passes ends reads =
    follows_block p q before left last ahead e free
    (subst (λ b. IsBlock b last ⊎ (IsCutBlock b last × (ahead ≡ []))) (sym order) block)
    passes
    (subst (λ b. length last < block_length b last → IsAtEnd before left) (sym order) ends)
    (subst (λ b. IsWholeBlock b last → Reads (whole_read (record (section_of p) { is_big = b }) last) p q last e) (sym order) reads)

-- what comes next is the same after octets were read
pub follows_after_fill : (p : Pcapng) (before filled : Option (List ℕ)) (after : Option (List Record)) (r : Option Record) → Passes before filled [] → Follows (pcapng_left p filled) after r → Follows (pcapng_left p before) after r
follows_after_fill p None filled after r passes next = follows_unshown _ _ _ (λ records shown. cc shown)
follows_after_fill p (Some file) filled after r passes next =
    let read = passes file refl in
    subst (λ o. Follows (pcapng_left p o) after r) (read.1 ∙ ap Some (sym read.2)) next
