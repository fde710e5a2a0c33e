-- The records of a file are those that its blocks give.
use Rattle.std.proofs.Common.{◌≡◌, ◌∙◌, sym, ap, ℕ, zero, suc, ◌-◌, ◌≤◌, List, [], ◌∷◌, ◌++◌, Some, arith, drop, length, length-drop, refl, subst, take}
use Rattle.std.specs.Option.{option_map}
use Rattle.std.proofs.lemmas.List.{take-append-drop}
use Rattle.capture_files.specs.PcapngFiles.{AreBlocks, BlocksLaw, block_records, front_size}
use Rattle.capture_files.specs.PcapngRecords.{Reading, Section}
use Rattle.capture_files.specs.Records.{Record}
use Rattle.capture_files.proofs.PcapngLemmas.{block_whole, blocks_more, first_block, front_whole}

written_are_read : (s : Section) (octets : List ℕ) (records : List Record) → AreBlocks s octets records → block_records s octets ≡ Some records
written_are_read s octets [] none = ap (block_records s) none
written_are_read s octets (r ∷ rs) are =
    ap (block_records s) are.3
    ∙ blocks_more s are.0 are.1 are.2 are.4 are.5
    ∙ ap (option_map (λ xs. are.2.gives ∷ xs)) (written_are_read are.2.after are.1 rs are.7)
    ∙ ap (λ x. Some (x ∷ rs)) (sym are.6)

read_are_written : (most : ℕ) (s : Section) (octets : List ℕ) (records : List Record) → length octets ≤ most → block_records s octets ≡ Some records → AreBlocks s octets records
read_are_written most s [] records le is =
    let none : [] ≡ records = cc is in
    subst (AreBlocks s []) none refl
read_are_written zero s (x ∷ xs) records le is = absurd (omega (arith, le))
read_are_written (suc most) s (x ∷ xs) records le is =
    let file : List ℕ = x ∷ xs in
    let size : ℕ = front_size s file in
    let first = first_block s file records (omega arith) is in
    let t : Reading = first.reading in
    let front = front_whole s file t first.read in
    let shorter : length (drop size file) ≡ length file - size = length-drop size file in
    let whole = block_whole s (take size file) t first.read in
    let parts : file ≡ take size file ++ drop size file = sym (take-append-drop size file) in
    let back : t.gives ∷ first.others ≡ records = sym first.all in
    subst (AreBlocks s file) back (take size file, drop size file, t, parts, whole.0, whole.1, refl, read_are_written most t.after (drop size file) first.others (omega (arith, shorter, front.0, le)) first.rest)

pub blocks_law : BlocksLaw
blocks_law s octets records = (read_are_written (length octets) s octets records (omega arith), written_are_read s octets records)
