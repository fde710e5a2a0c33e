-- Blocks at the front of more or fewer of a file's octets, and octets that are cut.
use Rattle.std.proofs.Common.{◌≡◌, ◌∙◌, sym, ap, Bool, true, ℕ, ◌+◌, ◌-◌, ◌%◌, ◌<◌, ◌≤◌, List, ◌++◌, arith, drop, length, length-append, length-take, length-take-le, min, refl, take, take_all, take-take, inl, inr, ◌⊎◌, IfSome, None, Option, Some, subst}
use Rattle.std.proofs.lemmas.Bool.{cases_lt, le-ltb}
use Rattle.std.proofs.lemmas.List.{drop-take, take_min}
use Rattle.capture_files.specs.Blocks.{BeginsBlock, IsBlock, IsCutBlock, block_length, order_at, order_of}
use Rattle.capture_files.specs.BlockFrames.{body_of}
use Rattle.capture_files.specs.Entries.{frame_at, frame_with}
use Rattle.capture_files.specs.Numbers.{number}
use Rattle.capture_files.specs.BlockSteps.{IsFrameOf}
use Rattle.capture_files.specs.declared.entry.FrameHead.{FrameHead}
use Rattle.capture_files.specs.declared.interface.Interface.{Interface}
use Rattle.capture_files.proofs.RecordLemmas.{number_cut, number_more}

-- at most k octets of those that are there, and of these at most n
pub taken_twice : (xs : List ℕ) (k n : ℕ) → take (min (min (length xs) k) n) xs ≡ take n (take k xs)
taken_twice xs k n = by_size (cases_lt (min k (length xs)) n)
  where
    few : length (take (min k (length xs)) xs) ≤ min k (length xs)
    few = omega (arith, length-take (min k (length xs)) xs)

    by_size : (min k (length xs) < n) ⊎ (n ≤ min k (length xs)) → take (min (min (length xs) k) n) xs ≡ take n (take k xs)
    by_size (inl less) =
        let all : min (min (length xs) k) n ≡ min k (length xs) = omega (arith, less) in
        ap (λ j. take j xs) all ∙ sym (take_all n (take (min k (length xs)) xs) (omega (arith, few, less))) ∙ ap (take n) (take_min k xs)
    by_size (inr le) =
        let cut : min (min (length xs) k) n ≡ n = omega (arith, le) in
        ap (λ j. take j xs) cut ∙ sym (take-take n (min k (length xs)) xs le) ∙ ap (take n) (take_min k xs)

-- octets that are read of a block are those that are read of more of it
pub frame_more : (h : FrameHead) (xs : List ℕ) (n : ℕ) → h.from + h.kept ≤ length (take n xs) → frame_at h (take n xs) ≡ frame_at h xs
frame_more h xs n within =
    let size : length (take n xs) ≡ min n (length xs) = length-take n xs in
    let all : n ≡ h.from + (n - h.from) = omega (arith, within, size) in
    let few : h.kept ≤ n - h.from = omega (arith, within, size) in
    ap (frame_with h) (ap (λ k. take h.kept (drop h.from (take k xs))) all ∙ ap (take h.kept) (drop-take h.from (n - h.from) xs) ∙ take-take h.kept (n - h.from) (drop h.from xs) few)

-- the body of a block, as far as it is there
pub body_is : (big : Bool) (xs : List ℕ) (said : ℕ) → said ≡ block_length big xs → take (min (length xs) (said - 4)) xs ≡ body_of big xs
body_is big xs said is =
    let same : min (length xs) (said - 4) ≡ min (said - 4) (length xs) = omega arith in
    ap (λ k. take k xs) same ∙ take_min (said - 4) xs ∙ ap (λ k. take (k - 4) xs) is

-- the byte order of a block with its head
order_there : (before : Bool) (xs : List ℕ) → 12 ≤ length xs → order_at before xs ≡ order_of before (number true xs) (number true (drop 8 xs))
order_there before xs there = rw (le-ltb (length xs) 12 there) refl

-- it is the same where more octets follow
pub order_more : (before : Bool) (xs ys : List ℕ) → 12 ≤ length xs → order_at before (xs ++ ys) ≡ order_at before xs
order_more before xs ys there =
    let first : number true (xs ++ ys) ≡ number true xs = number_more true xs ys 0 (omega (arith, there)) in
    let third : number true (drop 8 (xs ++ ys)) ≡ number true (drop 8 xs) = number_more true xs ys 8 (omega (arith, there)) in
    order_there before (xs ++ ys) (omega (arith, there, length-append xs ys))
    ∙ ap (λ k. order_of before k (number true (drop 8 (xs ++ ys)))) first
    ∙ ap (order_of before (number true xs)) third
    ∙ sym (order_there before xs there)

-- a block begins with its head, however the file goes on
pub begins_fewer : (big : Bool) (xs ys : List ℕ) → 12 ≤ length xs → BeginsBlock big (xs ++ ys) → BeginsBlock big xs
begins_fewer big xs ys there begins =
    let same : block_length big (xs ++ ys) ≡ block_length big xs = number_more big xs ys 4 (omega (arith, there)) in
    record {
      head = there;
      least = omega (arith, same, begins.least);
      words = ap (λ n. n % 4) (sym same) ∙ begins.words;
      most = omega (arith, same, begins.most);
    }

-- the length that a block says is the same in the first n octets of more of the file
pub same_length : (big : Bool) (old more : List ℕ) (n : ℕ) → 12 ≤ length old → 12 ≤ n → block_length big (take n (old ++ more)) ≡ block_length big old
same_length big old more n there le = number_cut big (old ++ more) 4 n (omega (arith, le)) ∙ number_more big old more 4 (omega (arith, there))

-- what is consumed of a block begins as it does
pub block_begun : (big : Bool) (old more : List ℕ) (n : ℕ) → BeginsBlock big old → 12 ≤ n → n ≤ length (old ++ more) → BeginsBlock big (take n (old ++ more))
block_begun big old more n begins le there =
    let same = same_length big old more n begins.head le in
    record {
      head = omega (arith, le, length-take-le n (old ++ more) there);
      least = omega (arith, same, begins.least);
      words = ap (λ k. k % 4) same ∙ begins.words;
      most = omega (arith, same, begins.most);
    }

-- all octets of a block
pub whole_block : (big : Bool) (old more last : List ℕ) (said : ℕ) → BeginsBlock big old → said ≡ block_length big old → last ≡ take (min (length (old ++ more)) said) (old ++ more) → said ≤ length (old ++ more) → IsBlock big last
whole_block big old more last said begins is taken le =
    let n : ℕ = min (length (old ++ more)) said in
    let there : n ≤ length (old ++ more) = omega arith in
    let least : 12 ≤ n = omega (arith, is, begins.least, le) in
    let size : length (take n (old ++ more)) ≡ n = length-take-le n (old ++ more) there in
    let same = same_length big old more n begins.head least in
    rw taken (record { begins = block_begun big old more n begins least there; whole = omega (arith, size, same, is, le) })

-- those up to the end of the file
pub cut_block : (big : Bool) (old more last : List ℕ) (said : ℕ) → BeginsBlock big old → said ≡ block_length big old → last ≡ take (min (length (old ++ more)) said) (old ++ more) → length (old ++ more) < said → IsCutBlock big last
cut_block big old more last said begins is taken less =
    let n : ℕ = min (length (old ++ more)) said in
    let there : n ≤ length (old ++ more) = omega arith in
    let least : 12 ≤ n = omega (arith, begins.head, length-append old more, less) in
    let size : length (take n (old ++ more)) ≡ n = length-take-le n (old ++ more) there in
    let same = same_length big old more n begins.head least in
    rw taken (record { begins = block_begun big old more n begins least there; cut = omega (arith, size, same, is, less) })

-- where no block begins, none does, however the file goes on
pub no_block : (before big : Bool) (old more file : List ℕ) → file ≡ old ++ more → big ≡ order_at before old → 12 ≤ length old → (BeginsBlock big old → ⊥) → BeginsBlock (order_at before file) file → ⊥
no_block before big old more file is order there none begins =
    let begun : BeginsBlock big (old ++ more) = rw (order ∙ sym (order_more before old more there)) (rw (sym is) begins) in
    none (begins_fewer big old more there begun)

-- the byte order of a block is the one that was read of the octets before more of the file was there
pub order_taken : (before big : Bool) (old more last ahead : List ℕ) → last ++ ahead ≡ old ++ more → big ≡ order_at before old → 12 ≤ length old → 12 ≤ length last → order_at before last ≡ big
order_taken before big old more last ahead is order there whole =
    sym (order_more before last ahead whole) ∙ ap (order_at before) is ∙ order_more before old more there ∙ sym order

-- the frame of a block's body is that of the block
pub body_frame : (big : Bool) (kind : ℕ) (interfaces : List Interface) (first n k : ℕ) (octets body : List ℕ) (o : Option FrameHead) → kind ≡ number big octets → body ≡ take k octets → body ≡ body_of big octets → IfSome o (λ h. (h.from + h.kept ≤ length body) × IsFrameOf big kind interfaces first n body (frame_at h body)) → IfSome o (λ h. (h.from + h.kept ≤ length octets) × IsFrameOf big (number big octets) interfaces first n (body_of big octets) (frame_at h octets))
body_frame big kind interfaces first n k octets body None is_kind cut is found = tt
body_frame big kind interfaces first n k octets body (Some h) is_kind cut is found =
    let size : length body ≡ length (take k octets) = ap length cut in
    let few : length (take k octets) ≡ min k (length octets) = length-take k octets in
    let same : frame_at h body ≡ frame_at h octets = ap (frame_at h) cut ∙ frame_more h octets k (omega (arith, size, found.0)) in
    let of_kind : IsFrameOf big (number big octets) interfaces first n body (frame_at h body) = subst (λ j. IsFrameOf big j interfaces first n body (frame_at h body)) is_kind found.1 in
    let of_body : IsFrameOf big (number big octets) interfaces first n (body_of big octets) (frame_at h body) = subst (λ b. IsFrameOf big (number big octets) interfaces first n b (frame_at h body)) is of_kind in
    (omega (arith, size, few, found.0), subst (λ f. IsFrameOf big (number big octets) interfaces first n (body_of big octets) f) same of_body)
