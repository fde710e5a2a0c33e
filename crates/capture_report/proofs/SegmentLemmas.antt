-- Addresses, and datagrams in each other.
use Rattle.std.proofs.Common.{◌≡◌, ◌∙◌, ap, sym, refl, subst, ℕ, zero, suc, ◌+◌, ◌*◌, ◌==◌, ◌<◌, ◌≤◌, ◌^◌, ◌%◌, Bool, true, false, List, length, take, get_or, Result, Ok, Err, IfOk, if◌then◌else◌, arith}
use Rattle.std.specs.Int.Digits.{number_from_digits}
use Rattle.std.proofs.lemmas.Int.Digits.{number_more}
use Rattle.ip_segments.specs.Carriers.{Ethernet, Inner, Internet, Layer, Neither, entered, in_datagram, opened, tunnel, types}
use Rattle.ip_segments.specs.Datagrams.{Datagram}
use Rattle.ip_segments.specs.Segments.{Segment, segment_of}
use Rattle.ip_segments.specs.declared.carriers.CarrierFault.{CarrierFault}
use Rattle.ip_segments.specs.declared.fault.HeaderFault.{HeaderFault}
use Rattle.ip_segments.specs.declared.gathered.Gathered.{Gathered}
use Rattle.tcp_streams.specs.declared.piece.Recorded.{Recorded}
use Rattle.capture_report.specs.PortSights.{port_sight}
use Rattle.capture_report.specs.Segments.{Found, Further, Nothing, Reached, Xot, completed, completed_reached, found, found_in, ends_of, found_reached, further, has_host, inner_reached, is_xot, nothing_in, reached, seen_found, seen_in, segment_found}
use Rattle.capture_report.specs.declared.reasons.FrameUse.{FrameUse}
use Rattle.capture_report.specs.declared.reasons.FrameUse.TheVariants as becomes
use Rattle.capture_report.specs.declared.xot_frames.XotChoices.{XotChoices}

-- an address with one more octet
shifted : (n x : ℕ) → x < 256 → n % 2 ^ 128 * 256 % 2 ^ 128 + x ≡ (n * 256 + x) % 2 ^ 128
shifted n x h = omega (arith, h)

pub address_more : (xs : List ℕ) (i a x : ℕ) → i < length xs → a ≡ number_from_digits 256 (take i xs) % 2 ^ 128 → x ≡ get_or xs i 0 → x < 256
    → a * 256 % 2 ^ 128 + x ≡ number_from_digits 256 (take (i + 1) xs) % 2 ^ 128
address_more xs i a x h e f small =
    let n = number_from_digits 256 (take i xs) in
    ap (λ m. m * 256 % 2 ^ 128 + x) e ∙ shifted n x small ∙ ap (λ y. (n * 256 + y) % 2 ^ 128) f ∙ ap (λ m. m % 2 ^ 128) (sym (number_more 256 xs i h))

-- a datagram in another leaves room for fewer carriers
one_more : (n : ℕ) (r : Result Inner CarrierFault) → IfOk r (λ i. i.left ≤ n) → IfOk r (λ i. i.left ≤ suc n)
one_more n (Ok i) h = omega (arith, h)
one_more n (Err x) h = tt

opened_left : (n : ℕ) (l : Layer) → IfOk (opened n l) (λ i. i.left ≤ n)
unfolding opened
opened_left zero (Internet p) = omega arith
opened_left (suc n) (Internet p) = omega arith
opened_left zero (Neither x) = tt
opened_left (suc n) (Neither x) = tt
opened_left zero (Ethernet p) = tt
opened_left (suc n) (Ethernet p) = one_more n (opened n (types p)) (opened_left n (types p))

below : (n : ℕ) (r : Result Inner CarrierFault) → IfOk r (λ i. i.left ≤ n) → IfOk r (λ i. i.left < suc n)
below n (Ok i) h = omega (arith, h)
below n (Err x) h = tt

entered_left : (n : ℕ) (l : Layer) → IfOk (entered n l) (λ i. i.left < n)
entered_left zero (Internet p) = tt
entered_left zero (Ethernet p) = tt
entered_left zero (Neither x) = tt
entered_left (suc n) (Internet p) = below n (opened n (Internet p)) (opened_left n (Internet p))
entered_left (suc n) (Ethernet p) = below n (opened n (Ethernet p)) (opened_left n (Ethernet p))
entered_left (suc n) (Neither x) = tt

abbrev IsBelow : ℕ → Found → Type 0
IsBelow n (Nothing u) = Unit {0}
IsBelow n (Further i) = i.left < n
IsBelow n (Xot s) = Unit {0}

further_below : (n : ℕ) (r : Result Inner CarrierFault) → IfOk r (λ i. i.left < n) → IsBelow n (further r)
further_below n (Ok i) h = h
further_below n (Err x) h = tt

either_below : (n : ℕ) (b : Bool) (x y : Found) → IsBelow n x → IsBelow n y → IsBelow n (if b then x else y)
either_below n true x y h k = h
either_below n false x y h k = k

segment_below : (n : ℕ) (c : XotChoices) (at : Recorded) (d : Datagram) (r : Result Segment HeaderFault) → IsBelow n (segment_found c at d r)
segment_below n c at d (Err x) = tt
segment_below n c at d (Ok s) = either_below n (is_xot c s) (seen_found c at d s) (Nothing (becomes.OtherPort (port_sight s)))
    (either_below n (has_host c (ends_of d s)) (Xot (seen_in c at d s)) (Nothing becomes.OtherHost) tt tt) tt

found_below : (c : XotChoices) (at : Recorded) (n : ℕ) (d : Datagram) → IsBelow n (found c at n d)
found_below c at n d = let r = in_datagram n d.protocol d.payload in
    either_below n (d.protocol == 6) (segment_found c at d (segment_of d.payload)) (further r) (segment_below n c at d (segment_of d.payload))
    (further_below n r (entered_left n (tunnel d.protocol d.payload)))

found_in_below : (c : XotChoices) (at : Recorded) (n : ℕ) (o : Result Datagram FrameUse) → IsBelow n (found_in c at n o)
found_in_below c at n (Err u) = tt
found_in_below c at n (Ok d) = found_below c at n d

-- so any bound above it serves
found_alike : (f g : Inner → List Gathered → Reached) (n : ℕ) (x : Found) (gs : List Gathered) → ((i : Inner) (hs : List Gathered) → i.left < n → f i hs ≡ g i hs)
    → IsBelow n x → found_reached f x gs ≡ found_reached g x gs
found_alike f g n (Nothing u) gs h less = refl
found_alike f g n (Further i) gs h less = h i gs less
found_alike f g n (Xot s) gs h less = refl

enough : (n m : ℕ) (c : XotChoices) (at : Recorded) (i : Inner) (gs : List Gathered) → i.left < n → i.left < m → reached n c at i gs ≡ reached m c at i gs
unfolding reached
enough zero m c at i gs h k = absurd (omega (arith, h))
enough (suc n) zero c at i gs h k = absurd (omega (arith, k))
enough (suc n) (suc m) c at i gs h k = let o = completed at.frame i.payload gs in
    found_alike (reached n c at) (reached m c at) i.left (found_in c at i.left o.whole) o.waiting (λ j hs less. enough n m c at j hs (omega (arith, h, less)) (omega (arith, k, less)))
    (found_in_below c at i.left o.whole)

-- what is reached is what the whole datagram has, or what the further one reaches
pub inner_steps : (c : XotChoices) (at : Recorded) (i : Inner) (gs : List Gathered)
    → inner_reached c at i gs ≡ completed_reached (inner_reached c at) c at i.left (completed at.frame i.payload gs)
unfolding reached
inner_steps c at i gs = let o = completed at.frame i.payload gs in
    found_alike (reached i.left c at) (inner_reached c at) i.left (found_in c at i.left o.whole) o.waiting (λ j hs less. enough i.left (suc j.left) c at j hs less (omega arith))
    (found_in_below c at i.left o.whole)

pub reached_none : (c : XotChoices) (at : Recorded) (i : Inner) (gs : List Gathered) (u : FrameUse) {hs : List Gathered} {o : Result Datagram FrameUse}
    → record { whole = o; waiting = hs } ≡ completed at.frame i.payload gs → o ≡ Err u → inner_reached c at i gs ≡ nothing_in u hs
reached_none c at i gs u {hs} {o} e none = inner_steps c at i gs ∙ sym (ap (completed_reached (inner_reached c at) c at i.left) e) ∙ ap (λ o. found_reached (inner_reached c at) (found_in c at i.left o) hs) none

-- of a whole datagram d, which is lent as l
pub reached_some : (c : XotChoices) (at : Recorded) (i : Inner) (gs : List Gathered) (y : Found) {hs : List Gathered} {o : Result Datagram FrameUse} {d l : Datagram} {x : Found}
    → record { whole = o; waiting = hs } ≡ completed at.frame i.payload gs → o ≡ Ok d → l ≡ d → x ≡ found c at i.left l → x ≡ y
    → inner_reached c at i gs ≡ found_reached (inner_reached c at) y hs
reached_some c at i gs y {hs} {o} {d} {l} {x} e some lent is same =
    inner_steps c at i gs ∙ sym (ap (completed_reached (inner_reached c at) c at i.left) e) ∙ ap (λ o. found_reached (inner_reached c at) (found_in c at i.left o) hs) some
    ∙ ap (λ x. found_reached (inner_reached c at) x hs) (sym (is ∙ ap (found c at i.left) lent) ∙ same)

pub further_less : (c : XotChoices) (at : Recorded) (n : ℕ) (d : Datagram) (i : Inner) {x : Found} → x ≡ found c at n d → x ≡ Further i → i.left < n
further_less c at n d i {x} is same = subst (IsBelow n) (sym is ∙ same) (found_below c at n d)
