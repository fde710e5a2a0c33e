-- Each step into a carrier goes to a part of it.
use Rattle.std.proofs.Common.{◌∙◌, refl, ap, ℕ, zero, suc, ◌+◌, ◌-◌, ◌/◌, ◌%◌, ◌==◌, ◌<◌, ◌≤◌, ◌||◌, nat_lt, Bool, true, false, List, [], ◌∷◌, drop, length, slice_index, Result, Ok, Err, IfOk, if◌then◌else◌, arith}
use Rattle.std.proofs.lemmas.List.{drop-drop}
use Rattle.capture_model.specs.Ethernet.{is_tag, two_octets, untagged}
use Rattle.capture_model.specs.LinkHeaders.{has_control}
use Rattle.capture_model.specs.Views.{Payload}
use Rattle.capture_model.specs.declared.kind.LinkKind.{LinkKind}
use Rattle.capture_model.specs.declared.kind.LinkKind.TheVariants as kind
use Rattle.ip_segments.specs.Carriers.{Ethernet, Inner, Internet, Layer, Neither, by_labels, by_ppp, by_protocol, by_type, by_version, cisco, cooked, entered, frame, framed_ppp, gre, gre_size, in_datagram, in_frame, in_gre, is_cisco, is_gre_0, is_vxlan, labels, opened, ppp, tunnel, type_of, types, vxlan}
use Rattle.ip_segments.specs.Numbers.{after, two}
use Rattle.ip_segments.specs.Parts.{IsPart}
use Rattle.ip_segments.specs.declared.carriers.CarrierFault.{CarrierFault}
use Rattle.ip_segments.specs.declared.carriers.CarrierFault.TheVariants as fault

abbrev plain : List ℕ → ℕ → Payload
plain xs n = record { octets = xs; length = n }

further : (p q r : Payload) → IsPart p q → IsPart q r → IsPart p r
further p q r x y = (x.0 + y.0, y.1 ∙ ap (drop y.0) x.1 ∙ drop-drop y.0 x.0 p.octets)

-- what comes next is a part
abbrev Within : Payload → Layer → Type 0
Within p (Internet q) = IsPart p q
Within p (Ethernet q) = IsPart p q
Within p (Neither x) = Unit {0}

within_part : (p q : Payload) (l : Layer) → IsPart p q → Within q l → Within p l
within_part p q (Internet r) x w = further p q r x w
within_part p q (Ethernet r) x w = further p q r x w
within_part p q (Neither f) x w = tt

within_after : (n : ℕ) (p : Payload) (l : Layer) → Within (after n p) l → Within p l
within_after n p l w = within_part p (after n p) l (n, refl) w

either : (p : Payload) (b : Bool) (l m : Layer) → Within p l → Within p m → Within p (if b then l else m)
either p true l m x y = x
either p false l m x y = y

by_version_within : (v : ℕ) (p : Payload) → Within p (by_version v p)
by_version_within v p = either p (v == 4 || v == 6) (Internet p) (if v == 0 then Ethernet (after 16 p) else Neither fault.OtherProtocol) (0, refl)
    (either p (v == 0) (Ethernet (after 16 p)) (Neither fault.OtherProtocol) (16, refl) tt)

by_labels_within : (xs : List ℕ) (n : ℕ) → Within (plain xs n) (by_labels xs n)
by_labels_within [] n = tt
by_labels_within (a ∷ []) n = tt
by_labels_within (a ∷ b ∷ []) n = tt
by_labels_within (a ∷ b ∷ c ∷ []) n = tt
by_labels_within (a ∷ b ∷ c ∷ d ∷ []) n = tt
by_labels_within (a ∷ b ∷ c ∷ d ∷ e ∷ xs) n =
    let p = plain (a ∷ b ∷ c ∷ d ∷ e ∷ xs) n in
    let q = plain (e ∷ xs) (n - 4) in
    either p (c % 2 == 0) (by_labels (e ∷ xs) (n - 4)) (by_version (e / 16) q) (within_part p q (by_labels (e ∷ xs) (n - 4)) (4, refl) (by_labels_within (e ∷ xs) (n - 4)))
    (within_part p q (by_version (e / 16) q) (4, refl) (by_version_within (e / 16) q))

labels_within : (p : Payload) → Within p (labels p)
labels_within p = by_labels_within p.octets p.length

by_ppp_within : (n : ℕ) (p : Payload) → Within p (by_ppp n p)
by_ppp_within n p = either p (n == 0x0021 || n == 0x0057) (Internet p) (if n == 0x0281 || n == 0x0283 then labels p else Neither fault.OtherProtocol) (0, refl)
    (either p (n == 0x0281 || n == 0x0283) (labels p) (Neither fault.OtherProtocol) (labels_within p) tt)

ppp_within : (p : Payload) → Within p (ppp p)
ppp_within p = let l = by_ppp (two 0 p.octets) (after 2 p) in
    either p (nat_lt (length p.octets) 2) (Neither fault.Cut) l tt (within_after 2 p l (by_ppp_within (two 0 p.octets) (after 2 p)))

by_type_within : (n : ℕ) (p : Payload) → Within p (by_type n p)
by_type_within n p =
    let last : Layer = if is_tag n then Neither fault.Cut else Neither fault.OtherProtocol in
    let session : Layer = if n == 0x8864 then ppp (after 6 p) else last in
    let labelled : Layer = if n == 0x8847 || n == 0x8848 then labels p else session in
    either p (n == 0x0800 || n == 0x86DD) (Internet p) labelled (0, refl) (either p (n == 0x8847 || n == 0x8848) (labels p) session (labels_within p)
    (either p (n == 0x8864) (ppp (after 6 p)) last (within_after 6 p (ppp (after 6 p)) (ppp_within (after 6 p)))
    (either p (is_tag n) (Neither fault.Cut) (Neither fault.OtherProtocol) tt tt)))

type_of_within : (p : Payload) → Within p (type_of p)
type_of_within p = let l = by_type (two 0 p.octets) (after 2 p) in
    either p (nat_lt (length p.octets) 2) (Neither fault.Cut) l tt (within_after 2 p l (by_type_within (two 0 p.octets) (after 2 p)))

-- what comes after tags
either_part : (p : Payload) (b : Bool) (q r : Payload) → IsPart p q → IsPart p r → IsPart p (if b then q else r)
either_part p true q r x y = x
either_part p false q r x y = y

untagged_part : (xs : List ℕ) (n : ℕ) → IsPart (plain xs n) (untagged xs n)
untagged_part [] n = (0, refl)
untagged_part (a ∷ []) n = (0, refl)
untagged_part (a ∷ b ∷ []) n = (0, refl)
untagged_part (a ∷ b ∷ c ∷ []) n = (0, refl)
untagged_part (a ∷ b ∷ c ∷ d ∷ xs) n =
    let p = plain (a ∷ b ∷ c ∷ d ∷ xs) n in
    either_part p (is_tag (two_octets a b)) (untagged xs (n - 4)) p (further p (plain xs (n - 4)) (untagged xs (n - 4)) (4, refl) (untagged_part xs (n - 4))) (0, refl)

types_within : (p : Payload) → Within p (types p)
types_within p = within_part p (untagged p.octets p.length) (types p) (untagged_part p.octets p.length) (type_of_within (untagged p.octets p.length))

by_protocol_within : (n : ℕ) (p : Payload) → Within p (by_protocol n p)
by_protocol_within n p = either p (is_tag n) (types (after 2 p)) (by_type n p) (within_after 2 p (types (after 2 p)) (types_within (after 2 p))) (by_type_within n p)

in_gre_within : (n : ℕ) (p : Payload) → Within p (in_gre n p)
in_gre_within n p = either p (n == 0x6558) (types (after 12 p)) (by_protocol n p) (within_after 12 p (types (after 12 p)) (types_within (after 12 p))) (by_protocol_within n p)

gre_within : (p : Payload) → Within p (gre p)
gre_within p =
    let q = after (gre_size (slice_index p.octets 0)) p in
    let l = in_gre (two 2 p.octets) q in
    let known : Layer = if is_gre_0 p.octets then l else Neither fault.OtherProtocol in
    either p (nat_lt (length p.octets) 4) (Neither fault.Cut) known tt
    (either p (is_gre_0 p.octets) l (Neither fault.OtherProtocol) (within_after (gre_size (slice_index p.octets 0)) p l (in_gre_within (two 2 p.octets) q)) tt)

vxlan_within : (p : Payload) → Within p (vxlan p)
vxlan_within p =
    let l = types (after 28 p) in
    let known : Layer = if is_vxlan p.octets then l else Neither fault.OtherProtocol in
    either p (nat_lt (length p.octets) 16) (Neither fault.OtherProtocol) known tt
    (either p (is_vxlan p.octets) l (Neither fault.OtherProtocol) (within_after 28 p l (types_within (after 28 p))) tt)

tunnel_within : (n : ℕ) (p : Payload) → Within p (tunnel n p)
tunnel_within n p =
    let last : Layer = if n == 17 then vxlan p else Neither fault.OtherProtocol in
    let known : Layer = if n == 47 then gre p else last in
    either p (n == 4 || n == 41) (Internet p) known (0, refl) (either p (n == 47) (gre p) last (gre_within p) (either p (n == 17) (vxlan p) (Neither fault.OtherProtocol) (vxlan_within p) tt))

cooked_within : (size at : ℕ) (p : Payload) → Within p (cooked size at p)
cooked_within size at p = let l = by_protocol (two at p.octets) (after size p) in
    either p (nat_lt (length p.octets) size) (Neither fault.Cut) l tt (within_after size p l (by_protocol_within (two at p.octets) (after size p)))

cisco_within : (p : Payload) → Within p (cisco p)
cisco_within p =
    let l = by_protocol (two 2 p.octets) (after 4 p) in
    let known : Layer = if is_cisco p.octets then l else Neither fault.OtherProtocol in
    either p (nat_lt (length p.octets) 4) (Neither fault.Cut) known tt
    (either p (is_cisco p.octets) l (Neither fault.OtherProtocol) (within_after 4 p l (by_protocol_within (two 2 p.octets) (after 4 p))) tt)

framed_ppp_within : (p : Payload) → Within p (framed_ppp p)
framed_ppp_within p = either p (has_control p.octets) (ppp (after 2 p)) (ppp p) (within_after 2 p (ppp (after 2 p)) (ppp_within (after 2 p))) (ppp_within p)

frame_within : (k : LinkKind) (p : Payload) → Within p (frame k p)
frame_within kind.Ethernet p = within_after 12 p (types (after 12 p)) (types_within (after 12 p))
frame_within kind.Cooked1 p = cooked_within 16 14 p
frame_within kind.Cooked2 p = cooked_within 20 0 p
frame_within kind.Internet p = (0, refl)
frame_within kind.Loopback p = (4, refl)
frame_within kind.Ppp p = framed_ppp_within p
frame_within kind.Cisco p = cisco_within p
frame_within k p = tt

-- carriers one in another
fewer : (n : ℕ) (p : Payload) (r : Result Inner CarrierFault) → IfOk r (λ i. IsPart p i.payload × (i.left ≤ n)) → IfOk r (λ i. IsPart p i.payload × (i.left ≤ suc n))
fewer n p (Ok i) h = let few = h.1 in (h.0, omega (arith, few))
fewer n p (Err x) h = tt

below : (n : ℕ) (p : Payload) (r : Result Inner CarrierFault) → IfOk r (λ i. IsPart p i.payload × (i.left ≤ n)) → IfOk r (λ i. IsPart p i.payload × (i.left < suc n))
below n p (Ok i) h = let few = h.1 in (h.0, omega (arith, few))
below n p (Err x) h = tt

opened_within : (left : ℕ) (p : Payload) (l : Layer) → Within p l → IfOk (opened left l) (λ i. IsPart p i.payload × (i.left ≤ left))
unfolding opened
opened_within zero p (Internet q) w = (w, omega arith)
opened_within (suc n) p (Internet q) w = (w, omega arith)
opened_within zero p (Neither x) w = tt
opened_within (suc n) p (Neither x) w = tt
opened_within zero p (Ethernet q) w = tt
opened_within (suc n) p (Ethernet q) w = fewer n p (opened n (types q)) (opened_within n p (types q) (within_part p q (types q) w (types_within q)))

entered_within : (left : ℕ) (p : Payload) (l : Layer) → Within p l → IfOk (entered left l) (λ i. IsPart p i.payload × (i.left < left))
entered_within zero p (Internet q) w = tt
entered_within zero p (Ethernet q) w = tt
entered_within zero p (Neither x) w = tt
entered_within (suc n) p (Internet q) w = below n p (opened n (Internet q)) (opened_within n p (Internet q) w)
entered_within (suc n) p (Ethernet q) w = below n p (opened n (Ethernet q)) (opened_within n p (Ethernet q) w)
entered_within (suc n) p (Neither x) w = tt

pub in_frame_part : (k : LinkKind) (p : Payload) → IfOk (in_frame k p) (λ i. IsPart p i.payload × (i.left ≤ 8))
in_frame_part k p = opened_within 8 p (frame k p) (frame_within k p)

pub in_datagram_part : (left n : ℕ) (p : Payload) → IfOk (in_datagram left n p) (λ i. IsPart p i.payload × (i.left < left))
in_datagram_part left n p = entered_within left p (tunnel n p) (tunnel_within n p)
