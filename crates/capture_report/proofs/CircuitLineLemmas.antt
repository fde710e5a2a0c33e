-- The lines of circuits are comments.
use Rattle.std.proofs.Common.{◌≡◌, ◌∙◌, ap, refl, ℕ, zero, suc, ◌+◌, ◌/◌, ◌%◌, ◌^◌, Bool, true, false, List, [], ◌∷◌, ◌++◌, append_assoc, arith, drop, take, flat_map, Option, None, Some, sym, ◌<◌, length, get_or}
use Rattle.std.proofs.lemmas.List.{at_drop_more}
use Rattle.std.specs.Prelude.{codes, decimal, not, slice_index, bytes_eq, ◌==◌, nat_lt, if◌then◌else◌}
use Rattle.std.specs.Char.{digit_char}
use Rattle.std.specs.Fmt.{digit_glyph, digits, digits_onto}
use Rattle.std.specs.Int.{to_be_bytes, w128, w32}
use Rattle.std.specs.List.{list_any}
use Rattle.std.specs.Net.Addr.{IsIpv4OfBits, IsIpv6OfBits, ipv4_octets, ipv6_segments, octets_of, segments_of}
use Rattle.std.specs.Net.Text.{compressed_text, groups_text, hex, hex_groups_text, ipv4_text, ipv6_text, leading_zero_digits, longest_zero_run}
use Rattle.std.specs.declared.net.ipv4_addr.Ipv4Addr.{Ipv4Addr}
use Rattle.std.specs.declared.net.ipv6_addr.Ipv6Addr.{Ipv6Addr}
use Rattle.std.proofs.lemmas.Bool.{ne_eqb, or_parts}
use Rattle.std.proofs.lemmas.List.Elements.{filter-append}
use Rattle.line_model.specs.text.Text.{Line, begun_line, content_of, ended_lines, is_comment}
use Rattle.trace_text.specs.Cuts.{Lacks}
use Rattle.trace_text.proofs.BlockLemmas.{seam}
use Rattle.trace_text.proofs.RowFront.{lacks-append}
use Rattle.tcp_streams.specs.declared.ends.Endpoint.{Endpoint}
use Rattle.capture_report.specs.CircuitLines.{address_text, channel_word, circuit_line, circuits_text, end_text}
use Rattle.capture_report.specs.declared.circuits.SeenCircuit.{SeenCircuit}
use Rattle.capture_report.proofs.CircuitChannelLemmas.{no_circuit}
use Rattle.capture_report.proofs.TraceTextLemmas.{line_first}

-- ---- parts behind each other

pub appended_more : (before xs ys old new : List ℕ) → old ≡ before ++ xs → new ≡ old ++ ys → new ≡ before ++ (xs ++ ys)
appended_more before xs ys old new first next = next ∙ (ap (λ zs. zs ++ ys) first ∙ append_assoc before xs ys)

-- ---- addresses by their octets

pub octets_of_bits : (a : Ipv4Addr) (bits : ℕ) → IsIpv4OfBits a bits → ipv4_octets a ≡ to_be_bytes w32 bits
unfolding IsIpv4OfBits
octets_of_bits a bits h = h

pub segments_of_bits : (a : Ipv6Addr) (bits : ℕ) → IsIpv6OfBits a bits → ipv6_segments a ≡ segments_of (to_be_bytes w128 bits)
unfolding IsIpv6OfBits
segments_of_bits a bits h = h

-- ---- no LF

glyph_lacks : (d : ℕ) → (digit_glyph false d == 10) ≡ false
glyph_lacks d = at (nat_lt d 10)
  where
    at : (b : Bool) → ((if b then 48 + d else 87 + d) == 10) ≡ false
    at true = ne_eqb (48 + d) 10 (λ e. absurd (omega (arith, e)))
    at false = ne_eqb (87 + d) 10 (λ e. absurd (omega (arith, e)))

digits_lack : (k n : ℕ) (more : List ℕ) → Lacks 10 more → Lacks 10 (digits_onto k 10 false n more)
digits_lack zero n more h = h
digits_lack (suc k) n more h = at (n / 10 == 0) (rw (glyph_lacks (n % 10), h) refl) (digits_lack k (n / 10) (digit_glyph false (n % 10) ∷ more))
  where
    at : (b : Bool) → Lacks 10 (digit_glyph false (n % 10) ∷ more) → (Lacks 10 (digit_glyph false (n % 10) ∷ more) → Lacks 10 (digits_onto k 10 false (n / 10) (digit_glyph false (n % 10) ∷ more)))
        → Lacks 10 (if b then digit_glyph false (n % 10) ∷ more else digits_onto k 10 false (n / 10) (digit_glyph false (n % 10) ∷ more))
    at true one rest = one
    at false one rest = rest one

decimal_lacks : (n : ℕ) → Lacks 10 (decimal n)
unfolding digits
decimal_lacks n = digits_lack 64 n [] refl

char_lacks : (d : ℕ) → (digit_char d == 10) ≡ false
char_lacks d = at (nat_lt d 10)
  where
    at : (b : Bool) → ((if b then 48 + d else 87 + d) == 10) ≡ false
    at true = ne_eqb (48 + d) 10 (λ e. absurd (omega (arith, e)))
    at false = ne_eqb (87 + d) 10 (λ e. absurd (omega (arith, e)))

drop_lacks : (k : ℕ) (xs : List ℕ) → Lacks 10 xs → Lacks 10 (drop k xs)
drop_lacks zero xs h = h
drop_lacks (suc k) [] h = refl
drop_lacks (suc k) (x ∷ xs) h = drop_lacks k xs (or_parts (x == 10) (list_any (λ b. b == 10) xs) h).1

hex_lacks : (n : ℕ) → Lacks 10 (hex n)
unfolding hex
hex_lacks n =
    drop_lacks (leading_zero_digits n) (digit_char (n / 0x1000) ∷ digit_char (n / 0x100 % 16) ∷ digit_char (n / 0x10 % 16) ∷ digit_char (n % 16) ∷ [])
    (rw (char_lacks (n / 0x1000), char_lacks (n / 0x100 % 16), char_lacks (n / 0x10 % 16), char_lacks (n % 16)) refl)

more_lack : (xs : List ℕ) → Lacks 10 (flat_map (λ t. 58 ∷ hex t) xs)
more_lack [] = refl
more_lack (x ∷ xs) = lacks-append 10 (58 ∷ hex x) (flat_map (λ t. 58 ∷ hex t) xs) (hex_lacks x) (more_lack xs)

groups_lack : (xs : List ℕ) → Lacks 10 (groups_text xs)
groups_lack [] = refl
groups_lack (x ∷ xs) = lacks-append 10 (hex x) (flat_map (λ t. 58 ∷ hex t) xs) (hex_lacks x) (more_lack xs)

compressed_lacks : (xs : List ℕ) (run : ℕ × ℕ) → Lacks 10 (compressed_text xs run)
compressed_lacks xs run = at (nat_lt 1 run.1)
  where
    front : List ℕ
    front = groups_text (take run.0 xs)

    back : List ℕ
    back = groups_text (drop (run.0 + run.1) xs)

    at : (b : Bool) → Lacks 10 (if b then front ++ codes "::" ++ back else groups_text xs)
    at true = lacks-append 10 (front ++ codes "::") back (lacks-append 10 front (codes "::") (groups_lack (take run.0 xs)) refl) (groups_lack (drop (run.0 + run.1) xs))
    at false = groups_lack xs

dot_lacks : (xs : List ℕ) (n : ℕ) → Lacks 10 xs → Lacks 10 (xs ++ codes "." ++ decimal n)
dot_lacks xs n h = lacks-append 10 (xs ++ codes ".") (decimal n) (lacks-append 10 xs (codes ".") h refl) (decimal_lacks n)

ipv4_lacks : (o : List ℕ) → Lacks 10 (ipv4_text o)
ipv4_lacks o =
    let one = decimal (slice_index o 0) in
    let two = one ++ codes "." ++ decimal (slice_index o 1) in
    let three = two ++ codes "." ++ decimal (slice_index o 2) in
    dot_lacks three (slice_index o 3) (dot_lacks two (slice_index o 2) (dot_lacks one (slice_index o 1) (decimal_lacks (slice_index o 0))))

ipv6_lacks : (xs : List ℕ) → Lacks 10 (ipv6_text xs)
unfolding ipv6_text hex_groups_text
ipv6_lacks xs = at (bytes_eq (take 6 xs) (0 ∷ 0 ∷ 0 ∷ 0 ∷ 0 ∷ 0xffff ∷ []))
  where
    at : (b : Bool) → Lacks 10 (if b then codes "::ffff:" ++ ipv4_text (octets_of (drop 6 xs)) else compressed_text xs (longest_zero_run xs))
    at true = lacks-append 10 (codes "::ffff:") (ipv4_text (octets_of (drop 6 xs))) refl (ipv4_lacks (octets_of (drop 6 xs)))
    at false = compressed_lacks xs (longest_zero_run xs)

address_lacks : (e : Endpoint) → Lacks 10 (address_text e)
address_lacks e = at e.is_version_6
  where
    at : (b : Bool) → Lacks 10 (if b then ipv6_text (segments_of (to_be_bytes w128 e.address)) else ipv4_text (to_be_bytes w32 (e.address % 2 ^ 32)))
    at true = ipv6_lacks (segments_of (to_be_bytes w128 e.address))
    at false = ipv4_lacks (to_be_bytes w32 (e.address % 2 ^ 32))

end_lacks : (e : Endpoint) → Lacks 10 (end_text e)
end_lacks e =
    let address = codes " " ++ address_text e in
    lacks-append 10 (address ++ codes " ") (decimal e.port) (lacks-append 10 address (codes " ") (lacks-append 10 (codes " ") (address_text e) refl (address_lacks e)) refl) (decimal_lacks e.port)

channel_lacks : (k : Option ℕ) → Lacks 10 (channel_word k)
channel_lacks None = refl
channel_lacks (Some k) = lacks-append 10 (codes " ") (decimal k) refl (decimal_lacks k)

line_lacks : (x : SeenCircuit) (k : Option ℕ) → Lacks 10 (circuit_line x k)
line_lacks x k =
    let number = codes "#@ circuit " ++ decimal x.connection in
    let channel = number ++ channel_word k in
    let dte = channel ++ end_text x.ends.dte in
    lacks-append 10 dte (end_text x.ends.dce)
    (lacks-append 10 channel (end_text x.ends.dte)
    (lacks-append 10 number (channel_word k) (lacks-append 10 (codes "#@ circuit ") (decimal x.connection) refl (decimal_lacks x.connection)) (channel_lacks k)) (end_lacks x.ends.dte)) (end_lacks x.ends.dce)

-- ---- whole lines, each a comment

record AreComments (text : List ℕ) : Type 0 where
  whole : begun_line text ≡ []
  none : content_of (ended_lines text) ≡ []

left_out : (l : Line) (ls : List Line) → is_comment l ≡ true → content_of (l ∷ ls) ≡ content_of ls
left_out l ls h = ap (λ (b : Bool). let kept : List Line = if not b then l ∷ content_of ls else content_of ls in kept) h

are_comments : (channel : ℕ → Option ℕ) (xs : List SeenCircuit) → AreComments (circuits_text channel xs)
are_comments channel [] = record { whole = refl; none = refl }
are_comments channel (x ∷ xs) =
    let line = circuit_line x (channel x.connection) in
    let rest = circuits_text channel xs in
    let first = line_first line rest (line_lacks x (channel x.connection)) in
    let same : circuits_text channel (x ∷ xs) ≡ line ++ 10 ∷ rest = append_assoc line (10 ∷ []) rest in
    let later = are_comments channel xs in
    record {
      whole = ap begun_line same ∙ first.1 ∙ later.whole;
      none = ap (λ text. content_of (ended_lines text)) same ∙ ap content_of first.0 ∙ left_out line (ended_lines rest) refl ∙ later.none;
    }

-- lines of which one is no comment have no other one with those of circuits behind them
pub content_with : (head : List ℕ) (header : Line) (channel : ℕ → Option ℕ) (xs : List SeenCircuit) → content_of (ended_lines head) ≡ header ∷ [] → begun_line head ≡ []
    → (content_of (ended_lines (head ++ circuits_text channel xs)) ≡ header ∷ []) × (begun_line (head ++ circuits_text channel xs) ≡ [])
content_with head header channel xs content whole =
    let lines = circuits_text channel xs in
    let s = seam head lines whole in
    let c = are_comments channel xs in (
      ap content_of s.lines
          ∙ filter-append (λ l. not (is_comment l)) (ended_lines head) (ended_lines lines)
          ∙ ap (λ (ls : List Line). ls ++ content_of (ended_lines lines)) content
          ∙ ap (λ (ls : List Line). header ∷ ls) c.none,
      s.begun ∙ c.whole,
    )

-- one more line
pub lines_more : (channel : ℕ → Option ℕ) (cs : List SeenCircuit) (i : ℕ) (old before out all : List ℕ) (k : Option ℕ) → i < length cs → k ≡ channel (get_or cs i no_circuit).connection
    → before ≡ old ++ circuit_line (get_or cs i no_circuit) k → out ≡ before ++ 10 ∷ [] → old ++ circuits_text channel (drop i cs) ≡ all → out ++ circuits_text channel (drop (i + 1) cs) ≡ all
lines_more channel cs i old before out all k few is line ended h =
    let x = get_or cs i no_circuit in
    let rest = circuits_text channel (drop (i + 1) cs) in
    let own = circuit_line x (channel x.connection) in
    ap (λ xs. xs ++ rest) (ended ∙ ap (λ xs. xs ++ 10 ∷ []) (line ∙ ap (λ n. old ++ circuit_line x n) is) ∙ append_assoc old own (10 ∷ []))
    ∙ append_assoc old (own ++ 10 ∷ []) rest ∙ ap (λ xs. old ++ xs) (sym (at_drop_more (circuits_text channel) cs i no_circuit few)) ∙ h
