use Rattle.std.proofs.Common.{rules, ◌≡◌, ◌∙◌, ℕ, ◌<◌, List, ap, arith, drop, get_or, length, subst}
use Rattle.std.proofs.lemmas.List.{take_at}
use Rattle.capture_report.specs.CircuitRows.{with_channel}
use Rattle.capture_report.proofs.CircuitRowLemmas.{channel_written}
use Rattle.capture_report.proofs.circuit_row.set_packet.Goals as goal

pub returns : goal.returns
returns c =
    let before = c.as_mut_slice.result.now in
    let after = c.write_channel.new.octets in
    let same : length after ≡ length before = c.write_channel.auto.octets in
    let many : length after ≡ c.extend_from_slice.new.self.len = search rules in
    let out = take_at after (drop (length after) c.extend_from_slice.new.self.items) c.extend_from_slice.new.self.len many in
    let bytes : (i : ℕ) → i < length after → get_or after i 0 < 256 =
    subst (λ (xs : List ℕ). (i : ℕ) → i < length xs → get_or xs i 0 < 256) out (λ i few. let f = c.type_inv.octets i 0 few in omega arith) in
    let packet : before ≡ c.args.packet.now = search rules in
    let written = c.write_channel.ensures in
    out ∙ channel_written before after c.args.channel bytes same written.channel written.format written.others written.few
    ∙ ap (with_channel c.args.channel) packet
