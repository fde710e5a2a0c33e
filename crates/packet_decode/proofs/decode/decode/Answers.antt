use Rattle.std.proofs.lemmas.Grind.{common_steps}
use Rattle.std.proofs.Common.{◌≡◌, ◌∙◌, ap, sym, arith, false, length}
use Rattle.std.specs.Prelude.{◌==◌, nat_lt, not}
use Rattle.line_model.specs.declared.packet.Packet.TheVariants.{Channel}
use Rattle.line_model.specs.basics.Octets.{bits, channel_of, octet}
use Rattle.line_model.specs.packets.Classes.{class_of, format_of, kind_of, line_class, channel_class, packet_with}
use Rattle.packet_decode.proofs.KindLemmas.{on_channel, past_all}
use Rattle.packet_decode.proofs.decode.decode.Goals as goal

pub returns-then-channel-eq0 : goal.returns-then-channel-eq0
returns-then-channel-eq0 c =
    let i = c.args.interface.now in
    let xs = c.args.octets.now in
    let class : class_of i xs ≡ line_class xs = grind (arith, common_steps) in
    c.line_packet.ensures i ∙ ap (packet_with i xs) (sym class)

pub returns-else-channel-eq0 : goal.returns-else-channel-eq0
returns-else-channel-eq0 c =
    let i = c.args.interface.now in
    let xs = c.args.octets.now in
    let short : nat_lt (length xs) 2 ≡ false = grind (arith, common_steps) in
    let wrong : not (bits 6 5 (octet 1 xs) == format_of i) ≡ false = grind (arith, common_steps) in
    let apart : nat_lt i.svc (channel_of xs) ≡ false = grind (arith, common_steps) in
    let line : (channel_of xs == 0) ≡ false = grind (arith, common_steps) in
    let class : class_of i xs ≡ channel_class i xs = past_all _ _ _ _ (line_class xs) (channel_class i xs) short wrong apart line in
    c.channel_packet.ensures ∙ (λ j. Channel (c.logical_channel-channel.ensures j) (kind_of i xs (channel_class i xs))) ∙ on_channel i xs ∙ ap (packet_with i xs) (sym class)
