use Rattle.std.proofs.Common.{◌≡◌, ◌∙◌, ◌++◌, ap, subst, sym}
use Rattle.std.specs.Prelude.{None, Some, codes, decimal, false}
use Rattle.line_model.specs.observer.Report.{side_word}
use Rattle.descriptions.specs.Lines.{Puts}
use Rattle.descriptions.specs.RowObjects.{counted_word, finding_word, place_members, state_members}
use Rattle.descriptions.proofs.LineLemmas.{headed, place_end, puts_then}
use Rattle.descriptions.proofs.common_objects.put_head.Goals as goal

pub returns : goal.returns
returns c lengths h named =
    let row = c.args.common.now.row.now in
    let epoch = c.args.common.now.epoch in
    let counted = counted_word lengths ++ (codes ",\"epoch\":" ++ (decimal epoch ++ codes ",\"owed\":false,\"finding\":null")) in
    let own : c.from.result ≡ epoch = c.from.ensures in
    let channel : c.from-2.result ≡ c.args.channel = c.from-2.ensures in
    let number : c.from-3.result ≡ row.number = c.from-3.ensures in
    let side : c.side_member.result.now ≡ codes ",\"side\":\"" ++ (side_word row.side ++ codes "\",\"channel\":") = c.side_member.ensures in
    let known = codes ",\"before\":\"d1\",\"after\":\"d1\",\"counted\":" in
    subst (λ word. Puts word c.args.line.now c.put-5.new.self)
    ((λ t. codes "{\"line\":\"row\",\"packet\":" ++ (decimal (number t) ++ (side t ++ (decimal (channel t) ++ (known ++ (counted_word lengths ++ (codes ",\"epoch\":" ++ (decimal (own t) ++ codes ",\"owed\":false,\"finding\":null"))))))))
    ∙ sym (headed (codes "{\"line\":\"row\",\"packet\":") (decimal row.number) (codes ",\"side\":\"") (side_word row.side) (codes "\",\"channel\":") (decimal c.args.channel) known counted)
    ∙ ap (λ xs. state_members row.number row.side (Some c.args.channel) (codes "d1") (codes "d1") ++ (counted_word lengths ++ xs)) (place_end epoch)
    ∙ ap (λ n. state_members row.number row.side n (codes "d1") (codes "d1") ++ (counted_word lengths ++ (place_members epoch false ++ finding_word None None))) (sym named))
    (puts_then _ _ _ _ _ (puts_then _ _ _ _ _ (puts_then _ _ _ _ _ (puts_then _ _ _ _ _ (puts_then _ _ _ _ _ (puts_then _ _ _ _ _ (puts_then _ _ _ _ _ (puts_then _ _ _ _ _ c.put.ensures c.number.ensures) c.put-2.ensures) (c.put_counted.ensures lengths h)) c.put-3.ensures) c.number-2.ensures) c.put-4.ensures) c.number-3.ensures) c.put-5.ensures)
