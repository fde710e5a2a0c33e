-- The first octets of the file were read.
use Rattle.std.proofs.Common.{◌≡◌, ◌∙◌, ◌⊎◌, ◌≤◌, inl, inr, [], length, rules, sym}
use Rattle.capture_files.proofs.FileLemmas.{fitted_front, front_shown}
use Rattle.capture_files.proofs.pcap_header.fit.Goals as goal

pub returns-clause-fitted : goal.returns-clause-fitted
returns-clause-fitted g c = λ file shown.
    let ahead = c.fill.new.self.ahead in
    let front = front_shown _ (g.S.Source.left c.fill.new.source) ahead file c.fill.ensures.passes shown in
    let there : (1048576 ≤ length ahead) ⊎ (front.0 ≡ []) = elim c.in_ok-fill.ensures.there [ inl le ↦ inl le | inr end ↦ inr (cc (sym front.1 ∙ end file shown)) ] in
    c.fitting.ensures.first
    ∙ fitted_front c.args.may_wait c.args.form c.headers_of-headers.result ahead front.0 _ file _ (search rules) front.2 there c.headers_of-headers.ensures (search rules) (search rules)
