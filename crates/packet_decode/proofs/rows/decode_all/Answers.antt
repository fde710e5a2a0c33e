use Rattle.std.proofs.Common.{ap, ◌∙◌, map}
use Rattle.line_model.specs.packets.Classes.{packet_of}
use Rattle.rayon.proofs.ListFacts.{IfOk-then}
use Rattle.rayon.proofs.ToStd.{slice-map}
use Rattle.packet_decode.proofs.rows.decode_all.Goals as goal

pub returns : goal.returns
returns g c =
    let rows = c.args.rows.now in
    let slice = ap (λ it. it.slice.now) c.map.ensures.base ∙ c.par_iter.ensures in
    let interface = ap (λ f. f.0.now) c.map.ensures.f in
    record {
      packets = IfOk-then c.collect.result _ _ c.collect.ensures (λ packets h.
          let chain = h.1 in
          h.2 ∙ slice-map chain.0 rows (chain.1 ∙ slice) (λ r. packet_of c.map.result.f.0.now r.octets) h.0 chain.2
          ∙ ap (λ i. map (λ r. packet_of i r.octets) rows) interface);
    }
