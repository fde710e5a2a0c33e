use Rattle.std.proofs.Common.{◌≡◌, ◌∙◌, ◌++◌, [], ◌∷◌, List, ℕ, Option, ap, append_assoc, append-nil, codes, decimal, subst, sym}
use Rattle.descriptions.specs.Circuits.{Circuit, Host}
use Rattle.descriptions.specs.RowObjects.{circuit_object, joined, number_word}
use Rattle.line_model.specs.basics.Written.{Writes}
use Rattle.command_line.proofs.circuits.put_circuit.Goals as goal

parts : (t a n b ch c e p q d f r s z : List ℕ) → ((((((((t ++ a) ++ n) ++ b) ++ ch) ++ c) ++ (e ++ (p ++ q))) ++ d) ++ (f ++ (r ++ s))) ++ z ≡ t ++ joined (a ∷ n ∷ b ∷ ch ∷ c ∷ e ∷ p ∷ q ∷ d ∷ f ∷ r ∷ s ∷ z ∷ [])
parts t a n b ch c e p q d f r s z = simp append_assoc (ap (λ (y : List ℕ). t ++ (a ++ (n ++ (b ++ (ch ++ (c ++ (e ++ (p ++ (q ++ (d ++ (f ++ (r ++ (s ++ y))))))))))))) (sym (append-nil z)))

-- the object of a circuit with these parts
whole : (t : List ℕ) (circuit : Circuit) (n : ℕ) (ch : Option ℕ) (dte dce : Host) → n ≡ circuit.number → ch ≡ circuit.channel → dte ≡ circuit.dte → dce ≡ circuit.dce
    → t ++ circuit_object (record { number = n; channel = ch; dte = dte; dce = dce }) ≡ t ++ circuit_object circuit
whole t circuit n ch dte dce number channel own other = λ i. t ++ circuit_object (record { number = number i; channel = channel i; dte = own i; dce = other i })

pub returns : goal.returns
returns g c = λ before text w.
    subst (λ l. Writes before (g.K.Sink.taken c.put-5.new.sink, g.K.Sink.failures c.put-5.new.sink) c.put-5.new.self l)
    (parts text (codes "{\"line\":\"circuit\",\"circuit\":") (decimal c.number.result) (codes ",\"channel\":") (number_word c.channel.result) (codes ",\"dte\":\"") c.end.result.now.address (codes "\",\"dte_port\":") (decimal c.end.result.now.port)
    (codes ",\"dce\":\"") c.end-2.result.now.address (codes "\",\"dce_port\":") (decimal c.end-2.result.now.port) (codes "}\n")
    ∙ whole text c.args.circuit.now c.number.result c.channel.result c.end.result.now c.end-2.result.now c.number.ensures c.channel.ensures c.end.ensures c.end-2.ensures)
    (c.put-5.ensures before _ (c.put_end-2.ensures before _ (c.put-4.ensures before _ (c.put_end.ensures before _ (c.put-3.ensures before _ (c.put_channel.ensures before _ (c.put-2.ensures before _ (c.put_number.ensures before _ (c.put.ensures before text w)))))))))
