-- The ports that look like XOT, one after the other.
use Rattle.std.proofs.Common.{◌≡◌, ◌∙◌, ap, sym, subst, arith, ◌<◌, ◌≤◌, refl, true≢false}
use Rattle.std.proofs.lemmas.Bool.{ne_eqb}
use Rattle.std.specs.Prelude.{ℕ, zero, suc, ◌+◌, ◌-◌, ◌==◌, not, true, length, List, [], ◌∷◌, filter}
use Rattle.capture_report.specs.OtherPorts.{AreNamed, HasNone, IsFirst, PortsSeen, port_count, without}
use Rattle.capture_report.specs.PortSights.{has_port}
use Rattle.capture_report.specs.declared.other_ports.NamedPort.{NamedPort}
use Rattle.capture_report.specs.declared.other_ports.PortCount.{PortCount}
use Rattle.capture_report.specs.declared.port_sight.PortPair.{PortPair}

one_fewer : (n k : ℕ) → k < n → suc (n - (k + 1)) ≡ n - k
one_fewer n k less = omega (arith, less)

pub named_none : (n k : ℕ) (s : PortsSeen) → k < n → HasNone s → AreNamed (n - k) s []
named_none n k s less none = subst (λ m. AreNamed m s []) (one_fewer n k less) none

pub named_more : (n k : ℕ) (s t : PortsSeen) (p : NamedPort) (next : List NamedPort) → k < n → IsFirst s p → t ≡ without p.port s → AreNamed (n - (k + 1)) t next → AreNamed (n - k) s (p ∷ next)
named_more n k s t p next less first same named = subst (λ m. AreNamed m s (p ∷ next)) (one_fewer n k less) (first, subst (λ u. AreNamed (n - (k + 1)) u next) same named)

pub named_enough : (n k : ℕ) (s : PortsSeen) → n ≤ k → AreNamed (n - k) s []
named_enough n k s enough =
    let none : 0 ≡ n - k = omega (arith, enough) in
    subst (λ m. AreNamed m s []) none refl

abbrev pub seen_with : List (PortPair × PortCount) → List ℕ → PortsSeen
seen_with es servers = record { pairs = es; servers = servers }

-- what is left without a port
pub left_out : (port : ℕ) (es kept : List (PortPair × PortCount)) (servers : List ℕ) (s : PortsSeen) → kept ≡ filter (λ e. not (has_port port e.0)) es → seen_with es servers ≡ s → seen_with kept servers ≡ without port s
left_out port es kept servers s same is = ap (λ fs. seen_with fs servers) same ∙ ap (without port) is

-- where no pair was seen
pub nothing_seen : (s : PortsSeen) → true ≡ (length s.pairs == 0) → HasNone s
nothing_seen s empty = at s.pairs refl
  where
    at : (es : List (PortPair × PortCount)) → s.pairs ≡ es → HasNone s
    at [] is = λ port less. subst (λ fs. (port_count fs port).weight < 3) (sym is) (omega (arith, less))
    at (e ∷ es) is = absurd (true≢false (empty ∙ ap (λ fs. length fs == 0) is ∙ ne_eqb (length (e ∷ es)) 0 (λ n. absurd (omega (arith, n)))))
