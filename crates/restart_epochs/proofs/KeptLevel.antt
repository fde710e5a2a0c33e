-- A row that goes to a channel leaves the restart machine as it is.
use Rattle.std.proofs.Common.{◌≡◌, ◌∙◌, sym, ap, refl, ℕ, Bool, true, false, true≢false, ◌&&◌, Option, Some, None}
use Rattle.line_model.specs.declared.packet.Class.{Class}
use Rattle.line_model.specs.declared.state.Side.{Side}
use Rattle.line_model.specs.declared.state.Side.TheVariants.{T, N}
use Rattle.line_model.specs.declared.state.RState.{RState}
use Rattle.line_model.specs.declared.state.RState.TheVariants.{R1, R2, R3}
use Rattle.line_model.specs.declared.state.StateName.{StateName}
use Rattle.line_model.specs.declared.state.StateName.TheVariants.{R1 as Name1, R2 as Name2}
use Rattle.line_model.specs.declared.table.Action.{Action}
use Rattle.line_model.specs.declared.table.Action.TheVariants.{Move, Error, Ends}
use Rattle.line_model.specs.channels.Tables.{action}
use Rattle.line_model.specs.channels.RestartMachine.{InterfaceState, Routing, is_outside, restart_name, outside_step, restart_move, restart_moving, restart_error, restart_fault, restart_step, passes_joining, inside_step, level_step}
use Rattle.line_model.specs.basics.Records.{Item}
use Rattle.line_model.specs.packets.Classes.{packet_class}
use Rattle.line_model.specs.packets.Says.{gap_of}
use Rattle.line_model.specs.channels.GapRestart.{GapInterfaceState, gap_on, is_of_restart, is_ready, routing, routing_by}
use Rattle.restart_epochs.proofs.Routes.{adrift_no, gap_of_all, is_to_channel, level_of, stepped_if}

kept_outside : (l : InterfaceState) (a : Action) → (outside_step l a).after ≡ l
kept_outside l (Error n) = refl
kept_outside l a = refl

moves_on : (s : RState) (t : StateName) → is_to_channel (restart_move s t).route ≡ false
moves_on s Name1 = refl
moves_on R1 Name2 = refl
moves_on R1 t = refl
moves_on s Name2 = refl
moves_on s t = refl

kept_moving : (l : InterfaceState) (t : StateName) (f : Option ℕ) → is_to_channel (restart_moving l t f).route ≡ true → (restart_moving l t f).after ≡ l
kept_moving l t (Some n) h = refl
kept_moving l t None h = absurd (true≢false (sym h ∙ moves_on l.state t))

errs_on : (s : RState) (w j : Bool) (n : ℕ) → is_to_channel (restart_error (level_of s w j) T n).route ≡ false
errs_on R1 w j n = refl
errs_on R2 w j n = refl
errs_on R3 w j n = refl

kept_acted : (l : InterfaceState) (x : Side) (k : Class) (n : ℕ) (a : Action) → is_to_channel (restart_step l x k n a).route ≡ true → (restart_step l x k n a).after ≡ l
kept_acted l x k n (Move t) h = kept_moving l t (restart_fault k n) h
kept_acted l N k n (Error f) h = refl
kept_acted l T k n (Error f) h = absurd (true≢false (sym h ∙ errs_on l.state l.owed l.joining f))
kept_acted l x k n Ends h = absurd (true≢false (sym h))
kept_acted l x k n a h = refl

kept_inside : (passes : Bool) (l : InterfaceState) (x : Side) (k : Class) (n : ℕ) → is_to_channel (inside_step passes l x k n).route ≡ true → (inside_step passes l x k n).after ≡ l
kept_inside true l x k n h = refl
kept_inside false l x k n h = kept_acted l x k n (action x (restart_name l.state) l.owed k) h

kept_level : (l : InterfaceState) (x : Side) (k : Class) (n : ℕ) → is_to_channel (level_step l x k n).route ≡ true → (level_step l x k n).after ≡ l
kept_level l x k n h = at (is_outside k) refl h
  where
    step : Bool → Routing
    step b = elim b [
      | true ↦ outside_step l (action x (restart_name l.state) l.owed k)
      | false ↦ inside_step (passes_joining l k) l x k n
    ]

    at : (b : Bool) → is_outside k ≡ b → is_to_channel (step b).route ≡ true → (step b).after ≡ l
    at true e t = kept_outside l (action x (restart_name l.state) l.owed k)
    at false e t = kept_inside (passes_joining l k) l x k n t

pub kept_row : (g : GapInterfaceState) (r : Item) → is_to_channel (routing g r).route ≡ true → (routing g r).after ≡ g
kept_row g r h = at (gap_of r.packet) h
  where
    k : Class
    k = packet_class r.packet

    by : (v : Bool) → is_to_channel (stepped_if v g r.side k r.length).route ≡ true → (stepped_if v g r.side k r.length).after ≡ g
    by true t = absurd (true≢false (sym t ∙ adrift_no g r.side k (restart_fault k r.length)))
    by false t = ap (λ l. record g { level = l }) (kept_level g.level r.side k r.length t)

    on : (s : RState) → (gap_on s g).after ≡ g
    on R1 = refl
    on R2 = refl
    on R3 = refl

    at : (o : Option (Option ℕ)) → is_to_channel (routing_by o g r.side k r.length).route ≡ true → (routing_by o g r.side k r.length).after ≡ g
    at None t = by (g.adrift && is_ready g && is_of_restart k) t
    at (Some None) t = absurd (true≢false (sym t ∙ gap_of_all g g.level.state))
    at (Some (Some c)) t = on g.level.state
