-- The object of a row that found nothing and left its channel in d1.
use Rattle.std.specs.Prelude.{◌≡◌, ℕ, Bool, true, false, ◌&&◌, not, List, [], ◌∷◌, ◌++◌, None, codes, decimal}
use Rattle.std.specs.Option.{is_none}
use Rattle.line_model.specs.declared.event.Event.{Event}
use Rattle.line_model.specs.declared.state.ChannelState.{ChannelState}
use Rattle.line_model.specs.declared.state.ChannelState.TheVariants.{Transfer}
use Rattle.line_model.specs.declared.state.DState.{DState}
use Rattle.line_model.specs.declared.state.DState.TheVariants.{D1}
use Rattle.line_model.specs.observer.Calls.{all_lengths}
use Rattle.line_model.specs.packets.Says.{gap_of}
use Rattle.data_transfer.specs.Packed.{Packed}
use Rattle.channel_run.specs.StatusWord.{view_in}
use Rattle.live_report.specs.declared.judged_row.Judge.{Judge}
use Rattle.live_report.specs.declared.judged_row.Judge.TheVariants as judge
use Rattle.live_report.specs.declared.judged_row.JudgedRow.{JudgedRow}
use Rattle.descriptions.specs.Follows.{is_renewing}
use Rattle.descriptions.specs.Members.{IsOfCall}
use Rattle.descriptions.specs.RowCalls.{AreQuiet}
use Rattle.descriptions.specs.RowObjects.{counted_word, finding_word, joined, named_channel, place_members, state_members}

-- whether a state of data transfer is d1
abbrev pub is_first : DState → Bool
is_first D1 = true
is_first _ = false

-- whether the state of a channel is d1
abbrev pub is_d1 : ChannelState → Bool
is_d1 (Transfer s) = is_first s
is_d1 _ = false

-- whether a channel is in d1, where the DCE owes no indication and no gap left its state open, by its word
abbrev pub is_settled : Packed → Bool
is_settled word = is_d1 (view_in word).state && (not (view_in word).owed && not (view_in word).adrift)

-- whether a row left its channel settled, as it was before
abbrev pub leaves_settled : Judge → Bool
leaves_settled (judge.Channel k before after accepted) = is_settled before && is_settled after
leaves_settled _ = false

-- whether a row found nothing and left its channel so
abbrev pub is_quiet : JudgedRow → Bool
is_quiet row = is_none row.finding && leaves_settled row.judge

-- octets that were counted, and their segments
abbrev pub amount_word : (octets segments : ℕ) → List ℕ
amount_word octets segments = joined (codes "{\"octets\":" ∷ decimal octets ∷ codes ",\"segments\":" ∷ decimal segments ∷ codes "}" ∷ [])

-- the beginning of its object, where its data packets have these lengths
abbrev pub common_head : JudgedRow → (epoch : ℕ) → (lengths : List ℕ) → List ℕ
common_head row epoch lengths =
    state_members row.number row.side (named_channel row.packet) (codes "d1") (codes "d1")
    ++ (counted_word lengths ++ (place_members epoch false ++ finding_word None None))

-- its object on a line of its own: that beginning, its call, and members with other names
pub record IsCommonObject (row : JudgedRow) (epoch call : ℕ) (events : List Event) (bytes : List ℕ) : Type 0 where
  pub quiet : is_quiet row ≡ true
  pub packet : gap_of row.packet ≡ None
  pub renews : is_renewing row.packet ≡ false
  pub steady : AreQuiet events
  pub rest : List ℕ
  pub members : IsOfCall call rest
  pub written : bytes ≡ common_head row epoch (all_lengths events) ++ (rest ++ codes "}\n")
