-- What some command lines ask for, by computing.
use Rattle.std.proofs.Common.{◌≡◌, List, false, true, refl, codes, [], ◌∷◌, Some, None}
use Rattle.annotated_trace.specs.declared.rows.Rows.TheVariants.{All, Chosen}
use Rattle.capture_model.specs.declared.kind.LinkKind.TheVariants as kind
use Rattle.capture_rows.specs.declared.choices.Carrier.TheVariants as carrier
use Rattle.lapb_link.specs.declared.modulus.Modulus.TheVariants.{Basic, Extended}
use Rattle.clap.proofs.OnLiterals.{clap_on_literals}
use Rattle.clap.specs.Words as words
use Rattle.clap.specs.declared.error.kind.ErrorKind.TheVariants.{ArgumentConflict, DisplayHelp, DisplayVersion, UnknownArgument, ValueValidation}
use Rattle.streams.specs.declared.progress.ShowProgress.TheVariants.{Always, Never, OnTerminal}
use Rattle.capture_report.specs.Given.{none_given, plain, plain_choices}
use Rattle.capture_report.specs.declared.row_source.RowSource.TheVariants.{Line, Xot}
use Rattle.command_line.specs.Asked.{AskedWords, Conflict, Explanation, Trace, Wrong, asked_of, further_of}
use Rattle.command_line.specs.declared.asked.OutputForm.TheVariants.{Comments, Findings, Objects, TableObjects}
use Rattle.command_line.specs.declared.asked.ScanMode.TheVariants.{Alone, Follow, Workers}
use Rattle.command_line.specs.declared.asked.TraceOutput.TheVariants.{Headers, Printing, Report, Text}

-- what words after the name of the program ask for
abbrev Ask : List words.Text → AskedWords → Type 0
Ask given asked = asked_of (codes "x25scan" ∷ given) ≡ asked

no_words : Ask ([]) (Trace None OnTerminal (Report (record { mode = Workers None; json = false; notes = false })) plain)
unfolding clap_on_literals
no_words = refl

most_workers : Ask (codes "--workers" ∷ codes "64" ∷ []) (Trace None OnTerminal (Report (record { mode = Workers (Some 64); json = false; notes = false })) plain)
unfolding clap_on_literals
most_workers = refl

no_workers : Ask (codes "--workers" ∷ codes "0" ∷ []) (Wrong (ValueValidation ∷ []))
unfolding clap_on_literals
no_workers = refl

too_many_workers : Ask (codes "--workers" ∷ codes "65" ∷ []) (Wrong (ValueValidation ∷ []))
unfolding clap_on_literals
too_many_workers = refl

other_word : Ask (codes "--threads" ∷ []) (Wrong (UnknownArgument ∷ []))
unfolding clap_on_literals
other_word = refl

help : Ask (codes "--help" ∷ []) (Wrong (DisplayHelp ∷ []))
unfolding clap_on_literals
help = refl

version : Ask (codes "--version" ∷ []) (Wrong (DisplayVersion ∷ []))
unfolding clap_on_literals
version = refl

two_names : Ask (codes "a" ∷ codes "b" ∷ []) (Trace (Some (codes "a")) OnTerminal (Report (record { mode = Workers None; json = false; notes = false })) plain)
unfolding clap_on_literals
two_names = refl

further_names : further_of (codes "x25scan" ∷ codes "a" ∷ codes "--json" ∷ codes "b" ∷ codes "c" ∷ []) ≡ codes "b" ∷ codes "c" ∷ []
unfolding clap_on_literals
further_names = refl

one_name : further_of (codes "x25scan" ∷ codes "a" ∷ []) ≡ []
unfolding clap_on_literals
one_name = refl

name_after_standard : Ask (codes "-" ∷ codes "b" ∷ []) Conflict
unfolding clap_on_literals
name_after_standard = refl

dash : Ask (codes "-" ∷ []) (Trace None OnTerminal (Report (record { mode = Workers None; json = false; notes = false })) plain)
unfolding clap_on_literals
dash = refl

alone : Ask (codes "--workers" ∷ codes "2" ∷ codes "--alone" ∷ codes "day.trace" ∷ []) (Trace (Some (codes "day.trace")) OnTerminal (Report (record { mode = Alone; json = false; notes = false })) plain)
unfolding clap_on_literals
alone = refl

followed : Ask (codes "--alone" ∷ codes "--follow" ∷ codes "--json" ∷ []) (Trace None Never (Report (record { mode = Follow; json = true; notes = false })) plain)
unfolding clap_on_literals
followed = refl

followed_with_progress : Ask (codes "--follow" ∷ codes "--progress" ∷ []) (Trace None Always (Report (record { mode = Follow; json = false; notes = false })) plain)
unfolding clap_on_literals
followed_with_progress = refl

explained : Ask (codes "--explain" ∷ codes "22" ∷ codes "--json" ∷ codes "day.trace" ∷ []) (Explanation (codes "22"))
unfolding clap_on_literals
explained = refl

listed : Ask (codes "--explain" ∷ codes "--alone" ∷ []) (Explanation [])
unfolding clap_on_literals
listed = refl

explained_twice : Ask (codes "--explain" ∷ codes "1" ∷ codes "--explain" ∷ codes "2" ∷ []) (Wrong (ArgumentConflict ∷ []))
unfolding clap_on_literals
explained_twice = refl

annotated : Ask (codes "--annotate" ∷ codes "--progress" ∷ []) (Trace None Never (Printing (record { form = Comments; rows = All })) plain)
unfolding clap_on_literals
annotated = refl

annotated_call : Ask (codes "--call" ∷ codes "7" ∷ []) (Trace None Never (Printing (record { form = Comments; rows = Chosen None (Some 7) })) plain)
unfolding clap_on_literals
annotated_call = refl

annotated_json : Ask (codes "--annotate" ∷ codes "--json" ∷ []) Conflict
unfolding clap_on_literals
annotated_json = refl

channel_of_no_interface : Ask (codes "--channel" ∷ codes "4096" ∷ []) (Wrong (ValueValidation ∷ []))
unfolding clap_on_literals
channel_of_no_interface = refl

rows_of_channel : Ask (codes "--rows" ∷ codes "--channel" ∷ codes "+3" ∷ codes "--json" ∷ []) (Trace None Never (Printing (record { form = Objects; rows = Chosen (Some 3) None })) plain)
unfolding clap_on_literals
rows_of_channel = refl

annotated_rows : Ask (codes "--rows" ∷ codes "--annotate" ∷ []) Conflict
unfolding clap_on_literals
annotated_rows = refl

findings_of_call : Ask (codes "--findings" ∷ codes "--call" ∷ codes "7" ∷ []) (Trace None Never (Printing (record { form = Findings; rows = Chosen None (Some 7) })) plain)
unfolding clap_on_literals
findings_of_call = refl

findings_and_rows : Ask (codes "--rows" ∷ codes "--findings" ∷ []) Conflict
unfolding clap_on_literals
findings_and_rows = refl

calls : Ask (codes "--calls" ∷ codes "--json" ∷ []) (Trace None Never (Printing (record { form = TableObjects; rows = All })) plain)
unfolding clap_on_literals
calls = refl

calls_of_channel : Ask (codes "--calls" ∷ codes "--channel" ∷ codes "3" ∷ []) Conflict
unfolding clap_on_literals
calls_of_channel = refl

headers : Ask (codes "--try-headers" ∷ codes "day.trace" ∷ []) (Trace (Some (codes "day.trace")) OnTerminal Headers plain)
unfolding clap_on_literals
headers = refl

headers_of_rows : Ask (codes "--try-headers" ∷ codes "--rows" ∷ []) Conflict
unfolding clap_on_literals
headers_of_rows = refl

notes : Ask (codes "--notes" ∷ []) (Trace None OnTerminal (Report (record { mode = Alone; json = false; notes = true })) plain)
unfolding clap_on_literals
notes = refl

notes_alone : Ask (codes "--notes" ∷ codes "--workers" ∷ codes "2" ∷ codes "--alone" ∷ []) (Trace None OnTerminal (Report (record { mode = Alone; json = false; notes = true })) plain)
unfolding clap_on_literals
notes_alone = refl

notes_of_workers : Ask (codes "--notes" ∷ codes "--workers" ∷ codes "2" ∷ []) Conflict
unfolding clap_on_literals
notes_of_workers = refl

notes_of_calls : Ask (codes "--notes" ∷ codes "--calls" ∷ []) Conflict
unfolding clap_on_literals
notes_of_calls = refl

header_given : Ask (codes "--mod" ∷ codes "128" ∷ codes "--win" ∷ codes "9" ∷ codes "--size" ∷ codes "256" ∷ codes "--out" ∷ codes "7" ∷ codes "--no-join" ∷ codes "day.pcap" ∷ []) (Trace (Some (codes "day.pcap")) OnTerminal (Report (record { mode = Workers None; json = false; notes = false }))
    (record plain { header = record none_given { modulus = Some Extended; window = Some 9; size = Some 256; outgoing = Some 7; join = Some false } }))
unfolding clap_on_literals
header_given = refl

line_chosen : Ask (codes "--as" ∷ codes "x25" ∷ codes "--only" ∷ codes "x25" ∷ codes "--interface" ∷ codes "3" ∷ codes "--lapb-modulo" ∷ codes "8" ∷ codes "day.pcap" ∷ []) (Trace (Some (codes "day.pcap")) OnTerminal (Report (record { mode = Workers None; json = false; notes = false }))
    (record plain { choices = record plain_choices { unknown = Some kind.Packet; carrier = Some carrier.Packet; interface = Some 3 }; modulus = Some Basic; source = Some Line }))
unfolding clap_on_literals
line_chosen = refl

xot_chosen : Ask (codes "--only" ∷ codes "xot" ∷ codes "--port" ∷ codes "2000" ∷ codes "--as" ∷ codes "ip" ∷ codes "day.pcap" ∷ []) (Trace (Some (codes "day.pcap")) OnTerminal (Report (record { mode = Workers None; json = false; notes = false }))
    (record plain { choices = record plain_choices { unknown = Some kind.Internet }; source = Some Xot; port = 2000 }))
unfolding clap_on_literals
xot_chosen = refl

other_carrier : Ask (codes "--only" ∷ codes "ip" ∷ codes "day.pcap" ∷ []) Conflict
unfolding clap_on_literals
other_carrier = refl

no_port : Ask (codes "--port" ∷ codes "0" ∷ codes "day.pcap" ∷ []) (Wrong (ValueValidation ∷ []))
unfolding clap_on_literals
no_port = refl

other_size : Ask (codes "--size" ∷ codes "100" ∷ []) Conflict
unfolding clap_on_literals
other_size = refl

kind_with_link_type : Ask (codes "--as" ∷ codes "147=lapb" ∷ []) Conflict
unfolding clap_on_literals
kind_with_link_type = refl

swapped : Ask (codes "--swap" ∷ codes "--trace" ∷ codes "--only" ∷ codes "lapb" ∷ codes "day.pcap" ∷ []) (Trace (Some (codes "day.pcap")) Never Text (record plain { choices = record plain_choices { carrier = Some carrier.Lapb }; is_swapped = true; source = Some Line }))
unfolding clap_on_literals
swapped = refl

swapped_standard : Ask (codes "--swap" ∷ codes "-" ∷ []) Conflict
unfolding clap_on_literals
swapped_standard = refl

text_as_json : Ask (codes "--trace" ∷ codes "--json" ∷ []) Conflict
unfolding clap_on_literals
text_as_json = refl

last_channels_twice : Ask (codes "--svc" ∷ codes "7" ∷ codes "--out" ∷ codes "7" ∷ []) Conflict
unfolding clap_on_literals
last_channels_twice = refl
