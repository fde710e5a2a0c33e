-- What a capture file has, by its octets.
use Rattle.std.specs.Prelude.{ℕ, Bool, List, Option, None, Some, drop}
use Rattle.capture_files.specs.declared.capture.CaptureFile.{CaptureFile}
use Rattle.capture_files.specs.declared.capture.CaptureFile.TheVariants.{Pcap, Pcapng}
use Rattle.capture_files.specs.declared.pcap.PcapForm.{PcapForm}
use Rattle.capture_files.specs.PcapFiles.{pcap_left, pcap_records}
use Rattle.capture_files.specs.PcapHeaders.{form_of}
use Rattle.capture_files.specs.PcapngFiles.{pcapng_left, pcapng_records}
use Rattle.capture_files.specs.Records.{Record}

-- the records of a file with the header of a pcap file, or with none
abbrev pub records_by : Option PcapForm → (last : ℕ) → List ℕ → Option (List Record)
records_by (Some f) last file = pcap_records f last (drop 24 file)
records_by None last file = pcapng_records last file

-- the records of a whole file, after the frame of the number `last`; none where it is no undamaged pcap or pcapng file
abbrev pub records_of : (may_wait : Bool) → (last : ℕ) → List ℕ → Option (List Record)
records_of may_wait last file = records_by (form_of may_wait file) last file

-- those that its reader has left, of what is still to be read
abbrev pub records_left : CaptureFile → Option (List ℕ) → Option (List Record)
records_left (Pcap p) file = pcap_left p file
records_left (Pcapng p) file = pcapng_left p file
