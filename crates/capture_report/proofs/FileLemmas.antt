-- The records that the frames of a file show.
use Rattle.std.proofs.Common.{◌≡◌, ap, Bool, ℕ, List, [], Option, None, Some, is_some, refl}
use Rattle.std.specs.Option.{option_and_then}
use Rattle.capture_files.specs.CaptureFiles.{records_left, records_of}
use Rattle.capture_files.specs.Records.{Follows, Record}
use Rattle.capture_files.specs.Windows.{Passes, still}
use Rattle.capture_files.specs.declared.capture.CaptureFile.{CaptureFile}
use Rattle.capture_files.proofs.FileLemmas.{follows_unshown}
use Rattle.capture_report.specs.Entries.{IsStillShown, shown_left}

-- a file was opened, of which nothing was read before
pub opened_shown : (ahead header : List ℕ) (at_first after : Option (List ℕ)) → ahead ≡ [] → Passes (still ahead at_first) after header → IsStillShown at_first after
opened_shown ahead header None after none passes = λ some. cc some
opened_shown ahead header (Some file) after none passes = λ some. ap is_some (passes file (ap (λ xs. still xs (Some file)) none)).1

pub opened_left : (may_wait : Bool) (n : ℕ) (ahead : List ℕ) (at_first now : Option (List ℕ)) (file : CaptureFile) → ahead ≡ [] → ((octets : List ℕ) → still ahead at_first ≡ Some octets → records_left file now ≡ records_of may_wait n octets)
    → shown_left at_first file now ≡ option_and_then (records_of may_wait n) at_first
opened_left may_wait n ahead None now file none same = refl
opened_left may_wait n ahead (Some octets) now file none same = same octets (ap (λ xs. still xs (Some octets)) none)

-- what comes next
pub follows_shown : (at_first before after : Option (List ℕ)) (old new : CaptureFile) (r : Option Record) → Follows (records_left old before) (records_left new after) r → Follows (shown_left at_first old before) (shown_left at_first new after) r
follows_shown None before after old new r follows = follows_unshown _ _ _ (λ records shown. cc shown)
follows_shown (Some octets) before after old new r follows = follows
