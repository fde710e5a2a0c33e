-- Why a trace could not be opened, by what the system says.
use Rattle.std.specs.Prelude.{◌≡◌, Option, None, Some, ⊤}
use Rattle.std.specs.IoError.{error_kind}
use Rattle.std.specs.declared.io.Error.{Error}
use Rattle.std.specs.declared.io.ErrorKind.{ErrorKind}
use Rattle.std.specs.declared.io.ErrorKind.TheVariants.{IsADirectory, NotADirectory, NotFound, PermissionDenied}
use Rattle.streams.specs.declared.input.OpenFault.{OpenFault}
use Rattle.streams.specs.declared.input.OpenFault.TheVariants.{Capture, Denied, Directory, Missing, Refused}
use Rattle.streams.specs.declared.input.OpenRefusal.{OpenRefusal}

-- the fault of an error of this kind
abbrev pub fault_of : ErrorKind → OpenFault
fault_of NotFound = Missing
fault_of NotADirectory = Missing
fault_of PermissionDenied = Denied
fault_of IsADirectory = Directory
fault_of _ = Refused

-- the fault is that of the system's reason; a capture is refused without one
abbrev pub IsBy : Option Error → OpenFault → Type 0
IsBy (Some reason) fault = fault ≡ fault_of (error_kind reason)
IsBy None (Capture fault) = ⊤
IsBy None fault = ⊥

abbrev pub IsByItsReason : OpenRefusal → Type 0
IsByItsReason refusal = IsBy refusal.reason refusal.fault
