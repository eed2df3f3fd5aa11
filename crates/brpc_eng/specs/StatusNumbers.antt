-- The number of a status.
use Rattle.std.specs.Prelude.{ℕ}
use Rattle.brpc_eng.specs.declared.status.Status.{Status}
use Rattle.brpc_eng.specs.declared.status.Status.TheVariants.{Done, WrongWords, FaultyScript, SourceFailed, SinkFailed, TooLong, NoMemory, OpenFailed, FaultyFrames}

abbrev pub number_of : Status → ℕ
number_of Done = 0
number_of WrongWords = 2
number_of FaultyScript = 3
number_of SourceFailed = 4
number_of SinkFailed = 5
number_of TooLong = 6
number_of NoMemory = 7
number_of OpenFailed = 8
number_of FaultyFrames = 9
