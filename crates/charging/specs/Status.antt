-- How a run ends: the cause of each status, and the last line (this product's own).
use Rattle.std.specs.Prelude.{ℕ, ◌^◌, ◌<◌, ◌≤◌, List, [], ◌++◌, length, take, Option, IfSome, ⊤, codes}
use Rattle.std.specs.Fmt.{decimal}
use Rattle.std.specs.Io.KnownBytes.{Appends}
use Rattle.edge.specs.Faults.{CountRose}
use Rattle.charging.specs.declared.status.Status.{Status}
use Rattle.charging.specs.declared.status.Status.TheVariants as status
use Rattle.charging.specs.declared.words.Task.{Task}
use Rattle.charging.specs.Tasks.{Refuses}

-- the number that the program exits with
abbrev pub code_of : Status → ℕ
code_of status.Ok = 0
code_of status.Usage = 1
code_of (status.BadInput row) = 2
code_of status.ReadFault = 3
code_of status.WriteFault = 4
code_of status.OutOfMemory = 9
code_of status.InputTooLong = 12

-- the last line that a status prints
abbrev pub error_line : Status → List ℕ
error_line status.Ok = []
error_line status.Usage = codes "error: usage\n"
error_line (status.BadInput row) = codes "error: bad input at row " ++ (decimal row ++ codes "\n")
error_line status.ReadFault = codes "error: read fault\n"
error_line status.WriteFault = []
error_line status.OutOfMemory = codes "error: out of memory\n"
error_line status.InputTooLong = codes "error: input too long\n"

-- a text was written: some of it from the front, and all of it unless the sink's count of faults rose
pub record WritesText (text : List ℕ) (before now : Option (List ℕ)) (faults_before faults_now : ℕ) : Type 0 where
  pub count : ℕ
  pub written : Appends before now (take count text)
  pub whole : ¬ CountRose faults_before faults_now → length text ≤ count

-- what a status that ends a run before its output says of the input
abbrev pub EndedBy : Task → Status → Option (List ℕ) → ℕ → ℕ → Type 0
EndedBy task status.Ok left before now = ⊥
EndedBy task status.Usage left before now = ⊥
EndedBy task (status.BadInput row) left before now = IfSome left (λ bytes. Refuses task bytes row)
EndedBy task status.ReadFault left before now = CountRose before now
EndedBy task status.WriteFault left before now = ⊥
EndedBy task status.OutOfMemory left before now = ⊤
EndedBy task status.InputTooLong left before now = IfSome left (λ bytes. 2 ^ 28 < length bytes)

-- the statuses at which the input was read to its end
abbrev pub ReadsToEnd : Status → Type 0
ReadsToEnd status.Ok = ⊤
ReadsToEnd status.Usage = ⊥
ReadsToEnd (status.BadInput row) = ⊤
ReadsToEnd status.ReadFault = ⊥
ReadsToEnd status.WriteFault = ⊤
ReadsToEnd status.OutOfMemory = ⊥
ReadsToEnd status.InputTooLong = ⊥
