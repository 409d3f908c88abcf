-- What a clause reads of a disk over a file (this product's own).
use Rattle.std.specs.Prelude.{ℕ, List, drop}
use Rattle.edge.specs.declared.file_disk.FileDisk.{FileDisk}
use Rattle.edge.specs.declared.epoch_text.EpochText.{EpochText}

-- the faults so far
abbrev pub disk_faults : {R File Dir : Type 0} → FileDisk R File Dir → ℕ
disk_faults disk = disk.count

-- the bytes of an epoch's text
abbrev pub epoch_bytes : EpochText → List ℕ
epoch_bytes text = drop text.from text.text
