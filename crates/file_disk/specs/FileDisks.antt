-- What a disk over a file is to its callers.
use Rattle.std.specs.Prelude.{ℕ}
use Rattle.file_disk.specs.declared.file_disk.FileDisk.{FileDisk}

-- the disk that says what the file holds
abbrev pub inner_of : {D : Type 0} → FileDisk D → D
inner_of f = f.inner

-- how often the file failed
abbrev pub failures_of : {D : Type 0} → FileDisk D → ℕ
failures_of f = f.faults
