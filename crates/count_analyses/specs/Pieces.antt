-- What the program's functions say of a file's bytes as they are read, and of a text as it is written.
-- Assumes nothing.
use Rattle.std.specs.Prelude.{◌≡◌, List, ℕ, ◌+◌, ◌-◌, ◌<◌, ◌≤◌, min, length, take}
use Rattle.std.proofs.Math.Seq.{paste}
use Rattle.std.specs.Prelude.{Option, Some, None, Result, Ok, Err}
use Rattle.std.specs.declared.io.Error.{Error}
use Rattle.count_analyses.specs.declared.Loaded.{Loaded}

-- the first n bytes of xs are there, and are n bytes
abbrev pub IsPrefixLen : ℕ → List ℕ → Type 0
IsPrefixLen n xs = (n ≤ length xs) × (n ≡ length (take n xs))

-- no more bytes are moved than the buffer has
abbrev pub PieceSays : List ℕ → Result (Option ℕ) Error → Type 0
PieceSays buf (Ok (Some n)) = n ≤ length buf
PieceSays buf (Ok None) = Unit {0}
PieceSays buf (Err why) = Unit {0}

-- the chunk's first n bytes, as many as there is room for, stand in the buffer behind its first `done`; `r` bytes are there then, and the rest is as it was
abbrev pub Appended : List ℕ → ℕ → List ℕ → ℕ → List ℕ → ℕ → Type 0
Appended chunk n before done after r = (r ≡ done + min n (length before - done)) × (after ≡ paste before done chunk (min n (length before - done)))

-- after one more read so many bytes stand in the buffer
abbrev pub ReadingSays : List ℕ → Result (Option Loaded) Error → Type 0
ReadingSays buf (Ok (Some loaded)) = loaded.bytes ≤ length buf
ReadingSays buf (Ok None) = Unit {0}
ReadingSays buf (Err why) = Unit {0}

-- no more is written than the text has
abbrev pub WrittenSays : List ℕ → Result ℕ Error → Type 0
WrittenSays text (Ok done) = done ≤ length text
WrittenSays text (Err why) = Unit {0}
