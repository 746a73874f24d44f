-- The limits of the project.
use Rattle.std.specs.Prelude.{ℕ}

-- the most bytes of a board, fuse or plan file
abbrev pub most_file_bytes : ℕ
most_file_bytes = 1048576
