-- The library's version, as C is told it: one number.
use Rattle.std.specs.Prelude.{ℕ, ◌+◌, ◌*◌}

-- major: what a caller had stands for something else now. minor: something is added. patch: neither. The last two are below 100.
abbrev pub major : ℕ
major = 5

abbrev pub minor : ℕ
minor = 1

abbrev pub patch : ℕ
patch = 0

abbrev pub version : ℕ
version = major * 10000 + minor * 100 + patch
