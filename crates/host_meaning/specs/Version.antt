-- The version that the library answers to C: that of the header.
use Rattle.std.specs.Prelude.{ℕ, ◌+◌, ◌*◌}

-- major, minor and patch as one number
abbrev pub version_of : ℕ → ℕ → ℕ → ℕ
version_of major minor patch = major * 65536 + minor * 256 + patch

-- 1.1.0
abbrev pub version : ℕ
version = version_of 1 1 0
