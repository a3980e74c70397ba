-- The opening of the Magellan per-orbit parameters (document 01, "Per-orbit opening"; source document 001, appendix D,
-- parameters 1 to 3): orbit number, start time and stop time, in 20 bytes.
use Rattle.std.specs.Prelude.{ℕ, ◌+◌, ◌*◌, List, length, leb, Float}
use Rattle.answer.specs.Outcome.{Outcome, answer, refuse, need, and_then}
use Rattle.answer.specs.Window.{bytes_at}
use Rattle.vax.specs.Fields.{word_at}
use Rattle.vax.specs.Numbers.{vax_D}
use Rattle.orbit.specs.declared.Opening.{Opening}

-- bytes 0-3, unsigned little-endian: two words, the lower first
abbrev pub orbit_number : List ℕ → ℕ
orbit_number s = word_at s 0 + 65536 * word_at s 2

-- a refusal inside a part that begins at `at`, its place counted from the first byte lent
abbrev pub in_part : ℕ → Outcome Float → Outcome Float
in_part at (answer x) = answer x
in_part at (refuse n p) = refuse n (at + p)

-- the D number in the eight bytes from `at` on
abbrev pub time_at : List ℕ → ℕ → Outcome Float
time_at s at = in_part at (vax_D (bytes_at s at 8))

-- refusal 1 first, then 9 of the start, then 9 of the stop
abbrev pub per_orbit_opening : List ℕ → Outcome Opening
per_orbit_opening s =
    need (leb 20 (length s)) 1
    (and_then (time_at s 4) (λ start.
    and_then (time_at s 12) (λ stop.
    answer (record { orbit = orbit_number s; start = start; stop = stop }))))
