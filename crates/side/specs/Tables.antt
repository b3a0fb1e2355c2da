-- An index of a side as it is loaded.
use Rattle.std.specs.Prelude.{ℕ, ◌-◌, ◌<◌, List, ◌≡◌, ltb, length, get_or, if◌then◌else◌}
use Rattle.rules.specs.Book.{places_a_side}
use Rattle.side.specs.Table.{index_size}

-- the orders stand in the first n rows, in rank order
abbrev pub numbered_at : ℕ → ℕ → ℕ
numbered_at n i = if ltb i n then n - 1 - i else i

pub record Numbered (n : ℕ) (x : List ℕ) : Type 0 where
  pub long : length x ≡ index_size
  pub each : (i : ℕ) → i < places_a_side → get_or x i 0 ≡ numbered_at n i
