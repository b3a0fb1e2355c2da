-- The steps of a loop over a part of an index: each is its own place. Assumes nothing.
use Prim.Native.Nat.{ℕ, ◌<◌}
use mathlib.Core.List.{List}
use mathlib.Core.Path.{◌≡◌, ◌∙◌}
use lib.ListN.{get_or}
use native.Mathlib.Omega.{arith}
use Rattle.std.specs.List.{range_with_len}
use Rattle.std.proofs.lemmas.List.FromFn.{get_or-range_with_len}
use Rattle.side.specs.Table.{places_a_part}

-- the code's list of them
abbrev pub steps : List ℕ
steps = range_with_len 0 places_a_part

pub step_at : (k : ℕ) → k < places_a_part → get_or steps k 0 ≡ k
step_at k l = get_or-range_with_len 0 places_a_part k 0 l ∙ omega arith
