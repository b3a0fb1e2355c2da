-- What the refills of a side ask for (02, W4), and a sound book gives once a walk has taken of it.
use Rattle.std.specs.Prelude.{ℕ, ◌≤◌, Bool, true, List, ◌≡◌, length, drop}
use Rattle.basics.specs.Lists.{All}
use Rattle.kinds.specs.declared.Number.{Number}
use Rattle.rules.specs.declared.Resting.{Resting}
use Rattle.rules.specs.Book.{places_a_side, stamp, in_rank_order, shares_left}
use Rattle.rules.specs.Settling.{first_move}
use Rattle.side.specs.Looking.{Older}
use Rattle.side.specs.Shifts.{Countable}

-- an order that stands has something left, in a number that four bytes hold
pub record Refillable (h : Resting) : Type 0 where
  pub is_left : 1 ≤ shares_left h
  pub countable : Countable h

-- the orders from rank `reached` on, which the walk did not reach, show something
pub record MayRefill (buy : Bool) (n : Number) (reached : ℕ) (s : List Resting) : Type 0 where
  pub fits : length s ≤ places_a_side
  pub within : reached ≤ length s
  pub ranked : in_rank_order buy s ≡ true
  pub older : All (Older (stamp n first_move)) s
  pub shown : All (λ (h : Resting). 1 ≤ h.shares.0) (drop reached s)
  pub left : All Refillable s
