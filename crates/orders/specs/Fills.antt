-- A side after a walk: every order without what was taken from it, and without the orders that have nothing left.
use Rattle.std.specs.Prelude.{ℕ, ◌+◌, ◌≤◌, List, [], ◌∷◌, eqb, if◌then◌else◌}
use Rattle.rules.specs.declared.Resting.{Resting}
use Rattle.rules.specs.Book.{shares_left}
use Rattle.side.specs.Shifts.{less_by, keepers}
use Rattle.orders.specs.declared.takings.Taking.{Taking}

-- all that was taken from the order at rank i
unfoldable pub taken_at : ℕ → List Taking → ℕ
taken_at i [] = 0
taken_at i (k ∷ ks) = (if eqb k.place i then k.shares.0 else 0) + taken_at i ks

-- the orders from rank i on without what was taken from them
unfoldable pub lessened : ℕ → List Taking → List Resting → List Resting
lessened i ks [] = []
lessened i ks (h ∷ s) = less_by (taken_at i ks) h ∷ lessened (i + 1) ks s

-- the minimum of an order is no more than what is left of it, so that nothing taken leaves it as it is (02, W7)
abbrev pub MinimumRemains : Resting → Type 0
MinimumRemains h = h.minimum.0 ≤ shares_left h

abbrev pub after_takings : List Taking → List Resting → List Resting
after_takings ks s = keepers (lessened 0 ks s)
