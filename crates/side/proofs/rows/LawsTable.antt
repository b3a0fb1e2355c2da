-- Laws of an order and its row. Assumes nothing.
use Prim.Native.Nat.{◌≤◌}
use mathlib.Core.Bool.{Bool, true, false}
use mathlib.Core.List.{List, [], ◌∷◌, map}
use mathlib.Core.Path.{◌≡◌, refl, ap}
use native.Mathlib.Omega.{arith}
use Rattle.std.specs.Int.{from_bool}
use Rattle.rules.specs.declared.Resting.{Resting}
use Rattle.side.specs.Table.{order_of, row_of}

pub flag_small : (b : Bool) → from_bool b ≤ 1
flag_small true = omega arith
flag_small false = omega arith

pub orders_rows : (s : List Resting) → map order_of (map row_of s) ≡ s
orders_rows [] = refl
orders_rows (o ∷ s) = ap (λ (r : List Resting). o ∷ r) (orders_rows s)
