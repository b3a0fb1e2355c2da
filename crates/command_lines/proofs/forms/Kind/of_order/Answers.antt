-- `command_lines::forms::Kind::of_order` meets its contract: the fields have 8, 16 and 32 bits. Assumes nothing.
use Prim.Native.Nat.{ℕ, ◌<◌}
use mathlib.Core.List.{List, ◌∷◌}
use native.Mathlib.Omega.{arith}
use Rattle.rules.specs.declared.Order.{Order}
use Rattle.rules.specs.CommandLines.{Fitting, empty, fits}
use Rattle.command_lines.proofs.forms.Kind.of_order.Goals as goal

-- the fields that every order has, before those that fit what it carries
fields_fit : (o : Order) → o.side < 256 → o.word < 65536 → o.price.0 < 4294967296 → o.shares.0 < 4294967296
    → {ws ns : List ℕ} → Fitting ws ns → Fitting (1 ∷ 2 ∷ 4 ∷ 4 ∷ ws) (o.side ∷ o.word ∷ o.price.0 ∷ o.shares.0 ∷ ns)
fields_fit o side word price count f = fits 1 o.side side (fits 2 o.word word (fits 4 o.price.0 price (fits 4 o.shares.0 count f)))

pub returns-in-Nothing-clause-fitting : goal.returns-in-Nothing-clause-fitting
returns-in-Nothing-clause-fitting c =
    rw c.in-Nothing.is (fields_fit c.args.order (omega arith) (omega arith) (omega arith) (omega arith) empty)

pub returns-in-MaxFloor-clause-fitting : goal.returns-in-MaxFloor-clause-fitting
returns-in-MaxFloor-clause-fitting c =
    let last = fits 4 c.in-MaxFloor.floor.0 (omega arith) empty in
    rw c.in-MaxFloor.is (fields_fit c.args.order (omega arith) (omega arith) (omega arith) (omega arith) last)

pub returns-in-Minimum-clause-fitting : goal.returns-in-Minimum-clause-fitting
returns-in-Minimum-clause-fitting c =
    let last = fits 4 c.in-Minimum.least.0 (omega arith) empty in
    rw c.in-Minimum.is (fields_fit c.args.order (omega arith) (omega arith) (omega arith) (omega arith) last)
