-- The contract that is open to the crate determines the names of its index: any two outcomes that meet it agree in these; of its hints nothing
-- is said. The contract is read here as the checker reads it from the source (`Post`), not from a copy. Assumes nothing.
use Prim.Native.Nat.{ℕ, ◌<◌}
use mathlib.Core.List.{List}
use mathlib.Core.Path.{◌≡◌, sym, ◌∙◌}
use lib.ListN.{get_or}
use Rattle.rules.specs.Book.{places_a_side}
use Rattle.side.proofs.tables.own_rows.Reads as own-rows

pub own_rows_determined : (κs : _) (a : _) (r r' : List ℕ) (s s' : _) → own-rows.Post κs a r s → own-rows.Post κs a r' s'
    → (i : ℕ) → i < places_a_side → get_or r i 0 ≡ get_or r' i 0
own_rows_determined κs a r r' s s' p q i l = p.each i l ∙ sym (q.each i l)
