-- Each contract that is public or open to the crate determines its result: any two outcomes that meet it are equal. A contract is read here
-- as the checker reads it from the source (`Post`), not from a copy. Assumes nothing.
use Prim.Native.Nat.{ℕ}
use mathlib.Core.Bool.{Bool}
use mathlib.Core.Path.{◌≡◌, sym, ◌∙◌}
use Rattle.kinds.specs.declared.Shares.{Shares}
use Rattle.side.specs.declared.rows.Row.{Row}
use Rattle.side.proofs.rows.is_unused.Reads as is-unused
use Rattle.side.proofs.rows.shares_left.Reads as shares_left
use Rattle.side.proofs.rows.level_of.Reads as level-of
use Rattle.side.proofs.rows.row_of.Reads as row-of
use Rattle.side.proofs.rows.hint_of.Reads as hint-of
use Rattle.side.proofs.rows.slot_at.Reads as slot_at

pub is_unused_determined : (κs : _) (a : _) (r r' : Bool) (s s' : _) → is-unused.Post κs a r s → is-unused.Post κs a r' s' → r ≡ r'
is_unused_determined κs a r r' s s' p q = p ∙ sym q

pub shares_left_determined : (κs : _) (a : _) (r r' : Shares) (s s' : _) → shares_left.Post κs a r s → shares_left.Post κs a r' s' → r ≡ r'
shares_left_determined κs a r r' s s' p q = p ∙ sym q

pub level_of_determined : (κs : _) (a : _) (r r' : ℕ) (s s' : _) → level-of.Post κs a r s → level-of.Post κs a r' s' → r ≡ r'
level_of_determined κs a r r' s s' p q = p ∙ sym q

pub row_of_determined : (κs : _) (a : _) (r r' : Row) (s s' : _) → row-of.Post κs a r s → row-of.Post κs a r' s' → r ≡ r'
row_of_determined κs a r r' s s' p q = p ∙ sym q

pub hint_of_determined : (κs : _) (a : _) (r r' : ℕ) (s s' : _) → hint-of.Post κs a r s → hint-of.Post κs a r' s' → r ≡ r'
hint_of_determined κs a r r' s s' p q = p ∙ sym q

pub slot_at_determined : (κs : _) (a : _) (r r' : ℕ) (s s' : _) → slot_at.Post κs a r s → slot_at.Post κs a r' s' → r ≡ r'
slot_at_determined κs a r r' s s' p q = p.0 ∙ sym q.0
