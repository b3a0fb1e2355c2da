-- Each contract that is open to the crate determines its result, the side and the bytes: any two outcomes that meet it are equal. A contract
-- is read here as the checker reads it from the source (`Post`), not from a copy. Assumes nothing.
use Prim.Native.Nat.{ℕ}
use mathlib.Core.Path.{◌≡◌, sym, ◌∙◌}
use Rattle.kinds.specs.declared.Shares.{Shares}
use Rattle.orders.proofs.refills.refill.Reads as refill
use Rattle.orders.proofs.refills.shown_of.Reads as Shown-of

pub shown_of_determined : (κs : _) (a : _) (r r' : Shares) (s s' : _) → Shown-of.Post κs a r s → Shown-of.Post κs a r' s' → r ≡ r'
shown_of_determined κs a r r' s s' p q = p ∙ sym q

pub refill_determined : (κs : _) (a : _) (r r' : ℕ) (s s' : _) → refill.Post κs a r s → refill.Post κs a r' s'
    → (r ≡ r') × (s.0.now ≡ s'.0.now) × (s.1.1.1.1.0.now ≡ s'.1.1.1.1.0.now)
refill_determined κs a r r' s s' p q = (p.0 ∙ sym q.0, p.1.0 ∙ sym q.1.0, p.1.1 ∙ sym q.1.1)
