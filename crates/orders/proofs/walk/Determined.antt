-- Each public contract determines its result and the takings: any two outcomes that meet it are equal. A contract is read here as the checker
-- reads it from the source (`Post`), not from a copy. Assumes nothing.
use mathlib.Core.Path.{◌≡◌, sym, ◌∙◌}
use Rattle.orders.specs.declared.walk.Walked.{Walked}
use Rattle.orders.proofs.walk.walk.Reads as walk

pub walk_determined : (κs : _) (a : _) (r r' : Walked) (s s' : _) → walk.Post κs a r s → walk.Post κs a r' s'
    → (r ≡ r') × (s.1.1.1.1.0.now ≡ s'.1.1.1.1.0.now)
walk_determined κs a r r' s s' p q = (p.0 ∙ sym q.0, p.1 ∙ sym q.1)
