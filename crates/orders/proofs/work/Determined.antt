-- Each public contract determines its result and the takings: any two outcomes that meet it are equal. A contract is read here
-- as the checker reads it from the source (`Post`), not from a copy. Assumes nothing.
use mathlib.Core.Path.{◌≡◌, sym, ◌∙◌}
use Rattle.kinds.specs.declared.Shares.{Shares}
use Rattle.rules.specs.declared.Ending.{Ending}
use Rattle.orders.specs.declared.walk.Walked.{Walked}
use Rattle.orders.proofs.work.walk_of.Reads as walk_of
use Rattle.orders.proofs.work.ending_of.Reads as Ending-of
use Rattle.orders.proofs.work.minimum_of.Reads as minimum-of

pub walk_of_determined : (κs : _) (a : _) (r r' : Walked) (s s' : _) → walk_of.Post κs a r s → walk_of.Post κs a r' s'
    → (r ≡ r') × (s.1.1.1.0.now ≡ s'.1.1.1.0.now)
walk_of_determined κs a r r' s s' p q = (p.0 ∙ sym q.0, p.1 ∙ sym q.1)

pub ending_of_determined : (κs : _) (a : _) (r r' : Ending) (s s' : _) → Ending-of.Post κs a r s → Ending-of.Post κs a r' s' → r ≡ r'
ending_of_determined κs a r r' s s' p q = p ∙ sym q

pub minimum_of_determined : (κs : _) (a : _) (r r' : Shares) (s s' : _) → minimum-of.Post κs a r s → minimum-of.Post κs a r' s' → r ≡ r'
minimum_of_determined κs a r r' s s' p q = p ∙ sym q
