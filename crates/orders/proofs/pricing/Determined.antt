-- Each public contract determines its result and its bytes: any two outcomes that meet it are equal. A contract is read here
-- as the checker reads it from the source (`Post`), not from a copy. Assumes nothing.
use mathlib.Core.Path.{◌≡◌, sym, ◌∙◌}
use Rattle.kinds.specs.declared.HalfCents.{HalfCents}
use Rattle.rules.specs.declared.Ending.{Ending}
use Rattle.orders.proofs.pricing.bound_under.Reads as bound-under
use Rattle.orders.proofs.pricing.locked_price.Reads as locked-price
use Rattle.orders.proofs.pricing.execution_price.Reads as execution-price
use Rattle.orders.proofs.pricing.seek.Reads as seek

pub locked_price_determined : (κs : _) (a : _) (r r' : HalfCents) (s s' : _)
    → locked-price.Post κs a r s → locked-price.Post κs a r' s' → r ≡ r'
locked_price_determined κs a r r' s s' p q = p ∙ sym q

pub execution_price_determined : (κs : _) (a : _) (r r' : HalfCents) (s s' : _)
    → execution-price.Post κs a r s → execution-price.Post κs a r' s' → r ≡ r'
execution_price_determined κs a r r' s s' p q = p ∙ sym q

pub bound_under_determined : (κs : _) (a : _) (r r' : HalfCents) (s s' : _)
    → bound-under.Post κs a r s → bound-under.Post κs a r' s' → r ≡ r'
bound_under_determined κs a r r' s s' p q = p ∙ sym q

pub seek_determined : (κs : _) (a : _) (r r' : Ending) (s s' : _) → seek.Post κs a r s → seek.Post κs a r' s' → r ≡ r'
seek_determined κs a r r' s s' p q = p ∙ sym q
