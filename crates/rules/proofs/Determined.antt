-- Each contract of a method of rules determines its result: any two that meet it are equal. A contract is read here as the checker reads it
-- from the source (`Post`), not from a copy. Assumes nothing.
use mathlib.Core.Bool.{Bool}
use mathlib.Core.Path.{◌≡◌, sym, ◌∙◌}
use Rattle.rules.specs.declared.Held.{Held}
use Rattle.rules.proofs.Order.is_buy.Reads as is-buy
use Rattle.rules.proofs.Held.accepted.Reads as accepted

pub is_buy_determined : (κs : _) (a : _) (r r' : Bool) (s s' : _) → is-buy.Post κs a r s → is-buy.Post κs a r' s' → r ≡ r'
is_buy_determined κs a r r' s s' p q = p ∙ sym q

pub accepted_determined : (κs : _) (a : _) (r r' : Held) (s s' : _) → accepted.Post κs a r s → accepted.Post κs a r' s' → r ≡ r'
accepted_determined κs a r r' s s' p q = p ∙ sym q
