-- Each public contract determines its result and its bytes: any two outcomes that meet it are equal. A contract is read here
-- as the checker reads it from the source (`Post`), not from a copy. Assumes nothing.
use mathlib.Core.Path.{◌≡◌, sym, ◌∙◌}
use mathlib.Core.Bool.{Bool}
use Rattle.std.specs.Prelude.{Result}
use Rattle.rules.specs.declared.Refusal.{Refusal}
use Rattle.judge.proofs.header.Reads as header
use Rattle.judge.proofs.order_lawful.Reads as order-lawful
use Rattle.judge.proofs.order_in_range.Reads as order-in-range
use Rattle.judge.proofs.away_in_range.Reads as away-in-range

pub header_determined : (κs : _) (a : _) (r r' : Result (Unit {0}) Refusal) (s s' : _) → header.Post κs a r s → header.Post κs a r' s' → r ≡ r'
header_determined κs a r r' s s' p q = p ∙ sym q

pub order_lawful_determined : (κs : _) (a : _) (r r' : Bool) (s s' : _) → order-lawful.Post κs a r s → order-lawful.Post κs a r' s' → r ≡ r'
order_lawful_determined κs a r r' s s' p q = p ∙ sym q

pub order_in_range_determined : (κs : _) (a : _) (r r' : Bool) (s s' : _) → order-in-range.Post κs a r s → order-in-range.Post κs a r' s' → r ≡ r'
order_in_range_determined κs a r r' s s' p q = p ∙ sym q

pub away_in_range_determined : (κs : _) (a : _) (r r' : Bool) (s s' : _) → away-in-range.Post κs a r s → away-in-range.Post κs a r' s' → r ≡ r'
away_in_range_determined κs a r r' s s' p q = p ∙ sym q
