-- The locks of 02's W6 by one price: LawsLocks shows that a hidden order of the opposite side is locked exactly where it rests at it.
use Rattle.std.specs.Prelude.{List, [], ◌∷◌, Bool, ◌≡◌, eqb, if◌then◌else◌}
use Rattle.kinds.specs.declared.HalfCents.{HalfCents}
use Rattle.kinds.specs.Kinds.{half_cents}
use Rattle.rules.specs.declared.Resting.{Resting}
use Rattle.rules.specs.Working.{is_locked, half_a_cent_the_incoming_way}

-- the best price of a side, if its best order is displayed; 0 for none
unfoldable pub locked_price : List Resting → HalfCents
locked_price [] = half_cents 0
locked_price (best ∷ s) = if best.displayed then best.price else half_cents 0

-- the price of an execution against an order that rests at a price
abbrev pub executes_at : Bool → HalfCents → HalfCents → HalfCents
executes_at buy locked price = if eqb price.0 locked.0 then half_a_cent_the_incoming_way buy price else price

-- beside a side, the price of an order alone tells whether it is locked
abbrev pub ToldByPrice : List Resting → Resting → Type 0
ToldByPrice own h = is_locked own h ≡ eqb h.price.0 (locked_price own).0
