-- An order is of one of the kinds of order: what it carries is read first, and then the fields that every order has. Assumes nothing.
use Prim.Native.Nat.{ℕ}
use mathlib.Core.Bool.{Bool, true, false}
use mathlib.Core.List.{List, []}
use mathlib.Core.Path.{◌≡◌, refl, ◌∙◌}
use Rattle.std.specs.Prelude.{if◌then◌else◌, Option, Some, None}
use Rattle.digits.specs.Digits.{number_at}
use Rattle.kinds.specs.declared.Shares.{Shares}
use Rattle.kinds.specs.Kinds.{shares}
use Rattle.rules.specs.declared.Carried.{Carried}
use Rattle.rules.specs.declared.Carried.TheVariants.{Nothing, MaxFloor, Minimum}
use Rattle.rules.specs.CommandLines.{BodyReading, Making, Numbers, are, also, made, order_form, reserve_form, is_ended, numbers_from, body_of_form}
use Rattle.command_lines.specs.declared.forms.Kind.{Kind}
use Rattle.command_lines.specs.declared.forms.Kind.TheVariants as kind
use Rattle.command_lines.specs.Reading.{as_shares, last_in, carrying, carried_in, order_made_with, order_carrying, body_of_kind}

-- the kinds of order
abbrev pub IsOrder : Kind → Type 0
IsOrder kind.Order = Unit {0}
IsOrder kind.Reserve = Unit {0}
IsOrder kind.Minimum = Unit {0}
IsOrder kind.Cancel = ⊥
IsOrder kind.Quote = ⊥
IsOrder kind.Close = ⊥

-- the body of an order, where what it carries has been read
abbrev pub with_carried : Option Carried → List ℕ → BodyReading
with_carried (Some c) s = order_carrying c s
with_carried None s = None

-- an order whose form has one number more carries it
abbrev order_with_last : (Shares → Carried) → Making reserve_form BodyReading
order_with_last carry side word price count last = order_made_with (carry (shares last)) side word price count

abbrev with_last : Option Carried → Numbers → BodyReading
with_last (Some c) ns = made None order_form (order_made_with c) ns
with_last None ns = None

carries_last : (carry : Shares → Carried) (side word price count last : Option ℕ)
    → with_last (carrying carry (as_shares last)) (also side (also word (also price (also count (are [])))))
    ≡ made None reserve_form (order_with_last carry) (also side (also word (also price (also count (also last (are []))))))
carries_last carry None word price count None = refl
carries_last carry None word price count (Some f) = refl
carries_last carry (Some a) None price count None = refl
carries_last carry (Some a) None price count (Some f) = refl
carries_last carry (Some a) (Some b) None count None = refl
carries_last carry (Some a) (Some b) None count (Some f) = refl
carries_last carry (Some a) (Some b) (Some d) None None = refl
carries_last carry (Some a) (Some b) (Some d) None (Some f) = refl
carries_last carry (Some a) (Some b) (Some d) (Some e) None = refl
carries_last carry (Some a) (Some b) (Some d) (Some e) (Some f) = refl

of_nothing : (s : List ℕ) (ended : Bool)
    → with_carried (if ended then Some Nothing else None) s
    ≡ (if ended then made None order_form (order_made_with Nothing) (numbers_from 0 order_form s) else None)
unfolding order_carrying
of_nothing s true = refl
of_nothing s false = refl

of_last : (s : List ℕ) (carry : Shares → Carried) (ended : Bool)
    → with_carried (carrying carry (if ended then as_shares (number_at 4 22 s) else None)) s
    ≡ (if ended then made None reserve_form (order_with_last carry) (numbers_from 0 reserve_form s) else None)
unfolding order_carrying numbers_from
of_last s carry true =
    by_last (number_at 4 22 s)
    ∙ carries_last carry (number_at 1 0 s) (number_at 2 2 s) (number_at 4 6 s) (number_at 4 14 s) (number_at 4 22 s)
  where
    by_last : (last : Option ℕ)
        → with_carried (carrying carry (as_shares last)) s
        ≡ with_last (carrying carry (as_shares last)) (also (number_at 1 0 s) (also (number_at 2 2 s) (also (number_at 4 6 s) (also (number_at 4 14 s) (are [])))))
    by_last (Some n) = refl
    by_last None = refl
of_last s carry false = refl

-- so an order of each of its kinds is read by what it carries
pub order_body : (k : Kind) (s : List ℕ) → IsOrder k → with_carried (carried_in k s) s ≡ body_of_kind k s
unfolding body_of_form last_in
order_body kind.Order s h = of_nothing s (is_ended 22 s)
order_body kind.Reserve s h = of_last s MaxFloor (is_ended 30 s)
order_body kind.Minimum s h = of_last s Minimum (is_ended 30 s)
order_body kind.Cancel s h = absurd h
order_body kind.Quote s h = absurd h
order_body kind.Close s h = absurd h
