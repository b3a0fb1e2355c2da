-- Refills, in 02's words (W4): "refilled to the Max Floor .., or to what is left if that is less. Refill is due when the shown part is
-- used up and reserve is left; it happens after the incoming order's last line, in former rank order, with a new stamp and a `14` line."
-- Said of the side that an order meets, before and after, and of the order's lines; `LawsRefilled` has the proofs.
use Rattle.std.specs.Prelude.{ℕ, ◌+◌, ◌-◌, ◌≤◌, ◌<◌, min, Bool, true, List, [], ◌∷◌, ◌≢◌, ◌≡◌}
use Rattle.basics.specs.Lists.{All, OneOf}
use Rattle.kinds.specs.Kinds.{shares}
use Rattle.kinds.specs.declared.Number.{Number}
use Rattle.rules.specs.declared.Event.{Event}
use Rattle.rules.specs.declared.Event.TheVariants.{Moved}
use Rattle.rules.specs.declared.Resting.{Resting}
use Rattle.rules.specs.Book.{ranks_before, shares_left}
use Rattle.demands.specs.Told.{given_in}

-- what an order gave, as the lines of a walk tell it; its shown part gives before its reserve
abbrev pub gave : List Event → Resting → ℕ
gave es h = given_in h.number es

-- "due when the shown part is used up and reserve is left"
pub record Due (es : List Event) (h : Resting) : Type 0 where
  pub used_up : h.shares.0 ≤ gave es h
  pub is_left : gave es h < shares_left h

-- "to the Max Floor .., or to what is left if that is less"
abbrev pub refilled_to : List Event → Resting → ℕ
refilled_to es h = min h.floor.0 (shares_left h - gave es h)

-- the same order, whatever was taken of it; "When fewer shares remain than the minimum, the minimum becomes what remains" (02, W7)
pub record SameOrder (h h' : Resting) : Type 0 where
  pub number : h'.number ≡ h.number
  pub price : h'.price ≡ h.price
  pub displayed : h'.displayed ≡ h.displayed
  pub back : h'.back ≡ h.back
  pub floor : h'.floor ≡ h.floor
  pub minimum : h'.minimum.0 ≡ min h.minimum.0 (shares_left h')

-- an order whose shown part was not used up: it keeps its stamp and its reserve
pub record Keeps (es : List Event) (h h' : Resting) : Type 0 where
  pub same : SameOrder h h'
  pub stamp : h'.stamp ≡ h.stamp
  pub shown : h'.shares.0 + gave es h ≡ h.shares.0
  pub reserve : h'.reserve ≡ h.reserve

-- one that was refilled by command n: "with a new stamp"; the refill changes nothing of its total
pub record IsRefilled (n : Number) (es : List Event) (h h' : Resting) : Type 0 where
  pub same : SameOrder h h'
  pub stamp : h'.stamp.command ≡ n
  pub shown : h'.shares.0 ≡ refilled_to es h
  pub in_all : shares_left h' + gave es h ≡ shares_left h

-- an order of the side after it, of which this holds
pub record Stands (P : Resting → Type 0) (after : List Resting) : Type 0 where
  pub order : Resting
  pub there : OneOf order after
  pub is : P order

-- an order of the side after it stood there before, and kept its stamp or was refilled
pub data Stood (n : Number) (es : List Event) (before : List Resting) (h' : Resting) : Type 0 where
  kept : (h : Resting) → OneOf h before → gave es h < h.shares.0 → Keeps es h h' → Stood n es before h'
  refilled : (h : Resting) → OneOf h before → Due es h → IsRefilled n es h h' → Stood n es before h'

-- the side that the order of command n meets, whether it holds buys or sells, before and after, with the order's lines
pub record Refills (buy : Bool) (n : Number) (before after : List Resting) (es : List Event) : Type 0 where
  -- who gave all is gone
  pub goes : (h : Resting) → OneOf h before → gave es h ≡ shares_left h → All (λ (x : Resting). x.number ≢ h.number) after
  -- an order whose shown part was not used up keeps its stamp
  pub keeps : (h : Resting) → OneOf h before → gave es h < h.shares.0 → Stands (Keeps es h) after
  -- who is due is refilled, nobody else ..
  pub refills : (h : Resting) → OneOf h before → Due es h → Stands (IsRefilled n es h) after
  pub none_else : (h' : Resting) → OneOf h' after → Stood n es before h'
  -- .. behind all displayed at its price that were not refilled
  pub behind : (h g h' g' : Resting) → OneOf h before → gave es h < h.shares.0 → h.displayed ≡ true → OneOf g before → Due es g
      → h.price ≡ g.price → Keeps es h h' → OneOf h' after → IsRefilled n es g g' → OneOf g' after → ranks_before buy h' g' ≡ true
  -- .. and "in former rank order"
  pub keep_order : (g h g' h' : Resting) → OneOf g before → OneOf h before → Due es g → Due es h → ranks_before buy g h ≡ true
      → IsRefilled n es g g' → OneOf g' after → IsRefilled n es h h' → OneOf h' after → ranks_before buy g' h' ≡ true

-- "in former rank order, .. and a `14` line", which counts the shown part: those of a side, and no other
pub data RefillLines (es : List Event) : List Resting → List Event → Type 0 where
  empty : RefillLines es [] []
  of_none : {h : Resting} {s : List Resting} {rs : List Event} → (Due es h → ⊥) → RefillLines es s rs → RefillLines es (h ∷ s) rs
  of_due : {h : Resting} {s : List Resting} {rs : List Event} → Due es h → RefillLines es s rs
      → RefillLines es (h ∷ s) (Moved h.number h.price (shares (refilled_to es h)) ∷ rs)
