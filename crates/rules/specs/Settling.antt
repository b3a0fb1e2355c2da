-- What becomes of resting orders by a command, other than by executions: a cancel, the moves of a quote (02, W2), a close and the refills
-- after an order (02, W4) all have this one shape. Each resting order has a fate; those that stay, those that are set anew, and the lines
-- of all that do not stay follow from it.
use Rattle.std.specs.Prelude.{ℕ, suc, ◌+◌, ◌-◌, min, Bool, true, false, List, [], ◌∷◌, ◌++◌, eqb, length, if◌then◌else◌}
use Rattle.basics.specs.Lists.{gathered}
use Rattle.kinds.specs.declared.HalfCents.{HalfCents}
use Rattle.kinds.specs.declared.Number.{Number}
use Rattle.kinds.specs.Kinds.{shares}
use Rattle.rules.specs.declared.Event.{Event}
use Rattle.rules.specs.declared.Event.TheVariants.{Cancelled, Moved}
use Rattle.rules.specs.declared.Fate.{Fate}
use Rattle.rules.specs.declared.Fate.TheVariants.{Stays, IsCancelled, IsSet}
use Rattle.rules.specs.declared.Held.{Held}
use Rattle.rules.specs.declared.Resting.{Resting}
use Rattle.rules.specs.declared.Stamp.{Stamp}
use Rattle.rules.specs.Book.{Book, stamp, ranks_before, shares_left}

-- ── A resting order ──

-- a resting order with another price, stamp, shown part, reserve and minimum; all else stays
abbrev pub amended : HalfCents → Stamp → ℕ → ℕ → ℕ → Resting → Resting
amended price anew shown reserve minimum h = record {
  number = h.number;
  price = price;
  shares = shares shown;
  displayed = h.displayed;
  back = h.back;
  stamp = anew;
  reserve = shares reserve;
  floor = h.floor;
  minimum = shares minimum;
}

-- a resting order set at a price, and one with a new stamp
abbrev pub set_at : HalfCents → Resting → Resting
set_at price h = amended price h.stamp h.shares.0 h.reserve.0 h.minimum.0 h

abbrev pub stamped_as : Stamp → Resting → Resting
stamped_as anew h = amended h.price anew h.shares.0 h.reserve.0 h.minimum.0 h

-- the shares that an order shows of those left, by its Max Floor: "refilled to the Max Floor .., or to what is left if that is less"
-- (02, W4). With no Max Floor, which is 0, it shows them all.
abbrev pub shown_of : ℕ → ℕ → ℕ
shown_of floor left = if eqb floor 0 then left else min floor left

-- a resting order whose shown part is refilled from its reserve
abbrev pub refilled : Resting → Resting
refilled h =
    let shown = shown_of h.floor.0 (shares_left h) in
    amended h.price h.stamp shown (shares_left h - shown) h.minimum.0 h

-- a resting order takes its place by rank
unfoldable pub insert : Bool → Resting → List Resting → List Resting
insert buy x [] = x ∷ []
insert buy x (y ∷ s) = if ranks_before buy x y then x ∷ (y ∷ s) else y ∷ insert buy x s

-- orders take their places by rank, one after the other
unfoldable pub insert_all : Bool → List Resting → List Resting → List Resting
insert_all buy [] s = s
insert_all buy (x ∷ xs) s = insert_all buy xs (insert buy x s)

-- ── The fate of one order ──

abbrev pub kept_by : Fate → Resting → List Resting
kept_by Stays h = h ∷ []
kept_by (IsCancelled reason) h = []
kept_by (IsSet new) h = []

abbrev pub set_by : Fate → List Resting
set_by Stays = []
set_by (IsCancelled reason) = []
set_by (IsSet new) = new ∷ []

-- "`14` (number, price, shares) or `13`" (02, W2); "`12` and `13` count both parts, `14` the shown one" (02, W4)
abbrev pub told_by : Fate → Resting → List Event
told_by Stays h = []
told_by (IsCancelled reason) h = Cancelled h.number (shares (shares_left h)) reason ∷ []
told_by (IsSet new) h = Moved new.number new.price new.shares ∷ []

-- ── Of a side ──

-- those that stay, those that are set anew, and the lines of all that do not stay, in rank order
unfoldable pub staying : (Resting → Fate) → List Resting → List Resting
staying fate s = gathered (λ (h : Resting). kept_by (fate h) h) s

unfoldable pub set_anew : (Resting → Fate) → List Resting → List Resting
set_anew fate s = gathered (λ (h : Resting). set_by (fate h)) s

unfoldable pub told : (Resting → Fate) → List Resting → List Event
told fate s = gathered (λ (h : Resting). told_by (fate h) h) s

-- "with a new time stamp": of command n, with places among its moves from k on
unfoldable pub stamped_from : Number → ℕ → List Resting → List Resting
stamped_from n k [] = []
stamped_from n k (h ∷ s) = stamped_as (stamp n k) h ∷ stamped_from n (suc k) s

-- a side settled by command n, whose next move has place k: those that are set anew take their places by rank among those that stay
unfoldable pub settled_side : Number → ℕ → Bool → (Resting → Fate) → List Resting → List Resting
settled_side n k buy fate s = insert_all buy (stamped_from n k (set_anew fate s)) (staying fate s)

-- ── Of a book ──

-- the book and the events of a command so far, and how many orders it has set anew
pub record Done : Type 0 where
  pub book : Book
  pub events : List Event
  pub moves : ℕ

-- the same, with another record of what the book holds besides its orders
abbrev pub on_held : (Held → Held) → Done → Done
on_held change d = record {
  book = record { held = change d.book.held; buys = d.book.buys; sells = d.book.sells };
  events = d.events;
  moves = d.moves;
}

-- an order's own side, and the opposite one
abbrev pub own_side : Bool → Book → List Resting
own_side buy b = if buy then b.buys else b.sells

abbrev pub opposite_side : Bool → Book → List Resting
opposite_side buy b = if buy then b.sells else b.buys

abbrev pub with_side : Bool → List Resting → Book → Book
with_side buy s b = record { held = b.held; buys = if buy then s else b.buys; sells = if buy then b.sells else s }

-- "a place among that command's moves": the first is 1, and 0 is that of an order that comes to rest
abbrev pub first_move : ℕ
first_move = 1

-- one side is settled, after all that the command has done
unfoldable pub settled : (Resting → Fate) → Bool → Done → Done
settled fate buy d =
    let s = own_side buy d.book in
    record {
      book = with_side buy (settled_side d.book.held.last (first_move + d.moves) buy fate s) d.book;
      events = d.events ++ told fate s;
      moves = d.moves + length (set_anew fate s);
    }

-- "buys first, in former rank order": the places among the command's moves go on from the buys to the sells
unfoldable pub both_settled : (Bool → Resting → Fate) → Done → Done
both_settled fate d = settled (fate false) false (settled (fate true) true d)
