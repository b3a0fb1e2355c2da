-- A moved quote, in 02's words (W2): "a non-displayed order that would now cross the away quote is set at the Locking Price with a new
-- time stamp. Such orders keep their order. One with Cancel Back is cancelled, reason 4. .. Quote writes `14` (number, price, shares)
-- or `13`". Said of one side of the book before and after, and of the event lines; `LawsQuoted` has the proofs.
use Rattle.std.specs.Prelude.{◌<◌, Bool, true, false, List, [], ◌∷◌, ◌++◌, ◌≢◌, ◌≡◌}
use Rattle.basics.specs.Lists.{All, OneOf}
use Rattle.kinds.specs.Kinds.{shares}
use Rattle.kinds.specs.declared.HalfCents.{HalfCents}
use Rattle.kinds.specs.Kinds.{in_half_cents}
use Rattle.kinds.specs.declared.Number.{Number}
use Rattle.rules.specs.declared.Away.{Away}
use Rattle.rules.specs.declared.Event.{Event}
use Rattle.rules.specs.declared.Event.TheVariants.{Cancelled, Moved}
use Rattle.rules.specs.declared.Resting.{Resting}
use Rattle.rules.specs.Book.{ranks_before, shares_left}

-- "The Locking Price is the away offer for a buy, the away bid for a sell." (01, step 4); 0 where there is none
abbrev pub locking : Bool → Away → HalfCents
locking true away = in_half_cents away.offer
locking false away = in_half_cents away.bid

-- "a non-displayed order that would now cross the away quote": a buy above the away offer, a sell below the away bid
pub data Crosses (away : Away) (h : Resting) : Bool → Type 0 where
  a_buy : h.displayed ≡ false → away.offer.0 ≢ 0 → (in_half_cents away.offer).0 < h.price.0 → Crosses away h true
  a_sell : h.displayed ≡ false → away.bid.0 ≢ 0 → h.price.0 < (in_half_cents away.bid).0 → Crosses away h false

-- the order as it stands afterwards: "set at the Locking Price with a new time stamp" of command n (its place among the command's moves is
-- DECISIONS, 43), all else as it was
pub record SetAnew (buy : Bool) (n : Number) (away : Away) (h h' : Resting) : Type 0 where
  pub price : h'.price ≡ locking buy away
  pub stamp : h'.stamp.command ≡ n
  pub number : h'.number ≡ h.number
  pub shares : h'.shares ≡ h.shares
  pub displayed : h'.displayed ≡ h.displayed
  pub back : h'.back ≡ h.back
  pub reserve : h'.reserve ≡ h.reserve
  pub floor : h'.floor ≡ h.floor
  pub minimum : h'.minimum ≡ h.minimum

-- an order of the side before is so set anew in the side after it
pub record IsSetAnew (buy : Bool) (n : Number) (away : Away) (after : List Resting) (h : Resting) : Type 0 where
  pub anew : Resting
  pub is_anew : SetAnew buy n away h anew
  pub there : OneOf anew after

-- an order of the side after it stood there before, and did not cross, or is one that was set anew
pub data Stood (buy : Bool) (n : Number) (away : Away) (before : List Resting) (h : Resting) : Type 0 where
  as_before : OneOf h before → (Crosses away h buy → ⊥) → Stood buy n away before h
  set_anew : (g : Resting) → OneOf g before → Crosses away g buy → g.back ≡ false → SetAnew buy n away g h → Stood buy n away before h

-- one side of the book before and after the quote of command n, which writes `es`
pub record Quoted (buy : Bool) (n : Number) (away : Away) (before after : List Resting) (es : List Event) : Type 0 where
  -- who does not cross stands as before
  pub stays : (h : Resting) → OneOf h before → (Crosses away h buy → ⊥) → OneOf h after
  -- who crosses "is set at the Locking Price with a new time stamp" ..
  pub moves : (h : Resting) → OneOf h before → Crosses away h buy → h.back ≡ false → IsSetAnew buy n away after h
  -- .. and is told by `14`
  pub told : (h : Resting) → OneOf h before → Crosses away h buy → h.back ≡ false
      → OneOf (Moved h.number (locking buy away) h.shares) es
  -- "One with Cancel Back is cancelled, reason 4": no order of its number is left, and it is told by `13`
  pub goes : (h : Resting) → OneOf h before → Crosses away h buy → h.back ≡ true → All (λ (x : Resting). x.number ≢ h.number) after
  pub cancelled : (h : Resting) → OneOf h before → Crosses away h buy → h.back ≡ true
      → OneOf (Cancelled h.number (shares (shares_left h)) 4) es
  -- nobody else stands there afterwards
  pub none_else : (h : Resting) → OneOf h after → Stood buy n away before h
  -- "Such orders keep their order"
  pub keep_order : (g h g' h' : Resting) → OneOf g before → OneOf h before → Crosses away g buy → Crosses away h buy
      → ranks_before buy g h ≡ true → SetAnew buy n away g g' → OneOf g' after → SetAnew buy n away h h' → OneOf h' after
      → ranks_before buy g' h' ≡ true
  -- whoever stood at that price before ranks before them: their stamp is new
  pub behind : (h g g' : Resting) → OneOf h before → (Crosses away h buy → ⊥) → h.price ≡ locking buy away
      → OneOf g before → Crosses away g buy → SetAnew buy n away g g' → OneOf g' after
      → ranks_before buy h g' ≡ true

-- "Quote writes `14` (number, price, shares) or `13`, .. in former rank order": the lines of one side, which stands in rank order
pub data Writes (buy : Bool) (away : Away) : List Resting → List Event → Type 0 where
  empty : Writes buy away [] []
  of_none : {h : Resting} {s : List Resting} {es : List Event} → (Crosses away h buy → ⊥) → Writes buy away s es → Writes buy away (h ∷ s) es
  of_moved : {h : Resting} {s : List Resting} {es : List Event} → Crosses away h buy → h.back ≡ false → Writes buy away s es
      → Writes buy away (h ∷ s) (Moved h.number (locking buy away) h.shares ∷ es)
  of_cancelled : {h : Resting} {s : List Resting} {es : List Event} → Crosses away h buy → h.back ≡ true → Writes buy away s es
      → Writes buy away (h ∷ s) (Cancelled h.number (shares (shares_left h)) 4 ∷ es)

-- "buys first": and nothing else is written
pub record WritesBoth (away : Away) (buys sells : List Resting) (es : List Event) : Type 0 where
  pub of_buys : List Event
  pub of_sells : List Event
  pub buys_first : es ≡ of_buys ++ of_sells
  pub buys_write : Writes true away buys of_buys
  pub sells_write : Writes false away sells of_sells
