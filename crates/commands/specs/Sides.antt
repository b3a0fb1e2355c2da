-- What a cancel and a close leave of two sides and an output, whatever the header of their book is; and what a body changes of the header.
use Rattle.std.specs.Prelude.{ℕ, true, List, ◌≡◌, Result, Ok}
use Rattle.kinds.specs.declared.Number.{Number}
use Rattle.rules.specs.declared.Body.{Body}
use Rattle.rules.specs.declared.Body.TheVariants as body
use Rattle.rules.specs.declared.Held.{Held}
use Rattle.rules.specs.declared.Refusal.{Refusal}
use Rattle.rules.specs.declared.Resting.{Resting}
use Rattle.rules.specs.Book.{sound}
use Rattle.rules.specs.Commands.{with_away, shut}
use Rattle.side.specs.Answers.{LeftBy}

-- the two sides of a sound book
pub record AreSound (buys sells : List Resting) : Type 0 where
  pub held : Held
  pub is_sound : sound (record { held = held; buys = buys; sells = sells }) ≡ true

-- the answer to a cancel, from any command with any header
abbrev pub Cancels : Number → List Resting → List Resting → List ℕ → Result ℕ Refusal → List Resting → List Resting → List ℕ → Type 0
Cancels of buys sells out r buys' sells' out' =
    (n : Number) → LeftBy n (body.Cancel of) buys sells out r buys' sells' out'

-- the answer to a close, likewise
abbrev pub Closes : List Resting → List Resting → List ℕ → ℕ → List Resting → List Resting → List ℕ → Type 0
Closes buys sells out len buys' sells' out' =
    (n : Number) → LeftBy n body.Close buys sells out (Ok len) buys' sells' out'

-- what a body changes of the header
abbrev pub held_after : Body → Held → Held
held_after (body.Order o) h = h
held_after (body.Cancel of) h = h
held_after (body.Quote away) h = with_away away h
held_after body.Close h = shut h
