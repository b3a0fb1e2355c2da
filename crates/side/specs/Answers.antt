-- A command to a sound book, with room for its lines: the answer of 01, and what it leaves of the two sides and the output.
use Rattle.std.specs.Prelude.{ℕ, ◌<◌, true, List, ◌≡◌, length, Some, Result}
use Rattle.basics.specs.Bytes.{onto}
use Rattle.kinds.specs.declared.Number.{Number}
use Rattle.rules.specs.declared.Body.{Body}
use Rattle.rules.specs.declared.Command.{Command}
use Rattle.rules.specs.declared.Held.{Held}
use Rattle.rules.specs.declared.Refusal.{Refusal}
use Rattle.rules.specs.declared.Resting.{Resting}
use Rattle.rules.specs.Book.{Book, sound}
use Rattle.rules.specs.EventLines.{event_lines}
use Rattle.rules.specs.Refusals.{first_of, body_refusals, line_refusals}
use Rattle.rules.specs.Refusing.{or_refused}
use Rattle.rules.specs.Step.{Answer, answer}

-- the answer to a command, 4 to 11 or 0
unfoldable pub answer_of : Command → Book → Answer
answer_of c b = answer (first_of (line_refusals b (Some c))) (Some c) b

-- the answer to a command whose header is in order, 8 to 11 or 0
unfoldable pub body_answer : Number → ℕ → Body → Book → Answer
body_answer n time body b = answer (first_of (body_refusals b body)) (Some (record { number = n; time = time; body = body })) b

-- what a command leaves of two sides and an output that are lent: `a` is 01's answer, `buys` and `sells` are what then rests, and `out'`
-- is what is then in the output, where `out` was
abbrev pub Left : Result ℕ Refusal → List Resting → List Resting → List ℕ → List ℕ → Answer → Type 0
Left r buys sells out' out a =
    (r ≡ or_refused (length (event_lines a.events)) a.refusal)
    × (buys ≡ a.book.buys)
    × (sells ≡ a.book.sells)
    × (out' ≡ onto (event_lines a.events) out)

-- two sides are those of a sound book whose last number is below n: those that the command of that number finds
pub record AreSoundBelow (n : Number) (buys sells : List Resting) : Type 0 where
  pub held : Held
  pub is_sound : sound (record { held = held; buys = buys; sells = sells }) ≡ true
  pub next : held.last.0 < n.0

-- what the body of a command leaves of them, whatever the time is and the header of the book
abbrev pub LeftBy : Number → Body → List Resting → List Resting → List ℕ → Result ℕ Refusal → List Resting → List Resting → List ℕ → Type 0
LeftBy n by buys sells out r buys' sells' out' =
    (time : ℕ) (held : Held) → Left r buys' sells' out' out (body_answer n time by (record { held = held; buys = buys; sells = sells }))
