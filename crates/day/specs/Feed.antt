-- The whole lines of an input worked one after the other, as long as the output has room for the lines of a command.
use Rattle.std.specs.Prelude.{ℕ, ◌+◌, ◌-◌, ◌≤◌, true, List, [], ◌∷◌, ◌++◌, ◌≡◌, ltb, length, if◌then◌else◌}
use Rattle.basics.specs.Bytes.{onto}
use Rattle.rules.specs.CommandLines.{Reading}
use Rattle.rules.specs.Book.{Book}
use Rattle.rules.specs.Day.{cut, printed}
use Rattle.rules.specs.Refusals.{least_room, refusals, first_of}
use Rattle.rules.specs.Step.{Answer, answer, answer_to}
use Rattle.day.specs.declared.replay.Fed.{Fed}

-- what is worked: the book after it, how many bytes of input it is, and what is printed of it
pub record Worked : Type 0 where
  pub book : Book
  pub length : ℕ
  pub printed : List ℕ

abbrev pub nothing_of : Book → Worked
nothing_of b = record { book = b; length = 0; printed = [] }

-- a line and what it prints, in front of what is worked after it
abbrev pub behind : List ℕ → List ℕ → Worked → Worked
behind line lines w = record { book = w.book; length = length line + w.length; printed = lines ++ w.printed }

unfoldable pub worked : ℕ → Book → List (List ℕ) → Worked
worked room b [] = nothing_of b
worked room b (l ∷ ls) =
    if ltb room least_room then nothing_of b
    else behind l (printed (answer_to b l)) (worked (room - length (printed (answer_to b l))) (answer_to b l).book ls)

-- the answer of a sound book, with room for its lines, to what a line reads as
abbrev pub answer_for : Book → Reading → Answer
answer_for b r = answer (first_of (refusals least_room true b r)) r b

-- the same in numbers
abbrev pub fed_by : Worked → Fed
fed_by w = record { at = w.length; length = length w.printed }

-- what a line that reads so leaves of a sound book, and of the output
abbrev pub Prints : Book → Reading → List ℕ → ℕ → Book → List ℕ → Type 0
Prints b reading out r b' out' =
    let a = answer_for b reading in
    (r ≡ length (printed a)) × (b' ≡ a.book) × (out' ≡ onto (printed a) out)

-- what the whole lines of an input leave of both: so much of the input and of the output was used
abbrev pub Feeds : Book → List ℕ → List ℕ → Fed → Book → List ℕ → Type 0
Feeds b input out r b' out' =
    let w = worked (length out) b (cut input).whole in
    (r ≡ fed_by w) × (b' ≡ w.book) × (out' ≡ onto w.printed out) × (r.at ≤ length input) × (r.length ≤ length out)
