-- The turns of a day, as the program takes them (01, Examples from the desk: "Program, whole input then whole output"). Between
-- a read and a write stands one turn: the whole lines that were read are worked as far as the output has room, what they print
-- is handed to `write`, and what is left of the bytes waits at the front. `LawsTurns` shows that whatever the reads give, all
-- that is handed over is `Day.output` of the whole input.
use Rattle.std.specs.Prelude.{ℕ, ◌-◌, ◌≤◌, Bool, true, false, not, List, [], ◌∷◌, ◌++◌, ◌≡◌, ltb, length, take, drop, if◌then◌else◌}
use Rattle.basics.specs.Bytes.{onto}
use Rattle.command_lines.specs.Pieces.{part_kept}
use Rattle.rules.specs.Day.{cut}
use Rattle.day.specs.Feed.{worked}
use Rattle.day.specs.Pieces.{printed_at_end}
use Rattle.rules.specs.Book.{Book, fresh}
use Rattle.rules.specs.Refusals.{least_room}
use Rattle.day.specs.declared.night.Turn.{Turn}

-- what a turn leaves: the book, the bytes that wait, what is handed to `write`, and whether more is to be read before the next turn
pub record Turned : Type 0 where
  pub book : Book
  pub waits : List ℕ
  pub printed : List ℕ
  pub reads : Bool

-- a turn on a book and the bytes that wait, with so much room for output. Where the room has run short, all that is left waits and nothing
-- is read; else no whole line is left, and of a part of a line no more is kept than one byte over the longest line.
unfoldable pub turned : ℕ → Book → List ℕ → Turned
turned room b waits =
    let w = worked room b (cut waits).whole in
    let left = drop w.length waits in
    let is_short = ltb (room - length w.printed) least_room in
    record {
      book = w.book;
      waits = if is_short then left else take part_kept left;
      printed = w.printed;
      reads = not is_short;
    }

-- the same in numbers, as the code hands it back
abbrev pub turn_of : Turned → Turn
turn_of t = record { have = length t.waits; length = length t.printed; reads = t.reads }

-- what a turn leaves of a sound book, of the input whose first `have` bytes wait, and of the output
abbrev pub Takes : Book → List ℕ → ℕ → List ℕ → Turn → Book → List ℕ → List ℕ → Type 0
Takes b input have out r b' input' out' =
    let w = turned (length out) b (take have input) in
    (r ≡ turn_of w) × (b' ≡ w.book) × (input' ≡ onto w.waits input) × (out' ≡ onto w.printed out) × (r.have ≤ have) × (r.length ≤ length out)

-- the turns of the program from a book and the bytes that wait: what its reads give, piece by piece up to the end of the input, and all
-- that it hands to `write`, one after the other
pub data Runs (room : ℕ) : Book → List ℕ → List (List ℕ) → List ℕ → Type 0 where
  -- it does not read: the next turn goes on with what waits
  goes_on : {b : Book} {waits : List ℕ} {pieces : List (List ℕ)} {handed : List ℕ}
      → (turned room b waits).reads ≡ false
      → Runs room (turned room b waits).book (turned room b waits).waits pieces handed
      → Runs room b waits pieces ((turned room b waits).printed ++ handed)
  -- it reads a piece behind what waits
  reads_on : {b : Book} {waits piece : List ℕ} {pieces : List (List ℕ)} {handed : List ℕ}
      → (turned room b waits).reads ≡ true
      → Runs room (turned room b waits).book ((turned room b waits).waits ++ piece) pieces handed
      → Runs room b waits (piece ∷ pieces) ((turned room b waits).printed ++ handed)
  -- it reads, and the input has ended: a part of a line that waits is refused
  ends : {b : Book} {waits : List ℕ}
      → (turned room b waits).reads ≡ true
      → Runs room b waits [] ((turned room b waits).printed ++ printed_at_end (turned room b waits).waits)

-- the turns of the program over a whole input, from a fresh book
pub record Ran (room : ℕ) (pieces : List (List ℕ)) : Type 0 where
  pub handed : List ℕ
  pub runs : Runs room fresh [] pieces handed

-- turns as in `Runs`, where of what the last of them hands over only so many bytes are written: all of them where the read behind it
-- fails, fewer where the write does. The pieces are those that were read, and any that might have followed.
pub data Stops (room : ℕ) : Book → List ℕ → List (List ℕ) → List ℕ → Type 0 where
  -- of what this turn prints, so many bytes are written
  stops : {b : Book} {waits : List ℕ} {pieces : List (List ℕ)} (wrote : ℕ)
      → Stops room b waits pieces (take wrote (turned room b waits).printed)
  -- the input has ended: of what is printed of a part that waits, so many bytes are written
  stops_at_end : {b : Book} {waits : List ℕ}
      → (turned room b waits).reads ≡ true
      → (wrote : ℕ)
      → Stops room b waits [] ((turned room b waits).printed ++ take wrote (printed_at_end (turned room b waits).waits))
  -- it does not read, or it reads a piece, and stops later
  goes_on_to : {b : Book} {waits : List ℕ} {pieces : List (List ℕ)} {written : List ℕ}
      → (turned room b waits).reads ≡ false
      → Stops room (turned room b waits).book (turned room b waits).waits pieces written
      → Stops room b waits pieces ((turned room b waits).printed ++ written)
  reads_on_to : {b : Book} {waits piece : List ℕ} {pieces : List (List ℕ)} {written : List ℕ}
      → (turned room b waits).reads ≡ true
      → Stops room (turned room b waits).book ((turned room b waits).waits ++ piece) pieces written
      → Stops room b waits (piece ∷ pieces) ((turned room b waits).printed ++ written)

-- some bytes stand at the beginning of others
pub record Begins (front bytes : List ℕ) : Type 0 where
  pub behind : List ℕ
  pub together : front ++ behind ≡ bytes
