-- What the command writer answers and leaves (01, What the machine says back): refusal 1, "for the command writer, room
-- below the line's length"; else its line's length, "and bytes past the line stay".
use Rattle.std.specs.Prelude.{ℕ, Bool, List, ltb, length, if◌then◌else◌, Result, Ok, Err}
use Rattle.basics.specs.Bytes.{onto}
use Rattle.rules.specs.CommandLines.{line_of}
use Rattle.rules.specs.declared.Command.{Command}
use Rattle.rules.specs.declared.Refusal.{Refusal}
use Rattle.rules.specs.declared.Refusal.TheVariants.{NoRoom}

abbrev pub room_is_short : Command → ℕ → Bool
room_is_short c room = ltb room (length (line_of c))

unfoldable pub written_for : Command → ℕ → Result ℕ Refusal
written_for c room = if room_is_short c room then Err NoRoom else Ok (length (line_of c))

unfoldable pub buffer_of : Command → List ℕ → List ℕ
buffer_of c out = if room_is_short c (length out) then out else onto (line_of c) out
