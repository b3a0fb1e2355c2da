-- An input worked piece by piece, however it is cut: any state that lines lead on, one after the other. Between two pieces stand the
-- state and the part of a line that the next piece goes on with. `LawsPieces` shows that the pieces of an input lead to what its
-- lines do, wherever it is cut.
use Rattle.std.specs.Prelude.{ℕ, zero, suc, ◌+◌, min, List, [], ◌∷◌, ◌++◌, ℤ, pos, negsuc, take, drop}
use Rattle.rules.specs.CommandLines.{longest_line}
use Rattle.rules.specs.Day.{cut, unended_line}
use Rattle.command_lines.specs.declared.lines.Read.{Read}
use Rattle.command_lines.specs.declared.lines.Read.TheVariants.{Failed, Ended, Upto}

-- "a line over 41 bytes", which W4 makes 49, is refused whatever its bytes are, so of a part no more is kept than one byte over the
-- longest line: memory stays bounded
abbrev pub part_kept : ℕ
part_kept = longest_line + 1

-- what is carried of the bytes from one place to another: no more of them than so many
abbrev pub carried : List ℕ → ℕ → ℕ → ℕ → List ℕ
carried input from end most = take most (drop from (take end input))

-- what a read answers, where so many bytes stood in a buffer of so much room: it failed, or the input has ended, or bytes stand up to a
-- place, never beyond the room
abbrev pub read_behind : ℤ → ℕ → ℕ → Read
read_behind (negsuc k) have room = Failed
read_behind (pos zero) have room = Ended
read_behind (pos (suc k)) have room = Upto (min room (have + suc k))

-- the input that pieces are cut from
unfoldable pub all_of : List (List ℕ) → List ℕ
all_of [] = []
all_of (piece ∷ pieces) = piece ++ all_of pieces

-- what some lines lead a state on to, and a part of a line that the input ends with
unfoldable pub after_lines : {S : Type 0} → (S → List ℕ → S) → S → List (List ℕ) → S
after_lines turn s [] = s
after_lines turn s (l ∷ ls) = after_lines turn (turn s l) ls

abbrev pub after_part : {S : Type 0} → (S → List ℕ → S) → S → List ℕ → S
after_part turn s part = after_lines turn s (unended_line part)

-- what pieces lead a state on to, where a part of a line came before them; of a part no more than some bytes are kept, so that memory
-- stays bounded
unfoldable pub after_pieces : {S : Type 0} → (S → List ℕ → S) → ℕ → S → List ℕ → List (List ℕ) → S
after_pieces turn kept s part [] = after_part turn s part
after_pieces turn kept s part (piece ∷ pieces) =
    after_pieces turn kept (after_lines turn s (cut (part ++ piece)).whole) (take kept (cut (part ++ piece)).part) pieces
