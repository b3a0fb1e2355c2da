-- Lines over the longest are no command, whatever their bytes are. A line that is none prints the line of refusal 3 and leaves the
-- book as it is. Assumes nothing.
use Prim.Native.Nat.{ℕ, ◌<◌}
use mathlib.Core.List.{List, []}
use mathlib.Core.Path.{◌≡◌, ap}
use lib.ListN.{length}
use native.Mathlib.Omega.{arith}
use Rattle.command_lines.proofs.lines.LawsScanned.{no_command}
use Rattle.rules.specs.declared.Command.{Command}
use Rattle.rules.specs.Book.{Book}
use Rattle.rules.specs.CommandLines.{longest_line, command_in, line_of}
use Rattle.rules.specs.Day.{printed}
use Rattle.rules.specs.EventLines.{refusal_line}
use Rattle.rules.specs.Refusals.{first_of, line_refusals, refusals}
use Rattle.rules.specs.Step.{answer, answer_to}
use Rattle.rules.proofs.LawsWriting.{length_line_of, form_of_short}
use Rattle.std.specs.Prelude.{None}

-- ── A line over the longest ──

pub long_bad : (l : List ℕ) → longest_line < length l → command_in l ≡ None
long_bad l h = no_command l never
  where
    never : (c : Command) → l ≡ line_of c → ⊥
    never c e =
        let n : length l ≡ length (line_of c) = ap length e in
        omega (arith, length_line_of c, form_of_short c.body)

-- ── What is printed of a line that is no command, and the book after it ──

pub answer_to_bad : (b : Book) (l : List ℕ) → command_in l ≡ None → answer_to b l ≡ record { refusal = 3; book = b; events = [] }
unfolding answer_to answer refusals line_refusals first_of
answer_to_bad b l bad = rw bad

pub printed_bad : (b : Book) (l : List ℕ) → command_in l ≡ None → printed (answer_to b l) ≡ refusal_line 3
unfolding printed
printed_bad b l bad = rw (answer_to_bad b l bad)
