-- The first line of some bytes, by the place of its line feed.
use Rattle.std.specs.Prelude.{ℕ, suc, Bool, List, [], ◌∷◌, eqb, take, if◌then◌else◌, None}
use Rattle.basics.specs.Lists.{first_where}
use Rattle.digits.specs.Digits.{digit_of}
use Rattle.rules.specs.CommandLines.{Kind, kinds, digits_with_header, line_feed, command_in}
use Rattle.command_lines.specs.declared.lines.Line.{Line}

abbrev pub is_line_feed : ℕ → Bool
is_line_feed c = eqb c line_feed

-- how many bytes stand before the first line feed; all of them where there is none
abbrev pub to_line_feed : List ℕ → ℕ
to_line_feed s = first_where is_line_feed s

abbrev pub first_line : List ℕ → Line
first_line s = record { digits = to_line_feed s; reading = command_in (take (suc (to_line_feed s)) s) }

abbrev pub other_line : List ℕ → Line
other_line s = record { digits = to_line_feed s; reading = None }

-- how many digits a command has, by the second of them, which tells its kind in a table
unfoldable pub digits_from : List Kind → ℕ → ℕ
digits_from [] c = 0
digits_from (k ∷ ks) c = if eqb c (digit_of k.code) then digits_with_header k.form else digits_from ks c

unfoldable pub digits_after : ℕ → ℕ
digits_after c = digits_from kinds c
