-- One turn of a day, from what `day::replay::feed` worked and so many bytes of what is left as `command_lines::lines::carry` may keep. Assumes nothing.
use Prim.Native.Nat.{ℕ, ◌-◌, ◌≤◌}
use mathlib.Core.Bool.{Bool, true, false, not}
use mathlib.Core.List.{List}
use mathlib.Core.Path.{◌≡◌, refl, ap, ◌∙◌}
use lib.Dec.{ltb}
use lib.ListN.{length, take, drop, length-take, length-drop}
use lib.Seq.{take_all}
use native.Mathlib.Omega.{arith}
use Rattle.basics.specs.Bytes.{onto}
use Rattle.std.specs.Prelude.{if◌then◌else◌}
use Rattle.command_lines.specs.Pieces.{carried, part_kept}
use Rattle.rules.specs.Day.{cut}
use Rattle.day.specs.declared.replay.Fed.{Fed}
use Rattle.day.specs.Feed.{worked, fed_by}
use Rattle.rules.specs.Book.{Book}
use Rattle.rules.specs.Refusals.{least_room}
use Rattle.day.specs.Turns.{turned, turn_of}

-- to keep as many bytes as there were keeps all that is left of them
kept_is : (is_short : Bool) (input : List ℕ) (at have : ℕ) → carried input at have (if is_short then have else part_kept)
    ≡ (if is_short then drop at (take have input) else take part_kept (drop at (take have input)))
kept_is true input at have = take_all have (drop at (take have input)) (simp (length-drop, length-take) (omega arith))
kept_is false input at have = refl

-- what was fed, and that so many bytes were carried to the front of the input, are together a turn
module _ (room : ℕ) (b : Book) (input : List ℕ) (have : ℕ) (fed : Fed) (fed_is : fed ≡ fed_by (worked room b (cut (take have input)).whole))
    (most : ℕ) (most_is : most ≡ (if ltb (room - fed.length) least_room then have else part_kept)) where
  waits_are : carried input fed.at have most ≡ (turned room b (take have input)).waits
  unfolding turned
  waits_are = rw most_is (kept_is (ltb (room - fed.length) least_room) input fed.at have ∙ rw fed_is)

  pub turn_is : (left : ℕ) (input' : List ℕ)
      → left ≡ length (carried input fed.at have most)
      → input' ≡ onto (carried input fed.at have most) input
      → (record { have = left; length = fed.length; reads = not (ltb (room - fed.length) least_room) }
      ≡ turn_of (turned room b (take have input)))
      × (input' ≡ onto (turned room b (take have input)).waits input)
      × (left ≤ have)
  unfolding turned
  turn_is left input' e d =
      (rw (e, waits_are, fed_is), d ∙ ap (λ (waits : List ℕ). onto waits input) waits_are, rw e (simp (length-take, length-drop) (omega arith)))
