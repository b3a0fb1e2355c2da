-- A line is an event line of the kind that its first two bytes name, where it has the size and the ending of that kind. Assumes nothing.
use Prim.Native.Nat.{ℕ, ◌+◌, ◌-◌, ◌*◌, ◌^◌, ◌<◌, ◌≤◌}
use mathlib.Core.Bool.{Bool, true, false}
use mathlib.Core.List.{List}
use mathlib.Core.Path.{◌≡◌, refl}
use lib.Dec.{eqb, ltb}
use lib.ListN.{length, get_or}
use native.Mathlib.Omega.{arith}
use borrow.Author.Tests.{lt-ltb, le-ltb}
use Rattle.std.specs.Prelude.{if◌then◌else◌, Option, Some, None, Result, Ok, Err}
use Rattle.digits.specs.Digits.{number_at}
use Rattle.digits.proofs.LawsDigits.{number_at_fits}
use Rattle.rules.specs.declared.NoEvent.{NoEvent}
use Rattle.rules.specs.declared.NoEvent.TheVariants.{UnknownKind, Short, TrailingBytes, BadDigitOrEnding}
use Rattle.rules.specs.CommandLines.{Making, digits_in, line_feed}
use Rattle.rules.specs.EventLines.{executed_kind, rested_kind, cancelled_kind, moved_kind, with_kind}
use Rattle.rules.specs.EventLines.{executed_fields, rested_fields, cancelled_fields, moved_fields}
use Rattle.rules.specs.EventReading.{EventReading, executed_of, rested_of, cancelled_of, moved_of, event_of, of_fields, of_kind, event_in}
use Rattle.event_lines.specs.declared.forms.Kind.{Kind}
use Rattle.event_lines.specs.declared.forms.Kind.TheVariants as kind
use Rattle.event_lines.specs.Ended.{ended, digits_or_bad}
use Rattle.event_lines.specs.Forms.{fields_of, event_of_kind, kind_numbered}

-- what a field is read as, its width holds
pub field_fits : (w at n : ℕ) (s : List ℕ) → Ok n ≡ digits_or_bad (number_at w at s) → n < 16 ^ (2 * w)
field_fits w at n s e = go (number_at w at s) refl e
  where
    go : (v : Option ℕ) → number_at w at s ≡ v → Ok n ≡ digits_or_bad v → n < 16 ^ (2 * w)
    go (Some m) is f = let k : m ≡ n = cc in number_at_fits w at n s (rw k at is)
    go None is f = cc

-- what is read of the fields, where the line is ended
abbrev pub where_ended : Result (Unit {0}) NoEvent → EventReading → EventReading
where_ended (Ok t) read = read
where_ended (Err why) read = Err why

-- a line of a kind is ended, and then its fields are read
module _ (line : List ℕ) where
  ended_first : (fields : List ℕ) (make : Making fields EventReading)
      → of_fields fields make line ≡ where_ended (ended (digits_in (with_kind fields) + 1) line) (event_of fields make line)
  unfolding of_fields ended
  ended_first fields make =
      let size = digits_in (with_kind fields) + 1 in
      let e : size - 1 ≡ digits_in (with_kind fields) = omega arith in
      rw e
      (go (ltb (length line) size) (ltb size (length line)) (eqb (get_or line (digits_in (with_kind fields)) 0) line_feed) (event_of fields make line))
    where
      go : (a b c : Bool) (read : EventReading)
          → (if a then Err Short else if b then Err TrailingBytes else if c then read else Err BadDigitOrEnding)
          ≡ where_ended (if a then Err Short else if b then Err TrailingBytes else if c then Ok tt else Err BadDigitOrEnding) read
      go true b c read = refl
      go false true c read = refl
      go false false true read = refl
      go false false false read = refl

  abbrev pub by_kind : Option Kind → EventReading
  by_kind (Some k) = where_ended (ended (digits_in (with_kind (fields_of k)) + 1) line) (event_of_kind k line)
  by_kind None = Err UnknownKind

  pub kind_numbered_is : (n : ℕ) → of_kind (Some n) line ≡ by_kind (kind_numbered n)
  unfolding of_kind
  kind_numbered_is n = go (eqb n executed_kind) (eqb n rested_kind) (eqb n cancelled_kind) (eqb n moved_kind)
    where
      go : (a b c d : Bool)
          → (if a then of_fields executed_fields executed_of line
          else if b then of_fields rested_fields rested_of line
          else if c then of_fields cancelled_fields cancelled_of line
          else if d then of_fields moved_fields moved_of line
          else Err UnknownKind)
          ≡ by_kind
          (if a then Some kind.Executed
          else if b then Some kind.Rested
          else if c then Some kind.Cancelled
          else if d then Some kind.Moved
          else None)
      go true b c d = ended_first executed_fields executed_of
      go false true c d = ended_first rested_fields rested_of
      go false false true d = ended_first cancelled_fields cancelled_of
      go false false false true = ended_first moved_fields moved_of
      go false false false false = refl

pub event_in_short : (s : List ℕ) → length s < 2 → event_in s ≡ (Err Short)
unfolding event_in
event_in_short s l = rw (lt-ltb (length s) 2 l)

-- elsewhere it is of the kind that was read, or of none
module _ (s : List ℕ) (l : 2 ≤ length s) where
  pub event_in_bad : number_at 1 0 s ≡ None → event_in s ≡ Err UnknownKind
  unfolding event_in of_kind
  event_in_bad e = rw (le-ltb (length s) 2 l, e)

  pub event_in_kind : (n : ℕ) (k : Option Kind) → number_at 1 0 s ≡ Some n → kind_numbered n ≡ k → event_in s ≡ by_kind s k
  unfolding event_in
  event_in_kind n k e f = rw (le-ltb (length s) 2 l, e, ← f) (kind_numbered_is s n)
