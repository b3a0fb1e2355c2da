-- A line that is longer than every event line is told by its first two digits alone, so that of a part of a line its beginning is
-- enough; and so the tally of an output is the same wherever the output is cut. Assumes nothing.
use Prim.Native.Nat.{ℕ, ◌+◌, ◌≤◌, ◌<◌}
use mathlib.Core.List.{List}
use mathlib.Core.Path.{◌≡◌, refl, sym, ap, ◌∙◌}
use lib.Dec.{eqb}
use lib.ListN.{length, take}
use lib.Seq.{take-take}
use native.Mathlib.Omega.{arith}
use borrow.Author.Tests.{lt-ltb, le-ltb}
use Rattle.std.specs.Prelude.{if◌then◌else◌, Option, Some, None, Err}
use Rattle.digits.specs.Digits.{number_in, number_at}
use Rattle.kinds.specs.declared.Number.{Number}
use Rattle.command_lines.specs.Pieces.{part_kept, all_of}
use Rattle.command_lines.proofs.lines.LawsPieces.{cut_alike}
use Rattle.rules.specs.EventReading.{EventReading}
use Rattle.rules.specs.declared.NoEvent.TheVariants.{UnknownKind, TrailingBytes}
use Rattle.rules.specs.CommandLines.{Making, digits_in}
use Rattle.rules.specs.EventLines.{executed_kind, rested_kind, cancelled_kind, moved_kind, executed_fields, rested_fields, cancelled_fields, moved_fields, with_kind}
use Rattle.rules.specs.EventReading.{executed_of, rested_of, cancelled_of, moved_of, of_fields, of_kind, event_in}
use Rattle.tally.specs.declared.Tally.{Tally}
use Rattle.tally.specs.Tally.{none_counted, going_on, turn, tally_of, tally_of_pieces}

-- what a line is read as that is longer than every event line
read_long : Option ℕ → EventReading
read_long (Some kind) =
    if eqb kind executed_kind then Err TrailingBytes
    else if eqb kind rested_kind then Err TrailingBytes
    else if eqb kind cancelled_kind then Err TrailingBytes
    else if eqb kind moved_kind then Err TrailingBytes
    else Err UnknownKind
read_long None = Err UnknownKind

fields_long : (fields : List ℕ) (make : Making fields EventReading) (s : List ℕ) → digits_in (with_kind fields) + 1 < length s → of_fields fields make s ≡ (Err TrailingBytes)
unfolding of_fields
fields_long fields make s l =
    let n = digits_in (with_kind fields) + 1 in
    rw (le-ltb (length s) n (omega (arith, l)), lt-ltb n (length s) l) refl

kind_long : (v : Option ℕ) (s : List ℕ) → 36 ≤ length s → of_kind v s ≡ read_long v
unfolding of_kind read_long
kind_long (Some kind) s l =
    rw (
      fields_long executed_fields executed_of s (omega (arith, l)),
      fields_long rested_fields rested_of s (omega (arith, l)),
      fields_long cancelled_fields cancelled_of s (omega (arith, l)),
      fields_long moved_fields moved_of s (omega (arith, l)),
    ) refl
kind_long None s l = refl

event_long : (s : List ℕ) → 36 ≤ length s → event_in s ≡ read_long (number_at 1 0 s)
unfolding event_in
event_long s l = rw (le-ltb (length s) 2 (omega (arith, l))) (kind_long (number_at 1 0 s) s l)

-- the first two bytes are those of the beginning
kind_kept : (kept : ℕ) (s : List ℕ) → 36 ≤ kept → number_at 1 0 s ≡ number_in 1 (take 2 (take kept s))
kind_kept kept s l = ap (number_in 1) (sym (take-take 2 kept s (omega (arith, l))))

pub long_alike : (kept : ℕ) → 36 ≤ kept → (n : Number) (t : Tally) (p q : List ℕ) → kept ≤ length p → kept ≤ length q → take kept p ≡ take kept q → turn n t p ≡ turn n t q
unfolding turn going_on
long_alike kept least n t p q l m e =
    let k : number_at 1 0 p ≡ number_at 1 0 q = kind_kept kept p least ∙ ap (λ (s : List ℕ). number_in 1 (take 2 s)) e ∙ sym (kind_kept kept q least) in
    rw (event_long p (omega (arith, least, l)), event_long q (omega (arith, least, m)), k) refl

-- so the tally of an output is the same wherever it is cut
pub tally_cut : (n : Number) (pieces : List (List ℕ)) → tally_of_pieces n pieces ≡ tally_of n (all_of pieces)
unfolding tally_of_pieces tally_of
tally_cut n pieces = cut_alike (turn n) part_kept (omega arith) (long_alike part_kept (omega arith) n) none_counted pieces
