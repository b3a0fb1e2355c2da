-- One line after the other: what is worked so far and what is worked of the rest are together what is worked of the whole input.
-- Assumes nothing.
use Prim.Native.Nat.{ℕ, suc, ◌+◌, ◌-◌, ◌≤◌, ◌<◌}
use mathlib.Core.List.{List, [], ◌∷◌, ◌++◌, append_assoc, append-nil}
use mathlib.Core.Path.{◌≡◌, refl, sym, ap, ◌∙◌}
use lib.ListN.{length, take, drop, length-append, length-take, length-drop}
use lib.Seq.{take_at, take_all, drop-drop, length-take-le}
use native.Mathlib.Omega.{arith}
use borrow.Author.Tests.{lt-ltb, le-ltb}
use Rattle.basics.specs.Bytes.{onto}
use Rattle.basics.specs.Lists.{first_where}
use Rattle.basics.proofs.LawsBytes.{onto_none, onto_after, onto_part}
use Rattle.command_lines.specs.declared.lines.Line.{Line}
use Rattle.command_lines.specs.Lines.{is_line_feed, first_line}
use Rattle.command_lines.proofs.lines.LawsCut.{cut_line, cut_none}
use Rattle.rules.specs.Book.{Book}
use Rattle.rules.specs.CommandLines.{command_in}
use Rattle.rules.specs.Day.{Cut, cut, printed}
use Rattle.rules.specs.Refusals.{least_room}
use Rattle.rules.specs.Step.{Answer, answer_to}
use Rattle.day.specs.declared.replay.Fed.{Fed}
use Rattle.day.specs.Feed.{answer_for, Worked, nothing_of, behind, worked, Prints, Feeds}

-- ── The lines worked so far ──

abbrev fed : ℕ → ℕ → Fed
fed at len = record { at = at; length = len }

-- what was worked before, in front of what is worked after it
abbrev pub ahead : List ℕ → ℕ → Worked → Worked
ahead lines k w = record { book = w.book; length = k + w.length; printed = lines ++ w.printed }

pub record Feeding (input out₀ : List ℕ) (b₀ : Book) (b : Book) (out : List ℕ) (at len : ℕ) : Type 0 where
  pub within : at ≤ length input
  pub fits : len ≤ length out₀
  pub long : length out ≡ length out₀
  pub written : out ≡ onto (take len out) out₀
  pub goes_on : worked (length out₀) b₀ (cut input).whole ≡ ahead (take len out) at (worked (length out₀ - len) b (cut (drop at input)).whole)

pub feeding_start : (input out : List ℕ) (b : Book) → Feeding input out b b out 0 0
feeding_start input out b = record {
  within = omega arith;
  fits = omega arith;
  long = refl;
  written = onto_none out;
  goes_on =
      let all : length out - 0 ≡ length out = omega arith in
      let none : 0 + (worked (length out) b (cut input).whole).length ≡ (worked (length out) b (cut input).whole).length = omega arith in
      rw (all, none);
}

-- lines that were written into the part of an output from `len` on have room there
pub lines_have_room : (lines part out : List ℕ) (len : ℕ) → part ≡ onto lines (take (length out - len) (drop len out))
    → length part ≡ length (take (length out - len) (drop len out)) → length lines ≤ length out - len
unfolding onto
lines_have_room lines part out len written long =
    omega (arith, simp (length-append, length-take, length-drop) at (ap length written), simp (length-take, length-drop) at long)

-- ── The end ──

module _ (input out₀ : List ℕ) (b₀ : Book) (b : Book) (out : List ℕ) (at len : ℕ) (f : Feeding input out₀ b₀ b out at len) where
  -- nothing more is worked
  abbrev pub Ends : Type 0
  Ends = worked (length out₀) b₀ (cut input).whole ≡ record { book = b; length = at; printed = take len out }

  ends : worked (length out₀ - len) b (cut (drop at input)).whole ≡ nothing_of b → Ends
  ends e =
      let z : at + 0 ≡ at = omega arith in
      f.goes_on ∙ ap (ahead (take len out) at) e ∙ rw (z, append-nil (take len out))

  no_room : (s : List (List ℕ)) (room : ℕ) (b : Book) → room < least_room → worked room b s ≡ nothing_of b
  unfolding worked
  no_room [] room b l = refl
  no_room (x ∷ s) room b l = rw (lt-ltb room least_room l)

  pub ends_full : length out - len < least_room → Ends
  ends_full l = ends (no_room (cut (drop at input)).whole (length out₀ - len) b (omega (arith, f.long)))

  ends_empty : length input ≤ at + first_where is_line_feed (drop at input) → Ends
  unfolding worked
  ends_empty l =
      let short : length (drop at input) ≡ length input - at = length-drop at input in
      let m : length (drop at input) ≤ first_where is_line_feed (drop at input) = omega (arith, short) in
      ends (rw (cut_none (drop at input) m))

  rest_is : take (length input - at) (drop at input) ≡ drop at input
  rest_is = take_all (length input - at) (drop at input) (omega (arith, length-drop at input))

  pub ends_found : (l : Line) → l ≡ first_line (take (length input - at) (drop at input)) → length input - at ≤ l.digits → Ends
  ends_found l found none =
      let d : l.digits ≡ first_where is_line_feed (drop at input) = ap (λ (x : Line). x.digits) found ∙ rw rest_is in
      ends_empty (omega (arith, d, none, f.within))

  -- so the book and the output are those of all that is worked
  pub left_end : Ends → Feeds b₀ input out₀ (fed at len) b out
  left_end e =
      let long : length (take len out) ≡ len = length-take-le len out (omega (arith, f.fits, f.long)) in
      rw (e, long) (refl, refl, f.written, f.within, f.fits)

  -- ── A turn ──

  module _ (room : least_room ≤ length out - len) (e : ℕ) (found : e ≡ at + first_where is_line_feed (drop at input)) (is_line : e < length input)
      (line : List ℕ) (line_is : line ≡ take (e + 1 - at) (drop at input)) where
    abbrev pub it : Answer
    it = answer_to b line

    -- the line, and what is cut behind it
    first_line_lem : (cut (drop at input)).whole ≡ line ∷ (cut (drop (e + 1) input)).whole
    first_line_lem =
        let s = drop at input in
        let long : length s ≡ length input - at = length-drop at input in
        let k : suc (first_where is_line_feed s) ≡ e + 1 - at = omega (arith, found) in
        let j : at + (e + 1 - at) ≡ e + 1 = omega (arith, found) in
        let c = ap (λ (x : Cut). x.whole) (cut_line s (omega (arith, found, long, f.within))) in
        c ∙ rw (k, ← line_is, drop-drop (e + 1 - at) at input, j)

    line_long : at + length line ≡ e + 1
    line_long =
        let long : length (drop at input) ≡ length input - at = length-drop at input in
        let m : length (take (e + 1 - at) (drop at input)) ≡ e + 1 - at = length-take-le (e + 1 - at) (drop at input) (omega (arith, found, long)) in
        let n : length line ≡ e + 1 - at = ap length line_is ∙ m in
        omega (arith, found, n)

    worked_line : worked (length out₀ - len) b (cut (drop at input)).whole
        ≡ behind line (printed it) (worked (length out₀ - len - length (printed it)) it.book (cut (drop (e + 1) input)).whole)
    unfolding worked
    worked_line = rw (first_line_lem, le-ltb (length out₀ - len) least_room (omega (arith, room, f.long)))

    -- what printing the line leaves: the book, and the part of the output that was lent
    module _ (b' : Book) (n : ℕ) (part : List ℕ) (length_is : n ≡ length (printed it)) (book_is : b' ≡ it.book)
        (part_is : part ≡ onto (printed it) (take (length out - len) (drop len out))) where
      abbrev pub next : List ℕ
      next = take len out ++ (part ++ drop (length out - len) (drop len out))

      module _ (part_long : length part ≡ length (take (length out - len) (drop len out))) where
        same : length next ≡ length out
        same =
            let long = simp (length-take, length-drop) at part_long in
            simp (length-append, length-take, length-drop) (omega (arith, long, f.fits, f.long))

        front_long : length (take len out) ≡ len
        front_long = length-take-le len out (omega (arith, f.fits, f.long))

        next_is : next ≡ onto (take len out ++ printed it) out₀
        next_is = onto_after (take len out) (printed it) out₀ out next len front_long f.written (onto_part len (printed it) out part part_is)

        lines_long : length (take len out ++ printed it) ≡ len + n
        lines_long = length-append (take len out) (printed it) ∙ omega (arith, front_long, length_is)

        lines_fit : len + n ≤ length out₀
        lines_fit = omega (arith, length_is, lines_have_room (printed it) part out len part_is part_long, f.fits, f.long)

        taken : take (len + n) next ≡ take len out ++ printed it
        unfolding onto
        taken =
            ap (take (len + n)) next_is
            ∙ take_at (take len out ++ printed it) (drop (length (take len out ++ printed it)) out₀) (len + n) lines_long

        rest_same : worked (length out₀ - len - length (printed it)) it.book (cut (drop (e + 1) input)).whole
            ≡ worked (length out₀ - (len + n)) b' (cut (drop (e + 1) input)).whole
        rest_same =
            let k : length out₀ - len - length (printed it) ≡ length out₀ - (len + n) = omega (arith, length_is) in
            rw (k, book_is)

        pub feeding_turn : Feeding input out₀ b₀ b' next (e + 1) (len + n)
        feeding_turn =
            let w = worked (length out₀ - (len + n)) b' (cut (drop (e + 1) input)).whole in
            let lengths : at + (length line + w.length) ≡ e + 1 + w.length = omega (arith, line_long) in
            record {
              within = omega (arith, is_line);
              fits = lines_fit;
              long = same ∙ f.long;
              written = next_is ∙ ap (λ (p : List ℕ). onto p out₀) (sym taken);
              goes_on =
                  f.goes_on
                  ∙ ap (ahead (take len out) at) (worked_line ∙ ap (behind line (printed it)) rest_same)
                  ∙ rw (taken, ← lengths) (ap (λ (p : List ℕ). joined p w.book (at + (length line + w.length))) (sym (append_assoc (take len out) (printed it) w.printed)));
            }
          where
            joined : List ℕ → Book → ℕ → Worked
            joined p b k = record { book = b; length = k; printed = p }

  -- the same of a line that was found together with what it reads as
  module _ (room : least_room ≤ length out - len) (l : Line) (found : l ≡ first_line (take (length input - at) (drop at input)))
      (is_line : l.digits < length input - at) where
    place_is : at + l.digits ≡ at + first_where is_line_feed (drop at input)
    place_is = ap (λ (x : Line). at + x.digits) found ∙ rw rest_is

    line_read : answer_for b l.reading ≡ answer_to b (take (at + l.digits + 1 - at) (drop at input))
    unfolding answer_to
    line_read =
        let k : at + l.digits + 1 - at ≡ suc l.digits = omega arith in
        let d : l.digits ≡ first_where is_line_feed (drop at input) = ap (λ (x : Line). x.digits) found ∙ rw rest_is in
        let r : l.reading ≡ command_in (take (suc (first_where is_line_feed (drop at input))) (drop at input)) =
        ap (λ (x : Line). x.reading) found ∙ rw rest_is in
        rw (k, r, d)

    pub feeding_line : (b' : Book) (n : ℕ) (part : List ℕ) → Prints b l.reading (take (length out - len) (drop len out)) n b' part
        → length part ≡ length (take (length out - len) (drop len out))
        → Feeding input out₀ b₀ b' (take len out ++ (part ++ drop (length out - len) (drop len out))) (at + (l.digits + 1)) (len + n)
    feeding_line b' n part prints part_long =
        let next_at : at + (l.digits + 1) ≡ at + l.digits + 1 = omega arith in
        let read = rw line_read at prints in
        rw next_at
        (feeding_turn room (at + l.digits) place_is (omega (arith, is_line)) (take (at + l.digits + 1 - at) (drop at input)) refl b' n part
        read.0 read.1 read.2 part_long)
