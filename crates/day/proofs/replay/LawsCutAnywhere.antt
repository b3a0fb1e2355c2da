-- An input is printed the same wherever it is cut into pieces, though of a part of a line no more is kept than one byte over the
-- longest line: the law of pieces of any state (`cut_alike`), of the book and what is printed so far. Assumes nothing.
use Prim.Native.Nat.{ℕ, ◌≤◌}
use mathlib.Core.List.{List, [], ◌∷◌, ◌++◌, append_assoc, append-nil}
use mathlib.Core.Path.{◌≡◌, sym, ap, ◌∙◌}
use lib.ListN.{length, take}
use native.Mathlib.Omega.{arith}
use Rattle.basics.specs.Lists.{none}
use Rattle.command_lines.specs.Pieces.{part_kept, all_of, after_lines, after_part, after_pieces}
use Rattle.command_lines.proofs.lines.LawsScanned.{unended_bad}
use Rattle.command_lines.proofs.lines.LawsPieces.{unended_take, cut_alike}
use Rattle.rules.specs.Book.{Book, fresh}
use Rattle.rules.specs.Day.{cut, unended_line, lines_in, book_after, printed, printed_of, output}
use Rattle.rules.specs.Step.{answer_to}
use Rattle.rules.proofs.LawsDay.{part_unended}
use Rattle.rules.proofs.LawsUnended.{Unended}
use Rattle.day.specs.Pieces.{day_begun, printed_at_end, printed_of_pieces}
use Rattle.day.proofs.replay.LawsLineByLine.{long_bad, answer_to_bad, printed_bad}

-- ── The book and what is printed so far ──

record Day : Type 0 where
  book : Book
  lines : List ℕ

abbrev day : Book → List ℕ → Day
day b lines = record { book = b; lines = lines }

abbrev turn : Day → List ℕ → Day
turn s l = day (answer_to s.book l).book (s.lines ++ printed (answer_to s.book l))

-- a line over the longest is no command, whatever its bytes are
long_turn : (s : Day) (p q : List ℕ) → part_kept ≤ length p → part_kept ≤ length q → take part_kept p ≡ take part_kept q → turn s p ≡ turn s q
long_turn s p q h k same = rw (answer_to_bad s.book p (long_bad p h), answer_to_bad s.book q (long_bad q k))

-- ── Lines, and pieces ──

lines_print : (b : Book) (out : List ℕ) (ls : List (List ℕ)) → after_lines turn (day b out) ls ≡ day (book_after b ls) (out ++ printed_of b ls)
unfolding after_lines book_after printed_of
lines_print b out [] = ap (day b) (sym (append-nil out))
lines_print b out (l ∷ ls) =
    let a = answer_to b l in
    lines_print a.book (out ++ printed a) ls ∙ ap (day (book_after a.book ls)) (append_assoc out (printed a) (printed_of a.book ls))

-- a part that the input ends with has no line feed, so it is no command
part_prints : (b : Book) (out part : List ℕ) → Unended part → (after_part turn (day b out) part).lines ≡ out ++ printed_at_end part
unfolding unended_line after_lines printed_at_end
part_prints b out [] a = sym (append-nil out)
part_prints b out (c ∷ part) a = ap (λ (s : List ℕ). out ++ s) (printed_bad b (c ∷ part) (unended_bad (c ∷ part) a))

pieces_print : (b : Book) (out part : List ℕ) → Unended part → (pieces : List (List ℕ))
    → (after_pieces turn part_kept (day b out) part pieces).lines ≡ out ++ printed_of_pieces (record { book = b; part = part }) pieces
unfolding after_pieces printed_of_pieces
pieces_print b out part a [] = part_prints b out part a
pieces_print b out part a (piece ∷ pieces) =
    let c = cut (part ++ piece) in
    let left = take part_kept c.part in
    let b' = book_after b c.whole in
    let out' = printed_of b c.whole in
    ap (λ (s : Day). (after_pieces turn part_kept s left pieces).lines) (lines_print b out c.whole)
    ∙ pieces_print b' (out ++ out') left (unended_take part_kept (part_unended (part ++ piece))) pieces
    ∙ append_assoc out out' (printed_of_pieces (record { book = b'; part = left }) pieces)

pub cut_anywhere : (pieces : List (List ℕ)) → printed_of_pieces day_begun pieces ≡ output (all_of pieces)
unfolding output
cut_anywhere pieces =
    let input = all_of pieces in
    sym (pieces_print fresh [] [] none pieces)
    ∙ ap (λ (s : Day). s.lines) (cut_alike turn part_kept (omega arith) long_turn (day fresh []) pieces ∙ lines_print fresh [] (lines_in input))
