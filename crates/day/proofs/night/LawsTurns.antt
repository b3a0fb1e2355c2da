-- The turns of the program hand over the output of the whole input, whatever its reads give, and they come to an end; wherever they stop
-- before, what was written is the beginning of it. Assumes nothing.
use Prim.Native.Nat.{ℕ, zero, suc, ◌+◌, ◌-◌, ◌≤◌, ◌<◌}
use mathlib.Core.Bool.{true, false}
use mathlib.Core.List.{List, [], ◌∷◌, ◌++◌, append_assoc, append-nil}
use mathlib.Core.Logic.{⊎_elim}
use mathlib.Core.Path.{◌≡◌, refl, sym, ap, ◌∙◌}
use lib.Dec.{ltb}
use lib.ListN.{length, take, drop, length-append, take-append-drop}
use lib.Seq.{drop-drop, length-take-le, take-append_seam}
use native.Mathlib.Omega.{arith}
use borrow.Author.Tests.{ltb-true, ltb-false, not-true, not-false}
use Rattle.basics.specs.Bytes.{onto}
use Rattle.basics.specs.Lists.{first_where}
use Rattle.basics.proofs.LawsChoice.{holds_or_not, lt_or_le}
use Rattle.command_lines.specs.Lines.{is_line_feed}
use Rattle.command_lines.specs.Pieces.{part_kept, all_of}
use Rattle.command_lines.proofs.lines.LawsCut.{cut_line, cut_none}
use Rattle.day.specs.Feed.{Worked, worked}
use Rattle.day.specs.Pieces.{printed_at_end, printed_of_pieces}
use Rattle.day.proofs.replay.LawsCutAnywhere.{cut_anywhere}
use Rattle.rules.specs.Book.{Book, fresh}
use Rattle.rules.specs.Day.{Cut, cut, book_after, printed, printed_of, output}
use Rattle.rules.specs.Refusals.{least_room}
use Rattle.rules.specs.Step.{answer_to}
use Rattle.day.specs.declared.night.Turn.{Turn}
use Rattle.day.specs.Turns.{Turned, turned, Takes, Runs, goes_on, reads_on, ends, Ran, Stops, stops, stops_at_end, goes_on_to, reads_on_to, Begins}

-- ── What stands behind whole lines ──

abbrev cut_to : List (List ℕ) → List ℕ → Cut
cut_to whole part = record { whole = whole; part = part }

-- behind the first line stand the others and the same part
behind_first : (s l : List ℕ) (ls : List (List ℕ)) → (cut s).whole ≡ l ∷ ls → cut (drop (length l) s) ≡ cut_to ls (cut s).part
behind_first s l ls e =
    let k = first_where is_line_feed s in
    ⊎_elim
    (λ (h : k < length s).
    let c = cut_line s h in
    let n : length (take (suc k) s) ≡ suc k = length-take-le (suc k) s h in
    let f : take (suc k) s ∷ (cut (drop (suc k) s)).whole ≡ l ∷ ls = ap (λ (x : Cut). x.whole) (sym c) ∙ e in
    let first : l ≡ take (suc k) s = cc in
    let others : (cut (drop (suc k) s)).whole ≡ ls = cc in
    rw (first, n, c) (ap (λ (w : List (List ℕ)). cut_to w (cut (drop (suc k) s)).part) others))
    (λ (h : length s ≤ k). let c = cut_none s h in let f : [] ≡ l ∷ ls = ap (λ (x : Cut). x.whole) (sym c) ∙ e in cc)
    (lt_or_le k (length s))

-- and so it is behind any of them that stand in front
behind_lines : (front rest : List (List ℕ)) (s : List ℕ) → (cut s).whole ≡ front ++ rest
    → cut (drop (length (all_of front)) s) ≡ cut_to rest (cut s).part
unfolding all_of
behind_lines [] rest s e = ap (λ (w : List (List ℕ)). cut_to w (cut s).part) e
behind_lines (l ∷ front) rest s e =
    let s' = drop (length l) s in
    let c : cut s' ≡ cut_to (front ++ rest) (cut s).part = behind_first s l (front ++ rest) e in
    let d : cut (drop (length (all_of front)) s') ≡ cut_to rest (cut s').part = behind_lines front rest s' (ap (λ (x : Cut). x.whole) c) in
    ap (λ (n : ℕ). cut (drop n s)) (length-append l (all_of front))
    ∙ ap cut (sym (drop-drop (length (all_of front)) (length l) s))
    ∙ d
    ∙ ap (λ (x : Cut). cut_to rest x.part) c

-- where no whole line stands, all bytes are the part
only_part : (s : List ℕ) → (cut s).whole ≡ [] → (cut s).part ≡ s
only_part s e =
    let k = first_where is_line_feed s in
    ⊎_elim
    (λ (h : k < length s).
    let f : take (suc k) s ∷ (cut (drop (suc k) s)).whole ≡ [] = ap (λ (x : Cut). x.whole) (sym (cut_line s h)) ∙ e in cc)
    (λ (h : length s ≤ k). ap (λ (x : Cut). x.part) (cut_none s h))
    (lt_or_le k (length s))

-- ── What is worked of some lines ──

-- lines in two parts: those in front are worked, and none is left behind them unless the room ran short
record Parts (room : ℕ) (b : Book) (ls : List (List ℕ)) (w : Worked) : Type 0 where
  front : List (List ℕ)
  rest : List (List ℕ)
  lines : ls ≡ front ++ rest
  long : w.length ≡ length (all_of front)
  prints : w.printed ≡ printed_of b front
  leaves : w.book ≡ book_after b front
  all : least_room ≤ room - length w.printed → rest ≡ []

-- what is worked of any lines is so
worked_parts : (room : ℕ) (b : Book) (ls : List (List ℕ)) → Parts room b ls (worked room b ls)
unfolding worked all_of printed_of book_after
worked_parts room b [] = record {
  front = [];
  rest = [];
  lines = refl;
  long = refl;
  prints = refl;
  leaves = refl;
  all = λ (h : least_room ≤ room - 0). refl;
}
worked_parts room b (l ∷ ls) =
    let a = answer_to b l in
    let w = worked (room - length (printed a)) a.book ls in
    let p = worked_parts (room - length (printed a)) a.book ls in
    ⊎_elim
    (λ (t : ltb room least_room ≡ true). rw t (record {
      front = [];
      rest = l ∷ ls;
      lines = refl;
      long = refl;
      prints = refl;
      leaves = refl;
      all = λ (h : least_room ≤ room - 0). absurd (omega (arith, ltb-true room least_room t));
    }))
    (λ (t : ltb room least_room ≡ false). rw t (record {
      front = l ∷ p.front;
      rest = p.rest;
      lines = ap (λ (x : List (List ℕ)). l ∷ x) p.lines;
      long = omega (arith, length-append l (all_of p.front), p.long);
      prints = ap (λ (x : List ℕ). printed a ++ x) p.prints;
      leaves = p.leaves;
      all = λ (h : least_room ≤ room - length (printed a ++ w.printed)). p.all (omega (arith, length-append (printed a) w.printed));
    }))
    (holds_or_not (ltb room least_room))

-- ── Lines in two parts ──

-- the book after both parts, and what is printed of both
book_after_append : (b : Book) (ls ms : List (List ℕ)) → book_after b (ls ++ ms) ≡ book_after (book_after b ls) ms
unfolding book_after
book_after_append b [] ms = refl
book_after_append b (l ∷ ls) ms = book_after_append (answer_to b l).book ls ms

printed_of_append : (b : Book) (ls ms : List (List ℕ)) → printed_of b (ls ++ ms) ≡ printed_of b ls ++ printed_of (book_after b ls) ms
unfolding book_after printed_of
printed_of_append b [] ms = refl
printed_of_append b (l ∷ ls) ms =
    let a = answer_to b l in
    ap (λ (x : List ℕ). printed a ++ x) (printed_of_append a.book ls ms)
    ∙ sym (append_assoc (printed a) (printed_of a.book ls) (printed_of (book_after a.book ls) ms))

-- what is printed is printed of a line
prints_some : (b : Book) (ls : List (List ℕ)) → 0 < length (printed_of b ls) → 0 < length ls
unfolding printed_of
prints_some b [] h = h
prints_some b (l ∷ ls) h = omega arith

-- ── A turn ──

-- what is to be printed from a book on: of bytes that were cut, and of the pieces read behind them
unfoldable ahead : Book → Cut → List (List ℕ) → List ℕ
ahead b c pieces = printed_of b c.whole ++ printed_of_pieces (record { book = book_after b c.whole; part = take part_kept c.part }) pieces

-- it is printed of some lines first, and then from the book after them on
ahead_parts : (b : Book) (front rest : List (List ℕ)) (part : List ℕ) (pieces : List (List ℕ))
    → ahead b (cut_to (front ++ rest) part) pieces ≡ printed_of b front ++ ahead (book_after b front) (cut_to rest part) pieces
unfolding ahead
ahead_parts b front rest part pieces =
    let b' = book_after b front in
    rw (book_after_append b front rest, printed_of_append b front rest)
    (append_assoc (printed_of b front) (printed_of b' rest) (printed_of_pieces (record { book = book_after b' rest; part = take part_kept part }) pieces))

module _ (room : ℕ) (b : Book) (waits : List ℕ) where
  abbrev turn : Turned
  turn = turned room b waits

  abbrev work : Worked
  work = worked room b (cut waits).whole

  abbrev parts : Parts room b (cut waits).whole work
  parts = worked_parts room b (cut waits).whole

  -- what it prints, and the book that it leaves
  turn_prints : turn.printed ≡ printed_of b parts.front
  unfolding turned
  turn_prints = parts.prints

  turn_leaves : turn.book ≡ book_after b parts.front
  unfolding turned
  turn_leaves = parts.leaves

  -- behind the bytes of the lines that are worked stand the lines that are left, and the same part
  behind_work : cut (drop work.length waits) ≡ cut_to parts.rest (cut waits).part
  behind_work = rw parts.long (behind_lines parts.front parts.rest waits parts.lines)

  -- it does not read: the room ran short, and the lines that are left and the part wait
  module _ (short : turn.reads ≡ false) where
    short_test : ltb (room - length work.printed) least_room ≡ true
    unfolding turned
    short_test = not-false (ltb (room - length work.printed) least_room) short

    short_waits : cut turn.waits ≡ cut_to parts.rest (cut waits).part
    unfolding turned
    short_waits = rw short_test behind_work

    -- so what it prints is printed first, and the turns go on from there
    short_ahead : (pieces : List (List ℕ)) → turn.printed ++ ahead turn.book (cut turn.waits) pieces ≡ ahead b (cut waits) pieces
    short_ahead pieces =
        let lines : ahead b (cut waits) pieces ≡ ahead b (cut_to (parts.front ++ parts.rest) (cut waits).part) pieces =
        ap (λ (x : List (List ℕ)). ahead b (cut_to x (cut waits).part) pieces) parts.lines in
        rw (turn_prints, turn_leaves, short_waits) (sym (lines ∙ ahead_parts b parts.front parts.rest (cut waits).part pieces))

    -- and one line at least was worked, where the room is enough for one command
    short_falls : least_room ≤ room → length (cut turn.waits).whole < length (cut waits).whole
    short_falls enough =
        let front = parts.front in
        let rest = parts.rest in
        let ran : room - length work.printed < least_room = ltb-true (room - length work.printed) least_room short_test in
        let some : 0 < length front = prints_some b front (omega (arith, enough, ran, ap length parts.prints)) in
        let left : length (cut turn.waits).whole ≡ length rest = ap (λ (x : Cut). length x.whole) short_waits in
        let all : length (cut waits).whole ≡ length front + length rest = ap length parts.lines ∙ length-append front rest in
        omega (arith, some, left, all)

  -- it reads: all lines are worked, and of the part waits what is kept of it
  module _ (reads : turn.reads ≡ true) where
    reads_test : ltb (room - length work.printed) least_room ≡ false
    unfolding turned
    reads_test = not-true (ltb (room - length work.printed) least_room) reads

    reads_rest : parts.rest ≡ []
    reads_rest = parts.all (ltb-false (room - length work.printed) least_room reads_test)

    reads_front : parts.front ≡ (cut waits).whole
    reads_front = sym (parts.lines ∙ ap (λ (x : List (List ℕ)). parts.front ++ x) reads_rest ∙ append-nil parts.front)

    reads_waits : turn.waits ≡ take part_kept (cut waits).part
    unfolding turned
    reads_waits =
        let left = drop work.length waits in
        let none : (cut left).whole ≡ [] = ap (λ (x : Cut). x.whole) behind_work ∙ reads_rest in
        let all : left ≡ (cut waits).part = sym (only_part left none) ∙ ap (λ (x : Cut). x.part) behind_work in
        rw reads_test (ap (take part_kept) all)

    -- so what it prints is printed first, and then that of the pieces behind the part that waits
    reads_ahead : (pieces : List (List ℕ))
        → turn.printed ++ printed_of_pieces (record { book = turn.book; part = turn.waits }) pieces ≡ ahead b (cut waits) pieces
    unfolding ahead
    reads_ahead pieces = rw (turn_prints, turn_leaves, reads_waits, reads_front)

-- ── All turns ──

-- from any book and bytes that wait: what the turns hand over is all that is to be printed
runs_ahead : {room : ℕ} {b : Book} {waits : List ℕ} {pieces : List (List ℕ)} {handed : List ℕ} → Runs room b waits pieces handed
    → handed ≡ ahead b (cut waits) pieces
unfolding printed_of_pieces ahead
runs_ahead {room} (goes_on {b = b} {waits = waits} {pieces = pieces} short runs) =
    ap (λ (x : List ℕ). (turned room b waits).printed ++ x) (runs_ahead runs) ∙ short_ahead room b waits short pieces
runs_ahead {room} (reads_on {b = b} {waits = waits} {piece = piece} {pieces = pieces} reads runs) =
    ap (λ (x : List ℕ). (turned room b waits).printed ++ x) (runs_ahead runs) ∙ reads_ahead room b waits reads (piece ∷ pieces)
runs_ahead {room} (ends {b = b} {waits = waits} reads) = reads_ahead room b waits reads []

-- whatever the reads give, all that is handed to `write` when the input ends is the output of the whole input
pub runs_output : (room : ℕ) (pieces : List (List ℕ)) (handed : List ℕ) → Runs room fresh [] pieces handed → handed ≡ output (all_of pieces)
unfolding ahead cut printed_of book_after
runs_output room pieces handed runs = runs_ahead runs ∙ cut_anywhere pieces

-- ── Turns for every input ──

-- the turns from a book and the bytes that wait
record RanFrom (room : ℕ) (b : Book) (waits : List ℕ) (pieces : List (List ℕ)) : Type 0 where
  handed : List ℕ
  runs : Runs room b waits pieces handed

module _ (room : ℕ) (enough : least_room ≤ room) where
  -- a turn that does not read leaves fewer whole lines, so at last one reads; from there on the turns are given
  runs_until : (pieces : List (List ℕ)) → ((b : Book) (waits : List ℕ) → (turned room b waits).reads ≡ true → RanFrom room b waits pieces)
      → (most : ℕ) (b : Book) (waits : List ℕ) → length (cut waits).whole < most → RanFrom room b waits pieces
  runs_until pieces onward zero b waits l = absurd (omega arith)
  runs_until pieces onward (suc most) b waits l =
      let t = turned room b waits in
      ⊎_elim
      (onward b waits)
      (λ (short : t.reads ≡ false).
      let r = runs_until pieces onward most t.book t.waits (omega (arith, l, short_falls room b waits short enough)) in
      record { handed = t.printed ++ r.handed; runs = goes_on short r.runs })
      (holds_or_not t.reads)

  runs_from : (pieces : List (List ℕ)) → ((b : Book) (waits : List ℕ) → (turned room b waits).reads ≡ true → RanFrom room b waits pieces)
      → (b : Book) (waits : List ℕ) → RanFrom room b waits pieces
  runs_from pieces onward b waits = runs_until pieces onward (suc (length (cut waits).whole)) b waits (omega arith)

  -- the turns from one that reads
  runs_reading : (pieces : List (List ℕ)) (b : Book) (waits : List ℕ) → (turned room b waits).reads ≡ true → RanFrom room b waits pieces
  runs_reading [] b waits reads =
      let t = turned room b waits in
      record { handed = t.printed ++ printed_at_end t.waits; runs = ends reads }
  runs_reading (piece ∷ pieces) b waits reads =
      let t = turned room b waits in
      let r = runs_from pieces (runs_reading pieces) t.book (t.waits ++ piece) in
      record { handed = t.printed ++ r.handed; runs = reads_on reads r.runs }

-- there are such turns for every input and every cut of it, where the room is enough for one command
pub runs_end : (room : ℕ) → least_room ≤ room → (pieces : List (List ℕ)) → Ran room pieces
runs_end room enough pieces =
    let r = runs_from room enough pieces (runs_reading room enough pieces) fresh [] in
    record { handed = r.handed; runs = r.runs }

-- ── Turns that stop before the end ──

-- some bytes that stand at the beginning of others: fewer of them do too, and they do so behind the same bytes
begins_less : (wrote : ℕ) (front behind : List ℕ) {bytes : List ℕ} → front ++ behind ≡ bytes → Begins (take wrote front) bytes
begins_less wrote front behind e = record {
  behind = drop wrote front ++ behind;
  together =
      sym (append_assoc (take wrote front) (drop wrote front) behind)
      ∙ ap (λ (x : List ℕ). x ++ behind) (take-append-drop wrote front)
      ∙ e;
}

begins_after : (first : List ℕ) {front bytes all : List ℕ} → Begins front bytes → first ++ bytes ≡ all → Begins (first ++ front) all
begins_after first {front} g e = record {
  behind = g.behind;
  together = append_assoc first front g.behind ∙ ap (λ (x : List ℕ). first ++ x) g.together ∙ e;
}

-- from any book and bytes that wait: what was written is the beginning of all that is to be printed
stops_ahead : {room : ℕ} {b : Book} {waits : List ℕ} {pieces : List (List ℕ)} {written : List ℕ} → Stops room b waits pieces written
    → Begins written (ahead b (cut waits) pieces)
unfolding printed_of_pieces ahead
stops_ahead {room} (stops {b = b} {waits = waits} {pieces = pieces} wrote) =
    let t = turned room b waits in
    ⊎_elim
    (λ (reads : t.reads ≡ true).
    begins_less wrote t.printed (printed_of_pieces (record { book = t.book; part = t.waits }) pieces) (reads_ahead room b waits reads pieces))
    (λ (short : t.reads ≡ false).
    begins_less wrote t.printed (ahead t.book (cut t.waits) pieces) (short_ahead room b waits short pieces))
    (holds_or_not t.reads)
stops_ahead {room} (stops_at_end {b = b} {waits = waits} reads wrote) =
    let t = turned room b waits in
    let last = printed_at_end t.waits in
    begins_after t.printed (begins_less wrote last [] (append-nil last)) (reads_ahead room b waits reads [])
stops_ahead {room} (goes_on_to {b = b} {waits = waits} {pieces = pieces} short rest) =
    begins_after (turned room b waits).printed (stops_ahead rest) (short_ahead room b waits short pieces)
stops_ahead {room} (reads_on_to {b = b} {waits = waits} {piece = piece} {pieces = pieces} reads rest) =
    begins_after (turned room b waits).printed (stops_ahead rest) (reads_ahead room b waits reads (piece ∷ pieces))

-- wherever the turns stop, what was written is the beginning of the output of the whole input
pub stops_output : (room : ℕ) (pieces : List (List ℕ)) (written : List ℕ) → Stops room fresh [] pieces written
    → Begins written (output (all_of pieces))
unfolding ahead cut printed_of book_after
stops_output room pieces written stopped =
    let g = stops_ahead stopped in
    record { behind = g.behind; together = g.together ∙ cut_anywhere pieces }

-- ── From one turn to the next ──

-- by its contract a turn hands on what the next begins with: the book that it leaves, and at the front of the input what waits
pub hands_on : (b : Book) (input : List ℕ) (have : ℕ) (out : List ℕ) (r : Turn) (b' : Book) (input' out' : List ℕ)
    → Takes b input have out r b' input' out'
    → (b' ≡ (turned (length out) b (take have input)).book) × (take r.have input' ≡ (turned (length out) b (take have input)).waits)
unfolding onto
hands_on b input have out r b' input' out' takes =
    let waits = (turned (length out) b (take have input)).waits in
    (takes.1, rw (takes.0, takes.2) (take-append_seam waits (drop (length waits) input)))
