-- One side as a lent table of resting-order records (01, The book): "The table (64 records, else refusal 2) stands for that side and is
-- left as the core would leave it; a refusal leaves it untouched. The book lent with it has all places of that side zero, else
-- refusal 2, and comes back so." With W5 it has 256 records.
use Rattle.std.specs.Prelude.{Result, ℕ, Bool, false, ◌&&◌, List, ◌≡◌, eqb, length, replicate, if◌then◌else◌}
use Rattle.basics.specs.Lists.{every, first_where}
use Rattle.rules.specs.declared.Refusal.{Refusal}
use Rattle.rules.specs.declared.Resting.{Resting}
use Rattle.rules.specs.Book.{Places, BookRecord, places_a_side, unused, is_unused}
use Rattle.rules.specs.Refusals.{first_of, fit_refusals}
use Rattle.rules.specs.Refusing.{or_refused}
use Rattle.rules.specs.Step.{Returned, step}
use Rattle.book.specs.declared.Book.{Book}
use Rattle.book.specs.declared.Reply.{Reply}
use Rattle.book.specs.Record.{book_with}

-- the table has no count, and 01 does not say which of its records are used: its leading ones that are not all zero
abbrev pub places_lent : List Resting → Places
places_lent table = record { used = first_where is_unused table; places = table }

-- a side with all places zero
abbrev pub no_places : Places
no_places = record { used = 0; places = replicate places_a_side unused }

-- .. and of no count either: a record that tells of orders where all places are zero is none that 01 would lend
unfoldable pub is_empty : Places → Bool
is_empty p = eqb p.used 0 && eqb (length p.places) places_a_side && every is_unused p.places

-- a side's count is that of its leading records
abbrev pub is_counted : Places → Bool
is_counted p = eqb p.used (first_where is_unused p.places)

-- the side that the caller names
abbrev pub side_of : Bool → BookRecord → Places
side_of buys r = if buys then r.buys else r.sells

abbrev pub with_places : Bool → Places → BookRecord → BookRecord
with_places buys p r = record {
  held = r.held;
  buys = if buys then p else r.buys;
  sells = if buys then r.sells else p;
}

-- what comes back: as from the core, with the table beside the book
pub record Lent : Type 0 where
  pub refusal : ℕ
  pub length : ℕ
  pub book : BookRecord
  pub table : List Resting
  pub out : List ℕ

-- the table can stand for that side
unfoldable pub fits : Bool → BookRecord → List Resting → Bool
fits buys r table = eqb (length table) places_a_side && is_empty (side_of buys r)

-- what the core leaves, taken apart again: "A refusal leaves it untouched", and so the book
abbrev pub taken_apart : Bool → BookRecord → List Resting → Returned → Lent
taken_apart buys r table s = record {
  refusal = s.refusal;
  length = s.length;
  book = if eqb s.refusal 0 then with_places buys no_places s.book else r;
  table = if eqb s.refusal 0 then (side_of buys s.book).places else table;
  out = s.out;
}

-- a line, of any kind of command, to a book of which one side is lent as a table: what the core gives on the book with the
-- table put in, taken apart again
unfoldable pub lent_step : Bool → BookRecord → List Resting → List ℕ → List ℕ → Lent
lent_step buys r table line out =
    if fits buys r table then taken_apart buys r table (step (with_places buys (places_lent table) r) line out)
    else record {
      refusal = first_of (fit_refusals (length out) false);
      length = 0;
      book = r;
      table = table;
      out = out;
    }

-- the same as the code hands it back
abbrev pub reply_lent : Lent → Reply
reply_lent l = record { answer = or_refused l.length l.refusal; book = book_with l.book }

-- the same as it is left in place: the book, the result, the table and the output
abbrev pub LeftOf : Lent → Book → Result ℕ Refusal → List Resting → List ℕ → Type 0
LeftOf l book answer table out = (answer ≡ or_refused l.length l.refusal) × (book ≡ book_with l.book) × (table ≡ l.table) × (out ≡ l.out)

-- the contract of the entry: the reply, the table and the output that a call leaves
abbrev pub Answered : Bool → BookRecord → List Resting → List ℕ → List ℕ → Reply → List Resting → List ℕ → Type 0
Answered buys r table line out reply table' out' =
    (reply ≡ reply_lent (lent_step buys r table line out)) × (table' ≡ (lent_step buys r table line out).table)
    × (out' ≡ (lent_step buys r table line out).out)
