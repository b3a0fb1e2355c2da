-- How much one command writes: the most that it can, and a book with a command that writes so much. `LawsRoom` and `LawsWorst` have the
-- proofs.
use Rattle.std.specs.Prelude.{ℕ, zero, suc, ◌+◌, ◌*◌, true, false, List, [], ◌∷◌}
use Rattle.kinds.specs.Kinds.{cents, in_half_cents, shares, number, lowest_price}
use Rattle.rules.specs.declared.Body.TheVariants as body
use Rattle.rules.specs.declared.Carried.TheVariants.{Nothing}
use Rattle.rules.specs.declared.Command.{Command}
use Rattle.rules.specs.declared.Order.{Order}
use Rattle.rules.specs.declared.Resting.{Resting}
use Rattle.rules.specs.Book.{Book, places_a_side, opening, stamp}
use Rattle.rules.specs.CommandLines.{line_of}
use Rattle.rules.specs.Instructions.{day, displayed, price_adjust}

-- the most that one command writes (02, W4): every order of a full side gives with its shown part and its reserve, an execution each, and
-- one line more
abbrev pub worst_lines : ℕ
worst_lines = 70 * places_a_side + 27

-- ── Where it is reached ──

-- an order that shows one share, with one in reserve
abbrev pub two_shares : ℕ → Resting
two_shares k = record {
  number = number k;
  price = in_half_cents (cents lowest_price);
  shares = shares 1;
  displayed = true;
  back = false;
  stamp = stamp (number k) 0;
  reserve = shares 1;
  floor = shares 1;
  minimum = shares 0;
}

-- n of them in rank order, with the numbers from k on
unfoldable pub reserves_from : ℕ → ℕ → List Resting
reserves_from k zero = []
reserves_from k (suc n) = two_shares k ∷ reserves_from (suc k) n

-- a book that sells them, after the n commands that entered them
abbrev pub full_of_reserves : ℕ → Book
full_of_reserves n = record {
  held = record { last = number n; time = opening; away = record { bid = cents 0; offer = cents 0 }; closed = false };
  buys = [];
  sells = reserves_from 1 n;
}

-- a buy of all their shares and one more, which rests
abbrev pub walks_through : ℕ → Order
walks_through n = record {
  side = 0;
  word = day + displayed + price_adjust;
  price = cents lowest_price;
  shares = shares (2 * n + 1);
  carried = Nothing;
}

-- the command that enters it, and its line
abbrev pub next_command : ℕ → Command
next_command n = record { number = number (n + 1); time = opening; body = body.Order (walks_through n) }

abbrev pub next_line : ℕ → List ℕ
next_line n = line_of (next_command n)
