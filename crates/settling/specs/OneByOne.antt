-- One order of a side settled after the other, and what that leaves (rules/specs/Settling says what settles a whole side).
use Rattle.std.specs.Prelude.{ℕ, ◌+◌, ◌<◌, Bool, List, length}
use Rattle.basics.specs.Lists.{remove_at}
use Rattle.kinds.specs.declared.Number.{Number}
use Rattle.rules.specs.declared.Fate.{Fate}
use Rattle.rules.specs.declared.Fate.TheVariants.{Stays, IsCancelled, IsSet}
use Rattle.rules.specs.declared.Resting.{Resting}
use Rattle.rules.specs.Book.{stamp}
use Rattle.rules.specs.EventLines.{event_lines}
use Rattle.rules.specs.Settling.{insert, stamped_as, told_by, told, set_anew}
use Rattle.side.specs.Looking.{price_bound}
use Rattle.settling.specs.declared.Settling.{Settling}

-- ── The order at a rank ──

-- a side of which the order at a rank meets its fate, as the k-th move of command n where it is set anew
abbrev pub settled_at : Number → ℕ → Bool → Fate → ℕ → List Resting → List Resting
settled_at n k buy Stays at s = s
settled_at n k buy (IsCancelled reason) at s = remove_at at s
settled_at n k buy (IsSet new) at s = insert buy (stamped_as (stamp n k) new) (remove_at at s)

-- how far the command has come after it
abbrev pub after_one : Settling → Fate → Resting → Settling
after_one m Stays h = m
after_one m (IsCancelled reason) h = record {
  number = m.number;
  buying = m.buying;
  next = m.next;
  length = m.length + length (event_lines (told_by (IsCancelled reason) h));
}
after_one m (IsSet new) h = record {
  number = m.number;
  buying = m.buying;
  next = m.next + 1;
  length = m.length + length (event_lines (told_by (IsSet new) h));
}

-- whoever is set anew has a price below the bound of levels
abbrev pub set_below : Fate → Type 0
set_below Stays = Unit {0}
set_below (IsCancelled reason) = Unit {0}
set_below (IsSet new) = new.price.0 < price_bound

-- ── A whole side ──

-- how far the command has come with a whole side, whose first move is the k-th
abbrev pub settled_in : Number → ℕ → Bool → (Resting → Fate) → List Resting → Settling
settled_in n k buy fate s = record {
  number = n;
  buying = buy;
  next = k + length (set_anew fate s);
  length = length (event_lines (told fate s));
}
