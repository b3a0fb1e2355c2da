-- `day::replay::begin_again` leaves a sound book: the fresh one. Assumes nothing.
use mathlib.Core.Bool.{true}
use mathlib.Core.List.{List, []}
use mathlib.Core.Path.{◌≡◌}
use Rattle.rules.specs.declared.Held.{Held}
use Rattle.rules.specs.declared.Resting.{Resting}
use Rattle.rules.specs.Book.{fresh, sound}
use Rattle.soundness.proofs.LawsKept.{fresh_sound}
use Rattle.day.proofs.replay.begin_again.Goals as goal

-- a book with the fresh header and no order
made_fresh : (h : Held) (buys sells : List Resting) → h ≡ fresh.held → buys ≡ [] → sells ≡ []
    → sound (record { held = h; buys = buys; sells = sells }) ≡ true
made_fresh h buys sells header bought sold = rw (header, bought, sold) fresh_sound

pub invariant_of-book : goal.invariant_of-book
invariant_of-book c = made_fresh _ _ _ c.fresh_held-held.ensures c.clear.ensures c.clear-2.ensures
