-- A sound record has sound places, and holds a sound book. Assumes nothing.
use Prim.Native.Nat.{◌≤◌}
use mathlib.Core.Bool.{true, ◌&&◌}
use mathlib.Core.Path.{◌≡◌}
use lib.Dec.{eqb, leb}
use lib.ListN.{length, drop}
use borrow.Author.Tests.{leb-true}
use Rattle.basics.specs.Lists.{every}
use Rattle.basics.proofs.LawsChoice.{and_left, and_right}
use Rattle.rules.specs.Book.{Places, BookRecord, places_a_side, is_unused, places_sound, book_in, sound, record_sound}

used_fits : (p : Places) → places_sound p ≡ true → p.used ≤ places_a_side
used_fits p e =
    let both = leb p.used places_a_side && eqb (length p.places) places_a_side in
    leb-true p.used places_a_side (and_left (leb p.used places_a_side) (eqb (length p.places) places_a_side) (and_left both (every is_unused (drop p.used p.places)) e))

module _ (r : BookRecord) (is_sound : record_sound r ≡ true) where
  both_sound : (places_sound r.buys && places_sound r.sells) ≡ true
  unfolding record_sound
  both_sound = and_left (places_sound r.buys && places_sound r.sells) (sound (book_in r)) is_sound

  pub buys_fit : r.buys.used ≤ places_a_side
  buys_fit = used_fits r.buys (and_left (places_sound r.buys) (places_sound r.sells) both_sound)

  pub sells_fit : r.sells.used ≤ places_a_side
  sells_fit = used_fits r.sells (and_right (places_sound r.buys) (places_sound r.sells) both_sound)

  pub book_sound : sound (book_in r) ≡ true
  unfolding record_sound
  book_sound = and_right (places_sound r.buys && places_sound r.sells) (sound (book_in r)) is_sound
