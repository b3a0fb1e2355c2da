-- A sound record is the record of the book that it holds: its unused places are all zero, so nothing else is in it. Assumes nothing.
use Prim.Native.Nat.{ℕ, ◌-◌, ◌≤◌}
use mathlib.Core.Bool.{Bool, true, false, not, ◌&&◌}
use mathlib.Core.List.{List, [], ◌∷◌, ◌++◌}
use mathlib.Core.Path.{◌≡◌, refl, sym, ap, ◌∙◌}
use lib.Dec.{eqb, leb}
use lib.ListN.{length, take, drop, replicate, length-drop, take-append-drop}
use lib.Seq.{length-take-le}
use native.Mathlib.Omega.{arith}
use borrow.Author.Tests.{leb-true, eqb-true, not-true}
use Rattle.basics.specs.Lists.{every}
use Rattle.basics.proofs.LawsChoice.{and_left, and_right}
use Rattle.kinds.specs.Kinds.{half_cents, shares, number}
use Rattle.rules.specs.declared.Resting.{Resting}
use Rattle.rules.specs.Book.{BookRecord, Places, places_a_side, stamp, unused, is_unused, orders_in, places_of, places_sound, book_in, record_of, sound, record_sound}

-- a place that passes for unused is all zero
pub unused_is : (o : Resting) → is_unused o ≡ true → o ≡ unused
unused_is o e =
    let numbered = eqb o.number.0 0 in
    let priced = numbered && eqb o.price.0 0 in
    let counted = priced && eqb o.shares.0 0 in
    let shown = counted && not o.displayed in
    let chosen = shown && not o.back in
    let stamped = chosen && eqb o.stamp.command.0 0 in
    let placed = stamped && eqb o.stamp.place 0 in
    let plain = placed && eqb o.reserve.0 0 in
    let floored = plain && eqb o.floor.0 0 in
    let by_floored : floored ≡ true = and_left floored (eqb o.minimum.0 0) e in
    let by_plain : plain ≡ true = and_left plain (eqb o.floor.0 0) by_floored in
    let by_placed : placed ≡ true = and_left placed (eqb o.reserve.0 0) by_plain in
    let by_stamped : stamped ≡ true = and_left stamped (eqb o.stamp.place 0) by_placed in
    let by_chosen : chosen ≡ true = and_left chosen (eqb o.stamp.command.0 0) by_stamped in
    let by_shown : shown ≡ true = and_left shown (not o.back) by_chosen in
    let by_counted : counted ≡ true = and_left counted (not o.displayed) by_shown in
    let by_priced : priced ≡ true = and_left priced (eqb o.shares.0 0) by_counted in
    made
    (eqb-true o.number.0 0 (and_left numbered (eqb o.price.0 0) by_priced))
    (eqb-true o.price.0 0 (and_right numbered (eqb o.price.0 0) by_priced))
    (eqb-true o.shares.0 0 (and_right priced (eqb o.shares.0 0) by_counted))
    (not-true o.displayed (and_right counted (not o.displayed) by_shown))
    (not-true o.back (and_right shown (not o.back) by_chosen))
    (eqb-true o.stamp.command.0 0 (and_right chosen (eqb o.stamp.command.0 0) by_stamped))
    (eqb-true o.stamp.place 0 (and_right stamped (eqb o.stamp.place 0) by_placed))
    (eqb-true o.reserve.0 0 (and_right placed (eqb o.reserve.0 0) by_plain))
    (eqb-true o.floor.0 0 (and_right plain (eqb o.floor.0 0) by_floored))
    (eqb-true o.minimum.0 0 (and_right floored (eqb o.minimum.0 0) e))
  where
    made : {n p s c k r f l : ℕ} {d b : Bool} → n ≡ 0 → p ≡ 0 → s ≡ 0 → d ≡ false → b ≡ false → c ≡ 0 → k ≡ 0 → r ≡ 0 → f ≡ 0 → l ≡ 0
        → record {
          number = number n;
          price = half_cents p;
          shares = shares s;
          displayed = d;
          back = b;
          stamp = stamp (number c) k;
          reserve = shares r;
          floor = shares f;
          minimum = shares l;
        } ≡ unused
    made e f g h i j l m o p = rw (e, f, g, h, i, j, l, m, o, p)

-- so places that all pass for unused are nothing but such
pub all_unused : (s : List Resting) → every is_unused s ≡ true → s ≡ replicate (length s) unused
unfolding every
all_unused [] e = refl
all_unused (o ∷ s) e =
    let z : o ≡ unused = unused_is o (and_left (is_unused o) (every is_unused s) e) in
    let t : s ≡ replicate (length s) unused = all_unused s (and_right (is_unused o) (every is_unused s) e) in
    with z t
  where
    with : {x y : Resting} {s u : List Resting} → x ≡ y → s ≡ u → x ∷ s ≡ y ∷ u
    with e f = rw (e, f)

-- sound places are the places of the orders that they hold
places_whole : (p : Places) → places_sound p ≡ true → places_of (orders_in p) ≡ p
unfolding places_of
places_whole p e =
    let n = p.used in
    let s = p.places in
    let both = and_left (leb n places_a_side && eqb (length s) places_a_side) (every is_unused (drop n s)) e in
    let most : n ≤ places_a_side = leb-true n places_a_side (and_left (leb n places_a_side) (eqb (length s) places_a_side) both) in
    let all : length s ≡ places_a_side = eqb-true (length s) places_a_side (and_right (leb n places_a_side) (eqb (length s) places_a_side) both) in
    let long : length (take n s) ≡ n = length-take-le n s (omega (arith, most, all)) in
    let rest : length (drop n s) ≡ places_a_side - length (take n s) = length-drop n s ∙ omega (arith, all, long) in
    let zeros : drop n s ≡ replicate (places_a_side - length (take n s)) unused =
    all_unused (drop n s) (and_right (leb n places_a_side && eqb (length s) places_a_side) (every is_unused (drop n s)) e)
    ∙ ap (λ (k : ℕ). replicate k unused) rest in
    made long (ap (λ (u : List Resting). take n s ++ u) (sym zeros) ∙ take-append-drop n s)
  where
    places : ℕ → List Resting → Places
    places n s = record { used = n; places = s }

    made : {m n : ℕ} {s u : List Resting} → m ≡ n → s ≡ u → places m s ≡ places n u
    made e f = rw (e, f)

-- a sound record is the record of its book
pub record_whole : (r : BookRecord) → record_sound r ≡ true → record_of (book_in r) ≡ r
unfolding record_sound book_in record_of
record_whole r s =
    let places = and_left (places_sound r.buys && places_sound r.sells) (sound (book_in r)) s in
    rw (
      places_whole r.buys (and_left (places_sound r.buys) (places_sound r.sells) places),
      places_whole r.sells (and_right (places_sound r.buys) (places_sound r.sells) places),
    )

-- and the book that it holds is sound
pub book_sound_lem : (r : BookRecord) → record_sound r ≡ true → sound (book_in r) ≡ true
unfolding record_sound
book_sound_lem r s = and_right (places_sound r.buys && places_sound r.sells) (sound (book_in r)) s
