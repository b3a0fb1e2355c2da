-- Decimal digits read one after the other: the digits so far wrote a number, and the rest go on from it. Assumes nothing.
use Prim.Native.Nat.{ℕ, suc, ◌+◌, ◌-◌, ◌*◌, ◌≤◌, ◌<◌}
use mathlib.Core.Bool.{true, false, ◌||◌}
use mathlib.Core.List.{List, [], ◌∷◌}
use mathlib.Core.Logic.{⊎_elim}
use mathlib.Core.Path.{◌≡◌, refl, ap, ◌∙◌}
use lib.Dec.{leb, ltb, eqb}
use lib.ListN.{length, get_or, drop, drop_of_length-le}
use lib.Seq.{drop-cons}
use native.Mathlib.Omega.{arith}
use borrow.Author.Tests.{le-leb, lt-leb}
use Rattle.basics.proofs.LawsChoice.{holds_or_not}
use Rattle.kinds.specs.Kinds.{largest}
use Rattle.tally_day.specs.Decimal.{is_decimal, all_decimal, decimal_after, decimal_in}
use Rattle.std.specs.Prelude.{Some, None}

-- more digits never make a number less
after_least : (acc : ℕ) (s : List ℕ) → acc ≤ decimal_after acc s
unfolding decimal_after
after_least acc [] = omega arith
after_least acc (c ∷ s) =
    let more : acc * 10 + (c - 48) ≤ decimal_after (acc * 10 + (c - 48)) s = after_least (acc * 10 + (c - 48)) s in
    omega (arith, more)

module _ (s : List ℕ) where
  abbrev pub OfLength : Type 0
  OfLength = (eqb (length s) 0 || ltb 10 (length s)) ≡ false

  -- the digits before the place `i` wrote the value
  pub record Reading (value i : ℕ) : Type 0 where
    pub within : i ≤ length s
    pub ahead : all_decimal s ≡ all_decimal (drop i s)
    pub goes_on : decimal_after 0 s ≡ decimal_after value (drop i s)
    pub small : value ≤ largest

  pub reading_start : Reading 0 0
  reading_start = record { within = omega arith; ahead = refl; goes_on = refl; small = omega arith }

  -- no digits at all, or too many
  pub reading_length : (eqb (length s) 0 || ltb 10 (length s)) ≡ true → None ≡ decimal_in s
  unfolding decimal_in
  reading_length t = rw t refl

  module _ (of_length : OfLength) (value i : ℕ) (r : Reading value i) where
    -- the digits end
    pub reading_end : length s ≤ i → Some value ≡ decimal_in s
    unfolding decimal_in all_decimal decimal_after
    reading_end l =
        let none : drop i s ≡ [] = drop_of_length-le s l in
        let all : all_decimal s ≡ true = r.ahead ∙ ap all_decimal none in
        let number : decimal_after 0 s ≡ value = r.goes_on ∙ ap (decimal_after value) none in
        rw (of_length, all, number, le-leb value largest r.small) refl

    module _ (l : i < length s) where
      next : drop i s ≡ get_or s i 0 ∷ drop (suc i) s
      next = drop-cons s i 0 l

      -- a byte that is no digit
      pub reading_other : is_decimal (get_or s i 0) ≡ false → None ≡ decimal_in s
      unfolding decimal_in all_decimal
      reading_other t =
          let bad : all_decimal s ≡ false = r.ahead ∙ ap all_decimal next ∙ rw t refl in
          rw (of_length, bad) refl

      module _ (digit : is_decimal (get_or s i 0) ≡ true) where
        ahead_next : all_decimal s ≡ all_decimal (drop (suc i) s)
        unfolding all_decimal
        ahead_next = r.ahead ∙ ap all_decimal next ∙ rw digit refl

        goes_next : decimal_after 0 s ≡ decimal_after (value * 10 + (get_or s i 0 - 48)) (drop (suc i) s)
        unfolding decimal_after
        goes_next = r.goes_on ∙ ap (decimal_after value) next

        pub reading_digit : value * 10 + (get_or s i 0 - 48) ≤ largest → Reading (value * 10 + (get_or s i 0 - 48)) (i + 1)
        reading_digit m =
            let one : suc i ≡ i + 1 = omega arith in
            rw (← one) (record { within = omega (arith, l); ahead = ahead_next; goes_on = goes_next; small = m })

        -- a number that four bytes would not hold
        pub reading_large : largest < value * 10 + (get_or s i 0 - 48) → None ≡ decimal_in s
        unfolding decimal_in
        reading_large m =
            let most = after_least (value * 10 + (get_or s i 0 - 48)) (drop (suc i) s) in
            let large : leb (decimal_after 0 s) largest ≡ false = lt-leb (decimal_after 0 s) largest (omega (arith, m, most, goes_next)) in
            ⊎_elim
            (λ (t : all_decimal s ≡ true). rw (of_length, t, large) refl)
            (λ (t : all_decimal s ≡ false). rw (of_length, t) refl)
            (holds_or_not (all_decimal s))
