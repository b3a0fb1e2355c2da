-- A side passed order by order, and the best of two sides. Assumes nothing.
use Prim.Native.Nat.{ℕ, zero, suc, ◌+◌, ◌-◌, ◌≤◌, ◌<◌}
use mathlib.Core.Bool.{Bool, true, false, ◌&&◌, and_assoc}
use mathlib.Core.List.{List, [], ◌∷◌}
use mathlib.Core.Path.{◌≡◌, refl, sym, ap, ◌∙◌}
use lib.ListN.{length, get_or, take, drop, drop_of_length-le, length-drop}
use lib.Seq.{drop-cons, take_all}
use native.Mathlib.Numerals.{add-one}
use native.Mathlib.Omega.{arith}
use Rattle.basics.specs.Lists.{every}
use Rattle.kinds.specs.declared.Number.{Number}
use Rattle.rules.specs.declared.Resting.{Resting}
use Rattle.rules.specs.Book.{is_unused}
use Rattle.inspection.specs.Inspection.{order_sound, place_sound, side_sound}
use Rattle.inspection.proofs.LawsInspection.{none_used}

module _ (buy : Bool) (last : Number) (others : List ℕ) where
  -- each order of a list is sound, with those behind it
  unfoldable pub orders_sound : List Resting → Bool
  orders_sound [] = true
  orders_sound (o ∷ s) = order_sound buy last others o s && orders_sound s

  -- a side is that of its orders, and every other place unused
  pub side_cut : (n : ℕ) (s : List Resting) → side_sound buy last others n s ≡ (orders_sound (take n s) && every is_unused (drop n s))
  unfolding side_sound place_sound orders_sound every
  side_cut zero s = none_used buy last others s
  side_cut (suc n) [] = refl
  side_cut (suc n) (o ∷ s) =
      let e : suc n - 1 ≡ n = omega arith in
      rw (e, side_cut n s) (sym (and_assoc (order_sound buy last others o (take n s)) (orders_sound (take n s)) (every is_unused (drop n s))))

  -- what stands from place i on: an order there, which is sound or not, with those behind it; or none
  module _ (s : List Resting) (i : ℕ) where
    orders_turn : i < length s → (d : Resting)
        → orders_sound (drop i s) ≡ (order_sound buy last others (get_or s i d) (drop (i + 1) s) && orders_sound (drop (i + 1) s))
    unfolding orders_sound
    orders_turn l d =
        let next : drop i s ≡ get_or s i d ∷ drop (i + 1) s = rw (add-one i) (drop-cons s i d l) in
        rw next

    -- `found` is what was found of the order
    module _ (l : i < length s) (d : Resting) (whole : orders_sound (drop i s) ≡ orders_sound s)
        (found : Bool) (is : found ≡ order_sound buy last others (get_or s i d) (take (length s - (i + 1)) (drop (i + 1) s))) where
      turn : orders_sound s ≡ (found && orders_sound (drop (i + 1) s))
      turn =
          let e : length s - (i + 1) ≡ length (drop (i + 1) s) = omega (arith, length-drop (i + 1) s) in
          sym whole ∙ orders_turn l d ∙ ap (λ (b : Bool). b && orders_sound (drop (i + 1) s)) (sym (is ∙ rw (e, take_all (length (drop (i + 1) s)) (drop (i + 1) s) (omega arith))))

      pub orders_fail : found ≡ false → orders_sound s ≡ false
      orders_fail f = turn ∙ rw f

      pub orders_next : found ≡ true → orders_sound (drop (i + 1) s) ≡ orders_sound s
      orders_next t = sym (turn ∙ rw t)

    pub orders_end : length s ≤ i → orders_sound (drop i s) ≡ true
    unfolding orders_sound
    orders_end l = rw (drop_of_length-le s l)
