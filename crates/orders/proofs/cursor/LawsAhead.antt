-- Laws of the parts of a side and of a cursor over them. Assumes nothing.
use Prim.Native.Nat.{ℕ, suc, ◌+◌, ◌*◌, ◌≤◌, ◌<◌}
use mathlib.Core.Bool.{Bool, true, false, ◌&&◌}
use mathlib.Core.List.{List, [], ◌∷◌, ◌++◌, append-nil}
use mathlib.Core.Logic.{◌⊎◌, inl, inr, ⊎_elim}
use mathlib.Core.Path.{◌≡◌, refl, sym, ap, ◌∙◌}
use lib.Dec.{eqb}
use lib.ListN.{length, get_or, take, drop, length-append, length-take, length-drop, drop_of_length-le}
use lib.Seq.{take-suc, drop-cons, drop-append-le, length-take-le}
use native.Mathlib.Nat.{add-zero}
use native.Mathlib.Numerals.{add-one}
use native.Mathlib.Omega.{arith}
use borrow.Author.Tests.{eq-eqb, ne_eqb, eqb-true, eqb-false}
use Rattle.std.specs.Prelude.{if◌then◌else◌}
use Rattle.basics.proofs.LawsChoice.{holds_or_not, lt_or_le}
use Rattle.basics.proofs.LawsLists.{ahead_cons}
use Rattle.kinds.specs.declared.HalfCents.{HalfCents}
use Rattle.kinds.specs.Kinds.{half_cents}
use Rattle.rules.specs.declared.Resting.{Resting}
use Rattle.orders.specs.declared.cursor.Part.{Part}
use Rattle.orders.specs.declared.cursor.Cursor.{Cursor}
use Rattle.rules.specs.Book.{unused}
use Rattle.orders.specs.Cursor.{shown_at, reserve_at, reserves, parts_from, parts, waiting, ahead, start, IsAt, Skips, LevelEnds, first_waiting}

-- ── The reserves that wait ──

pub waiting_none : (s : List Resting) (waits at : ℕ) → at ≤ waits → waiting s waits at ≡ []
unfolding reserves
waiting_none s waits at l =
    let m : length (take at s) ≤ waits = simp length-take (omega arith) in
    rw (drop_of_length-le (take at s) m)

pub reserves_append : (i : ℕ) (s u : List Resting) → reserves i (s ++ u) ≡ reserves i s ++ reserves (i + length s) u
unfolding reserves
reserves_append i [] u = rw add-zero
reserves_append i (o ∷ s) u =
    let k : i + 1 + length s ≡ i + suc (length s) = omega arith in
    let e : reserves (i + 1) (s ++ u) ≡ reserves (i + 1) s ++ reserves (i + suc (length s)) u =
    reserves_append (i + 1) s u ∙ ap (λ (x : ℕ). reserves (i + 1) s ++ reserves x u) k in
    ⊎_elim
    (λ (z : eqb o.reserve.0 0 ≡ true). rw z e)
    (λ (z : eqb o.reserve.0 0 ≡ false). rw z (ap (λ (l : List Part). reserve_at i o ∷ l) e))
    (holds_or_not (eqb o.reserve.0 0))

module _ (s : List Resting) (i to : ℕ) (l : i < to) (m : to ≤ length s) where
  pub waiting_skip : (get_or s i unused).reserve.0 ≡ 0 → waiting s i to ≡ waiting s (i + 1) to
  unfolding reserves
  waiting_skip z = rw (ahead_cons unused s to i m l, eq-eqb (get_or s i unused).reserve.0 0 z)

  pub waiting_first : 0 < (get_or s i unused).reserve.0 → waiting s i to ≡ reserve_at i (get_or s i unused) ∷ waiting s (i + 1) to
  unfolding reserves
  waiting_first p =
      let z : eqb (get_or s i unused).reserve.0 0 ≡ false = ne_eqb (get_or s i unused).reserve.0 0 (λ e. omega arith) in
      rw (ahead_cons unused s to i m l, z)

module _ (s : List Resting) (waits at : ℕ) (b : waits ≤ at) (l : at < length s) where
  -- one order more has been reached
  waiting_more : waiting s waits (at + 1) ≡ waiting s waits at ++ reserves at (get_or s at unused ∷ [])
  waiting_more =
      let t : length (take at s) ≡ at = length-take-le at s (omega arith) in
      let p : waits ≤ length (take at s) = omega arith in
      let k : waits + length (drop waits (take at s)) ≡ at = simp (length-drop) (omega arith) in
      rw (add-one at, take-suc s at unused, drop-append-le waits (take at s) (get_or s at unused ∷ []) p)
      (reserves_append waits (drop waits (take at s)) (get_or s at unused ∷ []) ∙ ap (λ (x : ℕ). waiting s waits at ++ reserves x (get_or s at unused ∷ [])) k)

  pub waiting_reached : waiting s (first_waiting at waits (get_or s at unused).reserve.0) (at + 1) ≡ waiting s waits at ++ reserves at (get_or s at unused ∷ [])
  waiting_reached =
      ⊎_elim
      (λ (e : eqb waits at ≡ true).
      ⊎_elim
      (λ (z : eqb (get_or s at unused).reserve.0 0 ≡ true).
      rw (e, z) (sym (waiting_skip s at (at + 1) (omega arith) (omega arith) (eqb-true (get_or s at unused).reserve.0 0 z))
      ∙ (ap (λ (x : ℕ). waiting s x (at + 1)) (sym (eqb-true waits at e)) ∙ waiting_more)))
      (λ (z : eqb (get_or s at unused).reserve.0 0 ≡ false). rw (e, z) waiting_more)
      (holds_or_not (eqb (get_or s at unused).reserve.0 0)))
      (λ (e : eqb waits at ≡ false). rw e waiting_more)
      (holds_or_not (eqb waits at))

  pub reached_behind : first_waiting at waits (get_or s at unused).reserve.0 ≤ at + 1
  reached_behind =
      ⊎_elim
      (λ (e : (eqb waits at && eqb (get_or s at unused).reserve.0 0) ≡ true). rw e (omega arith))
      (λ (e : (eqb waits at && eqb (get_or s at unused).reserve.0 0) ≡ false). rw e (omega arith))
      (holds_or_not (eqb waits at && eqb (get_or s at unused).reserve.0 0))

  pub reached_waits : (waits < at → 0 < (get_or s waits unused).reserve.0)
      → first_waiting at waits (get_or s at unused).reserve.0 < at + 1 → 0 < (get_or s (first_waiting at waits (get_or s at unused).reserve.0) unused).reserve.0
  reached_waits old =
      ⊎_elim
      (λ (e : eqb waits at ≡ true).
      ⊎_elim
      (λ (z : eqb (get_or s at unused).reserve.0 0 ≡ true). rw (e, z) (λ p. let y : ⊥ = omega arith in absurd y))
      (λ (z : eqb (get_or s at unused).reserve.0 0 ≡ false). rw (e, z, eqb-true waits at e) (λ p. omega (arith, positive (get_or s at unused).reserve.0 z)))
      (holds_or_not (eqb (get_or s at unused).reserve.0 0)))
      (λ (e : eqb waits at ≡ false). rw e (λ p. old (omega (arith, eqb-false waits at e))))
      (holds_or_not (eqb waits at))
    where
      positive : (x : ℕ) → eqb x 0 ≡ false → 0 < x
      positive x e = ⊎_elim (λ (p : 0 < x). p) (λ (q : x ≤ 0). absurd (eqb-false x 0 e (omega arith))) (lt_or_le 0 x)

-- ── The parts ahead ──

module _ (s : List Resting) (c : Cursor) where
  -- no order is ahead, so the level has ended
  pub ends_with_side : length s ≤ c.at → LevelEnds s c
  unfolding parts_from
  ends_with_side l w = rw (drop_of_length-le s l, append-nil w)

  module _ (l : c.at < length s) where
    pub ends_at_price : ((get_or s c.at unused).price.0 ≡ c.level.0 → ⊥) → LevelEnds s c
    unfolding parts_from
    ends_at_price e w =
        let d : drop c.at s ≡ get_or s c.at unused ∷ drop (c.at + 1) s = drop-cons s c.at unused l ∙ rw add-one in
        rw (d, ne_eqb (get_or s c.at unused).price.0 c.level.0 e)

    -- the shown part of the next order is next: it is at the level, or no reserve waits
    pub shown_next : (w : List Part) → ((get_or s c.at unused).price.0 ≡ c.level.0) ⊎ (w ≡ [])
        → parts_from c.at c.level w (drop c.at s)
        ≡ shown_at c.at (get_or s c.at unused) ∷ parts_from (c.at + 1) (get_or s c.at unused).price (w ++ reserves c.at (get_or s c.at unused ∷ [])) (drop (c.at + 1) s)
    unfolding parts_from
    shown_next w e =
        let o = get_or s c.at unused in
        let d : drop c.at s ≡ o ∷ drop (c.at + 1) s = drop-cons s c.at unused l ∙ rw add-one in
        ⊎_elim
        (λ (p : o.price.0 ≡ c.level.0). rw (d, eq-eqb o.price.0 c.level.0 p))
        (λ (z : w ≡ []). rw (z, d) (either (eqb o.price.0 c.level.0) _))
        e
      where
        either : {A : Type 0} (t : Bool) (x : A) → (if t then x else x) ≡ x
        either true x = refl
        either false x = refl

    pub next_shown : (c.waits ≤ c.at) → (c.waits < c.at → (get_or s c.at unused).price.0 ≡ c.level.0)
        → ahead s c ≡ shown_at c.at (get_or s c.at unused)
        ∷ ahead s (record { at = c.at + 1; waits = first_waiting c.at c.waits (get_or s c.at unused).reserve.0; level = (get_or s c.at unused).price })
    unfolding ahead
    next_shown b e =
        shown_next (waiting s c.waits c.at)
        (⊎_elim
        (λ (p : c.waits < c.at). inl (e p))
        (λ (p : c.at ≤ c.waits). inr (waiting_none s c.waits c.at p))
        (lt_or_le c.waits c.at))
        ∙ rw (waiting_reached s c.waits c.at b l)

  -- the first of the reserves that wait is next
  pub next_reserve : (r : ℕ) → LevelEnds s c → IsAt s c → c.waits < c.at → Skips s (c.waits + 1) c.at r
      → ahead s c ≡ reserve_at c.waits (get_or s c.waits unused) ∷ ahead s (record { at = c.at; waits = r; level = c.level })
  unfolding ahead
  next_reserve r e st p k =
      e (waiting s c.waits c.at)
      ∙ rw (waiting_first s c.waits c.at p st.within (st.waits p), ← k.same)
      (ap (λ (x : List Part). reserve_at c.waits (get_or s c.waits unused) ∷ x) (sym (e (waiting s r c.at))))

  pub ahead_end : length s ≤ c.at → c.at ≤ c.waits → ahead s c ≡ []
  unfolding ahead parts_from
  ahead_end l m = rw (drop_of_length-le s l, waiting_none s c.waits c.at m)

pub ahead_start : (s : List Resting) → ahead s start ≡ parts s
unfolding ahead reserves
ahead_start s = refl

-- ── How many there are ──

length_one : (i : ℕ) (o : Resting) → length (reserves i (o ∷ [])) ≤ 1
unfolding reserves
length_one i o =
    ⊎_elim
    (λ (z : eqb o.reserve.0 0 ≡ true). rw z (omega arith))
    (λ (z : eqb o.reserve.0 0 ≡ false). rw z (omega arith))
    (holds_or_not (eqb o.reserve.0 0))

length_from : (i : ℕ) (level : HalfCents) (w : List Part) (s : List Resting) → length (parts_from i level w s) ≤ length w + 2 * length s
unfolding parts_from
length_from i level w [] = omega arith
length_from i level w (o ∷ s) =
    let r = reserves i (o ∷ []) in
    let b = length_one i o in
    ⊎_elim
    (λ (z : eqb o.price.0 level.0 ≡ true). rw z (omega (arith, length_from (i + 1) o.price (w ++ r) s, length-append w r)))
    (λ (z : eqb o.price.0 level.0 ≡ false).
    rw z (omega (arith, length_from (i + 1) o.price r s, length-append w (shown_at i o ∷ parts_from (i + 1) o.price r s))))
    (holds_or_not (eqb o.price.0 level.0))

-- an order counts as two parts at most
pub length_parts : (s : List Resting) → length (parts s) ≤ 2 * length s
length_parts s = omega (arith, length_from 0 (half_cents 0) [] s)
