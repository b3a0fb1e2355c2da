-- The parts that a cursor gives are 01's and 02's holdings but for empty reserves, which give nothing; and where each stands. Assumes nothing.
use Prim.Native.Nat.{ℕ, zero, suc, ◌+◌, ◌-◌, ◌<◌}
use mathlib.Core.Bool.{Bool, true, false, not, ◌&&◌, beq}
use mathlib.Core.List.{List, [], ◌∷◌, ◌++◌, map, append_assoc, map-append}
use mathlib.Core.Logic.{inl, inr, ⊎_elim}
use mathlib.Core.Path.{◌≡◌, refl, sym, ap, subst, ◌∙◌}
use lib.Dec.{eqb}
use lib.ListN.{length, get_or}
use native.Mathlib.Omega.{arith}
use borrow.Author.Tests.{eqb-true, not-true, ltb-true, ltb-false, lt-ltb}
use Rattle.std.specs.Prelude.{if◌then◌else◌}
use Rattle.basics.specs.Lists.{total, All, none, also}
use Rattle.basics.proofs.LawsChoice.{holds_or_not, and_left, and_right, by_choice}
use Rattle.kinds.specs.declared.HalfCents.{HalfCents}
use Rattle.kinds.specs.Kinds.{half_cents}
use Rattle.rules.specs.declared.Resting.{Resting}
use Rattle.rules.specs.Book.{unused, better}
use Rattle.rules.specs.Holdings.{Holding, shown_part, reserve_part, size, behind_its_price, holdings, nothing, walk}
use Rattle.rules.specs.Working.{beyond}
use Rattle.rules.proofs.LawsBest.{HoldingsBest}
use Rattle.rules.proofs.LawsTakings.{nothing_total}
use Rattle.orders.specs.declared.cursor.Part.{Part}
use Rattle.orders.specs.declared.takings.Taking.{Taking}
use Rattle.orders.specs.Cursor.{shown_at, reserves, parts_from, parts, Placed, placed_at, part_of, behind_placed, placed_from}
use Rattle.orders.specs.Walk.{is_within, part_is_skipped, part_gives, taking, takings_from, takings_of}
use Rattle.orders.proofs.walk.LawsTaken.{taking_none, takings_nothing}

-- ── Holdings at their places ──

abbrev levelled : Placed → Placed → Bool
levelled r p = eqb p.holding.of.price.0 r.holding.of.price.0 && not p.holding.is_reserve

behind_holdings : (r : Placed) (s : List Placed)
    → map (λ (p : Placed). p.holding) (behind_placed r s) ≡ behind_its_price r.holding (map (λ (p : Placed). p.holding) s)
unfolding behind_placed behind_its_price
behind_holdings r [] = refl
behind_holdings r (p ∷ s) =
    ⊎_elim
    (λ (t : levelled r p ≡ true). rw t (ap (λ (l : List Holding). p.holding ∷ l) (behind_holdings r s)))
    (λ (t : levelled r p ≡ false). rw t)
    (holds_or_not (levelled r p))

pub placed_holdings : (i : ℕ) (s : List Resting) → map (λ (p : Placed). p.holding) (placed_from i s) ≡ holdings s
unfolding placed_from holdings
placed_holdings i [] = refl
placed_holdings i (h ∷ s) =
    ap (λ (l : List Holding). shown_part h ∷ l)
    (behind_holdings (placed_at i (reserve_part h)) (placed_from (i + 1) s) ∙ ap (behind_its_price (reserve_part h)) (placed_holdings (i + 1) s))

-- what holds of both parts of each order, at its place, holds of all
all_behind : {P : Placed → Type 0} (r : Placed) → P r → {s : List Placed} → All P s → All P (behind_placed r s)
unfolding behind_placed
all_behind r p none = also p none
all_behind r p (also {x = q} {s = s} c a) =
    ⊎_elim
    (λ (t : levelled r q ≡ true). rw t (also c (all_behind r p a)))
    (λ (t : levelled r q ≡ false). rw t (also p (also c a)))
    (holds_or_not (levelled r q))

pub all_placed : {P : Placed → Type 0} (i : ℕ) (s : List Resting)
    → ((k : ℕ) (h : Resting) (reserve : Bool) → k < length s → h ≡ get_or s k unused → P (placed_at (i + k) (record { of = h; is_reserve = reserve })))
    → All P (placed_from i s)
unfolding placed_from
all_placed i [] f = none
all_placed {P = P} i (h ∷ s) f =
    let e : i + 0 ≡ i = omega arith in
    let at : (reserve : Bool) → P (placed_at i (record { of = h; is_reserve = reserve })) = λ b. rw e at (f 0 h b (omega arith) refl) in
    also (at false)
    (all_behind (placed_at i (reserve_part h)) (at true)
    (all_placed (i + 1) s (λ k g b l is.
    let d : i + 1 + k ≡ i + suc k = omega arith in
    rw d (f (suc k) g b (omega arith) is))))

-- ── The same as a cursor goes: reserves wait until the price changes ──

-- `parts_from`, with empty reserves
waiting_from : ℕ → HalfCents → List Placed → List Resting → List Placed
waiting_from i level w [] = w
waiting_from i level w (h ∷ s) =
    if eqb h.price.0 level.0 then placed_at i (shown_part h) ∷ waiting_from (i + 1) h.price (w ++ (placed_at i (reserve_part h) ∷ [])) s
    else w ++ (placed_at i (shown_part h) ∷ waiting_from (i + 1) h.price (placed_at i (reserve_part h) ∷ []) s)

-- some go behind the shown parts at a price
behind_level : HalfCents → List Placed → List Placed → List Placed
behind_level level w [] = w
behind_level level w (p ∷ s) =
    if eqb p.holding.of.price.0 level.0 && not p.holding.is_reserve then p ∷ behind_level level w s
    else w ++ (p ∷ s)

behind_none : (level : HalfCents) (s : List Placed) → behind_level level [] s ≡ s
unfolding behind_level
behind_none level [] = refl
behind_none level (p ∷ s) =
    by_choice (λ (l : List Placed). l ≡ p ∷ s) (eqb p.holding.of.price.0 level.0 && not p.holding.is_reserve)
    (λ t. ap (λ (l : List Placed). p ∷ l) (behind_none level s)) (λ t. refl)

never : (t : Bool) → (t && false) ≡ false
never true = refl
never false = refl

-- a reserve goes behind those that wait
behind_more : (i : ℕ) (h : Resting) (w s : List Placed) → (let r = placed_at i (reserve_part h) in
    behind_level h.price w (behind_placed r s) ≡ behind_level h.price (w ++ (r ∷ [])) s)
unfolding behind_placed behind_level
behind_more i h w [] = rw (never (eqb h.price.0 h.price.0))
behind_more i h w (p ∷ s) =
    let r = placed_at i (reserve_part h) in
    ⊎_elim
    (λ (t : levelled r p ≡ true). rw (t, t) (ap (λ (l : List Placed). p ∷ l) (behind_more i h w s)))
    (λ (t : levelled r p ≡ false). rw (t, never (eqb h.price.0 h.price.0)) (sym (append_assoc w (r ∷ []) (p ∷ s))))
    (holds_or_not (levelled r p))

placed_waiting : (i : ℕ) (level : HalfCents) (w : List Placed) (s : List Resting) → behind_level level w (placed_from i s) ≡ waiting_from i level w s
unfolding behind_level placed_from waiting_from
placed_waiting i level w [] = refl
placed_waiting i level w (h ∷ s) =
    let r = placed_at i (reserve_part h) in
    let rest = placed_from (i + 1) s in
    ⊎_elim
    (λ (t : eqb h.price.0 level.0 ≡ true).
    let e : h.price.0 ≡ level.0 = eqb-true h.price.0 level.0 t in
    let same : level ≡ h.price = λ k. record { 0 = sym e k } in
    rw t (ap (λ (l : List Placed). placed_at i (shown_part h) ∷ l)
    (ap (λ (p : HalfCents). behind_level p w (behind_placed r rest)) same ∙ behind_more i h w rest ∙ placed_waiting (i + 1) h.price (w ++ (r ∷ [])) s)))
    (λ (t : eqb h.price.0 level.0 ≡ false).
    rw t (ap (λ (l : List Placed). w ++ (placed_at i (shown_part h) ∷ l))
    (sym (behind_none h.price (behind_placed r rest)) ∙ behind_more i h [] rest ∙ placed_waiting (i + 1) h.price (r ∷ []) s)))
    (holds_or_not (eqb h.price.0 level.0))

-- ── An empty reserve is no part ──

abbrev is_empty : Placed → Bool
is_empty p = p.holding.is_reserve && eqb p.holding.of.reserve.0 0

-- all but the empty reserves
unfoldable pub present : List Placed → List Placed
present [] = []
present (p ∷ s) = if is_empty p then present s else p ∷ present s

present_append : (s u : List Placed) → present (s ++ u) ≡ present s ++ present u
unfolding present
present_append [] u = refl
present_append (p ∷ s) u =
    ⊎_elim
    (λ (t : is_empty p ≡ true). rw t (present_append s u))
    (λ (t : is_empty p ≡ false). rw t (ap (λ (l : List Placed). p ∷ l) (present_append s u)))
    (holds_or_not (is_empty p))

abbrev present_parts : List Placed → List Part
present_parts s = map part_of (present s)

parts_append : (s u : List Placed) → present_parts (s ++ u) ≡ present_parts s ++ present_parts u
parts_append s u = ap (map part_of) (present_append s u) ∙ map-append part_of (present s) (present u)

one_reserve : (i : ℕ) (h : Resting) → present_parts (placed_at i (reserve_part h) ∷ []) ≡ reserves i (h ∷ [])
unfolding present reserves
one_reserve i h =
    ⊎_elim
    (λ (z : eqb h.reserve.0 0 ≡ true). rw z)
    (λ (z : eqb h.reserve.0 0 ≡ false). rw z)
    (holds_or_not (eqb h.reserve.0 0))

from_waiting : (i : ℕ) (level : HalfCents) (w : List Placed) (s : List Resting)
    → present_parts (waiting_from i level w s) ≡ parts_from i level (present_parts w) s
unfolding waiting_from parts_from present
from_waiting i level w [] = refl
from_waiting i level w (h ∷ s) =
    let r = placed_at i (reserve_part h) in
    let grows : present_parts (w ++ (r ∷ [])) ≡ present_parts w ++ reserves i (h ∷ []) =
    parts_append w (r ∷ []) ∙ ap (λ (l : List Part). present_parts w ++ l) (one_reserve i h) in
    ⊎_elim
    (λ (t : eqb h.price.0 level.0 ≡ true).
    rw (t, ← grows) (ap (λ (l : List Part). shown_at i h ∷ l) (from_waiting (i + 1) h.price (w ++ (r ∷ [])) s)))
    (λ (t : eqb h.price.0 level.0 ≡ false).
    rw (t, ← one_reserve i h) (parts_append w (placed_at i (shown_part h) ∷ waiting_from (i + 1) h.price (r ∷ []) s)
    ∙ ap (λ (l : List Part). present_parts w ++ (shown_at i h ∷ l)) (from_waiting (i + 1) h.price (r ∷ []) s)))
    (holds_or_not (eqb h.price.0 level.0))

-- the parts that a cursor gives are the holdings at their places, without empty reserves
pub parts_present : (s : List Resting) → parts s ≡ map part_of (present (placed_from 0 s))
unfolding present
parts_present s =
    sym (from_waiting 0 (half_cents 0) [] s)
    ∙ ap present_parts (sym (placed_waiting 0 (half_cents 0) [] s) ∙ behind_none (half_cents 0) (placed_from 0 s))

-- ── So a walk takes the same ──

-- once a part may not be touched, none behind it may
pub data Closed (may : Part → Bool) : List Part → Type 0 where
  end : Closed may []
  next : {p : Part} {s : List Part} → (may p ≡ false → All (λ (q : Part). may q ≡ false) s) → Closed may s → Closed may (p ∷ s)

module _ (may : Part → Bool) where
  barred : (left : ℕ) {s : List Part} → All (λ (q : Part). may q ≡ false) s → walk may part_gives left s ≡ nothing s
  unfolding walk nothing
  barred left none = refl
  barred left (also t a) = rw t

  barred_present : (s : List Placed) → All (λ (q : Part). may q ≡ false) (map part_of s) → All (λ (q : Part). may q ≡ false) (present_parts s)
  unfolding present
  barred_present [] none = none
  barred_present (p ∷ s) (also t a) =
      by_choice (λ (l : List Placed). All (λ (q : Part). may q ≡ false) (map part_of l)) (is_empty p)
      (λ e. barred_present s a) (λ e. also t (barred_present s a))

  -- the takings and their total
  pub record Alike (s u : List Part) (left : ℕ) : Type 0 where
    pub same : takings_of may left s ≡ takings_of may left u
    pub in_all : total (walk may part_gives left s) ≡ total (walk may part_gives left u)

  pub walk_present : (left : ℕ) (s : List Placed) → Closed may (map part_of s) → Alike (map part_of s) (present_parts s) left
  unfolding present walk takings_from total
  walk_present left [] end = record { same = refl; in_all = refl }
  walk_present left (p ∷ s) (next c closed) =
      ⊎_elim
      (λ (t : may (part_of p) ≡ false).
      let a : All (λ (q : Part). may q ≡ false) (map part_of (p ∷ s)) = also t (c t) in
      let b = barred_present (p ∷ s) a in
      let e = barred left a in
      let f = barred left b in
      record {
        same = rw (e, f) (takings_nothing (map part_of (p ∷ s)) ∙ sym (takings_nothing (present_parts (p ∷ s))));
        in_all = rw (e, f) (nothing_total (map part_of (p ∷ s)) ∙ sym (nothing_total (present_parts (p ∷ s))));
      })
      (λ (t : may (part_of p) ≡ true). touched t (walk_present left s closed) (walk_present (left - part_gives left (part_of p)) s closed))
      (⊎_elim (λ (t : may (part_of p) ≡ true). inr t) (λ (t : may (part_of p) ≡ false). inl t) (holds_or_not (may (part_of p))))
    where
      touched : may (part_of p) ≡ true → Alike (map part_of s) (present_parts s) left
          → Alike (map part_of s) (present_parts s) (left - part_gives left (part_of p)) → Alike (map part_of (p ∷ s)) (present_parts (p ∷ s)) left
      touched t idle rest =
          ⊎_elim
          (λ (e : is_empty p ≡ true).
          let is : p.holding.is_reserve ≡ true = and_left p.holding.is_reserve (eqb p.holding.of.reserve.0 0) e in
          let z : p.holding.of.reserve.0 ≡ 0 = eqb-true _ 0 (and_right p.holding.is_reserve (eqb p.holding.of.reserve.0 0) e) in
          let size_none : size p.holding ≡ 0 = rw (is, z) refl in
          let g : part_gives left (part_of p) ≡ 0 =
          by_choice (λ (k : ℕ). k ≡ 0) (part_is_skipped left (part_of p)) (λ u. refl) (λ u. omega (arith, size_none)) in
          let l : left - 0 ≡ left = omega arith in
          record {
            same = rw (t, g, l, e, taking_none (part_of p)) idle.same;
            in_all = rw (t, g, l, e) (omega (arith, idle.in_all));
          })
          (λ (e : is_empty p ≡ false).
          let g = part_gives left (part_of p) in
          record {
            same = rw (t, e, t) (ap (λ (l : List Taking). taking (part_of p) g ++ l) rest.same);
            in_all = rw (t, e, t) (omega (arith, rest.in_all));
          })
          (holds_or_not (is_empty p))

-- where holdings stand better price first, a bound closes the walk over them
module _ (buy : Bool) (bound : HalfCents) where
  no_nearer : (b : Bool) (p q : HalfCents) → better (not b) q p ≡ false → not (beyond b bound p) ≡ false → not (beyond b bound q) ≡ false
  no_nearer true p q l m =
      let far : bound.0 < p.0 = ltb-true bound.0 p.0 (not_is_false _ m) in
      ap not (lt-ltb bound.0 q.0 (omega (arith, ltb-false q.0 p.0 l, far)))
    where
      not_is_false : (t : Bool) → not t ≡ false → t ≡ true
      not_is_false true e = refl
      not_is_false false e = sym e
  no_nearer false p q l m =
      let far : p.0 < bound.0 = ltb-true p.0 bound.0 (not_is_false _ m) in
      ap not (lt-ltb q.0 bound.0 (omega (arith, ltb-false p.0 q.0 l, far)))
    where
      not_is_false : (t : Bool) → not t ≡ false → t ≡ true
      not_is_false true e = refl
      not_is_false false e = sym e

  beyond_all : (p : HalfCents) → not (beyond buy bound p) ≡ false → (s : List Placed)
      → All (λ (q : Holding). better (not buy) q.of.price p ≡ false) (map (λ (p : Placed). p.holding) s)
      → All (λ (q : Part). is_within buy bound q ≡ false) (map part_of s)
  beyond_all p t [] none = none
  beyond_all p t (q ∷ s) (also l a) = also (no_nearer buy p q.holding.of.price l t) (beyond_all p t s a)

  pub best_closed : (s : List Placed) → HoldingsBest (not buy) (map (λ (p : Placed). p.holding) s) → Closed (is_within buy bound) (map part_of s)
  best_closed [] HoldingsBest.end = end
  best_closed (p ∷ s) (HoldingsBest.first h a b) = next (λ t. beyond_all p.holding.of.price t s a) (best_closed s b)

-- ── The orders that parts are of ──

pub parts_within : (s : List Resting) → All (λ (p : Part). p.place < length s) (parts s)
unfolding present
parts_within s =
    subst (All (λ (p : Part). p.place < length s)) (sym (parts_present s))
    (all_present (placed_from 0 s) (all_placed 0 s (λ k h b l is. omega (arith, l))))
  where
    all_present : (u : List Placed) → All (λ (p : Placed). p.place < length s) u → All (λ (p : Part). p.place < length s) (map part_of (present u))
    all_present [] none = none
    all_present (p ∷ u) (also l a) =
        by_choice (λ (l : List Placed). All (λ (p : Part). p.place < length s) (map part_of l)) (is_empty p) (λ e. all_present u a)
        (λ e. also l (all_present u a))

-- ── The places of one kind of part ──

abbrev kind : Bool → Placed → Bool
kind reserves p = beq p.holding.is_reserve reserves

-- the places of the shown parts, or of the reserves
unfoldable pub places_of : Bool → List Placed → List ℕ
places_of reserves [] = []
places_of reserves (p ∷ s) = if kind reserves p then p.place ∷ places_of reserves s else places_of reserves s

unfoldable pub up_from : ℕ → ℕ → List ℕ
up_from i zero = []
up_from i (suc n) = i ∷ up_from (i + 1) n

behind_shown : (r : Placed) → r.holding.is_reserve ≡ true → (s : List Placed) → places_of false (behind_placed r s) ≡ places_of false s
unfolding behind_placed places_of
behind_shown r is [] = rw is
behind_shown r is (p ∷ s) =
    ⊎_elim
    (λ (t : levelled r p ≡ true). rw t (ap (λ (l : List ℕ). if kind false p then p.place ∷ l else l) (behind_shown r is s)))
    (λ (t : levelled r p ≡ false). rw (t, is))
    (holds_or_not (levelled r p))

behind_reserves : (r : Placed) → r.holding.is_reserve ≡ true → (s : List Placed) → places_of true (behind_placed r s) ≡ r.place ∷ places_of true s
unfolding behind_placed places_of
behind_reserves r is [] = rw is
behind_reserves r is (p ∷ s) =
    ⊎_elim
    (λ (t : levelled r p ≡ true).
    let shown : p.holding.is_reserve ≡ false = not-true _ (and_right (eqb p.holding.of.price.0 r.holding.of.price.0) (not p.holding.is_reserve) t) in
    rw (t, shown) (behind_reserves r is s))
    (λ (t : levelled r p ≡ false). rw (t, is))
    (holds_or_not (levelled r p))

pub placed_places : (reserves : Bool) (i : ℕ) (s : List Resting) → places_of reserves (placed_from i s) ≡ up_from i (length s)
unfolding placed_from places_of up_from
placed_places reserves i [] = refl
placed_places true i (h ∷ s) =
    behind_reserves (placed_at i (reserve_part h)) refl (placed_from (i + 1) s) ∙ ap (λ (l : List ℕ). i ∷ l) (placed_places true (i + 1) s)
placed_places false i (h ∷ s) =
    ap (λ (l : List ℕ). i ∷ l) (behind_shown (placed_at i (reserve_part h)) refl (placed_from (i + 1) s) ∙ placed_places false (i + 1) s)
