-- What a walk takes from one order, and what that order's parts hold: with shares wanted at the end, whoever was neither skipped nor
-- out of reach gave all, and the first that was skipped gave nothing (02, W7). Assumes nothing.
use Prim.Native.Nat.{ℕ, zero, suc, ◌+◌, ◌-◌, ◌≤◌, ◌<◌, min, max}
use mathlib.Core.Bool.{Bool, true, false, not, ◌&&◌, ◌||◌, true≢false}
use mathlib.Core.List.{List, [], ◌∷◌, ◌++◌, map}
use mathlib.Core.Logic.{⊎_elim}
use mathlib.Core.Path.{◌≡◌, refl, sym, subst, ◌∙◌}
use lib.Dec.{eqb}
use lib.ListN.{length, get_or}
use native.Mathlib.Omega.{arith}
use borrow.Author.Tests.{eq-eqb, ne_eqb, eqb-true, ltb-true, not-false}
use Rattle.std.specs.Prelude.{if◌then◌else◌}
use Rattle.basics.specs.Lists.{total, sum_of, All, none, also}
use Rattle.basics.proofs.LawsChoice.{holds_or_not, by_choice, lt_or_le, or_neither}
use Rattle.basics.proofs.LawsLists.{sum_of_append}
use Rattle.kinds.specs.declared.HalfCents.{HalfCents}
use Rattle.rules.specs.declared.Resting.{Resting}
use Rattle.rules.specs.Book.{unused, shares_left}
use Rattle.rules.specs.Holdings.{walk}
use Rattle.orders.specs.declared.cursor.Part.{Part}
use Rattle.orders.specs.Cursor.{shown_at, reserves, parts_from, parts, Placed, placed_at, part_of, placed_from}
use Rattle.orders.specs.Fills.{taken_at}
use Rattle.orders.specs.Walk.{part_is_skipped, part_gives, taking, takings_from}
use Rattle.orders.specs.Walk.{reached, first_skipped, takings_of}
use Rattle.orders.proofs.cursor.LawsParts.{all_placed, present, parts_present}
use Rattle.orders.proofs.cursor.LawsParts.{Closed, end, next}
use Rattle.orders.proofs.walk.LawsTaken.{takings_nothing}
use Rattle.orders.proofs.fills.LawsTakenOff.{taken_both, taken_one}

-- ── What was taken from one order ──

none_either : (b : Bool) (g : ℕ) → g ≡ 0 → 0 ≡ (if b then g else 0)
none_either true g z = sym z
none_either false g z = refl

taken_next : (j : ℕ) (p : Part) (ps : List Part) (g : ℕ) (gs : List ℕ)
    → taken_at j (takings_from (p ∷ ps) (g ∷ gs)) ≡ (if eqb p.place j then g else 0) + taken_at j (takings_from ps gs)
unfolding takings_from
taken_next j p ps g gs = omega (arith, taken_both j (taking p g) (takings_from ps gs), taken_one j p g)

-- ── What the parts of one order hold ──

abbrev shares_at : ℕ → Part → ℕ
shares_at j p = if eqb p.place j then p.shares.0 else 0

abbrev held_at : ℕ → List Part → ℕ
held_at j ps = sum_of (shares_at j) ps

-- what the orders from rank i on hold at rank j
held_from : ℕ → ℕ → List Resting → ℕ
held_from i j [] = 0
held_from i j (h ∷ s) = (if eqb i j then shares_left h else 0) + held_from (i + 1) j s

reserve_held : (i j : ℕ) (h : Resting) → held_at j (reserves i (h ∷ [])) ≡ (if eqb i j then h.reserve.0 else 0)
unfolding reserves sum_of
reserve_held i j h =
    ⊎_elim
    (λ (z : eqb h.reserve.0 0 ≡ true). rw z (none_either (eqb i j) h.reserve.0 (eqb-true h.reserve.0 0 z)))
    (λ (z : eqb h.reserve.0 0 ≡ false). rw z (omega arith))
    (holds_or_not (eqb h.reserve.0 0))

parts_held : (i j : ℕ) (level : HalfCents) (w : List Part) (s : List Resting)
    → held_at j (parts_from i level w s) ≡ held_at j w + held_from i j s
unfolding parts_from held_from sum_of
parts_held i j level w [] = omega arith
parts_held i j level w (h ∷ s) =
    let r = reserves i (h ∷ []) in
    let own = reserve_held i j h in
    ⊎_elim
    (λ (t : eqb h.price.0 level.0 ≡ true).
    rw t (omega (arith, own, both (eqb i j), parts_held (i + 1) j h.price (w ++ r) s, sum_of_append (shares_at j) w r)))
    (λ (t : eqb h.price.0 level.0 ≡ false).
    let apart = sum_of_append (shares_at j) w (shown_at i h ∷ parts_from (i + 1) h.price r s) in
    rw t (omega (arith, own, both (eqb i j), parts_held (i + 1) j h.price r s, apart)))
    (holds_or_not (eqb h.price.0 level.0))
  where
    both : (b : Bool) → (if b then h.shares.0 else 0) + (if b then h.reserve.0 else 0) ≡ (if b then shares_left h else 0)
    both true = refl
    both false = refl

held_before : (i j : ℕ) (s : List Resting) → j < i → held_from i j s ≡ 0
unfolding held_from
held_before i j [] l = refl
held_before i j (h ∷ s) l = rw (ne_eqb i j (λ e. omega (arith, l, e))) (omega (arith, held_before (i + 1) j s (omega (arith, l))))

held_own : (i k : ℕ) (s : List Resting) → held_from i (i + k) s ≡ shares_left (get_or s k unused)
unfolding held_from
held_own i k [] = refl
held_own i zero (h ∷ s) = rw (eq-eqb i (i + 0) (omega arith)) (omega (arith, held_before (i + 1) (i + 0) s (omega arith)))
held_own i (suc k) (h ∷ s) =
    let e : i + 1 + k ≡ i + suc k = omega arith in
    let behind : held_from (i + 1) (i + suc k) s ≡ shares_left (get_or s k unused) = rw e at (held_own (i + 1) k s) in
    rw (ne_eqb i (i + suc k) (λ z. omega (arith, z))) (omega (arith, behind))

pub side_held : (j : ℕ) (s : List Resting) → held_at j (parts s) ≡ shares_left (get_or s j unused)
unfolding sum_of
side_held j s =
    let e : 0 + j ≡ j = omega arith in
    let own : held_from 0 j s ≡ shares_left (get_or s j unused) = rw e at (held_own 0 j s) in
    omega (arith, parts_held 0 j (record { 0 = 0 }) [] s, own)

-- ── What holds of all parts ──

all_present : {P : Part → Type 0} (u : List Placed) → All P (map part_of u) → All P (map part_of (present u))
unfolding present
all_present [] none = none
all_present {P = P} (p ∷ u) (also c a) =
    by_choice (λ (l : List Placed). All P (map part_of l)) (p.holding.is_reserve && eqb p.holding.of.reserve.0 0)
    (λ e. all_present u a) (λ e. also c (all_present u a))

all_mapped : {P : Part → Type 0} {u : List Placed} → All (λ (p : Placed). P (part_of p)) u → All P (map part_of u)
all_mapped none = none
all_mapped (also c a) = also c (all_mapped a)

pub all_parts : {P : Part → Type 0} (s : List Resting)
    → ((k : ℕ) (reserve : Bool) → k < length s → P (part_of (placed_at k (record { of = get_or s k unused; is_reserve = reserve }))))
    → All P (parts s)
all_parts {P = P} s f =
    subst (All P) (sym (parts_present s))
    (all_present (placed_from 0 s)
    (all_mapped (all_placed {P = λ (p : Placed). P (part_of p)} 0 s (λ k h b l is.
    let e : 0 + k ≡ k = omega arith in
    rw (e, is) (f k b l)))))

pub closed_present : (may : Part → Bool) (u : List Placed) → Closed may (map part_of u) → Closed may (map part_of (present u))
unfolding present
closed_present may [] end = end
closed_present may (p ∷ u) (next c closed) =
    by_choice (λ (l : List Placed). Closed may (map part_of l)) (p.holding.is_reserve && eqb p.holding.of.reserve.0 0)
    (λ e. closed_present may u closed) (λ e. next (λ t. all_present u (c t)) (closed_present may u closed))

-- ── A walk over parts ──

gives_within : (left : ℕ) (p : Part) → part_gives left p ≤ p.shares.0
gives_within left p = by_choice (λ (g : ℕ). g ≤ p.shares.0) (part_is_skipped left p) (λ t. omega arith) (λ t. omega arith)

either_within : (b : Bool) (g n : ℕ) → g ≤ n → (if b then g else 0) ≤ (if b then n else 0)
either_within true g n l = l
either_within false g n l = omega arith

-- a part with a minimum is all that its order holds
abbrev pub IsWhole : (ℕ → ℕ) → Part → Type 0
IsWhole held p = 0 < p.minimum.0 → 0 < p.shares.0 → p.shares.0 ≡ held p.place

-- where such a part is the first that is skipped, its order keeps it
skipped_here : (held : ℕ → ℕ) (skipped left f : ℕ) (p : Part) → IsWhole held p
    → (if part_is_skipped left p then min skipped p.place else skipped) ≡ f → f < skipped
    → (if eqb p.place f then part_gives left p else 0) + held f ≤ shares_at f p
skipped_here held skipped left f p m e l =
    ⊎_elim
    (λ (t : part_is_skipped left p ≡ true).
    let small : left < min p.minimum.0 p.shares.0 = ltb-true left (min p.minimum.0 p.shares.0) t in
    let first : min skipped p.place ≡ f = rw t at e in
    let here : p.place ≡ f = omega (arith, first, l) in
    let all : p.shares.0 ≡ held f = rw here at (m (omega (arith, small)) (omega (arith, small))) in
    rw (eq-eqb p.place f here, t) (omega (arith, all)))
    (λ (t : part_is_skipped left p ≡ false).
    let same : skipped ≡ f = rw t at e in
    let z : ⊥ = omega (arith, same, l) in
    absurd z)
    (holds_or_not (part_is_skipped left p))

module _ (may : Part → Bool) where
  taken_within : (left j : ℕ) (ps : List Part) → taken_at j (takings_of may left ps) ≤ held_at j ps
  unfolding walk sum_of taken_at takings_from
  taken_within left j [] = omega arith
  taken_within left j (p ∷ ps) =
      let g = part_gives left p in
      let own = either_within (eqb p.place j) g p.shares.0 (gives_within left p) in
      ⊎_elim
      (λ (t : may p ≡ true).
      rw t (omega (arith, own, taken_next j p ps g (walk may part_gives (left - g) ps), taken_within (left - g) j ps)))
      (λ (t : may p ≡ false). rw (t, takings_nothing (p ∷ ps)) (omega arith))
      (holds_or_not (may p))

  skipped_within : (skipped left : ℕ) (ps : List Part) → first_skipped may skipped left ps ≤ skipped
  unfolding first_skipped
  skipped_within skipped left [] = omega arith
  skipped_within skipped left (p ∷ ps) =
      ⊎_elim
      (λ (z : (eqb left 0 || not (may p)) ≡ true). rw z (omega arith))
      (λ (z : (eqb left 0 || not (may p)) ≡ false).
      let n = if part_is_skipped left p then min skipped p.place else skipped in
      let l : n ≤ skipped = by_choice (λ (k : ℕ). k ≤ skipped) (part_is_skipped left p) (λ t. omega arith) (λ t. omega arith) in
      rw z (omega (arith, l, skipped_within n (left - part_gives left p) ps)))
      (holds_or_not (eqb left 0 || not (may p)))

  -- parts that may not be touched are of no order whose parts may be
  none_held : (j : ℕ) {ps : List Part} → All (λ (p : Part). may p ≡ false) ps → All (λ (p : Part). p.place ≡ j → may p ≡ true) ps
      → held_at j ps ≡ 0
  unfolding sum_of
  none_held j none none = refl
  none_held j (also {x = p} f b) (also t a) =
      rw (ne_eqb p.place j (λ e. true≢false (sym (t e) ∙ f))) (omega (arith, none_held j b a))

  -- one that is not skipped and gives less than is wanted gives all that it holds
  gives_all : (left skipped : ℕ) (p : Part) (ps : List Part) (j : ℕ) → part_gives left p < left → p.place ≡ j
      → j < first_skipped may (if part_is_skipped left p then min skipped p.place else skipped) (left - part_gives left p) ps
      → part_gives left p ≡ p.shares.0
  gives_all left skipped p ps j l e f =
      ⊎_elim
      (λ (t : part_is_skipped left p ≡ true).
      let z : ⊥ = omega (arith, e, rw t at f, skipped_within (min skipped p.place) (left - 0) ps) in
      absurd z)
      (λ (t : part_is_skipped left p ≡ false).
      let m : min left p.shares.0 < left = rw t at l in
      rw t (omega (arith, m)))
      (holds_or_not (part_is_skipped left p))

  -- with shares wanted at the end, an order before any that was skipped gave all
  pub gave_all_held : (left skipped j : ℕ) {ps : List Part} → Closed may ps → All (λ (p : Part). p.place ≡ j → may p ≡ true) ps
      → total (walk may part_gives left ps) < left → j < first_skipped may skipped left ps → taken_at j (takings_of may left ps) ≡ held_at j ps
  unfolding walk takings_from total first_skipped sum_of taken_at
  gave_all_held left skipped j end none l f = refl
  gave_all_held left skipped j (next {p = p} {s = ps} c closed) (also m a) l f =
      ⊎_elim
      (λ (t : may p ≡ true).
      let g = part_gives left p in
      let n = if part_is_skipped left p then min skipped p.place else skipped in
      let u : g + total (walk may part_gives (left - g) ps) < left = rw t at l in
      let z : eqb left 0 ≡ false = ne_eqb left 0 (λ e. omega (arith, u, e)) in
      let d : j < first_skipped may n (left - g) ps = rw (z, t) at f in
      let rest = gave_all_held (left - g) n j closed a (omega (arith, u)) d in
      let own : (if eqb p.place j then g else 0) ≡ (if eqb p.place j then p.shares.0 else 0) =
      ⊎_elim
      (λ (e : eqb p.place j ≡ true). rw e (gives_all left skipped p ps j (omega (arith, u)) (eqb-true p.place j e) d))
      (λ (e : eqb p.place j ≡ false). rw e)
      (holds_or_not (eqb p.place j)) in
      rw t (omega (arith, taken_next j p ps g (walk may part_gives (left - g) ps), rest, own)))
      (λ (t : may p ≡ false). rw (t, takings_nothing (p ∷ ps)) (sym (none_held j (also t (c t)) (also m a))))
      (holds_or_not (may p))

  -- the first order that was skipped keeps all that it held
  pub skipped_kept : (held : ℕ → ℕ) (skipped left f : ℕ) {ps : List Part} → All (IsWhole held) ps
      → first_skipped may skipped left ps ≡ f → f < skipped → taken_at f (takings_of may left ps) + held f ≤ held_at f ps
  unfolding walk takings_from first_skipped sum_of taken_at
  skipped_kept held skipped left f none e l = let z : ⊥ = omega (arith, e, l) in absurd z
  skipped_kept held skipped left f (also {x = p} {s = ps} m a) e l =
      ⊎_elim
      (λ (z : (eqb left 0 || not (may p)) ≡ true).
      let same : skipped ≡ f = rw z at e in
      let no : ⊥ = omega (arith, same, l) in
      absurd no)
      (λ (z : (eqb left 0 || not (may p)) ≡ false).
      let t : may p ≡ true = not-false (may p) (or_neither (eqb left 0) (not (may p)) z).1 in
      let g = part_gives left p in
      let n = if part_is_skipped left p then min skipped p.place else skipped in
      let d : first_skipped may n (left - g) ps ≡ f = rw z at e in
      let own = either_within (eqb p.place f) g p.shares.0 (gives_within left p) in
      let next = taken_next f p ps g (walk may part_gives (left - g) ps) in
      rw t
      (⊎_elim
      (λ (b : f < n). omega (arith, next, own, skipped_kept held n (left - g) f a d b))
      (λ (b : n ≤ f).
      let here = skipped_here held skipped left f p m (omega (arith, b, d, skipped_within n (left - g) ps)) l in
      omega (arith, next, here, taken_within (left - g) f ps))
      (lt_or_le f n)))
      (holds_or_not (eqb left 0 || not (may p)))

  -- the orders before the furthest that a walk reaches are, as that one is, orders that it may touch
  pub reached_all : {P : ℕ → Type 0} (at left : ℕ) {ps : List Part} → All (λ (p : Part). may p ≡ true → (i : ℕ) → i ≤ p.place → P i) ps
      → ((i : ℕ) → i < at → P i) → (i : ℕ) → i < reached may at left ps → P i
  unfolding reached
  reached_all at left none before i l = before i l
  reached_all {P = P} at left (also {x = p} {s = ps} touched a) before i l =
      ⊎_elim
      (λ (z : (eqb left 0 || not (may p)) ≡ true). before i (rw z at l))
      (λ (z : (eqb left 0 || not (may p)) ≡ false).
      let t : may p ≡ true = not-false (may p) (or_neither (eqb left 0) (not (may p)) z).1 in
      let further : (k : ℕ) → k < max at (p.place + 1) → P k =
      λ k m. ⊎_elim (λ (b : k < at). before k b) (λ (b : at ≤ k). touched t k (omega (arith, m, b))) (lt_or_le k at) in
      reached_all (max at (p.place + 1)) (left - part_gives left p) a further i (rw z at l))
      (holds_or_not (eqb left 0 || not (may p)))
