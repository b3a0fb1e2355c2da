-- Laws of what an order shows of its shares by its Max Floor (02, W4): no more than is left, and a share at least; so a Max Floor in range
-- stays so where shares are lowered and where the shown part is refilled; and so of a minimum (02, W7). Assumes nothing.
use Prim.Native.Nat.{ℕ, ◌+◌, ◌-◌, ◌≤◌, min}
use mathlib.Core.Bool.{true, false, not, ◌&&◌, or-true, true≢false}
use mathlib.Core.Logic.{⊎_elim}
use mathlib.Core.Path.{◌≡◌, refl, sym, ◌∙◌}
use lib.Dec.{eqb, leb}
use native.Mathlib.Omega.{arith}
use borrow.Author.Tests.{eq-eqb, ne_eqb, eqb-true, eqb-false, le-leb, leb-true, not-true}
use Rattle.basics.proofs.LawsChoice.{holds_or_not, by_choice, and_left, and_right}
use Rattle.kinds.specs.declared.HalfCents.{HalfCents}
use Rattle.kinds.specs.Kinds.{shares_in_range}
use Rattle.rules.specs.declared.Resting.{Resting}
use Rattle.rules.specs.declared.Stamp.{Stamp}
use Rattle.rules.specs.Book.{shares_left, floor_in_range, minimum_in_range}
use Rattle.rules.specs.Settling.{amended, shown_of, refilled}
use Rattle.rules.specs.Working.{refill_fate}
use Rattle.rules.proofs.LawsCommands.{IfSet, SameOrder}
use Rattle.rules.proofs.LawsWalkOrder.{NotBoth}

-- ── What is shown ──

pub shown_at_most : (floor left : ℕ) → shown_of floor left ≤ left
shown_at_most floor left = by_choice (λ (k : ℕ). k ≤ left) (eqb floor 0) (λ t. omega arith) (λ t. omega arith)

pub shown_some : (floor left : ℕ) → 1 ≤ left → 1 ≤ shown_of floor left
shown_some floor left l = by_choice (λ (k : ℕ). 1 ≤ k) (eqb floor 0) (λ t. l) (λ t. omega (arith, eqb-false floor 0 t))

-- ── A Max Floor in range ──

-- an order of which so much is shown, and the rest is its reserve: where there is a Max Floor, it is displayed, and the floor in range
pub shown_floored : (h : Resting) (left : ℕ) → h.shares.0 ≡ shown_of h.floor.0 left → h.reserve.0 ≡ left - shown_of h.floor.0 left
    → (eqb h.floor.0 0 ≡ false → (h.displayed && shares_in_range h.floor) ≡ true) → floor_in_range h ≡ true
shown_floored h left e f floor =
    ⊎_elim
    (λ (t : eqb h.floor.0 0 ≡ true).
    let none : h.reserve.0 ≡ 0 = f ∙ rw t (omega arith) in
    rw (t, eq-eqb h.reserve.0 0 none) refl)
    (λ (t : eqb h.floor.0 0 ≡ false).
    let most : h.shares.0 ≤ h.floor.0 = let s = rw t at e in omega (arith, s) in
    let is_displayed = and_left h.displayed (shares_in_range h.floor) (floor t) in
    let ranged = and_right h.displayed (shares_in_range h.floor) (floor t) in
    rw (t, is_displayed, le-leb h.shares.0 h.floor.0 most) ranged)
    (holds_or_not (eqb h.floor.0 0))

module _ (h : Resting) (floored : floor_in_range h ≡ true) where
  none_reserved : eqb h.floor.0 0 ≡ true → h.reserve.0 ≡ 0
  none_reserved t = eqb-true h.reserve.0 0 (rw t at floored)

  pub under_floor : eqb h.floor.0 0 ≡ false → (h.displayed ≡ true) × (h.shares.0 ≤ h.floor.0) × (shares_in_range h.floor ≡ true)
  under_floor t =
      let all : (h.displayed && leb h.shares.0 h.floor.0 && shares_in_range h.floor) ≡ true = rw t at floored in
      let both = and_left (h.displayed && leb h.shares.0 h.floor.0) (shares_in_range h.floor) all in (
        and_left h.displayed (leb h.shares.0 h.floor.0) both,
        leb-true h.shares.0 h.floor.0 (and_right h.displayed (leb h.shares.0 h.floor.0) both),
        and_right (h.displayed && leb h.shares.0 h.floor.0) (shares_in_range h.floor) all,
      )

  -- both parts are lowered
  pub lowered_floored : (price : HalfCents) (anew : Stamp) (shown reserve minimum : ℕ) → shown ≤ h.shares.0 → reserve ≤ h.reserve.0
      → floor_in_range (amended price anew shown reserve minimum h) ≡ true
  lowered_floored price anew shown reserve minimum l m =
      ⊎_elim
      (λ (t : eqb h.floor.0 0 ≡ true).
      let none : reserve ≡ 0 = omega (arith, none_reserved t) in
      rw (t, eq-eqb reserve 0 none) refl)
      (λ (t : eqb h.floor.0 0 ≡ false).
      let u = under_floor t in
      rw (t, u.0, le-leb shown h.floor.0 (omega (arith, u.1))) u.2)
      (holds_or_not (eqb h.floor.0 0))

  -- the shown part is refilled
  pub refilled_floored : floor_in_range (refilled h) ≡ true
  refilled_floored = shown_floored (refilled h) (shares_left h) refl refl (λ t. let u = under_floor t in rw u.0 u.2)

-- ── A refill ──

-- it is the same order, with the same shares
pub refill_same : (h : Resting) → IfSet (SameOrder h) (refill_fate h)
refill_same h =
    by_choice (IfSet (SameOrder h)) (eqb h.shares.0 0)
    (λ t. record { number = refl; left = omega (arith, shown_at_most h.floor.0 (shares_left h)) }) (λ t. tt)

-- ── A minimum (02, W7) ──

-- cut to what remains it is in range
pub lowered_least : (h : Resting) → minimum_in_range h ≡ true → (price : HalfCents) (anew : Stamp) (shown reserve : ℕ)
    → minimum_in_range (amended price anew shown reserve (min h.minimum.0 (shown + reserve)) h) ≡ true
lowered_least h least price anew shown reserve =
    ⊎_elim
    (λ (t : eqb h.minimum.0 0 ≡ true).
    let z : min h.minimum.0 (shown + reserve) ≡ 0 = omega (arith, eqb-true h.minimum.0 0 t) in
    rw (eq-eqb (min h.minimum.0 (shown + reserve)) 0 z) refl)
    (λ (t : eqb h.minimum.0 0 ≡ false).
    let hidden : (not h.displayed && leb h.minimum.0 (shares_left h)) ≡ true = rw t at least in
    let fits = le-leb (min h.minimum.0 (shown + reserve)) (shown + reserve) (omega arith) in
    rw (and_left (not h.displayed) (leb h.minimum.0 (shares_left h)) hidden, fits) (or-true (eqb (min h.minimum.0 (shown + reserve)) 0)))
    (holds_or_not (eqb h.minimum.0 0))

-- so is one that is left as it is where as many shares are
pub same_least : (h : Resting) → minimum_in_range h ≡ true → (price : HalfCents) (anew : Stamp) (shown reserve : ℕ) → shown + reserve ≡ shares_left h
    → minimum_in_range (amended price anew shown reserve h.minimum.0 h) ≡ true
same_least h least price anew shown reserve e = rw e least

-- it is no more than what is left
pub least_within : (h : Resting) → minimum_in_range h ≡ true → h.minimum.0 ≤ shares_left h
least_within h least =
    ⊎_elim
    (λ (t : eqb h.minimum.0 0 ≡ true). omega (arith, eqb-true h.minimum.0 0 t))
    (λ (t : eqb h.minimum.0 0 ≡ false).
    leb-true h.minimum.0 (shares_left h) (and_right (not h.displayed) (leb h.minimum.0 (shares_left h)) (rw t at least)))
    (holds_or_not (eqb h.minimum.0 0))

-- an order that has one is not displayed, and so has no reserve
pub least_alone : (h : Resting) → minimum_in_range h ≡ true → floor_in_range h ≡ true → NotBoth h
least_alone h least floored some =
    let t : eqb h.minimum.0 0 ≡ false = ne_eqb h.minimum.0 0 (λ z. omega (arith, some, z)) in
    let hidden = not-true h.displayed (and_left (not h.displayed) (leb h.minimum.0 (shares_left h)) (rw t at least)) in
    ⊎_elim
    (λ (z : eqb h.floor.0 0 ≡ true). none_reserved h floored z)
    (λ (z : eqb h.floor.0 0 ≡ false). absurd (true≢false (sym (under_floor h floored z).0 ∙ hidden)))
    (holds_or_not (eqb h.floor.0 0))
