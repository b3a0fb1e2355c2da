-- Laws of the fates of a refill (02, W4), and of the orders behind those that a walk reached while refilled ones take their places. Assumes
-- nothing.
use Prim.Native.Nat.{ℕ, zero, suc, ◌+◌, ◌≤◌, ◌<◌}
use mathlib.Core.Bool.{Bool}
use mathlib.Core.List.{List, [], ◌∷◌, ◌++◌}
use mathlib.Core.Path.{◌≡◌, refl, ap, subst}
use lib.ListN.{length, take, drop}
use native.Mathlib.Omega.{arith}
use borrow.Author.Tests.{eq-eqb, ne_eqb}
use Rattle.basics.specs.Lists.{All, none, also, remove_at}
use Rattle.basics.proofs.LawsLists.{all_both}
use Rattle.rules.specs.declared.Fate.TheVariants.{Stays, IsSet}
use Rattle.rules.specs.declared.Resting.{Resting}
use Rattle.rules.specs.declared.Stamp.{Stamp}
use Rattle.rules.specs.Book.{shares_left}
use Rattle.rules.specs.Settling.{refilled, stamped_as, insert}
use Rattle.rules.specs.Working.{refill_fate}
use Rattle.rules.proofs.LawsFloors.{shown_at_most, shown_some}
use Rattle.soundness.proofs.LawsInsert.{Added, here, later, added_insert, added_all}
use Rattle.orders.specs.Refills.{Refillable}

-- ── The fate of one order ──

pub refill_due : (h : Resting) → h.shares.0 ≡ 0 → refill_fate h ≡ IsSet (refilled h)
refill_due h z = rw (eq-eqb h.shares.0 0 z)

pub refill_stays : (h : Resting) → 1 ≤ h.shares.0 → refill_fate h ≡ Stays
refill_stays h l = rw (ne_eqb h.shares.0 0 (λ z. omega arith))

-- a refill changes nothing of the total, and shows something
refilled_left : (h : Resting) → shares_left (refilled h) ≡ shares_left h
refilled_left h = omega (arith, shown_at_most h.floor.0 (shares_left h))

pub refilled_stays : (h : Resting) (anew : Stamp) → 1 ≤ shares_left h → refill_fate (stamped_as anew (refilled h)) ≡ Stays
refilled_stays h anew l = refill_stays (stamped_as anew (refilled h)) (shown_some h.floor.0 (shares_left h) l)

pub refilled_again : (h : Resting) (anew : Stamp) → Refillable h → Refillable (stamped_as anew (refilled h))
refilled_again h anew r =
    let e = refilled_left h in
    record { is_left = omega (arith, e, r.is_left); countable = omega (arith, e, r.countable) }

-- ── The orders behind those that were reached ──

dropped_all : {P : Resting → Type 0} (k : ℕ) {s : List Resting} → All P s → All P (drop k s)
dropped_all zero a = a
dropped_all (suc k) none = none
dropped_all (suc k) (also p a) = dropped_all k a

-- one more comes among them, or before them
added_dropped : {P : Resting → Type 0} {x : Resting} → P x → (k : ℕ) {s r : List Resting} → Added x s r → All P (drop k s) → All P (drop (suc k) r)
added_dropped p k here a = a
added_dropped p zero (later d) (also q a) = added_all p d a
added_dropped p (suc k) (later d) a = added_dropped p k d a

removed_dropped : {P : Resting → Type 0} (at k : ℕ) (s : List Resting) → at < length s → at ≤ k → All P (drop (suc k) s) → All P (drop k (remove_at at s))
removed_dropped at k [] m l a = let z : ⊥ = omega arith in absurd z
removed_dropped {P = P} zero k (x ∷ s) m l a = subst (λ (u : List Resting). All P (drop k u)) (first_gone x s) a
  where
    first_gone : (x : Resting) (s : List Resting) → s ≡ remove_at 0 (x ∷ s)
    first_gone x s = refl
removed_dropped (suc at) zero (x ∷ s) m l a = let z : ⊥ = omega arith in absurd z
removed_dropped {P = P} (suc at) (suc k) (x ∷ s) m l a =
    subst (λ (u : List Resting). All P (drop (suc k) u)) (removed_later at x s) (removed_dropped at k s (omega arith) (omega arith) a)
  where
    removed_later : (at : ℕ) (x : Resting) (s : List Resting) → x ∷ remove_at at s ≡ remove_at (suc at) (x ∷ s)
    removed_later at x s = let e : suc (at + 1) ≡ suc at + 1 = omega arith in ap (λ (k : ℕ). take (suc at) (x ∷ s) ++ drop k (x ∷ s)) e

-- the order at a rank before them is taken off and one that passes takes its place
pub set_dropped : {P : Resting → Type 0} (buy : Bool) (x : Resting) → P x → (at k : ℕ) (s : List Resting) → at < length s → at < k
    → All P (drop k s) → All P (drop k (insert buy x (remove_at at s)))
set_dropped buy x p at zero s m l a = let z : ⊥ = omega arith in absurd z
set_dropped buy x p at (suc k) s m l a = added_dropped p k (added_insert buy x (remove_at at s)) (removed_dropped at k s m (omega arith) a)

pub taken_fewer : {P : Resting → Type 0} (k j : ℕ) (s : List Resting) → k ≤ j → All P (take j s) → All P (take k s)
taken_fewer zero j s l a = none
taken_fewer (suc k) j [] l a = none
taken_fewer (suc k) zero (x ∷ s) l a = let z : ⊥ = omega arith in absurd z
taken_fewer (suc k) (suc j) (x ∷ s) l (also p a) = also p (taken_fewer k j s (omega arith) a)

taken_all : {P : Resting → Type 0} (k : ℕ) {s : List Resting} → All P s → All P (take k s)
taken_all zero a = none
taken_all (suc k) none = none
taken_all (suc k) (also p a) = also p (taken_all k a)

pub set_all : {P : Resting → Type 0} (buy : Bool) (x : Resting) → P x → (at : ℕ) (s : List Resting) → All P s → All P (insert buy x (remove_at at s))
set_all buy x p at s a = added_all p (added_insert buy x (remove_at at s)) (all_both (taken_all at a) (dropped_all (at + 1) a))

-- all before and all from there on are all
pub all_parted : {P : Resting → Type 0} (k : ℕ) (s : List Resting) → All P (take k s) → All P (drop k s) → All P s
all_parted zero s a b = b
all_parted (suc k) [] a b = none
all_parted (suc k) (x ∷ s) (also p a) b = also p (all_parted k s a b)
