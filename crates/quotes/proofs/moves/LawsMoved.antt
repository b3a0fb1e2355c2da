-- The fates that a moved quote gives the orders of a side, and how far its loop goes over them. Assumes nothing.
use Prim.Native.Nat.{ℕ, zero, suc, ◌<◌}
use mathlib.Core.Bool.{Bool, true, false, not, ◌&&◌}
use mathlib.Core.List.{List, [], ◌∷◌}
use mathlib.Core.Logic.{⊎_elim}
use mathlib.Core.Path.{◌≡◌, refl}
use lib.Dec.{ltb}
use lib.ListN.{length, get_or, take}
use native.Mathlib.Omega.{arith}
use borrow.Author.Tests.{lt-ltb, ltb-true, ltb-false, le-ltb}
use Rattle.std.specs.Prelude.{Some, None, if◌then◌else◌}
use Rattle.basics.specs.Lists.{none, also}
use Rattle.basics.proofs.LawsChoice.{holds_or_not, by_choice, and_left, and_right, and_none}
use Rattle.basics.proofs.LawsLists.{all_alike, each_there}
use Rattle.kinds.specs.declared.HalfCents.{HalfCents}
use Rattle.rules.specs.declared.Fate.{Fate}
use Rattle.rules.specs.declared.Fate.TheVariants.{Stays, IsCancelled, IsSet}
use Rattle.rules.specs.declared.Reason.TheVariants.{CancelledBack}
use Rattle.rules.specs.declared.Resting.{Resting}
use Rattle.rules.specs.declared.Stamp.{Stamp}
use Rattle.rules.specs.Book.{better, unused, in_rank_order}
use Rattle.rules.specs.Reasons.{number_of_reason}
use Rattle.rules.specs.Settling.{set_at, stamped_as, told_by}
use Rattle.rules.specs.Working.{absent, beyond}
use Rattle.rules.proofs.LawsCommands.{IfSet, not_beyond_itself}
use Rattle.rules.proofs.LawsRank.{rank_price, ranked_first, ranked_rest}
use Rattle.side.specs.Looking.{price_bound}
use Rattle.side.specs.Shifts.{Countable}
use Rattle.settling.specs.OneByOne.{set_below}
use Rattle.settling.proofs.LawsOneByOne.{Stay, SetStays}
use Rattle.quotes.specs.Moves.{goes_on, fate_at}

-- the fate that a moved quote gives, by the Locking Price alone, which is all that the loop knows of the quote
abbrev pub quoted : Bool → HalfCents → Resting → Fate
quoted buy locking h = if not (not h.displayed && not (absent locking) && beyond buy locking h.price) then Stays else fate_at locking h

no_better : (b : Bool) (p q r : HalfCents) → better b q p ≡ false → better b p r ≡ false → better b q r ≡ false
no_better true p q r a c = le-ltb r.0 q.0 (omega (arith, ltb-false p.0 q.0 a, ltb-false r.0 p.0 c))
no_better false p q r a c = le-ltb q.0 r.0 (omega (arith, ltb-false q.0 p.0 a, ltb-false p.0 r.0 c))

module _ (buy : Bool) (locking : HalfCents) where
  pub displayed_stays : (h : Resting) → h.displayed ≡ true → quoted buy locking h ≡ Stays
  displayed_stays h d = rw d

  within_stays : (h : Resting) → beyond buy locking h.price ≡ false → quoted buy locking h ≡ Stays
  within_stays h w = rw (w, and_none (not h.displayed && not (absent locking)))

  absent_stays : absent locking ≡ true → (h : Resting) → quoted buy locking h ≡ Stays
  absent_stays a h = rw (a, and_none (not h.displayed))

  by_fate : (P : Fate → Type 0) (h : Resting) → P Stays → P (IsCancelled (number_of_reason CancelledBack)) → P (IsSet (set_at locking h)) → P (quoted buy locking h)
  by_fate P h left gone set =
      by_choice P (not (not h.displayed && not (absent locking) && beyond buy locking h.price)) (λ t. left) (λ t. by_choice P h.back (λ b. gone) (λ b. set))

  pub set_stays : (h : Resting) (anew : Stamp) → SetStays (quoted buy locking) anew (quoted buy locking h)
  set_stays h anew =
      by_fate (SetStays (quoted buy locking) anew) h tt tt (within_stays (stamped_as anew (set_at locking h)) (not_beyond_itself buy locking))

  pub set_countable : (h : Resting) (anew : Stamp) → Countable h → IfSet (λ (new : Resting). Countable (stamped_as anew new)) (quoted buy locking h)
  set_countable h anew c = by_fate (IfSet (λ (new : Resting). Countable (stamped_as anew new))) h tt tt c

  pub quoted_below : locking.0 < price_bound → (h : Resting) → set_below (quoted buy locking h)
  quoted_below l h = by_fate set_below h tt tt l

  -- where the order at a rank is within the Locking Price, all behind it are
  stay_from : (at : ℕ) (s : List Resting) → in_rank_order buy s ≡ true → Stay (quoted buy locking) (take at s)
      → (at < length s → beyond buy locking (get_or s at unused).price ≡ false) → Stay (quoted buy locking) s
  stay_from at [] r a w = none
  stay_from zero (h ∷ s) r a w =
      let within = w (omega arith) in
      also (within_stays h within)
      (all_alike (λ y b. within_stays y (no_better buy h.price y.price locking (rank_price buy h y b) within)) (ranked_first buy h s r))
  stay_from (suc at) (h ∷ s) r (also p a) w = also p (stay_from at s (ranked_rest buy h s r) a (λ l. w (omega arith)))

  module _ (at : ℕ) (s : List Resting) where
    -- the order that the loop is given, and that it may go on only while there is one
    pub goes : (o : Resting) → (if goes_on buy locking at s then Some (get_or s at unused) else None) ≡ Some o
        → (goes_on buy locking at s ≡ true) × (o ≡ get_or s at unused)
    goes o e = by_test (goes_on buy locking at s) e
      where
        by_test : (b : Bool) → (if b then Some (get_or s at unused) else None) ≡ Some o → (b ≡ true) × (o ≡ get_or s at unused)
        by_test true e = (refl, cc)
        by_test false e = absurd cc

    pub stops : (if goes_on buy locking at s then Some (get_or s at unused) else None) ≡ None → goes_on buy locking at s ≡ false
    stops e = by_test (goes_on buy locking at s) e
      where
        by_test : (b : Bool) → (if b then Some (get_or s at unused) else None) ≡ None → b ≡ false
        by_test true e = absurd cc
        by_test false e = refl

    pub goes_below : goes_on buy locking at s ≡ true → at < length s
    goes_below g =
        let both = and_left (ltb at (length s) && not (absent locking)) (beyond buy locking (get_or s at unused).price) g in
        ltb-true at (length s) (and_left (ltb at (length s)) (not (absent locking)) both)

    -- one that is not displayed would now cross
    pub goes_fate : goes_on buy locking at s ≡ true → (h : Resting) → h ≡ get_or s at unused → h.displayed ≡ false → quoted buy locking h ≡ fate_at locking h
    goes_fate g h is d =
        let both = and_left (ltb at (length s) && not (absent locking)) (beyond buy locking (get_or s at unused).price) g in
        let far = and_right (ltb at (length s) && not (absent locking)) (beyond buy locking (get_or s at unused).price) g in
        rw (d, and_right (ltb at (length s)) (not (absent locking)) both, is, far)

    pub stops_all : goes_on buy locking at s ≡ false → in_rank_order buy s ≡ true → Stay (quoted buy locking) (take at s) → Stay (quoted buy locking) s
    stops_all g r a =
        ⊎_elim
        (λ (t : absent locking ≡ true). all_alike (λ h p. absent_stays t h) (each_there s))
        (λ (t : absent locking ≡ false). stay_from at s r a (λ l. rw (lt-ltb at (length s) l, t) at g))
        (holds_or_not (absent locking))

-- each of them has a line
pub told_once : (locking : HalfCents) (h : Resting) → length (told_by (fate_at locking h) h) ≡ 1
told_once locking h = by_choice (λ (f : Fate). length (told_by f h) ≡ 1) h.back (λ b. refl) (λ b. refl)
