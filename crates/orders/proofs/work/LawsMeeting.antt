-- Step 5 of 01, as 02's W6 has it: a price meets a displayed order or passes a hidden one of a side in rank order exactly where it does so
-- of its best order. Assumes nothing.
use Prim.Native.Nat.{◌<◌}
use mathlib.Core.Bool.{Bool, true, false, not, true≢false}
use mathlib.Core.List.{List, [], ◌∷◌}
use mathlib.Core.Logic.{⊎_elim}
use mathlib.Core.Path.{◌≡◌, refl, sym, ◌∙◌}
use lib.ListN.{length, get_or}
use native.Mathlib.Omega.{arith}
use borrow.Author.Tests.{le-ltb, lt-leb, ltb-false, leb-false}
use Rattle.basics.specs.Lists.{All, any, none, also}
use Rattle.basics.proofs.LawsChoice.{holds_or_not}
use Rattle.basics.proofs.LawsLists.{all_alike}
use Rattle.kinds.specs.declared.HalfCents.{HalfCents}
use Rattle.rules.specs.declared.Resting.{Resting}
use Rattle.rules.specs.Book.{unused, in_rank_order}
use Rattle.rules.specs.Working.{beyond, reaches, meets_or_passes}
use Rattle.soundness.proofs.LawsApart.{Behind, no_worse}

-- an order behind one that is not met: at its price it is displayed only if that one is
unmet : (buy : Bool) (price : HalfCents) (h y : Resting) → Behind (not buy) h y → meets_or_passes buy price h ≡ false → meets_or_passes buy price y ≡ false
unmet buy price h y behind e =
    ⊎_elim
    (λ (d : h.displayed ≡ true).
    ⊎_elim
    (λ (f : y.displayed ≡ true). rw f (shown_shown buy behind (rw d at e)))
    (λ (f : y.displayed ≡ false). rw f (shown_hidden buy behind (rw d at e)))
    (holds_or_not y.displayed))
    (λ (d : h.displayed ≡ false).
    ⊎_elim
    (λ (f : y.displayed ≡ true). rw f (hidden_shown buy behind d f (rw d at e)))
    (λ (f : y.displayed ≡ false). rw f (hidden_hidden buy behind (rw d at e)))
    (holds_or_not y.displayed))
    (holds_or_not h.displayed)
  where
    shown_shown : (buy : Bool) → Behind (not buy) h y → reaches buy price h.price ≡ false → reaches buy price y.price ≡ false
    shown_shown true b e =
        let near = leb-false h.price.0 price.0 e in
        let worse = ltb-false y.price.0 h.price.0 b.worse in
        lt-leb y.price.0 price.0 (omega (arith, near, worse))
    shown_shown false b e =
        let near = leb-false price.0 h.price.0 e in
        let worse = ltb-false h.price.0 y.price.0 b.worse in
        lt-leb price.0 y.price.0 (omega (arith, near, worse))

    shown_hidden : (buy : Bool) → Behind (not buy) h y → reaches buy price h.price ≡ false → beyond buy y.price price ≡ false
    shown_hidden true b e =
        let near = leb-false h.price.0 price.0 e in
        let worse = ltb-false y.price.0 h.price.0 b.worse in
        le-ltb y.price.0 price.0 (omega (arith, near, worse))
    shown_hidden false b e =
        let near = leb-false price.0 h.price.0 e in
        let worse = ltb-false h.price.0 y.price.0 b.worse in
        le-ltb price.0 y.price.0 (omega (arith, near, worse))

    -- a displayed one at the same price would rank first
    elsewhere : {b : Bool} → Behind b h y → h.displayed ≡ false → y.displayed ≡ true → h.price.0 ≡ y.price.0 → ⊥
    elsewhere b d f e = true≢false (sym (b.shown_first e f) ∙ d)

    hidden_shown : (buy : Bool) → Behind (not buy) h y → h.displayed ≡ false → y.displayed ≡ true → beyond buy h.price price ≡ false
        → reaches buy price y.price ≡ false
    hidden_shown true b d f e =
        let near = ltb-false h.price.0 price.0 e in
        let worse = ltb-false y.price.0 h.price.0 b.worse in
        lt-leb y.price.0 price.0 (omega (arith, near, worse, elsewhere b d f))
    hidden_shown false b d f e =
        let near = ltb-false price.0 h.price.0 e in
        let worse = ltb-false h.price.0 y.price.0 b.worse in
        lt-leb price.0 y.price.0 (omega (arith, near, worse, elsewhere b d f))

    hidden_hidden : (buy : Bool) → Behind (not buy) h y → beyond buy h.price price ≡ false → beyond buy y.price price ≡ false
    hidden_hidden true b e =
        let near = ltb-false h.price.0 price.0 e in
        let worse = ltb-false y.price.0 h.price.0 b.worse in
        le-ltb y.price.0 price.0 (omega (arith, near, worse))
    hidden_hidden false b e =
        let near = ltb-false price.0 h.price.0 e in
        let worse = ltb-false h.price.0 y.price.0 b.worse in
        le-ltb price.0 y.price.0 (omega (arith, near, worse))

none_met : (buy : Bool) (price : HalfCents) {s : List Resting} → All (λ (h : Resting). meets_or_passes buy price h ≡ false) s
    → any (meets_or_passes buy price) s ≡ false
unfolding any
none_met buy price none = refl
none_met buy price (also e a) = rw e (none_met buy price a)

best_met : (buy : Bool) (price : HalfCents) (h : Resting) (s : List Resting) → meets_or_passes buy price h ≡ true → any (meets_or_passes buy price) (h ∷ s) ≡ true
unfolding any
best_met buy price h s e = rw e

-- the best order tells
pub meets_best : (buy : Bool) (price : HalfCents) (s : List Resting) (best : Resting) → 0 < length s → best ≡ get_or s 0 unused
    → in_rank_order (not buy) s ≡ true → any (meets_or_passes buy price) s ≡ meets_or_passes buy price best
meets_best buy price [] best l is r = let z : ⊥ = omega arith in absurd z
meets_best buy price (h ∷ s) best l is r =
    rw is
    (⊎_elim
    (λ (e : meets_or_passes buy price h ≡ true). best_met buy price h s e ∙ sym e)
    (λ (e : meets_or_passes buy price h ≡ false).
    none_met buy price (all_alike (λ y b. unmet buy price h y b e) (no_worse (not buy) h s r)) ∙ sym e)
    (holds_or_not (meets_or_passes buy price h)))
