-- Beside a side in rank order from which it is apart, the price of an order tells whether it is locked: only the best price of that side can
-- lock, and only if the best order is displayed. Assumes nothing.
use Prim.Native.Nat.{◌≤◌}
use mathlib.Core.Bool.{Bool, true, false, not, ◌&&◌, true≢false}
use mathlib.Core.List.{List, [], ◌∷◌}
use mathlib.Core.Logic.{⊎_elim}
use mathlib.Core.Path.{◌≡◌, refl, sym, ap, ◌∙◌}
use lib.Dec.{eqb}
use native.Mathlib.Omega.{arith}
use borrow.Author.Tests.{eqb-true, eqb-false, eq-eqb, ne_eqb, ltb-true, ltb-false, le-ltb, leb-true}
use Rattle.basics.specs.Lists.{All, any, none, also}
use Rattle.basics.proofs.LawsChoice.{holds_or_not, and_left, and_right, and_none}
use Rattle.basics.proofs.LawsLists.{all_alike}
use Rattle.std.specs.Prelude.{if◌then◌else◌}
use Rattle.kinds.specs.declared.HalfCents.{HalfCents}
use Rattle.kinds.specs.Kinds.{half_cents}
use Rattle.rules.specs.declared.Resting.{Resting}
use Rattle.rules.specs.Book.{in_rank_order}
use Rattle.rules.specs.Working.{beyond, reaches, is_displayed_at}
use Rattle.soundness.proofs.LawsApart.{clear, Clear, Apart, Behind, no_worse, apart_flip}
use Rattle.orders.specs.Locks.{locked_price, ToldByPrice}

-- an order of the opposite side, and the best of the own one, of which it is clear
module _ (h best : Resting) where
  -- one behind the best at the price of the other: the best is at that price too, since nothing crosses
  at_the_best : (buy : Bool) (g : Resting) → clear (not buy) h.displayed h.price best ≡ true → Behind buy best g → g.price.0 ≡ h.price.0
      → best.price.0 ≡ h.price.0
  at_the_best true g c b e =
      let worse = ltb-false best.price.0 g.price.0 b.worse in
      ⊎_elim
      (λ (t : (h.displayed && best.displayed) ≡ true).
      let l = ltb-true best.price.0 h.price.0 (rw t at c) in omega (arith, worse, l, e))
      (λ (t : (h.displayed && best.displayed) ≡ false).
      let l = leb-true best.price.0 h.price.0 (rw t at c) in omega (arith, worse, l, e))
      (holds_or_not (h.displayed && best.displayed))
  at_the_best false g c b e =
      let worse = ltb-false g.price.0 best.price.0 b.worse in
      ⊎_elim
      (λ (t : (h.displayed && best.displayed) ≡ true).
      let l = ltb-true h.price.0 best.price.0 (rw t at c) in omega (arith, worse, l, e))
      (λ (t : (h.displayed && best.displayed) ≡ false).
      let l = leb-true h.price.0 best.price.0 (rw t at c) in omega (arith, worse, l, e))
      (holds_or_not (h.displayed && best.displayed))

  -- two displayed orders do not meet
  not_both : (buy : Bool) → clear (not buy) h.displayed h.price best ≡ true → best.displayed ≡ true → best.price.0 ≡ h.price.0
      → h.displayed ≡ false
  not_both buy c d e =
      ⊎_elim (λ (t : h.displayed ≡ true). absurd (strict buy (rw (t, d) at c))) (λ (t : h.displayed ≡ false). t) (holds_or_not h.displayed)
    where
      strict : (buy : Bool) → beyond (not buy) h.price best.price ≡ true → ⊥
      strict true s = let l = ltb-true best.price.0 h.price.0 s in omega (arith, l, e)
      strict false s = let l = ltb-true h.price.0 best.price.0 s in omega (arith, l, e)

  -- so a displayed order stands at its price exactly where the best one does
  only_the_best : (buy : Bool) {s : List Resting} → clear (not buy) h.displayed h.price best ≡ true → All (Behind buy best) s
      → is_displayed_at h.price best ≡ false → any (is_displayed_at h.price) s ≡ false
  unfolding any
  only_the_best buy c none e = refl
  only_the_best buy c (also {x = g} b a) e =
      ⊎_elim
      (λ (t : is_displayed_at h.price g ≡ true).
      let shown : g.displayed ≡ true = and_left g.displayed (eqb g.price.0 h.price.0) t in
      let same : g.price.0 ≡ h.price.0 = eqb-true g.price.0 h.price.0 (and_right g.displayed (eqb g.price.0 h.price.0) t) in
      let at : best.price.0 ≡ h.price.0 = at_the_best buy g c b same in
      let first : best.displayed ≡ true = b.shown_first (at ∙ sym same) shown in
      absurd (true≢false (rw (first, eq-eqb best.price.0 h.price.0 at) at e)))
      (λ (t : is_displayed_at h.price g ≡ false). rw t (only_the_best buy c a e))
      (holds_or_not (is_displayed_at h.price g))

told_one : (buy : Bool) (own : List Resting) (h : Resting) → in_rank_order buy own ≡ true → 1 ≤ h.price.0
    → Clear (not buy) h.displayed h.price own → ToldByPrice own h
unfolding any locked_price
told_one buy [] h ranked priced clears = and_none (not h.displayed) ∙ sym (ne_eqb h.price.0 0 (λ e. omega (arith, e, priced)))
told_one buy (best ∷ s) h ranked priced (also c more) =
    let behind = no_worse buy best s ranked in
    ⊎_elim
    (λ (d : best.displayed ≡ true).
    ⊎_elim
    (λ (t : eqb h.price.0 best.price.0 ≡ true).
    let e : h.price.0 ≡ best.price.0 = eqb-true h.price.0 best.price.0 t in
    let hidden = not_both h best buy c d (sym e) in
    rw (d, t, hidden, eq-eqb best.price.0 h.price.0 (sym e)))
    (λ (t : eqb h.price.0 best.price.0 ≡ false).
    let off : eqb best.price.0 h.price.0 ≡ false =
    ne_eqb best.price.0 h.price.0 (λ e. eqb-false h.price.0 best.price.0 t (sym e)) in
    ap (λ (b : Bool). not h.displayed && b) (only_the_best h best buy c behind (rw (d, off)))
    ∙ and_none (not h.displayed) ∙ sym (rw d t))
    (holds_or_not (eqb h.price.0 best.price.0)))
    (λ (d : best.displayed ≡ false).
    ap (λ (b : Bool). not h.displayed && b) (only_the_best h best buy c behind (rw d))
    ∙ and_none (not h.displayed) ∙ sym (rw d (ne_eqb h.price.0 0 (λ e. omega (arith, e, priced)))))
    (holds_or_not best.displayed)

pub told_by_price : (buy : Bool) (own opposite : List Resting) → in_rank_order buy own ≡ true → Apart buy own opposite
    → All (λ (h : Resting). 1 ≤ h.price.0) opposite → All (ToldByPrice own) opposite
told_by_price buy own opposite ranked apart priced = each (apart_flip buy own opposite apart) priced
  where
    each : {s : List Resting} → Apart (not buy) s own → All (λ (h : Resting). 1 ≤ h.price.0) s → All (ToldByPrice own) s
    each none none = none
    each (also {x = h} c a) (also p b) = also (told_one buy own h ranked p c) (each a b)

-- ── A price that an opposite order is reached from ──

-- best is not beyond the price: who is displayed at it is at the price of the best, which is displayed too
module _ (price : HalfCents) (best : Resting) where
  best_there : (buy : Bool) (g : Resting) → beyond buy price best.price ≡ false → Behind buy best g → g.price.0 ≡ price.0
      → best.price.0 ≡ price.0
  best_there true g c b e =
      let worse = ltb-false best.price.0 g.price.0 b.worse in
      let short = ltb-false price.0 best.price.0 c in
      omega (arith, worse, short, e)
  best_there false g c b e =
      let worse = ltb-false g.price.0 best.price.0 b.worse in
      let short = ltb-false best.price.0 price.0 c in
      omega (arith, worse, short, e)

  displayed_best : (buy : Bool) {s : List Resting} → beyond buy price best.price ≡ false → All (Behind buy best) s
      → is_displayed_at price best ≡ false → any (is_displayed_at price) s ≡ false
  unfolding any
  displayed_best buy c none e = refl
  displayed_best buy c (also {x = g} b a) e =
      ⊎_elim
      (λ (t : is_displayed_at price g ≡ true).
      let shown : g.displayed ≡ true = and_left g.displayed (eqb g.price.0 price.0) t in
      let same : g.price.0 ≡ price.0 = eqb-true g.price.0 price.0 (and_right g.displayed (eqb g.price.0 price.0) t) in
      let at : best.price.0 ≡ price.0 = best_there buy g c b same in
      let first : best.displayed ≡ true = b.shown_first (at ∙ sym same) shown in
      absurd (true≢false (rw (first, eq-eqb best.price.0 price.0 at) at e)))
      (λ (t : is_displayed_at price g ≡ false). rw t (displayed_best buy c a e))
      (holds_or_not (is_displayed_at price g))

lock_told_lem : (buy : Bool) (price : HalfCents) (own : List Resting) (h : Resting) → in_rank_order buy own ≡ true → 1 ≤ price.0
    → Clear (not buy) h.displayed h.price own → reaches buy price h.price ≡ true
    → any (is_displayed_at price) own ≡ eqb price.0 (locked_price own).0
unfolding any locked_price
lock_told_lem buy price [] h ranked priced clears r = sym (ne_eqb price.0 0 (λ e. omega (arith, e, priced)))
lock_told_lem buy price (best ∷ s) h ranked priced (also c more) r =
    let short = not_beyond buy r c in
    let behind = no_worse buy best s ranked in
    ⊎_elim
    (λ (t : is_displayed_at price best ≡ true).
    let shown : best.displayed ≡ true = and_left best.displayed (eqb best.price.0 price.0) t in
    let same : best.price.0 ≡ price.0 = eqb-true best.price.0 price.0 (and_right best.displayed (eqb best.price.0 price.0) t) in
    rw (t, shown) (sym (eq-eqb price.0 best.price.0 (sym same))))
    (λ (t : is_displayed_at price best ≡ false).
    displayed_best price best buy short behind t ∙ sym (other t))
    (holds_or_not (is_displayed_at price best))
  where
    not_beyond : (buy : Bool) → reaches buy price h.price ≡ true → clear (not buy) h.displayed h.price best ≡ true
        → beyond buy price best.price ≡ false
    not_beyond true q c =
        ⊎_elim
        (λ (t : (h.displayed && best.displayed) ≡ true).
        let l = ltb-true best.price.0 h.price.0 (rw t at c) in
        le-ltb price.0 best.price.0 (omega (arith, l, leb-true h.price.0 price.0 q)))
        (λ (t : (h.displayed && best.displayed) ≡ false).
        let l = leb-true best.price.0 h.price.0 (rw t at c) in
        le-ltb price.0 best.price.0 (omega (arith, l, leb-true h.price.0 price.0 q)))
        (holds_or_not (h.displayed && best.displayed))
    not_beyond false q c =
        ⊎_elim
        (λ (t : (h.displayed && best.displayed) ≡ true).
        let l = ltb-true h.price.0 best.price.0 (rw t at c) in
        le-ltb best.price.0 price.0 (omega (arith, l, leb-true price.0 h.price.0 q)))
        (λ (t : (h.displayed && best.displayed) ≡ false).
        let l = leb-true h.price.0 best.price.0 (rw t at c) in
        le-ltb best.price.0 price.0 (omega (arith, l, leb-true price.0 h.price.0 q)))
        (holds_or_not (h.displayed && best.displayed))

    other : is_displayed_at price best ≡ false → eqb price.0 (if best.displayed then best.price else half_cents 0).0 ≡ false
    other t =
        ⊎_elim
        (λ (d : best.displayed ≡ true).
        let off : eqb best.price.0 price.0 ≡ false = rw d at t in
        rw d (ne_eqb price.0 best.price.0 (λ e. eqb-false best.price.0 price.0 off (sym e))))
        (λ (d : best.displayed ≡ false). rw d (ne_eqb price.0 0 (λ e. omega (arith, e, priced))))
        (holds_or_not best.displayed)

pub lock_told_all : (buy : Bool) (own opposite : List Resting) → in_rank_order buy own ≡ true → Apart buy own opposite → (price : HalfCents)
    → 1 ≤ price.0 → All (λ (h : Resting). reaches buy price h.price ≡ true
    → any (is_displayed_at price) own ≡ eqb price.0 (locked_price own).0) opposite
lock_told_all buy own opposite ranked apart price priced =
    all_alike (λ h c. lock_told_lem buy price own h ranked priced c) (apart_flip buy own opposite apart)
