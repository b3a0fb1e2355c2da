-- What each order of a side gave by a walk, as the lines of the incoming order tell it: so whose shown part is used up, what is left of each,
-- who is refilled to how much, and which lines tell it (02, W4). Assumes nothing.
use Prim.Native.Nat.{ℕ, ◌+◌, ◌-◌, ◌≤◌, ◌<◌, min}
use mathlib.Core.Bool.{Bool, true, false}
use mathlib.Core.List.{List, [], ◌∷◌, ◌++◌}
use mathlib.Core.Logic.{◌≢◌, ⊎_elim}
use mathlib.Core.Path.{◌≡◌, refl, sym, ap, subst, ◌∙◌}
use lib.Dec.{eqb}
use native.Mathlib.Omega.{arith}
use borrow.Author.Tests.{eq-eqb, ne_eqb, eqb-true, eqb-false}
use Rattle.basics.specs.Lists.{sum_of, gathered, All, none, also}
use Rattle.basics.proofs.LawsChoice.{holds_or_not, lt_or_le}
use Rattle.basics.proofs.LawsLists.{one_of_all, sum_of_append}
use Rattle.kinds.specs.declared.HalfCents.{HalfCents}
use Rattle.kinds.specs.declared.Number.{Number}
use Rattle.kinds.specs.Kinds.{shares}
use Rattle.rules.specs.declared.Event.{Event}
use Rattle.rules.specs.declared.Event.TheVariants.{Moved}
use Rattle.rules.specs.declared.Order.{Order}
use Rattle.rules.specs.declared.Resting.{Resting}
use Rattle.rules.specs.Book.{stamp, shares_left, floor_in_range}
use Rattle.rules.specs.Holdings.{Holding, holdings, executions, taken_of, reduced_by, keeping, after}
use Rattle.rules.specs.Settling.{stamped_as, refilled, told}
use Rattle.rules.specs.Working.{Met, execution_price, takings, remainder, ending, last_line, refill_fate}
use Rattle.rules.proofs.LawsFloors.{shown_at_most, least_alone}
use Rattle.rules.proofs.LawsHoldings.{Parts, parts_alike, holdings_shown, holdings_reserves, taken_from_holdings, taken_from, taken_split}
use Rattle.rules.proofs.LawsWalkOrder.{parts_there, parts_both, NotBoth, Gives, takings_give}
use Rattle.soundness.proofs.LawsSides.{InRange}
use Rattle.demands.specs.Refilled.{gave, Due, refilled_to, Keeps, IsRefilled, RefillLines, empty, of_none, of_due}
use Rattle.demands.specs.Told.{given_by, given_in}
use Rattle.demands.proofs.LawsExecutes.{work_lines}
use Rattle.demands.proofs.LawsHeld.{counted_none, counted_as_lem}
use Rattle.demands.proofs.LawsLinesTell.{once_each, once_first, once_rest, last_gives_none, refills_give_none}

-- ── What each order gave, as the lines tell it ──

-- a number's executions tell what is taken of the holdings under it
given_taken : (n m : Number) (price : Resting → HalfCents) (hs : List Holding) (ts : List ℕ)
    → given_in n (executions m price hs ts) ≡ taken_from_holdings n.0 hs ts
unfolding executions taken_from_holdings sum_of
given_taken n m price [] ts = refl
given_taken n m price (h ∷ hs) [] = refl
given_taken n m price (h ∷ hs) (t ∷ ts) =
    let same = counted_as_lem n h.of t in
    ⊎_elim
    (λ (z : eqb t 0 ≡ true). rw z (omega (arith, given_taken n m price hs ts, same, counted_none n h.of.number t (eqb-true t 0 z))))
    (λ (z : eqb t 0 ≡ false). rw z (omega (arith, given_taken n m price hs ts, same)))
    (holds_or_not (eqb t 0))

-- nothing is taken of a number that no order has; of one that stands once, what is taken of its order
none_taken : (n : ℕ) {s : List Resting} → All (λ (h : Resting). n ≢ h.number.0) s → (ts : List ℕ) → taken_from n s ts ≡ 0
unfolding taken_from
none_taken n none ts = refl
none_taken n (also d a) [] = refl
none_taken n (also {x = h} d a) (t ∷ ts) =
    rw (ne_eqb h.number.0 n (λ (e : h.number.0 ≡ n). d (sym e))) (omega (arith, none_taken n a ts))

abbrev TakenAs : List Resting → List ℕ → List ℕ → Resting → ℕ → ℕ → Type 0
TakenAs s ts rs h t r = taken_from h.number.0 s ts + taken_from h.number.0 s rs ≡ t + r

once_taken : {Claim : Resting → ℕ → ℕ → Type 0} {s : List Resting} {ts rs : List ℕ} → once_each s ≡ true → Parts Claim s ts rs
    → Parts (TakenAs s ts rs) s ts rs
unfolding taken_from
once_taken d Parts.none = Parts.none
once_taken d (Parts.also {o = o} {t = t} {r = r} {s = s} {ts = ts} {rs = rs} c a) =
    let others = once_first o s d in
    let itself = eq-eqb o.number.0 o.number.0 refl in
    let own : TakenAs (o ∷ s) (t ∷ ts) (r ∷ rs) o t r =
    rw itself (omega (arith, none_taken o.number.0 others ts, none_taken o.number.0 others rs)) in
    Parts.also own
    (parts_alike
    (λ h j k p. rw (ne_eqb o.number.0 h.number.0 (one_of_all others p.0)) (omega (arith, p.1))) (parts_there (once_taken (once_rest o s d) a)))

-- what is taken of an order, and what the lines tell of it
pub record Took (es : List Event) (h : Resting) (t r : ℕ) : Type 0 where
  pub gives : Gives h t r
  pub told : gave es h ≡ t + r
  pub floored : floor_in_range h ≡ true
  pub alone : NotBoth h

-- ── One order ──

-- where there is reserve, there is a Max Floor
floor_there : (h : Resting) → floor_in_range h ≡ true → 0 < h.reserve.0 → eqb h.floor.0 0 ≡ false
floor_there h f l =
    ⊎_elim
    (λ (t : eqb h.floor.0 0 ≡ true). let z : ⊥ = omega (arith, l, eqb-true h.reserve.0 0 (rw t at f)) in absurd z)
    (λ (t : eqb h.floor.0 0 ≡ false). t)
    (holds_or_not (eqb h.floor.0 0))

module _ {es : List Event} (h : Resting) (t r : ℕ) (took : Took es h t r) where
  -- what is left of it, with what it gave, is what it held
  pub left_is_lem : shares_left (reduced_by t r h) + gave es h ≡ shares_left h
  left_is_lem = omega (arith, took.told, took.gives.shown, took.gives.reserve)

  -- its shown part is used up exactly if it gave as much
  pub shown_left : gave es h < h.shares.0 → (t < h.shares.0) × (r ≡ 0)
  shown_left l =
      let less : t < h.shares.0 = omega (arith, l, took.told) in
      (less, took.gives.shown_first took.alone less)

  pub shown_used : h.shares.0 ≤ gave es h → t ≡ h.shares.0
  shown_used l =
      ⊎_elim
      (λ (k : t < h.shares.0). let z : ⊥ = omega (arith, l, k, took.told, took.gives.shown_first took.alone k) in absurd z)
      (λ (k : h.shares.0 ≤ t). omega (arith, k, took.gives.shown))
      (lt_or_le t h.shares.0)

  -- so it keeps its stamp and its reserve, or it is due
  pub is_kept : gave es h < h.shares.0 → Keeps es h (reduced_by t r h)
  is_kept l =
      let part = shown_left l in
      let reserve : h.reserve.0 - r ≡ h.reserve.0 = omega (arith, part.1) in
      record {
        same = record { number = refl; price = refl; displayed = refl; back = refl; floor = refl; minimum = refl };
        stamp = refl;
        shown = omega (arith, part, took.told);
        reserve = ap shares reserve;
      }

  pub stays_shown : (reduced_by t r h).shares.0 ≢ 0 → gave es h < h.shares.0
  stays_shown some =
      let less : t < h.shares.0 = omega (arith, some) in
      omega (arith, less, took.told, took.gives.shown_first took.alone less)

  pub is_due_lem : shares_left (reduced_by t r h) ≢ 0 → (reduced_by t r h).shares.0 ≡ 0 → Due es h
  is_due_lem some used = record { used_up = omega (arith, used, took.told); is_left = omega (arith, some, left_is_lem) }

  -- .. and is refilled
  shown_again : Due es h → (refilled (reduced_by t r h)).shares.0 ≡ refilled_to es h
  shown_again due =
      let reserve : 0 < h.reserve.0 = omega (arith, due.used_up, due.is_left) in
      let left : shares_left (reduced_by t r h) ≡ shares_left h - gave es h = omega (arith, left_is_lem) in
      rw (floor_there h took.floored reserve) (ap (min h.floor.0) left)

  pub is_refilled : (n : Number) (k : ℕ) → Due es h → IsRefilled n es h (stamped_as (stamp n k) (refilled (reduced_by t r h)))
  is_refilled n k due =
      let x = reduced_by t r h in
      let whole : shares_left x ≡ shares_left (refilled x) = omega (arith, shown_at_most h.floor.0 (shares_left x)) in
      record {
        same = record {
          number = refl;
          price = refl;
          displayed = refl;
          back = refl;
          floor = refl;
          minimum = ap (min h.minimum.0) whole;
        };
        stamp = refl;
        shown = shown_again due;
        in_all = omega (arith, left_is_lem, whole);
      }

-- ── The lines of the refills ──

refill_lines : {es : List Event} {s : List Resting} {ts rs : List ℕ} → Parts (Took es) s ts rs → RefillLines es s (told refill_fate (keeping s ts rs))
unfolding told gathered keeping
refill_lines Parts.none = empty
refill_lines {es = es} (Parts.also {o = h} {t = t} {r = r} {s = s} {ts = ts} {rs = rs} took a) =
    let x = reduced_by t r h in
    ⊎_elim
    (λ (z : eqb (shares_left x) 0 ≡ true).
    let gone = eqb-true (shares_left x) 0 z in
    rw z (of_none (λ (due : Due es h). omega (arith, gone, left_is_lem h t r took, due.is_left)) (refill_lines a)))
    (λ (z : eqb (shares_left x) 0 ≡ false).
    rw z
    (⊎_elim
    (λ (u : eqb x.shares.0 0 ≡ true).
    let due = is_due_lem h t r took (eqb-false (shares_left x) 0 z) (eqb-true x.shares.0 0 u) in
    rw u
    (subst (λ (k : ℕ). RefillLines es (h ∷ s) (Moved h.number h.price (shares k) ∷ told refill_fate (keeping s ts rs)))
    (sym (shown_again h t r took due)) (of_due due (refill_lines a))))
    (λ (u : eqb x.shares.0 0 ≡ false).
    let some = stays_shown h t r took (eqb-false x.shares.0 0 u) in
    rw u (of_none (λ (due : Due es h). omega (arith, some, due.used_up)) (refill_lines a)))
    (holds_or_not (eqb x.shares.0 0))))
    (holds_or_not (eqb (shares_left x) 0))

-- ── The lines of an order ──

-- what is taken of the holdings under a number is what is taken of both parts of its orders
parts_taken : (n : ℕ) (s : List Resting) (ts : List ℕ)
    → taken_from_holdings n (holdings s) ts ≡ taken_from n s (taken_of false (holdings s) ts) + taken_from n s (taken_of true (holdings s) ts)
parts_taken n s ts = rw (holdings_shown s, holdings_reserves s) at (taken_split n (holdings s) ts)

module _ (m : Number) (o : Order) (met : Met) {last : Number} (once : once_each met.opposite ≡ true)
    (in_range : All (InRange last) met.opposite) where
  abbrev s : List Resting
  s = met.opposite

  abbrev of_parts : Bool → List ℕ
  of_parts reserves = taken_of reserves (holdings s) (takings o met)

  -- its lines tell what each order of the side gave
  lines_give : (n : Number) → given_in n (work_lines m o met) ≡ taken_from n.0 s (of_parts false) + taken_from n.0 s (of_parts true)
  lines_give n =
      let es = executions m (execution_price o met) (holdings s) (takings o met) in
      let end = last_line m (remainder o met) (ending o met) in
      let refills = told refill_fate (after s (takings o met)) in
      omega (
        arith,
        sum_of_append (given_by n) es (end ++ refills),
        sum_of_append (given_by n) end refills,
        last_gives_none n m (remainder o met) (ending o met),
        refills_give_none n (after s (takings o met)),
        given_taken n m (execution_price o met) (holdings s) (takings o met),
        parts_taken n.0 s (takings o met),
      )

  pub lines_took : Parts (Took (work_lines m o met)) s (of_parts false) (of_parts true)
  lines_took =
      let gives = takings_give o met in
      parts_alike
      (λ h t r p.
      let range = one_of_all in_range p.0 in
      record {
        gives = p.1.0;
        told = lines_give h.number ∙ p.1.1;
        floored = range.floored;
        alone = least_alone h range.least range.floored;
      })
      (parts_there (parts_both gives (once_taken once gives)))

  -- so they tell who is refilled
  pub refills_told : RefillLines (work_lines m o met) s (told refill_fate (after s (takings o met)))
  unfolding after
  refills_told = refill_lines lines_took
