-- A walk takes the holdings in turn: none gives a share while one in front of it keeps one, but for those that it skips (02, W7). So a
-- reserve gives only where the shown part of its order gave all (02, W4). Assumes nothing.
use Prim.Native.Nat.{ℕ, ◌-◌, ◌≤◌, ◌<◌, min}
use mathlib.Core.Bool.{Bool, true, false, not, ◌&&◌}
use mathlib.Core.List.{List, [], ◌∷◌}
use mathlib.Core.Logic.{◌⊎◌, inl, inr, ⊎_elim}
use mathlib.Core.Path.{◌≡◌, refl, ap}
use lib.Dec.{eqb}
use native.Mathlib.Omega.{arith}
use borrow.Author.Tests.{not-true, ltb-true}
use Rattle.basics.specs.Lists.{All, none, also}
use Rattle.basics.proofs.LawsChoice.{holds_or_not, lt_or_le, and_right}
use Rattle.rules.specs.declared.Order.{Order}
use Rattle.rules.specs.declared.Resting.{Resting}
use Rattle.rules.specs.Holdings.{Holding, reserve_part, size, behind_its_price, holdings, nothing, walk, is_skipped, smaller, taken_of}
use Rattle.rules.specs.Working.{may_touch, takings, Met, execution_price}
use Rattle.rules.proofs.LawsHoldings.{Parts}
use Rattle.rules.proofs.LawsTakings.{smaller_at_most, takings_are}

-- ── A walk ──

abbrev Idle : List ℕ → Type 0
Idle ts = All (λ (t : ℕ). t ≡ 0) ts

first_idle : {t : ℕ} {ts : List ℕ} → Idle (t ∷ ts) → t ≡ 0
first_idle (also z a) = z

rest_idle : {t : ℕ} {ts : List ℕ} → Idle (t ∷ ts) → Idle ts
rest_idle (also z a) = a

-- a holding of an order with a minimum that gives nothing
abbrev pub Skipped : Holding → ℕ → Type 0
Skipped h t = (0 < h.of.minimum.0) × (t ≡ 0)

-- each gives all that it holds, or none behind it gives any, or it is skipped
pub data InTurn : List Holding → List ℕ → Type 0 where
  end : InTurn [] []
  next : {h : Holding} {t : ℕ} {s : List Holding} {ts : List ℕ} → (t ≡ size h) ⊎ (Idle ts ⊎ Skipped h t) → InTurn s ts → InTurn (h ∷ s) (t ∷ ts)

nothing_idle : {H : Type 0} (s : List H) → Idle (nothing s)
unfolding nothing
nothing_idle [] = none
nothing_idle (h ∷ s) = also refl (nothing_idle s)

pub nothing_in_turn : (s : List Holding) → InTurn s (nothing s)
unfolding nothing
nothing_in_turn [] = end
nothing_in_turn (h ∷ s) = next (inr (inl (nothing_idle s))) (nothing_in_turn s)

module _ (may : Holding → Bool) where
  sated_idle : (left : ℕ) (s : List Holding) → left ≡ 0 → Idle (walk may smaller left s)
  unfolding walk
  sated_idle left [] z = none
  sated_idle left (h ∷ s) z =
      ⊎_elim
      (λ (t : may h ≡ true).
      let given : smaller left h ≡ 0 = omega (arith, smaller_at_most left h, z) in
      rw t (also given (sated_idle (left - smaller left h) s (omega (arith, z)))))
      (λ (t : may h ≡ false). rw t (nothing_idle (h ∷ s)))
      (holds_or_not (may h))

  pub walk_in_turn : (left : ℕ) (s : List Holding) → InTurn s (walk may smaller left s)
  unfolding walk
  walk_in_turn left [] = end
  walk_in_turn left (h ∷ s) =
      ⊎_elim
      (λ (t : may h ≡ true).
      let others = left - smaller left h in
      let turn : (smaller left h ≡ size h) ⊎ (Idle (walk may smaller others s) ⊎ Skipped h (smaller left h)) =
      ⊎_elim
      (λ (k : is_skipped left h ≡ true).
      let short : left < min h.of.minimum.0 (size h) = ltb-true left (min h.of.minimum.0 (size h)) k in
      let least : 0 < h.of.minimum.0 = omega (arith, short) in
      inr (inr (least, rw k refl)))
      (λ (k : is_skipped left h ≡ false).
      let gives : smaller left h ≡ min left (size h) = rw k refl in
      ⊎_elim
      (λ (l : left < size h). inr (inl (sated_idle others s (omega (arith, gives, l)))))
      (λ (l : size h ≤ left). let all : smaller left h ≡ size h = omega (arith, gives, l) in inl all)
      (lt_or_le left (size h)))
      (holds_or_not (is_skipped left h)) in
      rw t (next turn (walk_in_turn others s)))
      (λ (t : may h ≡ false). rw t (nothing_in_turn (h ∷ s)))
      (holds_or_not (may h))

-- ── Both parts of an order ──

-- the reserve of an order somewhere behind holdings that are no reserves
data Behind (o : Resting) : List Holding → List Holding → Type 0 where
  here : {s : List Holding} → Behind o s (reserve_part o ∷ s)
  later : {h : Holding} {s r : List Holding} → h.is_reserve ≡ false → Behind o s r → Behind o (h ∷ s) (h ∷ r)

behind_its_price_lem : (o : Resting) (s : List Holding) → Behind o s (behind_its_price (reserve_part o) s)
unfolding behind_its_price
behind_its_price_lem o [] = here
behind_its_price_lem o (h ∷ s) =
    ⊎_elim
    (λ (t : (eqb h.of.price.0 o.price.0 && not h.is_reserve) ≡ true).
    rw t (later (not-true h.is_reserve (and_right (eqb h.of.price.0 o.price.0) (not h.is_reserve) t)) (behind_its_price_lem o s)))
    (λ (t : (eqb h.of.price.0 o.price.0 && not h.is_reserve) ≡ false). rw t here)
    (holds_or_not (eqb h.of.price.0 o.price.0 && not h.is_reserve))

-- what that reserve gives, taken out from among what the others give: they still give in turn
record TakenOut (s r : List Holding) (ts : List ℕ) : Type 0 where
  given : ℕ
  others : List ℕ
  turn : InTurn s others
  of_shown : taken_of false r ts ≡ taken_of false s others
  of_reserves : taken_of true r ts ≡ given ∷ taken_of true s others
  given_idle : Idle ts → given ≡ 0
  others_idle : Idle ts → Idle others

taken_out : {o : Resting} {s r : List Holding} {ts : List ℕ} → Behind o s r → InTurn r ts → TakenOut s r ts
unfolding taken_of
taken_out here (next {t = t} {ts = ts} c w) = record {
  given = t;
  others = ts;
  turn = w;
  of_shown = refl;
  of_reserves = refl;
  given_idle = λ i. first_idle i;
  others_idle = λ i. rest_idle i;
}
taken_out (later {h = h} shown b) (next {t = t} {ts = ts} c w) =
    let out = taken_out b w in
    record {
      given = out.given;
      others = t ∷ out.others;
      turn = next (⊎_elim (λ e. inl e) (λ d. inr (⊎_elim (λ i. inl (out.others_idle i)) (λ k. inr k) d)) c) out.turn;
      of_shown = rw shown (ap (λ (l : List ℕ). t ∷ l) out.of_shown);
      of_reserves = rw shown out.of_reserves;
      given_idle = λ i. out.given_idle (rest_idle i);
      others_idle = λ i. also (first_idle i) (out.others_idle (rest_idle i));
    }

-- a reserve gives only where its shown part gave all, or was skipped
pub in_turn_parts : (s : List Resting) {ts : List ℕ} → InTurn (holdings s) ts
    → Parts (λ (o : Resting) (t r : ℕ). (t ≡ o.shares.0) ⊎ ((r ≡ 0) ⊎ (0 < o.minimum.0))) s
    (taken_of false (holdings s) ts) (taken_of true (holdings s) ts)
unfolding holdings taken_of
in_turn_parts [] end = Parts.none
in_turn_parts (o ∷ s) (next c w) =
    let out = taken_out (behind_its_price_lem o (holdings s)) w in
    rw (out.of_shown, out.of_reserves)
    (Parts.also (⊎_elim (λ e. inl e) (λ d. inr (⊎_elim (λ i. inl (out.given_idle i)) (λ k. inr k.0) d)) c) (in_turn_parts s out.turn))

pub takings_in_turn : (o : Order) (m : Met) → InTurn (holdings m.opposite) (takings o m)
takings_in_turn o m =
    takings_are (InTurn (holdings m.opposite)) o m (nothing_in_turn (holdings m.opposite))
    (walk_in_turn (λ (h : Holding). may_touch o m.away (execution_price o m h.of)) o.shares.0 (holdings m.opposite))
