-- Laws of holdings (02, W4): the shown parts and the reserves of a side's holdings are its orders again, one by one, so what holds of
-- each holding and what it gives holds of both parts of each order; and what a walk takes of the holdings, with what the orders keep, is
-- what they held. No rank and no soundness is needed. Assumes nothing.
use Prim.Native.Nat.{ℕ, suc, ◌+◌, ◌≤◌}
use mathlib.Core.Bool.{Bool, true, false, not, ◌&&◌, beq}
use mathlib.Core.List.{List, [], ◌∷◌}
use mathlib.Core.Logic.{◌≢◌, ⊎_elim}
use mathlib.Core.Path.{◌≡◌, refl, ap, subst, ◌∙◌}
use lib.Dec.{eqb}
use lib.ListN.{length}
use native.Mathlib.Omega.{arith}
use borrow.Author.Tests.{eqb-true, eqb-false}
use Rattle.std.specs.Prelude.{if◌then◌else◌}
use Rattle.basics.specs.Lists.{total, sum_of, All, Each, empty, with}
use Rattle.basics.proofs.LawsChoice.{holds_or_not, and_none}
use Rattle.rules.specs.declared.Resting.{Resting}
use Rattle.rules.specs.Book.{shares_left}
use Rattle.rules.specs.Holdings.{Holding, shown_part, reserve_part, behind_its_price, holdings, orders_of, taken_of, reduced_by, keeping, after}

-- ── The parts are the orders ──

behind_shown : (o : Resting) (hs : List Holding) → orders_of false (behind_its_price (reserve_part o) hs) ≡ orders_of false hs
unfolding behind_its_price orders_of
behind_shown o [] = refl
behind_shown o (h ∷ s) =
    ⊎_elim
    (λ (t : (eqb h.of.price.0 o.price.0 && not h.is_reserve) ≡ true).
    ⊎_elim
    (λ (r : h.is_reserve ≡ true). rw t (rw r (behind_shown o s)))
    (λ (r : h.is_reserve ≡ false). rw t (rw r (ap (λ (l : List Resting). h.of ∷ l) (behind_shown o s))))
    (holds_or_not h.is_reserve))
    (λ (t : (eqb h.of.price.0 o.price.0 && not h.is_reserve) ≡ false). rw t refl)
    (holds_or_not (eqb h.of.price.0 o.price.0 && not h.is_reserve))

behind_reserve : (o : Resting) (hs : List Holding) → orders_of true (behind_its_price (reserve_part o) hs) ≡ o ∷ orders_of true hs
unfolding behind_its_price orders_of
behind_reserve o [] = refl
behind_reserve o (h ∷ s) =
    ⊎_elim
    (λ (r : h.is_reserve ≡ true). rw (r, and_none (eqb h.of.price.0 o.price.0)) refl)
    (λ (r : h.is_reserve ≡ false).
    ⊎_elim
    (λ (t : (eqb h.of.price.0 o.price.0 && not h.is_reserve) ≡ true). rw t (rw r (behind_reserve o s)))
    (λ (t : (eqb h.of.price.0 o.price.0 && not h.is_reserve) ≡ false). rw t (rw r refl))
    (holds_or_not (eqb h.of.price.0 o.price.0 && not h.is_reserve)))
    (holds_or_not h.is_reserve)

pub holdings_shown : (s : List Resting) → orders_of false (holdings s) ≡ s
unfolding holdings orders_of
holdings_shown [] = refl
holdings_shown (o ∷ s) = ap (λ (l : List Resting). o ∷ l) (behind_shown o (holdings s) ∙ holdings_shown s)

pub holdings_reserves : (s : List Resting) → orders_of true (holdings s) ≡ s
unfolding holdings orders_of
holdings_reserves [] = refl
holdings_reserves (o ∷ s) = behind_reserve o (holdings s) ∙ ap (λ (l : List Resting). o ∷ l) (holdings_reserves s)

-- ── What each holding gives, and each order ──

-- a claim on each order, what its shown part gives and what its reserve gives
pub data Parts (Claim : Resting → ℕ → ℕ → Type 0) : List Resting → List ℕ → List ℕ → Type 0 where
  none : Parts Claim [] [] []
  also : {o : Resting} {t r : ℕ} {s : List Resting} {ts rs : List ℕ} → Claim o t r → Parts Claim s ts rs → Parts Claim (o ∷ s) (t ∷ ts) (r ∷ rs)

pub parts_alike : {P Q : Resting → ℕ → ℕ → Type 0} → ((o : Resting) (t r : ℕ) → P o t r → Q o t r) → {s : List Resting} {ts rs : List ℕ}
    → Parts P s ts rs → Parts Q s ts rs
parts_alike f none = none
parts_alike f (also {o = o} {t = t} {r = r} c w) = also (f o t r c) (parts_alike f w)

pub parts_length : {Claim : Resting → ℕ → ℕ → Type 0} {s : List Resting} {ts rs : List ℕ} → Parts Claim s ts rs
    → (length ts ≡ length s) × (length rs ≡ length s)
parts_length none = (refl, refl)
parts_length (also c w) = let l = parts_length w in (ap suc l.0, ap suc l.1)

-- of the shown parts, or of the reserves
module _ (Claim : Holding → ℕ → Type 0) where
  abbrev OfPart : Bool → Resting → ℕ → Type 0
  OfPart reserves o t = Claim (record { of = o; is_reserve = reserves }) t

  each_of : (reserves : Bool) {hs : List Holding} {ts : List ℕ} → Each Claim hs ts → Each (OfPart reserves) (orders_of reserves hs) (taken_of reserves hs ts)
  unfolding orders_of taken_of
  each_of reserves empty = empty
  each_of reserves (with {x = h} {y = t} c e) = by_part h.is_reserve reserves h.of t c (each_of reserves e)
    where
      by_part : (part reserves : Bool) (o : Resting) (t : ℕ) → OfPart part o t → {s : List Resting} {ts : List ℕ} → Each (OfPart reserves) s ts
          → Each (OfPart reserves) (if beq part reserves then o ∷ s else s) (if beq part reserves then t ∷ ts else ts)
      by_part true true o t c e = with c e
      by_part true false o t c e = e
      by_part false true o t c e = e
      by_part false false o t c e = with c e

  abbrev pub OfBoth : Resting → ℕ → ℕ → Type 0
  OfBoth o t r = Claim (shown_part o) t × Claim (reserve_part o) r

  paired : {s : List Resting} {ts rs : List ℕ} → Each (OfPart false) s ts → Each (OfPart true) s rs → Parts OfBoth s ts rs
  paired empty empty = none
  paired (with c e) (with d f) = also (c, d) (paired e f)

-- what holds of each holding and what it gives holds of both parts of each order
pub each_parts : {Claim : Holding → ℕ → Type 0} (s : List Resting) (ts : List ℕ) → Each Claim (holdings s) ts
    → Parts (OfBoth Claim) s (taken_of false (holdings s) ts) (taken_of true (holdings s) ts)
each_parts {Claim = Claim} s ts e =
    paired Claim
    (subst (λ (l : List Resting). Each (OfPart Claim false) l (taken_of false (holdings s) ts)) (holdings_shown s) (each_of Claim false e))
    (subst (λ (l : List Resting). Each (OfPart Claim true) l (taken_of true (holdings s) ts)) (holdings_reserves s) (each_of Claim true e))

-- what holds of each order that keeps a share holds of those that are left
pub keeping_all : {P : Resting → Type 0} {s : List Resting} {ts rs : List ℕ}
    → Parts (λ (o : Resting) (t r : ℕ). shares_left (reduced_by t r o) ≢ 0 → P (reduced_by t r o)) s ts rs → All P (keeping s ts rs)
unfolding keeping
keeping_all none = All.none
keeping_all (also {o = o} {t = t} {r = r} c w) =
    ⊎_elim
    (λ (z : eqb (shares_left (reduced_by t r o)) 0 ≡ true). rw z (keeping_all w))
    (λ (z : eqb (shares_left (reduced_by t r o)) 0 ≡ false). rw z (All.also (c (eqb-false (shares_left (reduced_by t r o)) 0 z)) (keeping_all w)))
    (holds_or_not (eqb (shares_left (reduced_by t r o)) 0))

-- ── Sums ──

-- k where the order has number n, else nothing
abbrev pub counted_as : ℕ → Resting → ℕ → ℕ
counted_as n o k = if eqb o.number.0 n then k else 0

-- the shares of number n that are taken from holdings, or from orders; and those that orders hold
unfoldable pub taken_from_holdings : ℕ → List Holding → List ℕ → ℕ
taken_from_holdings n [] ts = 0
taken_from_holdings n (h ∷ s) [] = 0
taken_from_holdings n (h ∷ s) (t ∷ ts) = counted_as n h.of t + taken_from_holdings n s ts

unfoldable pub taken_from : ℕ → List Resting → List ℕ → ℕ
taken_from n [] ts = 0
taken_from n (o ∷ s) [] = 0
taken_from n (o ∷ s) (t ∷ ts) = counted_as n o t + taken_from n s ts

abbrev pub held_as : ℕ → List Resting → ℕ
held_as n s = sum_of (λ (o : Resting). counted_as n o (shares_left o)) s

-- what is taken of the holdings is what is taken of their shown parts and of their reserves
pub taken_split : (n : ℕ) (hs : List Holding) (ts : List ℕ)
    → taken_from_holdings n hs ts ≡ taken_from n (orders_of false hs) (taken_of false hs ts) + taken_from n (orders_of true hs) (taken_of true hs ts)
unfolding taken_from_holdings taken_from taken_of orders_of
taken_split n [] ts = omega arith
taken_split n (h ∷ s) [] =
    ⊎_elim
    (λ (r : h.is_reserve ≡ true). rw r (omega (arith, from_none n (orders_of false s))))
    (λ (r : h.is_reserve ≡ false). rw r (omega (arith, from_none n (orders_of true s))))
    (holds_or_not h.is_reserve)
  where
    from_none : (n : ℕ) (s : List Resting) → taken_from n s [] ≡ 0
    from_none n [] = refl
    from_none n (o ∷ s) = refl
taken_split n (h ∷ s) (t ∷ ts) =
    ⊎_elim
    (λ (r : h.is_reserve ≡ true). rw r (omega (arith, taken_split n s ts)))
    (λ (r : h.is_reserve ≡ false). rw r (omega (arith, taken_split n s ts)))
    (holds_or_not h.is_reserve)

pub taken_total : {Claim : Holding → ℕ → Type 0} {hs : List Holding} {ts : List ℕ} → Each Claim hs ts
    → total ts ≡ total (taken_of false hs ts) + total (taken_of true hs ts)
unfolding total taken_of
taken_total empty = omega arith
taken_total (with {x = h} c e) =
    ⊎_elim
    (λ (r : h.is_reserve ≡ true). rw r (omega (arith, taken_total e)))
    (λ (r : h.is_reserve ≡ false). rw r (omega (arith, taken_total e)))
    (holds_or_not h.is_reserve)

-- no part gives more than it holds
abbrev pub Within : List Resting → List ℕ → List ℕ → Type 0
Within s ts rs = Parts (λ (o : Resting) (t r : ℕ). (t ≤ o.shares.0) × (r ≤ o.reserve.0)) s ts rs

counted_parts : (n : ℕ) (o : Resting) (t r : ℕ) → t ≤ o.shares.0 → r ≤ o.reserve.0
    → counted_as n o (shares_left o) ≡ counted_as n o t + counted_as n o r + counted_as n o (shares_left (reduced_by t r o))
counted_parts n o t r l m =
    ⊎_elim
    (λ (e : eqb o.number.0 n ≡ true). rw e (omega arith))
    (λ (e : eqb o.number.0 n ≡ false). rw e (omega arith))
    (holds_or_not (eqb o.number.0 n))

counted_none : (n : ℕ) (o : Resting) (k : ℕ) → k ≡ 0 → counted_as n o k ≡ 0
counted_none n o k z =
    ⊎_elim
    (λ (e : eqb o.number.0 n ≡ true). rw e z)
    (λ (e : eqb o.number.0 n ≡ false). rw e refl)
    (holds_or_not (eqb o.number.0 n))

pub keeping_sum : (n : ℕ) {s : List Resting} {ts rs : List ℕ} → Within s ts rs
    → taken_from n s ts + taken_from n s rs + held_as n (keeping s ts rs) ≡ held_as n s
unfolding keeping taken_from sum_of
keeping_sum n none = omega arith
keeping_sum n (also {o = o} {t = t} {r = r} c w) =
    let ih = keeping_sum n w in
    let p = counted_parts n o t r c.0 c.1 in
    ⊎_elim
    (λ (z : eqb (shares_left (reduced_by t r o)) 0 ≡ true).
    let d = counted_none n o (shares_left (reduced_by t r o)) (eqb-true (shares_left (reduced_by t r o)) 0 z) in
    rw z (omega (arith, ih, p, d)))
    (λ (z : eqb (shares_left (reduced_by t r o)) 0 ≡ false). rw z (omega (arith, ih, p)))
    (holds_or_not (eqb (shares_left (reduced_by t r o)) 0))

-- what a walk takes, by number, and what the orders keep, is what they held
pub after_sum : (n : ℕ) (s : List Resting) (ts : List ℕ) → Within s (taken_of false (holdings s) ts) (taken_of true (holdings s) ts)
    → taken_from_holdings n (holdings s) ts + held_as n (after s ts) ≡ held_as n s
unfolding after
after_sum n s ts w =
    let e : taken_from_holdings n (holdings s) ts ≡ taken_from n s (taken_of false (holdings s) ts) + taken_from n s (taken_of true (holdings s) ts) =
    subst (λ (l : List Resting). taken_from_holdings n (holdings s) ts ≡ taken_from n s (taken_of false (holdings s) ts) + taken_from n l (taken_of true (holdings s) ts)) (holdings_reserves s)
    (subst (λ (l : List Resting). taken_from_holdings n (holdings s) ts ≡ taken_from n l (taken_of false (holdings s) ts) + taken_from n (orders_of true (holdings s)) (taken_of true (holdings s) ts)) (holdings_shown s)
    (taken_split n (holdings s) ts)) in
    omega (arith, e, keeping_sum n w)
