-- Rank is a strict order of the orders of a side: it is transitive, none ranks before itself, and of two orders with different stamps
-- one ranks before the other. Assumes nothing.
use Prim.Native.Nat.{ℕ, ◌≤◌, ◌<◌}
use mathlib.Core.Bool.{Bool, true, false, not, beq, true≢false}
use mathlib.Core.List.{List, [], ◌∷◌}
use mathlib.Core.Logic.{◌≢◌, ⊎_elim}
use mathlib.Core.Path.{◌≡◌, refl, sym, ap, ◌∙◌}
use lib.Dec.{eqb, ltb, leb}
use native.Mathlib.Omega.{arith}
use borrow.Author.Tests.{eq-eqb, ne_eqb, eqb-true, eqb-false, lt-ltb, le-ltb, ltb-true, ltb-false, lt-leb, le-leb}
use Rattle.std.specs.Prelude.{if◌then◌else◌}
use Rattle.basics.specs.Lists.{All, none, also}
use Rattle.basics.proofs.LawsChoice.{holds_or_not, lt_or_le, and_left, and_right}
use Rattle.kinds.specs.declared.HalfCents.{HalfCents}
use Rattle.kinds.specs.declared.Number.{Number}
use Rattle.rules.specs.declared.Resting.{Resting}
use Rattle.rules.specs.declared.Stamp.{Stamp}
use Rattle.rules.specs.Book.{better, stamp, earlier, first_at_one_price, ranks_before, in_rank_order}
use Rattle.rules.specs.Working.{beyond, reaches}

-- ── By one number ──

-- one number is ahead of another: the higher one (the price of a buy), or the lower one (that of a sell, and what is earlier)
abbrev ahead : Bool → ℕ → ℕ → Bool
ahead high p q = if high then ltb q p else ltb p q

at_most : (n m : ℕ) → leb n m ≡ not (ltb m n)
at_most n m =
    ⊎_elim
    (λ (l : m < n). rw (lt-leb n m l, lt-ltb m n l))
    (λ (l : n ≤ m). rw (le-leb n m l, le-ltb m n l))
    (lt_or_le m n)

later_number : (n m : ℕ) → n ≢ m → ltb n m ≡ false → ltb m n ≡ true
later_number n m ne f = let l : m ≤ n = ltb-false n m f in lt-ltb m n (omega (arith, ne))

lower_number : (n m k : ℕ) → ltb n m ≡ true → ltb m k ≡ true → ltb n k ≡ true
lower_number n m k a b =
    let l : n < m = ltb-true n m a in
    let r : m < k = ltb-true m k b in
    lt-ltb n k (omega arith)

ahead_total : (high : Bool) (p q : ℕ) → p ≢ q → ahead high p q ≡ false → ahead high q p ≡ true
ahead_total true p q ne f = later_number q p (λ e. ne (sym e)) f
ahead_total false p q ne f = later_number p q ne f

ahead_transitive : (high : Bool) (p q r : ℕ) → ahead high p q ≡ true → ahead high q r ≡ true → ahead high p r ≡ true
ahead_transitive true p q r a b = lower_number r q p b a
ahead_transitive false p q r a b = lower_number p q r a b

-- no number is ahead of itself
ahead_differs : (high : Bool) (p q : ℕ) → ahead high p q ≡ true → p ≢ q
ahead_differs true p q b e = let l : q < p = ltb-true q p b in let z : ⊥ = omega (arith, e) in z
ahead_differs false p q b e = let l : p < q = ltb-true p q b in let z : ⊥ = omega (arith, e) in z

-- ── By one number, and at one number by another test ──

abbrev ahead_or : Bool → ℕ → ℕ → Bool → Bool
ahead_or high p q at_one = if not (eqb p q) then ahead high p q else at_one

module _ (high : Bool) (p q : ℕ) (at_one : Bool) where
  by_number : p ≢ q → ahead_or high p q at_one ≡ ahead high p q
  by_number ne = rw (ne_eqb p q ne)

  pub at_one_lem : p ≡ q → ahead_or high p q at_one ≡ at_one
  at_one_lem e = rw (eq-eqb p q e)

-- what holds of one number and of two holds of any
by_numbers : {P : Type 0} (p q : ℕ) → (p ≡ q → P) → (p ≢ q → P) → P
by_numbers p q f g =
    ⊎_elim
    (λ (t : eqb p q ≡ true). f (eqb-true p q t))
    (λ (t : eqb p q ≡ false). g (eqb-false p q t))
    (holds_or_not (eqb p q))

or_total : (high : Bool) (p q : ℕ) (t u : Bool) → (t ≡ false → u ≡ true) → ahead_or high p q t ≡ false → ahead_or high q p u ≡ true
or_total high p q t u turn f =
    by_numbers p q
    (λ e. at_one_lem high q p u (sym e) ∙ turn (sym (at_one_lem high p q t e) ∙ f))
    (λ n. by_number high q p u (λ e. n (sym e)) ∙ ahead_total high p q n (sym (by_number high p q t n) ∙ f))

pub or_transitive : (high : Bool) (p q r : ℕ) (t u v : Bool) → (t ≡ true → u ≡ true → v ≡ true)
    → ahead_or high p q t ≡ true → ahead_or high q r u ≡ true → ahead_or high p r v ≡ true
or_transitive high p q r t u v both a b =
    by_numbers p q
    (λ e. by_numbers q r
    (λ f. at_one_lem high p r v (e ∙ f) ∙ both (sym (at_one_lem high p q t e) ∙ a) (sym (at_one_lem high q r u f) ∙ b))
    (λ n. by_number high p r v (λ f. n (sym e ∙ f)) ∙ ap (λ (k : ℕ). ahead high k r) e ∙ sym (by_number high q r u n) ∙ b))
    (λ n. by_numbers q r
    (λ f. by_number high p r v (λ e. n (e ∙ sym f)) ∙ ap (ahead high p) (sym f) ∙ sym (by_number high p q t n) ∙ a)
    (λ m.
    let l : ahead high p r ≡ true = ahead_transitive high p q r (sym (by_number high p q t n) ∙ a) (sym (by_number high q r u m) ∙ b) in
    by_number high p r v (ahead_differs high p r l) ∙ l))

-- ── Stamps ──

-- by command, and then by place
earlier_not_itself : (s : Stamp) → earlier s s ≡ false
earlier_not_itself s = at_one_lem false s.command.0 s.command.0 (ltb s.place s.place) refl ∙ le-ltb s.place s.place (omega arith)

-- a stamp is earlier than any of a command above its own, and than any at a place behind its own
pub earlier_command : (s t : Stamp) → s.command.0 < t.command.0 → earlier s t ≡ true
earlier_command s t l =
    by_number false s.command.0 t.command.0 (ltb s.place t.place) (λ (e : s.command.0 ≡ t.command.0). omega arith) ∙ lt-ltb s.command.0 t.command.0 l

pub earlier_place : (n : Number) (j k : ℕ) → j < k → earlier (stamp n j) (stamp n k) ≡ true
earlier_place n j k l = at_one_lem false n.0 n.0 (ltb j k) refl ∙ lt-ltb j k l

pub earlier_transitive : (s t u : Stamp) → earlier s t ≡ true → earlier t u ≡ true → earlier s u ≡ true
earlier_transitive s t u a b =
    or_transitive false s.command.0 t.command.0 u.command.0 (ltb s.place t.place) (ltb t.place u.place) (ltb s.place u.place)
    (lower_number s.place t.place u.place) a b

-- ── At one price ──

-- `first_at_one_price` of the fields that it reads
abbrev at_one_price : Bool → Bool → Stamp → Stamp → Bool
at_one_price d e s t = if not (beq d e) then d else earlier s t

total_at_one_price : (d e : Bool) (s t : Stamp) → earlier t s ≡ true → at_one_price d e s t ≡ false → at_one_price e d t s ≡ true
total_at_one_price true true s t l f = l
total_at_one_price true false s t l f = absurd (true≢false f)
total_at_one_price false true s t l f = refl
total_at_one_price false false s t l f = l

pub never_itself_at_one_price : (d : Bool) (s : Stamp) → at_one_price d d s s ≡ false
never_itself_at_one_price true s = earlier_not_itself s
never_itself_at_one_price false s = earlier_not_itself s

pub transitive_at_one_price : (d e f : Bool) (s t u : Stamp) → at_one_price d e s t ≡ true → at_one_price e f t u ≡ true → at_one_price d f s u ≡ true
transitive_at_one_price true true true s t u a b = earlier_transitive s t u a b
transitive_at_one_price true true false s t u a b = refl
transitive_at_one_price true false true s t u a b = absurd (true≢false (sym b))
transitive_at_one_price true false false s t u a b = refl
transitive_at_one_price false true true s t u a b = absurd (true≢false (sym a))
transitive_at_one_price false true false s t u a b = absurd (true≢false (sym a))
transitive_at_one_price false false true s t u a b = absurd (true≢false (sym b))
transitive_at_one_price false false false s t u a b = earlier_transitive s t u a b

-- ── Rank ──

-- an order ranks before another by its price, or at one price
by_rank : (buy : Bool) (x y : Resting) → ranks_before buy x y ≡ ahead_or buy x.price.0 y.price.0 (first_at_one_price x y)
unfolding ranks_before
by_rank buy x y = refl

-- of two orders, the one with the later stamp ranks before the other or behind it
pub ranks_total : (buy : Bool) (x y : Resting) → earlier y.stamp x.stamp ≡ true → ranks_before buy x y ≡ false → ranks_before buy y x ≡ true
ranks_total buy x y l f =
    by_rank buy y x
    ∙ or_total buy x.price.0 y.price.0 (first_at_one_price x y) (first_at_one_price y x)
    (total_at_one_price x.displayed y.displayed x.stamp y.stamp l) (sym (by_rank buy x y) ∙ f)

pub ranks_not_itself : (buy : Bool) (x : Resting) → ranks_before buy x x ≡ false
ranks_not_itself buy x =
    by_rank buy x x ∙ at_one_lem buy x.price.0 x.price.0 (first_at_one_price x x) refl ∙ never_itself_at_one_price x.displayed x.stamp

pub ranks_transitive : (buy : Bool) (x y z : Resting) → ranks_before buy x y ≡ true → ranks_before buy y z ≡ true → ranks_before buy x z ≡ true
ranks_transitive buy x y z a b =
    by_rank buy x z
    ∙ or_transitive buy x.price.0 y.price.0 z.price.0 (first_at_one_price x y) (first_at_one_price y z) (first_at_one_price x z)
    (transitive_at_one_price x.displayed y.displayed z.displayed x.stamp y.stamp z.stamp)
    (sym (by_rank buy x y) ∙ a) (sym (by_rank buy y z) ∙ b)

-- ── Prices ──

pub better_transitive : (buy : Bool) (p q r : HalfCents) → better buy p q ≡ true → better buy q r ≡ true → better buy p r ≡ true
better_transitive buy p q r a b = ahead_transitive buy p.0 q.0 r.0 a b

-- ── A side in rank order ──

-- the first order ranks before every other, and the others are in rank order
pub ranked_first : (buy : Bool) (x : Resting) (s : List Resting) → in_rank_order buy (x ∷ s) ≡ true → All (λ (y : Resting). ranks_before buy x y ≡ true) s
unfolding in_rank_order
ranked_first buy x [] r = none
ranked_first buy x (y ∷ s) r =
    let a = and_left (ranks_before buy x y) (in_rank_order buy (y ∷ s)) r in
    also a (ranked_behind s a (ranked_first buy y s (and_right (ranks_before buy x y) (in_rank_order buy (y ∷ s)) r)))
  where
    ranked_behind : (s : List Resting) → ranks_before buy x y ≡ true → All (λ (z : Resting). ranks_before buy y z ≡ true) s → All (λ (z : Resting). ranks_before buy x z ≡ true) s
    ranked_behind [] a none = none
    ranked_behind (z ∷ s) a (also b more) = also (ranks_transitive buy x y z a b) (ranked_behind s a more)

pub ranked_rest : (buy : Bool) (x : Resting) (s : List Resting) → in_rank_order buy (x ∷ s) ≡ true → in_rank_order buy s ≡ true
unfolding in_rank_order
ranked_rest buy x [] r = refl
ranked_rest buy x (y ∷ s) r = and_right (ranks_before buy x y) (in_rank_order buy (y ∷ s)) r

pub ranked_more : (buy : Bool) (x : Resting) (s : List Resting) → All (λ (y : Resting). ranks_before buy x y ≡ true) s → in_rank_order buy s ≡ true → in_rank_order buy (x ∷ s) ≡ true
unfolding in_rank_order
ranked_more buy x [] a r = refl
ranked_more buy x (y ∷ s) (also b more) r = rw b r

-- whoever ranks behind has no better price
pub rank_price : (buy : Bool) (x y : Resting) → ranks_before buy x y ≡ true → better buy y.price x.price ≡ false
rank_price buy x y r =
    by_numbers x.price.0 y.price.0
    (λ e. same_price buy e)
    (λ n. worse_price buy (sym (by_number buy x.price.0 y.price.0 (first_at_one_price x y) n) ∙ sym (by_rank buy x y) ∙ r))
  where
    same_price : (buy : Bool) → x.price.0 ≡ y.price.0 → better buy y.price x.price ≡ false
    same_price true e = le-ltb x.price.0 y.price.0 (omega (arith, e))
    same_price false e = le-ltb y.price.0 x.price.0 (omega (arith, e))

    worse_price : (buy : Bool) → ahead buy x.price.0 y.price.0 ≡ true → better buy y.price x.price ≡ false
    worse_price true b = let l : y.price.0 < x.price.0 = ltb-true y.price.0 x.price.0 b in le-ltb x.price.0 y.price.0 (omega arith)
    worse_price false b = let l : x.price.0 < y.price.0 = ltb-true x.price.0 y.price.0 b in le-ltb y.price.0 x.price.0 (omega arith)

-- ── What a price reaches ──

-- a price reaches another exactly if that is not beyond it
pub reaches_is : (buy : Bool) (price other : HalfCents) → reaches buy price other ≡ not (beyond buy price other)
reaches_is true price other = at_most other.0 price.0
reaches_is false price other = at_most price.0 other.0
