-- What settling a side (a cancel, the moves of a quote, the refills after a walk, a close) keeps of it, whatever the fate of each of its
-- orders: what is counted of them, who stands there, their rank, and all that a sound book says of the side. Assumes nothing.
use Prim.Native.Nat.{ℕ, suc, ◌+◌, ◌-◌, ◌≤◌}
use mathlib.Core.Bool.{Bool, true}
use mathlib.Core.List.{List, [], ◌∷◌, ◌++◌}
use mathlib.Core.Path.{◌≡◌, refl, ap, subst}
use lib.Dec.{eqb}
use lib.ListN.{length}
use native.Mathlib.Omega.{arith}
use Rattle.std.specs.Prelude.{if◌then◌else◌}
use Rattle.basics.specs.Lists.{sum_of, gathered, All, none, also, OneOf, first, later}
use Rattle.basics.proofs.LawsLists.{all_alike, one_of_all, each_there, sum_of_append, gathered_all, gathered_has}
use Rattle.kinds.specs.declared.Number.{Number}
use Rattle.kinds.specs.Kinds.{resting_price_in_range}
use Rattle.rules.specs.declared.Resting.{Resting}
use Rattle.rules.specs.declared.Stamp.{Stamp}
use Rattle.rules.specs.Book.{stamp, earlier, in_rank_order, floor_in_range, minimum_in_range}
use Rattle.rules.specs.declared.Fate.{Fate}
use Rattle.rules.specs.declared.Fate.TheVariants.{Stays, IsCancelled, IsSet}
use Rattle.rules.specs.Settling.{kept_by, set_by, stamped_as, insert, insert_all, staying, set_anew, stamped_from, settled_side}
use Rattle.rules.proofs.LawsCommands.{IfSet, SameOrder}
use Rattle.soundness.proofs.LawsApart.{Clear}
use Rattle.soundness.proofs.LawsInsert.{added_insert, added_sum, added_all, added_new, added_old, ranked_insert}
use Rattle.soundness.proofs.LawsNumbers.{one_if, fewer_distinct}
use Rattle.rules.proofs.LawsRank.{earlier_place, earlier_transitive, ranked_first, ranked_rest, ranked_more}
use Rattle.soundness.proofs.LawsSides.{Ranged, shown_in, InRange, both_sides, SidesBy, sides_sum}

-- ── What is counted ──

inserted_sum : (count : Resting → ℕ) (buy : Bool) (xs s : List Resting) → sum_of count (insert_all buy xs s) ≡ sum_of count xs + sum_of count s
unfolding insert_all sum_of
inserted_sum count buy [] s = omega arith
inserted_sum count buy (x ∷ xs) s = omega (arith, inserted_sum count buy xs (insert buy x s), added_sum count (added_insert buy x s))

-- what is left of an order by its fate, but for its stamp
abbrev pub left_by : Fate → Resting → List Resting
left_by f h = set_by f ++ kept_by f h

-- a count that no stamp changes, of orders of which what is left and what is cut are all of each: so it is of their side
module _ (count cut : Resting → ℕ) (stamped : (h : Resting) (anew : Stamp) → count (stamped_as anew h) ≡ count h) (fate : Resting → Fate)
    (parted : (h : Resting) → sum_of count (left_by (fate h) h) + cut h ≡ count h) where
  stamped_sum : (n : Number) (k : ℕ) (s : List Resting) → sum_of count (stamped_from n k s) ≡ sum_of count s
  unfolding stamped_from sum_of
  stamped_sum n k [] = refl
  stamped_sum n k (h ∷ s) = omega (arith, stamped h (stamp n k), stamped_sum n (suc k) s)

  parted_sum : (s : List Resting) → sum_of count (set_anew fate s) + sum_of count (staying fate s) + sum_of cut s ≡ sum_of count s
  unfolding set_anew staying gathered sum_of
  parted_sum [] = omega arith
  parted_sum (h ∷ s) =
      omega (
        arith,
        parted h,
        parted_sum s,
        sum_of_append count (set_by (fate h)) (set_anew fate s),
        sum_of_append count (kept_by (fate h) h) (staying fate s),
        sum_of_append count (set_by (fate h)) (kept_by (fate h) h),
      )

  pub settled_sum : (n : Number) (k : ℕ) (buy : Bool) (s : List Resting) → sum_of count (settled_side n k buy fate s) + sum_of cut s ≡ sum_of count s
  unfolding settled_side
  settled_sum n k buy s =
      omega (arith, inserted_sum count buy (stamped_from n k (set_anew fate s)) (staying fate s), stamped_sum n k (set_anew fate s), parted_sum s)

-- a count by the number alone counts no more of the side
settled_at_most : (count : Resting → ℕ) → ((g h : Resting) → g.number ≡ h.number → count g ≡ count h) → (fate : Resting → Fate)
    → ((h : Resting) → IfSet (SameOrder h) (fate h)) → (n : Number) (k : ℕ) (buy : Bool) (s : List Resting)
    → sum_of count (settled_side n k buy fate s) ≤ sum_of count s
unfolding sum_of
settled_at_most count alike fate same n k buy s =
    let cut : Resting → ℕ = λ h. count h - sum_of count (left_by (fate h) h) in
    omega (arith, settled_sum count cut (λ h anew. alike (stamped_as anew h) h refl) fate (λ h. omega (arith, by_fate (fate h) h (same h))) n k buy s)
  where
    by_fate : (f : Fate) (h : Resting) → IfSet (SameOrder h) f → sum_of count (left_by f h) ≤ count h
    by_fate Stays h i = omega arith
    by_fate (IsCancelled reason) h i = omega arith
    by_fate (IsSet new) h i = omega (arith, alike new h i.number)

one_each : (s : List Resting) → sum_of (λ (h : Resting). 1) s ≡ length s
unfolding sum_of
one_each [] = refl
one_each (h ∷ s) = omega (arith, one_each s)

-- ── Who stands there ──

inserted_all : {P : Resting → Type 0} (buy : Bool) {xs s : List Resting} → All P xs → All P s → All P (insert_all buy xs s)
unfolding insert_all
inserted_all buy none a = a
inserted_all buy {s = s} (also {x = x} p more) a = inserted_all buy more (added_all p (added_insert buy x s) a)

inserted_old : (buy : Bool) {h : Resting} (xs s : List Resting) → OneOf h s → OneOf h (insert_all buy xs s)
unfolding insert_all
inserted_old buy [] s p = p
inserted_old buy (x ∷ xs) s p = inserted_old buy xs (insert buy x s) (added_old (added_insert buy x s) p)

inserted_new : (buy : Bool) {h : Resting} {xs : List Resting} (s : List Resting) → OneOf h xs → OneOf h (insert_all buy xs s)
unfolding insert_all
inserted_new buy {h = h} s (first {s = xs}) = inserted_old buy xs (insert buy h s) (added_new (added_insert buy h s))
inserted_new buy s (later {y = x} p) = inserted_new buy (insert buy x s) p

-- the place of the stamp of one that is set anew, from place k on: one more for each that is set anew before it
abbrev pub next_place : Fate → ℕ → ℕ
next_place Stays k = k
next_place (IsCancelled reason) k = k
next_place (IsSet new) k = suc k

abbrev pub set_place : (Resting → Fate) → {x : Resting} → ℕ → {s : List Resting} → OneOf x s → ℕ
set_place fate k first = k
set_place fate k (later {y = y} p) = set_place fate (next_place (fate y) k) p

-- a claim of those that are set anew, each at its place
abbrev pub EachSet : (Resting → Type 0) → (Resting → Fate) → Number → ℕ → List Resting → Type 0
EachSet P fate n k s = (h new : Resting) (p : OneOf h s) → fate h ≡ IsSet new → P (stamped_as (stamp n (set_place fate k p)) new)

-- none but those that stay, and those that are set anew, stand there ..
module _ {P : Resting → Type 0} (fate : Resting → Fate) where
  pub staying_are : (s : List Resting) → ((h : Resting) → OneOf h s → fate h ≡ Stays → P h) → All P (staying fate s)
  unfolding staying
  staying_are s left = gathered_all (λ (h : Resting). kept_by (fate h) h) (all_alike (λ h p. by_fate (fate h) h (left h p)) (each_there s))
    where
      by_fate : (f : Fate) (h : Resting) → (f ≡ Stays → P h) → All P (kept_by f h)
      by_fate Stays h p = also (p refl) none
      by_fate (IsCancelled reason) h p = none
      by_fate (IsSet new) h p = none

  set_are : (n : Number) (k : ℕ) (s : List Resting) → EachSet P fate n k s → All P (stamped_from n k (set_anew fate s))
  unfolding set_anew gathered stamped_from
  set_are n k [] set = none
  set_are n k (h ∷ s) set = by_fate (fate h) (λ new. set h new first) (set_are n (next_place (fate h) k) s (λ x new p. set x new (later p)))
    where
      by_fate : (f : Fate) → ((new : Resting) → f ≡ IsSet new → P (stamped_as (stamp n k) new))
          → All P (stamped_from n (next_place f k) (set_anew fate s)) → All P (stamped_from n k (set_by f ++ set_anew fate s))
      by_fate Stays p others = others
      by_fate (IsCancelled reason) p others = others
      by_fate (IsSet new) p others = also (p new refl) others

  pub settled_are : (n : Number) (k : ℕ) (buy : Bool) (s : List Resting) → ((h : Resting) → OneOf h s → fate h ≡ Stays → P h)
      → EachSet P fate n k s → All P (settled_side n k buy fate s)
  unfolding settled_side
  settled_are n k buy s left set = inserted_all buy (set_are n k s set) (staying_are s left)

-- .. and all of these do
set_has : (fate : Resting → Fate) (n : Number) {h : Resting} (k : ℕ) (new : Resting) {s : List Resting} (p : OneOf h s) → fate h ≡ IsSet new
    → OneOf (stamped_as (stamp n (set_place fate k p)) new) (stamped_from n k (set_anew fate s))
unfolding set_anew gathered stamped_from
set_has fate n k new first e = rw e first
set_has fate n k new (later {y = y} {s = s} p) e = by_fate (fate y) (set_has fate n (next_place (fate y) k) new p e)
  where
    by_fate : {x : Resting} (f : Fate) → OneOf x (stamped_from n (next_place f k) (set_anew fate s)) → OneOf x (stamped_from n k (set_by f ++ set_anew fate s))
    by_fate Stays q = q
    by_fate (IsCancelled reason) q = q
    by_fate (IsSet other) q = later q

module _ (fate : Resting → Fate) (n : Number) (k : ℕ) (buy : Bool) {h : Resting} {s : List Resting} (p : OneOf h s) where
  pub settled_stays : fate h ≡ Stays → OneOf h (settled_side n k buy fate s)
  unfolding settled_side staying
  settled_stays e =
      inserted_old buy (stamped_from n k (set_anew fate s)) (gathered (λ (x : Resting). kept_by (fate x) x) s)
      (gathered_has (λ (x : Resting). kept_by (fate x) x) p (rw e first))

  pub settled_sets : (new : Resting) → fate h ≡ IsSet new → OneOf (stamped_as (stamp n (set_place fate k p)) new) (settled_side n k buy fate s)
  unfolding settled_side
  settled_sets new e = inserted_new buy (staying fate s) (set_has fate n k new p e)

-- ── Rank ──

-- the stamps of a side are all earlier than that of the next move
abbrev pub Earlier : Stamp → List Resting → Type 0
Earlier next s = All (λ (h : Resting). earlier h.stamp next ≡ true) s

module _ (n : Number) (buy : Bool) (fate : Resting → Fate) where
  stamped_ranked : (k : ℕ) (xs s : List Resting) → Earlier (stamp n k) s → in_rank_order buy s ≡ true
      → in_rank_order buy (insert_all buy (stamped_from n k xs) s) ≡ true
  unfolding stamped_from insert_all
  stamped_ranked k [] s e r = r
  stamped_ranked k (h ∷ xs) s e r =
      let x = stamped_as (stamp n k) h in
      let before = earlier_place n k (suc k) (omega arith) in
      let later : Earlier (stamp n (suc k)) s = all_alike (λ y p. earlier_transitive y.stamp (stamp n k) (stamp n (suc k)) p before) e in
      stamped_ranked (suc k) xs (insert buy x s) (added_all before (added_insert buy x s) later) (ranked_insert buy x s e r)

  staying_ranked : (s : List Resting) → in_rank_order buy s ≡ true → in_rank_order buy (staying fate s) ≡ true
  unfolding staying gathered
  staying_ranked [] r = r
  staying_ranked (h ∷ s) r = by_fate (fate h) (staying_ranked s (ranked_rest buy h s r))
    where
      by_fate : (f : Fate) → in_rank_order buy (staying fate s) ≡ true → in_rank_order buy (kept_by f h ++ staying fate s) ≡ true
      by_fate Stays others = ranked_more buy h (staying fate s) (staying_are fate s (λ x p e. one_of_all (ranked_first buy h s r) p)) others
      by_fate (IsCancelled reason) others = others
      by_fate (IsSet new) others = others

  pub settled_ranked : (k : ℕ) (s : List Resting) → Earlier (stamp n k) s → in_rank_order buy s ≡ true
      → in_rank_order buy (settled_side n k buy fate s) ≡ true
  unfolding settled_side
  settled_ranked k s e r =
      stamped_ranked k (set_anew fate s) (staying fate s) (staying_are fate s (λ x p i. one_of_all e p)) (staying_ranked s r)

-- ── A side ──

-- what is left of an order by its fate keeps its side sound: it shows a share; and whoever is set anew has a price in range, apart from the
-- opposite side, and Max Floor and minimum in range
pub record SetSound (buy : Bool) (opposite : List Resting) (new : Resting) : Type 0 where
  pub priced : resting_price_in_range new.price ≡ true
  pub is_apart : Clear buy new.displayed new.price opposite
  pub shows : 1 ≤ new.shares.0
  pub floored : floor_in_range new ≡ true
  pub least : minimum_in_range new ≡ true

abbrev pub LeftSound : Bool → List Resting → Resting → Fate → Type 0
LeftSound buy opposite h Stays = 1 ≤ h.shares.0
LeftSound buy opposite h (IsCancelled reason) = Unit {0}
LeftSound buy opposite h (IsSet new) = SetSound buy opposite new

-- a fate keeps every side sound whose orders have a share each, as it is counted
abbrev pub SoundFates : (Resting → ℕ) → Number → Bool → (Resting → Fate) → Type 0
SoundFates count last buy fate =
    (opposite : List Resting) (h : Resting) → Ranged count last h → Clear buy h.displayed h.price opposite → LeftSound buy opposite h (fate h)

-- a side that command n settles, whose stamps are all earlier, from place k on
pub sides_settled : {mine theirs : Resting → ℕ} {buy : Bool} {own opposite : List Resting} (n : Number) (k : ℕ) (fate : Resting → Fate)
    → ((h : Resting) → IfSet (SameOrder h) (fate h)) → SoundFates mine n buy fate → Earlier (stamp n k) own → SidesBy mine theirs buy n own opposite
    → SidesBy shown_in theirs buy n (settled_side n k buy fate own) opposite
sides_settled {mine = mine} {buy = buy} {own = own} {opposite = opposite} n k fate same sound before sides =
    let after = settled_side n k buy fate own in
    record {
      own_fits = omega (arith, settled_at_most (λ (h : Resting). 1) (λ g h e. refl) fate same n k buy own, one_each own, one_each after, sides.own_fits);
      opposite_fits = sides.opposite_fits;
      own_ranked = settled_ranked n buy fate k own before sides.own_ranked;
      opposite_ranked = sides.opposite_ranked;
      own_in_range = settled_are {P = InRange n} fate n k buy own (λ h p e. stays_in_range p e) (λ h new p e. set_in_range p e);
      opposite_in_range = sides.opposite_in_range;
      once = fewer_distinct (both_sides buy own opposite) (both_sides buy after opposite) fewer sides.once;
      is_apart =
          settled_are {P = λ (h : Resting). Clear buy h.displayed h.price opposite} fate n k buy own
          (λ h p e. one_of_all sides.is_apart p) (λ h new p e. (left p e).is_apart);
    }
  where
    left : {h : Resting} {f : Fate} → OneOf h own → fate h ≡ f → LeftSound buy opposite h f
    left {h = h} p e = subst (LeftSound buy opposite h) e (sound opposite h (one_of_all sides.own_in_range p) (one_of_all sides.is_apart p))

    stays_in_range : {h : Resting} → OneOf h own → fate h ≡ Stays → InRange n h
    stays_in_range {h = h} p e =
        let r : Ranged mine n h = one_of_all sides.own_in_range p in
        record {
          from_one = r.from_one;
          up_to_last = r.up_to_last;
          priced = r.priced;
          holding = left p e;
          at_most = r.at_most;
          stamped_from = r.stamped_from;
          stamped_up_to = r.stamped_up_to;
          floored = r.floored;
          least = r.least;
        }

    set_in_range : {j : ℕ} {h new : Resting} → OneOf h own → fate h ≡ IsSet new → InRange n (stamped_as (stamp n j) new)
    set_in_range {h = h} {new = new} p e =
        let r : Ranged mine n h = one_of_all sides.own_in_range p in
        let i = subst (IfSet (SameOrder h)) e (same h) in
        let numbered : new.number.0 ≡ h.number.0 = ap (λ (m : Number). m.0) i.number in
        record {
          from_one = omega (arith, numbered, r.from_one);
          up_to_last = omega (arith, numbered, r.up_to_last);
          priced = (left p e).priced;
          holding = (left p e).shows;
          at_most = omega (arith, i.left, r.at_most);
          stamped_from = omega (arith, numbered, r.up_to_last);
          stamped_up_to = omega arith;
          floored = (left p e).floored;
          least = (left p e).least;
        }

    fewer : (m : ℕ) → sum_of (one_if m) (both_sides buy (settled_side n k buy fate own) opposite) ≤ sum_of (one_if m) (both_sides buy own opposite)
    fewer m =
        omega (
          arith,
          sides_sum (one_if m) buy own opposite,
          sides_sum (one_if m) buy (settled_side n k buy fate own) opposite,
          settled_at_most (one_if m) (λ g h e. ap (λ (x : Number). if eqb m x.0 then 1 else 0) e) fate same n k buy own,
        )
