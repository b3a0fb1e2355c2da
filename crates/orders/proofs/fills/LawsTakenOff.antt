-- Laws of a side after a walk: taking by taking, and that it is the side after a walk of 01. Assumes nothing.
use Prim.Native.Nat.{ℕ, zero, suc, ◌+◌, ◌-◌, ◌≤◌, ◌<◌, min}
use mathlib.Core.Bool.{Bool, true, false, not, beq}
use mathlib.Core.List.{List, [], ◌∷◌, ◌++◌, map}
use mathlib.Core.Logic.{◌⊎◌, ⊎_elim}
use mathlib.Core.Path.{◌≡◌, refl, sym, ap, ◌∙◌}
use lib.Dec.{eqb}
use lib.ListN.{length, get_or, set, take, drop, length-append, length-drop, take-append-drop}
use lib.Seq.{take-suc, drop-append_seam}
use native.Mathlib.Numerals.{add-one}
use native.Mathlib.Omega.{arith}
use borrow.Author.Tests.{eq-eqb, ne_eqb, eqb-true, eqb-false}
use Rattle.std.specs.Prelude.{if◌then◌else◌}
use Rattle.basics.specs.Lists.{All, none, also, every}
use Rattle.basics.proofs.LawsChoice.{holds_or_not, lt_or_le, and_left, and_right}
use Rattle.basics.proofs.LawsLists.{all_alike}
use Rattle.rules.specs.declared.Resting.{Resting}
use Rattle.rules.specs.Book.{unused, shares_left}
use Rattle.rules.specs.Holdings.{holdings, taken_of, reduced_by, keeping, after}
use Rattle.rules.proofs.LawsHoldings.{Parts, parts_length}
use Rattle.side.specs.Shifts.{less_by, keeps, keepers}
use Rattle.side.proofs.shifts.LawsClosing.{keepers_all}
use Rattle.orders.specs.declared.cursor.Part.{Part}
use Rattle.orders.specs.declared.takings.Taking.{Taking}
use Rattle.orders.specs.Cursor.{Placed, part_of, placed_from}
use Rattle.orders.specs.Walk.{taking, takings_from, is_below}
use Rattle.orders.proofs.cursor.LawsParts.{places_of, up_from, placed_holdings, placed_places}
use Rattle.orders.proofs.walk.LawsTaken.{no_taking}
use Rattle.orders.specs.Fills.{MinimumRemains, taken_at, lessened, after_takings}

-- ── What was taken from one order ──

pub taken_both : (i : ℕ) (ks ls : List Taking) → taken_at i (ks ++ ls) ≡ taken_at i ks + taken_at i ls
unfolding taken_at
taken_both i [] ls = omega arith
taken_both i (k ∷ ks) ls = omega (arith, taken_both i ks ls)

-- by takings from orders before it, nothing
pub taken_before : (i : ℕ) {ks : List Taking} → All (is_below i) ks → taken_at i ks ≡ 0
unfolding taken_at
taken_before i none = refl
taken_before i (also {x = k} p a) = rw (ne_eqb k.place i (λ e. omega arith)) (omega (arith, taken_before i a))

-- what a part gives comes off its order
pub taken_one : (j : ℕ) (p : Part) (t : ℕ) → taken_at j (taking p t) ≡ (if eqb p.place j then t else 0)
unfolding taking taken_at
taken_one j p t =
    ⊎_elim
    (λ (z : eqb t 0 ≡ true). rw z (none_either (eqb p.place j) t (eqb-true t 0 z)))
    (λ (z : eqb t 0 ≡ false). rw z (omega arith))
    (holds_or_not (eqb t 0))
  where
    none_either : (b : Bool) (t : ℕ) → t ≡ 0 → 0 ≡ (if b then t else 0)
    none_either true t z = sym z
    none_either false t z = refl

-- ── Taking by taking ──

less_none : (h : Resting) → MinimumRemains h → less_by 0 h ≡ h
less_none h remains =
    let e : h.shares.0 - 0 ≡ h.shares.0 = omega arith in
    let f : h.reserve.0 - (0 - h.shares.0) ≡ h.reserve.0 = omega arith in
    let g : min h.minimum.0 (shares_left h) ≡ h.minimum.0 = omega (arith, remains) in
    rw (e, f, g)

reserve_more : (shown reserve a b : ℕ) → reserve - (a - shown) - (b - (shown - a)) ≡ reserve - (a + b - shown)
reserve_more shown reserve a b =
    ⊎_elim
    (λ (l : shown < a).
    let e : b - (shown - a) ≡ b = omega arith in
    let f : a + b - shown ≡ a - shown + b = omega arith in
    rw (e, f) (twice reserve (a - shown) b))
    (λ (l : a ≤ shown).
    let e : a - shown ≡ 0 = omega arith in
    let f : b - (shown - a) ≡ a + b - shown = omega arith in
    rw (e, f) (let z : reserve - 0 ≡ reserve = omega arith in rw z))
    (lt_or_le shown a)
  where
    twice : (n k m : ℕ) → n - k - m ≡ n - (k + m)
    twice n k m = omega arith

cut_twice : (m x y : ℕ) → y ≤ x → min (min m x) y ≡ min m y
cut_twice m x y l = omega (arith, l)

fewer_left : (shown reserve a b : ℕ) → shown - (a + b) + (reserve - (a + b - shown)) ≤ shown - a + (reserve - (a - shown))
fewer_left shown reserve a b =
    let p : shown - (a + b) ≤ shown - a = omega arith in
    let q : reserve - (a + b - shown) ≤ reserve - (a - shown) = omega arith in
    omega (arith, p, q)

less_more : (a b : ℕ) (h : Resting) → less_by b (less_by a h) ≡ less_by (a + b) h
less_more a b h =
    let e : h.shares.0 - a - b ≡ h.shares.0 - (a + b) = omega arith in
    let left = h.shares.0 - (a + b) + (h.reserve.0 - (a + b - h.shares.0)) in
    let before = h.shares.0 - a + (h.reserve.0 - (a - h.shares.0)) in
    let cut : min (min h.minimum.0 before) left ≡ min h.minimum.0 left =
    cut_twice h.minimum.0 before left (fewer_left h.shares.0 h.reserve.0 a b) in
    rw (reserve_more h.shares.0 h.reserve.0 a b, e, cut)

pub length_lessened : (i : ℕ) (ks : List Taking) (s : List Resting) → length (lessened i ks s) ≡ length s
unfolding lessened
length_lessened i ks [] = refl
length_lessened i ks (h ∷ s) = ap suc (length_lessened (i + 1) ks s)

pub lessened_none : (i : ℕ) {s : List Resting} → All MinimumRemains s → lessened i [] s ≡ s
unfolding lessened taken_at
lessened_none i none = refl
lessened_none i (also {x = h} l a) = let e = less_none h l in let r = lessened_none (i + 1) a in cc

-- it matters only what was taken from them
lessened_alike : (i : ℕ) (ks ls : List Taking) (s : List Resting) → ((j : ℕ) → i ≤ j → taken_at j ks ≡ taken_at j ls) → lessened i ks s ≡ lessened i ls s
unfolding lessened
lessened_alike i ks ls [] e = refl
lessened_alike i ks ls (h ∷ s) e =
    rw (e i (omega arith)) (ap (λ (r : List Resting). less_by (taken_at i ls) h ∷ r) (lessened_alike (i + 1) ks ls s (λ j l. e j (omega (arith, l)))))

-- one taking more comes off the order at its rank
lessened_more : (i p : ℕ) (ks : List Taking) (k : Taking) (s : List Resting) → k.place ≡ i + p
    → set (lessened i ks s) p (less_by k.shares.0 (get_or (lessened i ks s) p unused)) ≡ lessened i (ks ++ (k ∷ [])) s
unfolding lessened taken_at
lessened_more i p ks k [] e = refl
lessened_more i zero ks k (h ∷ s) e =
    let one : taken_at i (ks ++ (k ∷ [])) ≡ taken_at i ks + k.shares.0 = taken_both i ks (k ∷ []) ∙ rw (eq-eqb k.place i (omega arith)) (omega arith) in
    let behind : lessened (i + 1) (ks ++ (k ∷ [])) s ≡ lessened (i + 1) ks s =
    lessened_alike (i + 1) (ks ++ (k ∷ [])) ks s (λ j l. omega (arith, taken_both j ks (k ∷ []), taken_before j (also {x = k} (omega (arith, l)) none))) in
    rw (one, less_more (taken_at i ks) k.shares.0 h, behind)
lessened_more i (suc p) ks k (h ∷ s) e =
    let other : taken_at i (ks ++ (k ∷ [])) ≡ taken_at i ks = taken_both i ks (k ∷ []) ∙ rw (ne_eqb k.place i (λ z. omega arith)) (omega arith) in
    rw other (ap (λ (r : List Resting). less_by (taken_at i ks) h ∷ r) (lessened_more (i + 1) p ks k s (omega arith)))

pub lessened_next : (ks : List Taking) (i : ℕ) (k : Taking) (s : List Resting) → i < length ks → k ≡ get_or ks i no_taking
    → set (lessened 0 (take i ks) s) k.place (less_by k.shares.0 (get_or (lessened 0 (take i ks) s) k.place unused)) ≡ lessened 0 (take (i + 1) ks) s
lessened_next ks i k s l e =
    let more : take (i + 1) ks ≡ take i ks ++ (k ∷ []) = rw (add-one i, e) (take-suc ks i no_taking l) in
    rw more (lessened_more 0 k.place (take i ks) k s (omega arith))

-- ── Whoever keeps something ──

pub all_keep : {s : List Resting} → All (λ (h : Resting). 1 ≤ h.shares.0) s → every keeps s ≡ true
unfolding every
all_keep none = refl
all_keep (also {x = h} p a) = rw (ne_eqb h.shares.0 0 (λ z. omega arith)) (all_keep a)

-- the orders from rank `at` on keep all, where no taking is from there on
pub keep_behind : (i at : ℕ) (ks : List Taking) {s : List Resting} → All MinimumRemains s → All (is_below (i + at)) ks → every keeps s ≡ true
    → every keeps (drop at (lessened i ks s)) ≡ true
unfolding every lessened
keep_behind i zero ks none a e = refl
keep_behind i (suc at) ks none a e = refl
keep_behind i zero ks (also {x = h} {s = s} l more) a e =
    let b : All (is_below i) ks = all_alike (λ k l. omega arith) a in
    let k : keeps (less_by 0 h) ≡ true = ap keeps (less_none h l) ∙ and_left (keeps h) (every keeps s) e in
    rw (taken_before i b, k)
    (keep_behind (i + 1) zero ks more (all_alike (λ k l. omega arith) a) (and_right (keeps h) (every keeps s) e))
keep_behind i (suc at) ks (also {x = h} {s = s} l more) a e = keep_behind (i + 1) at ks more (all_alike (λ k l. omega arith) a) (and_right (keeps h) (every keeps s) e)

-- ── The orders that were not reached ──

lessened_same : (i : ℕ) {ks : List Taking} → All (is_below i) ks → {s : List Resting} → All MinimumRemains s → lessened i ks s ≡ s
unfolding lessened
lessened_same i a none = refl
lessened_same i {ks = ks} a (also {x = h} {s = s} l more) =
    let here : less_by (taken_at i ks) h ≡ h = ap (λ (k : ℕ). less_by k h) (taken_before i a) ∙ less_none h l in
    let rest = lessened_same (i + 1) (all_alike (λ k m. omega (arith, m)) a) more in
    cc

lessened_behind : (i at : ℕ) {ks : List Taking} → All (is_below (i + at)) ks → {s : List Resting} → All MinimumRemains s
    → drop at (lessened i ks s) ≡ drop at s
unfolding lessened
lessened_behind i zero a more = lessened_same i (all_alike (λ k l. omega (arith, l)) a) more
lessened_behind i (suc at) a none = refl
lessened_behind i (suc at) a (also m more) = lessened_behind (i + 1) at (all_alike (λ k l. omega (arith, l)) a) more

keepers_append : (s u : List Resting) → keepers (s ++ u) ≡ keepers s ++ keepers u
unfolding keepers
keepers_append [] u = refl
keepers_append (h ∷ s) u =
    ⊎_elim
    (λ (t : keeps h ≡ true). rw t (ap (λ (l : List Resting). h ∷ l) (keepers_append s u)))
    (λ (t : keeps h ≡ false). rw t (keepers_append s u))
    (holds_or_not (keeps h))

every_dropped : (at : ℕ) (s : List Resting) → every keeps s ≡ true → every keeps (drop at s) ≡ true
unfolding every
every_dropped zero s e = e
every_dropped (suc at) [] e = e
every_dropped (suc at) (h ∷ s) e = every_dropped at s (and_right (keeps h) (every keeps s) e)

-- where no taking is from rank `at` on, the orders from there on stand as they were, behind those of the others that keep something
module _ (at : ℕ) {ks : List Taking} (a : All (is_below at) ks) (s : List Resting) (remain : All MinimumRemains s) (keep : every keeps s ≡ true) where
  parted : after_takings ks s ≡ keepers (take at (lessened 0 ks s)) ++ drop at s
  parted =
      let less = lessened 0 ks s in
      let b : All (is_below (0 + at)) ks = all_alike (λ k l. omega (arith, l)) a in
      ap keepers (sym (take-append-drop at less)) ∙ keepers_append (take at less) (drop at less)
      ∙ ap (λ (u : List Resting). keepers (take at less) ++ keepers u) (lessened_behind 0 at b remain)
      ∙ ap (λ (u : List Resting). keepers (take at less) ++ u) (keepers_all (drop at s) (every_dropped at s keep))

  long_parted : length (after_takings ks s) ≡ length (keepers (take at (lessened 0 ks s))) + (length s - at)
  long_parted = ap length parted ∙ length-append (keepers (take at (lessened 0 ks s))) (drop at s) ∙ rw (length-drop at s)

  pub after_long : length s - at ≤ length (after_takings ks s)
  after_long = omega (arith, long_parted)

  pub after_unreached : drop (length (after_takings ks s) - (length s - at)) (after_takings ks s) ≡ drop at s
  after_unreached =
      let front = keepers (take at (lessened 0 ks s)) in
      let k : length (after_takings ks s) - (length s - at) ≡ length front = omega (arith, long_parted) in
      ap (λ (j : ℕ). drop j (after_takings ks s)) k ∙ ap (drop (length front)) parted ∙ drop-append_seam front (drop at s)

-- ── The side after a walk of 01 ──

-- what is taken at a place, by places and what is taken at each
taken_in : ℕ → List ℕ → List ℕ → ℕ
taken_in j [] ts = 0
taken_in j (p ∷ ps) [] = 0
taken_in j (p ∷ ps) (t ∷ ts) = (if eqb p j then t else 0) + taken_in j ps ts

in_none : (j : ℕ) (ps : List ℕ) → taken_in j ps [] ≡ 0
unfolding taken_in
in_none j [] = refl
in_none j (p ∷ ps) = refl

-- of shown parts and of reserves
taken_split : (j : ℕ) (s : List Placed) (ts : List ℕ) → (let hs = map (λ (p : Placed). p.holding) s in
    taken_at j (takings_from (map part_of s) ts)
    ≡ taken_in j (places_of false s) (taken_of false hs ts) + taken_in j (places_of true s) (taken_of true hs ts))
unfolding taken_at takings_from taken_in places_of taken_of
taken_split j [] ts = refl
taken_split j (p ∷ s) [] =
    omega (
      arith,
      in_none j (if beq p.holding.is_reserve false then p.place ∷ places_of false s else places_of false s),
      in_none j (if beq p.holding.is_reserve true then p.place ∷ places_of true s else places_of true s),
    )
taken_split j (p ∷ s) (t ∷ ts) =
    let hs = map (λ (p : Placed). p.holding) s in
    omega (
      arith,
      taken_both j (taking (part_of p) t) (takings_from (map part_of s) ts),
      taken_one j (part_of p) t,
      taken_split j s ts,
      by_part p.holding.is_reserve p.place t (places_of false s) (places_of true s) (taken_of false hs ts) (taken_of true hs ts),
    )
  where
    by_part : (b : Bool) (place t : ℕ) (ps qs ts rs : List ℕ)
        → taken_in j (if beq b false then place ∷ ps else ps) (if beq b false then t ∷ ts else ts)
        + taken_in j (if beq b true then place ∷ qs else qs) (if beq b true then t ∷ rs else rs)
        ≡ (if eqb place j then t else 0) + (taken_in j ps ts + taken_in j qs rs)
    by_part true place t ps qs ts rs = omega arith
    by_part false place t ps qs ts rs = omega arith

in_below : (j i n : ℕ) (ts : List ℕ) → j < i → taken_in j (up_from i n) ts ≡ 0
unfolding taken_in up_from
in_below j i zero ts l = refl
in_below j i (suc n) [] l = refl
in_below j i (suc n) (t ∷ ts) l = rw (ne_eqb i j (λ e. omega arith)) (omega (arith, in_below j (i + 1) n ts (omega arith)))

in_order_lem : (i k n : ℕ) (ts : List ℕ) → length ts ≤ n → taken_in (i + k) (up_from i n) ts ≡ get_or ts k 0
unfolding taken_in up_from
in_order_lem i k zero [] l = refl
in_order_lem i k zero (t ∷ ts) l = let z : ⊥ = omega arith in absurd z
in_order_lem i k (suc n) [] l = refl
in_order_lem i zero (suc n) (t ∷ ts) l =
    rw (eq-eqb i (i + 0) (omega arith)) (omega (arith, in_below (i + 0) (i + 1) n ts (omega arith)))
in_order_lem i (suc k) (suc n) (t ∷ ts) l =
    let e : i + suc k ≡ i + 1 + k = omega arith in
    let h = ap (λ (j : ℕ). taken_in j (up_from (i + 1) n) ts) e ∙ in_order_lem (i + 1) k n ts (omega arith) in
    rw (ne_eqb i (i + suc k) (λ z. omega arith)) (omega (arith, h))

-- the shown part of an order gives before its reserve, and no more than it holds
abbrev pub Orderly : Resting → ℕ → ℕ → Type 0
Orderly h t r = (t ≤ h.shares.0) × ((t ≡ h.shares.0) ⊎ (r ≡ 0))

less_parts : (h : Resting) (t r : ℕ) → Orderly h t r → less_by (t + r) h ≡ reduced_by t r h
less_parts h t r o =
    ⊎_elim
    (λ (z : t ≡ h.shares.0).
    let e : h.shares.0 - (t + r) ≡ h.shares.0 - t = omega arith in
    let f : h.reserve.0 - (t + r - h.shares.0) ≡ h.reserve.0 - r = omega arith in
    rw (e, f))
    (λ (z : r ≡ 0).
    let e : h.shares.0 - (t + r) ≡ h.shares.0 - t = omega arith in
    let f : h.reserve.0 - (t + r - h.shares.0) ≡ h.reserve.0 - r = omega (arith, o.0) in
    rw (e, f))
    o.1

keeps_left : (h : Resting) → keeps h ≡ not (eqb (shares_left h) 0)
keeps_left h =
    ⊎_elim
    (λ (z : eqb h.shares.0 0 ≡ true).
    let e : shares_left h ≡ h.reserve.0 = omega (arith, eqb-true h.shares.0 0 z) in
    rw (z, e))
    (λ (z : eqb h.shares.0 0 ≡ false).
    rw (z, ne_eqb (shares_left h) 0 (λ e. eqb-false h.shares.0 0 z (omega arith))))
    (holds_or_not (eqb h.shares.0 0))

from_after : (i : ℕ) (ks : List Taking) {s : List Resting} {ts rs : List ℕ} → Parts Orderly s ts rs
    → ((k : ℕ) → taken_at (i + k) ks ≡ get_or ts k 0 + get_or rs k 0) → keepers (lessened i ks s) ≡ keeping s ts rs
unfolding keepers lessened keeping
from_after i ks Parts.none e = refl
from_after i ks (Parts.also {o = h} {t = t} {r = r} {s = s} c w) e =
    let zero_th : i + 0 ≡ i = omega arith in
    let here : taken_at i ks ≡ t + r = ap (λ (j : ℕ). taken_at j ks) (sym zero_th) ∙ e 0 in
    let later = from_after (i + 1) ks w (λ k. ap (λ (j : ℕ). taken_at j ks) (next i k) ∙ e (suc k)) in
    let rest = lessened (i + 1) ks s in
    let x = reduced_by t r h in
    let less : less_by (taken_at i ks) h ≡ x = ap (λ (k : ℕ). less_by k h) here ∙ less_parts h t r c in
    ap (λ (y : Resting). keepers (y ∷ rest)) less ∙ ⊎_elim
    (λ (z : eqb (shares_left x) 0 ≡ true).
    let k : keeps x ≡ false = keeps_left x ∙ ap not z in
    rw (k, z) later)
    (λ (z : eqb (shares_left x) 0 ≡ false).
    let k : keeps x ≡ true = keeps_left x ∙ ap not z in
    rw (k, z) (ap (λ (l : List Resting). x ∷ l) later))
    (holds_or_not (eqb (shares_left x) 0))
  where
    next : (i k : ℕ) → i + 1 + k ≡ i + suc k
    next i k = omega arith

pub takings_after : (s : List Resting) (ts : List ℕ) → Parts Orderly s (taken_of false (holdings s) ts) (taken_of true (holdings s) ts)
    → after_takings (takings_from (map part_of (placed_from 0 s)) ts) s ≡ after s ts
unfolding after
takings_after s ts orderly =
    let long = parts_length orderly in
    from_after 0 (takings_from (map part_of (placed_from 0 s)) ts) orderly
    (λ k. taken_split (0 + k) (placed_from 0 s) ts
    ∙ rw (placed_holdings 0 s, placed_places false 0 s, placed_places true 0 s)
    (omega (
      arith,
      in_order_lem 0 k (length s) (taken_of false (holdings s) ts) (omega (arith, long.0)),
      in_order_lem 0 k (length s) (taken_of true (holdings s) ts) (omega (arith, long.1)),
    )))
