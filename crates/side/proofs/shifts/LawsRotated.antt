-- Laws of a list of which one element is taken out and put in elsewhere: place by place, and as a part of it that is turned by one. Assumes
-- nothing.
use Prim.Native.Nat.{ℕ, zero, suc, ◌+◌, ◌-◌, ◌≤◌, ◌<◌}
use mathlib.Core.List.{List, [], ◌∷◌, ◌++◌}
use mathlib.Core.Path.{◌≡◌, refl, ap, ◌∙◌}
use lib.ListN.{length, get_or, take, drop, length-append, length-take, length-drop}
use lib.Seq.{take-suc, drop-cons, length-take-le, take-append_seam, append_snoc}
use Rattle.std.proofs.lemmas.List.{drop-take}
use native.Mathlib.Nat.{suc-add}
use native.Mathlib.Numerals.{add-one}
use native.Mathlib.Omega.{arith}
use Rattle.basics.specs.Lists.{insert_at, remove_at}
use Rattle.basics.proofs.LawsLists.{length_remove_at}
use Rattle.side.specs.Table.{rotated}

-- ── One element in or out, place by place ──

module _ {A : Type 0} (d : A) where
  pub inserted_before : (at : ℕ) (v : A) (s : List A) → at ≤ length s → (k : ℕ) → k < at → get_or (insert_at at v s) k d ≡ get_or s k d
  inserted_before zero v s l k p = let z : ⊥ = omega arith in absurd z
  inserted_before (suc at) v [] l k p = let z : ⊥ = omega arith in absurd z
  inserted_before (suc at) v (x ∷ s) l zero p = refl
  inserted_before (suc at) v (x ∷ s) l (suc k) p = inserted_before at v s (omega arith) k (omega arith)

  pub inserted_there : (at : ℕ) (v : A) (s : List A) → at ≤ length s → get_or (insert_at at v s) at d ≡ v
  inserted_there zero v s l = refl
  inserted_there (suc at) v [] l = let z : ⊥ = omega arith in absurd z
  inserted_there (suc at) v (x ∷ s) l = inserted_there at v s (omega arith)

  pub inserted_behind : (at : ℕ) (v : A) (s : List A) → at ≤ length s → (k : ℕ) → at ≤ k → get_or (insert_at at v s) (suc k) d ≡ get_or s k d
  inserted_behind zero v s l k p = refl
  inserted_behind (suc at) v [] l k p = let z : ⊥ = omega arith in absurd z
  inserted_behind (suc at) v (x ∷ s) l zero p = let z : ⊥ = omega arith in absurd z
  inserted_behind (suc at) v (x ∷ s) l (suc k) p = inserted_behind at v s (omega arith) k (omega arith)

  pub removed_before : (at : ℕ) (s : List A) (k : ℕ) → k < at → get_or (remove_at at s) k d ≡ get_or s k d
  removed_before zero s k p = let z : ⊥ = omega arith in absurd z
  removed_before (suc at) [] k p = rw (add-one (suc at))
  removed_before (suc at) (x ∷ s) zero p = refl
  removed_before (suc at) (x ∷ s) (suc k) p = rw (suc-add at 1) (removed_before at s k (omega arith))

  pub removed_behind : (at : ℕ) (s : List A) (k : ℕ) → at ≤ k → get_or (remove_at at s) k d ≡ get_or s (suc k) d
  removed_behind zero [] k p = refl
  removed_behind zero (x ∷ s) k p = refl
  removed_behind (suc at) [] k p = rw (add-one (suc at))
  removed_behind (suc at) (x ∷ s) zero p = let z : ⊥ = omega arith in absurd z
  removed_behind (suc at) (x ∷ s) (suc k) p = rw (suc-add at 1) (removed_behind at s k (omega arith))

  -- out and in again
  pub insert_at_remove_at : (at : ℕ) (s : List A) → at < length s → insert_at at (get_or s at d) (remove_at at s) ≡ s
  insert_at_remove_at at [] l = let z : ⊥ = omega arith in absurd z
  insert_at_remove_at zero (x ∷ s) l = refl
  insert_at_remove_at (suc at) (x ∷ s) l = rw (suc-add at 1) (ap (λ (u : List A). x ∷ u) (insert_at_remove_at at s (omega arith)))

  -- in and out again
  pub remove_at_insert_at : (at : ℕ) (v : A) (s : List A) → at ≤ length s → remove_at at (insert_at at v s) ≡ s
  remove_at_insert_at zero v s l = refl
  remove_at_insert_at (suc at) v [] l = let z : ⊥ = omega arith in absurd z
  remove_at_insert_at (suc at) v (x ∷ s) l = rw (suc-add at 1) (ap (λ (u : List A). x ∷ u) (remove_at_insert_at at v s (omega arith)))

-- ── One element moved ──

module _ (x : List ℕ) (from to : ℕ) (f : from < length x) (t : to < length x) where
  pub length_rotated : length (rotated from to x) ≡ length x
  length_rotated = simp (length-append, length-take, length-drop) (omega (arith, length_remove_at from x f))

-- ── By a part of the list turned by one ──

-- the part of k + 1 elements from a on, its last one moved to its front
last_first : (a k : ℕ) (x : List ℕ) → a + k < length x
    → let p = take (k + 1) (drop a x) in
    take a x ++ ((drop k p ++ take k p) ++ drop (k + 1) (drop a x)) ≡ rotated (a + k) a x
last_first zero k x l =
    let z : 0 + k ≡ k = omega arith in
    let long : length (take k x) ≡ k = length-take-le k x (omega arith) in
    let last : drop k (take (k + 1) x) ≡ get_or x k 0 ∷ [] = drop-take k 1 x ∙ rw (drop-cons x k 0 (omega arith)) in
    let rest : take k (take (k + 1) x) ≡ take k x =
    rw (add-one k, take-suc x k 0 (omega arith)) (rw long at (take-append_seam (take k x) (get_or x k 0 ∷ []))) in
    rw (z, last, rest)
last_first (suc a) k [] l = let z : ⊥ = omega arith in absurd z
last_first (suc a) k (h ∷ x) l = rw (suc-add a k, suc-add (a + k) 1) (ap (λ (u : List ℕ). h ∷ u) (last_first a k x (omega arith)))

-- and its first one moved to its end
first_last : (a k : ℕ) (x : List ℕ) → a + k < length x
    → let p = take (k + 1) (drop a x) in
    take a x ++ ((drop 1 p ++ take 1 p) ++ drop (k + 1) (drop a x)) ≡ rotated a (a + k) x
first_last zero k [] l = let z : ⊥ = omega arith in absurd z
first_last zero k (h ∷ x) l = let z : 0 + k ≡ k = omega arith in rw (z, add-one k) (append_snoc (take k x) h (drop k x))
first_last (suc a) k [] l = let z : ⊥ = omega arith in absurd z
first_last (suc a) k (h ∷ x) l = rw (suc-add a k, suc-add a 1) (ap (λ (u : List ℕ). h ∷ u) (first_last a k x (omega arith)))

-- as the slice's methods leave it
module _ (x y : List ℕ) (from to : ℕ) where
  pub raised : to ≤ from → from < length x
      → let p = take (from + 1 - to) (drop to x) in
      y ≡ drop (length p - 1) p ++ take (length p - 1) p → take to x ++ (y ++ drop (from + 1 - to) (drop to x)) ≡ rotated from to x
  raised h l e =
      let k = from - to in
      let all : from + 1 - to ≡ k + 1 = omega arith in
      let there : to + k ≡ from = omega arith in
      let long : length (take (k + 1) (drop to x)) - 1 ≡ k = simp (length-take, length-drop) (omega arith) in
      rw (e, all, long) (rw there at (last_first to k x (omega arith)))

  pub lowered : from ≤ to → to < length x
      → let p = take (to + 1 - from) (drop from x) in
      y ≡ drop 1 p ++ take 1 p → take from x ++ (y ++ drop (to + 1 - from) (drop from x)) ≡ rotated from to x
  lowered h l e =
      let k = to - from in
      let all : to + 1 - from ≡ k + 1 = omega arith in
      let there : from + k ≡ to = omega arith in
      rw (e, all) (rw there at (first_last from k x (omega arith)))
