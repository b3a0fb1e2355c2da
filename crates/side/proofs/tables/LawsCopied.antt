-- A list copied place by place onto another, each element changed by a function: loading and saving are both this. Assumes nothing.
use Prim.Native.Nat.{ℕ, ◌+◌, ◌≤◌, ◌<◌}
use mathlib.Core.List.{List, [], ◌∷◌, ◌++◌, map, map-append}
use mathlib.Core.Path.{◌≡◌, ◌∙◌}
use lib.ListN.{length, take, drop, get_or, set, length-map}
use lib.Seq.{take-suc, drop-cons, set_at, length-take-le, append_snoc, take-append_seam}
use native.Mathlib.Numerals.{add-one}
use native.Mathlib.Omega.{arith}

-- the first i places are copied
abbrev pub copied : {A B : Type 0} → (A → B) → List A → List B → ℕ → List B
copied f from onto i = map f (take i from) ++ drop i onto

module _ {A B : Type 0} (f : A → B) where
  long : (from : List A) (i : ℕ) → i ≤ length from → length (map f (take i from)) ≡ i
  long from i l = length-map (take i from) f ∙ length-take-le i from l

  pub copied_step : (d : A) (e : B) (from : List A) (onto b : List B) (i : ℕ) (x : B) → i < length from → i < length onto → x ≡ f (get_or from i d)
      → b ≡ copied f from onto i → set b i x ≡ copied f from onto (i + 1)
  copied_step d e from onto b i x l m v h =
      let next : drop i onto ≡ get_or onto i e ∷ drop (i + 1) onto = drop-cons onto i e m ∙ rw add-one in
      rw (h, v, next) (set_at (map f (take i from)) (get_or onto i e) (drop (i + 1) onto) (f (get_or from i d)) i (long from i (omega arith))
      ∙ rw (add-one i, take-suc from i d, map-append f (take i from) (get_or from i d ∷ []), append_snoc))

  pub copied_front : (from : List A) (onto : List B) (n : ℕ) → n ≤ length from → take n (copied f from onto n) ≡ map f (take n from)
  copied_front from onto n l = rw (long from n l) at (take-append_seam (map f (take n from)) (drop n onto))
