-- `lent::used_in` meets its contract. Assumes nothing.
use Prim.Native.Nat.{ℕ, suc, ◌+◌, ◌≤◌, ◌<◌}
use mathlib.Core.List.{List, [], ◌∷◌}
use mathlib.Core.Logic.{⊎_elim}
use mathlib.Core.Path.{refl, sym, ap, ◌∙◌}
use lib.Dec.{ltb}
use lib.ListN.{length}
use mathlib.Core.Bool.{Bool, true, false, not, cond}
use native.Mathlib.Omega.{arith}
use borrow.Author.Tests.{lt-ltb, le-ltb, tests}
use borrow.Author.Rules.{rules}
use Rattle.std.proofs.Common.{◌≡◌}
use Rattle.std.proofs.lemmas.Iterator.{YieldsList-from_slice}
use Rattle.std.proofs.lemmas.Iterator.Search.{position_from_yields_List}
use Rattle.std.proofs.lemmas.List.Recursion.{is_position_or_len}
use Rattle.std.specs.List.{position_or_len}
use Rattle.std.specs.Option.{unwrap_or}
use Rattle.std.specs.Prelude.{Option, Some, None, if◌then◌else◌}
use Rattle.basics.specs.Lists.{first_where}
use Rattle.basics.proofs.LawsChoice.{lt_or_le}
use Rattle.rules.specs.declared.Resting.{Resting}
use Rattle.rules.specs.Book.{is_unused, places_a_side}
use Rattle.lent.proofs.used_in.Goals as goal

-- the library's first place is that of `first_where`
first_is : (s : List Resting) → first_where is_unused s ≡ position_or_len is_unused s
unfolding first_where
first_is = is_position_or_len (first_where is_unused) is_unused refl (λ o s. by_test (is_unused o) (first_where is_unused s))
  where
    by_test : (t : Bool) (n : ℕ) → (if t then 0 else suc n) ≡ cond t 0 (1 + n)
    by_test true n = refl
    by_test false n = omega arith

within : (s : List Resting) → position_or_len is_unused s ≤ length s
within [] = omega arith
within (o ∷ s) = by_test (is_unused o) (within s)
  where
    by_test : (t : Bool) {m n : ℕ} → m ≤ n → cond (not t) (1 + m) 0 ≤ suc n
    by_test true l = omega arith
    by_test false l = omega arith

-- the place that is found, or the length
found_or : (s : List Resting) (n : ℕ) → n ≤ length s → unwrap_or (cond (ltb n (length s)) (Some n) None) (length s) ≡ n
found_or s n h =
    ⊎_elim
    (λ (l : n < length s). rw (lt-ltb n (length s) l))
    (λ (l : length s ≤ n). rw (le-ltb n (length s) l) (omega arith))
    (lt_or_le n (length s))

pub returns : goal.returns
returns c =
    let s = c.args.places.now in
    let long : length s ≡ places_a_side = search rules in
    let found = position_from_yields_List is_unused _ _ c.position.result c.position.ensures.ran (YieldsList-from_slice s cc) (λ x b q k. search (rules, tests)) in
    c.unwrap_or.ensures
    ∙ ap (λ (r : Option ℕ). unwrap_or r places_a_side) found
    ∙ rw (← long) (found_or s (position_or_len is_unused s) (within s))
    ∙ sym (first_is s)
