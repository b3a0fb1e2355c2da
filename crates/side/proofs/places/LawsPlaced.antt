-- An order put in at its place is 01's insert by rank. Assumes nothing.
use Prim.Native.Nat.{suc}
use mathlib.Core.Bool.{Bool, true, false}
use mathlib.Core.List.{List, [], ◌∷◌}
use mathlib.Core.Logic.{⊎_elim}
use mathlib.Core.Path.{◌≡◌, refl, ap}
use lib.ListN.{length}
use Rattle.basics.specs.Lists.{first_where, insert_at}
use Rattle.basics.proofs.LawsChoice.{holds_or_not}
use Rattle.rules.specs.declared.Resting.{Resting}
use Rattle.rules.specs.Book.{ranks_before}
use Rattle.rules.specs.Settling.{insert}

pub insert_at_lem : (buy : Bool) (x : Resting) (s : List Resting) → insert_at (first_where (ranks_before buy x) s) x s ≡ insert buy x s
unfolding first_where insert
insert_at_lem buy x [] = refl
insert_at_lem buy x (y ∷ s) =
    ⊎_elim
    (λ (t : ranks_before buy x y ≡ true). rw t)
    (λ (t : ranks_before buy x y ≡ false). rw t (ap (λ (l : List Resting). y ∷ l) (insert_at_lem buy x s)))
    (holds_or_not (ranks_before buy x y))

pub length_insert : (buy : Bool) (x : Resting) (s : List Resting) → length (insert buy x s) ≡ suc (length s)
unfolding insert
length_insert buy x [] = refl
length_insert buy x (y ∷ s) =
    ⊎_elim
    (λ (t : ranks_before buy x y ≡ true). rw t)
    (λ (t : ranks_before buy x y ≡ false). rw t (ap suc (length_insert buy x s)))
    (holds_or_not (ranks_before buy x y))
