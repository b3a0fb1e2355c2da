-- One order of a side settled after the other, whatever the fate of each: what is left to do then is what settles the rest. An order that
-- stays, or is taken off, changes nothing of the others. Assumes nothing.
use Prim.Native.Nat.{ℕ, ◌+◌}
use mathlib.Core.Bool.{Bool, true, false}
use mathlib.Core.List.{List, [], ◌∷◌, ◌++◌}
use mathlib.Core.Logic.{⊎_elim}
use mathlib.Core.Path.{◌≡◌, refl, sym, ap, subst, ◌∙◌}
use lib.ListN.{take, drop}
use Rattle.basics.specs.Lists.{remove_at, gathered, All, none, also}
use Rattle.basics.proofs.LawsChoice.{holds_or_not}
use Rattle.basics.proofs.LawsLists.{all_alike, one_of_all}
use Rattle.kinds.specs.declared.Number.{Number}
use Rattle.rules.specs.declared.Fate.{Fate}
use Rattle.rules.specs.declared.Fate.TheVariants.{Stays, IsCancelled, IsSet}
use Rattle.rules.specs.declared.Resting.{Resting}
use Rattle.rules.specs.declared.Stamp.{Stamp}
use Rattle.rules.specs.Book.{stamp, ranks_before, in_rank_order}
use Rattle.rules.specs.Settling.{stamped_as, insert, insert_all, kept_by, set_by, told_by, staying, set_anew, told, stamped_from, settled_side}
use Rattle.rules.proofs.LawsCommands.{IfSet}
use Rattle.soundness.proofs.LawsInsert.{Added, here, later, added_insert}
use Rattle.rules.proofs.LawsRank.{ranks_transitive, ranked_first, ranked_rest}
use Rattle.soundness.proofs.LawsSettled.{next_place, staying_are}
use Rattle.settling.specs.OneByOne.{settled_at}

-- ── What is gathered ──

module _ {B : Type 0} (give : Resting → List B) where
  -- of those in front nothing is
  past : {pre : List Resting} → All (λ (h : Resting). give h ≡ []) pre → (h : Resting) (post : List Resting)
      → gathered give (pre ++ (h ∷ post)) ≡ give h ++ gathered give (pre ++ post)
  unfolding gathered
  past none h post = refl
  past (also p a) h post = rw p (past a h post)

  -- of one more nothing is
  one_more_lem : {x : Resting} → give x ≡ [] → {s r : List Resting} → Added x s r → gathered give r ≡ gathered give s
  unfolding gathered
  one_more_lem e here = rw e
  one_more_lem e (later {y = y} a) = ap (λ (l : List B). give y ++ l) (one_more_lem e a)

  -- of all nothing is
  silence : {s : List Resting} → All (λ (h : Resting). give h ≡ []) s → gathered give s ≡ []
  unfolding gathered
  silence none = refl
  silence (also p a) = rw p (silence a)

added_at : (pre : List Resting) (h : Resting) (post : List Resting) → Added h (pre ++ post) (pre ++ (h ∷ post))
added_at [] h post = here
added_at (x ∷ pre) h post = later (added_at pre h post)

-- ── An order that stays ──

insert_first : (buy : Bool) (x : Resting) {s : List Resting} → All (λ (y : Resting). ranks_before buy x y ≡ true) s → insert buy x s ≡ x ∷ s
unfolding insert
insert_first buy x none = refl
insert_first buy x (also t a) = rw t

module _ (fate : Resting → Fate) where
  -- all of these stay
  abbrev pub Stay : List Resting → Type 0
  Stay s = All (λ (h : Resting). fate h ≡ Stays) s

  -- where all do, nothing is left to do
  module _ {s : List Resting} (all : Stay s) where
    pub told_none : told fate s ≡ []
    unfolding told
    told_none = silence (λ (h : Resting). told_by (fate h) h) (all_alike (λ h p. rw p) all)

    pub anew_none : set_anew fate s ≡ []
    unfolding set_anew
    anew_none = silence (λ (h : Resting). set_by (fate h)) (all_alike (λ h p. rw p) all)

    pub settled_none : (n : Number) (k : ℕ) (buy : Bool) → settled_side n k buy fate s ≡ s
    unfolding settled_side stamped_from insert_all staying gathered
    settled_none n k buy = rw anew_none (left all)
      where
        left : {s : List Resting} → Stay s → staying fate s ≡ s
        left none = refl
        left (also {x = h} p a) = rw p (ap (λ (l : List Resting). h ∷ l) (left a))

  -- one takes its place by rank among those that stay
  staying_inserted : {x : Resting} → fate x ≡ Stays → (buy : Bool) (s : List Resting) → in_rank_order buy s ≡ true
      → staying fate (insert buy x s) ≡ insert buy x (staying fate s)
  unfolding staying gathered insert
  staying_inserted {x = x} stays buy [] r = rw stays
  staying_inserted {x = x} stays buy (y ∷ s) r =
      ⊎_elim
      (λ (t : ranks_before buy x y ≡ true).
      let behind : All (λ (z : Resting). ranks_before buy x z ≡ true) (y ∷ s) =
      also t (all_alike (λ z p. ranks_transitive buy x y z t p) (ranked_first buy y s r)) in
      rw (t, stays) (sym (insert_first buy x (staying_are fate (y ∷ s) (λ z p e. one_of_all behind p)))))
      (λ (t : ranks_before buy x y ≡ false). rw (t, staying_inserted stays buy s (ranked_rest buy y s r)) (by_fate t (fate y)))
      (holds_or_not (ranks_before buy x y))
    where
      by_fate : ranks_before buy x y ≡ false → (f : Fate) → kept_by f y ++ insert buy x (staying fate s) ≡ insert buy x (kept_by f y ++ staying fate s)
      by_fate t Stays = rw t
      by_fate t (IsCancelled reason) = refl
      by_fate t (IsSet new) = refl

-- ── One order meets its fate, behind some that stay ──

-- whoever is set anew stays from then on
abbrev pub SetStays : (Resting → Fate) → Stamp → Fate → Type 0
SetStays fate anew f = IfSet (λ (new : Resting). fate (stamped_as anew new) ≡ Stays) f

pub added_others : (at : ℕ) (s : List Resting) (h : Resting) → s ≡ take at s ++ (h ∷ drop (at + 1) s) → Added h (remove_at at s) s
added_others at s h is = subst (Added h (remove_at at s)) (sym is) (added_at (take at s) h (drop (at + 1) s))

module _ (fate : Resting → Fate) (n : Number) (k : ℕ) (buy : Bool) (at : ℕ) (s : List Resting) (h : Resting)
    (is : s ≡ take at s ++ (h ∷ drop (at + 1) s)) (passed : Stay fate (take at s)) where
  abbrev others : List Resting
  others = remove_at at s

  staying_gone : kept_by (fate h) h ≡ [] → staying fate s ≡ staying fate others
  unfolding staying
  staying_gone gone = one_more_lem (λ (x : Resting). kept_by (fate x) x) gone (added_others at s h is)

  -- what is gathered of none that stays
  gathered_one : {B : Type 0} (give : Resting → List B) → ((x : Resting) → fate x ≡ Stays → give x ≡ []) → (f : Fate) → fate h ≡ f → SetStays fate (stamp n k) f
      → gathered give s ≡ give h ++ gathered give (settled_at n k buy f at s)
  gathered_one give silent Stays e i = rw (silent h e)
  gathered_one give silent (IsCancelled reason) e i = ap (gathered give) is ∙ past give (all_alike silent passed) h (drop (at + 1) s)
  gathered_one give silent (IsSet new) e i =
      let x = stamped_as (stamp n k) new in
      ap (gathered give) is ∙ past give (all_alike silent passed) h (drop (at + 1) s)
      ∙ rw (one_more_lem give (silent x i) (added_insert buy x others))

  module _ (i : SetStays fate (stamp n k) (fate h)) where
    pub told_one : told fate s ≡ told_by (fate h) h ++ told fate (settled_at n k buy (fate h) at s)
    unfolding told
    told_one = gathered_one (λ (x : Resting). told_by (fate x) x) (λ x p. rw p) (fate h) refl i

    pub anew_one : set_anew fate s ≡ set_by (fate h) ++ set_anew fate (settled_at n k buy (fate h) at s)
    unfolding set_anew
    anew_one = gathered_one (λ (x : Resting). set_by (fate x)) (λ x p. rw p) (fate h) refl i

    pub settled_one : in_rank_order buy others ≡ true
        → settled_side n k buy fate s ≡ settled_side n (next_place (fate h) k) buy fate (settled_at n k buy (fate h) at s)
    unfolding settled_side insert_all stamped_from
    settled_one r = by_fate (fate h) refl i anew_one
      where
        by_fate : (f : Fate) → fate h ≡ f → SetStays fate (stamp n k) f → set_anew fate s ≡ set_by f ++ set_anew fate (settled_at n k buy f at s)
            → settled_side n k buy fate s ≡ settled_side n (next_place f k) buy fate (settled_at n k buy f at s)
        by_fate Stays e i a = refl
        by_fate (IsCancelled reason) e i a = rw (a, staying_gone (rw e))
        by_fate (IsSet new) e i a = rw (a, staying_gone (rw e), staying_inserted fate i buy others r)
