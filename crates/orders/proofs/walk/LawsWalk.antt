-- Laws of a walk over the parts of a side: its turns, and what holds whenever the loop begins one. Assumes nothing.
use Prim.Native.Nat.{ℕ, suc, ◌+◌, ◌-◌, ◌≤◌, ◌<◌, min, max}
use mathlib.Core.Bool.{Bool, true, false}
use mathlib.Core.List.{List, [], ◌∷◌, ◌++◌, append_assoc, append-nil}
use mathlib.Core.Path.{◌≡◌, refl, sym, ap, subst, ◌∙◌}
use lib.Dec.{eqb}
use lib.ListN.{length, length-append}
use native.Mathlib.Omega.{arith}
use borrow.Author.Tests.{ne_eqb}
use Rattle.std.specs.Prelude.{if◌then◌else◌}
use Rattle.basics.specs.Lists.{total}
use Rattle.kinds.specs.Kinds.{shares}
use Rattle.rules.specs.declared.Resting.{Resting}
use Rattle.rules.specs.Book.{places_a_side}
use Rattle.rules.specs.Holdings.{nothing, walk}
use Rattle.rules.proofs.LawsTakings.{nothing_total}
use Rattle.orders.specs.declared.cursor.Cursor.{Cursor}
use Rattle.orders.specs.declared.cursor.Part.{Part}
use Rattle.orders.specs.declared.takings.Taking.{Taking}
use Rattle.orders.specs.Cursor.{parts, ahead, start, IsAt, Gives}
use Rattle.orders.specs.Room.{most_takings}
use Rattle.orders.specs.Walk.{part_is_skipped, part_gives, taking, takings_from, reached, first_skipped, takings_of, walked_of}
use Rattle.orders.proofs.cursor.LawsAhead.{ahead_start, length_parts}
use Rattle.orders.proofs.walk.LawsTaken.{taking_none, length_taking, takings_nothing, walk_nothing}

-- ── The turns of a walk ──

pub record Outcome : Type 0 where
  pub took : List Taking
  pub left : ℕ
  pub at : ℕ
  pub skipped : ℕ

-- what a walk comes to that has the takings ks, has reached the orders before `at`, and of these has skipped `skipped` first
unfoldable pub outcome : (Part → Bool) → List Taking → ℕ → ℕ → ℕ → List Part → Outcome
outcome may ks at skipped left s =
    let gs = walk may part_gives left s in
    record { took = ks ++ takings_from s gs; left = left - total gs; at = reached may at left s; skipped = first_skipped may skipped left s }

module _ (may : Part → Bool) (ks : List Taking) (at skipped left : ℕ) where
  -- the walk is over
  abbrev Over : List Part → Type 0
  Over s = outcome may ks at skipped left s ≡ record { took = ks; left = left; at = at; skipped = skipped }

  over : (s : List Part) → walk may part_gives left s ≡ nothing s → reached may at left s ≡ at → first_skipped may skipped left s ≡ skipped → Over s
  unfolding outcome
  over s e r k =
      let l : left - 0 ≡ left = omega arith in
      rw (e, r, k, takings_nothing s, nothing_total s, append-nil ks, l)

  over_end : Over []
  unfolding walk nothing reached first_skipped
  over_end = over [] refl refl refl

  over_none : left ≡ 0 → (s : List Part) → Over s
  unfolding reached first_skipped
  over_none z s = over s (rw z (walk_nothing may s)) (rw z (none_reached s)) (rw z (none_skipped s))
    where
      none_reached : (s : List Part) → reached may at 0 s ≡ at
      none_reached [] = refl
      none_reached (p ∷ s) = refl

      none_skipped : (s : List Part) → first_skipped may skipped 0 s ≡ skipped
      none_skipped [] = refl
      none_skipped (p ∷ s) = refl

  module _ (p : Part) (s : List Part) (some_left : 0 < left) where
    some : eqb left 0 ≡ false
    some = ne_eqb left 0 (λ z. omega arith)

    over_beyond : may p ≡ false → Over (p ∷ s)
    unfolding walk reached first_skipped
    over_beyond t = over (p ∷ s) (rw t) (rw (some, t)) (rw (some, t))

    turn : may p ≡ true
        → outcome may ks at skipped left (p ∷ s)
        ≡ outcome may (ks ++ taking p (part_gives left p)) (max at (p.place + 1)) (if part_is_skipped left p then min skipped p.place else skipped)
        (left - part_gives left p) s
    unfolding outcome takings_from walk reached first_skipped total
    turn t =
        let g = part_gives left p in
        let rest = walk may part_gives (left - g) s in
        let l : left - (g + total rest) ≡ left - g - total rest = omega arith in
        rw (t, some, l, append_assoc ks (taking p g) (takings_from s rest))

-- ── The loop ──

-- the takings of the parts behind the cursor are taken, and the walk goes on from there with the shares left
pub record Underway (may : Part → Bool) (want : ℕ) (s : List Resting) (took : List Taking) (c : Cursor) (left skipped : ℕ) : Type 0 where
  pub is_at : IsAt s c
  pub room : length took + length (ahead s c) ≤ length (parts s)
  pub rest : outcome may took c.at skipped left (ahead s c) ≡ outcome may [] 0 places_a_side want (parts s)

-- the walk has ended so
abbrev pub Ended : (Part → Bool) → ℕ → List Resting → List Taking → Cursor → ℕ → ℕ → Type 0
Ended may want s took c left skipped =
    (record { left = shares left; at = c.at; skipped = skipped } ≡ walked_of may want (parts s)) × (took ≡ takings_of may want (parts s))

pub underway_start : (may : Part → Bool) (want : ℕ) (s : List Resting) → Underway may want s [] start want places_a_side
underway_start may want s =
    let e = ahead_start s in
    record {
      is_at = record { within = omega arith; behind = omega arith; waits = λ p. let z : ⊥ = omega arith in absurd z };
      room = rw e (omega arith);
      rest = rw e;
    }

module _ {may : Part → Bool} {want : ℕ} {s : List Resting} {took : List Taking} {c : Cursor} {left skipped : ℕ}
    (w : Underway may want s took c left skipped) where
  ended : Over may took c.at skipped left (ahead s c) → Ended may want s took c left skipped
  unfolding outcome
  ended e =
      let f = sym e ∙ w.rest in
      let k : took ≡ takings_of may want (parts s) = ap (λ (o : Outcome). o.took) f in
      let l : left ≡ want - total (walk may part_gives want (parts s)) = ap (λ (o : Outcome). o.left) f in
      let i : c.at ≡ reached may 0 want (parts s) = ap (λ (o : Outcome). o.at) f in
      let n : skipped ≡ first_skipped may places_a_side want (parts s) = ap (λ (o : Outcome). o.skipped) f in
      (rw (← l, ← i, ← n), k)

  pub ended_side : ahead s c ≡ [] → Ended may want s took c left skipped
  ended_side e = ended (rw e (over_end may took c.at skipped left))

  pub ended_none : left ≡ 0 → Ended may want s took c left skipped
  ended_none z = ended (over_none may took c.at skipped left z (ahead s c))

  module _ (some : 0 < left) {p : Part} {next : Cursor} (g : Gives s c p next) where
    pub ended_beyond : may p ≡ false → Ended may want s took c left skipped
    ended_beyond t = ended (rw g.list (over_beyond may took c.at skipped left p (ahead s next) some t))

    underway_on : may p ≡ true → Underway may want s (took ++ taking p (part_gives left p)) next (left - part_gives left p)
        (if part_is_skipped left p then min skipped p.place else skipped)
    underway_on t =
        let x = taking p (part_gives left p) in
        let m : length took + suc (length (ahead s next)) ≤ length (parts s) = rw g.list at w.room in
        record {
          is_at = g.stands;
          room = omega (arith, length-append took x, length_taking p (part_gives left p), m);
          rest =
              ap (λ (at : ℕ). outcome may (took ++ x) at (if part_is_skipped left p then min skipped p.place else skipped) (left - part_gives left p)
              (ahead s next)) g.at
              ∙ sym (turn may took c.at skipped left p (ahead s next) some t)
              ∙ ap (outcome may took c.at skipped left) (sym g.list) ∙ w.rest;
        }

    -- by a part that is not skipped
    pub underway_taken : may p ≡ true → part_is_skipped left p ≡ false
        → Underway may want s (took ++ taking p (part_gives left p)) next (left - part_gives left p) skipped
    underway_taken t takes =
        let same : (if part_is_skipped left p then min skipped p.place else skipped) ≡ skipped = rw takes in
        subst (λ (k : ℕ). Underway may want s (took ++ taking p (part_gives left p)) next (left - part_gives left p) k) same (underway_on t)

    -- one that is skipped gives nothing
    pub underway_past : may p ≡ true → part_is_skipped left p ≡ true → Underway may want s took next left (min skipped p.place)
    underway_past t skips =
        let none : left - 0 ≡ left = omega arith in
        rw (skips, taking_none p, append-nil took, none) at (underway_on t)

    -- room for the taking of the part
    pub room_next : length s ≤ places_a_side → length took < most_takings
    room_next fits =
        let m : length took + suc (length (ahead s next)) ≤ length (parts s) = rw g.list at w.room in
        omega (arith, m, length_parts s)

-- each turn passes a part
pub less : {s : List Resting} {c : Cursor} {p : Part} {next : Cursor} → Gives s c p next → length (ahead s next) < length (ahead s c)
less g = rw g.list (omega arith)
