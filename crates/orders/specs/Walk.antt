-- What a walk takes, as a list (01, Some places and their forms: "a loop over ranked resting orders, left by break with
-- remaining shares and the place where it stopped"). The walk itself is `walk` of rules, part by part; a taking is what one
-- part gives of it.
use Rattle.std.specs.Prelude.{ℕ, ◌+◌, ◌-◌, ◌<◌, min, max, Bool, not, ◌||◌, List, [], ◌∷◌, ◌++◌, eqb, ltb, if◌then◌else◌}
use Rattle.basics.specs.Lists.{total}
use Rattle.kinds.specs.declared.HalfCents.{HalfCents}
use Rattle.kinds.specs.Kinds.{shares}
use Rattle.rules.specs.Book.{places_a_side}
use Rattle.rules.specs.Holdings.{walk}
use Rattle.rules.specs.Working.{beyond}
use Rattle.orders.specs.declared.cursor.Part.{Part}
use Rattle.orders.specs.declared.takings.Taking.{Taking}
use Rattle.orders.specs.declared.walk.Walked.{Walked}

-- the price of a part is not beyond a bound
abbrev pub is_within : Bool → HalfCents → Part → Bool
is_within buy bound p = not (beyond buy bound p.price)

-- "with less left than the smaller of its minimum and its holding, it is skipped" (02, W7); else "for the smaller of the two sizes"
abbrev pub part_is_skipped : ℕ → Part → Bool
part_is_skipped left p = ltb left (min p.minimum.0 p.shares.0)

abbrev pub part_gives : ℕ → Part → ℕ
part_gives left p = if part_is_skipped left p then 0 else min left p.shares.0

-- ── Takings ──

-- a part that gives something is a taking, one that gives nothing is none
unfoldable pub taking : Part → ℕ → List Taking
taking p g = if eqb g 0 then [] else record { place = p.place; price = p.price; shares = shares g } ∷ []

-- the takings of parts, by what each gives
unfoldable pub takings_from : List Part → List ℕ → List Taking
takings_from [] gs = []
takings_from (p ∷ s) [] = []
takings_from (p ∷ s) (g ∷ gs) = taking p g ++ takings_from s gs

-- a taking from one of the first n orders
abbrev pub is_below : ℕ → Taking → Type 0
is_below n k = k.place < n

-- one past the furthest order that a walk reaches with shares still wanted; those before `at` were reached already
unfoldable pub reached : (Part → Bool) → ℕ → ℕ → List Part → ℕ
reached may at left [] = at
reached may at left (p ∷ s) =
    if eqb left 0 || not (may p) then at
    else reached may (max at (p.place + 1)) (left - part_gives left p) s

-- the least rank among the orders that a walk skips, or `kept` if that is less
unfoldable pub first_skipped : (Part → Bool) → ℕ → ℕ → List Part → ℕ
first_skipped may kept left [] = kept
first_skipped may kept left (p ∷ s) =
    if eqb left 0 || not (may p) then kept
    else first_skipped may (if part_is_skipped left p then min kept p.place else kept) (left - part_gives left p) s

-- a walk for some shares over parts: its takings, and how it ends
abbrev pub takings_of : (Part → Bool) → ℕ → List Part → List Taking
takings_of may want s = takings_from s (walk may part_gives want s)

abbrev pub walked_of : (Part → Bool) → ℕ → List Part → Walked
walked_of may want s = record {
  left = shares (want - total (walk may part_gives want s));
  at = reached may 0 want s;
  skipped = first_skipped may places_a_side want s;
}
