-- What the event lines of one order tell: between whom its executions are, which share-out they tell, whether the order is killed; what its
-- refills do not tell; and that orders of a ranked side rank as they stand. Assumes nothing.
use Prim.Native.Nat.{ℕ, zero, suc, ◌≤◌, ◌<◌}
use mathlib.Core.Bool.{Bool, true, false, not, ◌&&◌, or-true, true≢false}
use mathlib.Core.List.{List, [], ◌∷◌, ◌++◌, append-nil}
use mathlib.Core.Logic.{◌≢◌, ⊎_elim}
use mathlib.Core.Path.{◌≡◌, refl, sym, ap, ◌∙◌}
use lib.Dec.{eqb}
use native.Mathlib.Omega.{arith}
use borrow.Author.Tests.{eq-eqb, eqb-true, eqb-false, not-true}
use Rattle.basics.specs.Lists.{any, distinct, total, sum_of, gathered, All, none, also, OneOf, first, later, Each, empty, with}
use Rattle.basics.proofs.LawsChoice.{holds_or_not, by_choice, and_left, and_right, or_neither}
use Rattle.basics.proofs.LawsLists.{all_alike, one_of_all, each_there, gathered_append, gathered_all}
use Rattle.kinds.specs.declared.HalfCents.{HalfCents}
use Rattle.kinds.specs.declared.Number.{Number}
use Rattle.kinds.specs.declared.Shares.{Shares}
use Rattle.kinds.specs.Kinds.{shares}
use Rattle.rules.specs.declared.Away.{Away}
use Rattle.rules.specs.declared.Ending.{Ending}
use Rattle.rules.specs.declared.Ending.TheVariants.{Filled, Rests, Cancels}
use Rattle.rules.specs.declared.Event.{Event}
use Rattle.rules.specs.declared.Event.TheVariants.{Executed, Moved}
use Rattle.rules.specs.declared.Fate.{Fate}
use Rattle.rules.specs.declared.Order.{Order}
use Rattle.rules.specs.declared.Reason.TheVariants.{FokKilled}
use Rattle.rules.specs.declared.Resting.{Resting}
use Rattle.rules.specs.Book.{numbers, ranks_before, in_rank_order}
use Rattle.rules.specs.Commands.{is_number}
use Rattle.rules.specs.Holdings.{Holding, nothing, executions}
use Rattle.rules.specs.Instructions.{ioc, fok, has}
use Rattle.rules.specs.Settling.{told_by, told}
use Rattle.rules.specs.Working.{ending_with, last_line, refill_fate}
use Rattle.rules.specs.Reasons.{number_of_reason}
use Rattle.rules.proofs.LawsRank.{ranks_not_itself, ranked_first, ranked_rest, ranks_transitive}
use Rattle.soundness.proofs.LawsEndings.{chosen, sought_is}
use Rattle.soundness.proofs.LawsNumbers.{one_if, fewer_distinct}
use Rattle.soundness.proofs.LawsSides.{both_sides, sides_sum, Sides}
use Rattle.demands.specs.Executes.{execution_in, executions_in, lines_of, Between}
use Rattle.demands.specs.Told.{executed_by, given_by, cancelled_by, executed_in, given_in, cancelled_in, kills, is_killed}
use Rattle.demands.proofs.LawsHeld.{counted_same, counted_other, NoMore}
use Rattle.demands.proofs.LawsShareOut.{priced_at}

-- ── Lines of one kind ──

-- whoever is refilled is told by a move: what holds of each move holds of the lines of the refills
pub every_refill : {P : Event → Type 0} → ((m : Number) (price : HalfCents) (k : Shares) → P (Moved m price k)) → (s : List Resting)
    → All P (told refill_fate s)
unfolding told
every_refill {P = P} f s = gathered_all (λ (h : Resting). told_by (refill_fate h) h) (all_alike (λ h p. by_refill h) (each_there s))
  where
    by_refill : (h : Resting) → All P (told_by (refill_fate h) h)
    by_refill h = by_choice (λ (x : Fate). All P (told_by x h)) (eqb h.shares.0 0) (λ t. also (f _ _ _) none) (λ t. none)

-- lines that count for nothing add up to nothing, and lines of which none passes a test pass it not together
all_nothing : {A : Type 0} (count : A → ℕ) {es : List A} → All (λ (e : A). count e ≡ 0) es → sum_of count es ≡ 0
unfolding sum_of
all_nothing count none = refl
all_nothing count (also z a) = omega (arith, z, all_nothing count a)

none_passes : {A : Type 0} (test : A → Bool) {es : List A} → All (λ (e : A). test e ≡ false) es → any test es ≡ false
unfolding any
none_passes test none = refl
none_passes test (also t a) = rw t (none_passes test a)

-- refills execute nothing, give nothing, cancel nothing and kill nobody
pub refills_execute_none : (n : Number) (s : List Resting) → executed_in n (told refill_fate s) ≡ 0
refills_execute_none n s = all_nothing (executed_by n) (every_refill (λ m price k. refl) s)

pub refills_give_none : (n : Number) (s : List Resting) → given_in n (told refill_fate s) ≡ 0
refills_give_none n s = all_nothing (given_by n) (every_refill (λ m price k. refl) s)

pub refills_cancel_none : (n : Number) (s : List Resting) → cancelled_in n (told refill_fate s) ≡ 0
refills_cancel_none n s = all_nothing (cancelled_by n) (every_refill (λ m price k. refl) s)

pub refills_kill_none : (n : Number) (s : List Resting) → is_killed n (told refill_fate s) ≡ false
refills_kill_none n s = none_passes (kills n) (every_refill (λ m price k. refl) s)

-- ── Executions are between the incoming order and the side ──

-- whoever stands on a side is found there by its number
found : {h : Resting} {s : List Resting} → OneOf h s → any (is_number h.number) s ≡ true
unfolding any
found {h = h} first = rw (eq-eqb h.number.0 h.number.0 refl) refl
found {h = h} (later {y = x} p) = rw (found p) (or-true (is_number h.number x))

some : (t : ℕ) → t ≢ 0 → 1 ≤ t
some zero n = absurd (n refl)
some (suc t) n = omega arith

pub executions_between : (n : Number) (price : Resting → HalfCents) {side : List Resting} {hs : List Holding}
    → All (λ (h : Holding). OneOf h.of side) hs → (ts : List ℕ) → All (Between n side) (executions n price hs ts)
unfolding executions
executions_between n price none ts = none
executions_between n price (also p a) [] = none
executions_between n price {side = side} (also {x = h} p a) (t ∷ ts) =
    ⊎_elim
    (λ (z : eqb t 0 ≡ true). rw z (executions_between n price a ts))
    (λ (z : eqb t 0 ≡ false).
    let own : Between n side (Executed n h.of.number (price h.of) (shares t)) = (refl, found p, some t (eqb-false t 0 z)) in
    rw z (also own (executions_between n price a ts)))
    (holds_or_not (eqb t 0))

pub last_between : (n : Number) (s : List Resting) (left : ℕ) (e : Ending) → All (Between n s) (last_line n left e)
last_between n s left Filled = none
last_between n s left (Rests price) = also tt none
last_between n s left (Cancels reason) = also tt none

-- ── Numbers that stand once ──

-- no number stands twice on a side
abbrev pub once_each : List Resting → Bool
once_each s = distinct (numbers s)

-- no order of a side has that number
abbrev pub NoneIs : Number → List Resting → Type 0
NoneIs n s = All (λ (h : Resting). n.0 ≢ h.number.0) s

not_among : (n : Number) (s : List Resting) → any (eqb n.0) (numbers s) ≡ false → NoneIs n s
unfolding any
not_among n [] e = none
not_among n (h ∷ s) e =
    let both = or_neither (eqb n.0 h.number.0) (any (eqb n.0) (numbers s)) e in
    also (eqb-false n.0 h.number.0 both.0) (not_among n s both.1)

-- the first number of such a side is none of the others, which stand once too
pub once_first : (h : Resting) (s : List Resting) → once_each (h ∷ s) ≡ true → NoneIs h.number s
unfolding distinct
once_first h s d =
    let others = any (eqb h.number.0) (numbers s) in
    not_among h.number s (not-true others (and_left (not others) (once_each s) d))

pub once_rest : (h : Resting) (s : List Resting) → once_each (h ∷ s) ≡ true → once_each s ≡ true
unfolding distinct
once_rest h s d = and_right (not (any (eqb h.number.0) (numbers s))) (once_each s) d

-- numbers that stand once over both sides stand once on the opposite one
pub opposite_once : {buy : Bool} {last : Number} {own opposite : List Resting} → Sides buy last own opposite → once_each opposite ≡ true
opposite_once {buy = buy} {own = own} {opposite = opposite} sides =
    fewer_distinct (both_sides buy own opposite) opposite (λ n. omega (arith, sides_sum (one_if n) buy own opposite)) sides.once

-- ── What execution lines tell ──

-- the executions are the lines of the share-out that is taken, each at its order's price for the walk
lines_of_taken : (m : Number) (price : Resting → HalfCents) (hs : List Holding) (ts : List ℕ)
    → executions_in (executions m price hs ts) ≡ lines_of m hs (priced_at price hs ts)
unfolding executions lines_of priced_at gathered
lines_of_taken m price [] ts = refl
lines_of_taken m price (h ∷ hs) [] = refl
lines_of_taken m price (h ∷ hs) (t ∷ ts) =
    ⊎_elim
    (λ (z : eqb t 0 ≡ true). rw z (lines_of_taken m price hs ts))
    (λ (z : eqb t 0 ≡ false).
    rw z (ap (λ (es : List Event). Executed m h.of.number (price h.of) (shares t) ∷ es) (lines_of_taken m price hs ts)))
    (holds_or_not (eqb t 0))

-- where nothing is taken there is none
pub lines_of_nothing : (m : Number) (price : Resting → HalfCents) (hs : List Holding) → lines_of m hs (priced_at price hs (nothing hs)) ≡ []
unfolding lines_of priced_at nothing
lines_of_nothing m price [] = refl
lines_of_nothing m price (h ∷ hs) = lines_of_nothing m price hs

-- no other line of an order is one of them
last_no_execution : (m : Number) (left : ℕ) (e : Ending) → executions_in (last_line m left e) ≡ []
unfolding gathered
last_no_execution m left Filled = refl
last_no_execution m left (Rests price) = refl
last_no_execution m left (Cancels reason) = refl

refills_no_execution : (s : List Resting) → executions_in (told refill_fate s) ≡ []
unfolding gathered
refills_no_execution s = none_gathered (every_refill (λ m price k. refl) s)
  where
    none_gathered : {es : List Event} → All (λ (e : Event). execution_in e ≡ []) es → executions_in es ≡ []
    none_gathered none = refl
    none_gathered (also z a) = rw z (none_gathered a)

pub lines_told : (m : Number) (price : Resting → HalfCents) (hs : List Holding) (ts : List ℕ) (left : ℕ) (e : Ending) (s : List Resting)
    → executions_in (executions m price hs ts ++ (last_line m left e ++ told refill_fate s)) ≡ lines_of m hs (priced_at price hs ts)
lines_told m price hs ts left e s =
    gathered_append execution_in (executions m price hs ts) (last_line m left e ++ told refill_fate s)
    ∙ rw (gathered_append execution_in (last_line m left e) (told refill_fate s), last_no_execution m left e, refills_no_execution s)
    (append-nil (executions_in (executions m price hs ts)) ∙ lines_of_taken m price hs ts)

-- .. and of the incoming order, which is none of the side, what is taken in all
pub executed_total : (m : Number) (price : Resting → HalfCents) {hs : List Holding} {ts : List ℕ} → Each NoMore hs ts
    → All (λ (h : Holding). m.0 ≢ h.of.number.0) hs → executed_in m (executions m price hs ts) ≡ total ts
unfolding executions sum_of total
executed_total m price empty none = refl
executed_total m price (with {x = h} {y = t} {u = ts} l e) (also d a) =
    let ih = executed_total m price e a in
    ⊎_elim
    (λ (z : eqb t 0 ≡ true). rw z (omega (arith, ih, eqb-true t 0 z)))
    (λ (z : eqb t 0 ≡ false). rw z (omega (arith, ih, counted_same m m t refl, counted_other m h.of.number t d)))
    (holds_or_not (eqb t 0))

-- ── The last line ──

-- it executes nothing, and nobody gives by it
pub last_executes_none : (n m : Number) (left : ℕ) (e : Ending) → executed_in n (last_line m left e) ≡ 0
unfolding sum_of
last_executes_none n m left Filled = refl
last_executes_none n m left (Rests price) = refl
last_executes_none n m left (Cancels reason) = refl

pub last_gives_none : (n m : Number) (left : ℕ) (e : Ending) → given_in n (last_line m left e) ≡ 0
unfolding sum_of
last_gives_none n m left Filled = refl
last_gives_none n m left (Rests price) = refl
last_gives_none n m left (Cancels reason) = refl

-- ── Kills ──

-- an order ends as a killed one
abbrev pub is_kill : Ending → Bool
is_kill Filled = false
is_kill (Rests price) = false
is_kill (Cancels reason) = eqb (number_of_reason reason) (number_of_reason FokKilled)

-- the last line kills exactly by that ending, and none behind it does
pub last_kills : (m : Number) (left : ℕ) (e : Ending) (s : List Resting) → is_killed m (last_line m left e ++ told refill_fate s) ≡ is_kill e
unfolding any
last_kills m left Filled s = refills_kill_none m s
last_kills m left (Rests price) s = refills_kill_none m s
last_kills m left (Cancels reason) s =
    ⊎_elim
    (λ (t : eqb (number_of_reason reason) (number_of_reason FokKilled) ≡ true). rw (eq-eqb m.0 m.0 refl, t) refl)
    (λ (t : eqb (number_of_reason reason) (number_of_reason FokKilled) ≡ false). rw (eq-eqb m.0 m.0 refl, t) (refills_kill_none m s))
    (holds_or_not (eqb (number_of_reason reason) (number_of_reason FokKilled)))

-- .. and then cancels what is left
pub kill_cancels : (m : Number) (left : ℕ) (e : Ending) → is_kill e ≡ true → cancelled_in m (last_line m left e) ≡ left
unfolding sum_of
kill_cancels m left Filled k = absurd (true≢false (sym k))
kill_cancels m left (Rests price) k = absurd (true≢false (sym k))
kill_cancels m left (Cancels reason) k = omega (arith, counted_same m m left refl)

-- executions kill nobody
pub executions_kill_none : (n m : Number) (price : Resting → HalfCents) (s : List Holding) (ts : List ℕ) (fs : List Event)
    → is_killed n (executions m price s ts ++ fs) ≡ is_killed n fs
unfolding executions any
executions_kill_none n m price [] ts fs = refl
executions_kill_none n m price (h ∷ s) [] fs = refl
executions_kill_none n m price (h ∷ s) (t ∷ ts) fs =
    ⊎_elim
    (λ (z : eqb t 0 ≡ true). rw z (executions_kill_none n m price s ts fs))
    (λ (z : eqb t 0 ≡ false). rw z (executions_kill_none n m price s ts fs))
    (holds_or_not (eqb t 0))

-- what seeks its price ends as no killed one
abbrev Lives : Ending → Type 0
Lives e = is_kill e ≡ false

-- an order ends as a killed one exactly if it is a Fill-or-Kill of which something is left
pub ending_kills : (left : ℕ) (o : Order) (away : Away) (own opposite : List Resting)
    → is_kill (ending_with left o away own opposite) ≡ (not (eqb left 0) && has o.word fok)
unfolding ending_with
ending_kills left o away own opposite =
    ⊎_elim
    (λ (z : eqb left 0 ≡ true). rw z refl)
    (λ (z : eqb left 0 ≡ false).
    ⊎_elim
    (λ (k : has o.word fok ≡ true). rw (z, k) refl)
    (λ (k : has o.word fok ≡ false).
    rw (z, k) (chosen Lives (has o.word ioc) refl (sought_is Lives (λ price e. refl) refl refl refl refl o away own opposite refl)))
    (holds_or_not (has o.word fok)))
    (holds_or_not (eqb left 0))

-- ── Rank and places ──

-- none ranks before itself
never_before_itself : {P : Type 0} (buy : Bool) (x : Resting) → ranks_before buy x x ≡ true → P
never_before_itself buy x r = absurd (true≢false (sym r ∙ ranks_not_itself buy x))

-- the place of one of a list
abbrev pub place : {A : Type 0} {x : A} {s : List A} → OneOf x s → ℕ
place first = zero
place (later p) = suc (place p)

-- on a side in rank order, who ranks before another stands before it
pub stands_before : (buy : Bool) {x y : Resting} {s : List Resting} → in_rank_order buy s ≡ true → (p : OneOf x s) (q : OneOf y s)
    → ranks_before buy x y ≡ true → place p < place q
stands_before buy {x = x} r first first b = never_before_itself buy x b
stands_before buy r first (later q) b = omega arith
stands_before buy {x = x} {y = y} r (later {s = s} p) first b =
    never_before_itself buy x (ranks_transitive buy x y x b (one_of_all (ranked_first buy y s r) p))
stands_before buy r (later {y = h} {s = s} p) (later q) b = omega (arith, stands_before buy (ranked_rest buy h s r) p q b)
