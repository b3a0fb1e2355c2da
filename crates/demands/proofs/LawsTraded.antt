-- Each execution of a day is between one of the buys and one of the sells that the day entered; and so the shares bought are the shares
-- sold. Assumes nothing.
use Prim.Native.Nat.{ℕ, ◌+◌, ◌≤◌}
use mathlib.Core.Bool.{Bool, true, false}
use mathlib.Core.List.{List, [], ◌∷◌, ◌++◌, append_assoc}
use mathlib.Core.Logic.{◌≢◌, inl, inr, ⊎_elim}
use mathlib.Core.Path.{◌≡◌, refl, sym, ap, ◌∙◌, subst, subst₂}
use lib.Dec.{eqb}
use native.Mathlib.Omega.{arith}
use borrow.Author.Tests.{eq-eqb, ne_eqb, eqb-true, eqb-false}
use Rattle.std.specs.Prelude.{if◌then◌else◌, Some, None}
use Rattle.basics.specs.Lists.{sum_of, All, none, also, OneOf, first, later}
use Rattle.basics.proofs.LawsChoice.{holds_or_not}
use Rattle.basics.proofs.LawsLists.{all_alike, all_both, sum_of_append, one_of_all, in_front_lem, behind}
use Rattle.kinds.specs.declared.Number.{Number}
use Rattle.rules.specs.declared.Body.{Body}
use Rattle.rules.specs.declared.Body.TheVariants as body
use Rattle.rules.specs.declared.Command.{Command}
use Rattle.rules.specs.declared.Event.{Event}
use Rattle.rules.specs.declared.Event.TheVariants.{Executed, Rested, Cancelled, Moved}
use Rattle.rules.specs.declared.Order.{Order}
use Rattle.rules.specs.CommandLines.{Reading}
use Rattle.rules.specs.declared.Resting.{Resting}
use Rattle.rules.specs.Book.{Book, fresh, sound}
use Rattle.rules.specs.CommandLines.{command_in}
use Rattle.rules.specs.Commands.{does}
use Rattle.rules.specs.Day.{printed_of}
use Rattle.rules.specs.Refusals.{first_of, body_refusals}
use Rattle.rules.specs.Settling.{own_side, opposite_side}
use Rattle.rules.specs.Step.{answer_to}
use Rattle.rules.specs.Working.{Met, buying, met_by}
use Rattle.rules.proofs.LawsCommands.{does_tells}
use Rattle.soundness.proofs.LawsAccepted.{InOrder, accepted_order}
use Rattle.soundness.proofs.LawsKept.{answer_sound, fresh_sound}
use Rattle.soundness.proofs.LawsSound.{Sound, sound_is}
use Rattle.demands.specs.Beyond.{order_number, number_entered, numbers_entered, executed_by_all, Pairs}
use Rattle.demands.specs.Once.{command_number, acts}
use Rattle.demands.specs.Run.{events_of}
use Rattle.demands.specs.Told.{events_in, counted_if, executed_by, executed_in}
use Rattle.demands.proofs.LawsExecutes.{acts_order, order_side}
use Rattle.demands.proofs.LawsFairly.{every_told, FairlyExecuted, order_fairly}
use Rattle.demands.proofs.LawsHeld.{counted_same, counted_other}
use Rattle.demands.proofs.LawsOnce.{next_acts, answer_rises}
use Rattle.demands.proofs.LawsOrigins.{Comes, stayed, anew, rests, does_comes, after_line}
use Rattle.demands.proofs.LawsRun.{accepted_does, run_read}

-- ── Who is entered ──

-- the numbers of a side that one line enters
abbrev entered_at : ℕ → Book → List ℕ → List Number
entered_at side b line = if acts b line then number_entered side (command_in line) else []

-- those of a run are those of its first line and those of the rest
entered_first : (side : ℕ) (b : Book) (line : List ℕ) (lines : List (List ℕ))
    → numbers_entered side b (line ∷ lines) ≡ entered_at side b line ++ numbers_entered side (answer_to b line).book lines
unfolding numbers_entered
entered_first side b line lines =
    ⊎_elim
    (λ (t : acts b line ≡ true). rw t refl)
    (λ (t : acts b line ≡ false). rw t refl)
    (holds_or_not (acts b line))

-- 0 buys, 1 sells
abbrev side_of : Bool → ℕ
side_of true = 0
side_of false = 1

-- the numbers of each side, some of before and those that a line enters
abbrev with_line : (Bool → List Number) → Book → List ℕ → Bool → List Number
with_line ns b line buy = ns buy ++ entered_at (side_of buy) b line

-- each resting order of a side has a number of that side
abbrev Listed : (Bool → List Number) → Book → Type 0
Listed ns b = (buy : Bool) → All (λ (h : Resting). OneOf h.number (ns buy)) (own_side buy b)

-- an accepted order is entered on its side
order_entered : (c : Command) (o : Order) (buy : Bool) → o.side ≤ 1 → buying o ≡ buy → OneOf c.number (order_number (side_of buy) c (body.Order o))
order_entered c o true l t = rw t first
order_entered c o false l t =
    let sells : o.side ≡ 1 = omega (arith, l, eqb-false o.side 0 t) in
    rw (eq-eqb o.side 1 sells) first

module _ (ns : Bool → List Number) (b : Book) (is_sound : Sound b) (listed : Listed ns b) where
  -- after a command, with the number that it enters
  does_listed : (c : Command) (x : Body) → first_of (body_refusals b x) ≡ 0
      → Listed (λ buy. ns buy ++ order_number (side_of buy) c x) (does c.number c.time x b).book
  does_listed c x accepted buy = all_alike (comes_listed x accepted) (does_comes b is_sound c.number c.time x buy)
    where
      comes_listed : (x : Body) → first_of (body_refusals b x) ≡ 0 → (h : Resting) → Comes b c.number buy h x
          → OneOf h.number (ns buy ++ order_number (side_of buy) c x)
      comes_listed x accepted h (stayed g p a i e) = rw i (in_front_lem (order_number (side_of buy) c x) (one_of_all (listed buy) p))
      comes_listed x accepted h (anew g new p a i e) = rw i (in_front_lem (order_number (side_of buy) c x) (one_of_all (listed buy) p))
      comes_listed (body.Order o) accepted h (rests t e i) =
          rw i (behind (ns buy) (order_entered c o buy (order_side o (accepted_order b o accepted).in_range) t))

-- ── Executions pair ──

-- longer lists have the pairs of shorter ones
pairs_more : {buys buys' sells sells' : List Number} → ((n : Number) → OneOf n buys → OneOf n buys') → ((n : Number) → OneOf n sells → OneOf n sells')
    → (e : Event) → Pairs buys sells e → Pairs buys' sells' e
pairs_more f g (Executed incoming resting price shares) p =
    ⊎_elim (λ q. inl (f incoming q.0, g resting q.1)) (λ q. inr (g incoming q.0, f resting q.1)) p
pairs_more f g (Rested n price shares) p = tt
pairs_more f g (Cancelled n shares reason) p = tt
pairs_more f g (Moved n price shares) p = tt

module _ (ns : Bool → List Number) (b : Book) (line : List ℕ) (s : sound b ≡ true) (listed : Listed ns b) where
  -- what a line enters is listed after it
  line_listed : Listed (with_line ns b line) (answer_to b line).book
  line_listed =
      after_line (λ (book : Book) (events : List Event). Listed (with_line ns b line) book) b line
      (λ t buy. all_alike (λ h p. in_front_lem (entered_at (side_of buy) b line) p) (listed buy))
      (λ c t e order buy. rw (t, e) (does_listed ns b (sound_is b s) listed c c.body order.by_body buy))

  -- an execution of an order of one side is with one of the other
  fairly_pairs : (o : Order) (met : Met) (n : Number) (buy : Bool) → met.opposite ≡ opposite_side buy b → OneOf n (with_line ns b line buy)
      → (e : Event) → FairlyExecuted o met n e → Pairs (with_line ns b line true) (with_line ns b line false) e
  fairly_pairs o met n true same p (Executed incoming resting price shares) q =
      let whom = one_of_all (listed false) (subst (OneOf q.whom) same q.there) in
      inl (rw q.is_incoming p, rw q.is_resting (in_front_lem (entered_at 1 b line) whom))
  fairly_pairs o met n false same p (Executed incoming resting price shares) q =
      let whom = one_of_all (listed true) (subst (OneOf q.whom) same q.there) in
      inr (rw q.is_incoming p, rw q.is_resting (in_front_lem (entered_at 0 b line) whom))
  fairly_pairs o met n buy same p (Rested m price shares) q = tt
  fairly_pairs o met n buy same p (Cancelled m shares reason) q = tt
  fairly_pairs o met n buy same p (Moved m price shares) q = tt

  -- whatever a command does
  body_pairs : (c : Command) → acts b line ≡ true → command_in line ≡ Some c → InOrder b c → (x : Body) → c.body ≡ x
      → All (Pairs (with_line ns b line true) (with_line ns b line false)) (does c.number c.time x b).events
  body_pairs c t e order =
      does_tells c.number c.time b
      (λ (x : Body) (es : List Event). c.body ≡ x → All (Pairs (with_line ns b line true) (with_line ns b line false)) es) order_pairs
      (λ x f. every_told (λ m k reason. tt) (λ m price k. tt) x b)
    where
      order_pairs : (o : Order) → c.body ≡ body.Order o
          → All (Pairs (with_line ns b line true) (with_line ns b line false)) (does c.number c.time (body.Order o) b).events
      order_pairs o f =
          let events = (accepted_does b line c e t).1 ∙ ap (λ (x : Body). (does c.number c.time x b).events) f in
          let side = order_side o (acts_order b c o order f).in_range in
          let new : OneOf c.number (entered_at (side_of (buying o)) b line) = rw (t, e, f) (order_entered c o (buying o) side refl) in
          subst (All (Pairs (with_line ns b line true) (with_line ns b line false))) events
          (all_alike (fairly_pairs o (met_by o b) c.number (buying o) refl (behind (ns (buying o)) new))
          (order_fairly b line c o s t e f))

  -- whatever a line tells
  line_pairs : All (Pairs (with_line ns b line true) (with_line ns b line false)) (answer_to b line).events
  line_pairs =
      after_line (λ (book : Book) (events : List Event). All (Pairs (with_line ns b line true) (with_line ns b line false)) events) b line (λ t. none)
      (λ c t e order. body_pairs c t e order c.body refl)

-- over any run
run_pairs : (ns : Bool → List Number) (b : Book) (lines : List (List ℕ)) → sound b ≡ true → Listed ns b
    → All (Pairs (ns true ++ numbers_entered 0 b lines) (ns false ++ numbers_entered 1 b lines)) (events_of b lines)
unfolding events_of
run_pairs ns b [] s listed = none
run_pairs ns b (line ∷ lines) s listed =
    let book = (answer_to b line).book in
    let more = with_line ns b line in
    let onward = run_pairs more book lines (answer_sound b line s) (line_listed ns b line s listed) in
    let longer = pairs_more (λ n p. in_front_lem (numbers_entered 0 book lines) p) (λ n p. in_front_lem (numbers_entered 1 book lines) p) in
    let here = all_alike longer (line_pairs ns b line s listed) in
    subst₂ (λ (buys sells : List Number). All (Pairs buys sells) ((answer_to b line).events ++ events_of book lines))
    (regrouped true) (regrouped false) (all_both here onward)
  where
    regrouped : (buy : Bool) → with_line ns b line buy ++ numbers_entered (side_of buy) (answer_to b line).book lines
        ≡ ns buy ++ numbers_entered (side_of buy) b (line ∷ lines)
    regrouped buy =
        append_assoc (ns buy) (entered_at (side_of buy) b line) (numbers_entered (side_of buy) (answer_to b line).book lines)
        ∙ ap (λ (s : List Number). ns buy ++ s) (sym (entered_first (side_of buy) b line lines))

-- each execution of a day is between one of its buys and one of its sells
pub executions_pair : (lines : List (List ℕ)) → All (Pairs (numbers_entered 0 fresh lines) (numbers_entered 1 fresh lines)) (events_in (printed_of fresh lines))
executions_pair lines = rw (run_read lines) (run_pairs (λ buy. []) fresh lines fresh_sound fresh_listed)
  where
    fresh_listed : Listed (λ buy. []) fresh
    fresh_listed true = none
    fresh_listed false = none

-- ── Each number is entered once ──

-- k for each time that m is among some numbers
abbrev count_of : Number → ℕ → List Number → ℕ
count_of m k ns = sum_of (λ (n : Number). counted_if n m k) ns

-- one that is among them counts
counts_among : (m : Number) (k : ℕ) {ns : List Number} → OneOf m ns → k ≤ count_of m k ns
unfolding sum_of
counts_among m k first = omega (arith, counted_same m m k refl)
counts_among m k (later p) = omega (arith, counts_among m k p)

module _ (m : Number) (k : ℕ) where
  -- a command enters no other number than its own, and that on one side
  other_uncounted : (side : ℕ) (c : Command) (x : Body) → c.number.0 ≢ m.0 → count_of m k (order_number side c x) ≡ 0
  unfolding sum_of
  other_uncounted side c (body.Order o) d =
      ⊎_elim
      (λ (t : eqb o.side side ≡ true). rw t (omega (arith, counted_other c.number m k d)))
      (λ (t : eqb o.side side ≡ false). rw t refl)
      (holds_or_not (eqb o.side side))
  other_uncounted side c (body.Cancel of) d = refl
  other_uncounted side c (body.Quote away) d = refl
  other_uncounted side c body.Close d = refl

  counted_at_most : (n : Number) → counted_if n m k ≤ k
  counted_at_most n =
      ⊎_elim
      (λ (t : eqb n.0 m.0 ≡ true). rw t (omega arith))
      (λ (t : eqb n.0 m.0 ≡ false). rw t (omega arith))
      (holds_or_not (eqb n.0 m.0))

  one_side : (c : Command) (x : Body) → count_of m k (order_number 0 c x) + count_of m k (order_number 1 c x) ≤ k
  unfolding sum_of
  one_side c (body.Order o) =
      ⊎_elim
      (λ (t : eqb o.side 0 ≡ true).
      let buys : o.side ≡ 0 = eqb-true o.side 0 t in
      rw (t, ne_eqb o.side 1 (λ (z : o.side ≡ 1). omega (arith, buys, z))) (omega (arith, counted_at_most c.number)))
      (λ (t : eqb o.side 0 ≡ false). rw t (sells (eqb o.side 1)))
      (holds_or_not (eqb o.side 0))
    where
      sells : (t : Bool) → 0 + count_of m k (if t then c.number ∷ [] else []) ≤ k
      sells true = omega (arith, counted_at_most c.number)
      sells false = omega arith
  one_side c (body.Cancel of) = omega arith
  one_side c (body.Quote away) = omega arith
  one_side c body.Close = omega arith

  -- the same of a line
  line_uncounted : (side : ℕ) (b : Book) (line : List ℕ) → m.0 ≢ b.held.last.0 + 1 → count_of m k (entered_at side b line) ≡ 0
  unfolding sum_of
  line_uncounted side b line d =
      ⊎_elim
      (λ (t : acts b line ≡ true). rw t (by_reading (command_in line) (next_acts b line t).0))
      (λ (t : acts b line ≡ false). rw t refl)
      (holds_or_not (acts b line))
    where
      by_reading : (r : Reading) → command_number r ≡ b.held.last.0 + 1 → count_of m k (number_entered side r) ≡ 0
      by_reading None e = refl
      by_reading (Some c) e = other_uncounted side c c.body (λ (z : c.number.0 ≡ m.0). d (sym z ∙ e))

  line_once : (b : Book) (line : List ℕ) → count_of m k (entered_at 0 b line) + count_of m k (entered_at 1 b line) ≤ k
  unfolding sum_of
  line_once b line =
      ⊎_elim
      (λ (t : acts b line ≡ true). rw t (by_reading (command_in line)))
      (λ (t : acts b line ≡ false). rw t (omega arith))
      (holds_or_not (acts b line))
    where
      by_reading : (r : Reading) → count_of m k (number_entered 0 r) + count_of m k (number_entered 1 r) ≤ k
      by_reading None = omega arith
      by_reading (Some c) = one_side c c.body

  -- the count of a run is that of its first line and that of the rest
  count_first : (side : ℕ) (b : Book) (line : List ℕ) (lines : List (List ℕ))
      → count_of m k (numbers_entered side b (line ∷ lines)) ≡ count_of m k (entered_at side b line) + count_of m k (numbers_entered side (answer_to b line).book lines)
  count_first side b line lines =
      ap (count_of m k) (entered_first side b line lines)
      ∙ sum_of_append (λ (n : Number). counted_if n m k) (entered_at side b line) (numbers_entered side (answer_to b line).book lines)

  -- no number up to the last is entered any more
  old_uncounted : (side : ℕ) (b : Book) (lines : List (List ℕ)) → m.0 ≤ b.held.last.0 → count_of m k (numbers_entered side b lines) ≡ 0
  unfolding numbers_entered sum_of
  old_uncounted side b [] l = refl
  old_uncounted side b (line ∷ lines) l =
      let other : m.0 ≢ b.held.last.0 + 1 = λ (z : m.0 ≡ b.held.last.0 + 1). omega (arith, z) in
      let rest = old_uncounted side (answer_to b line).book lines (omega (arith, answer_rises b line)) in
      omega (arith, count_first side b line lines, line_uncounted side b line other, rest)

  -- and any is entered at most once, over both sides
  entered_once : (b : Book) (lines : List (List ℕ)) → count_of m k (numbers_entered 0 b lines) + count_of m k (numbers_entered 1 b lines) ≤ k
  unfolding numbers_entered sum_of
  entered_once b [] = omega arith
  entered_once b (line ∷ lines) =
      let book = (answer_to b line).book in
      let rest = entered_once book lines in
      ⊎_elim
      (λ (n : eqb m.0 (b.held.last.0 + 1) ≡ true).
      ⊎_elim
      (λ (t : acts b line ≡ true).
      let old : m.0 ≤ book.held.last.0 = omega (arith, eqb-true m.0 (b.held.last.0 + 1) n, (next_acts b line t).1) in
      omega (
        arith,
        line_once b line,
        count_first 0 b line lines,
        count_first 1 b line lines,
        old_uncounted 0 book lines old,
        old_uncounted 1 book lines old,
      ))
      (λ (t : acts b line ≡ false). rw t rest)
      (holds_or_not (acts b line)))
      (λ (n : eqb m.0 (b.held.last.0 + 1) ≡ false).
      let other = eqb-false m.0 (b.held.last.0 + 1) n in
      omega (arith, rest, count_first 0 b line lines, count_first 1 b line lines, line_uncounted 0 b line other, line_uncounted 1 b line other))
      (holds_or_not (eqb m.0 (b.held.last.0 + 1)))

-- ── What is bought is what is sold ──

-- sums of nothing, and of two things at once
sum_none : {A : Type 0} (s : List A) → sum_of (λ (x : A). 0) s ≡ 0
unfolding sum_of
sum_none [] = refl
sum_none (x ∷ s) = omega (arith, sum_none s)

sum_both : {A : Type 0} (f g : A → ℕ) (s : List A) → sum_of (λ (x : A). f x + g x) s ≡ sum_of f s + sum_of g s
unfolding sum_of
sum_both f g [] = omega arith
sum_both f g (x ∷ s) = omega (arith, sum_both f g s)

-- what some orders execute is what they do by the first event and by the rest
executed_first : (ns : List Number) (e : Event) (es : List Event)
    → executed_by_all ns (e ∷ es) ≡ sum_of (λ (n : Number). executed_by n e) ns + executed_by_all ns es
unfolding sum_of
executed_first ns e es = sum_both (λ (n : Number). executed_by n e) (λ (n : Number). executed_in n es) ns

-- where each number stands once over two lists, an event that pairs them counts alike for both
module _ (buys sells : List Number) (once : (m : Number) (k : ℕ) → count_of m k buys + count_of m k sells ≤ k) where
  event_alike : (e : Event) → Pairs buys sells e → sum_of (λ (n : Number). executed_by n e) buys ≡ sum_of (λ (n : Number). executed_by n e) sells
  event_alike (Executed incoming resting price shares) p =
      let k = shares.0 in
      let of_buys = sum_both (λ (n : Number). counted_if n incoming k) (λ (n : Number). counted_if n resting k) buys in
      let of_sells = sum_both (λ (n : Number). counted_if n incoming k) (λ (n : Number). counted_if n resting k) sells in
      let first = once incoming k in
      let second = once resting k in
      ⊎_elim
      (λ q. omega (arith, of_buys, of_sells, first, second, counts_among incoming k q.0, counts_among resting k q.1))
      (λ q. omega (arith, of_buys, of_sells, first, second, counts_among incoming k q.0, counts_among resting k q.1))
      p
  event_alike (Rested n price shares) p = sum_none buys ∙ sym (sum_none sells)
  event_alike (Cancelled n shares reason) p = sum_none buys ∙ sym (sum_none sells)
  event_alike (Moved n price shares) p = sum_none buys ∙ sym (sum_none sells)

  -- .. and so do all events
  events_alike : {es : List Event} → All (Pairs buys sells) es → executed_by_all buys es ≡ executed_by_all sells es
  unfolding sum_of
  events_alike none = sum_none buys ∙ sym (sum_none sells)
  events_alike (also {x = e} {s = es} p a) = omega (arith, executed_first buys e es, executed_first sells e es, event_alike e p, events_alike a)

-- the shares that the buys of a day execute are those that its sells do
pub bought_is_sold : (lines : List (List ℕ))
    → executed_by_all (numbers_entered 0 fresh lines) (events_in (printed_of fresh lines))
    ≡ executed_by_all (numbers_entered 1 fresh lines) (events_in (printed_of fresh lines))
bought_is_sold lines = events_alike (numbers_entered 0 fresh lines) (numbers_entered 1 fresh lines) (λ m k. entered_once m k fresh lines) (executions_pair lines)
