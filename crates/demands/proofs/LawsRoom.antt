-- The most that one command writes (`specs/Room`), so that its lines fit the room that refusal 1 asks for. The walk of an order is greedy:
-- the holdings that it reaches give all they have, or are skipped (02, W7); only the last may give a part, and then nothing of the order is
-- left for a line of its own. So each holding has its execution or may have a refill, and at most one has both. Assumes nothing.
use Prim.Native.Nat.{ℕ, ◌+◌, ◌-◌, ◌*◌, ◌≤◌, ◌<◌, min}
use mathlib.Core.Bool.{Bool, true, false, ◌&&◌}
use mathlib.Core.List.{List, [], ◌∷◌, ◌++◌}
use mathlib.Core.Logic.{◌≢◌, ⊎_elim}
use mathlib.Core.Path.{◌≡◌, refl, ap, subst}
use lib.Dec.{eqb}
use lib.ListN.{length, length-append}
use native.Mathlib.Nat.{min-eq_right, sub_self}
use native.Mathlib.Omega.{arith}
use borrow.Author.Tests.{eqb-true, eqb-false}
use Rattle.basics.specs.Lists.{gathered, total, Each, empty, with}
use Rattle.basics.proofs.LawsChoice.{holds_or_not, by_choice, lt_or_le, and_right}
use Rattle.kinds.specs.declared.HalfCents.{HalfCents}
use Rattle.kinds.specs.declared.Number.{Number}
use Rattle.rules.specs.declared.Body.{Body}
use Rattle.rules.specs.declared.Body.TheVariants as body
use Rattle.rules.specs.declared.Event.{Event}
use Rattle.rules.specs.declared.Order.{Order}
use Rattle.rules.specs.CommandLines.{Reading}
use Rattle.rules.specs.declared.Resting.{Resting}
use Rattle.rules.specs.Book.{Book, BookRecord, places_a_side, book_in, sound, places_sound, record_sound, shares_left}
use Rattle.rules.specs.CommandLines.{command_in}
use Rattle.rules.specs.Commands.{does}
use Rattle.rules.specs.Day.{printed}
use Rattle.rules.specs.EventLines.{event_lines}
use Rattle.rules.specs.Holdings.{Holding, size, holdings, orders_of, nothing, walk, is_skipped, smaller, executions, taken_of, reduced_by, keeping, after}
use Rattle.rules.specs.Refusals.{least_room, first_of, line_refusals, refusals}
use Rattle.rules.specs.Settling.{told, opposite_side}
use Rattle.rules.specs.Step.{done_by, answer, answer_to, step_on}
use Rattle.rules.specs.Working.{Met, buying, met_by, execution_price, may_touch, takings, remainder, ending_with, ending, last_line, refill_fate}
use Rattle.rules.proofs.LawsCommands.{fate_by, order_does, does_tells}
use Rattle.rules.proofs.LawsEvents.{event_lines_append, none_long, refusal_length, executions_more, told_more, told_long, last_long}
use Rattle.rules.proofs.LawsHoldings.{Parts, none, also, holdings_reserves}
use Rattle.rules.proofs.LawsRefusals.{fit_facts}
use Rattle.rules.proofs.LawsTakings.{nothing_total, takings_are, takings_within, parts_within}
use Rattle.rules.proofs.LawsWalkOrder.{holdings_length}
use Rattle.soundness.proofs.LawsSound.{sound_is}
use Rattle.demands.specs.Room.{worst_lines}
use Rattle.std.specs.Prelude.{Some, None}

-- ── A walk ──

-- how many of those that hold so much keep a share
unfoldable keepers : {H : Type 0} → (H → ℕ) → List H → List ℕ → ℕ
keepers held [] ts = 0
keepers held (h ∷ s) [] = 0
keepers held (h ∷ s) (t ∷ ts) = min 1 (held h - t) + keepers held s ts

-- the bytes of a walk's executions, and of a refill for each holding that keeps a share
abbrev could_write : Number → (Resting → HalfCents) → List Holding → List ℕ → ℕ
could_write n price hs ts = length (event_lines (executions n price hs ts)) + 27 * keepers size hs ts

nothing_writes : (n : Number) (price : Resting → HalfCents) (hs : List Holding) → could_write n price hs (nothing hs) ≤ 35 * length hs
unfolding keepers nothing executions
nothing_writes n price [] = omega (arith, none_long)
nothing_writes n price (h ∷ s) = omega (arith, executions_more n price h s 0 (nothing s), nothing_writes n price s)

-- only a holding that gives a part can have both lines, and then nothing is left
abbrev OneWrites : ℕ → ℕ → ℕ → Type 0
OneWrites left held t = 35 * min 1 t + 27 * min 1 (held - t) + 27 * min 1 (left - t) ≤ 35 + 27 * min 1 left

one_writes : (left : ℕ) (h : Holding) → OneWrites left (size h) (smaller left h)
one_writes left h = by_choice (OneWrites left (size h)) (is_skipped left h) (λ t. omega arith) (λ t. part_writes left (size h))
  where
    part_writes : (left held : ℕ) → OneWrites left held (min left held)
    part_writes left held =
        ⊎_elim
        (λ (l : left < held). let part : min left held ≡ left = omega arith in rw part (omega arith))
        (λ (l : held ≤ left). rw (min-eq_right l, sub_self) (omega arith))
        (lt_or_le left held)

walk_writes : (n : Number) (price : Resting → HalfCents) (may : Holding → Bool) (left : ℕ) (hs : List Holding)
    → let ts = walk may smaller left hs in
    could_write n price hs ts + 27 * min 1 (left - total ts) ≤ 35 * length hs + 27 * min 1 left
unfolding walk keepers total executions
walk_writes n price may left [] = omega (arith, none_long)
walk_writes n price may left (h ∷ s) =
    ⊎_elim
    (λ (t : may h ≡ true).
    let gives = smaller left h in
    let ts = walk may smaller (left - gives) s in
    let others : min 1 (left - (gives + total ts)) ≡ min 1 (left - gives - total ts) = ap (min 1) (omega arith) in
    rw t (omega (arith, executions_more n price h s gives ts, walk_writes n price may (left - gives) s, one_writes left h, others)))
    (λ (t : may h ≡ false). rw t (omega (arith, nothing_writes n price (h ∷ s), nothing_total (h ∷ s))))
    (holds_or_not (may h))

-- ── Refills ──

abbrev reserve_of : Resting → ℕ
reserve_of o = o.reserve.0

-- one for an order that shows nothing and keeps of its reserve
refills_long : {Claim : Resting → ℕ → ℕ → Type 0} {s : List Resting} {ts rs : List ℕ} → Parts Claim s ts rs
    → length (event_lines (told refill_fate (keeping s ts rs))) ≤ 27 * keepers reserve_of s rs
unfolding keeping keepers told gathered
refills_long none = omega (arith, none_long)
refills_long (also {o = o} {t = t} {r = r} {s = s} {ts = ts} {rs = rs} c w) =
    let h = reduced_by t r o in
    let left = told refill_fate (keeping s ts rs) in
    ⊎_elim
    (λ (z : eqb (shares_left h) 0 ≡ true). rw z (omega (arith, refills_long w)))
    (λ (z : eqb (shares_left h) 0 ≡ false).
    let some : shares_left h ≢ 0 = eqb-false (shares_left h) 0 z in
    ⊎_elim
    (λ (e : eqb h.shares.0 0 ≡ true).
    rw z (omega (arith, refills_long w, some, eqb-true h.shares.0 0 e, told_more (refill_fate h) h left)))
    (λ (e : eqb h.shares.0 0 ≡ false). rw (z, e) (omega (arith, refills_long w)))
    (holds_or_not (eqb h.shares.0 0)))
    (holds_or_not (eqb (shares_left h) 0))

-- so one at most for a reserve among the holdings that keeps a share
reserves_keep : {Claim : Holding → ℕ → Type 0} {hs : List Holding} {ts : List ℕ} → Each Claim hs ts
    → keepers reserve_of (orders_of true hs) (taken_of true hs ts) ≤ keepers size hs ts
unfolding keepers orders_of taken_of
reserves_keep empty = omega arith
reserves_keep (with {x = h} c e) =
    let others = reserves_keep e in
    ⊎_elim
    (λ (r : h.is_reserve ≡ true). rw r (omega (arith, others)))
    (λ (r : h.is_reserve ≡ false). rw r (omega (arith, others)))
    (holds_or_not h.is_reserve)

-- ── An order ──

module _ (n : Number) (o : Order) (met : Met) where
  abbrev hs : List Holding
  hs = holdings met.opposite

  takings_write : could_write n (execution_price o met) hs (takings o met) + 27 * min 1 (remainder o met) ≤ 35 * length hs + 27
  unfolding remainder
  takings_write =
      takings_are
      (λ (ts : List ℕ). could_write n (execution_price o met) hs ts + 27 * min 1 (o.shares.0 - total ts) ≤ 35 * length hs + 27) o met
      (omega (arith, nothing_writes n (execution_price o met) hs))
      (omega (
        arith,
        walk_writes n (execution_price o met) (λ (h : Holding). may_touch o met.away (execution_price o met h.of)) o.shares.0 hs,
      ))

  -- the line of what is left of it
  last_writes : length (event_lines (last_line n (remainder o met) (ending o met))) ≤ 27 * min 1 (remainder o met)
  unfolding ending ending_with
  last_writes =
      let left = remainder o met in
      ⊎_elim
      (λ (z : eqb left 0 ≡ true). rw z (omega (arith, none_long)))
      (λ (z : eqb left 0 ≡ false). let some : left ≢ 0 = eqb-false left 0 z in omega (arith, some, last_long n left (ending o met)))
      (holds_or_not (eqb left 0))

  refills_write : length (event_lines (told refill_fate (after met.opposite (takings o met)))) ≤ 27 * keepers size hs (takings o met)
  unfolding after
  refills_write =
      let s = met.opposite in
      let ts = takings o met in
      let kept : keepers reserve_of s (taken_of true hs ts) ≤ keepers size hs ts =
      subst (λ (l : List Resting). keepers reserve_of l (taken_of true hs ts) ≤ keepers size hs ts) (holdings_reserves s)
      (reserves_keep (takings_within o met)) in
      omega (arith, kept, refills_long (parts_within o met))

module _ (n : Number) (time : ℕ) (b : Book) (o : Order) where
  -- its executions, its last line and the refills
  pub order_writes : let met = met_by o b in
      let ts = takings o met in
      length (event_lines (does n time (body.Order o) b).events)
      ≡ length (event_lines (executions n (execution_price o met) (holdings met.opposite) ts))
      + length (event_lines (last_line n (remainder o met) (ending o met)))
      + length (event_lines (told refill_fate (after met.opposite ts)))
  order_writes =
      let met = met_by o b in
      let es = executions n (execution_price o met) (holdings met.opposite) (takings o met) in
      let last = last_line n (remainder o met) (ending o met) in
      let refills = told refill_fate (after met.opposite (takings o met)) in
      rw ((order_does n time b o).1, event_lines_append (es ++ last) refills, event_lines_append es last) (simp length-append)

  -- by the orders of the side that it meets, sound or not
  pub order_long : length (event_lines (does n time (body.Order o) b).events) ≤ 70 * length (opposite_side (buying o) b) + 27
  order_long =
      let met = met_by o b in
      omega (
        arith,
        order_writes,
        takings_write n o met,
        last_writes n o met,
        refills_write n o met,
        holdings_length met.opposite,
      )

-- ── A command ──

opposite_fits_lem : (buy : Bool) (b : Book) → sound b ≡ true → length (opposite_side buy b) ≤ places_a_side
opposite_fits_lem true b s = (sound_is b s).sells_fit
opposite_fits_lem false b s = (sound_is b s).buys_fit

does_long : (n : Number) (time : ℕ) (b : Book) → sound b ≡ true → (c : Body) → length (event_lines (does n time c b).events) ≤ worst_lines
does_long n time b is_sound =
    does_tells n time b (λ (c : Body) (es : List Event). length (event_lines es) ≤ worst_lines)
    (λ o. omega (arith, order_long n time b o, opposite_fits_lem (buying o) b is_sound)) settled_long
  where
    settled_long : (c : Body) → length (event_lines (told (fate_by c true) b.buys ++ told (fate_by c false) b.sells)) ≤ worst_lines
    settled_long c =
        let buys = told (fate_by c true) b.buys in
        let sells = told (fate_by c false) b.sells in
        rw (event_lines_append buys sells)
        (simp length-append
        (omega (
          arith,
          told_long (fate_by c true) b.buys,
          told_long (fate_by c false) b.sells,
          opposite_fits_lem false b is_sound,
          opposite_fits_lem true b is_sound,
        )))

pub done_long : (b : Book) (r : Reading) → sound b ≡ true → length (event_lines (done_by r b).events) ≤ worst_lines
unfolding done_by
done_long b None s = omega (arith, none_long)
done_long b (Some c) s = does_long c.number c.time b s c.body

-- what is printed of any line to a sound book; that of a refusal is shorter
pub printed_long : (b : Book) (line : List ℕ) → sound b ≡ true → length (printed (answer_to b line)) ≤ worst_lines
unfolding printed answer_to answer
printed_long b line s =
    let refusal = first_of (refusals least_room true b (command_in line)) in
    ⊎_elim
    (λ (t : eqb refusal 0 ≡ true). rw t (done_long b (command_in line) s))
    (λ (t : eqb refusal 0 ≡ false). rw t (omega (arith, refusal_length refusal)))
    (holds_or_not (eqb refusal 0))

-- ── The room ──

-- with 256 orders a side the 8,192 bytes of W4 would not do
pub worst_needs : 8192 < worst_lines
worst_needs = omega arith

pub worst_fits : worst_lines ≤ least_room
worst_fits = omega arith

pub worst_is : worst_lines ≡ 17947
worst_is = refl

-- ── What was not refused with 1 or 2 ──

-- the room is there, the record is sound, and none of the other refusals is given
pub fit_for : (room : ℕ) (r : BookRecord) (a : Reading) → first_of (refusals room (record_sound r) (book_in r) a) ≡ 0
    → (least_room ≤ room) × (sound (book_in r) ≡ true) × (first_of (line_refusals (book_in r) a) ≡ 0)
unfolding refusals record_sound
fit_for room r a e =
    let f = fit_facts room (record_sound r) (line_refusals (book_in r) a) e in
    (f.0, and_right (places_sound r.buys && places_sound r.sells) (sound (book_in r)) f.1, f.2)

-- so a call, with any record and any output, writes no more
pub returned_long : (r : BookRecord) (a : Reading) (out : List ℕ) → (step_on r a out).length ≤ worst_lines
unfolding step_on answer
returned_long r a out =
    let refusal = first_of (refusals (length out) (record_sound r) (book_in r) a) in
    ⊎_elim
    (λ (t : eqb refusal 0 ≡ true). rw t (done_long (book_in r) a (fit_for (length out) r a (eqb-true refusal 0 t)).1))
    (λ (t : eqb refusal 0 ≡ false). rw t (omega (arith, none_long)))
    (holds_or_not (eqb refusal 0))
