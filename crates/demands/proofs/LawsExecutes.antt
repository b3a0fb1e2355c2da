-- Demand 3 of one accepted order that is not Post Only, said of what its own event lines tell: they tell a kill exactly if it is a
-- Fill-or-Kill and the walk gives less than its size, and else the share-out of the walk; where there is no minimum (02, W7), this is
-- demand 3 as it was. Assumes nothing.
use Prim.Native.Nat.{ℕ, ◌-◌, ◌≤◌, ◌<◌}
use mathlib.Core.Bool.{true, false, not, ◌&&◌, true≢false}
use mathlib.Core.List.{List, ◌++◌, append_assoc}
use mathlib.Core.Logic.{◌≢◌, ⊎_elim}
use mathlib.Core.Path.{◌≡◌, refl, sym, ap, ◌∙◌, subst}
use lib.Dec.{eqb, leb}
use native.Mathlib.Omega.{arith}
use borrow.Author.Tests.{ne_eqb, eqb-true, eqb-false, leb-true, not-true}
use Rattle.basics.specs.Lists.{total, All}
use Rattle.basics.proofs.LawsChoice.{holds_or_not, lt_or_le, and_left, and_right}
use Rattle.basics.proofs.LawsLists.{all_alike, one_of_all, all_both, each_there, sum_of_append}
use Rattle.kinds.specs.declared.Number.{Number}
use Rattle.kinds.specs.Kinds.{shares_in_range}
use Rattle.kinds.proofs.LawsRanges.{shares_fewest, resting_lowest}
use Rattle.rules.specs.declared.Body.{Body}
use Rattle.rules.specs.declared.Body.TheVariants as body
use Rattle.rules.specs.declared.Command.{Command}
use Rattle.rules.specs.declared.Event.{Event}
use Rattle.rules.specs.declared.Order.{Order}
use Rattle.rules.specs.CommandLines.{Reading}
use Rattle.rules.specs.Book.{Book, in_rank_order, sound}
use Rattle.rules.specs.CommandLines.{command_in}
use Rattle.rules.specs.Holdings.{holdings, nothing, executions, after}
use Rattle.rules.specs.Instructions.{fok, post_only, has}
use Rattle.rules.specs.Refusals.{first_of, order_price_in_range, carried_in_range, order_in_range, body_refusals, line_refusals, refusals}
use Rattle.rules.specs.Settling.{told, own_side, opposite_side}
use Rattle.rules.specs.Step.{done_by, answer, answer_to}
use Rattle.rules.specs.Working.{Met, buying, met_by, execution_price, walked, minimum_of, least_of, takings, remainder, ending, last_line, refill_fate}
use Rattle.rules.proofs.LawsCommands.{order_does}
use Rattle.rules.proofs.LawsTakings.{nothing_total, takings_at_most, takings_within}
use Rattle.rules.proofs.LawsWalkOrder.{holdings_there}
use Rattle.soundness.proofs.LawsAccepted.{InOrder, accepted, AcceptedOrder, accepted_order}
use Rattle.soundness.proofs.LawsApart.{apart_flip}
use Rattle.soundness.proofs.LawsSides.{sides_of}
use Rattle.soundness.proofs.LawsSound.{sound_is}
use Rattle.demands.specs.Executes.{Between, Executes}
use Rattle.demands.specs.Minimum.{NoMinimum}
use Rattle.demands.specs.Once.{acts}
use Rattle.demands.specs.Told.{executed_by, cancelled_by, executed_in, cancelled_in, is_killed}
use Rattle.demands.proofs.LawsHeld.{executions_cancel_none}
use Rattle.demands.proofs.LawsPriceHere.{Meetable}
use Rattle.demands.proofs.LawsShareOut.{priced_at, walked_greatest, walk_fills, fills_walk, takings_lawful, takings_rank, takings_given}
use Rattle.demands.proofs.LawsWalked.{takes_nothing, takes_all}
use Rattle.demands.proofs.LawsLinesTell.{every_refill, refills_execute_none, refills_cancel_none, executions_between, last_between, NoneIs, lines_told, executed_total, last_executes_none, is_kill, last_kills, kill_cancels, executions_kill_none, ending_kills}
use Rattle.std.specs.Prelude.{Some, None}

-- ── The lines of an order that is not Post Only ──

-- an order of number m and what it meets: a buy or a sell of at least one share, not Post Only; the opposite side is in rank order, its
-- orders are clear of the own side and have a price, and m is none of its numbers
pub record Works (m : Number) (o : Order) (met : Met) : Type 0 where
  pub is_side : o.side ≤ 1
  pub entered : 1 ≤ o.shares.0
  pub not_post_only : has o.word post_only ≡ false
  pub ranked : in_rank_order (not (buying o)) met.opposite ≡ true
  pub meetable : All (Meetable o met) met.opposite
  pub new : NoneIs m met.opposite

-- its event lines: executions, at most one line more, and those of the refills
abbrev pub work_lines : Number → Order → Met → List Event
work_lines m o met =
    executions m (execution_price o met) (holdings met.opposite) (takings o met)
    ++ (last_line m (remainder o met) (ending o met) ++ told refill_fate (after met.opposite (takings o met)))

-- they tell, of the order, which is none of the side, what it takes in all
pub lines_tell : (m : Number) (o : Order) (met : Met) → NoneIs m met.opposite
    → executed_in m (work_lines m o met) ≡ total (takings o met)
lines_tell m o met new =
    let es = executions m (execution_price o met) (holdings met.opposite) (takings o met) in
    let last = last_line m (remainder o met) (ending o met) in
    let refills = told refill_fate (after met.opposite (takings o met)) in
    omega (
      arith,
      sum_of_append (executed_by m) es (last ++ refills),
      sum_of_append (executed_by m) last refills,
      executed_total m (execution_price o met) (takings_within o met) (all_alike (λ h p. one_of_all new p) (holdings_there met.opposite)),
      last_executes_none m m (remainder o met) (ending o met),
      refills_execute_none m (after met.opposite (takings o met)),
    )

-- executions are between the order and the side
pub lines_between : (m : Number) (o : Order) (met : Met) → All (Between m met.opposite) (work_lines m o met)
lines_between m o met =
    let s = met.opposite in
    all_both (executions_between m (execution_price o met) (holdings_there s) (takings o met))
    (all_both (last_between m s (remainder o met) (ending o met))
    (every_refill {P = Between m s} (λ k price j. tt) (after s (takings o met))))

module _ (m : Number) (o : Order) (met : Met) (w : Works m o met) where
  pub lines_execute : executed_in m (work_lines m o met) ≡ total (takings o met)
  lines_execute = lines_tell m o met w.new

  -- they kill exactly a Fill-or-Kill of which something is left
  lines_kill : is_killed m (work_lines m o met) ≡ (not (eqb (remainder o met) 0) && has o.word fok)
  unfolding ending
  lines_kill =
      executions_kill_none m m (execution_price o met) (holdings met.opposite) (takings o met)
      (last_line m (remainder o met) (ending o met) ++ told refill_fate (after met.opposite (takings o met)))
      ∙ last_kills m (remainder o met) (ending o met) (after met.opposite (takings o met))
      ∙ ending_kills (remainder o met) o met.away met.own (after met.opposite (takings o met))

  -- so one that is killed is a Fill-or-Kill, of which the walk gives less than its size
  pub killed_fok : is_killed m (work_lines m o met) ≡ true → has o.word fok ≡ true
  killed_fok k = and_right (not (eqb (remainder o met) 0)) (has o.word fok) (sym lines_kill ∙ k)

  killed_left : is_killed m (work_lines m o met) ≡ true → total (takings o met) ≢ o.shares.0
  unfolding remainder
  killed_left k e =
      let left = remainder o met in
      let z = not-true (eqb left 0) (and_left (not (eqb left 0)) (has o.word fok) (sym lines_kill ∙ k)) in
      eqb-false left 0 z (omega (arith, e))

  -- the least that a Fill-or-Kill must be given is all, and of any other order its minimum
  fok_least : has o.word fok ≡ true → least_of o ≡ o.shares.0
  fok_least k = rw k refl

  other_least : has o.word fok ≡ false → least_of o ≡ minimum_of o.carried
  other_least k = rw k refl

  pub killed_short : is_killed m (work_lines m o met) ≡ true → total (walked o met) < o.shares.0
  killed_short k =
      ⊎_elim
      (λ (l : total (walked o met) < o.shares.0). l)
      (λ (l : o.shares.0 ≤ total (walked o met)).
      let all = takes_all o met (omega (arith, fok_least (killed_fok k), l)) in
      absurd (killed_left k (omega (arith, ap total all, l, takings_at_most o met))))
      (lt_or_le (total (walked o met)) o.shares.0)

  -- .. it takes nothing
  pub killed_none : is_killed m (work_lines m o met) ≡ true → takings o met ≡ nothing (holdings met.opposite)
  killed_none k = takes_nothing o met (omega (arith, fok_least (killed_fok k), killed_short k))

  -- .. so the whole of it is cancelled
  pub killed_whole_lem : is_killed m (work_lines m o met) ≡ true → cancelled_in m (work_lines m o met) ≡ o.shares.0
  unfolding remainder
  killed_whole_lem k =
      let left = remainder o met in
      let es = executions m (execution_price o met) (holdings met.opposite) (takings o met) in
      let last = last_line m left (ending o met) in
      let refills = told refill_fate (after met.opposite (takings o met)) in
      let kill : is_kill (ending o met) ≡ true =
      sym (last_kills m left (ending o met) (after met.opposite (takings o met)))
      ∙ sym (executions_kill_none m m (execution_price o met) (holdings met.opposite) (takings o met) (last ++ refills)) ∙ k in
      omega (
        arith,
        sum_of_append (cancelled_by m) es (last ++ refills),
        sum_of_append (cancelled_by m) last refills,
        executions_cancel_none m m (execution_price o met) (holdings met.opposite) (takings o met),
        kill_cancels m left (ending o met) kill,
        refills_cancel_none m (after met.opposite (takings o met)),
        ap total (killed_none k),
        nothing_total (holdings met.opposite),
      )

  -- a Fill-or-Kill of which the walk gives less keeps all that was entered, and is killed
  pub killed_if_lem : has o.word fok ≡ true → total (walked o met) < o.shares.0 → is_killed m (work_lines m o met) ≡ true
  unfolding remainder
  killed_if_lem k l =
      let none = takes_nothing o met (omega (arith, fok_least k, l)) in
      let left : remainder o met ≢ 0 = λ (z : o.shares.0 - total (takings o met) ≡ 0).
      omega (arith, ap total none, nothing_total (holdings met.opposite), w.entered, z) in
      lines_kill ∙ rw (ne_eqb (remainder o met) 0 left, k) refl

  -- every order that is not killed, and has no higher minimum, takes what the walk gives
  pub lives_takes : is_killed m (work_lines m o met) ≡ false → minimum_of o.carried ≤ total (walked o met) → takings o met ≡ walked o met
  lives_takes l least =
      takes_all o met
      (⊎_elim
      (λ (k : has o.word fok ≡ true).
      ⊎_elim
      (λ (short : total (walked o met) < o.shares.0). absurd (true≢false (sym (killed_if_lem k short) ∙ l)))
      (λ (enough : o.shares.0 ≤ total (walked o met)). omega (arith, fok_least k, enough))
      (lt_or_le (total (walked o met)) o.shares.0))
      (λ (k : has o.word fok ≡ false). omega (arith, other_least k, least))
      (holds_or_not (has o.word fok)))

-- ── An accepted line ──

-- an order that is accepted is a buy or a sell of at least one share
module _ (o : Order) (r : order_in_range o ≡ true) where
  sized : (leb o.side 1 && shares_in_range o.shares) ≡ true
  sized =
      and_left (leb o.side 1 && shares_in_range o.shares) (order_price_in_range o)
      (and_left (leb o.side 1 && shares_in_range o.shares && order_price_in_range o) (carried_in_range o.shares o.carried) r)

  pub order_side : o.side ≤ 1
  order_side = leb-true o.side 1 (and_left (leb o.side 1) (shares_in_range o.shares) sized)

  pub order_shares : 1 ≤ o.shares.0
  order_shares = shares_fewest o.shares (and_right (leb o.side 1) (shares_in_range o.shares) sized)

-- what no refusal of the line says of its command and of its order
pub acts_accepted : (b : Book) (line : List ℕ) (c : Command) → acts b line ≡ true → command_in line ≡ Some c → InOrder b c
unfolding answer_to answer refusals first_of
acts_accepted b line c t e =
    let z : first_of (line_refusals b (command_in line)) ≡ 0 = eqb-true (first_of (line_refusals b (command_in line))) 0 t in
    accepted b c (subst (λ (a : Reading). first_of (line_refusals b a) ≡ 0) e z)

pub acts_order : (b : Book) (c : Command) (o : Order) → InOrder b c → c.body ≡ body.Order o → AcceptedOrder b o
acts_order b c o a f = accepted_order b o (subst (λ (x : Body). first_of (body_refusals b x) ≡ 0) f a.by_body)

-- the lines of an accepted order are those of its work
pub acts_lines : (b : Book) (line : List ℕ) (c : Command) (o : Order) → acts b line ≡ true → command_in line ≡ Some c → c.body ≡ body.Order o
    → (answer_to b line).events ≡ work_lines c.number o (met_by o b)
unfolding answer_to answer done_by
acts_lines b line c o t e f =
    let met = met_by o b in
    let ts = takings o met in
    rw t (rw e (rw f ((order_does c.number c.time b o).1
    ∙ append_assoc (executions c.number (execution_price o met) (holdings met.opposite) ts)
    (last_line c.number (remainder o met) (ending o met)) (told refill_fate (after met.opposite ts)))))

-- on a sound book each opposite order is clear of the own side, and has a price
pub all_meetable : (o : Order) (b : Book) → sound b ≡ true → All (Meetable o (met_by o b)) (opposite_side (buying o) b)
all_meetable o b s =
    let sides = sides_of (buying o) b (sound_is b s) in
    let apart = apart_flip (buying o) (own_side (buying o) b) (opposite_side (buying o) b) sides.is_apart in
    all_alike
    (λ h p. record {
      clears = one_of_all apart p;
      priced = omega (arith, resting_lowest h.price (one_of_all sides.opposite_in_range p).priced);
    })
    (each_there (opposite_side (buying o) b))

-- none of them has the number of the next command
pub acts_new : (b : Book) (line : List ℕ) (c : Command) (o : Order) → sound b ≡ true → acts b line ≡ true → command_in line ≡ Some c
    → NoneIs c.number (opposite_side (buying o) b)
acts_new b line c o s t e =
    all_alike (λ h r. λ (z : c.number.0 ≡ h.number.0). omega (arith, z, r.up_to_last, (acts_accepted b line c t e).next))
    (sides_of (buying o) b (sound_is b s)).opposite_in_range

-- so it is an order of the kind above, against the opposite side of a sound book
pub works : (b : Book) (line : List ℕ) (c : Command) (o : Order) → sound b ≡ true → acts b line ≡ true → command_in line ≡ Some c
    → c.body ≡ body.Order o → has o.word post_only ≡ false → Works c.number o (met_by o b)
works b line c o s t e f not_post_only =
    let order = acts_order b c o (acts_accepted b line c t e) f in
    record {
      is_side = order_side o order.in_range;
      entered = order_shares o order.in_range;
      not_post_only = not_post_only;
      ranked = (sides_of (buying o) b (sound_is b s)).opposite_ranked;
      meetable = all_meetable o b s;
      new = acts_new b line c o s t e;
    }

-- the customer's sentences, one by one
lines_are : (b : Book) (c : Command) (o : Order) → Works c.number o (met_by o b) → NoMinimum o b
    → Executes b c o (work_lines c.number o (met_by o b))
lines_are b c o w no_minimum =
    let n = c.number in
    let met = met_by o b in
    let s = met.opposite in
    let ts = takings o met in
    let left = remainder o met in
    let end = ending o met in
    let plain = no_minimum.resting in
    record {
      between = lines_between n o met;
      share_out = priced_at (execution_price o met) (holdings s) ts;
      told = lines_told n (execution_price o met) (holdings s) ts left end (after s ts);
      in_all = lines_execute n o met w ∙ sym (takings_given o met w.is_side w.not_post_only w.ranked w.meetable);
      is_lawful = takings_lawful o met w.is_side w.not_post_only w.ranked w.meetable;
      killed_only = λ k fills.
          omega (arith, killed_short n o met w k, walk_fills o met w.is_side w.not_post_only w.ranked w.meetable plain fills);
      killed_if = λ k unfilled.
          ⊎_elim
          (λ (l : total (walked o met) < o.shares.0). killed_if_lem n o met w k l)
          (λ (l : o.shares.0 ≤ total (walked o met)).
          absurd (unfilled (fills_walk o met w.is_side w.not_post_only w.ranked w.meetable l)))
          (lt_or_le (total (walked o met)) o.shares.0);
      killed_nothing = λ k. lines_execute n o met w ∙ ap total (killed_none n o met w k) ∙ nothing_total (holdings s);
      killed_whole = killed_whole_lem n o met w;
      only_fok = killed_fok n o met w;
      greatest = λ l gs lawful.
          omega (
            arith,
            lines_execute n o met w,
            ap total (lives_takes n o met w l (omega (arith, no_minimum.incoming))),
            walked_greatest o met w.is_side w.not_post_only w.ranked w.meetable plain gs lawful,
          );
      in_rank = λ p q before gives at fair.
          takings_rank o met w.is_side w.not_post_only w.ranked w.meetable plain p q before gives;
    }

-- demand 3 of an accepted order that is not Post Only, on a sound book, by its event lines, where there is no minimum
pub executes : (b : Book) (line : List ℕ) (c : Command) (o : Order) → sound b ≡ true → acts b line ≡ true → command_in line ≡ Some c
    → c.body ≡ body.Order o → has o.word post_only ≡ false → NoMinimum o b → Executes b c o (answer_to b line).events
executes b line c o s t e f not_post_only no_minimum =
    subst (Executes b c o) (sym (acts_lines b line c o t e f)) (lines_are b c o (works b line c o s t e f not_post_only) no_minimum)
