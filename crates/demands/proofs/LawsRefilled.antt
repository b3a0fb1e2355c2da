-- What an accepted order leaves of the side that it meets, in 02's words (W4): who gave all is gone, whoever still shows a share keeps its
-- stamp, and whoever is due is refilled, behind all displayed at its price and in former rank order. Assumes nothing.
use Prim.Native.Nat.{ℕ, ◌<◌}
use mathlib.Core.Bool.{Bool, true, false, not, beq}
use mathlib.Core.List.{List}
use mathlib.Core.Logic.{◌≢◌, ⊎_elim}
use mathlib.Core.Path.{◌≡◌, refl, sym, ap, subst, ◌∙◌}
use lib.Dec.{eqb}
use native.Mathlib.Omega.{arith}
use borrow.Author.Tests.{eq-eqb}
use Rattle.std.specs.Prelude.{if◌then◌else◌, Some, None}
use Rattle.basics.specs.Lists.{All, OneOf}
use Rattle.basics.proofs.LawsChoice.{holds_or_not}
use Rattle.basics.proofs.LawsLists.{all_alike, one_of_all}
use Rattle.kinds.specs.declared.HalfCents.{HalfCents}
use Rattle.kinds.specs.declared.Number.{Number}
use Rattle.rules.specs.declared.Body.TheVariants as body
use Rattle.rules.specs.declared.Command.{Command}
use Rattle.rules.specs.declared.Event.{Event}
use Rattle.rules.specs.declared.Fate.TheVariants.{Stays, IsSet}
use Rattle.rules.specs.declared.Order.{Order}
use Rattle.rules.specs.declared.Resting.{Resting}
use Rattle.rules.specs.declared.Stamp.{Stamp}
use Rattle.rules.specs.Book.{Book, stamp, better, earlier, ranks_before, in_rank_order, shares_left, sound}
use Rattle.rules.specs.CommandLines.{command_in}
use Rattle.rules.specs.Day.{printed}
use Rattle.rules.specs.Holdings.{reduced_by, keeping, after}
use Rattle.rules.specs.Settling.{stamped_as, refilled, settled_side, first_move}
use Rattle.rules.specs.Step.{answer_to}
use Rattle.rules.specs.Working.{Met, buying, met_by, takings, refill_fate}
use Rattle.rules.proofs.LawsCommands.{order_does}
use Rattle.rules.proofs.LawsHoldings.{Parts, parts_alike, keeping_all}
use Rattle.rules.proofs.LawsRank.{earlier_command, earlier_place}
use Rattle.rules.proofs.LawsWalkOrder.{parts_there, keeping_has, RefillSays, refill_says, refill_due, refill_not_due}
use Rattle.soundness.proofs.LawsSettled.{set_place, settled_are, settled_stays, settled_sets}
use Rattle.soundness.proofs.LawsSides.{InRange, sides_of, all_holding}
use Rattle.soundness.proofs.LawsSound.{sound_is}
use Rattle.soundness.proofs.LawsThinned.{thinned_after, thinned_ranked}
use Rattle.demands.specs.Once.{acts}
use Rattle.demands.specs.Refilled.{gave, Due, SameOrder, Stood, Refills}
use Rattle.demands.specs.ShareOut.{opposite}
use Rattle.demands.specs.Told.{events_in}
use Rattle.demands.proofs.LawsCrossing.{set_place_rises}
use Rattle.demands.proofs.LawsExecutes.{acts_accepted, acts_lines, work_lines}
use Rattle.demands.proofs.LawsLinesTell.{once_each, opposite_once, stands_before}
use Rattle.demands.proofs.LawsOrigins.{same_order_lem}
use Rattle.demands.proofs.LawsRun.{accepted_does}
use Rattle.demands.proofs.LawsTold.{line_told}
use Rattle.demands.proofs.LawsGave.{Took, left_is_lem, shown_left, shown_used, is_kept, stays_shown, is_due_lem, is_refilled, lines_took}

-- ── Rank ──

-- a displayed order ranks before whoever has its price and a later stamp
ranks_first : (buy : Bool) (x y : Resting) → x.price ≡ y.price → x.displayed ≡ true → earlier x.stamp y.stamp ≡ true → ranks_before buy x y ≡ true
unfolding ranks_before
ranks_first buy x y same shown before =
    let one : eqb x.price.0 y.price.0 ≡ true = eq-eqb x.price.0 y.price.0 (ap (λ (p : HalfCents). p.0) same) in
    ⊎_elim
    (λ (t : y.displayed ≡ true). rw (one, shown, t) before)
    (λ (t : y.displayed ≡ false). rw (one, shown, t) refl)
    (holds_or_not y.displayed)

-- orders that keep price and display, and whose stamps are in their order, keep their order
ranks_again : (buy : Bool) (g h g' h' : Resting) → ranks_before buy g h ≡ true → SameOrder g g' → SameOrder h h'
    → earlier g'.stamp h'.stamp ≡ true → ranks_before buy g' h' ≡ true
unfolding ranks_before
ranks_again buy g h g' h' r is_g is_h before =
    rw (is_g.price, is_h.price, is_g.displayed, is_h.displayed)
    (by_fields g.price h.price g.displayed h.displayed (earlier g.stamp h.stamp) (earlier g'.stamp h'.stamp) r before)
  where
    by_fields : (p q : HalfCents) (d e u v : Bool)
        → (if not (eqb p.0 q.0) then better buy p q else (if not (beq d e) then d else u)) ≡ true
        → v ≡ true → (if not (eqb p.0 q.0) then better buy p q else (if not (beq d e) then d else v)) ≡ true
    by_fields p q d e u v r before =
        ⊎_elim
        (λ (t : eqb p.0 q.0 ≡ true). let f : (if not (beq d e) then d else u) ≡ true = rw t at r in rw t (shown d e f))
        (λ (t : eqb p.0 q.0 ≡ false). let f : better buy p q ≡ true = rw t at r in rw t f)
        (holds_or_not (eqb p.0 q.0))
      where
        shown : (d e : Bool) → (if not (beq d e) then d else u) ≡ true → (if not (beq d e) then d else v) ≡ true
        shown true true f = before
        shown true false f = refl
        shown false true f = f
        shown false false f = before

-- ── A side ──

-- orders of a side of a sound book in rank order, of which so much is taken, and a command whose number is above the last
module _ (buy : Bool) (n : Number) (k : ℕ) {es : List Event} {last : Number} {s : List Resting} {ts rs : List ℕ} (took : Parts (Took es) s ts rs)
    (once : once_each s ≡ true) (in_range : All (InRange last) s) (ranked : in_rank_order buy (keeping s ts rs) ≡ true) (above : last.0 < n.0) where
  abbrev left : List Resting
  left = keeping s ts rs

  abbrev afterwards : List Resting
  afterwards = settled_side n k buy refill_fate left

  -- whoever keeps a share, and how it stands afterwards
  data Comes : Resting → Type 0 where
    comes : (h : Resting) (t r : ℕ) → OneOf h s → Took es h t r → shares_left (reduced_by t r h) ≢ 0 → Comes (reduced_by t r h)

  data Put : Resting → Type 0 where
    remains : (h : Resting) (t r : ℕ) → OneOf h s → Took es h t r → gave es h < h.shares.0 → Put (reduced_by t r h)
    is_anew : (h : Resting) (t r : ℕ) → OneOf h s → Took es h t r → Due es h → (p : OneOf (reduced_by t r h) left)
        → Put (stamped_as (stamp n (set_place refill_fate k p)) (refilled (reduced_by t r h)))

  all_come : All Comes left
  all_come = keeping_all (parts_alike (λ h t r c some. comes h t r c.0 c.1 some) (parts_there took))

  stays_put : (x : Resting) → Comes x → refill_fate x ≡ Stays → Put x
  stays_put x (comes h t r p c some) e =
      remains h t r p c (stays_shown h t r c (subst (RefillSays (reduced_by t r h)) e (refill_says (reduced_by t r h))))

  anew_put : (x new : Resting) (q : OneOf x left) → Comes x → refill_fate x ≡ IsSet new → Put (stamped_as (stamp n (set_place refill_fate k q)) new)
  anew_put x new q (comes h t r p c some) e =
      let says = subst (RefillSays (reduced_by t r h)) e (refill_says (reduced_by t r h)) in
      subst (λ (y : Resting). Put (stamped_as (stamp n (set_place refill_fate k q)) y)) says.1 (is_anew h t r p c (is_due_lem h t r c some says.0) q)

  all_put : All Put afterwards
  all_put =
      settled_are refill_fate n k buy left (λ x q e. stays_put x (one_of_all all_come q) e) (λ x new q e. anew_put x new q (one_of_all all_come q) e)

  -- two orders of one number are one
  same_number : {g h : Resting} → OneOf g s → OneOf h s → g.number ≡ h.number → g ≡ h
  same_number p q e = same_order_lem once p q (ap (λ (m : Number). m.0) e)

  -- who gave all is gone
  none_left : (h : Resting) → OneOf h s → gave es h ≡ shares_left h → (x : Resting) → Put x → x.number ≢ h.number
  none_left h p all x (remains g t r q c l) e =
      let m : gave es h < h.shares.0 = subst (λ (y : Resting). gave es y < y.shares.0) (same_number q p e) l in
      omega (arith, m, all)
  none_left h p all x (is_anew g t r q c due at) e =
      let m : Due es h = subst (Due es) (same_number q p e) due in
      omega (arith, m.is_left, all)

  -- whoever stands there stood there before
  put_stood : (x : Resting) → Put x → Stood n es s x
  put_stood x (remains h t r p c l) = Stood.kept h p l (is_kept h t r c l)
  put_stood x (is_anew h t r p c due at) = Stood.refilled h p due (is_refilled h t r c n (set_place refill_fate k at) due)

  -- who stands there with the number of one that is due is that one, refilled
  record RefilledAs (h x : Resting) : Type 0 where
    of_shown : ℕ
    of_reserve : ℕ
    from : OneOf (reduced_by of_shown of_reserve h) left
    is_used : (reduced_by of_shown of_reserve h).shares.0 ≡ 0
    stamped : x.stamp ≡ stamp n (set_place refill_fate k from)

  number_refilled : {h x : Resting} → OneOf h s → Due es h → x.number ≡ h.number → Put x → RefilledAs h x
  number_refilled {h = h} p due e (remains g t r q c l) =
      let m : gave es h < h.shares.0 = subst (λ (y : Resting). gave es y < y.shares.0) (same_number q p e) l in
      let z : ⊥ = omega (arith, m, due.used_up) in
      absurd z
  number_refilled {h = h} p due e (is_anew g t r q c is_due at) =
      subst (λ (y : Resting). RefilledAs y (stamped_as (stamp n (set_place refill_fate k at)) (refilled (reduced_by t r g)))) (same_number q p e)
      (record { of_shown = t; of_reserve = r; from = at; is_used = omega (arith, shown_used g t r c is_due.used_up); stamped = refl })

  refills_side : Refills buy n s afterwards es
  unfolding ranks_before
  refills_side = record {
    goes = λ h p all. all_alike (none_left h p all) all_put;
    keeps = λ h p l.
        let x = keeping_has took p in
        let part = shown_left h x.of_shown x.of_reserve x.is l in
        record {
          order = reduced_by x.of_shown x.of_reserve h;
          there =
              settled_stays refill_fate n k buy (x.there (λ z. omega (arith, part, z)))
              (refill_not_due (reduced_by x.of_shown x.of_reserve h) (λ z. omega (arith, part, z)));
          is = is_kept h x.of_shown x.of_reserve x.is l;
        };
    refills = λ h p due.
        let x = keeping_has took p in
        let y = reduced_by x.of_shown x.of_reserve h in
        let there = x.there (λ z. omega (arith, left_is_lem h x.of_shown x.of_reserve x.is, due.is_left, z)) in
        record {
          order = stamped_as (stamp n (set_place refill_fate k there)) (refilled y);
          there =
              settled_sets refill_fate n k buy there (refilled y)
              (refill_due y (omega (arith, shown_used h x.of_shown x.of_reserve x.is due.used_up)));
          is = is_refilled h x.of_shown x.of_reserve x.is n (set_place refill_fate k there) due;
        };
    none_else = λ x p. put_stood x (one_of_all all_put p);
    behind = λ h g h' g' p l shown q due same is_h there is_g also_there.
        let command : g'.stamp.command.0 ≡ n.0 = ap (λ (m : Number). m.0) is_g.stamp in
        let range : InRange last h = one_of_all in_range p in
        let before = earlier_command h.stamp g'.stamp (omega (arith, above, command, range.stamped_up_to)) in
        ranks_first buy h' g' (is_h.same.price ∙ same ∙ sym is_g.same.price) (is_h.same.displayed ∙ shown)
        (subst (λ (u : Stamp). earlier u g'.stamp ≡ true) (sym is_h.stamp) before);
    keep_order = λ g h g' h' p q due_g due_h r is_g there is_h also_there.
        let a = number_refilled p due_g is_g.same.number (one_of_all all_put there) in
        let b = number_refilled q due_h is_h.same.number (one_of_all all_put also_there) in
        let stands = stands_before buy ranked a.from b.from r in
        let rises = set_place_rises refill_fate k a.from b.from (refill_due (reduced_by a.of_shown a.of_reserve g) a.is_used) stands in
        ranks_again buy g h g' h' r is_g.same is_h.same
        (rw (a.stamped, b.stamped) (earlier_place n (set_place refill_fate k a.from) (set_place refill_fate k b.from) rises));
  }

-- ── An accepted order ──

-- all that 02 says holds of the side that it meets
side_refilled : (m : Number) (o : Order) (met : Met) {last : Number} → once_each met.opposite ≡ true → All (InRange last) met.opposite
    → (buy : Bool) (k : ℕ) → in_rank_order buy met.opposite ≡ true → last.0 < m.0
    → Refills buy m met.opposite (settled_side m k buy refill_fate (after met.opposite (takings o met))) (work_lines m o met)
unfolding after
side_refilled m o met {last = last} once in_range buy k ranked above =
    refills_side buy m k (lines_took m o met once in_range) once in_range
    (thinned_ranked buy (thinned_after (takings o met) (all_holding last in_range)) ranked) above

-- the side that it meets, afterwards
pub opposite_left : (b : Book) (line : List ℕ) (c : Command) (o : Order) → acts b line ≡ true → command_in line ≡ Some c
    → c.body ≡ body.Order o
    → opposite o (answer_to b line).book
    ≡ settled_side c.number first_move (not (buying o)) refill_fate (after (opposite o b) (takings o (met_by o b)))
opposite_left b line c o t e f =
    rw ((accepted_does b line c e t).0, f, (order_does c.number c.time b o).0)
    (⊎_elim
    (λ (is : buying o ≡ true). rw is refl)
    (λ (is : buying o ≡ false). rw is refl)
    (holds_or_not (buying o)))

-- what an accepted order leaves of the side that it meets, whether it is Post Only or not
pub order_refills : (b : Book) (line : List ℕ) (c : Command) (o : Order) → sound b ≡ true → acts b line ≡ true → command_in line ≡ Some c
    → c.body ≡ body.Order o
    → Refills (not (buying o)) c.number (opposite o b) (opposite o (answer_to b line).book) (events_in (printed (answer_to b line)))
order_refills b line c o s t e f =
    let sides = sides_of (buying o) b (sound_is b s) in
    let next = (acts_accepted b line c t e).next in
    rw (line_told b line s, acts_lines b line c o t e f, opposite_left b line c o t e f)
    (side_refilled c.number o (met_by o b) (opposite_once sides) sides.opposite_in_range (not (buying o)) first_move
    sides.opposite_ranked (omega (arith, next)))
