-- The two orders of an execution are two: on a day of our own no line names one number twice, so counting a line once or once for each
-- role comes to the same. Assumes nothing.
use Prim.Native.Nat.{ℕ, ◌+◌}
use mathlib.Core.Bool.{true, false}
use mathlib.Core.List.{List, [], ◌∷◌}
use mathlib.Core.Logic.{◌≢◌, ⊎_elim}
use mathlib.Core.Path.{◌≡◌, refl, sym, ◌∙◌}
use lib.Dec.{eqb}
use native.Mathlib.Omega.{arith}
use borrow.Author.Tests.{ne_eqb, eqb-true}
use Rattle.basics.specs.Lists.{sum_of, All, none, also}
use Rattle.basics.proofs.LawsChoice.{holds_or_not}
use Rattle.basics.proofs.LawsLists.{all_alike, all_both, one_of_all}
use Rattle.kinds.specs.declared.HalfCents.{HalfCents}
use Rattle.kinds.specs.declared.Number.{Number}
use Rattle.rules.specs.declared.Body.{Body}
use Rattle.rules.specs.declared.Body.TheVariants as body
use Rattle.rules.specs.declared.Event.{Event}
use Rattle.rules.specs.declared.Event.TheVariants.{Executed, Rested, Cancelled, Moved}
use Rattle.rules.specs.declared.Order.{Order}
use Rattle.rules.specs.CommandLines.{Reading}
use Rattle.rules.specs.declared.Resting.{Resting}
use Rattle.rules.specs.Book.{Book, sound}
use Rattle.rules.specs.CommandLines.{command_in}
use Rattle.rules.specs.Commands.{does}
use Rattle.rules.specs.Holdings.{Holding, executions, after}
use Rattle.rules.specs.Settling.{opposite_side}
use Rattle.rules.specs.Step.{done_by, answer, answer_to}
use Rattle.rules.specs.Working.{buying, met_by, execution_price, takings, remainder, ending}
use Rattle.rules.proofs.LawsCommands.{order_does, does_tells}
use Rattle.rules.proofs.LawsWalkOrder.{holdings_there}
use Rattle.soundness.proofs.LawsSides.{sides_of}
use Rattle.soundness.proofs.LawsSound.{sound_is}
use Rattle.demands.specs.Once.{command_number, acts}
use Rattle.demands.specs.Told.{executed_by}
use Rattle.demands.proofs.LawsFairly.{every_told, every_last}
use Rattle.demands.proofs.LawsLinesTell.{every_refill}
use Rattle.demands.proofs.LawsOnce.{next_acts}
use Rattle.tally.specs.Tally.{executed_shares}
use Rattle.std.specs.Prelude.{Some, None}

abbrev pub TwoParties : Event → Type 0
TwoParties (Executed incoming resting price shares) = incoming.0 ≢ resting.0
TwoParties (Rested number price shares) = Unit {0}
TwoParties (Cancelled number shares reason) = Unit {0}
TwoParties (Moved number price shares) = Unit {0}

-- ── Counted once, and once for each role ──

same_shares : (n : Number) (e : Event) → TwoParties e → executed_shares n e ≡ executed_by n e
same_shares n (Executed incoming resting price shares) two =
    ⊎_elim
    (λ (t : eqb n.0 incoming.0 ≡ true).
    let e = eqb-true n.0 incoming.0 t in
    rw (t, ne_eqb n.0 resting.0 (λ z. two (sym e ∙ z))) (omega arith))
    (λ (t : eqb n.0 incoming.0 ≡ false). rw t (omega arith))
    (holds_or_not (eqb n.0 incoming.0))
same_shares n (Rested number price shares) two = refl
same_shares n (Cancelled number shares reason) two = refl
same_shares n (Moved number price shares) two = refl

pub same_sums : (n : Number) {es : List Event} → All TwoParties es → sum_of (executed_shares n) es ≡ sum_of (executed_by n) es
unfolding sum_of
same_sums n none = refl
same_sums n (also {x = e} two a) = rw (same_shares n e two, same_sums n a) refl

-- ── The events of a line ──

executions_two : (m : Number) (price : Resting → HalfCents) {s : List Holding} (ts : List ℕ) → All (λ (h : Holding). m.0 ≢ h.of.number.0) s
    → All TwoParties (executions m price s ts)
unfolding executions
executions_two m price ts none = none
executions_two m price [] (also d a) = none
executions_two m price (t ∷ ts) (also d a) =
    ⊎_elim
    (λ (z : eqb t 0 ≡ true). rw z (executions_two m price ts a))
    (λ (z : eqb t 0 ≡ false). rw z (also d (executions_two m price ts a)))
    (holds_or_not (eqb t 0))

-- the number of an accepted command is above that of every resting order
does_two : (b : Book) (n : Number) (time : ℕ) → sound b ≡ true → n.0 ≡ b.held.last.0 + 1 → (c : Body) → All TwoParties (does n time c b).events
does_two b n time s next =
    does_tells n time b (λ (c : Body) (es : List Event). All TwoParties es) order_two (λ c. every_told (λ m k reason. tt) (λ m price k. tt) c b)
  where
    order_two : (o : Order) → All TwoParties (does n time (body.Order o) b).events
    order_two o =
        let opposite = opposite_side (buying o) b in
        let met = met_by o b in
        let range = (sides_of (buying o) b (sound_is b s)).opposite_in_range in
        let new : All (λ (h : Resting). n.0 ≢ h.number.0) opposite =
        all_alike (λ h r. λ (z : n.0 ≡ h.number.0). omega (arith, z, r.up_to_last, next)) range in
        rw (order_does n time b o).1
        (all_both
        (all_both (executions_two n (execution_price o met) (takings o met) (all_alike (λ h p. one_of_all new p) (holdings_there opposite)))
        (every_last n (λ price k. tt) (λ k reason. tt) (remainder o met) (ending o met)))
        (every_refill (λ m price k. tt) (after opposite (takings o met))))

done_two : (b : Book) (r : Reading) → sound b ≡ true → command_number r ≡ b.held.last.0 + 1 → All TwoParties (done_by r b).events
unfolding done_by
done_two b None s next = none
done_two b (Some c) s next = does_two b c.number c.time s next c.body

pub line_two : (b : Book) (line : List ℕ) → sound b ≡ true → acts b line ≡ true → All TwoParties (answer_to b line).events
unfolding answer_to answer
line_two b line s t = rw t (done_two b (command_in line) s (next_acts b line t).0)
