-- `orders::matching::conclude` meets its contract: an arm for each ending. Assumes nothing.
use Prim.Native.Nat.{ℕ}
use mathlib.Core.List.{List}
use mathlib.Core.Path.{refl, sym, ap, ◌∙◌}
use lib.ListN.{length}
use Rattle.basics.specs.Bytes.{onto}
use Rattle.basics.proofs.LawsBytes.{onto_none}
use Rattle.rules.specs.declared.Event.{Event}
use Rattle.rules.specs.declared.Event.TheVariants.{Cancelled, Rested}
use Rattle.rules.specs.EventLines.{event_lines}
use Rattle.rules.specs.Reasons.{number_of_reason}
use Rattle.rules.proofs.LawsEvents.{cancelled_length, rested_length, event_lines_one}
use Rattle.orders.proofs.matching.conclude.Goals as goal

-- nothing is left
pub returns-in-Filled : goal.returns-in-Filled
unfolding event_lines
returns-in-Filled c = rw c.in-Filled.is (record { value = refl; own_after = refl; out_after = onto_none c.args.out.now })

-- the rest is cancelled
pub returns-in-Cancels : goal.returns-in-Cancels
returns-in-Cancels c =
    let a = c.args in
    let w = c.write_cancelled in
    let reason = number_of_reason c.in-Cancels.reason in
    let e : Event = Cancelled a.number a.left reason in
    rw c.in-Cancels.is (record {
      value = w.ensures.value ∙ sym (ap length (event_lines_one e) ∙ cancelled_length a.number a.left reason);
      own_after = refl;
      out_after = rw c.from.ensures at w.ensures.out_after ∙ ap (λ (l : List ℕ). onto l a.out.now) (sym (event_lines_one e));
    })

-- the rest of it rests
pub returns-in-Rests : goal.returns-in-Rests
returns-in-Rests c =
    let a = c.args in
    let w = c.write_rested in
    let e : Event = Rested a.number c.in-Rests.price a.left in
    rw c.in-Rests.is (record {
      value = w.ensures.value ∙ sym (ap length (event_lines_one e) ∙ rested_length a.number c.in-Rests.price a.left);
      own_after = rw (sym c.is_buy.ensures, sym c.remainder_of.ensures) c.rest.ensures;
      out_after = w.ensures.out_after ∙ ap (λ (l : List ℕ). onto l a.out.now) (sym (event_lines_one e));
    })
