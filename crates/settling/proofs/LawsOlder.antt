-- The orders of a sound book are all older than a stamp of a command above its last, and away prices in range are below the bound of levels.
-- Assumes nothing.
use Prim.Native.Nat.{◌*◌, ◌≤◌, ◌<◌}
use mathlib.Core.Bool.{Bool, true, false}
use mathlib.Core.List.{List}
use mathlib.Core.Logic.{⊎_elim}
use mathlib.Core.Path.{◌≡◌}
use lib.Dec.{eqb}
use native.Mathlib.Omega.{arith}
use borrow.Author.Tests.{eqb-true}
use Rattle.basics.specs.Lists.{All}
use Rattle.basics.proofs.LawsChoice.{holds_or_not}
use Rattle.basics.proofs.LawsLists.{all_alike}
use Rattle.kinds.specs.declared.Cents.{Cents}
use Rattle.kinds.specs.declared.Number.{Number}
use Rattle.kinds.specs.Kinds.{halves_a_cent, highest_price}
use Rattle.kinds.proofs.LawsRanges.{price_highest, resting_highest}
use Rattle.rules.specs.declared.Away.{Away}
use Rattle.rules.specs.declared.Resting.{Resting}
use Rattle.rules.specs.declared.Stamp.{Stamp}
use Rattle.rules.specs.Book.{away_in_range}
use Rattle.rules.specs.Working.{locking_price}
use Rattle.rules.proofs.LawsRank.{earlier_command}
use Rattle.soundness.proofs.LawsSides.{InRange}
use Rattle.side.specs.Looking.{Older}

pub older_all : {last : Number} {s : List Resting} (t : Stamp) → last.0 < t.command.0 → All (InRange last) s → All (Older t) s
older_all t l a =
    all_alike
    (λ h r. record {
      priced = omega (arith, resting_highest h.price r.priced);
      stamped = earlier_command h.stamp t (omega (arith, r.stamped_up_to));
    })
    a

away_at_most : (p : Cents) → away_in_range p ≡ true → p.0 ≤ highest_price
away_at_most p e =
    ⊎_elim
    (λ (t : eqb p.0 0 ≡ true). let z : p.0 ≡ 0 = eqb-true p.0 0 t in omega arith)
    (λ (t : eqb p.0 0 ≡ false). price_highest p (rw t at e))
    (holds_or_not (eqb p.0 0))

-- so is the Locking Price, in half cents
pub locking_at_most : (buy : Bool) (away : Away) → away_in_range away.bid ≡ true → away_in_range away.offer ≡ true
    → (locking_price buy away).0 ≤ halves_a_cent * highest_price
locking_at_most true away bid offer = omega (arith, away_at_most away.offer offer)
locking_at_most false away bid offer = omega (arith, away_at_most away.bid bid)
