-- `commands::cancels::take_off` meets its contract. Assumes nothing.
use mathlib.Core.Path.{sym, subst, ◌∙◌}
use lib.ListN.{get_or}
use Rattle.basics.proofs.LawsLists.{all_at}
use Rattle.kinds.specs.Kinds.{shares}
use Rattle.side.specs.Shifts.{Countable}
use Rattle.rules.specs.Book.{unused, shares_left}
use Rattle.rules.specs.declared.Reason.TheVariants.{ByCommand}
use Rattle.rules.specs.Reasons.{number_of_reason}
use Rattle.rules.proofs.LawsEvents.{cancelled_length}
use Rattle.commands.proofs.cancels.take_off.Goals as goal

pub shares_left-left-requires : goal.shares_left-left-requires
shares_left-left-requires c =
    let a = c.args in
    subst Countable (sym c.at-o.ensures) (all_at unused a.rank c.requires.countable c.requires.there)

pub returns-clause-value : goal.returns-clause-value
returns-clause-value c =
    let a = c.args in
    let h = get_or a.t.now a.rank unused in
    c.write_cancelled.ensures.value ∙ sym (cancelled_length h.number (shares (shares_left h)) (number_of_reason ByCommand))
