-- `command_lines::reader::read_body` meets its contract: an order of any kind is read by what it carries. Assumes nothing.
use mathlib.Core.Logic.{◌⊎◌, ⊎_elim}
use mathlib.Core.Path.{◌≡◌, ap, ◌∙◌}
use Rattle.std.specs.Prelude.{Option}
use Rattle.rules.specs.declared.Carried.{Carried}
use Rattle.command_lines.specs.declared.forms.Kind.{Kind}
use Rattle.command_lines.specs.declared.forms.Kind.TheVariants as kind
use Rattle.command_lines.proofs.reader.LawsOrder.{IsOrder, with_carried, order_body}
use Rattle.command_lines.proofs.reader.read_body.Goals as goal

is_order : (k : Kind) → (k ≡ kind.Order) ⊎ ((k ≡ kind.Reserve) ⊎ (k ≡ kind.Minimum)) → IsOrder k
is_order k = ⊎_elim (λ e. rw e tt) (⊎_elim (λ e. rw e tt) (λ e. rw e tt))

pub returns-in_err-read_carried-in-Order : goal.returns-in_err-read_carried-in-Order
returns-in_err-read_carried-in-Order c =
    let a = c.args in
    c.from_residual.ensures
    ∙ ap (λ (r : Option Carried). with_carried r a.s.now) c.in_err-read_carried-in-Order.ensures
    ∙ order_body a.kind a.s.now (is_order a.kind c.in-Order.is)

pub returns-in_ok-read_carried-in-Order : goal.returns-in_ok-read_carried-in-Order
returns-in_ok-read_carried-in-Order c =
    let a = c.args in
    c.read_order.ensures
    ∙ ap (λ (r : Option Carried). with_carried r a.s.now) c.in_ok-read_carried-in-Order.ensures
    ∙ order_body a.kind a.s.now (is_order a.kind c.in-Order.is)
