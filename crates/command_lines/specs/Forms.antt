-- The kinds of command lines by name: the row of each in the table of kinds (01, Command lines; 02, W4 and W7).
use Rattle.std.specs.Prelude.{ℕ, List, eqb, if◌then◌else◌, Option, Some, None}
use Rattle.rules.specs.CommandLines as lines
use Rattle.rules.specs.CommandLines.{order_kind, order_form, order_made, cancel_kind, cancel_form, cancel_made, quote_kind, quote_form, quote_made}
use Rattle.rules.specs.CommandLines.{close_kind, close_form, close_made, reserve_kind, reserve_form, reserve_made, minimum_kind, minimum_form, minimum_made}
use Rattle.command_lines.specs.declared.forms.Kind.{Kind}
use Rattle.command_lines.specs.declared.forms.Kind.TheVariants.{Order, Cancel, Quote, Close, Reserve, Minimum}

-- the row of each
abbrev pub row_of : Kind → lines.Kind
row_of Order = record { code = order_kind; form = order_form; make = order_made }
row_of Cancel = record { code = cancel_kind; form = cancel_form; make = cancel_made }
row_of Quote = record { code = quote_kind; form = quote_form; make = quote_made }
row_of Close = record { code = close_kind; form = close_form; make = close_made }
row_of Reserve = record { code = reserve_kind; form = reserve_form; make = reserve_made }
row_of Minimum = record { code = minimum_kind; form = minimum_form; make = minimum_made }

abbrev pub code_of : Kind → ℕ
code_of k = (row_of k).code

abbrev pub form_at : Kind → List ℕ
form_at k = (row_of k).form

-- the kind of a number
abbrev pub kind_numbered : ℕ → Option Kind
kind_numbered n =
    if eqb n order_kind then Some Order
    else if eqb n cancel_kind then Some Cancel
    else if eqb n quote_kind then Some Quote
    else if eqb n close_kind then Some Close
    else if eqb n reserve_kind then Some Reserve
    else if eqb n minimum_kind then Some Minimum
    else None
