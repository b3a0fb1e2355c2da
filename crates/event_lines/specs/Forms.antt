-- The kinds of event lines by name: of each its number, the fields behind it and the event that they make (01, What the machine says
-- back; 02, W1 and W2).
use Rattle.std.specs.Prelude.{ℕ, List, eqb, if◌then◌else◌, Option, Some, None}
use Rattle.rules.specs.EventLines.{executed_kind, rested_kind, cancelled_kind, moved_kind, executed_fields, rested_fields, cancelled_fields, moved_fields}
use Rattle.rules.specs.EventReading.{EventReading, executed_of, rested_of, cancelled_of, moved_of, event_of}
use Rattle.event_lines.specs.declared.forms.Kind.{Kind}
use Rattle.event_lines.specs.declared.forms.Kind.TheVariants.{Executed, Rested, Cancelled, Moved}

abbrev pub code_of : Kind → ℕ
code_of Executed = executed_kind
code_of Rested = rested_kind
code_of Cancelled = cancelled_kind
code_of Moved = moved_kind

abbrev pub fields_of : Kind → List ℕ
fields_of Executed = executed_fields
fields_of Rested = rested_fields
fields_of Cancelled = cancelled_fields
fields_of Moved = moved_fields

-- the event that the fields behind a kind make
abbrev pub event_of_kind : Kind → List ℕ → EventReading
event_of_kind Executed line = event_of executed_fields executed_of line
event_of_kind Rested line = event_of rested_fields rested_of line
event_of_kind Cancelled line = event_of cancelled_fields cancelled_of line
event_of_kind Moved line = event_of moved_fields moved_of line

-- the kind of a number
abbrev pub kind_numbered : ℕ → Option Kind
kind_numbered n =
    if eqb n executed_kind then Some Executed
    else if eqb n rested_kind then Some Rested
    else if eqb n cancelled_kind then Some Cancelled
    else if eqb n moved_kind then Some Moved
    else None
