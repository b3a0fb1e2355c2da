-- How the body of a line is read, by its kind. Orders of the several kinds are read together (01, Command lines; 02, W4, W7): what one
-- carries comes first, with the end of its line.
use Rattle.std.specs.Prelude.{ℕ, List, if◌then◌else◌, Option, Some, None}
use Rattle.digits.specs.Digits.{number_at}
use Rattle.kinds.specs.declared.Shares.{Shares}
use Rattle.kinds.specs.Kinds.{cents, shares}
use Rattle.rules.specs.declared.Body.TheVariants as body
use Rattle.rules.specs.declared.Carried.{Carried}
use Rattle.rules.specs.declared.Carried.TheVariants.{Nothing, MaxFloor, Minimum}
use Rattle.rules.specs.CommandLines.{BodyReading, Making, made, numbers_from, order_form, reserve_form, digits_in, is_ended, body_of_form}
use Rattle.command_lines.specs.declared.forms.Kind.{Kind}
use Rattle.command_lines.specs.declared.forms.Kind.TheVariants as kind
use Rattle.command_lines.specs.Forms.{row_of}

-- the body that the digits after the header are, of a kind
abbrev pub body_of_kind : Kind → List ℕ → BodyReading
body_of_kind k s = body_of_form (row_of k).form (row_of k).make s

abbrev pub as_shares : Option ℕ → Option Shares
as_shares (Some n) = Some (shares n)
as_shares None = None

-- the number behind the fields that every order has: the Max Floor or the minimum, in lines of one form
unfoldable pub last_in : List ℕ → Option Shares
last_in s = if is_ended (digits_in reserve_form) s then as_shares (number_at 4 (digits_in order_form) s) else None

abbrev pub carrying : (Shares → Carried) → Option Shares → Option Carried
carrying carry (Some n) = Some (carry n)
carrying carry None = None

-- what an order of a kind carries
abbrev pub carried_in : Kind → List ℕ → Option Carried
carried_in kind.Order s = if is_ended (digits_in order_form) s then Some Nothing else None
carried_in kind.Reserve s = carrying MaxFloor (last_in s)
carried_in kind.Minimum s = carrying Minimum (last_in s)
carried_in kind.Cancel s = None
carried_in kind.Quote s = None
carried_in kind.Close s = None

-- the order that the fields of every order make, with what it carries
abbrev pub order_made_with : Carried → Making order_form BodyReading
order_made_with c side word price count =
    Some (body.Order (record { side = side; word = word; price = cents price; shares = shares count; carried = c }))

unfoldable pub order_carrying : Carried → List ℕ → BodyReading
order_carrying c s = made None order_form (order_made_with c) (numbers_from 0 order_form s)
