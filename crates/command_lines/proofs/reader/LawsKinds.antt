-- A body is read by the kind that its number names. Assumes nothing.
use Prim.Native.Nat.{ℕ}
use mathlib.Core.Bool.{Bool, true, false}
use mathlib.Core.List.{List}
use mathlib.Core.Path.{◌≡◌, refl}
use lib.Dec.{eqb}
use Rattle.std.specs.Prelude.{if◌then◌else◌, Option, Some, None}
use Rattle.rules.specs.CommandLines.{BodyReading, order_kind, cancel_kind, quote_kind, close_kind, reserve_kind, minimum_kind, kinds, body_from, body_in}
use Rattle.command_lines.specs.declared.forms.Kind.{Kind}
use Rattle.command_lines.specs.declared.forms.Kind.TheVariants as kind
use Rattle.command_lines.specs.Forms.{kind_numbered}
use Rattle.command_lines.specs.Reading.{body_of_kind}

abbrev pub by_kind : Option Kind → List ℕ → BodyReading
by_kind (Some k) s = body_of_kind k s
by_kind None s = None

pub body_numbered : (n : ℕ) (s : List ℕ) → body_in n s ≡ by_kind (kind_numbered n) s
unfolding body_in body_from kinds
body_numbered n s = go (eqb n order_kind) (eqb n cancel_kind) (eqb n quote_kind) (eqb n close_kind) (eqb n reserve_kind) (eqb n minimum_kind)
  where
    go : (a b c d e f : Bool)
        → (if a then body_of_kind kind.Order s
        else if b then body_of_kind kind.Cancel s
        else if c then body_of_kind kind.Quote s
        else if d then body_of_kind kind.Close s
        else if e then body_of_kind kind.Reserve s
        else if f then body_of_kind kind.Minimum s
        else None)
        ≡ by_kind
        (if a then Some kind.Order
        else if b then Some kind.Cancel
        else if c then Some kind.Quote
        else if d then Some kind.Close
        else if e then Some kind.Reserve
        else if f then Some kind.Minimum
        else None)
        s
    go true b c d e f = refl
    go false true c d e f = refl
    go false false true d e f = refl
    go false false false true e f = refl
    go false false false false true f = refl
    go false false false false false true = refl
    go false false false false false false = refl
