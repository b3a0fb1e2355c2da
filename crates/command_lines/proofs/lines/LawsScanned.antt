-- Bytes that are no command: those that are no command's line, and so those with no line feed. Assumes nothing.
use Prim.Native.Nat.{ℕ}
use mathlib.Core.Bool.{true≢false}
use mathlib.Core.List.{List, [], ◌∷◌, ◌++◌}
use mathlib.Core.Path.{◌≡◌, refl}
use Rattle.basics.specs.Lists.{also}
use Rattle.rules.specs.declared.Command.{Command}
use Rattle.rules.specs.CommandLines.{Reading}
use Rattle.rules.specs.CommandLines.{command_in, header_form, kind_of, form_of, numbers_of, written, line_feed, line_of}
use Rattle.rules.proofs.LawsLines.{command_in_is}
use Rattle.rules.proofs.LawsUnended.{Unended}
use Rattle.std.specs.Prelude.{Some, None}

-- every command has a line of its own
pub no_command : (l : List ℕ) → ((c : Command) → l ≡ line_of c → ⊥) → command_in l ≡ None
no_command l never = by_reading (command_in l) refl
  where
    by_reading : (r : Reading) → command_in l ≡ r → command_in l ≡ None
    by_reading None e = e
    by_reading (Some c) e = absurd (never c (command_in_is l c e).line_is_lem)

unended_behind : (s u : List ℕ) → Unended (s ++ u) → Unended u
unended_behind [] u a = a
unended_behind (c ∷ s) u (also e a) = unended_behind s u a

-- which ends with a line feed
line_of_ended : (c : Command) → Unended (line_of c) → ⊥
unfolding line_of
line_of_ended c a =
    let body = written (form_of c.body) (numbers_of c.body) in
    let header = written header_form (kind_of c.body ∷ c.number.0 ∷ c.time ∷ []) in
    ended (unended_behind body (line_feed ∷ []) (unended_behind header (body ++ (line_feed ∷ [])) a))
  where
    ended : Unended (line_feed ∷ []) → ⊥
    ended (also e a) = true≢false e

pub unended_bad : (l : List ℕ) → Unended l → command_in l ≡ None
unended_bad l a = no_command l never
  where
    never : (c : Command) → l ≡ line_of c → ⊥
    never c e = line_of_ended c (rw e at a)
