-- How far a moved quote goes over a side, and what becomes of an order that it reaches.
use Rattle.std.specs.Prelude.{ℕ, Bool, not, ◌&&◌, List, ltb, length, get_or, if◌then◌else◌}
use Rattle.kinds.specs.declared.HalfCents.{HalfCents}
use Rattle.rules.specs.declared.Fate.{Fate}
use Rattle.rules.specs.declared.Fate.TheVariants.{IsCancelled, IsSet}
use Rattle.rules.specs.declared.Reason.TheVariants.{CancelledBack}
use Rattle.rules.specs.declared.Resting.{Resting}
use Rattle.rules.specs.Book.{unused}
use Rattle.rules.specs.Reasons.{number_of_reason}
use Rattle.rules.specs.Settling.{set_at}
use Rattle.rules.specs.Working.{beyond, absent}

-- there is a Locking Price, and an order at a rank whose price is beyond it
abbrev pub goes_on : Bool → HalfCents → ℕ → List Resting → Bool
goes_on buy locking at s = ltb at (length s) && not (absent locking) && beyond buy locking (get_or s at unused).price

-- what becomes of an order that would now cross
abbrev pub fate_at : HalfCents → Resting → Fate
fate_at locking h = if h.back then IsCancelled (number_of_reason CancelledBack) else IsSet (set_at locking h)
