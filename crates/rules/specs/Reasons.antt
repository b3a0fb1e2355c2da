-- The reasons of a cancel in the numbers of their lines (01, What the machine says back).
use Rattle.std.specs.Prelude.{ℕ}
use Rattle.rules.specs.declared.Reason.{Reason}
use Rattle.rules.specs.declared.Reason.TheVariants.{ByCommand, IocRemainder, FokKilled, CancelledBack, NoPriceInRange, PostOnlyMeets, AtClose, WouldStillMeet}

-- "Cancel reasons: 1 by command, 2 IOC remainder, 3 FOK, 4 Cancel Back, 5 no price in range, 6 Post Only meets the book, 7 close."; "would
-- still equal or pass an opposite order .. new reason 8" (02, W7)
abbrev pub number_of_reason : Reason → ℕ
number_of_reason ByCommand = 1
number_of_reason IocRemainder = 2
number_of_reason FokKilled = 3
number_of_reason CancelledBack = 4
number_of_reason NoPriceInRange = 5
number_of_reason PostOnlyMeets = 6
number_of_reason AtClose = 7
number_of_reason WouldStillMeet = 8
