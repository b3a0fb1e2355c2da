-- The refusals of the code in the numbers of 01's table (What the machine says back), and back.
use Rattle.std.specs.Prelude.{ℕ, zero, suc, List, [], ◌∷◌, Option, Some, None, Result, Ok, Err, slice_get}
use Rattle.rules.specs.declared.Refusal.{Refusal}
use Rattle.rules.specs.declared.Refusal.TheVariants.{NoRoom, UnsoundBook, NoCommand, SeenAlready, TooFarAhead, Closed, Untimely, UnlawfulWord, OutOfRange, NotResting, FullSide}

-- the number of each
abbrev pub number_of : Refusal → ℕ
number_of NoRoom = 1
number_of UnsoundBook = 2
number_of NoCommand = 3
number_of SeenAlready = 4
number_of TooFarAhead = 5
number_of Closed = 6
number_of Untimely = 7
number_of UnlawfulWord = 8
number_of OutOfRange = 9
number_of NotResting = 10
number_of FullSide = 11

-- the refusals in the order of the table
abbrev pub in_order : List Refusal
in_order =
    NoRoom ∷ UnsoundBook ∷ NoCommand ∷ SeenAlready ∷ TooFarAhead ∷ Closed ∷ Untimely ∷ UnlawfulWord ∷ OutOfRange ∷ NotResting ∷ FullSide ∷ []

-- the refusal of a number; 0 is the number of none
abbrev pub refusal_numbered : ℕ → Option Refusal
refusal_numbered zero = None
refusal_numbered (suc n) = slice_get in_order n

-- what is returned where the table gives a number: the value where that is 0, else the refusal of that number
abbrev pub unless_refused : {A : Type 0} → Option Refusal → A → Result A Refusal
unless_refused None a = Ok a
unless_refused (Some refusal) a = Err refusal

abbrev pub or_refused : {A : Type 0} → A → ℕ → Result A Refusal
or_refused a n = unless_refused (refusal_numbered n) a
