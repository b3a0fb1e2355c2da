-- A refusal is given exactly when its row of the table applies and no lower row does, and a line is accepted exactly when none applies
-- (01, What the machine says back: "Given exactly when", "The lowest number that applies is given"). Assumes nothing.
use Prim.Native.Nat.{ℕ, ◌≤◌, ◌<◌}
use mathlib.Core.Bool.{Bool, true, false, not, ◌&&◌}
use mathlib.Core.List.{List, [], ◌∷◌}
use mathlib.Core.Logic.{◌≢◌, ⊎_elim}
use mathlib.Core.Path.{◌≡◌, refl, sym, ap, subst, ◌∙◌}
use lib.Dec.{ltb}
use lib.ListN.{length}
use native.Mathlib.Omega.{arith}
use borrow.Author.Tests.{ltb-true, lt-ltb, not-true}
use Rattle.basics.proofs.LawsChoice.{holds_or_not, lt_or_le, and_left, and_right}
use Rattle.rules.specs.declared.Body.{Body}
use Rattle.rules.specs.declared.Body.TheVariants as body
use Rattle.rules.specs.declared.Command.{Command}
use Rattle.rules.specs.CommandLines.{Reading}
use Rattle.rules.specs.Book.{Book, BookRecord, book_in, record_sound}
use Rattle.rules.specs.CommandLines.{Fits, line_of, command_in}
use Rattle.rules.specs.Refusals.{Refusal, least_room, reading_refusal, first_of, header_refusals, body_refusals, line_refusals, refusals}
use Rattle.rules.specs.Step.{step_on, step}
use Rattle.rules.proofs.LawsLines.{command_in_line_of, command_in_is}
use Rattle.demands.specs.ExactlyWhen.{Applies, room_short, not_sound, no_form, of_command, NoLower}
use Rattle.demands.proofs.LawsRows.{Gives, here, later, gives_applies, applies_gives}
use Rattle.std.specs.Prelude.{Some, None}

-- ── The first number that a table gives is the lowest ──

-- the numbers of a table rise, all of them above n
abbrev rising : ℕ → List Refusal → Bool
rising n [] = true
rising n (x ∷ s) = ltb n x.number && rising x.number s

-- the first number is above n, and the others are above it
module _ (n : ℕ) (x : Refusal) (s : List Refusal) (h : rising n (x ∷ s) ≡ true) where
  rises : n < x.number
  rises = ltb-true n x.number (and_left (ltb n x.number) (rising x.number s) h)

  rising_on : rising x.number s ≡ true
  rising_on = and_right (ltb n x.number) (rising x.number s) h

-- what such a table gives is above n
gives_above : {k : ℕ} (n : ℕ) (s : List Refusal) → rising n s ≡ true → Gives k s → n < k
gives_above n [] h g = elim g [ ]
gives_above n (x ∷ s) h (here t) = rises n x s h
gives_above n (x ∷ s) h (later g) = omega (arith, rises n x s h, gives_above x.number s (rising_on n x s h) g)

-- where it gives a number, the first that it gives is above n too, and no higher
first_lowest : {k : ℕ} (n : ℕ) (s : List Refusal) → rising n s ≡ true → Gives k s → (n < first_of s) × (first_of s ≤ k)
unfolding first_of
first_lowest n [] h g = elim g [ ]
first_lowest n (x ∷ s) h (here t) = rw t (rises n x s h, omega arith)
first_lowest n (x ∷ s) h (later {k = k} g) =
    let l = rises n x s h in
    ⊎_elim
    (λ (t : x.given ≡ true). let m = gives_above x.number s (rising_on n x s h) g in rw t (l, omega (arith, m)))
    (λ (t : x.given ≡ false). let m = first_lowest x.number s (rising_on n x s h) g in rw t (omega (arith, l, m.0), m.1))
    (holds_or_not x.given)

-- the first number that a table gives is one that it gives
gives_first : (s : List Refusal) → 0 < first_of s → Gives (first_of s) s
unfolding first_of
gives_first [] l = let z : ⊥ = omega (arith, l) in absurd z
gives_first (x ∷ s) l =
    ⊎_elim
    (λ (t : x.given ≡ true). let e : first_of (x ∷ s) ≡ x.number = rw t in subst (λ (k : ℕ). Gives k (x ∷ s)) (sym e) (here t))
    (λ (t : x.given ≡ false).
    let e : first_of (x ∷ s) ≡ first_of s = rw t in
    subst (λ (k : ℕ). Gives k (x ∷ s)) (sym e) (later (gives_first s (omega (arith, e, l)))))
    (holds_or_not x.given)

-- ── The table of 01 ──

-- the numbers of a body rise, from above the header's
body_rising : (b : Book) (c : Body) → rising 7 (body_refusals b c) ≡ true
unfolding body_refusals
body_rising b (body.Order o) = refl
body_rising b (body.Cancel n) = refl
body_rising b (body.Quote away) = refl
body_rising b body.Close = refl

-- the numbers of the table rise
table_rising : (room : ℕ) (book_sound : Bool) (b : Book) (line : Reading) → rising 0 (refusals room book_sound b line) ≡ true
unfolding refusals line_refusals header_refusals
table_rising room book_sound b None = refl
table_rising room book_sound b (Some c) = body_rising b c.body

module _ (r : BookRecord) (line out : List ℕ) where
  -- the table on a line, to a record, with an output
  abbrev whole_table : List Refusal
  whole_table = refusals (length out) (record_sound r) (book_in r) (command_in line)

  -- what the table gives on a line, by what the line reads as: its row applies
  line_applies : {k : ℕ} (q : Reading) → command_in line ≡ q → Gives k (line_refusals (book_in r) q) → Applies r line out k
  unfolding line_refusals
  line_applies None e (here t) =
      no_form (λ c f is. omega (arith, ap reading_refusal (sym e ∙ ap command_in is ∙ command_in_line_of c f)))
  line_applies None e (later g) = elim g [ ]
  line_applies (Some c) e g = let l = command_in_is line c e in of_command c l.fits_are l.line_is_lem (gives_applies r c g)

  -- a number that the table gives: its row applies
  table_applies : {k : ℕ} → Gives k whole_table → Applies r line out k
  unfolding refusals
  table_applies (here t) = room_short (ltb-true (length out) least_room t)
  table_applies (later (here t)) = not_sound (not-true (record_sound r) t)
  table_applies (later (later g)) = line_applies (command_in line) refl g

  -- the line of no command reads as none, which gives 3
  no_form_gives : ((c : Command) → Fits c → line ≢ line_of c) → (q : Reading) → command_in line ≡ q → Gives 3 (line_refusals (book_in r) q)
  unfolding line_refusals
  no_form_gives f None e = here refl
  no_form_gives f (Some c) e = let l = command_in_is line c e in absurd (f c l.fits_are l.line_is_lem)

  -- a row that applies: the table gives its number
  applies_table : {k : ℕ} → Applies r line out k → Gives k whole_table
  unfolding refusals line_refusals
  applies_table (room_short l) = here (lt-ltb (length out) least_room l)
  applies_table (not_sound t) = later (here (ap not t))
  applies_table (no_form f) = later (later (no_form_gives f (command_in line) refl))
  applies_table (of_command c f is a) =
      let e : command_in line ≡ Some c = ap command_in is ∙ command_in_line_of c f in
      rw e (later (later (applies_gives r c a)))

  -- ── Exactly when ──

  -- the refusal that is given, if one is, applies
  given_applies : 0 < (step r line out).refusal → Applies r line out (step r line out).refusal
  unfolding step step_on
  given_applies l = table_applies (gives_first whole_table l)

  -- where a row applies, a refusal is given, and no higher one
  given_lowest : {k : ℕ} → Applies r line out k → (0 < (step r line out).refusal) × ((step r line out).refusal ≤ k)
  unfolding step step_on
  given_lowest a = first_lowest 0 whole_table (table_rising (length out) (record_sound r) (book_in r) (command_in line)) (applies_table a)

  -- the refusal that is given applies, and no lower one
  refused_applies : (k : ℕ) → 1 ≤ k → (step r line out).refusal ≡ k → Applies r line out k × NoLower r line out k
  refused_applies k l e =
      (subst (Applies r line out) e (given_applies (omega (arith, e))), λ j below a. omega (arith, e, given_lowest a))

  -- the lowest that applies is given
  applies_refused : (k : ℕ) → Applies r line out k → NoLower r line out k → (step r line out).refusal ≡ k
  applies_refused k a never =
      let g = given_lowest a in
      ⊎_elim
      (λ (l : (step r line out).refusal < k). absurd (never (step r line out).refusal l (given_applies g.0)))
      (λ (l : k ≤ (step r line out).refusal). omega (arith, g.1))
      (lt_or_le (step r line out).refusal k)

  -- where none applies, none is given
  none_accepted : ((k : ℕ) → Applies r line out k → ⊥) → (step r line out).refusal ≡ 0
  none_accepted never =
      ⊎_elim
      (λ (l : 0 < (step r line out).refusal). absurd (never (step r line out).refusal (given_applies l)))
      (λ (l : (step r line out).refusal ≤ 0). omega arith)
      (lt_or_le 0 (step r line out).refusal)

-- a refusal is given exactly if its row applies and no lower row does
pub refused_exactly : (r : BookRecord) (line out : List ℕ) (k : ℕ) → 1 ≤ k
    → ((step r line out).refusal ≡ k → Applies r line out k × NoLower r line out k)
    × (Applies r line out k → NoLower r line out k → (step r line out).refusal ≡ k)
refused_exactly r line out k l = (refused_applies r line out k l, applies_refused r line out k)

-- a line is accepted exactly if no row applies
pub accepted_exactly : (r : BookRecord) (line out : List ℕ)
    → ((step r line out).refusal ≡ 0 → (k : ℕ) → Applies r line out k → ⊥)
    × (((k : ℕ) → Applies r line out k → ⊥) → (step r line out).refusal ≡ 0)
accepted_exactly r line out = (λ e k a. omega (arith, e, given_lowest r line out a), none_accepted r line out)
