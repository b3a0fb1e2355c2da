-- Through the table and through the book, the same: a book whose one side is taken out and lent, and put in again, answers as the book
-- itself does. Where the side's count is that of its leading records, the table put in is the very side; where it is another, the book is
-- not sound, and refuses. And what is taken apart of a refusal is what came. Assumes nothing.
use Prim.Native.Nat.{ℕ, zero, suc, ◌≤◌, ◌<◌}
use mathlib.Core.Bool.{Bool, true, false, ◌&&◌}
use mathlib.Core.List.{List, [], ◌∷◌}
use mathlib.Core.Logic.{◌≢◌, ⊎_elim}
use mathlib.Core.Path.{◌≡◌, refl, sym, ap, ◌∙◌}
use lib.Dec.{eqb, leb}
use lib.ListN.{length, take, drop, replicate}
use native.Mathlib.Omega.{arith}
use borrow.Author.Tests.{eq-eqb, ne_eqb, eqb-true, eqb-false, leb-true, lt-ltb, le-ltb}
use Rattle.basics.specs.Lists.{every, first_where, All, also}
use Rattle.basics.proofs.LawsChoice.{holds_or_not, lt_or_le, and_left, and_right}
use Rattle.kinds.specs.declared.Number.{Number}
use Rattle.rules.specs.declared.Resting.{Resting}
use Rattle.rules.specs.Book.{Places, BookRecord, places_a_side, unused, is_unused, places_sound, book_in, sound, record_sound}
use Rattle.rules.specs.CommandLines.{command_in}
use Rattle.rules.specs.Refusals.{first_of, least_room, line_refusals, fit_refusals, refusals}
use Rattle.rules.specs.Step.{Returned, step, step_on}
use Rattle.rules.proofs.LawsRefusals.{fit_facts}
use Rattle.soundness.proofs.LawsKept.{step_sound}
use Rattle.soundness.proofs.LawsRecords.{all_unused}
use Rattle.soundness.proofs.LawsSides.{InRange, Sides, sides_of}
use Rattle.soundness.proofs.LawsSound.{sound_is}
use Rattle.book.proofs.LawsStep.{step_no_room, step_unsound}
use Rattle.lent.specs.Lent.{Lent, places_lent, no_places, is_empty, side_of, with_places, taken_apart, fits, lent_step}

-- ── The count of a sound side ──

-- a side's count is that of its leading records
abbrev Counted : Places → Type 0
Counted p = p.used ≡ first_where is_unused p.places

-- an order with a number is no unused place
used : (last : Number) (h : Resting) → InRange last h → is_unused h ≡ false
used last h r =
    let n = ne_eqb h.number.0 0 (λ (z : h.number.0 ≡ 0). let y : ⊥ = omega (arith, z, r.from_one) in y) in
    rw n refl

-- the places that are used come first, so the first that is not tells how many they are
count_is : (last : Number) (n : ℕ) (s : List Resting) → n ≤ length s → All (InRange last) (take n s) → every is_unused (drop n s) ≡ true
    → n ≡ first_where is_unused s
unfolding every first_where
count_is last zero [] l a e = refl
count_is last zero (h ∷ s) l a e = rw (and_left (is_unused h) (every is_unused s) e)
count_is last (suc n) [] l a e = let z : ⊥ = omega arith in absurd z
count_is last (suc n) (h ∷ s) l (also r a) e = rw (used last h r) (ap suc (count_is last n s (omega arith) a e))

places_counted : (last : Number) (p : Places) → places_sound p ≡ true → All (InRange last) (take p.used p.places) → Counted p
places_counted last p is_sound a =
    let few = leb p.used places_a_side in
    let all = eqb (length p.places) places_a_side in
    let rest = every is_unused (drop p.used p.places) in
    let both = and_left (few && all) rest is_sound in
    let most = leb-true p.used places_a_side (and_left few all both) in
    let long = eqb-true (length p.places) places_a_side (and_right few all both) in
    count_is last p.used p.places (omega (arith, most, long)) a (and_right (few && all) rest is_sound)

-- either side of a sound record is so counted
side_counted : (buys : Bool) (r : BookRecord) → record_sound r ≡ true → Counted (side_of buys r)
unfolding record_sound book_in
side_counted buys r is_sound =
    let both = places_sound r.buys && places_sound r.sells in
    by_side buys (and_left both (sound (book_in r)) is_sound)
    (sides_of true (book_in r) (sound_is (book_in r) (and_right both (sound (book_in r)) is_sound)))
  where
    by_side : (buys : Bool) → (places_sound r.buys && places_sound r.sells) ≡ true → Sides true r.held.last (book_in r).buys (book_in r).sells
        → Counted (side_of buys r)
    by_side true t s = places_counted r.held.last r.buys (and_left (places_sound r.buys) (places_sound r.sells) t) s.own_in_range
    by_side false t s = places_counted r.held.last r.sells (and_right (places_sound r.buys) (places_sound r.sells) t) s.opposite_in_range

-- ── The side put in ──

-- the table put in is the side that was taken out
put_in : (buys : Bool) (r : BookRecord) → Counted (side_of buys r) → with_places buys (places_lent (side_of buys r).places) (with_places buys no_places r) ≡ r
put_in true r counted = rw (← counted) refl
put_in false r counted = rw (← counted) refl

taken_out : (buys : Bool) (r : BookRecord) → is_empty (side_of buys (with_places buys no_places r)) ≡ true
unfolding is_empty every
taken_out true r = refl
taken_out false r = refl

-- ── The empty side ──

-- a side that passes for empty has nothing in it
empty_is : (p : Places) → is_empty p ≡ true → p ≡ no_places
unfolding is_empty
empty_is p e =
    let none = eqb p.used 0 in
    let all = eqb (length p.places) places_a_side in
    let both = and_left (none && all) (every is_unused p.places) e in
    let used = eqb-true p.used 0 (and_left none all both) in
    let long = eqb-true (length p.places) places_a_side (and_right none all both) in
    let each = and_right (none && all) (every is_unused p.places) e in
    let zeros = all_unused p.places each ∙ ap (λ (n : ℕ). replicate n unused) long in
    made used zeros
  where
    made : {n : ℕ} {s : List Resting} → n ≡ 0 → s ≡ replicate places_a_side unused → record { used = n; places = s } ≡ no_places
    made f g = rw (f, g)

-- so a book of which that side is empty is left when what was put in is taken out
taken_back : (buys : Bool) (r : BookRecord) (p : Places) → is_empty (side_of buys r) ≡ true
    → with_places buys no_places (with_places buys p r) ≡ r
taken_back true r p e = ap (λ (q : Places). with_places true q r) (sym (empty_is r.buys e))
taken_back false r p e = ap (λ (q : Places). with_places false q r) (sym (empty_is r.sells e))

side_put_in : (buys : Bool) (r : BookRecord) (p : Places) → side_of buys (with_places buys p r) ≡ p
side_put_in true r p = refl
side_put_in false r p = refl

-- ── The same answer ──

-- a line to the book with its side lent is the line to the book, taken apart
pub lent_is_answer : (buys : Bool) (r : BookRecord) (line out : List ℕ) → Counted (side_of buys r) → length (side_of buys r).places ≡ places_a_side
    → lent_step buys (with_places buys no_places r) (side_of buys r).places line out
    ≡ taken_apart buys (with_places buys no_places r) (side_of buys r).places (step r line out)
unfolding lent_step fits
lent_is_answer buys r line out counted all =
    let apart = with_places buys no_places r in
    let table = (side_of buys r).places in
    rw (eq-eqb (length table) places_a_side all, taken_out buys r)
    (ap (λ (x : BookRecord). taken_apart buys apart table (step x line out)) (put_in buys r counted))

-- a book with a side that counts otherwise is not sound, so it is refused
pub uncounted_refused : (buys : Bool) (r : BookRecord) (line out : List ℕ) → (Counted (side_of buys r) → ⊥)
    → step r line out ≡ record { refusal = first_of (fit_refusals (length out) false); length = 0; book = r; out = out }
unfolding step first_of
uncounted_refused buys r line out uncounted =
    ⊎_elim
    (λ (short : length out < least_room). rw (lt-ltb (length out) least_room short) (step_no_room r out (command_in line) short))
    (λ (room : least_room ≤ length out).
    rw (le-ltb (length out) least_room room)
    (⊎_elim
    (λ (t : record_sound r ≡ true). absurd (uncounted (side_counted buys r t)))
    (λ (t : record_sound r ≡ false). step_unsound r out room (command_in line) t)
    (holds_or_not (record_sound r))))
    (lt_or_le (length out) least_room)

-- a refusal hands back the same book
refused_same : (r : BookRecord) (line out : List ℕ) → (step r line out).refusal ≢ 0 → (step r line out).book ≡ r
unfolding step step_on
refused_same r line out refused = rw (ne_eqb (step r line out).refusal 0 refused) refl

-- a book that accepts a line is sound ..
accepted_sound : (r : BookRecord) (line out : List ℕ) → (step r line out).refusal ≡ 0 → record_sound r ≡ true
unfolding step step_on refusals
accepted_sound r line out accepted = (fit_facts (length out) (record_sound r) (line_refusals (book_in r) (command_in line)) accepted).1

-- .. and so is the book that it leaves: the side put in again is its side
accepted_again : (buys : Bool) (r : BookRecord) (line out : List ℕ) → (step r line out).refusal ≡ 0
    → let after = (step r line out).book in
    with_places buys (places_lent (side_of buys after).places) (with_places buys no_places after) ≡ after
accepted_again buys r line out accepted =
    let after = (step r line out).book in
    put_in buys after (side_counted buys after (step_sound r line out (accepted_sound r line out accepted)))

-- ── Refused or accepted ──

-- what is left of the whole book's answer with that side taken out
abbrev pub without_side : Bool → Returned → Lent
without_side buys s = record {
  refusal = s.refusal;
  length = s.length;
  book = with_places buys no_places s.book;
  table = (side_of buys s.book).places;
  out = s.out;
}

-- where that side was empty, it is what is handed back of a refusal too
pub apart_is_lem : (buys : Bool) (r : BookRecord) (table : List Resting) (line out : List ℕ) → is_empty (side_of buys r) ≡ true
    → let s = step (with_places buys (places_lent table) r) line out in
    taken_apart buys r table s ≡ without_side buys s
apart_is_lem buys r table line out empty =
    let whole = with_places buys (places_lent table) r in
    let s = step whole line out in
    ⊎_elim
    (λ (t : eqb s.refusal 0 ≡ true). rw t refl)
    (λ (t : eqb s.refusal 0 ≡ false).
    let same = refused_same whole line out (eqb-false s.refusal 0 t) in
    rw (t, same, taken_back buys r (places_lent table) empty, side_put_in buys r (places_lent table)) refl)
    (holds_or_not (eqb s.refusal 0))

-- and put in again it makes the book that the whole book leaves
pub together_is : (buys : Bool) (r : BookRecord) (line out : List ℕ) → Counted (side_of buys r)
    → let s = step r line out in
    let l = taken_apart buys (with_places buys no_places r) (side_of buys r).places s in
    with_places buys (places_lent l.table) l.book ≡ s.book
together_is buys r line out counted =
    let s = step r line out in
    ⊎_elim
    (λ (t : eqb s.refusal 0 ≡ true). rw t (accepted_again buys r line out (eqb-true s.refusal 0 t)))
    (λ (t : eqb s.refusal 0 ≡ false). rw t (put_in buys r counted ∙ sym (refused_same r line out (eqb-false s.refusal 0 t))))
    (holds_or_not (eqb s.refusal 0))
