-- The tally agrees with demand 3: of a day's own lines it gives, for each accepted order, the executed and the cancelled shares of the
-- conserved sums, and nothing stops it. Assumes nothing.
use Prim.Native.Nat.{ℕ, ◌+◌, ◌≤◌}
use mathlib.Core.Bool.{true, false}
use mathlib.Core.List.{List, [], ◌∷◌, ◌++◌, append_assoc}
use mathlib.Core.Logic.{⊎_elim}
use mathlib.Core.Path.{◌≡◌, refl, sym, ap, ◌∙◌, subst}
use native.Mathlib.Omega.{arith}
use borrow.Author.Tests.{le-ltb}
use Rattle.basics.specs.Lists.{sum_of, All, none, also}
use Rattle.basics.proofs.LawsChoice.{holds_or_not}
use Rattle.basics.proofs.LawsLists.{sum_of_append}
use Rattle.kinds.specs.declared.Number.{Number}
use Rattle.kinds.specs.Kinds.{largest}
use Rattle.command_lines.specs.Pieces.{after_lines}
use Rattle.rules.specs.declared.Body.{Body}
use Rattle.rules.specs.declared.Body.TheVariants as body
use Rattle.rules.specs.declared.Command.{Command}
use Rattle.rules.specs.declared.Event.{Event}
use Rattle.rules.specs.declared.Order.{Order}
use Rattle.rules.specs.Book.{Book, fresh, sound}
use Rattle.rules.specs.CommandLines.{Fitting, form_of, numbers_of}
use Rattle.rules.specs.Day.{cut, unended_line, lines_in, printed, printed_of}
use Rattle.rules.specs.EventLines.{FitsEvent, event_form, event_numbers, event_line, event_lines, refusal_kind, refusal_form, refusal_line}
use Rattle.rules.specs.Step.{answer_to}
use Rattle.rules.proofs.LawsEventReading.{event_in_event_line, event_kind, refusal_kind_lem}
use Rattle.rules.proofs.LawsLines.{command_in_is}
use Rattle.soundness.proofs.LawsKept.{fresh_sound, answer_sound}
use Rattle.demands.specs.Once.{acts, by_line}
use Rattle.demands.specs.Run.{events_of, Enters, now, later}
use Rattle.demands.specs.Told.{events_in, executed_by, cancelled_by, executed_in, cancelled_in}
use Rattle.demands.proofs.LawsEventLines.{line_first}
use Rattle.demands.proofs.LawsOnce.{refused_events}
use Rattle.demands.proofs.LawsRun.{run_read}
use Rattle.demands.proofs.LawsSums.{conserved}
use Rattle.demands.proofs.LawsTold.{order_small, acting_fits}
use Rattle.std.specs.Prelude.{None}
use Rattle.tally.specs.declared.Tally.{Tally}
use Rattle.tally.specs.Tally.{none_counted, executed_shares, passed_over, added, going_on, turn, tally_of}
use Rattle.tally.proofs.LawsParties.{same_sums, line_two}

-- a tally that is going on, with these sums
pub record Has (t : Tally) (executed cancelled : ℕ) : Type 0 where
  pub executed_are : t.executed.0 ≡ executed
  pub cancelled_are : t.cancelled.0 ≡ cancelled
  pub going : t.stop ≡ None

-- ── One line ──

event_first : (e : Event) (rest : List ℕ) → lines_in (event_line e ++ rest) ≡ event_line e ∷ lines_in rest
unfolding event_line
event_first e rest = line_first (event_form e) (event_numbers e) rest

refusal_first : (code : ℕ) (rest : List ℕ) → lines_in (refusal_line code ++ rest) ≡ refusal_line code ∷ lines_in rest
unfolding refusal_line
refusal_first code rest = line_first refusal_form (refusal_kind ∷ code ∷ []) rest

module _ (n : Number) where
  event_turn : (t : Tally) (e : Event) → t.stop ≡ None → FitsEvent e → turn n t (event_line e) ≡ added (executed_shares n e) (cancelled_by n e) t
  unfolding turn going_on
  event_turn t e g f = rw (g, event_kind e f, event_in_event_line e f) refl

  refusal_turn : (t : Tally) (code : ℕ) → t.stop ≡ None → turn n t (refusal_line code) ≡ passed_over t
  unfolding turn going_on
  refusal_turn t code g = rw (g, refusal_kind_lem code) refl

  -- the sums grow by what an event adds
  added_has : (t : Tally) (x y p q : ℕ) → Has t x y → x + p ≤ largest → y + q ≤ largest → Has (added p q t) (x + p) (y + q)
  unfolding added
  added_has t x y p q h l m =
      let first : t.executed.0 + p ≤ largest = omega (arith, h.executed_are, l) in
      let second : t.cancelled.0 + q ≤ largest = omega (arith, h.cancelled_are, m) in
      rw (le-ltb largest (t.executed.0 + p) first, le-ltb largest (t.cancelled.0 + q) second)
      (record { executed_are = omega (arith, h.executed_are); cancelled_are = omega (arith, h.cancelled_are); going = h.going })

  -- ── Lines one after the other ──

  -- a tally from which the rest goes on
  record Then (from : Tally) (bytes rest : List ℕ) (x y : ℕ) : Type 0 where
    tally : Tally
    has : Has tally x y
    leads : after_lines (turn n) from (lines_in bytes) ≡ after_lines (turn n) tally (lines_in rest)

  -- sums that are the same
  has_same : {t : Tally} {x y : ℕ} (x' y' : ℕ) → x ≡ x' → y ≡ y' → Has t x y → Has t x' y'
  has_same x' y' e f h = record { executed_are = h.executed_are ∙ e; cancelled_are = h.cancelled_are ∙ f; going = h.going }

  has_led : {t u : Tally} {x y : ℕ} → t ≡ u → Has u x y → Has t x y
  has_led {x = x} {y = y} e h = subst (λ (v : Tally). Has v x y) (sym e) h

  -- the line of an event is the first of what it begins, and is counted
  line_leads : (t : Tally) (e : Event) (rest : List ℕ) → t.stop ≡ None → FitsEvent e
      → after_lines (turn n) t (lines_in (event_line e ++ rest)) ≡ after_lines (turn n) (added (executed_shares n e) (cancelled_by n e) t) (lines_in rest)
  unfolding after_lines
  line_leads t e rest g f =
      ap (after_lines (turn n) t) (event_first e rest) ∙ ap (λ (u : Tally). after_lines (turn n) u (lines_in rest)) (event_turn t e g f)

  events_then : {es : List Event} (rest : List ℕ) (t : Tally) (x y : ℕ) → All FitsEvent es → Has t x y
      → x + sum_of (executed_shares n) es ≤ largest → y + sum_of (cancelled_by n) es ≤ largest
      → Then t (event_lines es ++ rest) rest (x + sum_of (executed_shares n) es) (y + sum_of (cancelled_by n) es)
  unfolding event_lines sum_of
  events_then rest t x y none h l m = record { tally = t; has = has_same (x + 0) (y + 0) (omega arith) (omega arith) h; leads = refl }
  events_then rest t x y (also {x = e} {s = es} f a) h l m =
      let p = executed_shares n e in
      let q = cancelled_by n e in
      let next = added_has t x y p q h (omega (arith, l)) (omega (arith, m)) in
      let ih = events_then rest (added p q t) (x + p) (y + q) a next (omega (arith, l)) (omega (arith, m)) in
      record {
        tally = ih.tally;
        has = has_same (x + (p + sum_of (executed_shares n) es)) (y + (q + sum_of (cancelled_by n) es)) (omega arith) (omega arith) ih.has;
        leads =
            ap (λ (s : List ℕ). after_lines (turn n) t (lines_in s)) (append_assoc (event_line e) (event_lines es) rest)
            ∙ line_leads t e (event_lines es ++ rest) h.going f
            ∙ ih.leads;
      }

  -- what is printed of a line that acts
  module _ (b : Book) (l : List ℕ) (s : sound b ≡ true) where
    acts_then : (rest : List ℕ) (t : Tally) (x y : ℕ) → acts b l ≡ true → Has t x y
        → x + sum_of (executed_by n) (answer_to b l).events ≤ largest → y + sum_of (cancelled_by n) (answer_to b l).events ≤ largest
        → Then t (printed (answer_to b l) ++ rest) rest (x + sum_of (executed_by n) (answer_to b l).events) (y + sum_of (cancelled_by n) (answer_to b l).events)
    unfolding printed
    acts_then rest t x y a h p q =
        let same = same_sums n (line_two b l s a) in
        let u = events_then rest t x y (acting_fits b l s a) h (omega (arith, same, p)) q in
        rw a (record { tally = u.tally; has = has_same (x + sum_of (executed_by n) (answer_to b l).events) (y + sum_of (cancelled_by n) (answer_to b l).events) (omega (arith, same)) refl u.has; leads = u.leads })

    -- and of one that is refused
    refused_then : (rest : List ℕ) (t : Tally) (x y : ℕ) → acts b l ≡ false → Has t x y → Then t (printed (answer_to b l) ++ rest) rest x y
    unfolding printed after_lines
    refused_then rest t x y a h =
        let code = (answer_to b l).refusal in
        rw a (record {
          tally = passed_over t;
          has = record { executed_are = h.executed_are; cancelled_are = h.cancelled_are; going = h.going };
          leads = ap (after_lines (turn n) t) (refusal_first code rest) ∙ ap (λ (u : Tally). after_lines (turn n) u (lines_in rest)) (refusal_turn t code h.going);
        })

  -- ── A run of lines ──

  run_has : (b : Book) (ls : List (List ℕ)) → sound b ≡ true → (t : Tally) (x y : ℕ) → Has t x y
      → x + sum_of (executed_by n) (events_of b ls) ≤ largest → y + sum_of (cancelled_by n) (events_of b ls) ≤ largest
      → Has (after_lines (turn n) t (lines_in (printed_of b ls))) (x + sum_of (executed_by n) (events_of b ls)) (y + sum_of (cancelled_by n) (events_of b ls))
  unfolding printed_of events_of cut unended_line lines_in after_lines sum_of
  run_has b [] s t x y h p q = has_same (x + 0) (y + 0) (omega arith) (omega arith) h
  run_has b (l ∷ ls) s t x y h p q =
      let es = (answer_to b l).events in
      let more = events_of (answer_to b l).book ls in
      let rest = printed_of (answer_to b l).book ls in
      let xs = sum_of_append (executed_by n) es more in
      let ys = sum_of_append (cancelled_by n) es more in
      let p' : x + sum_of (executed_by n) (es ++ more) ≤ largest = p in
      let q' : y + sum_of (cancelled_by n) (es ++ more) ≤ largest = q in
      ⊎_elim
      (λ (k : acts b l ≡ true).
      let u = acts_then b l s rest t x y k h (omega (arith, p', xs)) (omega (arith, q', ys)) in
      let ih = run_has (answer_to b l).book ls (answer_sound b l s) u.tally (x + sum_of (executed_by n) es) (y + sum_of (cancelled_by n) es) u.has
      (omega (arith, p', xs)) (omega (arith, q', ys)) in
      has_led u.leads (has_same (x + sum_of (executed_by n) (es ++ more)) (y + sum_of (cancelled_by n) (es ++ more)) (omega (arith, xs)) (omega (arith, ys)) ih))
      (λ (k : acts b l ≡ false).
      let nothing : es ≡ [] = refused_events b l k in
      let u = refused_then b l s rest t x y k h in
      let x' : sum_of (executed_by n) es ≡ 0 = rw nothing refl in
      let y' : sum_of (cancelled_by n) es ≡ 0 = rw nothing refl in
      let ih = run_has (answer_to b l).book ls (answer_sound b l s) u.tally x y u.has
      (omega (arith, p', xs, x')) (omega (arith, q', ys, y')) in
      has_led u.leads (has_same (x + sum_of (executed_by n) (es ++ more)) (y + sum_of (cancelled_by n) (es ++ more)) (omega (arith, xs, x')) (omega (arith, ys, y')) ih))
      (holds_or_not (acts b l))

-- ── A day ──

-- an order that was read has shares that four bytes hold
shares_small : {b : Book} {lines : List (List ℕ)} {stood : Book} {l : List ℕ} {c : Command} {o : Order} → Enters by_line b lines stood l c o → o.shares.0 ≤ largest
shares_small (later r) = shares_small r
shares_small (now {x = l} {c = c} {o = o} t e f) =
    let fitting : Fitting (form_of (body.Order o)) (numbers_of (body.Order o)) =
    subst (λ (x : Body). Fitting (form_of x) (numbers_of x)) f (command_in_is l c e).fits_are.body in
    omega (arith, (order_small o.side o.word o.price.0 o.shares.0 o.carried fitting).1)

-- of a day from a fresh book the tally gives, for each accepted order, the sums of demand 3
pub tally_agrees : (lines : List (List ℕ)) (stood : Book) (l : List ℕ) (c : Command) (o : Order) → Enters by_line fresh lines stood l c o
    → Has (tally_of c.number (printed_of fresh lines)) (executed_in c.number (events_in (printed_of fresh lines))) (cancelled_in c.number (events_in (printed_of fresh lines)))
unfolding tally_of
tally_agrees lines stood l c o r =
    let n = c.number in
    let es = events_of fresh lines in
    let sum = conserved lines stood l c o r in
    let small = shares_small r in
    let begins : Has none_counted 0 0 = record { executed_are = refl; cancelled_are = refl; going = refl } in
    let has = run_has n fresh lines fresh_sound none_counted 0 0 begins (omega (arith, sum, small)) (omega (arith, sum, small)) in
    rw (run_read lines) (has_same n (executed_in n es) (cancelled_in n es) (omega arith) (omega arith) has)
