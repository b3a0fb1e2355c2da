-- Every execution is at the price at which the resting order was last told to stand, or under a lock half a cent from it (02, W6), and the
-- price of the execution is fair: within the incoming limit and, unless the order is an ISO, the away quote then held. Assumes nothing.
use Prim.Native.Nat.{ℕ, ◌<◌}
use mathlib.Core.Bool.{Bool, true, false, not}
use mathlib.Core.List.{List, [], ◌∷◌, ◌++◌, append_assoc, append-nil}
use mathlib.Core.Logic.{◌≢◌}
use mathlib.Core.Path.{◌≡◌, refl, sym, ap, ◌∙◌, subst, subst₂}
use lib.Dec.{eqb}
use native.Mathlib.Omega.{arith}
use borrow.Author.Tests.{eq-eqb, ne_eqb, eqb-true}
use Rattle.std.specs.Prelude.{if◌then◌else◌, Some, None}
use Rattle.basics.specs.Lists.{gathered, All, none, also, OneOf, first, later}
use Rattle.basics.proofs.LawsChoice.{by_choice}
use Rattle.basics.proofs.LawsLists.{all_alike, all_both, one_of_all, each_there, gathered_all}
use Rattle.kinds.specs.Kinds.{half_cents}
use Rattle.kinds.specs.declared.HalfCents.{HalfCents}
use Rattle.kinds.specs.declared.Number.{Number}
use Rattle.kinds.specs.declared.Shares.{Shares}
use Rattle.rules.specs.declared.Body.{Body}
use Rattle.rules.specs.declared.Body.TheVariants as body
use Rattle.rules.specs.declared.Command.{Command}
use Rattle.rules.specs.declared.Ending.{Ending}
use Rattle.rules.specs.declared.Ending.TheVariants.{Filled, Rests, Cancels}
use Rattle.rules.specs.declared.Event.{Event}
use Rattle.rules.specs.declared.Event.TheVariants.{Executed}
use Rattle.rules.specs.declared.Order.{Order}
use Rattle.rules.specs.declared.Resting.{Resting}
use Rattle.rules.specs.Book.{Book, fresh, sound}
use Rattle.rules.specs.CommandLines.{command_in}
use Rattle.rules.specs.Commands.{does}
use Rattle.rules.specs.Day.{printed, book_after, printed_of}
use Rattle.rules.specs.Settling as settling
use Rattle.rules.specs.declared.Fate.{Fate}
use Rattle.rules.specs.declared.Fate.TheVariants.{Stays, IsCancelled, IsSet}
use Rattle.rules.specs.Settling.{told, own_side, opposite_side}
use Rattle.rules.specs.Step.{answer_to}
use Rattle.rules.specs.Holdings.{Holding, holdings, executions, reduced_by, after}
use Rattle.rules.specs.Working.{buying, met_by, execution_price, takings, remainder, ending, last_line, refill_fate}
use Rattle.rules.proofs.LawsCommands.{fate_by, IfSet, SameOrder, set_same, never_set, order_does, does_tells}
use Rattle.rules.proofs.LawsFloors.{refill_same}
use Rattle.rules.proofs.LawsWalkOrder.{after_are}
use Rattle.soundness.proofs.LawsKept.{answer_sound, fresh_sound, after_sound}
use Rattle.soundness.proofs.LawsSides.{sides_of}
use Rattle.soundness.proofs.LawsSound.{Sound, sound_is}
use Rattle.demands.specs.Beyond.{price_told, last_told, stands_at, WhereTold}
use Rattle.demands.specs.Once.{acts}
use Rattle.demands.specs.Run.{events_of}
use Rattle.demands.specs.ShareOut.{Fair}
use Rattle.demands.specs.Told.{events_in}
use Rattle.demands.proofs.LawsFairly.{every_execution, Fairly, order_fairly}
use Rattle.demands.proofs.LawsLinesTell.{once_each, once_first, once_rest, opposite_once}
use Rattle.demands.proofs.LawsOrigins.{Comes, stayed, anew, rests, opposite_own, does_comes, one_number, other_number, another_number, after_line}
use Rattle.demands.proofs.LawsRun.{run_read}
use Rattle.demands.proofs.LawsTold.{line_told}

-- ── Where events tell an order to stand ──

-- an event tells nothing of where the order of a number stands
abbrev Quiet : Number → Event → Type 0
Quiet n e = (before : HalfCents) → price_told n e before ≡ before

-- an event leaves the order of a number at a price
abbrev Leaves : Number → HalfCents → Event → Type 0
Leaves n price e = price_told n e price ≡ price

-- after such events it stands where it stood, and of two runs of events the second goes on from the first
quiet_told : (n : Number) (before : HalfCents) {es : List Event} → All (Quiet n) es → last_told n before es ≡ before
unfolding last_told
quiet_told n before none = refl
quiet_told n before (also {x = e} q a) = rw (q before) (quiet_told n before a)

-- .. and so after events of which each leaves it where it stands
leaves_told : (n : Number) (price : HalfCents) {es : List Event} → All (Leaves n price) es → last_told n price es ≡ price
unfolding last_told
leaves_told n price none = refl
leaves_told n price (also {x = e} q a) = rw q (leaves_told n price a)

told_append : (n : Number) (before : HalfCents) (es fs : List Event) → last_told n before (es ++ fs) ≡ last_told n (last_told n before es) fs
unfolding last_told
told_append n before [] fs = refl
told_append n before (e ∷ es) fs = told_append n (price_told n e before) es fs

-- what is told of a number, and of another one
told_same : (n : Number) (price before : HalfCents) → (if eqb n.0 n.0 then price else before) ≡ price
told_same n price before = rw (eq-eqb n.0 n.0 refl) refl

told_other : (n m : Number) (price before : HalfCents) → n.0 ≢ m.0 → (if eqb n.0 m.0 then price else before) ≡ before
told_other n m price before d = rw (ne_eqb n.0 m.0 d) refl

-- executions tell no price
executions_quiet : (n m : Number) (price : Resting → HalfCents) (s : List Holding) (ts : List ℕ) → All (Quiet n) (executions m price s ts)
executions_quiet n m price s ts = every_execution m price (λ h t before. refl) s ts

-- the last line of an order tells no price of another
last_quiet : (n m : Number) (left : ℕ) (e : Ending) → n.0 ≢ m.0 → All (Quiet n) (last_line m left e)
last_quiet n m left Filled d = none
last_quiet n m left (Rests price) d = also (λ before. told_other n m price before d) none
last_quiet n m left (Cancels reason) d = also (λ before. refl) none

-- .. and its own where it comes to rest
last_told_lem : (n : Number) (left : ℕ) (e : Ending) (price : HalfCents) → e ≡ Rests price → (before : HalfCents)
    → last_told n before (last_line n left e) ≡ price
unfolding last_told
last_told_lem n left e price i before = rw i (told_same n price before)

-- fates that set no order anew as another one
module _ (fate : Resting → Fate) (same : (h : Resting) → IfSet (SameOrder h) (fate h)) where
  -- they tell no price of a number, if whoever has it stays
  told_quiet : (n : Number) {s : List Resting} → All (λ (y : Resting). n.0 ≡ y.number.0 → fate y ≡ Stays) s → All (Quiet n) (told fate s)
  unfolding told
  told_quiet n a = gathered_all (λ (y : Resting). settling.told_by (fate y) y) (all_alike (λ y alone. by_fate y (fate y) alone (same y)) a)
    where
      by_fate : (y : Resting) (f : Fate) → (n.0 ≡ y.number.0 → f ≡ Stays) → IfSet (SameOrder y) f → All (Quiet n) (settling.told_by f y)
      by_fate y Stays alone i = none
      by_fate y (IsCancelled reason) alone i = also (λ before. refl) none
      by_fate y (IsSet new) alone i =
          let other : n.0 ≢ new.number.0 = λ e. never_set (sym (alone (e ∙ ap (λ (m : Number). m.0) i.number))) in
          also (λ before. told_other n new.number new.price before other) none

  -- whoever is set anew is told to stand at the new price
  set_told : (h new : Resting) → fate h ≡ IsSet new → {s : List Resting} → once_each s ≡ true → OneOf h s → (before : HalfCents)
      → last_told h.number before (told fate s) ≡ new.price
  unfolding told gathered last_told
  set_told h new e d (first {s = s}) before =
      let number = (subst (IfSet (SameOrder h)) e (same h)).number in
      let quiet = told_quiet h.number (all_alike (λ y other is. absurd (other is)) (once_first h s d)) in
      rw (e, number, told_same h.number new.price before) (quiet_told h.number new.price quiet)
  set_told h new e d (later {y = y} {s = s} p) before =
      let lines = settling.told_by (fate y) y in
      told_append h.number before lines (told fate s) ∙ set_told h new e (once_rest y s d) p (last_told h.number before lines)

-- ── A command keeps what events told ──

-- each resting order of a book stands where it was last told to
abbrev StandAsTold : List Event → Book → Type 0
StandAsTold es b = (buy : Bool) → All (λ (h : Resting). stands_at h.number es ≡ h.price) (own_side buy b)

module _ (b : Book) (is_sound : Sound b) (n : Number) (next : b.held.last.0 < n.0) (time : ℕ) where
  -- whoever is left by an order on the opposite side has the number and the price of one that stood there
  left_stood : {P : Resting → Type 0} (o : Order) → ((g : Resting) → OneOf g (own_side (not (buying o)) b) → (x : Resting) → x.number ≡ g.number
      → x.price ≡ g.price → P x) → All P (after (opposite_side (buying o) b) (takings o (met_by o b)))
  left_stood o f =
      after_are o (met_by o b)
      (λ g t r p gives kept. f g (subst (OneOf g) (opposite_own (buying o) b) p) (reduced_by t r g) refl refl)

  -- events leave one that stays where it stands; if an order refills it, they tell its price once more
  stays_left : (buy : Bool) (h : Resting) → OneOf h (own_side buy b) → (c : Body) → fate_by c buy h ≡ Stays
      → All (Leaves h.number h.price) (does n time c b).events
  unfolding told
  stays_left buy h p = does_tells n time b (λ (c : Body) (es : List Event). fate_by c buy h ≡ Stays → All (Leaves h.number h.price) es) order_leaves both_leave
    where
      quiet_leaves : {es : List Event} → All (Quiet h.number) es → All (Leaves h.number h.price) es
      quiet_leaves a = all_alike (λ e quiet. quiet h.price) a

      refill_leaves : (x : Resting) → (h.number.0 ≡ x.number.0 → x.price ≡ h.price) → All (Leaves h.number h.price) (settling.told_by (refill_fate x) x)
      refill_leaves x same =
          by_choice (λ (f : Fate). All (Leaves h.number h.price) (settling.told_by f x)) (eqb x.shares.0 0)
          (λ t. also
          (by_choice (λ (price : HalfCents). price ≡ h.price) (eqb h.number.0 x.number.0)
          (λ e. same (eqb-true h.number.0 x.number.0 e)) (λ e. refl)) none)
          (λ t. none)

      order_leaves : (o : Order) → fate_by (body.Order o) buy h ≡ Stays → All (Leaves h.number h.price) (does n time (body.Order o) b).events
      order_leaves o alone =
          let met = met_by o b in
          let hs = holdings met.opposite in
          let last = last_quiet h.number n (remainder o met) (ending o met) (another_number b is_sound n next buy p) in
          let refills = gathered_all (λ (x : Resting). settling.told_by (refill_fate x) x)
          (all_alike refill_leaves
          (left_stood o (λ g q x number price is. price ∙ ap (λ (y : Resting). y.price)
          (sym (one_number b is_sound buy (not (buying o)) p q (is ∙ ap (λ (m : Number). m.0) number)).1)))) in
          rw (order_does n time b o).1
          (all_both (quiet_leaves (all_both (executions_quiet h.number n (execution_price o met) hs (takings o met)) last)) refills)

      side_quiet : (c : Body) → fate_by c buy h ≡ Stays → (side : Bool) → All (Quiet h.number) (told (fate_by c side) (own_side side b))
      side_quiet c alone side =
          told_quiet (fate_by c side) (set_same c side) h.number
          (all_alike
          (λ y q e.
          let same = one_number b is_sound buy side p q e in
          subst₂ (λ (s : Bool) (z : Resting). fate_by c s z ≡ Stays) same.0 same.1 alone) (each_there (own_side side b)))

      both_leave : (c : Body) → fate_by c buy h ≡ Stays → All (Leaves h.number h.price) (told (fate_by c true) b.buys ++ told (fate_by c false) b.sells)
      both_leave c alone = quiet_leaves (all_both (side_quiet c alone true) (side_quiet c alone false))

  -- one that is set anew is told its new price, whatever was told of it before
  anew_told : (buy : Bool) (h new : Resting) → OneOf h (own_side buy b) → (before : HalfCents) (c : Body) → fate_by c buy h ≡ IsSet new
      → last_told h.number before (does n time c b).events ≡ new.price
  anew_told buy h new p before =
      does_tells n time b (λ (c : Body) (es : List Event). fate_by c buy h ≡ IsSet new → last_told h.number before es ≡ new.price)
      (λ o e. never_set e) (λ c e. by_side c buy p e)
    where
      by_side : (c : Body) (buy : Bool) → OneOf h (own_side buy b) → fate_by c buy h ≡ IsSet new
          → last_told h.number before (told (fate_by c true) b.buys ++ told (fate_by c false) b.sells) ≡ new.price
      by_side c true p e =
          let buys = told (fate_by c true) b.buys in
          told_append h.number before buys (told (fate_by c false) b.sells)
          ∙ quiet_told h.number (last_told h.number before buys)
          (told_quiet (fate_by c false) (set_same c false) h.number
          (all_alike (λ y q is. absurd (other_number b.sells is_sound.once p q is)) (each_there b.sells)))
          ∙ set_told (fate_by c true) (set_same c true) h new e (opposite_once (sides_of false b is_sound)) p before
      by_side c false p e =
          let buys = told (fate_by c true) b.buys in
          told_append h.number before buys (told (fate_by c false) b.sells)
          ∙ set_told (fate_by c false) (set_same c false) h new e (opposite_once (sides_of true b is_sound)) p (last_told h.number before buys)

  -- and one that comes to rest is told where
  rested_told : (o : Order) (price : HalfCents) → ending o (met_by o b) ≡ Rests price → (before : HalfCents)
      → last_told n before (does n time (body.Order o) b).events ≡ price
  rested_told o price e before =
      let met = met_by o b in
      let ts = takings o met in
      let left = remainder o met in
      let es = executions n (execution_price o met) (holdings met.opposite) ts in
      let last = last_line n left (ending o met) in
      let refills = told refill_fate (after met.opposite ts) in
      let quiet : All (Quiet n) refills =
      told_quiet refill_fate refill_same n
      (left_stood o (λ g q x number at is.
      absurd (another_number b is_sound n next (not (buying o)) q (sym (is ∙ ap (λ (m : Number). m.0) number))))) in
      rw (order_does n time b o).1
      (told_append n before (es ++ last) refills
      ∙ quiet_told n (last_told n before (es ++ last)) quiet
      ∙ told_append n before es last
      ∙ last_told_lem n left (ending o met) price e (last_told n before es))

  -- so each that stands afterwards stands where it was last told to
  comes_told : (es : List Event) → StandAsTold es b → (c : Body) (buy : Bool) (x : Resting) → Comes b n buy x c
      → stands_at x.number (es ++ (does n time c b).events) ≡ x.price
  comes_told es stand c buy x (stayed h p a i e) =
      rw (i, e)
      (told_append h.number (half_cents 0) es (does n time c b).events
      ∙ ap (λ (price : HalfCents). last_told h.number price (does n time c b).events) (one_of_all (stand buy) p)
      ∙ leaves_told h.number h.price (stays_left buy h p c a))
  comes_told es stand c buy x (anew h new p a i e) =
      rw (i, e) (told_append h.number (half_cents 0) es (does n time c b).events ∙ anew_told buy h new p (stands_at h.number es) c a)
  comes_told es stand (body.Order o) buy x (rests t e i) =
      rw i
      (told_append n (half_cents 0) es (does n time (body.Order o) b).events
      ∙ rested_told o x.price e (stands_at n es))

  -- a command keeps it
  does_told : (es : List Event) → StandAsTold es b → (c : Body) → StandAsTold (es ++ (does n time c b).events) (does n time c b).book
  does_told es stand c buy = all_alike (comes_told es stand c buy) (does_comes b is_sound n time c buy)

-- ── A run of lines ──

-- so does a line
line_stands : (b : Book) (line : List ℕ) (es : List Event) → sound b ≡ true → StandAsTold es b
    → StandAsTold (es ++ (answer_to b line).events) (answer_to b line).book
line_stands b line es s stand =
    after_line (λ (book : Book) (events : List Event). StandAsTold (es ++ events) book) b line
    (λ t. subst (λ (fs : List Event). StandAsTold fs b) (sym (append-nil es)) stand)
    (λ c t e order. does_told b (sound_is b s) c.number (omega (arith, order.next)) c.time es stand c.body)

-- over any run, each resting order stands where it was last told to
run_stands : (b : Book) (lines : List (List ℕ)) (es : List Event) → sound b ≡ true → StandAsTold es b
    → StandAsTold (es ++ events_of b lines) (book_after b lines)
unfolding events_of book_after
run_stands b [] es s stand = subst (λ (fs : List Event). StandAsTold fs b) (sym (append-nil es)) stand
run_stands b (line ∷ lines) es s stand =
    let a = answer_to b line in
    subst (λ (fs : List Event). StandAsTold fs (book_after a.book lines)) (append_assoc es a.events (events_of a.book lines))
    (run_stands a.book lines (es ++ a.events) (answer_sound b line s) (line_stands b line es s stand))

-- ── Executions are where the resting order was told to stand ──

-- of any sound book, and of events that told its orders where to stand
executes_where_told : (b : Book) (es : List Event) → sound b ≡ true → StandAsTold es b → (line : List ℕ) (c : Command) (o : Order)
    → acts b line ≡ true → command_in line ≡ Some c → c.body ≡ body.Order o
    → (incoming resting : Number) (price : HalfCents) (shares : Shares)
    → OneOf (Executed incoming resting price shares) (answer_to b line).events
    → (incoming ≡ c.number) × WhereTold o b es resting price × Fair o b.held.away price
executes_where_told b es s stand line c o t e f incoming resting price shares p =
    let x : Fairly o (met_by o b) c.number incoming resting price = one_of_all (order_fairly b line c o s t e f) p in
    let stands = one_of_all (opposite_told (buying o)) x.there in
    let told : WhereTold o b es resting price = record {
      whom = x.whom;
      there = x.there;
      is_resting = sym x.is_resting;
      standing = sym stands ∙ ap (λ (n : Number). stands_at n es) (sym x.is_resting);
      at_its_price = x.at_its_price;
    } in
    (x.is_incoming, told, x.is_fair)
  where
    opposite_told : (buy : Bool) → All (λ (h : Resting). stands_at h.number es ≡ h.price) (opposite_side buy b)
    opposite_told true = stand false
    opposite_told false = stand true

-- each execution of a day is at the price at which the resting order was last told to stand, or under a lock half a cent from it; and at a
-- fair price
pub executions_where_told : (before : List (List ℕ)) (line : List ℕ) (c : Command) (o : Order)
    → acts (book_after fresh before) line ≡ true → command_in line ≡ Some c → c.body ≡ body.Order o
    → (incoming resting : Number) (price : HalfCents) (shares : Shares)
    → OneOf (Executed incoming resting price shares) (events_in (printed (answer_to (book_after fresh before) line)))
    → (incoming ≡ c.number) × WhereTold o (book_after fresh before) (events_in (printed_of fresh before)) resting price
    × Fair o (book_after fresh before).held.away price
executions_where_told before line c o t e f incoming resting price shares p =
    let b = book_after fresh before in
    let s = after_sound fresh before fresh_sound in
    let stand : StandAsTold (events_in (printed_of fresh before)) b = rw (run_read before) (run_stands fresh before [] fresh_sound fresh_told) in
    executes_where_told b (events_in (printed_of fresh before)) s stand line c o t e f incoming resting price shares
    (subst (OneOf (Executed incoming resting price shares)) (line_told b line s) p)
  where
    fresh_told : StandAsTold [] fresh
    fresh_told true = none
    fresh_told false = none
